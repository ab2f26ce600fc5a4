use Rattle.std.proofs.lemmas.Result.{IfOk-weaker}
use Rattle.rep_catchup.proofs.donor.donate.Goals as goal

pub returns-clause-donated : goal.returns-clause-donated
returns-clause-donated g c = λ n h. IfOk-weaker c.write_transfer.result _ _ (λ last d. (d.transfer, d.of_node n h, d.is_last, d.written)) c.write_transfer.ensures.donates

pub returns-clause-wrote : goal.returns-clause-wrote
returns-clause-wrote g c = IfOk-weaker c.write_transfer.result _ _ (λ last d. (d.transfer, d.parts, d.is_last, d.written)) c.write_transfer.ensures.donates

pub returns-clause-spelled : goal.returns-clause-spelled
returns-clause-spelled g c = λ h. record {
  given = IfOk-weaker c.write_transfer.result _ _ (λ last d. (d.transfer, d.parts, d.there h, d.is_last, d.written)) c.write_transfer.ensures.donates;
  corrupt = c.write_transfer.ensures.leaves.bad h;
}
