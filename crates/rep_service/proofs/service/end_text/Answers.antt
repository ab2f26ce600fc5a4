use Rattle.std.proofs.Common.{[], ◌∙◌, Ok, Err, inr, ap, rules}
use Rattle.rep_types.specs.Windows.{Window}
use Rattle.rep_types.specs.declared.refusal.Refusal.TheVariants.{Malformed}
use Rattle.rep_service.specs.Saying.{receipts_said}
use Rattle.rep_service.proofs.Saying.{own_by}
use Rattle.rep_service.proofs.Own.{own_told}
use Rattle.rep_service.proofs.Lives.{lives_none, lives_goes, lives_as}
use Rattle.rep_service.proofs.Ordered.{window_is}
use Rattle.rep_service.proofs.Closing.{closes}
use Rattle.rep_service.proofs.service.end_text.Goals as goal

pub returns-then-not-is_empty-clause-lives : goal.returns-then-not-is_empty-clause-lives
returns-then-not-is_empty-clause-lives g c = λ rests. ([], lives_none g.D.Disk c.parts_are_joined.ensures c.args.replica.now _ (Err (Malformed c.next_number.result)), tt)

pub returns-in-Err-clause-lives : goal.returns-in-Err-clause-lives
returns-in-Err-clause-lives g c = λ rests. (let tells = c.in-Err.ensures.tells (inr rests) in (receipts_said tells.goes.receipts, lives_goes g.D.Disk c.parts_are_joined.ensures c.args.replica.now c.finish.new.replica [] _ _ _ _ (Err c.in-Err.refusal) tells.goes, tt))

pub returns-in-Ok-clause-lives : goal.returns-in-Ok-clause-lives
returns-in-Ok-clause-lives g c = λ rests.
    let tells = c.in_default.ensures.tells (inr rests) in
    let lives = lives_goes g.D.Disk c.parts_are_joined.ensures c.args.replica.now c.finish.new.replica [] _ _ _ _ (Ok tt) tells.goes in
    closes g.D.Disk c.parts_are_joined.ensures c.args.replica.now c.finish.new.replica _ _ _ tells.goes.receipts c.write_state.result lives (window_is g.D.Disk c.nodes_hold_the_order.ensures c.finish.new.replica c.in-Ok.window c.in-Ok.ensures.window c.in-Ok.ensures.node) c.entries.result.now (c.entries.ensures ∙ ap (λ (v : Window). v.entries) c.in-Ok.ensures.window) c.write_state.ensures.told c.write_state.ensures.refused

pub returns-in-Err-window-clause-lives : goal.returns-in-Err-window-clause-lives
returns-in-Err-window-clause-lives g c = λ rests. (let tells = c.in_default.ensures.tells (inr rests) in (receipts_said tells.goes.receipts, lives_as g.D.Disk c.args.replica.now c.finish.new.replica [] (receipts_said tells.goes.receipts) _ _ (Err c.in-Err-window.refusal) (lives_goes g.D.Disk c.parts_are_joined.ensures c.args.replica.now c.finish.new.replica [] _ _ _ _ (Ok tt) tells.goes), tt))

pub returns-in-Err-clause-own : goal.returns-in-Err-clause-own
returns-in-Err-clause-own g c = own_by c.in-Err.refusal (own_told g.D.Disk c.finish.new.replica c.in-Err.refusal c.in-Err.ensures.refused)

pub returns-in-Err-clause-ends : goal.returns-in-Err-clause-ends
returns-in-Err-clause-ends g c = search rules
