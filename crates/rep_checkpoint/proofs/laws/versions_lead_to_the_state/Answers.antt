use Rattle.rep_checkpoint.proofs.Rows.{are_behind, are_at}
use Rattle.rep_checkpoint.proofs.Touched.{are_touched}
use Rattle.rep_checkpoint.proofs.laws.versions_lead_to_the_state.Goals as goal

pub returns : goal.returns
returns c = λ n kept past judged outside versions. record {
  behind = are_behind n.base.position n.items kept versions;
  rows = are_at c.versions_follow_the_items.ensures n kept past (c.judging_goes_on.ensures.judged_front n.facts.setting n.base past n.items judged) outside versions;
  pages = are_touched n.facts.setting c.row_places_are_told.ensures n.base n.base.position n.items kept past judged versions;
}
