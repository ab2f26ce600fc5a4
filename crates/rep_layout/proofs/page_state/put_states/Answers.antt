use Rattle.std.proofs.Common.{arith, append_assoc, length-append}
use Rattle.std.proofs.lemmas.List.{append-nil}
use Rattle.rep_forms.specs.FormLaws.{run_more}
use Rattle.rep_layout.specs.PageStates.{fours}
use Rattle.rep_layout.proofs.Fours.{fours_more}
use Rattle.rep_layout.proofs.page_state.put_states.Goals as goal

pub loop-i-init : goal.loop-i-init
unfolding fours
loop-i-init g c = grind (arith, append-nil)

pub loop-i-preserved : goal.loop-i-preserved
loop-i-preserved g c = grind (arith, append_assoc, length-append, run_more, fours_more c.loop-i.i c.args.states.now)
