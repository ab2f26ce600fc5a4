use Rattle.std.proofs.Common.{◌≡◌, true, false, ◌∙◌, arith}
use Rattle.rep_pages.specs.Slots.{state_of_page}
use Rattle.rep_catchup.specs.Donating.{is_in_slot}
use Rattle.rep_catchup.proofs.DonatePages.{count_next, is_held}
use Rattle.rep_catchup.proofs.donor.count_pages.Goals.{then-has_base_page, else-has_base_page}
use Rattle.rep_catchup.proofs.donor.count_pages.Goals as goal

pub loop-page-preserved : goal.loop-page-preserved
loop-page-preserved g c =
    let b = c.args.replica.now.engine.checkpoint.base in
    let held : is_in_slot (state_of_page b c.loop-page.page) ≡ c.has_base_page.result = is_held b c.loop-page.page c.from.result c.has_base_page.result c.has_base_page.ensures c.from.ensures in
    elim c.if-has_base_page.branch [
      | then-has_base_page w ↦
          let next = count_next b c.loop-page.page true (held ∙ w.if-has_base_page.true) in
          record { counted = omega (arith, next, w.count-is, c.loop-page.invariant.counted); few = omega (arith, w.count-is, c.loop-page.invariant.few) }
      | else-has_base_page w ↦
          let next = count_next b c.loop-page.page false (held ∙ w.if-has_base_page.false) in
          record { counted = omega (arith, next, w.count-is, c.loop-page.invariant.counted); few = omega (arith, w.count-is, c.loop-page.invariant.few) }
    ]
