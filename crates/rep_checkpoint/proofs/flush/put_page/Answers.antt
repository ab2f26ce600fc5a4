use Rattle.std.proofs.Common.{sym, subst, List, ℕ, Result}
use Rattle.rep_disk.specs.declared.disk.DiskFault.{DiskFault as Fault}
use Rattle.rep_layout.specs.declared.place.Slot.{Slot}
use Rattle.rep_layout.specs.declared.place.Place.TheVariants.{Page}
use Rattle.rep_layout.specs.Places.{offset_of}
use Rattle.rep_cells.specs.Device.{disk_of, layout_of}
use Rattle.rep_cells.specs.States.{writing}
use Rattle.rep_cells.specs.Calls.{WritesOnly, WritesIn, StepsAt}
use Rattle.rep_pages.specs.Slots.{state_of_page, spare_slot}
use Rattle.rep_pages.specs.Pages.{IsPageBody}
use Rattle.rep_checkpoint.proofs.flush.put_page.Goals as goal

pub returns-clause-puts : goal.returns-clause-puts
returns-clause-puts g c =
    let l = layout_of c.args.cells.now in
    let number = c.args.page.now.number in
    let old = disk_of c.args.cells.now in
    let new = disk_of c.write_area.new.self in
    let spare : Slot = spare_slot (state_of_page c.args.base.now number) in
    let slot = c.spare_of-slot.ensures.slot in
    let bytes = c.as_slice.ensures.value in
    record {
      bytes = c.in-Some.body.items;
      is_page = subst (λ rows. IsPageBody rows c.args.page.now c.in-Some.body.items) c.schema.ensures c.in-Some.ensures.bytes;
      size = c.in-Some.ensures.size;
      written = subst (λ (r : Result (Unit {0}) Fault). WritesOnly g.D.Disk (offset_of l (Page number spare)) c.in-Some.body.items old new r) (sym c.refusal_of.ensures.fault)
          (subst (λ (sl : Slot). WritesOnly g.D.Disk (offset_of l (Page number sl)) c.in-Some.body.items old new c.write_area.result) slot
          (subst (λ (b : List ℕ). WritesOnly g.D.Disk (offset_of l (Page number c.spare_of-slot.result)) b old new c.write_area.result) bytes c.write_area.ensures.written));
      inside = subst (λ (r : Result (Unit {0}) Fault). WritesIn g.D.Disk l (Page number spare) old new r) (sym c.refusal_of.ensures.fault)
          (subst (λ (sl : Slot). WritesIn g.D.Disk l (Page number sl) old new c.write_area.result) slot c.write_area.ensures.inside);
      states = subst (λ (r : Result (Unit {0}) Fault). StepsAt g.D.Disk l (Page number spare) (writing c.in-Some.body.items) old new r) (sym c.refusal_of.ensures.fault)
          (subst (λ (sl : Slot). StepsAt g.D.Disk l (Page number sl) (writing c.in-Some.body.items) old new c.write_area.result) slot
          (subst (λ (b : List ℕ). StepsAt g.D.Disk l (Page number c.spare_of-slot.result) (writing b) old new c.write_area.result) bytes c.write_area.ensures.states));
    }
