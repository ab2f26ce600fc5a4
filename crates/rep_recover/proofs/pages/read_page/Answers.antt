use Rattle.std.proofs.Common.{◌≡◌, ℕ, List, [], Some, inr, Result, IfErr, sym, subst, ◌∙◌, rules}
use Rattle.std.proofs.lemmas.Result.{err_from_is_err_and}
use Rattle.std.proofs.lemmas.Option.{same_Some}
use Rattle.rep_types.specs.declared.refusal.Refusal.{Refusal}
use Rattle.rep_types.specs.declared.refusal.Part.TheVariants.{Pages}
use Rattle.rep_types.proofs.Choices.{of_no_failure}
use Rattle.rep_disk.specs.History.{History, seen, failed}
use Rattle.rep_layout.specs.declared.super_body.SuperBody.{SuperBody}
use Rattle.rep_layout.specs.declared.place.Place.TheVariants.{Page}
use Rattle.rep_cells.specs.Device.{disk_of, layout_of}
use Rattle.rep_cells.specs.Readings.{reading_of}
use Rattle.rep_pages.specs.Pages.{IsPageBody}
use Rattle.rep_recover.specs.Looking.{RefusesPart, HasBadPage}
use Rattle.rep_recover.proofs.Choosing.{readable}
use Rattle.rep_recover.proofs.pages.read_page.Goals as goal

pub returns-in_err-check_body-clause-refused : goal.returns-in_err-check_body-clause-refused
returns-in_err-check_body-clause-refused g c =
    let l = layout_of c.args.cells.now in
    let disk = disk_of c.args.cells.now in
    let h : History = g.D.Disk.history disk in
    let r = reading_of l (seen h) in
    let b : SuperBody = c.args.superblock.now in
    let bytes : List ℕ = c.read_area.new.room in
    let e = c.in_err-check_body.ensures in
    let place = Page c.args.number c.in-In.slot in
    let P : Refusal → Type 0 = RefusesPart Pages (g.D.Disk.honest disk → failed h ≡ [] → HasBadPage r b) in
    let refuses : P c.in_err-check_body.field-0.0 = inr (
      e.refused,
      λ honest none.
          let shown : Some bytes ≡ r place = of_no_failure {P = _} c.read_area.result (sym c.is_err.ensures.value ∙ c.if-is_err.false) (c.read_area.ensures.read honest (readable l h place none)) in
          record {
            number = c.args.number;
            slot = c.in-In.slot;
            there = sym c.slot_of.ensures ∙ c.in-In.is;
            none = λ page.
                let body : page.body ≡ bytes = same_Some page.body bytes (sym page.shown ∙ sym shown) in
                let rows = subst (λ (rows : List ℕ). IsPageBody rows page.page bytes) (sym c.schema-schema.ensures) (subst (IsPageBody b.params.rows page.page) body page.is_page.is_page) in
                let read = e.only page.page rows page.is_page.is_it page.is_page.earlier in
                absurd cc;
          },
    ) in
    let err = err_from_is_err_and c.from_residual.result c.from_residual.ensures.1 in
    subst (λ (x : Result _ Refusal). IfErr x P) (sym err.1) (subst P (sym err.2) refuses)

pub returns-clause-found : goal.returns-clause-found
returns-clause-found g c = search rules
