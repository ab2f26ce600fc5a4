use Rattle.std.proofs.Common.{◌≡◌, ℕ, List, [], option_map, Bor, inr, Result, IfErr, sym, ap, subst, ◌∙◌}
use Rattle.std.proofs.lemmas.Result.{err_from_is_err_and}
use Rattle.rep_types.specs.declared.refusal.Refusal.{Refusal}
use Rattle.rep_types.specs.declared.refusal.Part.TheVariants.{Superblock}
use Rattle.rep_disk.specs.History.{seen, failed}
use Rattle.rep_layout.specs.declared.place.Place.TheVariants.{Super}
use Rattle.rep_cells.specs.Device.{disk_of, layout_of}
use Rattle.rep_cells.specs.Readings.{reading_of}
use Rattle.rep_recover.specs.Looking.{IsNoSuper, HasBadSuper, RefusesPart}
use Rattle.rep_recover.proofs.Choosing.{readable}
use Rattle.rep_recover.proofs.supers.read_super.Goals as goal

pub returns-in_err-superblock-clause-refused : goal.returns-in_err-superblock-clause-refused
returns-in_err-superblock-clause-refused g c =
    let l = layout_of c.args.cells.now in
    let disk = disk_of c.args.cells.now in
    let h = g.D.Disk.history disk in
    let why = c.in_err-superblock.ensures.refused in
    let size = c.size-size.ensures ∙ ap g.D.Disk.size c.disk.ensures in
    let P : Refusal → Type 0 = RefusesPart Superblock (g.D.Disk.honest disk → failed h ≡ [] → HasBadSuper (g.D.Disk.size disk) (reading_of l (seen h))) in
    let refuses : P c.in_err-superblock.field-0.0 = inr (
      why.0,
      λ honest none. record {
        side = c.args.side;
        body = c.in-Some.bytes.now;
        shown = sym (c.in-Ok.ensures.read honest (readable l h (Super c.args.side) none)) ∙ ap (option_map (λ (b : Bor (List ℕ)). b.now)) c.in-Some.is;
        none = subst (λ (n : ℕ). IsNoSuper n c.args.side c.in-Some.bytes.now) size why.1;
      },
    ) in
    let err = err_from_is_err_and c.from_residual.result c.from_residual.ensures.1 in
    subst (λ (r : Result _ Refusal). IfErr r P) (sym err.1) (subst P (sym err.2) refuses)
