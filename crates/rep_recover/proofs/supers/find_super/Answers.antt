use Rattle.std.proofs.Common.{◌≡◌, ℕ, Bool, [], IfSome, Option, option_map, sym, ap, subst, ◌∙◌}
use Rattle.rep_disk.specs.History.{History, seen, failed}
use Rattle.rep_layout.specs.declared.super_body.SuperBody.{SuperBody}
use Rattle.rep_layout.specs.declared.place.Side.TheVariants.{B}
use Rattle.rep_layout.specs.declared.place.Place.TheVariants.{Super}
use Rattle.rep_layout.specs.Supers.{super_bytes}
use Rattle.rep_cells.specs.Device.{disk_of, layout_of}
use Rattle.rep_cells.specs.Readings.{reading_of}
use Rattle.rep_engine.specs.Bases.{IsSuperAt}
use Rattle.rep_recover.specs.Looking.{Counts, HasNoSuper, HasBadSuper}
use Rattle.rep_recover.proofs.Choosing.{counts_both, none_open, if_chosen, if_none}
use Rattle.rep_recover.proofs.supers.find_super.Goals as goal
use Rattle.rep_recover.proofs.supers.find_super.Goals.{In_ok-b}

-- the second superblock is looked at behind the first, on a device that reads the same
shown_b :
    (g : _) (c : In_ok-b g) → g.D.Disk.honest (disk_of c.args.cells.now) → failed (g.D.Disk.history (disk_of c.args.cells.now)) ≡ []
    → reading_of (layout_of c.args.cells.now) (seen (g.D.Disk.history (disk_of c.args.cells.now))) (Super B) ≡ option_map super_bytes c.in_ok-b.b
shown_b g c honest none =
    let first = c.in_ok-a.ensures in
    let same = first.looks.same honest in
    ap (λ (x : History). reading_of (layout_of c.args.cells.now) (seen x) (Super B)) (sym same) ∙ c.in_ok-b.ensures.found (first.looks.call.stays_honest honest) (ap failed same ∙ none)

pub returns-clause-found : goal.returns-clause-found
returns-clause-found g c = λ honest none.
    let size = g.D.Disk.size (disk_of c.args.cells.now) in
    let r = reading_of (layout_of c.args.cells.now) (seen (g.D.Disk.history (disk_of c.args.cells.now))) in
    let first = c.in_ok-a.ensures in
    let form_b = subst (λ (n : ℕ). IfSome c.in_ok-b.b (IsSuperAt n B)) first.looks.call.same_size c.in_ok-b.ensures.form in
    let found = counts_both size r c.in_ok-a.a c.in_ok-b.b (first.found honest none) (shown_b g (goal.at.returns-clause-found g c).In_ok-b honest none) first.form form_b in
    if_chosen size r c.choose.result c.ok_or.result c.ok_or.ensures.ok_part (subst (λ (o : Option (SuperBody × Bool)). IfSome o (λ x. Counts size r x.0 x.1)) (sym c.choose.ensures) found)

pub returns-clause-refused : goal.returns-clause-refused
returns-clause-refused g c =
    let disk = disk_of c.args.cells.now in
    let h : History = g.D.Disk.history disk in
    let r = reading_of (layout_of c.args.cells.now) (seen h) in
    if_none (g.D.Disk.honest disk → failed h ≡ [] → HasNoSuper r) (g.D.Disk.honest disk → failed h ≡ [] → HasBadSuper (g.D.Disk.size disk) r) c.choose.result c.ok_or.result c.ok_or.ensures.value
    (λ not honest none. none_open r c.in_ok-a.a c.in_ok-b.b (c.in_ok-a.ensures.found honest none) (shown_b g (goal.at.returns-clause-refused g c).In_ok-b honest none) (sym c.choose.ensures ∙ not))
