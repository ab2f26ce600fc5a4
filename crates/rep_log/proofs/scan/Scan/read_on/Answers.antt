use Rattle.std.proofs.Common.{ℕ, List, Option, option_map, Bor, subst, ap, ◌∙◌, inl, inr}
use Rattle.std.proofs.lemmas.Result.{IfErr-weaker, on_ok_weaker}
use Rattle.rep_disk.specs.History.{History, seen}
use Rattle.rep_layout.specs.declared.place.Layout.{Layout}
use Rattle.rep_layout.specs.Places.{log_of}
use Rattle.rep_cells.specs.Device.{disk_of, layout_of}
use Rattle.rep_cells.specs.Readings.{reading_of}
use Rattle.rep_record.specs.Replaying.{Rejected}
use Rattle.rep_log.specs.Scanning.{Visits, IsNoCell}
use Rattle.rep_log.proofs.Scanned.{all_readable}
use Rattle.rep_log.proofs.scan.Scan.read_on.Goals as goal

pub returns-clause-visited : goal.returns-clause-visited
returns-clause-visited g c =
    let l : Layout = layout_of c.args.cells.now in
    let h : History = g.D.Disk.history (disk_of c.args.cells.now) in
    let read : Option (List ℕ) = option_map (λ (body : Bor (List ℕ)). body.now) c.in-Ok.found in
    let place = c.log_of.ensures ∙ ap (λ (k : Layout). log_of k c.args.number) c.layout-layout.ensures in
    on_ok_weaker c.visit.result (λ v. record {
      cell = read;
      is_read = λ honest none. c.in-Ok.ensures.read honest (all_readable l h c.log_of.result none) ∙ ap (reading_of l (seen h)) place;
      records = v.0;
      visits = subst (λ (k : Layout). Visits k c.args.number read c.args.self.now c.visit.new.self v.0) c.layout-layout.ensures v.1;
      replayed = v.2;
    }) c.visit.ensures.visited

pub returns-clause-refused : goal.returns-clause-refused
returns-clause-refused g c =
    let l : Layout = layout_of c.args.cells.now in
    let h : History = g.D.Disk.history (disk_of c.args.cells.now) in
    let read : Option (List ℕ) = option_map (λ (body : Bor (List ℕ)). body.now) c.in-Ok.found in
    let place = c.log_of.ensures ∙ ap (λ (k : Layout). log_of k c.args.number) c.layout-layout.ensures in
    let Stops = Rejected g.S.Replays c.args.to.now in
    IfErr-weaker c.visit.result _ _ (λ e why. elim why [
      | inl memory ↦ inr (inl memory)
      | inr corrupt ↦ inr (inr (
        corrupt.0,
        λ honest none.
            let shown = c.in-Ok.ensures.read honest (all_readable l h c.log_of.result none) ∙ ap (reading_of l (seen h)) place in
            subst (λ (cell : Option (List ℕ)). IsNoCell Stops l c.args.number cell c.args.self.now) shown (subst (λ (k : Layout). IsNoCell Stops k c.args.number read c.args.self.now) c.layout-layout.ensures corrupt.1),
      ))
    ]) c.visit.ensures.refused
