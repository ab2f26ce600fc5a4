use Rattle.std.proofs.Common.{◌≡◌, ℕ, ◌<◌, ◌≤◌, List, length, Ok, inl, inr, refl, sym, ap, subst, ◌∙◌, arith}
use Rattle.std.proofs.lemmas.Bool.{cases_lt, false≢true}
use Rattle.rep_types.specs.declared.judged.Judged.{Judged}
use Rattle.rep_disk.specs.History.{History, Synced, seen, stable, failed}
use Rattle.rep_layout.specs.declared.super_body.SuperBody.{SuperBody}
use Rattle.rep_layout.specs.declared.place.Layout.{Layout}
use Rattle.rep_layout.specs.Places.{side_of, need_of}
use Rattle.rep_cells.specs.Device.{disk_of, layout_of}
use Rattle.rep_cells.specs.Readings.{Reading, reading_of}
use Rattle.rep_engine.specs.Bases.{IsSuperAt}
use Rattle.rep_recover.specs.Looking.{Counts, HasBadSuper, HasNoSuper}
use Rattle.rep_recover.specs.Opening.{without_log, IsOpened, Recovers}
use Rattle.rep_disk.specs.Devices.{Calls}
use Rattle.rep_recover.proofs.Going.{calls}
use Rattle.rep_recover.proofs.Opening.{opened_from, recovers_from, refused_behind, refused_supers}
use Rattle.rep_recover.proofs.open.read_disk.Goals as goal
use Rattle.rep_recover.proofs.open.read_disk.Goals.{After-relaid-cells}

pub returns-in-Err-clause-refused : goal.returns-in-Err-clause-refused
returns-in-Err-clause-refused g c =
    let h : History = g.D.Disk.history c.args.disk in
    inr (inr (
      tt,
      λ honest.
          let sized : length (stable h) ≡ g.D.Disk.size c.args.disk = g.met.D.Disk.sized c.args.disk honest in
          let law = c.images_of_a_moment.ensures in
          let long : length (stable h) ≡ length (seen h) = law.same_size h (stable h) (law.stable_is_one h) in
          let small : g.D.Disk.size c.args.disk < need_of without_log = c.in-Err.ensures.small.0 refl in
          inl (omega (arith, sized, long, small)),
    ))

pub returns-in-Err-find_synced-clause-refused : goal.returns-in-Err-find_synced-clause-refused
returns-in-Err-find_synced-clause-refused g c =
    let disk = disk_of c.in-Ok.cells in
    let h : History = g.D.Disk.history c.args.disk in
    let same = c.in-Ok.ensures.disk in
    let law = c.images_of_a_moment.ensures in
    let room : need_of without_log ≤ g.D.Disk.size c.args.disk = elim (cases_lt (g.D.Disk.size c.args.disk) (need_of without_log)) [
      | inl small ↦ absurd (false≢true (c.in-Ok.ensures.small.1 small))
      | inr le ↦ le
    ] in
    let reading : reading_of (layout_of c.in-Ok.cells) (seen (g.D.Disk.history disk)) ≡ reading_of without_log (seen h) =
    ap (λ (x : Layout). reading_of x (seen (g.D.Disk.history disk))) c.in-Ok.ensures.layout ∙ ap (λ d. reading_of without_log (seen (g.D.Disk.history d))) same in
    refused_supers (g.D.Disk.honest c.args.disk) _ _ h (g.D.Disk.size c.args.disk) c.in-Err-find_synced.refusal room
    (λ honest. sym (law.same_size h (stable h) (law.stable_is_one h)) ∙ g.met.D.Disk.sized c.args.disk honest)
    (λ honest none. subst HasNoSuper reading (none (subst g.D.Disk.honest (sym same) honest)))
    (λ honest bad. subst (λ d. HasBadSuper (g.D.Disk.size d) (reading_of without_log (seen h))) same (subst (λ (x : Reading). HasBadSuper (g.D.Disk.size disk) x) reading (bad (subst g.D.Disk.honest (sym same) honest))))
    c.in-Err-find_synced.ensures.refused

pub returns-in-Ok-read_behind-clause-call : goal.returns-in-Ok-read_behind-clause-call
returns-in-Ok-read_behind-clause-call g c =
    let first : Calls {T = Unit {0}} g.D.Disk c.args.disk (disk_of c.find_synced.new.cells) (Ok tt) =
    subst (λ d. Calls {T = Unit {0}} g.D.Disk d (disk_of c.find_synced.new.cells) (Ok tt)) c.in-Ok.ensures.disk c.in-Ok-find_synced.ensures.call in
    let second : Calls {T = Unit {0}} g.D.Disk (disk_of c.find_synced.new.cells) (disk_of c.read_behind.new.cells) (Ok tt) =
    subst (λ d. Calls {T = Unit {0}} g.D.Disk d (disk_of c.read_behind.new.cells) (Ok tt)) c.relaid-cells.ensures.disk c.in-Ok-read_behind.ensures.looks.call in
    let both = calls g.D.Disk c.args.disk (disk_of c.find_synced.new.cells) (disk_of c.read_behind.new.cells) tt (Ok tt) first second in
    subst (λ x. Calls {T = Unit {0}} g.D.Disk c.args.disk (disk_of x.cells) (Ok tt)) (sym c.opened.ensures) both

-- the device once a superblock was found on it and its places are laid out: it is synced, and that superblock counts
found :
    (g : _) (c : After-relaid-cells g) → g.D.Disk.honest c.args.disk
    → record {
      still : g.D.Disk.honest (disk_of c.relaid-cells.result);
      synced : g.D.Disk.history (disk_of c.relaid-cells.result) ≡ Synced (g.D.Disk.history c.args.disk);
      sized : length (stable (g.D.Disk.history (disk_of c.relaid-cells.result))) ≡ g.D.Disk.size c.args.disk;
      counts : Counts (g.D.Disk.size c.args.disk) (reading_of (layout_of c.in-Ok.cells) (seen (g.D.Disk.history c.args.disk))) c.in-Ok-find_synced.found.0 c.in-Ok-find_synced.found.1;
    }
found g c honest =
    let first = c.in-Ok.ensures.disk in
    let laid = c.relaid-cells.ensures.disk in
    let s = c.in-Ok-find_synced.ensures in
    let there = subst g.D.Disk.honest (sym first) honest in
    let still = subst g.D.Disk.honest (sym laid) (s.call.stays_honest there) in
    record {
      still = still;
      synced = ap g.D.Disk.history laid ∙ s.synced there ∙ ap (λ d. Synced (g.D.Disk.history d)) first;
      sized = g.met.D.Disk.sized (disk_of c.relaid-cells.result) still ∙ ap g.D.Disk.size laid ∙ s.call.same_size ∙ ap g.D.Disk.size first;
      counts = subst (λ d. Counts (g.D.Disk.size d) (reading_of (layout_of c.in-Ok.cells) (seen (g.D.Disk.history d))) c.in-Ok-find_synced.found.0 c.in-Ok-find_synced.found.1) first (s.found there);
    }

pub returns-in-Ok-read_behind-clause-opened : goal.returns-in-Ok-read_behind-clause-opened
returns-in-Ok-read_behind-clause-opened g c =
    let b : SuperBody = c.in-Ok-find_synced.found.0 in
    let size : ℕ = g.D.Disk.size c.args.disk in
    let old : History = g.D.Disk.history c.args.disk in
    let mid : History = g.D.Disk.history (disk_of c.relaid-cells.result) in
    let e = c.in-Ok-read_behind.ensures in
    let o = c.in-Ok-read_behind.behind in
    let found_items : List Judged = e.found.0 in
    let l : Layout = layout_of c.read_behind.new.cells in
    let form = subst (λ d. IsSuperAt (g.D.Disk.size d) (side_of b.number) b) c.in-Ok.ensures.disk c.in-Ok-find_synced.ensures.form in
    let is = opened_from size b l o.log found_items o.judging.certifier.current o.judging.versions form (e.layout ∙ c.relaid-cells.ensures.layout ∙ c.new-layout.ensures) e.found.1 in
    let recovers : g.D.Disk.honest c.args.disk → Recovers old (g.D.Disk.history (disk_of c.read_behind.new.cells)) b c.in-Ok-find_synced.found.1 o.log found_items o.judging.certifier.current o.judging.versions = λ honest.
    (let at = found g (goal.at.returns-in-Ok-read_behind-clause-opened g c).After-relaid-cells honest in
    recovers_from c.pages_are_told.ensures c.found_states_stand.ensures old mid (g.D.Disk.history (disk_of c.read_behind.new.cells)) size (layout_of c.in-Ok.cells) b c.in-Ok-find_synced.found.1 o.log found_items o.judging.certifier.current o.judging.versions
    at.synced (e.looks.same at.still) at.sized at.counts (e.found.2 at.still (ap failed at.synced))) in
    subst (λ x. (items : List Judged) × IsOpened size x.superblock (layout_of x.cells) x.log items x.certifier.current x.versions
    × (g.D.Disk.honest c.args.disk → Recovers old (g.D.Disk.history (disk_of x.cells)) x.superblock x.both x.log items x.certifier.current x.versions)) (sym c.opened.ensures) (found_items, is, recovers)

pub returns-in-Err-read_behind-clause-refused : goal.returns-in-Err-read_behind-clause-refused
returns-in-Err-read_behind-clause-refused g c =
    let mid : History = g.D.Disk.history (disk_of c.relaid-cells.result) in
    let at = found g (goal.at.returns-in-Err-read_behind-clause-refused g c).After-relaid-cells in
    refused_behind (g.D.Disk.honest c.args.disk) (g.D.Disk.history c.args.disk) mid (g.D.Disk.size c.args.disk) (layout_of c.in-Ok.cells) c.in-Ok-find_synced.found.0 _ c.in-Err-read_behind.refusal (λ honest. (at honest).synced) (λ honest. (at honest).sized)
    (λ honest. (c.in-Ok-find_synced.found.1, (at honest).counts)) (λ part honest why. why (at honest).still (ap failed (at honest).synced)) c.in-Err-read_behind.ensures.refused
