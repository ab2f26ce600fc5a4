use Rattle.std.proofs.Common.{◌≡◌, ◌+◌, [], Result, Ok, Err, sym, ap, subst, ◌∙◌, arith}
use Rattle.std.proofs.lemmas.Result.{err_from_is_err_and}
use Rattle.rep_types.specs.declared.refusal.Refusal.{Refusal}
use Rattle.rep_types.specs.declared.refusal.Part.{Part}
use Rattle.rep_types.specs.declared.refusal.Part.TheVariants.{Log as in_log, Pages}
use Rattle.rep_types.specs.Settings.{Setting}
use Rattle.rep_disk.specs.History.{History, seen, failed}
use Rattle.rep_layout.specs.declared.super_body.SuperBody.{SuperBody}
use Rattle.rep_layout.specs.declared.place.Layout.{Layout}
use Rattle.rep_layout.specs.Places.{layout_of as layout_with}
use Rattle.rep_cells.specs.Device.{disk_of, layout_of}
use Rattle.rep_cells.specs.Readings.{Reading, reading_of}
use Rattle.rep_layout.specs.Supers.{IsNil}
use Rattle.rep_log.specs.Tail.{records_of}
use Rattle.rep_log.specs.Scanning.{Finds, IsScanned}
use Rattle.rep_engine.specs.Bases.{HasWindow}
use Rattle.rep_record.specs.declared.replays.Replays.{Ghosts as Given}
use Rattle.rep_recover.specs.Judging.{bare, IsNext, Judges, HasJudged}
use Rattle.rep_recover.specs.Looking.{Looks, HasBlocks, HasPages, HasBadPage}
use Rattle.rep_recover.specs.Opening.{FailsBehind, RefusesBehind}
use Rattle.rep_recover.specs.declared.judge.Judging.{Judging}
use Rattle.rep_recover.specs.declared.open.Behind.{Behind}
use Rattle.rep_recover.proofs.Reading.{looks_on}
use Rattle.rep_recover.proofs.Behind.{same_reading, no_items, fails_at_log, fails_at_pages, refuses_growing, refuses_part, passed_on}
use Rattle.rep_recover.proofs.Judging.{judged_all, windows_all, none_judged}
use Rattle.rep_recover.proofs.open.read_behind.Goals as goal
use Rattle.rep_recover.proofs.open.read_behind.Goals.{After-versions_follow_the_items, In_ok-beside, In_ok-judging, In_ok-log}

-- ---- what has been read so far

-- why nothing is made of a part, on an honest device on which nothing has failed
abbrev Reason : (g : _) (c : After-versions_follow_the_items g) → Part → Type 0
Reason g c part = g.D.Disk.honest (disk_of c.args.cells.now) → failed (g.D.Disk.history (disk_of c.args.cells.now)) ≡ [] → FailsBehind part (reading_of (layout_with c.args.superblock.now.params) (seen (g.D.Disk.history (disk_of c.args.cells.now)))) c.args.superblock.now

-- the window
has_window :
    (g : _) (c : In_ok-beside g) → g.D.Disk.honest (disk_of c.args.cells.now) → failed (g.D.Disk.history (disk_of c.args.cells.now)) ≡ []
    → HasWindow (reading_of (layout_with c.args.superblock.now.params) (seen (g.D.Disk.history (disk_of c.args.cells.now)))) c.args.superblock.now c.in_ok-beside.beside
has_window g c honest none =
    let h : History = g.D.Disk.history (disk_of c.args.cells.now) in
    subst (λ (x : Reading). HasWindow x c.args.superblock.now c.in_ok-beside.beside) (same_reading (layout_of c.args.cells.now) (layout_with c.args.superblock.now.params) h h c.requires.layout (λ i. h)) (c.in_ok-beside.ensures.found honest none)

-- the log
finds_log :
    (g : _) (c : In_ok-log g) → g.D.Disk.honest (disk_of c.args.cells.now) → failed (g.D.Disk.history (disk_of c.args.cells.now)) ≡ []
    → Finds (layout_with c.args.superblock.now.params) (seen (g.D.Disk.history (disk_of c.args.cells.now))) c.args.superblock.now.start (c.args.superblock.now.position + 1) c.in_ok-log.log c.in_ok-log.ensures.scans.items
finds_log g c honest none =
    let b : SuperBody = c.args.superblock.now in
    let l : Layout = layout_with b.params in
    let w = c.in_ok-beside.ensures in
    let same = w.looks.same honest in
    let scans = c.in_ok-log.ensures.scans in
    let finds = subst (λ (x : Layout). Finds x (seen (g.D.Disk.history (disk_of c.read_window.new.cells))) b.start (b.position + 1) c.in_ok-log.log scans.items) (w.layout ∙ c.requires.layout)
    (scans.finds (w.looks.call.stays_honest honest, ap failed same ∙ none)) in
    subst (λ (x : History). Finds l (seen x) b.start (b.position + 1) c.in_ok-log.log scans.items) same finds

undefined : (g : _) (c : In_ok-log g) → IsNil c.args.superblock.now.uuid → c.in_ok-log.ensures.scans.items ≡ []
undefined g c nil = no_items c.in_ok-log.ensures.scans.items (omega (arith, c.in_ok-log.ensures.undefined nil, c.in_ok-log.ensures.scans.scanned.seqno))

-- the device behind both: it reads the same, and is honest and without a fault as before
last_reading : (g : _) (c : In_ok-log g) → g.D.Disk.honest (disk_of c.args.cells.now)
    → reading_of (layout_of c.find_log.new.cells) (seen (g.D.Disk.history (disk_of c.find_log.new.cells))) ≡ reading_of (layout_with c.args.superblock.now.params) (seen (g.D.Disk.history (disk_of c.args.cells.now)))
last_reading g c honest =
    let w = c.in_ok-beside.ensures in
    let f = c.in_ok-log.ensures in
    same_reading (layout_of c.find_log.new.cells) (layout_with c.args.superblock.now.params) (g.D.Disk.history (disk_of c.find_log.new.cells)) (g.D.Disk.history (disk_of c.args.cells.now)) (f.layout ∙ (w.layout ∙ c.requires.layout))
    (f.looks.same (w.looks.call.stays_honest honest) ∙ w.looks.same honest)

last_honest : (g : _) (c : In_ok-log g) → g.D.Disk.honest (disk_of c.args.cells.now) → g.D.Disk.honest (disk_of c.find_log.new.cells)
last_honest g c honest = c.in_ok-log.ensures.looks.call.stays_honest (c.in_ok-beside.ensures.looks.call.stays_honest honest)

last_none : (g : _) (c : In_ok-log g) → g.D.Disk.honest (disk_of c.args.cells.now) → failed (g.D.Disk.history (disk_of c.args.cells.now)) ≡ [] → failed (g.D.Disk.history (disk_of c.find_log.new.cells)) ≡ []
last_none g c honest none = ap failed (c.in_ok-log.ensures.looks.same (c.in_ok-beside.ensures.looks.call.stays_honest honest) ∙ c.in_ok-beside.ensures.looks.same honest) ∙ none

-- judging, as what takes a log's records
abbrev judging : Given Judging
judging = record {
  takes = λ s j t. Judges s.certifier.current s.versions j t.certifier.current t.versions;
  rejects = λ s j. IsNext s.certifier.current j → ⊥;
}

-- the items that were judged again
none_yet : (g : _) (c : In_ok-judging g) → HasJudged c.args.superblock.now.params (bare c.args.superblock.now.position c.in_ok-beside.beside) [] c.in_ok-judging.judging.certifier.current c.in_ok-judging.judging.versions
none_yet g c =
    let before = bare c.args.superblock.now.position c.in_ok-beside.beside in
    subst (λ (p : Setting). HasJudged p before [] c.in_ok-judging.judging.certifier.current c.in_ok-judging.judging.versions) c.copied.ensures c.in_ok-judging.ensures.judged

has_judged :
    (g : _) (c : In_ok-log g) → HasJudged c.args.superblock.now.params (bare c.args.superblock.now.position c.in_ok-beside.beside) [] c.in_ok-judging.judging.certifier.current c.in_ok-judging.judging.versions
    → HasJudged c.args.superblock.now.params (bare c.args.superblock.now.position c.in_ok-beside.beside) c.in_ok-log.ensures.scans.items c.find_log.new.judging.certifier.current c.find_log.new.judging.versions
has_judged g c none =
    judged_all judging (λ (s : Judging). s.certifier.current) (λ (s : Judging). s.versions) (λ s j t takes. takes) c.versions_follow_the_items.ensures c.args.superblock.now.params (bare c.args.superblock.now.position c.in_ok-beside.beside)
    c.in_ok-judging.judging c.find_log.new.judging [] c.in_ok-log.ensures.scans.items none c.in_ok-log.ensures.scans.replayed

-- ---- where a part is refused

pub returns-in_err-log-clause-refused : goal.returns-in_err-log-clause-refused
returns-in_err-log-clause-refused g c =
    let at = goal.at.returns-in_err-log-clause-refused g c in
    let b : SuperBody = c.args.superblock.now in
    let l : Layout = layout_with b.params in
    let h : History = g.D.Disk.history (disk_of c.args.cells.now) in
    let w = c.in_ok-beside.ensures in
    let later : History = g.D.Disk.history (disk_of c.read_window.new.cells) in
    let before = bare b.position c.in_ok-beside.beside in
    passed_on (RefusesBehind (Reason g at.After-versions_follow_the_items)) c.from_residual-in_err-log.result c.in_err-log.field-0.0 c.from_residual-in_err-log.ensures.1
    (refuses_growing in_log _ (Reason g at.After-versions_follow_the_items) c.in_err-log.field-0.0 (λ why honest none.
    let same = w.looks.same honest in
    fails_at_log (reading_of l (seen h)) b c.in_ok-beside.beside (has_window g at.In_ok-beside honest none) (λ blocks has.
    none_judged judging (λ (s : Judging). s.certifier.current) (λ (s : Judging). s.versions) (λ s j t takes. takes) c.versions_follow_the_items.ensures b.params before (λ s j rejects. rejects) c.in_ok-judging.judging (records_of blocks) (none_yet g at.In_ok-judging)
    (why (w.looks.call.stays_honest honest) (ap failed same ∙ none) blocks (subst (λ (x : Reading). HasBlocks x b blocks) (sym (same_reading (layout_of c.read_window.new.cells) l later h (w.layout ∙ c.requires.layout) same)) has))))
    c.in_err-log.ensures.refused)

pub returns-in_err-read_pages-clause-refused : goal.returns-in_err-read_pages-clause-refused
returns-in_err-read_pages-clause-refused g c =
    let at = goal.at.returns-in_err-read_pages-clause-refused g c in
    let b : SuperBody = c.args.superblock.now in
    let h : History = g.D.Disk.history (disk_of c.args.cells.now) in
    let scans = c.in_ok-log.ensures.scans in
    passed_on (RefusesBehind (Reason g at.After-versions_follow_the_items)) c.from_residual-in_err-read_pages.result c.in_err-read_pages.field-0.0 c.from_residual-in_err-read_pages.ensures.1
    (refuses_part Pages _ (Reason g at.After-versions_follow_the_items) c.in_err-read_pages.field-0.0 (λ why honest none.
    let bad = subst (λ (x : Reading). HasBadPage x b) (last_reading g at.In_ok-log honest) (why (last_honest g at.In_ok-log honest) (last_none g at.In_ok-log honest none)) in
    fails_at_pages (seen h) b c.in_ok-log.log scans.items (finds_log g at.In_ok-log honest none) (undefined g at.In_ok-log) c.in_ok-beside.beside (has_window g at.In_ok-beside honest none) c.find_log.new.judging.certifier.current c.find_log.new.judging.versions
    (has_judged g at.In_ok-log (none_yet g at.In_ok-judging)) bad)
    c.in_err-read_pages.ensures.refused)

pub returns-clause-found : goal.returns-clause-found
returns-clause-found g c =
    let at = goal.at.returns-clause-found g c in
    let b : SuperBody = c.args.superblock.now in
    let scans = c.in_ok-log.ensures.scans in
    let before = bare b.position c.in_ok-beside.beside in (
      scans.items,
      record {
        scanned = subst (λ (l : Layout). IsScanned l b.start (b.position + 1) c.in_ok-log.log scans.items) (c.in_ok-beside.ensures.layout ∙ c.requires.layout) scans.scanned;
        undefined = undefined g at.In_ok-log;
        beside = c.in_ok-beside.beside;
        is_window = c.in_ok-beside.ensures.form;
        judged = has_judged g at.In_ok-log (none_yet g at.In_ok-judging);
        windows = windows_all judging (λ (s : Judging). s.certifier.current) (λ (s : Judging). s.versions) (λ s j t takes. takes) c.versions_follow_the_items.ensures b.params before
            c.in_ok-judging.judging c.find_log.new.judging [] scans.items (none_yet g at.In_ok-judging) c.in_ok-judging.ensures.windows scans.replayed;
      },
      λ honest none. record {
        beside = c.in_ok-beside.beside;
        window = has_window g at.In_ok-beside honest none;
        finds = finds_log g at.In_ok-log honest none;
        undefined = undefined g at.In_ok-log;
        judged = has_judged g at.In_ok-log (none_yet g at.In_ok-judging);
        pages = subst (λ (x : Reading). HasPages x b) (last_reading g at.In_ok-log honest) (c.in_ok-read_pages.ensures.found (last_honest g at.In_ok-log honest) (last_none g at.In_ok-log honest none));
      },
    )

-- ---- nothing was written

-- window and log were read
looked : (g : _) (c : In_ok-log g) → Looks {T = Unit {0}} g.D.Disk (disk_of c.args.cells.now) (disk_of c.find_log.new.cells) (Ok tt)
looked g c =
    let w = c.in_ok-beside.ensures.looks in
    let f = c.in_ok-log.ensures.looks in
    looks_on g.D.Disk {T = Unit {0}} {U = Unit {0}} (disk_of c.args.cells.now) (disk_of c.read_window.new.cells) (disk_of c.find_log.new.cells) tt (Ok tt)
    (record { call = w.call; same = w.same }) (record { call = f.call; same = f.same })

pub returns-clause-looks : goal.returns-clause-looks
returns-clause-looks g c =
    let at = goal.at.returns-clause-looks g c in
    let p = c.in_ok-read_pages.ensures.looks in
    let all = looks_on g.D.Disk {T = Unit {0}} {U = Unit {0}} (disk_of c.args.cells.now) (disk_of c.find_log.new.cells) (disk_of c.read_pages.new.cells) tt (Ok tt)
    (looked g at.In_ok-log) (record { call = p.call; same = p.same }) in
    record { call = all.call; same = all.same }

pub returns-in_err-log-clause-looks : goal.returns-in_err-log-clause-looks
returns-in_err-log-clause-looks g c =
    let w = c.in_ok-beside.ensures.looks in
    let f = c.in_err-log.ensures.looks in
    let a = disk_of c.args.cells.now in
    let d = disk_of c.find_log.new.cells in
    let err = err_from_is_err_and c.from_residual-in_err-log.result c.from_residual-in_err-log.ensures.1 in
    let last : Looks {T = Behind} g.D.Disk (disk_of c.read_window.new.cells) d (Err c.in_err-log.field-0.0) = record { call = f.call; same = f.same } in
    let all = looks_on g.D.Disk {T = Unit {0}} {U = Behind} a (disk_of c.read_window.new.cells) d tt (Err c.in_err-log.field-0.0) (record { call = w.call; same = w.same }) last in
    subst (λ (r : Result Behind Refusal). Looks g.D.Disk a d r) (sym err.1)
    (subst (λ (e : Refusal). Looks {T = Behind} g.D.Disk a d (Err e)) (sym err.2) all)

pub returns-in_err-read_pages-clause-looks : goal.returns-in_err-read_pages-clause-looks
returns-in_err-read_pages-clause-looks g c =
    let at = goal.at.returns-in_err-read_pages-clause-looks g c in
    let p = c.in_err-read_pages.ensures.looks in
    let a = disk_of c.args.cells.now in
    let d = disk_of c.read_pages.new.cells in
    let err = err_from_is_err_and c.from_residual-in_err-read_pages.result c.from_residual-in_err-read_pages.ensures.1 in
    let last : Looks {T = Behind} g.D.Disk (disk_of c.find_log.new.cells) d (Err c.in_err-read_pages.field-0.0) = record { call = p.call; same = p.same } in
    let all = looks_on g.D.Disk {T = Unit {0}} {U = Behind} a (disk_of c.find_log.new.cells) d tt (Err c.in_err-read_pages.field-0.0) (looked g at.In_ok-log) last in
    subst (λ (r : Result Behind Refusal). Looks g.D.Disk a d r) (sym err.1)
    (subst (λ (e : Refusal). Looks {T = Behind} g.D.Disk a d (Err e)) (sym err.2) all)
