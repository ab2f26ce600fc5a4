use Rattle.std.proofs.Common.{◌≡◌, ℕ, ◌+◌, ◌⊎◌, Result, IfErr, Option, List, [], ◌++◌, refl, sym, ap, subst, ◌∙◌, arith, inl, inr}
use Rattle.std.proofs.lemmas.Result.{err_from_is_err_and}
use Rattle.rep_types.specs.declared.judged.Judged.{Judged}
use Rattle.rep_types.specs.declared.refusal.Refusal.{Refusal}
use Rattle.rep_types.specs.declared.refusal.Refusal.TheVariants.{DiskFault, BadParams}
use Rattle.rep_record.specs.Blocks.{RefusesRecords}
use Rattle.rep_record.specs.Replaying.{Rejected}
use Rattle.rep_disk.specs.History.{History, seen, failed}
use Rattle.rep_layout.specs.declared.place.Layout.{Layout}
use Rattle.rep_cells.specs.Device.{disk_of, layout_of}
use Rattle.rep_cells.specs.Readings.{reading_of}
use Rattle.rep_log.specs.Tail.{IsLog, records_of}
use Rattle.rep_log.specs.Standing.{Standing}
use Rattle.rep_log.specs.Scanning.{Found, HasCells, StopsIn, Visits}
use Rattle.rep_log.proofs.Scanned.{nothing_yet, visits_within, visits_counted, visits_filled}
use Rattle.rep_log.proofs.ReadOn.{IsSame, no_call, calls, read_goes_on, read_no_log, read_all, replayed_more, rejected_on}
use Rattle.rep_log.proofs.ring.Log.scan.Goals as goal

pub loop-k-init : goal.loop-k-init
loop-k-init g c =
    let l : Layout = c.layout-layout.result in
    let begun = c.new-scan.ensures.begun in
    record {
      layout = sym c.layout-layout.ensures;
      was_layout = sym c.layout-layout.ensures;
      limits = record { some = omega (arith, c.if-layout-eq0.false); few = omega (arith, c.if-layout-gt-MAX_CELLS.false) };
      lap = refl;
      started = omega (arith, c.if-start-position.false);
      placed = omega (arith, c.if-position-gt-MAX_SEQNO.false);
      from = begun.from_is;
      stands = c.new-scan.ensures.stands;
      came = omega (arith, begun.next_is);
      items = [];
      counted = omega (arith, begun.seqno_is);
      replayed = refl;
      filled = omega (arith, begun.next_is, begun.seqno_is);
      call = no_call g.D.Disk (disk_of c.args.cells.now);
      same = λ honest. refl;
      progress = λ honest none. nothing_yet (reading_of l (seen (g.D.Disk.history (disk_of c.args.cells.now)))) l (c.args.position + 1) c.new-scan.result (begun.next_is ∙ sym begun.from_is) begun.seqno_is;
    }

-- the cell that was read, of what the scan began with
same_cells : (layout l : Layout) (now h : History) (start number x k : ℕ) (scan : Found) → layout ≡ l → now ≡ h → number ≡ start + x → x ≡ k → scan.from ≡ start → IsSame layout l now h start number k scan
same_cells layout l now h start number x k scan layout_is now_is number_is same from_is = record { layout_is = layout_is; now_is = now_is; number_is = omega (arith, number_is, same); from_is = from_is }

pub loop-k-preserved : goal.loop-k-preserved
loop-k-preserved g c =
    let inv = c.loop-k.invariant in
    let l : Layout = c.layout-layout.result in
    let first_disk = disk_of c.args.cells.now in
    let disk = disk_of c.loop-k.cells in
    let h : History = g.D.Disk.history first_disk in
    let layout : Layout = layout_of c.loop-k.cells in
    let number = c.args.start + c.from.result in
    let old : Found = c.loop-k.scan in
    let new : Found = c.read_on.new.self in
    let on = c.in_ok-read_on.ensures.visited in
    record {
      layout = c.read_on.ensures.layout ∙ inv.layout;
      was_layout = inv.was_layout;
      limits = inv.limits;
      lap = refl;
      started = inv.started;
      placed = inv.placed;
      from = c.in_ok-read_on.ensures.from ∙ inv.from;
      stands = c.in_ok-read_on.ensures.stands;
      came = visits_within layout number c.loop-k.k c.args.start on.cell old new on.records on.visits inv.came (omega (arith, c.from.ensures));
      items = inv.items ++ on.records;
      counted = visits_counted layout number (c.args.position + 1) on.cell old new inv.items on.records on.visits inv.counted;
      replayed = replayed_more g.S.Replays c.args.to.now c.loop-k.to c.read_on.new.to inv.items on.records inv.replayed on.replayed;
      filled = visits_filled layout number (c.args.position + 1) c.args.start on.cell old new on.records on.visits inv.filled;
      call = calls g.D.Disk first_disk disk (disk_of c.read_on.new.cells) inv.call c.in_ok-read_on.ensures.call;
      same = λ honest. c.read_on.ensures.same (inv.call.stays_honest honest) ∙ inv.same honest;
      progress = λ honest none.
          let shown = on.is_read (inv.call.stays_honest honest) (ap failed (inv.same honest) ∙ none) in
          read_goes_on c.turns_are_taken.ensures layout l (g.D.Disk.history disk) h (c.args.position + 1) c.args.start number c.loop-k.k old new inv.items on.records
          (omega (arith, c.loop-k-test.true)) (omega (arith, inv.limits.few, inv.stands)) (same_cells layout l (g.D.Disk.history disk) h c.args.start number c.from.result c.loop-k.k old inv.layout (inv.same honest) refl c.from.ensures inv.from)
          (inv.progress honest none) (subst (λ (cell : Option (List ℕ)). Visits layout number cell old new on.records) shown on.visits);
    }

pub returns-in_err-read_on-clause-refused : goal.returns-in_err-read_on-clause-refused
returns-in_err-read_on-clause-refused g c =
    let inv = c.loop-k.invariant in
    let l : Layout = c.layout-layout.result in
    let layout : Layout = layout_of c.args.cells.now in
    let first_disk = disk_of c.args.cells.now in
    let disk = disk_of c.loop-k.cells in
    let h : History = g.D.Disk.history first_disk in
    let number = c.args.start + c.from.result in
    let err = err_from_is_err_and c.from_residual.result c.from_residual.ensures.1 in
    let same : err.0 ≡ c.in_err-read_on.field-0.0 = err.2 in
    let Stops : List Judged → Type 0 = Rejected g.S.Replays c.args.to.now in
    let Now : List Judged → Type 0 = Rejected g.S.Replays c.loop-k.to in
    let P : Refusal → Type 0 =
    λ e. (e ≡ DiskFault) ⊎ (((e ≡ BadParams) × (HasCells layout → ⊥)) ⊎ RefusesRecords (g.D.Disk.honest first_disk → failed h ≡ [] → StopsIn Stops (reading_of layout (seen h)) layout c.args.start (c.args.position + 1)) e) in
    let refuses : P c.in_err-read_on.field-0.0 = elim c.in_err-read_on.ensures.refused [
      | inl fault ↦ inl fault
      | inr why ↦ elim why [
        | inl memory ↦ inr (inr (inl memory))
        | inr corrupt ↦ inr (inr (inr (
          corrupt.0,
          λ honest none blocks is. rejected_on g.S.Replays c.args.to.now c.loop-k.to inv.items (records_of blocks) inv.replayed
              (read_no_log c.turns_are_taken.ensures c.blocks_are_told.ensures Now (layout_of c.loop-k.cells) l (g.D.Disk.history disk) h (c.args.position + 1) c.args.start
              number c.loop-k.k c.loop-k.scan inv.items (omega (arith, c.loop-k-test.true))
              (same_cells (layout_of c.loop-k.cells) l (g.D.Disk.history disk) h c.args.start number c.from.result c.loop-k.k c.loop-k.scan inv.layout (inv.same honest) refl c.from.ensures inv.from)
              (inv.progress honest none) (corrupt.1 (inv.call.stays_honest honest) (ap failed (inv.same honest) ∙ none)) blocks (subst (λ (k : Layout). IsLog (reading_of k (seen h)) k c.args.start (c.args.position + 1) blocks) inv.was_layout is)),
        )))
      ]
    ] in
    subst (λ (r : Result _ Refusal). IfErr r P) (sym err.1) (subst P (sym same) refuses)

pub returns-clause-scans : goal.returns-clause-scans
returns-clause-scans g c =
    let inv = c.loop-k.invariant in
    let l : Layout = c.layout-layout.result in
    let log : Standing = c.at_rest.result in
    let is = c.at_rest.ensures.log in
    let start = ap (λ (x : Standing). x.start) is ∙ inv.from in
    let cells = ap (λ (x : Standing). x.cells) is in
    let next = ap (λ (x : Standing). x.next) is in
    let seqno = ap (λ (x : Standing). x.seqno) is in
    record {
      items = inv.items;
      scanned = record {
        start = start;
        cells = cells ∙ ap (λ (k : Layout). k.cells) (sym inv.was_layout);
        phase = ap (λ (x : Standing). x.phase) is;
        later = omega (arith, start, c.at_rest.ensures.later);
        lap = omega (arith, next, inv.came, inv.lap, c.loop-k.auto.k-end, ap (λ (k : Layout). k.cells) inv.was_layout, c.loop-k-test.false);
        seqno = seqno ∙ inv.counted;
        filled = omega (arith, next, seqno, start, inv.filled);
        limit = c.at_rest.ensures.limit;
      };
      replayed = inv.replayed;
      finds = λ honest.
          read_all c.turns_are_taken.ensures c.blocks_are_told.ensures (layout_of c.args.cells.now) l (g.D.Disk.history (disk_of c.args.cells.now)) (c.args.position + 1) c.args.start c.loop-k.k c.loop-k.scan inv.items log
          inv.limits inv.was_layout (omega (arith, c.loop-k-test.false, c.loop-k.auto.k-end)) (omega (arith, inv.limits.few, inv.stands)) (omega (arith, inv.started)) (omega (arith, inv.placed)) inv.from is (inv.progress honest.0 honest.1);
    }
