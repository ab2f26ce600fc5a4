-- A scan of a device: what was read of it is what its bytes show.
use Rattle.std.proofs.Common.{◌≡◌, ℕ, ◌+◌, ◌<◌, ◌≤◌, List, [], ◌∷◌, ◌++◌, length, Option, Ok, refl, sym, ap, subst, ◌∙◌, append_assoc, arith}
use Rattle.std.proofs.lemmas.Bool.{false≢true}
use Rattle.rep_types.specs.declared.judged.Judged.{Judged}
use Rattle.rep_types.specs.declared.limits.TheConstants.{MAX_SEQNO}
use Rattle.rep_record.specs.declared.replays.Replays.{Ghosts as Given}
use Rattle.rep_record.specs.Blocks.{BlocksAreTold}
use Rattle.rep_record.specs.Replaying.{Replayed, Rejected}
use Rattle.rep_disk.specs.declared.disk.Disk.{Ghosts}
use Rattle.rep_disk.specs.History.{History, seen}
use Rattle.rep_disk.specs.Devices.{Calls}
use Rattle.rep_layout.specs.declared.place.Layout.{Layout}
use Rattle.rep_layout.specs.Places.{log_of, TurnsAreTaken}
use Rattle.rep_cells.specs.Readings.{reading_of}
use Rattle.rep_log.specs.Tail.{records_of, IsLog}
use Rattle.rep_log.specs.Standing.{Standing}
use Rattle.rep_log.specs.Scanning.{Found, HasCells, Visits, IsNoCell, Finds, rests_as}
use Rattle.rep_log.proofs.Scanned.{Progress, HasStopped, goes_on, no_log, finds}

-- ---- calls that succeeded

-- no call
pub no_call : {D : Type 0} (g : Ghosts D) (disk : D) → Calls {T = Unit {0}} g disk disk (Ok tt)
no_call g disk = record { same_size = refl; stays_honest = λ h. h; was_honest = λ h. h; cause = λ e. absurd (false≢true e); no_cause = λ e. refl }

-- one behind another
pub calls : {D : Type 0} (g : Ghosts D) (a b d : D) → Calls {T = Unit {0}} g a b (Ok tt) → Calls {T = Unit {0}} g b d (Ok tt) → Calls {T = Unit {0}} g a d (Ok tt)
calls g a b d first second = record {
  same_size = second.same_size ∙ first.same_size;
  stays_honest = λ h. second.stays_honest (first.stays_honest h);
  was_honest = λ h. first.was_honest (second.was_honest h);
  cause = λ e. absurd (false≢true e);
  no_cause = λ e. second.no_cause e ∙ first.no_cause e;
}

-- ---- what was read

-- the cell that was read, of the layout and the bytes that the scan began with
pub record IsSame (layout l : Layout) (now h : History) (start number k : ℕ) (scan : Found) : Type 0 where
  pub layout_is : layout ≡ l
  pub now_is : now ≡ h
  pub number_is : number ≡ start + k
  pub from_is : scan.from ≡ start

-- so what holds of that cell holds of the other
of_cell : {layout l : Layout} {now h : History} {start number k : ℕ} {scan : Found} (P : Layout → ℕ → Option (List ℕ) → Type 0) → IsSame layout l now h start number k scan
    → P layout number (reading_of layout (seen now) (log_of layout number)) → P l (scan.from + k) (reading_of l (seen h) (log_of l (scan.from + k)))
of_cell {layout} {l} {now} {h} {start} {number} {k} {scan} P same holds =
    let number_is : number ≡ scan.from + k = omega (arith, same.number_is, same.from_is) in
    subst (λ (n : ℕ). P l n (reading_of l (seen h) (log_of l n))) number_is
    (subst (λ (g : History). P l number (reading_of l (seen g) (log_of l number))) same.now_is (subst (λ (m : Layout). P m number (reading_of m (seen now) (log_of m number))) same.layout_is holds))

-- a scan that read a cell goes on
pub read_goes_on :
    TurnsAreTaken → (layout l : Layout) (now h : History) (first start number k : ℕ) (old new : Found) (items records : List Judged) → k < l.cells → l.cells ≤ length old.stands → IsSame layout l now h start number k old
    → Progress (reading_of l (seen h)) l first k old items → Visits layout number (reading_of layout (seen now) (log_of layout number)) old new records → Progress (reading_of l (seen h)) l first (k + 1) new (items ++ records)
read_goes_on turns layout l now h first start number k old new items records lt long same at visits =
    goes_on turns (reading_of l (seen h)) l first k (reading_of l (seen h) (log_of l (old.from + k))) old new items records lt long refl at (of_cell (λ m n cell. Visits m n cell old new records) same visits)

-- a cell that is of no log leaves none, but for records that stop the scan
pub read_no_log :
    TurnsAreTaken → BlocksAreTold → (Stops : List Judged → Type 0) (layout l : Layout) (now h : History) (first start number k : ℕ) (scan : Found) (items : List Judged) → k < l.cells → IsSame layout l now h start number k scan
    → Progress (reading_of l (seen h)) l first k scan items → IsNoCell Stops layout number (reading_of layout (seen now) (log_of layout number)) scan
    → (blocks : List (List Judged)) → IsLog (reading_of l (seen h)) l start first blocks → HasStopped Stops items (records_of blocks)
read_no_log turns told Stops layout l now h first start number k scan items lt same at bad blocks is =
    no_log turns told Stops (reading_of l (seen h)) l first k (reading_of l (seen h) (log_of l (scan.from + k))) scan items lt refl at (of_cell (λ m n cell. IsNoCell Stops m n cell scan) same bad) blocks
    (subst (λ n. IsLog (reading_of l (seen h)) l n first blocks) (sym same.from_is) is)

-- what a scan found of all cells
pub read_all :
    TurnsAreTaken → BlocksAreTold → (layout l : Layout) (h : History) (first start k : ℕ) (scan : Found) (items : List Judged) (log : Standing) → HasCells l → layout ≡ l → k ≡ l.cells → l.cells ≤ length scan.stands
    → start < first → first ≤ MAX_SEQNO + 1 → scan.from ≡ start → log ≡ rests_as l scan → Progress (reading_of l (seen h)) l first k scan items → Finds layout (seen h) start first log items
read_all turns told layout l h first start k scan items log cells layout_is lap long starts limit from log_is at =
    subst (λ (m : Layout). Finds m (seen h) start first log items) (sym layout_is)
    (subst (λ n. Finds l (seen h) n first log items) from
    (finds turns told l (seen h) first scan items log cells.some long (omega (arith, from, starts)) limit (subst (λ n. Progress (reading_of l (seen h)) l first n scan items) lap at) log_is))

-- ---- what was given on

-- records behind others
pub replayed_more : {S : Type 0} (g : Given S) (s t u : S) (xs ys : List Judged) → Replayed g s xs t → Replayed g t ys u → Replayed g s (xs ++ ys) u
replayed_more g s t u [] ys h more = subst (λ v. Replayed g v ys u) (sym h) more
replayed_more g s t u (x ∷ xs) ys h more = (h.0, h.1, replayed_more g h.0 t u xs ys h.2 more)

-- what is not taken behind some of them is not taken of all
pub rejected_on : {S : Type 0} (g : Given S) (s t : S) (items all : List Judged) → Replayed g s items t → HasStopped (Rejected g t) items all → Rejected g s all
rejected_on g s t items all h stopped =
    let r = stopped.stops in
    record {
      before = items ++ r.before;
      one = r.one;
      behind = r.behind ++ stopped.behind;
      split = stopped.split ∙ ap (λ xs. items ++ (xs ++ stopped.behind)) r.split ∙ ap (λ xs. items ++ xs) (append_assoc r.before (r.one ∷ r.behind) stopped.behind)
          ∙ sym (append_assoc items r.before (r.one ∷ (r.behind ++ stopped.behind)));
      state = r.state;
      replayed = replayed_more g s t r.state items r.before h r.replayed;
      why = r.why;
    }
