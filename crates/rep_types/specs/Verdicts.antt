-- The verdicts of an order in the subject's own words, by pairs of its items.
use Rattle.std.specs.Prelude.{◌≡◌, ◌≢◌, ◌⊎◌, ℕ, ◌+◌, ◌-◌, ◌<◌, ◌≤◌, [], ◌∷◌, ◌++◌, length, All, Contains}
use Rattle.rep_types.specs.declared.key.Key.{Key}
use Rattle.rep_types.specs.declared.item.Item.{Item}
use Rattle.rep_types.specs.declared.item.Item.TheVariants.{WriteSet, SetWindow}
use Rattle.rep_types.specs.declared.verdict.Verdict.{Verdict}
use Rattle.rep_types.specs.declared.verdict.Verdict.TheVariants.{Commit, Conflict, Stale, Future, BadKey}
use Rattle.rep_types.specs.Transactions.{Transaction, named}
use Rattle.rep_types.specs.Settings.{Setting, IsRow}
use Rattle.rep_types.specs.Items.{seen_by, reads_of, written_by, named_by}
use Rattle.rep_types.specs.Reaches.{floor}
use Rattle.rep_types.specs.Order.{Order, item, verdict, judge, window, state, after, read}

-- m meets n (Pedone, Guerraoui and Schiper 2003): the transaction of n had not seen m, m comes before n, and some key that m
-- writes is read or written by n. So only write sets meet.
pub record Meets (L : Order) (m n : ℕ) : Type 0 where
  pub unseen : seen_by (item L n) < m
  pub before : m < n
  pub common : (key : Key) × Contains (written_by (item L m)) key × Contains (named_by (item L n)) key

-- the write set w, which has the seqno n, is not of the future, each key that it reads or writes is a row of the schema, and it is not
-- stale: it had seen all that the floor before it leaves out
pub record IsCertifiable (p : Setting) (L : Order) (n : ℕ) (w : Transaction) : Type 0 where
  pub past : w.last_seen < n
  pub keys : All (IsRow p.rows) (named w)
  pub recent : floor p L (n - 1) ≤ w.last_seen + 1

-- What each verdict on the item with the seqno n says, where v gives the verdicts of the items before it. A change of the window's size
-- commits (this project).
abbrev pub IsVerdictOn : Setting → Order → (ℕ → Verdict) → ℕ → Item → Verdict → Type 0
IsVerdictOn p L v n (SetWindow c) verdict = verdict ≡ Commit
IsVerdictOn p L v n (WriteSet w) Future = n ≤ w.last_seen
IsVerdictOn p L v n (WriteSet w) BadKey = (w.last_seen < n) × ¬ (All (IsRow p.rows) (named w))
IsVerdictOn p L v n (WriteSet w) Stale = (w.last_seen < n) × All (IsRow p.rows) (named w) × (w.last_seen + 1 < floor p L (n - 1))
IsVerdictOn p L v n (WriteSet w) (Conflict m) =
    IsCertifiable p L n w × Meets L m n × (v m ≡ Commit) × ((k : ℕ) → m < k → Meets L k n → v k ≢ Commit)
IsVerdictOn p L v n (WriteSet w) Commit = IsCertifiable p L n w × ((k : ℕ) → Meets L k n → v k ≢ Commit)

-- the same of the item n of the order
abbrev pub IsVerdict : Setting → Order → (ℕ → Verdict) → ℕ → Verdict → Type 0
IsVerdict p L v n verdict = IsVerdictOn p L v n (item L n) verdict

-- v gives a verdict on each item, as above
abbrev pub AreVerdicts : Setting → Order → (ℕ → Verdict) → Type 0
AreVerdicts p L v = (n : ℕ) → 0 < n → n ≤ length L → IsVerdict p L v n (v n)

-- The verdicts of an order are the one assignment that these words allow.
pub record VerdictsAreDetermined : Type 0 where
  pub right : (p : Setting) (L : Order) → AreVerdicts p L (verdict p L)
  pub only : (p : Setting) (L : Order) (v : ℕ → Verdict) → AreVerdicts p L v → (n : ℕ) → 0 < n → n ≤ length L → v n ≡ verdict p L n

-- Judging from a state is judging the whole order, and the state goes on as the order does.
pub record StateIsEnough : Type 0 where
  pub verdicts : (p : Setting) (L : Order) (i : Item) →
      judge p (length L) (window p L) i ≡ verdict p (L ++ i ∷ []) (length L + 1)
  pub states : (p : Setting) (L : Order) (i : Item) → after p (state p L) i ≡ state p (L ++ i ∷ [])

-- A committed item read what it would have read at its own place: in the state after all the items before it.
abbrev pub ReadsAreSerial : Type 0
ReadsAreSerial = (p : Setting) (L : Order) (n : ℕ) (key : Key) → 0 < n → n ≤ length L → verdict p L n ≡ Commit →
    Contains (reads_of (item L n)) key → read p L key (seen_by (item L n)) ≡ read p L key (n - 1)

-- The write sets are the same but for their labels: their transactions saw, read and wrote the same.
pub record AreEqual (w v : Transaction) : Type 0 where
  pub seen : v.last_seen ≡ w.last_seen
  pub reads : v.reads ≡ w.reads
  pub writes : v.writes ≡ w.writes

-- The items m and n of the order are equal write sets, which write something, as each within its limits does.
pub record AreEqualAt (L : Order) (m n : ℕ) (w v : Transaction) : Type 0 where
  pub first : (0 < m) × (m ≤ length L) × (item L m ≡ WriteSet w)
  pub second : (0 < n) × (n ≤ length L) × (item L n ≡ WriteSet v)
  pub equal : AreEqual w v
  pub some_write : 0 < length w.writes

-- Of equal write sets at most one commits (this project): one behind another that committed is stale, or in conflict with that one or with
-- a later one. So who does not know whether an item came into the order may send it again.
pub record EqualItemsCommitOnce : Type 0 where
  pub once : (p : Setting) (L : Order) (m n : ℕ) (w v : Transaction) → AreEqualAt L m n w v → verdict p L m ≡ Commit → verdict p L n ≡ Commit → m ≡ n
  pub behind : (p : Setting) (L : Order) (m n : ℕ) (w v : Transaction) → AreEqualAt L m n w v → m < n → verdict p L m ≡ Commit →
      (verdict p L n ≡ Stale) ⊎ ((k : ℕ) × (verdict p L n ≡ Conflict k) × (m ≤ k))
