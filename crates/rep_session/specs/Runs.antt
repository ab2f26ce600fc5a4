-- What an application does in a session, and what it comes to.
use Rattle.std.specs.Prelude.{◌≡◌, ◌↔◌, ℕ, ◌-◌, ◌<◌, ◌≤◌, List, [], ◌∷◌, ◌++◌, length, Contains, Option, Some, None, Result, Ok, Err, ⊤}
use Rattle.rep_types.specs.declared.key.Key.{Key}
use Rattle.rep_types.specs.declared.value.Write.{Write}
use Rattle.rep_types.specs.declared.refusal.Refusal.{Refusal}
use Rattle.rep_types.specs.declared.verdict.Verdict.TheVariants.{Commit}
use Rattle.rep_types.specs.Keys.{key_eq}
use Rattle.rep_types.specs.Settings.{Setting}
use Rattle.rep_types.specs.declared.item.Item.TheVariants.{WriteSet as OfWriteSet}
use Rattle.rep_types.specs.Transactions.{Transaction}
use Rattle.rep_types.specs.Order.{Order, item, verdict, read, latest}
use Rattle.rep_session.specs.declared.finished.Finished.TheVariants.{WriteSet}
use Rattle.rep_session.specs.Sessions.{Progress, Gets, Writes, begun, finished, write_of}

-- a call on an open session, and its answer: a get of a key, or a put or delete
pub data Call : Type 0 where
  Got : (key : Key) → (answer : Result (Option (List ℕ)) Refusal) → Call
  Wrote : (write : Write) → (answer : Result ⊤ Refusal) → Call

-- A call at t, and u behind it. The rows of a get are those of the order L.
abbrev pub Does : {S : Type 0} → (S → Key → ℕ → Result (Option (List ℕ)) Refusal → S → Type 0) → (S → Setting → Order → Type 0) →
    Setting → Order → Progress → Call → Progress → Type 0
Does {S} gives are_of p L t (Got key answer) u = (a : S) × ((b : S) × (Gets gives t key a answer u b × are_of b p L))
Does {S} gives are_of p L t (Wrote write answer) u = Writes t write answer u

-- the calls at t one after another, and u behind the last
abbrev pub Runs : {S : Type 0} → (S → Key → ℕ → Result (Option (List ℕ)) Refusal → S → Type 0) → (S → Setting → Order → Type 0) →
    Setting → Order → Progress → List Call → Progress → Type 0
Runs gives are_of p L t [] u = t ≡ u
Runs gives are_of p L t (call ∷ calls) u = (mid : Progress) × (Does gives are_of p L t call mid × Runs gives are_of p L mid calls u)

-- the writes that were done, in their order
abbrev pub done : List Call → List Write
done [] = []
done (Got key answer ∷ calls) = done calls
done (Wrote write (Ok nothing) ∷ calls) = write ∷ done calls
done (Wrote write (Err refusal) ∷ calls) = done calls

-- the last of these writes that is of the key
abbrev pub last_write : List Write → Key → Option Write
last_write writes key = latest (λ (write : Write). key_eq write.key key) writes

-- the key was got, and this was answered
pub record WasGot (calls : List Call) (key : Key) (answer : Option (List ℕ)) : Type 0 where
  pub before : List Call
  pub behind : List Call
  pub whole : calls ≡ before ++ Got key (Ok answer) ∷ behind

-- the key was read: it was got, this row was answered, and no write of the key was done before
pub record WasRead (calls : List Call) (key : Key) (row : Option (List ℕ)) : Type 0 where
  pub got : WasGot calls key row
  pub unwritten : last_write (done got.before) key ≡ None

-- What a session comes to that was t as it began, and whose rows were those of the order L. Its reads are the keys that were
-- read, its write of a key is the last that was done, no key is written twice, and it saw the snapshot. What was read is what
-- stands in the order's state there. Where the key had been written before, the last write was answered.
pub record ComesTo (p : Setting) (L : Order) (t : Progress) (calls : List Call) (u : Progress) : Type 0 where
  pub source : u.source ≡ t.source
  pub trx : u.trx ≡ t.trx
  pub snapshot : u.snapshot ≡ t.snapshot
  pub reads : (key : Key) → Contains u.reads key ↔ ((row : Option (List ℕ)) × WasRead calls key row)
  pub writes : (key : Key) → write_of u.writes key ≡ last_write (done calls) key
  pub once : (key : Key) → last_write u.writes key ≡ write_of u.writes key
  pub rows : (key : Key) (row : Option (List ℕ)) → WasRead calls key row → row ≡ read p L key t.snapshot
  pub own : (key : Key) (answer : Option (List ℕ)) (write : Write) → (got : WasGot calls key answer) → last_write (done got.before) key ≡ Some write → answer ≡ write.value

abbrev pub SessionsComeTo : {S : Type 0} → (S → Key → ℕ → Result (Option (List ℕ)) Refusal → S → Type 0) → (S → Setting → Order → Type 0) → Type 0
SessionsComeTo gives are_of = (p : Setting) (L : Order) (source trx snapshot : ℕ) (tables : List ℕ) (calls : List Call) (u : Progress) →
    Runs gives are_of p L (begun source trx tables snapshot) calls u → ComesTo p L (begun source trx tables snapshot) calls u

-- Where the write set of a session is an item of the order and commits, each key that the session read had, at the item's own place,
-- the row that was answered.
abbrev pub SessionsAreSerial : {S : Type 0} → (S → Key → ℕ → Result (Option (List ℕ)) Refusal → S → Type 0) → (S → Setting → Order → Type 0) → Type 0
SessionsAreSerial gives are_of = (p : Setting) (L : Order) (source trx snapshot : ℕ) (tables : List ℕ) (calls : List Call) (u : Progress) (n : ℕ) (w : Transaction) →
    Runs gives are_of p L (begun source trx tables snapshot) calls u →
    0 < n → n ≤ length L → item L n ≡ OfWriteSet w → finished u ≡ WriteSet w → verdict p L n ≡ Commit →
    (key : Key) (row : Option (List ℕ)) → WasRead calls key row → row ≡ read p L key (n - 1)
