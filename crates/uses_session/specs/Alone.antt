-- Transactions that run alone, and what sessions come to beside them.
use Rattle.std.specs.Prelude.{◌≡◌, ℕ, ◌-◌, List, Option, Result, Ok}
use Rattle.rep_types.specs.declared.key.Key.{Key}
use Rattle.rep_types.specs.declared.refusal.Refusal.{Refusal}
use Rattle.rep_types.specs.Settings.{Setting}
use Rattle.rep_types.specs.Transactions.{Transaction}
use Rattle.rep_types.specs.declared.item.Item.TheVariants.{WriteSet as OfWriteSet}
use Rattle.rep_types.specs.Order.{Order, item, read, content_after}
use Rattle.rep_types.specs.ByItems.{IsCommitted}
use Rattle.rep_session.specs.declared.finished.Finished.{Finished}
use Rattle.rep_session.specs.declared.finished.Finished.TheVariants.{ReadOnly, WriteSet}
use Rattle.rep_session.specs.Sessions.{Progress, begun, finished}
use Rattle.rep_session.specs.Runs.{Call, Runs, WasGot, done}

-- The calls are those of a transaction that runs alone, from these rows to those: each get that was answered has found what stands
-- there behind the writes that were done before it, and the rows at the end are those behind all its writes.
pub record RunsAlone (from : Key → Option (List ℕ)) (calls : List Call) (to : Key → Option (List ℕ)) : Type 0 where
  pub gets : (key : Key) (answer : Option (List ℕ)) (got : WasGot calls key answer) → answer ≡ content_after from (done got.before) key
  pub leaves : (key : Key) → to key ≡ content_after from (done calls) key

-- the rows in the state after the first s items
abbrev pub rows_at : Setting → Order → ℕ → Key → Option (List ℕ)
rows_at p L s key = read p L key s

-- Serializability (Pedone, Guerraoui and Schiper 2003), of sessions whose rows are those of an order. One whose write set is an
-- item of the order and commits runs as alone at the item's own place. One that wrote nothing runs as alone at its snapshot.
pub record SessionsRunAlone {S : Type 0} (gives : S → Key → ℕ → Result (Option (List ℕ)) Refusal → S → Type 0) (are_of : S → Setting → Order → Type 0) : Type 0 where
  pub committed : (p : Setting) (L : Order) (source trx snapshot : ℕ) (tables : List ℕ) (calls : List Call) (u : Progress) (n : ℕ) (w : Transaction) →
      Runs gives are_of p L (begun source trx tables snapshot) calls u → item L n ≡ OfWriteSet w → finished u ≡ WriteSet w → IsCommitted p L n →
      RunsAlone (rows_at p L (n - 1)) calls (rows_at p L n)
  pub read_only : (p : Setting) (L : Order) (source trx snapshot : ℕ) (tables : List ℕ) (calls : List Call) (u : Progress) →
      Runs gives are_of p L (begun source trx tables snapshot) calls u → finished u ≡ ReadOnly →
      RunsAlone (rows_at p L snapshot) calls (rows_at p L snapshot)

-- a write set that a session ended with has these labels
abbrev pub AreLabelled : ℕ → ℕ → Result Finished Refusal → Type 0
AreLabelled source trx ends = (w : Transaction) → ends ≡ Ok (WriteSet w) → (w.source ≡ source) × (w.trx ≡ trx)
