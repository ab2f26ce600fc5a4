-- Sessions run as alone.
use Rattle.std.proofs.Common.{◌≡◌, ℕ, ◌-◌, Bool, true, List, [], ◌∷◌, length, Option, None, Some, Result, refl, sym, ap, ◌∙◌, arith}
use Rattle.std.specs.Prelude.{nat_lt, if◌then◌else◌}
use Rattle.std.proofs.lemmas.Bool.{lt-ltb}
use Rattle.rep_types.specs.declared.key.Key.{Key}
use Rattle.rep_types.specs.declared.value.Write.{Write}
use Rattle.rep_types.specs.declared.refusal.Refusal.{Refusal}
use Rattle.rep_types.specs.Settings.{Setting}
use Rattle.rep_types.specs.declared.item.Item.{Item}
use Rattle.rep_types.specs.Items.{writes_of}
use Rattle.rep_types.specs.Transactions.{Transaction, transaction}
use Rattle.rep_types.specs.Order.{Order, read, overwritten, content_after}
use Rattle.rep_types.specs.Verdicts.{StateIsEnough}
use Rattle.rep_types.specs.ByItems.{ReachByItems}
use Rattle.rep_session.specs.declared.finished.Finished.TheVariants.{ReadOnly, WriteSet}
use Rattle.rep_session.specs.Sessions.{Progress, begun, finished, write_of}
use Rattle.rep_session.specs.Runs.{Call, WasGot, WasRead, ComesTo, done, last_write, SessionsComeTo, SessionsAreSerial}
use Rattle.uses_session.specs.Alone.{RunsAlone, SessionsRunAlone, rows_at}
use Rattle.uses_session.proofs.Places.{after_commit}
use Rattle.uses_session.proofs.Ends.{set_of}

-- a transaction that ended with no write set wrote nothing
unwritten_of : (ws : List Write) (key : Key) (w : Transaction) → (if nat_lt 0 (length ws) then WriteSet w else ReadOnly) ≡ ReadOnly → write_of ws key ≡ None
unwritten_of [] key w e = refl
unwritten_of (x ∷ ws) key w e =
    let some : nat_lt 0 (length (x ∷ ws)) ≡ true = lt-ltb 0 (length (x ∷ ws)) (omega arith) in
    absurd (let q : WriteSet w ≡ ReadOnly = sym (ap (λ (b : Bool). if b then WriteSet w else ReadOnly) some) ∙ e in cc)

module _ (p : Setting) (L : Order) (t : Progress) (calls : List Call) (u : Progress) (c : ComesTo p L t calls u) where
  module _ (s : ℕ) (rows : (key : Key) (row : Option (List ℕ)) → WasRead calls key row → row ≡ read p L key s) where
    -- a get was answered what stands there behind the writes before it, where what was read is of the state at s
    got_by : (key : Key) (answer : Option (List ℕ)) (got : WasGot calls key answer) (o : Option Write) → last_write (done got.before) key ≡ o → answer ≡ overwritten (read p L key s) o
    got_by key answer got None e = rows key answer (record { got = got; unwritten = e })
    got_by key answer got (Some write) e = c.own key answer write got e

    alone : (to : Key → Option (List ℕ)) → ((key : Key) → to key ≡ content_after (rows_at p L s) (done calls) key) → RunsAlone (rows_at p L s) calls to
    alone to leaves = record {
      gets = λ key answer got. got_by key answer got (last_write (done got.before) key) refl;
      leaves = leaves;
    }

  -- what the item writes under a key is the last that was done
  item_writes : (w : Transaction) → finished u ≡ WriteSet w → (key : Key) → last_write w.writes key ≡ last_write (done calls) key
  item_writes w ends key =
      let same : transaction u.source u.trx u.snapshot u.reads u.writes ≡ w = set_of (nat_lt 0 (length u.writes)) (transaction u.source u.trx u.snapshot u.reads u.writes) w ends in
      ap (λ (x : Transaction). last_write x.writes key) (sym same) ∙ c.once key ∙ c.writes key

  -- where nothing was written no write was done
  none_done : finished u ≡ ReadOnly → (key : Key) → last_write (done calls) key ≡ None
  none_done ends key = sym (c.writes key) ∙ unwritten_of u.writes key (transaction u.source u.trx u.snapshot u.reads u.writes) ends

pub run_alone : {S : Type 0} (gives : S → Key → ℕ → Result (Option (List ℕ)) Refusal → S → Type 0) (are_of : S → Setting → Order → Type 0) →
    SessionsComeTo gives are_of → SessionsAreSerial gives are_of → StateIsEnough → ReachByItems → SessionsRunAlone gives are_of
run_alone gives are_of come serial enough reach = record {
  committed = λ p L source trx snapshot tables calls u n w runs own ends is.
      let t = begun source trx tables snapshot in
      let c : ComesTo p L t calls u = come p L source trx snapshot tables calls u runs in
      alone p L t calls u c (n - 1) (serial p L source trx snapshot tables calls u n w runs is.first is.last own ends is.commit) (rows_at p L n)
      (λ key. after_commit reach p L n key enough is ∙ ap (overwritten (read p L key (n - 1))) (ap (λ (i : Item). last_write (writes_of i) key) own ∙ item_writes p L t calls u c w ends key));
  read_only = λ p L source trx snapshot tables calls u runs ends.
      let t = begun source trx tables snapshot in
      let c : ComesTo p L t calls u = come p L source trx snapshot tables calls u runs in
      alone p L t calls u c snapshot c.rows (rows_at p L snapshot) (λ key. ap (overwritten (read p L key snapshot)) (sym (none_done p L t calls u c ends key)));
}
