-- How a session ends, and what its writes leave.
use Rattle.std.proofs.Common.{◌≡◌, ℕ, ◌<◌, Bool, true, false, List, ◌∷◌, length, length-append, filter, Option, None, Some, Result, Ok, Err, refl, sym, ap, subst, ◌∙◌, arith}
use Rattle.std.specs.Prelude.{nat_lt, if◌then◌else◌, ⊤, MatchOption, IsOk}
use Rattle.std.specs.Option.{option_or}
use Rattle.std.proofs.lemmas.Bool.{lt-ltb}
use Rattle.rep_types.specs.declared.value.Write.{Write}
use Rattle.rep_types.specs.declared.refusal.Refusal.{Refusal}
use Rattle.rep_types.specs.declared.refusal.Refusal.TheVariants.{Closed}
use Rattle.rep_types.specs.Keys.{key_lt}
use Rattle.rep_types.specs.declared.key.Key.{Key}
use Rattle.rep_types.specs.Transactions.{Transaction, transaction}
use Rattle.rep_types.specs.Order.{overwritten}
use Rattle.rep_session.specs.declared.finished.Finished.{Finished}
use Rattle.rep_session.specs.declared.finished.Finished.TheVariants.{ReadOnly, WriteSet}
use Rattle.rep_session.specs.Sessions.{Progress, begun, after_read, with_write, finished}
use Rattle.uses_session.specs.Alone.{AreLabelled}

-- what an open session ended with
pub ended_with : (ended : Bool) (f x : Finished) → (if ended then Err Closed else Ok f) ≡ Ok x → f ≡ x
ended_with true f x e = absurd cc
ended_with false f x e = cc

-- the write set of a session that ended with one
pub set_of : (some : Bool) (w x : Transaction) → (if some then WriteSet w else ReadOnly) ≡ WriteSet x → w ≡ x
set_of true w x e = cc
set_of false w x e = absurd cc

-- what two writes leave under a key, by which of them are of it
pub two_written : (v w : Write) (out onto : Bool) (here : Option (List ℕ)) →
    overwritten here (option_or (option_or None (if onto then Some w else None)) (if out then Some v else None)) ≡ (if onto then w.value else if out then v.value else here)
two_written v w out true here = refl
two_written v w true false here = refl
two_written v w false false here = refl

-- a session that wrote has a write set
pub set_there : (writes : List Write) (w : Transaction) → 0 < length writes → (if nat_lt 0 (length writes) then WriteSet w else ReadOnly) ≡ ReadOnly → ⊥
set_there writes w some e =
    absurd (let q : WriteSet w ≡ ReadOnly = sym (ap (λ (b : Bool). if b then WriteSet w else ReadOnly) (lt-ltb 0 (length writes) some)) ∙ e in cc)

pub wrote_some : (t u : Progress) (write : Write) (nothing : ⊤) (o : Option Refusal) → MatchOption o (IsOk {E = Refusal} (Ok nothing) × (u ≡ with_write t write)) (λ r. (◌≡◌ {A = Result ⊤ Refusal} (Ok nothing) (Err r)) × (u ≡ t)) → 0 < length u.writes
wrote_some t u write nothing (Some r) h = absurd (let q : Ok nothing ≡ Err r = h.0 in cc)
wrote_some t u write nothing None h =
    let below = filter (λ (w : Write). key_lt w.key write.key) t.writes in
    let above = filter (λ (w : Write). key_lt write.key w.key) t.writes in
    let size = ap (λ (v : Progress). length v.writes) h.1 ∙ length-append below (write ∷ above) in
    omega (arith, size)

-- ---- labels

-- behind a call the labels are those before it
pub record SameLabels (t u : Progress) : Type 0 where
  pub source : u.source ≡ t.source
  pub trx : u.trx ≡ t.trx

by_equal : (t v u : Progress) → SameLabels t v → u ≡ v → SameLabels t u
by_equal t v u same e = subst (SameLabels t) (sym e) same

read_labels : (t : Progress) (key : Key) (answer : Result (Option (List ℕ)) Refusal) → SameLabels t (after_read t key answer)
read_labels t key (Ok row) = record { source = refl; trx = refl }
read_labels t key (Err refusal) = record { source = refl; trx = refl }

pub got_labels : {S : Type 0} (gives : S → Key → ℕ → Result (Option (List ℕ)) Refusal → S → Type 0) (t u : Progress) (key : Key) (a b : S) (answer : Result (Option (List ℕ)) Refusal)
    (o : Option (Result (Option (List ℕ)) Refusal)) → MatchOption o (gives a key t.snapshot answer b × (u ≡ after_read t key answer)) (λ r. (answer ≡ r) × (u ≡ t) × (b ≡ a)) → SameLabels t u
got_labels gives t u key a b answer None h = by_equal t (after_read t key answer) u (read_labels t key answer) h.1
got_labels gives t u key a b answer (Some r) h = by_equal t t u (record { source = refl; trx = refl }) h.1

pub wrote_labels : (t u : Progress) (write : Write) (answer : Result ⊤ Refusal) (o : Option Refusal) → MatchOption o (IsOk answer × (u ≡ with_write t write)) (λ r. (answer ≡ Err r) × (u ≡ t)) → SameLabels t u
wrote_labels t u write answer None h = by_equal t (with_write t write) u (record { source = refl; trx = refl }) h.1
wrote_labels t u write answer (Some r) h = by_equal t t u (record { source = refl; trx = refl }) h.1

pub then_labels : (t v u : Progress) → SameLabels t v → SameLabels v u → SameLabels t u
then_labels t v u first second = record { source = second.source ∙ first.source; trx = second.trx ∙ first.trx }

-- the write set has the labels of the session as it began
pub labelled : (source trx snapshot : ℕ) (tables : List ℕ) (t u : Progress) (ends : Result Finished Refusal) → t ≡ begun source trx tables snapshot → SameLabels t u →
    ends ≡ (if u.ended then Err Closed else Ok (finished u)) → AreLabelled source trx ends
labelled source trx snapshot tables t u ends began same answer w is =
    let own : transaction u.source u.trx u.snapshot u.reads u.writes ≡ w =
    set_of (nat_lt 0 (length u.writes)) (transaction u.source u.trx u.snapshot u.reads u.writes) w (ended_with u.ended (finished u) (WriteSet w) (sym answer ∙ is)) in (
      ap (λ (x : Transaction). x.source) (sym own) ∙ same.source ∙ ap (λ (x : Progress). x.source) began,
      ap (λ (x : Transaction). x.trx) (sym own) ∙ same.trx ∙ ap (λ (x : Progress). x.trx) began,
    )
