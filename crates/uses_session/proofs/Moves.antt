-- A row is moved by a get, a delete and a put.
use Rattle.std.proofs.Common.{◌≡◌, ℕ, ◌-◌, List, [], ◌∷◌, length, Option, None, Some, Result, Ok, Err, refl, sym, ap, subst, ◌∙◌}
use Rattle.std.specs.Prelude.{nat_lt, if◌then◌else◌, ⊤, MatchOption}
use Rattle.rep_types.specs.declared.key.Key.{Key}
use Rattle.rep_types.specs.declared.value.Write.{Write}
use Rattle.rep_types.specs.declared.refusal.Refusal.{Refusal}
use Rattle.rep_types.specs.declared.refusal.Refusal.TheVariants.{Closed}
use Rattle.rep_types.specs.Keys.{key_eq}
use Rattle.rep_types.specs.Settings.{Setting}
use Rattle.rep_types.specs.Transactions.{Transaction, transaction}
use Rattle.rep_types.specs.Order.{Order, read}
use Rattle.rep_session.specs.declared.finished.Finished.{Finished}
use Rattle.rep_session.specs.declared.finished.Finished.TheVariants.{ReadOnly, WriteSet}
use Rattle.rep_session.specs.Sessions.{Progress, begun, known, Gets, Writes, after_read, write_refusal, finished, put, delete}
use Rattle.rep_session.specs.Runs.{Call, Got, Wrote, Runs}
use Rattle.uses_session.specs.Alone.{SessionsRunAlone}
use Rattle.uses_session.specs.Moving.{Moves}
use Rattle.uses_session.proofs.Ends.{ended_with, two_written, set_there, wrote_some, got_labels, wrote_labels, then_labels, labelled}

-- a get writes nothing
same_writes : (t u : Progress) (key : Key) (answer : Result (Option (List ℕ)) Refusal) → u ≡ after_read t key answer → u.writes ≡ t.writes
same_writes t u key (Ok row) e = ap (λ (v : Progress). v.writes) e
same_writes t u key (Err r) e = ap (λ (v : Progress). v.writes) e

got_writes : {S : Type 0} (gives : S → Key → ℕ → Result (Option (List ℕ)) Refusal → S → Type 0) (t u : Progress) (key : Key) (a b : S) (answer : Result (Option (List ℕ)) Refusal)
    (o : Option (Result (Option (List ℕ)) Refusal)) → MatchOption o (gives a key t.snapshot answer b × (u ≡ after_read t key answer)) (λ r. (answer ≡ r) × (u ≡ t) × (b ≡ a)) → u.writes ≡ t.writes
got_writes gives t u key a b answer None h = same_writes t u key answer h.1
got_writes gives t u key a b answer (Some r) h = ap (λ (v : Progress). v.writes) h.1

-- a session that wrote nothing has no write set
no_set : (writes : List Write) (w x : Transaction) → writes ≡ [] → (if nat_lt 0 (length writes) then WriteSet w else ReadOnly) ≡ WriteSet x → ⊥
no_set writes w x none e =
    absurd (let q : ReadOnly ≡ WriteSet x = ap (λ (ws : List Write). if nat_lt 0 (length ws) then WriteSet w else ReadOnly) (sym none) ∙ e in cc)

module _ {S : Type 0} (gives : S → Key → ℕ → Result (Option (List ℕ)) Refusal → S → Type 0) (are_of : S → Setting → Order → Type 0) (law : SessionsRunAlone gives are_of)
    (front_gives : S → ℕ → S → Type 0) (start : S) (source trx snapshot : ℕ) (tables : List ℕ) (from to : Key) (a b : S) (t : Progress) (began : t ≡ begun source trx tables snapshot) (front : front_gives start snapshot a) (found : Option (List ℕ)) where
  -- the row was there: it was deleted and put
  module _ (v : List ℕ) (is_there : found ≡ Some v) (none nothing : ⊤) (t1 t2 u : Progress) (got : Gets gives t from a (Ok found) t1 b)
      (out : Writes t1 (delete from) (Ok none) t2) (onto : Writes t2 (put to v) (Ok nothing) u) where
    abbrev calls : List Call
    calls = Got from (Ok (Some v)) ∷ Wrote (delete from) (Ok none) ∷ Wrote (put to v) (Ok nothing) ∷ []

    runs : (p : Setting) (L : Order) → are_of b p L → Runs gives are_of p L (begun source trx tables snapshot) calls u
    runs p L of =
        let was = subst (λ (o : Option (List ℕ)). Gets gives t from a (Ok o) t1 b) is_there got in
        subst (λ (s : Progress). Runs gives are_of p L s calls u) began (t1, ((a, (b, (was, of))), (t2, (out, (u, (onto, refl))))))

    pub moves : (ends : Result Finished Refusal) → ends ≡ (if u.ended then Err Closed else Ok (finished u)) → Moves front_gives (are_of b) start source trx from to ends
    moves ends answer = record {
      labels = labelled source trx snapshot tables t u ends began
          (then_labels t t1 u (got_labels gives t t1 from a b (Ok found) (known t from) got)
          (then_labels t1 t2 u (wrote_labels t1 t2 (delete from) (Ok none) (write_refusal t1 (delete from)) out) (wrote_labels t2 u (put to v) (Ok nothing) (write_refusal t2 (put to v)) onto))) answer;
      committed = λ p L n w of here is committed key.
          let own = ended_with u.ended (finished u) (WriteSet w) (sym answer ∙ is) in
          let alone = law.committed p L source trx snapshot tables calls u n w (runs p L of) here own committed in
          alone.leaves key
          ∙ two_written (delete from) (put to v) (key_eq from key) (key_eq to key) (read p L key (n - 1))
          ∙ ap (λ (row : Option (List ℕ)). if key_eq to key then row else if key_eq from key then None else read p L key (n - 1))
          (alone.gets from (Some v) (record { before = []; behind = Wrote (delete from) (Ok none) ∷ Wrote (put to v) (Ok nothing) ∷ []; whole = refl }));
      nothing = λ is.
          absurd (set_there u.writes (transaction u.source u.trx u.snapshot u.reads u.writes) (wrote_some t2 u (put to v) nothing (write_refusal t2 (put to v)) onto)
          (ended_with u.ended (finished u) ReadOnly (sym answer ∙ is)));
    }

  -- it was not there
  module _ (is_none : found ≡ None) (u : Progress) (got : Gets gives t from a (Ok found) u b) where
    pub moves_none : (ends : Result Finished Refusal) → ends ≡ (if u.ended then Err Closed else Ok (finished u)) → Moves front_gives (are_of b) start source trx from to ends
    moves_none ends answer =
        let was : Gets gives (begun source trx tables snapshot) from a (Ok None) u b =
        subst (λ (s : Progress). Gets gives s from a (Ok None) u b) began (subst (λ (o : Option (List ℕ)). Gets gives t from a (Ok o) u b) is_none got) in
        record {
          labels = labelled source trx snapshot tables t u ends began (got_labels gives t u from a b (Ok found) (known t from) got) answer;
          committed = λ p L n w of here is committed key.
              absurd (no_set u.writes (transaction u.source u.trx u.snapshot u.reads u.writes) w
              (got_writes gives (begun source trx tables snapshot) u from a b (Ok None) (known (begun source trx tables snapshot) from) was)
              (ended_with u.ended (finished u) (WriteSet w) (sym answer ∙ is)));
          nothing = λ is. (
            snapshot,
            (
              a,
              (
                front,
                λ p L of.
                    let own = ended_with u.ended (finished u) ReadOnly (sym answer ∙ is) in
                    let alone = law.read_only p L source trx snapshot tables (Got from (Ok None) ∷ []) u (u, ((a, (b, (was, of))), refl)) own in
                    sym (alone.gets from None (record { before = []; behind = []; whole = refl })),
              ),
            ),
          );
        }
