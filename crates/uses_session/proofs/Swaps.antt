-- Two rows are swapped by two gets and two writes.
use Rattle.std.proofs.Common.{◌≡◌, ℕ, ◌-◌, List, [], ◌∷◌, Option, None, Some, Result, Ok, Err, refl, sym, ap, subst, ◌∙◌}
use Rattle.std.specs.Prelude.{if◌then◌else◌, ⊤, MatchOption}
use Rattle.rep_types.specs.declared.key.Key.{Key}
use Rattle.rep_types.specs.declared.refusal.Refusal.{Refusal}
use Rattle.rep_types.specs.declared.refusal.Refusal.TheVariants.{Closed}
use Rattle.rep_types.specs.Keys.{key_eq}
use Rattle.rep_types.specs.Settings.{Setting}
use Rattle.rep_types.specs.Transactions.{transaction}
use Rattle.rep_types.specs.Order.{Order, read}
use Rattle.rep_session.specs.declared.finished.Finished.{Finished}
use Rattle.rep_session.specs.declared.finished.Finished.TheVariants.{ReadOnly, WriteSet}
use Rattle.rep_session.specs.Sessions.{Progress, begun, known, Gets, Writes, after_read, write_refusal, finished}
use Rattle.rep_session.specs.Runs.{Call, Got, Wrote, Runs}
use Rattle.uses_session.specs.Alone.{SessionsRunAlone}
use Rattle.uses_session.specs.Swapping.{written_as, Swaps}
use Rattle.uses_session.proofs.Ends.{ended_with, two_written, set_there, wrote_some, got_labels, wrote_labels, then_labels, labelled}

module _ {S : Type 0} (gives : S → Key → ℕ → Result (Option (List ℕ)) Refusal → S → Type 0) (are_of : S → Setting → Order → Type 0) (law : SessionsRunAlone gives are_of)
    (forgets : (a b : S) (key : Key) (s : ℕ) (answer : Result (Option (List ℕ)) Refusal) (p : Setting) (L : Order) → gives a key s answer b → are_of b p L → are_of a p L) where
  -- rows behind a get are of no order that they were not of before
  before_by : (p : Setting) (L : Order) (t u : Progress) (key : Key) (answer : Result (Option (List ℕ)) Refusal) (a b : S) (o : Option (Result (Option (List ℕ)) Refusal)) →
      MatchOption o (gives a key t.snapshot answer b × (u ≡ after_read t key answer)) (λ r. (answer ≡ r) × (u ≡ t) × (b ≡ a)) → are_of b p L → are_of a p L
  before_by p L t u key answer a b None h of = forgets a b key t.snapshot answer p L h.0 of
  before_by p L t u key answer a b (Some r) h of = subst (λ (s : S). are_of s p L) h.2 of

  module _ (source trx snapshot : ℕ) (tables : List ℕ) (one other : Key) (a b c : S) (first second : Option (List ℕ)) (none nothing : ⊤) (t t1 t2 t3 u : Progress)
      (began : t ≡ begun source trx tables snapshot) (got : Gets gives t one a (Ok first) t1 b) (got_other : Gets gives t1 other b (Ok second) t2 c)
      (wrote : Writes t2 (written_as one second) (Ok none) t3) (wrote_other : Writes t3 (written_as other first) (Ok nothing) u) where
    abbrev written : List Call
    written = Wrote (written_as one second) (Ok none) ∷ Wrote (written_as other first) (Ok nothing) ∷ []

    abbrev calls : List Call
    calls = Got one (Ok first) ∷ Got other (Ok second) ∷ written

    runs : (p : Setting) (L : Order) → are_of c p L → Runs gives are_of p L (begun source trx tables snapshot) calls u
    runs p L of =
        let before : are_of b p L = before_by p L t1 t2 other (Ok second) b c (known t1 other) got_other of in
        subst (λ (s : Progress). Runs gives are_of p L s calls u) began
        (t1, ((a, (b, (got, before))), (t2, ((b, (c, (got_other, of))), (t3, (wrote, (u, (wrote_other, refl))))))))

    pub swaps : (ends : Result Finished Refusal) → ends ≡ (if u.ended then Err Closed else Ok (finished u)) → Swaps (are_of c) source trx one other ends
    swaps ends answer = record {
      labels = labelled source trx snapshot tables t u ends began
          (then_labels t t2 u (then_labels t t1 t2 (got_labels gives t t1 one a b (Ok first) (known t one) got) (got_labels gives t1 t2 other b c (Ok second) (known t1 other) got_other))
          (then_labels t2 t3 u (wrote_labels t2 t3 (written_as one second) (Ok none) (write_refusal t2 (written_as one second)) wrote)
          (wrote_labels t3 u (written_as other first) (Ok nothing) (write_refusal t3 (written_as other first)) wrote_other))) answer;
      committed = λ p L n w of here is committed key.
          let own = ended_with u.ended (finished u) (WriteSet w) (sym answer ∙ is) in
          let alone = law.committed p L source trx snapshot tables calls u n w (runs p L of) here own committed in
          alone.leaves key
          ∙ two_written (written_as one second) (written_as other first) (key_eq one key) (key_eq other key) (read p L key (n - 1))
          ∙ ap (λ (row : Option (List ℕ)). if key_eq other key then row else if key_eq one key then second else read p L key (n - 1))
          (alone.gets one first (record { before = []; behind = Got other (Ok second) ∷ written; whole = refl }))
          ∙ ap (λ (row : Option (List ℕ)). if key_eq other key then read p L one (n - 1) else if key_eq one key then row else read p L key (n - 1))
          (alone.gets other second (record { before = Got one (Ok first) ∷ []; behind = written; whole = refl }));
      written = λ is.
          set_there u.writes (transaction u.source u.trx u.snapshot u.reads u.writes) (wrote_some t3 u (written_as other first) nothing (write_refusal t3 (written_as other first)) wrote_other)
          (ended_with u.ended (finished u) ReadOnly (sym answer ∙ is));
    }
