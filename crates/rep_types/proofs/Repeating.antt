-- Of equal write sets at most one commits.
use Rattle.std.proofs.Common.{◌≡◌, ◌⊎◌, inl, inr, ℕ, ◌<◌, ◌≤◌, List, [], ◌∷◌, ◌++◌, length, map, All, Contains, refl, sym, ap, subst, ◌∙◌, ⊎_elim, arith}
use Rattle.std.proofs.lemmas.Bool.{cases_lt}
use Rattle.std.proofs.lemmas.List.Elements.{Contains-append_right}
use Rattle.rep_types.specs.declared.key.Key.{Key}
use Rattle.rep_types.specs.declared.value.Write.{Write}
use Rattle.rep_types.specs.declared.item.Item.{Item}
use Rattle.rep_types.specs.declared.item.Item.TheVariants.{WriteSet}
use Rattle.rep_types.specs.declared.verdict.Verdict.{Verdict}
use Rattle.rep_types.specs.declared.verdict.Verdict.TheVariants.{Commit, Conflict, Stale, Future, BadKey}
use Rattle.rep_types.specs.Transactions.{Transaction, key_of, written, named}
use Rattle.rep_types.specs.Items.{seen_by, written_by, named_by}
use Rattle.rep_types.specs.Settings.{Setting, IsRow}
use Rattle.rep_types.specs.Order.{Order, item, verdict}
use Rattle.rep_types.specs.Verdicts.{Meets, IsCertifiable, IsVerdictOn, AreEqual, AreEqualAt, EqualItemsCommitOnce}
use Rattle.rep_types.proofs.Members.{Contains-first}
use Rattle.rep_types.proofs.VerdictsByPairs.{AreVerdicts-verdict}

-- what writes something has a first key
first_key : (writes : List Write) → 0 < length writes → (key : Key) × Contains (map key_of writes) key
first_key [] some = absurd (omega (arith, some))
first_key (write ∷ writes) some = (write.key, Contains-first (key_of write) write.key (map key_of writes) refl)

-- equal write sets name the same keys
same_names : (w v : Transaction) → AreEqual w v → named v ≡ named w
same_names w v same = ap (λ (reads : List Key). reads ++ written v) same.reads ∙ ap (λ (writes : List Write). w.reads ++ map key_of writes) same.writes

module _ (p : Setting) (L : Order) (m n : ℕ) (w v : Transaction) (at : AreEqualAt L m n w v) (above : m < n) (commit : verdict p L m ≡ Commit) where
  -- the first was certified
  certified : IsCertifiable p L m w
  certified =
      let said : IsVerdictOn p L (verdict p L) m (item L m) (verdict p L m) = AreVerdicts-verdict p L m at.first.0 at.first.1 in
      (subst (λ (x : Verdict). IsVerdictOn p L (verdict p L) m (WriteSet w) x) commit (subst (λ (i : Item). IsVerdictOn p L (verdict p L) m i (verdict p L m)) at.first.2 said)).0

  -- it meets the second
  meets : Meets L m n
  meets =
      let key = first_key w.writes at.some_write in
      let has : Contains (named v) key.0 = subst (λ (keys : List Key). Contains keys key.0) (sym (same_names w v at.equal)) (Contains-append_right w.reads (written w) key.0 key.1) in
      record {
        unseen = subst (λ (i : Item). seen_by i < m) (sym at.second.2) (subst (λ (s : ℕ). s < m) (sym at.equal.seen) certified.past);
        before = above;
        common = (key.0, subst (λ (i : Item). Contains (written_by i) key.0) (sym at.first.2) key.1, subst (λ (i : Item). Contains (named_by i) key.0) (sym at.second.2) has);
      }

  -- so these verdicts are left for it
  left : (x : Verdict) → verdict p L n ≡ x → IsVerdictOn p L (verdict p L) n (WriteSet v) x → (verdict p L n ≡ Stale) ⊎ ((k : ℕ) × (verdict p L n ≡ Conflict k) × (m ≤ k))
  left Commit is said = absurd (said.1 m meets commit)
  left (Conflict k) is said = ⊎_elim (λ below. absurd (said.3 m below meets commit)) (λ most. inr (k, is, most)) (cases_lt k m)
  left Stale is said = inl is
  left Future is said = absurd (omega (arith, said, at.equal.seen, certified.past, above))
  left BadKey is said = absurd (said.1 (subst (λ (keys : List Key). All (IsRow p.rows) keys) (sym (same_names w v at.equal)) certified.keys))

  pub behind : (verdict p L n ≡ Stale) ⊎ ((k : ℕ) × (verdict p L n ≡ Conflict k) × (m ≤ k))
  behind =
      let said : IsVerdictOn p L (verdict p L) n (item L n) (verdict p L n) = AreVerdicts-verdict p L n at.second.0 at.second.1 in
      left (verdict p L n) refl (subst (λ (i : Item). IsVerdictOn p L (verdict p L) n i (verdict p L n)) at.second.2 said)

  pub not_both : verdict p L n ≡ Commit → ⊥
  not_both again = by behind
    where
      by : (verdict p L n ≡ Stale) ⊎ ((k : ℕ) × (verdict p L n ≡ Conflict k) × (m ≤ k)) → ⊥
      by (inl stale) = let never : Stale ≡ Commit = sym stale ∙ again in cc
      by (inr conflict) = let never : Conflict conflict.0 ≡ Commit = sym conflict.1 ∙ again in cc

-- either may come first
turned : (L : Order) (m n : ℕ) (w v : Transaction) → AreEqualAt L m n w v → AreEqualAt L n m v w
turned L m n w v at = record {
  first = at.second;
  second = at.first;
  equal = record { seen = sym at.equal.seen; reads = sym at.equal.reads; writes = sym at.equal.writes };
  some_write = subst (λ (writes : List Write). 0 < length writes) (sym at.equal.writes) at.some_write;
}

once : (p : Setting) (L : Order) (m n : ℕ) (w v : Transaction) → AreEqualAt L m n w v → verdict p L m ≡ Commit → verdict p L n ≡ Commit → m ≡ n
once p L m n w v at one other =
    ⊎_elim (λ below. absurd (not_both p L m n w v at below one other)) (λ most. ⊎_elim (λ below. absurd (not_both p L n m v w (turned L m n w v at) below other one)) (λ least. omega (arith, most, least)) (cases_lt n m))
    (cases_lt m n)

pub equal_items : EqualItemsCommitOnce
equal_items = record { once = once; behind = behind }
