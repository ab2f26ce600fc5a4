-- The pages with a change, gathered row by row.
use Rattle.std.proofs.Common.{◌≡◌, ◌∙◌, refl, sym, ap, subst, ℕ, ◌⊎◌, inl, inr, Bool, true, false, true≢false, cond, List, [], ◌∷◌, Option, Some, None, IsSome, IsNone, IfSome, ◌==◌, arith}
use Rattle.std.specs.Prelude.{Contains}
use Rattle.std.specs.Option.{option_or}
use Rattle.std.specs.List.{dedup}
use Rattle.std.specs.List.Sorted.{IsPermutation, IsSorted}
use Rattle.std.specs.Ordering.{nat_cmp}
use Rattle.std.proofs.lemmas.List.Elements.{Contains-append_left, Contains-push, Contains-push_cases}
use Rattle.std.proofs.lemmas.List.Kept.{Contains-dedup_nat, Contains-from_dedup}
use Rattle.std.proofs.lemmas.List.Sorted.{Contains-permutation, IsPermutation-sym}
use Rattle.std.proofs.lemmas.Map.Keys.{IsStrictlyIncreasing-dedup}
use Rattle.std.specs.FinMap.{get}
use Rattle.rep_types.specs.declared.key.Key.{Key}
use Rattle.rep_types.specs.Keys.{key_eq}
use Rattle.rep_layout.specs.Rows.{row_place}
use Rattle.rep_versions.specs.declared.versions.VersionKey.{VersionKey}
use Rattle.rep_versions.specs.Versions.{Version, Kept, HasChange, IsWithin, ArePages, NotesPage}
use Rattle.rep_versions.specs.Rows.{RowVersions, made_at, named, all_named, kept_of, ChangesPage}
use Rattle.rep_versions.proofs.Places.{found_at, get_version}
use Rattle.rep_versions.proofs.OfRows.{Rows, version, one_key, found_append, found_named, key_is}

-- the page of a row
abbrev pub page : List ℕ → VersionKey → ℕ
page rows v = (row_place rows v.key).page

-- a version is found in the one or the other
found_cases : (o p : Option Version) → IsSome (option_or o p) → IsSome o ⊎ IsSome p
found_cases None p h = inr h
found_cases (Some x) p h = inl h

found_left : (o p : Option Version) → IsSome o → IsSome (option_or o p)
found_left None p h = absurd (true≢false (sym h))
found_left (Some x) p h = h

found_right : (o p : Option Version) → IsSome p → IsSome (option_or o p)
found_right None p h = h
found_right (Some x) p h = refl

-- a version that a row has under its name is of that row
of_row : (key : Key) (row : RowVersions) (q : VersionKey) → IsSome (found_at (named key row) q) → (q.key ≡ key) × IsSome (made_at row q.seqno)
of_row key row q some = by (key_eq q.key key) refl (subst IsSome (found_named key row q.key q.seqno) some)
  where
    by : (b : Bool) → key_eq q.key key ≡ b → IsSome (cond b (made_at row q.seqno) None) → (q.key ≡ key) × IsSome (made_at row q.seqno)
    by true is h = (one_key q.key key is, h)
    by false is h = absurd (true≢false (sym h))

in_row : (key : Key) (row : RowVersions) (s : ℕ) → IsSome (made_at row s) → IsSome (found_at (named key row) (version key s))
in_row key row s some = subst IsSome (sym (found_named key row key s ∙ ap (λ b. cond b (made_at row s) None) (key_is key))) some

module _ (kept : Kept) (rows : List ℕ) (base position : ℕ) where
  -- these are the pages of the rows before those that are left
  pub record Gathers (pages : List ℕ) (left : Rows) : Type 0 where
    pub only : (p : ℕ) → Contains pages p → HasChange kept rows base position p
    pub all : (q : VersionKey) → IsSome (get kept q) → IsWithin rows base position q → Contains pages (page rows q) ⊎ IsSome (found_at (all_named left) q)
    pub within : (q : VersionKey) → IsSome (found_at (all_named left) q) → IsSome (get kept q)

  -- the pages after one more, if there is one
  still_there : (p : Option ℕ) (pages more : List ℕ) (x : ℕ) → NotesPage p pages more → Contains pages x → Contains more x
  still_there None pages more x h there = subst (λ xs. Contains xs x) (sym h) there
  still_there (Some p) pages more x (inl h) there = subst (λ xs. Contains xs x) (sym h.0) there
  still_there (Some p) pages more x (inr h) there = subst (λ xs. Contains xs x) (sym h.0) (Contains-append_left pages (p ∷ []) x there)

  now_there : (p : ℕ) (pages more : List ℕ) → NotesPage (Some p) pages more → Contains more p
  now_there p pages more (inl h) = subst (λ xs. Contains xs p) (sym h.0) h.1
  now_there p pages more (inr h) = subst (λ xs. Contains xs p) (sym h.0) (Contains-push pages p)

  was_there : (p : Option ℕ) (pages more : List ℕ) (x : ℕ) → NotesPage p pages more → Contains more x → Contains pages x ⊎ (p ≡ Some x)
  was_there None pages more x h there = inl (subst (λ xs. Contains xs x) h there)
  was_there (Some p) pages more x (inl h) there = inl (subst (λ xs. Contains xs x) h.0 there)
  was_there (Some p) pages more x (inr h) there = last (Contains-push_cases pages p x (subst (λ xs. Contains xs x) h.0 there))
    where
      last : Contains pages x ⊎ (p ≡ x) → Contains pages x ⊎ (◌≡◌ {A = Option ℕ} (Some p) (Some x))
      last (inl t) = inl t
      last (inr e) = inr (ap Some e)

  module _ (p : Option ℕ) (pages more : List ℕ) (key : Key) (row : RowVersions) (left : Rows) (some : IfSome p (ChangesPage rows base position key row))
      (none : IsNone p → (s : ℕ) → IsSome (made_at row s) → IsWithin rows base position (version key s) → ⊥) (noted : NotesPage p pages more) (g : Gathers pages ((key, row) ∷ left)) where
    found_first : (q : VersionKey) → IsSome (found_at (named key row) q) → IsSome (get kept q)
    found_first q h = g.within q (subst IsSome (sym (found_append (named key row) (all_named left) q)) (found_left _ _ h))

    only_more : (x : ℕ) → Contains pages x ⊎ (p ≡ Some x) → HasChange kept rows base position x
    only_more x (inl there) = g.only x there
    only_more x (inr is) =
        let c : ChangesPage rows base position key row x = subst (λ o. IfSome o (ChangesPage rows base position key row)) is some in
        record { version = version key c.seqno; stands = found_first (version key c.seqno) (in_row key row c.seqno c.stands); within = c.within; there = c.there }

    -- a version of the row that counts has its page
    row_there : (q : VersionKey) → q.key ≡ key → IsSome (made_at row q.seqno) → IsWithin rows base position q → Contains more (page rows q)
    row_there q same made counts = by p refl
      where
        by : (o : Option ℕ) → p ≡ o → Contains more (page rows q)
        by None is = absurd (none (subst IsNone (sym is) refl) q.seqno made (subst (λ k. IsWithin rows base position (version k q.seqno)) same counts))
        by (Some x) is =
            let c : ChangesPage rows base position key row x = subst (λ o. IfSome o (ChangesPage rows base position key row)) is some in
            subst (Contains more) (sym (ap (λ k. (row_place rows k).page) same ∙ c.there)) (now_there x pages more (subst (λ o. NotesPage o pages more) is noted))

    all_more : (q : VersionKey) → IsWithin rows base position q → Contains pages (page rows q) ⊎ IsSome (found_at (all_named ((key, row) ∷ left)) q)
        → Contains more (page rows q) ⊎ IsSome (found_at (all_named left) q)
    all_more q counts (inl there) = inl (still_there p pages more (page rows q) noted there)
    all_more q counts (inr found) = by (found_cases _ _ (subst IsSome (found_append (named key row) (all_named left) q) found))
      where
        by : IsSome (found_at (named key row) q) ⊎ IsSome (found_at (all_named left) q) → Contains more (page rows q) ⊎ IsSome (found_at (all_named left) q)
        by (inl h) = let of = of_row key row q h in inl (row_there q of.0 of.1 counts)
        by (inr h) = inr h

    pub gathered : Gathers more left
    gathered = record {
      only = λ x there. only_more x (was_there p pages more x noted there);
      all = λ q h counts. all_more q counts (g.all q h counts);
      within = λ q h. g.within q (subst IsSome (sym (found_append (named key row) (all_named left) q)) (found_right _ _ h));
    }

  -- the gathered pages in order, each once
  pub in_order : (pages sorted : List ℕ) → Gathers pages [] → IsPermutation pages sorted → IsSorted nat_cmp sorted → ArePages kept rows base position (dedup (λ a b. a == b) sorted)
  in_order pages sorted g moved up = record {
    ascend = IsStrictlyIncreasing-dedup sorted up;
    all = λ p change. Contains-dedup_nat sorted p (Contains-permutation pages sorted p moved (gathered_all p change));
    only = λ p there. g.only p (Contains-permutation sorted pages p (IsPermutation-sym pages sorted moved) (Contains-from_dedup (λ a b. a == b) sorted p there));
  }
    where
      gathered_all : (p : ℕ) → HasChange kept rows base position p → Contains pages p
      gathered_all p change = by (g.all change.version change.stands change.within)
        where
          by : Contains pages (page rows change.version) ⊎ IsSome (found_at [] change.version) → Contains pages p
          by (inl h) = subst (Contains pages) change.there h
          by (inr h) = absurd (true≢false (sym h))

-- in the beginning
pub begun : (es : Rows) (rows : List ℕ) (base position : ℕ) → Gathers (kept_of es) rows base position [] es
begun es rows base position = record {
  only = λ p there. absurd (omega (arith, there.1));
  all = λ q some counts. inr (subst IsSome (get_version (all_named es) q) some);
  within = λ q some. subst IsSome (sym (get_version (all_named es) q)) some;
}
