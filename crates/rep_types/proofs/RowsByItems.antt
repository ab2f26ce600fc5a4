-- The rows by the items of the order, and what takes effect.
use Rattle.std.proofs.Common.{◌≡◌, ◌≢◌, ℕ, zero, suc, ◌+◌, ◌-◌, ◌<◌, Bool, true, false, if◌then◌else◌, List, [], ◌∷◌, ◌++◌, length, filter, take, drop, get_or, Contains, Option, None, Some, refl, sym, ap, subst, ◌∙◌, ⊎_elim, arith}
use Rattle.std.specs.List.{flat_map}
use Rattle.std.specs.Option.{option_and_then, option_or}
use Rattle.std.proofs.lemmas.Bool.{false_from_ne_true}
use Rattle.std.proofs.lemmas.List.{get_or-drop, length-drop, take-append-drop}
use Rattle.std.proofs.lemmas.List.Elements.{All-contains, Contains-append_left, Contains-append_right, Contains-append_cases}
use Rattle.rep_types.specs.declared.key.Key.{Key}
use Rattle.rep_types.specs.declared.value.Write.{Write}
use Rattle.rep_types.specs.declared.item.Item.{Item}
use Rattle.rep_types.specs.declared.item.Item.TheVariants.{WriteSet, SetWindow}
use Rattle.rep_types.specs.declared.judged.Judged.{Judged}
use Rattle.rep_types.specs.Keys.{key_eq}
use Rattle.rep_types.specs.Transactions.{key_of}
use Rattle.rep_types.specs.Items.{writes_of, written_by}
use Rattle.rep_types.specs.Settings.{Setting}
use Rattle.rep_types.specs.Order.{Order, item, latest, is_commit, counts, history, verdict, effects, row_in, rows, overwritten}
use Rattle.rep_types.specs.ByItems.{IsCommitted, IsLastWrite}
use Rattle.rep_types.proofs.Members.{Contains-first, Contains-behind, Contains-cons_cases, Contains-nothing, Contains-map, Contains-filter, Contains-from_filter}
use Rattle.rep_types.proofs.Touches.{key_eq-true, key_eq_refl}
use Rattle.rep_types.proofs.Histories.{judged, take_history, history_next, later_history}
use Rattle.rep_types.proofs.Committed.{is_commit-true, Contains-history, judged-from_history}
use Rattle.rep_types.proofs.Rows.{effects-append, effects_push, row_in-append, content_after_none}

-- what an element gives is among what all of them give
Contains-flat_map : {X Y : Type 0} (f : X → List Y) (xs : List X) (x : X) (y : Y) → Contains xs x → Contains (f x) y → Contains (flat_map f xs) y
Contains-flat_map f [] x y has gives = absurd (Contains-nothing x has)
Contains-flat_map f (z ∷ xs) x y has gives =
    ⊎_elim (λ same. Contains-append_left (f z) (flat_map f xs) y (subst (λ v. Contains (f v) y) (sym same) gives))
    (λ rest. Contains-append_right (f z) (flat_map f xs) y (Contains-flat_map f xs x y rest gives))
    (Contains-cons_cases z x xs has)

-- and each of that is given by an element
Contains-from_flat_map : {X Y : Type 0} (f : X → List Y) (xs : List X) (y : Y) → Contains (flat_map f xs) y → (x : X) × Contains xs x × Contains (f x) y
Contains-from_flat_map f [] y has = absurd (Contains-nothing y has)
Contains-from_flat_map f (z ∷ xs) y has =
    ⊎_elim (λ here. (z, Contains-first z z xs refl, here))
    (λ rest. let found = Contains-from_flat_map f xs y rest in (found.0, Contains-behind z found.0 xs found.1, found.2))
    (Contains-append_cases (f z) (flat_map f xs) y has)

-- what judged items write, those that committed
pub Contains-effects : (h : List Judged) (j : Judged) (write : Write) → Contains h j → counts j ≡ true → Contains (writes_of j.item) write → Contains (effects h) write
Contains-effects h j write has commits writes =
    Contains-flat_map (λ (x : Judged). writes_of x.item) (filter counts h) j write (Contains-filter counts h j has commits) writes

pub Contains-from_effects : (h : List Judged) (write : Write) → Contains (effects h) write → (j : Judged) × Contains h j × (counts j ≡ true) × Contains (writes_of j.item) write
Contains-from_effects h write has =
    let found = Contains-from_flat_map (λ (x : Judged). writes_of x.item) (filter counts h) write has in
    let kept = Contains-from_filter counts h found.0 found.1 in
    (found.0, kept.0, kept.1, found.2)

-- a judged item of the history that committed is a committed item of the order
committed-from_history : (p : Setting) (L : Order) (j : Judged) → Contains (history p L) j → counts j ≡ true →
    (n : ℕ) × IsCommitted p L n × (j ≡ judged p L n)
committed-from_history p L j has commits =
    let at = judged-from_history p L j has in
    let P : Judged → Type 0 = λ x. counts x ≡ true in
    (at.0, record { first = at.1; last = at.2; commit = is_commit-true (verdict p L at.0) (subst P at.3 commits) }, at.3)

-- what takes effect is what committed items write
pub effects_to : (p : Setting) (L : Order) (write : Write) → Contains (effects (history p L)) write → (n : ℕ) × IsCommitted p L n × Contains (writes_of (item L n)) write
effects_to p L write has =
    let found = Contains-from_effects (history p L) write has in
    let at = committed-from_history p L found.0 found.1 found.2 in
    let P : Judged → Type 0 = λ x. Contains (writes_of x.item) write in
    (at.0, at.1, subst P at.2 found.3)

pub effects_from : (p : Setting) (L : Order) (write : Write) → ((n : ℕ) × IsCommitted p L n × Contains (writes_of (item L n)) write) → Contains (effects (history p L)) write
effects_from p L write (n, is, has) = Contains-effects (history p L) (judged p L n) write (Contains-history p L n is.first is.last) (ap is_commit is.commit) has

-- none of the elements passes, so there is no last one that does
none_passes : {A : Type 0} (test : A → Bool) (xs : List A) → ((x : A) → Contains xs x → test x ≡ false) → latest test xs ≡ None
none_passes test [] fails = refl
none_passes {A} test (x ∷ xs) fails =
    last_none (latest test xs) (test x) x (none_passes test xs (λ y has. fails y (Contains-behind x y xs has))) (fails x (Contains-first x x xs refl))
  where
    last_none : (o : Option A) (b : Bool) (y : A) → o ≡ None → b ≡ false → option_or o (if b then Some y else None) ≡ None
    last_none None false y rest fail = refl
    last_none None true y rest fail = absurd cc
    last_none (Some z) b y rest fail = absurd cc

-- the element at i passes, and none behind it does: it is the last one that does
latest_is : {A : Type 0} (test : A → Bool) (xs : List A) (i : ℕ) (x : A) → i < length xs → get_or xs i x ≡ x → test x ≡ true →
    ((k : ℕ) (d : A) → i < k → k < length xs → test (get_or xs k d) ≡ false) → latest test xs ≡ Some x
latest_is test [] i x inside is passes last = absurd (omega arith)
latest_is {A} test (y ∷ ys) zero x inside is passes last =
    let rest : latest test ys ≡ None = none_passes test ys (λ z has. behind z has.0 has.1 has.2) in
    at_front (latest test ys) (test y) rest (ap test is ∙ passes)
  where
    behind : (z : A) (k : ℕ) → k < length ys → get_or ys k z ≡ z → test z ≡ false
    behind z k within at = ap test (sym at) ∙ last (suc k) z (omega arith) (omega (arith, within))

    at_front : (o : Option A) (b : Bool) → o ≡ None → b ≡ true → option_or o (if b then Some y else None) ≡ Some x
    at_front None true none pass = ap Some is
    at_front None false none pass = absurd cc
    at_front (Some z) b none pass = absurd cc
latest_is {A} test (y ∷ ys) (suc i) x inside is passes last =
    ap (λ (o : Option A). option_or o (if test y then Some y else None))
    (latest_is test ys i x (omega (arith, inside)) is passes (λ k d above within. last (suc k) d (omega (arith, above)) (omega (arith, within))))

-- writes of which none is of the key
no_write : (writes : List Write) (key : Key) → ((write : Write) → Contains writes write → write.key ≢ key) →
    latest (λ (write : Write). key_eq write.key key) writes ≡ None
no_write writes key apart =
    none_passes (λ (write : Write). key_eq write.key key) writes
    (λ write has. false_from_ne_true (key_eq write.key key) (λ same. apart write has (key_eq-true write.key key same)))

-- the key of what an item writes is one that it writes
Contains-written : (i : Item) (write : Write) → Contains (writes_of i) write → Contains (written_by i) write.key
Contains-written (WriteSet w) write has = Contains-map key_of w.writes write has
Contains-written (SetWindow c) write has = absurd (Contains-nothing write has)

-- a key that no committed item writes has no row
pub rows_absent : (p : Setting) (L : Order) (key : Key) → ((n : ℕ) → IsCommitted p L n → Contains (written_by (item L n)) key → ⊥) → rows p L key ≡ None
rows_absent p L key none =
    ap (option_and_then (λ (write : Write). write.value))
    (no_write (effects (history p L)) key
    (λ write has same.
    let at = effects_to p L write has in
    none at.0 at.1 (subst (Contains (written_by (item L at.0))) same (Contains-written (item L at.0) write at.2))))

-- what the items from place n on write, where none of the later ones that committed writes the key
later_apart : (p : Setting) (L : Order) (key : Key) (n : ℕ) → ((k : ℕ) → n < k → IsCommitted p L k → Contains (written_by (item L k)) key → ⊥) →
    (write : Write) → Contains (effects (drop n (history p L))) write → write.key ≢ key
later_apart p L key n none write has same =
    let h : List Judged = history p L in
    let found = Contains-from_effects (drop n h) write has in
    let j : Judged = found.0 in
    let above : n < j.seqno = All-contains (λ (x : Judged). n < x.seqno) (drop n h) j (later_history p L n) found.1 in
    let there : Contains h j = in_drop n h j found.1 in
    let at = committed-from_history p L j there found.2 in
    let seqno : j.seqno ≡ at.0 = ap (λ (x : Judged). x.seqno) at.2 in
    let P : Judged → Type 0 = λ x. Contains (writes_of x.item) write in
    let writes : Contains (writes_of (item L at.0)) write = subst P at.2 found.3 in
    none at.0 (omega (arith, above, seqno)) at.1 (subst (Contains (written_by (item L at.0))) same (Contains-written (item L at.0) write writes))
  where
    in_drop : (k : ℕ) (xs : List Judged) (x : Judged) → Contains (drop k xs) x → Contains xs x
    in_drop k xs x (i, inside, is) = (k + i, omega (arith, inside, length-drop k xs), sym (get_or-drop k xs i x) ∙ is)

-- the last of the writes of the key
last_write : (writes : List Write) (key : Key) (write : Write) → IsLastWrite writes key write → latest (λ (x : Write). key_eq x.key key) writes ≡ Some write
last_write writes key write is =
    latest_is (λ (x : Write). key_eq x.key key) writes is.place write is.inside is.is (ap (λ k. key_eq k key) is.of_key ∙ key_eq_refl key)
    (λ k d above within.
    false_from_ne_true (key_eq (get_or writes k d).key key) (λ same. is.last k d above within (key_eq-true (get_or writes k d).key key same)))

-- the row of a key that a committed item writes, and no later one that committed
pub rows_present : (p : Setting) (L : Order) (key : Key) (n : ℕ) (write : Write) → IsCommitted p L n → IsLastWrite (writes_of (item L n)) key write →
    ((k : ℕ) → n < k → IsCommitted p L k → Contains (written_by (item L k)) key → ⊥) → rows p L key ≡ write.value
rows_present p L key n write is last later =
    let h : List Judged = history p L in
    let test : Write → Bool = λ x. key_eq x.key key in
    let before : List Judged = history p (take (n - 1) L) in
    let own : List Write = writes_of (item L n) in
    let front : take n h ≡ before ++ judged p L n ∷ [] = take_history p L n ∙ history_next p L n is.first is.last in
    let chosen : (if is_commit (verdict p L n) then own else []) ≡ own = ap (λ v. if is_commit v then own else []) is.commit in
    let first : effects (take n h) ≡ effects before ++ own =
    ap effects front ∙ (effects_push before (judged p L n) ∙ ap (λ (ws : List Write). effects before ++ ws) chosen) in
    let split : effects h ≡ (effects before ++ own) ++ effects (drop n h) =
    ap effects (sym (take-append-drop n h)) ∙ (effects-append (take n h) (drop n h) ∙ ap (λ (ws : List Write). ws ++ effects (drop n h)) first) in
    let none : latest test (effects (drop n h)) ≡ None = no_write (effects (drop n h)) key (later_apart p L key n later) in
    ap (λ (ws : List Write). row_in ws key) split
    ∙ (row_in-append (effects before ++ own) (effects (drop n h)) key
    ∙ (content_after_none (row_in (effects before ++ own)) (effects (drop n h)) key none
    ∙ (row_in-append (effects before) own key ∙ ap (overwritten (row_in (effects before) key)) (last_write own key write last))))
