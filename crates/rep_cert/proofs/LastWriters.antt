-- The last writers of keys, by the entries.
use Rattle.std.proofs.Common.{◌≡◌, ℕ, ◌+◌, ◌<◌, ◌≤◌, max, Bool, true, false, ◌||◌, if◌then◌else◌, List, [], ◌∷◌, ◌++◌, map, filter, length, take, get_or, All, subst, Option, Some, None, refl, sym, ap, ◌∙◌, arith}
use Rattle.std.specs.List.{list_any, list_all}
use Rattle.std.proofs.lemmas.List.{map-append, take_more, get_or-map, length-map}
use Rattle.std.proofs.lemmas.List.Elements.{All-get_or, All-cons, All-nil, All-head, All-tail}
use Rattle.std.proofs.lemmas.List.Folds.{list_any-append}
use Rattle.std.proofs.lemmas.Bool.{ltb-true}
use Rattle.std.proofs.lemmas.Bool.Decides.{nat_tests}
use Rattle.rep_types.specs.declared.key.Key.{Key}
use Rattle.rep_types.specs.Keys.{key_eq}
use Rattle.rep_types.specs.Settings.{Setting, has_row, IsRow}
use Rattle.rep_types.specs.Entries.{Entry}
use Rattle.rep_types.specs.declared.value.Write.{Write}
use Rattle.rep_types.specs.Transactions.{Transaction, key_of, named}
use Rattle.rep_types.specs.Order.{against, touches, seqnos_against, greatest, recent, in_schema}
use Rattle.rep_types.proofs.Greatest.{greater, greatest_cons}
use Rattle.rep_cert.specs.Holdings.{upto}
use Rattle.rep_cert.specs.Writers.{last_writer, greatest_of, above, writer, Agrees}

-- the last writer among two lists of entries
pub last_writer-append : (key : Key) (es fs : List Entry) → last_writer key (es ++ fs) ≡ max (last_writer key es) (last_writer key fs)
last_writer-append key [] fs = omega arith
last_writer-append key (e ∷ es) fs = omega (arith, last_writer-append key es fs)

-- what is not above the level does not count
pub last_writer-recent : (level : ℕ) (key : Key) (es : List Entry) → max level (last_writer key (recent (level + 1) es)) ≡ max level (last_writer key es)
last_writer-recent level key [] = refl
last_writer-recent level key (e ∷ es) = grind (arith, nat_tests, last_writer-recent level key es)

-- none of the entries up to a seqno is above it
pub last_writer-upto : (k : ℕ) (key : Key) (es : List Entry) → last_writer key (upto k es) ≤ k
last_writer-upto k key [] = omega arith
last_writer-upto k key (e ∷ es) = grind (arith, nat_tests, last_writer-upto k key es)

-- no key touches an empty list
touches_none : (keys : List Key) → touches keys [] ≡ false
touches_none [] = refl
touches_none (key ∷ keys) = touches_none keys

-- one more key to touch
touches_cons : (keys : List Key) (name : Key) (names : List Key) → touches keys (name ∷ names) ≡ (list_any (λ (k : Key). key_eq k name) keys || touches keys names)
touches_cons [] name names = refl
touches_cons (key ∷ keys) name names = grind (arith, touches_cons keys name names)

-- keys that no entry wrote have no writer
greatest_of_none : (keys : List Key) → greatest_of (λ (key : Key). 0) keys ≡ 0
greatest_of_none [] = refl
greatest_of_none (key ∷ keys) = omega (arith, greatest_of_none keys)

-- one more entry, where it wrote one of the keys
greatest_of_entry : (e : Entry) (es : List Entry) (keys : List Key) →
    greatest_of (λ (key : Key). last_writer key (e ∷ es)) keys ≡ max (if touches e.keys keys then e.seqno else 0) (greatest_of (λ (key : Key). last_writer key es) keys)
greatest_of_entry e es [] = rw (touches_none e.keys) refl
greatest_of_entry e es (key ∷ keys) = grind (arith, touches_cons e.keys key keys, greatest_of_entry e es keys)

-- one more key
pub greatest_of_push : (number : Key → ℕ) (keys : List Key) (key : Key) → greatest_of number (keys ++ key ∷ []) ≡ max (number key) (greatest_of number keys)
greatest_of_push number [] key = refl
greatest_of_push number (k ∷ keys) key = omega (arith, greatest_of_push number keys key)

-- the keys of two lists
pub greatest_of-append : (number : Key → ℕ) (keys others : List Key) → greatest_of number (keys ++ others) ≡ max (greatest_of number keys) (greatest_of number others)
greatest_of-append number [] others = omega arith
greatest_of-append number (key ∷ keys) others = omega (arith, greatest_of-append number keys others)

above_none : (seen : ℕ) → above seen 0 ≡ None
above_none seen = grind (arith, nat_tests)

above_max : (seen a b : ℕ) → above seen (max a b) ≡ greater (above seen a) (above seen b)
above_max seen a b = grind (arith, nat_tests)

-- one more entry in front, where it stands against the item
greatest_cons_test : (b : Bool) (e : Entry) (es : List Entry) →
    greatest (map (λ (f : Entry). f.seqno) (if b then e ∷ es else es)) ≡ greater (if b then Some e.seqno else None) (greatest (map (λ (f : Entry). f.seqno) es))
greatest_cons_test true e es = greatest_cons e.seqno (map (λ (f : Entry). f.seqno) es)
greatest_cons_test false e es = refl

-- an entry stands against the item where it wrote one of its keys and is above what that had seen
above_test : (w : Transaction) (e : Entry) → (if against w e then Some e.seqno else None) ≡ above w.last_seen (if touches e.keys (named w) then e.seqno else 0)
above_test w e = grind (arith, nat_tests)

-- the greatest seqno of the entries against an item, by the last writers of its keys
pub greatest_against_writers : (w : Transaction) (es : List Entry) → greatest (seqnos_against w es) ≡ above w.last_seen (greatest_of (λ (key : Key). last_writer key es) (named w))
greatest_against_writers w [] = sym (ap (above w.last_seen) (greatest_of_none (named w)) ∙ above_none w.last_seen)
greatest_against_writers w (e ∷ es) =
    let own : ℕ = if touches e.keys (named w) then e.seqno else 0 in
    let others : ℕ = greatest_of (λ (key : Key). last_writer key es) (named w) in
    greatest_cons_test (against w e) e (filter (against w) es)
    ∙ (ap (λ (o : Option ℕ). greater o (greatest (seqnos_against w es))) (above_test w e)
    ∙ (ap (greater (above w.last_seen own)) (greatest_against_writers w es)
    ∙ sym (ap (above w.last_seen) (greatest_of_entry e es (named w)) ∙ above_max w.last_seen own others)))

-- keys have last writers that agree above the level, where each of them has
greatest_of_alike : (level : ℕ) (rows : List ℕ) (f g : Key → ℕ) (keys : List Key) → ((key : Key) → IsRow rows key → max level (f key) ≡ max level (g key)) →
    list_all (has_row rows) keys ≡ true → max level (greatest_of f keys) ≡ max level (greatest_of g keys)
greatest_of_alike level rows f g [] alike are_rows = refl
greatest_of_alike level rows f g (key ∷ keys) alike are_rows =
    let first : has_row rows key ≡ true = grind arith in
    let rest : list_all (has_row rows) keys ≡ true = grind arith in
    let row : IsRow rows key = ltb-true _ _ first in
    omega (arith, alike key row, greatest_of_alike level rows f g keys alike rest)

-- numbers that agree above the level are alike above what is at the level or above it
above_alike : (level seen a b : ℕ) → level ≤ seen → max level a ≡ max level b → above seen a ≡ above seen b
above_alike level seen a b low alike = grind (arith, nat_tests)

-- the greatest seqno of the entries against a certifiable item, by numbers that agree with them
pub greatest_against_numbers : (p : Setting) (level : ℕ) (starts seqnos : List ℕ) (es : List Entry) (w : Transaction) →
    Agrees p.rows starts seqnos level es → level ≤ w.last_seen → in_schema p w ≡ true →
    above w.last_seen (greatest_of (writer starts seqnos) (named w)) ≡ greatest (seqnos_against w es)
greatest_against_numbers p level starts seqnos es w agrees low keys =
    above_alike level w.last_seen (greatest_of (writer starts seqnos) (named w)) (greatest_of (λ (key : Key). last_writer key es) (named w)) low
    (greatest_of_alike level p.rows (writer starts seqnos) (λ (key : Key). last_writer key es) (named w) agrees keys)
    ∙ sym (greatest_against_writers w es)

-- one step of a loop over keys, which has read the one at i
pub greatest_of_more : (number : Key → ℕ) (keys : List Key) (i : ℕ) (d : Key) (last found : ℕ) → i < length keys → last ≡ greatest_of number (take i keys) →
    found ≡ number (get_or keys i d) → max found last ≡ greatest_of number (take (i + 1) keys)
greatest_of_more number keys i d last found inside so_far is =
    rw (so_far, is) (sym (ap (greatest_of number) (take_more keys i d inside) ∙ greatest_of_push number (take i keys) (get_or keys i d)))

-- the keys of one more write
pub keys_more : (writes : List Write) (i : ℕ) (write : Write) → i < length writes → write ≡ get_or writes i write →
    map key_of (take (i + 1) writes) ≡ map key_of (take i writes) ++ write.key ∷ []
keys_more writes i write inside is =
    ap (map key_of) (take_more writes i write inside ∙ ap (λ (x : Write). take i writes ++ x ∷ []) (sym is)) ∙ map-append key_of (take i writes) (write ∷ [])

-- what holds of all written keys holds of that of one write
pub key_at : (P : Key → Type 0) (writes : List Write) (i : ℕ) (write : Write) → All P (map key_of writes) → i < length writes → write ≡ get_or writes i write → P write.key
key_at P writes i write all inside is =
    let here : get_or (map key_of writes) i write.key ≡ write.key = get_or-map key_of writes i write write.key inside ∙ ap key_of (sym is) in
    subst P here (All-get_or P (map key_of writes) i write.key (simp length-map inside) all)

-- one more key that an item wrote
pub last_writer_push : (key k : Key) (n : ℕ) (keys : List Key) →
    last_writer key ((record { seqno = n; keys = keys ++ k ∷ [] }) ∷ []) ≡ max (last_writer key ((record { seqno = n; keys = keys }) ∷ [])) (if key_eq k key then n else 0)
last_writer_push key k n keys =
    let both : list_any (λ (j : Key). key_eq j key) (keys ++ k ∷ []) ≡ (list_any (λ (j : Key). key_eq j key) keys || (key_eq k key || false)) =
    list_any-append (λ (j : Key). key_eq j key) keys (k ∷ []) in
    rw both (grind arith)

-- what holds of all elements holds of those of the second part
pub All-second : {A : Type 0} (P : A → Type 0) (xs ys : List A) → All P (xs ++ ys) → All P ys
All-second P [] ys all = all
All-second P (x ∷ xs) ys all = All-second P xs ys (All-tail P x (xs ++ ys) all)

-- one step of a loop over entries, which has read the one at i
pub last_writer_more : (key : Key) (es : List Entry) (i : ℕ) (e : Entry) → i < length es → e ≡ get_or es i e →
    last_writer key (take (i + 1) es) ≡ max (last_writer key (take i es)) (last_writer key (e ∷ []))
last_writer_more key es i e inside is =
    ap (last_writer key) (take_more es i e inside ∙ ap (λ (x : Entry). take i es ++ x ∷ []) (sym is)) ∙ last_writer-append key (take i es) (e ∷ [])

-- and of those of the first part
pub All-first : {A : Type 0} (P : A → Type 0) (xs ys : List A) → All P (xs ++ ys) → All P xs
All-first P [] ys all = All-nil P
All-first P (x ∷ xs) ys all = All-cons P x xs (All-head P x (xs ++ ys) all) (All-first P xs ys (All-tail P x (xs ++ ys) all))
