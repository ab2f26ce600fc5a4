-- Published lists with one more change.
use Rattle.std.proofs.Common.{map, take, get_or, zero, suc, length, append_assoc, sym, ◌≡◌, ◌∙◌, refl, ap, ℕ, ◌+◌, ◌<◌, ◌≤◌, Bool, true, false, ◌==◌, if◌then◌else◌, List, [], ◌∷◌, ◌++◌, Option, None, Some, arith}
use Rattle.std.specs.Option.{option_or}
use Rattle.std.proofs.lemmas.Bool.Decides.{nat_tests}
use Rattle.std.proofs.lemmas.List.{append-nil, map-append, take_more}
use Rattle.std.proofs.lemmas.List.Sums.{fold-append}
use Rattle.rep_types.specs.declared.key.Key.{Key}
use Rattle.rep_types.specs.Order.{latest}
use Rattle.rep_types.proofs.Latest.{latest-append}
use Rattle.rep_versions.specs.Following.{made_by}
use Rattle.rep_snap.specs.declared.change.Pair.{Pair}
use Rattle.rep_snap.specs.declared.change.Change.{Change}
use Rattle.rep_snap.specs.declared.change.Change.TheVariants.{Publish, Prune}
use Rattle.rep_snap.specs.Lists.{published, front_of, oldest_of, oldest_after, Ascends, Follows, written, written_by}
use Rattle.rep_snap.specs.Views.{Listing, with_changes}

pub published-publish : (changes : List Change) (pair : Pair) → published (changes ++ Publish pair ∷ []) ≡ published changes ++ pair ∷ []
published-publish [] pair = refl
published-publish (Publish p ∷ changes) pair = ap (λ ps. p ∷ ps) (published-publish changes pair)
published-publish (Prune c ∷ changes) pair = published-publish changes pair

pub published-prune : (changes : List Change) (c : ℕ) → published (changes ++ Prune c ∷ []) ≡ published changes
published-prune [] c = refl
published-prune (Publish p ∷ changes) c = ap (λ ps. p ∷ ps) (published-prune changes c)
published-prune (Prune d ∷ changes) c = published-prune changes c

pub published-append : (xs ys : List Change) → published (xs ++ ys) ≡ published xs ++ published ys
published-append [] ys = refl
published-append (Publish pair ∷ xs) ys = ap (λ ps. pair ∷ ps) (published-append xs ys)
published-append (Prune c ∷ xs) ys = published-append xs ys

published-pairs : (pairs : List Pair) → published (map Publish pairs) ≡ pairs
published-pairs [] = refl
published-pairs (p ∷ pairs) = ap (λ ps. p ∷ ps) (published-pairs pairs)

pub published-all : (changes : List Change) (pairs : List Pair) → published (changes ++ map Publish pairs) ≡ published changes ++ pairs
published-all changes pairs = published-append changes (map Publish pairs) ∙ ap (λ ps. published changes ++ ps) (published-pairs pairs)

pub front-more : (start : ℕ) (pairs : List Pair) (pair : Pair) → front_of start (pairs ++ pair ∷ []) ≡ pair.seqno
front-more start [] pair = refl
front-more start (p ∷ pairs) pair = front-more p.seqno pairs pair

pub oldest-more : (start : ℕ) (changes : List Change) (change : Change) → oldest_of start (changes ++ change ∷ []) ≡ oldest_after (oldest_of start changes) change
oldest-more start [] change = refl
oldest-more start (c ∷ changes) change = oldest-more (oldest_after start c) changes change

pub oldest-all : (start : ℕ) (changes : List Change) (pairs : List Pair) → oldest_of start (changes ++ map Publish pairs) ≡ oldest_of start changes
oldest-all start [] [] = refl
oldest-all start [] (p ∷ pairs) = oldest-all start [] pairs
oldest-all start (c ∷ changes) pairs = oldest-all (oldest_after start c) changes pairs

pub ascends-more : (below : ℕ) (pairs : List Pair) (pair : Pair) → Ascends below pairs → front_of below pairs < pair.seqno → Ascends below (pairs ++ pair ∷ [])
ascends-more below [] pair h lt = (lt, tt)
ascends-more below (p ∷ pairs) pair h lt = (h.0, ascends-more p.seqno pairs pair h.1 lt)

-- a pair comes behind those before it
after_front : (below : ℕ) (pairs : List Pair) (i : ℕ) (d : Pair) → Ascends below pairs → i < length pairs → front_of below (take i pairs) < (get_or pairs i d).seqno
after_front below [] i d h within = absurd (omega (arith, within))
after_front below (p ∷ pairs) zero d h within = h.0
after_front below (p ∷ pairs) (suc i) d h within = after_front p.seqno pairs i d h.1 (omega (arith, within))

pub next_follows : (start : ℕ) (changes : List Change) (pairs : List Pair) (i : ℕ) (pair : Pair) → Ascends (front_of start (published changes)) pairs → i < length pairs → pair ≡ get_or pairs i pair
    → Follows start (changes ++ map Publish (take i pairs)) (Publish pair)
next_follows start changes pairs i pair h within is =
    let front : front_of start (published (changes ++ map Publish (take i pairs))) ≡ front_of (front_of start (published changes)) (take i pairs) =
    ap (front_of start) (published-all changes (take i pairs)) ∙ fold-append _ start (published changes) (take i pairs) in
    let above = after_front (front_of start (published changes)) pairs i pair h within in
    let seqno : pair.seqno ≡ (get_or pairs i pair).seqno = ap (λ p. p.seqno) is in
    omega (arith, front, above, seqno)

pub more_published : (changes : List Change) (pairs : List Pair) (i : ℕ) (pair : Pair) → i < length pairs → pair ≡ get_or pairs i pair
    → (changes ++ map Publish (take i pairs)) ++ Publish pair ∷ [] ≡ changes ++ map Publish (take (i + 1) pairs)
more_published changes pairs i pair within is =
    let longer : take (i + 1) pairs ≡ take i pairs ++ pair ∷ [] = take_more pairs i pair within ∙ ap (λ p. take i pairs ++ p ∷ []) (sym is) in
    append_assoc changes (map Publish (take i pairs)) (Publish pair ∷ []) ∙ ap (λ l. changes ++ l) (sym (ap (map Publish) longer ∙ map-append Publish (take i pairs) (pair ∷ [])))

pub none_published : {A : Type 0} (p : Listing A) (pairs : List Pair) → p.failed ≡ false → true ≡ (length pairs == 0) → (p.failed ≡ false) × (p ≡ with_changes (map Publish pairs) p)
none_published p [] ok none = (ok, ap (λ l. record p { list = l }) (sym (append-nil p.list)))
none_published p (x ∷ pairs) ok none = absurd (grind (arith, nat_tests, none))

-- what one more pair makes of the rows
over : (key : Key) (pair : Pair) (b : Bool) (o : Option Pair)
    → written_by key (option_or (option_or None (if b then Some pair else None)) o) ≡ (if b then made_by pair.writes.items key else written_by key o)
over key pair true o = refl
over key pair false o = refl

pub written-more : (pairs : List Pair) (pair : Pair) (key : Key) (s : ℕ)
    → written (pairs ++ pair ∷ []) key s ≡ (if pair.seqno == s then made_by pair.writes.items key else written pairs key s)
written-more pairs pair key s = ap (written_by key) (latest-append (λ (p : Pair). p.seqno == s) pairs (pair ∷ [])) ∙ over key pair (pair.seqno == s) _

pub front_above : (below : ℕ) (pairs : List Pair) → Ascends below pairs → below ≤ front_of below pairs
front_above below [] h = omega arith
front_above below (p ∷ pairs) h = let rest = front_above p.seqno pairs h.1 in let lt = h.0 in omega arith

-- above the front there is no pair
none_above : (below : ℕ) (pairs : List Pair) (s : ℕ) → Ascends below pairs → front_of below pairs < s → latest (λ (pair : Pair). pair.seqno == s) pairs ≡ None
none_above below [] s h lt = refl
none_above below (p ∷ pairs) s h lt =
    let low = front_above p.seqno pairs h.1 in
    let apart : (p.seqno == s) ≡ false = grind (arith, nat_tests, low, lt) in
    ap (λ o. option_or o (if p.seqno == s then Some p else None)) (none_above p.seqno pairs s h.1 lt) ∙ ap (λ b. option_or None (if b then Some p else None)) apart

pub none_written : (below : ℕ) (pairs : List Pair) (key : Key) (s : ℕ) → Ascends below pairs → front_of below pairs < s → written pairs key s ≡ None
none_written below pairs key s h lt = ap (written_by key) (none_above below pairs s h lt)
