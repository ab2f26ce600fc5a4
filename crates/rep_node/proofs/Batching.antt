-- Batches in parts: one item more, parts side by side, and what comes of all of them.
use Rattle.std.proofs.Common.{◌≡◌, Bool, ◌⊎◌, inl, inr, ℕ, zero, suc, ◌+◌, ◌-◌, ◌*◌, ◌/◌, ◌%◌, min, max, ◌<◌, ◌≤◌, List, [], ◌∷◌, ◌++◌, map, length, get_or, take, drop, Option, Some, None, ⊎_elim, sym, refl, ap, ◌∙◌, subst, arith, length-append, append_assoc}
use Rattle.std.specs.Prelude.{slice_get, IfSome, All}
use Rattle.std.specs.Option.{option_or}
use Rattle.std.specs.List.{sum_by}
use Rattle.std.specs.List.Sorted.{IsPermutation, IsNonDecreasingBy}
use Rattle.std.proofs.lemmas.Bool.{cases_lt}
use Rattle.std.proofs.lemmas.Grind.{div_ceil_times}
use Rattle.std.proofs.lemmas.List.{drop_all, map-append, take_all}
use Rattle.std.proofs.lemmas.List.Sums.{sum_by-cons}
use Rattle.std.proofs.lemmas.List.Elements.{All-nil, All-cons}
use Rattle.std.proofs.lemmas.List.Sorted.{All-permutation, IsPermutation-map, length_permutation, sum_by-IsPermutation}
use Rattle.std.proofs.lemmas.Option.{none-some, slice_get_read}
use mathlib.Core.Logic.{dite}
use native.Mathlib.Decide.{ℕ_discrete}
use Rattle.atomic_table.specs.Seated.{TableId}
use Rattle.rep_types.specs.declared.item.Item.{Item}
use Rattle.rep_types.specs.declared.judged.Judged.{Judged}
use Rattle.rep_types.specs.declared.verdict.Verdict.{Verdict}
use Rattle.rep_types.specs.declared.refusal.Refusal.{Refusal}
use Rattle.rep_types.specs.declared.refusal.Refusal.TheVariants.{Exhausted, OutOfMemory, Stopped}
use Rattle.rep_disk.specs.declared.disk.Disk.{Ghosts}
use Rattle.rep_ordered.specs.declared.view.Joined.{Joined}
use Rattle.rep_ordered.specs.declared.view.View.{View}
use Rattle.rep_ordered.specs.Counts.{one, total, times}
use Rattle.rep_ordered.specs.Views.{Every, Later, OwnEntry, Sees, both, given, giving}
use Rattle.rep_ordered.specs.Seats.{Place, seat_of}
use Rattle.rep_ordered.specs.Steps.{Learns}
use Rattle.rep_ordered.specs.Going.{Went}
use Rattle.rep_ordered.specs.GoingLaws.{append_nil, goes_shared, passed_joined, times_append, went_on, went_same}
use Rattle.rep_node.specs.declared.home.Home.{Home}
use Rattle.rep_node.specs.declared.batch.Receipt.{Receipt}
use Rattle.rep_node.specs.declared.batch.Batch.{Batch}
use Rattle.rep_node.specs.declared.batch.Job.{Job}
use Rattle.rep_node.specs.declared.batch.Share.{Share}
use Rattle.rep_node.specs.declared.pace.Point.{Point}
use Rattle.rep_node.specs.Homes.{IsLegal}
use Rattle.rep_node.specs.Seats.{DrewOne, IsGiven, IsSeat, Joins, PassedOrStopped, SeesLegal, WentIdle, own_entry}
use Rattle.rep_ordered.specs.Beginnings.{shorter}
use Rattle.rep_node.specs.Serving.{HandedIn, IsRefusal}
use Rattle.rep_node.specs.Batches.{AreLetOn, LetsOn, Ascends, ComeFrom, IsBatch, IsReceipt, carried, entry_of, index_of, seqno_of}
use Rattle.rep_node.proofs.Moves.{passed_went}
use Rattle.rep_node.specs.Jobs.{Adjoin, Among, Gathered, IsAll, IsDone, IsJob, IsNoted, IsPart, IsReady, IsShare, Worked, regaining}

-- ---- lists

pub every_to : {A : Type 0} (P Q : A → Type 0) (xs : List A) → ((x : A) → P x → Q x) → Every P xs → Every Q xs
every_to P Q [] f e = tt
every_to P Q (x ∷ xs) f e = (f x e.0, every_to P Q xs f e.1)

pub every_append : {A : Type 0} (P : A → Type 0) (xs ys : List A) → Every P xs → Every P ys → Every P (xs ++ ys)
every_append P [] ys e f = f
every_append P (x ∷ xs) ys e f = (e.0, every_append P xs ys e.1 f)

every_map : {A B : Type 0} (P : B → Type 0) (h : A → B) (xs : List A) → Every (λ (x : A). P (h x)) xs → Every P (map h xs)
every_map P h [] e = tt
every_map P h (x ∷ xs) e = (e.0, every_map P h xs e.1)

every_all : {A : Type 0} (P : A → Type 0) (xs : List A) → Every P xs → All P xs
every_all P [] e = All-nil P
every_all P (x ∷ xs) e = All-cons P x xs e.0 (every_all P xs e.1)

all_every : {A : Type 0} (P : A → Type 0) (xs : List A) → All P xs → Every P xs
all_every P [] all = tt
all_every P (x ∷ xs) all = (all 0 x (omega arith), all_every P xs (λ k d inside. all (suc k) d (omega arith)))

pub every_at : {A : Type 0} (P : A → Type 0) (xs : List A) (i : ℕ) (d : A) → Every P xs → i < length xs → P (get_or xs i d)
every_at P [] i d e inside = absurd (omega arith)
every_at P (x ∷ xs) zero d e inside = e.0
every_at P (x ∷ xs) (suc i) d e inside = every_at P xs i d e.1 (omega arith)

among_left : {A : Type 0} (x : A) (xs ys : List A) → Among x xs → Among x (xs ++ ys)
among_left x [] ys h = absurd h
among_left x (z ∷ xs) ys (inl same) = inl same
among_left x (z ∷ xs) ys (inr h) = inr (among_left x xs ys h)

among_right : {A : Type 0} (x : A) (xs ys : List A) → Among x ys → Among x (xs ++ ys)
among_right x [] ys h = h
among_right x (z ∷ xs) ys h = inr (among_right x xs ys h)

every_among : {A : Type 0} (P : A → Type 0) (x : A) (xs : List A) → Every P xs → Among x xs → P x
every_among P x [] e h = absurd h
every_among P x (z ∷ xs) e (inl same) = subst P same e.0
every_among P x (z ∷ xs) e (inr h) = every_among P x xs e.1 h

times_map_append : {A : Type 0} (x : ℕ) (h : A → ℕ) (xs ys : List A) → times x (map h (xs ++ ys)) ≡ times x (map h xs) + times x (map h ys)
times_map_append x h xs ys = ap (times x) (map-append h xs ys) ∙ times_append x (map h xs) (map h ys)

-- what lies between two numbers is none of those outside
times_outside : (from to x : ℕ) (xs : List ℕ) → Every (λ (i : ℕ). (from ≤ i) × (i < to)) xs → (x < from) ⊎ (to ≤ x) → times x xs ≡ 0
times_outside from to x [] e out = refl
times_outside from to x (i ∷ xs) e out = let rest = times_outside from to x xs e.1 out in let low = e.0.0 in let high = e.0.1 in
    let here : one x i ≡ 0 = ⊎_elim (λ (below : x < from). let z : one x i ≡ 0 = omega arith in z) (λ (above : to ≤ x). let z : one x i ≡ 0 = omega arith in z) out in omega arith

-- no number stands twice in two lists that lie apart
times_apart : (a b c : ℕ) (xs ys : List ℕ) → Every (λ (i : ℕ). (a ≤ i) × (i < b)) xs → Every (λ (i : ℕ). (b ≤ i) × (i < c)) ys → ((x : ℕ) → times x xs ≤ 1) → ((x : ℕ) → times x ys ≤ 1) → (x : ℕ) → times x ys + times x xs ≤ 1
times_apart a b c xs ys low high once twice x = by (cases_lt x b)
  where
    by : (x < b) ⊎ (b ≤ x) → times x ys + times x xs ≤ 1
    by (inl below) = let o = once x in let none = times_outside b c x ys high (inl below) in omega arith
    by (inr above) = let t = twice x in let none = times_outside a b x xs low (inr above) in omega arith

total_sum : {A : Type 0} (f : A → ℕ) (xs : List A) → total f xs ≡ sum_by f xs
total_sum f [] = refl
total_sum f (x ∷ xs) = let e = total_sum f xs in let s = sum_by-cons f x xs in omega arith

times_permuted : (x : ℕ) (xs ys : List ℕ) → IsPermutation xs ys → times x ys ≡ times x xs
times_permuted x xs ys p = total_sum (one x) ys ∙ (sum_by-IsPermutation (one x) xs ys p ∙ sym (total_sum (one x) xs))

-- what was lent out whole came back whole
pub lent_whole : {A : Type 0} (xs ys : List A) (n : ℕ) → length ys ≡ length xs → n ≡ length xs → take n (ys ++ drop (length ys) xs) ≡ ys
lent_whole xs ys n same is = let e : drop (length ys) xs ≡ [] = drop_all (length ys) xs (omega arith) in ap (λ l. take n (ys ++ l)) e ∙ (ap (take n) (append_nil ys) ∙ take_all n ys (omega arith))

-- ---- what adjoins

module _ {A : Type 0} (begin end : A → ℕ) where
  pub adjoin_more : (P : A → Type 0) (a b : ℕ) (xs : List A) (x : A) → Adjoin begin end P a b xs → begin x ≡ b → P x → Adjoin begin end P a (end x) (xs ++ x ∷ [])
  adjoin_more P a b [] x h at p = (at ∙ sym h, p, refl)
  adjoin_more P a b (y ∷ xs) x h at p = (h.0, h.1, adjoin_more P (end y) b xs x h.2 at p)

  pub adjoin_last : (P : A → Type 0) (a c : ℕ) (xs : List A) (x : A) → Adjoin begin end P a c (xs ++ x ∷ []) → Adjoin begin end P a (begin x) xs × P x × (end x ≡ c)
  adjoin_last P a c [] x h = (sym h.0, h.1, h.2)
  adjoin_last P a c (y ∷ xs) x h = let t = adjoin_last P (end y) c xs x h.2 in ((h.0, h.1, t.0), t.1, t.2)

  pub adjoin_each : (P Q : A → Type 0) (a c : ℕ) (xs : List A) → ((x : A) → P x → Q x) → Adjoin begin end P a c xs → Every Q xs
  adjoin_each P Q a c [] f h = tt
  adjoin_each P Q a c (x ∷ xs) f h = (f x h.1, adjoin_each P Q (end x) c xs f h.2)

  pub adjoin_to : (P Q : A → Type 0) (a c : ℕ) (xs : List A) → ((x : A) → P x → Q x) → Adjoin begin end P a c xs → Adjoin begin end Q a c xs
  adjoin_to P Q a c [] f h = h
  adjoin_to P Q a c (x ∷ xs) f h = (h.0, f x h.1, adjoin_to P Q (end x) c xs f h.2)

  pub adjoin_changed : (P Q : A → Type 0) (a c : ℕ) (xs ys : List A) → length ys ≡ length xs → ((i : ℕ) (d : A) → i < length xs → P (get_or xs i d) → Q (get_or ys i d) × (begin (get_or ys i d) ≡ begin (get_or xs i d)) × (end (get_or ys i d) ≡ end (get_or xs i d))) → Adjoin begin end P a c xs → Adjoin begin end Q a c ys
  adjoin_changed P Q a c [] [] long each h = h
  adjoin_changed P Q a c [] (y ∷ ys) long each h = absurd (omega arith)
  adjoin_changed P Q a c (x ∷ xs) [] long each h = absurd (omega arith)
  adjoin_changed P Q a c (x ∷ xs) (y ∷ ys) long each h = let t = each 0 x (omega arith) h.1 in
      (t.1 ∙ h.0, t.0, subst (λ n. Adjoin begin end Q n c ys) (sym t.2) (adjoin_changed P Q (end x) c xs ys (omega arith) (λ i d inside p. each (suc i) d (omega arith) p) h.2))

-- ---- where entries come from

come_none : (items : List Item) (from to : ℕ) → ComeFrom items from to []
come_none items from to = record { places = []; are = refl; once = λ i. omega arith; within = tt }

come_wider : (items : List Item) (from to more : ℕ) (joined : List (Joined Judged)) → to ≤ more → ComeFrom items from to joined → ComeFrom items from more joined
come_wider items from to more joined up h = record { places = h.places; are = h.are; once = h.once; within = every_to (λ (i : ℕ). (from ≤ i) × (i < to)) (λ (i : ℕ). (from ≤ i) × (i < more)) h.places (λ i w. (w.0, let b = w.1 in omega arith)) h.within }

come_next : (items : List Item) (from place : ℕ) (o : Joined Judged) (joined : List (Joined Judged)) → from ≤ place → slice_get items place ≡ carried o → ComeFrom items from place joined → ComeFrom items from (place + 1) (o ∷ joined)
come_next items from place o joined low at h = record {
  places = place ∷ h.places;
  are = λ i. sym at i ∷ h.are i;
  once = λ x. let b = h.once x in dite (ℕ_discrete x place) (λ (is : x ≡ place). let none = times_outside from place x h.places h.within (inr (omega arith)) in let here : one x place ≤ 1 = omega arith in let z : times x (place ∷ h.places) ≤ 1 = omega arith in z) (λ other. let here : one x place ≡ 0 = omega arith in let z : times x (place ∷ h.places) ≤ 1 = omega arith in z);
  within = ((low, omega arith), every_to (λ (i : ℕ). (from ≤ i) × (i < place)) (λ (i : ℕ). (from ≤ i) × (i < place + 1)) h.places (λ i w. (w.0, let b = w.1 in omega arith)) h.within);
}

come_both : (items : List Item) (a b c : ℕ) (low high : List (Joined Judged)) → a ≤ b → b ≤ c → ComeFrom items a b low → ComeFrom items b c high → ComeFrom items a c (high ++ low)
come_both items a b c low high p q l h = record {
  places = h.places ++ l.places;
  are = map-append carried high low ∙ ((λ i. h.are i ++ l.are i) ∙ sym (map-append (slice_get items) h.places l.places));
  once = λ x. let s = times_append x h.places l.places in let t = times_apart a b c l.places h.places l.within h.within l.once h.once x in omega arith;
  within = every_append (λ (i : ℕ). (a ≤ i) × (i < c)) h.places l.places
      (every_to (λ (i : ℕ). (b ≤ i) × (i < c)) (λ (i : ℕ). (a ≤ i) × (i < c)) h.places (λ i w. (let z = w.0 in omega arith, w.1)) h.within)
      (every_to (λ (i : ℕ). (a ≤ i) × (i < b)) (λ (i : ℕ). (a ≤ i) × (i < c)) l.places (λ i w. (w.0, let z = w.1 in omega arith)) l.within);
}

-- ---- parts of a batch

noted_more : (items : List Item) (low upto more : ℕ) (joined longer : List (Joined Judged)) → upto ≤ more → ((o : Joined Judged) → Among o joined → Among o longer) → (r : Receipt) → IsNoted items low upto joined r → IsNoted items low more longer r
noted_more items low upto more joined longer up has r n = record { item = n.item; at = n.at; among = has (own_entry (entry_of n.item r)) n.among; later = n.later; durable = let d = n.durable in omega arith }

pub part_none : (items : List Item) (from low upto : ℕ) → IsPart items from from low upto [] [] []
part_none items from low upto = record { few = omega arith; most = omega arith; noted = tt; seqnos = λ x. omega arith; places = λ i. omega arith; within = tt; come = come_none items from from }

-- the item at the next place is durable
pub part_next : (items : List Item) (from place low upto more : ℕ) (drawn : List ℕ) (joined : List (Joined Judged)) (rs : List Receipt) (item : Item) (seqno : ℕ) (verdict : Verdict) → from ≤ place → slice_get items place ≡ Some item → low ≤ seqno → seqno ≤ more → upto ≤ more → IsPart items from place low upto drawn joined rs
    → IsPart items from (place + 1) low more (drawn ++ seqno ∷ []) (own_entry (record { seqno = seqno; item = item; verdict = verdict }) ∷ joined) (rs ++ record { index = place; seqno = seqno; verdict = verdict } ∷ [])
part_next items from place low upto more drawn joined rs item seqno verdict above at later durable up p = let o : Joined Judged = own_entry (record { seqno = seqno; item = item; verdict = verdict }) in let r : Receipt = record { index = place; seqno = seqno; verdict = verdict } in record {
  few = let f = p.few in omega (arith, length-append drawn (seqno ∷ []));
  most = let m = p.most in omega (arith, length-append drawn (seqno ∷ []), length-append rs (r ∷ []));
  noted = every_append (IsNoted items low more (o ∷ joined)) rs (r ∷ []) (every_to (IsNoted items low upto joined) (IsNoted items low more (o ∷ joined)) rs (noted_more items low upto more joined (o ∷ joined) up (λ e h. inr h)) p.noted)
      (record { item = item; at = at; among = inl refl; later = later; durable = durable }, tt);
  seqnos = λ x. let s = p.seqnos x in let t = times_map_append x seqno_of rs (r ∷ []) in let u = times_append x drawn (seqno ∷ []) in omega arith;
  places = λ i. let t = times_map_append i index_of rs (r ∷ []) in
      let apart = times_apart from place (place + 1) (map index_of rs) (place ∷ []) (every_map (λ (i : ℕ). (from ≤ i) × (i < place)) index_of rs p.within) ((omega arith, omega arith), tt) p.places (λ x. let z : times x (place ∷ []) ≤ 1 = omega arith in z) i in omega arith;
  within = every_append (λ (r : Receipt). (from ≤ r.index) × (r.index < place + 1)) rs (r ∷ []) (every_to (λ (r : Receipt). (from ≤ r.index) × (r.index < place)) (λ (r : Receipt). (from ≤ r.index) × (r.index < place + 1)) rs (λ r w. (w.0, let b = w.1 in omega arith)) p.within) ((above, omega arith), tt);
  come = come_next items from place o joined above at p.come;
}

-- the item at the next place was refused: it joined or not
pub part_stopped : (items : List Item) (from place to low upto more number base : ℕ) (drawn : List ℕ) (joined after : List (Joined Judged)) (rs : List Receipt) (item : Item) → from ≤ place → place < to → slice_get items place ≡ Some item → upto ≤ more
    → (after ≡ joined) ⊎ (j : Judged) × (j.item ≡ item) × (base ≤ j.seqno) × (after ≡ own_entry j ∷ joined) → IsPart items from place low upto drawn joined rs → IsPart items from to low more (drawn ++ number ∷ []) after rs
part_stopped items from place to low upto more number base drawn joined after rs item above below at up joins p = record {
  few = let f = p.few in omega (arith, length-append drawn (number ∷ []));
  most = let m = p.most in omega (arith, length-append drawn (number ∷ []));
  noted = every_to (IsNoted items low upto joined) (IsNoted items low more after) rs (noted_more items low upto more joined after up has) p.noted;
  seqnos = λ x. let s = p.seqnos x in let u = times_append x drawn (number ∷ []) in omega arith;
  places = p.places;
  within = every_to (λ (r : Receipt). (from ≤ r.index) × (r.index < place)) (λ (r : Receipt). (from ≤ r.index) × (r.index < to)) rs (λ r w. (w.0, let b = w.1 in omega arith)) p.within;
  come = ⊎_elim (λ (same : after ≡ joined). subst (ComeFrom items from to) (sym same) (come_wider items from place to joined (omega arith) p.come))
      (λ (t : (j : Judged) × (j.item ≡ item) × (base ≤ j.seqno) × (after ≡ own_entry j ∷ joined)). subst (ComeFrom items from to) (sym t.3)
      (come_wider items from (place + 1) to (own_entry t.0 ∷ joined) (omega arith) (come_next items from place (own_entry t.0) joined above (at ∙ ap (λ (i : Item). Some i) (sym t.1)) p.come))) joins;
}
  where
    has : (o : Joined Judged) → Among o joined → Among o after
    has o h = ⊎_elim (λ (same : after ≡ joined). subst (Among o) (sym same) h) (λ (t : (j : Judged) × (j.item ≡ item) × (base ≤ j.seqno) × (after ≡ own_entry j ∷ joined)). subst (Among o) (sym t.3) (inr h)) joins

-- two parts, of which the second begins where the first ends
pub part_both : (items : List Item) (a b c low upto above more : ℕ) (drawn numbers : List ℕ) (joined others : List (Joined Judged)) (rs qs : List Receipt) → upto ≤ more → above ≤ more → IsPart items a b low upto drawn joined rs → IsPart items b c low above numbers others qs
    → IsPart items a c low more (numbers ++ drawn) (others ++ joined) (qs ++ rs)
part_both items a b c low upto above more drawn numbers joined others rs qs up over p q = let f = p.few in let e = q.few in record {
  few = omega (arith, length-append numbers drawn);
  most = let m = p.most in let n = q.most in omega (arith, length-append numbers drawn, length-append qs rs);
  noted = every_append (IsNoted items low more (others ++ joined)) qs rs
      (every_to (IsNoted items low above others) (IsNoted items low more (others ++ joined)) qs (noted_more items low above more others (others ++ joined) over (λ o h. among_left o others joined h)) q.noted)
      (every_to (IsNoted items low upto joined) (IsNoted items low more (others ++ joined)) rs (noted_more items low upto more joined (others ++ joined) up (λ o h. among_right o others joined h)) p.noted);
  seqnos = λ x. let s = p.seqnos x in let t = q.seqnos x in let u = times_map_append x seqno_of qs rs in let v = times_append x numbers drawn in omega arith;
  places = λ i. let t = times_map_append i index_of qs rs in
      let apart = times_apart a b c (map index_of rs) (map index_of qs) (every_map (λ (i : ℕ). (a ≤ i) × (i < b)) index_of rs p.within) (every_map (λ (i : ℕ). (b ≤ i) × (i < c)) index_of qs q.within) p.places q.places i in omega arith;
  within = every_append (λ (r : Receipt). (a ≤ r.index) × (r.index < c)) qs rs
      (every_to (λ (r : Receipt). (b ≤ r.index) × (r.index < c)) (λ (r : Receipt). (a ≤ r.index) × (r.index < c)) qs (λ r w. (let z = w.0 in omega arith, w.1)) q.within)
      (every_to (λ (r : Receipt). (a ≤ r.index) × (r.index < b)) (λ (r : Receipt). (a ≤ r.index) × (r.index < c)) rs (λ r w. (w.0, let z = w.1 in omega arith)) p.within);
  come = come_both items a b c joined others (omega arith) (omega arith) p.come q.come;
}

-- more is durable

-- the receipts in another order
pub part_permuted : (items : List Item) (from to low upto : ℕ) (drawn : List ℕ) (joined : List (Joined Judged)) (rs qs : List Receipt) → IsPermutation rs qs → IsPart items from to low upto drawn joined rs → IsPart items from to low upto drawn joined qs
part_permuted items from to low upto drawn joined rs qs moved p = record {
  few = p.few;
  most = let m = p.most in let l = length_permutation rs qs moved in omega arith;
  noted = permuted (IsNoted items low upto joined) p.noted;
  seqnos = λ x. let s = p.seqnos x in let t = times_permuted x (map seqno_of rs) (map seqno_of qs) (IsPermutation-map seqno_of rs qs moved) in omega arith;
  places = λ i. let s = p.places i in let t = times_permuted i (map index_of rs) (map index_of qs) (IsPermutation-map index_of rs qs moved) in omega arith;
  within = permuted (λ (r : Receipt). (from ≤ r.index) × (r.index < to)) p.within;
  come = p.come;
}
  where
    permuted : (P : Receipt → Type 0) → Every P rs → Every P qs
    permuted P e = all_every P qs (All-permutation P rs qs moved (every_all P rs e))

-- what does not descend, and has no number twice, ascends
pub ascending : (rs : List Receipt) → IsNonDecreasingBy seqno_of rs → ((x : ℕ) → times x (map seqno_of rs) ≤ 1) → Ascends rs
ascending [] up once = tt
ascending (r ∷ []) up once = tt
ascending (r ∷ q ∷ rs) up once = (
  let le : seqno_of r ≤ seqno_of q = up 0 1 r (omega arith) (omega arith) in let o : one r.seqno r.seqno + (one r.seqno q.seqno + times r.seqno (map seqno_of rs)) ≤ 1 = once r.seqno in let here : one r.seqno r.seqno ≡ 1 = omega arith in let apart : one r.seqno q.seqno ≡ 0 = omega arith in omega arith,
  ascending (q ∷ rs) (λ i j d le inside. up (suc i) (suc j) d (omega arith) (omega arith)) (λ x. let o : one x r.seqno + times x (map seqno_of (q ∷ rs)) ≤ 1 = once x in omega arith),
)

-- ---- all of a part

pub all_both : (a b c : ℕ) (drawn numbers : List ℕ) (rs qs : List Receipt) → IsAll a b drawn rs → IsAll b c numbers qs → IsAll a c (numbers ++ drawn) (qs ++ rs)
all_both a b c drawn numbers rs qs p q = let s = p.count in let t = p.drawn in let u = q.count in let v = q.drawn in record { count = omega (arith, length-append qs rs); drawn = omega (arith, length-append numbers drawn, length-append qs rs) }

-- where there are some, each worker gets some
pub some_each : (count workers : ℕ) → 0 < count → 0 < workers → 0 < count / workers + min 1 (count % workers)
some_each count workers some pos = go (count / workers + min 1 (count % workers)) (div_ceil_times count workers pos).0
  where
    go : (m : ℕ) → count ≤ m * workers → 0 < m
    go zero le = absurd (omega arith)
    go (suc m) le = omega arith

pub item_at : (items : List Item) (i : ℕ) (x : Item) → i < length items → x ≡ get_or items i x → slice_get items i ≡ Some x
item_at items i x inside is = slice_get_read items (length items) i x refl inside is

abbrev pub full : {A : Type 0} → Option A → Type 0
full None = ⊥
full (Some x) = Unit {0}

pub both_none : {A : Type 0} (a b : Option A) → option_or a b ≡ None → (a ≡ None) × (b ≡ None)
both_none None b e = (refl, e)
both_none (Some x) b e = absurd (subst full e tt)

either_stopped : (a b : Option Refusal) (low high most : ℕ) → low ≤ most → high ≤ most → IfSome a (λ (r : Refusal). (r ≡ Stopped) × (high ≡ 1)) → IfSome b (λ (r : Refusal). (r ≡ Stopped) × (0 < low)) → IfSome (option_or a b) (λ (r : Refusal). (r ≡ Stopped) × (0 < most))
either_stopped None None low high most p q s t = tt
either_stopped None (Some y) low high most p q s t = (t.0, let z = t.1 in omega arith)
either_stopped (Some x) b low high most p q s t = (s.0, let z = s.1 in omega arith)

stopped_one : (end : Option Refusal) (halted : ℕ) → IfSome end (λ (r : Refusal). (r ≡ Stopped) × (0 < halted)) → halted ≤ 1 → IfSome end (λ (r : Refusal). (r ≡ Stopped) × (halted ≡ 1))
stopped_one None halted why low = tt
stopped_one (Some e) halted why low = (why.0, let some = why.1 in omega (arith, some, low))

-- a worker knows of a halt or not
halts_low : (end : Option Refusal) (halted : ℕ) → (end ≡ None → halted ≡ 0) → IfSome end (λ (r : Refusal). (r ≡ Stopped) × (halted ≡ 1)) → halted ≤ 1
halts_low None halted runs stopped = let none = runs refl in omega (arith, none)
halts_low (Some r) halted runs stopped = let one = stopped.1 in omega (arith, one)

-- ---- a worker

module _ {D : Type 0} (g : Ghosts D) where
  -- What a worker has come to, who began with this view, when it is at this place.
  pub record AtPlace (items : List Item) (from place : ℕ) (v w : View (Home D) Judged) (rs : List Receipt) : Type 0 where
    pub went : Went v w
    pub seat : IsSeat g w
    pub passed : PassedOrStopped w
    pub part : IsPart items from place (v.start + length v.seen) w.durable w.own w.joined rs
    pub all : IsAll from place w.own rs

  pub at_first : (items : List Item) (from : ℕ) (v : View (Home D) Judged) (rs : List Receipt) → IsSeat g v → v.held ≡ [] → v.own ≡ [] → v.joined ≡ [] → rs ≡ [] → AtPlace items from from v v rs
  at_first items from v rs seat free own joined none = record {
    went = went_same v free;
    seat = seat;
    passed = λ running x drawn. let n : times x v.own ≡ 0 = ap (times x) own in absurd (omega arith);
    part = subst (λ (z : List ℕ × List (Joined Judged) × List Receipt). IsPart items from from (v.start + length v.seen) v.durable z.0 z.1 z.2) (λ i. (sym own i, sym joined i, sym none i)) (part_none items from (v.start + length v.seen) v.durable);
    all = let a : length v.own ≡ 0 = ap (λ (l : List ℕ). length l) own in let b : length rs ≡ 0 = ap (λ (l : List Receipt). length l) none in record { count = omega arith; drawn = omega arith };
  }

  -- the history was no shorter than where the worker began
  begun : (v w : View (Home D) Judged) → Went v w → v.start + length v.seen ≤ w.start + length w.seen
  begun v w went = let s = went.goes.start in let l = shorter w.seen v.seen went.goes.seen in omega arith

  pub at_next : (items : List Item) (from place seqno : ℕ) (verdict : Verdict) (item : Item) (v w u : View (Home D) Judged) (rs : List Receipt) → AtPlace items from place v w rs → from ≤ place → slice_get items place ≡ Some item → DrewOne g seqno w u → (PassedOrStopped w → PassedOrStopped u)
      → IsGiven item seqno verdict w u → AtPlace items from (place + 1) v u (rs ++ record { index = place; seqno = seqno; verdict = verdict } ∷ [])
  at_next items from place seqno verdict item v w u rs a low at drew passed given = record {
    went = went_on v w u a.went drew.went;
    seat = drew.seat;
    passed = passed a.passed;
    part = subst (λ (z : List ℕ × List (Joined Judged)). IsPart items from (place + 1) (v.start + length v.seen) u.durable z.0 z.1 (rs ++ record { index = place; seqno = seqno; verdict = verdict } ∷ [])) (λ i. (sym drew.own i, sym given.joined i))
        (part_next items from place (v.start + length v.seen) w.durable u.durable w.own w.joined rs item seqno verdict low at (let l = given.later in let b = begun v w a.went in omega arith) given.durable drew.went.goes.durable a.part);
    all = let c = a.all.count in let d = a.all.drawn in let o : length u.own ≡ length (w.own ++ seqno ∷ []) = ap (λ (l : List ℕ). length l) drew.own in
        record { count = omega (arith, length-append rs (record { index = place; seqno = seqno; verdict = verdict } ∷ [])); drawn = omega (arith, length-append w.own (seqno ∷ []), length-append rs (record { index = place; seqno = seqno; verdict = verdict } ∷ [])) };
  }

  pub at_refused : (items : List Item) (from place to number : ℕ) (item : Item) (v w u : View (Home D) Judged) (rs : List Receipt) → AtPlace items from place v w rs → from ≤ place → place < to → slice_get items place ≡ Some item → DrewOne g number w u → Joins item w u
      → IsPart items from to (v.start + length v.seen) u.durable u.own u.joined rs
  at_refused items from place to number item v w u rs a low below at drew joins = subst (λ (l : List ℕ). IsPart items from to (v.start + length v.seen) u.durable l u.joined rs) (sym drew.own)
      (part_stopped items from place to (v.start + length v.seen) w.durable u.durable number (w.start + length w.seen) w.own w.joined u.joined rs item low below at drew.went.goes.durable joins a.part)

module _ {D : Type 0} where
  -- ---- jobs

  pub ready_of : (g : Ghosts D) (table : TableId) (v : View (Home D) Judged) (count : ℕ) (j : Job D) → IsSeat g v → IsJob table v count j → IsReady g table count j
  ready_of g table v count j s h = let is : j.seat.view ≡ given (j.to - j.from) v = ap (λ (z : Place (Home D) Judged). z.view) h.seat in record {
    lock = ap (λ (z : Place (Home D) Judged). z.lock) h.seat;
    seat = subst (IsSeat g) (sym is) record { start = s.start; first = s.first; begins = s.begins; number = s.number; whole = s.whole; once = λ x. omega arith };
    free = ap (λ (z : View (Home D) Judged). z.held) is;
    fresh = (ap (λ (z : View (Home D) Judged). z.own) is, ap (λ (z : View (Home D) Judged). z.joined) is, h.fresh);
    range = h.range;
    allowance = let e : j.seat.view.allowance ≡ j.to - j.from = ap (λ (z : View (Home D) Judged). z.allowance) is in let r = h.range.0 in omega arith;
    room = h.room;
  }

  -- The share from this place on is split off: what is left of the seat, and the job.
  pub split_more : (table : TableId) (v : View (Home D) Judged) (place from to : ℕ) (s t : Place (Home D) Judged) → s ≡ seat_of table (giving place v) → t ≡ seat_of s.lock (giving (to - from) s.view) → from ≡ place → from < to → t ≡ seat_of table (giving to v)
  split_more table v place from to s t is then_is at some = let e : (v.allowance - place) - (to - from) ≡ v.allowance - to = omega arith in
      then_is ∙ (ap (λ (z : Place (Home D) Judged). seat_of z.lock (giving (to - from) z.view)) is ∙ (λ i. seat_of table (record v { allowance = e i })))

  pub job_of : (table : TableId) (v : View (Home D) Judged) (count place : ℕ) (share : Share) (s other : Place (Home D) Judged) → s ≡ seat_of table (giving place v) → other ≡ seat_of s.lock (given (share.to - share.from) s.view) → IsShare count share
      → IsJob table v count (record { seat = other; from = share.from; to = share.to; receipts = share.receipts; end = None })
  job_of table v count place share s other is gave h = record { seat = gave ∙ ap (λ (z : Place (Home D) Judged). seat_of z.lock (given (share.to - share.from) z.view)) is; range = h.range; room = h.room; fresh = refl }

  pub done_of : (lets : Point → ℕ → Type 0) (keeps : Bool) (table : TableId) (v : View (Home D) Judged) (items : List Item) (count : ℕ) (j k : Job D) → IsJob table v count j → Worked lets keeps items j k → IsDone lets keeps table v items count k
  done_of lets keeps table v items count j k h w = let is : j.seat.view ≡ given (j.to - j.from) v = ap (λ (z : Place (Home D) Judged). z.view) h.seat in let from = w.range.0 in let to = w.range.1 in
      let same : given (j.to - j.from) v ≡ given (k.to - k.from) v = λ i. given (sym to i - sym from i) v in
      let low : j.seat.view.start + length j.seat.view.seen ≡ v.start + length v.seen = ap (λ (z : View (Home D) Judged). z.start + length z.seen) is in record {
        lock = w.lock ∙ ap (λ (z : Place (Home D) Judged). z.lock) h.seat;
        range = (let r = h.range.0 in omega arith, let r = h.range.1 in omega arith);
        went = subst (λ (z : View (Home D) Judged). Went z k.seat.view) (is ∙ same) w.went;
        kept = λ alone. w.kept alone ∙ ap (λ (z : View (Home D) Judged). z.given_up) is;
        runs = w.runs;
        paced = w.paced;
        passed = w.passed;
        part = subst (λ (z : ℕ × ℕ × ℕ). IsPart items z.0 z.1 z.2 k.seat.view.durable k.seat.view.own k.seat.view.joined k.receipts.items) (λ i. (sym from i, sym to i, low i)) w.part;
        all = λ none. subst (λ (z : ℕ × ℕ). IsAll z.0 z.1 k.seat.view.own k.receipts.items) (λ i. (sym from i, sym to i)) (w.all none);
        stopped = w.stopped;
      }

  -- ---- the seats come together again

  pub gathered_none : (lets : Point → ℕ → Type 0) (keeps : Bool) (items : List Item) (count : ℕ) (v : View (Home D) Judged) (rs : List Receipt) → v.held ≡ [] → v.halted ≡ 0 → ((x : ℕ) → times x v.own ≤ 1) → SeesLegal v v → PassedOrStopped v → rs ≡ [] → Gathered lets keeps items count count v v rs None
  gathered_none lets keeps items count v rs free running once sees passed none = let e : v.allowance + (count - count) ≡ v.allowance = omega arith in record {
    went = subst (λ n. Went (record v { allowance = n }) v) (sym e) (went_same v free);
    kept = λ _. refl;
    runs = λ _. refl;
    low = omega arith;
    sees = sees;
    paced = subst (AreLetOn lets) (sym none) tt;
    once = once;
    passed = passed;
    drawn = [];
    own = sym (append_nil v.own);
    more = [];
    joined = sym (append_nil v.joined);
    part = subst (IsPart items count count (v.start + length v.seen) v.durable [] []) (sym none) (part_none items count (v.start + length v.seen) v.durable);
    all = λ _. let b : length rs ≡ 0 = ap (λ (l : List Receipt). length l) none in record { count = omega arith; drawn = omega arith };
    stopped = tt;
  }

  pub gathered_next : (lets : Point → ℕ → Type 0) (keeps : Bool) (table : TableId) (items : List Item) (count : ℕ) (v w u : View (Home D) Judged) (k : Job D) (rs : List Receipt) (end : Option Refusal) → v.halted ≡ 0 → Gathered lets keeps items k.to count v w rs end → IsDone lets keeps table v items count k → Learns (IsLegal w.first) k.seat.view.seen (both w k.seat.view) u
      → u.halted ≡ max w.halted k.seat.view.halted → Gathered lets keeps items k.from count v u (rs ++ k.receipts.items) (option_or k.end end)
  gathered_next lets keeps table items count v w u k rs end runs g d joined halted = let is = joined.same in let range = d.range in let up = joined.durable in let halts = joined.halted in
      let shared = goes_shared (IsLegal w.first) (k.to - k.from) (regaining (count - k.from) v) (regaining (count - k.to) v) (given (k.to - k.from) v) w k.seat.view u (omega arith)
      (let e : v.allowance + (count - k.to) ≡ (v.allowance + (count - k.from)) - (k.to - k.from) = omega arith in λ i. record v { allowance = e i }) refl g.went.goes d.went.goes joined in record {
        went = record { goes = shared.0; free = shared.1 ∙ g.went.free };
        kept = λ alone. ap (λ (z : View (Home D) Judged). z.given_up) is ∙ ((λ i. g.kept alone i ++ d.kept alone i) ∙ append_nil v.given_up);
        runs = λ none. let n = both_none k.end end none in let a = d.runs n.0 in let b = g.runs n.1 in omega (arith, halted, a, b, runs);
        low = let a = halts_low k.end k.seat.view.halted d.runs d.stopped in let b = g.low in omega (arith, halted, a, b);
        sees = subst (λ first. Sees (IsLegal first) u) (sym (ap (λ (z : View (Home D) Judged). z.first) is)) joined.sees;
        paced = every_append _ rs k.receipts.items g.paced d.paced;
        once = λ x. let o = joined.once x in let e : times x u.own ≡ times x (w.own ++ k.seat.view.own) = ap (λ (z : View (Home D) Judged). times x z.own) is in omega arith;
        passed = λ running. passed_joined 2 w k.seat.view u (ap (λ (z : View (Home D) Judged). z.own) is) (ap (λ (z : View (Home D) Judged). z.reached) is) (g.passed (omega arith)) (d.passed (omega arith));
        drawn = g.drawn ++ k.seat.view.own;
        own = ap (λ (z : View (Home D) Judged). z.own) is ∙ (ap (λ l. l ++ k.seat.view.own) g.own ∙ append_assoc v.own g.drawn k.seat.view.own);
        more = g.more ++ k.seat.view.joined;
        joined = ap (λ (z : View (Home D) Judged). z.joined) is ∙ (ap (λ l. l ++ k.seat.view.joined) g.joined ∙ append_assoc v.joined g.more k.seat.view.joined);
        part = part_both items k.from k.to count (v.start + length v.seen) k.seat.view.durable w.durable u.durable k.seat.view.own g.drawn k.seat.view.joined g.more k.receipts.items rs (omega arith) (omega arith) d.part g.part;
        all = λ none. let n = both_none k.end end none in all_both k.from k.to count k.seat.view.own g.drawn k.receipts.items rs (d.all n.0) (g.all n.1);
        stopped = either_stopped k.end end w.halted k.seat.view.halted u.halted (omega arith) (omega arith) d.stopped g.stopped;
      }

  -- ---- what came of all of them

  -- an entry that joined stands in the history
  receipt_of : (items : List Item) (v w : View (Home D) Judged) (more : List (Joined Judged)) → Every (OwnEntry w.start w.seen w.own) w.joined → w.joined ≡ v.joined ++ more → (r : Receipt) → IsNoted items (v.start + length v.seen) w.durable more r → IsReceipt items v w r
  receipt_of items v w more stand joined r n = record {
    item = n.item;
    at = n.at;
    stands = every_among (OwnEntry w.start w.seen w.own) (own_entry (entry_of n.item r)) w.joined stand (subst (Among (own_entry (entry_of n.item r))) (sym joined) (among_right (own_entry (entry_of n.item r)) v.joined more n.among));
    later = n.later;
    durable = n.durable;
  }

  pub batch_of : (law : List Judged → Type 0) (items : List Item) (from to : ℕ) (v w : View (Home D) Judged) (drawn : List ℕ) (more : List (Joined Judged)) (rs : List Receipt) → w.own ≡ v.own ++ drawn → w.joined ≡ v.joined ++ more → Sees law w → IsPart items from to (v.start + length v.seen) w.durable drawn more rs
      → IsBatch items from to v w rs
  batch_of law items from to v w drawn more rs own joined sees p = record {
    drawn = drawn;
    own = own;
    few = p.few;
    told = every_to (IsNoted items (v.start + length v.seen) w.durable more) (IsReceipt items v w) rs (receipt_of items v w more sees.placed.entries joined) p.noted;
    seqnos = p.seqnos;
    places = p.places;
    within = p.within;
    before = [];
    after = more;
    joined = joined;
    come = p.come;
  }

  pub batch_later : (items : List Item) (from to : ℕ) (u v w : View (Home D) Judged) (rs : List Receipt) → Later u v → IsBatch items from to v w rs → IsBatch items from to u w rs
  batch_later items from to u v w rs l b = let is = l.same in record {
    drawn = b.drawn;
    own = b.own ∙ ap (λ (z : View (Home D) Judged). z.own ++ b.drawn) is;
    few = b.few;
    told = every_to (IsReceipt items v w) (IsReceipt items u w) rs (λ (r : Receipt) t. record { item = t.item; at = t.at; stands = t.stands; later = let s : v.start ≡ u.start = ap (λ (z : View (Home D) Judged). z.start) is in let g = shorter v.seen u.seen l.seen in let h = t.later in omega arith; durable = t.durable }) b.told;
    seqnos = b.seqnos;
    places = b.places;
    within = b.within;
    before = b.before;
    after = b.after;
    joined = b.joined ∙ ap (λ (z : View (Home D) Judged). b.before ++ z.joined ++ b.after) is;
    come = b.come;
  }

  -- ---- all seats have come together

  pub seat_giving : (g : Ghosts D) (n : ℕ) (v a : View (Home D) Judged) → a ≡ giving n v → IsSeat g v → IsSeat g a
  seat_giving g n v a is s = subst (IsSeat g) (sym is) record { start = s.start; first = s.first; begins = s.begins; number = s.number; whole = s.whole; once = s.once }

  pub job_giving : (table : TableId) (n count : ℕ) (v a : View (Home D) Judged) (j : Job D) → a ≡ giving n v → IsJob table v count j → IsJob table a count j
  job_giving table n count v a j is h = subst (λ z. IsJob table z count j) (sym is) record { seat = h.seat; range = h.range; room = h.room; fresh = h.fresh }

  module _ (items : List Item) (n : ℕ) (lets : Point → ℕ → Type 0) (keeps : Bool) (v a w : View (Home D) Judged) (rs : List Receipt) (end : Option Refusal) (enough : n ≤ v.allowance) (is : a ≡ giving n v) (g : Gathered lets keeps items 0 n a w rs end) where
    pub settled_went : Went v w
    settled_went = subst (λ (z : View (Home D) Judged). Went z w) (ap (λ (z : View (Home D) Judged). regaining (n - 0) z) is ∙ (let e : (v.allowance - n) + (n - 0) ≡ v.allowance = omega arith in λ i. record v { allowance = e i })) g.went

    settled_own : w.own ≡ v.own ++ g.drawn
    settled_own = g.own ∙ ap (λ (z : View (Home D) Judged). z.own ++ g.drawn) is

    settled_order : (qs : List Receipt) → IsPermutation rs qs → IsNonDecreasingBy seqno_of qs → Ascends qs
    settled_order qs moved up = ascending qs up (λ x. let o = g.once x in let e : times x w.own ≡ times x (v.own ++ g.drawn) = ap (times x) settled_own in let t = times_append x v.own g.drawn in let m = g.part.seqnos x in
        let p = times_permuted x (map seqno_of rs) (map seqno_of qs) (IsPermutation-map seqno_of rs qs moved) in omega arith)

    settled_ended : (end : Option Refusal) (qs : List Receipt) → IfSome end (λ (r : Refusal). (r ≡ Stopped) × (0 < w.halted)) → w.halted ≤ 1 → IfSome end (IsRefusal n v w qs)
    settled_ended None qs why low = tt
    settled_ended (Some e) qs why low = let halted = why.1 in inl (why.0, omega (arith, halted, low))

    pub settled_stopped : IfSome end (λ (r : Refusal). (r ≡ Stopped) × (w.halted ≡ 1))
    settled_stopped = stopped_one end w.halted g.stopped g.low

    -- what came of the batch, in the order of the seqnos
    pub settled : (b : Batch) → IsPermutation rs b.receipts.items → IsNonDecreasingBy seqno_of b.receipts.items → b.end ≡ end → HandedIn lets items n v w b
    settled b moved up ends = let qs : List Receipt = b.receipts.items in record {
      went = settled_went;
      sees = subst (λ first. Sees (IsLegal first) w) settled_went.goes.first g.sees;
      passed = g.passed;
      batch = batch_of (IsLegal w.first) items 0 n v w g.drawn g.more qs settled_own
          (g.joined ∙ ap (λ (z : View (Home D) Judged). z.joined ++ g.more) is) g.sees
          (subst (λ low. IsPart items 0 n low w.durable g.drawn g.more qs) (ap (λ (z : View (Home D) Judged). z.start + length z.seen) is)
          (part_permuted items 0 n (a.start + length a.seen) w.durable g.drawn g.more rs qs moved g.part));
      order = settled_order qs moved up;
      paced = let P : Receipt → Type 0 = λ r. LetsOn lets r.seqno in all_every P qs (All-permutation P rs qs moved (every_all P rs g.paced));
      whole = λ none. let h = g.all (sym ends ∙ none) in let count = h.count in let drawn = h.drawn in let p = length_permutation rs qs moved in let e : length w.own ≡ length (v.own ++ g.drawn) = ap (λ (z : List ℕ). length z) settled_own in
          record { count = omega arith; drawn = omega (arith, length-append v.own g.drawn) };
      ended = settled_ended b.end qs (subst (λ (e : Option Refusal). IfSome e (λ (r : Refusal). (r ≡ Stopped) × (0 < w.halted))) (sym ends) g.stopped) g.low;
    }

  -- ---- a batch that came to nothing

  pub batch_none : (items : List Item) (n : ℕ) (v w : View (Home D) Judged) (rs : List Receipt) → Later v w → rs ≡ [] → IsBatch items 0 n v w rs
  batch_none items n v w rs l none = subst (IsBatch items 0 n v w) (sym none) record {
    drawn = [];
    own = ap (λ (z : View (Home D) Judged). z.own) l.same ∙ sym (append_nil v.own);
    few = omega arith;
    told = tt;
    seqnos = λ x. omega arith;
    places = λ i. omega arith;
    within = tt;
    before = [];
    after = [];
    joined = ap (λ (z : View (Home D) Judged). z.joined) l.same ∙ sym (append_nil v.joined);
    come = come_none items 0 n;
  }

-- ---- what a seat that handed a batch in has come to

-- nothing was handed in, for the node was halted, or there were too few seqnos, or no memory
pub not_handed : {D : Type 0} (lets : Point → ℕ → Type 0) (items : List Item) (n : ℕ) (v w : View (Home D) Judged) (b : Batch) (why : Refusal) → Later v w → WentIdle v w → PassedOrStopped v → b.receipts.items ≡ [] → b.end ≡ Some why
    → ((why ≡ Stopped) × (w.halted ≡ 1)) ⊎ (((why ≡ Exhausted) × (v.allowance ≤ n)) ⊎ (why ≡ OutOfMemory)) → HandedIn lets items n v w b
not_handed lets items n v w b why later idle passed none refused so = record {
  went = idle.0;
  sees = idle.3;
  passed = passed_went v w idle.0 idle.1 passed;
  batch = batch_none items n v w b.receipts.items later none;
  order = subst Ascends (sym none) tt;
  paced = subst (AreLetOn lets) (sym none) tt;
  whole = λ ended. absurd (none-some _ (sym ended ∙ refused));
  ended = subst (λ (e : Option Refusal). IfSome e (IsRefusal n v w b.receipts.items)) (sym refused) (elim so [ inl stopped ↦ inl stopped | inr other ↦ inr (other, idle.1, none) ]);
}

-- a look at the front first changes nothing of it
pub handed_later : {D : Type 0} (lets : Point → ℕ → Type 0) (items : List Item) (n : ℕ) (u v w : View (Home D) Judged) (b : Batch) → Later u v → WentIdle u v → HandedIn lets items n v w b → HandedIn lets items n u w b
handed_later lets items n u v w b later idle h = record {
  went = went_on u v w idle.0 h.went;
  sees = subst (λ first. Sees (IsLegal first) w) idle.0.goes.first h.sees;
  passed = h.passed;
  batch = batch_later items 0 n u v w b.receipts.items later h.batch;
  order = h.order;
  paced = h.paced;
  whole = λ none. let k = h.whole none in record { count = k.count; drawn = let own : length v.own ≡ length u.own = ap length idle.1 in let d = k.drawn in omega (arith, own, d) };
  ended = ended_later b.end h.ended;
}
  where
    allowance : v.allowance ≡ u.allowance
    allowance = ap (λ (z : View (Home _) Judged). z.allowance) later.same

    ended_later : (end : Option Refusal) → IfSome end (IsRefusal n v w b.receipts.items) → IfSome end (IsRefusal n u w b.receipts.items)
    ended_later None why = tt
    ended_later (Some e) (inl stopped) = inl stopped
    ended_later (Some e) (inr (inl few, own, none)) = inr (inl (few.0, let less = few.1 in let same = allowance in omega (arith, less, same)), own ∙ idle.1, none)
    ended_later (Some e) (inr (inr memory, own, none)) = inr (inr memory, own ∙ idle.1, none)
