-- Lists of tickets, one ticket later.
use Rattle.std.proofs.Common.{◌≡◌, ℕ, zero, suc, ◌+◌, ◌-◌, ◌*◌, ◌/◌, ◌^◌, ◌<◌, ◌≤◌, eqb, eqb-true, eq-eqb, ne_eqb, Bool, true, false, List, [], ◌∷◌, ◌++◌, length, get_or, take, sym, refl, ap, ◌∙◌, subst, arith, length-append, mul-le-mul_right, if◌then◌else◌}
use Rattle.std.specs.Prelude.{slice_get, Option, None, Some, Result, Ok, Err, OnOk, IsSomeAnd, All}
use Rattle.std.proofs.lemmas.Option.{same_Some, slice_get-get_or}
use Rattle.uses_ordered.specs.declared.notes.Note.{Note}
use Rattle.rep_ordered.specs.Ends.{Closed}
use Rattle.std.specs.Result.{result_and}
use Rattle.std.proofs.Math.Nat.{add-mul}
use Rattle.rep_ordered.specs.declared.view.Hold.{Hold}
use Rattle.rep_ordered.specs.declared.view.View.{View}
use Rattle.rep_ordered.specs.Views.{StartsWith, except, floor_at, held_at, hold, names, reached_at, word_at}
use Rattle.rep_ordered.specs.Going.{Goes, Went}
use Rattle.rep_ordered.specs.Steps.{Entered}
use Rattle.rep_ordered.specs.GoingLaws.{append_nil, except_top, goes_entered, goes_on, passed_more, passed_joined}
use Rattle.rep_ordered.specs.Beginnings.{whole_front}
use Rattle.uses_ordered.specs.Passing.{Anything, HavePassed, Inside, numbers, AllDone}

pub length-numbers : (first n : ℕ) → length (numbers first n) ≡ n
length-numbers first zero = refl
length-numbers first (suc n) = ap suc (length-numbers (first + 1) n)

numbers_snoc : (first n t : ℕ) → first + n ≡ t → numbers first n ++ t ∷ [] ≡ numbers first (suc n)
numbers_snoc first zero t e = let is : t ≡ first = omega arith in ap (λ z. z ∷ []) is
numbers_snoc first (suc n) t e = ap (λ l. first ∷ l) (numbers_snoc (first + 1) n t (omega arith))

-- one more ticket passed
numbers_more : (start t : ℕ) (tickets : List ℕ) → start + length tickets ≡ t → tickets ≡ numbers start (length tickets) → tickets ++ t ∷ [] ≡ numbers start (length (tickets ++ t ∷ []))
numbers_more start t tickets count all = let long : suc (length tickets) ≡ length (tickets ++ t ∷ []) = omega (arith, length-append tickets (t ∷ [])) in
    ap (λ l. l ++ t ∷ []) all ∙ (numbers_snoc start (length tickets) t count ∙ ap (numbers start) long)

-- a ticket passed the station next, where the history begins with all tickets up to it
pub next_passed : (start t : ℕ) (seen later tickets : List ℕ) → HavePassed start t seen tickets → StartsWith later (numbers start (t + 1 - start)) → HavePassed start (t + 1) later (tickets ++ t ∷ [])
next_passed start t seen later tickets h begins = let count = h.count in let longer = length-append tickets (t ∷ []) in
    let long : length (tickets ++ t ∷ []) ≡ t + 1 - start = omega arith in let all = numbers_more start t tickets h.count h.all in record {
      count = omega arith;
      all = all;
      front = (begins.0, begins.1 ∙ ap (λ l. l ++ begins.0) (sym (all ∙ ap (numbers start) long)));
    }

-- it did so as it joined the history
pub begins_joined : (start t : ℕ) (seen tickets : List ℕ) → HavePassed start t seen tickets → start + length seen ≡ t → StartsWith (seen ++ t ∷ []) (numbers start (t + 1 - start))
begins_joined start t seen tickets h place = let count = h.count in let longer = length-append tickets (t ∷ []) in let same = whole_front seen tickets h.front (omega arith) in
    let long : length (tickets ++ t ∷ []) ≡ t + 1 - start = omega arith in
    ([], ap (λ l. l ++ t ∷ []) (sym same) ∙ (numbers_more start t tickets h.count h.all ∙ (ap (numbers start) long ∙ sym (append_nil (numbers start (t + 1 - start))))))

-- a station that is held at a word is held
pub word_held : (j n : ℕ) (held : List Hold) → word_at j held ≡ n + 1 → 0 < held_at j held
word_held j n [] is = absurd (omega arith)
word_held j n (h ∷ hs) is = go (eqb j h.station) refl (word_held j n hs)
  where
    go : (b : Bool) → eqb j h.station ≡ b → (word_at j hs ≡ n + 1 → 0 < held_at j hs) → 0 < held_at j (h ∷ hs)
    go true e behind = let same : j ≡ h.station = eqb-true j h.station e in omega arith
    go false e behind = let below = behind (subst (λ b. (if b then h.word else word_at j hs) ≡ n + 1) e is) in omega arith

floor_on_top : (j w d : ℕ) (hs : List Hold) → floor_at j (hold j w d ∷ hs) ≡ d
floor_on_top j w d hs = subst (λ b. (if b then d else floor_at j hs) ≡ d) (sym (eq-eqb j j refl)) refl

module _ {V : Type 0} (law : List ℕ → Type 0) (at_home : ℕ → ℕ → ℕ → List ℕ → ℕ → V → Type 0) where
  -- who entered a station by a ticket is inside with it
  pub inside_entered : (j t : ℕ) (v w : View V ℕ) (x : V) → Entered law at_home (λ _. 0) (λ _. 0) j t 1 v w x → Inside j t w
  inside_entered j t v w x e = record {
    word = e.word;
    floor = ap (λ (z : View V ℕ). floor_at j z.held) e.view ∙ floor_on_top j (4 * t + 1) 0 v.held;
    common = λ some_name. ap (λ (z : View V ℕ). z.common) e.view ∙ ap (λ b. if b then v.common else 0) (ne_eqb (names j) 0 (λ none. absurd (omega arith)));
  }

  -- who entered a station and left it holds none again
  pub went_inside : (j t : ℕ) (v w u : View V ℕ) (x : V) → Entered law at_home (λ _. 0) (λ _. 0) j t 1 v w x → v.held ≡ [] → Goes w u → u.held ≡ except j w.held → Went v u
  went_inside j t v w u x e free goes held = record {
    goes = goes_on v w u (goes_entered law at_home (λ _. 0) (λ _. 0) j t 1 v w x e) goes;
    free = held ∙ (ap (λ (z : View V ℕ). except j z.held) e.view ∙ (except_top j (4 * t + 1) 0 v.held ∙ free));
  }

-- the number drawn has passed both stations, and so have those before it
pub all_done : {V : Type 0} (v w : View V ℕ) (t : ℕ) → w.own ≡ v.own ++ t ∷ [] → t < reached_at 0 w.reached → t < reached_at 1 w.reached → reached_at 0 v.reached ≤ reached_at 0 w.reached → reached_at 1 v.reached ≤ reached_at 1 w.reached → AllDone v → AllDone w
all_done v w t own here there up_here up_there old x drawn = (passed_more 0 v w t up_here own here (λ y d. (old y d).0) x drawn, passed_more 1 v w t up_there own there (λ y d. (old y d).1) x drawn)

-- the number drawn has passed both stations, where the seat went on with it twice
pub done_twice : {V : Type 0} (v u w l : View V ℕ) (t : ℕ) → u.own ≡ v.own ++ t ∷ [] → u.reached ≡ v.reached → w.own ≡ u.own → l.own ≡ w.own → Went u w → Went w l → t < reached_at 0 w.reached → t < reached_at 1 l.reached → AllDone v → AllDone l
done_twice v u w l t drawn reached same same_then first second here there old = let start = ap (reached_at 0) reached in let start_there = ap (reached_at 1) reached in
    let up = first.goes.reached 0 in let up_there = first.goes.reached 1 in let on = second.goes.reached 0 in let on_there = second.goes.reached 1 in
    all_done v l t (same_then ∙ (same ∙ drawn)) (omega arith) (omega arith) (omega arith) (omega arith) old

-- the notes that a lock is closed with whose seat holds no station
pub closed_marks : (v : View Note ℕ) (values : List (Option Note)) → Closed Anything (λ _ _ _ _ _ note. note.mark ≤ 100) (λ note. note.mark) (λ _. 2 ^ 60) v values → v.held ≡ [] → All (λ found. IsSomeAnd found (λ note. note.mark ≤ 100)) values
closed_marks v values closed free k d below = let c = closed.each k (get_or values k d) (slice_get-get_or values k d below) (ap (held_at k) free) in subst (λ found. IsSomeAnd found (λ (note : Note). note.mark ≤ 100)) (sym c.is) c.keeps

pub no_more : (start n m : ℕ) (before after first second : List ℕ) → HavePassed start n before first → start + length before ≡ n → HavePassed start m after second → after ≡ before → length second ≤ length first
no_more start n m before after first second g place h same = let a = g.count in let e : length after ≡ length before = ap length same in let f : length after ≡ length (second ++ h.front.0) = ap length h.front.1 in omega (arith, length-append second h.front.0)

pub parts : (threads count : ℕ) → (threads - threads / 2) * count + threads / 2 * count ≡ threads * count
parts threads count = let half : ℕ = threads / 2 in let rest : ℕ = threads - half in let whole : rest + half ≡ threads = omega arith in sym (add-mul rest half count) ∙ ap (λ (z : ℕ). z * count) whole

pub ok_both : {A B E : Type 0} {P Q R : Type 0} (r : Result A E) (s : Result B E) → OnOk r P → OnOk s Q → (P → Q → R) → OnOk (result_and r s) R
ok_both (Ok a) (Ok b) p q f = f p q
ok_both (Ok a) (Err e) p q f = tt
ok_both (Err e) s p q f = tt

-- what two seats drew has passed, once they are joined
pub done_both : {V : Type 0} (v w u : View V ℕ) → u.own ≡ v.own ++ w.own → u.reached ≡ v.reached ++ w.reached → AllDone v → AllDone w → AllDone u
done_both v w u own reached p q x drawn = (passed_joined 0 v w u own reached (λ y d. (p y d).0) (λ y d. (q y d).0) x drawn, passed_joined 1 v w u own reached (λ y d. (p y d).1) (λ y d. (q y d).1) x drawn)

-- what a lock is closed with whose seat has drawn so many tickets, each of which has passed both stations
pub closed_lists : {V : Type 0} (tickets : V → List ℕ) (durable_of : V → ℕ) (start count : ℕ) (v : View V ℕ) (values : List (Option V)) → Closed Anything (λ _ number _ history _ x. HavePassed start number history (tickets x)) durable_of (λ _. 0) v values
    → length values ≡ 2 → v.held ≡ [] → AllDone v → v.start ≡ start → length v.own ≡ count → 0 < count → (a : V) × (b : V) × (values ≡ Some a ∷ Some b ∷ []) × (tickets a ≡ numbers start count) × (tickets b ≡ numbers start count)
closed_lists tickets durable_of start count v [] closed two free done starts own some_number = absurd (omega arith)
closed_lists tickets durable_of start count v (x ∷ []) closed two free done starts own some_number = absurd (omega arith)
closed_lists tickets durable_of start count v (x ∷ y ∷ z ∷ more) closed two free done starts own some_number = absurd (omega arith)
closed_lists tickets durable_of start count v (x ∷ y ∷ []) closed two free done starts own some_number =
    let p = closed.each 0 x refl (ap (held_at 0) free) in let q = closed.each 1 y refl (ap (held_at 1) free) in
    let last : ℕ = start + count - 1 in let once = closed.numbers last in let d = done last (omega arith) in let d0 = d.0 in let d1 = d.1 in
    let pt = p.turn in let pw = p.within in let qt = q.turn in let qw = q.within in let pc = p.keeps.count in let qc = q.keeps.count in
    let pl : length (tickets p.value) ≡ count = omega arith in let ql : length (tickets q.value) ≡ count = omega arith in
    (p.value, q.value, (λ i. p.is i ∷ q.is i ∷ []), p.keeps.all ∙ ap (numbers start) pl, q.keeps.all ∙ ap (numbers start) ql)

-- the last two of a list of two
pub popped : {A : Type 0} (items left : List A) (a b : A) (n m : ℕ) (r s : Option A) → items ≡ a ∷ b ∷ [] → n ≡ length items → m ≡ length left → ((d : A) → 0 < n → r ≡ Some (get_or items (n - 1) d)) → left ≡ take (n - 1) items → ((d : A) → 0 < m → s ≡ Some (get_or left (m - 1) d))
    → (r ≡ Some b) × (s ≡ Some a)
popped items left a b n m r s two n_is m_is first rest second = let n_two : n ≡ 2 = n_is ∙ ap length two in let left_is : left ≡ a ∷ [] = rest ∙ (λ i. take (n_two i - 1) (two i)) in let m_one : m ≡ 1 = m_is ∙ ap length left_is in
    (first a (omega arith) ∙ (λ i. Some (get_or (two i) (n_two i - 1) a)), second a (omega arith) ∙ (λ i. Some (get_or (left_is i) (m_one i - 1) a)))

pub product_some : (a b : ℕ) → 0 < a → 0 < b → 0 < a * b
product_some a b p q = let l : 1 * b ≤ a * b = mul-le-mul_right b p in omega arith

pub popped_last : {A : Type 0} (items : List A) (a b : A) (n : ℕ) (r : Option A) → items ≡ a ∷ b ∷ [] → n ≡ length items → ((d : A) → 0 < n → r ≡ Some (get_or items (n - 1) d)) → r ≡ Some b
popped_last items a b n r two n_is first = let n_two : n ≡ 2 = n_is ∙ ap length two in first a (omega arith) ∙ (λ i. Some (get_or (two i) (n_two i - 1) a))

-- each of three parts, of which the same is known
pub each_of_three : {A : Type 0} (P : A → Type 0) (a b c x : A) (j : ℕ) → P a → P b → P c → slice_get (a ∷ b ∷ c ∷ []) j ≡ Some x → P x
each_of_three P a b c x zero p q r is = subst P (same_Some a x is) p
each_of_three P a b c x (suc zero) p q r is = subst P (same_Some b x is) q
each_of_three P a b c x (suc (suc zero)) p q r is = subst P (same_Some c x is) r
each_of_three P a b c x (suc (suc (suc j))) p q r is = absurd (let d : None ≡ Some x = is in cc)
