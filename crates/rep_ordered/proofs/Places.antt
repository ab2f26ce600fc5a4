-- What holds of a seat between two calls.
use Rattle.std.proofs.Common.{◌≡◌, ℕ, zero, suc, ◌+◌, ◌*◌, ◌^◌, ◌<◌, ◌≤◌, Option, Some, None, List, [], ◌∷◌, ◌++◌, length, map, sym, refl, ap, ◌∙◌, subst, arith, length-append, append_assoc}
use Rattle.std.proofs.lemmas.List.{append-nil}
use Rattle.atomic_table.specs.Table.{Me}
use Rattle.rep_ordered.specs.declared.view.Hold.{Hold}
use Rattle.rep_ordered.specs.declared.view.Mind.{Mind}
use Rattle.rep_ordered.specs.declared.view.View.{View}
use Rattle.rep_ordered.specs.Counts.{one, times}
use Rattle.rep_ordered.specs.Views.{Every, Holds, StartsWith, Later, Sees, Lives, hold, reach, held_at, reached_at, backed_after, common_after, both, with_number, knowing, except}
use Rattle.rep_ordered.specs.Steps.{Learns, Entered, Plain, Apart}
use Rattle.atomic_table.specs.Table.{rest}
use Rattle.rep_ordered.specs.Seats.{empty_slot, IsSeated, Place}
use Rattle.rep_ordered.proofs.Sums.{total_append, total_snoc, one_equal, every_except}

-- each of the numbers is at most 2 ^ 60
abbrev pub Small : List ℕ → Type 0
Small own = (x : ℕ) → 0 < times x own → x ≤ 2 ^ 60

pub times_last : (own : List ℕ) (t : ℕ) → 0 < times t (own ++ t ∷ [])
times_last own t = let s = total_snoc (one t) own t in omega arith

pub later : {V E : Type 0} (law : List E → Type 0) (told : List E) (v w : View V E) → Learns law told v w → Later v w
later law told v w learns = record { same = learns.same; seen = learns.seen; still = learns.still; durable = learns.durable; halted = learns.halted; stays = learns.stays }

pub later_same : {V E : Type 0} (v : View V E) → Later v v
later_same v = record { same = refl; seen = ([], sym (append-nil v.seen)); still = λ _. refl; durable = omega arith; halted = omega arith; stays = λ _. refl }

begins_on : {A : Type 0} (a b c : List A) → StartsWith b a → StartsWith c b → StartsWith c a
begins_on a b c p q = (p.0 ++ q.0, q.1 ∙ (ap (λ l. l ++ q.0) p.1 ∙ append_assoc a p.0 q.0))

-- the same for the bound of a halt
stays_on : (a b c p q : ℕ) → p ≤ q → (0 < p → b ≡ a) → (0 < q → c ≡ b) → 0 < p → c ≡ a
stays_on a b c p q up first second halted = second (omega arith) ∙ first halted

pub later_still : {V E : Type 0} (u v w : View V E) → Later u v → Later v w → Later u w
later_still u v w a b = let d = a.durable in let e = b.durable in let f = a.halted in let h = b.halted in record {
  same = b.same ∙ ap (λ (z : View _ _). record z { seen = w.seen; durable = w.durable; halted = w.halted }) a.same;
  seen = begins_on u.seen v.seen w.seen a.seen b.seen;
  still = λ some_hold. b.still (subst (λ (z : View _ _). 0 < held_at 0 z.held) (sym a.same) some_hold) ∙ a.still some_hold;
  durable = omega arith;
  halted = omega arith;
  stays = stays_on u.durable v.durable w.durable u.halted v.halted a.halted a.stays b.stays;
}

inside_of : (n m : ℕ) (a b : List Hold) → m ≡ n → b ≡ a → Every (λ (h : Hold). h.station < n) a → Every (λ (h : Hold). h.station < m) b
inside_of n m a b e d = subst (λ (z : ℕ × List Hold). Every (λ (h : Hold). h.station < z.0) z.1) (λ i. (sym e i, sym d i))

-- the second of the first pair
abbrev value_or : {V : Type 0} → V → List (ℕ × V) → V
value_or d [] = d
value_or d (c ∷ cs) = c.1

pub first_value : {V : Type 0} (p q : ℕ) (c d : V) (cs ds : List (ℕ × V)) → (p, c) ∷ cs ≡ (q, d) ∷ ds → c ≡ d
first_value p q c d cs ds e = ap (value_or d) e

-- the slot that is in front of those that a seat carries
pub front_is : {V : Type 0} (l : List (ℕ × V)) (i j : ℕ) (a : V) (cs : List (ℕ × V)) → i ≡ j → l ≡ (i, a) ∷ cs → l ≡ (j, a) ∷ rest l
front_is l i j a cs same is = is ∙ (λ k. (same k, a) ∷ ap rest (sym is) k)

module _ {V E : Type 0} where
  -- what a place says of a station that is held, it says inside as well
  pub holds_inside : (p q : Place V E) (j : ℕ) → p ≡ q → Holds q.view j → Holds p.view j
  holds_inside p q j is held = subst (λ (z : Place V E). Holds z.view j) (sym is) held

  -- who has learnt something inside has learnt it as clauses see the seat
  pub place_later : (law : List E → Type 0) (told : List E) (p q : Place V E) (w : View V E) → p ≡ q → Learns law told p.view w → Later q.view w
  place_later law told p q w is learns = subst (λ (z : Place V E). Later z.view w) is (later law told p.view w learns)

  pub place_sees : (law : List V → List E → Type 0) (told : List E) (p q : Place V E) (w : View V E) → p ≡ q → Learns (law p.view.first) told p.view w → Sees (law q.view.first) w
  place_sees law told p q w is learns = subst (λ (z : Place V E). Sees (law z.view.first) w) is learns.sees

  pub learnt : (law : List E → Type 0) (n m : ℕ) (me me' : Me (Option V) (Mind V E)) → m ≡ n → Lives me.0.view → me.1 ≡ map empty_slot me.0.view.held → Every (λ (h : Hold). h.station < n) me.0.view.held → Small me.0.view.own → Learns law me.0.told me.0.view me'.0.view → Plain me me' → IsSeated m me'
  learnt law n m me me' size lives slots inside small learns plain = let is = learns.same in record {
    told = plain.0;
    lives = subst Lives (sym is) lives;
    slots = plain.1 ∙ (slots ∙ ap (λ (z : View V E). map empty_slot z.held) (sym is));
    inside = inside_of n m me.0.view.held me'.0.view.held size (ap (λ (z : View V E). z.held) is) inside;
    small = subst (λ (z : View V E). Small z.own) (sym is) small;
  }

  pub still_seated : (law : List E → Type 0) (n m : ℕ) (me me' : Me (Option V) (Mind V E)) → m ≡ n → IsSeated n me → Learns law me.0.told me.0.view me'.0.view → Plain me me' → IsSeated m me'
  still_seated law n m me me' size seated learns plain = learnt law n m me me' size seated.lives seated.slots seated.inside seated.small learns plain

  pub seated_claim : (a b : ℕ) (me me' : Me (Option V) (Mind V E)) (n : ℕ) → b ≡ a → IsSeated a me → me'.0.view ≡ with_number n me.0.view → Apart me me' → n ≤ 2 ^ 60 → 0 < me.0.view.allowance → IsSeated b me'
  seated_claim a b me me' n size seated is apart low room = record {
    told = apart.0 ∙ seated.told;
    lives = subst Lives (sym is) (λ some_number. omega (arith, length-append me.0.view.own (n ∷ [])));
    slots = apart.1 ∙ (seated.slots ∙ ap (λ (z : View V E). map empty_slot z.held) (sym is));
    inside = inside_of a b me.0.view.held me'.0.view.held size (ap (λ (z : View V E). z.held) is) seated.inside;
    small = subst (λ (z : View V E). Small z.own) (sym is) (λ x drawn. small_snoc me.0.view.own n seated.small low x drawn);
  }
    where
      small_snoc : (own : List ℕ) (n : ℕ) → Small own → n ≤ 2 ^ 60 → Small (own ++ n ∷ [])
      small_snoc own n small low x drawn = go (times x own) refl
        where
          go : (t : ℕ) → t ≡ times x own → x ≤ 2 ^ 60
          go zero e = let s = total_snoc (one x) own n in let is = one_equal x n (omega arith) in omega arith
          go (suc t) e = small x (omega arith)

  pub seated_both : (n : ℕ) (me me' : Me (Option V) (Mind V E)) (w : View V E) → IsSeated n me → Lives w → Small w.own → me'.0.view ≡ both me.0.view w → me'.1 ≡ me.1 → Lives me'.0.view × (me'.1 ≡ map empty_slot me'.0.view.held) × Every (λ (h : Hold). h.station < n) me'.0.view.held × Small me'.0.view.own
  seated_both n me me' w seated other_lives other_small is same = let lives = seated.lives in (
    subst Lives (sym is) (λ some_number. let a = lives some_number in omega (arith, length-append me.0.view.own w.own)),
    same ∙ (seated.slots ∙ ap (λ (z : View V E). map empty_slot z.held) (sym is)),
    inside_of n n me.0.view.held me'.0.view.held refl (ap (λ (z : View V E). z.held) is) seated.inside,
    subst (λ (z : View V E). Small z.own) (sym is) (λ x drawn. join_small me.0.view.own w.own seated.small other_small x drawn),
  )
    where
      join_small : (a b : List ℕ) → Small a → Small b → Small (a ++ b)
      join_small a b p q x drawn = go (times x a) refl
        where
          go : (t : ℕ) → t ≡ times x a → x ≤ 2 ^ 60
          go zero e = let s = total_append (one x) a b in q x (omega arith)
          go (suc t) e = p x (omega arith)

  -- a seat that has put its value into a station's slot and left the station, whatever else it made of its view, stays in its place
  pub parted : (a b : ℕ) (me m1 m2 : Me (Option V) (Mind V E)) (i j : ℕ) (x : Option V) (w : View V E) → b ≡ a → i ≡ j → IsSeated a me → m1 ≡ (me.0, (j, x) ∷ map empty_slot (except j me.0.view.held)) → m2.0.view ≡ w
      → (w.held ≡ except i m1.0.view.held) × (w.own ≡ m1.0.view.own) × (w.allowance ≡ m1.0.view.allowance) × (w.whole ≡ m1.0.view.whole) → m2.0.told ≡ m1.0.told → m2.1 ≡ rest m1.1 → IsSeated b m2
  parted a b me m1 m2 i j x w size place seated put now same told gave =
      let before = ap (λ z. z.0.view) put in let held : m2.0.view.held ≡ except j me.0.view.held = ap (λ (z : View V E). z.held) now ∙ (same.0 ∙ (λ k. except (place k) (before k).held)) in
      let own : w.own ≡ me.0.view.own = same.1 ∙ ap (λ (z : View V E). z.own) before in record {
        told = told ∙ (ap (λ z. z.0.told) put ∙ seated.told);
        lives = subst Lives (sym now) (λ some_number. let l = ap (λ (xs : List ℕ). length xs) own in let p = same.2 ∙ ap (λ (z : View V E). z.allowance) before in let q = same.3 ∙ ap (λ (z : View V E). z.whole) before in let c = seated.lives (omega arith) in omega arith);
        slots = gave ∙ (ap (λ z. rest z.1) put ∙ ap (map empty_slot) (sym held));
        inside = inside_of a b (except j me.0.view.held) m2.0.view.held size held (every_except (λ (h : Hold). h.station < a) j me.0.view.held seated.inside);
        small = subst (λ (z : View V E). Small z.own) (sym now) (subst Small (sym own) seated.small);
      }

module _ {V E : Type 0} (law : List E → Type 0) (at_home : ℕ → ℕ → ℕ → List E → ℕ → V → Type 0) (durable_of common_of : V → ℕ) where
  -- the station was entered, and its slot read
  pub passed : (a b : ℕ) (me m1 m2 : Me (Option V) (Mind V E)) (i j n n' kind : ℕ) (found : Option V) → b ≡ a → i ≡ j → n ≡ n' → j < a → IsSeated a me
      → (x : V) × Entered law at_home durable_of common_of i n kind me.0.view m1.0.view x × (m1.0.told ≡ []) × (m1.1 ≡ (i, Some x) ∷ me.1) → m1.1 ≡ (j, found) ∷ rest m1.1 → m2 ≡ (m1.0, (j, None) ∷ rest m1.1)
      → IsSeated b m2 × (x : V) × (found ≡ Some x) × Entered law at_home durable_of common_of j n' kind me.0.view m2.0.view x
  passed a b me m1 m2 i j n n' kind found size place number inside seated entered read left = let x : V = entered.0 in let view : m2.0.view ≡ m1.0.view = ap (λ z. z.0.view) left in
      let now : Entered law at_home durable_of common_of j n' kind me.0.view m2.0.view x = subst (λ (z : ℕ × ℕ × View V E). Entered law at_home durable_of common_of z.0 z.1 kind me.0.view z.2 x) (λ k. (place k, number k, sym view k)) entered.1 in
      let is = now.view in let behind : rest m1.1 ≡ me.1 = ap rest entered.3 in (
        record {
          told = ap (λ z. z.0.told) left ∙ entered.2;
          lives = subst Lives (sym is) seated.lives;
          slots = ap (λ z. z.1) left ∙ (ap (λ l. (j, None) ∷ l) (behind ∙ seated.slots) ∙ ap (λ (z : View V E). map empty_slot z.held) (sym is));
          inside = inside_of a b (hold j (4 * n' + kind) (durable_of x) ∷ me.0.view.held) m2.0.view.held size (ap (λ (z : View V E). z.held) is) (inside, seated.inside);
          small = subst (λ (z : View V E). Small z.own) (sym is) seated.small;
        },
        x,
        first_value j i found (Some x) (rest m1.1) me.1 (sym read ∙ entered.3),
        now,
      )

  -- a seat that has learnt something, of no halt, and then entered a station, has entered it
  pub later_entered : (u v w : View V E) (station number kind : ℕ) (x : V) → Later u v → v.halted ≡ 0 → Entered law at_home durable_of common_of station number kind v w x → Entered law at_home durable_of common_of station number kind u w x
  later_entered u v w station number kind x l runs e = let is = l.same in let a = l.durable in let b = e.durable in let c = l.halted in let d = e.halted in
      let backed : v.backed ≡ u.backed = ap (λ (z : View V E). z.backed) is in let common : v.common ≡ u.common = ap (λ (z : View V E). z.common) is in let start : v.start ≡ u.start = ap (λ (z : View V E). z.start) is in let held : v.held ≡ u.held = ap (λ (z : View V E). z.held) is in record {
        view = e.view ∙ ap (λ (z : View V E). record (knowing w.seen w.durable w.halted z) { backed = backed_after station (durable_of x) z.backed; common = common_after station (common_of x) z.common; reached = reach station number ∷ z.reached; held = hold station (4 * number + kind) (durable_of x) ∷ z.held }) is;
        seen = begins_on u.seen v.seen w.seen l.seen e.seen;
        sees = e.sees;
        still = λ some_hold. e.still (subst (λ (z : View V E). 0 < held_at 0 z.held) (sym is) some_hold) ∙ l.still some_hold;
        durable = omega arith;
        halted = omega arith;
        stays = stays_on u.durable v.durable w.durable u.halted v.halted c l.stays e.stays;
        keeps = e.keeps;
        backed = λ one. let q = e.backed one in let q0 = q.0 in let q1 = q.1 in (omega arith, q1);
        common = λ some_name. let q = e.common some_name in let q0 = q.0 in (omega arith, λ holds. let t = q.1 (subst (λ (h : List Hold). 0 < held_at 1 h + held_at 2 h) (sym held) holds) in omega arith);
        covers = e.covers;
        begun = let q = e.begun in omega arith;
        limit = e.limit;
        turn = subst (λ (z : View V E). reached_at station z.reached ≤ number) is e.turn;
        word = e.word;
        now = e.now;
        place = λ first. let q = e.place first in omega arith;
        alone = subst (λ (z : View V E). held_at station z.held ≡ 0) is e.alone;
      }
