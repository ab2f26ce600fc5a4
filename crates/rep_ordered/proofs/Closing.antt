-- What a seat that has every number knows at the end.
use Rattle.std.proofs.Common.{◌≡◌, ℕ, zero, suc, ◌+◌, ◌/◌, ◌<◌, Option, Some, None, List, [], ◌∷◌, ◌++◌, length, Bool, false, take, get_or, set, sym, refl, ap, ◌∙◌, subst, arith, get_or-set_other, get_or-set_same}
use Rattle.std.specs.Prelude.{slice_get}
use Rattle.std.specs.Slots.Ownership.{Filled}
use Rattle.std.proofs.lemmas.Option.{same_Some, slice_get_within}
use Rattle.rep_types.proofs.Lists.{empty_by_length}
use mathlib.Core.Option as maybe
use mathlib.Core.Option.{some, some-injective, some-ne-none}
use mathlib.Core.Logic.{dite}
use native.Mathlib.Decide.{ℕ_discrete}
use lib.ListN.{get_elem?}
use Rattle.atomic_table.specs.Table.{State, Final, Seen}
use Rattle.rep_ordered.specs.declared.view.GivenUp.{GivenUp}
use Rattle.rep_ordered.specs.declared.view.Mind.{Mind}
use Rattle.rep_ordered.specs.declared.view.View.{View}
use Rattle.rep_ordered.specs.declared.rule.Opening.{Opening}
use Rattle.rep_ordered.specs.Counts.{times, total, gave}
use Rattle.rep_ordered.specs.Views.{Placed, held_at, count_of, drew, on, halted_of}
use Rattle.rep_ordered.specs.Rule.{Figures, HoldIsRight, Kept, first_of}
use Rattle.rep_ordered.specs.Ends.{Closed, ClosedAt}
use Rattle.rep_ordered.proofs.Sums.{every_at, every_map, total_only, get_or_there}
use Rattle.rep_ordered.proofs.Keeping.{others_idle, knows_whole}
use Rattle.rep_ordered.proofs.Drawing.{RuleOf}

read_both : {A : Type 0} (xs : List A) (j : ℕ) (x y : A) → slice_get xs j ≡ Some x → get_elem? xs j ≡ some y → x ≡ y
read_both [] j x y e d = absurd (some-ne-none y (sym d))
read_both (z ∷ zs) zero x y e d = (cc) ∙ some-injective z y d
read_both (z ∷ zs) (suc j) x y e d = read_both zs j x y e d

abbrev value_or : {V : Type 0} → V → maybe.Option (maybe.Option (Option V)) → V
value_or d (maybe.some (maybe.some (Some x))) = x
value_or d (maybe.some (maybe.some None)) = d
value_or d (maybe.some maybe.none) = d
value_or d maybe.none = d

same_home : {V : Type 0} (x y : V) → maybe.some (maybe.some (Some x)) ≡ maybe.some (maybe.some (Some y)) → x ≡ y
same_home x y e = ap (value_or x) e

module _ {V E : Type 0} (law : List E → Type 0) (at_home : ℕ → ℕ → ℕ → List E → ℕ → V → Type 0) (durable_of common_of : V → ℕ) where
  abbrev Rule : Opening V → State (Option V) (Mind V E) → Type 0
  Rule = Kept law at_home durable_of common_of

  closes_by : (k : Opening V) (id : ℕ) (m : Mind V E) (ws : List ℕ) (xs : List (Option V)) → m.view.allowance + length m.view.own ≡ m.view.whole → m.told ≡ [] → Final (Seen (Rule k) id m) ws xs → length ws ≡ length xs + 2
      → Closed law at_home durable_of common_of m.view xs
  closes_by k id m ws xs all told_none final wide = let v : View V E = m.view in let s = final.0 in let r = final.1.0 in let at = final.1.1 in let as_words = final.2 in let as_long = final.3 in let home_is = final.4 in
      let f : Figures E = r.figures in let mine = r.each_seat id m at in let idle = others_idle law at_home durable_of common_of k s r id m at all in let starts = mine.starts in let dealt = r.dealt in let many = dealt.many in
      let counted : total count_of s.views ≡ length v.own = total_only count_of s.views id m at (λ i d apart there. let t = idle i d apart there in let e = t.1 in omega arith) in
      let halts : total halted_of s.views ≡ v.halted = total_only halted_of s.views id m at (λ i d apart there. (idle i d apart there).3) in let stopped = r.stopped in let spelled = r.spelled in
      let whole : f.history ≡ v.seen = knows_whole law at_home durable_of common_of k s r id m at all told_none in
      let whole_length : length f.history ≡ length v.seen = ap length whole in let low = spelled.low in let backed_up = spelled.backed_up in let covered = spelled.covered in
      let each_one : (j : ℕ) (found : Option V) → slice_get xs j ≡ Some found → held_at j v.held ≡ 0 → ClosedAt law at_home durable_of common_of v f.durable f.common j found = (λ j found is free. let inside = slice_get_within xs j found is in let w : ℕ = get_or s.words (j + 2) 0 in let long : length s.words ≡ length ws = ap length as_words in
      let there : get_elem? s.words (j + 2) ≡ some w = get_or_there s.words (j + 2) (omega arith) in let here = r.each_station j w there in
      let only : total (on j) s.views ≡ on j m = total_only (on j) s.views id m at (λ i d apart at_d. ap (held_at j) (idle i d apart at_d).2) in let counts = here.counts in
      let h = here.home (omega arith) in let begun = here.begun in let within = here.within in let gone = here.gone in record {
        value = h.value;
        number = w / 4;
        is = read_both xs j found (Some h.value) is (home_is j (Some h.value) h.there);
        given = gave w;
        halted = omega arith;
        kept = every_map _ _ v.given_up (λ (u : GivenUp V) q (same : u.station ≡ j). same_home u.value h.value (sym q.home ∙ (ap (get_elem? s.homes) same ∙ h.there))) mine.gone;
        keeps = subst (λ l. at_home j (w / 4) (gave w) l f.durable h.value) whole h.keeps;
        backed = λ one. let a = h.backed one in let b = mine.below in let c = spelled.backed_up in (omega arith, omega arith);
        common = h.common;
        begun = omega arith;
        turn = mine.reached j w there;
        within = omega arith;
        limit = let a = dealt.tickets in let b = spelled.small in omega arith;
        place = λ first. let a = here.counted first in omega arith;
      }) in record {
        durable = f.durable;
        common = f.common;
        known = mine.lasts;
        stays = λ halted. let a = mine.stays halted in let b = mine.lasts in omega arith;
        limit = low;
        backed = λ free x is. let c = each_one 1 (Some x) is free in let b = (c.backed refl).1 in let same = ap durable_of (same_Some x c.value c.is) in omega arith;
        floor = λ inside. let h = every_at (HoldIsRight f s.words v.own v.seen) 1 v.held inside mine.holds in let a = h.floor refl in omega arith;
        named = mine.named;
        covered = omega arith;
        sees = record { legal = subst law whole r.lawful; placed = subst (λ (z : ℕ × List E). Placed z.0 z.1 v.own v.joined) (λ i. (sym starts i, whole i)) mine.placed };
        each = each_one;
        numbers = λ x. let d = dealt.drawn x in let t : total (drew x) s.views ≡ times x v.own = total_only (drew x) s.views id m at (λ i u apart there. let q = idle i u apart there in let e = q.1 in let n : u.view.own ≡ [] = empty_by_length u.view.own (omega arith) in ap (times x) n) in
            let next : f.next ≡ v.start + length v.own = omega arith in let start : k.start ≡ v.start = omega arith in omega arith;
      }

module _ {V E : Type 0} (legal : List V → List E → Type 0) (at_home : List V → ℕ → ℕ → ℕ → List E → ℕ → V → Type 0) (durable_of common_of : V → ℕ) where
  pub closes : (k : Opening V) (id : ℕ) (m : Mind V E) (ws : List ℕ) (xs : List (Option V)) → m.view.allowance + length m.view.own ≡ m.view.whole → m.told ≡ [] → Final (Seen (RuleOf legal at_home durable_of common_of k) id m) ws xs → length ws ≡ length xs + 2
      → Closed (legal m.view.first) (at_home m.view.first) durable_of common_of m.view xs
  closes k id m ws xs all told_none final wide = subst (λ (fs : List V). Closed (legal fs) (at_home fs) durable_of common_of m.view xs) (sym (final.1.0.each_seat id m final.1.1).firsts)
      (closes_by (legal (first_of k)) (at_home (first_of k)) durable_of common_of k id m ws xs all told_none final wide)

pub take_next : {A : Type 0} (xs : List A) (i : ℕ) (x : A) → get_elem? xs i ≡ some x → take i xs ++ x ∷ [] ≡ take (i + 1) xs
take_next {A = A} xs i x e = go xs i e ∙ (let up : suc i ≡ i + 1 = omega arith in ap (λ n. take n xs) up)
  where
    go : (xs : List A) (i : ℕ) → get_elem? xs i ≡ some x → take i xs ++ x ∷ [] ≡ take (suc i) xs
    go [] i e = absurd (some-ne-none x (sym e))
    go (y ∷ ys) zero e = λ k. sym (some-injective y x e) k ∷ []
    go (y ∷ ys) (suc i) e = ap (λ l. y ∷ l) (go ys i e)

-- one more slot was taken
pub emptied : (filled filled' : List Bool) (i n n' : ℕ) → filled' ≡ set filled i false → n' ≡ n → n ≡ length filled → i < n → Filled filled i n → ((k : ℕ) → k < i → get_or filled k false ≡ false)
    → Filled filled' (i + 1) n' × ((k : ℕ) → k < i + 1 → get_or filled' k false ≡ false)
emptied filled filled' i n n' is same long inside full below = (
  (λ k a b. ap (λ (l : List Bool). get_or l k false) is ∙ (get_or-set_other filled i k false false (λ e. omega arith) ∙ full k (omega arith) (omega arith))),
  (λ k l. ap (λ (l : List Bool). get_or l k false) is ∙ dite (ℕ_discrete k i)
      (λ e. ap (λ (z : ℕ). get_or (set filled i false) z false) e ∙ get_or-set_same filled i false false (omega arith))
      (λ ne. get_or-set_other filled i k false false ne ∙ below k (omega arith))),
)
