-- Which of the superblocks that stand open counts.
use Rattle.std.proofs.Common.{◌≡◌, ◌≢◌, ℕ, ◌<◌, inl, inr, Bool, true, false, if◌then◌else◌, is_some, nat_lt, List, [], Option, None, Some, IfSome, Result, Ok, Err, IfOk, IfErr, option_map, refl, sym, ap, subst, ◌∙◌, arith}
use Rattle.std.proofs.lemmas.Bool.Decides.{nat_tests}
use Rattle.rep_disk.specs.History.{History, failed}
use Rattle.rep_disk.specs.Bytes.{Untouched}
use Rattle.rep_layout.specs.declared.super_body.SuperBody.{SuperBody}
use Rattle.rep_layout.specs.declared.place.Layout.{Layout}
use Rattle.rep_layout.specs.declared.place.Place.{Place}
use Rattle.rep_layout.specs.declared.place.Side.{Side}
use Rattle.rep_layout.specs.declared.place.Side.TheVariants.{A, B}
use Rattle.rep_layout.specs.declared.place.Place.TheVariants.{Super}
use Rattle.rep_layout.specs.Places.{side_of, body_len, gate_len, offset_of, gate_of}
use Rattle.rep_layout.specs.Supers.{super_bytes}
use Rattle.rep_cells.specs.Readings.{Reading}
use Rattle.rep_cells.specs.Known.{IsReadable}
use Rattle.rep_engine.specs.Bases.{other, IsSuperAt, IsLesser}
use Rattle.rep_types.specs.declared.refusal.Refusal.{Refusal}
use Rattle.rep_types.specs.declared.refusal.Refusal.TheVariants.{NotFormatted}
use Rattle.std.specs.Result.{result_ok}
use Rattle.std.specs.Option.{ok_or}
use Rattle.rep_recover.specs.Looking.{chosen, Counts, HasNoSuper, RefusesSupers}

-- where no write failed every place can be read
pub readable : (l : Layout) (h : History) (place : Place) → failed h ≡ [] → IsReadable l h place
readable l h place none =
    let at : (from n : ℕ) → Untouched (failed h) from n = λ from n. subst (λ (ranges : List (ℕ × ℕ)). Untouched ranges from n) (sym none) tt in
    (at (offset_of l place) (body_len place), at (gate_of l place) (gate_len place))

-- the same by its side
record CountsAt (size : ℕ) (r : Reading) (side : Side) (b : SuperBody) (two : Bool) : Type 0 where
  stands : r (Super side) ≡ Some (super_bytes b)
  is_super : IsSuperAt size side b
  lesser : IsLesser size (other side) b.number (r (Super (other side)))
  two_are : two ≡ is_some (r (Super (other side)))

counts_by : (size : ℕ) (r : Reading) (side : Side) (b : SuperBody) (two : Bool) → CountsAt size r side b two → Counts size r b two
counts_by size r side b two h =
    let here : CountsAt size r (side_of b.number) b two = subst (λ (s : Side). CountsAt size r s b two) (sym h.is_super.here) h in
    (record { stands = here.stands; is_super = here.is_super; lesser = here.lesser }, here.two_are)

alone : (size : ℕ) (r : Reading) (side : Side) (b : SuperBody) → IsSuperAt size side b → r (Super side) ≡ Some (super_bytes b) → r (Super (other side)) ≡ None → Counts size r b false
alone size r side b is shown none = counts_by size r side b false (record {
  stands = shown;
  is_super = is;
  lesser = subst (λ (o : Option (List ℕ)). IsLesser size (other side) b.number o) (sym none) tt;
  two_are = sym (ap is_some none);
})

beside : (size : ℕ) (r : Reading) (side : Side) (b c : SuperBody) → IsSuperAt size side b → IsSuperAt size (other side) c → r (Super side) ≡ Some (super_bytes b) → r (Super (other side)) ≡ Some (super_bytes c)
    → c.number < b.number → Counts size r b true
beside size r side b c is other_is shown also less = counts_by size r side b true (record {
  stands = shown;
  is_super = is;
  lesser = subst (λ (o : Option (List ℕ)). IsLesser size (other side) b.number o) (sym also) (c, refl, other_is, less);
  two_are = sym (ap is_some also);
})

-- superblocks on both sides have different numbers
differ : (size : ℕ) (a b : SuperBody) → IsSuperAt size A a → IsSuperAt size B b → a.number ≢ b.number
differ size a b is_a is_b same = let sides : A ≡ B = sym is_a.here ∙ ap side_of same ∙ is_b.here in cc

pub counts_both : (size : ℕ) (r : Reading) (a b : Option SuperBody) → r (Super A) ≡ option_map super_bytes a → r (Super B) ≡ option_map super_bytes b → IfSome a (IsSuperAt size A) → IfSome b (IsSuperAt size B)
    → IfSome (chosen a b) (λ x. Counts size r x.0 x.1)
counts_both size r None None shown_a shown_b is_a is_b = tt
counts_both size r (Some a) None shown_a shown_b is_a is_b = alone size r A a is_a shown_a shown_b
counts_both size r None (Some b) shown_a shown_b is_a is_b = alone size r B b is_b shown_b shown_a
counts_both size r (Some a) (Some b) shown_a shown_b is_a is_b = by (nat_lt a.number b.number) refl
  where
    by : (t : Bool) → nat_lt a.number b.number ≡ t → IfSome (if t then Some (b, true) else Some (a, true)) (λ (x : SuperBody × Bool). Counts size r x.0 x.1)
    by true e = beside size r B b a is_b is_a shown_b shown_a (grind (arith, nat_tests))
    by false e = (let not = differ size a b is_a is_b in beside size r A a b is_a is_b shown_a shown_b (grind (arith, nat_tests)))

-- and where none is chosen there is none
pub none_open : (r : Reading) (a b : Option SuperBody) → r (Super A) ≡ option_map super_bytes a → r (Super B) ≡ option_map super_bytes b → chosen a b ≡ None → HasNoSuper r
none_open r None None shown_a shown_b none A = shown_a
none_open r None None shown_a shown_b none B = shown_b
none_open r (Some a) None shown_a shown_b none side = absurd cc
none_open r None (Some b) shown_a shown_b none side = absurd cc
none_open r (Some a) (Some b) shown_a shown_b none side = by (nat_lt a.number b.number) (b, true) (a, true) none
  where
    by : (t : Bool) (x y : SuperBody × Bool) → (if t then Some x else Some y) ≡ None → r (Super side) ≡ None
    by true x y e = absurd cc
    by false x y e = absurd cc

-- ---- what is answered

pub if_chosen : (size : ℕ) (r : Reading) (o : Option (SuperBody × Bool)) (q : Result (SuperBody × Bool) Refusal) → o ≡ result_ok q → IfSome o (λ x. Counts size r x.0 x.1) → IfOk q (λ x. Counts size r x.0 x.1)
if_chosen size r o (Ok x) e h = subst (λ (p : Option (SuperBody × Bool)). IfSome p (λ y. Counts size r y.0 y.1)) e h
if_chosen size r o (Err x) e h = tt

pub if_none : (None_open Bad : Type 0) (o : Option (SuperBody × Bool)) (q : Result (SuperBody × Bool) Refusal) → q ≡ ok_or o NotFormatted → (o ≡ None → None_open) → IfErr q (RefusesSupers None_open Bad)
if_none None_open Bad None q e h = subst (λ (p : Result (SuperBody × Bool) Refusal). IfErr p (RefusesSupers None_open Bad)) (sym e) (inr (inl (refl, h refl)))
if_none None_open Bad (Some x) q e h = subst (λ (p : Result (SuperBody × Bool) Refusal). IfErr p (RefusesSupers None_open Bad)) (sym e) tt
