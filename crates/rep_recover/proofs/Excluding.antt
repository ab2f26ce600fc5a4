-- Where there is a reason to refuse, an image means nothing.
use Rattle.std.proofs.Common.{◌≡◌, ℕ, ◌<◌, ◌⊎◌, inl, inr, List, length, Option, Some, None, refl, sym, ap, subst, ◌∙◌, arith}
use Rattle.std.proofs.lemmas.Option.{same_Some}
use Rattle.rep_types.specs.declared.refusal.Part.{Part}
use Rattle.rep_types.specs.declared.refusal.Part.TheVariants.{Superblock, Window as in_window, Log as in_log, Pages}
use Rattle.rep_types.specs.declared.refusal.Refusal.{Refusal}
use Rattle.rep_types.specs.declared.refusal.Refusal.TheVariants.{NotFormatted, Corrupt}
use Rattle.rep_types.specs.Windows.{Window as WindowOf}
use Rattle.rep_types.specs.Settings.{Setting}
use Rattle.rep_layout.specs.declared.super_body.SuperBody.{SuperBody}
use Rattle.rep_layout.specs.declared.place.Side.{Side}
use Rattle.rep_layout.specs.declared.place.Side.TheVariants.{A, B}
use Rattle.rep_layout.specs.declared.place.Place.TheVariants.{Super}
use Rattle.rep_layout.specs.Places.{side_of, layout_of}
use Rattle.rep_layout.specs.Supers.{super_bytes, SuperblocksAreTold}
use Rattle.rep_layout.specs.Windows.{Window, beside, WindowsAreTold}
use Rattle.rep_cells.specs.Readings.{Reading, reading_of}
use Rattle.rep_steps.specs.Images.{Meaning, AreJudgedFrom}
use Rattle.rep_engine.specs.Bases.{other, IsSuperAt, IsLesser, IsChosen, HasWindow}
use Rattle.rep_engine.specs.Meanings.{Means, MeansBy}
use Rattle.rep_recover.specs.Judging.{bare, base_with}
use Rattle.rep_recover.specs.Looking.{HasBadSuper, HasTail}
use Rattle.rep_recover.specs.Opening.{without_log, FailsBehind, HasFault, IsReason, ReasonsExcludeMeanings}
use Rattle.rep_recover.proofs.Contents.{judged_alike}

-- ---- the superblock that counts is one

-- a superblock that is open on the other side is lesser
is_lesser : SuperblocksAreTold → (size number : ℕ) (side : Side) (o : Option (List ℕ)) (c : SuperBody) → IsSuperAt size side c → o ≡ Some (super_bytes c) → IsLesser size side number o → c.number < number
is_lesser told size number side None c is e h = absurd cc
is_lesser told size number side (Some body) c is e h =
    let same : c ≡ h.0 = told c h.0 is.is_super h.2.is_super (sym (same_Some _ _ e) ∙ h.1) in
    subst (λ (b : SuperBody). b.number < number) (sym same) h.3

-- a side is another or the other one
sides : (x y : Side) → (x ≡ y) ⊎ (x ≡ other y)
sides A A = inl refl
sides A B = inr refl
sides B A = inr refl
sides B B = inl refl

other_twice : (x : Side) → other (other x) ≡ x
other_twice A = refl
other_twice B = refl

module _ (told : SuperblocksAreTold) (size : ℕ) (r s : Reading) (alike : (side : Side) → r (Super side) ≡ s (Super side)) (b c : SuperBody) (h : IsChosen size r b) (k : IsChosen size s c) where
  one_super : b ≡ c
  one_super = elim (sides (side_of c.number) (side_of b.number)) [
    | inl same ↦
        told b c h.is_super.is_super k.is_super.is_super (same_Some _ _ (sym h.stands ∙ ap (λ (side : Side). r (Super side)) (sym same) ∙ alike (side_of c.number) ∙ k.stands))
    | inr apart ↦ (
        let back : side_of b.number ≡ other (side_of c.number) = sym (other_twice (side_of b.number)) ∙ ap other (sym apart) in
        let less : c.number < b.number =
        is_lesser told size b.number (other (side_of b.number)) (r (Super (other (side_of b.number)))) c (subst (λ (side : Side). IsSuperAt size side c) apart k.is_super)
        (alike (other (side_of b.number)) ∙ ap (λ (side : Side). s (Super side)) (sym apart) ∙ k.stands) h.lesser in
        let more : b.number < c.number =
        is_lesser told size c.number (other (side_of c.number)) (s (Super (other (side_of c.number)))) b (subst (λ (side : Side). IsSuperAt size side b) back h.is_super)
        (sym (alike (other (side_of c.number))) ∙ ap (λ (side : Side). r (Super side)) (sym back) ∙ h.stands) k.lesser in
        absurd (omega (arith, less, more)))
  ]

-- ---- no superblock

bad_super : (size : ℕ) (r s : Reading) → ((side : Side) → r (Super side) ≡ s (Super side)) → (b : SuperBody) → IsChosen size r b → HasBadSuper size s → ⊥
bad_super size r s alike b h bad = elim (sides bad.side (side_of b.number)) [
  | inl same ↦
      bad.none b (same_Some _ _ (sym bad.shown ∙ sym (alike bad.side) ∙ ap (λ (side : Side). r (Super side)) same ∙ h.stands)) (subst (λ (side : Side). IsSuperAt size side b) (sym same) h.is_super)
  | inr apart ↦ (
      let shown : r (Super (other (side_of b.number))) ≡ Some bad.body = ap (λ (side : Side). r (Super side)) (sym apart) ∙ alike bad.side ∙ bad.shown in
      let less : IsLesser size (other (side_of b.number)) b.number (Some bad.body) = subst (λ (o : Option (List ℕ)). IsLesser size (other (side_of b.number)) b.number o) shown h.lesser in
      bad.none less.0 less.1 (subst (λ (side : Side). IsSuperAt size side less.0) (sym apart) less.2))
]

-- ---- what stands behind it

module _ (windows : WindowsAreTold) (size : ℕ) (b : SuperBody) (r : Reading) (m : Meaning) (h : MeansBy size b r m) where
  window_is : (v : WindowOf) → HasWindow r b v → m.base.kept ≡ v
  window_is v k =
      ap (λ (w : Window). w.kept)
      (windows b.params (beside b m.base.kept) (beside b v) h.chosen.is_super.is_super.setting h.window.is_window k.is_window (same_Some _ _ (sym h.window.stands ∙ k.stands)))

  tail_is : HasTail r b m.base.kept m.tail
  tail_is =
      let here : AreJudgedFrom b.params (base_with m.base.position m.base.kept m.base.content) m.tail = subst (λ (p : Setting). AreJudgedFrom p m.base m.tail) h.setting h.judged in
      record {
        blocks = h.blocks;
        has = record { log = h.log; undefined = h.undefined };
        items_are = h.tail;
        judged = subst (λ (n : ℕ). AreJudgedFrom b.params (bare n m.base.kept) m.tail) h.position (judged_alike b.params m.base.position m.base.kept m.base.content (λ key. None) m.tail here);
      }

  fails_not : (part : Part) → FailsBehind part r b → ⊥
  fails_not Superblock fails = fails
  fails_not in_window fails = fails.none m.base.kept h.window
  fails_not in_log fails = fails.none m.tail (subst (λ (v : WindowOf). HasTail r b v m.tail) (window_is fails.beside fails.window) tail_is)
  fails_not Pages fails =
      let page = h.content.pages fails.bad.number fails.bad.slot fails.bad.there in
      fails.bad.none (record { body = page.0; shown = page.1; page = page.2.page; is_page = record { is_page = page.2.is_page; is_it = page.2.is_it; earlier = page.2.earlier } })

-- ---- any reason

module _ (supers : SuperblocksAreTold) (windows : WindowsAreTold) (image : List ℕ) (m : Meaning) (h : Means image m) where
  fault_not : (part : Part) → HasFault part image → ⊥
  fault_not part fault =
      let b : SuperBody = fault.0 in
      let same : h.super ≡ b =
      one_super supers (length image) (reading_of (layout_of h.super.params) image) (reading_of (layout_of b.params) image) (λ side. refl) h.super b h.means.chosen fault.1.0 in
      fails_not windows (length image) b (reading_of (layout_of b.params) image) m (subst (λ (x : SuperBody). MeansBy (length image) x (reading_of (layout_of x.params) image) m) same h.means) part fault.1.1

  reason_not : (e : Refusal) → IsReason image e → ⊥
  reason_not NotFormatted (inl small) = absurd (omega (arith, small, h.means.chosen.is_super.fits))
  reason_not NotFormatted (inr none) = let never = sym (none (side_of h.super.number)) ∙ h.means.chosen.stands in absurd cc
  reason_not (Corrupt Superblock) why = bad_super (length image) (reading_of (layout_of h.super.params) image) (reading_of without_log image) (λ side. refl) h.super h.means.chosen why.1
  reason_not (Corrupt in_window) why = fault_not in_window why
  reason_not (Corrupt in_log) why = fault_not in_log why
  reason_not (Corrupt Pages) why = fault_not Pages why
  reason_not e why = absurd why

pub exclude : SuperblocksAreTold → WindowsAreTold → ReasonsExcludeMeanings
exclude supers windows image e m why means = reason_not supers windows image m means e why
