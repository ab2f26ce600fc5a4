-- The base in every image.
use Rattle.std.proofs.Common.{◌≡◌, refl, sym, ap, subst, ◌∙◌, ℕ, ◌<◌, ◌≤◌, ◌⊎◌, inl, inr, Bool, true, false, List, length, Option, None, Some, arith}
use Rattle.std.specs.Prelude.{is_some}
use Rattle.std.proofs.lemmas.Bool.{cases_lt}
use Rattle.std.proofs.lemmas.Bool.Decides.{nat_tests}
use Rattle.std.proofs.lemmas.List.{get_or_past}
use Rattle.rep_types.specs.Settings.{Setting}
use Rattle.rep_types.specs.Order.{State}
use Rattle.rep_types.specs.Windows.{Window as WindowOf}
use Rattle.rep_layout.specs.declared.super_body.SuperBody.{SuperBody}
use Rattle.rep_layout.specs.declared.page_state.PageState.TheVariants.{Nowhere, In}
use Rattle.rep_layout.specs.declared.place.Layout.{Layout}
use Rattle.rep_layout.specs.declared.place.Side.{Side}
use Rattle.rep_layout.specs.declared.place.Slot.{Slot}
use Rattle.rep_layout.specs.declared.place.Place.TheVariants.{Super, Window, Page}
use Rattle.rep_layout.specs.Places.{side_of, layout_of, need_of, TurnsAreTaken}
use Rattle.rep_layout.specs.Supers.{IsSuper, super_bytes}
use Rattle.rep_layout.specs.Windows.{window_bytes, IsWindowBody, beside}
use Rattle.rep_cells.specs.Readings.{Reading, IsPlace, reading_of}
use Rattle.rep_cells.specs.States.{State as StateOf, States, Opened, Stable, Allows, Allowed}
use Rattle.rep_cells.specs.Known.{found_as, found}
use Rattle.rep_pages.specs.Slots.{state_of_page}
use Rattle.rep_image.specs.Bases.{other, IsSuperAt, IsLesser, HaveContent, HasContent}
use Rattle.rep_checkpoint.specs.declared.stage.Part.TheVariants.{Flushing, Saving, Ready, SuperFilling, SuperFilled, SuperOpening}
use Rattle.rep_checkpoint.specs.declared.stage.Stage.{Stage}
use Rattle.rep_checkpoint.specs.declared.stage.Stage.TheVariants.{Off, Toward, Retiring}
use Rattle.rep_checkpoint.specs.Next.{Next}
use Rattle.rep_checkpoint.specs.Standing.{Standing, spare_side}
use Rattle.rep_checkpoint.specs.Moves.{is_opening, found_at}
use Rattle.rep_checkpoint.specs.States.{IsBase, IsRetiring, StandsBeside, CheckpointIs}
use Rattle.rep_checkpoint.specs.Laws.{HasBase, IsOneOf, TheBaseInEveryImage, TheBaseStandsStill, TheBaseIsFound}
use Rattle.rep_checkpoint.proofs.Frames.{next_side, other_again, content_as, IsOpening, toward_opens}

-- what a place may read as whose state is this
pub reads_as : (state to : StateOf) (reading : Option (List ℕ)) → state ≡ to → Allows state reading → Allows to reading
reads_as state to reading e h = subst (λ (t : StateOf). Allows t reading) e h

-- ---- the superblock beside the base

pub lesser_none : (size number : ℕ) (side : Side) (reading : Option (List ℕ)) → reading ≡ None → IsLesser size side number reading
lesser_none size number side reading e = subst (IsLesser size side number) (sym e) tt

lesser_some : (size number : ℕ) (side : Side) (b : SuperBody) (reading : Option (List ℕ)) → reading ≡ Some (super_bytes b) → IsSuperAt size side b → b.number < number → IsLesser size side number reading
lesser_some size number side b reading e is lt = subst (IsLesser size side number) (sym e) (b, refl, is, lt)

retiring_lesser : (size : ℕ) (b : SuperBody) (written : Bool) (s : States) → IsRetiring size b written s → (reading : Option (List ℕ)) → Allows (s (Super (spare_side b))) reading → IsLesser size (spare_side b) b.number reading
retiring_lesser size b false s h reading allowed = lesser_some size b.number (spare_side b) h.before reading (reads_as _ _ reading h.cell allowed) h.is_super h.lesser
retiring_lesser size b true s h reading allowed = elim (reads_as _ _ reading h.cell allowed) [
  | inl none ↦ lesser_none size b.number (spare_side b) reading none
  | inr some ↦ lesser_some size b.number (spare_side b) h.before reading some h.is_super h.lesser
]

-- but where it opens, it is lesser or none
beside_lesser : (size : ℕ) (b : SuperBody) (stage : Stage) (y : State) (s : States) → is_opening stage ≡ false → StandsBeside size b stage y s
    → (reading : Option (List ℕ)) → Allows (s (Super (spare_side b))) reading → IsLesser size (spare_side b) b.number reading
beside_lesser size b Off y s not h reading allowed = lesser_none size b.number (spare_side b) reading (reads_as _ _ reading h allowed)
beside_lesser size b (Toward next Flushing) y s not h reading allowed = lesser_none size b.number (spare_side b) reading (reads_as _ _ reading h.cell allowed)
beside_lesser size b (Toward next Saving) y s not h reading allowed = lesser_none size b.number (spare_side b) reading (reads_as _ _ reading h.cell allowed)
beside_lesser size b (Toward next Ready) y s not h reading allowed = lesser_none size b.number (spare_side b) reading (reads_as _ _ reading h.cell allowed)
beside_lesser size b (Toward next SuperFilling) y s not h reading allowed = lesser_none size b.number (spare_side b) reading (reads_as _ _ reading h.cell allowed)
beside_lesser size b (Toward next SuperFilled) y s not h reading allowed = lesser_none size b.number (spare_side b) reading (reads_as _ _ reading h.cell allowed)
beside_lesser size b (Toward next SuperOpening) y s not h reading allowed = absurd cc
beside_lesser size b (Retiring written) y s not h reading allowed = retiring_lesser size b written s h reading allowed

pub stands_still : TheBaseStandsStill
stands_still size c x y s not is = record {
  is_super = is.base.is_super;
  opened = is.base.opened;
  lesser = beside_lesser size c.base c.stage y s not is.beside;
  saved = is.base.saved;
  is_window = is.base.is_window;
}

-- ---- a base in an image

-- a page that is in a slot is there
is_page : (b : SuperBody) → IsSuper b → (number : ℕ) (slot : Slot) → state_of_page b number ≡ In slot → IsPlace (layout_of b.params) (Page number slot)
is_page b super number slot there = by (cases_lt number (length b.pages.items))
  where
    by : ((number < length b.pages.items) ⊎ (length b.pages.items ≤ number)) → IsPlace (layout_of b.params) (Page number slot)
    by (inl lt) = grind (arith, nat_tests, lt, super.pages)
    by (inr le) = let none = sym there ∙ get_or_past b.pages.items number Nowhere le in absurd cc

contents : (b : SuperBody) (x : State) (s : States) (r : Reading) → IsSuper b → Allowed (layout_of b.params) s r → HaveContent b (λ number slot body. s (Page number slot) ≡ Stable body) x.content → HasContent r b x.content
contents b x s r super allowed h = content_as (λ number slot body there e. reads_as _ (Stable body) _ e (allowed (Page number slot) (is_page b super number slot there))) h

pub base_in : (size : ℕ) (b : SuperBody) (x : State) (s : States) (r : Reading) → Allowed (layout_of b.params) s r → IsBase size b x s → IsLesser size (spare_side b) b.number (r (Super (spare_side b))) → HasBase size r b x
base_in size b x s r allowed h lesser = record {
  chosen = record { stands = reads_as _ (Opened (super_bytes b)) _ h.opened (allowed (Super (side_of b.number)) refl); is_super = h.is_super; lesser = lesser };
  position = h.position;
  window = record { stands = reads_as _ (Stable (window_bytes (beside b x.kept))) _ h.saved (allowed (Window (side_of b.number)) refl); is_window = h.is_window };
  content = contents b x s r h.is_super.is_super allowed h.content;
}

-- the next base, where its gate is open
pub next_in : TurnsAreTaken → (size : ℕ) (b : SuperBody) (next : Next) (x y : State) (s : States) (r : Reading) → Allowed (layout_of b.params) s r → IsBase size b x s → IsOpening b next y s → r (Super (spare_side b)) ≡ Some (super_bytes next.super)
    → HasBase size r next.super y
next_in turns size b next x y s r allowed base opening shows =
    let n = next.super in
    let side : side_of n.number ≡ spare_side b = next_side turns b n opening.number in
    let back : spare_side n ≡ side_of b.number = ap other side ∙ other_again (side_of b.number) in
    let shown : r (Super (spare_side n)) ≡ Some (super_bytes b) = ap (λ (d : Side). r (Super d)) back ∙ reads_as _ (Opened (super_bytes b)) _ base.opened (allowed (Super (side_of b.number)) refl) in
    let saved : r (Window (spare_side b)) ≡ Some _ = reads_as _ (Stable _) _ opening.saved.window (allowed (Window (spare_side b)) refl) in
    record {
      chosen = record {
        stands = ap (λ (d : Side). r (Super d)) side ∙ shows;
        is_super = record { is_super = opening.is_super; here = refl; fits = subst (λ (p : Setting). need_of (layout_of p) ≤ size) (sym opening.params) base.is_super.fits };
        lesser = lesser_some size n.number (spare_side n) b (r (Super (spare_side n))) shown (subst (λ (d : Side). IsSuperAt size d b) (sym back) base.is_super) (omega (arith, opening.number));
      };
      position = opening.position;
      window = record {
        stands = ap (λ (d : Side). r (Window d)) side ∙ saved ∙ ap (λ (v : WindowOf). Some (window_bytes (beside n v))) (sym opening.kept);
        is_window = subst (λ (v : WindowOf). IsWindowBody n.params (beside n v)) (sym opening.kept) opening.is_window;
      };
      content = contents n y s r opening.is_super (subst (λ (p : Setting). Allowed (layout_of p) s r) (sym opening.params) allowed) opening.saved.content;
    }

-- the base is one of both
Told : ℕ → Reading → Standing → State → State → Type 0
Told size r c x y = (b : SuperBody) × (z : State) × IsOneOf c x y b z × HasBase size r b z

still_in : (size : ℕ) (c : Standing) (x y : State) (s : States) (r : Reading) → Allowed (layout_of c.base.params) s r → is_opening c.stage ≡ false → CheckpointIs size c x y s
    → (b : SuperBody) × (z : State) × IsOneOf c x y b z × HasBase size r b z
still_in size c x y s r allowed not is =
    (c.base, x, inl (refl, refl), base_in size c.base x s r allowed is.base (beside_lesser size c.base c.stage y s not is.beside (r (Super (spare_side c.base))) (allowed (Super (spare_side c.base)) refl)))

told : TurnsAreTaken → (size : ℕ) (b : SuperBody) (stage : Stage) (x y : State) (s : States) (r : Reading) → Allowed (layout_of b.params) s r → CheckpointIs size (record { base = b; stage = stage }) x y s
    → (a : SuperBody) × (z : State) × IsOneOf (record { base = b; stage = stage }) x y a z × HasBase size r a z
told turns size b Off x y s r allowed is = still_in size (record { base = b; stage = Off }) x y s r allowed refl is
told turns size b (Toward next Flushing) x y s r allowed is = still_in size (record { base = b; stage = Toward next Flushing }) x y s r allowed refl is
told turns size b (Toward next Saving) x y s r allowed is = still_in size (record { base = b; stage = Toward next Saving }) x y s r allowed refl is
told turns size b (Toward next Ready) x y s r allowed is = still_in size (record { base = b; stage = Toward next Ready }) x y s r allowed refl is
told turns size b (Toward next SuperFilling) x y s r allowed is = still_in size (record { base = b; stage = Toward next SuperFilling }) x y s r allowed refl is
told turns size b (Toward next SuperFilled) x y s r allowed is = still_in size (record { base = b; stage = Toward next SuperFilled }) x y s r allowed refl is
told turns size b (Toward next SuperOpening) x y s r allowed is = elim (reads_as _ _ _ is.beside.cell (allowed (Super (spare_side b)) refl)) [
  | inl none ↦ (b, x, inl (refl, refl), base_in size b x s r allowed is.base (lesser_none size b.number (spare_side b) (r (Super (spare_side b))) none))
  | inr some ↦ (next.super, y, inr (next, refl, refl, refl), next_in turns size b next x y s r allowed is.base (toward_opens b next y s is.beside) some)
]
told turns size b (Retiring written) x y s r allowed is = still_in size (record { base = b; stage = Retiring written }) x y s r allowed refl is

pub in_every_image : TurnsAreTaken → TheBaseInEveryImage
in_every_image turns size l s r c x y same is allowed = told turns size c.base c.stage x y s r (subst (λ (k : Layout). Allowed k s r) same allowed) is

-- ---- what an opening finds

-- a place without a gate is stable, and one that stands open is open
found_stable : (reading : Option (List ℕ)) (body : List ℕ) → reading ≡ Some body → found_as 0 reading ≡ Stable body
found_stable reading body e = ap (found_as 0) e

found_opened : (reading : Option (List ℕ)) (body : List ℕ) → reading ≡ Some body → found_as 512 reading ≡ Opened body
found_opened reading body e = ap (found_as 512) e

base_found : (size : ℕ) (l : Layout) (bytes : List ℕ) (b : SuperBody) (x : State) → HasBase size (reading_of l bytes) b x → IsBase size b x (found l bytes)
base_found size l bytes b x h = record {
  is_super = h.chosen.is_super;
  position = h.position;
  opened = found_opened _ _ h.chosen.stands;
  saved = found_stable _ _ h.window.stands;
  is_window = h.window.is_window;
  content = content_as (λ number slot body there e. found_stable _ body e) h.content;
}

beside_found : (size : ℕ) (l : Layout) (bytes : List ℕ) (b : SuperBody) (y : State) (both : Bool) (reading : Option (List ℕ)) → reading_of l bytes (Super (spare_side b)) ≡ reading → IsLesser size (spare_side b) b.number reading → both ≡ is_some reading
    → StandsBeside size b (found_at b both).stage y (found l bytes)
beside_found size l bytes b y true None e lesser is = absurd cc
beside_found size l bytes b y false None e lesser is = ap (found_as 512) e
beside_found size l bytes b y true (Some body) e lesser is = record {
  before = lesser.0;
  is_super = lesser.2;
  lesser = lesser.3;
  cell = found_opened _ (super_bytes lesser.0) (e ∙ ap Some lesser.1);
}
beside_found size l bytes b y false (Some body) e lesser is = absurd cc

pub is_found : TheBaseIsFound
is_found size l bytes b both x y h is = record {
  base = base_found size l bytes b x h;
  beside = beside_found size l bytes b y both (reading_of l bytes (Super (spare_side b))) refl h.chosen.lesser is;
}
