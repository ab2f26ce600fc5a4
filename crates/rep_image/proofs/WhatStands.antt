-- What stands on a device is what every image means.
use Rattle.std.proofs.Common.{◌≡◌, refl, sym, subst, ◌∙◌, ℕ, ◌+◌, ◌<◌, ◌≤◌, ◌⊎◌, inl, inr, List, length, Option, arith}
use Rattle.std.proofs.lemmas.Bool.{cases_lt}
use Rattle.std.proofs.lemmas.List.{get_or_past}
use Rattle.std.proofs.lemmas.Bool.Decides.{nat_tests}
use Rattle.rep_types.specs.declared.judged.Judged.{Judged}
use Rattle.rep_layout.specs.declared.super_body.SuperBody.{SuperBody}
use Rattle.rep_layout.specs.declared.page_state.PageState.TheVariants.{Nowhere, In}
use Rattle.rep_layout.specs.declared.place.Slot.{Slot}
use Rattle.rep_layout.specs.declared.place.Place.TheVariants.{Super, Window, Page}
use Rattle.rep_layout.specs.Places.{side_of, layout_of}
use Rattle.rep_layout.specs.Supers.{super_bytes}
use Rattle.rep_layout.specs.Windows.{window_bytes, beside}
use Rattle.rep_steps.specs.Readings.{Reading, IsPlace, reading_of}
use Rattle.rep_steps.specs.CellStates.{State, States, Opened, Stable, Allows, Allowed}
use Rattle.rep_pages.specs.Slots.{state_of_page}
use Rattle.rep_steps.specs.Tail.{IsLog}
use Rattle.rep_steps.specs.LogStanding.{Standing}
use Rattle.rep_steps.specs.LogLaws.{TheLogInEveryImage}
use Rattle.rep_steps.specs.Images.{Meaning}
use Rattle.rep_image.specs.Bases.{other, IsChosen, HasWindow, HasContent}
use Rattle.rep_image.specs.Standing.{Stands, ImagesMeanWhatStands}

-- what a place reads as whose state is this
reads_as : (state to : State) (reading : Option (List ℕ)) → state ≡ to → Allows state reading → Allows to reading
reads_as state to reading e h = subst (λ (t : State). Allows t reading) e h

module _ (image : List ℕ) (b : SuperBody) (m : Meaning) (log : Standing) (blocks : List (List Judged)) (sealed : List Judged) (s : States)
    (h : Stands (length image) b m log blocks sealed s) (allowed : Allowed (layout_of b.params) s (reading_of (layout_of b.params) image)) where
  abbrev r : Reading
  r = reading_of (layout_of b.params) image

  chosen : IsChosen (length image) r b
  chosen = record {
    stands = reads_as _ (Opened (super_bytes b)) _ h.base.opened (allowed (Super (side_of b.number)) refl);
    is_super = h.base.is_super;
    lesser = h.base.lesser (r (Super (other (side_of b.number)))) (allowed (Super (other (side_of b.number))) refl);
  }

  windows : HasWindow r b m.base.kept
  windows = record {
    stands = reads_as _ (Stable (window_bytes (beside b m.base.kept))) _ h.base.saved (allowed (Window (side_of b.number)) refl);
    is_window = h.base.is_window;
  }

  contents : HasContent r b m.base.content
  contents = record {
    pages = λ number slot there.
        let page = h.content.pages number slot there in
        (page.0, reads_as _ (Stable page.0) _ page.1 (allowed (Page number slot) (is_page number slot there)), page.2);
    absent = h.content.absent;
    outside = h.content.outside;
  }
    where
      is_page : (number : ℕ) (slot : Slot) → state_of_page b number ≡ In slot → IsPlace (layout_of b.params) (Page number slot)
      is_page number slot there = by (cases_lt number (length b.pages.items))
        where
          by : ((number < length b.pages.items) ⊎ (length b.pages.items ≤ number)) → IsPlace (layout_of b.params) (Page number slot)
          by (inl lt) = grind (arith, nat_tests, lt, h.base.is_super.is_super.pages)
          by (inr le) = let none = sym there ∙ get_or_past b.pages.items number Nowhere le in absurd cc

pub stand : TheLogInEveryImage → ImagesMeanWhatStands
stand law image b m log blocks sealed s h allowed =
    let in_image = law (layout_of b.params) s (reading_of (layout_of b.params) image) log (b.position + 1) blocks sealed h.log_is allowed in
    let log_is : IsLog (reading_of (layout_of b.params) image) (layout_of b.params) b.start (b.position + 1) in_image.0 =
    subst (λ n. IsLog (reading_of (layout_of b.params) image) (layout_of b.params) n (b.position + 1) in_image.0) (omega (arith, h.start)) (in_image.2 0 (omega arith)) in (
      in_image.0,
      in_image.1,
      λ undefined judged. record {
        super = b;
        means = record {
          chosen = chosen image b m log blocks sealed s h allowed;
          uuid = h.uuid;
          setting = h.setting;
          position = h.position;
          window = windows image b m log blocks sealed s h allowed;
          content = contents image b m log blocks sealed s h allowed;
          blocks = in_image.0;
          log = log_is;
          undefined = undefined;
          tail = refl;
          judged = judged;
        };
      },
    )
