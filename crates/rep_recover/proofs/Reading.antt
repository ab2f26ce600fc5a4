-- Calls that write nothing, one after another.
use Rattle.std.proofs.Common.{◌≡◌, ℕ, ◌+◌, ◌<◌, ◌≤◌, ◌⊎◌, inl, inr, Result, Ok, ap, subst, ◌∙◌, arith}
use Rattle.rep_types.specs.declared.refusal.Refusal.{Refusal}
use Rattle.rep_disk.specs.declared.disk.Disk.{Ghosts}
use Rattle.rep_disk.specs.History.{History}
use Rattle.rep_log.specs.Moves.{fault_of}
use Rattle.std.proofs.lemmas.Bool.{cases_lt}
use Rattle.rep_disk.specs.History.{seen}
use Rattle.rep_layout.specs.declared.super_body.SuperBody.{SuperBody}
use Rattle.rep_layout.specs.declared.page_state.PageState.TheVariants.{In}
use Rattle.rep_layout.specs.declared.place.Layout.{Layout}
use Rattle.rep_layout.specs.declared.place.Slot.{Slot}
use Rattle.rep_cells.specs.Readings.{reading_of}
use Rattle.rep_pages.specs.Slots.{state_of_page}
use Rattle.rep_recover.specs.Looking.{Looks, HasPage, HasFirstPages}
use Rattle.rep_recover.proofs.Going.{calls}

module _ {D : Type 0} (g : Ghosts D) where
  -- one behind another that succeeded
  pub looks_on : {T U : Type 0} (a b d : D) (x : T) (r : Result U Refusal) → Looks {T = T} g a b (Ok x) → Looks g b d r → Looks g a d r
  looks_on a b d x r first second = record {
    call = calls g a b d tt (fault_of r) first.call second.call;
    same = λ h. second.same (first.call.stays_honest h) ∙ first.same h;
  }

-- ---- pages

pub pages_more : (l m : Layout) (h g : History) (b : SuperBody) (k : ℕ) → m ≡ l → g ≡ h → HasFirstPages (reading_of l (seen h)) b k
    → ((slot : Slot) → state_of_page b k ≡ In slot → HasPage (reading_of m (seen g)) b k slot) → HasFirstPages (reading_of l (seen h)) b (k + 1)
pages_more l m h g b k same_layout same_history first next number slot lt there = by (cases_lt number k)
  where
    here : (slot : Slot) → state_of_page b k ≡ In slot → HasPage (reading_of l (seen h)) b k slot
    here slot there =
        subst (λ (x : Layout). HasPage (reading_of x (seen h)) b k slot) same_layout (subst (λ (x : History). HasPage (reading_of m (seen x)) b k slot) same_history (next slot there))

    by : ((number < k) ⊎ (k ≤ number)) → HasPage (reading_of l (seen h)) b number slot
    by (inl less) = first number slot less there
    by (inr le) =
        let same : k ≡ number = omega (arith, lt, le) in
        subst (λ (n : ℕ). HasPage (reading_of l (seen h)) b n slot) same (here slot (ap (state_of_page b) same ∙ there))
