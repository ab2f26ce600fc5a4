-- What a donor reads of an engine that stands for a node: the base, its window and its pages.
use Rattle.std.proofs.Common.{◌≡◌, ◌≢◌, ◌⊎◌, ℕ, List, Option, None, Some, Result, Ok, Err, inl, inr, refl, sym, ap, subst, ◌∙◌, IfOk, IfErr, IfSome}
use Rattle.rep_types.specs.declared.refusal.Refusal.{Refusal}
use Rattle.rep_types.specs.declared.refusal.Refusal.TheVariants.{Corrupt, DiskFault}
use Rattle.rep_types.specs.declared.refusal.Part.TheVariants.{Window as in_window, Pages as in_pages}
use Rattle.rep_types.specs.declared.key.Key.{Key}
use Rattle.rep_types.specs.Windows.{Window as Kept}
use Rattle.rep_disk.specs.declared.disk.Disk.{Ghosts}
use Rattle.rep_disk.specs.History.{seen}
use Rattle.rep_disk.specs.Devices.{Calls, SameHistory}
use Rattle.rep_layout.specs.declared.page_state.PageState.TheVariants.{In, Nowhere}
use Rattle.rep_layout.specs.declared.place.Layout.{Layout}
use Rattle.rep_layout.specs.declared.place.Place.{Place}
use Rattle.rep_layout.specs.declared.place.Place.TheVariants.{Window}
use Rattle.rep_layout.specs.declared.place.Slot.{Slot}
use Rattle.rep_layout.specs.declared.super_body.SuperBody.{SuperBody}
use Rattle.rep_layout.specs.Places.{side_of}
use Rattle.rep_layout.specs.Windows.{Window as WindowBody, window_bytes, IsWindowBody, beside}
use Rattle.rep_cells.specs.Readings.{Reading, reading_of}
use Rattle.rep_cells.specs.States.{States, IsSure, Shows}
use Rattle.rep_cells.specs.Known.{Assigns, IsReadable}
use Rattle.rep_pages.specs.declared.page.Page.{Page as PageBody}
use Rattle.rep_pages.specs.Pages.{IsPage}
use Rattle.rep_pages.specs.Slots.{state_of_page}
use Rattle.rep_pool.specs.BasePages.{HasPage, IsPageAsSpelled}
use Rattle.rep_log.specs.declared.phase.Phase.{Phase}
use Rattle.rep_log.specs.Moves.{fault_of}
use Rattle.rep_steps.specs.Nodes.{Node}
use Rattle.rep_checkpoint.specs.Laws.{StableBasesAreRead}
use Rattle.rep_engine.specs.Engines.{Engine, IsEngine}
use Rattle.rep_engine.specs.Holding.{Stands, Holds}
use Rattle.rep_engine.specs.Reading.{halted_by}
use Rattle.rep_engine.specs.Donating.{Asks, IsBasePage, HasNoRow, IsWindowAsSpelled, IsBasePageAsSpelled}
use Rattle.rep_engine.proofs.Asking.{holds_read, asks_by}

-- a page that stands in a slot is one of the schema
page_form : (r : Reading) (b : SuperBody) (number : ℕ) (page : PageBody) → HasPage r b number page → (slot : Slot) → state_of_page b number ≡ In slot → (first : Key) × IsPage b.params.rows first page
page_form r b number page (inl spelled) slot there = (spelled.is_page.first, spelled.is_page.is)
page_form r b number page (inr absent) slot there = cc (sym absent.nowhere ∙ there)

module _ {D : Type 0} (g : Ghosts D) (within old : Engine D) (is : within ≡ old) (engine : IsEngine within.layout within.checkpoint within.log within.kept within.block) (runs : within.halted ≡ None)
    (n : Node) (holds : Holds g n old) where
  before : Holds g n within
  before = subst (Holds g n) (sym is) holds

  there : Stands g n within
  there = before.runs runs

  -- What is read beside the superblock is the base's window.
  pub window_read :
      (b : SuperBody) (area : Place) (bytes : List ℕ) (result : Result WindowBody Refusal) → b ≡ within.checkpoint.base → area ≡ Window (side_of b.number) → (g.honest within.disk → (s : States) → Assigns within.layout (g.history within.disk) s → IsSure (s area) → Shows (s area) (Some bytes))
      → ((v : Kept) → IsWindowBody b.params (beside b v) → bytes ≡ window_bytes (beside b v) → result ≡ Ok (beside b v))
      → result ≡ Ok (beside b n.base.kept)
  window_read b area bytes result b_is area_is shown only =
      let base = there.stands.checkpoint.base in
      let saved = ap there.states area_is ∙ ap (λ (x : SuperBody). there.states (Window (side_of x.number))) b_is ∙ base.saved in
      let body : Some bytes ≡ Some (window_bytes (beside within.checkpoint.base n.base.kept)) = subst (λ state. Shows state (Some bytes)) saved (shown before.is_honest there.states there.assigns (subst IsSure (sym saved) tt)) in
      only n.base.kept (subst (λ (x : SuperBody). IsWindowBody x.params (beside x n.base.kept)) (sym b_is) base.is_window)
      (cc (body, ap (λ (x : SuperBody). window_bytes (beside x n.base.kept)) b_is))

  -- What is read of a page is the base's, and it is never corrupt.
  module _ (stable : StableBasesAreRead) (number : ℕ) (b : SuperBody) (b_is : b ≡ within.checkpoint.base) where
    page_read : (page : PageBody) → page.number ≡ number → IsPageAsSpelled (reading_of within.layout (seen (g.history within.disk))) b number (Ok page) → IsBasePage old.checkpoint.base n.base.content number page
    page_read page number_is spelled =
        let here = subst (λ (x : SuperBody). IsPageAsSpelled (reading_of within.layout (seen (g.history within.disk))) x number (Ok page)) b_is spelled in
        subst (λ (e : Engine D). IsBasePage e.checkpoint.base n.base.content number page) is (record {
          is_it = number_is;
          form = page_form (reading_of within.layout (seen (g.history within.disk))) within.checkpoint.base number page here.page;
          rows = stable.rows within.layout (g.history within.disk) within.checkpoint.base there.states n.base.content number page engine.checkpoint.is_super engine.layout there.assigns there.stands.checkpoint.base.content here.page;
        })

    page_whole : IsPageAsSpelled (reading_of within.layout (seen (g.history within.disk))) b number (Err (Corrupt in_pages)) → ⊥
    page_whole spelled =
        let here = subst (λ (x : SuperBody). IsPageAsSpelled (reading_of within.layout (seen (g.history within.disk))) x number (Err (Corrupt in_pages))) b_is spelled in
        stable.whole within.layout (g.history within.disk) within.checkpoint.base there.states n.base.content number engine.checkpoint.is_super engine.layout there.assigns there.stands.checkpoint.base.content (here.corrupt refl)

-- ---- as the bytes have it, whatever stands on the device

same_bytes : (xs ys : List ℕ) → ◌≡◌ {A = Option (List ℕ)} (Some xs) (Some ys) → xs ≡ ys
same_bytes xs ys is = cc

spelled_window : (r : Reading) (b : SuperBody) (bytes : List ℕ) (result : Result WindowBody Refusal) → r (Window (side_of b.number)) ≡ Some bytes → IfOk result (λ w. bytes ≡ window_bytes w)
    → ((v : Kept) → IsWindowBody b.params (beside b v) → bytes ≡ window_bytes (beside b v) → result ≡ Ok (beside b v)) → IsWindowAsSpelled r b result in_window
spelled_window r b bytes (Ok w) shown found only = record { given = shown ∙ ap Some found; corrupt = λ gave. absurd cc }
spelled_window r b bytes (Err e) shown found only = record {
  given = tt;
  corrupt = λ gave v is stands.
      let read = only v is (same_bytes bytes (window_bytes (beside b v)) (sym shown ∙ stands)) in
      absurd cc;
}

module _ {D : Type 0} (g : Ghosts D) (within old : Engine D) (is : within ≡ old) where
  pub window_spelled :
      (b : SuperBody) (area : Place) (bytes : List ℕ) (result : Result WindowBody Refusal) → b ≡ within.checkpoint.base → area ≡ Window (side_of b.number)
      → (g.honest within.disk → IsReadable within.layout (g.history within.disk) area → Some bytes ≡ reading_of within.layout (seen (g.history within.disk)) area)
      → ((v : Kept) → IsWindowBody b.params (beside b v) → bytes ≡ window_bytes (beside b v) → result ≡ Ok (beside b v))
      → IfOk result (λ w. bytes ≡ window_bytes w) → g.honest old.disk → IsReadable old.layout (g.history old.disk) (Window (side_of old.checkpoint.base.number))
      → IsWindowAsSpelled (reading_of old.layout (seen (g.history old.disk))) old.checkpoint.base result in_window
  window_spelled b area bytes result b_is area_is reads only found =
      subst (λ (e : Engine D). g.honest e.disk → IsReadable e.layout (g.history e.disk) (Window (side_of e.checkpoint.base.number)) → IsWindowAsSpelled (reading_of e.layout (seen (g.history e.disk))) e.checkpoint.base result in_window) is
      (λ h readable.
      let at : area ≡ Window (side_of within.checkpoint.base.number) = area_is ∙ ap (λ (x : SuperBody). Window (side_of x.number)) b_is in
      let shown = ap (reading_of within.layout (seen (g.history within.disk))) (sym at) ∙ sym (reads h (subst (IsReadable within.layout (g.history within.disk)) (sym at) readable)) in
      spelled_window (reading_of within.layout (seen (g.history within.disk))) within.checkpoint.base bytes result shown found
      (subst (λ (x : SuperBody). (v : Kept) → IsWindowBody x.params (beside x v) → bytes ≡ window_bytes (beside x v) → result ≡ Ok (beside x v)) b_is only))

  module _ (number : ℕ) (b : SuperBody) (b_is : b ≡ within.checkpoint.base) where
    moved : (result : Result (Option PageBody) Refusal) → IsBasePageAsSpelled (reading_of within.layout (seen (g.history within.disk))) b number result in_pages → IsBasePageAsSpelled (reading_of old.layout (seen (g.history old.disk))) old.checkpoint.base number result in_pages
    moved result here =
        subst (λ (e : Engine D). IsBasePageAsSpelled (reading_of e.layout (seen (g.history e.disk))) e.checkpoint.base number result in_pages) is
        (subst (λ (x : SuperBody). IsBasePageAsSpelled (reading_of within.layout (seen (g.history within.disk))) x number result in_pages) b_is here)

    page_given : (page : PageBody) → IsPageAsSpelled (reading_of within.layout (seen (g.history within.disk))) b number (Ok page) → IsBasePageAsSpelled (reading_of old.layout (seen (g.history old.disk))) old.checkpoint.base number (Ok (Some page)) in_pages
    page_given page spelled = moved (Ok (Some page)) (record { given = spelled.page; corrupt = λ gave. absurd cc })

    page_refused : (e : Refusal) → IsPageAsSpelled (reading_of within.layout (seen (g.history within.disk))) b number (Err e) → IsBasePageAsSpelled (reading_of old.layout (seen (g.history old.disk))) old.checkpoint.base number (Err e) in_pages
    page_refused e spelled = moved (Err e) (record { given = tt; corrupt = λ gave. (let same : e ≡ Corrupt in_pages = cc in spelled.corrupt (ap Err same)) })

-- nothing was read, and another refusal is answered
pub page_elsewise : (r : Reading) (b : SuperBody) (number : ℕ) (e : Refusal) → (e ≡ Corrupt in_pages → ⊥) → IsBasePageAsSpelled r b number (Err e) in_pages
page_elsewise r b number e other = record { given = tt; corrupt = λ gave. (let same : e ≡ Corrupt in_pages = cc in absurd (other same)) }

pub window_elsewise : (r : Reading) (b : SuperBody) (e : Refusal) → (e ≡ Corrupt in_window → ⊥) → IsWindowAsSpelled r b (Err e) in_window
window_elsewise r b e other = record { given = tt; corrupt = λ gave. (let same : e ≡ Corrupt in_window = cc in absurd (other same)) }

-- ---- a page of the base, as the caller reads what came of it

abbrev pub optional : {T E : Type 0} → Result T E → Result (Option T) E
optional (Ok x) = Ok (Some x)
optional (Err e) = Err e

pub record GivesPage {D : Type 0} (g : Ghosts D) (old new : Engine D) (number : ℕ) (result : Result (Option PageBody) Refusal) : Type 0 where
  pub asks : Asks g in_pages old new result
  pub none : IfOk result (λ found. (found ≡ None → state_of_page old.checkpoint.base number ≡ Nowhere) × (state_of_page old.checkpoint.base number ≡ Nowhere → found ≡ None))
  pub holds : (n : Node) → Holds g n old → result ≢ Err DiskFault → Holds g n new
  pub page : (n : Node) → Holds g n old → IfOk result (λ found. IfSome found (IsBasePage old.checkpoint.base n.base.content number))
  pub absent : (n : Node) → Holds g n old → old.halted ≡ None → state_of_page old.checkpoint.base number ≡ Nowhere → HasNoRow old.checkpoint.base n.base.content number
  pub whole : (n : Node) → Holds g n old → result ≢ Err (Corrupt in_pages)
  pub spelled : g.honest old.disk → IsBasePageAsSpelled (reading_of old.layout (seen (g.history old.disk))) old.checkpoint.base number result in_pages

module _ {D : Type 0} (g : Ghosts D) (within old : Engine D) (is : within ≡ old) (engine : IsEngine within.layout within.checkpoint within.log within.kept within.block) (runs : within.halted ≡ None)
    (stable : StableBasesAreRead) (number : ℕ) (b : SuperBody) (b_is : b ≡ within.checkpoint.base) (slot : Slot) (there : In slot ≡ state_of_page b number) (disk : D) (l : Layout) (layout : l ≡ within.layout) (same : SameHistory g within.disk disk) (halted : Option Phase) where
  abbrev new : Engine D
  new = record within { disk = disk; layout = l; halted = halted }

  never : state_of_page old.checkpoint.base number ≡ Nowhere → ⊥
  never nowhere = let e : In slot ≡ Nowhere = there ∙ ap (λ (x : SuperBody). state_of_page x number) (b_is ∙ ap (λ (e : Engine D). e.checkpoint.base) is) ∙ nowhere in absurd cc

  stays : Calls {T = Unit {0}} g within.disk disk (Ok tt) → halted ≡ None → (n : Node) → Holds g n old → Holds g n new
  stays call on n holds =
      subst (λ (o : Option Phase). Holds g n (record within { disk = disk; layout = l; halted = o })) (runs ∙ sym on)
      (holds_read {T = Unit {0}} g within old disk l (Ok tt) is runs layout call refl same n holds)

  pub page_comes : (outcome : Result PageBody Refusal) → Calls g within.disk disk (fault_of outcome) → halted ≡ halted_by within.log.phase outcome → IfErr outcome (λ e. (e ≡ DiskFault) ⊎ (e ≡ Corrupt in_pages)) → IfOk outcome (λ page. page.number ≡ number)
      → (g.honest old.disk → IsPageAsSpelled (reading_of within.layout (seen (g.history within.disk))) b number outcome) → GivesPage g old new number (optional outcome)
  page_comes (Ok page) call by refused number_is spelled = record {
    asks = asks_by g in_pages within old disk l halted (Ok (Some page)) is runs layout call same by tt;
    none = ((λ none. absurd cc), λ nowhere. absurd (never nowhere));
    holds = λ n holds other. stays call by n holds;
    page = λ n holds. page_read g within old is engine runs n holds stable number b b_is page number_is (spelled holds.is_honest);
    absent = λ n holds on nowhere. absurd (never nowhere);
    whole = λ n holds corrupt. absurd cc;
    spelled = λ honest_is. page_given g within old is number b b_is page (spelled honest_is);
  }
  page_comes (Err e) call by refused number_is spelled = record {
    asks = asks_by {T = Option PageBody} g in_pages within old disk l halted (Err e) is runs layout call same by refused;
    none = tt;
    holds = λ n holds other. elim refused [
      | inl fault ↦ absurd (other (ap Err fault))
      | inr corrupt ↦ stays (subst (λ (r : Refusal). Calls {T = Unit {0}} g within.disk disk (fault_of {T = PageBody} (Err r))) corrupt call) (by ∙ ap (λ (r : Refusal). halted_by {T = PageBody} within.log.phase (Err r)) corrupt) n holds
    ];
    page = λ n holds. tt;
    absent = λ n holds on nowhere. absurd (never nowhere);
    whole = λ n holds corrupt. (let same_one : e ≡ Corrupt in_pages = cc in page_whole g within old is engine runs n holds stable number b b_is (subst (λ (r : Refusal). IsPageAsSpelled (reading_of within.layout (seen (g.history within.disk))) b number (Err r)) same_one (spelled holds.is_honest)));
    spelled = λ honest_is. page_refused g within old is number b b_is e (spelled honest_is);
  }
