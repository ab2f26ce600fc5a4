-- A snapshot that is taken piece by piece.
use Rattle.std.proofs.Common.{◌≡◌, ◌⊎◌, inl, inr, ℕ, zero, suc, ◌+◌, ◌≤◌, ◌<◌, ◌^◌, true, List, [], ◌∷◌, ◌++◌, length, get_or, Option, None, Some, Result, Ok, Err, refl, sym, ap, subst, ◌∙◌, append_assoc, arith, length-append, All, replicate}
use Rattle.std.specs.Prelude.{IfErr, IfSome, OnOk, map}
use Rattle.std.specs.List.{flat_map, AllByRecursion}
use Rattle.std.specs.List.Sorted.{IsStrictlyIncreasing}
use Rattle.std.specs.Io.KnownBytes.{Consumes}
use Rattle.std.proofs.lemmas.List.{map-append, length_push, get_or_append_left, get_or-set_other}
use Rattle.std.proofs.lemmas.List.Elements.{All-get_or, All-from_get_or, All-nil, All-push, All-weaker}
use Rattle.std.proofs.lemmas.List.Kept.{AllPairs-from_increasing}
use Rattle.rep_types.specs.declared.refusal.Refusal.{Refusal}
use Rattle.rep_types.specs.declared.refusal.Refusal.TheVariants.{DiskFault, Malformed, StreamFault}
use Rattle.rep_types.specs.Settings.{Setting}
use Rattle.rep_types.specs.Order.{State}
use Rattle.rep_types.specs.Windows.{Window}
use Rattle.rep_types.proofs.Lists.{get_behind, all_behind, all_push, flat_map_push}
use Rattle.rep_forms.specs.Forms.{number, number_bytes}
use Rattle.rep_forms.specs.FormLaws.{number_is_form}
use Rattle.rep_disk.specs.declared.disk.Disk.{Ghosts}
use Rattle.rep_disk.specs.Moments.{LeavesOnly}
use Rattle.rep_disk.specs.Leaving.{leaves_none, leaves_weaker, leaves_both, leaves_then}
use Rattle.rep_layout.specs.declared.format.Format.{Format}
use Rattle.rep_layout.specs.Supers.{IsNil}
use Rattle.rep_layout.specs.Windows.{IsWindowAt, IsOfFormat}
use Rattle.rep_layout.specs.declared.super_body.SuperBody.{SuperBody}
use Rattle.rep_layout.specs.declared.page_state.PageState.TheVariants.{Nowhere, In}
use Rattle.rep_pages.specs.Slots.{state_of_page, spare_slot}
use Rattle.rep_log.specs.declared.phase.Phase.{Phase}
use Rattle.rep_replica.specs.Next.{Next}
use Rattle.rep_replica.specs.Coming.{Coming, IsNewPage, blank, coming, placed, with_page}
use Rattle.rep_steps.specs.Standings.{Standing, delivered}
use Rattle.rep_steps.specs.Nodes.{Node}
use Rattle.rep_steps.specs.Images.{IsFrontAt}
use Rattle.rep_replica.specs.Meanings.{Means}
use Rattle.rep_replica.specs.Engines.{Engine}
use Rattle.rep_replica.specs.EngineReading.{halted_by}
use Rattle.rep_replica.specs.EngineInstalling.{MeansEither, halted_node, snapshot_of}
use Rattle.rep_replica.specs.Ascending.{ascend_push}
use Rattle.rep_replica.specs.Replicas.{Replica, facts_of}
use Rattle.rep_replica.specs.Holding.{Holds}
use Rattle.rep_replica.specs.Settling.{is_quiet}
use Rattle.rep_replica.specs.Installing.{Bringing, HoldsBoth, IsInstalled, Installs, Lands, given_up}
use Rattle.rep_replica.specs.Episodes.{MeansOneOf, CanCome, brought_by, Brought as BroughtAt, Broke as BrokeAt}
use Rattle.rep_transfer.specs.declared.pieces.NumberedPage.{NumberedPage}
use Rattle.rep_transfer.specs.Pieces.{PageFits, page_bytes, page_form}
use Rattle.rep_transfer.specs.Taking.{BeginWithNone}
use Rattle.rep_transfer.specs.TransferLaws.{page_is_form}
use Rattle.rep_transfer.specs.Transfers.{Snapshot, SnapshotFits, kept_bytes}
use Rattle.rep_catchup.specs.Growing.{EndsRunning}
use Rattle.rep_catchup.specs.Snapshots.{with_pages, state_of, number_of, IsPageOf, IsSnapshot, CanTell, Took, IsKept, TakesKept, NoneKeptComes, TakesWindow, TakesPages, LeavesPages, NoPagesCome, TakesSnapshot, Brought, GivenUp, NoneComes, BringsEarly, LeavesSnapshot}
use Rattle.rep_catchup.proofs.JoinGrowing.{is_running}
use Rattle.rep_catchup.proofs.JoinTaking.{took_none, took_then, same_first, same_front, none_more}
use Rattle.rep_catchup.proofs.WindowLimits.{kept_fits}
use Rattle.rep_catchup.proofs.JoinWindow.{same_kept}
use Rattle.rep_catchup.proofs.JoinFollowing.{none_ahead}
use Rattle.rep_catchup.proofs.JoinWent.{state_position}

-- ---- the window

-- the pages behind their number
abbrev page_run : Snapshot → List ℕ
page_run y = number_bytes 2 (length y.pages) ++ flat_map page_bytes y.pages

-- the window of a snapshot that can come is one that can
kept_of : (format : Format) (s : Standing) (position : ℕ) (y : Snapshot) → SnapshotFits y → CanTell format s.setting y → y.position ≡ position → IsSnapshot s.setting y → IsKept format s.setting position y.kept
kept_of format s position y fits told at is = record {
  told = subst (λ n. IsOfFormat format s.setting n y.kept) at told;
  is_window = subst (λ n. IsWindowAt s.setting n y.kept) at is.window;
  fit = fits.entries;
}

-- its window does not come
pub no_kept : (format : Format) (s : Standing) (position : ℕ) (before : Option (List ℕ)) → IfSome before (NoneKeptComes format s.setting position) → IfSome before (NoneComes format s position)
no_kept format s position None none = tt
no_kept format s position (Some bytes) none = λ y rest fits told at is snapshot later.
    none y.kept (page_run y ++ rest) (kept_of format s position y fits told at snapshot) (is ∙ append_assoc (kept_bytes format y.kept) (page_run y) rest)

-- behind the window that was taken stands no number of pages
pub no_number : (format : Format) (s : Standing) (position : ℕ) (v : Window) (from now : ℕ) (start before : Option (List ℕ)) → position < 2 ^ 64 → TakesKept format s.setting position v from now start before → IfSome before (BeginWithNone (λ n. n < 2 ^ 16) (number_bytes 2))
    → IfSome start (NoneComes format s position)
no_number format s position v from now start before small t none = by start before t.took.taken none
  where
    by : (a b : Option (List ℕ)) → Consumes a b (kept_bytes format v) → IfSome b (BeginWithNone (λ n. n < 2 ^ 16) (number_bytes 2)) → IfSome a (NoneComes format s position)
    by None b taken none = tt
    by (Some bytes) None taken none = absurd taken
    by (Some bytes) (Some behind) taken none = λ y rest fits told at is snapshot later.
        let same = same_kept format s.setting position v y.kept behind (page_run y ++ rest) small t.kept (kept_of format s position y fits told at snapshot) (sym taken ∙ is ∙ append_assoc (kept_bytes format y.kept) (page_run y) rest) in
        none (length y.pages) (flat_map page_bytes y.pages ++ rest) fits.some (same.1 ∙ append_assoc (number_bytes 2 (length y.pages)) (flat_map page_bytes y.pages) rest)

-- behind the window and the number of pages not so many pages stand
pub no_pages : (format : Format) (s : Standing) (position : ℕ) (v : Window) (count from now : ℕ) (start before : Option (List ℕ)) → TakesWindow format s position v count from now start before → IfSome before (NoPagesCome s.setting.rows count) → IfSome start (NoneComes format s position)
no_pages format s position v count from now start before w none = by start before w.took.taken none
  where
    by : (a b : Option (List ℕ)) → Consumes a b (kept_bytes format v ++ number_bytes 2 count) → IfSome b (NoPagesCome s.setting.rows count) → IfSome a (NoneComes format s position)
    by None b taken none = tt
    by (Some bytes) None taken none = absurd taken
    by (Some bytes) (Some behind) taken none = λ y rest fits told at is snapshot later.
        let same = same_kept format s.setting position v y.kept (number_bytes 2 count ++ behind) (page_run y ++ rest) (omega (arith, w.limit)) w.kept (kept_of format s position y fits told at snapshot)
        (sym (append_assoc (kept_bytes format v) (number_bytes 2 count) behind) ∙ sym taken ∙ is ∙ append_assoc (kept_bytes format y.kept) (page_run y) rest) in
        let one = same_first (number 2) (number_is_form 2) count (length y.pages) behind (flat_map page_bytes y.pages ++ rest) w.few fits.some (same.1 ∙ append_assoc (number_bytes 2 (length y.pages)) (flat_map page_bytes y.pages) rest) in
        none y.pages rest (sym one.0) fits.pages one.1 snapshot.ascend snapshot.pages

-- ---- pages

all_lower : (xs : List ℕ) (least y : ℕ) → least ≤ y → All (λ (x : ℕ). x < least) xs → All (λ (x : ℕ). x < y) xs
all_lower xs least y above below = All-weaker (λ (x : ℕ). x < least) (λ (x : ℕ). x < y) (λ x h. omega (arith, above, h)) xs below

with_more : (schema : List ℕ) (pages : List NumberedPage) (p : NumberedPage) (y : State) → with_pages schema (pages ++ p ∷ []) y ≡ with_page schema p.number p.rows (with_pages schema pages y)
with_more schema [] p y = refl
with_more schema (q ∷ pages) p y = with_more schema pages p (with_page schema q.number q.rows y)

of_new_page : (b : SuperBody) (next : Next) (p : NumberedPage) → IsNewPage b next p.number p.rows → IsPageOf b.params.rows p
of_new_page b next p new = record { first = new.first; begins = new.begins; size = new.size; past = new.past }

-- The pages that came so far, below the least that may come next; that is the least above them, and those from there on are in no slot.
pub record Came {D : Type 0} (g : Ghosts D) (old now : Bringing D) (count least from at : ℕ) (before left : Option (List ℕ)) : Type 0 where
  pub pages : List NumberedPage
  pub size : length pages ≡ count
  pub below : All (λ (n : ℕ). n < least) (map number_of pages)
  pub tight : (k : ℕ) → All (λ (n : ℕ). n < k) (map number_of pages) → least ≤ k
  pub free : (page : ℕ) → least ≤ page → state_of_page now.coming.next.super page ≡ Nowhere
  pub takes : TakesPages g old now pages from at before left

last_of : (P : ℕ → Type 0) (xs : List ℕ) (y : ℕ) → All P (xs ++ y ∷ []) → P y
last_of P xs y all = subst P (get_behind xs [] y 0) (All-get_or P (xs ++ y ∷ []) (length xs) 0 (omega (arith, length_push xs y)) all)

-- those before one are below it
all_below : (xs : List ℕ) (y : ℕ) (ys : List ℕ) → IsStrictlyIncreasing (xs ++ y ∷ ys) → All (λ (n : ℕ). n < y) xs
all_below xs y ys up =
    All-from_get_or (λ (n : ℕ). n < y) xs 0
    (λ i within.
    let size : length (xs ++ y ∷ ys) ≡ length xs + suc (length ys) = length-append xs (y ∷ ys) in
    let low : get_or (xs ++ y ∷ ys) i 0 ≡ get_or xs i 0 = get_or_append_left xs (y ∷ ys) 0 i within in
    let high : get_or (xs ++ y ∷ ys) (length xs) 0 ≡ y = get_behind xs ys y 0 in
    let apart : get_or (xs ++ y ∷ ys) i 0 < get_or (xs ++ y ∷ ys) (length xs) 0 = AllPairs-from_increasing (xs ++ y ∷ ys) up i (length xs) 0 within (omega (arith, size)) in
    omega (arith, apart, low, high))

module _ {D : Type 0} (g : Ghosts D) where
  pub came_none : (old : Bringing D) (start : ℕ) (before : Option (List ℕ)) → old.engine.halted ≡ None → ((page : ℕ) → state_of_page old.coming.next.super page ≡ Nowhere) → Came g old old 0 0 start start before before
  came_none old start before running free = record {
    pages = [];
    size = refl;
    below = All-nil (λ (n : ℕ). n < 0);
    tight = λ k all. omega arith;
    free = λ page least. free page;
    takes = record {
      fit = tt;
      ascend = λ k within. absurd (omega (arith, within));
      of_schema = tt;
      took = took_none start before;
      running = running;
      uuid = refl;
      params = refl;
      base = refl;
      holds = λ n y h. h;
      leaves = λ n y h. leaves_none (g.history old.engine.disk) (g.history old.engine.disk) refl;
    };
  }

  module _ (old now new : Bringing D) (count least from mid at : ℕ) (start before left : Option (List ℕ)) (p : NumberedPage) (came : Came g old now count least from mid start before) where
    pub came_more : PageFits p → Took mid at before left (page_bytes p) → least ≤ p.number → IsNewPage now.engine.checkpoint.base now.coming.next p.number p.rows → new.engine.halted ≡ None
        → new ≡ record now { engine = record now.engine { disk = new.engine.disk; halted = new.engine.halted }; coming = new.coming } → new.coming ≡ placed now.engine.checkpoint.base p.number now.coming
        → ((n : Node) (y : State) → HoldsBoth g n y now → HoldsBoth g n (with_page now.engine.checkpoint.base.params.rows p.number p.rows y) new)
        → ((n : Node) (y : State) → HoldsBoth g n y now → LeavesOnly (g.history now.engine.disk) (g.history new.engine.disk) (IsFrontAt Means n))
        → Came g old new (count + 1) (p.number + 1) from at start left
    came_more fits took above is_new running still done holds leaves =
        let pages : List NumberedPage = came.pages in
        let t = came.takes in
        let base_is : now.engine.checkpoint.base ≡ old.engine.checkpoint.base = t.base in
        record {
          pages = pages ++ p ∷ [];
          size = length_push pages p ∙ ap (λ n. n + 1) came.size;
          below = subst (All (λ (n : ℕ). n < p.number + 1)) (sym (map-append number_of pages (p ∷ []))) (All-push (λ (n : ℕ). n < p.number + 1) (map number_of pages) p.number (all_lower (map number_of pages) least (p.number + 1) (omega (arith, above)) came.below) (omega arith));
          tight = λ k all. let last : p.number < k = last_of (λ (n : ℕ). n < k) (map number_of pages) p.number (subst (All (λ (n : ℕ). n < k)) (map-append number_of pages (p ∷ [])) all) in omega (arith, last);
          free = λ page least_is.
              ap (λ (i : Coming). state_of_page i.next.super page) done
              ∙ get_or-set_other now.coming.next.super.pages.items p.number page (In (spare_slot (state_of_page now.engine.checkpoint.base p.number))) Nowhere (λ same. omega (arith, same, least_is))
              ∙ came.free page (omega (arith, above, least_is));
          takes = record {
            fit = all_push PageFits pages p t.fit fits;
            ascend = subst IsStrictlyIncreasing (sym (map-append number_of pages (p ∷ []))) (ascend_push (map number_of pages) p.number t.ascend (all_lower (map number_of pages) least p.number above came.below));
            of_schema = all_push (IsPageOf old.engine.checkpoint.base.params.rows) pages p t.of_schema (subst (λ (b : SuperBody). IsPageOf b.params.rows p) base_is (of_new_page now.engine.checkpoint.base now.coming.next p is_new));
            took = subst (Took from at start left) (sym (flat_map_push page_bytes pages p)) (took_then from mid at start before left (flat_map page_bytes pages) (page_bytes p) t.took took);
            running = running;
            uuid = ap (λ (i : Coming). i.next.super.uuid) done ∙ t.uuid;
            params = ap (λ (i : Coming). i.next.super.params) done ∙ t.params;
            base = ap (λ (b : Bringing D). b.engine.checkpoint.base) still ∙ base_is;
            holds = λ n y h.
                let was = t.holds n y h in
                let z : State = with_pages old.engine.checkpoint.base.params.rows pages y in
                subst (λ (x : State). HoldsBoth g n x new) (sym (with_more old.engine.checkpoint.base.params.rows pages p y))
                (subst (λ (b : SuperBody). HoldsBoth g n (with_page b.params.rows p.number p.rows z) new) base_is (holds n z was));
            leaves = λ n y h. leaves_both (g.history old.engine.disk) (g.history now.engine.disk) (g.history new.engine.disk) (t.leaves n y h) (leaves n (with_pages old.engine.checkpoint.base.params.rows pages y) (t.holds n y h));
          };
        }

    -- the same by a number that is the page's
    pub came_at : (number : ℕ) → p.number ≡ number → PageFits p → Took mid at before left (page_bytes p) → least ≤ number → IsNewPage now.engine.checkpoint.base now.coming.next number p.rows → new.engine.halted ≡ None
        → new ≡ record now { engine = record now.engine { disk = new.engine.disk; halted = new.engine.halted }; coming = new.coming } → new.coming ≡ placed now.engine.checkpoint.base number now.coming
        → ((n : Node) (y : State) → HoldsBoth g n y now → HoldsBoth g n (with_page now.engine.checkpoint.base.params.rows number p.rows y) new)
        → ((n : Node) (y : State) → HoldsBoth g n y now → LeavesOnly (g.history now.engine.disk) (g.history new.engine.disk) (IsFrontAt Means n))
        → Came g old new (count + 1) (number + 1) from at start left
    came_at number same fits took above is_new running still done holds leaves =
        subst (λ (k : ℕ). Came g old new (count + 1) (k + 1) from at start left) same
        (came_more fits took (subst (λ (k : ℕ). least ≤ k) (sym same) above) (subst (λ (k : ℕ). IsNewPage now.engine.checkpoint.base now.coming.next k p.rows) (sym same) is_new) running still
        (done ∙ ap (λ (k : ℕ). placed now.engine.checkpoint.base k now.coming) (sym same))
        (λ n y h. subst (λ (k : ℕ). HoldsBoth g n (with_page now.engine.checkpoint.base.params.rows k p.rows y) new) (sym same) (holds n y h)) leaves)

    -- one stands there that cannot come
    pub no_such_page : (all : ℕ) → count < all → PageFits p → Consumes before left (page_bytes p) → (least ≤ p.number → IsNewPage now.engine.checkpoint.base now.coming.next p.number p.rows → ⊥) → IfSome start (NoPagesCome old.engine.checkpoint.base.params.rows all)
    no_such_page all few fits taken never = by start before left came.takes.took.taken taken
      where
        stands : (zs : List NumberedPage) → 0 < length zs → AllByRecursion PageFits zs → AllByRecursion (IsPageOf old.engine.checkpoint.base.params.rows) zs → IsStrictlyIncreasing (map number_of came.pages ++ map number_of zs) → (bytes more rest : List ℕ) → bytes ≡ page_bytes p ++ more
            → bytes ≡ flat_map page_bytes zs ++ rest → ⊥
        stands [] some fit are up bytes more rest one two = omega (arith, some)
        stands (z ∷ zs) some fit are up bytes more rest one two =
            let is : p ≡ z = (same_first page_form page_is_form p z more (flat_map page_bytes zs ++ rest) fits fit.0 (sym one ∙ two ∙ append_assoc (page_bytes z) (flat_map page_bytes zs) rest)).0 in
            let above : least ≤ z.number = came.tight z.number (all_below (map number_of came.pages) z.number (map number_of zs) up) in
            let here : least ≤ p.number = subst (λ (q : NumberedPage). least ≤ q.number) (sym is) above in
            let page : IsPageOf now.engine.checkpoint.base.params.rows p = subst (λ (b : SuperBody). IsPageOf b.params.rows p) (sym came.takes.base) (subst (IsPageOf old.engine.checkpoint.base.params.rows) (sym is) are.0) in
            never here (record { first = page.first; begins = page.begins; size = page.size; past = page.past; new = came.free p.number here })

        by : (a b l : Option (List ℕ)) → Consumes a b (flat_map page_bytes came.pages) → Consumes b l (page_bytes p) → IfSome a (NoPagesCome old.engine.checkpoint.base.params.rows all)
        by None b l first second = tt
        by (Some bytes) None l first second = absurd first
        by (Some bytes) (Some behind) None first second = absurd second
        by (Some bytes) (Some behind) (Some more) first second = λ ys rest size fit is ascend pages.
            let front = same_front page_form page_is_form came.pages ys behind rest came.takes.fit fit (omega (arith, few, size, came.size)) (sym first ∙ is) in
            stands front.0 (omega (arith, few, size, came.size, ap length front.1, length-append came.pages front.0)) (all_behind PageFits came.pages front.0 (subst (AllByRecursion PageFits) front.1 fit))
            (all_behind (IsPageOf old.engine.checkpoint.base.params.rows) came.pages front.0 (subst (AllByRecursion (IsPageOf old.engine.checkpoint.base.params.rows)) front.1 pages))
            (subst IsStrictlyIncreasing (ap (map number_of) front.1 ∙ map-append number_of came.pages front.0) ascend) behind more rest second front.2

    -- the device failed while it was written
    pub pages_failed : ((n : Node) (y : State) → HoldsBoth g n y now → HoldsBoth g (halted_node (g.failures new.engine.disk) n) y new)
        → ((n : Node) (y : State) → HoldsBoth g n y now → LeavesOnly (g.history now.engine.disk) (g.history new.engine.disk) (IsFrontAt Means n)) → (n : Node) (y : State) → HoldsBoth g n y old → LeavesPages g n old new
    pages_failed halts leaves n y h =
        let z : State = with_pages old.engine.checkpoint.base.params.rows came.pages y in
        let was = came.takes.holds n y h in
        record {
          node = halted_node (g.failures new.engine.disk) n;
          still = refl;
          state = z;
          holds = halts n z was;
          leaves = leaves_both (g.history old.engine.disk) (g.history now.engine.disk) (g.history new.engine.disk) (came.takes.leaves n y h) (leaves n z was);
        }

  -- no page stands there
  pub no_page_stands : (old now : Bringing D) (count least from mid : ℕ) (start before : Option (List ℕ)) → Came g old now count least from mid start before → (all : ℕ) → count < all → IfSome before (BeginWithNone PageFits page_bytes)
      → IfSome start (NoPagesCome old.engine.checkpoint.base.params.rows all)
  no_page_stands old now count least from mid start before came all few none = by start (none_more page_form page_is_form came.pages all start before came.takes.took.taken came.takes.fit (omega (arith, few, came.size)) none)
    where
      by : (a : Option (List ℕ)) → IfSome a (λ bytes. (ys : List NumberedPage) (rest : List ℕ) → length ys ≡ all → AllByRecursion PageFits ys → bytes ≡ flat_map page_bytes ys ++ rest → ⊥) → IfSome a (NoPagesCome old.engine.checkpoint.base.params.rows all)
      by None never = tt
      by (Some bytes) never = λ ys rest size fits is ascend pages. never ys rest size fits is

  -- no more was put
  pub pages_stay : (old now : Bringing D) (count least from at : ℕ) (before left : Option (List ℕ)) → Came g old now count least from at before left → (n : Node) (y : State) → HoldsBoth g n y old → LeavesPages g n old now
  pages_stay old now count least from at before left came n y h = record { node = n; still = refl; state = with_pages old.engine.checkpoint.base.params.rows came.pages y; holds = came.takes.holds n y h; leaves = came.takes.leaves n y h }

-- a page that was written leaves the device running
pub still_runs : (halted : Option Phase) (phase : Phase) (result : Result (Unit {0}) Refusal) (x : Unit {0}) → result ≡ Ok x → halted ≡ halted_by phase result → halted ≡ None
still_runs halted phase result x ok is = is ∙ ap (halted_by {T = Unit {0}} phase) ok

pub on_ok_of : {P : Type 0} (result : Result (Unit {0}) Refusal) (x : Unit {0}) → result ≡ Ok x → OnOk result P → P
on_ok_of {P} result x ok h = subst (λ (r : Result (Unit {0}) Refusal). OnOk r P) ok h

pub on_err_of : (P : Refusal → Type 0) (result : Result (Unit {0}) Refusal) (e : Refusal) → result ≡ Err e → IfErr result P → P e
on_err_of P result e is h = subst (λ (r : Result (Unit {0}) Refusal). IfErr r P) is h

-- ---- what comes of it

-- no page came yet
all_nowhere : (n k : ℕ) → get_or (replicate n Nowhere) k Nowhere ≡ Nowhere
all_nowhere zero k = refl
all_nowhere (suc n) zero = refl
all_nowhere (suc n) (suc k) = all_nowhere n k

pub none_came : (b : SuperBody) (uuid : List ℕ) (position start : ℕ) (v : Window) (i : Coming) → i ≡ coming b uuid position start v → (page : ℕ) → state_of_page i.next.super page ≡ Nowhere
none_came b uuid position start v i is page = ap (λ (c : Coming). state_of_page c.next.super page) is ∙ all_nowhere (length b.pages.items) page

-- what a snapshot that is given up leaves

module _ {D : Type 0} (g : Ghosts D) where
  -- nothing was asked of the device
  pub given_at_once : (r : Replica D) → GivenUp g r r
  given_at_once r n holds = record { node = n; still = refl; holds = holds; leaves = leaves_none (g.history r.engine.disk) (g.history r.engine.disk) refl }

  pub given_behind : (old : Replica D) (i k : Bringing D) (y : State) → i.engine ≡ old.engine → ((n : Node) → Holds g n old → HoldsBoth g n y i) → ((n : Node) (z : State) → HoldsBoth g n z i → LeavesPages g n i k)
      → (new : Replica D) → new ≡ given_up k → ((n : Node) (z : State) → HoldsBoth g n z k → Holds g n new) → GivenUp g old new
  given_behind old i k y same begun pages new is held n holds =
      let left = pages n y (begun n holds) in
      record {
        node = left.node;
        still = left.still;
        holds = held left.node left.state left.holds;
        leaves =
            subst (λ (r : Replica D). LeavesOnly (g.history old.engine.disk) (g.history r.engine.disk) (IsFrontAt Means n)) (sym is)
            (subst (λ (e : Engine D). LeavesOnly (g.history e.disk) (g.history k.engine.disk) (IsFrontAt Means n)) same left.leaves);
      }

-- what one image means

module _ {D : Type 0} (g : Ghosts D) (old new : Replica D) (i k : Bringing D) (format : Format) (uuid : List ℕ) (position : ℕ) (v : Window) (count from mid now : ℕ) (start before left : Option (List ℕ))
    (window : TakesWindow format (facts_of g old) position v count from mid start before) (begun : (i.engine ≡ old.engine) × (i.coming ≡ coming old.engine.checkpoint.base uuid position old.engine.log.next v)) where
  setting_is : i.engine.checkpoint.base.params ≡ old.engine.checkpoint.base.params
  setting_is = ap (λ (e : Engine D). e.checkpoint.base.params) begun.0

  module _ (quiet : is_quiet (facts_of g old) ≡ true) (pages : List NumberedPage) (size : length pages ≡ count) (t : TakesPages g i k pages mid now before left) where
    abbrev snapshot : Snapshot
    snapshot = record { position = position; kept = v; pages = pages }

    params_are : k.coming.next.super.params ≡ old.engine.checkpoint.base.params
    params_are = t.params ∙ ap (λ (c : Coming). c.next.super.params) begun.1

    uuid_are : k.coming.next.super.uuid ≡ uuid
    uuid_are = t.uuid ∙ ap (λ (c : Coming). c.next.super.uuid) begun.1

    small : position < 2 ^ 64
    small = omega (arith, window.limit)

    fits : SnapshotFits snapshot
    fits =
        let kept = kept_fits old.engine.checkpoint.base.params position v small window.kept.is_window in
        record { position = small; size = kept.0; floor = kept.1; few = kept.2; entries = window.kept.fit; some = subst (λ n. n < 2 ^ 16) (sym size) window.few; pages = t.fit }

    takes : TakesSnapshot format (facts_of g old) position snapshot from now start left
    takes = record {
      fits = fits;
      told = window.kept.told;
      position_is = refl;
      is_snapshot = record {
        limit = window.limit;
        window = window.kept.is_window;
        ascend = t.ascend;
        pages = subst (λ (p : Setting). AllByRecursion (IsPageOf p.rows) pages) setting_is t.of_schema;
      };
      later = later window.later;
      took = subst (Took from now start left) (append_assoc (kept_bytes format v) (number_bytes 2 count) (flat_map page_bytes pages) ∙ ap (λ n. kept_bytes format v ++ (number_bytes 2 n ++ flat_map page_bytes pages)) (sym size))
          (took_then from mid now start before left (kept_bytes format v ++ number_bytes 2 count) (flat_map page_bytes pages) window.took t.took);
    }
      where
        later : ((facts_of g old).durable < position) ⊎ IsNil (facts_of g old).uuid → (delivered (facts_of g old) < position) ⊎ IsNil (facts_of g old).uuid
        later (inl below) = inl (omega (arith, below, ap length (none_ahead (facts_of g old) quiet)))
        later (inr nil) = inr nil

    abbrev state : State
    state = state_of old.engine.checkpoint.base.params snapshot

    -- the state that came is the snapshot's
    state_is : with_pages i.engine.checkpoint.base.params.rows pages (blank position v) ≡ state
    state_is = ap (λ (p : Setting). with_pages p.rows pages (blank position v)) setting_is

    position_is : state.position ≡ position
    position_is = state_position old.engine.checkpoint.base.params snapshot

    module _ (cluster : (uuid ≡ (facts_of g old).uuid) ⊎ IsNil (facts_of g old).uuid) (both : (n : Node) → Holds g n old → HoldsBoth g n (blank position v) i) (n : Node) (holds : Holds g n old) where
      can : CanCome n uuid state
      can = record { cluster = of cluster; later = behind takes.later }
        where
          of : (uuid ≡ (facts_of g old).uuid) ⊎ IsNil (facts_of g old).uuid → (uuid ≡ n.facts.uuid) ⊎ IsNil n.facts.uuid
          of (inl same) = inl (same ∙ sym (ap (λ (s : Standing). s.uuid) holds.facts))
          of (inr nil) = inr (subst IsNil (sym (ap (λ (s : Standing). s.uuid) holds.facts)) nil)

          behind : (delivered (facts_of g old) < position) ⊎ IsNil (facts_of g old).uuid → (delivered n.facts < state.position) ⊎ IsNil n.facts.uuid
          behind (inl below) = inl (omega (arith, below, position_is, ap delivered holds.facts))
          behind (inr nil) = inr (subst IsNil (sym (ap (λ (s : Standing). s.uuid) holds.facts)) nil)

      stood : HoldsBoth g n state k
      stood = subst (λ (y : State). HoldsBoth g n y k) state_is (t.holds n (blank position v) (both n holds))

      setting_of : n.facts.setting ≡ old.engine.checkpoint.base.params
      setting_of = ap (λ (s : Standing). s.setting) holds.facts

      -- what a superblock that names it names
      named : snapshot_of k.coming.next.super state ≡ brought_by uuid n.facts.setting state
      named = ap (λ (u : List ℕ). brought_by u k.coming.next.super.params state) uuid_are ∙ ap (λ (p : Setting). brought_by uuid p state) (params_are ∙ sym setting_of)

      either : (image : List ℕ) → MeansEither n k.coming.next.super state image → MeansOneOf n uuid state image
      either image (inl front) = inl front
      either image (inr means) = inr (subst (Means image) named means)

      leaves : LeavesOnly (g.history k.engine.disk) (g.history new.engine.disk) (MeansEither n k.coming.next.super state) → LeavesOnly (g.history old.engine.disk) (g.history new.engine.disk) (MeansOneOf n uuid state)
      leaves last =
          leaves_then (g.history old.engine.disk) (g.history k.engine.disk) (g.history new.engine.disk)
          (leaves_weaker (g.history old.engine.disk) (g.history k.engine.disk) (λ image f. inl f) (subst (λ (e : Engine D). LeavesOnly (g.history e.disk) (g.history k.engine.disk) (IsFrontAt Means n)) begun.0 (t.leaves n (blank position v) (both n holds))))
          last either

      came_whole : (m : Node) × IsInstalled k.coming.next.super state m × Holds g m new → LeavesOnly (g.history k.engine.disk) (g.history new.engine.disk) (MeansEither n k.coming.next.super state) → BroughtAt g n uuid state old new
      came_whole (m, is, stands) last = record {
        can = can;
        node = m;
        stands = record { uuid_is = is.uuid ∙ uuid_are; setting_is = is.setting ∙ params_are ∙ sym setting_of; base = is.base; none = is.none; durable = is.durable ∙ sym is.position };
        holds = stands;
        leaves = leaves last;
      }

      broke : LeavesOnly (g.history k.engine.disk) (g.history new.engine.disk) (MeansEither n k.coming.next.super state) → BrokeAt g n uuid state old new
      broke last = record { can = can; leaves = leaves last }

    -- where it took the base's place, or the device failed while it did
    pub brought_on : (uuid ≡ (facts_of g old).uuid) ⊎ IsNil (facts_of g old).uuid → (at : ℕ) (result : Result (Unit {0}) Refusal) → Lands g k new result
        → ((n : Node) → Holds g n old → HoldsBoth g n (blank position v) i) → ((n : Node) (y : State) → HoldsBoth g n y k → Installs g n y k new result)
        → OnOk result (Brought g old new format uuid position from now start left) × IfErr result (LeavesSnapshot g old new format uuid position from start)
        × EndsRunning result new × IfErr result (BringsEarly format (facts_of g old) position at start)
    brought_on cluster at (Ok x) lands both installs = (
      record {
        snapshot = snapshot;
        takes = takes;
        uuid_is = lands.done.uuid ∙ uuid_are;
        setting = lands.done.setting ∙ params_are;
        node = λ n holds. let ends = installs n state (stood cluster both n holds) in came_whole cluster both n holds ends.holds ends.leaves;
      },
      tt,
      is_running new lands.done.running,
      tt,
    )
    brought_on cluster at (Err e) lands both installs = (
      tt,
      inr (
        lands.fault.0,
        record { snapshot = snapshot; now = now; left = left; takes = takes; node = λ n holds. let ends = installs n state (stood cluster both n holds) in broke cluster both n holds ends.leaves },
      ),
      inl lands.fault,
      inr (inr (inl lands.fault.0)),
    )

  -- why it wasn't taken
  pub early_pages : (at : ℕ) (e : Refusal) → (e ≡ StreamFault) ⊎ ((e ≡ DiskFault) ⊎ ((e ≡ Malformed at) × IfSome before (NoPagesCome i.engine.checkpoint.base.params.rows count))) → BringsEarly format (facts_of g old) position at start e
  early_pages at e (inl stream) = inl stream
  early_pages at e (inr (inl fault)) = inr (inr (inl fault))
  early_pages at e (inr (inr (is, none))) = inr (inr (inr (is, no_pages format (facts_of g old) position v count from mid start before window (subst (λ (p : Setting). IfSome before (NoPagesCome p.rows count)) setting_is none))))
