-- A page that is flushed.
use Rattle.std.proofs.Common.{◌≡◌, ◌≢◌, refl, sym, ap, subst, ◌∙◌, ℕ, ◌⊎◌, inl, inr, Bool, true, false, true≢false, List, None, Some, Result, Ok, Err, OnOk, IfErr, arith}
use Rattle.std.specs.Prelude.{cond}
use Rattle.rep_types.specs.declared.refusal.Refusal.{Refusal}
use Rattle.rep_types.specs.declared.refusal.Refusal.TheVariants.{NotDue, DiskFault, Corrupt}
use Rattle.rep_types.specs.declared.refusal.Part.TheVariants.{Pages}
use Rattle.rep_types.specs.Order.{State}
use Rattle.rep_disk.specs.declared.disk.Disk.{Ghosts}
use Rattle.rep_layout.specs.declared.super_body.SuperBody.{SuperBody}
use Rattle.rep_layout.specs.declared.page_state.PageState.TheVariants.{In}
use Rattle.rep_layout.specs.declared.place.Layout.{Layout}
use Rattle.rep_layout.specs.declared.place.Slot.{Slot}
use Rattle.rep_layout.specs.declared.place.Place.{Place}
use Rattle.rep_layout.specs.declared.place.Place.TheVariants.{Page, Log}
use Rattle.rep_cells.specs.States.{States, Pending}
use Rattle.rep_versions.specs.Versions.{Kept}
use Rattle.rep_pages.specs.Pages.{IsPageBody}
use Rattle.rep_pages.specs.Slots.{state_of_page, spare_slot}
use Rattle.rep_steps.specs.Standings.{flush_refusal as flush_refusal_at}
use Rattle.rep_image.specs.Bases.{IsPageOf}
use Rattle.rep_checkpoint.specs.declared.stage.Part.TheVariants.{Flushing}
use Rattle.rep_checkpoint.specs.declared.stage.Stage.{Stage}
use Rattle.rep_checkpoint.specs.declared.stage.Stage.TheVariants.{Off, Toward, Retiring}
use Rattle.rep_checkpoint.specs.Next.{Next, is_in}
use Rattle.rep_checkpoint.specs.Standing.{Standing, stage_in, IsNext, IsGoing}
use Rattle.rep_checkpoint.specs.Moves.{flush_refusal, position_in, without, flushed_in, flushed}
use Rattle.rep_checkpoint.specs.States.{CheckpointIs, IsBase, IsFlushing, IsToward, IsWritten}
use Rattle.rep_checkpoint.specs.Calls.{FlushesAsSpelled, Flushes}
use Rattle.rep_checkpoint.specs.Pages.{IsPageAt, MovesPage}
use Rattle.rep_checkpoint.proofs.Pages.{not_left, was_left}
use Rattle.rep_checkpoint.proofs.Frames.{page_number, slot_in, spare_apart, base_as, written_as, toward_as}
use Rattle.rep_checkpoint.proofs.GoingOn.{here}

-- ---- on any device

pub next_without : (base : SuperBody) (page : ℕ) (next : Next) → IsNext base next → IsNext base (without page next)
next_without base page next h = record {
  is_super = h.is_super;
  number = h.number;
  uuid = h.uuid;
  params = h.params;
  later = h.later;
  is_window = h.is_window;
  pages = λ number is. h.pages number (was_left next.left page number is);
  turned = λ number is. h.turned number (was_left next.left page number is);
}

pub going_without : (base : SuperBody) (page : ℕ) (stage : Stage) → IsGoing base stage → IsGoing base (flushed_in page stage)
going_without base page Off h = tt
going_without base page (Toward next part) h = next_without base page next h
going_without base page (Retiring written) h = tt

-- the page is left where it is flushed
pub record IsLeft (page : ℕ) (stage : Stage) : Type 0 where
  pub next : Next
  pub stage_is : stage ≡ Toward next Flushing
  pub left : is_in next.left page ≡ true

is_left : (page : ℕ) (stage : Stage) → flush_refusal_at (stage_in stage) page ≡ None → IsLeft page stage
is_left page (Toward next Flushing) e = record { next = next; stage_is = refl; left = by (is_in next.left page) e }
  where
    by : (b : Bool) → cond b None (Some NotDue) ≡ None → b ≡ true
    by true f = refl
    by false f = absurd cc
is_left page _ e = absurd cc

pub left_of : (l : Layout) (c : Standing) (page : ℕ) → flush_refusal l c page ≡ None → IsLeft page c.stage
left_of l c page e = is_left page c.stage (here l c _ e)

-- ---- in the states

-- the base doesn't name the slot that it doesn't use
spare_of_base : (b : SuperBody) (page number : ℕ) (slot : Slot) → state_of_page b number ≡ In slot → Page number slot ≢ Page page (spare_slot (state_of_page b page))
spare_of_base b page number slot there e = spare_apart (state_of_page b page) (ap In (sym (ap slot_in e)) ∙ sym there ∙ ap (state_of_page b) (ap page_number e))

-- so it stays where that is written
pub base_stays : (size : ℕ) (b : SuperBody) (x : State) (s t : States) (page : ℕ) → IsBase size b x s → ((other : Place) → other ≢ Page page (spare_slot (state_of_page b page)) → t other ≡ s other) → IsBase size b x t
base_stays size b x s t page base elsewhere =
    base_as (elsewhere _ (λ e. absurd cc)) (elsewhere _ (λ e. absurd cc)) (λ number slot there. elsewhere _ (spare_of_base b page number slot there)) base

module _ (b : SuperBody) (next : Next) (y : State) (s t : States) (page : ℕ) (left : is_in next.left page ≡ true) (toward : IsToward b next Flushing y s)
    (elsewhere : (other : Place) → other ≢ Page page (spare_slot (state_of_page b page)) → t other ≡ s other) where
  -- of the next base only this page lies there
  spare_of_next : (number : ℕ) (slot : Slot) → is_in next.left number ≡ false → Page number slot ≢ Page page (spare_slot (state_of_page b page))
  spare_of_next number slot out e = true≢false (sym left ∙ ap (is_in next.left) (sym (ap page_number e)) ∙ out)

  pub flushing_stays : IsFlushing next y t
  flushing_stays = record {
    pages = λ number slot out there. let p = toward.far.pages number slot out there in (p.0, written_as p.0 _ _ (elsewhere _ (spare_of_next number slot out)) p.1, p.2);
    absent = toward.far.absent;
    outside = toward.far.outside;
  }

  pub toward_stays : IsToward b next Flushing y t
  toward_stays = toward_as Flushing Flushing toward flushing_stays (elsewhere _ (λ e. absurd cc) ∙ toward.cell)

  module _ (body : List ℕ) (there : t (Page page (spare_slot (state_of_page b page))) ≡ Pending body) (is : IsPageAt b.params.rows page next.super.position y.content body) where
    page_of : IsPageOf next.super page y.content body
    page_of = record {
      page = is.page;
      is_page = subst (λ (p : _). IsPageBody p.rows is.page body) (sym toward.follows.params) is.is_page;
      is_it = is.is_it;
      earlier = omega (arith, is.at);
      rows = subst (λ (p : Rattle.rep_types.specs.Settings.Setting). Rattle.rep_checkpoint.specs.Pages.AreRows p.rows page y.content is.page) (sym toward.follows.params) is.rows_are;
    }

    this_page : (number : ℕ) (slot : Slot) → number ≡ page → state_of_page next.super number ≡ In slot → (bytes : List ℕ) × IsWritten bytes (t (Page number slot)) × IsPageOf next.super number y.content bytes
    this_page number slot same at =
        let turned : In slot ≡ In (spare_slot (state_of_page b page)) = sym at ∙ ap (state_of_page next.super) same ∙ toward.follows.turned page left in
        let slot_is : slot ≡ spare_slot (state_of_page b page) = cc in (
          body,
          subst (λ n. IsWritten body (t (Page n slot))) (sym same) (subst (λ (sl : Slot). IsWritten body (t (Page page sl))) (sym slot_is) (inl there)),
          subst (λ n. IsPageOf next.super n y.content body) (sym same) page_of,
        )

    pub flushed_page : IsToward b (without page next) Flushing y t
    flushed_page = record {
      follows = next_without b page next toward.follows;
      position = toward.position;
      kept = toward.kept;
      far = record {
        pages = λ number slot out at. elim (not_left next.left page number out) [
          | inl same ↦ this_page number slot same at
          | inr before ↦ flushing_stays.pages number slot before at
        ];
        absent = toward.far.absent;
        outside = toward.far.outside;
      };
      cell = elsewhere _ (λ e. absurd cc) ∙ toward.cell;
    }

-- ---- as the call makes it

after_ok : (result : Result (Unit {0}) Refusal) (P Q : Type 0) → (P → Q) → OnOk result P → OnOk result Q
after_ok (Ok x) P Q f h = f h
after_ok (Err e) P Q f h = tt

pub flushes :
    {D : Type 0} (g : Ghosts D) (l : Layout) (kept : Kept) (page : ℕ) (c after : Standing) (position : ℕ) (old new : D) (result : Result (Unit {0}) Refusal)
    → flush_refusal l c page ≡ None → position ≡ position_in c.stage → OnOk result (after ≡ flushed page c) → IfErr result (λ e. ((e ≡ DiskFault) ⊎ (e ≡ Corrupt Pages)) × (after ≡ c)) → MovesPage g l c.base kept position page old new result
    → Flushes g l kept page c after old new result
flushes {D} g l kept page c after position old new result due position_is done failed moves =
    let left = left_of l c page due in
    let next = left.next in
    let at : position ≡ next.super.position = position_is ∙ ap position_in left.stage_is in
    let stand : Standing = record { base = c.base; stage = Toward next Flushing } in
    let same : stand ≡ c = λ i. record { base = c.base; stage = sym left.stage_is i } in
    record {
      done = done;
      fault = failed;
      written = moves.written;
      steps = λ h size s x y assigns is at_is.
          let is_here : CheckpointIs size stand x y s = subst (λ (v : Standing). CheckpointIs size v x y s) (sym same) is in
          let put = moves.puts h s x.content y.content assigns is.base.content (subst (λ p. Rattle.rep_checkpoint.specs.Calls.AreAt c.base.params.rows kept p x.content y.content) (sym position_is) at_is) in
          let base = base_stays size c.base x s put.states page is.base put.elsewhere in
          let during : CheckpointIs size stand x y put.states = record { base = base; beside = toward_stays c.base next y s put.states page left.left is_here.beside put.elsewhere } in
          record {
            states = put.states;
            elsewhere = λ i. put.elsewhere (Log i) (λ e. absurd cc);
            during_is = subst (λ (v : Standing). CheckpointIs size v x y put.states) same during;
            after_is = after_ok result _ _
                (λ (p : (body : List ℕ) × (put.states (Page page (spare_slot (state_of_page c.base page))) ≡ Pending body) × IsPageAt c.base.params.rows page position y.content body).
                subst (λ (v : Standing). CheckpointIs size (flushed page v) x y put.states) same
                (record { base = base; beside = flushed_page c.base next y s put.states page left.left is_here.beside put.elsewhere p.0 p.1 (subst (λ n. IsPageAt c.base.params.rows page n y.content p.0) at p.2) })) put.there;
            reaches = put.reaches;
          };
      whole = λ h size s x y assigns is. moves.whole h s x.content assigns is.base.content;
      spelled = λ h readable. subst (λ p. FlushesAsSpelled l c.base kept p page (g.history old) (g.history new) result) position_is (moves.spelled h readable);
    }
