-- What every image of a formatted device means.
use Rattle.std.proofs.Common.{◌≡◌, ℕ, ◌<◌, ◌≤◌, inl, inr, true, false, List, [], length, get_or, replicate, Option, None, refl, sym, subst, ◌∙◌, arith}
use Rattle.std.proofs.lemmas.Bool.{cases_lt}
use Rattle.std.proofs.lemmas.Bool.Decides.{nat_tests}
use Rattle.std.proofs.lemmas.List.{get_or-replicate, get_or_past, length-replicate}
use Rattle.rep_types.specs.declared.judged.Judged.{Judged}
use Rattle.rep_types.specs.Settings.{Setting, is_setting, pages_of}
use Rattle.rep_types.specs.Order.{state}
use Rattle.rep_disk.specs.History.{History}
use Rattle.rep_layout.specs.declared.page_state.PageState.TheVariants.{Nowhere, In}
use Rattle.rep_layout.specs.declared.place.Layout.{Layout}
use Rattle.rep_layout.specs.declared.place.Side.TheVariants.{B}
use Rattle.rep_layout.specs.declared.place.Place.TheVariants.{Super, Log}
use Rattle.rep_layout.specs.Places.{layout_of, need_of}
use Rattle.rep_layout.specs.Supers.{IsSuper, super_bytes}
use Rattle.rep_layout.specs.Windows.{IsWindowBody, window_bytes}
use Rattle.rep_cells.specs.States.{State, States, Closed, Opened, Stable, Allows}
use Rattle.rep_cells.specs.Known.{Assigns}
use Rattle.rep_cells.specs.Laws.{ImagesReadAsAllowed}
use Rattle.rep_log.specs.declared.phase.Phase.TheVariants.{Resting, Opening}
use Rattle.rep_log.specs.Standing.{Standing, LogIs, AtRest}
use Rattle.rep_log.specs.Tail.{records_of}
use Rattle.rep_log.specs.Laws.{MayHold}
use Rattle.rep_steps.specs.Images.{Meaning, StandsFor, AreJudgedFrom}
use Rattle.rep_engine.specs.Bases.{IsLesser}
use Rattle.rep_engine.specs.Meanings.{Means}
use Rattle.rep_engine.specs.ImageStanding.{Stands, ImagesMeanWhatStands, with_blocks}
use Rattle.rep_recover.specs.Formatting.{first_super, first_window, HasFirst, ImagesStandFor}

-- nothing was delivered
abbrev empty : List ℕ → Setting → Meaning
empty uuid p = record { uuid = uuid; setting = p; base = state p []; tail = [] }

-- the log without a block
abbrev empty_log : ℕ → Standing
empty_log n = record { start = 0; next = 0; seqno = 1; cells = n; phase = Resting; stands = replicate n false }

some_cell : (p : Setting) → is_setting p ≡ true → 0 < p.cells
some_cell p h = grind (arith, nat_tests)

-- no page is in a slot
no_slot : (n number : ℕ) → get_or (replicate n Nowhere) number Nowhere ≡ Nowhere
no_slot n number = elim (cases_lt number n) [
  | inl lt ↦ get_or-replicate n number Nowhere Nowhere lt
  | inr le ↦ get_or_past (replicate n Nowhere) number Nowhere (omega (arith, length-replicate n Nowhere, le))
]

at_rest : (p : Setting) (n i : ℕ) (state : State) → i < n → state ≡ Closed → AtRest (get_or (replicate n false) i false) (layout_of p) i 0 state
at_rest p n i state lt is = subst (λ b. AtRest b (layout_of p) i 0 state) (sym (get_or-replicate n i false false lt)) is

log_is : (p : Setting) (s : States) → is_setting p ≡ true → ((i : ℕ) → i < p.cells → s (Log i) ≡ Closed) → LogIs (layout_of p) (empty_log p.cells) 1 [] [] s
log_is p s setting closed = record {
  cells = refl;
  some = some_cell p setting;
  known = omega (arith, length-replicate p.cells false);
  starts = omega arith;
  limit = omega arith;
  live = tt;
  next = refl;
  seqno = refl;
  room = omega arith;
  rest = λ i lt other. at_rest p p.cells i (s (Log i)) lt (closed i lt);
  due = tt;
}

-- a superblock's cell that is closed has none
lesser : (size number : ℕ) (state : State) (reading : Option (List ℕ)) → state ≡ Closed → Allows state reading → IsLesser size B number reading
lesser size number state reading is allows =
    let none : reading ≡ None = subst (λ (x : State). Allows x reading) is allows in
    subst (λ (r : Option (List ℕ)). IsLesser size B number r) (sym none) tt

module _ (uuid : List ℕ) (p : Setting) (is : IsSuper (first_super uuid p)) (is_window : IsWindowBody p (first_window p)) where
  stands : (size : ℕ) (s : States) → need_of (layout_of p) ≤ size → HasFirst p.cells (Opened (super_bytes (first_super uuid p))) (Stable (window_bytes (first_window p))) s
      → Stands size (first_super uuid p) (empty uuid p) (empty_log p.cells) [] [] s
  stands size s fits has = record {
    uuid = refl;
    setting = refl;
    position = refl;
    base = record {
      is_super = record { is_super = is; here = refl; fits = fits };
      opened = has.first;
      lesser = λ reading allows. lesser size 0 (s (Super B)) reading has.second allows;
      saved = has.beside;
      is_window = is_window;
    };
    content = record {
      pages = λ number slot there. (let none : Nowhere ≡ In slot = sym (no_slot (pages_of p.rows) number) ∙ there in absurd cc);
      absent = λ key row there. refl;
      outside = λ key none. refl;
    };
    start = refl;
    log_is = log_is p s is.setting has.log;
  }

  stands_for : StandsFor uuid p [] (with_blocks (empty uuid p) [])
  stands_for = record { uuid_is = refl; setting_is = refl; within = omega arith; base_is = refl; tail_is = refl }

  none_held : (held : List (List Judged)) → MayHold Resting [] [] held → held ≡ []
  none_held held (inl is) = is
  none_held held (inr opens) = let never : Resting ≡ Opening opens.0 = opens.1 in absurd cc

  pub formatted : ImagesReadAsAllowed → ImagesMeanWhatStands → (h : History) (s : States) → Assigns (layout_of p) h s → HasFirst p.cells (Opened (super_bytes (first_super uuid p))) (Stable (window_bytes (first_window p))) s
      → ImagesStandFor uuid p [] h
  formatted allowed law h s assigns has image of =
      let found = law image (first_super uuid p) (empty uuid p) (empty_log p.cells) [] [] s (stands (length image) s (omega (arith, assigns.fits, of.sized)) has) (allowed (layout_of p) h s image assigns of) in
      let none : found.0 ≡ [] = none_held found.0 found.1 in
      let means = found.2 (λ nil. none) (subst (λ (held : List (List Judged)). AreJudgedFrom p (state p []) (records_of held)) (sym none) tt) in
      (with_blocks (empty uuid p) [], subst (λ (held : List (List Judged)). Means image (with_blocks (empty uuid p) held)) none means, stands_for)

  -- the same of the layout and the bytes that the code has
  pub formatted_by :
      ImagesReadAsAllowed → ImagesMeanWhatStands → (l : Layout) (super beside : List ℕ) (h : History) → l ≡ layout_of p → super ≡ super_bytes (first_super uuid p) → beside ≡ window_bytes (first_window p)
      → (t : States) × Assigns l h t × HasFirst l.cells (Opened super) (Stable beside) t → ImagesStandFor uuid p [] h
  formatted_by allowed law l super beside h same super_is beside_is found =
      let has = subst (λ (k : Layout). HasFirst k.cells (Opened super) (Stable beside) found.0) same found.2 in
      let has_super = subst (λ (x : List ℕ). HasFirst p.cells (Opened x) (Stable beside) found.0) super_is has in
      formatted allowed law h found.0 (subst (λ (k : Layout). Assigns k h found.0) same found.1) (subst (λ (x : List ℕ). HasFirst p.cells (Opened (super_bytes (first_super uuid p))) (Stable x) found.0) beside_is has_super)
