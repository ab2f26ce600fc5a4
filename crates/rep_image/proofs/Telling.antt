-- An image means one thing.
use Rattle.std.proofs.Common.{◌≡◌, refl, sym, ap, subst, ◌∙◌, ℕ, ◌+◌, ◌<◌, ◌≤◌, ◌⊎◌, inl, inr, true, List, length, Option, Some, None, arith}
use Rattle.std.specs.Prelude.{slice_index}
use Rattle.std.proofs.Math.Path.{fun_ext}
use Rattle.std.proofs.lemmas.Bool.{cases_lt}
use Rattle.std.proofs.lemmas.Bool.Decides.{nat_tests}
use Rattle.std.proofs.lemmas.Option.{same_Some}
use Rattle.rep_types.specs.declared.key.Key.{Key}
use Rattle.rep_types.specs.Windows.{Window as Kept}
use Rattle.rep_types.specs.Settings.{Setting, IsRow, is_setting}
use Rattle.rep_types.specs.Order.{State}
use Rattle.rep_layout.specs.declared.super_body.SuperBody.{SuperBody}
use Rattle.rep_layout.specs.declared.page_state.PageState.{PageState}
use Rattle.rep_layout.specs.declared.page_state.PageState.TheVariants.{Nowhere, In}
use Rattle.rep_layout.specs.declared.place.Side.{Side}
use Rattle.rep_layout.specs.declared.place.Side.TheVariants.{A, B}
use Rattle.rep_layout.specs.declared.place.Slot.{Slot}
use Rattle.rep_layout.specs.declared.place.Place.TheVariants.{Super}
use Rattle.rep_layout.specs.Places.{side_of, layout_of}
use Rattle.rep_layout.specs.Rows.{row_place}
use Rattle.rep_layout.specs.Supers.{super_bytes, SuperblocksAreTold}
use Rattle.rep_layout.specs.Windows.{Window, WindowsAreTold, beside}
use Rattle.rep_steps.specs.Readings.{Reading, reading_of}
use Rattle.rep_pages.specs.declared.page.Page.{Page as PageBody}
use Rattle.rep_pages.specs.Slots.{state_of_page}
use Rattle.rep_pages.specs.Pages.{IsPageBody, PagesAreTold}
use Rattle.rep_pages.specs.Images.{row_of}
use Rattle.rep_steps.specs.Tail.{records_of}
use Rattle.rep_steps.specs.LogLaws.{TheLogIsTold}
use Rattle.rep_steps.specs.Images.{Meaning}
use Rattle.rep_image.specs.Bases.{other, IsSuperAt, IsLesser, IsChosen, HasWindow, HasContent}
use Rattle.rep_image.specs.Meanings.{MeansBy, ImagesMeanOneThing}

-- ---- the superblock

-- a superblock that is open on the other side is lesser
is_lesser : SuperblocksAreTold → (size number : ℕ) (side : Side) (o : Option (List ℕ)) (c : SuperBody) → IsSuperAt size side c → o ≡ Some (super_bytes c) → IsLesser size side number o → c.number < number
is_lesser told size number side None c is e h = absurd cc
is_lesser told size number side (Some body) c is e h =
    let same : c ≡ h.0 = told c h.0 is.is_super h.2.is_super (sym (same_Some _ _ e) ∙ h.1) in
    subst (λ (b : SuperBody). b.number < number) (sym same) h.3

module _ (told : SuperblocksAreTold) (size : ℕ) (r s : Reading) (alike : (side : Side) → r (Super side) ≡ s (Super side)) (b c : SuperBody) (h : IsChosen size r b) (k : IsChosen size s c) where
  -- both on one side
  on_one_side : side_of b.number ≡ side_of c.number → b ≡ c
  on_one_side e =
      told b c h.is_super.is_super k.is_super.is_super
      (same_Some _ _ (sym h.stands ∙ ap (λ (side : Side). r (Super side)) e ∙ alike (side_of c.number) ∙ k.stands))

  -- each on its own
  apart : side_of c.number ≡ other (side_of b.number) → other (side_of c.number) ≡ side_of b.number → b ≡ c
  apart e f =
      let less : c.number < b.number =
      is_lesser told size b.number (other (side_of b.number)) (r (Super (other (side_of b.number)))) c (subst (λ (side : Side). IsSuperAt size side c) e k.is_super)
      (alike (other (side_of b.number)) ∙ ap (λ (side : Side). s (Super side)) (sym e) ∙ k.stands) h.lesser in
      let more : b.number < c.number =
      is_lesser told size c.number (other (side_of c.number)) (s (Super (other (side_of c.number)))) b (subst (λ (side : Side). IsSuperAt size side b) (sym f) h.is_super)
      (sym (alike (other (side_of c.number))) ∙ ap (λ (side : Side). r (Super side)) f ∙ h.stands) k.lesser in
      absurd (omega (arith, less, more))

  by_sides : (x y : Side) → side_of b.number ≡ x → side_of c.number ≡ y → b ≡ c
  by_sides A A e f = on_one_side (e ∙ sym f)
  by_sides A B e f = apart (f ∙ ap other (sym e)) (ap other f ∙ sym e)
  by_sides B A e f = apart (f ∙ ap other (sym e)) (ap other f ∙ sym e)
  by_sides B B e f = on_one_side (e ∙ sym f)

  one_super : b ≡ c
  one_super = by_sides (side_of b.number) (side_of c.number) refl refl

-- ---- what it names

one_window : WindowsAreTold → (r : Reading) (b : SuperBody) (v u : Kept) → is_setting b.params ≡ true → HasWindow r b v → HasWindow r b u → v ≡ u
one_window told r b v u setting h k =
    ap (λ (w : Window). w.kept) (told b.params (beside b v) (beside b u) setting h.is_window k.is_window (same_Some _ _ (sym h.stands ∙ k.stands)))

module _ (told : PagesAreTold) (r : Reading) (b : SuperBody) (f g : Key → Option (List ℕ)) (h : HasContent r b f) (k : HasContent r b g) where
  one_page : (key : Key) → IsRow b.params.rows key → (slot : Slot) → state_of_page b (row_place b.params.rows key).page ≡ In slot → f key ≡ g key
  one_page key row slot there =
      let number = (row_place b.params.rows key).page in
      let one = h.pages number slot there in
      let two = k.pages number slot there in
      let body : one.0 ≡ two.0 = same_Some _ _ (sym one.1 ∙ two.1) in
      let page : one.2.page ≡ two.2.page = told b.params.rows one.2.page two.2.page two.0 (subst (IsPageBody b.params.rows one.2.page) body one.2.is_page) two.2.is_page in
      one.2.rows key row refl ∙ ap (λ (p : PageBody). row_of b.params.rows p.rows key) page ∙ sym (two.2.rows key row refl)

  one_row : (key : Key) → IsRow b.params.rows key → (state : PageState) → state_of_page b (row_place b.params.rows key).page ≡ state → f key ≡ g key
  one_row key row Nowhere e = h.absent key row e ∙ sym (k.absent key row e)
  one_row key row (In slot) e = one_page key row slot e

  one_value : (key : Key) → ((key.row < slice_index b.params.rows key.table) ⊎ (slice_index b.params.rows key.table ≤ key.row)) → f key ≡ g key
  one_value key (inl row) = one_row key row (state_of_page b (row_place b.params.rows key).page) refl
  one_value key (inr past) = h.outside key (λ row. omega (arith, row, past)) ∙ sym (k.outside key (λ row. omega (arith, row, past)))

  one_content : f ≡ g
  one_content = fun_ext (λ key. one_value key (cases_lt key.row (slice_index b.params.rows key.table)))

-- ---- the meaning

same_state : (S T : State) → S.position ≡ T.position → S.content ≡ T.content → S.kept ≡ T.kept → S ≡ T
same_state S T e f g = λ i. record { position = e i; content = f i; kept = g i }

pub same_meaning : (m n : Meaning) → m.uuid ≡ n.uuid → m.setting ≡ n.setting → m.base ≡ n.base → m.tail ≡ n.tail → m ≡ n
same_meaning m n e f g h = λ i. record { uuid = e i; setting = f i; base = g i; tail = h i }

some_cell : (p : Setting) → is_setting p ≡ true → 0 < p.cells
some_cell p h = grind (arith, nat_tests)

mean_by : WindowsAreTold → PagesAreTold → TheLogIsTold → (size : ℕ) (b : SuperBody) (r : Reading) (m n : Meaning) → MeansBy size b r m → MeansBy size b r n → m ≡ n
mean_by windows pages log size b r m n h k =
    let setting : is_setting b.params ≡ true = h.chosen.is_super.is_super.setting in
    let kept : m.base.kept ≡ n.base.kept = one_window windows r b m.base.kept n.base.kept setting h.window k.window in
    let content : m.base.content ≡ n.base.content = one_content pages r b m.base.content n.base.content h.content k.content in
    let blocks : h.blocks ≡ k.blocks = log.only r (layout_of b.params) b.start (b.position + 1) h.blocks k.blocks (some_cell b.params setting) h.log k.log in
    same_meaning m n (h.uuid ∙ sym k.uuid) (h.setting ∙ sym k.setting) (same_state m.base n.base (h.position ∙ sym k.position) content kept) (h.tail ∙ ap records_of blocks ∙ sym k.tail)

pub mean_one : SuperblocksAreTold → WindowsAreTold → PagesAreTold → TheLogIsTold → ImagesMeanOneThing
mean_one supers windows pages log image m n h k =
    let same : h.super ≡ k.super =
    one_super supers (length image) (reading_of (layout_of h.super.params) image) (reading_of (layout_of k.super.params) image) (λ side. refl) h.super k.super h.means.chosen k.means.chosen in
    mean_by windows pages log (length image) k.super (reading_of (layout_of k.super.params) image) m n
    (subst (λ (b : SuperBody). MeansBy (length image) b (reading_of (layout_of b.params) image) m) same h.means) k.means
