-- What stands behind a superblock, and which part fails first.
use Rattle.std.proofs.Common.{◌≡◌, ℕ, ◌+◌, ◌<◌, inl, inr, true, List, [], ◌∷◌, length, Result, IfErr, refl, sym, ap, subst, ◌∙◌, arith}
use Rattle.std.specs.Result.{IsErrAnd}
use Rattle.std.proofs.lemmas.Bool.Decides.{nat_tests}
use Rattle.std.proofs.lemmas.Result.{err_from_is_err_and}
use Rattle.rep_types.specs.declared.judged.Judged.{Judged}
use Rattle.rep_types.specs.declared.refusal.Part.{Part}
use Rattle.rep_types.specs.declared.refusal.Refusal.{Refusal}
use Rattle.rep_types.specs.Windows.{Window as WindowOf}
use Rattle.rep_types.specs.Settings.{Setting, is_setting}
use Rattle.rep_disk.specs.History.{History, seen}
use Rattle.rep_layout.specs.declared.super_body.SuperBody.{SuperBody}
use Rattle.rep_layout.specs.declared.place.Layout.{Layout}
use Rattle.rep_layout.specs.Places.{layout_of}
use Rattle.rep_layout.specs.Supers.{IsNil, IsSuper}
use Rattle.rep_cells.specs.Readings.{Reading, reading_of}
use Rattle.rep_log.specs.Tail.{Stand, Shows, records_of}
use Rattle.rep_log.specs.Standing.{Standing}
use Rattle.rep_log.specs.Scanning.{Finds}
use Rattle.rep_log.specs.Laws.{TheLogIsTold}
use Rattle.rep_versions.specs.Versions.{Kept}
use Rattle.rep_cert.specs.Holdings.{Holding}
use Rattle.rep_steps.specs.Images.{AreJudgedFrom}
use Rattle.rep_engine.specs.Bases.{HasWindow}
use Rattle.rep_recover.specs.Judging.{bare, HasJudged}
use Rattle.rep_recover.specs.Looking.{RefusesPart, RefusesGrowing, HasBlocks, HasTail, HasBadPage}
use Rattle.rep_recover.specs.Opening.{FailsAtLog, FailsAtPages, RefusesBehind}

-- what is read of the same places and the same bytes
pub same_reading : (m l : Layout) (g h : History) → m ≡ l → g ≡ h → reading_of m (seen g) ≡ reading_of l (seen h)
same_reading m l g h layout history = ap (λ (x : Layout). reading_of x (seen g)) layout ∙ ap (λ (x : History). reading_of l (seen x)) history

-- ---- the log

some_cell : (p : Setting) → is_setting p ≡ true → 0 < p.cells
some_cell p h = grind (arith, nat_tests)

-- blocks without a record are none
pub no_blocks : (Has : ℕ → List ℕ → Type 0) (n seqno : ℕ) (blocks : List (List Judged)) → Stand Has n seqno blocks → records_of blocks ≡ [] → blocks ≡ []
no_blocks Has n seqno [] stand none = refl
no_blocks Has n seqno ([] ∷ blocks) stand none = absurd (omega (arith, stand.1.is_block.some))
no_blocks Has n seqno ((j ∷ records) ∷ blocks) stand none = absurd cc

-- where there is no item, by their number
pub no_items : (items : List Judged) → length items ≡ 0 → items ≡ []
no_items [] none = refl
no_items (j ∷ items) none = absurd (omega (arith, none))

pub fails_at_log :
    (r : Reading) (b : SuperBody) (beside : WindowOf) → HasWindow r b beside
    → ((blocks : List (List Judged)) → HasBlocks r b blocks → AreJudgedFrom b.params (bare b.position beside) (records_of blocks) → ⊥) → FailsAtLog r b
fails_at_log r b beside window none = record {
  beside = beside;
  window = window;
  none = λ items tail. none tail.blocks tail.has (subst (λ (js : List Judged). AreJudgedFrom b.params (bare b.position beside) js) tail.items_are tail.judged);
}

-- without a cluster a log that was found has no block, so that one with a block is found nowhere
pub fails_undefined :
    TheLogIsTold → (bytes : List ℕ) (b : SuperBody) → IsSuper b → IsNil b.uuid → (log : Standing) (items : List Judged) → Finds (layout_of b.params) bytes b.start (b.position + 1) log items → (length items ≡ 0 → ⊥)
    → (blocks : List (List Judged)) → HasBlocks (reading_of (layout_of b.params) bytes) b blocks → ⊥
fails_undefined told bytes b is nil log items finds some blocks has =
    let same : blocks ≡ finds.blocks = told.only (reading_of (layout_of b.params) bytes) (layout_of b.params) b.start (b.position + 1) blocks finds.blocks (some_cell b.params is.setting) has.log finds.is_log in
    some (ap length (finds.items_are ∙ ap records_of (sym same ∙ has.undefined nil)))

module _ (bytes : List ℕ) (b : SuperBody) (log : Standing) (items : List Judged) (finds : Finds (layout_of b.params) bytes b.start (b.position + 1) log items) where
  abbrev r : Reading
  r = reading_of (layout_of b.params) bytes

  has_blocks : (IsNil b.uuid → items ≡ []) → HasBlocks r b finds.blocks
  has_blocks undefined = record {
    log = finds.is_log;
    undefined = λ nil. no_blocks (Shows r (layout_of b.params)) b.start (b.position + 1) finds.blocks finds.is_log.stand (sym finds.items_are ∙ undefined nil);
  }

  has_tail : (IsNil b.uuid → items ≡ []) → (beside : WindowOf) (h : Holding) (kept : Kept) → HasJudged b.params (bare b.position beside) items h kept → HasTail r b beside items
  has_tail undefined beside h kept judged = record { blocks = finds.blocks; has = has_blocks undefined; items_are = finds.items_are; judged = judged.judged }

  pub fails_at_pages : (IsNil b.uuid → items ≡ []) → (beside : WindowOf) → HasWindow r b beside → (h : Holding) (kept : Kept) → HasJudged b.params (bare b.position beside) items h kept → HasBadPage r b → FailsAtPages r b
  fails_at_pages undefined beside window h kept judged bad = record { beside = beside; window = window; items = items; tail = has_tail undefined beside h kept judged; bad = bad }

-- ---- refusals

pub refuses_growing : (part : Part) (R : Type 0) (Reason : Part → Type 0) (e : Refusal) → (R → Reason part) → RefusesGrowing part R e → RefusesBehind Reason e
refuses_growing part R Reason e f (inl memory) = inl memory
refuses_growing part R Reason e f (inr (inl fault)) = inr (inl fault)
refuses_growing part R Reason e f (inr (inr why)) = inr (inr (part, (why.0, f why.1)))

pub refuses_part : (part : Part) (R : Type 0) (Reason : Part → Type 0) (e : Refusal) → (R → Reason part) → RefusesPart part R e → RefusesBehind Reason e
refuses_part part R Reason e f (inl fault) = inr (inl fault)
refuses_part part R Reason e f (inr why) = inr (inr (part, (why.0, f why.1)))

-- what holds of a refusal that is passed on
pub passed_on : {T : Type 0} (P : Refusal → Type 0) (q : Result T Refusal) (e : Refusal) → IsErrAnd q (λ x. x ≡ e) → P e → IfErr q P
passed_on P q e is holds =
    let err = err_from_is_err_and q is in
    subst (λ (x : Result _ Refusal). IfErr x P) (sym err.1) (subst P (sym err.2) holds)
