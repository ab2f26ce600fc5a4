-- What stands in the cells in every image.
use Rattle.std.proofs.Common.{◌≡◌, ◌≢◌, ℕ, ◌+◌, ◌%◌, ◌<◌, ◌≤◌, ◌⊎◌, Bool, true, false, List, [], ◌∷◌, ◌++◌, length, drop, Option, Some, None, refl, sym, ap, subst, ◌∙◌, arith, inl, inr, length-append, length-drop}
use Rattle.std.proofs.lemmas.Bool.{cases_eq, lt-ltb}
use Rattle.std.proofs.lemmas.Option.{same_Some}
use Rattle.rep_types.specs.declared.judged.Judged.{Judged}
use Rattle.rep_record.specs.Blocks.{block_bytes}
use Rattle.rep_layout.specs.declared.place.Layout.{Layout}
use Rattle.rep_layout.specs.declared.place.Place.TheVariants.{Log}
use Rattle.rep_layout.specs.Places.{log_of, TurnsAreTaken}
use Rattle.rep_cells.specs.Readings.{IsPlace, Reading}
use Rattle.rep_cells.specs.States.{State, Allows}
use Rattle.rep_log.specs.declared.phase.Phase.{Phase}
use Rattle.rep_log.specs.declared.phase.Phase.TheVariants.{Resting, Closing, Filling, Filled, Opening}
use Rattle.rep_log.specs.Tail.{IsBlockFrom, Shows, seqno_after, cell_in, IsOld, IsLog}
use Rattle.rep_log.specs.Standing.{stands_at, busy, AtRest, IsDue, IsWritten, StandsOpen}
use Rattle.rep_log.specs.Laws.{HoldsFrom, OpenBlocksAreShown, TheLogInEveryImage}
use Rattle.rep_log.proofs.Blocks.{cell_is, stand_moved, stand_behind, stand_more, stays_below}
use Rattle.rep_log.proofs.Cells.{log_is, index_small}

-- ---- single cells

-- a cell is a place
pub cell_is_place : (l : Layout) (i : ℕ) → i < l.cells → IsPlace l (Log i)
cell_is_place l i lt = lt-ltb i l.cells lt

-- nothing is no body
nothing : {P : Type 0} (reading : Option (List ℕ)) (body : List ℕ) → reading ≡ None → reading ≡ Some body → P
nothing reading body none some = let no : None ≡ Some body = sym none ∙ some in absurd cc

-- what is read in a cell at rest is old
rest_is_old : (stands : Bool) (l : Layout) (i next : ℕ) (state : State) (reading : Option (List ℕ)) (body : List ℕ) → AtRest stands l i next state → Allows state reading → reading ≡ Some body → IsOld l i next body
rest_is_old false l i next state reading body h allowed e = nothing reading body (subst (λ x. Allows x reading) h allowed) e
rest_is_old true l i next state reading body h allowed e =
    let same : h.0 ≡ body = same_Some h.0 body (sym (subst (λ x. Allows x reading) h.1 allowed) ∙ e) in
    subst (IsOld l i next) same h.2

-- Of the next block's cell: whatever is read there is old, or the block whose gate opens is there.
abbrev IsStillOld : Layout → ℕ → ℕ → Option (List ℕ) → Type 0
IsStillOld l i next reading = (body : List ℕ) → reading ≡ Some body → IsOld l i next body

pub record IsThere (phase : Phase) (next seqno : ℕ) (sealed : List Judged) (reading : Option (List ℕ)) : Type 0 where
  pub n : ℕ
  pub opening : phase ≡ Opening n
  pub shown : reading ≡ Some (block_bytes next sealed)
  pub written : (state : State) × IsWritten state state next seqno n sealed

next_cell :
    (phase : Phase) (stands : Bool) (l : Layout) (i next seqno : ℕ) (sealed : List Judged) (state : State) (reading : Option (List ℕ))
    → (busy phase ≡ 0 → AtRest stands l i next state) → IsDue phase l i next seqno sealed state → Allows state reading → IsStillOld l i next reading ⊎ IsThere phase next seqno sealed reading
next_cell Resting stands l i next seqno sealed state reading rest due allowed = inl (λ body e. rest_is_old stands l i next state reading body (rest refl) allowed e)
next_cell Closing stands l i next seqno sealed state reading rest due allowed = elim (subst (λ x. Allows x reading) due.1 allowed) [
  | inl none ↦ inl (λ body e. nothing reading body none e)
  | inr some ↦ inl (λ body e. subst (IsOld l i next) (same_Some due.0 body (sym some ∙ e)) due.2)
]
next_cell (Filling n) stands l i next seqno sealed state reading rest due allowed = inl (λ body e. nothing reading body (subst (λ x. Allows x reading) due.state_is allowed) e)
next_cell (Filled n) stands l i next seqno sealed state reading rest due allowed = inl (λ body e. nothing reading body (subst (λ x. Allows x reading) due.state_is allowed) e)
next_cell (Opening n) stands l i next seqno sealed state reading rest due allowed = elim (subst (λ x. Allows x reading) due.state_is allowed) [
  | inl none ↦ inl (λ body e. nothing reading body none e)
  | inr some ↦ inr (record { n = n; opening = refl; shown = some; written = (state, record { state_is = refl; size = due.size; block = due.block }) })
]

-- ---- all cells

-- from each of its blocks on a log is what is left of it
holds_from : (r : Reading) (l : Layout) (from first : ℕ) (blocks : List (List Judged)) → IsLog r l from first blocks → HoldsFrom r l from first blocks
holds_from r l from first blocks is k le =
    let place = stays_below (Shows r l) k from first blocks le is.stand (record { below = is.starts; limit = is.limit }) in
    let same : from + length blocks ≡ from + k + length (drop k blocks) = omega (arith, le, length-drop k blocks) in
    record {
      starts = place.below;
      limit = place.limit;
      stand = stand_behind (Shows r l) k from first blocks is.stand;
      old = λ i body lt shown. subst (λ n. IsOld l i n body) same (is.old i body lt shown);
    }

-- a number that is old stays so
pub later : (l : Layout) (i m n : ℕ) (body : List ℕ) → m ≤ n → IsOld l i m body → IsOld l i n body
later l i m n body le old = record { in_place = old.in_place; below = omega (arith, le, old.below) }

-- what stands open is shown
pub open_shown : TurnsAreTaken → OpenBlocksAreShown
open_shown turns l s r n seqno blocks some allowed = stand_moved (StandsOpen s l) (Shows r l) n seqno blocks
    (λ m body from to opened. subst (λ x. Allows x (r (log_of l m))) opened (allowed (log_of l m) (turns.cells l m (omega (arith, some)))))

pub in_every_image : TurnsAreTaken → TheLogInEveryImage
in_every_image turns l s r log first blocks sealed is allowed =
    let at = log.next % l.cells in
    let small = index_small l log.next is.some in
    let same : log_of l log.next ≡ Log at = log_is l log.next is.some in
    let shown = open_shown turns l s r log.start first blocks is.some allowed is.live in
    let others : (i : ℕ) (body : List ℕ) → i < l.cells → i ≢ at → r (Log i) ≡ Some body → IsOld l i log.next body =
    λ i body lt other e. rest_is_old (stands_at log i) l i log.next (s (Log i)) (r (Log i)) body (is.rest i lt (λ b. other)) (allowed (Log i) (cell_is_place l i lt)) e in
    let rest : busy log.phase ≡ 0 → AtRest (stands_at log at) l at log.next (s (log_of l log.next)) =
    λ idle. subst (λ p. AtRest (stands_at log at) l at log.next (s p)) (sym same) (is.rest at small (λ b. absurd (omega (arith, idle, b)))) in
    elim (next_cell log.phase (stands_at log at) l at log.next log.seqno sealed (s (log_of l log.next)) (r (log_of l log.next)) rest is.due (allowed (log_of l log.next) (turns.cells l log.next (omega (arith, is.some))))) [
      | inl old ↦ (
        blocks,
        inl refl,
        holds_from r l log.start first blocks (record {
          starts = is.starts;
          limit = is.limit;
          stand = shown;
          old = λ i body lt e. subst (λ n. IsOld l i n body) is.next (elim (cases_eq i at) [
            | inl here ↦ subst (λ j. IsOld l j log.next body) (sym here) (old body (ap r same ∙ ap (λ j. r (Log j)) (sym here) ∙ e))
            | inr other ↦ others i body lt other e
          ]);
        }),
      )
      | inr there ↦ (
        blocks ++ sealed ∷ [],
        inr (there.n, there.opening, refl),
        holds_from r l log.start first (blocks ++ sealed ∷ []) (
            let block = there.written.1.block in
            let long : log.next + 1 ≡ log.start + length (blocks ++ sealed ∷ []) = omega (arith, is.next, length-append blocks (sealed ∷ [])) in
            let number : cell_in (block_bytes log.next sealed) ≡ log.next = cell_is log.next sealed block.is_block in
            let newest : IsOld l at (log.next + 1) (block_bytes log.next sealed) = record { in_place = ap (log_of l) number ∙ same; below = omega (arith, number) } in
            record {
              starts = is.starts;
              limit = is.limit;
              stand = stand_more (Shows r l) log.start first blocks sealed shown (subst (λ n. Shows r l n (block_bytes n sealed)) is.next there.shown) (subst (λ n. IsBlockFrom n (seqno_after first blocks) sealed) is.next (subst (λ m. IsBlockFrom log.next m sealed) is.seqno block));
              old = λ i body lt e. subst (λ n. IsOld l i n body) long (elim (cases_eq i at) [
                | inl here ↦ (
                    let body_is : block_bytes log.next sealed ≡ body = same_Some _ _ (sym there.shown ∙ ap r same ∙ ap (λ j. r (Log j)) (sym here) ∙ e) in
                    subst (λ j. IsOld l j (log.next + 1) body) (sym here) (subst (IsOld l at (log.next + 1)) body_is newest))
                | inr other ↦ later l i log.next (log.next + 1) body (omega arith) (others i body lt other e)
              ]);
            }),
      )
    ]
