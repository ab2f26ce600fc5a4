-- A reading has one log at most from a block on.
use Rattle.std.proofs.Common.{◌≡◌, ℕ, ◌+◌, ◌%◌, ◌<◌, ◌≤◌, List, [], ◌∷◌, length, take, refl, sym, ap, subst, ◌∙◌, arith, inl, inr}
use Rattle.std.proofs.lemmas.Bool.{cases_lt}
use Rattle.std.proofs.lemmas.List.{take_all}
use Rattle.std.proofs.lemmas.Option.{same_Some}
use Rattle.rep_types.specs.declared.judged.Judged.{Judged}
use Rattle.rep_record.specs.Blocks.{block_bytes, BlocksAreTold}
use Rattle.rep_layout.specs.declared.place.Layout.{Layout}
use Rattle.rep_layout.specs.Places.{log_of, TurnsAreTaken}
use Rattle.rep_cells.specs.Readings.{Reading}
use Rattle.rep_log.specs.Tail.{Stand, Shows, cell_in, IsLog}
use Rattle.rep_log.specs.Laws.{TheLogIsTold}
use Rattle.rep_log.proofs.Blocks.{cell_is, standing_at}
use Rattle.rep_log.proofs.Cells.{log_is, index_small}

-- two blocks that stand in one cell are one
same_block : (told : BlocksAreTold) (r : Reading) (l : Layout) (n seqno : ℕ) (a b : List Judged) (p q : List (List Judged)) → Stand (Shows r l) n seqno (a ∷ p) → Stand (Shows r l) n seqno (b ∷ q) → a ≡ b
same_block told r l n seqno a b p q h g = (told n n a b h.1.is_block g.1.is_block (same_Some (block_bytes n a) (block_bytes n b) (sym h.0 ∙ g.0))).1

-- of two runs from a block on the shorter begins the longer
pub begins : (told : BlocksAreTold) (r : Reading) (l : Layout) (n seqno : ℕ) (a b : List (List Judged)) → length a ≤ length b → Stand (Shows r l) n seqno a → Stand (Shows r l) n seqno b → take (length a) b ≡ a
begins told r l n seqno [] b le h g = refl
begins told r l n seqno (x ∷ a) [] le h g = absurd (omega (arith, le))
begins told r l n seqno (x ∷ a) (y ∷ b) le h g =
    let same : y ≡ x = sym (same_block told r l n seqno x y a b h g) in
    let rest = begins told r l (n + 1) (seqno + length x) a b (omega (arith, le)) h.2 (subst (λ z. Stand (Shows r l) (n + 1) (seqno + length z) b) same g.2) in
    rw (same, rest) refl

-- behind the last block its cell doesn't hold the next number
pub log_ends : (r : Reading) (l : Layout) (from seqno : ℕ) (blocks : List (List Judged)) → 0 < l.cells → IsLog r l from seqno blocks → (body : List ℕ) → Shows r l (from + length blocks) body → cell_in body ≡ from + length blocks → ⊥
log_ends r l from seqno blocks some is body shown held =
    let n = from + length blocks in
    let old = is.old (n % l.cells) body (index_small l n some) (ap r (sym (log_is l n some)) ∙ shown) in
    omega (arith, old.below, held)

-- so of two logs none is longer
none_longer : (r : Reading) (l : Layout) (from seqno : ℕ) (a b : List (List Judged)) → 0 < l.cells → IsLog r l from seqno a → IsLog r l from seqno b → length a < length b → ⊥
none_longer r l from seqno a b some is other lt =
    let at = standing_at (Shows r l) from seqno (length a) b lt other.stand in
    log_ends r l from seqno a some is (block_bytes (from + length a) at.records) at.there (cell_is (from + length a) at.records at.block.is_block)

-- a run has no more blocks than there are cells
pub a_lap_at_most : (turns : TurnsAreTaken) (told : BlocksAreTold) (r : Reading) (l : Layout) (from seqno : ℕ) (blocks : List (List Judged)) → 0 < l.cells → Stand (Shows r l) from seqno blocks → length blocks ≤ l.cells
a_lap_at_most turns told r l from seqno blocks some h = elim (cases_lt l.cells (length blocks)) [
  | inl lt ↦ (
      let a = standing_at (Shows r l) from seqno 0 blocks (omega (arith, lt)) h in
      let b = standing_at (Shows r l) from seqno l.cells blocks lt h in
      let there : r (log_of l (from + l.cells)) ≡ r (log_of l (from + 0)) = ap r (turns.lap l from) ∙ ap (λ n. r (log_of l n)) (omega arith) in
      let body : block_bytes (from + 0) a.records ≡ block_bytes (from + l.cells) b.records = same_Some _ _ (sym a.there ∙ sym there ∙ b.there) in
      let number : from + 0 ≡ from + l.cells = (told (from + 0) (from + l.cells) a.records b.records a.block.is_block b.block.is_block body).0 in
      absurd (omega (arith, number, some)))
  | inr le ↦ le
]

pub log_is_told : TurnsAreTaken → BlocksAreTold → TheLogIsTold
log_is_told turns told = record {
  only = λ r l from first a b some is other. elim (cases_lt (length a) (length b)) [
    | inl lt ↦ absurd (none_longer r l from first a b some is other lt)
    | inr le ↦ elim (cases_lt (length b) (length a)) [
      | inl lt ↦ absurd (none_longer r l from first b a some other is lt)
      | inr ge ↦ (
          let same : length a ≡ length b = omega (arith, le, ge) in
          sym (begins told r l from first a b (omega (arith, same)) is.stand other.stand) ∙ ap (λ n. take n b) same ∙ take_all (length b) b (omega arith))
    ]
  ];
  few = λ r l from first blocks some is. a_lap_at_most turns told r l from first blocks some is.stand;
  begins = begins told;
}
