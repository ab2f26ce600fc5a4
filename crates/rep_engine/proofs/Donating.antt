-- What a donor reads of an engine that stands for a node: the blocks behind the base.
use Rattle.std.proofs.Common.{◌≡◌, ℕ, zero, suc, ◌+◌, ◌-◌, ◌<◌, List, [], ◌∷◌, length, take, get_or, Option, None, Some, Result, Ok, Err, refl, sym, ap, subst, ◌∙◌, arith, IfOk, true, false}
use Rattle.std.specs.Prelude.{nat_lt, ◌≤◌}
use Rattle.std.proofs.lemmas.List.{take_all}
use Rattle.std.proofs.lemmas.Bool.Decides.{nat_tests}
use Rattle.rep_types.specs.declared.judged.Judged.{Judged}
use Rattle.rep_types.specs.declared.refusal.Refusal.{Refusal}
use Rattle.rep_types.specs.declared.refusal.Part.TheVariants.{Log as in_log}
use Rattle.rep_record.specs.Blocks.{Contents, IsBlock, block_bytes, contents}
use Rattle.rep_disk.specs.declared.disk.Disk.{Ghosts}
use Rattle.rep_disk.specs.History.{seen, stable, IsImage}
use Rattle.rep_layout.specs.declared.place.Layout.{Layout}
use Rattle.rep_layout.specs.declared.place.Place.{Place}
use Rattle.rep_layout.specs.declared.super_body.SuperBody.{SuperBody}
use Rattle.rep_layout.specs.Places.{log_of, layout_of}
use Rattle.rep_layout.specs.Supers.{IsSuper}
use Rattle.rep_cells.specs.Readings.{reading_of}
use Rattle.rep_cells.specs.States.{States, IsSure, Shows as ShowsAs}
use Rattle.rep_cells.specs.Known.{Assigns, IsReadable}
use Rattle.rep_cells.specs.Laws.{ImagesReadAsAllowed}
use Rattle.rep_log.specs.Standing.{StandsOpen}
use Rattle.rep_log.specs.Tail.{Stand}
use Rattle.rep_log.specs.Laws.{OpenBlocksAreShown, TheLogIsTold}
use Rattle.rep_steps.specs.Nodes.{Node}
use Rattle.rep_engine.specs.Engines.{Engine, IsEngine}
use Rattle.rep_engine.specs.Holding.{Stands, Holds}
use Rattle.rep_engine.specs.Donating.{IsTail, TheTailIsTold, IsTailBlock, IsBlockAsSpelled}

-- how the index is told
pub is_past : (index count : ℕ) → count ≤ index → false ≡ nat_lt index count
is_past index count past = sym (grind (arith, nat_tests, past))

pub is_within : (index count : ℕ) → index < count → true ≡ nat_lt index count
is_within index count below = sym (grind (arith, nat_tests, below))

-- Two lists of blocks that stand in one image are one, if they are equally long; and what is stable is an image.
pub tail_told : TheLogIsTold → TheTailIsTold
tail_told told = λ n l h base log a b is other.
    let image : IsImage h (stable h) = record { sized = refl; outside = λ k apart. refl } in
    let same : length a ≡ length b = omega (arith, is.count, other.count) in
    let front = told.begins (reading_of l (stable h)) l log.start (base.position + 1) a b (omega (arith, same)) (is.stand (stable h) image) (other.stand (stable h) image) in
    sym front ∙ ap (λ k. take k b) same ∙ take_all (length b) b (omega arith)

-- The block of this index stands where blocks of its number do.
block_there :
    (Has : ℕ → List ℕ → Type 0) (n seqno k : ℕ) (blocks : List (List Judged)) → k < length blocks → Stand Has n seqno blocks
    → Has (n + k) (block_bytes (n + k) (get_or blocks k [])) × IsBlock (n + k) (get_or blocks k [])
block_there Has n seqno k [] lt h = absurd (omega (arith, lt))
block_there Has n seqno zero (records ∷ blocks) lt h =
    let e : n ≡ n + 0 = omega arith in
    (subst (λ m. Has m (block_bytes m records)) e h.0, subst (λ m. IsBlock m records) e h.1.is_block)
block_there Has n seqno (suc k) (records ∷ blocks) lt h =
    let e : n + 1 + k ≡ n + suc k = omega arith in
    let more = block_there Has (n + 1) (seqno + length records) k blocks (omega (arith, lt)) h.2 in
    (subst (λ m. Has m (block_bytes m (get_or blocks k []))) e more.0, subst (λ m. IsBlock m (get_or blocks k [])) e more.1)

-- The layout of a base has a cell.
some_cell : (l : Layout) (b : SuperBody) → IsSuper b → l ≡ layout_of b.params → 0 < l.cells
some_cell l b super here = subst (λ (k : Layout). 0 < k.cells) (sym here) (grind (arith, nat_tests, super.setting))

-- ---- a block is read in its cell, by an engine that runs

module _ {D : Type 0} (g : Ghosts D) (within old : Engine D) (is : within ≡ old) (index number : ℕ) (number_is : number ≡ within.log.start + index) (place : Place) (place_is : place ≡ log_of within.layout number)
    (body : Option (List ℕ)) (result : Result Contents Refusal) (only : (records : List Judged) → IsBlock number records → body ≡ Some (block_bytes number records) → result ≡ Ok (contents number records)) where
  -- ---- of a node

  module _ (engine : IsEngine within.layout within.checkpoint within.log within.kept within.block) (runs : within.halted ≡ None) (due : index < within.log.next - within.log.start)
      (shown : g.honest within.disk → (s : States) → Assigns within.layout (g.history within.disk) s → IsSure (s place) → ShowsAs (s place) body) (n : Node) (holds : Holds g n old) where
    before : Holds g n within
    before = subst (Holds g n) (sym is) holds

    there : Stands g n within
    there = before.runs runs

    live : Stand (StandsOpen there.states within.layout) within.log.start (within.checkpoint.base.position + 1) there.blocks
    live = subst (λ (l : Layout). Stand (StandsOpen there.states l) within.log.start (within.checkpoint.base.position + 1) there.blocks) (sym engine.layout) there.stands.log_is.live

    -- The blocks that it has open are those behind its node's base, in every image.
    tail : ImagesReadAsAllowed → OpenBlocksAreShown → IsTail n within.layout (g.history within.disk) within.checkpoint.base within.log there.blocks
    tail allowed shown_open = record {
      items = there.stands.durable;
      count = there.stands.log_is.next;
      stand = λ image here. shown_open within.layout there.states (reading_of within.layout image) within.log.start (within.checkpoint.base.position + 1) there.blocks
          (some_cell within.layout within.checkpoint.base engine.checkpoint.is_super engine.layout) (allowed within.layout (g.history within.disk) there.states image there.assigns here) live;
    }

    -- What is read is that of this index.
    read : result ≡ Ok (contents number (get_or there.blocks index []))
    read =
        let here = block_there (StandsOpen there.states within.layout) within.log.start (within.checkpoint.base.position + 1) index there.blocks (omega (arith, due, there.stands.log_is.next)) live in
        let block : IsBlock number (get_or there.blocks index []) = subst (λ k. IsBlock k (get_or there.blocks index [])) (sym number_is) here.1 in
        let opened = ap there.states place_is ∙ subst (λ k. StandsOpen there.states within.layout k (block_bytes k (get_or there.blocks index []))) (sym number_is) here.0 in
        only (get_or there.blocks index []) block
        (subst (λ state. ShowsAs state body) opened (shown before.is_honest there.states there.assigns (subst IsSure (sym opened) tt)))

    pub tail_block : ImagesReadAsAllowed → OpenBlocksAreShown → (b : Contents) → result ≡ Ok b → IsTailBlock n old.layout (g.history old.disk) old.checkpoint.base old.log index b.records
    tail_block allowed shown_open b gave =
        let here : contents number (get_or there.blocks index []) ≡ b = cc (read, gave) in
        subst (λ (e : Engine D). IsTailBlock n e.layout (g.history e.disk) e.checkpoint.base e.log index b.records) is
        (record { blocks = there.blocks; tail = tail allowed shown_open; here = sym (ap (λ (x : Contents). x.records) here) })

    -- It is never refused.
    pub tail_whole : (e : Refusal) → result ≡ Err e → ⊥
    tail_whole e gave = absurd (cc (read, gave))

  -- ---- as the bytes have it

  module _ (found : IfOk result (λ b. body ≡ Some (block_bytes number b.records)))
      (reads : g.honest within.disk → IsReadable within.layout (g.history within.disk) place → body ≡ reading_of within.layout (seen (g.history within.disk)) place)
      (is_honest : g.honest old.disk) (readable : IsReadable old.layout (g.history old.disk) (log_of old.layout (old.log.start + index))) where
    -- Where it lies.
    lies : place ≡ log_of old.layout (old.log.start + index)
    lies = place_is ∙ ap (log_of within.layout) number_is ∙ ap (λ (e : Engine D). log_of e.layout (e.log.start + index)) is

    as_read : body ≡ reading_of old.layout (seen (g.history old.disk)) (log_of old.layout (old.log.start + index))
    as_read =
        reads (subst (λ (e : Engine D). g.honest e.disk) (sym is) is_honest)
        (subst (IsReadable within.layout (g.history within.disk)) (sym lies) (subst (λ (e : Engine D). IsReadable e.layout (g.history e.disk) (log_of old.layout (old.log.start + index))) (sym is) readable))
        ∙ ap (reading_of within.layout (seen (g.history within.disk))) lies ∙ ap (λ (e : Engine D). reading_of e.layout (seen (g.history e.disk)) (log_of old.layout (old.log.start + index))) is

    same : number ≡ old.log.start + index
    same = number_is ∙ ap (λ (e : Engine D). e.log.start + index) is

    pub block_spelled : (b : Contents) → result ≡ Ok b → IsBlockAsSpelled (reading_of old.layout (seen (g.history old.disk))) old.layout (old.log.start + index) (Ok (Some b)) in_log
    block_spelled b gave = record {
      block = sym as_read ∙ subst (λ (r : Result Contents Refusal). IfOk r (λ x. body ≡ Some (block_bytes number x.records))) gave found ∙ ap (λ k. Some (block_bytes k b.records)) same;
      corrupt = λ e. absurd cc;
    }

    pub none_spelled : (e : Refusal) → result ≡ Err e → IsBlockAsSpelled (reading_of old.layout (seen (g.history old.disk))) old.layout (old.log.start + index) (Err e) in_log
    none_spelled e gave = record {
      block = tt;
      corrupt = λ _ records block stands.
          absurd (cc (gave, only records (subst (λ k. IsBlock k records) (sym same) block) (as_read ∙ stands ∙ ap (λ k. Some (block_bytes k records)) (sym same))));
    }
