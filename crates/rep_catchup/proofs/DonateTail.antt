-- The durable blocks behind a base, as a donor writes them one after another.
use Rattle.std.proofs.Common.{◌≡◌, ℕ, zero, suc, ◌+◌, ◌-◌, ◌≤◌, ◌<◌, true, false, Result, Ok, Err, inl, inr, List, [], ◌∷◌, ◌++◌, length, take, Option, None, Some, refl, sym, ap, subst, ◌∙◌, append-nil, append_assoc, arith, length-append}
use Rattle.std.specs.Prelude.{is_some, nat_lt, nat_le, replicate, IfSome}
use Rattle.std.specs.List.{flat_map, AllByRecursion}
use Rattle.std.specs.Io.KnownBytes.{Appends}
use Rattle.std.proofs.KnownBytes.{Appends-nil, Appends-trans}
use Rattle.std.proofs.lemmas.Bool.{cases_lt, le-ltb, lt-ltb, le-leb, ltb-true, ltb-false, and_from}
use Rattle.std.proofs.lemmas.List.{take_all, take_more, take-take, length-take-le, length-replicate}
use Rattle.std.proofs.lemmas.List.Concat.{flat_map-append}
use Rattle.std.proofs.lemmas.List.Elements.{filter-append}
use Rattle.rep_types.specs.declared.refusal.Refusal.{Refusal}
use Rattle.rep_types.specs.declared.refusal.Refusal.TheVariants.{Corrupt}
use Rattle.rep_types.specs.declared.refusal.Part.TheVariants.{Log as InLog}
use Rattle.rep_types.specs.declared.judged.Judged.{Judged}
use Rattle.rep_types.specs.declared.verdict.Verdict.{Verdict}
use Rattle.rep_types.specs.declared.verdict.Verdict.TheVariants.{Commit, Conflict, Stale, Future, BadKey}
use Rattle.rep_types.specs.declared.item.Item.{Item}
use Rattle.rep_types.specs.declared.item.Item.TheVariants.{WriteSet, SetWindow}
use Rattle.rep_types.specs.declared.limits.TheConstants.{MAX_SEQNO}
use Rattle.rep_types.proofs.Choices.{neither_some}
use Rattle.rep_types.proofs.Lists.{empty_by_length, all_append, all_filter, all_push}
use Rattle.rep_record.specs.Records.{IsRecord, IsVerdictAt, is_verdict_at, Suits, suits, is_placed}
use Rattle.rep_forms.specs.FormLaws.{length_number}
use Rattle.rep_record.specs.declared.limits.TheConstants.{MAX_BLOCK}
use Rattle.rep_record.specs.Blocks.{Contents, IsBlock, block_bytes, run_bytes}
use Rattle.rep_layout.specs.Places.{log_of}
use Rattle.rep_disk.specs.declared.disk.Disk.{Ghosts}
use Rattle.rep_disk.specs.History.{History}
use Rattle.rep_layout.specs.declared.place.Layout.{Layout}
use Rattle.rep_layout.specs.declared.super_body.SuperBody.{SuperBody}
use Rattle.rep_cells.specs.Readings.{Reading}
use Rattle.rep_log.specs.Standing.{Standing as Log}
use Rattle.rep_log.specs.Tail.{records_of}
use Rattle.rep_steps.specs.Nodes.{Node}
use Rattle.rep_replica.specs.Engines.{Engine}
use Rattle.rep_replica.specs.EngineDonating.{IsTail, TheTailIsTold, IsTailBlock, IsBlockAsSpelled}
use Rattle.rep_replica.specs.Replicas.{Replica}
use Rattle.rep_replica.specs.Holding.{Holds}
use Rattle.rep_replica.specs.Asking.{IsAsked}
use Rattle.rep_transfer.specs.Writing.{Wrote}
use Rattle.rep_transfer.specs.Transfers.{record_part}
use Rattle.rep_catchup.specs.Donating.{IsRunning, IsBadPart, AreAllBlocks, AreBlocksThere, IsBlockThere, IsSomeBlock, KnowsBlocks, WroteFront, Writes, above, as_seen, durable_items, tail_part}
use Rattle.rep_catchup.proofs.DonateReads.{same_of, seen_before}
use Rattle.rep_catchup.proofs.DonateWrites.{all_same, front_all, front_before, front_behind, front_none, front_of_wrote}

-- ---- blocks, one after another

records_push : (blocks : List (List Judged)) (records : List Judged) → records_of (blocks ++ records ∷ []) ≡ records_of blocks ++ records
records_push [] records = append-nil records
records_push (front ∷ blocks) records = ap (λ (js : List Judged). front ++ js) (records_push blocks records) ∙ sym (append_assoc front (records_of blocks) records)

-- the bytes of the records above a position
abbrev pub bytes_above : ℕ → List Judged → List ℕ
bytes_above position records = flat_map record_part (above position records)

pub bytes_join : (position : ℕ) (one two : List Judged) → bytes_above position (one ++ two) ≡ bytes_above position one ++ bytes_above position two
bytes_join position one two = ap (flat_map record_part) (filter-append (λ (j : Judged). nat_lt position j.seqno) one two) ∙ flat_map-append record_part (above position one) (above position two)

-- what can be spelled has a place in a record
placed_verdict : (seqno : ℕ) (v : Verdict) → IsVerdictAt seqno v → is_verdict_at seqno v ≡ true
placed_verdict seqno Commit is = refl
placed_verdict seqno (Conflict m) is = and_from (nat_le 1 m) (nat_lt m seqno) (le-leb 1 m is.0) (lt-ltb m seqno is.1)
placed_verdict seqno Stale is = refl
placed_verdict seqno Future is = refl
placed_verdict seqno BadKey is = refl

placed_item : (item : Item) (v : Verdict) → Suits item v → suits item v ≡ true
placed_item (WriteSet w) v is = refl
placed_item (SetWindow c) v is = rw is refl

pub is_placed_record : (j : Judged) → IsRecord j → is_placed j ≡ true
is_placed_record j is =
    rw (le-leb 1 j.seqno is.positive, le-leb j.seqno MAX_SEQNO is.seqno, placed_verdict j.seqno j.verdict is.verdict, placed_item j.item j.verdict is.suits)

-- ---- of a replica

module _ {D : Type 0} (g : Ghosts D) (n : Node) where
  -- where there is no block, nothing is durable behind the base
  pub no_block_no_item : (r : Replica D) → Holds g n r → IsRunning r → r.engine.log.next - r.engine.log.start ≡ 0 → durable_items n ≡ []
  no_block_no_item r holds runs none =
      let there = holds.engine.runs ((neither_some r.stopped r.engine.halted runs).1) in
      let size : length (take holds.taken n.items) ≡ holds.taken = length-take-le holds.taken n.items holds.within in
      let near : n.facts.durable - n.facts.base ≤ holds.taken = omega (arith, holds.engine.node.enough, size) in
      let empty : length there.blocks ≡ 0 = omega (arith, there.stands.log_is.next, none) in
      sym (sym (ap records_of (empty_by_length there.blocks empty)) ∙ there.stands.durable ∙ take-take (n.facts.durable - n.facts.base) holds.taken n.items near)

  -- the block is one of the replica's at the beginning
  pub block_at_first : (a b : Replica D) (index : ℕ) (records : List Judged) → IsAsked g a b → g.honest a.engine.disk
      → IsTailBlock n b.engine.layout (g.history b.engine.disk) b.engine.checkpoint.base b.engine.log index records → IsTailBlock n a.engine.layout (g.history a.engine.disk) a.engine.checkpoint.base a.engine.log index records
  block_at_first a b index records reads is_honest block =
      let here = subst (λ (r : Replica D). IsTailBlock n r.engine.layout (g.history b.engine.disk) r.engine.checkpoint.base r.engine.log index records) reads.rest block in
      subst (λ (h : History). IsTailBlock n a.engine.layout h a.engine.checkpoint.base a.engine.log index records) (reads.same is_honest) here

-- ---- what a read tells

pub due_here : {T : Type 0} (index left : ℕ) (o : Option T) (x : T) → o ≡ Some x → is_some o ≡ nat_lt index left → index < left
due_here index left o x is told = ltb-true index left (sym told ∙ ap is_some is)

pub past_here : {T : Type 0} (index left : ℕ) (o : Option T) → o ≡ None → is_some o ≡ nat_lt index left → left ≤ index
past_here index left o is told = ltb-false index left (sym told ∙ ap is_some is)

pub bad_block : (r : Reading) (l : Layout) (b : SuperBody) (log : Log) (index : ℕ) (result : Result (Option Contents) Refusal) → (nat_lt index (log.next - log.start) ≡ false → result ≡ Ok None) → IsBlockAsSpelled r l (log.start + index) result InLog → result ≡ Err (Corrupt InLog) → IsBadPart r l b log InLog
bad_block r l b log index result behind spelled is = elim (cases_lt index (log.next - log.start)) [
  | inl due ↦ (log.start + index, omega arith, omega (arith, due), spelled.corrupt is)
  | inr past ↦ absurd (let never : result ≡ Ok None = behind (le-ltb index (log.next - log.start) past) in cc)
]

-- ---- blocks on any device

records_join : (one two : List (List Judged)) → records_of (one ++ two) ≡ records_of one ++ records_of two
records_join [] two = refl
records_join (records ∷ one) two = ap (λ (js : List Judged). records ++ js) (records_join one two) ∙ sym (append_assoc records (records_of one) (records_of two))

tail_join : (position : ℕ) (one two : List (List Judged)) → tail_part position (one ++ two) ≡ tail_part position one ++ tail_part position two
tail_join position one two = ap (bytes_above position) (records_join one two) ∙ bytes_join position (records_of one) (records_of two)

tail_push : (position : ℕ) (blocks : List (List Judged)) (records : List Judged) → tail_part position (blocks ++ records ∷ []) ≡ tail_part position blocks ++ bytes_above position records
tail_push position blocks records = ap (bytes_above position) (records_push blocks records) ∙ bytes_join position (records_of blocks) records

-- a block of one record, by which the window's size is changed
one_record : Judged
one_record = record { seqno = 1; item = SetWindow (record { size = 1; source = 0; trx = 0 }); verdict = Commit }

is_one_record : IsRecord one_record
unfolding one_record
is_one_record = record { positive = omega arith; seqno = omega arith; verdict = tt; suits = refl; item = record { size = refl; source = omega arith; trx = omega arith } }

one_size : length (run_bytes (one_record ∷ [])) ≤ MAX_BLOCK
unfolding one_record
one_size = simp (length-append, length_number) (omega arith)

some_block : IsSomeBlock (one_record ∷ [])
unfolding one_record
some_block = (0, record { cell_fits = omega arith; some = omega arith; few = omega arith; are_records = (is_one_record, tt); follow = (refl, tt); fits = one_size })

-- blocks that go on from these, up to so many
pub blocks_cut : (log : Log) (position : ℕ) (blocks : List (List Judged)) (a b : Option (List ℕ)) → AllByRecursion IsSomeBlock blocks → length blocks ≤ log.next - log.start → WroteFront a b (tail_part position blocks)
    → (all : List (List Judged)) × AreAllBlocks log all × WroteFront a b (tail_part position all)
blocks_cut log position blocks a b are within cut =
    let m = log.next - log.start - length blocks in
    let more = replicate m (one_record ∷ []) in (
      blocks ++ more,
      (
        all_append IsSomeBlock blocks more are (all_same IsSomeBlock (one_record ∷ []) m some_block),
        length-append blocks more ∙ ap (λ (k : ℕ). length blocks + k) (length-replicate m (one_record ∷ [])) ∙ omega (arith, within),
      ),
      subst (WroteFront a b) (sym (tail_join position blocks more)) (front_before a b (tail_part position blocks) (tail_part position more) cut),
    )

-- nothing of them
pub blocks_none : (log : Log) (position : ℕ) (a : Option (List ℕ)) → (all : List (List Judged)) × AreAllBlocks log all × WroteFront a a (tail_part position all)
blocks_none log position a = blocks_cut log position [] a a tt (omega arith) (front_none a [])

some_records : (blocks : List (List Judged)) → AllByRecursion IsSomeBlock blocks → AllByRecursion IsRecord (records_of blocks)
some_records [] are = tt
some_records (records ∷ blocks) are = all_append IsRecord records (records_of blocks) are.0.1.are_records (some_records blocks are.1)

pub records_above : (log : Log) (position : ℕ) (blocks : List (List Judged)) → AreAllBlocks log blocks → AllByRecursion IsRecord (above position (records_of blocks))
records_above log position blocks are = all_filter IsRecord (λ (j : Judged). nat_lt position j.seqno) (records_of blocks) (some_records blocks are.0)

-- ---- as the bytes spell them

there_push : (r : Reading) (l : Layout) (number : ℕ) (blocks : List (List Judged)) (records : List Judged) → AreBlocksThere r l number blocks → IsBlockThere r l (number + length blocks) records → AreBlocksThere r l number (blocks ++ records ∷ [])
there_push r l number [] records are here = let same : number + 0 ≡ number = omega arith in (subst (λ (k : ℕ). IsBlockThere r l k records) same here, tt)
there_push r l number (first ∷ blocks) records are here =
    let same : number + suc (length blocks) ≡ number + 1 + length blocks = omega arith in
    (are.0, there_push r l (number + 1) blocks records are.1 (subst (λ (k : ℕ). IsBlockThere r l k records) same here))

-- ---- of a node

-- The blocks are the first ones of a node's tail.
pub record AreFirstBlocks {D : Type 0} (g : Ghosts D) (n : Node) (e : Engine D) (index : ℕ) (blocks : List (List Judged)) : Type 0 where
  pub all : List (List Judged)
  pub tail : IsTail n e.layout (g.history e.disk) e.checkpoint.base e.log all
  pub front : blocks ≡ take index all

-- So many of the blocks were written.
pub record WroteBlocks {D : Type 0} (g : Ghosts D) (r : Replica D) (position index : ℕ) (old new : Option (List ℕ)) : Type 0 where
  pub blocks : List (List Judged)
  pub count : length blocks ≡ index
  pub within : index ≤ r.engine.log.next - r.engine.log.start
  pub are_blocks : AllByRecursion IsSomeBlock blocks
  pub there : g.honest r.engine.disk → AreBlocksThere (as_seen g r.engine) r.engine.layout r.engine.log.start blocks
  pub of_node : (n : Node) → Holds g n r → 0 < index → AreFirstBlocks g n r.engine index blocks
  pub written : Appends old new (tail_part position blocks)

first_ones : (index : ℕ) (blocks all : List (List Judged)) → length blocks ≡ index → (0 < index → blocks ≡ take index all) → blocks ≡ take index all
first_ones zero blocks all size front = empty_by_length blocks size
first_ones (suc k) blocks all size front = front (omega arith)

module _ {D : Type 0} (g : Ghosts D) (r : Replica D) (position : ℕ) where
  pub wrote_no_blocks : (old : Option (List ℕ)) → WroteBlocks g r position 0 old old
  wrote_no_blocks old = record { blocks = []; count = refl; within = omega arith; are_blocks = tt; there = λ h. tt; of_node = λ n h some. absurd (omega (arith, some)); written = Appends-nil old }

  same_tail : TheTailIsTold → (n : Node) (index : ℕ) (blocks all : List (List Judged)) → IsTail n r.engine.layout (g.history r.engine.disk) r.engine.checkpoint.base r.engine.log all → AreFirstBlocks g n r.engine index blocks → blocks ≡ take index all
  same_tail told n index blocks all tail first = first.front ∙ ap (take index) (told n r.engine.layout (g.history r.engine.disk) r.engine.checkpoint.base r.engine.log first.all all first.tail tail)

  pub wrote_more_blocks : TheTailIsTold → (index : ℕ) (records : List Judged) (old mid new : Option (List ℕ)) → WroteBlocks g r position index old mid → index < r.engine.log.next - r.engine.log.start → IsBlock (r.engine.log.start + index) records
      → (g.honest r.engine.disk → as_seen g r.engine (log_of r.engine.layout (r.engine.log.start + index)) ≡ Some (block_bytes (r.engine.log.start + index) records))
      → ((n : Node) → Holds g n r → IsTailBlock n r.engine.layout (g.history r.engine.disk) r.engine.checkpoint.base r.engine.log index records) → Appends mid new (bytes_above position records) → WroteBlocks g r position (index + 1) old new
  wrote_more_blocks told index records old mid new w due block there node written = record {
    blocks = w.blocks ++ records ∷ [];
    count = length-append w.blocks (records ∷ []) ∙ ap (λ (k : ℕ). k + 1) w.count;
    within = omega (arith, due);
    are_blocks = all_push IsSomeBlock w.blocks records w.are_blocks (r.engine.log.start + index, block);
    there = λ h. there_push (as_seen g r.engine) r.engine.layout r.engine.log.start w.blocks records (w.there h)
        (subst (λ (k : ℕ). IsBlockThere (as_seen g r.engine) r.engine.layout (r.engine.log.start + k) records) (sym w.count) (block, there h));
    of_node = λ n h some.
        let here = node n h in
        let lt : index < length here.blocks = omega (arith, due, here.tail.count) in
        let first = first_ones index w.blocks here.blocks w.count (λ more. same_tail told n index w.blocks here.blocks here.tail (w.of_node n h more)) in
        record {
          all = here.blocks;
          tail = here.tail;
          front = ap (λ (bs : List (List Judged)). bs ++ records ∷ []) first ∙ ap (λ (js : List Judged). take index here.blocks ++ js ∷ []) here.here ∙ sym (take_more here.blocks index [] lt);
        };
    written = subst (Appends old new) (sym (tail_push position w.blocks records)) (Appends-trans old mid new (tail_part position w.blocks) (bytes_above position records) w.written written);
  }

  all_of_node : (n : Node) (index : ℕ) (blocks : List (List Judged)) → length blocks ≡ index → r.engine.log.next - r.engine.log.start ≤ index → (r.engine.log.next - r.engine.log.start ≡ 0 → durable_items n ≡ []) → (0 < index → AreFirstBlocks g n r.engine index blocks) → records_of blocks ≡ durable_items n
  all_of_node n zero blocks size past none first = ap records_of (empty_by_length blocks size) ∙ sym (none (omega (arith, past)))
  all_of_node n (suc k) blocks size past none first =
      let here = first (omega arith) in
      ap records_of (here.front ∙ take_all (suc k) here.all (omega (arith, past, here.tail.count))) ∙ here.tail.items

  -- all were written
  pub wrote_all_blocks : (index : ℕ) (old new : Option (List ℕ)) → IsRunning r → WroteBlocks g r position index old new → r.engine.log.next - r.engine.log.start ≤ index → Writes {T = Unit {0}} (tail_part position) (AreAllBlocks r.engine.log) (λ done. KnowsBlocks g r) old new (Ok tt)
  wrote_all_blocks index old new runs w past = record {
    done = (
      w.blocks,
      (w.are_blocks, omega (arith, w.count, w.within, past)),
      record { there = w.there; of_node = λ n h. all_of_node n index w.blocks w.count past (no_block_no_item g n r h runs) (w.of_node n h) },
      w.written,
    );
    cut = tt;
  }

  -- the device showed no more
  pub blocks_end : (index : ℕ) (old new : Option (List ℕ)) (e : Refusal) → WroteBlocks g r position index old new → Writes {T = Unit {0}} (tail_part position) (AreAllBlocks r.engine.log) (λ done. KnowsBlocks g r) old new (Err e)
  blocks_end index old new e w = record { done = tt; cut = blocks_cut r.engine.log position w.blocks old new w.are_blocks (omega (arith, w.count, w.within)) (front_all old new (tail_part position w.blocks) w.written) }

  -- the writer failed in a block
  pub blocks_end_within : (index : ℕ) (records : List Judged) (old mid new : Option (List ℕ)) (e : Refusal) → WroteBlocks g r position index old mid → index < r.engine.log.next - r.engine.log.start → IsBlock (r.engine.log.start + index) records → Wrote mid new (bytes_above position records) (Err e)
      → Writes {T = Unit {0}} (tail_part position) (AreAllBlocks r.engine.log) (λ done. KnowsBlocks g r) old new (Err e)
  blocks_end_within index records old mid new e w due block wrote = record {
    done = tt;
    cut = blocks_cut r.engine.log position (w.blocks ++ records ∷ []) old new (all_push IsSomeBlock w.blocks records w.are_blocks (r.engine.log.start + index, block))
        (omega (arith, length-append w.blocks (records ∷ []), w.count, due))
        (subst (WroteFront old new) (sym (tail_push position w.blocks records)) (front_behind old mid new (tail_part position w.blocks) (bytes_above position records) w.written (front_of_wrote mid new (bytes_above position records) e wrote)));
  }

-- ---- what is read of a replica, by what it was at the beginning

module _ {D : Type 0} (g : Ghosts D) (a b : Replica D) (reads : IsAsked g a b) (index : ℕ) (o : Option Contents) where
  same_log : b.engine.log ≡ a.engine.log
  same_log = same_of g (λ (r : Replica D). r.engine.log) a b reads refl

  pub past_first : o ≡ None → is_some o ≡ nat_lt index (b.engine.log.next - b.engine.log.start) → a.engine.log.next - a.engine.log.start ≤ index
  past_first is told = subst (λ (log : Log). log.next - log.start ≤ index) same_log (past_here index (b.engine.log.next - b.engine.log.start) o is told)

  module _ (block : Contents) (is : o ≡ Some block) where
    pub due_first : is_some o ≡ nat_lt index (b.engine.log.next - b.engine.log.start) → index < a.engine.log.next - a.engine.log.start
    due_first told = subst (λ (log : Log). index < log.next - log.start) same_log (due_here index (b.engine.log.next - b.engine.log.start) o block is told)

    pub form_first : IfSome o (λ c. (c.cell ≡ b.engine.log.start + index) × IsBlock c.cell c.records) → IsBlock (a.engine.log.start + index) block.records
    form_first form =
        let here : (block.cell ≡ b.engine.log.start + index) × IsBlock block.cell block.records = subst (λ (x : Option Contents). IfSome x (λ c. (c.cell ≡ b.engine.log.start + index) × IsBlock c.cell c.records)) is form in
        subst (λ (k : ℕ). IsBlock k block.records) (here.0 ∙ ap (λ (log : Log). log.start + index) same_log) here.1

    pub there_first : g.honest a.engine.disk → IfSome o (λ c. as_seen g b.engine (log_of b.engine.layout (b.engine.log.start + index)) ≡ Some (block_bytes (b.engine.log.start + index) c.records))
        → as_seen g a.engine (log_of a.engine.layout (a.engine.log.start + index)) ≡ Some (block_bytes (a.engine.log.start + index) block.records)
    there_first is_honest there =
        let here = subst (λ (x : Option Contents). IfSome x (λ c. as_seen g b.engine (log_of b.engine.layout (b.engine.log.start + index)) ≡ Some (block_bytes (b.engine.log.start + index) c.records))) is there in
        seen_before g a b (λ r l s log. r (log_of l (log.start + index)) ≡ Some (block_bytes (log.start + index) block.records)) reads is_honest here
