-- What a donor reads of its engine, as what it reads of the replica.
use Rattle.std.proofs.Common.{◌≡◌, ◌≢◌, ℕ, ◌-◌, ◌≤◌, Bool, true, false, List, ◌++◌, length, take, Option, None, Some, Result, Ok, Err, sym, ap, subst, ◌∙◌, arith, IfOk}
use Rattle.std.specs.Prelude.{◌||◌, is_some, IfSome}
use Rattle.std.proofs.lemmas.List.{length-take-le, take-take}
use Rattle.rep_types.specs.declared.judged.Judged.{Judged}
use Rattle.rep_types.specs.declared.refusal.Refusal.{Refusal}
use Rattle.rep_types.specs.declared.refusal.Refusal.TheVariants.{Stopped, DiskFault}
use Rattle.rep_types.specs.declared.refusal.Part.{Part}
use Rattle.rep_types.specs.Order.{State}
use Rattle.rep_types.proofs.Choices.{neither_some}
use Rattle.rep_record.specs.Blocks.{Contents}
use Rattle.rep_disk.specs.declared.disk.Disk.{Ghosts}
use Rattle.rep_disk.specs.History.{History}
use Rattle.rep_layout.specs.declared.place.Layout.{Layout}
use Rattle.rep_layout.specs.declared.super_body.SuperBody.{SuperBody}
use Rattle.rep_cells.specs.Readings.{Reading}
use Rattle.rep_log.specs.Standing.{Standing as Log}
use Rattle.rep_steps.specs.Standings.{Standing}
use Rattle.rep_steps.specs.Nodes.{Node}
use Rattle.rep_steps.specs.Parts.{with_ahead, part_of}
use Rattle.rep_recover.specs.Engines.{Engine, facts_of as engine_facts}
use Rattle.rep_recover.specs.Holding.{Holds as EngineHolds}
use Rattle.rep_recover.specs.Donating.{Asks as EngineAsks, IsTailBlock, IsBlockAsSpelled, IsWindowAsSpelled, IsBasePageAsSpelled}
use Rattle.rep_replica.specs.Replicas.{Replica, facts_of}
use Rattle.rep_replica.specs.Holding.{Holds}
use Rattle.rep_replica.specs.Donating.{Asks}
use Rattle.rep_replica.proofs.Widening.{running_facts}

-- ---- whether it is stopped

never_stopped : {T : Type 0} (inside : Bool) (halted : Option T) → inside ≡ false → halted ≡ None → (inside || is_some halted) ≡ true → ⊥
never_stopped true halted runs none on = let never : true ≡ false = runs in cc
never_stopped false None runs none on = let never : false ≡ true = on in cc
never_stopped false (Some x) runs none on = cc

-- ---- the device was asked

module _ {D T : Type 0} (g : Ghosts D) (part : Part) (within old : Replica D) (is : within ≡ old) (off : (old.stopped || is_some old.engine.halted) ≡ false) (engine : Engine D) (result : Result T Refusal)
    (asked : EngineAsks g part within.engine engine result) where
  off_within : (within.stopped || is_some within.engine.halted) ≡ false
  off_within = ap (λ (r : Replica D). r.stopped || is_some r.engine.halted) is ∙ off

  -- Of the replica nothing else changes.
  pub asks : Asks g part old (record within { engine = engine }) result
  asks = subst (λ (r : Replica D). Asks g part r (record within { engine = engine }) result) is (record {
    call = asked.call;
    same = asked.same;
    rest = ap (λ (e : Engine D). record within { engine = e }) asked.rest;
    stopped = λ on. absurd (let never : false ≡ true = sym off_within ∙ on in cc);
    running = λ _. asked.running ((neither_some within.stopped within.engine.halted off_within).1);
  })

  block_same : engine.block ≡ within.engine.block
  block_same = ap (λ (e : Engine D). e.block) asked.rest

  module _ (n : Node) (still : (m : Node) → EngineHolds g m within.engine → result ≢ Err DiskFault → EngineHolds g m engine) (holds : Holds g n old) (other : result ≢ Err DiskFault) where
    before : Holds g n within
    before = subst (Holds g n) (sym is) holds

    after : EngineHolds g (part_of within.engine.block before.taken n) engine
    after = still (part_of within.engine.block before.taken n) before.engine other

    facts_same : n.facts ≡ facts_of g (record within { engine = engine })
    facts_same =
        ap (λ (xs : List Judged). with_ahead xs n.facts) (ap (λ (s : Standing). s.ahead) before.facts) ∙ ap (with_ahead (within.engine.block ++ within.backlog)) after.facts
        ∙ ap (λ (xs : List Judged). with_ahead (xs ++ within.backlog) (engine_facts g engine)) (sym block_same) ∙ sym (running_facts g (record within { engine = engine }) before.running)

    -- It goes on to stand for the node.
    pub holds_on : Holds g n (record within { engine = engine })
    holds_on = record {
      running = before.running;
      facts = facts_same;
      node = before.node;
      judged = before.judged;
      taken = before.taken;
      within = before.within;
      engine = subst (λ (xs : List Judged). EngineHolds g (part_of xs before.taken n) engine) (sym block_same) after;
      waiting = before.waiting;
      windows = before.windows;
    }

-- ---- what is given

-- What is durable was taken: so the blocks of the part are those of the node.
tail_of_all : (n : Node) (block : List Judged) (q : ℕ) (l : Layout) (h : History) (base : SuperBody) (log : Log) (index : ℕ) (records : List Judged) → n.facts.durable - n.facts.base ≤ q
    → IsTailBlock (part_of block q n) l h base log index records → IsTailBlock n l h base log index records
tail_of_all n block q l h base log index records near is = record {
  blocks = is.blocks;
  tail = record { items = is.tail.items ∙ take-take (n.facts.durable - n.facts.base) q n.items near; count = is.tail.count; stand = is.tail.stand };
  here = is.here;
}

found_as : {T : Type 0} {P Q : T → Type 0} (result : Result (Option T) Refusal) → ((x : T) → P x → Q x) → IfOk result (λ found. IfSome found P) → IfOk result (λ found. IfSome found Q)
found_as (Ok (Some x)) more is = more x is
found_as (Ok None) more is = tt
found_as (Err e) more is = tt

module _ {D : Type 0} (g : Ghosts D) (within old : Replica D) (is : within ≡ old) (n : Node) (holds : Holds g n old) where
  here : Holds g n within
  here = subst (Holds g n) (sym is) holds

  near : n.facts.durable - n.facts.base ≤ here.taken
  near = let size : length (take here.taken n.items) ≡ here.taken = length-take-le here.taken n.items here.within in omega (arith, here.engine.node.enough, size)

  -- The block is the node's.
  pub block_of_all : (index : ℕ) (result : Result (Option Contents) Refusal)
      → ((m : Node) → EngineHolds g m within.engine → IfOk result (λ found. IfSome found (λ b. IsTailBlock m within.engine.layout (g.history within.engine.disk) within.engine.checkpoint.base within.engine.log index b.records)))
      → IfOk result (λ found. IfSome found (λ b. IsTailBlock n old.engine.layout (g.history old.engine.disk) old.engine.checkpoint.base old.engine.log index b.records))
  block_of_all index result gives = subst (λ (r : Replica D). IfOk result (λ found. IfSome found (λ b. IsTailBlock n r.engine.layout (g.history r.engine.disk) r.engine.checkpoint.base r.engine.log index b.records))) is
      (found_as result (λ b. tail_of_all n within.engine.block here.taken within.engine.layout (g.history within.engine.disk) within.engine.checkpoint.base within.engine.log index b.records near) (gives (part_of within.engine.block here.taken n) here.engine))

  -- Node and part have one base.
  pub base_of_all : (P : State → Type 0) → ((m : Node) → EngineHolds g m within.engine → P m.base) → P n.base
  base_of_all P gives = gives (part_of within.engine.block here.taken n) here.engine

-- ---- where it is stopped

pub no_block : (r : Reading) (l : Layout) (number : ℕ) (part : Part) → IsBlockAsSpelled r l number (Err Stopped) part
no_block r l number part = record { block = tt; corrupt = λ is records block stands. absurd cc }

pub no_window : (r : Reading) (b : SuperBody) (part : Part) → IsWindowAsSpelled r b (Err Stopped) part
no_window r b part = record { given = tt; corrupt = λ is entries window stands. absurd cc }

pub no_page : (r : Reading) (b : SuperBody) (number : ℕ) (part : Part) → IsBasePageAsSpelled r b number (Err Stopped) part
no_page r b number part = record { given = tt; corrupt = λ is. absurd cc }

pub holds_running : {D : Type 0} (g : Ghosts D) (r : Replica D) (n : Node) → Holds g n r → r.engine.halted ≡ None → (r.stopped || is_some r.engine.halted) ≡ true → ⊥
holds_running g r n holds none on = never_stopped r.stopped r.engine.halted holds.running none on
