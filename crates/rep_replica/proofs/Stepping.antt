-- A step of the engine, as a step of the replica.
use Rattle.std.proofs.Common.{◌≡◌, inl, inr, ℕ, ◌+◌, ◌-◌, ◌≤◌, true, false, List, [], ◌++◌, length, take, Option, None, Some, refl, sym, ap, subst, ◌∙◌, arith}
use Rattle.std.specs.Prelude.{◌==◌, ◌↔◌, ◌||◌, nat_le, is_some, if◌then◌else◌, MatchOption}
use Rattle.std.proofs.lemmas.List.{length-take-le, take-take}
use Rattle.rep_types.specs.declared.judged.Judged.{Judged}
use Rattle.rep_types.specs.declared.key.Key.{Key}
use Rattle.rep_types.specs.declared.refusal.Refusal.{Refusal}
use Rattle.rep_types.specs.declared.refusal.Refusal.TheVariants.{Stopped, OutOfMemory, NotDue, LogFull}
use Rattle.rep_disk.specs.declared.disk.Disk.{Ghosts}
use Rattle.rep_disk.specs.Moments.{LeavesOnly}
use Rattle.rep_cert.specs.Holdings.{IsAskable, window_of}
use Rattle.rep_record.specs.Fronts.{fitting}
use Rattle.rep_log.specs.declared.phase.Phase.{Phase}
use Rattle.rep_log.specs.declared.phase.Phase.TheVariants.{Resting, Closing, Filling, Filled, Opening}
use Rattle.rep_steps.specs.declared.event.Event.{Event}
use Rattle.rep_steps.specs.declared.event.Event.TheVariants.{Log, Sync, Check, Flush, Read}
use Rattle.rep_steps.specs.declared.answer.Answer.{Answer}
use Rattle.rep_steps.specs.declared.answer.Answer.TheVariants.{Refused}
use Rattle.rep_steps.specs.Standings.{Standing, gathered, refusal, refusal_here, log_refusal}
use Rattle.rep_steps.specs.Moves.{Moves, opening, takes_memory}
use Rattle.rep_steps.specs.Nodes.{Node, Steps, NodesStayNodes, passed, reached, window_at}
use Rattle.rep_steps.specs.Parts.{with_ahead, part_of, Widens, PartsStepAsTheWhole}
use Rattle.rep_steps.specs.Images.{IsFrontAt}
use Rattle.rep_steps.specs.Judging.{JudgingGoesOn}
use Rattle.rep_steps.specs.FactLaws.{passed_by}
use Rattle.rep_recover.specs.Meanings.{Means}
use Rattle.rep_recover.specs.Engines.{Engine, IsWhole, facts_of as engine_facts, phase_at, durable_of}
use Rattle.rep_recover.specs.Holding.{Holds as EngineHolds}
use Rattle.rep_replica.specs.Replicas.{Replica, facts_of}
use Rattle.rep_replica.specs.Refusing.{RefusesUnchanged}
use Rattle.rep_replica.specs.Spelling.{Spells}
use Rattle.rep_replica.specs.Holding.{Holds, IsStep}
use Rattle.rep_replica.proofs.Refusing.{spells_stopped}
use Rattle.rep_disk.specs.Leaving.{leaves_none}
use Rattle.rep_replica.proofs.Widening.{running_facts, widened, leaves_whole}

-- ---- which refusal it is

by_none : (A : Type 0) (B : Refusal → Type 0) (o : Option Refusal) → o ≡ None → A → MatchOption o A B
by_none A B o none a = subst (λ (o : Option Refusal). MatchOption o A B) (sym none) a

by_some : (A : Type 0) (B : Refusal → Type 0) (o : Option Refusal) (r : Refusal) → o ≡ Some r → B r → MatchOption o A B
by_some A B o r some b = subst (λ (o : Option Refusal). MatchOption o A B) (sym some) b

-- the log's refusal, where the next block takes as much
log_refusal_same : (s : Standing) (ahead : List Judged) → (s.phase ≡ Resting → gathered s ≡ fitting [] ahead) → (phase : Phase) → s.phase ≡ phase → log_refusal (with_ahead ahead s) phase ≡ log_refusal s phase
log_refusal_same s ahead same Resting is = ap (λ k. if k == 0 then Some NotDue else if nat_le (s.start + s.setting.cells) s.next then Some LogFull else None) (sym (same is))
log_refusal_same s ahead same Closing is = refl
log_refusal_same s ahead same (Filling k) is = refl
log_refusal_same s ahead same (Filled k) is = refl
log_refusal_same s ahead same (Opening k) is = refl

pub refusal_same : (s : Standing) (ahead : List Judged) → (s.phase ≡ Resting → gathered s ≡ fitting [] ahead) → refusal (with_ahead ahead s) Log ≡ refusal s Log
refusal_same s ahead same = ap (λ (o : Option Refusal). if s.stopped then Some Stopped else o) (log_refusal_same s ahead same s.phase refl)

-- whose items become durable was gathered
pub opening_within : (phase : Phase) (block : List Judged) → IsWhole phase block → opening phase ≤ length block
opening_within Resting block h = omega arith
opening_within Closing block h = omega arith
opening_within (Filling n) block h = omega arith
opening_within (Filled n) block h = omega arith
opening_within (Opening n) block h = omega (arith, h.all)

-- ---- steps that change nothing

module _ {D : Type 0} (g : Ghosts D) where
  -- an event that is refused
  pub refused_step : (r : Replica D) (e : Event) (refused : Refusal) → refusal (facts_of g r) e ≡ Some refused → Spells g r e (Refused refused) r → IsStep g r e (Refused refused) r
  refused_step r e refused some spelled = record {
    moves = by_some _ _ (refusal (facts_of g r) e) refused some (refl, refl);
    steps = λ n holds. (n, by_some _ _ (refusal n.facts e) refused (ap (λ (s : Standing). refusal s e) holds.facts ∙ some) (refl, refl), holds);
    leaves = λ n holds. leaves_none (g.history r.engine.disk) (g.history r.engine.disk) refl;
    device = (λ h. h, λ h. h);
    unchanged = inl refl;
    spelled = spelled;
  }

  -- one that wanted memory
  pub hungry_step : (r : Replica D) (e : Event) → refusal (facts_of g r) e ≡ None → takes_memory (facts_of g r) e ≡ true → Spells g r e (Refused OutOfMemory) r → IsStep g r e (Refused OutOfMemory) r
  hungry_step r e none takes spelled = record {
    moves = by_none _ _ (refusal (facts_of g r) e) none (inr (inl (inl (takes, refl, refl))));
    steps = λ n holds.
        let nothing : refusal n.facts e ≡ None = ap (λ (s : Standing). refusal s e) holds.facts ∙ none in
        let may : takes_memory n.facts e ≡ true = ap (λ (s : Standing). takes_memory s e) holds.facts ∙ takes in
        (n, by_none _ _ (refusal n.facts e) nothing (inr (inl (may, refl, refl), refl)), holds);
    leaves = λ n holds. leaves_none (g.history r.engine.disk) (g.history r.engine.disk) refl;
    device = (λ h. h, λ h. h);
    unchanged = inl refl;
    spelled = spelled;
  }

  -- where it is stopped, every event is refused
  pub stopped_step : (r : Replica D) (e : Event) → (r.stopped || is_some r.engine.halted) ≡ true → IsStep g r e (Refused Stopped) r
  stopped_step r e stopped = refused_step r e Stopped (ap (λ b. if b then Some Stopped else refusal_here (facts_of g r) e) stopped) (spells_stopped g r e)

  -- ---- steps of the engine

  -- A step, but for what it leaves where it is refused, and for what the bytes say.
  pub record IsMoved (old : Replica D) (e : Event) (a : Answer) (new : Replica D) : Type 0 where
    pub moves : Moves (facts_of g old) e a (facts_of g new)
    pub steps : (n : Node) → Holds g n old → (m : Node) × Steps n e a m × Holds g m new
    pub leaves : (n : Node) → Holds g n old → LeavesOnly (g.history old.engine.disk) (g.history new.engine.disk) (IsFrontAt Means n)

  pub as_step : (old : Replica D) (e : Event) (a : Answer) (new : Replica D) → IsMoved old e a new → (g.honest old.engine.disk ↔ g.honest new.engine.disk) → RefusesUnchanged e a old new → Spells g old e a new → IsStep g old e a new
  as_step old e a new m device unchanged spelled = record { moves = m.moves; steps = m.steps; leaves = m.leaves; device = device; unchanged = unchanged; spelled = spelled }

  -- What the engine's call is: its facts move, and it makes a step of its node.
  pub record EngineSteps (e : Event) (a : Answer) (old new : Engine D) : Type 0 where
    pub moves : Moves (engine_facts g old) e a (engine_facts g new)
    pub steps : (n : Node) → EngineHolds g n old → (m : Node) × Steps n e a m × EngineHolds g m new
    pub leaves : (n : Node) → EngineHolds g n old → LeavesOnly (g.history old.disk) (g.history new.disk) (IsFrontAt Means n)

  module _ (stay : NodesStayNodes) (goes : JudgingGoesOn) (old new : Replica D) (e : Event) (a : Answer) (params : new.engine.checkpoint.base.params ≡ old.engine.checkpoint.base.params) (backlog : new.backlog ≡ old.backlog) (certifier : new.certifier ≡ old.certifier) (stopped : new.stopped ≡ old.stopped) where
    pub widened_step : Moves (facts_of g old) e a (facts_of g new)
        → ((n : Node) (holds : Holds g n old) → (m : Node) × Steps (part_of old.engine.block holds.taken n) e a m × EngineHolds g m new.engine)
        → ((n : Node) → EngineHolds g n old.engine → LeavesOnly (g.history old.engine.disk) (g.history new.engine.disk) (IsFrontAt Means n))
        → ((n part : Node) (holds : Holds g n old) → Steps (part_of old.engine.block holds.taken n) e a part → Widens n part e a holds.taken)
        → IsMoved old e a new
    widened_step moves steps leaves lift = record {
      moves = moves;
      steps = λ n holds. let to = steps n holds in widened g stay goes old new n holds e a to.0 (lift n to.0 holds to.1) to.2 params backlog certifier stopped;
      leaves = λ n holds. leaves_whole n old.engine.block holds.taken (g.history old.engine.disk) (g.history new.engine.disk) (leaves (part_of old.engine.block holds.taken n) holds.engine);
    }

    -- ---- the facts on both sides

    module _ (running : old.stopped ≡ false) where
      lift_facts : Moves (with_ahead (old.engine.block ++ old.backlog) (engine_facts g old.engine)) e a (with_ahead (new.engine.block ++ new.backlog) (engine_facts g new.engine)) → Moves (facts_of g old) e a (facts_of g new)
      lift_facts m =
          subst (λ (s : Standing). Moves s e a (facts_of g new)) (sym (running_facts g old running))
          (subst (Moves (with_ahead (old.engine.block ++ old.backlog) (engine_facts g old.engine)) e a) (sym (running_facts g new (stopped ∙ running))) m)

      -- where the engine keeps its items
      kept_facts : new.engine.block ≡ old.engine.block
          → Moves (with_ahead (old.engine.block ++ old.backlog) (engine_facts g old.engine)) e a (with_ahead (old.engine.block ++ old.backlog) (engine_facts g new.engine)) → Moves (facts_of g old) e a (facts_of g new)
      kept_facts block m =
          let ahead = old.engine.block ++ old.backlog in
          let same : new.engine.block ++ new.backlog ≡ ahead = ap (λ (xs : List Judged). xs ++ new.backlog) block ∙ ap (λ (ys : List Judged). old.engine.block ++ ys) backlog in
          lift_facts (subst (λ (xs : List Judged). Moves (with_ahead ahead (engine_facts g old.engine)) e a (with_ahead xs (engine_facts g new.engine))) (sym same) m)

  -- ---- each event

  module _ (stay : NodesStayNodes) (goes : JudgingGoesOn) (parts : PartsStepAsTheWhole) (old new : Replica D) (a : Answer) (params : new.engine.checkpoint.base.params ≡ old.engine.checkpoint.base.params) (backlog : new.backlog ≡ old.backlog) (certifier : new.certifier ≡ old.certifier) (stopped : new.stopped ≡ old.stopped)
      (running : old.stopped ≡ false) where
    -- what is durable was taken
    near : (n : Node) (holds : Holds g n old) → n.facts.durable - n.facts.base ≤ holds.taken
    near n holds = let size : length (take holds.taken n.items) ≡ holds.taken = length-take-le holds.taken n.items holds.within in omega (arith, holds.engine.node.enough, size)

    -- the log, where the next block would take no more
    pub log_step : new.engine.block ≡ old.engine.block → EngineSteps Log a old.engine new.engine
        → (phase_at old.engine.log.phase old.engine.halted ≡ Resting → fitting [] old.engine.block ≡ fitting [] (old.engine.block ++ old.backlog))
        → IsMoved old Log a new
    log_step block engine full =
        widened_step stay goes old new Log a params backlog certifier stopped
        (kept_facts stay goes old new Log a params backlog certifier stopped running block (parts.log_moves (engine_facts g old.engine) (engine_facts g new.engine) a (old.engine.block ++ old.backlog) full engine.moves))
        (λ n holds. engine.steps (part_of old.engine.block holds.taken n) holds.engine) engine.leaves
        (λ n part holds steps. parts.log n part old.engine.block holds.taken a
        (λ rests. full (sym (ap (λ (s : Standing). s.phase) holds.facts) ∙ rests) ∙ sym (ap gathered holds.facts)) steps)

    -- a sync, where what becomes durable was taken
    pub sync_step : (told : opening (phase_at old.engine.log.phase old.engine.halted) ≤ length old.engine.block)
        → EngineSteps Sync a old.engine new.engine → IsMoved old Sync a new
    sync_step told engine =
        let moves : Moves (with_ahead (old.engine.block ++ old.backlog) (engine_facts g old.engine)) Sync a (with_ahead (new.engine.block ++ old.backlog) (engine_facts g new.engine)) =
        parts.sync_moves (engine_facts g old.engine) (engine_facts g new.engine) a old.backlog told engine.moves in
        widened_step stay goes old new Sync a params backlog certifier stopped
        (lift_facts stay goes old new Sync a params backlog certifier stopped running
        (subst (λ (xs : List Judged). Moves (with_ahead (old.engine.block ++ old.backlog) (engine_facts g old.engine)) Sync a (with_ahead (new.engine.block ++ xs) (engine_facts g new.engine))) (sym backlog) moves))
        (λ n holds. engine.steps (part_of old.engine.block holds.taken n) holds.engine) engine.leaves
        (λ n part holds steps. parts.sync n part old.engine.block old.backlog holds.taken a (ap (λ (s : Standing). s.ahead) holds.facts) (within n holds)
        (subst (λ phase. opening phase ≤ length old.engine.block) (sym (ap (λ (s : Standing). s.phase) holds.facts)) told) steps)
      where
        within : (n : Node) (holds : Holds g n old) → passed n.facts ≤ holds.taken
        within n holds =
            let few = passed_by n.facts.base n.facts.durable n.facts.start n.facts.next n.facts.stage holds.node.facts.goal holds.node.facts.based in
            let size : length (take holds.taken n.items) ≡ holds.taken = length-take-le holds.taken n.items holds.within in
            omega (arith, few, holds.engine.node.enough, size)

    -- a step of the checkpoint, whose window is the certifier's
    pub check_step : new.engine.block ≡ old.engine.block → Moves (engine_facts g old.engine) Check a (engine_facts g new.engine)
        → ((n : Node) → EngineHolds g n old.engine → window_of old.certifier.current (durable_of old.engine.log) ≡ window_at n n.facts.durable → (m : Node) × Steps n Check a m × EngineHolds g m new.engine)
        → ((n : Node) → EngineHolds g n old.engine → LeavesOnly (g.history old.engine.disk) (g.history new.engine.disk) (IsFrontAt Means n))
        → IsAskable old.certifier.current (durable_of old.engine.log) → IsMoved old Check a new
    check_step block moves steps leaves askable =
        widened_step stay goes old new Check a params backlog certifier stopped
        (kept_facts stay goes old new Check a params backlog certifier stopped running block (parts.check_moves (engine_facts g old.engine) (engine_facts g new.engine) a (old.engine.block ++ old.backlog) moves))
        (λ n holds. steps (part_of old.engine.block holds.taken n) holds.engine (window_there n holds)) leaves
        (λ n part holds step. parts.check n part old.engine.block holds.taken a (near n holds) step)
      where
        window_there : (n : Node) (holds : Holds g n old) → window_of old.certifier.current (durable_of old.engine.log) ≡ window_at (part_of old.engine.block holds.taken n) n.facts.durable
        window_there n holds =
            let durable : n.facts.durable ≡ durable_of old.engine.log = ap (λ (s : Standing). s.durable) holds.facts in
            let behind = durable_of old.engine.log - n.base.position in
            let few : behind ≤ holds.taken = omega (arith, near n holds, durable, holds.node.position) in
            holds.windows (durable_of old.engine.log) (omega (arith, durable, holds.node.position, holds.node.facts.based)) askable
            ∙ ap (λ (xs : List Judged). (reached n.facts.setting n.base xs).kept) (sym (take-take behind holds.taken n.items few)) ∙ ap (window_at (part_of old.engine.block holds.taken n)) (sym durable)

    -- a page
    pub flush_step : (page : ℕ) → new.engine.block ≡ old.engine.block → EngineSteps (Flush page) a old.engine new.engine → IsMoved old (Flush page) a new
    flush_step page block engine =
        widened_step stay goes old new (Flush page) a params backlog certifier stopped
        (kept_facts stay goes old new (Flush page) a params backlog certifier stopped running block (parts.flush_moves (engine_facts g old.engine) (engine_facts g new.engine) page a (old.engine.block ++ old.backlog) engine.moves))
        (λ n holds. engine.steps (part_of old.engine.block holds.taken n) holds.engine) engine.leaves
        (λ n part holds steps. parts.flush n part old.engine.block holds.taken page a steps)

    -- a read
    pub read_step : (key : Key) (at : ℕ) → new.engine.block ≡ old.engine.block → EngineSteps (Read key at) a old.engine new.engine → IsMoved old (Read key at) a new
    read_step key at block engine =
        widened_step stay goes old new (Read key at) a params backlog certifier stopped
        (kept_facts stay goes old new (Read key at) a params backlog certifier stopped running block (parts.read_moves (engine_facts g old.engine) (engine_facts g new.engine) key at a (old.engine.block ++ old.backlog) engine.moves))
        (λ n holds. engine.steps (part_of old.engine.block holds.taken n) holds.engine) engine.leaves
        (λ n part holds steps. parts.read n part old.engine.block holds.taken key at a holds.node.position (near n holds) steps)

  -- ---- where items were accepted before

  pub step_from : (old mid new : Replica D) (e : Event) (a : Answer) → facts_of g mid ≡ facts_of g old → ((n : Node) → Holds g n old → Holds g n mid) → mid.engine.disk ≡ old.engine.disk
      → IsMoved mid e a new → IsMoved old e a new
  step_from old mid new e a facts still disk step = record {
    moves = subst (λ (s : Standing). Moves s e a (facts_of g new)) facts step.moves;
    steps = λ n holds. step.steps n (still n holds);
    leaves = λ n holds. subst (λ d. LeavesOnly (g.history d) (g.history new.engine.disk) (IsFrontAt Means n)) disk (step.leaves n (still n holds));
  }
