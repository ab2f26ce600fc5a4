-- The steps of a checkpoint, of an engine that stands for a node.
use Rattle.std.proofs.Common.{◌≡◌, ◌≢◌, ◌⊎◌, inl, inr, IfSome, ℕ, ◌+◌, ◌-◌, ◌<◌, true, false, List, [], ◌∷◌, length, take, Option, None, Some, Result, Ok, Err, refl, sym, ap, subst, ◌∙◌, arith}
use Rattle.std.specs.Prelude.{is_some, nat_le, if◌then◌else◌, not, IfErr}
use Rattle.std.specs.Result.{result_and}
use Rattle.std.proofs.lemmas.Bool.Decides.{nat_tests}
use Rattle.std.proofs.lemmas.List.{take_all, length-take-le}
use Rattle.rep_types.specs.declared.judged.Judged.{Judged}
use Rattle.rep_types.specs.declared.refusal.Refusal.{Refusal}
use Rattle.rep_types.specs.declared.refusal.Refusal.TheVariants.{OutOfMemory, DiskFault, NotDue, Stopped}
use Rattle.rep_types.specs.declared.verdict.Verdict.TheVariants.{Commit}
use Rattle.rep_types.specs.Windows.{Window as WindowOf}
use Rattle.rep_types.specs.Settings.{Setting, IsRow}
use Rattle.rep_types.specs.Order.{State}
use Rattle.rep_disk.specs.declared.disk.Disk.{Ghosts}
use Rattle.rep_disk.specs.History.{stable, IsImage}
use Rattle.rep_disk.specs.Calls.{Rises}
use Rattle.rep_disk.specs.Moments.{LeavesOnly}
use Rattle.rep_disk.specs.Leaving.{leaves_none, leaves_weaker}
use Rattle.rep_disk.specs.Devices.{Calls}
use Rattle.rep_layout.specs.declared.place.Layout.{Layout}
use Rattle.rep_layout.specs.Places.{layout_of}
use Rattle.rep_cert.specs.Holdings.{Holding, window_of}
use Rattle.rep_cells.specs.Known.{Assigns}
use Rattle.rep_log.specs.declared.phase.Phase.{Phase}
use Rattle.rep_log.specs.Standing.{Standing as Log}
use Rattle.rep_log.specs.Tail.{records_of}
use Rattle.rep_log.specs.Moves.{fault_of}
use Rattle.rep_steps.specs.declared.event.Event.TheVariants.{Check}
use Rattle.rep_steps.specs.declared.answer.Answer.{Answer}
use Rattle.rep_steps.specs.declared.answer.Answer.TheVariants.{Began, Wrote, Refused}
use Rattle.rep_steps.specs.Standings.{Standing, Stage as StageOf, Off as is_off, HasGoal, check_refusal, refusal_here}
use Rattle.rep_steps.specs.Moves.{Found, Moves, after, check_answer, checked as checked_at, is_off as is_none_under_way, touched}
use Rattle.rep_steps.specs.Nodes.{Node, Steps, NodesStayNodes, found, moved, reached, window_at}
use Rattle.rep_steps.specs.Images.{IsFrontAt}
use Rattle.rep_steps.specs.Judging.{JudgingGoesOn}
use Rattle.rep_checkpoint.specs.Meanings.{Means}
use Rattle.rep_versions.specs.Versions.{ArePages}
use Rattle.rep_checkpoint.specs.declared.stage.Part.{Part}
use Rattle.rep_checkpoint.specs.declared.stage.Part.TheVariants.{Flushing, Saving, Ready, SuperFilling, SuperFilled, SuperOpening}
use Rattle.rep_checkpoint.specs.declared.stage.Step.{Step}
use Rattle.rep_checkpoint.specs.declared.stage.Step.TheVariants.{Begin, Next as GoOn, Flush, Sync as AwaitsSync}
use Rattle.rep_checkpoint.specs.declared.stage.Stage.{Stage}
use Rattle.rep_checkpoint.specs.declared.stage.Stage.TheVariants.{Off, Toward, Retiring}
use Rattle.rep_checkpoint.specs.Next.{Next}
use Rattle.rep_checkpoint.specs.Standing.{Standing as Checkpoint, stage_in, stage_of, due_in, flush_due, IsCheckpoint}
use Rattle.rep_checkpoint.specs.Moves.{begun, next_of, gone_in, gone_on, is_layout, unless_other, next_refusal, next_refusal_at}
use Rattle.rep_checkpoint.specs.Calls.{Begins as BeginsAt, IsRefused, GoesOn, AreAt, AreBehind, Steps as CheckpointSteps}
use Rattle.rep_checkpoint.specs.Laws.{TheStageIsTheFacts, TheCheckpointIsApart}
use Rattle.rep_checkpoint.specs.Nodes.{IsLedTo, StandsAs, LeadsTo, VersionsLeadToTheState, NodesLeaveTheirFronts}
use Rattle.rep_engine.specs.Engines.{Engine, IsEngine, HasItemsBehind, facts_of, durable_of, Halts}
use Rattle.rep_engine.specs.Holding.{Stands, Holds, wrote}
use Rattle.rep_engine.specs.Reading.{halted_by}
use Rattle.rep_engine.specs.Checking.{Begins, HasBegun, WentOn, checked}
use Rattle.rep_engine.proofs.Steps.{done_moves, fault_moves, refused_moves, stopped_moves, hungry_moves, stopped_steps, refused_steps, hungry_steps, done_steps, fault_steps, halted_node}
use Rattle.rep_engine.proofs.Asking.{none_asked}
use Rattle.rep_engine.proofs.Refusing.{stays_stopped}
use Rattle.rep_engine.proofs.Going.{with_stage, stage_or_same}
use Rattle.rep_engine.proofs.Logs.{rises_by}
use Rattle.rep_engine.proofs.Standing.{places, long, same_front, fronts_of, stands_at_stage}

-- the next base of a stage
abbrev pub next_in : Next → Stage → Next
next_in none Off = none
next_in none (Toward next part) = next
next_in none (Retiring written) = none

-- ---- a checkpoint begins

-- what is so of an engine stays so
engine_begun : (l : Layout) (c : Checkpoint) (log : Log) (kept : _) (block : List Judged) (position : ℕ) (v : WindowOf) (left : List ℕ) → IsEngine l c log kept block → IsCheckpoint (begun c position log.next v left) → position ≡ durable_of log → c.base.position < position
    → IsEngine l (begun c position log.next v left) log kept block
engine_begun l c log kept block position v left h is at later =
    with_stage l c log kept block h (Toward (next_of c.base position log.next v left) Flushing) is (record { above = later; within = omega (arith, at); started = h.begun; begun = omega arith }) (omega (arith, at, h.behind))

-- whatever it comes to
pub engine_tried : (h : Holding) (l : Layout) (c d : Checkpoint) (log : Log) (kept : _) (block : List Judged) (result : Result (Option ℕ) Refusal) → IsEngine l c log kept block → IsCheckpoint d → Begins h log kept c d result → IsEngine l d log kept block
engine_tried h l c d log kept block (Ok answer) is there b =
    subst (λ (k : Checkpoint). IsEngine l k log kept block) (sym b.begun.checkpoint) (engine_begun l c log kept block (durable_of log) (window_of h (durable_of log)) b.begun.left is (subst IsCheckpoint b.begun.checkpoint there) refl b.begun.later)
engine_tried h l c d log kept block (Err e) is there b = subst (λ (k : Checkpoint). IsEngine l k log kept block) (sym b.refused.0) is

pub base_tried : (h : Holding) (c d : Checkpoint) (log : Log) (kept : _) (result : Result (Option ℕ) Refusal) → Begins h log kept c d result → d.base ≡ c.base
base_tried h c d log kept (Ok answer) b = ap (λ (k : Checkpoint). k.base) b.begun.checkpoint
base_tried h c d log kept (Err e) b = ap (λ (k : Checkpoint). k.base) b.refused.0

-- and what began, where the caller has the position, the start and the window
pub begun_so : (h : Holding) (log : Log) (kept : _) (c d : Checkpoint) (position start : ℕ) (v : WindowOf) → position ≡ durable_of log → start ≡ log.next → v ≡ window_of h position → c.base.position < position
    → (left : List ℕ) × ArePages kept c.base.params.rows c.base.position position left × (d ≡ begun c position start v left) × BeginsAt kept c d (next_of c.base position start v left) → HasBegun h log kept c d (Some position)
begun_so h log kept c d position start v at on same later done =
    let left : List ℕ = done.0 in
    let there : v ≡ window_of h (durable_of log) = same ∙ ap (window_of h) at in
    record {
      says = ap Some at;
      later = omega (arith, later, at);
      left = left;
      pages = subst (λ i. ArePages kept c.base.params.rows c.base.position i left) at done.1;
      checkpoint = done.2 ∙ ap (λ i. begun c i start v left) at ∙ ap (λ i. begun c (durable_of log) i v left) on ∙ ap (λ (u : WindowOf). begun c (durable_of log) log.next u left) there;
      begins = subst (λ (u : WindowOf). BeginsAt kept c d (next_of c.base (durable_of log) log.next u left)) there
          (subst (λ i. BeginsAt kept c d (next_of c.base (durable_of log) i v left)) on (subst (λ i. BeginsAt kept c d (next_of c.base i start v left)) at done.3));
    }

module _ {D : Type 0} (g : Ghosts D) (old : Engine D) (v : WindowOf) (left : List ℕ) (runs : old.halted ≡ None) (off : old.checkpoint.stage ≡ Off) (later : old.checkpoint.base.position < durable_of old.log) where
  abbrev next : Next
  next = next_of old.checkpoint.base (durable_of old.log) old.log.next v left

  abbrev d : Checkpoint
  d = begun old.checkpoint (durable_of old.log) old.log.next v left

  abbrev new : Engine D
  new = record old { checkpoint = d }

  abbrev s : Standing
  s = facts_of g old

  at_rest : s.stage ≡ is_off
  at_rest = ap stage_in off

  not_refused : refusal_here s Check ≡ None
  not_refused =
      let above : nat_le (durable_of old.log) old.checkpoint.base.position ≡ false = grind (arith, nat_tests, later) in
      ap (check_refusal s) at_rest ∙ ap (λ t. if t then Some NotDue else None) above

  facts_begun : (f : Found) → f.left ≡ left → facts_of g new ≡ after s Check f
  facts_begun f same = ap (λ (ls : List ℕ). record s { stage = checked_at s ls is_off }) (sym same) ∙ ap (λ (stage : StageOf). record s { stage = checked_at s f.left stage }) (sym at_rest)

  -- on any device
  begun_moves : Moves s Check (Began (durable_of old.log)) (facts_of g new)
  begun_moves =
      let f : Found = record { verdict = Commit; stale = false; left = left; row = None } in
      subst (λ (a : Answer). Moves s Check a (facts_of g new)) (ap (check_answer s) at_rest) (done_moves s Check f (facts_of g new) (ap is_some runs) not_refused (facts_begun f refl))

  -- at a node
  module _ (nodes : NodesStayNodes) (lead : VersionsLeadToTheState) (goes : JudgingGoesOn) (n : Node) (holds : Holds g n old) (window : v ≡ window_at n n.facts.durable)
      (pages : ArePages old.kept old.checkpoint.base.params.rows old.checkpoint.base.position (durable_of old.log) left) (begins : BeginsAt old.kept old.checkpoint d next) where
    there : Stands g n old
    there = holds.runs runs

    abbrev past : ℕ
    past = n.facts.durable - n.facts.base

    at : n.base.position + past ≡ durable_of old.log
    at = omega (arith, holds.node.position, holds.node.facts.based, ap (λ (t : Standing). t.durable) holds.facts)

    at_base : n.base.position ≡ old.checkpoint.base.position
    at_base = there.stands.checkpoint.base.position

    leads : LeadsTo n old.kept past
    leads = lead n old.kept past there.stands.judged (λ key out. there.stands.checkpoint.base.content.outside key (λ inside. out (subst (λ (p : Setting). IsRow p.rows key) (sym there.stands.setting) inside))) there.versions

    left_is : left ≡ touched n.facts.setting.rows (take past n.items)
    left_is =
        leads.pages left
        (subst (λ i. ArePages old.kept n.facts.setting.rows n.base.position i left) (sym at)
        (subst (λ i. ArePages old.kept n.facts.setting.rows i (durable_of old.log) left) (sym at_base)
        (subst (λ (p : Setting). ArePages old.kept p.rows old.checkpoint.base.position (durable_of old.log) left) (sym there.stands.setting) pages)))

    runs_on : n.facts.stopped ≡ false
    runs_on = ap (λ (t : Standing). t.stopped) holds.facts ∙ ap is_some runs

    stage_is : n.facts.stage ≡ is_off
    stage_is = ap (λ (t : Standing). t.stage) holds.facts ∙ at_rest

    steps : Steps n Check (Began (durable_of old.log)) (moved n Check)
    steps =
        let none : refusal_here n.facts Check ≡ None = ap (λ (t : Standing). refusal_here t Check) holds.facts ∙ not_refused in
        subst (λ (a : Answer). Steps n Check a (moved n Check)) (ap (check_answer n.facts) stage_is ∙ ap (λ (t : Standing). Began t.durable) holds.facts) (done_steps n Check runs_on none)

    -- the state that it makes the base
    abbrev goal : State
    goal = reached n.facts.setting n.base (take past n.items)

    led : IsLedTo n old.log there.blocks next.super goal
    led = record {
      past = past;
      position = sym at;
      within = omega (arith, ap (λ (t : Standing). t.durable) holds.facts);
      state = refl;
      cells = length there.blocks;
      start = there.stands.log_is.next;
      few = omega arith;
      records = ap records_of (take_all (length there.blocks) there.blocks (omega arith)) ∙ there.stands.durable;
    }

    goal_at : goal.position ≡ next.super.position
    goal_at = goes.reached_position n.facts.setting n.base (take past n.items) ∙ omega (arith, at, length-take-le past n.items (omega (arith, holds.node.enough)))

    goal_kept : goal.kept ≡ v
    goal_kept = ap (λ i. (reached n.facts.setting n.base (take (n.facts.durable - i) n.items)).kept) (sym holds.node.position) ∙ sym window

    stands_so : StandsAs (moved n Check) (length (stable (g.history old.disk))) d old.log there.blocks there.sealed there.states
    stands_so =
        stands_at_stage n (moved n Check).facts.stage (length (stable (g.history old.disk))) old.checkpoint d.stage old.log there.blocks there.sealed there.states there.states goal there.stands
        (begins (length (stable (g.history old.disk))) there.states n.base goal there.stands.goal there.stands.checkpoint
        (subst (λ i. AreBehind i old.kept) at_base leads.behind) goal_at goal_kept
        (subst (λ (p : Setting). AreAt p.rows old.kept (durable_of old.log) n.base.content goal.content) there.stands.setting (subst (λ i. AreAt n.facts.setting.rows old.kept i n.base.content goal.content) at leads.rows)))
        (λ other part e. subst (λ (k : Next). IsLedTo n old.log there.blocks k.super goal) (ap (next_in next) e) led) there.stands.log_is

    begun_holds : (m : Node) × Steps n Check (Began (durable_of old.log)) m × Holds g m new
    begun_holds = (
      moved n Check,
      steps,
      record {
        is_honest = holds.is_honest;
        facts = ap (λ (t : Standing). after t Check (found n Check)) holds.facts ∙ sym (facts_begun (found n Check) (sym left_is));
        node = nodes n (moved n Check) Check (Began (durable_of old.log)) holds.node steps;
        runs = λ on. record {
          states = there.states;
          assigns = there.assigns;
          blocks = there.blocks;
          sealed = there.sealed;
          stands = stands_so;
          versions = there.versions;
          gates = there.gates;
        };
        images = λ image here. same_front n (moved n Check) image refl refl refl refl refl (holds.images image here);
      },
    )

-- ---- a checkpoint goes on

-- its goal stays
same_goal : (base durable : ℕ) (log : Log) (stage : Stage) → HasGoal base durable log.start log.next (stage_in stage) → HasItemsBehind (stage_in stage) log → HasGoal base durable log.start log.next (stage_in (gone_in stage)) × HasItemsBehind (stage_in (gone_in stage)) log
same_goal base durable log Off h behind = (tt, tt)
same_goal base durable log (Toward to part) h behind = (record { above = h.above; within = h.within; started = h.started; begun = h.begun }, behind)
same_goal base durable log (Retiring written) h behind = (tt, tt)

-- it goes on, or stands as it did
went_by : {D : Type 0} (g : Ghosts D) (l : Layout) (c d : Checkpoint) (old disk : D) (result : Result (Unit {0}) Refusal) → GoesOn g l c d old disk result → (d ≡ c) ⊎ (d ≡ gone_on c)
went_by g l c d old disk (Ok x) h = inr h.done
went_by g l c d old disk (Err e) h = inl h.fault.1

pub engine_went : {D : Type 0} (g : Ghosts D) (l : Layout) (c d : Checkpoint) (log : Log) (kept : _) (block : List Judged) (old disk : D) (result : Result (Unit {0}) Refusal)
    → IsEngine l c log kept block → IsCheckpoint d → IfSome (next_refusal l c) (λ e. IsRefused e c d old disk result) → (next_refusal l c ≡ None → GoesOn g l c d old disk result) → IsEngine l d log kept block
engine_went g l c d log kept block old disk result h is refused goes =
    stage_or_same l c d (gone_in c.stage) log kept block old disk result (next_refusal l c) h is (same_goal c.base.position (durable_of log) log c.stage h.goal h.behind_goal) refused (λ none. went_by g l c d old disk result (goes none))

-- whose answer it is
wrote_by : (s : Standing) (stage : Stage) → stage ≢ Off → check_answer s (stage_in stage) ≡ Wrote
wrote_by s Off not = absurd (not refl)
wrote_by s (Toward to part) not = refl
wrote_by s (Retiring written) not = refl

device_by : (stage : Stage) → stage ≢ Off → not (is_none_under_way (stage_in stage)) ≡ true
device_by Off not = absurd (not refl)
device_by (Toward to part) not = refl
device_by (Retiring written) not = refl

-- the next base is the one that it was
gone_toward : (stage : Stage) (to : Next) (part : Part) → gone_in stage ≡ Toward to part → (before : Part) × (stage ≡ Toward to before)
gone_toward Off to part e = absurd cc
gone_toward (Toward old before) to part e = (before, ap (λ (k : Next). Toward k before) (ap (next_in old) e))
gone_toward (Retiring written) to part e = absurd cc

-- ---- what is due, as the engine asks it

begin_due : (stage : Stage) → Begin ≡ due_in stage → stage ≡ Off
begin_due Off e = refl
begin_due (Toward to Flushing) e = by to.left e
  where
    by : (left : List ℕ) → Begin ≡ flush_due left → Toward to Flushing ≡ Off
    by [] e = absurd cc
    by (page ∷ left) e = absurd cc
begin_due (Toward to Saving) e = absurd cc
begin_due (Toward to Ready) e = absurd cc
begin_due (Toward to SuperFilling) e = absurd cc
begin_due (Toward to SuperFilled) e = absurd cc
begin_due (Toward to SuperOpening) e = absurd cc
begin_due (Retiring false) e = absurd cc
begin_due (Retiring true) e = absurd cc

pub begins_off : {D : Type 0} {within old : Engine D} → within ≡ old → Begin ≡ due_in within.checkpoint.stage → old.checkpoint.stage ≡ Off
begins_off {D} {within} is due = sym (ap (λ (e : Engine D). e.checkpoint.stage) is) ∙ begin_due within.checkpoint.stage due

-- a write is due
next_due : (stage : Stage) → GoOn ≡ due_in stage → (stage ≢ Off) × (next_refusal_at (stage_in stage) ≡ None)
next_due Off e = absurd cc
next_due (Toward to Flushing) e = by to.left refl e
  where
    by : (left : List ℕ) → to.left ≡ left → GoOn ≡ flush_due left → (Toward to Flushing ≢ Off) × (next_refusal_at (stage_in (Toward to Flushing)) ≡ None)
    by [] is e = ((λ off. absurd cc), rw is refl)
    by (page ∷ left) is e = absurd cc
next_due (Toward to Saving) e = absurd cc
next_due (Toward to Ready) e = ((λ off. absurd cc), refl)
next_due (Toward to SuperFilling) e = absurd cc
next_due (Toward to SuperFilled) e = ((λ off. absurd cc), refl)
next_due (Toward to SuperOpening) e = absurd cc
next_due (Retiring false) e = ((λ off. absurd cc), refl)
next_due (Retiring true) e = absurd cc

-- on the places of its parameters
own_layout : (l : Layout) → is_layout l l ≡ true
own_layout l = grind (arith, nat_tests)

pub here : (l : Layout) (c : Checkpoint) (o : Option Refusal) → l ≡ layout_of c.base.params → unless_other l c o ≡ o
here l c o same = ap (λ b. if b then o else Some NotDue) (ap (is_layout l) (sym same) ∙ own_layout l)

-- What a checkpoint that goes on did, on any device.
record IsGone {D : Type 0} (g : Ghosts D) (old new : Engine D) (result : Result (Unit {0}) Refusal) : Type 0 where
  pub engine : IsEngine old.layout old.checkpoint old.log old.kept old.block
  pub runs : old.halted ≡ None
  pub due : GoOn ≡ due_in old.checkpoint.stage
  pub rest : new ≡ record old { disk = new.disk; checkpoint = new.checkpoint; halted = new.halted }
  pub call : Calls g old.disk new.disk (fault_of result)
  pub halted : new.halted ≡ halted_by old.log.phase result
  pub goes : next_refusal old.layout old.checkpoint ≡ None → GoesOn g old.layout old.checkpoint new.checkpoint old.disk new.disk result

gone : {D : Type 0} {g : Ghosts D} {within old new : Engine D} {result : Result (Unit {0}) Refusal} → within ≡ old → IsEngine within.layout within.checkpoint within.log within.kept within.block → old.halted ≡ None
    → GoOn ≡ due_in within.checkpoint.stage → WentOn g old new result → IsGone g old new result
gone {D} {old} {new} {result} is engine runs due w =
    let still : new.halted ≡ halted_by old.log.phase result = ap (λ (e : Engine D). e.halted) w.rest in
    record {
      engine = subst (λ (e : Engine D). IsEngine e.layout e.checkpoint e.log e.kept e.block) is engine;
      runs = runs;
      due = subst (λ (e : Engine D). GoOn ≡ due_in e.checkpoint.stage) is due;
      rest = w.rest ∙ ap (λ (o : Option Phase). record old { disk = new.disk; checkpoint = new.checkpoint; halted = o }) (sym still);
      call = w.call;
      halted = still;
      goes = w.goes;
    }

module _ {D : Type 0} (g : Ghosts D) (sized : (disk : D) → g.honest disk → length (stable (g.history disk)) ≡ g.size disk) (laws : TheStageIsTheFacts)
    (old new : Engine D) (result : Result (Unit {0}) Refusal) (w : IsGone g old new result) where
  abbrev was : Standing
  was = facts_of g old

  abbrev c : Checkpoint
  c = old.checkpoint

  abbrev to : Engine D
  to = record old { disk = new.disk; checkpoint = new.checkpoint; halted = new.halted }

  under : c.stage ≢ Off
  under = (next_due c.stage w.due).0

  goes : GoesOn g old.layout c new.checkpoint old.disk new.disk result
  goes = w.goes (here old.layout c (next_refusal_at (stage_of c)) w.engine.layout ∙ (next_due c.stage w.due).1)

  check_none : refusal_here was Check ≡ None
  check_none = sym (laws.refused was c under) ∙ (next_due c.stage w.due).1

  facts_gone : (f : Found) → new.checkpoint ≡ gone_on c → g.failures new.disk ≡ g.failures old.disk → new.halted ≡ None → facts_of g to ≡ after was Check f
  facts_gone f same rose still =
      let moved_on : facts_of g to ≡ record was { stage = stage_of (gone_on c) } = rw same (rw rose (rw still (rw w.runs refl))) in
      moved_on ∙ ap (λ (stage : StageOf). record was { stage = stage }) (laws.gone_on was f.left c under)

  -- on any device
  gone_moves : new.checkpoint ≡ gone_on c → g.failures new.disk ≡ g.failures old.disk → new.halted ≡ None → Moves was Check Wrote (facts_of g to)
  gone_moves same rose still =
      let f : Found = record { verdict = Commit; stale = false; left = []; row = None } in
      subst (λ (a : Answer). Moves was Check a (facts_of g to)) (wrote_by was c.stage under) (done_moves was Check f (facts_of g to) (ap is_some w.runs) check_none (facts_gone f same rose still))

  gone_fault : new.checkpoint ≡ c → Rises (g.failures old.disk) (g.failures new.disk) → new.halted ≡ Some old.log.phase → Moves was Check (Refused DiskFault) (facts_of g to)
  gone_fault same rises still = fault_moves was Check (facts_of g to) (ap is_some w.runs) check_none (device_by c.stage under) rises (rw same (rw still (rw w.runs refl)))

  -- at a node
  module _ (n : Node) (holds : Holds g n old) (nodes : NodesStayNodes) (law : NodesLeaveTheirFronts) (apart : TheCheckpointIsApart) where
    there_on : Stands g n old
    there_on = holds.runs w.runs

    abbrev m : Node
    m = moved n Check

    moving : CheckpointSteps (long g old) (places old) (g.history old.disk) (g.history new.disk) there_on.states (gone_on c) (gone_on c) n.base there_on.stands.goal result
    moving =
        let on : GoesOn g (places old) c new.checkpoint old.disk new.disk result = subst (λ (k : Layout). GoesOn g k c new.checkpoint old.disk new.disk result) w.engine.layout goes in
        on.steps holds.is_honest (long g old) there_on.states n.base there_on.stands.goal (subst (λ (k : Layout). Assigns k (g.history old.disk) there_on.states) w.engine.layout there_on.assigns) there_on.stands.checkpoint

    stands_gone : StandsAs m (long g old) (gone_on c) old.log there_on.blocks there_on.sealed moving.states
    stands_gone =
        let k = there_on.stands in
        stands_at_stage n m.facts.stage (long g old) c (gone_in c.stage) old.log there_on.blocks there_on.sealed there_on.states moving.states k.goal k moving.during_is
        (λ other part e. let before = gone_toward c.stage other part e in k.toward other before.0 before.1)
        (apart (places old) old.log (c.base.position + 1) there_on.blocks there_on.sealed there_on.states moving.states moving.elsewhere k.log_is)

    stopped_not : n.facts.stopped ≡ false
    stopped_not = ap (λ (t : Standing). t.stopped) holds.facts ∙ ap is_some w.runs

    none_here : refusal_here n.facts Check ≡ None
    none_here = ap (λ (t : Standing). refusal_here t Check) holds.facts ∙ check_none

    steps_gone : Steps n Check Wrote m
    steps_gone =
        subst (λ (a : Answer). Steps n Check a m) (ap (check_answer n.facts) (ap (λ (t : Standing). t.stage) holds.facts) ∙ wrote_by n.facts c.stage under) (done_steps n Check stopped_not none_here)

    steps_halt : Rises (g.failures old.disk) (g.failures new.disk) → Steps n Check (Refused DiskFault) (halted_node (g.failures new.disk) n)
    steps_halt rises =
        fault_steps n Check (g.failures new.disk) stopped_not none_here (ap (λ stage. not (is_none_under_way stage)) (ap (λ (t : Standing). t.stage) holds.facts) ∙ device_by c.stage under) (subst (λ k. Rises k (g.failures new.disk)) (sym (ap (λ (t : Standing). t.failures) holds.facts)) rises)

    long_stays : length (stable (g.history new.disk)) ≡ (long g old)
    long_stays = sized new.disk (w.call.stays_honest holds.is_honest) ∙ w.call.same_size ∙ sym (sized old.disk holds.is_honest)

    images_gone : (image : List ℕ) → IsImage (g.history new.disk) image → IsFrontAt Means m image
    images_gone = fronts_of law m (g.history new.disk) (long g old) (gone_on c) old.log there_on.blocks there_on.sealed moving.states (nodes n m Check Wrote holds.node steps_gone) stands_gone long_stays moving.reaches.images

    gone_leaves : LeavesOnly (g.history old.disk) (g.history new.disk) (IsFrontAt Means n)
    gone_leaves = leaves_weaker (g.history old.disk) (g.history new.disk) (λ image here. same_front m n image refl refl refl refl refl (images_gone image here)) moving.reaches.moments

    gone_holds : Assigns (places old) (g.history new.disk) moving.states → new.checkpoint ≡ gone_on c → g.failures new.disk ≡ g.failures old.disk → new.halted ≡ None → (m : Node) × Steps n Check Wrote m × Holds g m to
    gone_holds assigns same rose still = (
      m,
      steps_gone,
      record {
        is_honest = w.call.stays_honest holds.is_honest;
        facts = ap (λ (t : Standing). after t Check (found n Check)) holds.facts ∙ sym (facts_gone (found n Check) same rose still);
        node = nodes n m Check Wrote holds.node steps_gone;
        runs = λ on. record {
          states = moving.states;
          assigns = subst (λ (k : Layout). Assigns k (g.history new.disk) moving.states) (sym w.engine.layout) assigns;
          blocks = there_on.blocks;
          sealed = there_on.sealed;
          stands = subst (λ (k : Checkpoint). StandsAs m (length (stable (g.history new.disk))) k old.log there_on.blocks there_on.sealed moving.states) (sym same) (subst (λ i. StandsAs m i (gone_on c) old.log there_on.blocks there_on.sealed moving.states) (sym long_stays) stands_gone);
          versions = there_on.versions;
          gates = there_on.gates;
        };
        images = images_gone;
      },
    )

    gone_halts : new.checkpoint ≡ c → Rises (g.failures old.disk) (g.failures new.disk) → new.halted ≡ Some old.log.phase → (m : Node) × Steps n Check (Refused DiskFault) m × Holds g m to
    gone_halts same rises still = (
      halted_node (g.failures new.disk) n,
      steps_halt rises,
      record {
        is_honest = w.call.stays_honest holds.is_honest;
        facts = rw holds.facts (rw same (rw still (rw w.runs refl)));
        node = nodes n (halted_node (g.failures new.disk) n) Check (Refused DiskFault) holds.node (steps_halt rises);
        runs = λ on. let never : Some old.log.phase ≡ None = sym still ∙ on in absurd cc;
        images = λ image here. same_front m (halted_node (g.failures new.disk) n) image refl refl refl refl refl (images_gone image here);
      },
    )

-- what it answers and where it leads, by how it came out
check_moves : {D : Type 0} (g : Ghosts D) (sized : (disk : D) → g.honest disk → length (stable (g.history disk)) ≡ g.size disk) (laws : TheStageIsTheFacts) (old new : Engine D) (result : Result (Unit {0}) Refusal)
    → IsGone g old new result → Moves (facts_of g old) Check (wrote result) (facts_of g new)
check_moves g sized laws old new (Ok x) w =
    subst (λ e. Moves (facts_of g old) Check Wrote (facts_of g e)) (sym w.rest)
    (gone_moves g sized laws old new (Ok x) w (goes g sized laws old new (Ok x) w).done (w.call.no_cause refl) w.halted)
check_moves g sized laws old new (Err e) w =
    let fault = (goes g sized laws old new (Err e) w).fault in
    subst (λ (r : Refusal). Moves (facts_of g old) Check (Refused r) (facts_of g new)) (sym fault.0)
    (subst (λ e. Moves (facts_of g old) Check (Refused DiskFault) (facts_of g e)) (sym w.rest)
    (gone_fault g sized laws old new (Err e) w fault.1 (rises_by (Unit {0}) g e fault.0 w.call) (w.halted ∙ ap (λ (r : Refusal). halted_by {T = Unit {0}} old.log.phase (Err r)) fault.0)))

check_holds : {D : Type 0} (g : Ghosts D) (sized : (disk : D) → g.honest disk → length (stable (g.history disk)) ≡ g.size disk) (laws : TheStageIsTheFacts) (old new : Engine D) (result : Result (Unit {0}) Refusal)
    → IsGone g old new result → (n : Node) → Holds g n old → NodesStayNodes → NodesLeaveTheirFronts → TheCheckpointIsApart → (m : Node) × Steps n Check (wrote result) m × Holds g m new
check_holds g sized laws old new (Ok x) w n holds nodes law apart =
    let on = moving g sized laws old new (Ok x) w n holds nodes law apart in
    subst (λ e. (m : Node) × Steps n Check Wrote m × Holds g m e) (sym w.rest)
    (gone_holds g sized laws old new (Ok x) w n holds nodes law apart on.reaches.ok (goes g sized laws old new (Ok x) w).done (w.call.no_cause refl) w.halted)
check_holds g sized laws old new (Err e) w n holds nodes law apart =
    let fault = (goes g sized laws old new (Err e) w).fault in
    subst (λ (r : Refusal). (m : Node) × Steps n Check (Refused r) m × Holds g m new) (sym fault.0)
    (subst (λ e. (m : Node) × Steps n Check (Refused DiskFault) m × Holds g m e) (sym w.rest)
    (gone_halts g sized laws old new (Err e) w n holds nodes law apart fault.1 (rises_by (Unit {0}) g e fault.0 w.call) (w.halted ∙ ap (λ (r : Refusal). halted_by {T = Unit {0}} old.log.phase (Err r)) fault.0)))

-- ---- how a beginning comes out

module _ {D : Type 0} (g : Ghosts D) (old after_it : Engine D) (h : Holding) (answer : Option ℕ) (runs : old.halted ≡ None) (off : old.checkpoint.stage ≡ Off) (rest : after_it ≡ record old { checkpoint = after_it.checkpoint })
    (b : HasBegun h old.log old.kept old.checkpoint after_it.checkpoint answer) where
  abbrev window_there : WindowOf
  window_there = window_of h (durable_of old.log)

  becomes : after_it ≡ record old { checkpoint = begun old.checkpoint (durable_of old.log) old.log.next window_there b.left }
  becomes = rest ∙ ap (λ (k : Checkpoint). record old { checkpoint = k }) b.checkpoint

  began_moves : Moves (facts_of g old) Check (checked (Ok answer)) (facts_of g after_it)
  began_moves =
      subst (λ (e : Engine D). Moves (facts_of g old) Check (checked (Ok answer)) (facts_of g e)) (sym becomes)
      (subst (λ (o : Option ℕ). Moves (facts_of g old) Check (checked (Ok o)) (facts_of g (record old { checkpoint = begun old.checkpoint (durable_of old.log) old.log.next window_there b.left }))) (sym b.says) (begun_moves g old window_there b.left runs off b.later))

  began_holds : NodesStayNodes → VersionsLeadToTheState → JudgingGoesOn → (n : Node) → Holds g n old → window_of h (durable_of old.log) ≡ window_at n n.facts.durable
      → (m : Node) × Steps n Check (checked (Ok answer)) m × Holds g m after_it
  began_holds nodes lead goes n holds window =
      let begins : BeginsAt old.kept old.checkpoint (begun old.checkpoint (durable_of old.log) old.log.next window_there b.left) (next_of old.checkpoint.base (durable_of old.log) old.log.next window_there b.left) =
      subst (λ (k : Checkpoint). BeginsAt old.kept old.checkpoint k (next_of old.checkpoint.base (durable_of old.log) old.log.next window_there b.left)) b.checkpoint b.begins in
      let came = begun_holds g old window_there b.left runs off b.later nodes lead goes n holds window b.pages begins in
      (came.0, subst (λ (o : Option ℕ). Steps n Check (checked (Ok o)) came.0) (sym b.says) came.1, subst (λ (e : Engine D). Holds g came.0 e) (sym becomes) came.2)

-- where it is refused
begin_refused : {D : Type 0} (g : Ghosts D) (old : Engine D) (n : Node) → Holds g n old → old.halted ≡ None → old.checkpoint.stage ≡ Off → (r : Refusal)
    → ((r ≡ NotDue) × (nat_le (durable_of old.log) old.checkpoint.base.position ≡ true)) ⊎ ((r ≡ OutOfMemory) × (nat_le (durable_of old.log) old.checkpoint.base.position ≡ false)) → Steps n Check (Refused r) n
begin_refused g old n holds runs off r why =
    let stopped_not : n.facts.stopped ≡ false = ap (λ (t : Standing). t.stopped) holds.facts ∙ ap is_some runs in
    let stage : n.facts.stage ≡ is_off = ap (λ (t : Standing). t.stage) holds.facts ∙ ap stage_in off in
    let test : check_refusal n.facts is_off ≡ (if nat_le (durable_of old.log) old.checkpoint.base.position then Some NotDue else None) = ap (λ (t : Standing). check_refusal t is_off) holds.facts in
    elim why [
      | inl not ↦ subst (λ (e : Refusal). Steps n Check (Refused e) n) (sym not.0) (refused_steps n Check NotDue stopped_not (ap (check_refusal n.facts) stage ∙ test ∙ ap (λ b. if b then Some NotDue else None) not.1))
      | inr out ↦ subst (λ (e : Refusal). Steps n Check (Refused e) n) (sym out.0)
          (hungry_steps n Check stopped_not (ap (check_refusal n.facts) stage ∙ test ∙ ap (λ b. if b then Some NotDue else None) out.1) (ap is_none_under_way stage))
    ]

-- something is due that is no such write
pub other_due : (due : Step) (stage : Stage) → due ≡ due_in stage → (due ≡ Begin) ⊎ (((page : ℕ) × (due ≡ Flush page)) ⊎ (due ≡ AwaitsSync)) → due_in stage ≢ GoOn
other_due due stage is other going = elim other [
  | inl begin ↦ (let never = sym begin ∙ is ∙ going in absurd cc)
  | inr (inl flush) ↦ (let never = sym flush.1 ∙ is ∙ going in absurd cc)
  | inr (inr sync) ↦ (let never = sym sync ∙ is ∙ going in absurd cc)
]

-- and where more than a beginning is, a checkpoint is under way
pub under_way : (due : Step) (stage : Stage) → due ≡ due_in stage → ((page : ℕ) × (due ≡ Flush page)) ⊎ ((due ≡ GoOn) ⊎ (due ≡ AwaitsSync)) → stage ≢ Off
under_way due stage is other off = elim other [
  | inl flush ↦ (let never = sym flush.1 ∙ is ∙ ap due_in off in absurd cc)
  | inr (inl next) ↦ (let never = sym next ∙ is ∙ ap due_in off in absurd cc)
  | inr (inr sync) ↦ (let never = sym sync ∙ is ∙ ap due_in off in absurd cc)
]

-- where it waits
waiting : (stage : Stage) → stage ≢ Off → due_in stage ≢ GoOn → next_refusal_at (stage_in stage) ≡ Some NotDue
waiting Off under not_next = absurd (under refl)
waiting (Toward to Flushing) under not_next = by to.left refl
  where
    by : (left : List ℕ) → to.left ≡ left → next_refusal_at (stage_in (Toward to Flushing)) ≡ Some NotDue
    by [] is = absurd (not_next (rw is refl))
    by (page ∷ left) is = rw is refl
waiting (Toward to Saving) under not_next = refl
waiting (Toward to Ready) under not_next = absurd (not_next refl)
waiting (Toward to SuperFilling) under not_next = refl
waiting (Toward to SuperFilled) under not_next = absurd (not_next refl)
waiting (Toward to SuperOpening) under not_next = refl
waiting (Retiring false) under not_next = absurd (not_next refl)
waiting (Retiring true) under not_next = refl

-- ---- what a step of a checkpoint comes to, as its caller reads it

-- With this answer, at a node of which that is known.
pub record IsStepped {D T : Type 0} (g : Ghosts D) (known : Node → Type 0) (old new : Engine D) (result : Result T Refusal) (answer : Answer) : Type 0 where
  pub call : Calls g old.disk new.disk (fault_of result)
  pub rest : new ≡ record old { disk = new.disk; checkpoint = new.checkpoint; halted = new.halted }
  pub params : new.checkpoint.base.params ≡ old.checkpoint.base.params
  pub unchanged : IfErr result (λ e. (e ≡ DiskFault) ⊎ (new ≡ old))
  pub fault : IfErr result (λ e. e ≡ DiskFault → Halts old new)
  pub moves : Moves (facts_of g old) Check answer (facts_of g new)
  pub steps : (n : Node) → Holds g n old → known n → (m : Node) × Steps n Check answer m × Holds g m new
  pub leaves : (n : Node) → Holds g n old → LeavesOnly (g.history old.disk) (g.history new.disk) (IsFrontAt Means n)

module _ {D : Type 0} (g : Ghosts D) where
  module _ {T : Type 0} (known : Node → Type 0) where
    -- refused, with nothing done
    stays : (old : Engine D) (r : Refusal) → fault_of {T = T} (Err r) ≡ Ok tt → r ≢ DiskFault → Moves (facts_of g old) Check (Refused r) (facts_of g old) → ((n : Node) → Holds g n old → Steps n Check (Refused r) n) → IsStepped {T = T} g known old old (Err r) (Refused r)
    stays old r quiet other moves steps = record {
      call = subst (Calls g old.disk old.disk) (sym quiet) (none_asked g old.disk);
      rest = refl;
      params = refl;
      unchanged = inr refl;
      fault = λ e. absurd (other e);
      moves = moves;
      steps = λ n holds more. (n, steps n holds, holds);
      leaves = λ n holds. leaves_none _ _ refl;
    }

    -- where the device has failed before
    pub stopped_stepped : (old : Engine D) → is_some old.halted ≡ true → IsStepped {T = T} g known old old (Err Stopped) (Refused Stopped)
    stopped_stepped old stopped = stays old Stopped refl (λ e. absurd cc) (stopped_moves (facts_of g old) Check stopped) (λ n holds. stopped_steps n Check (ap (λ (t : Standing). t.stopped) holds.facts ∙ stopped))

  -- where it waits
  pub waits_moves : TheStageIsTheFacts → (old : Engine D) → old.halted ≡ None → due_in old.checkpoint.stage ≢ GoOn → old.checkpoint.stage ≢ Off → Moves (facts_of g old) Check (Refused NotDue) (facts_of g old)
  waits_moves laws old runs not_next under = refused_moves (facts_of g old) Check NotDue (ap is_some runs) (sym (laws.refused (facts_of g old) old.checkpoint under) ∙ waiting old.checkpoint.stage under not_next)

  pub waits_steps : TheStageIsTheFacts → (old : Engine D) → old.halted ≡ None → due_in old.checkpoint.stage ≢ GoOn → old.checkpoint.stage ≢ Off → (n : Node) → Holds g n old → (m : Node) × Steps n Check (Refused NotDue) m × Holds g m old
  waits_steps laws old runs not_next under n holds = (
    n,
    refused_steps n Check NotDue (ap (λ (t : Standing). t.stopped) holds.facts ∙ ap is_some runs)
        (ap (λ (t : Standing). refusal_here t Check) holds.facts ∙ sym (laws.refused (facts_of g old) old.checkpoint under) ∙ waiting old.checkpoint.stage under not_next),
    holds,
  )

  -- where it goes on
  pub goes_stepped : NodesStayNodes → NodesLeaveTheirFronts → TheCheckpointIsApart → TheStageIsTheFacts → ((disk : D) → g.honest disk → length (stable (g.history disk)) ≡ g.size disk) → {within old new : Engine D} → within ≡ old → IsEngine within.layout within.checkpoint within.log within.kept within.block → old.halted ≡ None
      → GoOn ≡ due_in within.checkpoint.stage → (result : Result (Unit {0}) Refusal) → WentOn g old new result → (old.checkpoint.stage ≢ Off) × IsStepped g (λ n. Unit {0}) old new result (wrote result)
  goes_stepped nodes law apart laws sized {within} {old} {new} is engine runs due result did =
      let w = gone is engine runs due did in
      let went = goes g sized laws old new result w in (
        under g sized laws old new result w,
        record {
          call = w.call;
          rest = w.rest;
          params = params result went;
          unchanged = unchanged result went;
          fault = stays_stopped old new result w.rest w.halted did.unchanged;
          moves = check_moves g sized laws old new result w;
          steps = λ n holds more. check_holds g sized laws old new result w n holds nodes law apart;
          leaves = λ n holds. gone_leaves g sized laws old new result w n holds nodes law apart;
        },
      )
    where
      params : (result : Result (Unit {0}) Refusal) → GoesOn g old.layout old.checkpoint new.checkpoint old.disk new.disk result → new.checkpoint.base.params ≡ old.checkpoint.base.params
      params (Ok x) went = ap (λ (k : Checkpoint). k.base.params) went.done
      params (Err e) went = ap (λ (k : Checkpoint). k.base.params) went.fault.1

      unchanged : (result : Result (Unit {0}) Refusal) → GoesOn g old.layout old.checkpoint new.checkpoint old.disk new.disk result → IfErr result (λ e. (e ≡ DiskFault) ⊎ (new ≡ old))
      unchanged (Ok x) went = tt
      unchanged (Err e) went = inl went.fault.0

  -- ---- as a check

  module _ (h : Holding) where
    -- the certifier has the window where one may begin
    abbrev pub HasWindow : Engine D → Node → Type 0
    HasWindow old n = old.checkpoint.stage ≡ Off → window_of h (durable_of old.log) ≡ window_at n n.facts.durable

    -- where none begins
    pub next_checked : {old new : Engine D} (result : Result (Unit {0}) Refusal) → IsStepped g (λ n. Unit {0}) old new result (wrote result) → IsStepped {T = Option ℕ} g (HasWindow old) old new (result_and result (Ok None)) (checked (result_and result (Ok None)))
    next_checked (Ok x) k = record { call = k.call; rest = k.rest; params = k.params; unchanged = tt; fault = tt; moves = k.moves; steps = λ n holds window. k.steps n holds tt; leaves = k.leaves }
    next_checked (Err e) k = record { call = k.call; rest = k.rest; params = k.params; unchanged = k.unchanged; fault = k.fault; moves = k.moves; steps = λ n holds window. k.steps n holds tt; leaves = k.leaves }

    -- where it begins
    pub begins_checked : NodesStayNodes → VersionsLeadToTheState → JudgingGoesOn → (old new : Engine D) → old.halted ≡ None → old.checkpoint.stage ≡ Off → new ≡ record old { checkpoint = new.checkpoint } → (result : Result (Option ℕ) Refusal)
        → Begins h old.log old.kept old.checkpoint new.checkpoint result → IsStepped g (HasWindow old) old new result (checked result)
    begins_checked nodes lead goes old new runs off rest (Ok answer) b = record {
      call = subst (λ (e : Engine D). Calls {T = Unit {0}} g old.disk e.disk (Ok tt)) (sym rest) (none_asked g old.disk);
      rest = subst (λ (e : Engine D). e ≡ record old { disk = e.disk; checkpoint = e.checkpoint; halted = e.halted }) (sym rest) refl;
      params = ap (λ (k : Checkpoint). k.base.params) b.begun.checkpoint;
      unchanged = tt;
      fault = tt;
      moves = began_moves g old new h answer runs off rest b.begun;
      steps = λ n holds there. began_holds g old new h answer runs off rest b.begun nodes lead goes n holds (there off);
      leaves = λ n holds. leaves_none _ _ (ap (λ (e : Engine D). g.history e.disk) rest);
    }
    begins_checked nodes lead goes old new runs off rest (Err e) b =
        subst (λ (k : Engine D). IsStepped {T = Option ℕ} g (HasWindow old) old k (Err e) (Refused e)) (sym (rest ∙ ap (λ (k : Checkpoint). record old { checkpoint = k }) b.refused.0)) (by b.refused.1)
      where
        by : ((e ≡ NotDue) × (nat_le (durable_of old.log) old.checkpoint.base.position ≡ true)) ⊎ ((e ≡ OutOfMemory) × (nat_le (durable_of old.log) old.checkpoint.base.position ≡ false)) → IsStepped {T = Option ℕ} g (HasWindow old) old old (Err e) (Refused e)
        by (inl not) = subst (λ (r : Refusal). IsStepped {T = Option ℕ} g (HasWindow old) old old (Err r) (Refused r)) (sym not.0)
            (stays (HasWindow old) old NotDue refl (λ e. absurd cc) (refused_moves (facts_of g old) Check NotDue (ap is_some runs) (ap (check_refusal (facts_of g old)) (ap stage_in off) ∙ ap (λ b. if b then Some NotDue else None) not.1))
            (λ n holds. begin_refused g old n holds runs off NotDue (inl (refl, not.1))))
        by (inr out) = subst (λ (r : Refusal). IsStepped {T = Option ℕ} g (HasWindow old) old old (Err r) (Refused r)) (sym out.0)
            (stays (HasWindow old) old OutOfMemory refl (λ e. absurd cc) (hungry_moves (facts_of g old) Check (ap is_some runs) (ap (check_refusal (facts_of g old)) (ap stage_in off) ∙ ap (λ b. if b then Some NotDue else None) out.1) (ap is_none_under_way (ap stage_in off)))
            (λ n holds. begin_refused g old n holds runs off OutOfMemory (inr (refl, out.1))))
