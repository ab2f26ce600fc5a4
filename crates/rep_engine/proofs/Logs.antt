-- A log step of an engine that stands for a node.
use Rattle.std.proofs.Common.{◌≡◌, ◌≢◌, ◌⊎◌, inl, ℕ, ◌+◌, ◌%◌, false, List, [], length, take, map, append-nil, Option, None, Some, Result, Ok, Err, IfErr, OnOk, refl, sym, ap, subst, ◌∙◌}
use Rattle.std.specs.Prelude.{is_some}
use Rattle.rep_types.specs.declared.judged.Judged.{Judged}
use Rattle.rep_types.specs.declared.refusal.Refusal.{Refusal}
use Rattle.rep_types.specs.declared.refusal.Refusal.TheVariants.{DiskFault, OutOfMemory}
use Rattle.rep_record.specs.Fronts.{fitting}
use Rattle.rep_disk.specs.declared.disk.Disk.{Ghosts}
use Rattle.rep_disk.specs.Calls.{Rises}
use Rattle.rep_disk.specs.History.{stable, IsImage}
use Rattle.rep_disk.specs.Moments.{LeavesOnly}
use Rattle.rep_disk.specs.Leaving.{leaves_weaker}
use Rattle.rep_disk.specs.Devices.{Calls}
use Rattle.rep_layout.specs.declared.place.Layout.{Layout}
use Rattle.rep_versions.specs.Following.{AreVersionsOf, effect_of}
use Rattle.rep_cells.specs.Known.{Assigns}
use Rattle.rep_log.specs.declared.phase.Phase.{Phase}
use Rattle.rep_log.specs.Standing.{Standing as Log, stands_at, due_of}
use Rattle.rep_log.specs.Moves.{fault_of, Steps as Log_steps}
use Rattle.rep_steps.specs.declared.event.Event.TheVariants.{Log as to_log}
use Rattle.rep_steps.specs.declared.answer.Answer.TheVariants.{Wrote, Refused}
use Rattle.rep_steps.specs.Standings.{Standing, gathered, log_refusal, refusal_here, underway}
use Rattle.rep_types.specs.declared.verdict.Verdict.TheVariants.{Commit}
use Rattle.rep_steps.specs.Moves.{Moves, after, logged}
use Rattle.rep_steps.specs.Nodes.{Node, IsNode, Steps, cell, found, moved, NodesStayNodes}
use Rattle.rep_steps.specs.Images.{IsFrontAt}
use Rattle.rep_checkpoint.specs.Meanings.{Means}
use Rattle.rep_checkpoint.specs.Standing.{Standing as Checkpoint}
use Rattle.rep_checkpoint.specs.Laws.{TheLogIsApart}
use Rattle.rep_checkpoint.specs.Nodes.{StandsAs, NodesLeaveTheirFronts}
use Rattle.rep_engine.specs.Engines.{Engine, IsEngine, IsWhole, facts_of, phase_at}
use Rattle.rep_engine.specs.Writing.{IsWrite, coming_in, written_in, WritesNext}
use Rattle.rep_engine.specs.Holding.{Stands, Holds, wrote}
use Rattle.rep_engine.specs.Reading.{halted_by}
use Rattle.rep_engine.proofs.Steps.{done_moves, fault_moves, halted_node, done_steps, fault_steps}
use Rattle.rep_engine.proofs.Logging.{is_stale, at_phase, written_is, coming_is, is_write, engine_logged, facts_logged}
use Rattle.rep_engine.proofs.Standing.{places, same_front, stands_on, nil_bytes, none_held, fronts_of}

module _ {D : Type 0} (g : Ghosts D) (sized : (disk : D) → g.honest disk → length (stable (g.history disk)) ≡ g.size disk)
    (old : Engine D) (n : Node) (engine : IsEngine old.layout old.checkpoint old.log old.kept old.block) (holds : Holds g n old) (runs : old.halted ≡ None) where
  pub there : Stands g n old
  there = holds.runs runs

  pub phase_is : n.facts.phase ≡ old.log.phase
  phase_is = ap (λ (s : Standing). s.phase) holds.facts ∙ ap (phase_at old.log.phase) runs

  pub ahead_is : n.facts.ahead ≡ old.block
  ahead_is = ap (λ (s : Standing). s.ahead) holds.facts

  pub runs_on : n.facts.stopped ≡ false
  runs_on = ap (λ (s : Standing). s.stopped) holds.facts ∙ ap is_some runs

  stale_is : n.gates (cell n.facts) ≡ is_stale old.log
  stale_is =
      there.gates (cell n.facts)
      ∙ ap (stands_at old.log) (ap (λ k. k % n.facts.setting.cells) (ap (λ (s : Standing). s.next) holds.facts) ∙ ap (λ k. old.log.next % k) (ap (λ (s : Standing). s.setting.cells) holds.facts ∙ sym engine.cells))

  count : gathered n.facts ≡ length old.block
  count = ap (fitting []) ahead_is ∙ engine.fits

  -- the log's next phase is the node's
  phase_logged : (moved n to_log).facts.phase ≡ logged (length old.block) (is_stale old.log) old.log.phase
  phase_logged = ap (λ k. logged k (n.gates (cell n.facts)) n.facts.phase) count ∙ ap (λ b. logged (length old.block) b n.facts.phase) stale_is ∙ ap (logged (length old.block) (is_stale old.log)) phase_is

  -- the step of the node, where it is due
  module _ (none : log_refusal (facts_of g old) old.log.phase ≡ None) where
    not_refused : refusal_here n.facts to_log ≡ None
    not_refused = ap (λ (s : Standing). log_refusal s s.phase) holds.facts ∙ ap (λ halted. log_refusal (facts_of g old) (phase_at old.log.phase halted)) runs ∙ none

    pub steps_done : Steps n to_log Wrote (moved n to_log)
    steps_done = done_steps n to_log runs_on not_refused

    pub steps_fault : (failed : ℕ) → Rises (g.failures old.disk) failed → Steps n to_log (Refused DiskFault) (halted_node failed n)
    steps_fault failed rises = fault_steps n to_log failed runs_on not_refused refl (subst (λ k. Rises k failed) (sym (ap (λ (s : Standing). s.failures) holds.facts)) rises)

  module _ (none : log_refusal (facts_of g old) old.log.phase ≡ None) (new : Engine D) (result : Result (Unit {0}) Refusal)
      (call : Calls g old.disk new.disk (fault_of result)) (writes : WritesNext g old.layout (due_of old.log) old.block old.log new.log old.disk new.disk result)
      (layout : new.layout ≡ old.layout) (same_checkpoint : new.checkpoint ≡ old.checkpoint) (same_kept : new.kept ≡ old.kept) (same_block : new.block ≡ old.block) where
    due : IsWrite (due_of old.log)
    due = is_write g old engine none

    pub log_is : new.log ≡ at_phase (logged (length old.block) (is_stale old.log) old.log.phase) old.log
    log_is = writes.stands ∙ written_is old.log (length old.block) due

    abbrev to : List Judged
    to = coming_in (due_of old.log) old.block there.sealed

    -- the log's cells move, and nothing else
    pub steps : Log_steps (places old) (g.history old.disk) (g.history new.disk) there.states new.log (old.checkpoint.base.position + 1) there.blocks to result
    steps =
        let on : WritesNext g (places old) (due_of old.log) old.block old.log new.log old.disk new.disk result = subst (λ k. WritesNext g k (due_of old.log) old.block old.log new.log old.disk new.disk result) engine.layout writes in
        on.steps holds.is_honest there.states (old.checkpoint.base.position + 1) there.blocks there.sealed (subst (λ k. Assigns k (g.history old.disk) there.states) engine.layout there.assigns) there.stands.log_is

    whole : IsWhole new.log.phase old.block
    whole = subst (λ (k : Log). IsWhole k.phase old.block) (sym log_is) (engine_logged g old engine (is_stale old.log) none).whole

    new_phase : new.log.phase ≡ (moved n to_log).facts.phase
    new_phase = ap (λ (k : Log). k.phase) log_is ∙ sym phase_logged

    size_stays : length (stable (g.history new.disk)) ≡ length (stable (g.history old.disk))
    size_stays = sized new.disk (call.stays_honest holds.is_honest) ∙ call.same_size ∙ sym (sized old.disk holds.is_honest)

    module _ (nodes : NodesStayNodes) (law : NodesLeaveTheirFronts) (apart : TheLogIsApart) where
      stands_so : StandsAs (moved n to_log) (length (stable (g.history old.disk))) old.checkpoint new.log there.blocks to steps.states
      stands_so =
          let h = there.stands in
          stands_on apart n (moved n to_log) (length (stable (g.history old.disk))) old.checkpoint old.log new.log there.blocks there.sealed to there.states steps.states holds.node
          (record { uuid = refl; setting = refl; durable = refl; at = refl; base = refl; more = []; items = sym (append-nil n.items) })
          (ap (λ (k : Log). k.start) log_is) steps.elsewhere steps.log_is new_phase
          (coming_is old.log old.block there.sealed old.log.phase due (h.coming ∙ ap (λ p. take (underway p) n.facts.ahead) phase_is ∙ ap (take (underway old.log.phase)) ahead_is)
          ∙ ap (λ p. take (underway p) old.block) (sym phase_logged) ∙ ap (take (underway (moved n to_log).facts.phase)) (sym ahead_is))
          h.judged
          (λ nil held may. none_held old.log.phase new.log.phase there.blocks held there.sealed to old.block (h.undefined nil) (engine.undefined (nil_bytes old.checkpoint.base.uuid nil)).1 whole may) h

      is_node : IsNode (moved n to_log)
      is_node = nodes n (moved n to_log) to_log Wrote holds.node (steps_done none)

      images : (image : List ℕ) → IsImage (g.history new.disk) image → IsFrontAt Means (moved n to_log) image
      images = fronts_of law (moved n to_log) (g.history new.disk) (length (stable (g.history old.disk))) old.checkpoint new.log there.blocks to steps.states is_node stands_so size_stays steps.reaches.images

      -- at each moment
      pub log_leaves : LeavesOnly (g.history old.disk) (g.history new.disk) (IsFrontAt Means n)
      log_leaves = leaves_weaker (g.history old.disk) (g.history new.disk) (λ image here. same_front (moved n to_log) n image refl refl refl refl refl (images image here)) steps.reaches.moments

      -- where it succeeds
      pub log_holds : Assigns (places old) (g.history new.disk) steps.states → new.halted ≡ None → g.failures new.disk ≡ g.failures old.disk → Holds g (moved n to_log) new
      log_holds assigns still rose = record {
        is_honest = call.stays_honest holds.is_honest;
        facts =
            ap (λ (s : Standing). after s to_log (found n to_log)) holds.facts
            ∙ sym (facts_logged g old new (found n to_log) runs still engine.fits rose same_checkpoint same_block (log_is ∙ ap (λ b. at_phase (logged (length old.block) b old.log.phase) old.log) (sym stale_is)));
        node = is_node;
        runs = λ on. record {
          states = steps.states;
          assigns = subst (λ (k : Layout). Assigns k (g.history new.disk) steps.states) (sym (layout ∙ engine.layout)) assigns;
          blocks = there.blocks;
          sealed = to;
          stands =
              subst (λ (c : Checkpoint). StandsAs (moved n to_log) (length (stable (g.history new.disk))) c new.log there.blocks to steps.states) (sym same_checkpoint)
              (subst (λ k. StandsAs (moved n to_log) k old.checkpoint new.log there.blocks to steps.states) (sym size_stays) stands_so);
          versions = subst (AreVersionsOf n.base.position (map effect_of n.items)) (sym same_kept) there.versions;
          gates = λ i. there.gates i ∙ ap (λ (k : Log). stands_at k i) (sym log_is);
        };
        images = images;
      }

      -- where the device failed
      pub log_halts : Rises (g.failures old.disk) (g.failures new.disk) → new.halted ≡ Some old.log.phase → Holds g (halted_node (g.failures new.disk) n) new
      log_halts rises halted = record {
        is_honest = call.stays_honest holds.is_honest;
        facts = rw holds.facts (rw halted (rw same_checkpoint ((rw same_block (rw log_is (rw runs refl))))));
        node = nodes n (halted_node (g.failures new.disk) n) to_log (Refused DiskFault) holds.node (steps_fault none (g.failures new.disk) rises);
        runs = λ on. let never : Some old.log.phase ≡ None = sym halted ∙ on in absurd cc;
        images = λ image here. same_front (moved n to_log) (halted_node (g.failures new.disk) n) image refl refl refl refl refl (images image here);
      }

-- ---- how a log step comes out

-- A log step that was due.
pub record IsLogged {D : Type 0} (g : Ghosts D) (old new : Engine D) (result : Result (Unit {0}) Refusal) : Type 0 where
  pub engine : IsEngine old.layout old.checkpoint old.log old.kept old.block
  pub runs : old.halted ≡ None
  pub none : log_refusal (facts_of g old) old.log.phase ≡ None
  pub call : Calls g old.disk new.disk (fault_of result)
  pub writes : WritesNext g old.layout (due_of old.log) old.block old.log new.log old.disk new.disk result
  pub layout : new.layout ≡ old.layout
  pub same_checkpoint : new.checkpoint ≡ old.checkpoint
  pub same_kept : new.kept ≡ old.kept
  pub same_block : new.block ≡ old.block
  pub halted : new.halted ≡ halted_by old.log.phase result

pub rises_by : (T : Type 0) {D : Type 0} (g : Ghosts D) {old new : D} (e : Refusal) → e ≡ DiskFault → Calls g old new (fault_of {T = T} (Err e)) → Rises (g.failures old) (g.failures new)
rises_by T {D} g {old} {new} e is call =
    (subst (λ (f : Refusal). Calls g old new (fault_of {T = T} (Err f))) is call).cause refl

module _ {D : Type 0} (g : Ghosts D) (old new : Engine D) where
  halted_so : (e : Refusal) → IsLogged g old new (Err e) → new.halted ≡ Some old.log.phase
  halted_so e h = h.halted ∙ ap (λ (r : Refusal). halted_by {T = Unit {0}} old.log.phase (Err r)) h.writes.fault

  logged_moves : (result : Result (Unit {0}) Refusal) → IsLogged g old new result → Moves (facts_of g old) to_log (wrote result) (facts_of g new)
  logged_moves (Err e) h =
      let log_is : new.log ≡ at_phase (logged (length old.block) (is_stale old.log) old.log.phase) old.log = h.writes.stands ∙ written_is old.log (length old.block) (is_write g old h.engine h.none) in
      subst (λ (r : Refusal). Moves (facts_of g old) to_log (Refused r) (facts_of g new)) (sym h.writes.fault)
      (fault_moves (facts_of g old) to_log (facts_of g new) (ap is_some h.runs) (rw h.runs h.none) refl (rises_by (Unit {0}) g e h.writes.fault h.call) (rw (halted_so e h) (rw h.same_checkpoint ((rw h.same_block (rw log_is (rw h.runs refl)))))))
  logged_moves (Ok x) h =
      let stale = is_stale old.log in
      let due : IsWrite (due_of old.log) = is_write g old h.engine h.none in
      done_moves (facts_of g old) to_log (record { verdict = Commit; stale = stale; left = []; row = None }) (facts_of g new) (ap is_some h.runs) (rw h.runs h.none)
      (facts_logged g old new (record { verdict = Commit; stale = stale; left = []; row = None }) h.runs h.halted h.engine.fits (h.call.no_cause refl) h.same_checkpoint h.same_block (h.writes.stands ∙ written_is old.log (length old.block) due))

  logged_steps : ((disk : D) → g.honest disk → length (stable (g.history disk)) ≡ g.size disk) → NodesStayNodes → NodesLeaveTheirFronts → TheLogIsApart → (result : Result (Unit {0}) Refusal) → IsLogged g old new result
      → (n : Node) → Holds g n old → (m : Node) × Steps n to_log (wrote result) m × Holds g m new
  logged_steps sized nodes law apart (Ok x) h n holds =
      let go = steps g sized old n h.engine holds h.runs h.none new (Ok x) h.call h.writes h.layout h.same_checkpoint h.same_kept h.same_block in (
        moved n to_log,
        steps_done g sized old n h.engine holds h.runs h.none,
        log_holds g sized old n h.engine holds h.runs h.none new (Ok x) h.call h.writes h.layout h.same_checkpoint h.same_kept h.same_block nodes law apart go.reaches.ok h.halted (h.call.no_cause refl),
      )
  logged_steps sized nodes law apart (Err e) h n holds =
      let rises : Rises (g.failures old.disk) (g.failures new.disk) = rises_by (Unit {0}) g e h.writes.fault h.call in (
        halted_node (g.failures new.disk) n,
        subst (λ (f : Refusal). Steps n to_log (Refused f) (halted_node (g.failures new.disk) n)) (sym h.writes.fault) (steps_fault g sized old n h.engine holds h.runs h.none (g.failures new.disk) rises),
        log_halts g sized old n h.engine holds h.runs h.none new (Err e) h.call h.writes h.layout h.same_checkpoint h.same_kept h.same_block nodes law apart rises (halted_so e h),
      )

  logged_leaves : ((disk : D) → g.honest disk → length (stable (g.history disk)) ≡ g.size disk) → NodesStayNodes → NodesLeaveTheirFronts → TheLogIsApart → (result : Result (Unit {0}) Refusal) → IsLogged g old new result
      → (n : Node) → Holds g n old → LeavesOnly (g.history old.disk) (g.history new.disk) (IsFrontAt Means n)
  logged_leaves sized nodes law apart result h n holds =
      log_leaves g sized old n h.engine holds h.runs h.none new result h.call h.writes h.layout h.same_checkpoint h.same_kept h.same_block nodes law apart

  -- what is so of every engine is so of it then
  pub engine_then : (result : Result (Unit {0}) Refusal) → IsLogged g old new result → IsEngine old.layout old.checkpoint new.log old.kept old.block
  engine_then result h =
      let due : IsWrite (due_of old.log) = is_write g old h.engine h.none in
      subst (λ (log : Log). IsEngine old.layout old.checkpoint log old.kept old.block) (sym (h.writes.stands ∙ written_is old.log (length old.block) due)) (engine_logged g old h.engine (is_stale old.log) h.none)

-- ---- what came of it, as the caller reads it

pub record Logged {D : Type 0} (g : Ghosts D) (old new : Engine D) (result : Result (Unit {0}) Refusal) : Type 0 where
  pub call : Calls g old.disk new.disk (fault_of result)
  pub moves : Moves (facts_of g old) to_log (wrote result) (facts_of g new)
  pub steps : (n : Node) → Holds g n old → (m : Node) × Steps n to_log (wrote result) m × Holds g m new
  pub rest : new ≡ record old { disk = new.disk; log = new.log; halted = new.halted }
  pub unchanged : IfErr result (λ e. (e ≡ DiskFault) ⊎ (new ≡ old))
  pub fault : IfErr result (λ e. e ≡ DiskFault → new ≡ record old { disk = new.disk; log = written_in (due_of old.log) (length old.block) old.log; halted = Some old.log.phase })
  pub memory : IfErr result (λ e. e ≢ OutOfMemory)
  pub log : OnOk result (new.log ≡ written_in (due_of old.log) (length old.block) old.log)
  pub leaves : (n : Node) → Holds g n old → LeavesOnly (g.history old.disk) (g.history new.disk) (IsFrontAt Means n)

module _ {D : Type 0} (g : Ghosts D) (old new : Engine D) (sized : (disk : D) → g.honest disk → length (stable (g.history disk)) ≡ g.size disk) (nodes : NodesStayNodes) (law : NodesLeaveTheirFronts) (apart : TheLogIsApart)
    (rest : new ≡ record old { disk = new.disk; log = new.log; halted = new.halted }) where
  pub it_logged : (result : Result (Unit {0}) Refusal) → IsLogged g old new result → Logged g old new result
  it_logged (Ok x) h = record {
    call = h.call;
    moves = logged_moves g old new (Ok x) h;
    steps = logged_steps g old new sized nodes law apart (Ok x) h;
    rest = rest;
    unchanged = tt;
    fault = tt;
    memory = tt;
    log = h.writes.stands;
    leaves = logged_leaves g old new sized nodes law apart (Ok x) h;
  }
  it_logged (Err e) h = record {
    call = h.call;
    moves = logged_moves g old new (Err e) h;
    steps = logged_steps g old new sized nodes law apart (Err e) h;
    rest = rest;
    unchanged = inl h.writes.fault;
    fault = λ same.
        rest ∙ ap (λ (k : Log). record old { disk = new.disk; log = k; halted = new.halted }) h.writes.stands
        ∙ ap (λ (o : Option Phase). record old { disk = new.disk; log = written_in (due_of old.log) (length old.block) old.log; halted = o }) (halted_so g old new e h);
    memory = λ out. let never : DiskFault ≡ OutOfMemory = sym h.writes.fault ∙ out in absurd cc;
    log = tt;
    leaves = logged_leaves g old new sized nodes law apart (Err e) h;
  }
