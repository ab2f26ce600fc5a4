-- A sync of an engine that stands for a node.
use Rattle.std.proofs.Common.{◌≡◌, zero, suc, ℕ, ◌+◌, ◌≤◌, ◌<◌, ◌%◌, Bool, true, false, List, [], ◌∷◌, length, take, drop, map, get_or, cond, eqb, get_or-set_same, get_or-set_other, None, Some, Result, refl, sym, ap, subst, ◌∙◌, arith}
use Rattle.std.specs.Prelude.{is_some, slice_set, IsOk}
use Rattle.std.proofs.lemmas.Bool.{eqb-true}
use Rattle.std.proofs.lemmas.Bool.Decides.{nat_tests}
use Rattle.std.proofs.lemmas.Nat.{mod_below}
use Rattle.std.proofs.lemmas.List.{take_all}
use Rattle.rep_types.specs.declared.judged.Judged.{Judged}
use Rattle.rep_types.specs.declared.reply.Reply.{Reply}
use Rattle.rep_types.specs.declared.refusal.Refusal.{Refusal}
use Rattle.rep_types.specs.declared.refusal.Refusal.TheVariants.{DiskFault}
use Rattle.rep_types.specs.declared.verdict.Verdict.TheVariants.{Commit}
use Rattle.rep_types.specs.declared.value.Write.{Write}
use Rattle.rep_types.specs.Settings.{Setting}
use Rattle.rep_types.specs.Replies.{reply_of}
use Rattle.rep_types.proofs.Choices.{of_success}
use Rattle.rep_disk.specs.declared.disk.Disk.{Ghosts}
use Rattle.rep_disk.specs.History.{stable, IsImage}
use Rattle.rep_disk.specs.declared.disk.DiskFault.{DiskFault as Fault}
use Rattle.rep_disk.specs.Calls.{Rises}
use Rattle.rep_disk.specs.Moments.{LeavesOnly}
use Rattle.rep_disk.specs.Leaving.{leaves_weaker}
use Rattle.rep_disk.specs.Devices.{Calls}
use Rattle.rep_layout.specs.declared.place.Layout.{Layout}
use Rattle.rep_layout.specs.declared.super_body.SuperBody.{SuperBody}
use Rattle.rep_layout.specs.Places.{layout_of}
use Rattle.rep_cells.specs.Readings.{reading_of}
use Rattle.rep_cells.specs.States.{Allowed}
use Rattle.rep_cells.specs.Calls.{Settled, Settles}
use Rattle.rep_cells.specs.Known.{Assigns}
use Rattle.rep_cells.specs.Laws.{ImagesReadAsAllowed}
use Rattle.rep_versions.specs.Versions.{Kept, IsPruned}
use Rattle.rep_versions.specs.Following.{AreVersionsOf, VersionsFollowTheItems, effect_of}
use Rattle.rep_log.specs.declared.phase.Phase.{Phase}
use Rattle.rep_log.specs.declared.phase.Phase.TheVariants.{Resting, Closing, Filling, Filled, Opening}
use Rattle.rep_log.specs.Standing.{Standing as Log, stands_at, index_of}
use Rattle.rep_log.specs.Moves.{SyncsLog, StartsLater, started, after_sync, synced_in}
use Rattle.rep_steps.specs.declared.event.Event.TheVariants.{Sync as to_sync}
use Rattle.rep_steps.specs.declared.answer.Answer.TheVariants.{Synced, Refused}
use Rattle.rep_steps.specs.Standings.{Standing}
use Rattle.rep_steps.specs.Moves.{Found, Moves, after, opening, base_after, replies as replies_of}
use Rattle.rep_steps.specs.Nodes.{Node, IsNode, Steps, NodesStayNodes, cell, found, moved, passed, gate_at}
use Rattle.rep_steps.specs.Images.{IsFrontAt}
use Rattle.rep_steps.specs.Judging.{JudgingGoesOn}
use Rattle.rep_checkpoint.specs.Meanings.{Means}
use Rattle.rep_checkpoint.specs.Syncs.{TheSyncedLogIsTheFacts}
use Rattle.rep_checkpoint.specs.declared.stage.Part.TheVariants.{Flushing, Saving, Ready, SuperFilling, SuperFilled, SuperOpening}
use Rattle.rep_checkpoint.specs.declared.stage.Stage.{Stage as Stages}
use Rattle.rep_checkpoint.specs.declared.stage.Stage.TheVariants.{Off, Toward, Retiring}
use Rattle.rep_checkpoint.specs.Standing.{Standing as Checkpoint, stage_of}
use Rattle.rep_checkpoint.specs.Moves.{after_sync as checkpoint_after, is_opening}
use Rattle.rep_checkpoint.specs.Calls.{SyncsTo}
use Rattle.rep_checkpoint.specs.Laws.{TheStageIsTheFacts}
use Rattle.rep_checkpoint.specs.Nodes.{StandsAs, NodesLeaveTheirFronts, NodesSettle}
use Rattle.rep_engine.specs.Engines.{Engine, IsEngine, IsWhole, facts_of, phase_at}
use Rattle.rep_engine.specs.Writing.{left_of, told_of, PrunesIf}
use Rattle.rep_engine.specs.Holding.{Stands as Standing_so, Holds}
use Rattle.rep_engine.proofs.Steps.{done_moves, done_steps, fault_steps, halted_node}
use Rattle.rep_engine.proofs.Standing.{places, same_front, fronts_of}
use Rattle.rep_engine.proofs.Syncing.{facts_synced}

-- ---- the versions

drop_effects : (k : ℕ) (js : List Judged) → map effect_of (drop k js) ≡ drop k (map effect_of js)
drop_effects zero js = refl
drop_effects (suc k) [] = refl
drop_effects (suc k) (j ∷ js) = drop_effects k js

-- but where its gate opens the next base leaves the one that stands
still_base : (b : SuperBody) (stage : Stages) → is_opening stage ≡ false → (checkpoint_after (record { base = b; stage = stage })).base ≡ b
still_base b Off not = refl
still_base b (Toward next Flushing) not = refl
still_base b (Toward next Saving) not = refl
still_base b (Toward next Ready) not = refl
still_base b (Toward next SuperFilling) not = refl
still_base b (Toward next SuperFilled) not = refl
still_base b (Toward next SuperOpening) not = absurd cc
still_base b (Retiring false) not = refl
still_base b (Retiring true) not = refl

-- those behind the base that then stands are left
versions_left : VersionsFollowTheItems → (c : Checkpoint) (base past : ℕ) (items : List Judged) (before after : Kept) → base ≡ c.base.position → (checkpoint_after c).base.position ≡ base + past → AreVersionsOf base (map effect_of items) before
    → (b : Bool) → is_opening c.stage ≡ b → PrunesIf b (checkpoint_after c).base.position before after → AreVersionsOf (base + past) (map effect_of (drop past items)) after
versions_left law c base past items before after at later versions true is pruned =
    let left = law.pruned base (base + past) (map effect_of items) before after (omega arith) versions (subst (λ i. IsPruned i before after) later pruned) in
    subst (λ (cs : List (List Write)). AreVersionsOf (base + past) cs after) (ap (λ i. drop i (map effect_of items)) (omega arith) ∙ sym (drop_effects past items)) left
versions_left law c base past items before after at later versions false is same =
    let none : past ≡ 0 = omega (arith, at, later, ap (λ (b : SuperBody). b.position) (still_base c.base c.stage is)) in
    subst (λ i. AreVersionsOf (base + i) (map effect_of (drop i items)) after) (sym none)
    (subst (λ i. AreVersionsOf i (map effect_of items) after) (omega arith) (subst (AreVersionsOf base (map effect_of items)) (sym same) versions))

-- ---- how a sync comes out

-- A sync of an engine that runs, and what it leaves.
pub record IsSynced {D : Type 0} (g : Ghosts D) (old new : Engine D) (result : Result (List Reply) Refusal) (answer : Result (Unit {0}) Fault) : Type 0 where
  pub engine : IsEngine old.layout old.checkpoint old.log old.kept old.block
  pub runs : old.halted ≡ None
  pub call : Calls g old.disk new.disk answer
  pub settles : Settles g old.layout old.disk new.disk answer
  pub layout : new.layout ≡ old.layout

-- The device did it: log and checkpoint moved on, what lies below the base went, and these are the replies.
pub record GoesOn {D : Type 0} (old new : Engine D) (told : List Reply) : Type 0 where
  pub runs : new.halted ≡ None
  pub synced : Log
  pub synced_is : synced ≡ after_sync old.log
  pub syncs : SyncsLog old.log synced
  pub checkpoint : new.checkpoint ≡ checkpoint_after old.checkpoint
  pub states : SyncsTo old.checkpoint new.checkpoint
  pub uuid : new.checkpoint.base.uuid ≡ old.checkpoint.base.uuid
  pub params : new.checkpoint.base.params ≡ old.checkpoint.base.params
  pub log : new.log ≡ started new.checkpoint.base.start synced
  pub later : StartsLater synced new.log
  pub kept : PrunesIf (is_opening old.checkpoint.stage) new.checkpoint.base.position old.kept new.kept
  pub block : new.block ≡ left_of old.log.phase old.block
  pub replies : told ≡ map reply_of (told_of old.log.phase old.block)

-- It failed: all is as it was.
pub record Halts {D : Type 0} (old new : Engine D) : Type 0 where
  pub halted : new.halted ≡ Some old.log.phase
  pub checkpoint : new.checkpoint ≡ old.checkpoint
  pub log : new.log ≡ old.log
  pub block : new.block ≡ old.block

-- the items whose gate opened are those that are told
told_is : (phase : Phase) (block : List Judged) → IsWhole phase block → told_of phase block ≡ take (opening phase) block
told_is Resting block whole = refl
told_is Closing block whole = refl
told_is (Filling n) block whole = refl
told_is (Filled n) block whole = refl
told_is (Opening n) block whole = sym (take_all n block (omega (arith, whole.all)))

-- the gates that the log then knows of
set_by : (test : Bool) (stands : List Bool) (gates : ℕ → Bool) (i j : ℕ) (b : Bool) → eqb j i ≡ test → i < length stands → gates j ≡ get_or stands j false → cond test b (gates j) ≡ get_or (slice_set stands i b) j false
set_by true stands gates i j b is there known = let same : j ≡ i = eqb-true j i is in sym (ap (λ k. get_or (slice_set stands i b) k false) same ∙ get_or-set_same stands i b false there)
set_by false stands gates i j b is there known = known ∙ sym (get_or-set_other stands i j b false (λ e. let no : eqb i i ≡ false = ap (λ k. eqb k i) (sym e) ∙ is in absurd (grind (arith, nat_tests))))

gates_by : (log : Log) (gates : ℕ → Bool) (phase : Phase) (j : ℕ) → index_of log < length log.stands → ((i : ℕ) → gates i ≡ stands_at log i) → gate_at phase (index_of log) gates j ≡ stands_at (synced_in log phase) j
gates_by log gates Resting j there known = known j
gates_by log gates Closing j there known = set_by (eqb j (index_of log)) log.stands gates (index_of log) j false refl there (known j)
gates_by log gates (Filling n) j there known = known j
gates_by log gates (Filled n) j there known = known j
gates_by log gates (Opening n) j there known = set_by (eqb j (index_of log)) log.stands gates (index_of log) j true refl there (known j)

module _ {D : Type 0} (g : Ghosts D) (sized : (disk : D) → g.honest disk → length (stable (g.history disk)) ≡ g.size disk) (laws : TheStageIsTheFacts)
    (old new : Engine D) (result : Result (List Reply) Refusal) (answer : Result (Unit {0}) Fault) (h : IsSynced g old new result answer) where
  -- the log after it, and the facts
  log_after : (replies : List Reply) → GoesOn old new replies → new.log ≡ started (checkpoint_after old.checkpoint).base.start (after_sync old.log)
  log_after replies on = on.log ∙ ap (started new.checkpoint.base.start) on.synced_is ∙ ap (λ (c : Checkpoint). started c.base.start (after_sync old.log)) on.checkpoint

  facts_after : TheSyncedLogIsTheFacts → (replies : List Reply) (f : Found) → IsOk answer → GoesOn old new replies → facts_of g new ≡ after (facts_of g old) to_sync f
  facts_after of_log replies f ok on =
      facts_synced g laws of_log old new f h.engine h.runs on.runs (h.call.no_cause ok) on.checkpoint (log_after replies on) on.block
      (ap (λ (c : Checkpoint). c.base.uuid) (sym on.checkpoint) ∙ on.uuid) (ap (λ (c : Checkpoint). c.base.params) (sym on.checkpoint) ∙ on.params)

  -- on any device
  pub synced_moves : TheSyncedLogIsTheFacts → (replies : List Reply) → IsOk answer → GoesOn old new replies → Moves (facts_of g old) to_sync (Synced replies) (facts_of g new)
  synced_moves of_log replies ok on =
      let found : Found = record { verdict = Commit; stale = false; left = []; row = None } in
      let phase : old.log.phase ≡ phase_at old.log.phase old.halted = sym (ap (phase_at old.log.phase) h.runs) in
      let told : replies ≡ replies_of (facts_of g old) = on.replies ∙ ap (map reply_of) (told_is old.log.phase old.block h.engine.whole ∙ ap (λ p. take (opening p) old.block) phase) in
      subst (λ rs. Moves (facts_of g old) to_sync (Synced rs) (facts_of g new)) (sym told)
      (done_moves (facts_of g old) to_sync found (facts_of g new) (ap is_some h.runs) refl (facts_after of_log replies found ok on))

  module _ (n : Node) (holds : Holds g n old) where
    there : Standing_so g n old
    there = holds.runs h.runs

    settled : Settled (places old) (g.history old.disk) (g.history new.disk) there.states answer
    settled =
        let assigns : Assigns (places old) (g.history old.disk) there.states = subst (λ k. Assigns k (g.history old.disk) there.states) h.engine.layout there.assigns in
        (subst (λ k. Settles g k old.disk new.disk answer) h.engine.layout h.settles) holds.is_honest there.states assigns

    size_stays : length (stable (g.history new.disk)) ≡ length (stable (g.history old.disk))
    size_stays = sized new.disk (h.call.stays_honest holds.is_honest) ∙ h.call.same_size ∙ sym (sized old.disk holds.is_honest)

    runs_on : n.facts.stopped ≡ false
    runs_on = ap (λ (s : Standing). s.stopped) holds.facts ∙ ap is_some h.runs

    abbrev after_it : Node
    after_it = moved n to_sync

    phase_is : n.facts.phase ≡ old.log.phase
    phase_is = ap (λ (s : Standing). s.phase) holds.facts ∙ ap (phase_at old.log.phase) h.runs

    cell_is : cell n.facts ≡ index_of old.log
    cell_is = ap (λ k. k % n.facts.setting.cells) (ap (λ (s : Standing). s.next) holds.facts) ∙ ap (λ k. old.log.next % k) (ap (λ (s : Standing). s.setting.cells) holds.facts ∙ sym h.engine.cells)

    -- at each moment, and where it failed
    images : (image : List ℕ) → IsImage (g.history new.disk) image → IsFrontAt Means n image
    images image here = holds.images image (settled.fewer image here)

    pub sync_leaves : LeavesOnly (g.history old.disk) (g.history new.disk) (IsFrontAt Means n)
    sync_leaves = leaves_weaker (g.history old.disk) (g.history new.disk) images settled.reaches.moments

    pub sync_halts : NodesStayNodes → Rises (g.failures old.disk) (g.failures new.disk) → Halts old new → (m : Node) × Steps n to_sync (Refused DiskFault) m × Holds g m new
    sync_halts nodes rises halts =
        let steps = fault_steps n to_sync (g.failures new.disk) runs_on refl refl (subst (λ k. Rises k (g.failures new.disk)) (sym (ap (λ (s : Standing). s.failures) holds.facts)) rises) in (
          halted_node (g.failures new.disk) n,
          steps,
          record {
            is_honest = h.call.stays_honest holds.is_honest;
            facts = rw holds.facts (rw halts.halted (rw halts.checkpoint (rw halts.block (rw halts.log (rw h.runs refl)))));
            node = nodes n (halted_node (g.failures new.disk) n) to_sync (Refused DiskFault) holds.node steps;
            runs = λ on. let never : Some old.log.phase ≡ None = sym halts.halted ∙ on in absurd cc;
            images = λ image here. same_front n (halted_node (g.failures new.disk) n) image refl refl refl refl refl (images image here);
          },
        )

    module _ (nodes : NodesStayNodes) (law : NodesLeaveTheirFronts) (settle : NodesSettle) (follow : VersionsFollowTheItems) (reads : ImagesReadAsAllowed) (goes : JudgingGoesOn) (of_log : TheSyncedLogIsTheFacts) (replies : List Reply) (ok : IsOk answer) (on : GoesOn old new replies) where
      steps : Steps n to_sync (Synced replies) after_it
      steps =
          let told : replies ≡ replies_of n.facts =
          on.replies ∙ ap (map reply_of) (told_is old.log.phase old.block h.engine.whole ∙ ap (λ p. take (opening p) old.block) (sym phase_is) ∙ ap (take (opening n.facts.phase)) (sym (ap (λ (s : Standing). s.ahead) holds.facts))) in
          subst (λ rs. Steps n to_sync (Synced rs) after_it) (sym told) (done_steps n to_sync runs_on refl)

      is_node : IsNode after_it
      is_node = nodes n after_it to_sync (Synced replies) holds.node steps

      abbrev held : (held : List (List Judged)) × (coming : List Judged) × StandsAs after_it (length (stable (g.history old.disk))) new.checkpoint new.log held coming settled.after
      held =
          settle n (length (stable (g.history old.disk))) old.checkpoint new.checkpoint old.log on.synced new.log there.blocks there.sealed there.states settled.after holds.node (ap (λ (s : Standing). s.stage) holds.facts) there.stands settled.syncs
          on.checkpoint on.states on.synced_is on.syncs on.log on.later

      -- where the base then is
      at_base : n.base.position ≡ old.checkpoint.base.position
      at_base = there.stands.checkpoint.base.position

      position : (checkpoint_after old.checkpoint).base.position ≡ n.base.position + passed n.facts
      position =
          let base : base_after n.facts.base n.facts.stage ≡ (checkpoint_after old.checkpoint).base.position =
          ap (base_after n.facts.base) (ap (λ (s : Standing). s.stage) holds.facts) ∙ ap (λ i. base_after i (stage_of old.checkpoint)) (ap (λ (s : Standing). s.base) holds.facts) ∙ sym (laws.base old.checkpoint) in
          let rises : n.base.position ≤ after_it.base.position = omega (arith, goes.reached_position n.facts.setting n.base (take (passed n.facts) n.items)) in
          let there_then : after_it.base.position ≡ (checkpoint_after old.checkpoint).base.position = held.2.checkpoint.base.position ∙ ap (λ (c : Checkpoint). c.base.position) on.checkpoint in
          omega (arith, base, rises, there_then, holds.node.position)

      versions : AreVersionsOf after_it.base.position (map effect_of after_it.items) new.kept
      versions =
          let pruned : PrunesIf (is_opening old.checkpoint.stage) (checkpoint_after old.checkpoint).base.position old.kept new.kept =
          subst (λ (c : Checkpoint). PrunesIf (is_opening old.checkpoint.stage) c.base.position old.kept new.kept) on.checkpoint on.kept in
          let left = versions_left follow old.checkpoint n.base.position (passed n.facts) n.items old.kept new.kept at_base position there.versions (is_opening old.checkpoint.stage) refl pruned in
          subst (λ i. AreVersionsOf i (map effect_of after_it.items) new.kept) (sym (held.2.checkpoint.base.position ∙ ap (λ (c : Checkpoint). c.base.position) on.checkpoint ∙ position)) left

      there_after : Standing_so g after_it new
      there_after = record {
        states = settled.after;
        assigns = subst (λ (k : Layout). Assigns k (g.history new.disk) settled.after) (sym (h.layout ∙ h.engine.layout)) (of_success answer ok settled.reaches.ok);
        blocks = held.0;
        sealed = held.1;
        stands = subst (λ k. StandsAs after_it k new.checkpoint new.log held.0 held.1 settled.after) (sym size_stays) held.2;
        versions = versions;
        gates = λ i.
            ap (λ p. gate_at p (cell n.facts) n.gates i) phase_is ∙ ap (λ k. gate_at old.log.phase k n.gates i) cell_is
            ∙ gates_by old.log n.gates old.log.phase i (omega (arith, index_small, there.stands.log_is.known, there.stands.log_is.cells)) there.gates ∙ ap (λ (k : Log). stands_at k i) (sym (log_after replies on));
      }
        where
          index_small : index_of old.log < old.log.cells
          index_small = mod_below old.log.next old.log.cells (omega (arith, there.stands.log_is.some, there.stands.log_is.cells))

      pub sync_holds : (m : Node) × Steps n to_sync (Synced replies) m × Holds g m new
      sync_holds = (
        after_it,
        steps,
        record {
          is_honest = h.call.stays_honest holds.is_honest;
          facts = ap (λ (s : Standing). after s to_sync (found n to_sync)) holds.facts ∙ sym (facts_after of_log replies (found n to_sync) ok on);
          node = is_node;
          runs = λ still. there_after;
          images = fronts_of law after_it (g.history new.disk) (length (stable (g.history old.disk))) new.checkpoint new.log held.0 held.1 settled.after is_node held.2 size_stays
              (λ image here. subst (λ (p : Setting). Allowed (layout_of p) settled.after (reading_of (layout_of p) image)) (sym on.params) (reads (places old) (g.history new.disk) settled.after image (of_success answer ok settled.reaches.ok) here));
        },
      )
