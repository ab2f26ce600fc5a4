-- What a sync makes of an engine.
use Rattle.std.proofs.Common.{◌≡◌, ℕ, ◌+◌, ◌<◌, ◌≤◌, Bool, true, false, List, [], length, drop, None, Some, refl, sym, ap, subst, ◌∙◌, arith}
use Rattle.std.proofs.lemmas.List.{drop_all}
use Rattle.std.proofs.lemmas.Bool.Decides.{nat_tests}
use Rattle.std.specs.Prelude.{is_some, nat_le, min, max, if◌then◌else◌, IsTrue}
use Rattle.uuid.specs.Parts.{is_nil_bytes}
use Rattle.rep_types.specs.declared.judged.Judged.{Judged}
use Rattle.rep_types.specs.Settings.{Setting}
use Rattle.rep_layout.specs.declared.place.Layout.{Layout}
use Rattle.rep_layout.specs.declared.super_body.SuperBody.{SuperBody}
use Rattle.rep_layout.specs.Places.{layout_of}
use Rattle.rep_versions.specs.Versions.{Kept, version_at, IsPruned}
use Rattle.rep_log.specs.declared.phase.Phase.{Phase}
use Rattle.rep_log.specs.declared.phase.Phase.TheVariants.{Resting, Closing, Filling, Filled, Opening}
use Rattle.rep_log.specs.Standing.{Standing as Log, busy}
use Rattle.rep_log.specs.Moves.{synced_in, after_sync, durable_by, started}
use Rattle.rep_steps.specs.declared.event.Event.TheVariants.{Sync}
use Rattle.rep_steps.specs.Standings.{Stage, Off, Toward, Retiring, Standing, HasGoal, Flushing as To_flush, Saving as To_save, Ready as To_fill, SuperFilling as To_filling, SuperFilled as To_open, SuperOpening as To_opening}
use Rattle.rep_steps.specs.Moves.{Found, after, opening, taken, synced_phase, start_after}
use Rattle.rep_engine.proofs.Going.{behind_more, further, with_stage, with_log}
use Rattle.rep_checkpoint.specs.Syncs.{TheSyncedLogIsTheFacts}
use Rattle.rep_checkpoint.specs.declared.stage.Part.TheVariants.{Flushing, Saving, Ready, SuperFilling, SuperFilled, SuperOpening}
use Rattle.rep_checkpoint.specs.declared.stage.Stage.{Stage as Stages}
use Rattle.rep_checkpoint.specs.declared.stage.Stage.TheVariants.{Off as Off_, Toward as Toward_, Retiring as Retiring_}
use Rattle.rep_checkpoint.specs.Standing.{Standing as Checkpoint, IsCheckpoint, IsNext, stage_of}
use Rattle.rep_checkpoint.specs.Moves.{after_sync as checkpoint_after, is_opening}
use Rattle.rep_checkpoint.specs.Laws.{TheStageIsTheFacts}
use Rattle.rep_engine.specs.Engines.{Engine, IsEngine, IsWhole, HasItemsBehind, AreWithin, facts_of, durable_of, phase_at}
use Rattle.rep_engine.specs.Writing.{left_of, told_of, PrunesIf}
use Rattle.rep_disk.specs.declared.disk.Disk.{Ghosts}

-- ---- what a sync leaves of the block

none_by : (phase : Phase) (block : List Judged) → durable_by phase ≡ 0 → IsWhole phase block → (left_of phase block ≡ block) × (told_of phase block ≡ [])
none_by Resting block none whole = (refl, refl)
none_by Closing block none whole = (refl, refl)
none_by (Filling n) block none whole = (refl, refl)
none_by (Filled n) block none whole = (refl, refl)
none_by (Opening n) block none whole = absurd (omega (arith, none, whole.some))

some_by : (phase : Phase) (block : List Judged) → 0 < durable_by phase → (left_of phase block ≡ []) × (told_of phase block ≡ block)
some_by Resting block some = absurd (omega (arith, some))
some_by Closing block some = absurd (omega (arith, some))
some_by (Filling n) block some = absurd (omega (arith, some))
some_by (Filled n) block some = absurd (omega (arith, some))
some_by (Opening n) block some = (refl, refl)

pub none_synced : (l : Layout) (c : Checkpoint) (log : Log) (kept : Kept) (block : List Judged) → IsEngine l c log kept block → durable_by log.phase ≡ 0 → (left_of log.phase block ≡ block) × (told_of log.phase block ≡ [])
none_synced l c log kept block h none = none_by log.phase block none h.whole

pub some_synced : (log : Log) (block : List Judged) → 0 < durable_by log.phase → (left_of log.phase block ≡ []) × (told_of log.phase block ≡ block)
some_synced log block some = some_by log.phase block some

-- ---- what is so of an engine goes on being so

module _ (l : Layout) (c : Checkpoint) (log : Log) (kept : Kept) (block : List Judged) (h : IsEngine l c log kept block) where
  synced_by : (phase : Phase) → log.phase ≡ phase → IsWhole phase block → log.next + busy phase ≤ log.start + log.cells → IsEngine l c (synced_in log phase) kept (left_of phase block)
  synced_by Resting e whole room = h
  synced_by Closing e whole room = with_log l c log kept block h (synced_in log Closing) refl refl refl refl (omega (arith, room)) tt
  synced_by (Filling n) e whole room = with_log l c log kept block h (synced_in log (Filling n)) refl refl refl refl room (record { all = whole.all; some = whole.some })
  synced_by (Filled n) e whole room = h
  synced_by (Opening n) e whole room = record {
    checkpoint = h.checkpoint;
    layout = h.layout;
    cells = h.cells;
    start = h.start;
    behind = omega (arith, h.behind);
    begun = omega (arith, h.begun);
    room = omega (arith, room);
    goal = further c.base.position (stage_of c) (omega arith) refl (omega arith) h.goal;
    items = omega (arith, h.items, whole.some);
    behind_goal = behind_more (stage_of c) log (synced_in log (Opening n)) (omega (arith, whole.some)) h.behind_goal;
    follow = tt;
    fits = refl;
    few = omega arith;
    whole = tt;
    limit = omega (arith, h.limit, whole.all);
    undefined = λ nil. absurd (omega (arith, ap length (h.undefined nil).1, whole.all, whole.some));
    within = λ key s version stands. let at = h.within key s version stands in (at.0, omega (arith, at.1, whole.all, h.behind));
  }

  pub engine_synced : IsEngine l c (after_sync log) kept (left_of log.phase block)
  engine_synced = synced_by log.phase refl h.whole h.room

-- ---- and so it does where the base rises

-- the log starts where it did
started_same : (log : Log) (start : ℕ) → start ≡ log.start → log.start ≤ log.next → started start log ≡ log
started_same log start same le = ap (λ i. record log { start = i }) (omega (arith, same, le))

started_later : (log : Log) (start : ℕ) → log.start ≤ start → start ≤ log.next → started start log ≡ record log { start = start }
started_later log start above le = ap (λ i. record log { start = i }) (omega (arith, above, le))

-- versions up to the base are gone
pub within_pruned : (base position last : ℕ) (before after : Kept) → AreWithin base last before → IsPruned position before after → AreWithin position last after
within_pruned base position last before after h pruned key s version stands = by (nat_le s position) refl
  where
    by : (b : Bool) → nat_le s position ≡ b → (position < s) × (s ≤ last)
    by true is = let gone : None ≡ Some version = sym (ap (λ b. if b then None else version_at before key s) is) ∙ sym (pruned key s) ∙ stands in absurd cc
    by false is =
        let there : version_at before key s ≡ Some version = sym (ap (λ b. if b then None else version_at before key s) is) ∙ sym (pruned key s) ∙ stands in
        (grind (arith, nat_tests, is), (h key s version there).1)

module _ (l : Layout) (b : SuperBody) (log : Log) (kept after : Kept) (block : List Judged) where
  abbrev at : Stages → Checkpoint
  at stage = record { base = b; stage = stage }

  -- the base stays, with the log as it was
  keeps : (stage next : Stages) → IsEngine l (at stage) log kept block → IsCheckpoint (at next) → HasGoal b.position (durable_of log) log.start log.next (stage_of (at next)) → HasItemsBehind (stage_of (at next)) log → after ≡ kept → IsEngine l (at next) (started b.start log) after block
  keeps stage next h is goal behind same =
      subst (λ (k : Log). IsEngine l (at next) k after block) (sym (started_same log b.start (sym h.start) h.begun)) (subst (λ (k : Kept). IsEngine l (at next) log k block) (sym same) (with_stage l (at stage) log kept block h next is goal behind))

  raised_by : (stage : Stages) → IsEngine l (at stage) log kept block → IsCheckpoint (checkpoint_after (at stage)) → PrunesIf (is_opening stage) (checkpoint_after (at stage)).base.position kept after
      → IsEngine l (checkpoint_after (at stage)) (started (checkpoint_after (at stage)).base.start log) after block
  raised_by Off_ h is pruned = keeps Off_ Off_ h is tt tt pruned
  raised_by (Toward_ next Flushing) h is pruned = keeps (Toward_ next Flushing) (Toward_ next Flushing) h is h.goal h.behind_goal pruned
  raised_by (Toward_ next Saving) h is pruned = keeps (Toward_ next Saving) (Toward_ next Ready) h is (record { above = h.goal.above; within = h.goal.within; started = h.goal.started; begun = h.goal.begun }) h.behind_goal pruned
  raised_by (Toward_ next Ready) h is pruned = keeps (Toward_ next Ready) (Toward_ next Ready) h is h.goal h.behind_goal pruned
  raised_by (Toward_ next SuperFilling) h is pruned = keeps (Toward_ next SuperFilling) (Toward_ next SuperFilled) h is (record { above = h.goal.above; within = h.goal.within; started = h.goal.started; begun = h.goal.begun }) h.behind_goal pruned
  raised_by (Toward_ next SuperFilled) h is pruned = keeps (Toward_ next SuperFilled) (Toward_ next SuperFilled) h is h.goal h.behind_goal pruned
  raised_by (Toward_ next SuperOpening) h is pruned =
      let follows : IsNext b next = h.checkpoint.going in
      subst (λ (k : Log). IsEngine l (record { base = next.super; stage = Retiring_ false }) k after block) (sym (started_later log next.super.start h.goal.started h.goal.begun)) (record {
        checkpoint = is;
        layout = h.layout ∙ ap layout_of (sym follows.params);
        cells = h.cells ∙ ap (λ (p : Setting). p.cells) (sym follows.params);
        start = refl;
        behind = omega (arith, h.goal.within, h.behind);
        begun = h.goal.begun;
        room = omega (arith, h.room, h.goal.started);
        items = h.behind_goal;
        goal = tt;
        behind_goal = tt;
        follow = h.follow;
        fits = h.fits;
        few = h.few;
        whole = h.whole;
        limit = h.limit;
        undefined = λ nil. h.undefined (subst (λ (u : List ℕ). IsTrue (is_nil_bytes u)) follows.uuid nil);
        within = within_pruned b.position next.super.position (durable_of log + length block) kept after h.within pruned;
      })
  raised_by (Retiring_ false) h is pruned = keeps (Retiring_ false) (Retiring_ false) h is tt tt pruned
  raised_by (Retiring_ true) h is pruned = keeps (Retiring_ true) Off_ h is tt tt pruned

pub engine_raised : (l : Layout) (c d : Checkpoint) (log next : Log) (kept after : Kept) (block : List Judged) (rose : Bool) → IsEngine l c log kept block → d ≡ checkpoint_after c → IsCheckpoint d → rose ≡ is_opening c.stage → PrunesIf rose d.base.position kept after
    → next ≡ started d.base.start log → IsEngine l d next after block
engine_raised l c d log next kept after block rose h is here same pruned starts =
    let checkpoint : IsCheckpoint (checkpoint_after c) = subst IsCheckpoint is here in
    let gone : PrunesIf (is_opening c.stage) (checkpoint_after c).base.position kept after = subst (λ b. PrunesIf b (checkpoint_after c).base.position kept after) same (subst (λ (k : Checkpoint). PrunesIf rose k.base.position kept after) is pruned) in
    subst (λ (k : Log). IsEngine l d k after block) (sym starts)
    (subst (λ (k : Checkpoint). IsEngine l k (started k.base.start log) after block) (sym is) (raised_by l c.base log kept after block c.stage h checkpoint gone))

-- ---- the facts after it

durable_synced : (log : Log) (phase : Phase) → 0 < log.seqno → durable_of (synced_in log phase) ≡ durable_of log + opening phase
durable_synced log Resting some = omega arith
durable_synced log Closing some = omega arith
durable_synced log (Filling n) some = omega arith
durable_synced log (Filled n) some = omega arith
durable_synced log (Opening n) some = omega (arith, some)

pub ahead_synced : (phase : Phase) (block : List Judged) → IsWhole phase block → left_of phase block ≡ drop (opening phase) block
ahead_synced Resting block whole = refl
ahead_synced Closing block whole = refl
ahead_synced (Filling n) block whole = refl
ahead_synced (Filled n) block whole = refl
ahead_synced (Opening n) block whole = sym (drop_all n block (omega (arith, whole.all)))

-- where the log starts after it
start_raised : (laws : TheStageIsTheFacts) (l : Layout) (c : Checkpoint) (log : Log) (kept : Kept) (block : List Judged) → IsEngine l c log kept block → max log.start (min (checkpoint_after c).base.start log.next) ≡ start_after log.start (stage_of c)
start_raised laws l c log kept block h =
    ap (λ i. max log.start (min i log.next)) (laws.start c) ∙ by (stage_of c) h.goal ∙ ap (λ i. start_after i (stage_of c)) (sym h.start)
  where
    by : (stage : Stage) → HasGoal c.base.position (durable_of log) log.start log.next stage → max log.start (min (start_after c.base.start stage) log.next) ≡ start_after c.base.start stage
    by Off goal = omega (arith, h.start, h.begun)
    by (Toward to (To_flush left)) goal = omega (arith, h.start, h.begun)
    by (Toward to To_save) goal = omega (arith, h.start, h.begun)
    by (Toward to To_fill) goal = omega (arith, h.start, h.begun)
    by (Toward to To_filling) goal = omega (arith, h.start, h.begun)
    by (Toward to To_open) goal = omega (arith, h.start, h.begun)
    by (Toward to To_opening) goal = omega (arith, goal.started, goal.begun)
    by (Retiring written) goal = omega (arith, h.start, h.begun)

standing_is : (s : Standing) (uuid : List ℕ) (setting : Setting) (base durable next start : ℕ) (ahead : List Judged) (phase : Phase) (stage : Stage) (stopped : Bool)
    → uuid ≡ s.uuid → setting ≡ s.setting → base ≡ s.base → durable ≡ s.durable → ahead ≡ s.ahead → phase ≡ s.phase → next ≡ s.next → start ≡ s.start → stage ≡ s.stage → stopped ≡ s.stopped
    → record s { uuid = uuid; setting = setting; base = base; durable = durable; ahead = ahead; phase = phase; next = next; start = start; stage = stage; stopped = stopped } ≡ s
standing_is s uuid setting base durable next start ahead phase stage stopped i j a b c d e f g h = rw i (rw j (rw a (rw b (rw c (rw d (rw e (rw f (rw g (rw h refl)))))))))

pub facts_synced : {D : Type 0} (g : Ghosts D) (laws : TheStageIsTheFacts) (of_log : TheSyncedLogIsTheFacts) (e new : Engine D) (f : Found) → IsEngine e.layout e.checkpoint e.log e.kept e.block → e.halted ≡ None → new.halted ≡ None → g.failures new.disk ≡ g.failures e.disk
    → new.checkpoint ≡ checkpoint_after e.checkpoint → new.log ≡ started (checkpoint_after e.checkpoint).base.start (after_sync e.log) → new.block ≡ left_of e.log.phase e.block
    → (checkpoint_after e.checkpoint).base.uuid ≡ e.checkpoint.base.uuid → (checkpoint_after e.checkpoint).base.params ≡ e.checkpoint.base.params → facts_of g new ≡ after (facts_of g e) Sync f
facts_synced g laws of_log e new f h runs still rose checkpoint log block uuid params =
    let s : Standing = after (facts_of g e) Sync f in
    let p = e.log.phase in
    let c = checkpoint_after e.checkpoint in
    let held = engine_synced e.layout e.checkpoint e.log e.kept e.block h in
    let phase : p ≡ phase_at p e.halted = sym (ap (phase_at p) runs) in
    let start : (started c.base.start (after_sync e.log)).start ≡ s.start =
    start_raised laws e.layout e.checkpoint (after_sync e.log) e.kept (left_of p e.block) held ∙ ap (λ i. start_after i (stage_of e.checkpoint)) (of_log.start e.log) in
    let is = standing_is s c.base.uuid c.base.params c.base.position (durable_of (after_sync e.log)) (after_sync e.log).next (started c.base.start (after_sync e.log)).start (left_of p e.block) (after_sync e.log).phase (stage_of c) false
    uuid params (laws.base e.checkpoint) (durable_synced e.log p (omega (arith, h.behind)) ∙ ap (λ q. durable_of e.log + opening q) phase) (ahead_synced p e.block h.whole ∙ ap (λ q. drop (opening q) e.block) phase)
    (of_log.phase e.log ∙ ap synced_phase phase) (of_log.next e.log ∙ ap (λ q. e.log.next + taken q) phase) start (laws.synced e.checkpoint) (sym (ap is_some runs)) in
    rw log (rw block (rw checkpoint (rw rose (rw still is))))
