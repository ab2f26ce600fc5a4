-- The two steps that retire a superblock: what they leave of a replica that waits for nothing else.
use Rattle.std.proofs.Common.{◌≡◌, ◌⊎◌, inl, inr, ℕ, ◌+◌, ◌-◌, true, false, List, Option, None, Result, Ok, refl, sym, ap, subst, ◌∙◌, arith}
use Rattle.std.specs.Prelude.{◌≢◌, MatchOption}
use Rattle.rep_types.specs.declared.refusal.Refusal.{Refusal}
use Rattle.rep_types.specs.declared.refusal.Refusal.TheVariants.{Stopped, OutOfMemory, DiskFault, Corrupt}
use Rattle.rep_types.specs.declared.refusal.Part.TheVariants.{Pages}
use Rattle.rep_disk.specs.declared.disk.Disk.{Ghosts}
use Rattle.rep_disk.specs.History.{History, Begins, Wrote as Written, Spoiled, Synced as Stable, IsImage}
use Rattle.rep_disk.specs.Moments.{LeavesOnly, ImageSince, moment}
use Rattle.rep_disk.specs.Leaving.{leaves_then}
use Rattle.rep_log.specs.declared.phase.Phase.TheVariants.{Resting}
use Rattle.rep_steps.specs.declared.event.Event.{Event}
use Rattle.rep_steps.specs.declared.event.Event.TheVariants.{Sync, Check}
use Rattle.rep_steps.specs.declared.answer.Answer.{Answer}
use Rattle.rep_steps.specs.declared.answer.Answer.TheVariants.{Refused}
use Rattle.rep_steps.specs.Standings.{Standing, Stage, Off, Retiring, refusal, check_refusal}
use Rattle.rep_steps.specs.Moves.{Moves, Fails, answer, checked}
use Rattle.rep_steps.specs.Nodes.{Node, Steps, found, moved}
use Rattle.rep_steps.specs.FactLaws.{after_serves}
use Rattle.rep_steps.specs.Images.{IsFrontAt}
use Rattle.rep_recover.specs.Meanings.{Means}
use Rattle.rep_replica.specs.Replicas.{Replica, facts_of}
use Rattle.rep_replica.specs.Holding.{Holds, IsStep}
use Rattle.rep_replica.specs.Refusing.{IsFaultToldBy, TellsFaults}
use Rattle.rep_replica.specs.Settling.{IsRunning, outcome_of}
use Rattle.rep_replica.specs.Installing.{LeavesFronts}
use Rattle.rep_replica.proofs.Settling.{refused_done, went_by, done_by, not_refused, answer_done, runs_on}
use Rattle.rep_replica.proofs.Widening.{whole_front}

-- ---- how a step comes out

pub stopped_is_none : Stopped ≢ DiskFault
stopped_is_none is = cc

memory_is_none : OutOfMemory ≢ DiskFault
memory_is_none is = cc

corrupt_is_none : Corrupt Pages ≢ DiskFault
corrupt_is_none is = cc

pub told_of_none : (old new : ℕ) (e : Refusal) → e ≢ DiskFault → new ≡ old → IsFaultToldBy old new e
told_of_none old new e other same = record { fault = λ is. absurd (other is); no_fault = λ not. same }

-- a step tells the device's fault exactly where there was one
pub step_tells : (s t : Standing) (e : Event) (a : Answer) → refusal s e ≡ None → Moves s e a t → TellsFaults s.failures t.failures (outcome_of a)
step_tells s t e a none m = elim (went_by s t e a none m) [
  | inl went ↦ subst Told (sym went.1) (subst (λ (o : Result (Unit {0}) Refusal). TellsFaults s.failures t.failures o) (sym (answer_done s e went.0)) (ap (λ (u : Standing). u.failures) went.2 ∙ (after_serves s e went.0).failures))
  | inr failed ↦ elim failed [
    | inl why ↦ elim why [
      | inl hungry ↦ subst Told (sym hungry.1) (told_of_none s.failures t.failures OutOfMemory memory_is_none (ap (λ (u : Standing). u.failures) hungry.2))
      | inr fault ↦ subst Told (sym fault.1) (record { fault = λ is. fault.2; no_fault = λ not. absurd (not refl) })
    ]
    | inr corrupt ↦ subst Told (sym corrupt.1) (told_of_none s.failures t.failures (Corrupt Pages) corrupt_is_none (ap (λ (u : Standing). u.failures) corrupt.2))
  ]
]
  where
    Told : Answer → Type 0
    Told b = TellsFaults s.failures t.failures (outcome_of b)

-- one that is done makes of a node what its rule says
pub steps_done : (n m : Node) (e : Event) (a : Answer) → refusal n.facts e ≡ None → outcome_of a ≡ Ok tt → Steps n e a m → m ≡ moved n e
steps_done n m e a none done steps = by (subst (λ (o : Option Refusal). MatchOption o (((a ≡ answer n.facts e (found n e)) × (m ≡ moved n e)) ⊎ (Fails n.facts e a m.facts × (m ≡ record n { facts = m.facts }))) (λ r. (a ≡ Refused r) × (m ≡ n))) none steps)
  where
    by : ((a ≡ answer n.facts e (found n e)) × (m ≡ moved n e)) ⊎ (Fails n.facts e a m.facts × (m ≡ record n { facts = m.facts })) → m ≡ moved n e
    by (inl went) = went.1
    by (inr (inl hungry, same)) = absurd (refused_done OutOfMemory (sym (ap outcome_of hungry.1) ∙ done))
    by (inr (inr fault, same)) = absurd (refused_done DiskFault (sym (ap outcome_of fault.1) ∙ done))

-- ---- on any device

module _ (s : Standing) (stage : s.stage ≡ Retiring false) (phase : s.phase ≡ Resting) (runs : s.stopped ≡ false) where
  pub check_free : refusal s Check ≡ None
  check_free = not_refused s Check runs (ap (check_refusal s) stage)

  pub checked_facts : (t : Standing) (a : Answer) → Moves s Check a t → outcome_of a ≡ Ok tt → t ≡ record s { stage = Retiring true }
  checked_facts t a m done = let d = done_by s t Check a check_free m done in d.1 ∙ ap (λ (st : Stage). record s { stage = checked s d.0.left st }) stage

  -- what the first of them tells of the device, and both
  pub check_tells : (t : Standing) (a : Answer) → Moves s Check a t → TellsFaults s.failures t.failures (outcome_of a)
  check_tells t a m = step_tells s t Check a check_free m

  pub both_tell : (t u : Standing) (a b : Answer) → Moves s Check a t → outcome_of a ≡ Ok tt → Moves t Sync b u → TellsFaults s.failures u.failures (outcome_of b)
  both_tell t u a b m done n =
      let is = checked_facts t a m done in
      let from : Moves (record s { stage = Retiring true }) Sync b u = subst (λ (x : Standing). Moves x Sync b u) is n in
      step_tells (record s { stage = Retiring true }) u Sync b (not_refused (record s { stage = Retiring true }) Sync runs refl) from

-- ---- of a node

pub checked_node : (n : Node) → n.facts.stage ≡ Retiring false → moved n Check ≡ record n { facts = record n.facts { stage = Retiring true } }
checked_node n stage = ap (λ (st : Stage). record n { facts = record n.facts { stage = checked n.facts (found n Check).left st } }) stage

pub synced_node : (n : Node) → n.facts.phase ≡ Resting → moved (record n { facts = record n.facts { stage = Retiring true } }) Sync ≡ record n { facts = record n.facts { stage = Off } }
synced_node n phase =
    let none : n.facts.durable + 0 ≡ n.facts.durable = omega arith in
    let next : n.facts.next + 0 ≡ n.facts.next = omega arith in
    let past : n.facts.base - n.facts.base ≡ 0 = omega arith in
    rw phase (rw none (rw next (rw past refl)))

-- ---- what a stop leaves

image_since : (h : History) (t : ℕ) (image : List ℕ) → IsImage h image → ImageSince h t image
image_since (Begins bytes) t image here = here
image_since (Written at bytes h) t image here = inl here
image_since (Spoiled at junk h) t image here = inl here
image_since (Stable h) t image here = inl here

image_now : (h : History) (image : List ℕ) → ImageSince h (moment h) image → IsImage h image
image_now (Begins bytes) image here = here
image_now (Written at bytes h) image (inl here) = here
image_now (Written at bytes h) image (inr before) = absurd (omega (arith, before.0))
image_now (Spoiled at junk h) image (inl here) = here
image_now (Spoiled at junk h) image (inr before) = absurd (omega (arith, before.0))
image_now (Stable h) image (inl here) = here
image_now (Stable h) image (inr before) = absurd (omega (arith, before.0))

-- what each moment up to now leaves, now leaves too
pub left_now : {P : List ℕ → Type 0} (old new : History) → LeavesOnly old new P → ((image : List ℕ) → IsImage old image → P image) → (image : List ℕ) → IsImage new image → P image
left_now {P} old new leaves had image here = by (leaves.since (moment old) image (omega arith) (image_since new (moment old) image here))
  where
    by : ImageSince old (moment old) image ⊎ P image → P image
    by (inl before) = had image (image_now old image before)
    by (inr p) = p

-- a front of the node at another stage is one of the node
pub front_at_stage : (n : Node) (stage : Stage) (image : List ℕ) → IsFrontAt Means (record n { facts = record n.facts { stage = stage } }) image → IsFrontAt Means n image
front_at_stage n stage image f = record { meaning = f.meaning; reads = f.reads; end = f.end; least = f.least; front = record { uuid_is = f.front.uuid_is; setting_is = f.front.setting_is; past = f.front.past; order = f.front.order; within = f.front.within; base_is = f.front.base_is; tail_is = f.front.tail_is } }

-- ---- of a replica

module _ {D : Type 0} (g : Ghosts D) (old mid : Replica D) (a : Answer) (step : IsStep g old Check a mid) (n : Node) (holds : Holds g n old) where
  fronts : (image : List ℕ) → IsImage (g.history old.engine.disk) image → IsFrontAt Means n image
  fronts image here = whole_front n old.engine.block holds.taken image (holds.engine.images image here)

  -- a step leaves fronts of the node
  pub step_fronts : LeavesFronts g n mid
  step_fronts = record {
    is_honest = (step.steps n holds).2.engine.is_honest;
    images = left_now (g.history old.engine.disk) (g.history mid.engine.disk) (step.leaves n holds) fronts;
  }

  module _ (running : IsRunning old) (stage : (facts_of g old).stage ≡ Retiring false) (phase : (facts_of g old).phase ≡ Resting) (done : outcome_of a ≡ Ok tt) where
    stage_is : n.facts.stage ≡ Retiring false
    stage_is = ap (λ (s : Standing). s.stage) holds.facts ∙ stage

    phase_is : n.facts.phase ≡ Resting
    phase_is = ap (λ (s : Standing). s.phase) holds.facts ∙ phase

    runs : n.facts.stopped ≡ false
    runs = ap (λ (s : Standing). s.stopped) holds.facts ∙ runs_on g old running

    -- the node with its superblock written
    abbrev written : Node
    written = record n { facts = record n.facts { stage = Retiring true } }

    pub holds_written : Holds g written mid
    holds_written =
        let went = step.steps n holds in
        subst (λ (m : Node). Holds g m mid) (steps_done n went.0 Check a (check_free n.facts stage_is phase_is runs) done went.1 ∙ checked_node n stage_is) went.2

    module _ (new : Replica D) (b : Answer) (second : IsStep g mid Sync b new) where
      pub second_leaves : LeavesOnly (g.history old.engine.disk) (g.history new.engine.disk) (IsFrontAt Means n)
      second_leaves = leaves_then (g.history old.engine.disk) (g.history mid.engine.disk) (g.history new.engine.disk) (step.leaves n holds) (second.leaves written holds_written) (λ image f. front_at_stage n (Retiring true) image f)

      pub second_fronts : LeavesFronts g n new
      second_fronts = record {
        is_honest = (second.steps written holds_written).2.engine.is_honest;
        images = left_now (g.history old.engine.disk) (g.history new.engine.disk) second_leaves fronts;
      }

      pub holds_retired : outcome_of b ≡ Ok tt → Holds g (record n { facts = record n.facts { stage = Off } }) new
      holds_retired ended =
          let went = second.steps written holds_written in
          subst (λ (m : Node). Holds g m new) (steps_done written went.0 Sync b (not_refused written.facts Sync runs refl) ended went.1 ∙ synced_node n phase_is) went.2
