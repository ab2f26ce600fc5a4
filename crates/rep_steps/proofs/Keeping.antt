-- What holds of every standing, and of every node, goes on holding after each event that is not refused.
use Rattle.std.proofs.Common.{◌≡◌, ℕ, ◌+◌, ◌-◌, ◌≤◌, Bool, true, false, List, [], ◌∷◌, ◌++◌, length, take, drop, None, refl, sym, ap, subst, ◌∙◌, arith, length-append}
use Rattle.std.proofs.lemmas.Bool.Decides.{nat_tests}
use Rattle.std.proofs.lemmas.List.{length-drop, length-take-le, drop-append-le, drop-drop}
use Rattle.rep_types.specs.declared.judged.Judged.{Judged}
use Rattle.rep_types.specs.declared.verdict.Verdict.{Verdict}
use Rattle.rep_types.specs.declared.item.Item.{Item}
use Rattle.rep_types.specs.declared.item.Item.TheVariants.{WriteSet}
use Rattle.rep_log.specs.Fronts.{FrontsAreDetermined}
use Rattle.rep_log.specs.declared.phase.Phase.{Phase}
use Rattle.rep_log.specs.declared.phase.Phase.TheVariants.{Resting, Closing, Filling, Filled, Opening}
use Rattle.rep_steps.specs.declared.event.Event.{Event}
use Rattle.rep_steps.specs.declared.event.Event.TheVariants.{Deliver, SetWindow, Log, Sync, Check, Flush, Read}
use Rattle.rep_steps.specs.Events.{change}
use Rattle.rep_steps.specs.Standings.{Goal, Flushing, Saving, Ready, SuperFilling, SuperFilled, SuperOpening, Stage, Off, Toward, Retiring, Standing, IsGoal, HasGoal, IsStanding, underway, claimed, gathered, delivery_refusal, log_refusal, check_refusal, refusal_here}
use Rattle.rep_steps.specs.Moves.{Found, after, opening, taken, logged, synced_phase, checked, flushed, synced_stage, base_after, start_after, next_item, with_item}
use Rattle.rep_steps.proofs.Reaching.{reached_position}
use Rattle.rep_steps.specs.Nodes.{Node, IsNode, moved, found, passed, verdict_for, delivered_to}

-- ---- a delivery

delivers : (s : Standing) (seqno : ℕ) (i : Item) (v : Verdict) → IsStanding s → delivery_refusal s seqno ≡ None → IsStanding (with_item s i v)
delivers s seqno i v h none = record {
  allowed = h.allowed;
  undefined = λ nil. absurd (grind (arith, nat_tests, nil));
  based = h.based;
  near = grind (arith, nat_tests, length-append);
  limit = grind (arith, nat_tests, length-append, h.limit);
  block = omega (arith, h.block, length-append s.ahead (next_item s i v ∷ []));
  few = h.few;
  started = h.started;
  room = h.room;
  goal = h.goal;
}

-- ---- the log

-- what the phase after it asks for
record Fits (s : Standing) (phase : Phase) : Type 0 where
  block : underway phase ≤ length s.ahead
  few : underway phase ≤ 64
  room : s.next + claimed phase ≤ s.start + s.setting.cells

-- a block that is written next
gathers : FrontsAreDetermined → (s : Standing) → (gathered s ≤ length s.ahead) × (gathered s ≤ 64)
gathers fronts s = ((fronts.right [] s.ahead).within, omega (arith, fronts.few [] s.ahead (omega arith)))

fits_logged : FrontsAreDetermined → (s : Standing) (stale : Bool) (phase : Phase) → s.phase ≡ phase → IsStanding s → log_refusal s phase ≡ None → Fits s (logged (gathered s) stale phase)
fits_logged fronts s true Resting e h none = record { block = omega arith; few = omega arith; room = omega (arith, h.room) }
fits_logged fronts s false Resting e h none = record { block = (gathers fronts s).0; few = (gathers fronts s).1; room = grind (arith, nat_tests) }
fits_logged fronts s stale Closing e h none = absurd cc
fits_logged fronts s stale (Filling k) e h none = absurd cc
fits_logged fronts s stale (Filled k) e h none = record {
  block = subst (λ phase. underway phase ≤ length s.ahead) e h.block;
  few = subst (λ phase. underway phase ≤ 64) e h.few;
  room = subst (λ phase. s.next + claimed phase ≤ s.start + s.setting.cells) e h.room;
}
fits_logged fronts s stale (Opening k) e h none = absurd cc

logs : FrontsAreDetermined → (s : Standing) (f : Found) → IsStanding s → log_refusal s s.phase ≡ None → IsStanding (after s Log f)
logs fronts s f h none =
    let fits = fits_logged fronts s f.stale s.phase refl h none in
    search

-- ---- a sync

-- an open gate is of the block that is underway
pub opening_within : (phase : Phase) → opening phase ≤ underway phase
opening_within Resting = omega arith
opening_within Closing = omega arith
opening_within (Filling k) = omega arith
opening_within (Filled k) = omega arith
opening_within (Opening k) = omega arith

-- what is left of a block after it, and of its cell
record Leaves (phase : Phase) : Type 0 where
  block : underway (synced_phase phase) + opening phase ≤ underway phase
  cell : claimed (synced_phase phase) + taken phase ≤ claimed phase

leaves : (phase : Phase) → Leaves phase
leaves Resting = record { block = omega arith; cell = omega arith }
leaves Closing = record { block = omega arith; cell = omega arith }
leaves (Filling k) = record { block = omega arith; cell = omega arith }
leaves (Filled k) = record { block = omega arith; cell = omega arith }
leaves (Opening k) = record { block = omega arith; cell = omega arith }

-- where it leaves the base, and the first cell
pub record Bases (base durable start next : ℕ) (stage : Stage) : Type 0 where
  pub above : base ≤ base_after base stage
  pub within : base_after base stage ≤ durable
  pub started : start ≤ start_after start stage
  pub begun : start_after start stage ≤ next

pub bases : (base durable start next : ℕ) (stage : Stage) → base ≤ durable → start ≤ next → HasGoal base durable start next stage → Bases base durable start next stage
bases base durable start next Off le lt h = record { above = omega arith; within = le; started = omega arith; begun = lt }
bases base durable start next (Toward goal (Flushing left)) le lt h = record { above = omega arith; within = le; started = omega arith; begun = lt }
bases base durable start next (Toward goal Saving) le lt h = record { above = omega arith; within = le; started = omega arith; begun = lt }
bases base durable start next (Toward goal Ready) le lt h = record { above = omega arith; within = le; started = omega arith; begun = lt }
bases base durable start next (Toward goal SuperFilling) le lt h = record { above = omega arith; within = le; started = omega arith; begun = lt }
bases base durable start next (Toward goal SuperFilled) le lt h = record { above = omega arith; within = le; started = omega arith; begun = lt }
bases base durable start next (Toward goal SuperOpening) le lt h = record { above = omega (arith, h.above); within = h.within; started = h.started; begun = h.begun }
bases base durable start next (Retiring written) le lt h = record { above = omega arith; within = le; started = omega arith; begun = lt }

-- a goal that lay within goes on doing so
later_goal : (base durable start next more cells : ℕ) (goal : Goal) → IsGoal base durable start next goal → IsGoal base (durable + more) start (next + cells) goal
later_goal base durable start next more cells goal h = record { above = h.above; within = omega (arith, h.within); started = h.started; begun = omega (arith, h.begun) }

goal_synced : (base durable start next more cells : ℕ) (stage : Stage) → HasGoal base durable start next stage
    → HasGoal (base_after base stage) (durable + more) (start_after start stage) (next + cells) (synced_stage stage)
goal_synced base durable start next more cells Off h = tt
goal_synced base durable start next more cells (Toward goal (Flushing left)) h = later_goal base durable start next more cells goal h
goal_synced base durable start next more cells (Toward goal Saving) h = later_goal base durable start next more cells goal h
goal_synced base durable start next more cells (Toward goal Ready) h = later_goal base durable start next more cells goal h
goal_synced base durable start next more cells (Toward goal SuperFilling) h = later_goal base durable start next more cells goal h
goal_synced base durable start next more cells (Toward goal SuperFilled) h = later_goal base durable start next more cells goal h
goal_synced base durable start next more cells (Toward goal SuperOpening) h = tt
goal_synced base durable start next more cells (Retiring true) h = tt
goal_synced base durable start next more cells (Retiring false) h = tt

-- nothing is made durable where nothing came
none_left : (xs : List Judged) (n : ℕ) → xs ≡ [] → n ≤ length xs → (n ≡ 0) × (drop n xs ≡ [])
none_left [] n e le =
    let none : n ≡ 0 = omega (arith, le) in
    (none, ap (λ k. drop {A = Judged} k []) none)
none_left (x ∷ xs) n e le = absurd cc

syncs : (s : Standing) (f : Found) → IsStanding s → IsStanding (after s Sync f)
syncs s f h =
    let o = opening s.phase in
    let within : o ≤ length s.ahead = omega (arith, opening_within s.phase, h.block) in
    let left : length (drop o s.ahead) ≡ length s.ahead - o = length-drop o s.ahead in
    let at = bases s.base s.durable s.start s.next s.stage h.based h.started h.goal in
    let some = leaves s.phase in
    record {
      allowed = h.allowed;
      undefined = λ nil.
          let empty = h.undefined nil in
          let none = none_left s.ahead o empty.1 within in
          (omega (arith, empty.0, none.0), none.1);
      based = omega (arith, at.within);
      near = omega (arith, h.near, left);
      limit = omega (arith, h.limit, left, within);
      block = omega (arith, some.block, h.block, left);
      few = omega (arith, some.block, h.few);
      started = omega (arith, at.begun);
      room = omega (arith, some.cell, h.room, at.started);
      goal = goal_synced s.base s.durable s.start s.next o (taken s.phase) s.stage h.goal;
    }

-- ---- the checkpoint, and a device that fails

-- how often the device failed, whether that stopped the replica, and how far a checkpoint has come decide nothing else
pub stands_with : (failures : ℕ) (stopped : Bool) (stage : Stage) (s : Standing) → IsStanding s → HasGoal s.base s.durable s.start s.next stage
    → IsStanding (record s { failures = failures; stopped = stopped; stage = stage })
stands_with failures stopped stage s h goal = search

goal_checked : (s : Standing) (left : List ℕ) (stage : Stage) → IsStanding s → check_refusal s stage ≡ None → HasGoal s.base s.durable s.start s.next stage → HasGoal s.base s.durable s.start s.next (checked s left stage)
goal_checked s left Off h none g = record { above = grind (arith, nat_tests); within = omega arith; started = h.started; begun = omega arith }
goal_checked s left (Toward goal part) h none g = g
goal_checked s left (Retiring written) h none g = tt

checks : (s : Standing) (f : Found) → IsStanding s → check_refusal s s.stage ≡ None → IsStanding (after s Check f)
checks s f h none = stands_with s.failures s.stopped (checked s f.left s.stage) s h (goal_checked s f.left s.stage h none h.goal)

goal_flushed : (base durable start next page : ℕ) (stage : Stage) → HasGoal base durable start next stage → HasGoal base durable start next (flushed page stage)
goal_flushed base durable start next page Off g = tt
goal_flushed base durable start next page (Toward goal part) g = g
goal_flushed base durable start next page (Retiring written) g = tt

flushes : (s : Standing) (page : ℕ) (f : Found) → IsStanding s → IsStanding (after s (Flush page) f)
flushes s page f h = stands_with s.failures s.stopped (flushed page s.stage) s h (goal_flushed s.base s.durable s.start s.next page s.stage h.goal)

-- ---- any event

pub stands_after : FrontsAreDetermined → (s : Standing) (e : Event) (f : Found) → IsStanding s → refusal_here s e ≡ None → IsStanding (after s e f)
stands_after fronts s (Deliver seqno w) f h none = delivers s seqno (WriteSet w) f.verdict h none
stands_after fronts s (SetWindow seqno size source trx) f h none = delivers s seqno (change size source trx) f.verdict h none
stands_after fronts s Log f h none = logs fronts s f h none
stands_after fronts s Sync f h none = syncs s f h
stands_after fronts s Check f h none = checks s f h none
stands_after fronts s (Flush page) f h none = flushes s page f h
stands_after fronts s (Read key at) f h none = h

-- ---- nodes

-- one more item behind those that wait
ahead_more : (items : List Judged) (j : Judged) (k : ℕ) (ahead : List Judged) → k ≤ length items → ahead ≡ drop k items → ahead ++ j ∷ [] ≡ drop k (items ++ j ∷ [])
ahead_more items j k ahead le e = ap (λ js. js ++ j ∷ []) e ∙ sym (drop-append-le k items (j ∷ []) le)

-- those that wait after a sync, over the base that it leaves
ahead_synced : (items ahead : List Judged) (base durable to o : ℕ) → ahead ≡ drop (durable - base) items → base ≤ to → to ≤ durable → drop o ahead ≡ drop (durable + o - to) (drop (to - base) items)
ahead_synced items ahead base durable to o e le within =
    ap (drop o) e ∙ drop-drop o (durable - base) items ∙ ap (λ k. drop k items) (omega (arith, le, within)) ∙ sym (drop-drop (durable + o - to) (to - base) items)

module _ (n : Node) (h : IsNode n) where
  -- how many items wait
  pub waiting : length n.facts.ahead + n.facts.durable ≡ n.facts.base + length n.items
  waiting = omega (arith, ap length h.ahead, length-drop (n.facts.durable - n.facts.base) n.items, h.enough, h.facts.based)

  leaves_base : Bases n.facts.base n.facts.durable n.facts.start n.facts.next n.facts.stage
  leaves_base = bases n.facts.base n.facts.durable n.facts.start n.facts.next n.facts.stage h.facts.based h.facts.started h.facts.goal

  -- a sync leaves no fewer items than it passes
  pub passed_within : passed n.facts ≤ length n.items
  passed_within = omega (arith, leaves_base.within, h.enough, leaves_base.above)

  node_synced : IsStanding (after n.facts Sync (found n Sync)) → IsNode (moved n Sync)
  node_synced stands = record {
    facts = stands;
    position = omega (arith, reached_position n.facts.setting n.base (take (passed n.facts) n.items), length-take-le (passed n.facts) n.items passed_within, h.position, leaves_base.above);
    enough = omega (arith, length-drop (passed n.facts) n.items, waiting, opening_within n.facts.phase, h.facts.block, leaves_base.above, leaves_base.within);
    ahead = ahead_synced n.items n.facts.ahead n.facts.base n.facts.durable (base_after n.facts.base n.facts.stage) (opening n.facts.phase) h.ahead leaves_base.above leaves_base.within;
  }

  node_delivered : (i : Item) → IsStanding (with_item n.facts i (verdict_for n i)) → IsNode (delivered_to n i)
  node_delivered i stands = record {
    facts = stands;
    position = h.position;
    enough = omega (arith, h.enough, length-append n.items (next_item n.facts i (verdict_for n i) ∷ []));
    ahead = ahead_more n.items (next_item n.facts i (verdict_for n i)) (n.facts.durable - n.facts.base) n.facts.ahead (omega (arith, h.enough)) h.ahead;
  }

  node_moved : (e : Event) → IsStanding (after n.facts e (found n e)) → IsNode (moved n e)
  node_moved (Deliver seqno w) stands = node_delivered (WriteSet w) stands
  node_moved (SetWindow seqno size source trx) stands = node_delivered (change size source trx) stands
  node_moved Log stands = record { facts = stands; position = h.position; enough = h.enough; ahead = h.ahead }
  node_moved Sync stands = node_synced stands
  node_moved Check stands = record { facts = stands; position = h.position; enough = h.enough; ahead = h.ahead }
  node_moved (Flush page) stands = record { facts = stands; position = h.position; enough = h.enough; ahead = h.ahead }
  node_moved (Read key at) stands = h

pub node_after : FrontsAreDetermined → (n : Node) (e : Event) → IsNode n → refusal_here n.facts e ≡ None → IsNode (moved n e)
node_after fronts n e h none = node_moved n h e (stands_after fronts n.facts e (found n e) h.facts none)
