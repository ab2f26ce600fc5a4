-- How a node stands on the device while it goes on beside its checkpoint.
use Rattle.std.proofs.Common.{◌≡◌, ◌≢◌, inl, inr, ℕ, ◌+◌, ◌-◌, ◌<◌, ◌≤◌, true, List, [], ◌++◌, length, take, refl, sym, ap, subst, ◌∙◌, arith}
use Rattle.std.proofs.lemmas.List.{take-append-le}
use Rattle.uuid.specs.Parts.{is_nil_bytes}
use Rattle.rep_types.specs.declared.judged.Judged.{Judged}
use Rattle.rep_types.specs.Settings.{Setting}
use Rattle.rep_types.specs.Order.{State}
use Rattle.rep_disk.specs.declared.disk.Disk.{Ghosts}
use Rattle.rep_disk.specs.History.{History, stable, IsImage}
use Rattle.rep_layout.specs.declared.place.Layout.{Layout}
use Rattle.rep_layout.specs.declared.place.Place.{Place}
use Rattle.rep_layout.specs.declared.place.Place.TheVariants.{Log as in_log}
use Rattle.rep_layout.specs.declared.super_body.SuperBody.{SuperBody}
use Rattle.rep_layout.specs.Supers.{IsNil}
use Rattle.rep_layout.specs.Places.{layout_of}
use Rattle.rep_cells.specs.Readings.{reading_of}
use Rattle.rep_cells.specs.States.{States, Allowed}
use Rattle.rep_log.specs.declared.phase.Phase.{Phase}
use Rattle.rep_log.specs.declared.phase.Phase.TheVariants.{Opening}
use Rattle.rep_log.specs.Standing.{Standing as Log, LogIs}
use Rattle.rep_log.specs.Laws.{MayHold}
use Rattle.rep_steps.specs.Standings.{Stage as StageOf, underway}
use Rattle.rep_steps.specs.Nodes.{Node, IsNode, reached}
use Rattle.rep_steps.specs.Images.{AreJudgedFrom, IsFrontAt}
use Rattle.rep_checkpoint.specs.Meanings.{Means}
use Rattle.rep_checkpoint.specs.declared.stage.Part.{Part}
use Rattle.rep_checkpoint.specs.declared.stage.Stage.{Stage}
use Rattle.rep_checkpoint.specs.declared.stage.Stage.TheVariants.{Toward}
use Rattle.rep_checkpoint.specs.Next.{Next}
use Rattle.rep_checkpoint.specs.Standing.{Standing as Checkpoint}
use Rattle.rep_checkpoint.specs.States.{CheckpointIs}
use Rattle.rep_checkpoint.specs.Laws.{TheLogIsApart}
use Rattle.rep_checkpoint.specs.Nodes.{IsLedTo, StandsAs, NodesLeaveTheirFronts}
use Rattle.rep_engine.specs.Engines.{Engine, IsWhole}

-- where the places of an engine lie by its parameters, and how many bytes its device has
abbrev pub places : {D : Type 0} → Engine D → Layout
places e = layout_of e.checkpoint.base.params

abbrev pub long : {D : Type 0} → Ghosts D → Engine D → ℕ
long g e = length (stable (g.history e.disk))

-- ---- a front of one node is one of another with the same base and items

pub same_front : (n m : Node) (image : List ℕ) → m.facts.uuid ≡ n.facts.uuid → m.facts.setting ≡ n.facts.setting → m.facts.durable ≡ n.facts.durable → m.base ≡ n.base → m.items ≡ n.items → IsFrontAt Means n image → IsFrontAt Means m image
same_front n m image uuid setting durable base items f = record {
  meaning = f.meaning;
  reads = f.reads;
  end = f.end;
  least = omega (arith, durable, f.least);
  front = record {
    uuid_is = f.front.uuid_is ∙ sym uuid;
    setting_is = f.front.setting_is ∙ sym setting;
    past = f.front.past;
    order = omega (arith, ap (λ (b : _). b.position) base, f.front.order);
    within = omega (arith, ap (λ (b : _). b.position) base, ap length items, f.front.within);
    base_is = rw setting (rw base (rw items f.front.base_is));
    tail_is = rw base (rw items f.front.tail_is);
  };
}

-- ---- what goes on beside the checkpoint

-- These places aren't the log's, and are as they were.
abbrev pub IsBeside : States → States → Type 0
IsBeside s t = (place : Place) → ((i : ℕ) → place ≢ in_log i) → t place ≡ s place

-- Of this node the other one has the base, what is durable, and the items, with more behind them.
pub record GoesOn (n m : Node) : Type 0 where
  pub uuid : m.facts.uuid ≡ n.facts.uuid
  pub setting : m.facts.setting ≡ n.facts.setting
  pub durable : m.facts.durable ≡ n.facts.durable
  pub at : m.facts.base ≡ n.facts.base
  pub base : m.base ≡ n.base
  pub more : List Judged
  pub items : m.items ≡ n.items ++ more

-- the first items are the same
first_items : (n m : Node) → GoesOn n m → (k : ℕ) → k ≤ length n.items → take k m.items ≡ take k n.items
first_items n m on k le = ap (take k) on.items ∙ take-append-le k n.items on.more le

-- a base that the items led to they lead to
led_on : (n m : Node) (log next : Log) (blocks : List (List Judged)) (b : SuperBody) (x : State) → IsNode n → GoesOn n m → next.start ≡ log.start → IsLedTo n log blocks b x → IsLedTo m next blocks b x
led_on n m log next blocks b x h on start led =
    let first = first_items n m on led.past (omega (arith, led.position, led.within, h.enough, h.position)) in
    record {
      past = led.past;
      position = omega (arith, led.position, ap (λ (y : State). y.position) on.base);
      within = omega (arith, led.within, on.durable);
      state = led.state ∙ sym (ap (λ (p : Setting). reached p m.base (take led.past m.items)) on.setting ∙ ap (λ (y : State). reached n.facts.setting y (take led.past m.items)) on.base ∙ ap (reached n.facts.setting n.base) first);
      cells = led.cells;
      start = omega (arith, led.start, start);
      few = led.few;
      records = led.records ∙ sym first;
    }

-- The node goes on standing where it stood, with a log that begins where it began.
pub stands_on : TheLogIsApart → (n m : Node) (size : ℕ) (c : Checkpoint) (log next : Log) (blocks : List (List Judged)) (sealed coming : List Judged) (s t : States)
    → IsNode n → GoesOn n m → next.start ≡ log.start → IsBeside s t → LogIs (layout_of c.base.params) next (c.base.position + 1) blocks coming t → next.phase ≡ m.facts.phase → coming ≡ take (underway m.facts.phase) m.facts.ahead
    → AreJudgedFrom m.facts.setting m.base m.items → (IsNil c.base.uuid → (held : List (List Judged)) → MayHold next.phase blocks coming held → held ≡ []) → StandsAs n size c log blocks sealed s → StandsAs m size c next blocks coming t
stands_on apart n m size c log next blocks sealed coming s t h on start beside is phase coming_is judged undefined stands = record {
  uuid = on.uuid ∙ stands.uuid;
  setting = on.setting ∙ stands.setting;
  goal = stands.goal;
  checkpoint = subst (λ (y : State). CheckpointIs size c y stands.goal t) (sym on.base) (apart size c n.base stands.goal s t beside stands.checkpoint);
  toward = λ to part stage. led_on n m log next blocks to.super stands.goal h on start (stands.toward to part stage);
  start = start ∙ stands.start;
  log_is = is;
  phase = phase;
  durable =
      stands.durable ∙ sym (first_items n m on (n.facts.durable - n.facts.base) (omega (arith, h.enough)))
      ∙ ap (λ k. take k m.items) (omega (arith, on.durable, on.at));
  coming = coming_is;
  judged = judged;
  undefined = undefined;
}

-- ---- what stays where the checkpoint is at another stage

-- the node with another stage
abbrev pub at_stage : StageOf → Node → Node
at_stage stage n = record n { facts = record n.facts { stage = stage } }

-- what led to a base leads there
led_at_stage : (n : Node) (stage : StageOf) (log : Log) (blocks : List (List Judged)) (b : SuperBody) (x : State) → IsLedTo n log blocks b x → IsLedTo (at_stage stage n) log blocks b x
led_at_stage n stage log blocks b x led = record { past = led.past; position = led.position; within = led.within; state = led.state; cells = led.cells; start = led.start; few = led.few; records = led.records }

-- The node stands where it stood, at that stage of its checkpoint.
pub stands_at_stage : (n : Node) (stage : StageOf) (size : ℕ) (c : Checkpoint) (next : Stage) (log : Log) (blocks : List (List Judged)) (sealed : List Judged) (s t : States) (goal : State) → StandsAs n size c log blocks sealed s
    → CheckpointIs size (record c { stage = next }) n.base goal t → ((to : Next) (part : Part) → next ≡ Toward to part → IsLedTo n log blocks to.super goal) → LogIs (layout_of c.base.params) log (c.base.position + 1) blocks sealed t
    → StandsAs (at_stage stage n) size (record c { stage = next }) log blocks sealed t
stands_at_stage n stage size c next log blocks sealed s t goal stands checkpoint toward is =
    let led : (to : Next) (part : Part) → next ≡ Toward to part → IsLedTo (at_stage stage n) log blocks to.super goal = λ to part e. led_at_stage n stage log blocks to.super goal (toward to part e) in
    search

-- ---- without a cluster nothing is held

pub nil_bytes : (uuid : List ℕ) → IsNil uuid → is_nil_bytes uuid ≡ true
nil_bytes uuid nil = rw nil refl

opens_some : (phase : Phase) (block : List Judged) (k : ℕ) → phase ≡ Opening k → IsWhole phase block → 0 < length block
opens_some phase block k e whole = let all = subst (λ p. IsWhole p block) e whole in omega (arith, all.all, all.some)

pub none_held : (phase next : Phase) (blocks held : List (List Judged)) (sealed coming block : List Judged)
    → ((held : List (List Judged)) → MayHold phase blocks sealed held → held ≡ []) → block ≡ [] → IsWhole next block → MayHold next blocks coming held → held ≡ []
none_held phase next blocks held sealed coming block before none whole (inl same) = same ∙ before blocks (inl refl)
none_held phase next blocks held sealed coming block before none whole (inr more) = absurd (omega (arith, ap length none, opens_some next block more.0 more.1 whole))

-- ---- images

-- each image that the states allow means a front of the node that stands there
pub fronts_of :
    NodesLeaveTheirFronts → (n : Node) (h : History) (size : ℕ) (c : Checkpoint) (log : Log) (blocks : List (List Judged)) (sealed : List Judged) (s : States) → IsNode n → StandsAs n size c log blocks sealed s → length (stable h) ≡ size
    → ((image : List ℕ) → IsImage h image → Allowed (layout_of c.base.params) s (reading_of (layout_of c.base.params) image)) → (image : List ℕ) → IsImage h image → IsFrontAt Means n image
fronts_of law n h size c log blocks sealed s is stands sized allowed image here =
    law image n c log blocks sealed s is (subst (λ k. StandsAs n k c log blocks sealed s) (sym (here.sized ∙ sized)) stands) (allowed image here)
