-- A step of what the engine has taken, as a step of the replica.
use Rattle.std.proofs.Common.{◌≡◌, ℕ, ◌+◌, ◌-◌, ◌≤◌, false, List, ◌++◌, length, length-append, length-drop, take, drop, sym, ap, subst, ◌∙◌, arith}
use Rattle.std.specs.Prelude.{◌||◌, is_some}
use Rattle.std.proofs.Math.Seq.{take-add}
use Rattle.std.proofs.lemmas.List.{take-append-drop, take-append-le, drop-append-le, drop-drop, length-take-le}
use Rattle.rep_types.specs.declared.judged.Judged.{Judged}
use Rattle.rep_types.specs.Settings.{Setting}
use Rattle.rep_types.specs.Order.{State}
use Rattle.rep_disk.specs.declared.disk.Disk.{Ghosts}
use Rattle.rep_disk.specs.History.{History}
use Rattle.rep_disk.specs.Moments.{LeavesOnly}
use Rattle.rep_disk.specs.Leaving.{leaves_weaker}
use Rattle.rep_cert.specs.Holdings.{Holdings, IsAskable, window_of}
use Rattle.rep_steps.specs.declared.event.Event.{Event}
use Rattle.rep_steps.specs.declared.answer.Answer.{Answer}
use Rattle.rep_steps.specs.Standings.{Standing}
use Rattle.rep_steps.specs.Nodes.{Node, IsNode, Steps, NodesStayNodes, reached, window_at}
use Rattle.rep_steps.specs.Parts.{with_ahead, part_of, Widens}
use Rattle.rep_steps.specs.Images.{Meaning, IsFront, IsFrontAt, IsEndOf, AreJudgedFrom}
use Rattle.rep_recover.specs.Meanings.{Means}
use Rattle.rep_steps.specs.Judging.{JudgingGoesOn}
use Rattle.rep_recover.specs.Engines.{facts_of as engine_facts}
use Rattle.rep_recover.specs.Holding.{Holds as EngineHolds}
use Rattle.rep_replica.specs.Replicas.{Replica, facts_of}
use Rattle.rep_replica.specs.Holding.{Holds}
use Rattle.rep_replica.proofs.Lists.{drop_apart}

-- ---- the facts

-- where it was not stopped from outside they are the engine's, with all that was delivered
pub running_facts : {D : Type 0} (g : Ghosts D) (r : Replica D) → r.stopped ≡ false → facts_of g r ≡ with_ahead (r.engine.block ++ r.backlog) (engine_facts g r.engine)
running_facts g r running = ap (λ b. record (engine_facts g r.engine) { ahead = r.engine.block ++ r.backlog; stopped = b || is_some r.engine.halted }) running

-- what the engine has and what waits is what the node has ahead
pub ahead_of : (n : Node) (block : List Judged) (q : ℕ) → IsNode n → IsNode (part_of block q n) → q ≤ length n.items → n.facts.ahead ≡ block ++ drop q n.items
ahead_of n block q node part within =
    let d = n.facts.durable - n.facts.base in
    let size : length (take q n.items) ≡ q = length-take-le q n.items within in
    let near : d ≤ q = omega (arith, part.enough, size) in
    node.ahead ∙ drop_apart d q n.items near within ∙ ap (λ (xs : List Judged). xs ++ drop q n.items) (sym part.ahead)

-- ---- the node

module _ {D : Type 0} (g : Ghosts D) (stay : NodesStayNodes) (goes : JudgingGoesOn) (old new : Replica D) (n : Node) (holds : Holds g n old) where
  -- the windows from the later base on are those from the one before
  same_window : (to : Node) (past : ℕ) → to.facts.setting ≡ n.facts.setting → to.base ≡ reached n.facts.setting n.base (take past n.items) → to.items ≡ drop past n.items → past ≤ length n.items
      → (k : ℕ) → to.base.position ≤ k → window_at to k ≡ window_at n k
  same_window to past setting base items few k le =
      let p = n.facts.setting in
      let front = take past n.items in
      let at : to.base.position ≡ n.base.position + past = ap (λ (S : State). S.position) base ∙ goes.reached_position p n.base front ∙ omega (arith, length-take-le past n.items few) in
      let more = k - (n.base.position + past) in
      let both : take past n.items ++ take more (drop past n.items) ≡ take (k - n.base.position) n.items = sym (take-add past more n.items) ∙ ap (λ i. take i n.items) (omega (arith, le, at)) in
      ap (λ (q : Setting). (reached q to.base (take (k - to.base.position) to.items)).kept) setting ∙ ap (λ (js : List Judged). (reached p to.base (take (k - to.base.position) js)).kept) items
      ∙ ap (λ i. (reached p to.base (take (k - i) (drop past n.items))).kept) at ∙ ap (λ (S : State). (reached p S (take more (drop past n.items))).kept) base
      ∙ ap (λ (S : State). S.kept) (sym (goes.reached_both p n.base front (take more (drop past n.items)))) ∙ ap (λ (js : List Judged). (reached p n.base js).kept) both

  pub widened : (e : Event) (a : Answer) (part : Node) → Widens n part e a holds.taken → EngineHolds g part new.engine
      → new.engine.checkpoint.base.params ≡ old.engine.checkpoint.base.params → new.backlog ≡ old.backlog → new.certifier ≡ old.certifier → new.stopped ≡ old.stopped
      → (m : Node) × Steps n e a m × Holds g m new
  widened e a part w engine params backlog certifier stopped =
      let to = w.to in
      let past = w.past in
      let q = holds.taken - past in
      let node : IsNode to = stay n to e a holds.node w.steps in
      let running : new.stopped ≡ false = stopped ∙ holds.running in
      let block : part.facts.ahead ≡ new.engine.block = ap (λ (s : Standing). s.ahead) engine.facts in
      let is_part : part ≡ part_of new.engine.block q to = w.is_part ∙ ap (λ (xs : List Judged). part_of xs q to) block in
      let engine_to : EngineHolds g (part_of new.engine.block q to) new.engine = subst (λ (p : Node). EngineHolds g p new.engine) is_part engine in
      let few : past ≤ length n.items = omega (arith, w.within, holds.within) in
      let within : q ≤ length to.items = omega (arith, holds.within, ap length w.items, length-drop past n.items) in
      let left : drop q to.items ≡ drop holds.taken n.items = ap (drop q) w.items ∙ drop-drop q past n.items ∙ ap (λ i. drop i n.items) (omega (arith, w.within)) in
      let waiting : new.backlog ≡ drop q to.items = backlog ∙ holds.waiting ∙ sym left in
      let ahead : to.facts.ahead ≡ new.engine.block ++ new.backlog = ahead_of to new.engine.block q node engine_to.node within ∙ ap (λ (xs : List Judged). new.engine.block ++ xs) (sym waiting) in
      let facts : to.facts ≡ facts_of g new =
      ap (λ (xs : List Judged). with_ahead xs to.facts) ahead ∙ ap (with_ahead (new.engine.block ++ new.backlog)) engine_to.facts ∙ sym (running_facts g new running) in
      let setting : to.facts.setting ≡ n.facts.setting =
      ap (λ (s : Standing). s.setting) engine_to.facts ∙ params ∙ sym (ap (λ (s : Standing). s.setting) holds.engine.facts) in
      let behind : n.base.position ≤ to.base.position = omega (arith, ap (λ (S : State). S.position) w.base, goes.reached_position n.facts.setting n.base (take past n.items)) in (
        to,
        w.steps,
        record {
          running = running;
          facts = facts;
          node = node;
          judged =
              subst (λ (p : Setting). AreJudgedFrom p to.base to.items) (sym setting)
              (subst (λ (S : State). AreJudgedFrom n.facts.setting S to.items) (sym w.base)
              (subst (AreJudgedFrom n.facts.setting (reached n.facts.setting n.base (take past n.items))) (sym w.items) (goes.judged_behind n.facts.setting n.base past n.items holds.judged)));
          taken = q;
          within = within;
          engine = engine_to;
          waiting = waiting;
          windows = λ k le askable.
              let was : IsAskable old.certifier.current k = subst (λ (h : Holdings). IsAskable h.current k) certifier askable in
              ap (λ (h : Holdings). window_of h.current k) certifier ∙ holds.windows k (omega (arith, le, behind)) was ∙ sym (same_window to past setting w.base w.items few k le);
        },
      )

-- ---- what a stop leaves

-- a front of what was taken is a front of all
wider_front : (n : Node) (block : List Judged) (q end : ℕ) (meaning : Meaning) → IsFront (part_of block q n) end meaning → IsFront n end meaning
wider_front n block q end meaning f =
    let front = take q n.items in
    let rest = drop q n.items in
    let past = f.past in
    let all : front ++ rest ≡ n.items = take-append-drop q n.items in
    let inside : past ≤ length front = omega (arith, f.order, f.within) in
    let left : length (drop past front) ≡ length front - past = length-drop past front in
    let most : end - (n.base.position + past) ≤ length (drop past front) = omega (arith, left, f.within, f.order) in
    let size : length (front ++ rest) ≡ length n.items = ap length all in
    record {
      uuid_is = f.uuid_is;
      setting_is = f.setting_is;
      past = past;
      order = f.order;
      within = omega (arith, f.within, size, length-append front rest);
      base_is = f.base_is ∙ ap (reached n.facts.setting n.base) (sym (take-append-le past front rest inside) ∙ ap (take past) all);
      tail_is =
          f.tail_is ∙ sym (take-append-le (end - (n.base.position + past)) (drop past front) rest most)
          ∙ ap (take (end - (n.base.position + past))) (sym (drop-append-le past front rest inside) ∙ ap (drop past) all);
    }

pub whole_front : (n : Node) (block : List Judged) (q : ℕ) (image : List ℕ) → IsFrontAt Means (part_of block q n) image → IsFrontAt Means n image
whole_front n block q image f = record { meaning = f.meaning; reads = f.reads; end = f.end; least = f.least; front = wider_front n block q f.end f.meaning f.front }

-- and where it ends at what is durable, or with the block whose gate opens, it does so of all
pub whole_end : (n : Node) (block : List Judged) (q : ℕ) (image : List ℕ) → IsEndOf Means (part_of block q n) image → IsEndOf Means n image
whole_end n block q image f = record { meaning = f.meaning; reads = f.reads; end = f.end; ends = f.ends; front = wider_front n block q f.end f.meaning f.front }

pub leaves_whole : (n : Node) (block : List Judged) (q : ℕ) (old new : History) → LeavesOnly old new (IsFrontAt Means (part_of block q n)) → LeavesOnly old new (IsFrontAt Means n)
leaves_whole n block q old new = leaves_weaker old new (λ image f. whole_front n block q image f)
