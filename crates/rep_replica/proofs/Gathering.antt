-- What the engine accepts of what waits.
use Rattle.std.proofs.Common.{◌≡◌, ℕ, ◌+◌, ◌-◌, ◌≤◌, List, [], ◌++◌, append_assoc, length, length-drop, take, drop, refl, sym, ap, subst, ◌∙◌, arith}
use Rattle.std.specs.Prelude.{◌||◌}
use Rattle.std.proofs.lemmas.List.{take-append-drop, drop-drop}
use Rattle.rep_types.specs.declared.judged.Judged.{Judged}
use Rattle.rep_disk.specs.declared.disk.Disk.{Ghosts}
use Rattle.rep_record.specs.Fronts.{fitting}
use Rattle.rep_log.specs.declared.phase.Phase.{Phase}
use Rattle.rep_log.specs.declared.phase.Phase.TheVariants.{Resting}
use Rattle.rep_cert.specs.Holdings.{Holdings, IsAskable, window_of}
use Rattle.rep_steps.specs.Standings.{Standing}
use Rattle.rep_steps.specs.Nodes.{Node, reached, window_at}
use Rattle.rep_steps.specs.Parts.{with_ahead, part_of}
use Rattle.rep_steps.specs.Images.{AreJudgedFrom}
use Rattle.rep_steps.specs.Judging.{JudgingGoesOn}
use Rattle.rep_recover.specs.Engines.{Engine, facts_of as engine_facts}
use Rattle.rep_recover.specs.Accepting.{accepted_in, AddsItems, AcceptedItemsAreAFront}
use Rattle.rep_recover.specs.Holding.{Holds as EngineHolds, with_items}
use Rattle.rep_replica.specs.Replicas.{Replica, facts_of}
use Rattle.rep_replica.specs.Refusing.{Gathers, taken_next}
use Rattle.rep_replica.specs.Holding.{Holds}
use Rattle.rep_replica.proofs.Lists.{take_plus}

-- ---- a block that takes no more

-- a block that took at rest what comes next takes no more
pub takes_no_more : AcceptedItemsAreAFront → (phase : Phase) (block js more : List Judged) (k : ℕ) → k ≡ accepted_in phase block js → more ≡ block ++ take k js → fitting [] more ≡ length more → phase ≡ Resting
    → fitting [] more ≡ fitting [] (block ++ js)
takes_no_more front phase block js more k count is fits rests =
    let at : k ≡ accepted_in Resting block js = count ∙ ap (λ ph. accepted_in ph block js) rests in
    let all : more ≡ block ++ take (accepted_in Resting block js) js = is ∙ ap (λ n. block ++ take n js) at in
    ap (fitting []) all ∙ front.all block js (subst (λ (xs : List Judged). fitting [] xs ≡ length xs) all fits)

-- so what the next block would take of what comes is what it takes of all
pub takes_as_all : AcceptedItemsAreAFront → (phase : Phase) (block js : List Judged) → fitting [] block ≡ length block → phase ≡ Resting → fitting [] (block ++ take (accepted_in phase block js) js) ≡ fitting [] (block ++ js)
takes_as_all front phase block js fits rests =
    let k = accepted_in phase block js in takes_no_more front phase block js (block ++ take k js) k refl refl (front.fits phase block js fits) rests

-- ---- items that are accepted

-- An engine after it accepted items, and before.
pub record Accepts {D : Type 0} (g : Ghosts D) (count : ℕ) (js : List Judged) (old new : Engine D) : Type 0 where
  pub within : count ≤ length js
  pub facts : engine_facts g new ≡ record (engine_facts g old) { ahead = old.block ++ take count js }
  pub block : new.block ≡ old.block ++ take count js
  pub holds : (n : Node) → EngineHolds g n old → AreJudgedFrom n.facts.setting (reached n.facts.setting n.base n.items) (take count js) → EngineHolds g (with_items (take count js) n) new

module _ {D : Type 0} (g : Ghosts D) (count : ℕ) (old new : Replica D) (backlog : new.backlog ≡ drop count old.backlog) (certifier : new.certifier ≡ old.certifier) (stopped : new.stopped ≡ old.stopped)
    (accepts : Accepts g count old.backlog old.engine new.engine) where
  -- what was delivered is as it was
  pub same_ahead : new.engine.block ++ new.backlog ≡ old.engine.block ++ old.backlog
  same_ahead =
      let js = old.backlog in
      ap (λ (xs : List Judged). xs ++ new.backlog) accepts.block ∙ ap (λ (ys : List Judged). (old.engine.block ++ take count js) ++ ys) backlog ∙ append_assoc old.engine.block (take count js) (drop count js)
      ∙ ap (λ (xs : List Judged). old.engine.block ++ xs) (take-append-drop count js)

  pub same_facts : facts_of g new ≡ facts_of g old
  same_facts =
      ap (λ b. record (engine_facts g new.engine) { ahead = new.engine.block ++ new.backlog; stopped = b || (engine_facts g new.engine).stopped }) stopped
      ∙ ap (λ (xs : List Judged). record (engine_facts g new.engine) { ahead = xs; stopped = old.stopped || (engine_facts g new.engine).stopped }) same_ahead
      ∙ ap (λ (s : Standing). record s { ahead = old.engine.block ++ old.backlog; stopped = old.stopped || s.stopped }) accepts.facts

  -- and the replica stands for the same node
  pub holds_still : JudgingGoesOn → (n : Node) → Holds g n old → Holds g n new
  holds_still goes n holds =
      let q = holds.taken in
      let js = old.backlog in
      let p = n.facts.setting in
      let left : length js ≡ length n.items - q = ap length holds.waiting ∙ length-drop q n.items in
      let come : take count js ≡ take count (drop q n.items) = ap (take count) holds.waiting in
      let judged : AreJudgedFrom p (reached p n.base (take q n.items)) (take count js) =
      subst (AreJudgedFrom p (reached p n.base (take q n.items))) (sym come) (goes.judged_front p (reached p n.base (take q n.items)) count (drop q n.items) (goes.judged_behind p n.base q n.items holds.judged)) in
      let engine : EngineHolds g (with_items (take count js) (part_of old.engine.block q n)) new.engine = accepts.holds (part_of old.engine.block q n) holds.engine judged in
      let items : take q n.items ++ take count js ≡ take (q + count) n.items = ap (λ (xs : List Judged). take q n.items ++ xs) come ∙ take_plus q count n.items in
      let part : with_items (take count js) (part_of old.engine.block q n) ≡ part_of new.engine.block (q + count) n =
      ap (λ (xs : List Judged). record n { facts = with_ahead (old.engine.block ++ take count js) n.facts; items = xs }) items ∙ ap (λ (xs : List Judged). part_of xs (q + count) n) (sym accepts.block) in
      record {
        running = stopped ∙ holds.running;
        facts = holds.facts ∙ sym same_facts;
        node = holds.node;
        judged = holds.judged;
        taken = q + count;
        within = omega (arith, left, accepts.within, holds.within);
        engine = subst (λ (m : Node). EngineHolds g m new.engine) part engine;
        waiting = backlog ∙ ap (drop count) holds.waiting ∙ drop-drop count q n.items;
        windows = subst (λ (h : Holdings). (k : ℕ) → n.base.position ≤ k → IsAskable h.current k → window_of h.current k ≡ window_at n k) (sym certifier) holds.windows;
      }

-- and it gathered what comes next
pub gathers : {D : Type 0} (old : Replica D) (engine : Engine D) (backlog : List Judged) (count : ℕ) → count ≡ taken_next old → engine ≡ record old.engine { kept = engine.kept; block = engine.block }
    → engine.block ≡ old.engine.block ++ take count old.backlog → backlog ≡ drop count old.backlog → AddsItems (take count old.backlog) old.engine.kept engine.kept
    → Gathers old (record old { engine = engine; backlog = backlog })
gathers {D} old engine backlog count is rest block left versions = record {
  versions = subst (λ k. AddsItems (take k old.backlog) old.engine.kept engine.kept) is versions;
  after =
      ap (λ (e : Engine D). record old { engine = e; backlog = backlog }) (rest ∙ ap (λ (js : List Judged). record old.engine { kept = engine.kept; block = js }) (block ∙ ap (λ k. old.engine.block ++ take k old.backlog) is))
      ∙ ap (λ (js : List Judged). record old { engine = record old.engine { kept = engine.kept; block = old.engine.block ++ take (taken_next old) old.backlog }; backlog = js }) (left ∙ ap (λ k. drop k old.backlog) is);
}
