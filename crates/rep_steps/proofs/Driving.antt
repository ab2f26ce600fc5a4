-- Runs of a core: steps one after another, and what a stop leaves.
use Rattle.std.proofs.Common.{◌≡◌, ℕ, ◌≤◌, List, [], ◌∷◌, ◌++◌, append_assoc, refl, sym, ap, subst, ◌∙◌, arith}
use Rattle.rep_types.specs.Settings.{Setting}
use Rattle.rep_types.specs.Order.{Order}
use Rattle.rep_log.specs.Fronts.{FrontsAreDetermined}
use Rattle.rep_disk.specs.History.{History}
use Rattle.rep_disk.specs.Moments.{LeavesOnly}
use Rattle.rep_disk.specs.Leaving.{leaves_weaker, leaves_both, leaves_none}
use Rattle.rep_steps.specs.declared.event.Event.{Event}
use Rattle.rep_steps.specs.declared.answer.Answer.{Answer}
use Rattle.rep_steps.specs.Standings.{Standing}
use Rattle.rep_steps.specs.Moves.{Moves}
use Rattle.rep_steps.specs.Nodes.{Node, IsNode, Steps}
use Rattle.rep_steps.specs.Orders.{IsOf, accepted}
use Rattle.rep_steps.specs.Runs.{Runs, accepted_by}
use Rattle.rep_steps.specs.Images.{Meaning, IsFrontAt, IsFrontOf, RunsOn}
use Rattle.rep_steps.specs.Joining.{RunsAreJoined}
use Rattle.rep_steps.specs.FrontLaws.{front_longer, front_older}
use Rattle.rep_steps.proofs.Reaching.{OrderLaws}
use Rattle.rep_steps.proofs.Following.{count_behind}
use Rattle.rep_steps.proofs.Running.{runs_come}
use Rattle.rep_steps.proofs.Fronts.{fronts_stand}

-- ---- fronts of longer orders

module _ (means : List ℕ → Meaning → Type 0) where
  -- what a node's images mean stands for a front of its order
  front_of : OrderLaws → (L : Order) (n : Node) (d : ℕ) (image : List ℕ) → IsNode n → IsOf L n → d ≤ n.facts.durable → IsFrontAt means n image → IsFrontOf means n.facts.uuid n.facts.setting L d image
  front_of laws L n d image h o le f = record {
    meaning = f.meaning;
    reads = f.reads;
    end = f.end;
    least = omega (arith, le, f.least);
    most = omega (arith, f.front.within, count_behind laws L n h o);
    stands = fronts_stand laws L n f.end f.meaning h o f.front;
  }

-- ---- runs one after another

-- what they delivered
accepted_then : {S : Type 0} (one : S → Event → Answer → S → Type 0) (s t : S) (events : List Event) (answers : List Answer) (more : List Event) (told : List Answer) → Runs one s events answers t
    → accepted_by (events ++ more) (answers ++ told) ≡ accepted_by events answers ++ accepted_by more told
accepted_then one s t [] [] more told r = refl
accepted_then one s t [] (b ∷ answers) more told r = absurd r
accepted_then one s t (f ∷ events) [] more told r = absurd r
accepted_then one s t (f ∷ events) (b ∷ answers) more told r =
    ap (λ (M : Order). accepted f b ++ M) (accepted_then one r.0 t events answers more told r.2) ∙ sym (append_assoc (accepted f b) (accepted_by events answers) (accepted_by more told))

-- how they moved
pub moves_then : {S : Type 0} (one : S → Event → Answer → S → Type 0) (s t u : S) (events : List Event) (answers : List Answer) (more : List Event) (told : List Answer) → Runs one s events answers t → Runs one t more told u
    → Runs one s (events ++ more) (answers ++ told) u
moves_then one s t u [] [] more told r q = subst (λ x. Runs one x more told u) (sym r) q
moves_then one s t u [] (b ∷ answers) more told r q = absurd r
moves_then one s t u (f ∷ events) [] more told r q = absurd r
moves_then one s t u (f ∷ events) (b ∷ answers) more told r q = (r.0, r.1, moves_then one r.0 t u events answers more told r.2 q)

pub run_none : (means : List ℕ → Meaning → Type 0) (h : History) (n : Node) → RunsOn means h h n [] [] n
run_none means h n = record { runs = refl; leaves = λ L o. leaves_none h h refl }

pub run_one : OrderLaws → (means : List ℕ → Meaning → Type 0) (old new : History) (k m : Node) (e : Event) (a : Answer) → IsNode k → Steps k e a m → LeavesOnly old new (IsFrontAt means k)
    → RunsOn means old new k (e ∷ []) (a ∷ []) m
run_one laws means old new k m e a node s l = record {
  runs = (m, s, refl);
  leaves = λ L o. leaves_weaker old new (λ image f. front_longer means k.facts.uuid k.facts.setting L (accepted e a ++ []) k.facts.durable image (front_of means laws L k k.facts.durable image node o (omega arith) f)) l;
}

pub run_then : OrderLaws → FrontsAreDetermined → (means : List ℕ → Meaning → Type 0) (old mid new : History) (n k m : Node) (events : List Event) (answers : List Answer) (more : List Event) (told : List Answer)
    → IsNode n → RunsOn means old mid n events answers k → RunsOn means mid new k more told m → RunsOn means old new n (events ++ more) (answers ++ told) m
run_then laws fronts means old mid new n k m events answers more told h r q = record {
  runs = moves_then Steps n k m events answers more told r.runs q.runs;
  leaves = λ L o.
      let c = runs_come laws fronts L n k events answers h o r.runs in
      let M = L ++ accepted_by events answers in
      let whole : M ++ accepted_by more told ≡ L ++ accepted_by (events ++ more) (answers ++ told) =
      append_assoc L (accepted_by events answers) (accepted_by more told) ∙ ap (λ (K : Order). L ++ K) (sym (accepted_then Steps n k events answers more told r.runs)) in
      let all : (image : List ℕ) → IsFrontOf means n.facts.uuid n.facts.setting (M ++ accepted_by more told) n.facts.durable image → IsFrontOf means n.facts.uuid n.facts.setting (L ++ accepted_by (events ++ more) (answers ++ told)) n.facts.durable image =
      λ image f. subst (λ (K : Order). IsFrontOf means n.facts.uuid n.facts.setting K n.facts.durable image) whole f in
      let same : (image : List ℕ) → IsFrontOf means k.facts.uuid k.facts.setting (M ++ accepted_by more told) k.facts.durable image → IsFrontOf means n.facts.uuid n.facts.setting (M ++ accepted_by more told) n.facts.durable image =
      λ image f. subst (λ (uuid : List ℕ). IsFrontOf means uuid n.facts.setting (M ++ accepted_by more told) n.facts.durable image) c.uuid
      (subst (λ (p : Setting). IsFrontOf means k.facts.uuid p (M ++ accepted_by more told) n.facts.durable image) c.setting
      (front_older means k.facts.uuid k.facts.setting (M ++ accepted_by more told) k.facts.durable n.facts.durable image c.rises f)) in
      leaves_both old mid new (leaves_weaker old mid (λ image f. all image (front_longer means n.facts.uuid n.facts.setting M (accepted_by more told) n.facts.durable image f)) (r.leaves L o))
      (leaves_weaker mid new (λ image f. all image (same image f)) (q.leaves M c.order));
}

-- with one event more
pub run_more : OrderLaws → FrontsAreDetermined → (means : List ℕ → Meaning → Type 0) (old mid new : History) (n k m : Node) (events : List Event) (answers : List Answer) (e : Event) (a : Answer)
    → IsNode n → IsNode k → RunsOn means old mid n events answers k → Steps k e a m → LeavesOnly mid new (IsFrontAt means k)
    → RunsOn means old new n (events ++ e ∷ []) (answers ++ a ∷ []) m
run_more laws fronts means old mid new n k m events answers e a h node r s l =
    run_then laws fronts means old mid new n k m events answers (e ∷ []) (a ∷ []) h r (run_one laws means mid new k m e a node s l)

-- ---- the law

-- one move
one_move : (s t : Standing) (e : Event) (a : Answer) → Moves s e a t → Runs Moves s (e ∷ []) (a ∷ []) t
one_move s t e a m = (t, m, refl)

pub runs_joined : OrderLaws → FrontsAreDetermined → (means : List ℕ → Meaning → Type 0) → RunsAreJoined means
runs_joined laws fronts means = record {
  no_move = λ s. refl;
  one_move = one_move;
  both_moves = moves_then Moves;
  no_run = run_none means;
  one_run = λ old new n m e a node step leaves. run_one laws means old new n m e a node step leaves;
  both_runs = λ old mid new n k m events answers more told node first second. run_then laws fronts means old mid new n k m events answers more told node first second;
}
