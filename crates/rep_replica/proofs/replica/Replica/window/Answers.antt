use Rattle.std.proofs.Common.{◌≡◌, Result, Ok, Err, sym, ap, subst, ◌∙◌, IfOk, arith}
use Rattle.rep_cert.specs.Holdings.{IsAskable}
use Rattle.rep_steps.specs.Standings.{Standing}
use Rattle.rep_steps.specs.Nodes.{window_at}
use Rattle.rep_replica.specs.Holding.{Holds}
use Rattle.rep_replica.proofs.replica.Replica.window.Goals as goal

weaker : {T E : Type 0} {P Q : T → Type 0} (r : Result T E) → ((x : T) → P x → Q x) → IfOk r P → IfOk r Q
weaker (Ok x) f p = f x p
weaker (Err e) f p = tt

pub returns-clause-node : goal.returns-clause-node
returns-clause-node g c n holds =
    let there : Holds g.D.Disk n (record { engine = c.self.inside.engine; backlog = c.self.inside.backlog; certifier = c.self.inside.certifier; stopped = c.self.inside.stopped }) =
    subst (Holds g.D.Disk n) (sym c.self.view_is) holds in
    let durable : n.facts.durable ≡ c.durable-durable.result = ap (λ (s : Standing). s.durable) there.facts ∙ sym c.durable-durable.ensures.durable in
    let above = there.node.facts.based in
    let window = there.windows c.durable-durable.result (omega (arith, durable, there.node.position, above)) (subst (IsAskable c.self.inside.certifier.current) (sym c.durable-durable.ensures.durable) c.self.invariant.askable) in
    weaker c.window_at.result (λ there is. is ∙ window ∙ ap (window_at n) (sym durable)) c.window_at.ensures.window
