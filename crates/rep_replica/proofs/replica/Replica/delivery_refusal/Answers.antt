use Rattle.std.proofs.Common.{◌≡◌, ◌+◌, ℕ, length, length-append, true, false, nat_le, Some, refl, sym, ap, subst, ◌∙◌, arith}
use Rattle.std.specs.Prelude.{◌==◌}
use Rattle.std.proofs.lemmas.Bool.Decides.{nat_tests}
use Rattle.rep_types.specs.declared.limits.TheConstants.{MAX_AHEAD, MAX_SEQNO}
use Rattle.rep_types.specs.declared.refusal.Refusal.TheVariants.{Backlogged}
use Rattle.uuid.specs.Parts.{is_nil_bytes}
use Rattle.rep_steps.specs.Standings.{Standing, delivered, delivery_refusal}
use Rattle.rep_replica.specs.Replicas.{Replica, facts_of}
use Rattle.rep_replica.proofs.replica.Replica.delivery_refusal.Goals as goal

-- as many are ahead as may be
full : (s : Standing) (seqno : ℕ) → is_nil_bytes s.uuid ≡ false → (delivered s == MAX_SEQNO) ≡ false → (seqno == delivered s + 1) ≡ true → nat_le MAX_AHEAD (length s.ahead) ≡ true → Some Backlogged ≡ delivery_refusal s seqno
full s seqno nil last next many = rw (nil, last, next, many) refl

pub returns-then-delivered-durable-ge-MAX_AHEAD : goal.returns-then-delivered-durable-ge-MAX_AHEAD
returns-then-delivered-durable-ge-MAX_AHEAD g c =
    let r : Replica g.row.D.Denot = record { engine = c.self.inside.engine; backlog = c.self.inside.backlog; certifier = c.self.inside.certifier; stopped = c.self.inside.stopped } in
    let s : Standing = facts_of g.D.Disk r in
    let running : r.stopped ≡ false = ap (λ (x : Replica g.row.D.Denot). x.stopped) c.self.view_is ∙ c.requires in
    let count : c.self.inside.certifier.current.delivered ≡ delivered s = let go = c.self.invariant.items running in omega (arith, go.count, length-append r.engine.block r.backlog) in
    let nil : is_nil_bytes s.uuid ≡ false = ap is_nil_bytes (sym c.uuid.ensures) ∙ sym c.if-is_nil.ensures.value in
    let here : c.delivered-delivered.result ≡ delivered s = c.delivered-delivered.ensures.delivered ∙ count in
    let last : (delivered s == MAX_SEQNO) ≡ false = grind (arith, nat_tests, c.if-delivered-eq-MAX_SEQNO.false, here) in
    let next : (c.args.seqno == delivered s + 1) ≡ true = grind (arith, nat_tests, c.if-seqno-delivered.false, here) in
    let many : nat_le MAX_AHEAD (length s.ahead) ≡ true = grind (arith, nat_tests, c.if-delivered-durable-ge-MAX_AHEAD.true, here, c.durable.ensures.durable) in
    subst (λ (x : Replica g.row.D.Denot). Some Backlogged ≡ delivery_refusal (facts_of g.D.Disk x) c.args.seqno) c.self.view_is (full s c.args.seqno nil last next many)
