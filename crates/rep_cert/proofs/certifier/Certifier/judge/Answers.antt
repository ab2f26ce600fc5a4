use Rattle.std.proofs.Common.{◌≡◌, ◌++◌, ◌+◌, ◌≤◌, true, ℕ, List, sym, ap, ◌∙◌, arith}
use Rattle.std.proofs.lemmas.Grind.{common_steps}
use Rattle.rep_types.specs.declared.item.Item.TheVariants.{WriteSet}
use Rattle.rep_types.specs.declared.reach.Reach.{Reach}
use Rattle.rep_types.specs.Entries.{Entry}
use Rattle.rep_types.specs.Transactions.{named}
use Rattle.rep_types.specs.Order.{conflict_with, greatest, in_schema, seqnos_against}
use Rattle.rep_cert.specs.Holdings.{Holdings, back, verdict_of}
use Rattle.rep_cert.specs.Kept.{level}
use Rattle.rep_cert.specs.Writers.{above}
use Rattle.rep_cert.proofs.LastWriters.{greatest_against_numbers}
use Rattle.rep_cert.proofs.Places.{HasPlace-all}
use Rattle.rep_cert.proofs.Reaching.{some_reach}
use Rattle.rep_cert.proofs.Kept.{upto_kept, verdict_of_holding, certified}
use Rattle.rep_cert.proofs.certifier.Certifier.judge.Goals as goal

pub last_of-requires : goal.last_of-requires
last_of-requires c =
    let s = c.self.inside in
    HasPlace-all s.params.rows s.writers.starts.items s.writers.seqnos.items (named c.args.item.now) c.self.invariant.2.laid_out (grind (arith, common_steps))

pub returns : goal.returns
returns c =
    let s = c.self.inside in
    let w = c.args.item.now in
    let all : List Entry = s.given.items ++ s.admitted.items in
    let kept = c.self.invariant.0 in
    let reached = c.self.invariant.1 in
    let keys : in_schema s.params w ≡ true = grind (arith, common_steps) in
    let floor : c.reach_before-reach.result.floor ≡ (back s.reaches.items 0).floor = ap (λ (r : Reach). r.floor) c.reach_before-reach.ensures in
    let near : (back s.reaches.items 0).floor ≤ w.last_seen + 1 = omega (arith, floor, c.saturating_sub.ensures, c.last_seen-seen.ensures) in
    let low : level s.delivered ≤ w.last_seen =
    omega (arith, near, reached.spans 0 (some_reach s.made_at s.delivered s.undoable s.reaches.items s.reaches.capacity kept.start reached)) in
    let found : above c.last_seen-seen.result c.last_of.result ≡ greatest (seqnos_against w all) =
    ap (λ (seen : ℕ). above seen c.last_of.result) c.last_seen-seen.ensures
    ∙ (ap (above w.last_seen) c.last_of.ensures
    ∙ greatest_against_numbers s.params (level s.delivered) s.writers.starts.items s.writers.seqnos.items all w c.self.invariant.2.now low keys) in
    c.verdict_above.ensures
    ∙ (ap conflict_with found
    ∙ (sym (certified s.params (back s.reaches.items 0).floor s.delivered all w (omega arith) keys near)
    ∙ (sym (verdict_of_holding s.params s.made_at s.delivered s.undoable s.reaches.items s.reaches.capacity all (WriteSet w) reached kept.start
    (upto_kept s.made_at s.delivered s.given.items s.admitted.items kept.start kept.past kept.ascending))
    ∙ ap (λ (v : Holdings). verdict_of v.current (WriteSet w)) c.self.view_is)))
