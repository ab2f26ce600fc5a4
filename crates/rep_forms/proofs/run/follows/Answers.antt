use Rattle.std.proofs.Common.{◌≡◌, ◌++◌, ◌∷◌, suc, [], ◌+◌, take, drop}
use Rattle.std.proofs.lemmas.List.{take_more, take-append-drop}
use Rattle.std.proofs.Math.Seq.{drop-cons}
use Rattle.rep_forms.proofs.Chains.{leads_more, never_follow}
use Rattle.rep_forms.proofs.run.follows.Goals as goal

pub returns-then-not-admits : goal.returns-then-not-admits
returns-then-not-admits g c =
    let i = c.loop-value.value-index in
    let whole : c.args.values.now ≡ take i c.args.values.now ++ c.value-item.result ∷ drop (suc i) c.args.values.now = cc (take-append-drop i c.args.values.now, drop-cons c.args.values.now i c.value-item.result c.loop-value-test.true) in
    (λ e. absurd cc, λ f. absurd (never_follow g.C.Chain.step c.args.chain c.loop-value.chain _ _ c.value-item.result c.loop-value.invariant c.if-not-admits.ensures (rw whole at f)))

pub loop-value-preserved : goal.loop-value-preserved
loop-value-preserved g c =
    let more : take (c.loop-value.value-index + 1) c.args.values.now ≡ take c.loop-value.value-index c.args.values.now ++ c.value-item.result ∷ [] = cc (take_more c.args.values.now c.loop-value.value-index c.value-item.result c.loop-value-test.true) in
    rw more (leads_more g.C.Chain.step c.args.chain (take c.loop-value.value-index c.args.values.now) c.loop-value.chain c.value-item.result c.admits.new.self c.loop-value.invariant c.if-not-admits.ensures)
