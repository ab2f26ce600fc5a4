use Rattle.std.proofs.Common.{◌≡◌, ◌∙◌, ◌++◌, ◌∷◌, [], drop, sym, arith, length-append}
use Rattle.std.proofs.lemmas.List.{take_rest}
use Rattle.rep_forms.proofs.Chains.{spelled_more, leads_more}
use Rattle.rep_forms.proofs.run.chain_end.Goals as goal

pub loop-preserved : goal.loop-preserved
loop-preserved g c =
    let h = c.loop.invariant in
    let found = c.in-Some.ensures.found in
    let there : drop c.loop.at c.args.bytes.now ≡ g.T.Form.form.spell c.in-Some.value ++ c.in-Some.rest.now = sym (take_rest c.args.bytes.now c.loop.at) ∙ found.1 in (
      h.0 ++ c.in-Some.value ∷ [],
      spelled_more g.T.Form.form c.args.bytes.now c.loop.at h.0 c.in-Some.value c.in-Some.rest.now h.1 found.0 there,
      omega (arith, h.2, length-append h.0 (c.in-Some.value ∷ [])),
      leads_more g.C.Chain.step c.args.chain h.0 c.loop.chain c.in-Some.value c.admits.new.self h.3 (c.if-not-admits.ensures),
      omega arith,
    )
