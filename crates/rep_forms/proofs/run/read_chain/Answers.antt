use Rattle.std.proofs.Common.{refl, ◌∙◌}
use Rattle.std.proofs.lemmas.List.{take_rest}
use Rattle.rep_forms.proofs.Chains.{chain_again, chain_to, is_chain, chain_only, never_stops}
use Rattle.rep_forms.proofs.run.read_chain.Goals as goal

pub invariant_of-run : goal.invariant_of-run
invariant_of-run g c = rw (chain_again g.met.T.Form.is_form (chain_to c.in_ok-end.ensures.ends)) refl

pub returns-clause-found : goal.returns-clause-found
returns-clause-found g c = rw (take_rest c.args.bytes.now c.in_ok-end.end) (is_chain g.met.T.Form.is_form c.in_ok-end.ensures.ends)

pub returns-clause-only : goal.returns-clause-only
returns-clause-only g c = λ xs rest h.
    let same = chain_only g.met.T.Form.is_form (is_chain g.met.T.Form.is_form c.in_ok-end.ensures.ends) h in
    (same.0, take_rest c.args.bytes.now c.in_ok-end.end ∙ same.1)

pub returns-in_err-end-clause-only : goal.returns-in_err-end-clause-only
returns-in_err-end-clause-only g c = λ xs rest h. absurd (never_stops g.met.T.Form.is_form h c.in_err-end.ensures.stops)
