use Rattle.std.proofs.Common.{◌≡◌, ◌≤◌, List, length}
use Rattle.rep_forms.specs.Runs.{Leads, SpelledTo}
use Rattle.rep_forms.proofs.run.chain_end.Given as goal

-- the values so far are spelled up to here, and lead to where the chain is
abbrev pub invariant-loop : goal.invariant-loop
invariant-loop g l =
    (values : List g.row.T.Denot) × SpelledTo g.T.Form.form l.bytes l.at values × (length values ≡ l.counter) × Leads g.C.Chain.step l.initial.chain values l.chain × (l.at ≤ length l.bytes)
