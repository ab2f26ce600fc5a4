use Rattle.std.proofs.Common.{take}
use Rattle.rep_forms.specs.Runs.{Leads}
use Rattle.rep_forms.proofs.run.follows.Given as goal

-- the values so far lead to where the chain is
abbrev pub invariant-loop-value : goal.invariant-loop-value
invariant-loop-value g l = Leads g.C.Chain.step l.fn.chain (take l.value-index l.values) l.chain
