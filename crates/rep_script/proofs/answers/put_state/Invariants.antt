use Rattle.std.proofs.Common.{◌≡◌, ◌++◌, take, codes}
use Rattle.std.specs.Fmt.{decimal}
use Rattle.std.specs.List.{flat_map}
use Rattle.rep_types.specs.Entries.{Entry}
use Rattle.rep_types.specs.Gtids.{gtid_text}
use Rattle.rep_script.proofs.answers.put_state.Given as goal

-- the line so far: all that stands before the window, and the seqnos of its front
abbrev pub invariant-loop-entry : goal.invariant-loop-entry
invariant-loop-entry l = l.line.items ≡ (codes "state " ++ (gtid_text l.fn.gtid ++ (codes " base " ++ (decimal l.fn.base ++ codes " window")))) ++ flat_map (λ (e : Entry). codes " " ++ decimal e.seqno) (take l.entry-index l.fn.window)
