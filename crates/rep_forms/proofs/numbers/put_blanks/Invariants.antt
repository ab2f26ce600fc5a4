use Rattle.std.proofs.Common.{◌≡◌, ◌++◌, ◌*◌}
use Rattle.rep_forms.specs.Forms.{zeros}
use Rattle.rep_forms.proofs.numbers.put_blanks.Given as goal

abbrev pub invariant-loop : goal.invariant-loop
invariant-loop g l = l.out.items ≡ l.initial.out.items ++ zeros (64 * l.counter)
