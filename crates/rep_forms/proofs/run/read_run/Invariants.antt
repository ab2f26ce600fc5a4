use Rattle.std.proofs.Common.{◌≡◌, ◌-◌, length}
use Rattle.rep_forms.specs.Forms.{each}
use Rattle.rep_forms.proofs.Repeats.{with_front}
use Rattle.rep_forms.proofs.run.read_run.Given as goal

-- the values so far and those that are still read are all of them
abbrev pub invariant-loop : goal.invariant-loop
invariant-loop g l = record {
  read : with_front l.values.items (each g.T.Form.form.read (l.count - l.counter) l.rest) ≡ each g.T.Form.form.read l.count l.bytes;
  count : length l.values.items ≡ l.counter;
}
