use Rattle.std.proofs.Common.{◌≡◌, ◌*◌, ◌≤◌, ◌++◌, length, take}
use Rattle.std.specs.List.{flat_map, AllByRecursion}
use Rattle.rep_forms.proofs.run.put_run.Given as goal

-- the values so far are put, and each had a spelling
abbrev pub invariant-loop-value : goal.invariant-loop-value
invariant-loop-value g l = record {
  bytes : l.out.items ≡ l.initial.out.items ++ flat_map g.T.Form.form.spell (take l.value-index l.values);
  fits : AllByRecursion g.T.Form.form.Fits (take l.value-index l.values);
  size : length (flat_map g.T.Form.form.spell (take l.value-index l.values)) ≤ g.T.Form.most * l.value-index;
}
