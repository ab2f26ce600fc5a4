use Rattle.std.proofs.Common.{◌≡◌, ◌+◌, ◌*◌, length}
use Rattle.rep_forms.specs.Forms.{are_blank}
use Rattle.rep_forms.proofs.numbers.are_blank.Given as goal

-- the blocks so far are blank: so all is where the rest is
abbrev pub invariant-loop : goal.invariant-loop
invariant-loop l = record {
  blank : are_blank l.bytes ≡ are_blank l.rest;
  size : length l.rest + 64 * l.counter ≡ length l.bytes;
}
