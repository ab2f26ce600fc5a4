use Rattle.std.proofs.Common.{inl}
use Rattle.rep_script.proofs.script.on_new_disk.Goals as goal

pub returns-clause-opened : goal.returns-clause-opened
returns-clause-opened c = inl (c.format_disk-disk.result.0, rw (c.in_ok-outcome.was, c.from_bytes.ensures) at (c.format_disk-disk.ensures.formatted tt), c.opened.ensures.opened)
