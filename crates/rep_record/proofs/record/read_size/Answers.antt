use Rattle.std.proofs.Common.{◌≡◌, sym, arith}
use Rattle.std.proofs.lemmas.Bool.Decides.{nat_tests}
use Rattle.rep_record.specs.Records.{size_width}
use Rattle.rep_record.proofs.Records.{no_bytes}
use Rattle.rep_record.proofs.record.read_size.Goals as goal

pub returns : goal.returns
returns c = let none : size_width c.args.writes ≡ 0 = grind (arith, nat_tests, c.if-writes-eq0.false) in rw none (sym (no_bytes c.args.bytes.now))
