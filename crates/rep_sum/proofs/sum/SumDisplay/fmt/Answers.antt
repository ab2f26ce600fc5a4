use Rattle.std.proofs.Common.{rules}
use Rattle.rep_sum.proofs.Showing.{shown}
use Rattle.rep_sum.proofs.sum.SumDisplay.fmt.Goals as goal

pub unreachable-requires : goal.unreachable-requires
unreachable-requires g c = c.in_default.ensures.cases.0 (shown c.encode_to_slice.result c.encode_to_slice.new.output c.args.self.now.digest (c.encode_to_slice.ensures.fits.1 (search rules)) c.encode_to_slice.ensures.written)
