use Rattle.std.proofs.Common.{arith}
use Rattle.rep_cells.proofs.cells.Cells.new.Goals as goal

pub returns-clause-unknown : goal.returns-clause-unknown
returns-clause-unknown g c = λ honest. record {
  fits = omega (arith, c.if-size-need.false, c.need.ensures, c.size.ensures, g.met.D.Disk.sized c.args.disk honest);
  places = λ place there. tt;
  readable = λ place there sure. absurd sure;
}
