use Rattle.std.proofs.Common.{◌∙◌, sym}
use Rattle.rep_snap.proofs.Looking.{at_told}
use Rattle.rep_snap.proofs.reader.Reader.briefed.Goals as goal

pub invariant_of-self : goal.invariant_of-self
invariant_of-self g c = (
  at_told (g.D.Door.knows c.self.inside.door) c.self.inside.sight c.self.inside.told c.args.self c.args.sight c.args.told c.self.view_is c.requires.own c.requires.seen c.requires.told.1 c.self.invariant.0,
  c.requires.front,
  c.requires.told.0 ∙ sym c.requires.own.0,
)
