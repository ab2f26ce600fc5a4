use Rattle.std.proofs.Common.{◌∙◌, ap}
use Rattle.rep_snap.specs.Views.{Telling}
use Rattle.rep_snap.proofs.Looking.{at_more}
use Rattle.rep_snap.proofs.reader.Reader.learn.Goals as goal

pub invariant_of-self : goal.invariant_of-self
invariant_of-self g c = (
  at_more (g.D.Door.knows c.self.inside.door) c.self.inside.sight c.self.inside.told c.longer.result c.longer.ensures.this c.self.invariant.0,
  c.self.invariant.1,
  ap (λ (t : Telling). t.book) c.longer.ensures.longer ∙ c.self.invariant.2,
)
