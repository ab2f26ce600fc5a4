use Rattle.std.proofs.Common.{◌∙◌}
use Rattle.rep_versions.proofs.OfRows.{kept_alike}
use Rattle.rep_versions.proofs.versions.Versions.make_room.Goals as goal

pub returns-clause-same : goal.returns-clause-same
returns-clause-same c =
    kept_alike c.self.inside.rows.entries c.reserve.new.self.entries c.self.invariant c.in_ok-reserve.ensures.unique c.in_ok-reserve.ensures.entries.2 ∙ c.self.view_is
