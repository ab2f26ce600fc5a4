use Rattle.std.proofs.Common.{[], ◌∷◌}
use Rattle.rep_ordered.specs.Views.{turn_of}
use Rattle.rep_ordered.proofs.lock.OrderedLock.give_up.Given as goal

abbrev pub ghosts-give_up_as : goal.ghosts-give_up_as
ghosts-give_up_as g a = record { values = a.value ∷ []; durable = g.V.Keeps.durable_of a.value; common = g.V.Keeps.common_of a.value; number = turn_of a.station a.seat.now.view }
