use Rattle.std.proofs.Common.{◌+◌}
use Rattle.rep_ordered.specs.Views.{turn_of}
use Rattle.rep_ordered.proofs.lock.OrderedLock.leave.Given as goal

abbrev pub ghosts-leave_as : goal.ghosts-leave_as
ghosts-leave_as g a = record { entry = a.entry.now; durable = g.V.Keeps.durable_of a.value; common = g.V.Keeps.common_of a.value; number = turn_of a.station a.seat.now.view + 1 }
