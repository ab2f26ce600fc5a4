use Rattle.std.proofs.Common.{None}
use Rattle.rep_ordered.specs.Views.{turn_of}
use Rattle.rep_ordered.proofs.lock.OrderedLock.side_leave.Given as goal

abbrev pub ghosts-side_leave_as : goal.ghosts-side_leave_as
ghosts-side_leave_as g a = record { entry = None; durable = g.V.Keeps.durable_of a.value; common = g.V.Keeps.common_of a.value; number = turn_of a.station a.seat.now.view }
