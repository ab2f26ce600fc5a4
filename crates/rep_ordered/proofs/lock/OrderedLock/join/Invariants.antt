use Rattle.rep_ordered.proofs.lock.OrderedLock.join.Given as goal

abbrev pub ghosts-join_as : goal.ghosts-join_as
ghosts-join_as g a = record { start = a.seat.now.view.start; whole = a.seat.now.view.whole; first = a.seat.now.view.first }
