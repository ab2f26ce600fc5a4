use Rattle.rep_ordered.proofs.lock.OrderedLock.split.Given as goal

abbrev pub ghosts-split_as : goal.ghosts-split_as
ghosts-split_as g a = record { give = a.give }
