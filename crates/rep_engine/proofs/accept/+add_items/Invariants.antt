use Rattle.rep_engine.proofs.accept.+add_items.Given as goal

abbrev pub decreases-add_items : goal.decreases-add_items
decreases-add_items c = c.count
