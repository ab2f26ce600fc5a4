use Rattle.rep_types.proofs.RowsByItems.{rows_absent, rows_present, effects_to, effects_from}
use Rattle.rep_types.proofs.laws.rows_by_items.Goals as goal

pub returns : goal.returns
returns c = record { absent = rows_absent; present = rows_present; effects = λ p L write. (effects_to p L write, effects_from p L write) }
