use Rattle.std.proofs.Common.{arith}
use Rattle.std.proofs.lemmas.Bool.Decides.{nat_tests}
use Rattle.rep_layout.proofs.RowPlaces.{row_again}
use Rattle.rep_layout.proofs.rows.row_at.Goals as goal

pub returns-then-not-contains-clause-only : goal.returns-then-not-contains-clause-only
returns-then-not-contains-clause-only c = λ key h e.
    let same = row_again c.args.schema.now c.args.place c.in_ok-table.table c.in_ok-table.page key (grind arith) (grind arith) h e in
    absurd (grind (arith, nat_tests))

pub returns-clause-only : goal.returns-clause-only
returns-clause-only c = λ key h e. let same = row_again c.args.schema.now c.args.place c.in_ok-table.table c.in_ok-table.page key (grind arith) (grind arith) h e in grind arith
