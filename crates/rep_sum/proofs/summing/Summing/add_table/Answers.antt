use Rattle.std.proofs.Common.{◌+◌, ◌-◌, ◌∷◌, [], Err, ap, sym, subst, ◌∙◌, arith}
use Rattle.std.proofs.lemmas.Result.{err_from_is_err_and}
use Rattle.rep_types.specs.declared.key.Key.{Key}
use Rattle.rep_types.specs.Sums.{keys_from}
use Rattle.rep_replica.specs.Reading.{IsRead}
use Rattle.rep_sum.specs.Sums.{Adds, AddsOrRefuses, IsRefusedAt}
use Rattle.rep_sum.proofs.Listing.{rows_more, rows_next}
use Rattle.rep_sum.proofs.Reading.{adds_row, adds_joined, refused_first, refused_behind, one_at_most}
use Rattle.rep_sum.proofs.summing.Summing.add_table.Goals as goal

pub loop-row-preserved : goal.loop-row-preserved
loop-row-preserved g c =
    let key : Key = record { table = c.args.table; row = c.loop-row.row } in
    let told = c.read.ensures in
    let is : IsRead g.D.Disk c.loop-row.replica key c.args.position c.read.result c.read.new.self = record { step = told.step; call = told.call; rest = told.rest; same = told.same; stopped = told.stopped } in
    let given = subst (λ answer. IsRead g.D.Disk c.loop-row.replica key c.args.position answer c.read.new.self) c.in_ok-value.was is in
    let one = adds_row g.D.Disk c.args.position c.loop-row.replica c.read.new.self key c.in_ok-value.value c.loop-row.self c.add_row.new.self given c.add_row.ensures.fed c.add_row.ensures.rows in
    let all = adds_joined g.D.Disk c.args.position (keys_from c.args.table 0 c.loop-row.row) (key ∷ []) c.args.replica.now c.loop-row.replica c.read.new.self c.args.self.now c.loop-row.self c.add_row.new.self c.loop-row.invariant.adds one in
    record {
      adds = subst (λ keys. Adds g.D.Disk c.args.position keys c.args.replica.now c.args.self.now c.read.new.self c.add_row.new.self) (sym (rows_more c.args.table c.loop-row.row)) all;
      few = omega (arith, c.add_row.ensures.rows, c.loop-row.invariant.few, one_at_most c.in_ok-value.value);
    }

pub returns-in_err-value-clause-added : goal.returns-in_err-value-clause-added
returns-in_err-value-clause-added g c =
    let q = err_from_is_err_and c.from_residual.result c.from_residual.ensures.1 in
    let e = c.in_err-value.field-0.0 in
    let key : Key = record { table = c.args.table; row = c.loop-row.row } in
    let told = c.read.ensures in
    let is : IsRead g.D.Disk c.loop-row.replica key c.args.position c.read.result c.read.new.self = record { step = told.step; call = told.call; rest = told.rest; same = told.same; stopped = told.stopped } in
    let refused = subst (λ answer. IsRead g.D.Disk c.loop-row.replica key c.args.position answer c.read.new.self) c.in_err-value.was is in
    let left = keys_from c.args.table (c.loop-row.row + 1) (c.args.rows - (c.loop-row.row + 1)) in
    let first = refused_first g.D.Disk c.args.position key left c.loop-row.replica c.read.new.self e refused in
    let all = refused_behind g.D.Disk c.args.position (keys_from c.args.table 0 c.loop-row.row) (key ∷ left) c.args.replica.now c.loop-row.replica c.read.new.self c.args.self.now c.loop-row.self e c.loop-row.invariant.adds first in
    let keys = sym (rows_next c.args.table c.loop-row.row c.args.rows c.loop-row-test.true) in
    subst (AddsOrRefuses g.D.Disk c.args.position (keys_from c.args.table 0 c.args.rows) c.args.replica.now c.args.self.now c.read.new.self c.loop-row.self) (sym (q.1 ∙ ap Err q.2))
    (subst (λ ks. IsRefusedAt g.D.Disk c.args.position ks c.args.replica.now e c.read.new.self) keys all)
