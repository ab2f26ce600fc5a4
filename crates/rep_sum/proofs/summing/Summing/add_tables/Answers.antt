use Rattle.std.proofs.Common.{◌+◌, ◌++◌, take, drop, Err, ap, sym, subst, ◌∙◌}
use Rattle.std.specs.Prelude.{slice_index}
use Rattle.std.proofs.lemmas.Result.{err_from_is_err_and}
use Rattle.rep_types.specs.Sums.{keys_from, keys_of_tables, keys_of}
use Rattle.rep_sum.specs.Sums.{Adds, AddsOrRefuses, IsRefusedAt}
use Rattle.rep_sum.proofs.Listing.{tables_more, tables_next}
use Rattle.rep_sum.proofs.Reading.{adds_joined, refused_behind, refused_before}
use Rattle.rep_sum.proofs.summing.Summing.add_tables.Goals as goal

pub loop-table-preserved : goal.loop-table-preserved
loop-table-preserved g c =
    let sizes = c.rows-rows-items.result.now in
    let so_far = keys_of (take c.loop-table.table sizes) in
    let these = keys_from c.loop-table.table 0 (slice_index sizes c.loop-table.table) in
    let all =
    adds_joined g.D.Disk c.args.position so_far these c.args.replica.now c.loop-table.replica c.add_table.new.replica c.args.self.now c.loop-table.self c.add_table.new.self c.loop-table.invariant.adds c.in_ok-add_table.ensures.added in
    record {
      adds = subst (λ keys. Adds g.D.Disk c.args.position keys c.args.replica.now c.args.self.now c.add_table.new.replica c.add_table.new.self) (sym (tables_more c.loop-table.table sizes c.loop-table-test.true)) all;
      few = c.in_ok-add_table.ensures.few;
      items = c.loop-table.invariant.items;
    }

pub returns-in_err-add_table : goal.returns-in_err-add_table
returns-in_err-add_table g c =
    let q = err_from_is_err_and c.from_residual.result c.from_residual.ensures.1 in
    let e = c.in_err-add_table.field-0.0 in
    let sizes = c.rows-rows-items.result.now in
    let so_far = keys_of (take c.loop-table.table sizes) in
    let these = keys_from c.loop-table.table 0 (slice_index sizes c.loop-table.table) in
    let behind = keys_of_tables (c.loop-table.table + 1) (drop (c.loop-table.table + 1) sizes) in
    let here =
    refused_behind g.D.Disk c.args.position so_far these c.args.replica.now c.loop-table.replica c.add_table.new.replica c.args.self.now c.loop-table.self e c.loop-table.invariant.adds c.in_err-add_table.ensures.added in
    let all = refused_before g.D.Disk c.args.position (so_far ++ these) behind c.args.replica.now c.add_table.new.replica e here in
    let keys = sym (tables_next c.loop-table.table sizes c.loop-table-test.true) ∙ ap keys_of c.loop-table.invariant.items in
    record {
      added =
          subst (AddsOrRefuses g.D.Disk c.args.position (keys_of c.args.replica.now.engine.checkpoint.base.params.rows) c.args.replica.now c.args.self.now c.add_table.new.replica c.add_table.new.self) (sym (q.1 ∙ ap Err q.2))
          (subst (λ ks. IsRefusedAt g.D.Disk c.args.position ks c.args.replica.now e c.add_table.new.replica) keys all);
    }
