use Rattle.std.proofs.Common.{◌≡◌, ℕ, ◌≤◌, ◌+◌, List, length, None, refl, sym, ap, subst, ◌∙◌, arith}
use Rattle.rep_types.specs.declared.judged.Judged.{Judged}
use Rattle.rep_types.specs.declared.limits.TheConstants.{MAX_SEQNO}
use Rattle.rep_record.specs.Blocks.{IsBlock, block_bytes}
use Rattle.rep_layout.specs.declared.place.Layout.{Layout}
use Rattle.rep_layout.specs.Places.{offset_of, log_of}
use Rattle.rep_cells.specs.Device.{disk_of, layout_of}
use Rattle.rep_cells.specs.States.{filling}
use Rattle.rep_cells.specs.Calls.{WritesOnly, StepsAt}
use Rattle.rep_log.specs.declared.phase.Phase.TheVariants.{Filling}
use Rattle.rep_log.specs.Standing.{Standing}
use Rattle.rep_log.specs.Moves.{seal_refusal}
use Rattle.rep_log.proofs.Steps.{seal_is_due, seal_small, step_at, not_refused}
use Rattle.rep_log.proofs.ring.Log.seal.Goals as goal

pub invariant_of-self : goal.invariant_of-self
invariant_of-self g c =
    let log = c.args.self.now in
    let records : List Judged = c.args.block.now in
    let due : seal_refusal (layout_of c.args.cells.now) log records ≡ None =
    sym (ap (λ (k : Layout). seal_refusal k log records) c.layout-layout.ensures) ∙ sym c.seal_refusal.ensures ∙ not_refused c.seal_refusal.result c.in_default.not-Some in
    let block : IsBlock log.next records = subst (λ (v : Standing). IsBlock v.next records) c.self.view_is c.in-Some-write_body.ensures.bytes.0 in
    let limits = c.self.invariant.0 in
    let seqno_is : c.self.inside.seqno ≡ log.seqno = ap (λ (v : Standing). v.seqno) c.self.view_is in
    let small : log.seqno ≤ MAX_SEQNO + 1 = omega (arith, seqno_is, limits.seqnos) in (
      record {
        later = limits.later;
        below = limits.below;
        some_cell = limits.some_cell;
        few_cells = limits.few_cells;
        seqnos = omega (arith, seqno_is, c.len.ensures.count, seal_small (layout_of c.args.cells.now) log records due block small);
        some_record = omega (arith, c.len.ensures.count, block.some);
      },
      c.self.invariant.1,
    )

pub returns-clause-step : goal.returns-clause-step
returns-clause-step g c = λ due.
    let l = layout_of c.args.cells.now in
    let log = c.args.self.now in
    let records : List Judged = c.args.block.now in
    let block : IsBlock log.next records = subst (λ (v : Standing). IsBlock v.next records) c.self.view_is c.in-Some-write_body.ensures.bytes.0 in
    let body = c.as_slice.ensures.value ∙ c.in-Some-write_body.ensures.bytes.1 ∙ ap (λ (v : Standing). block_bytes v.next records) c.self.view_is in
    let old = disk_of c.args.cells.now in
    let new = disk_of c.fill.new.self in
    let place : c.log_of.result ≡ log_of l log.next = c.log_of.ensures ∙ (ap (λ (k : Layout). log_of k c.self.inside.next) c.layout-layout.ensures ∙ ap (λ (v : Standing). log_of l v.next) c.self.view_is) in
    step_at c.turns_are_taken.ensures g.D.Disk l log _ (Filling (length records)) (λ sealed. records) c.log_of.result (offset_of l) (block_bytes log.next records) old new
    (filling (block_bytes log.next records)) c.fill.result c.refusal_of.result refl (seal_is_due l log records due block) c.refusal_of.ensures.only place
    (ap (λ (v : Standing). record v { phase = Filling c.len.result }) c.self.view_is ∙ ap (λ (n : ℕ). record log { phase = Filling n }) c.len.ensures.count) c.refusal_of.ensures.fault
    (subst (λ (b : List ℕ). WritesOnly g.D.Disk (offset_of l c.log_of.result) b old new c.fill.result) body c.fill.ensures.written) c.fill.ensures.inside
    (subst (λ (b : List ℕ). StepsAt g.D.Disk l c.log_of.result (filling b) old new c.fill.result) body c.fill.ensures.states)
