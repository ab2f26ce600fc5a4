use Rattle.std.proofs.Common.{◌≡◌, ◌+◌, ◌-◌, ◌<◌, ◌^◌, true, false, None, Some, Ok, Err, IsOk, IsErr, refl, sym, ap, subst, ◌∙◌, arith, rules}
use Rattle.rep_layout.specs.declared.place.Layout.{Layout}
use Rattle.rep_layout.specs.Places.{log_of}
use Rattle.std.specs.Prelude.{nat_lt}
use Rattle.rep_record.specs.Blocks.{IsBlock}
use Rattle.rep_cells.specs.Device.{disk_of, layout_of}
use Rattle.rep_engine.specs.Engines.{Engine}
use Rattle.rep_engine.proofs.Answering.{inside, runs_within}
use Rattle.rep_engine.proofs.Asking.{holds_read, asks_none, asks_found, asks_failed, asks_stopped}
use Rattle.rep_engine.proofs.Donating.{is_past, is_within, tail_block, tail_whole, block_spelled, none_spelled}
use Rattle.rep_engine.proofs.Refusing.{passed_on}
use Rattle.rep_types.specs.declared.refusal.Part.TheVariants.{Log as in_log}
use Rattle.rep_types.proofs.Choices.{none_not_some}
use Rattle.rep_engine.proofs.engine.Engine.tail_block.Goals as goal
use Rattle.rep_engine.proofs.engine.Engine.tail_block.Goals.{After-block_in, After-next}

-- there is such a block
due : (g : _) (c : After-block_in g) → c.args.index < c.self.inside.log.next - c.self.inside.log.start
due g c = omega (arith, c.start-first.ensures, c.next.ensures.next, c.if-index-next.false)

-- and this is its cell
lies : (g : _) (c : After-block_in g) → c.log_of-cell.result ≡ log_of (layout_of c.self.inside.cells) (c.start-first.result + c.args.index)
lies g c = c.log_of-cell.ensures ∙ ap (λ (l : Layout). log_of l (c.start-first.result + c.args.index)) c.layout.ensures

some_there : (g : _) (c : After-next g) → c.args.index < c.next.result - c.start-first.result → true ≡ nat_lt c.args.index (c.args.self.now.log.next - c.args.self.now.log.start)
some_there g c below =
    subst (λ (e : Engine g.row.D.Denot). true ≡ nat_lt c.args.index (e.log.next - e.log.start)) c.self.view_is
    (is_within c.args.index (c.self.inside.log.next - c.self.inside.log.start) (omega (arith, c.start-first.ensures, c.next.ensures.next, below)))

-- ---- there is none

pub returns-then-index-next : goal.returns-then-index-next
returns-then-index-next g c =
    record {
      asks = asks_none g.D.Disk in_log c.args.self.now None c.in_ok-running.ensures.runs;
      none = subst (λ (e : Engine g.row.D.Denot). false ≡ nat_lt c.args.index (e.log.next - e.log.start)) c.self.view_is
          (is_past c.args.index (c.self.inside.log.next - c.self.inside.log.start) (omega (arith, c.start-first.ensures, c.next.ensures.next, c.if-index-next.true)));
      behind = λ past runs. refl;
      fits = λ other. subst (λ (e : Engine g.row.D.Denot). e.log.next < 2 ^ 64) c.self.view_is (omega (arith, c.next.ensures.next));
      form = tt;
      holds = λ n holds other. holds;
      block = λ n holds. tt;
      whole = λ n holds corrupt. absurd cc;
      spelled = λ honest. record { block = tt; corrupt = λ gave. absurd cc };
    }

-- ---- there is one

pub returns-in-Ok-block_in : goal.returns-in-Ok-block_in
returns-in-Ok-block_in g c =
    let at = (goal.at.returns-in-Ok-block_in g c).After-block_in in
    let some = some_there g (goal.at.returns-in-Ok-block_in g c).After-next c.if-index-next.false in
    let form = c.in-Ok-block_in.ensures.form in
    record {
      asks = asks_found g.D.Disk in_log (inside c.self.inside.cells c.self.inside.checkpoint c.self.inside.log c.self.inside.versions c.self.inside.block c.self.inside.halted) c.args.self.now (disk_of c.read_cell.new.self) (layout_of c.read_cell.new.self) c.read_cell.result c.self.view_is (runs_within c.self.view_is c.in_ok-running.ensures.runs) c.read_cell.ensures.layout c.read_cell.ensures.call c.read_cell.ensures.same (subst IsOk (sym c.in-Ok.is) refl) (Ok (Some c.in-Ok-block_in.block)) tt;
      none = some;
      behind = λ past runs. (let never : true ≡ false = some ∙ past in absurd cc);
      fits = λ other. subst (λ (e : Engine g.row.D.Denot). e.log.next < 2 ^ 64) c.self.view_is (omega (arith, c.next.ensures.next));
      form = (
        form.0 ∙ ap (λ first. first + c.args.index) (c.start-first.ensures ∙ ap (λ (e : Engine g.row.D.Denot). e.log.start) c.self.view_is),
        subst (λ k. IsBlock k c.in-Ok-block_in.block.records) (sym form.0) form.1,
      );
      holds = λ n holds other. holds_read g.D.Disk _ c.args.self.now _ _ (Ok c.in-Ok.body) c.self.view_is (runs_within c.self.view_is c.in_ok-running.ensures.runs) c.read_cell.ensures.layout c.in-Ok.ensures.call refl c.read_cell.ensures.same n holds;
      block = λ n holds. tail_block g.D.Disk _ c.args.self.now c.self.view_is c.args.index (c.start-first.result + c.args.index) (ap (λ first. first + c.args.index) c.start-first.ensures) c.log_of-cell.result (lies g at) _ c.block_in.result c.block_in.ensures.only c.self.invariant.0 (runs_within c.self.view_is c.in_ok-running.ensures.runs) (due g at) c.in-Ok.ensures.shown n holds c.images_read_as_allowed.ensures c.open_blocks_are_shown.ensures c.in-Ok-block_in.block c.in-Ok-block_in.is;
      whole = λ n holds corrupt. absurd cc;
      spelled = λ honest. block_spelled g.D.Disk _ c.args.self.now c.self.view_is c.args.index (c.start-first.result + c.args.index) (ap (λ first. first + c.args.index) c.start-first.ensures) c.log_of-cell.result (lies g at) _ c.block_in.result c.block_in.ensures.only c.block_in.ensures.found c.in-Ok.ensures.read honest (c.in_ok-running.ensures.readable honest (log_of c.args.self.now.layout (c.args.self.now.log.start + c.args.index))) c.in-Ok-block_in.block c.in-Ok-block_in.is;
    }

pub returns-in-Err : goal.returns-in-Err
returns-in-Err g c =
    let at = (goal.at.returns-in-Err g c).After-block_in in
    let some = some_there g (goal.at.returns-in-Err g c).After-next c.if-index-next.false in
    record {
      asks = asks_found g.D.Disk in_log (inside c.self.inside.cells c.self.inside.checkpoint c.self.inside.log c.self.inside.versions c.self.inside.block c.self.inside.halted) c.args.self.now (disk_of c.read_cell.new.self) (layout_of c.read_cell.new.self) c.read_cell.result c.self.view_is (runs_within c.self.view_is c.in_ok-running.ensures.runs) c.read_cell.ensures.layout c.read_cell.ensures.call c.read_cell.ensures.same (subst IsOk (sym c.in-Ok.is) refl) (Err c.in-Err.refusal) c.in-Err.ensures.refused;
      none = tt;
      behind = λ past runs. (let never : true ≡ false = some ∙ past in absurd cc);
      fits = λ other. subst (λ (e : Engine g.row.D.Denot). e.log.next < 2 ^ 64) c.self.view_is (omega (arith, c.next.ensures.next));
      form = tt;
      holds = λ n holds other. holds_read g.D.Disk _ c.args.self.now _ _ (Ok c.in-Ok.body) c.self.view_is (runs_within c.self.view_is c.in_ok-running.ensures.runs) c.read_cell.ensures.layout c.in-Ok.ensures.call refl c.read_cell.ensures.same n holds;
      block = λ n holds. tt;
      whole = λ n holds corrupt. tail_whole g.D.Disk _ c.args.self.now c.self.view_is c.args.index (c.start-first.result + c.args.index) (ap (λ first. first + c.args.index) c.start-first.ensures) c.log_of-cell.result (lies g at) _ c.block_in.result c.block_in.ensures.only c.self.invariant.0 (runs_within c.self.view_is c.in_ok-running.ensures.runs) (due g at) c.in-Ok.ensures.shown n holds c.in-Err.refusal c.in-Err.is;
      spelled = λ honest. none_spelled g.D.Disk _ c.args.self.now c.self.view_is c.args.index (c.start-first.result + c.args.index) (ap (λ first. first + c.args.index) c.start-first.ensures) c.log_of-cell.result (lies g at) _ c.block_in.result c.block_in.ensures.only c.block_in.ensures.found c.in-Ok.ensures.read honest (c.in_ok-running.ensures.readable honest (log_of c.args.self.now.layout (c.args.self.now.log.start + c.args.index))) c.in-Err.refusal c.in-Err.is;
    }

-- ---- where the device fails

pub returns-in_default : goal.returns-in_default
returns-in_default g c =
    let some = some_there g (goal.at.returns-in_default g c).After-next c.if-index-next.false in
    let err : IsErr c.read_cell.result = search rules in
    record {
      asks = asks_failed g.D.Disk in_log (inside c.self.inside.cells c.self.inside.checkpoint c.self.inside.log c.self.inside.versions c.self.inside.block c.self.inside.halted) c.args.self.now (disk_of c.read_cell.new.self) (layout_of c.read_cell.new.self) c.read_cell.result c.self.view_is (runs_within c.self.view_is c.in_ok-running.ensures.runs) c.read_cell.ensures.layout c.read_cell.ensures.call c.read_cell.ensures.same err c.phase.result c.phase.ensures;
      none = tt;
      behind = λ past runs. (let never : true ≡ false = some ∙ past in absurd cc);
      fits = λ other. subst (λ (e : Engine g.row.D.Denot). e.log.next < 2 ^ 64) c.self.view_is (omega (arith, c.next.ensures.next));
      form = tt;
      holds = λ n holds other. absurd (other refl);
      block = λ n holds. tt;
      whole = λ n holds corrupt. absurd cc;
      spelled = λ honest. record { block = tt; corrupt = λ gave. absurd cc };
    }

-- ---- where the device has failed before

pub returns-in_err-running : goal.returns-in_err-running
returns-in_err-running g c =
    rw (passed_on c.from_residual.result c.in_err-running.field-0.0 c.from_residual.ensures.1 c.in_err-running.ensures.stopped.0) (record {
      asks = asks_stopped g.D.Disk in_log c.args.self.now c.in_err-running.ensures.stopped.1;
      none = tt;
      behind = λ past runs. absurd (none_not_some c.args.self.now.halted c.in_err-running.ensures.stopped.1 runs);
      fits = λ other. absurd (other refl);
      form = tt;
      holds = λ n holds other. holds;
      block = λ n holds. tt;
      whole = λ n holds corrupt. absurd cc;
      spelled = λ honest. record { block = tt; corrupt = λ gave. absurd cc };
    })

pub images_read_as_allowed-requires : goal.images_read_as_allowed-requires
images_read_as_allowed-requires g c = search

pub open_blocks_are_shown-requires : goal.open_blocks_are_shown-requires
open_blocks_are_shown-requires g c = search

pub start-first-requires : goal.start-first-requires
start-first-requires g c = search

pub next-requires : goal.next-requires
next-requires g c = search

pub log_of-cell-requires : goal.log_of-cell-requires
log_of-cell-requires g c = search

pub phase-requires : goal.phase-requires
phase-requires g c = search

pub block_in-requires : goal.block_in-requires
block_in-requires g c = search

pub overflow_sub-next : goal.overflow_sub-next
overflow_sub-next g c = search rules

pub overflow_add-number : goal.overflow_add-number
overflow_add-number g c = search rules

pub read_cell-requires-clause-cell : goal.read_cell-requires-clause-cell
read_cell-requires-clause-cell g c = search rules

pub read_cell-requires-clause-room : goal.read_cell-requires-clause-room
read_cell-requires-clause-room g c = search rules

pub invariant_of-self : goal.invariant_of-self
invariant_of-self g c = search rules

pub invariant_of-self-in_default : goal.invariant_of-self-in_default
invariant_of-self-in_default g c = search rules
