use Rattle.std.proofs.Common.{◌≡◌, ◌+◌, ◌==◌, true, false, [], ◌++◌, length, take, sym, ap, subst, ◌∙◌, arith}
use Rattle.std.proofs.lemmas.Bool.Decides.{nat_tests}
use Rattle.rep_record.specs.Fronts.{fitting}
use Rattle.rep_cells.specs.Device.{layout_of}
use Rattle.rep_engine.specs.Engines.{Engine}
use Rattle.rep_engine.proofs.Accepting.{gathers_more}
use Rattle.rep_engine.proofs.engine.Engine.has_nothing.Goals as goal
use Rattle.rep_engine.proofs.engine.Engine.has_nothing.Goals.{After-is_empty}

-- the next block would have what was gathered, and what it takes of the items behind that
counted : (g : _) (c : After-is_empty g) → fitting [] (c.self.inside.block ++ take (fitting c.self.inside.block c.args.backlog.now) c.args.backlog.now) ≡ length c.self.inside.block + fitting c.self.inside.block c.args.backlog.now
counted g c = gathers_more (layout_of c.self.inside.cells) c.self.inside.checkpoint c.self.inside.log c.self.inside.versions c.self.inside.block c.args.backlog.now c.self.invariant.0

pub returns-then-is_empty : goal.returns-then-is_empty
returns-then-is_empty g c =
    let block = c.self.inside.block in
    let js = c.args.backlog.now in
    let count = counted g (goal.at.returns-then-is_empty g c).After-is_empty in
    let empty : true ≡ (length block == 0) = c.if-is_empty.ensures in
    let none : length block ≡ 0 = grind (arith, nat_tests, empty) in
    let all : fitting [] (block ++ take (fitting block js) js) ≡ c.fitting.result = omega (arith, count, none, c.fitting.ensures.count) in
    subst (λ (e : Engine g.row.D.Denot). (c.fitting.result == 0) ≡ (fitting [] (e.block ++ take (fitting e.block js) js) == 0)) c.self.view_is (ap (λ n. n == 0) (sym all))

pub returns-else-is_empty : goal.returns-else-is_empty
returns-else-is_empty g c =
    let js = c.args.backlog.now in
    let count = counted g (goal.at.returns-else-is_empty g c).After-is_empty in
    let empty : false ≡ (length c.self.inside.block == 0) = c.if-is_empty.ensures in
    let some : false ≡ (fitting [] (c.self.inside.block ++ take (fitting c.self.inside.block js) js) == 0) = grind (arith, nat_tests, count, empty) in
    subst (λ (e : Engine g.row.D.Denot). c.is_empty.result ≡ (fitting [] (e.block ++ take (fitting e.block js) js) == 0)) c.self.view_is (c.if-is_empty.false ∙ some)
