use Rattle.std.proofs.Common.{rules, ◌≡◌, sym, subst}
use Rattle.rep_disk.specs.History.{History, seen}
use Rattle.rep_cells.specs.Readings.{body_of}
use Rattle.rep_cells.specs.Known.{IsBodyReadable}
use Rattle.rep_cells.proofs.Reading.{shut_cell_reads, open_cell_reads, shown}
use Rattle.rep_cells.proofs.cells.Cells.read_cell.Goals as goal

pub returns-then-first-clause-read : goal.returns-then-first-clause-read
returns-then-first-clause-read g c = λ honest readable.
    shut_cell_reads c.args.self.now.layout (g.D.Disk.history c.args.self.now.disk) c.args.cell c.read_at.new.out c.gate.result c.requires.cell readable c.gate.ensures (c.in_ok-read_at.ensures.read honest) (search rules) c.if-first.true

pub returns-then-first-clause-shown : goal.returns-then-first-clause-shown
returns-then-first-clause-shown g c = λ honest s is sure.
    shown c.args.self.now.layout (g.D.Disk.history c.args.self.now.disk) s c.args.cell _ is c.requires.cell.0 (returns-then-first-clause-read g c honest (is.readable c.args.cell c.requires.cell.0 sure))

pub returns-clause-read : goal.returns-clause-read
returns-clause-read g c = λ honest readable.
    let l = c.args.self.now.layout in
    let h : History = g.D.Disk.history c.args.self.now.disk in
    let same : g.D.Disk.history c.read_at.new.self ≡ h = c.read_at.ensures.same honest in
    let body : c.read_body.new.room ≡ body_of l c.args.cell (seen (g.D.Disk.history c.read_at.new.self)) =
    c.in_ok-read_body.ensures.read (c.read_at.ensures.call.stays_honest honest) (subst (λ (now : History). IsBodyReadable l now c.args.cell) (sym same) readable.0) in
    open_cell_reads l h c.args.cell c.read_at.new.out c.read_body.new.room c.gate.result c.requires.cell readable c.gate.ensures (c.in_ok-read_at.ensures.read honest) (search rules) c.if-first.false
    (subst (λ (now : History). c.read_body.new.room ≡ body_of l c.args.cell (seen now)) same body)

pub returns-clause-shown : goal.returns-clause-shown
returns-clause-shown g c = λ honest s is sure.
    shown c.args.self.now.layout (g.D.Disk.history c.args.self.now.disk) s c.args.cell _ is c.requires.cell.0 (returns-clause-read g c honest (is.readable c.args.cell c.requires.cell.0 sure))
