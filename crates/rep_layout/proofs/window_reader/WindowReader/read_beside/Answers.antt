use Rattle.std.proofs.Common.{◌≡◌, true, Ok, sym, ap, ◌∙◌}
use Rattle.rep_layout.specs.Windows.{Window, beside}
use Rattle.rep_layout.proofs.window_reader.WindowReader.read_beside.Goals as goal

pub returns-in_err-window-clause-only : goal.returns-in_err-window-clause-only
returns-in_err-window-clause-only c = λ v is spelled. let read = c.in_err-window.ensures.only (beside c.args.base.now v) is spelled in absurd cc

pub returns-then-not-is_beside-clause-only : goal.returns-then-not-is_beside-clause-only
returns-then-not-is_beside-clause-only c = λ v is spelled.
    let read : Ok c.in_ok-window.window ≡ Ok (beside c.args.base.now v) = c.in_ok-window.ensures.only (beside c.args.base.now v) is spelled in
    let same : c.in_ok-window.window ≡ beside c.args.base.now v = cc in
    let stands : c.in_ok-window.window ≡ beside c.args.base.now c.in_ok-window.window.kept = same ∙ ap (λ (w : Window). beside c.args.base.now w.kept) (sym same) in
    let yes : c.is_beside.result ≡ true = c.is_beside.ensures.1 stands in
    absurd cc

pub returns-clause-only : goal.returns-clause-only
returns-clause-only c = λ v is spelled. c.in_ok-window.ensures.only (beside c.args.base.now v) is spelled
