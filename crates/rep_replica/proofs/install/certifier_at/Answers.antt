use Rattle.std.proofs.Common.{ap, ◌∙◌}
use Rattle.rep_cert.specs.Holdings.{Holdings, window_of}
use Rattle.rep_replica.proofs.install.certifier_at.Goals as goal

pub returns-clause-made : goal.returns-clause-made
returns-clause-made c =
    let made = ap (λ (h : Holdings). h.current) c.in_ok-certifier.ensures.made in
    (made, c.in_ok-window.ensures.window ∙ ap (λ h. window_of h c.args.position) made ∙ c.certifiers_hold_windows.ensures.first c.args.params c.args.position c.args.window c.requires)
