use Rattle.std.proofs.Common.{ap, subst, sym}
use Rattle.rep_cert.specs.Holdings.{Holdings}
use Rattle.rep_engine.specs.Checking.{HoldsWindows}
use Rattle.rep_recover.specs.Judging.{bare}
use Rattle.rep_recover.proofs.Judging.{nothing_judged}
use Rattle.rep_recover.proofs.judge.Judging.new.Goals as goal

pub returns-clause-judged : goal.returns-clause-judged
returns-clause-judged c =
    nothing_judged c.versions_follow_the_items.ensures c.args.params (bare c.args.position c.args.window) c.in_ok-certifier.certifier.current c.new-versions.result (c.certifiers_hold_windows.ensures.first c.args.params c.args.position c.args.window c.requires)
    (ap (λ (h : Holdings). h.current) c.in_ok-certifier.ensures.made) c.new-versions.ensures

pub returns-clause-windows : goal.returns-clause-windows
returns-clause-windows c =
    subst HoldsWindows (sym (ap (λ (h : Holdings). h.current) c.in_ok-certifier.ensures.made)) (c.certifiers_hold_windows.ensures.made c.args.params c.args.position c.args.window c.requires)
