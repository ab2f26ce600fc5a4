use Rattle.std.proofs.Common.{rules, ◌≡◌}
use Rattle.rep_script.proofs.Answering.{given_up}
use Rattle.rep_script.proofs.exchange.send.Goals as goal

pub returns-then-failed-clause-cut : goal.returns-then-failed-clause-cut
returns-then-failed-clause-cut g c =
    let same : c.as_slice.result.now ≡ c.args.waiting.now.bytes = search rules in
    let put = rw same at (rw c.in_ok-outcome.was at c.put-outcome.ensures.ok) in
    given_up _ _ _ _ put c.give_up.ensures.kept
