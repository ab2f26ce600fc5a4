use Rattle.std.proofs.Common.{rules, ℕ, ◌==◌, not}
use Rattle.std.proofs.lemmas.Fn.{filter_same}
use Rattle.rep_checkpoint.proofs.stage.let_go.Goals as goal

pub returns : goal.returns
returns c = filter_same _ (λ (p : ℕ). not (p == c.args.page)) _ (λ e b f k. search rules) _ _ c.retain.ensures.filtered
