use Rattle.rep_versions.specs.Versions.{Version}
use Rattle.std.proofs.Common.{rules, ℕ, not, ◌==◌, sym, subst, ap, ◌∙◌}
use Rattle.std.specs.List.{filter}
use Rattle.std.proofs.lemmas.Fn.{filter_same}
use Rattle.rep_versions.proofs.InRow.{Rises, rises_where}
use Rattle.rep_versions.proofs.row.Row.take_back.Goals as goal

pub invariant_of-self : goal.invariant_of-self
invariant_of-self c =
    let left = filter_same _ (λ (v : ℕ × Version). not (v.0 == c.args.seqno)) _ (λ x b f' t. search rules) c.self.inside.versions.items c.retain.new.self.items c.retain.ensures.filtered in
    subst Rises (sym left) (rises_where (λ n. not (n == c.args.seqno)) c.self.inside.versions.items c.self.invariant)

pub returns-clause-kept : goal.returns-clause-kept
returns-clause-kept c =
    filter_same _ (λ (v : ℕ × Version). not (v.0 == c.args.seqno)) _ (λ x b f' t. search rules) c.self.inside.versions.items c.retain.new.self.items c.retain.ensures.filtered
    ∙ ap (filter (λ (v : ℕ × Version). not (v.0 == c.args.seqno))) c.self.view_is
