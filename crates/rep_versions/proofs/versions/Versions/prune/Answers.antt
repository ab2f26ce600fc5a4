use Rattle.std.proofs.Common.{rules, ◌∙◌, ap, not, nat_le, ℕ, Bool, None, if◌then◌else◌}
use Rattle.rep_versions.specs.Versions.{version_at}
use Rattle.rep_versions.specs.Rows.{all_named}
use Rattle.rep_versions.proofs.Places.{kept_where}
use Rattle.rep_versions.proofs.Changes.{unless}
use Rattle.rep_versions.proofs.OfRows.{all_where}
use Rattle.rep_versions.proofs.versions.Versions.prune.Goals as goal

pub returns : goal.returns
returns c = λ key s.
    let stays : ℕ → Bool = λ n. not (nat_le n c.args.position) in
    let left = all_where _ stays _ (λ k row b w f' t. search rules) c.self.inside.rows.entries c.retain.new.self.entries c.retain.ensures.filtered in
    kept_where (λ v. stays v.seqno) (all_named c.self.inside.rows.entries) (all_named c.retain.new.self.entries) left (record { key = key; seqno = s })
    ∙ unless (nat_le s c.args.position) _ ∙ ap (λ m. if nat_le s c.args.position then None else version_at m key s) c.self.view_is
