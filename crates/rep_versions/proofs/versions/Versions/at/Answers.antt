use Rattle.std.proofs.Common.{rules, ◌∙◌, sym, ap, subst}
use Rattle.rep_versions.specs.Versions.{IsNewest, version_at}
use Rattle.rep_versions.proofs.OfRows.{row_at, version_of, newest_of}
use Rattle.rep_versions.proofs.versions.Versions.at.Goals as goal
use Rattle.rep_versions.proofs.versions.Versions.at.Goals.{In-Some-newest}

-- the newest version of the row is the newest
is_newest : (c : In-Some-newest) → IsNewest c.args.self.now c.args.key c.args.seqno c.in-Some-newest.version.now.0 c.in-Some-newest.version.now.1
is_newest c =
    let v = c.in-Some-newest.version.now in
    subst (λ m. IsNewest m c.args.key c.args.seqno v.0 v.1) c.self.view_is
    (newest_of c.self.inside.rows.entries c.self.invariant c.args.key c.args.seqno c.in-Some.row.now v (sym c.in-Some.ensures.value) c.in-Some-newest.ensures.some)

pub returns-in_default : goal.returns-in_default
returns-in_default c = λ m le.
    ap (λ kept. version_at kept c.args.key m) (sym c.self.view_is) ∙ version_of c.self.inside.rows.entries c.self.invariant c.args.key m
    ∙ ap (λ o. row_at o m) (sym c.in_default.ensures.value)

pub returns-in_default-newest : goal.returns-in_default-newest
returns-in_default-newest c = λ m le.
    ap (λ kept. version_at kept c.args.key m) (sym c.self.view_is) ∙ version_of c.self.inside.rows.entries c.self.invariant c.args.key m
    ∙ ap (λ o. row_at o m) (sym c.in-Some.ensures.value) ∙ c.in_default-newest.ensures.none (search rules) m le

pub returns-in-Some-1₀ : goal.returns-in-Some-1₀
returns-in-Some-1₀ c =
    (c.in-Some-newest.version.now.0, subst (IsNewest c.args.self.now c.args.key c.args.seqno _) c.in-Some-1₀.is (is_newest (goal.at.returns-in-Some-1₀ c).In-Some-newest))

pub returns-in-None : goal.returns-in-None
returns-in-None c =
    (c.in-Some-newest.version.now.0, subst (IsNewest c.args.self.now c.args.key c.args.seqno _) c.in-None.is (is_newest (goal.at.returns-in-None c).In-Some-newest))
