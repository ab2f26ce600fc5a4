use Rattle.std.proofs.Common.{◌≡◌, ◌∙◌, refl, sym, ap, subst, cond, Some, IsSome}
use Rattle.std.specs.FinMap as map
use Rattle.std.specs.Map.{lookup}
use Rattle.rep_types.specs.Keys.{key_eq}
use Rattle.rep_versions.specs.Rows.{kept_of}
use Rattle.rep_versions.proofs.OfRows.{gone_of, gone_already}
use Rattle.rep_versions.proofs.versions.Versions.forget.Goals as goal

pub returns-in_default : goal.returns-in_default
returns-in_default c =
    ap (λ m. kept_of m.entries) c.get_mut.follows.holds-at-none
    ∙ gone_already c.self.inside.rows.entries c.args.version.key c.args.version.seqno c.self.invariant (sym c.in_default.ensures.value)
    ∙ ap (λ m. map.remove m c.args.version) c.self.view_is

pub returns : goal.returns
returns c =
    let old = c.self.inside.rows.entries in
    let key = c.args.version.key in
    let was : lookup (key_eq key) old ≡ Some c.in-Some.row.now = sym c.in-Some.ensures.value in
    let left = c.get_mut.follows.holds c.take_back.new.self in
    gone_of old (c.get_mut.follows.lender c.take_back.new.self).entries key c.args.version.seqno c.in-Some.row.now c.self.invariant left.4 was
    (λ q. (left.3 (subst IsSome (sym was) refl)).0 q ∙ ap (λ row. cond (key_eq key q) (Some row) (lookup (key_eq q) old)) c.take_back.ensures.kept)
    ∙ ap (λ m. map.remove m c.args.version) c.self.view_is
