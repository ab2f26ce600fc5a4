use Rattle.std.proofs.Common.{◌≡◌, ◌∙◌, refl, sym, ap, subst, true≢false, cond, ◌==◌, Some, None, IsSome}
use Rattle.std.specs.FinMap as map
use Rattle.std.specs.Map.{lookup, set_value}
use Rattle.std.proofs.lemmas.Map.Steps.{set_value_same}
use Rattle.std.proofs.lemmas.Result.{IfOk-weaker, IfErr-weaker, on_ok_weaker}
use Rattle.rep_types.specs.declared.refusal.Refusal.TheVariants.{OutOfMemory}
use Rattle.rep_types.specs.Keys.{key_eq}
use Rattle.rep_versions.specs.Rows.{made_at, kept_of}
use Rattle.rep_versions.proofs.OfRows.{row_at, version_of, put_of, made_alone}
use Rattle.rep_versions.proofs.versions.Versions.put.Goals as goal
use Rattle.rep_versions.proofs.versions.Versions.put.Goals.{In-Some, In-None}

-- the row of the version, where there is one
row_was : (c : In-Some) → lookup (key_eq c.args.version.key) c.self.inside.rows.entries ≡ Some c.in-Some.row.now
row_was c = sym c.in-Some.ensures.value

before_is : (c : In-Some) → map.get c.args.self.now c.args.version ≡ made_at c.in-Some.row.now c.args.version.seqno
before_is c =
    ap (λ m. map.get m c.args.version) (sym c.self.view_is) ∙ version_of c.self.inside.rows.entries c.self.invariant c.args.version.key c.args.version.seqno
    ∙ ap (λ o. row_at o c.args.version.seqno) (row_was c)

pub returns-in-Some-clause-before : goal.returns-in-Some-clause-before
returns-in-Some-clause-before c =
    let was = before_is (goal.at.returns-in-Some-clause-before c).In-Some in
    IfOk-weaker c.put.result (λ before. before ≡ made_at c.in-Some.row.now c.args.version.seqno) (λ before. before ≡ map.get c.args.self.now c.args.version) (λ before h. h ∙ sym was) c.put.ensures.before

pub returns-in-Some-clause-put : goal.returns-in-Some-clause-put
returns-in-Some-clause-put c =
    let old = c.self.inside.rows.entries in
    let key = c.args.version.key in
    let was = row_was (goal.at.returns-in-Some-clause-put c).In-Some in
    let left = c.get_mut.follows.holds c.put.new.self in
    on_ok_weaker c.put.result (λ made.
    put_of old (c.get_mut.follows.lender c.put.new.self).entries key c.args.version.seqno c.args.value c.put.new.self c.self.invariant left.4 (left.3 (subst IsSome (sym was) refl)).0
    (λ t. made t ∙ ap (λ o. cond (t == c.args.version.seqno) (Some c.args.value) (row_at o t)) (sym was))
    ∙ ap (λ m. map.insert m c.args.version c.args.value) c.self.view_is) c.put.ensures.put

pub returns-in-Some-clause-refused : goal.returns-in-Some-clause-refused
returns-in-Some-clause-refused c =
    let old = c.self.inside.rows.entries in
    let key = c.args.version.key in
    let was = row_was (goal.at.returns-in-Some-clause-refused c).In-Some in
    let left = c.get_mut.follows.holds c.put.new.self in
    IfErr-weaker c.put.result (λ e. (e ≡ OutOfMemory) × (c.put.new.self ≡ c.in-Some.row.now)) (λ e. (e ≡ OutOfMemory) × (kept_of (c.get_mut.follows.lender c.put.new.self).entries ≡ c.args.self.now))
    (λ e h. (h.0, ap kept_of (left.0 ∙ ap (set_value (key_eq key) old) h.1 ∙ set_value_same (key_eq key) old c.in-Some.row.now was) ∙ c.self.view_is)) c.put.ensures.refused

pub returns-in-Some-clause-again : goal.returns-in-Some-clause-again
returns-in-Some-clause-again c = λ some. c.put.ensures.again (subst IsSome (before_is (goal.at.returns-in-Some-clause-again c).In-Some) some)

-- there is no such row
none_was : (c : In-None) → map.get c.args.self.now c.args.version ≡ None
none_was c =
    ap (λ m. map.get m c.args.version) (sym c.self.view_is) ∙ version_of c.self.inside.rows.entries c.self.invariant c.args.version.key c.args.version.seqno
    ∙ ap (λ o. row_at o c.args.version.seqno) (sym c.in-None.ensures.value)

pub returns-in_err-row-in-None-clause-again : goal.returns-in_err-row-in-None-clause-again
returns-in_err-row-in-None-clause-again c = λ some. absurd (true≢false (sym (subst IsSome (none_was (goal.at.returns-in_err-row-in-None-clause-again c).In-None) some)))

pub returns-in_err-insert-in-None-clause-again : goal.returns-in_err-insert-in-None-clause-again
returns-in_err-insert-in-None-clause-again c = λ some. absurd (true≢false (sym (subst IsSome (none_was (goal.at.returns-in_err-insert-in-None-clause-again c).In-None) some)))

pub returns-in_ok-insert-in-None-clause-before : goal.returns-in_ok-insert-in-None-clause-before
returns-in_ok-insert-in-None-clause-before c = sym (none_was (goal.at.returns-in_ok-insert-in-None-clause-before c).In-None)

pub returns-in_ok-insert-in-None-clause-put : goal.returns-in_ok-insert-in-None-clause-put
returns-in_ok-insert-in-None-clause-put c =
    let old = c.self.inside.rows.entries in
    let key = c.args.version.key in
    let same = ap (λ m. m.entries) c.get_mut.follows.holds-at-none in
    put_of old c.insert.new.self.entries key c.args.version.seqno c.args.value c.in_ok-row-in-None.row c.self.invariant c.in_ok-insert-in-None.ensures.unique
    (λ q. c.in_ok-insert-in-None.ensures.updates.0 q ∙ ap (λ es. cond (key_eq key q) (Some c.in_ok-row-in-None.row) (lookup (key_eq q) es)) same)
    (λ t. ap (λ row. made_at row t) c.in_ok-row-in-None.ensures ∙ made_alone c.args.version.seqno t c.args.value ∙ ap (λ o. cond (t == c.args.version.seqno) (Some c.args.value) (row_at o t)) c.in-None.ensures.value)
    ∙ ap (λ m. map.insert m c.args.version c.args.value) c.self.view_is
