use Rattle.std.proofs.Common.{◌≡◌, true≢false, IsSome, ap, sym, subst, ◌∙◌, cond, ◌==◌, Some, None, slice_set}
use Rattle.rep_versions.specs.Rows.{made_at, IsPlace, IsGap}
use Rattle.rep_versions.proofs.InRow.{Rises, found_at_place, none_at_gap, rises_over, put_over, rises_between, put_between}
use Rattle.rep_versions.proofs.row.Row.put.Goals as goal
use Rattle.rep_versions.proofs.row.Row.put.Goals.{In-Ok, In-Err}

is_place : (c : In-Ok) → IsPlace c.self.inside.versions.items c.args.seqno c.in-Ok.i
is_place c = subst (λ r. IsPlace r c.args.seqno c.in-Ok.i) (sym c.self.view_is) c.in-Ok.ensures.found

is_gap : (c : In-Err) → IsGap c.self.inside.versions.items c.args.seqno c.in-Err.i
is_gap c = subst (λ r. IsGap r c.args.seqno c.in-Err.i) (sym c.self.view_is) c.in-Err.ensures.gap

none_there : (c : In-Err) → made_at c.args.self.now c.args.seqno ≡ None
none_there c = ap (λ r. made_at r c.args.seqno) (sym c.self.view_is) ∙ none_at_gap c.self.inside.versions.items c.args.seqno c.in-Err.i c.self.invariant (is_gap c)

pub invariant_of-self : goal.invariant_of-self
invariant_of-self c =
    let place = is_place (goal.at.invariant_of-self c).In-Ok in
    subst (λ s. Rises (slice_set c.self.inside.versions.items c.in-Ok.i (s, c.replace.new.dest))) (sym (ap (λ v. v.0) c.index_mut-version.ensures.value ∙ place.there _))
    (rises_over c.self.inside.versions.items c.in-Ok.i c.args.seqno c.replace.new.dest place c.self.invariant)

pub returns-in_err-insert-in-Err-clause-again : goal.returns-in_err-insert-in-Err-clause-again
returns-in_err-insert-in-Err-clause-again c = λ some. absurd (true≢false (sym (subst IsSome (none_there (goal.at.returns-in_err-insert-in-Err-clause-again c).In-Err) some)))

pub invariant_of-self-in-Err : goal.invariant_of-self-in-Err
invariant_of-self-in-Err c =
    subst Rises (sym c.in_ok-insert-in-Err.ensures.items) (rises_between c.self.inside.versions.items c.in-Err.i c.args.seqno c.args.value (is_gap (goal.at.invariant_of-self-in-Err c).In-Err) c.self.invariant)

pub returns-in-Ok-clause-before : goal.returns-in-Ok-clause-before
returns-in-Ok-clause-before c =
    let row = c.self.inside.versions.items in
    let place = is_place (goal.at.returns-in-Ok-clause-before c).In-Ok in
    let there = c.index_mut-version.ensures.value in
    let found = found_at_place row c.in-Ok.i c.index_mut-version.result.now c.self.invariant place.bound in
    sym (ap (λ r. made_at r c.args.seqno) (sym c.self.view_is) ∙ ap (made_at row) (sym (place.there c.index_mut-version.result.now)) ∙ found ∙ ap (λ v. Some v.1) (sym there) ∙ ap Some (sym c.replace.ensures.value))

pub returns-in-Ok-clause-put : goal.returns-in-Ok-clause-put
returns-in-Ok-clause-put c = λ s.
    let row = c.self.inside.versions.items in
    let place = is_place (goal.at.returns-in-Ok-clause-put c).In-Ok in
    let key = ap (λ v. v.0) c.index_mut-version.ensures.value ∙ place.there c.index_mut-version.result.now in
    ap (λ n. made_at (slice_set row c.in-Ok.i (n, c.replace.new.dest)) s) key
    ∙ put_over row c.in-Ok.i c.args.seqno s c.index_mut-version.result.now c.replace.new.dest c.self.invariant place.bound (place.there c.index_mut-version.result.now)
    ∙ ap (λ v. cond (s == c.args.seqno) (Some v) (made_at row s)) c.replace.ensures.after
    ∙ ap (λ r. cond (s == c.args.seqno) (Some c.args.value) (made_at r s)) c.self.view_is

pub returns-in_ok-insert-in-Err-clause-before : goal.returns-in_ok-insert-in-Err-clause-before
returns-in_ok-insert-in-Err-clause-before c = sym (none_there (goal.at.returns-in_ok-insert-in-Err-clause-before c).In-Err)

pub returns-in_ok-insert-in-Err-clause-put : goal.returns-in_ok-insert-in-Err-clause-put
returns-in_ok-insert-in-Err-clause-put c = λ s.
    ap (λ r. made_at r s) c.in_ok-insert-in-Err.ensures.items
    ∙ put_between c.self.inside.versions.items c.in-Err.i c.args.seqno s c.args.value c.self.invariant (is_gap (goal.at.returns-in_ok-insert-in-Err-clause-put c).In-Err)
    ∙ ap (λ r. cond (s == c.args.seqno) (Some c.args.value) (made_at r s)) c.self.view_is
