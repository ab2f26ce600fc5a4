use Rattle.std.proofs.Common.{List, ℕ, Ok, [], ap, sym, ◌∙◌}
use Rattle.std.proofs.lemmas.List.{append-nil}
use Rattle.std.proofs.lemmas.Option.{same_Some}
use Rattle.rep_layout.specs.Supers.{super_bytes}
use Rattle.rep_layout.specs.declared.super_body.SuperBody.{SuperBody}
use Rattle.rep_layout.proofs.super_body.SuperBody.read_body.Goals as goal

pub returns-in-Some-clause-only : goal.returns-in-Some-clause-only
returns-in-Some-clause-only c = λ s h e.
    let same = same_Some _ (s, []) (c.in-Some.ensures.only s [] h (e ∙ sym (append-nil (super_bytes s)))) in
    ap (λ (x : SuperBody × List ℕ). Ok x.0) same
