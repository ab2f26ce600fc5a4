use Rattle.std.proofs.Common.{Some, sym, ap, ◌∙◌, drop}
use Rattle.std.proofs.lemmas.List.{take_rest}
use Rattle.rep_types.specs.Gtids.{gtid_with}
use Rattle.rep_types.proofs.Gtids.{found_all, gtid_again}
use Rattle.rep_types.proofs.gtid.Gtid.parse.Goals as goal

some_exact : goal.returns-in-Some-clause-exact
some_exact c =
    c.with_uuid.ensures ∙ ap (λ rest. gtid_with (Some c.in-Some.uuid) rest) (take_rest c.args.text.now 36)
    ∙ ap (λ u. gtid_with u (drop 36 c.args.text.now)) (sym c.in-Some.is ∙ c.read_uuid.ensures)

none_exact : goal.returns-in-None-clause-exact
none_exact c = ap (λ u. gtid_with u (drop 36 c.args.text.now)) (sym c.in-None.is ∙ c.read_uuid.ensures)

pub returns-in-Some-clause-exact : goal.returns-in-Some-clause-exact
returns-in-Some-clause-exact c = some_exact c

pub returns-in-Some-clause-found : goal.returns-in-Some-clause-found
returns-in-Some-clause-found c = found_all c.args.text.now c.with_uuid.result (some_exact c)

pub returns-in-Some-clause-only : goal.returns-in-Some-clause-only
returns-in-Some-clause-only c = λ g h. some_exact c ∙ gtid_again c.args.text.now g h

pub returns-in-None-clause-exact : goal.returns-in-None-clause-exact
returns-in-None-clause-exact c = none_exact c

pub returns-in-None-clause-only : goal.returns-in-None-clause-only
returns-in-None-clause-only c = λ g h. none_exact c ∙ gtid_again c.args.text.now g h
