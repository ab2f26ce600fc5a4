use Rattle.std.proofs.Common.{◌^◌, Ok, Err, None, sym, subst, ◌∙◌, rules}
use Rattle.rep_record.specs.Reading.{next, number_in}
use Rattle.rep_script.specs.ScriptLines.{delivery_of}
use Rattle.rep_script.specs.Scripts.{RunsLine}
use Rattle.rep_script.proofs.Scripting.{runs_on, fails_on, said_delivery}
use Rattle.rep_script.proofs.script.run_line.Goals as goal

pub returns-in-Ok-clause-runs : goal.returns-in-Ok-clause-runs
returns-in-Ok-clause-runs g c =
    let said = delivery_of c.args.number (next (number_in (2 ^ 64)) c.skip.new.self) in
    let is = said_delivery c.args.number c.args.line.now _ c.skip.new.self (sym c.is_blank.ensures.value ∙ c.if-is_blank.false) c.new-words.ensures (sym c.if-skip.ensures.value) c.if-skip.ensures.rest in
    subst (λ line. RunsLine g.D.Disk c.args.replica.now line (Ok None) c.run_delivery.new.replica) (sym is) (runs_on g.D.Disk c.args.replica.now c.run_delivery.new.replica said c.in-Ok.ensures.runs)

pub returns-in-Err-clause-runs : goal.returns-in-Err-clause-runs
returns-in-Err-clause-runs g c =
    let said = delivery_of c.args.number (next (number_in (2 ^ 64)) c.skip.new.self) in
    let is = said_delivery c.args.number c.args.line.now _ c.skip.new.self (sym c.is_blank.ensures.value ∙ c.if-is_blank.false) c.new-words.ensures (sym c.if-skip.ensures.value) c.if-skip.ensures.rest in
    subst (λ line. RunsLine g.D.Disk c.args.replica.now line (Err c.in-Err.refusal) c.run_delivery.new.replica) (sym is) (fails_on g.D.Disk c.args.replica.now c.run_delivery.new.replica said c.in-Err.refusal c.in-Err.ensures.runs)

pub returns-then-is_blank-clause-runs : goal.returns-then-is_blank-clause-runs
returns-then-is_blank-clause-runs g c = search rules
