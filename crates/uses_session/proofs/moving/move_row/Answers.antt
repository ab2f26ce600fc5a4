use Rattle.std.proofs.Common.{Ok, Err, ap, subst, ◌∙◌}
use Rattle.std.specs.Prelude.{if◌then◌else◌, List, ℕ}
use Rattle.rep_types.specs.declared.refusal.Refusal.TheVariants.{Closed}
use Rattle.rep_session.specs.Sessions.{Progress, Writes, finished, put}
use Rattle.uses_session.proofs.Moves.{moves, moves_none}
use Rattle.uses_session.proofs.moving.move_row.Goals as goal
use Rattle.uses_session.proofs.moving.move_row.Goals.{in-Some+in_ok-delete+in_ok-put, in_default}

pub returns : goal.returns
returns g c = elim c.match-branch-2.branch [
  | in-Some+in_ok-delete+in_ok-put w ↦
      moves g.R.Rows.read_gives g.R.Rows.are_of c.sessions_run_alone.ensures g.R.Rows.front_gives c.args.rows.now c.args.source c.args.trx c.begin-session.result.snapshot _ c.args.from c.args.to
      c.begin-session.new.rows c.get.new.rows c.begin-session.result c.begin-session.ensures.begun c.begin-session.ensures.snapshot c.in_ok-value.field-0
      w.in-Some.value w.in-Some.is w.in_ok-delete.field-0 w.in_ok-put.field-0 c.get.new.self w.delete.new.self w.put.new.self (c.in_ok-value.ensures) (w.in_ok-delete.ensures)
      (subst (λ (bytes : List ℕ). Writes w.delete.new.self (put c.args.to bytes) (Ok w.in_ok-put.field-0) w.put.new.self) w.as_bytes.ensures.bytes (w.in_ok-put.ensures))
      c.finish.result (c.finish.ensures.answer ∙ ap (λ (s : Progress). if s.ended then Err Closed else Ok (finished s)) w.session-is)
  | in_default w ↦
      moves_none g.R.Rows.read_gives g.R.Rows.are_of c.sessions_run_alone.ensures g.R.Rows.front_gives c.args.rows.now c.args.source c.args.trx c.begin-session.result.snapshot _ c.args.from c.args.to
      c.begin-session.new.rows c.get.new.rows c.begin-session.result c.begin-session.ensures.begun c.begin-session.ensures.snapshot c.in_ok-value.field-0
      w.in_default.is c.get.new.self (c.in_ok-value.ensures)
      c.finish.result (c.finish.ensures.answer ∙ ap (λ (s : Progress). if s.ended then Err Closed else Ok (finished s)) w.session-is)
]
