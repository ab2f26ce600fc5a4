use Rattle.uses_session.proofs.Swaps.{swaps}
use Rattle.uses_session.proofs.swapping.swap_rows.Goals as goal

pub returns : goal.returns
returns g c =
    swaps g.R.Rows.read_gives g.R.Rows.are_of c.sessions_run_alone.ensures g.met.R.Rows.forgets_nothing
    c.args.source c.args.trx c.begin-session.result.snapshot _ c.args.one c.args.other
    c.begin-session.new.rows c.get.new.rows c.get-2.new.rows c.in_ok-first.first c.in_ok-second.second c.in_ok-write_row.field-0 c.in_ok-write_row-2.field-0
    c.begin-session.result c.get.new.self c.get-2.new.self c.write_row.new.session c.write_row-2.new.session
    c.begin-session.ensures.begun c.in_ok-first.ensures c.in_ok-second.ensures c.in_ok-write_row.ensures c.in_ok-write_row-2.ensures
    c.finish.result c.finish.ensures.answer
