use Rattle.std.proofs.Common.{◌≡◌, true, false, Option, Err, IfSome, sym, ap, subst, ◌∙◌}
use Rattle.std.specs.Prelude.{is_some}
use Rattle.rep_types.specs.declared.refusal.Refusal.TheVariants.{Stopped}
use Rattle.rep_types.proofs.Choices.{some_by_each, none_by_test}
use Rattle.rep_replica.specs.Replicas.{Replica}
use Rattle.rep_replica.specs.Installing.{given_up}
use Rattle.rep_replica.proofs.Retiring.{told_of_none, stopped_is_none}
use Rattle.rep_replica.proofs.Installing.{either_still}
use Rattle.rep_replica.proofs.install.Installation.end.Goals as goal

-- ---- where the device has failed before

pub returns-then-is_stopped : goal.returns-then-is_stopped
returns-then-is_stopped g c = record {
  stopped = some_by_each c.args.self.engine.halted (λ phase. ap (λ (r : Replica g.row.D.Denot). (r, Err Stopped)) c.give_up.ensures.replica);
  lands = λ runs. (let never : false ≡ true = sym (ap is_some runs) ∙ sym c.is_stopped.ensures ∙ c.if-is_stopped.true in absurd cc);
  told = told_of_none (g.D.Disk.failures c.args.self.engine.disk) (g.D.Disk.failures c.give_up.result.engine.disk) Stopped stopped_is_none (ap (λ (r : Replica g.row.D.Denot). g.D.Disk.failures r.engine.disk) c.give_up.ensures.replica);
  installs = λ n y holds. either_still g.D.Disk n y c.args.self c.give_up.result Stopped (ap (λ (r : Replica g.row.D.Denot). r.engine) c.give_up.ensures.replica) holds;
}

-- ---- where it hasn't

pub take_place-requires : goal.take_place-requires
take_place-requires g c = record { running = none_by_test c.args.self.engine.halted (sym c.is_stopped.ensures ∙ c.if-is_stopped.false) }

pub returns : goal.returns
returns g c = record {
  stopped = subst (λ (o : Option _). IfSome o (λ phase. c.take_place.result ≡ (given_up c.args.self, Err Stopped))) (sym (none_by_test c.args.self.engine.halted (sym c.is_stopped.ensures ∙ c.if-is_stopped.false))) tt;
  lands = λ runs. c.take_place.ensures.lands;
  told = c.take_place.ensures.told;
  installs = c.take_place.ensures.installs;
}
