use Rattle.std.proofs.Common.{true, Result, Ok, sym, subst, ◌∙◌}
use Rattle.rep_types.specs.declared.refusal.Refusal.{Refusal}
use Rattle.rep_replica.specs.Replicas.{facts_of}
use Rattle.rep_replica.specs.Settling.{IsNext, Works}
use Rattle.rep_replica.specs.Committing.{IsTurn}
use Rattle.rep_replica.proofs.Settling.{works_then, ok_of, ok_on, err_not_ok}
use Rattle.rep_replica.proofs.Committing.{works_as, turn_of_due, keeps_then, full_rests, if_ok}
use Rattle.rep_replica.proofs.replica.Replica.free_cell.Goals as goal

pub returns-then-is_err-clause-frees : goal.returns-then-is_err-clause-frees
returns-then-is_err-clause-frees g c = record {
  works = works_as IsNext (IsTurn true) turn_of_due g.D.Disk c.args.self.now c.finish_checkpoint-ended.new.self c.finish_checkpoint-ended.result c.finish_checkpoint-ended.ensures.works;
  keeps = c.finish_checkpoint-ended.ensures.keeps (full_rests (facts_of g.D.Disk c.args.self.now) c.requires.full);
  room = if_ok c.finish_checkpoint-ended.result (λ x done. absurd (err_not_ok c.finish_checkpoint-ended.result c.if-is_err.ensures.value done));
}

-- where the checkpoint under way made room
pub returns-then-not-is_full-clause-frees : goal.returns-then-not-is_full-clause-frees
returns-then-not-is_full-clause-frees g c =
    let done = ok_of c.finish_checkpoint-ended.result c.if-is_err.ensures.value in
    let rested = full_rests (facts_of g.D.Disk c.args.self.now) c.requires.full in
    let rests = ok_on c.finish_checkpoint-ended.result (c.finish_checkpoint-ended.ensures.rests rested) done in
    record {
      works =
          works_as IsNext (IsTurn true) turn_of_due g.D.Disk c.args.self.now c.finish_checkpoint-ended.new.self (Ok tt)
          (subst (λ (r : Result (Unit {0}) Refusal). Works g.D.Disk c.args.self.now c.finish_checkpoint-ended.new.self r) done c.finish_checkpoint-ended.ensures.works);
      keeps = c.finish_checkpoint-ended.ensures.keeps rested;
      room = (
        record { free = sym c.is_full.ensures.full ∙ c.if-not-is_full.true; phase = rests.phase; next = rests.next },
        ok_on c.finish_checkpoint-ended.result c.finish_checkpoint-ended.ensures.off done,
      );
    }

pub make_room-requires-clause-due : goal.make_room-requires-clause-due
make_room-requires-clause-due g c = c.is_full.ensures.due c.if-not-is_full.false

-- where another one did
pub returns-clause-frees : goal.returns-clause-frees
returns-clause-frees g c =
    let first = facts_of g.D.Disk c.args.self.now in
    let done = ok_of c.finish_checkpoint-ended.result c.if-is_err.ensures.value in
    let rested = full_rests first c.requires.full in
    let rests = ok_on c.finish_checkpoint-ended.result (c.finish_checkpoint-ended.ensures.rests rested) done in
    record {
      works =
          works_as IsNext (IsTurn true) turn_of_due g.D.Disk c.args.self.now c.make_room.new.self c.make_room.result
          (works_then g.D.Disk c.runs_are_joined.ensures c.args.self.now c.finish_checkpoint-ended.new.self c.make_room.new.self c.make_room.result
          (subst (λ (r : Result (Unit {0}) Refusal). Works g.D.Disk c.args.self.now c.finish_checkpoint-ended.new.self r) done c.finish_checkpoint-ended.ensures.works) c.make_room.ensures.works);
      keeps = keeps_then first (facts_of g.D.Disk c.finish_checkpoint-ended.new.self) (facts_of g.D.Disk c.make_room.new.self) (c.finish_checkpoint-ended.ensures.keeps rested) c.make_room.ensures.keeps;
      room = if_ok c.make_room.result (λ x made.
          let left = ok_on c.make_room.result c.make_room.ensures.free made in
          (record { free = left.free; phase = left.phase; next = left.next ∙ rests.next }, ok_on c.make_room.result c.make_room.ensures.off made));
    }
