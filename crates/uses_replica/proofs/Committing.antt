-- Block after block.
use Rattle.std.proofs.Common.{◌≡◌, ℕ, ◌+◌, List, [], ◌∷◌, ◌++◌, append_assoc, length, map, take, Ok, Err, refl, sym, ap, ◌∙◌, arith}
use Rattle.std.proofs.lemmas.List.{append-nil, length-append, length-take-le, map-append, take-append-drop}
use Rattle.std.specs.Prelude.{◌||◌, false, is_some}
use Rattle.rep_types.specs.declared.judged.Judged.{Judged}
use Rattle.rep_types.specs.declared.reply.Reply.{Reply}
use Rattle.rep_types.specs.declared.refusal.Refusal.{Refusal}
use Rattle.rep_types.specs.Replies.{reply_of}
use Rattle.rep_disk.specs.declared.disk.Disk.{Ghosts}
use Rattle.rep_steps.specs.declared.event.Event.{Event}
use Rattle.rep_steps.specs.declared.answer.Answer.{Answer}
use Rattle.rep_steps.specs.Runs.{replies_in, acknowledged}
use Rattle.rep_replica.specs.Replicas.{Replica, facts_of}
use Rattle.rep_replica.specs.Running.{Ran, RunsAreJoined}
use Rattle.rep_replica.specs.Settling.{AreOwn}
use Rattle.rep_replica.specs.Committing.{coming, Commits}
use Rattle.uses_replica.specs.Committing.{Committed}

-- as far as it came
pub record Came {D : Type 0} (g : Ghosts D) (old new : Replica D) : Type 0 where
  pub done : List Judged
  pub split : (facts_of g old).ahead ≡ done ++ (facts_of g new).ahead
  pub durable : (facts_of g new).durable ≡ (facts_of g old).durable + length done
  pub events : List Event
  pub answers : List Answer
  pub own : AreOwn events
  pub ran : Ran g old new events answers
  pub told : acknowledged answers ≡ map reply_of done
  pub running : (new.stopped || is_some new.engine.halted) ≡ false

told_then : (answers told : List Answer) → acknowledged (answers ++ told) ≡ acknowledged answers ++ acknowledged told
told_then [] told = refl
told_then (a ∷ answers) told = ap (λ (rest : List Reply). replies_in a ++ rest) (told_then answers told) ∙ sym (append_assoc (replies_in a) (acknowledged answers) (acknowledged told))

own_then : (events more : List Event) → AreOwn events → AreOwn more → AreOwn (events ++ more)
own_then [] more all rest = rest
own_then (e ∷ events) more all rest = (all.0, own_then events more all.1 rest)

module _ {D : Type 0} (g : Ghosts D) (joined : RunsAreJoined g) where
  pub came_none : (r : Replica D) → (r.stopped || is_some r.engine.halted) ≡ false → Came g r r
  came_none r running = record {
    done = [];
    split = refl;
    durable = omega arith;
    events = [];
    answers = [];
    own = tt;
    ran = joined.no_run r;
    told = refl;
    running = running;
  }

  module _ (pages : ℕ) (old mid new : Replica D) (came : Came g old mid) where
    pub came_on : (given : List Reply) → (new.stopped || is_some new.engine.halted) ≡ false → Commits g pages mid new (Ok given) → Came g old new
    came_on given running c =
        let n = coming (facts_of g mid) in
        let more = take n (facts_of g mid).ahead in
        record {
          done = came.done ++ more;
          split =
              came.split ∙ ap (λ (rest : List Judged). came.done ++ rest) (sym (take-append-drop n (facts_of g mid).ahead) ∙ ap (λ (rest : List Judged). more ++ rest) (sym c.block.ahead))
              ∙ sym (append_assoc came.done more (facts_of g new).ahead);
          durable = omega (arith, came.durable, c.block.durable, length-append came.done more, length-take-le n (facts_of g mid).ahead c.block.within);
          events = came.events ++ c.works.events;
          answers = came.answers ++ c.works.answers;
          own = own_then came.events c.works.events came.own c.works.own;
          ran = joined.both_runs old mid new came.events came.answers c.works.events c.works.answers came.ran c.works.ran;
          told =
              told_then came.answers c.works.answers ∙ ap (λ (rs : List Reply). rs ++ acknowledged c.works.answers) came.told ∙ ap (λ (rs : List Reply). map reply_of came.done ++ rs) (c.told ∙ c.block.told)
              ∙ sym (map-append reply_of came.done more);
          running = running;
        }

    pub came_ended : (r : Refusal) (count : ℕ) → (facts_of g new).durable ≡ (facts_of g old).durable + count → Commits g pages mid new (Err r) → Committed g old new count (Err r)
    came_ended r count is c = record {
      done = came.done;
      split = came.split ∙ ap (λ (rest : List Judged). came.done ++ rest) (sym c.block.ahead);
      durable = omega (arith, came.durable, c.block.durable);
      counted = omega (arith, is, came.durable, c.block.durable);
      events = came.events ++ c.works.events;
      answers = came.answers ++ c.works.answers;
      own = own_then came.events c.works.events came.own c.works.own;
      ran = joined.both_runs old mid new came.events came.answers c.works.events c.works.answers came.ran c.works.ran;
      told = told_then came.answers c.works.answers ∙ ap (λ (rs : List Reply). rs ++ acknowledged c.works.answers) came.told ∙ ap (λ (rs : List Reply). map reply_of came.done ++ rs) c.told ∙ append-nil (map reply_of came.done);
      all = tt;
    }
