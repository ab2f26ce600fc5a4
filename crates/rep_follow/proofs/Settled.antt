-- How a checkpoint is ended where nothing waits.
use Rattle.std.proofs.Common.{◌≡◌, ℕ, true, false, List, [], ◌∷◌, ◌++◌, map, take, drop, Option, None, Some, Result, Ok, Err, refl, sym, ap, ◌∙◌, ◌⊎◌, inl, inr, arith, subst}
use Rattle.std.specs.Prelude.{MatchOption}
use Rattle.rep_types.specs.declared.judged.Judged.{Judged}
use Rattle.rep_types.specs.declared.reply.Reply.{Reply}
use Rattle.rep_types.specs.declared.refusal.Refusal.{Refusal}
use Rattle.rep_types.specs.Replies.{reply_of}
use Rattle.rep_disk.specs.declared.disk.Disk.{Ghosts}
use Rattle.rep_log.specs.declared.phase.Phase.TheVariants.{Resting}
use Rattle.rep_steps.specs.declared.event.Event.{Event}
use Rattle.rep_steps.specs.declared.event.Event.TheVariants.{Deliver, SetWindow, Log, Sync, Check, Flush, Read}
use Rattle.rep_steps.specs.declared.answer.Answer.{Answer}
use Rattle.rep_steps.specs.declared.answer.Answer.TheVariants.{Refused}
use Rattle.rep_steps.specs.Standings.{Standing, Part, Flushing, Saving, Ready, SuperFilling, SuperFilled, SuperOpening, Stage, Off, Toward, Retiring, refusal}
use Rattle.rep_steps.specs.Moves.{Found, Fails, MeetsCorruption, answer, after, check_answer, opening, synced_phase}
use Rattle.rep_steps.specs.Runs.{Runs as RunsBy, acknowledged, replies_in}
use Rattle.rep_replica.specs.Replicas.{Replica, facts_of}
use Rattle.rep_replica.specs.Episodes.{Runs}
use Rattle.rep_replica.specs.Holding.{IsStep}
use Rattle.rep_replica.specs.Settling.{Works, IsDue, due_at, step_of_part}
use Rattle.rep_follow.specs.declared.counts.Counts.{Counts}
use Rattle.rep_follow.specs.Counting.{HasSettled}
use Rattle.rep_follow.specs.Committing.{TellsAll, EndsAsAnswered}
use Rattle.rep_follow.specs.Finishing.{WaitsOrRests}
use Rattle.rep_follow.proofs.Committing.{none_durable, follows_run, runs_paired, own_none, goes_both, written_whole, on_ok}
use Rattle.rep_follow.proofs.Counting.{counted_run}
use Rattle.std.proofs.KnownBytes.{Appends-nil}

-- ---- a step that is due where nothing waits

abbrev IsOfCheckpoint : Event → Type 0
IsOfCheckpoint Sync = Unit {0}
IsOfCheckpoint Check = Unit {0}
IsOfCheckpoint (Flush page) = Unit {0}
IsOfCheckpoint e = ⊥

part_due : (part : Part) → IsOfCheckpoint (step_of_part part)
part_due (Flushing []) = tt
part_due (Flushing (page ∷ left)) = tt
part_due Saving = tt
part_due Ready = tt
part_due SuperFilling = tt
part_due SuperFilled = tt
part_due SuperOpening = tt

some_same : (e f : Event) → Some e ≡ Some f → e ≡ f
some_same e f is = cc

stage_due : (s : Standing) (stage : Stage) (e : Event) → s.ahead ≡ [] → due_at s stage ≡ Some e → IsOfCheckpoint e
stage_due s Off e none due =
    absurd (let idle = ap (λ (l : List Judged). due_at (record s { ahead = l }) Off) none in let never : None ≡ Some e = sym idle ∙ due in cc)
stage_due s (Toward goal part) e none due = subst IsOfCheckpoint (some_same (step_of_part part) e due) (part_due part)
stage_due s (Retiring false) e none due = subst IsOfCheckpoint (some_same Check e due) tt
stage_due s (Retiring true) e none due = subst IsOfCheckpoint (some_same Sync e due) tt

-- What waits and what is durable stay, at rest, and no reply was given.
record Idles (s : Standing) (told : List Reply) (t : Standing) : Type 0 where
  durable : t.durable ≡ s.durable
  ahead : t.ahead ≡ s.ahead
  phase : t.phase ≡ s.phase
  none : told ≡ []

check_tells : (s : Standing) (stage : Stage) → replies_in (check_answer s stage) ≡ []
check_tells s Off = refl
check_tells s (Toward goal part) = refl
check_tells s (Retiring written) = refl

went_idle : (s t : Standing) (e : Event) (a : Answer) (found : Found) → IsOfCheckpoint e → s.phase ≡ Resting → s.ahead ≡ [] → a ≡ answer s e found → t ≡ after s e found → Idles s (replies_in a) t
went_idle s t (Deliver seqno w) a found own rests none is to = absurd own
went_idle s t (SetWindow seqno size source trx) a found own rests none is to = absurd own
went_idle s t Log a found own rests none is to = absurd own
went_idle s t Sync a found own rests none is to =
    let zero_is : opening s.phase ≡ 0 = ap opening rests in
    let durable = ap (λ (u : Standing). u.durable) to in
    record {
      durable = omega (arith, zero_is, durable);
      ahead = ap (λ (u : Standing). u.ahead) to ∙ ap (λ k. drop k s.ahead) zero_is;
      phase = ap (λ (u : Standing). u.phase) to ∙ ap synced_phase rests ∙ sym rests;
      none = ap replies_in is ∙ ap (λ k. map reply_of (take k s.ahead)) zero_is;
    }
went_idle s t Check a found own rests none is to =
    record { durable = ap (λ (u : Standing). u.durable) to; ahead = ap (λ (u : Standing). u.ahead) to; phase = ap (λ (u : Standing). u.phase) to; none = ap replies_in is ∙ check_tells s s.stage }
went_idle s t (Flush page) a found own rests none is to =
    record { durable = ap (λ (u : Standing). u.durable) to; ahead = ap (λ (u : Standing). u.ahead) to; phase = ap (λ (u : Standing). u.phase) to; none = ap replies_in is }
went_idle s t (Read key at) a found own rests none is to = absurd own

refused_idle : (s t : Standing) (a : Answer) (r : Refusal) → a ≡ Refused r → t.durable ≡ s.durable → t.ahead ≡ s.ahead → t.phase ≡ s.phase → Idles s (replies_in a) t
refused_idle s t a r is durable ahead phase = record { durable = durable; ahead = ahead; phase = phase; none = ap replies_in is }

moved_idle : (s t : Standing) (e : Event) (a : Answer) (o : Option Refusal) → IsOfCheckpoint e → s.phase ≡ Resting → s.ahead ≡ []
    → MatchOption o (((found : Found) × (a ≡ answer s e found) × (t ≡ after s e found)) ⊎ (Fails s e a t ⊎ MeetsCorruption s e a t)) (λ r. (a ≡ Refused r) × (t ≡ s)) → Idles s (replies_in a) t
moved_idle s t e a None own rests none (inl went) = went_idle s t e a went.0 own rests none went.1 went.2
moved_idle s t e a None own rests none (inr (inl (inl hungry))) =
    refused_idle s t a _ hungry.1 (ap (λ (u : Standing). u.durable) hungry.2) (ap (λ (u : Standing). u.ahead) hungry.2) (ap (λ (u : Standing). u.phase) hungry.2)
moved_idle s t e a None own rests none (inr (inl (inr fault))) =
    refused_idle s t a _ fault.1 (ap (λ (u : Standing). u.durable) fault.3) (ap (λ (u : Standing). u.ahead) fault.3) (ap (λ (u : Standing). u.phase) fault.3)
moved_idle s t e a None own rests none (inr (inr corrupt)) =
    refused_idle s t a _ corrupt.1 (ap (λ (u : Standing). u.durable) corrupt.2) (ap (λ (u : Standing). u.ahead) corrupt.2) (ap (λ (u : Standing). u.phase) corrupt.2)
moved_idle s t e a (Some r) own rests none refused =
    refused_idle s t a r refused.0 (ap (λ (u : Standing). u.durable) refused.1) (ap (λ (u : Standing). u.ahead) refused.1) (ap (λ (u : Standing). u.phase) refused.1)

-- ---- all of them

run_idle : (s t : Standing) (events : List Event) (answers : List Answer) → RunsBy IsDue s events answers t → s.ahead ≡ [] → s.phase ≡ Resting → Idles s (acknowledged answers) t
run_idle s t [] [] runs none rests =
    record { durable = ap (λ (u : Standing). u.durable) (sym runs); ahead = ap (λ (u : Standing). u.ahead) (sym runs); phase = ap (λ (u : Standing). u.phase) (sym runs); none = refl }
run_idle s t [] (a ∷ answers) runs none rests = absurd runs
run_idle s t (e ∷ events) [] runs none rests = absurd runs
run_idle s t (e ∷ events) (a ∷ answers) runs none rests =
    let first = moved_idle s runs.0 e a (refusal s e) (stage_due s s.stage e none runs.1.0) rests none runs.1.1 in
    let later = run_idle runs.0 t events answers runs.2 (first.ahead ∙ none) (first.phase ∙ rests) in
    record {
      durable = later.durable ∙ first.durable;
      ahead = later.ahead ∙ first.ahead;
      phase = later.phase ∙ first.phase;
      none = ap (λ l. l ++ acknowledged answers) first.none ∙ later.none;
    }

module _ {D : Type 0} (g : Ghosts D) where
  works_early : (old new : Replica D) (r : Result (Unit {0}) Refusal) (w : Works g old new r) → EndsAsAnswered (Runs w.events w.answers new ∷ []) r
  works_early old new (Ok x) w = tt
  works_early old new (Err e) w = λ early. ([], w.events, w.ends.0, new, ap (λ (answers : List Answer). Runs w.events answers new ∷ []) w.ends.2)

  rests_by : (old mid : Replica D) (was between : Counts) (before after : Option (List ℕ)) (x : Unit {0}) → TellsAll g old mid was between before after (Ok x) → WaitsOrRests g old → (facts_of g mid).phase ≡ Resting
  rests_by old mid was between before after x tells (inl waits) = tells.rests waits
  rests_by old mid was between before after x tells (inr rests) = tells.goes.rests rests

  pub tells_settled : (old mid new : Replica D) (was between now : Counts) (before after : Option (List ℕ)) (x : Unit {0}) (r : Result (Unit {0}) Refusal) → TellsAll g old mid was between before after (Ok x) → Works g mid new r
      → HasSettled g mid new between now → WaitsOrRests g old → TellsAll g old new was now before after r
  tells_settled old mid new was between now before after x r tells w counted waits =
      let rests = rests_by old mid was between before after x tells waits in
      let idles = run_idle (facts_of g mid) (facts_of g new) w.events w.answers w.moves tells.all rests in
      record {
        goes = goes_both g old mid new [] [] [] [] was between now before after after x r tells.goes (record {
          receipts = [];
          follows = follows_run g mid new w.events w.answers [] [] [] (runs_paired (IsStep g) mid new w.events w.answers w.steps) w.ran (own_none w.events w.answers w.own) idles.none refl
              (none_durable (facts_of g mid) (facts_of g new) idles.durable idles.ahead);
          written = written_whole [] after after r (Appends-nil after);
          counted = counted_run g 0 mid new between now w.events w.answers idles.none counted;
          rests = λ at_rest. on_ok r (idles.phase ∙ rests);
          early = works_early mid new r w;
        });
        all = on_ok r (idles.ahead ∙ tells.all);
        rests = λ some. on_ok r (idles.phase ∙ rests);
      }
