-- Parts of a life in which nothing is delivered.
use Rattle.std.proofs.Common.{◌≡◌, ℕ, true, List, [], ◌∷◌, Option, None, Some, Ok, refl, sym, ap, ◌∙◌, ◌⊎◌, inl, inr}
use Rattle.std.specs.Prelude.{MatchOption}
use Rattle.std.proofs.KnownBytes.{Appends-nil}
use Rattle.rep_types.specs.declared.key.Key.{Key}
use Rattle.rep_types.specs.declared.refusal.Refusal.{Refusal}
use Rattle.rep_disk.specs.declared.disk.Disk.{Ghosts}
use Rattle.rep_replica.specs.Engines.{phase_at}
use Rattle.rep_steps.specs.declared.event.Event.TheVariants.{Read}
use Rattle.rep_steps.specs.declared.answer.Answer.{Answer}
use Rattle.rep_steps.specs.declared.answer.Answer.TheVariants.{Refused}
use Rattle.rep_steps.specs.Standings.{Standing, refusal}
use Rattle.rep_steps.specs.Moves.{Found, Fails, MeetsCorruption, answer, after}
use Rattle.rep_steps.specs.Runs.{acknowledged}
use Rattle.rep_replica.specs.Replicas.{Replica, facts_of}
use Rattle.rep_replica.specs.Holding.{IsStep}
use Rattle.rep_replica.specs.Running.{RunsAreJoined}
use Rattle.rep_replica.specs.Asking.{IsAsked, AsksAreGivenUp}
use Rattle.rep_follow.specs.declared.counts.Counts.{Counts}
use Rattle.rep_follow.specs.Counting.{HasCounters}
use Rattle.rep_follow.specs.Committing.{Follows, Goes}
use Rattle.rep_follow.proofs.Committing.{none_durable, follows_run, follows_ask}
use Rattle.rep_follow.proofs.Counting.{counted_items, risen_not, still_run}

-- ---- a row is read

-- what moves of the facts: nothing that is told or counted
pub record Stays (s : Standing) (a : Answer) (t : Standing) : Type 0 where
  pub durable : t.durable ≡ s.durable
  pub ahead : t.ahead ≡ s.ahead
  pub phase : t.phase ≡ s.phase
  pub base : t.base ≡ s.base
  pub none : acknowledged (a ∷ []) ≡ []

stays_by : (s t : Standing) (a b : Answer) → a ≡ b → acknowledged (b ∷ []) ≡ [] → t ≡ record s { failures = t.failures; stopped = t.stopped } → Stays s a t
stays_by s t a b is none same = record {
  durable = ap (λ (u : Standing). u.durable) same;
  ahead = ap (λ (u : Standing). u.ahead) same;
  phase = ap (λ (u : Standing). u.phase) same;
  base = ap (λ (u : Standing). u.base) same;
  none = ap (λ (c : Answer). acknowledged (c ∷ [])) is ∙ none;
}

unmoved : (s t : Standing) → t ≡ s → t ≡ record s { failures = t.failures; stopped = t.stopped }
unmoved s t same = let failures = ap (λ (u : Standing). u.failures) same in let stopped = ap (λ (u : Standing). u.stopped) same in same ∙ ap (λ n. record s { failures = n }) (sym failures) ∙ ap (λ b. record s { failures = t.failures; stopped = b }) (sym stopped)

halted : (s t : Standing) → t ≡ record s { failures = t.failures; stopped = true } → t ≡ record s { failures = t.failures; stopped = t.stopped }
halted s t same = let stopped = ap (λ (u : Standing). u.stopped) same in same ∙ ap (λ b. record s { failures = t.failures; stopped = b }) (sym stopped)

read_stays : (s t : Standing) (key : Key) (position : ℕ) (a : Answer) (o : Option Refusal)
    → MatchOption o (((found : Found) × (a ≡ answer s (Read key position) found) × (t ≡ after s (Read key position) found)) ⊎ (Fails s (Read key position) a t ⊎ MeetsCorruption s (Read key position) a t)) (λ r. (a ≡ Refused r) × (t ≡ s))
    → Stays s a t
read_stays s t key position a None (inl went) = stays_by s t a _ went.1 refl (unmoved s t went.2)
read_stays s t key position a None (inr (inl (inl hungry))) = stays_by s t a _ hungry.1 refl (unmoved s t hungry.2)
read_stays s t key position a None (inr (inl (inr fault))) = stays_by s t a _ fault.1 refl (halted s t fault.3)
read_stays s t key position a None (inr (inr corrupt)) = stays_by s t a _ corrupt.1 refl (unmoved s t corrupt.2)
read_stays s t key position a (Some r) refused = stays_by s t a _ refused.0 refl (unmoved s t refused.1)

module _ {D : Type 0} (g : Ghosts D) where
  module _ (joined : RunsAreJoined g) (old new : Replica D) (key : Key) (position : ℕ) (a : Answer) (step : IsStep g old (Read key position) a new) where
    pub stays : Stays (facts_of g old) a (facts_of g new)
    stays = read_stays (facts_of g old) (facts_of g new) key position a (refusal (facts_of g old) (Read key position)) step.moves

    abbrev pub follows_read : Follows g old new [] []
    follows_read = follows_run g old new (Read key position ∷ []) (a ∷ []) [] [] [] refl (joined.one_run old new (Read key position) a step) refl stays.none refl
        (none_durable (facts_of g old) (facts_of g new) stays.durable stays.ahead)

    pub goes_read : (counts : Counts) (text : Option (List ℕ)) → HasCounters counts → Goes g old new [] [] counts counts text text (Ok tt)
    goes_read counts text has = record {
      receipts = [];
      follows = follows_read;
      written = Appends-nil text;
      counted = counted_items g old follows_read.episodes [] counts counts follows_read.own follows_read.given (still_run g old new (Read key position ∷ []) (a ∷ []) stays.base) (risen_not counts has);
      rests = λ rests. stays.phase ∙ rests;
      early = tt;
    }

  -- ---- the device is asked

  asked_phase : (old new : Replica D) → IsAsked g old new → (facts_of g new).phase ≡ (facts_of g old).phase
  asked_phase old new asked = ap (λ r. (facts_of g r).phase) asked.rest ∙ by_halt asked.halts
    where
      by_halt : (new.engine.halted ≡ old.engine.halted) ⊎ ((old.engine.halted ≡ None) × (new.engine.halted ≡ Some old.engine.log.phase)) → phase_at old.engine.log.phase new.engine.halted ≡ phase_at old.engine.log.phase old.engine.halted
      by_halt (inl same) = ap (phase_at old.engine.log.phase) same
      by_halt (inr halts) = ap (phase_at old.engine.log.phase) halts.1 ∙ sym (ap (phase_at old.engine.log.phase) halts.0)

  pub goes_asked : AsksAreGivenUp g → (old new : Replica D) (counts : Counts) (text : Option (List ℕ)) → HasCounters counts → IsAsked g old new → Goes g old new [] [] counts counts text text (Ok tt)
  goes_asked given_up old new counts text has asked =
      let follows = follows_ask g given_up old new asked in
      record {
        receipts = [];
        follows = follows;
        written = Appends-nil text;
        counted = counted_items g old follows.episodes [] counts counts follows.own follows.given refl (risen_not counts has);
        rests = λ rests. asked_phase old new asked ∙ rests;
        early = tt;
      }
