-- How a checkpoint begins.
use Rattle.std.proofs.Common.{◌≡◌, ℕ, Bool, true, false, ◌<◌, List, [], ◌∷◌, ◌++◌, length, map, Option, None, Some, Result, Ok, Err, refl, sym, ap, ◌∙◌, ◌⊎◌, inl, inr, arith, subst, append-nil}
use Rattle.std.specs.Prelude.{MatchOption, IfErr, OnOk, ◌||◌, is_some, not, nat_lt, nat_le, if◌then◌else◌}
use Rattle.std.proofs.lemmas.Bool.Decides.{nat_tests}
use Rattle.rep_types.proofs.Choices.{and_left, and_right}
use Rattle.rep_types.specs.declared.judged.Judged.{Judged}
use Rattle.rep_types.specs.declared.refusal.Refusal.{Refusal}
use Rattle.rep_types.specs.declared.refusal.Refusal.TheVariants.{StreamFault, Stopped, OutOfMemory, NotDue}
use Rattle.rep_disk.specs.declared.disk.Disk.{Ghosts}
use Rattle.rep_log.specs.declared.phase.Phase.TheVariants.{Resting}
use Rattle.rep_steps.specs.declared.event.Event.TheVariants.{Check}
use Rattle.rep_steps.specs.declared.answer.Answer.{Answer}
use Rattle.rep_steps.specs.declared.answer.Answer.TheVariants.{Began, Refused}
use Rattle.rep_steps.specs.Standings.{Standing, Stage, Off, Toward, Retiring, check_refusal}
use Rattle.rep_steps.specs.Moves.{Found, Fails, MeetsCorruption, Moves, answer, after, check_answer, checked, is_off}
use Rattle.rep_steps.specs.Runs.{acknowledged}
use Rattle.rep_replica.specs.Replicas.{Replica, facts_of}
use Rattle.rep_replica.specs.Episodes.{Runs}
use Rattle.rep_replica.specs.Holding.{IsStep}
use Rattle.rep_replica.specs.Running.{RunsAreJoined}
use Rattle.rep_replica.specs.Settling.{outcome_of}
use Rattle.rep_follow.specs.declared.counts.Counts.{Counts}
use Rattle.rep_follow.specs.Counting.{HasCounters}
use Rattle.rep_follow.specs.Committing.{item_of, Follows, IsHeldUp, EndsAsAnswered, Goes, TellsNext, is_checkpoint_due, HasBegun, Begins, AndBegins, TellsAndBegins}
use Rattle.rep_follow.proofs.Committing.{on_ok, none_durable, follows_none, follows_run, goes_both, goes_next, next_smaller, written_whole}
use Rattle.rep_follow.proofs.Counting.{still_run, counted_items, risen_not, risen_has}
use Rattle.std.proofs.KnownBytes.{Appends-nil}

-- ---- what a due checkpoint is

off_by : (stage : Stage) → is_off stage ≡ true → stage ≡ Off
off_by Off is = refl
off_by (Toward goal part) is = absurd cc
off_by (Retiring written) is = absurd cc

due_off : (s : Standing) → is_checkpoint_due s ≡ true → s.stage ≡ Off
due_off s due = off_by s.stage (and_left (is_off s.stage) _ due)

due_above : (s : Standing) → is_checkpoint_due s ≡ true → nat_le s.durable s.base ≡ false
due_above s due = let above = and_left (nat_lt s.base s.durable) _ (and_right (is_off s.stage) _ due) in grind (arith, nat_tests)

-- ---- the step

-- what the step says of a standing
abbrev Came : Standing → Answer → Standing → Type 0
Came s a t = ((a ≡ Began s.durable) × HasBegun s t) ⊎ ((e : Refusal) × (a ≡ Refused e) × (t ≡ s) × (((e ≡ Stopped) × (t.stopped ≡ true)) ⊎ (e ≡ OutOfMemory)))

check_due : (s : Standing) (stage : Stage) → stage ≡ Off → nat_le s.durable s.base ≡ false → check_refusal s stage ≡ None
check_due s stage off above = ap (check_refusal s) off ∙ ap (λ (b : Bool). if b then Some NotDue else None) above

came_by : (s t : Standing) (a : Answer) (stopped : Bool) → s.stopped ≡ stopped → s.stage ≡ Off → check_refusal s s.stage ≡ None → Moves s Check a t → Came s a t
came_by s t a true is off none moves =
    let refused = subst (λ o. MatchOption o (((found : Found) × (a ≡ answer s Check found) × (t ≡ after s Check found)) ⊎ (Fails s Check a t ⊎ MeetsCorruption s Check a t)) (λ r. (a ≡ Refused r) × (t ≡ s)))
    (ap (λ (b : Bool). if b then Some Stopped else check_refusal s s.stage) is) moves in
    inr (Stopped, refused.0, refused.1, inl (refl, ap (λ (u : Standing). u.stopped) refused.1 ∙ is))
came_by s t a false is off none moves =
    by_move (subst (λ o. MatchOption o (((found : Found) × (a ≡ answer s Check found) × (t ≡ after s Check found)) ⊎ (Fails s Check a t ⊎ MeetsCorruption s Check a t)) (λ r. (a ≡ Refused r) × (t ≡ s)))
    (ap (λ (b : Bool). if b then Some Stopped else check_refusal s s.stage) is ∙ none) moves)
  where
    by_move : ((found : Found) × (a ≡ answer s Check found) × (t ≡ after s Check found)) ⊎ (Fails s Check a t ⊎ MeetsCorruption s Check a t) → Came s a t
    by_move (inl went) = inl (went.1 ∙ ap (check_answer s) off, (went.0.left, went.2 ∙ ap (λ (stage : Stage). record s { stage = checked s went.0.left stage }) off))
    by_move (inr (inl (inl hungry))) = inr (OutOfMemory, hungry.1, hungry.2, inr refl)
    by_move (inr (inl (inr fault))) = absurd (let asked = fault.0 in let never : false ≡ true = sym (ap (λ (stage : Stage). not (is_off stage)) off) ∙ asked in cc)
    by_move (inr (inr corrupt)) = absurd (let never : false ≡ true = corrupt.0 in cc)

came : (s t : Standing) (a : Answer) → is_checkpoint_due s ≡ true → Moves s Check a t → Came s a t
came s t a due moves = let off = due_off s due in came_by s t a s.stopped refl off (check_due s s.stage off (due_above s due)) moves

module _ {D : Type 0} (g : Ghosts D) where
  -- none is due
  pub begins_not : (r : Replica D) → is_checkpoint_due (facts_of g r) ≡ false → Begins g r r (Ok tt)
  begins_not r not = record {
    follows = follows_none g r;
    still = refl;
    answered = tt;
    phase = refl;
    not_due = λ is. (refl, refl);
    due = λ is. absurd (let never : false ≡ true = sym not ∙ is in cc);
  }

  module _ (joined : RunsAreJoined g) (old new : Replica D) (a : Answer) (step : IsStep g old Check a new) (due : is_checkpoint_due (facts_of g old) ≡ true) where
    never_not : is_checkpoint_due (facts_of g old) ≡ false → ⊥
    never_not not = let never : true ≡ false = sym due ∙ not in cc

    -- nothing was told, and the base stays
    abbrev follows_check : (facts_of g new).durable ≡ (facts_of g old).durable → (facts_of g new).ahead ≡ (facts_of g old).ahead → acknowledged (a ∷ []) ≡ [] → Follows g old new [] []
    follows_check durable ahead none = follows_run g old new (Check ∷ []) (a ∷ []) [] [] [] refl (joined.one_run old new Check a step) refl none refl (none_durable (facts_of g old) (facts_of g new) durable ahead)

    begun : (r : Result (Unit {0}) Refusal) → r ≡ outcome_of a → Came (facts_of g old) a (facts_of g new) → Begins g old new r
    begun r is (inl (began, has)) = subst (Begins g old new) (sym (is ∙ ap outcome_of began)) (record {
      follows = follows_check (ap (λ (u : Standing). u.durable) has.1) (ap (λ (u : Standing). u.ahead) has.1) (ap (λ (b : Answer). acknowledged (b ∷ [])) began);
      still = still_run g old new (Check ∷ []) (a ∷ []) (ap (λ (u : Standing). u.base) has.1);
      answered = tt;
      phase = ap (λ (u : Standing). u.phase) has.1;
      not_due = λ not. absurd (never_not not);
      due = λ so. has;
    })
    begun r is (inr (e, refused, same, why)) = subst (Begins g old new) (sym (is ∙ ap outcome_of refused)) (record {
      follows = follows_check (ap (λ (u : Standing). u.durable) same) (ap (λ (u : Standing). u.ahead) same) (ap (λ (b : Answer). acknowledged (b ∷ [])) refused);
      still = still_run g old new (Check ∷ []) (a ∷ []) (ap (λ (u : Standing). u.base) same);
      answered = ([], Check ∷ [], [], new, ap (λ (b : Answer). Runs (Check ∷ []) (b ∷ []) new ∷ []) refused);
      phase = ap (λ (u : Standing). u.phase) same;
      not_due = λ not. absurd (never_not not);
      due = λ so. (same, why);
    })

    pub begins_check : (r : Result (Unit {0}) Refusal) → r ≡ outcome_of a → Begins g old new r
    begins_check r is = begun r is (came (facts_of g old) (facts_of g new) a due step.moves)

  -- ---- behind what was told

  begins_early : (old new : Replica D) (r : Result (Unit {0}) Refusal) (b : Begins g old new r) → EndsAsAnswered b.follows.episodes r
  begins_early old new (Ok x) b = tt
  begins_early old new (Err e) b = λ early. b.answered

  none_judged : (judged : List Judged) → map item_of judged ≡ [] → judged ≡ []
  none_judged [] none = refl
  none_judged (j ∷ judged) none = absurd cc

  -- what waits still does
  begun_ahead : (old new : Replica D) → Follows g old new [] [] → (facts_of g new).ahead ≡ (facts_of g old).ahead
  begun_ahead old new f = f.durable.ahead ∙ ap (λ l. (facts_of g old).ahead ++ l) (none_judged f.judged f.are_items) ∙ append-nil (facts_of g old).ahead

  begun_goes : (old new : Replica D) (now : Counts) (text : Option (List ℕ)) (r : Result (Unit {0}) Refusal) → HasCounters now → Begins g old new r → Goes g old new [] [] now now text text r
  begun_goes old new now text r has b = record {
    receipts = [];
    follows = b.follows;
    written = written_whole [] text text r (Appends-nil text);
    counted = counted_items g old b.follows.episodes [] now now b.follows.own b.follows.given b.still (risen_not now has);
    rests = λ rests. on_ok r (b.phase ∙ rests);
    early = begins_early old new r b;
  }

  module _ (old new : Replica D) (was now : Counts) (before after : Option (List ℕ)) where
    -- a block, and the checkpoint that begins behind it
    goes_by : (mid : Replica D) (told r : Result (Unit {0}) Refusal) → TellsNext g old mid was now before after told → AndBegins g told mid new r → Goes g old new [] [] was now before after r
    goes_by mid (Ok x) r tells begins = goes_both g old mid new [] [] [] [] was now now before after after x r (goes_next g old mid was now before after (Ok x) tells)
        (begun_goes mid new now after r (risen_has was _ now tells.counted) begins)
    goes_by mid (Err e) r tells begins = subst (λ (last : Replica D). Goes g old last [] [] was now before after r) (sym begins.1)
        (subst (Goes g old mid [] [] was now before after) (sym begins.0) (goes_next g old mid was now before after (Err e) tells))

    pub block_goes : (r : Result (Unit {0}) Refusal) → TellsAndBegins g old new was now before after r → Goes g old new [] [] was now before after r
    block_goes r block = goes_by block.mid block.told r block.tells block.begins

    -- where that ended well, fewer items wait, and the log is at rest
    never_ok : (x : Unit {0}) (e : Refusal) → ◌≡◌ {A = Result (Unit {0}) Refusal} (Ok x) (Err e) → ⊥
    never_ok x e is = cc

    smaller_by : (mid : Replica D) (told : Result (Unit {0}) Refusal) (x : Unit {0}) → TellsNext g old mid was now before after told → AndBegins g told mid new (Ok x) → length (facts_of g new).ahead < length (facts_of g old).ahead
    smaller_by mid (Ok y) x tells begins =
        let fewer = next_smaller g old mid was now before after y tells in
        let same = ap length (begun_ahead mid new begins.follows) in
        omega (arith, fewer, same)
    smaller_by mid (Err e) x tells begins = absurd (never_ok x e begins.0)

    pub block_smaller : (x : Unit {0}) → TellsAndBegins g old new was now before after (Ok x) → length (facts_of g new).ahead < length (facts_of g old).ahead
    block_smaller x block = smaller_by block.mid block.told x block.tells block.begins

    rests_by : (mid : Replica D) (told : Result (Unit {0}) Refusal) (x : Unit {0}) → TellsNext g old mid was now before after told → AndBegins g told mid new (Ok x) → (facts_of g new).phase ≡ Resting
    rests_by mid (Ok y) x tells begins = begins.phase ∙ tells.rests
    rests_by mid (Err e) x tells begins = absurd (never_ok x e begins.0)

    pub block_rests : (x : Unit {0}) → TellsAndBegins g old new was now before after (Ok x) → (facts_of g new).phase ≡ Resting
    block_rests x block = rests_by block.mid block.told x block.tells block.begins

  -- it runs where it ran, unless that was refused
  runs_by : (mid new : Replica D) (x : Unit {0}) (so : Bool) → is_checkpoint_due (facts_of g mid) ≡ so → Begins g mid new (Ok x) → (facts_of g mid).stopped ≡ false → (facts_of g new).stopped ≡ false
  runs_by mid new x true is b runs = ap (λ (u : Standing). u.stopped) (b.due is).1 ∙ runs
  runs_by mid new x false is b runs = ap (λ (r : Replica D). (facts_of g r).stopped) (b.not_due is).1 ∙ runs

  pub begun_runs : (mid new : Replica D) (r : Result (Unit {0}) Refusal) → Begins g mid new r → (mid.stopped || is_some mid.engine.halted) ≡ false → OnOk r ((new.stopped || is_some new.engine.halted) ≡ false)
  begun_runs mid new (Ok x) b runs = runs_by mid new x (is_checkpoint_due (facts_of g mid)) refl b runs
  begun_runs mid new (Err e) b runs = tt

  -- why none began
  why_by : (mid new : Replica D) (e : Refusal) (so : Bool) → is_checkpoint_due (facts_of g mid) ≡ so → Begins g mid new (Err e) → IsHeldUp g new e
  why_by mid new e true is b = by_cause (b.due is).1
    where
      by_cause : ((e ≡ Stopped) × ((facts_of g new).stopped ≡ true)) ⊎ (e ≡ OutOfMemory) → IsHeldUp g new e
      by_cause (inl stopped) = inl stopped
      by_cause (inr hungry) = inr (inl hungry)
  why_by mid new e false is b = absurd (let never : ◌≡◌ {A = Result (Unit {0}) Refusal} (Err e) (Ok tt) = (b.not_due is).0 in cc)

  pub begun_why : (mid new : Replica D) (r : Result (Unit {0}) Refusal) → Begins g mid new r → IfErr r (λ e. (e ≡ StreamFault) ⊎ IsHeldUp g new e)
  begun_why mid new (Ok x) b = tt
  begun_why mid new (Err e) b = inr (why_by mid new e (is_checkpoint_due (facts_of g mid)) refl b)
