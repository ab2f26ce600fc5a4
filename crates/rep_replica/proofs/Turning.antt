-- The turns of a replica that makes its next block durable.
use Rattle.std.proofs.Common.{◌≡◌, ℕ, ◌+◌, ◌<◌, ◌≤◌, ◌⊎◌, inl, inr, true, false, List, [], ◌∷◌, ◌++◌, length, map, take, None, Some, Result, Ok, Err, refl, sym, ap, subst, ◌∙◌, arith}
use Rattle.std.proofs.lemmas.List.{append-nil, length-append}
use Rattle.std.specs.Prelude.{IfErr, IfOk, MatchResult}
use Rattle.rep_types.specs.declared.reply.Reply.{Reply}
use Rattle.rep_types.specs.declared.refusal.Refusal.{Refusal}
use Rattle.rep_types.specs.declared.refusal.Refusal.TheVariants.{OutOfMemory, DiskFault, Corrupt}
use Rattle.rep_types.specs.declared.refusal.Part.TheVariants.{Pages}
use Rattle.rep_types.specs.Replies.{reply_of}
use Rattle.rep_record.specs.Fronts.{fitting}
use Rattle.rep_disk.specs.declared.disk.Disk.{Ghosts}
use Rattle.rep_log.specs.declared.phase.Phase.{Phase}
use Rattle.rep_log.specs.declared.phase.Phase.TheVariants.{Closing, Filling, Opening}
use Rattle.rep_log.specs.declared.phase.Step.TheVariants.{Sync as to_sync}
use Rattle.rep_log.specs.Standing.{due_in, due_of}
use Rattle.rep_log.specs.Moves.{after_sync, started}
use Rattle.rep_steps.specs.declared.event.Event.{Event}
use Rattle.rep_steps.specs.declared.event.Event.TheVariants.{Log, Sync}
use Rattle.rep_steps.specs.declared.answer.Answer.{Answer}
use Rattle.rep_steps.specs.declared.answer.Answer.TheVariants.{Synced, Refused}
use Rattle.rep_steps.specs.Standings.{Standing, refusal, refusal_here, Off}
use Rattle.rep_steps.specs.Moves.{Found, after, replies, opening}
use Rattle.rep_steps.specs.Runs.{acknowledged}
use Rattle.rep_recover.specs.Engines.{IsEngine, IsWhole, HasAll}
use Rattle.rep_recover.specs.Writing.{IsWrite}
use Rattle.rep_replica.specs.Replicas.{Replica, facts_of}
use Rattle.rep_replica.specs.Holding.{IsStep}
use Rattle.rep_replica.specs.Running.{RunsAreJoined}
use Rattle.rep_replica.specs.Settling.{IsRunning, IsOwn, step_of, log_event, outcome_of, EndsIn, WorksBy, Keeps, EndsEarly, work_of}
use Rattle.rep_replica.specs.Committing.{is_full, coming_in, coming, HasBlock, is_sync, IsTurn, page_in, pages_in, pages_left, done_of, Nears, Ends, Leads, Rides, Turns, Frees, Commits}
use Rattle.rep_replica.proofs.Settling.{went_by, done_by, not_refused, runs_on, still_running, due_step, step_early, none_by, one_by, then_by}
use Rattle.rep_replica.proofs.LoggingOn.{phase_is, awaits, write_by, sync_by, synced_less, synced_free, work_is}
use Rattle.rep_replica.proofs.Committing.{works_as, turn_of_turn, untold, told_then, pages_then, keeps_then, refused_keeps, Beside, beside_here, beside_then, beside_keeps, nears_here, nears_beside, block_of, leads_then, log_nears, synced_nears, synced_ends, some_reply, full_rests}

-- ---- what rides

-- The checkpoint under way, as far as it was moved on: so many pages more may be flushed.
pub record Rode {D : Type 0} (g : Ghosts D) (pages left : ℕ) (old new : Replica D) : Type 0 where
  pub works : WorksBy (IsTurn false) g old new (Ok tt)
  pub flushed : pages_in works.events + left ≡ pages
  pub beside : Beside (facts_of g old) (facts_of g new)
  pub off : (facts_of g old).stage ≡ Off → (facts_of g new).stage ≡ Off
  pub running : IsRunning new

module _ {D : Type 0} (g : Ghosts D) (joined : RunsAreJoined g) where
  pub rode_none : (pages : ℕ) (r : Replica D) → IsRunning r → Rode g pages pages r r
  unfolding none_by
  rode_none pages r running = record {
    works = none_by (IsTurn false) g joined r;
    flushed = omega arith;
    beside = beside_here (facts_of g r);
    off = λ off. off;
    running = running;
  }

  pub rides_rode : (pages left : ℕ) (old new : Replica D) → Rode g pages left old new → ((left ≡ 0) ⊎ (pages_left (facts_of g new).stage ≡ [])) → Rides g pages old new (Ok left)
  rides_rode pages left old new rode none = record { works = rode.works; flushed = (rode.flushed, none); beside = rode.beside; off = rode.off }

  pub rode_rides : (pages left : ℕ) (old new : Replica D) → IsRunning new → Rides g pages old new (Ok left) → Rode g pages left old new
  rode_rides pages left old new running rides = record { works = rides.works; flushed = rides.flushed.0; beside = rides.beside; off = rides.off; running = running }

  -- one step more
  module _ (pages left rest : ℕ) (old mid new : Replica D) (e : Event) (a : Answer) (own : IsOwn e) (beside : (s t : Standing) (f : Found) → t ≡ after s e f → Beside s t) (rides : is_sync e ≡ false)
      (waits : step_of (facts_of g mid).stage ≡ Some e) (step : IsStep g mid e a new) (rode : Rode g pages left old mid) (count : page_in e + rest ≡ left) where
    none : refusal (facts_of g mid) e ≡ None
    none = not_refused (facts_of g mid) e (runs_on g mid rode.running) (due_step (facts_of g mid) e waits)

    works : WorksBy (IsTurn false) g old new (outcome_of a)
    works =
        then_by (IsTurn false) g joined old mid new (outcome_of a) rode.works
        (one_by (IsTurn false) g joined mid new e a own none (inr (waits, λ never. absurd (let no : false ≡ true = sym rides ∙ never in cc))) step)

    flushed_so : pages_in (rode.works.events ++ e ∷ []) + rest ≡ pages
    flushed_so = omega (arith, pages_then rode.works.events (e ∷ []), count, rode.flushed)

    pub rode_on : outcome_of a ≡ Ok tt → Rode g pages rest old new
    unfolding works then_by one_by
    rode_on done =
        let went = done_by (facts_of g mid) (facts_of g new) e a none step.moves done in
        record {
          works = record {
            events = works.events;
            answers = works.answers;
            own = works.own;
            ends = subst (λ (r : Result (Unit {0}) Refusal). EndsIn r works.answers) done works.ends;
            moves = works.moves;
            steps = works.steps;
            device = works.device;
            corrupt = λ never. absurd cc;
            ran = works.ran;
          };
          flushed = flushed_so;
          beside = beside_then (facts_of g old) (facts_of g mid) (facts_of g new) rode.beside (beside (facts_of g mid) (facts_of g new) went.0 went.1);
          off = λ off. absurd (let never : None ≡ Some e = sym (ap step_of (rode.off off)) ∙ waits in cc);
          running = still_running g mid new e went.0 rode.running went.1;
        }

    pub ride_ended : (r : Refusal) → outcome_of a ≡ Err r → Rides g pages old new (Err r)
    unfolding works then_by one_by
    ride_ended r refused = record {
      works = record {
        events = works.events;
        answers = works.answers;
        own = works.own;
        ends = subst (λ (x : Result (Unit {0}) Refusal). EndsIn x works.answers) refused works.ends;
        moves = works.moves;
        steps = works.steps;
        device = works.device;
        corrupt = λ is. works.corrupt (refused ∙ is);
        ran = works.ran;
      };
      flushed = omega (arith, flushed_so);
      beside =
          keeps_then (facts_of g old) (facts_of g mid) (facts_of g new) (beside_keeps (facts_of g old) (facts_of g mid) rode.beside)
          (refused_keeps (facts_of g mid) (facts_of g new) e a none step.moves (λ done. let never : ◌≡◌ {A = Result (Unit {0}) Refusal} (Err r) (Ok tt) = sym refused ∙ done in cc));
      off = λ off. tt;
    }

    pub ride_early : (r : Refusal) → outcome_of a ≡ Err r → EndsEarly r
    ride_early r refused = subst (λ (x : Result (Unit {0}) Refusal). IfErr x EndsEarly) refused (step_early (facts_of g mid) (facts_of g new) e a (runs_on g mid rode.running) waits step.moves)

-- ---- turns

-- what works says of a result that is known
unfoldable pub works_of : (rule : Standing → Event → Type 0) {D : Type 0} (g : Ghosts D) (old new : Replica D) (x y : Result (Unit {0}) Refusal) → x ≡ y → WorksBy rule g old new x
    → WorksBy rule g old new y
works_of rule g old new x y is w = record {
  events = w.events;
  answers = w.answers;
  own = w.own;
  ends = subst (λ (r : Result (Unit {0}) Refusal). EndsIn r w.answers) is w.ends;
  moves = w.moves;
  steps = w.steps;
  device = w.device;
  corrupt = λ bad. w.corrupt (is ∙ bad);
  ran = w.ran;
}

module _ {D : Type 0} (g : Ghosts D) where
  -- one that ended early
  pub turn_ended : (pages : ℕ) (old new : Replica D) (r : Refusal) (w : WorksBy (IsTurn false) g old new (Err r)) → pages_in w.events ≤ pages → Keeps (facts_of g old) (facts_of g new)
      → Turns g pages old new (Err r)
  turn_ended pages old new r w few keeps = record {
    works = w;
    told = untold (IsTurn false) w.events w.answers (facts_of g old) (facts_of g new) w.moves keeps.durable;
    flushed = few;
    leads = keeps;
  }

  pub ride_turn : (pages : ℕ) (old new : Replica D) (r : Refusal) → Rides g pages old new (Err r) → Turns g pages old new (Err r)
  ride_turn pages old new r rides = turn_ended pages old new r rides.works rides.flushed rides.beside

  module _ (joined : RunsAreJoined g) where
    -- a write of the log
    module _ (pages : ℕ) (old new : Replica D) (a : Answer) (running : IsRunning old) (h : IsEngine old.engine.layout old.engine.checkpoint old.engine.log old.engine.kept old.engine.block)
        (free : is_full (facts_of g old) ≡ false) (write : IsWrite (due_of old.engine.log)) (none : refusal_here (facts_of g old) Log ≡ None) (step : IsStep g old Log a new) where
      log_works : WorksBy (IsTurn false) g old new (outcome_of a)
      log_works =
          one_by (IsTurn false) g joined old new Log a tt (not_refused (facts_of g old) Log (runs_on g old running) none)
          (inl (ap (log_event (facts_of g old)) (phase_is g old running h) ∙ write_by g old running h old.engine.log.phase write)) step

      pub log_went : outcome_of a ≡ Ok tt → (f : Found) × (facts_of g new ≡ after (facts_of g old) Log f)
      log_went done = done_by (facts_of g old) (facts_of g new) Log a (not_refused (facts_of g old) Log (runs_on g old running) none) step.moves done

      pub log_turn : outcome_of a ≡ Ok tt → Turns g pages old new (Ok (pages, []))
      unfolding works_of log_works one_by
      log_turn done =
          let went = log_went done in
          let nears = log_nears (facts_of g old) (facts_of g new) went.0 free went.1 in
          record {
            works = works_of (IsTurn false) g old new (outcome_of a) (Ok tt) done log_works;
            told = untold (IsTurn false) log_works.events log_works.answers (facts_of g old) (facts_of g new) log_works.moves nears.keeps.durable;
            flushed = omega arith;
            leads = inl (refl, nears);
          }

      pub log_ended : (r : Refusal) → outcome_of a ≡ Err r → Turns g pages old new (Err r)
      unfolding works_of log_works one_by
      log_ended r refused =
          turn_ended pages old new r (works_of (IsTurn false) g old new (outcome_of a) (Err r) refused log_works) (omega arith)
          (refused_keeps (facts_of g old) (facts_of g new) Log a (not_refused (facts_of g old) Log (runs_on g old running) none) step.moves
          (λ done. let never : ◌≡◌ {A = Result (Unit {0}) Refusal} (Err r) (Ok tt) = sym refused ∙ done in cc))

    -- a sync, behind what rode on it
    module _ (pages left : ℕ) (old mid new : Replica D) (a : Answer) (running : IsRunning old) (before : IsEngine old.engine.layout old.engine.checkpoint old.engine.log old.engine.kept old.engine.block)
        (h : IsEngine mid.engine.layout mid.engine.checkpoint mid.engine.log mid.engine.kept mid.engine.block) (due : due_of old.engine.log ≡ to_sync) (rode : Rode g pages left old mid)
        (spent : (left ≡ 0) ⊎ (pages_left (facts_of g mid).stage ≡ [])) (step : IsStep g mid Sync a new) where
      abbrev s : Standing
      s = facts_of g mid

      abbrev t : Standing
      t = facts_of g new

      -- the log stands as before what rode
      same_phase : mid.engine.log.phase ≡ old.engine.log.phase
      same_phase = sym (phase_is g mid rode.running h) ∙ ap (λ (x : Standing). x.phase) rode.beside ∙ phase_is g old running before

      due_by : (phase : Phase) → mid.engine.log.phase ≡ phase → (phase ≡ Closing) ⊎ (((n : ℕ) × (phase ≡ Filling n)) ⊎ ((n : ℕ) × (phase ≡ Opening n))) → due_of mid.engine.log ≡ to_sync
      due_by phase is (inl closing) = ap (due_in mid.engine.log) (is ∙ closing)
      due_by phase is (inr (inl filling)) = ap (due_in mid.engine.log) (is ∙ filling.1)
      due_by phase is (inr (inr opens)) = ap (due_in mid.engine.log) (is ∙ opens.1)

      pub due_still : due_of mid.engine.log ≡ to_sync
      due_still = due_by old.engine.log.phase same_phase (awaits old.engine.log old.engine.log.phase due)

      runs : refusal s Sync ≡ None
      runs = not_refused s Sync (runs_on g mid rode.running) refl

      sync_works : WorksBy (IsTurn false) g old new (outcome_of a)
      sync_works =
          then_by (IsTurn false) g joined old mid new (outcome_of a) rode.works
          (one_by (IsTurn false) g joined mid new Sync a tt runs (inl (ap (log_event s) (phase_is g mid rode.running h) ∙ sync_by g mid rode.running h mid.engine.log.phase due_still)) step)

      flushed_as : pages_in (rode.works.events ++ Sync ∷ []) + left ≡ pages
      flushed_as = omega (arith, pages_then rode.works.events (Sync ∷ []), rode.flushed)

      pub sync_ended : (r : Refusal) → outcome_of a ≡ Err r → Turns g pages old new (Err r)
      unfolding works_of sync_works then_by one_by
      sync_ended r refused =
          turn_ended pages old new r (works_of (IsTurn false) g old new (outcome_of a) (Err r) refused sync_works) (omega (arith, flushed_as))
          (keeps_then (facts_of g old) s t (beside_keeps (facts_of g old) s rode.beside)
          (refused_keeps s t Sync a runs step.moves (λ done. let never : ◌≡◌ {A = Result (Unit {0}) Refusal} (Err r) (Ok tt) = sym refused ∙ done in cc)))

      module _ (given : List Reply) (is : a ≡ Synced given) (after_it : new.engine.log ≡ started new.engine.checkpoint.base.start (after_sync mid.engine.log)) where
        went : (f : Found) × (given ≡ replies s) × (t ≡ after s Sync f)
        went = elim (went_by s t Sync a runs step.moves) [
          | inl moved ↦ (moved.0, (let same : Synced given ≡ Synced (replies s) = sym is ∙ moved.1 in cc), moved.2)
          | inr failed ↦ elim failed [
            | inl why ↦ elim why [
              | inl hungry ↦ absurd (let never : Synced given ≡ Refused OutOfMemory = sym is ∙ hungry.1 in cc)
              | inr fault ↦ absurd (let never : Synced given ≡ Refused DiskFault = sym is ∙ fault.1 in cc)
            ]
            | inr corrupt ↦ absurd (let never : Synced given ≡ Refused (Corrupt Pages) = sym is ∙ corrupt.1 in cc)
          ]
        ]

        pub sync_runs : IsRunning new
        sync_runs = still_running g mid new Sync went.0 rode.running went.2

        at : (phase : Phase) → old.engine.log.phase ≡ phase → s.phase ≡ phase
        at phase is = phase_is g mid rode.running h ∙ same_phase ∙ is

        -- nothing is durable by it
        none_by_it : (phase : Phase) → old.engine.log.phase ≡ phase → opening phase ≡ 0 → ((phase ≡ Closing) ⊎ ((n : ℕ) × (phase ≡ Filling n))) → Leads (facts_of g old) left given t
        none_by_it phase is none kind = inl (
          went.1 ∙ ap (λ (k : ℕ). map reply_of (take k s.ahead)) (ap opening (at phase is) ∙ none),
          nears_beside (facts_of g old) s t rode.beside rode.off
              (synced_nears s t went.0 went.2 phase (at phase is) none kind
              (synced_free g mid new rode.running sync_runs h new.engine.checkpoint.base.start went.0 due_still (ap opening (same_phase ∙ is) ∙ none) went.2 after_it)),
        )

        -- the block is
        block_by_it : (n : ℕ) → old.engine.log.phase ≡ Opening n → Leads (facts_of g old) left given t
        block_by_it n is =
            let whole : HasAll n mid.engine.block = subst (λ (p : Phase). IsWhole p mid.engine.block) (same_phase ∙ is) h.whole in
            let ends = synced_ends s t went.0 went.2 n left (at (Opening n) is) whole.some (omega (arith, whole.all, length-append mid.engine.block mid.backlog)) (omega (arith, whole.all, h.few)) spent in
            inr (record {
              block = subst (λ (rs : List Reply). HasBlock (facts_of g old) rs t) (sym went.1)
                  (block_of (facts_of g old) s t (replies s) (beside_keeps (facts_of g old) s rode.beside) (ap coming rode.beside) (ap (λ (x : Standing). x.next) rode.beside) ends.block);
              pages = ends.pages;
              off = λ off. ends.off (rode.off off);
            })

        leads : (phase : Phase) → old.engine.log.phase ≡ phase → (phase ≡ Closing) ⊎ (((n : ℕ) × (phase ≡ Filling n)) ⊎ ((n : ℕ) × (phase ≡ Opening n))) → Leads (facts_of g old) left given t
        leads phase is (inl closing) = none_by_it phase is (ap opening closing) (inl closing)
        leads phase is (inr (inl filling)) = none_by_it phase is (ap opening filling.1) (inr filling)
        leads phase is (inr (inr opens)) = block_by_it opens.0 (is ∙ opens.1)

        pub sync_turn : Turns g pages old new (Ok (left, given))
        unfolding works_of sync_works then_by one_by
        sync_turn = record {
          works = works_of (IsTurn false) g old new (outcome_of a) (Ok tt) (ap outcome_of is) sync_works;
          told =
              told_then rode.works.answers (a ∷ [])
              ∙ ap (λ (rs : List Reply). rs ++ acknowledged (a ∷ [])) (untold (IsTurn false) rode.works.events rode.works.answers (facts_of g old) s rode.works.moves (ap (λ (x : Standing). x.durable) rode.beside))
              ∙ ap (λ (x : Answer). acknowledged (x ∷ [])) is ∙ append-nil given;
          flushed = flushed_as;
          leads = leads old.engine.log.phase refl (awaits old.engine.log old.engine.log.phase due);
        }

        -- and there is less to do
        work_same : (phase : Phase) → old.engine.log.phase ≡ phase → (phase ≡ Closing) ⊎ (((n : ℕ) × (phase ≡ Filling n)) ⊎ ((n : ℕ) × (phase ≡ Opening n))) → work_of g mid ≡ work_of g old
        work_same phase is (inl closing) = omega (arith, work_is g mid Closing (at phase is ∙ closing), work_is g old Closing (phase_is g old running before ∙ is ∙ closing), ap (λ (x : Standing). length x.ahead) rode.beside)
        work_same phase is (inr (inl (n, filling))) = omega (arith, work_is g mid (Filling n) (at phase is ∙ filling), work_is g old (Filling n) (phase_is g old running before ∙ is ∙ filling), ap (λ (x : Standing). length x.ahead) rode.beside)
        work_same phase is (inr (inr (n, opens))) = omega (arith, work_is g mid (Opening n) (at phase is ∙ opens), work_is g old (Opening n) (phase_is g old running before ∙ is ∙ opens), ap (λ (x : Standing). length x.ahead) rode.beside)

        pub sync_less : work_of g new < work_of g old
        sync_less = omega (arith, work_same old.engine.log.phase refl (awaits old.engine.log old.engine.log.phase due), synced_less g mid new rode.running sync_runs h new.engine.checkpoint.base.start went.0 due_still went.2 after_it)

-- ---- up to the block

-- As far as it came: no reply yet, or the block is durable.
pub record Came {D : Type 0} (g : Ghosts D) (pages left : ℕ) (given : List Reply) (old new : Replica D) : Type 0 where
  pub works : WorksBy (IsTurn false) g old new (Ok tt)
  pub told : acknowledged works.answers ≡ given
  pub flushed : pages_in works.events + left ≡ pages
  pub leads : Leads (facts_of g old) left given (facts_of g new)
  pub running : IsRunning new

-- where there is no reply, it is nearer
none_nears : (s t : Standing) (left : ℕ) (given : List Reply) → given ≡ [] → Leads s left given t → Nears s t
none_nears s t left given none (inl nearer) = nearer.1
none_nears s t left given none (inr ends) = absurd (omega (arith, some_reply s t given ends.block, ap length none))

-- and where there is one, it is durable
some_ends : (s t : Standing) (left : ℕ) (given : List Reply) → (given ≡ [] → ⊥) → Leads s left given t → Ends s left given t
some_ends s t left given some (inl nearer) = absurd (some nearer.0)
some_ends s t left given some (inr ends) = ends

module _ {D : Type 0} (g : Ghosts D) (joined : RunsAreJoined g) where
  pub came_none : (pages : ℕ) (r : Replica D) → IsRunning r → is_full (facts_of g r) ≡ false → Came g pages pages [] r r
  unfolding none_by
  came_none pages r running free = record {
    works = none_by (IsTurn false) g joined r;
    told = refl;
    flushed = omega arith;
    leads = inl (refl, nears_here (facts_of g r) free);
    running = running;
  }

  module _ (pages left : ℕ) (given : List Reply) (old mid new : Replica D) (came : Came g pages left given old mid) (none : given ≡ []) where
    pub nearer : Nears (facts_of g old) (facts_of g mid)
    nearer = none_nears (facts_of g old) (facts_of g mid) left given none came.leads

    pub came_on : (rest : ℕ) (more : List Reply) → IsRunning new → Turns g left mid new (Ok (rest, more)) → Came g pages rest more old new
    unfolding then_by
    came_on rest more running turns = record {
      works = then_by (IsTurn false) g joined old mid new (Ok tt) came.works turns.works;
      told = told_then came.works.answers turns.works.answers ∙ ap (λ (rs : List Reply). rs ++ acknowledged turns.works.answers) (came.told ∙ none) ∙ turns.told;
      flushed = omega (arith, pages_then came.works.events turns.works.events, came.flushed, turns.flushed);
      leads = leads_then (facts_of g old) (facts_of g mid) (facts_of g new) rest more nearer turns.leads;
      running = running;
    }

    pub came_ended : (r : Refusal) → is_full (facts_of g old) ≡ false → Turns g left mid new (Err r) → Commits g pages old new (Err r)
    unfolding then_by works_as
    came_ended r free turns = record {
      works =
          works_as (IsTurn false) (IsTurn (is_full (facts_of g old))) (λ s e turn. subst (λ full. IsTurn full s e) (sym free) turn) g old new (Err r)
          (then_by (IsTurn false) g joined old mid new (Err r) came.works turns.works);
      told = told_then came.works.answers turns.works.answers ∙ ap (λ (rs : List Reply). rs ++ acknowledged turns.works.answers) (came.told ∙ none) ∙ turns.told;
      flushed = λ _. omega (arith, pages_then came.works.events turns.works.events, came.flushed, turns.flushed);
      whole = λ full. tt;
      block = keeps_then (facts_of g old) (facts_of g mid) (facts_of g new) nearer.keeps turns.leads;
    }

  module _ (pages left : ℕ) (given : List Reply) (old new : Replica D) (came : Came g pages left given old new) (some : given ≡ [] → ⊥) (free : is_full (facts_of g old) ≡ false) where
    ends : Ends (facts_of g old) left given (facts_of g new)
    ends = some_ends (facts_of g old) (facts_of g new) left given some came.leads

    fewer : (left ≡ 0) ⊎ (pages_left (facts_of g new).stage ≡ []) → (pages_in came.works.events ≡ pages) ⊎ (pages_left (facts_of g new).stage ≡ [])
    fewer (inl spent) = inl (omega (arith, spent, came.flushed))
    fewer (inr empty) = inr empty

    pub came_to : Commits g pages old new (Ok given)
    unfolding works_as
    came_to = record {
      works = works_as (IsTurn false) (IsTurn (is_full (facts_of g old))) (λ s e turn. subst (λ full. IsTurn full s e) (sym free) turn) g old new (Ok tt) came.works;
      told = came.told;
      flushed = λ _. (omega (arith, came.flushed), fewer ends.pages);
      whole = λ full. absurd (let never : true ≡ false = sym full ∙ free in cc);
      block = ends.block;
    }

  -- ---- behind a checkpoint that a full log wanted

  -- it was refused
  pub freed_ended : (pages : ℕ) (old new : Replica D) (r : Refusal) → is_full (facts_of g old) ≡ true → Frees g old new (Err r) → Commits g pages old new (Err r)
  unfolding works_as
  freed_ended pages old new r full frees = record {
    works = works_as (IsTurn true) (IsTurn (is_full (facts_of g old))) (λ s e turn. subst (λ b. IsTurn b s e) (sym full) turn) g old new (Err r) frees.works;
    told = untold (IsTurn true) frees.works.events frees.works.answers (facts_of g old) (facts_of g new) frees.works.moves frees.keeps.durable;
    flushed = λ free. absurd (let never : true ≡ false = sym full ∙ free in cc);
    whole = λ full. tt;
    block = frees.keeps;
  }

  -- and else the block was written behind it
  module _ (pages : ℕ) (old mid new : Replica D) (result : Result (List Reply) Refusal) (full : is_full (facts_of g old) ≡ true) (frees : Frees g old mid (Ok tt))
      (commits : Commits g pages mid new result) where
    same_coming : coming (facts_of g mid) ≡ coming (facts_of g old)
    same_coming =
        ap (coming_in (facts_of g mid)) frees.room.0.phase ∙ ap (λ (ahead : _). fitting [] ahead) frees.keeps.ahead
        ∙ sym (ap (coming_in (facts_of g old)) (full_rests (facts_of g old) full))

    block_by : (x : Result (List Reply) Refusal) → MatchResult x (λ given. HasBlock (facts_of g mid) given (facts_of g new)) (λ _. Keeps (facts_of g mid) (facts_of g new))
        → MatchResult x (λ given. HasBlock (facts_of g old) given (facts_of g new)) (λ _. Keeps (facts_of g old) (facts_of g new))
    block_by (Ok given) b = block_of (facts_of g old) (facts_of g mid) (facts_of g new) given frees.keeps same_coming frees.room.0.next b
    block_by (Err e) b = keeps_then (facts_of g old) (facts_of g mid) (facts_of g new) frees.keeps b

    as_full : (s : Standing) (e : Event) → IsTurn (is_full (facts_of g mid)) s e → IsTurn true s e
    as_full s e turn = turn_of_turn s e (subst (λ b. IsTurn b s e) frees.room.0.free turn)

    pub freed_then : IfOk result (λ _. (facts_of g new).stage ≡ Off) → Commits g pages old new result
    unfolding then_by works_as
    freed_then off = record {
      works =
          works_as (IsTurn true) (IsTurn (is_full (facts_of g old))) (λ s e turn. subst (λ b. IsTurn b s e) (sym full) turn) g old new (done_of result)
          (then_by (IsTurn true) g joined old mid new (done_of result) frees.works
          (works_as (IsTurn (is_full (facts_of g mid))) (IsTurn true) as_full g mid new (done_of result) commits.works));
      told =
          told_then frees.works.answers commits.works.answers
          ∙ ap (λ (rs : List Reply). rs ++ acknowledged commits.works.answers) (untold (IsTurn true) frees.works.events frees.works.answers (facts_of g old) (facts_of g mid) frees.works.moves frees.keeps.durable)
          ∙ commits.told;
      flushed = λ free. absurd (let never : true ≡ false = sym full ∙ free in cc);
      whole = λ _. off;
      block = block_by result commits.block;
    }
