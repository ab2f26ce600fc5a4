-- What a replica does by itself, step by step.
use Rattle.std.proofs.Common.{◌≡◌, ℕ, ◌+◌, ◌<◌, ◌≤◌, ◌⊎◌, inl, inr, Bool, true, false, List, [], ◌∷◌, ◌++◌, append_assoc, length, drop, Option, None, Some, Result, Ok, Err, refl, sym, ap, subst, ◌∙◌, arith}
use Rattle.std.proofs.lemmas.Bool.Decides.{nat_tests}
use Rattle.std.specs.Prelude.{IsTrue, OnOk, IfErr, is_some, is_err, ◌||◌, MatchOption, if◌then◌else◌, ◌==◌, not}
use Rattle.std.specs.List.{filter, list_any}
use Rattle.std.proofs.lemmas.Option.{same_Some}
use Rattle.rep_types.specs.declared.reply.Reply.{Reply}
use Rattle.rep_types.specs.declared.refusal.Refusal.{Refusal}
use Rattle.rep_types.specs.declared.refusal.Refusal.TheVariants.{Stopped, NotDue, OutOfMemory, DiskFault, Corrupt}
use Rattle.rep_types.specs.declared.refusal.Part.TheVariants.{Pages}
use Rattle.rep_types.proofs.Lists.{filter_no_longer}
use Rattle.rep_disk.specs.declared.disk.Disk.{Ghosts}
use Rattle.rep_disk.specs.History.{History, seen}
use Rattle.rep_layout.specs.declared.place.Layout.{Layout}
use Rattle.rep_layout.specs.declared.super_body.SuperBody.{SuperBody}
use Rattle.rep_cells.specs.Readings.{reading_of}
use Rattle.rep_recover.specs.BasePages.{IsBadPage}
use Rattle.rep_log.specs.declared.phase.Phase.{Phase}
use Rattle.rep_log.specs.declared.phase.Phase.TheVariants.{Resting}
use Rattle.rep_steps.specs.declared.event.Event.{Event}
use Rattle.rep_steps.specs.declared.event.Event.TheVariants.{Deliver, SetWindow, Log, Sync, Check, Flush, Read}
use Rattle.rep_steps.specs.declared.answer.Answer.{Answer}
use Rattle.rep_steps.specs.declared.answer.Answer.TheVariants.{Gave, Wrote, Began, Synced, Row, Refused}
use Rattle.rep_steps.specs.Standings.{Standing, refusal, refusal_here, check_refusal, flush_refusal, Goal, Part, Flushing, Saving, Ready, SuperFilling, SuperFilled, SuperOpening, Stage, Off, Toward, Retiring}
use Rattle.rep_steps.specs.Moves.{Found, Moves, answer, check_answer, after, reads_a_page, Fails, MeetsCorruption, checked, flushed, synced_stage, synced_phase, start_after, opening, taken}
use Rattle.rep_steps.specs.FactLaws.{after_serves}
use Rattle.rep_steps.specs.Runs.{Runs}
use Rattle.rep_recover.specs.Holding.{wrote, synced}
use Rattle.rep_replica.specs.Replicas.{Replica, facts_of}
use Rattle.rep_replica.specs.Holding.{IsStep}
use Rattle.rep_replica.specs.Running.{RunsAreJoined}
use Rattle.rep_replica.specs.Refusing.{IsLeft}
use Rattle.rep_replica.specs.Spelling.{MeetsBadPage}
use Rattle.rep_replica.specs.Settling.{IsRunning, step_of_part, step_of, due_at, due, IsNext, Allows, IsOwn, AreOwn, outcome_of, AreDone, EndsIn, WorksBy, Works, EndsEarly, left_of, start_of, Rests}

-- ---- what came of a step

pub refused_done : (r : Refusal) → outcome_of (Refused r) ≡ Ok tt → ⊥
refused_done r done = let never : Err r ≡ Ok tt = done in cc

pub wrote_done : (result : Result (Unit {0}) Refusal) (P : Type 0) → outcome_of (wrote result) ≡ Ok tt → OnOk result P → P
wrote_done (Ok x) P done p = p
wrote_done (Err r) P done p = absurd (refused_done r done)

pub synced_done : (result : Result (List Reply) Refusal) (P : Type 0) → outcome_of (synced result) ≡ Ok tt → OnOk result P → P
synced_done (Ok x) P done p = p
synced_done (Err r) P done p = absurd (refused_done r done)

-- what is done where nothing refuses it
abbrev pub Went : Standing → Event → Answer → Standing → Type 0
Went s e a t = (f : Found) × (a ≡ answer s e f) × (t ≡ after s e f)

pub went_by : (s t : Standing) (e : Event) (a : Answer) → refusal s e ≡ None → Moves s e a t → Went s e a t ⊎ (Fails s e a t ⊎ MeetsCorruption s e a t)
went_by s t e a none m = subst (λ (o : Option Refusal). MatchOption o (Went s e a t ⊎ (Fails s e a t ⊎ MeetsCorruption s e a t)) (λ r. (a ≡ Refused r) × (t ≡ s))) none m

pub done_by : (s t : Standing) (e : Event) (a : Answer) → refusal s e ≡ None → Moves s e a t → outcome_of a ≡ Ok tt → (f : Found) × (t ≡ after s e f)
done_by s t e a none m done = elim (went_by s t e a none m) [
  | inl went ↦ (went.0, went.2)
  | inr failed ↦ elim failed [
    | inl why ↦ elim why [
      | inl hungry ↦ absurd (refused_done OutOfMemory (sym (ap outcome_of hungry.1) ∙ done))
      | inr fault ↦ absurd (refused_done DiskFault (sym (ap outcome_of fault.1) ∙ done))
    ]
    | inr corrupt ↦ absurd (refused_done (Corrupt Pages) (sym (ap outcome_of corrupt.1) ∙ done))
  ]
]

-- or it ended early
check_done : (s : Standing) (stage : Stage) → outcome_of (check_answer s stage) ≡ Ok tt
check_done s Off = refl
check_done s (Toward goal part) = refl
check_done s (Retiring written) = refl

pub answer_done : (s : Standing) (e : Event) (f : Found) → outcome_of (answer s e f) ≡ Ok tt
answer_done s (Deliver seqno w) f = refl
answer_done s (SetWindow seqno size source trx) f = refl
answer_done s Log f = refl
answer_done s Sync f = refl
answer_done s Check f = check_done s s.stage
answer_done s (Flush page) f = refl
answer_done s (Read key at) f = refl

abbrev Early : Answer → Type 0
Early a = IfErr (outcome_of a) EndsEarly

pub early_by : (s t : Standing) (e : Event) (a : Answer) → refusal s e ≡ None → Moves s e a t → Early a
early_by s t e a none m = elim (went_by s t e a none m) [
  | inl went ↦ subst Early (sym went.1) (subst (λ (o : Result (Unit {0}) Refusal). IfErr o EndsEarly) (sym (answer_done s e went.0)) tt)
  | inr failed ↦ elim failed [
    | inl why ↦ elim why [
      | inl hungry ↦ subst Early (sym hungry.1) (inl refl)
      | inr fault ↦ subst Early (sym fault.1) (inr (inl refl))
    ]
    | inr corrupt ↦ subst Early (sym corrupt.1) (inr (inr refl))
  ]
]

-- ---- where it isn't stopped

-- neither from outside nor by its device
pub is_running : {D : Type 0} (g : Ghosts D) (r : Replica D) → (facts_of g r).stopped ≡ false → IsRunning r
is_running g r runs = by r.stopped r.engine.halted refl refl runs
  where
    by : (inside : Bool) (halted : Option Phase) → r.stopped ≡ inside → r.engine.halted ≡ halted → (inside || is_some halted) ≡ false → IsRunning r
    by true halted a b e = absurd (let never : true ≡ false = e in cc)
    by false (Some phase) a b e = absurd (let never : true ≡ false = e in cc)
    by false None a b e = record { inside = a; device = b }

pub runs_on : {D : Type 0} (g : Ghosts D) (r : Replica D) → IsRunning r → (facts_of g r).stopped ≡ false
runs_on g r running = ap (λ b. b || is_some r.engine.halted) running.inside ∙ ap is_some running.device

pub not_refused : (s : Standing) (e : Event) → s.stopped ≡ false → refusal_here s e ≡ None → refusal s e ≡ None
not_refused s e runs none = ap (λ b. if b then Some Stopped else refusal_here s e) runs ∙ none

-- ---- steps one after another

done_then : (answers told : List Answer) → AreDone answers → AreDone told → AreDone (answers ++ told)
done_then [] told all more = more
done_then (a ∷ answers) told all more = (all.0, done_then answers told all.1 more)

pub ends_then : (result : Result (Unit {0}) Refusal) (answers told : List Answer) → AreDone answers → EndsIn result told → EndsIn result (answers ++ told)
ends_then (Ok x) answers told all ends = done_then answers told all ends
ends_then (Err e) answers told all ends =
    (answers ++ ends.0, done_then answers ends.0 all ends.1, ap (λ (rest : List Answer). answers ++ rest) ends.2 ∙ sym (append_assoc answers ends.0 (Refused e ∷ [])))

pub own_then : (events more : List Event) → AreOwn events → AreOwn more → AreOwn (events ++ more)
own_then [] more all rest = rest
own_then (e ∷ events) more all rest = (all.0, own_then events more all.1 rest)

pub ends_by : (a : Answer) → EndsIn (outcome_of a) (a ∷ [])
ends_by (Gave v) = (refl, tt)
ends_by Wrote = (refl, tt)
ends_by (Began c) = (refl, tt)
ends_by (Synced replies) = (refl, tt)
ends_by (Row row) = (refl, tt)
ends_by (Refused r) = ([], tt, refl)

-- steps of any kind, one after another
pub runs_then : {S : Type 0} (one : S → Event → Answer → S → Type 0) (s t u : S) (events : List Event) (answers : List Answer) (more : List Event) (told : List Answer) → Runs one s events answers t → Runs one t more told u
    → Runs one s (events ++ more) (answers ++ told) u
runs_then one s t u [] [] more told r q = subst (λ x. Runs one x more told u) (sym r) q
runs_then one s t u [] (b ∷ answers) more told r q = absurd r
runs_then one s t u (e ∷ events) [] more told r q = absurd r
runs_then one s t u (e ∷ events) (b ∷ answers) more told r q = (r.0, r.1, runs_then one r.0 t u events answers more told r.2 q)

-- ---- a page that is not of its form

-- only a step that reads a page meets one
corrupt_reads : (s t : Standing) (e : Event) (a : Answer) → refusal s e ≡ None → Moves s e a t → outcome_of a ≡ Err (Corrupt Pages) → IsTrue (reads_a_page e)
corrupt_reads s t e a none m corrupt = elim (went_by s t e a none m) [
  | inl went ↦ absurd (let never : ◌≡◌ {A = Result (Unit {0}) Refusal} (Ok tt) (Err (Corrupt Pages)) = sym (answer_done s e went.0) ∙ sym (ap outcome_of went.1) ∙ corrupt in cc)
  | inr failed ↦ elim failed [
    | inl why ↦ elim why [
      | inl hungry ↦ absurd (let never : ◌≡◌ {A = Result (Unit {0}) Refusal} (Err OutOfMemory) (Err (Corrupt Pages)) = sym (ap outcome_of hungry.1) ∙ corrupt in cc)
      | inr fault ↦ absurd (let never : ◌≡◌ {A = Result (Unit {0}) Refusal} (Err DiskFault) (Err (Corrupt Pages)) = sym (ap outcome_of fault.1) ∙ corrupt in cc)
    ]
    | inr met ↦ met.0
  ]
]

module _ {D : Type 0} (g : Ghosts D) (old new : Replica D) where
  -- the base has it where it had it
  base_left : (page : ℕ) (r : Refusal) → r ≡ Corrupt Pages → IsLeft (Flush page) r old new → (new.engine.layout ≡ old.engine.layout) × (new.engine.checkpoint.base ≡ old.engine.checkpoint.base)
  base_left page r is (inl same) = (ap (λ (x : Replica D). x.engine.layout) same, ap (λ (x : Replica D). x.engine.checkpoint.base) same)
  base_left page r is (inr (inl asked)) = (ap (λ (x : Replica D). x.engine.layout) asked.1, ap (λ (x : Replica D). x.engine.checkpoint.base) asked.1)
  base_left page r is (inr (inr fault)) = absurd (let never : Corrupt Pages ≡ DiskFault = sym is ∙ fault.0 in cc)

  bad_flush : (page : ℕ) (a : Answer) → IsStep g old (Flush page) a new → outcome_of a ≡ Err (Corrupt Pages) → MeetsBadPage g new
  bad_flush page (Gave v) step corrupt = absurd cc
  bad_flush page Wrote step corrupt = absurd cc
  bad_flush page (Began c) step corrupt = absurd cc
  bad_flush page (Synced replies) step corrupt = absurd cc
  bad_flush page (Row row) step corrupt = absurd cc
  bad_flush page (Refused r) step corrupt = λ is_honest.
      let same : r ≡ Corrupt Pages = cc in
      let met = (step.spelled (step.device.1 is_honest)).corrupt (ap Err same) in
      let left = base_left page r same step.unchanged in (
        page,
        subst (λ (h : History). IsBadPage (reading_of new.engine.layout (seen h)) new.engine.checkpoint.base page) (sym met.1)
            (subst (λ (l : Layout). IsBadPage (reading_of l (seen (g.history old.engine.disk))) new.engine.checkpoint.base page) (sym left.0)
            (subst (λ (b : SuperBody). IsBadPage (reading_of old.engine.layout (seen (g.history old.engine.disk))) b page) (sym left.1) met.0)),
      )

  pub bad_page : (e : Event) (a : Answer) → IsOwn e → refusal (facts_of g old) e ≡ None → IsStep g old e a new → outcome_of a ≡ Err (Corrupt Pages) → MeetsBadPage g new
  bad_page (Deliver seqno w) a own none step corrupt = absurd own
  bad_page (SetWindow seqno size source trx) a own none step corrupt = absurd own
  bad_page Log a own none step corrupt = absurd (let never : false ≡ true = corrupt_reads (facts_of g old) (facts_of g new) Log a none step.moves corrupt in cc)
  bad_page Sync a own none step corrupt = absurd (let never : false ≡ true = corrupt_reads (facts_of g old) (facts_of g new) Sync a none step.moves corrupt in cc)
  bad_page Check a own none step corrupt = absurd (let never : false ≡ true = corrupt_reads (facts_of g old) (facts_of g new) Check a none step.moves corrupt in cc)
  bad_page (Flush page) a own none step corrupt = bad_flush page a step corrupt
  bad_page (Read key at) a own none step corrupt = absurd own

module _ (rule : Standing → Event → Type 0) {D : Type 0} (g : Ghosts D) (joined : RunsAreJoined g) where
  unfoldable pub none_by : (r : Replica D) → WorksBy rule g r r (Ok tt)
  none_by r = record {
    events = [];
    answers = [];
    own = tt;
    ends = tt;
    moves = refl;
    steps = refl;
    device = (λ h. h, λ h. h);
    corrupt = λ is. absurd cc;
    ran = joined.no_run r;
  }

  unfoldable pub one_by : (old new : Replica D) (e : Event) (a : Answer) → IsOwn e → refusal (facts_of g old) e ≡ None → rule (facts_of g old) e → IsStep g old e a new → WorksBy rule g old new (outcome_of a)
  one_by old new e a own none is_due step = record {
    events = e ∷ [];
    answers = a ∷ [];
    own = (own, tt);
    ends = ends_by a;
    moves = (facts_of g new, (is_due, step.moves), refl);
    steps = (new, step, refl);
    device = step.device;
    corrupt = bad_page g old new e a own none step;
    ran = joined.one_run old new e a step;
  }

  unfoldable pub then_by : (old mid new : Replica D) (result : Result (Unit {0}) Refusal) → WorksBy rule g old mid (Ok tt) → WorksBy rule g mid new result → WorksBy rule g old new result
  then_by old mid new result w v = record {
    events = w.events ++ v.events;
    answers = w.answers ++ v.answers;
    own = own_then w.events v.events w.own v.own;
    ends = ends_then result w.answers v.answers w.ends v.ends;
    moves = runs_then (Allows rule) (facts_of g old) (facts_of g mid) (facts_of g new) w.events w.answers v.events v.answers w.moves v.moves;
    steps = runs_then (IsStep g) old mid new w.events w.answers v.events v.answers w.steps v.steps;
    device = (λ h. v.device.0 (w.device.0 h), λ h. w.device.1 (v.device.1 h));
    corrupt = v.corrupt;
    ran = joined.both_runs old mid new w.events w.answers v.events v.answers w.ran v.ran;
  }

-- those that are due
module _ {D : Type 0} (g : Ghosts D) (joined : RunsAreJoined g) where
  pub works_none : (r : Replica D) → Works g r r (Ok tt)
  works_none r = none_by IsNext g joined r

  pub works_one : (old new : Replica D) (e : Event) (a : Answer) → IsOwn e → refusal (facts_of g old) e ≡ None → due (facts_of g old) ≡ Some e → IsStep g old e a new → Works g old new (outcome_of a)
  works_one old new e a own none is_due step = one_by IsNext g joined old new e a own none is_due step

  pub works_then : (old mid new : Replica D) (result : Result (Unit {0}) Refusal) → Works g old mid (Ok tt) → Works g mid new result → Works g old new result
  works_then old mid new result w v = then_by IsNext g joined old mid new result w v

-- ---- the checkpoint goes on

-- what it waits for is not refused
same_number : (n : ℕ) → (n == n) ≡ true
same_number n = grind (arith, nat_tests)

due_part : (s : Standing) (goal : Goal) (part : Part) → s.stage ≡ Toward goal part → refusal_here s (step_of_part part) ≡ None
due_part s goal (Flushing []) is = ap (check_refusal s) is
due_part s goal (Flushing (page ∷ left)) is = ap (λ (stage : Stage). flush_refusal stage page) is ∙ ap (λ b. if b || list_any (λ (p : ℕ). p == page) left then None else Some NotDue) (same_number page)
due_part s goal Saving is = refl
due_part s goal Ready is = ap (check_refusal s) is
due_part s goal SuperFilling is = refl
due_part s goal SuperFilled is = ap (check_refusal s) is
due_part s goal SuperOpening is = refl

due_by : (s : Standing) (stage : Stage) (e : Event) → s.stage ≡ stage → step_of stage ≡ Some e → refusal_here s e ≡ None
due_by s Off e is due = absurd (let never : None ≡ Some e = due in cc)
due_by s (Toward goal part) e is due = subst (λ (x : Event). refusal_here s x ≡ None) (same_Some (step_of_part part) e due) (due_part s goal part is)
due_by s (Retiring false) e is due = subst (λ (x : Event). refusal_here s x ≡ None) (same_Some Check e due) (ap (check_refusal s) is)
due_by s (Retiring true) e is due = subst (λ (x : Event). refusal_here s x ≡ None) (same_Some Sync e due) refl

pub due_step : (s : Standing) (e : Event) → step_of s.stage ≡ Some e → refusal_here s e ≡ None
due_step s e due = due_by s s.stage e refl due

own_part : (part : Part) → IsOwn (step_of_part part)
own_part (Flushing []) = tt
own_part (Flushing (page ∷ left)) = tt
own_part Saving = tt
own_part Ready = tt
own_part SuperFilling = tt
own_part SuperFilled = tt
own_part SuperOpening = tt

-- and what it waits for is due
under_way : (s : Standing) (stage : Stage) (e : Event) → step_of stage ≡ Some e → due_at s stage ≡ Some e
under_way s Off e waits = absurd (let never : None ≡ Some e = waits in cc)
under_way s (Toward goal part) e waits = waits
under_way s (Retiring written) e waits = waits

pub own_step : (stage : Stage) (e : Event) → step_of stage ≡ Some e → IsOwn e
own_step Off e due = absurd (let never : None ≡ Some e = due in cc)
own_step (Toward goal part) e due = subst IsOwn (same_Some (step_of_part part) e due) (own_part part)
own_step (Retiring false) e due = subst IsOwn (same_Some Check e due) tt
own_step (Retiring true) e due = subst IsOwn (same_Some Sync e due) tt

-- fewer pages are left
counted : (b : Bool) (test : ℕ → Bool) (page : ℕ) (pages : List ℕ) → test page ≡ b → length (filter test pages) ≤ length pages → length (filter test (page ∷ pages)) ≤ length (page ∷ pages)
counted true test page pages is le = omega (arith, le, ap (λ b. length (if b then page ∷ filter test pages else filter test pages)) is)
counted false test page pages is le = omega (arith, le, ap (λ b. length (if b then page ∷ filter test pages else filter test pages)) is)

fewer : (page : ℕ) (left : List ℕ) → length (filter (λ (p : ℕ). not (p == page)) (page ∷ left)) + 8 < length (page ∷ left) + 8
fewer page left =
    let gone : filter (λ (p : ℕ). not (p == page)) (page ∷ left) ≡ filter (λ (p : ℕ). not (p == page)) left =
    ap (λ b. if not b then page ∷ filter (λ (p : ℕ). not (p == page)) left else filter (λ (p : ℕ). not (p == page)) left) (same_number page) in
    omega (arith, ap length gone, filter_no_longer (λ (p : ℕ). not (p == page)) left)

-- It is nearer to its end, and leaves a log at rest as it is.
pub record Goes (s t : Standing) : Type 0 where
  pub running : t.stopped ≡ false
  pub less : left_of t.stage < left_of s.stage
  pub rests : s.phase ≡ Resting → Rests s t

module _ (s t : Standing) (f : Found) (runs : s.stopped ≡ false) where
  -- a step that moves the stage alone, and comes nearer to the end
  stage_goes : (to : Stage → Stage) (stage : Stage) → s.stage ≡ stage → t ≡ record s { stage = to s.stage } → left_of (to stage) < left_of stage → start_of s.start (to stage) ≡ start_of s.start stage → Goes s t
  stage_goes to stage is e less start =
      let stage_is : t.stage ≡ to stage = ap (λ (x : Standing). x.stage) e ∙ ap to is in
      record {
        running = ap (λ (x : Standing). x.stopped) e ∙ runs;
        less = subst (λ (x : Stage). left_of x < left_of s.stage) (sym stage_is) (subst (λ (x : Stage). left_of (to stage) < left_of x) (sym is) less);
        rests = λ rests. record {
          phase = ap (λ (x : Standing). x.phase) e ∙ rests;
          ahead = ap (λ (x : Standing). x.ahead) e;
          durable = ap (λ (x : Standing). x.durable) e;
          setting = ap (λ (x : Standing). x.setting) e;
          next = ap (λ (x : Standing). x.next) e;
          start = ap (λ (x : Standing). start_of x.start t.stage) e ∙ ap (start_of s.start) stage_is ∙ start ∙ ap (start_of s.start) (sym is);
        };
      }

  sync_goes : (stage : Stage) → s.stage ≡ stage → t ≡ after s Sync f → left_of (synced_stage stage) < left_of stage → start_of (start_after s.start stage) (synced_stage stage) ≡ start_of s.start stage → Goes s t
  sync_goes stage is e less start =
      let stage_is : t.stage ≡ synced_stage stage = ap (λ (x : Standing). x.stage) e ∙ ap synced_stage is in
      let start_is : t.start ≡ start_after s.start stage = ap (λ (x : Standing). x.start) e ∙ ap (start_after s.start) is in
      record {
        running = ap (λ (x : Standing). x.stopped) e ∙ runs;
        less = subst (λ (x : Stage). left_of x < left_of s.stage) (sym stage_is) (subst (λ (x : Stage). left_of (synced_stage stage) < left_of x) (sym is) less);
        rests = λ rests. record {
          phase = ap (λ (x : Standing). x.phase) e ∙ ap synced_phase rests;
          ahead = ap (λ (x : Standing). x.ahead) e ∙ ap (λ (p : _). drop (opening p) s.ahead) rests;
          durable = (let none : opening s.phase ≡ 0 = ap opening rests in omega (arith, ap (λ (x : Standing). x.durable) e, none));
          setting = ap (λ (x : Standing). x.setting) e;
          next = (let none : taken s.phase ≡ 0 = ap taken rests in omega (arith, ap (λ (x : Standing). x.next) e, none));
          start = ap (λ (n : ℕ). start_of n t.stage) start_is ∙ ap (start_of (start_after s.start stage)) stage_is ∙ start ∙ ap (start_of s.start) (sym is);
        };
      }

  goes_part : (goal : Goal) (part : Part) → s.stage ≡ Toward goal part → t ≡ after s (step_of_part part) f → Goes s t
  goes_part goal (Flushing []) is e = stage_goes (checked s f.left) (Toward goal (Flushing [])) is e (omega arith) refl
  goes_part goal (Flushing (page ∷ left)) is e = stage_goes (flushed page) (Toward goal (Flushing (page ∷ left))) is e (fewer page left) refl
  goes_part goal Saving is e = sync_goes (Toward goal Saving) is e (omega arith) refl
  goes_part goal Ready is e = stage_goes (checked s f.left) (Toward goal Ready) is e (omega arith) refl
  goes_part goal SuperFilling is e = sync_goes (Toward goal SuperFilling) is e (omega arith) refl
  goes_part goal SuperFilled is e = stage_goes (checked s f.left) (Toward goal SuperFilled) is e (omega arith) refl
  goes_part goal SuperOpening is e = sync_goes (Toward goal SuperOpening) is e (omega arith) refl

  goes_by : (stage : Stage) (event : Event) → s.stage ≡ stage → step_of stage ≡ Some event → t ≡ after s event f → Goes s t
  goes_by Off event is due e = absurd (let never : None ≡ Some event = due in cc)
  goes_by (Toward goal part) event is due e = goes_part goal part is (e ∙ ap (λ (x : Event). after s x f) (sym (same_Some (step_of_part part) event due)))
  goes_by (Retiring false) event is due e = stage_goes (checked s f.left) (Retiring false) is (e ∙ ap (λ (x : Event). after s x f) (sym (same_Some Check event due))) (omega arith) refl
  goes_by (Retiring true) event is due e = sync_goes (Retiring true) is (e ∙ ap (λ (x : Event). after s x f) (sym (same_Some Sync event due))) (omega arith) refl

pub step_goes : (s t : Standing) (e : Event) (a : Answer) → s.stopped ≡ false → step_of s.stage ≡ Some e → Moves s e a t → outcome_of a ≡ Ok tt → Goes s t
step_goes s t e a runs due m done =
    let went = done_by s t e a (not_refused s e runs (due_step s e due)) m done in
    goes_by s t went.0 runs s.stage e refl due went.1

pub step_early : (s t : Standing) (e : Event) (a : Answer) → s.stopped ≡ false → step_of s.stage ≡ Some e → Moves s e a t → IfErr (outcome_of a) EndsEarly
step_early s t e a runs due m = early_by s t e a (not_refused s e runs (due_step s e due)) m

pub ok_of : (r : Result (Unit {0}) Refusal) → false ≡ is_err r → r ≡ Ok tt
ok_of (Ok x) e = refl
ok_of (Err e) is = absurd (let never : false ≡ true = is in cc)

pub err_not_ok : (r : Result (Unit {0}) Refusal) → true ≡ is_err r → r ≡ Ok tt → ⊥
err_not_ok (Ok x) is done = let never : true ≡ false = is in cc
err_not_ok (Err e) is done = let never : Err e ≡ Ok tt = done in cc

module _ {D : Type 0} (g : Ghosts D) (old new : Replica D) (a : Answer) (result : Result (Unit {0}) Refusal) (is : result ≡ outcome_of a) where
  -- some steps, and one more
  pub works_on : RunsAreJoined g → IsRunning old → (first : Replica D) (e : Event) → step_of (facts_of g old).stage ≡ Some e → IsStep g old e a new → Works g first old (Ok tt) → Works g first new result
  works_on joined running first e waits step w =
      works_then g joined first old new result w
      (subst (λ (r : Result (Unit {0}) Refusal). Works g old new r) (sym is)
      (works_one g joined old new e a (own_step (facts_of g old).stage e waits) (not_refused (facts_of g old) e (runs_on g old running) (due_step (facts_of g old) e waits)) (under_way (facts_of g old) (facts_of g old).stage e waits) step))

  -- a step that the checkpoint waits for
  pub goes_on : IsRunning old → (due : (e : Event) × (step_of (facts_of g old).stage ≡ Some e)) → IsStep g old due.0 a new → false ≡ is_err result → Goes (facts_of g old) (facts_of g new)
  goes_on running due step went = step_goes (facts_of g old) (facts_of g new) due.0 a (runs_on g old running) due.1 step.moves (sym is ∙ ok_of result went)

  pub ends_on : IsRunning old → (due : (e : Event) × (step_of (facts_of g old).stage ≡ Some e)) → IsStep g old due.0 a new → IfErr result EndsEarly
  ends_on running due step = subst (λ (r : Result (Unit {0}) Refusal). IfErr r EndsEarly) (sym is) (step_early (facts_of g old) (facts_of g new) due.0 a (runs_on g old running) due.1 step.moves)

-- a step of the log, or a sync, where nothing refuses it
module _ {D : Type 0} (g : Ghosts D) (old new : Replica D) (e : Event) (a : Answer) (result : Result (Unit {0}) Refusal) (is : result ≡ outcome_of a)
    (own : IsOwn e) (running : IsRunning old) (none : refusal_here (facts_of g old) e ≡ None) (step : IsStep g old e a new) where
  pub one_works : RunsAreJoined g → due (facts_of g old) ≡ Some e → Works g old new result
  one_works joined is_due = subst (λ (r : Result (Unit {0}) Refusal). Works g old new r) (sym is) (works_one g joined old new e a own (not_refused (facts_of g old) e (runs_on g old running) none) is_due step)

  pub one_early : IfErr result EndsEarly
  one_early = subst (λ (r : Result (Unit {0}) Refusal). IfErr r EndsEarly) (sym is) (early_by (facts_of g old) (facts_of g new) e a (not_refused (facts_of g old) e (runs_on g old running) none) step.moves)

  pub one_done : result ≡ Ok tt → (f : Found) × (facts_of g new ≡ after (facts_of g old) e f)
  one_done done = done_by (facts_of g old) (facts_of g new) e a (not_refused (facts_of g old) e (runs_on g old running) none) step.moves (sym is ∙ done)

pub on_ok : {P : Type 0} → (r : Result (Unit {0}) Refusal) → (r ≡ Ok tt → P) → OnOk r P
on_ok (Ok x) f = f refl
on_ok (Err e) f = tt

pub ok_on : {P : Type 0} → (r : Result (Unit {0}) Refusal) → OnOk r P → r ≡ Ok tt → P
ok_on (Ok x) p done = p
ok_on (Err e) p done = absurd (let never : Err e ≡ Ok tt = done in cc)

-- it still runs
pub still_running : {D : Type 0} (g : Ghosts D) (old new : Replica D) (e : Event) (f : Found) → IsRunning old → facts_of g new ≡ after (facts_of g old) e f → IsRunning new
still_running g old new e f running is = is_running g new (ap (λ (x : Standing). x.stopped) is ∙ (after_serves (facts_of g old) e f).stopped ∙ runs_on g old running)

pub rests_none : (s : Standing) → s.phase ≡ Resting → Rests s s
rests_none s rests = record { phase = rests; ahead = refl; durable = refl; setting = refl; next = refl; start = refl }

pub rests_then : (s t u : Standing) → Rests s t → Rests t u → Rests s u
rests_then s t u a b = record { phase = b.phase; ahead = b.ahead ∙ a.ahead; durable = b.durable ∙ a.durable; setting = b.setting ∙ a.setting; next = b.next ∙ a.next; start = b.start ∙ a.start }
