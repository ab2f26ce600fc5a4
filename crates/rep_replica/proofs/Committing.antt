-- A block that is made durable, turn by turn, with a checkpoint beside.
use Rattle.std.proofs.Common.{◌≡◌, ℕ, ◌+◌, ◌<◌, ◌≤◌, ◌⊎◌, inl, inr, Bool, true, false, List, [], ◌∷◌, ◌++◌, append_assoc, length, map, take, drop, Option, None, Some, Result, Ok, Err, refl, sym, ap, subst, ◌∙◌, arith}
use Rattle.std.proofs.lemmas.List.{length-append, length-map, length-take}
use Rattle.std.proofs.lemmas.Option.{same_Some}
use Rattle.std.specs.Prelude.{IfOk, MatchOption, OnOk, if◌then◌else◌, ◌==◌}
use Rattle.rep_types.specs.declared.reply.Reply.{Reply}
use Rattle.rep_types.specs.declared.refusal.Refusal.{Refusal}
use Rattle.rep_types.specs.declared.refusal.Refusal.TheVariants.{OutOfMemory, DiskFault, Corrupt}
use Rattle.rep_types.specs.declared.refusal.Part.TheVariants.{Pages}
use Rattle.rep_types.specs.Replies.{reply_of}
use Rattle.rep_types.proofs.Lists.{empty_by_length}
use Rattle.rep_record.specs.Fronts.{fitting}
use Rattle.rep_disk.specs.declared.disk.Disk.{Ghosts}
use Rattle.rep_log.specs.declared.phase.Phase.{Phase}
use Rattle.rep_log.specs.declared.phase.Phase.TheVariants.{Resting, Closing, Filling, Filled, Opening}
use Rattle.rep_steps.specs.declared.event.Event.{Event}
use Rattle.rep_steps.specs.declared.event.Event.TheVariants.{Deliver, SetWindow, Log, Sync, Check, Flush, Read}
use Rattle.rep_steps.specs.declared.answer.Answer.{Answer}
use Rattle.rep_steps.specs.declared.answer.Answer.TheVariants.{Refused}
use Rattle.rep_steps.specs.Standings.{Standing, refusal, gathered, Goal, Part, Flushing, Saving, Ready, SuperFilling, SuperFilled, SuperOpening, Stage, Off, Toward, Retiring}
use Rattle.rep_steps.specs.Moves.{Found, Moves, answer, check_answer, after, Fails, MeetsCorruption, replies, opening, taken, logged, synced_phase, synced_stage, flushed, checked}
use Rattle.rep_steps.specs.Runs.{Runs, replies_in, acknowledged}
use Rattle.rep_replica.specs.Replicas.{Replica, facts_of}
use Rattle.rep_replica.specs.Settling.{step_of_part, step_of, log_event, due_at, due, IsNext, Allows, outcome_of, WorksBy, Keeps, Rests}
use Rattle.rep_replica.specs.Committing.{is_full_in, is_full, coming_in, coming, HasBlock, IsTurn, pages_in, left_in_part, pages_left, Nears, Ends, Leads}
use Rattle.rep_replica.proofs.Settling.{went_by, answer_done}

-- ---- rules

-- a weaker rule allows it too
pub runs_as : (rule other : Standing → Event → Type 0) → ((s : Standing) (e : Event) → rule s e → other s e) → (s t : Standing) (events : List Event) (answers : List Answer)
    → Runs (Allows rule) s events answers t → Runs (Allows other) s events answers t
runs_as rule other weaker s t [] [] r = r
runs_as rule other weaker s t [] (a ∷ answers) r = absurd r
runs_as rule other weaker s t (e ∷ events) [] r = absurd r
runs_as rule other weaker s t (e ∷ events) (a ∷ answers) r = (r.0, (weaker s e r.1.0, r.1.1), runs_as rule other weaker r.0 t events answers r.2)

unfoldable pub works_as : (rule other : Standing → Event → Type 0) → ((s : Standing) (e : Event) → rule s e → other s e) → {D : Type 0} (g : Ghosts D) (old new : Replica D) (result : Result (Unit {0}) Refusal)
    → WorksBy rule g old new result → WorksBy other g old new result
works_as rule other weaker g old new result w = record {
  events = w.events;
  answers = w.answers;
  own = w.own;
  ends = w.ends;
  moves = runs_as rule other weaker (facts_of g old) (facts_of g new) w.events w.answers w.moves;
  steps = w.steps;
  device = w.device;
  corrupt = w.corrupt;
  ran = w.ran;
}

-- what is due is its turn, where the log was full
due_turn : (s : Standing) (stage : Stage) (e : Event) → s.stage ≡ stage → due_at s stage ≡ Some e → IsTurn true s e
due_turn s Off e is due = inl (by (length s.ahead == 0) due)
  where
    by : (none : Bool) → (if none then None else Some (log_event s s.phase)) ≡ Some e → log_event s s.phase ≡ e
    by true never = absurd (let no : None ≡ Some e = never in cc)
    by false is = same_Some (log_event s s.phase) e is
due_turn s (Toward goal part) e is due = inr (ap step_of is ∙ due, λ _. refl)
due_turn s (Retiring written) e is due = inr (ap step_of is ∙ due, λ _. refl)

pub turn_of_due : (s : Standing) (e : Event) → IsNext s e → IsTurn true s e
turn_of_due s e due = due_turn s s.stage e refl due

pub turn_of_turn : (s : Standing) (e : Event) → IsTurn false s e → IsTurn true s e
turn_of_turn s e (inl log) = inl log
turn_of_turn s e (inr riding) = inr (riding.0, λ _. refl)

-- ---- replies come of what becomes durable alone

told_checked : (s : Standing) (stage : Stage) → length (replies_in (check_answer s stage)) ≡ 0
told_checked s Off = refl
told_checked s (Toward goal part) = refl
told_checked s (Retiring written) = refl

told_after : (s : Standing) (e : Event) (f : Found) → length (replies_in (answer s e f)) + s.durable ≤ (after s e f).durable
told_after s (Deliver seqno w) f = omega arith
told_after s (SetWindow seqno size source trx) f = omega arith
told_after s Log f = omega arith
told_after s Sync f = omega (arith, length-map (take (opening s.phase) s.ahead) reply_of, length-take (opening s.phase) s.ahead)
told_after s Check f = omega (arith, told_checked s s.stage)
told_after s (Flush page) f = omega arith
told_after s (Read key at) f = omega arith

told_refused : (s t : Standing) (a : Answer) (r : Refusal) → a ≡ Refused r → t.durable ≡ s.durable → length (replies_in a) + s.durable ≤ t.durable
told_refused s t a r is same = omega (arith, same, ap (λ (x : Answer). length (replies_in x)) is)

told_step : (s t : Standing) (e : Event) (a : Answer) → Moves s e a t → length (replies_in a) + s.durable ≤ t.durable
told_step s t e a m = by (refusal s e) m
  where
    by : (o : Option Refusal) → MatchOption o (((f : Found) × (a ≡ answer s e f) × (t ≡ after s e f)) ⊎ (Fails s e a t ⊎ MeetsCorruption s e a t)) (λ r. (a ≡ Refused r) × (t ≡ s)) → length (replies_in a) + s.durable ≤ t.durable
    by (Some r) refused = told_refused s t a r refused.0 (ap (λ (x : Standing). x.durable) refused.1)
    by None (inl went) = omega (arith, told_after s e went.0, ap (λ (x : Answer). length (replies_in x)) went.1, ap (λ (x : Standing). x.durable) went.2)
    by None (inr (inl (inl hungry))) = told_refused s t a OutOfMemory hungry.1 (ap (λ (x : Standing). x.durable) hungry.2)
    by None (inr (inl (inr fault))) = told_refused s t a DiskFault fault.1 (ap (λ (x : Standing). x.durable) fault.3)
    by None (inr (inr corrupt)) = told_refused s t a (Corrupt Pages) corrupt.1 (ap (λ (x : Standing). x.durable) corrupt.2)

told_run : (rule : Standing → Event → Type 0) (events : List Event) (answers : List Answer) (s t : Standing) → Runs (Allows rule) s events answers t → length (acknowledged answers) + s.durable ≤ t.durable
told_run rule [] [] s t run = omega (arith, ap (λ (x : Standing). x.durable) run)
told_run rule [] (a ∷ answers) s t run = absurd run
told_run rule (e ∷ events) [] s t run = absurd run
told_run rule (e ∷ events) (a ∷ answers) s t run =
    omega (arith, told_step s run.0 e a run.1.1, told_run rule events answers run.0 t run.2, length-append (replies_in a) (acknowledged answers))

-- where nothing became durable there is none
pub untold : (rule : Standing → Event → Type 0) (events : List Event) (answers : List Answer) (s t : Standing) → Runs (Allows rule) s events answers t → t.durable ≡ s.durable → acknowledged answers ≡ []
untold rule events answers s t run same = empty_by_length (acknowledged answers) (omega (arith, told_run rule events answers s t run, same))

pub told_then : (answers told : List Answer) → acknowledged (answers ++ told) ≡ acknowledged answers ++ acknowledged told
told_then [] told = refl
told_then (a ∷ answers) told = ap (λ (rest : List Reply). replies_in a ++ rest) (told_then answers told) ∙ sym (append_assoc (replies_in a) (acknowledged answers) (acknowledged told))

pub pages_then : (events more : List Event) → pages_in (events ++ more) ≡ pages_in events + pages_in more
pages_then [] more = omega arith
pages_then (e ∷ events) more = omega (arith, pages_then events more)

-- ---- what stays

pub keeps_here : (s : Standing) → Keeps s s
keeps_here s = record { ahead = refl; durable = refl }

pub keeps_then : (s t u : Standing) → Keeps s t → Keeps t u → Keeps s u
keeps_then s t u a b = record { ahead = b.ahead ∙ a.ahead; durable = b.durable ∙ a.durable }

pub rests_keep : (s t : Standing) → Rests s t → Keeps s t
rests_keep s t rests = record { ahead = rests.ahead; durable = rests.durable }

-- a step that is refused
pub refused_keeps : (s t : Standing) (e : Event) (a : Answer) → refusal s e ≡ None → Moves s e a t → (outcome_of a ≡ Ok tt → ⊥) → Keeps s t
refused_keeps s t e a none m refused = elim (went_by s t e a none m) [
  | inl went ↦ absurd (refused (ap outcome_of went.1 ∙ answer_done s e went.0))
  | inr failed ↦ elim failed [
    | inl why ↦ elim why [
      | inl hungry ↦ subst (Keeps s) (sym hungry.2) (keeps_here s)
      | inr fault ↦ record { ahead = ap (λ (x : Standing). x.ahead) fault.3; durable = ap (λ (x : Standing). x.durable) fault.3 }
    ]
    | inr corrupt ↦ subst (Keeps s) (sym corrupt.2) (keeps_here s)
  ]
]

-- one that begins a checkpoint
pub began_keeps : (s t : Standing) (f : Found) → t ≡ after s Check f → Keeps s t
began_keeps s t f is = record { ahead = ap (λ (x : Standing). x.ahead) is; durable = ap (λ (x : Standing). x.durable) is }

-- ---- what the checkpoint does beside

-- Nothing else moved.
abbrev pub Beside : Standing → Standing → Type 0
Beside s t = t ≡ record s { stage = t.stage }

pub beside_here : (s : Standing) → Beside s s
beside_here s = refl

pub beside_by : (s t : Standing) (stage : Stage) → t ≡ record s { stage = stage } → Beside s t
beside_by s t stage is = is ∙ ap (λ (x : Stage). record s { stage = x }) (sym (ap (λ (x : Standing). x.stage) is))

pub beside_then : (s t u : Standing) → Beside s t → Beside t u → Beside s u
beside_then s t u a b = b ∙ ap (λ (x : Standing). record x { stage = u.stage }) a

pub beside_keeps : (s t : Standing) → Beside s t → Keeps s t
beside_keeps s t is = record { ahead = ap (λ (x : Standing). x.ahead) is; durable = ap (λ (x : Standing). x.durable) is }

pub flush_beside : (s t : Standing) (page : ℕ) (f : Found) → t ≡ after s (Flush page) f → Beside s t
flush_beside s t page f is = beside_by s t (flushed page s.stage) is

pub check_beside : (s t : Standing) (f : Found) → t ≡ after s Check f → Beside s t
check_beside s t f is = beside_by s t (checked s f.left s.stage) is

-- and it stays so, while it is under way
checked_part : (s : Standing) (left : List ℕ) (goal : Goal) (part : Part) → step_of_part part ≡ Check → pages_left (checked s left (Toward goal part)) ≡ []
checked_part s left goal (Flushing []) waits = refl
checked_part s left goal (Flushing (page ∷ pages)) waits = absurd (let never : Flush page ≡ Check = waits in cc)
checked_part s left goal Saving waits = refl
checked_part s left goal Ready waits = refl
checked_part s left goal SuperFilling waits = refl
checked_part s left goal SuperFilled waits = refl
checked_part s left goal SuperOpening waits = refl

pub checked_none : (s : Standing) (left : List ℕ) (stage : Stage) → step_of stage ≡ Some Check → pages_left (checked s left stage) ≡ []
checked_none s left Off waits = absurd (let never : None ≡ Some Check = waits in cc)
checked_none s left (Toward goal part) waits = checked_part s left goal part (same_Some (step_of_part part) Check waits)
checked_none s left (Retiring written) waits = refl

synced_part : (goal : Goal) (part : Part) → left_in_part part ≡ [] → pages_left (synced_stage (Toward goal part)) ≡ []
synced_part goal (Flushing left) none = none
synced_part goal Saving none = refl
synced_part goal Ready none = refl
synced_part goal SuperFilling none = refl
synced_part goal SuperFilled none = refl
synced_part goal SuperOpening none = refl

pub synced_none : (stage : Stage) → pages_left stage ≡ [] → pages_left (synced_stage stage) ≡ []
synced_none Off none = refl
synced_none (Toward goal part) none = synced_part goal part none
synced_none (Retiring true) none = refl
synced_none (Retiring false) none = refl

-- ---- the block comes nearer

pub nears_here : (s : Standing) → is_full s ≡ false → Nears s s
nears_here s free = record { keeps = keeps_here s; coming = refl; free = free; next = refl; off = λ off. off }

-- with what rode before it
pub nears_beside : (s t u : Standing) → Beside s t → (s.stage ≡ Off → t.stage ≡ Off) → Nears t u → Nears s u
nears_beside s t u is stays n = record {
  keeps = keeps_then s t u (beside_keeps s t is) n.keeps;
  coming = n.coming ∙ ap coming is;
  free = n.free;
  next = n.next ∙ ap (λ (x : Standing). x.next) is;
  off = λ off. n.off (stays off);
}

-- a block that is to come is the same from either
pub block_of : (s t u : Standing) (replies : List Reply) → Keeps s t → coming t ≡ coming s → t.next ≡ s.next → HasBlock t replies u → HasBlock s replies u
block_of s t u replies keeps same next b = record {
  some = omega (arith, same, b.some);
  within = omega (arith, same, b.within, ap length keeps.ahead);
  few = omega (arith, same, b.few);
  told = b.told ∙ ap (λ (n : ℕ). map reply_of (take n t.ahead)) same ∙ ap (λ (ahead : _). map reply_of (take (coming s) ahead)) keeps.ahead;
  durable = omega (arith, same, b.durable, keeps.durable);
  ahead = b.ahead ∙ ap (λ (n : ℕ). drop n t.ahead) same ∙ ap (λ (ahead : _). drop (coming s) ahead) keeps.ahead;
  next = b.next ∙ ap (λ (n : ℕ). n + 1) next;
  phase = b.phase;
}

pub leads_then : (s t u : Standing) (left : ℕ) (replies : List Reply) → Nears s t → Leads t left replies u → Leads s left replies u
leads_then s t u left replies n (inl (none, more)) = inl (
  none,
  record {
    keeps = keeps_then s t u n.keeps more.keeps;
    coming = more.coming ∙ n.coming;
    free = more.free;
    next = more.next ∙ n.next;
    off = λ off. more.off (n.off off);
  },
)
leads_then s t u left replies n (inr ends) = inr (record {
  block = block_of s t u replies n.keeps n.coming n.next ends.block;
  pages = ends.pages;
  off = λ off. ends.off (n.off off);
})

-- a block that is durable has replies
pub some_reply : (s t : Standing) (replies : List Reply) → HasBlock s replies t → 0 < length replies
some_reply s t replies b = omega (arith, ap length b.told, length-map (take (coming s) s.ahead) reply_of, length-take (coming s) s.ahead, b.some, b.within)

-- ---- a write of the log

logged_nears : (s : Standing) (stale : Bool) (phase : Phase) → s.phase ≡ phase → is_full s ≡ false → Nears s (record s { phase = logged (gathered s) stale phase })
logged_nears s true Resting is free = record { keeps = record { ahead = refl; durable = refl }; coming = sym (ap (coming_in s) is); free = refl; next = refl; off = λ off. off }
logged_nears s false Resting is free = record { keeps = record { ahead = refl; durable = refl }; coming = sym (ap (coming_in s) is); free = refl; next = refl; off = λ off. off }
logged_nears s stale Closing is free = record { keeps = record { ahead = refl; durable = refl }; coming = sym (ap (coming_in s) is); free = refl; next = refl; off = λ off. off }
logged_nears s stale (Filling n) is free = record { keeps = record { ahead = refl; durable = refl }; coming = sym (ap (coming_in s) is); free = refl; next = refl; off = λ off. off }
logged_nears s stale (Filled n) is free = record { keeps = record { ahead = refl; durable = refl }; coming = sym (ap (coming_in s) is); free = refl; next = refl; off = λ off. off }
logged_nears s stale (Opening n) is free = record { keeps = record { ahead = refl; durable = refl }; coming = sym (ap (coming_in s) is); free = refl; next = refl; off = λ off. off }

pub log_nears : (s t : Standing) (f : Found) → is_full s ≡ false → t ≡ after s Log f → Nears s t
log_nears s t f free is = subst (Nears s) (sym is) (logged_nears s f.stale s.phase refl free)

-- ---- a sync

-- what it makes of a block that is as far as this, where its cell is free behind it
module _ (s t : Standing) (f : Found) (is : t ≡ after s Sync f) where
  keeps_by : opening s.phase ≡ 0 → Keeps s t
  keeps_by none = record {
    ahead = ap (λ (x : Standing). x.ahead) is ∙ ap (λ (n : ℕ). drop n s.ahead) none;
    durable = omega (arith, ap (λ (x : Standing). x.durable) is, none);
  }

  off_by : s.stage ≡ Off → t.stage ≡ Off
  off_by off = ap (λ (x : Standing). x.stage) is ∙ ap synced_stage off

  pub synced_nears : (phase : Phase) → s.phase ≡ phase → opening phase ≡ 0 → ((phase ≡ Closing) ⊎ ((n : ℕ) × (phase ≡ Filling n))) → is_full t ≡ false → Nears s t
  synced_nears phase at none (inl closing) free =
      let keeps = keeps_by (ap opening at ∙ none) in
      let rests : t.phase ≡ Resting = ap (λ (x : Standing). x.phase) is ∙ ap synced_phase (at ∙ closing) in
      record {
        keeps = keeps;
        coming = ap (coming_in t) rests ∙ ap (λ (ahead : _). fitting [] ahead) keeps.ahead ∙ sym (ap (coming_in s) (at ∙ closing));
        free = free;
        next = (let nothing_taken : taken s.phase ≡ 0 = ap taken (at ∙ closing) in omega (arith, ap (λ (x : Standing). x.next) is, nothing_taken));
        off = off_by;
      }
  synced_nears phase at none (inr (n, filling)) free =
      let keeps = keeps_by (ap opening at ∙ none) in
      let filled : t.phase ≡ Filled n = ap (λ (x : Standing). x.phase) is ∙ ap synced_phase (at ∙ filling) in
      record {
        keeps = keeps;
        coming = ap (coming_in t) filled ∙ sym (ap (coming_in s) (at ∙ filling));
        free = free;
        next = (let nothing_taken : taken s.phase ≡ 0 = ap taken (at ∙ filling) in omega (arith, ap (λ (x : Standing). x.next) is, nothing_taken));
        off = off_by;
      }

  pub synced_ends : (n left : ℕ) → s.phase ≡ Opening n → 0 < n → n ≤ length s.ahead → n ≤ 64 → ((left ≡ 0) ⊎ (pages_left s.stage ≡ [])) → Ends s left (replies s) t
  synced_ends n left at some within few none =
      let comes : coming s ≡ n = ap (coming_in s) at in
      let opens : opening s.phase ≡ n = ap opening at in
      record {
        block = record {
          some = omega (arith, comes, some);
          within = omega (arith, comes, within);
          few = omega (arith, comes, few);
          told = ap (λ (k : ℕ). map reply_of (take k s.ahead)) (opens ∙ sym comes);
          durable = omega (arith, ap (λ (x : Standing). x.durable) is, opens, comes);
          ahead = ap (λ (x : Standing). x.ahead) is ∙ ap (λ (k : ℕ). drop k s.ahead) (opens ∙ sym comes);
          next = (let one : taken s.phase ≡ 1 = ap taken at in omega (arith, ap (λ (x : Standing). x.next) is, one));
          phase = ap (λ (x : Standing). x.phase) is ∙ ap synced_phase at;
        };
        pages = elim none [
          | inl zero ↦ inl zero
          | inr empty ↦ inr (ap (λ (x : Standing). pages_left x.stage) is ∙ synced_none s.stage empty)
        ];
        off = off_by;
      }

-- ---- results

pub if_ok : {T : Type 0} {P : T → Type 0} → (r : Result T Refusal) → ((x : T) → r ≡ Ok x → P x) → IfOk r P
if_ok (Ok x) f = f x refl
if_ok (Err e) f = tt

-- a full log is at rest
full_at : (s : Standing) (phase : Phase) → is_full_in s phase ≡ true → phase ≡ Resting
full_at s Resting full = refl
full_at s Closing full = absurd (let never : false ≡ true = full in cc)
full_at s (Filling n) full = absurd (let never : false ≡ true = full in cc)
full_at s (Filled n) full = absurd (let never : false ≡ true = full in cc)
full_at s (Opening n) full = absurd (let never : false ≡ true = full in cc)

pub full_rests : (s : Standing) → is_full s ≡ true → s.phase ≡ Resting
full_rests s full = full_at s s.phase full

pub is_something : {A : Type 0} (xs : List A) → (length xs == 0) ≡ false → xs ≡ [] → ⊥
is_something xs some none = let never : true ≡ false = ap (λ (ys : List _). length ys == 0) (sym none) ∙ some in cc

pub ok_at : {T : Type 0} (P : Type 0) → (r : Result T Refusal) → OnOk r P → IfOk r (λ _. P)
ok_at P (Ok x) p = p
ok_at P (Err e) p = tt
