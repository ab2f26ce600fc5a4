-- How a replica grows, by its own steps and by what is delivered to it.
use Rattle.std.proofs.Common.{◌≡◌, ◌⊎◌, inl, inr, ℕ, ◌+◌, ◌≤◌, ◌<◌, Bool, true, false, List, [], ◌∷◌, ◌++◌, length, take, drop, Option, None, Some, Result, Ok, Err, refl, sym, ap, subst, ◌∙◌, append_assoc, append-nil, arith, length-append, length-drop}
use Rattle.std.specs.Prelude.{◌≢◌, ◌==◌, ◌||◌, not, nat_le, if◌then◌else◌, is_some, IfErr, MatchOption}
use Rattle.std.specs.List.{list_any}
use Rattle.std.proofs.Math.ListN.{take-append-drop}
use Rattle.std.proofs.lemmas.List.{drop_all, drop_at, take_at, drop-append-le, map-append, length_push}
use Rattle.std.proofs.lemmas.Bool.Decides.{nat_tests}
use Rattle.std.proofs.lemmas.Slice.Eq.{bytes_eq-Decides}
use Rattle.uuid.specs.Parts.{is_nil_bytes, zero_bytes}
use Rattle.rep_types.specs.declared.judged.Judged.{Judged}
use Rattle.rep_types.specs.declared.item.Item.{Item}
use Rattle.rep_types.specs.declared.item.Item.TheVariants.{WriteSet, SetWindow as OfChange}
use Rattle.rep_types.specs.declared.verdict.Verdict.{Verdict}
use Rattle.rep_types.specs.declared.refusal.Refusal.{Refusal}
use Rattle.rep_types.specs.declared.refusal.Refusal.TheVariants.{Stopped, Undefined, NotDue, LogFull, Exhausted, OutOfOrder, Backlogged, OutOfMemory, DiskFault, Corrupt, Malformed}
use Rattle.rep_types.specs.declared.refusal.Part.TheVariants.{Pages}
use Rattle.rep_types.specs.declared.limits.TheConstants.{MAX_SEQNO, MAX_AHEAD}
use Rattle.rep_types.specs.Settings.{Setting}
use Rattle.rep_types.specs.Order.{Order, items_of, history, verdict}
use Rattle.rep_types.specs.ByItems.{HistoryByItems}
use Rattle.rep_disk.specs.declared.disk.Disk.{Ghosts}
use Rattle.rep_cert.specs.Holdings.{Holding, verdict_of}
use Rattle.rep_layout.specs.Supers.{IsNil}
use Rattle.rep_log.specs.declared.phase.Phase.{Phase}
use Rattle.rep_log.specs.declared.phase.Phase.TheVariants.{Resting, Closing, Filling, Filled, Opening}
use Rattle.rep_steps.specs.declared.event.Event.{Event}
use Rattle.rep_steps.specs.declared.event.Event.TheVariants.{Deliver, SetWindow, Log, Sync, Check, Flush, Read}
use Rattle.rep_steps.specs.declared.answer.Answer.{Answer}
use Rattle.rep_steps.specs.declared.answer.Answer.TheVariants.{Gave, Refused}
use Rattle.rep_steps.specs.Events.{delivery}
use Rattle.rep_steps.specs.Deliveries.{delivery_refused, delivery_answer, delivery_after, delivery_answered, delivery_accepted, delivery_not_accepted}
use Rattle.rep_steps.specs.FactLaws.{move_stays, move_serves}
use Rattle.rep_steps.specs.Standings.{Standing, Flushing, Saving, Ready, SuperFilling, SuperFilled, SuperOpening, Stage, Off, Toward, Retiring, delivered, underway, gathered, refusal, refusal_here, delivery_refusal, log_refusal, check_refusal, flush_refusal}
use Rattle.rep_steps.specs.Moves.{Found, Moves, Fails, MeetsCorruption, answer, check_answer, after, next_item, opening}
use Rattle.rep_steps.specs.Nodes.{Node, IsNode, Steps, moved, found, NodesStayNodes}
use Rattle.rep_steps.specs.Orders.{IsOf, accepted, answer_of, StepsFollowTheOrder, NodesHoldTheOrder}
use Rattle.rep_steps.specs.Runs.{Runs, accepted_by, RunsComeTo}
use Rattle.rep_replica.specs.Replicas.{Replica, facts_of}
use Rattle.rep_replica.specs.Holding.{Holds, IsStep, IsJudgedBy}
use Rattle.rep_replica.specs.Running.{RunsAreJoined}
use Rattle.rep_replica.specs.SettlingLaws.{settling_stays, settling_serves, done_is_none}
use Rattle.rep_replica.specs.Settling.{IsRunning, IsDue, IsOwn, AreOwn, AreDone, EndsEarly, Works}
use Rattle.rep_transfer.specs.declared.part.Part.TheVariants.{Record}
use Rattle.rep_catchup.specs.Growing.{Grows, Grown, EndsRunning}
use Rattle.rep_catchup.specs.Joining.{JoinsEarly, IsOut}

-- ---- why it isn't taken

pub early_work : (e : Refusal) → EndsEarly e → JoinsEarly e
early_work e (inl memory) = inr (inr (inr (inl memory)))
early_work e (inr (inl fault)) = inr (inr (inr (inr (inl fault))))
early_work e (inr (inr corrupt)) = inr (inr (inr (inr (inr corrupt))))

-- ---- whether it runs

pub is_stopped : {D : Type 0} (g : Ghosts D) (r : Replica D) → IsRunning r → (r.stopped || is_some r.engine.halted) ≡ false
is_stopped g r running = rw (running.inside, running.device)

runs_by : (a : Bool) (o : Option Phase) → (a || is_some o) ≡ false → (a ≡ false) × (o ≡ None)
runs_by false None is = (refl, refl)
runs_by false (Some x) is = absurd cc
runs_by true o is = absurd cc

pub is_running : {D : Type 0} (r : Replica D) → (r.stopped || is_some r.engine.halted) ≡ false → IsRunning r
is_running r is = let both = runs_by r.stopped r.engine.halted is in record { inside = both.0; device = both.1 }

-- ---- steps of its own

own_accepted : (e : Event) (a : Answer) → IsOwn e → accepted e a ≡ []
own_accepted (Deliver seqno w) a own = absurd own
own_accepted (SetWindow seqno size source trx) a own = absurd own
own_accepted Log a own = refl
own_accepted Sync a own = refl
own_accepted Check a own = refl
own_accepted (Flush page) a own = refl
own_accepted (Read key at) a own = absurd own

own_accept : (events : List Event) (answers : List Answer) → AreOwn events → accepted_by events answers ≡ []
own_accept [] answers own = refl
own_accept (e ∷ events) [] own = refl
own_accept (e ∷ events) (a ∷ answers) own = ap (λ (L : Order). L ++ accepted_by events answers) (own_accepted e a own.0) ∙ own_accept events answers own.1

accepted_both : (events : List Event) (answers : List Answer) (more : List Event) (told : List Answer) → length events ≡ length answers → accepted_by (events ++ more) (answers ++ told) ≡ accepted_by events answers ++ accepted_by more told
accepted_both [] [] more told same = refl
accepted_both [] (a ∷ answers) more told same = absurd (omega (arith, same))
accepted_both (e ∷ events) [] more told same = absurd (omega (arith, same))
accepted_both (e ∷ events) (a ∷ answers) more told same =
    ap (λ (L : Order). accepted e a ++ L) (accepted_both events answers more told (omega (arith, same))) ∙ sym (append_assoc (accepted e a) (accepted_by events answers) (accepted_by more told))

runs_paired : {S : Type 0} (one : S → Event → Answer → S → Type 0) (events : List Event) (answers : List Answer) (s t : S) → Runs one s events answers t → length events ≡ length answers
runs_paired one [] [] s t run = refl
runs_paired one [] (a ∷ answers) s t run = absurd run
runs_paired one (e ∷ events) [] s t run = absurd run
runs_paired one (e ∷ events) (a ∷ answers) s t run = omega (arith, runs_paired one events answers run.0 t run.2)

-- what came of a step where no refusal applied
abbrev pub Outcome : Standing → Event → Answer → Standing → Type 0
Outcome s e a t = ((found : Found) × (a ≡ answer s e found) × (t ≡ after s e found)) ⊎ (Fails s e a t ⊎ MeetsCorruption s e a t)

-- ---- whether it is stopped then

some_same : (r x : Refusal) → Some r ≡ Some x → r ≡ x
some_same r x is = cc

pub same_refusal : (r e : Refusal) → Refused e ≡ Refused r → e ≡ r
same_refusal r e is = cc

-- of what is due, no refusal tells that it is stopped, or that the device failed
module _ (x : Refusal) (not_due : NotDue ≡ x → ⊥) (not_full : LogFull ≡ x → ⊥) where
  pub if_other : (b : Bool) (r : Refusal) (o : Option Refusal) → (r ≡ x → ⊥) → (o ≡ Some x → ⊥) → (if b then Some r else o) ≡ Some x → ⊥
  if_other true r o not never is = not (some_same r x is)
  if_other false r o not never is = never is

  none_other : ◌≡◌ {A = Option Refusal} None (Some x) → ⊥
  none_other is = cc

  due_other : Some NotDue ≡ Some x → ⊥
  due_other is = not_due (some_same NotDue x is)

  log_other : (s : Standing) (phase : Phase) → log_refusal s phase ≡ Some x → ⊥
  log_other s Resting is = if_other (gathered s == 0) NotDue (if nat_le (s.start + s.setting.cells) s.next then Some LogFull else None) not_due (if_other (nat_le (s.start + s.setting.cells) s.next) LogFull None not_full none_other) is
  log_other s Closing is = due_other is
  log_other s (Filling n) is = due_other is
  log_other s (Filled n) is = none_other is
  log_other s (Opening n) is = due_other is

  check_other : (s : Standing) (stage : Stage) → check_refusal s stage ≡ Some x → ⊥
  check_other s Off is = if_other (nat_le s.durable s.base) NotDue None not_due none_other is
  check_other s (Toward goal (Flushing [])) is = none_other is
  check_other s (Toward goal (Flushing (page ∷ left))) is = due_other is
  check_other s (Toward goal Saving) is = due_other is
  check_other s (Toward goal Ready) is = none_other is
  check_other s (Toward goal SuperFilling) is = due_other is
  check_other s (Toward goal SuperFilled) is = none_other is
  check_other s (Toward goal SuperOpening) is = due_other is
  check_other s (Retiring written) is = if_other written NotDue None not_due none_other is

  found_other : (b : Bool) → (if b then None else Some NotDue) ≡ Some x → ⊥
  found_other true is = none_other is
  found_other false is = due_other is

  flush_other : (stage : Stage) (page : ℕ) → flush_refusal stage page ≡ Some x → ⊥
  flush_other Off page is = due_other is
  flush_other (Toward goal (Flushing left)) page is = found_other (list_any (λ (p : ℕ). p == page) left) is
  flush_other (Toward goal Saving) page is = due_other is
  flush_other (Toward goal Ready) page is = due_other is
  flush_other (Toward goal SuperFilling) page is = due_other is
  flush_other (Toward goal SuperFilled) page is = due_other is
  flush_other (Toward goal SuperOpening) page is = due_other is
  flush_other (Retiring written) page is = due_other is

  pub here_other : (s : Standing) (e : Event) → IsOwn e → refusal_here s e ≡ Some x → ⊥
  here_other s (Deliver seqno w) own is = absurd own
  here_other s (SetWindow seqno size source trx) own is = absurd own
  here_other s Log own is = log_other s s.phase is
  here_other s Sync own is = none_other is
  here_other s Check own is = check_other s s.stage is
  here_other s (Flush page) own is = flush_other s.stage page is
  here_other s (Read key at) own is = absurd own

  refusal_other : (s : Standing) (e : Event) → s.stopped ≡ false → IsOwn e → refusal s e ≡ Some x → ⊥
  refusal_other s e running own is = here_other s e own (sym (ap (λ b. if b then Some Stopped else refusal_here s e) running) ∙ is)

not_stopped : (s : Standing) (e : Event) → s.stopped ≡ false → IsOwn e → refusal s e ≡ Some Stopped → ⊥
not_stopped = refusal_other Stopped (λ is. let never : NotDue ≡ Stopped = is in cc) (λ is. let never : LogFull ≡ Stopped = is in cc)

not_a_fault : (s : Standing) (e : Event) → s.stopped ≡ false → IsOwn e → refusal s e ≡ Some DiskFault → ⊥
not_a_fault = refusal_other DiskFault (λ is. let never : NotDue ≡ DiskFault = is in cc) (λ is. let never : LogFull ≡ DiskFault = is in cc)

-- no own step is answered by a refusal where none came
pub answers_none : (r : Refusal) (s : Standing) (e : Event) (f : Found) → IsOwn e → Refused r ≡ answer s e f → ⊥
answers_none r s (Deliver seqno w) f own is = absurd own
answers_none r s (SetWindow seqno size source trx) f own is = absurd own
answers_none r s Log f own is = cc
answers_none r s Sync f own is = cc
answers_none r s Check f own is = begins s.stage is
  where
    begins : (stage : Stage) → Refused r ≡ check_answer s stage → ⊥
    begins Off is = cc
    begins (Toward goal part) is = cc
    begins (Retiring written) is = cc
answers_none r s (Flush page) f own is = cc
answers_none r s (Read key at) f own is = absurd own

-- Where a device failed it is stopped, and nowhere else.
abbrev pub StopsBy : Refusal → Standing → Type 0
StopsBy e t = ((e ≡ DiskFault) × (t.stopped ≡ true)) ⊎ ((e ≢ DiskFault) × (t.stopped ≡ false))

pub memory_is_none : OutOfMemory ≢ DiskFault
memory_is_none is = cc

pub corrupt_is_none : Corrupt Pages ≢ DiskFault
corrupt_is_none is = cc

pub failed_stops : (s : Standing) (e : Event) (r : Refusal) (t : Standing) → s.stopped ≡ false → Fails s e (Refused r) t ⊎ MeetsCorruption s e (Refused r) t → StopsBy r t
failed_stops s e r t running (inl (inl hungry)) = let is = same_refusal OutOfMemory r hungry.1 in inr (λ fault. memory_is_none (sym is ∙ fault), ap (λ (u : Standing). u.stopped) hungry.2 ∙ running)
failed_stops s e r t running (inl (inr fault)) = inl (same_refusal DiskFault r fault.1, ap (λ (u : Standing). u.stopped) fault.3)
failed_stops s e r t running (inr corrupt) = let is = same_refusal (Corrupt Pages) r corrupt.1 in inr (λ fault. corrupt_is_none (sym is ∙ fault), ap (λ (u : Standing). u.stopped) corrupt.2 ∙ running)

-- none of them tells that it is stopped; and where one is refused the replica is stopped by the device alone
last_stops : (s : Standing) (e : Event) (r : Refusal) (t : Standing) → s.stopped ≡ false → IsOwn e → (o : Option Refusal) → refusal s e ≡ o → MatchOption o (Outcome s e (Refused r) t) (λ q. (Refused r ≡ Refused q) × (t ≡ s)) → (r ≢ Stopped) × StopsBy r t
last_stops s e r t running own (Some q) is m =
    let same : r ≡ q = same_refusal q r m.0 in (
      λ stopped. not_stopped s e running own (is ∙ ap Some (sym same ∙ stopped)),
      inr (λ fault. not_a_fault s e running own (is ∙ ap Some (sym same ∙ fault)), ap (λ (u : Standing). u.stopped) m.1 ∙ running),
    )
last_stops s e r t running own None is (inl went) = absurd (answers_none r s e went.0 own went.1)
last_stops s e r t running own None is (inr failed) = (other failed, failed_stops s e r t running failed)
  where
    other : Fails s e (Refused r) t ⊎ MeetsCorruption s e (Refused r) t → r ≢ Stopped
    other (inl (inl hungry)) is = let never : OutOfMemory ≡ Stopped = sym (same_refusal OutOfMemory r hungry.1) ∙ is in cc
    other (inl (inr fault)) is = let never : DiskFault ≡ Stopped = sym (same_refusal DiskFault r fault.1) ∙ is in cc
    other (inr corrupt) is = let never : Corrupt Pages ≡ Stopped = sym (same_refusal (Corrupt Pages) r corrupt.1) ∙ is in cc

runs_stop : (r : Refusal) (done : List Answer) (events : List Event) (s t : Standing) → s.stopped ≡ false → AreOwn events → AreDone done → Runs IsDue s events (done ++ Refused r ∷ []) t → (r ≢ Stopped) × StopsBy r t
runs_stop r [] [] s t running own are run = absurd run
runs_stop r [] (e ∷ []) s t running own are run = subst (λ (u : Standing). (r ≢ Stopped) × StopsBy r u) run.2 (last_stops s e r run.0 running own.0 (refusal s e) refl run.1.1)
runs_stop r [] (e ∷ (f ∷ events)) s t running own are run = absurd run.2
runs_stop r (a ∷ done) [] s t running own are run = absurd run
runs_stop r (a ∷ done) (e ∷ events) s t running own are run = runs_stop r done events run.0 t ((move_serves s e a run.0 (done_is_none a are.0) run.1.1).stopped ∙ running) own.1 are.1 run.2

-- ---- the same of a node: as much was delivered then

opening_within : (phase : Phase) → opening phase ≤ underway phase
opening_within Resting = omega arith
opening_within Closing = omega arith
opening_within (Filling n) = omega arith
opening_within (Filled n) = omega arith
opening_within (Opening n) = omega arith

own_count : (n : Node) (e : Event) → IsNode n → IsOwn e → delivered (moved n e).facts ≡ delivered n.facts
own_count n (Deliver seqno w) node own = absurd own
own_count n (SetWindow seqno size source trx) node own = absurd own
own_count n Log node own = refl
own_count n Sync node own = omega (arith, length-drop (opening n.facts.phase) n.facts.ahead, opening_within n.facts.phase, node.facts.block)
own_count n Check node own = refl
own_count n (Flush page) node own = refl
own_count n (Read key at) node own = absurd own

failed_count : (n m : Node) (e : Event) (a : Answer) → Fails n.facts e a m.facts → delivered m.facts ≡ delivered n.facts
failed_count n m e a (inl hungry) = ap delivered hungry.2
failed_count n m e a (inr fault) = ap delivered fault.3

step_count_by : (n m : Node) (e : Event) (a : Answer) → IsNode n → IsOwn e → (o : Option Refusal)
    → MatchOption o (((a ≡ answer n.facts e (found n e)) × (m ≡ moved n e)) ⊎ (Fails n.facts e a m.facts × (m ≡ record n { facts = m.facts }))) (λ r. (a ≡ Refused r) × (m ≡ n)) → delivered m.facts ≡ delivered n.facts
step_count_by n m e a node own (Some r) st = ap (λ (k : Node). delivered k.facts) st.1
step_count_by n m e a node own None (inl went) = ap (λ (k : Node). delivered k.facts) went.1 ∙ own_count n e node own
step_count_by n m e a node own None (inr (failed, rest)) = failed_count n m e a failed

runs_count : NodesStayNodes → (events : List Event) (answers : List Answer) (n m : Node) → IsNode n → AreOwn events → Runs Steps n events answers m → delivered m.facts ≡ delivered n.facts
runs_count stay [] [] n m node own run = ap (λ (k : Node). delivered k.facts) (sym run)
runs_count stay [] (a ∷ answers) n m node own run = absurd run
runs_count stay (e ∷ events) [] n m node own run = absurd run
runs_count stay (e ∷ events) (a ∷ answers) n m node own run =
    runs_count stay events answers run.0 m (stay n run.0 e a node run.1) own.1 run.2 ∙ step_count_by n run.0 e a node own.0 (refusal n.facts e) run.1

-- ---- what stands behind an order

abbrev judged_as : ℕ → Item → Verdict → Judged
judged_as n i v = record { seqno = n; item = i; verdict = v }

module _ (by_items : HistoryByItems) where
  as_many : (p : Setting) (L : Order) → length (history p L) ≡ length L
  as_many p L = by_items.as_many p L

  -- nothing, where nothing came
  pub none_behind : (p : Setting) (L : Order) → drop (length L) (history p (L ++ [])) ≡ []
  none_behind p L = ap (λ (M : Order). drop (length L) (history p M)) (append-nil L) ∙ drop_all (length L) (history p L) (omega (arith, as_many p L))

  -- what a front has stays, and the rest stands behind it
  behind_both : (p : Setting) (L A B : Order) → drop (length L) (history p ((L ++ A) ++ B)) ≡ drop (length L) (history p (L ++ A)) ++ drop (length (L ++ A)) (history p ((L ++ A) ++ B))
  behind_both p L A B =
      let H : List Judged = history p ((L ++ A) ++ B) in
      let n : ℕ = length (L ++ A) in
      let front : take n H ≡ history p (L ++ A) = by_items.front p ((L ++ A) ++ B) n ∙ ap (history p) (take_at (L ++ A) B n refl) in
      let parts : H ≡ history p (L ++ A) ++ drop n H = sym (take-append-drop n H) ∙ ap (λ (js : List Judged). js ++ drop n H) front in
      ap (drop (length L)) parts ∙ drop-append-le (length L) (history p (L ++ A)) (drop n H) (omega (arith, as_many p (L ++ A), length-append L A))

  one_behind : (p : Setting) (L : Order) (i : Item) → drop (length L) (history p (L ++ i ∷ [])) ≡ record { seqno = length L + 1; item = i; verdict = verdict p (L ++ i ∷ []) (length L + 1) } ∷ []
  one_behind p L i = ap (drop (length L)) (by_items.one_more p L i) ∙ drop_at (history p L) (record { seqno = length L + 1; item = i; verdict = verdict p (L ++ i ∷ []) (length L + 1) } ∷ []) (length L) (as_many p L)

  -- ---- how nodes grow

  pub grows_none : (n m : Node) → delivered m.facts ≡ delivered n.facts → ((L : Order) → IsOf L n → IsOf (L ++ []) m) → Grows n [] m
  grows_none n m count same = record { count = omega (arith, count); order = same; judged = λ L of. sym (none_behind n.facts.setting L) }

  pub grows_then : (n m k : Node) (xs ys : List Judged) → m.facts.setting ≡ n.facts.setting → Grows n xs m → Grows m ys k → Grows n (xs ++ ys) k
  grows_then n m k xs ys same first second = record {
    count = omega (arith, first.count, second.count, length-append xs ys);
    order = λ L of. subst (λ (M : Order). IsOf M k) (whole L) (second.order (L ++ items_of xs) (first.order L of));
    judged = λ L of.
        let p : Setting = n.facts.setting in
        let more : ys ≡ drop (length (L ++ items_of xs)) (history p ((L ++ items_of xs) ++ items_of ys)) =
        second.judged (L ++ items_of xs) (first.order L of) ∙ ap (λ (q : Setting). drop (length (L ++ items_of xs)) (history q ((L ++ items_of xs) ++ items_of ys))) same in
        ap (λ (js : List Judged). js ++ ys) (first.judged L of) ∙ ap (λ (js : List Judged). drop (length L) (history p (L ++ items_of xs)) ++ js) more
        ∙ sym (behind_both p L (items_of xs) (items_of ys)) ∙ ap (λ (M : Order). drop (length L) (history p M)) (whole L);
  }
    where
      whole : (L : Order) → (L ++ items_of xs) ++ items_of ys ≡ L ++ items_of (xs ++ ys)
      whole L = append_assoc L (items_of xs) (items_of ys) ∙ ap (λ (M : Order). L ++ M) (sym (map-append (λ (j : Judged). j.item) xs ys))

  -- ---- how replicas grow

  module _ {D : Type 0} (g : Ghosts D) where
    same_setting : (n : Node) (r : Replica D) → Holds g n r → n.facts.setting ≡ (facts_of g r).setting
    same_setting n r holds = ap (λ (s : Standing). s.setting) holds.facts

    module _ (joined : RunsAreJoined g) where
      pub grown_none : (r : Replica D) → Grown g r r []
      grown_none r = record {
        uuid = refl;
        setting = refl;
        count = omega arith;
        events = [];
        answers = [];
        paired = refl;
        ran = joined.no_run r;
        accepted = refl;
        node = λ n holds. (n, grows_none n n refl (λ L of. subst (λ (M : Order). IsOf M n) (sym (append-nil L)) of), holds);
      }

      pub grown_then : (a b c : Replica D) (xs ys : List Judged) → Grown g a b xs → Grown g b c ys → Grown g a c (xs ++ ys)
      grown_then a b c xs ys first second = record {
        uuid = second.uuid ∙ first.uuid;
        setting = second.setting ∙ first.setting;
        count = omega (arith, first.count, second.count, length-append xs ys);
        events = first.events ++ second.events;
        answers = first.answers ++ second.answers;
        paired = omega (arith, first.paired, second.paired, length-append first.events second.events, length-append first.answers second.answers);
        ran = joined.both_runs a b c first.events first.answers second.events second.answers first.ran second.ran;
        accepted = accepted_both first.events first.answers second.events second.answers first.paired ∙ ap (λ (L : Order). L ++ accepted_by second.events second.answers) first.accepted ∙ ap (λ (L : Order). items_of xs ++ L) second.accepted ∙ sym (map-append (λ (j : Judged). j.item) xs ys);
        node = λ n holds.
            let one = first.node n holds in
            let two = second.node one.0 one.2 in
            let same = same_setting one.0 b one.2 ∙ first.setting ∙ sym (same_setting n a holds) in
            (two.0, grows_then n one.0 two.0 xs ys same one.1 two.1, two.2);
      }

    -- it settled, as far as it came
    pub settled : NodesStayNodes → RunsComeTo → (old new : Replica D) (result : Result (Unit {0}) Refusal) → Works g old new result → Grown g old new []
    settled stay comes old new result w =
        let stays = settling_stays w.events w.answers (facts_of g old) (facts_of g new) w.moves in
        record {
          uuid = stays.uuid;
          setting = stays.setting;
          count = omega (arith, stays.count);
          events = w.events;
          answers = w.answers;
          paired = runs_paired IsDue w.events w.answers (facts_of g old) (facts_of g new) w.moves;
          ran = w.ran;
          accepted = own_accept w.events w.answers w.own;
          node = λ n holds.
              let ran = w.ran n holds in
              (ran.0, grows_none n ran.0 (runs_count stay w.events w.answers n ran.0 holds.node w.own ran.1.runs) (λ L of. subst (λ (M : Order). IsOf (L ++ M) ran.0) (own_accept w.events w.answers w.own) (comes L n ran.0 w.events w.answers holds.node of ran.1.runs).order), ran.2);
        }

    pub ends_running : (new : Replica D) (e : Refusal) → StopsBy e (facts_of g new) → EndsRunning {T = Unit {0}} (Err e) new
    ends_running new e (inl fault) = inl fault
    ends_running new e (inr other) = inr (other.0, is_running new other.1)

    ended_in : (old new : Replica D) (e : Refusal) → IsRunning old → Works g old new (Err e) → (e ≢ Stopped) × StopsBy e (facts_of g new)
    ended_in old new e running w =
        runs_stop e w.ends.0 w.events (facts_of g old) (facts_of g new) (is_stopped g old running) w.own w.ends.1 (subst (λ (answers : List Answer). Runs IsDue (facts_of g old) w.events answers (facts_of g new)) w.ends.2 w.moves)

    pub settled_ends : (old new : Replica D) (result : Result (Unit {0}) Refusal) → IsRunning old → Works g old new result → EndsRunning result new
    settled_ends old new (Ok x) running w = is_running new ((settling_serves w.events w.answers (facts_of g old) (facts_of g new) w.ends w.moves).stopped ∙ is_stopped g old running)
    settled_ends old new (Err e) running w = ends_running new e (ended_in old new e running w).1

    pub settle_early : (old new : Replica D) (result : Result (Unit {0}) Refusal) → IsRunning old → Works g old new result → IfErr result (λ e. (e ≡ Stopped) ⊎ EndsEarly e) → IfErr result EndsEarly
    settle_early old new (Ok x) running w early = tt
    settle_early old new (Err e) running w (inl stopped) = absurd ((ended_in old new e running w).0 stopped)
    settle_early old new (Err e) running w (inr early) = early

    -- ---- an item was delivered

    module _ (joined : RunsAreJoined g) (holds_order : NodesHoldTheOrder) (follow : StepsFollowTheOrder) (old new : Replica D) (seqno : ℕ) (i : Item) where
      abbrev one_item : ℕ → Verdict → List Judged
      one_item k v = record { seqno = k; item = i; verdict = v } ∷ []

      item_is : (L : Order) (n : Node) (v : Verdict) → IsNode n → seqno ≡ delivered n.facts + 1 → IsOf L n → ((r : Refusal) × (Gave v ≡ Refused r)) ⊎ (Gave v ≡ answer_of L n.facts (delivery seqno i))
          → one_item seqno v ≡ (drop (length L) (history n.facts.setting (L ++ i ∷ [])))
      item_is L n v node next of (inl refused) = absurd cc
      item_is L n v node next of (inr gave) =
          let p : Setting = n.facts.setting in
          let count : seqno ≡ length L + 1 = omega (arith, next, (holds_order L n node of).count) in
          let same : Gave v ≡ Gave (verdict p (L ++ i ∷ []) (length L + 1)) = gave ∙ delivery_answered seqno L n.facts i in
          let told : v ≡ verdict p (L ++ i ∷ []) (length L + 1) = cc in
          ap (λ (k : ℕ). one_item k v) count ∙ ap (one_item (length L + 1)) told
          ∙ sym (one_behind p L i)

      pub record Came (s t : Standing) : Type 0 where
        pub uuid : t.uuid ≡ s.uuid
        pub setting : t.setting ≡ s.setting
        pub count : delivered t ≡ delivered s + 1
        pub stopped : t.stopped ≡ s.stopped

      came_by : (s t : Standing) (v : Verdict) (o : Option Refusal) → MatchOption o (Outcome s (delivery seqno i) (Gave v) t) (λ r. (Gave v ≡ Refused r) × (t ≡ s)) → Came s t
      came_by s t v (Some r) m = let never = m.0 in absurd cc
      came_by s t v None (inl went) = subst (Came s) (sym (went.2 ∙ delivery_after seqno s i went.0)) (record { uuid = refl; setting = refl; count = omega (arith, length_push s.ahead (next_item s i went.0.verdict)); stopped = refl })
      came_by s t v None (inr (inl (inl hungry))) = let never = hungry.1 in absurd cc
      came_by s t v None (inr (inl (inr fault))) = let never = fault.1 in absurd cc
      came_by s t v None (inr (inr corrupt)) = let never = corrupt.1 in absurd cc

      pub came : (v : Verdict) → Moves (facts_of g old) (delivery seqno i) (Gave v) (facts_of g new) → Came (facts_of g old) (facts_of g new)
      came v m = came_by (facts_of g old) (facts_of g new) v (refusal (facts_of g old) (delivery seqno i)) m

      pub delivered_runs : (v : Verdict) → IsRunning old → Moves (facts_of g old) (delivery seqno i) (Gave v) (facts_of g new) → IsRunning new
      delivered_runs v running m = is_running new ((came v m).stopped ∙ is_stopped g old running)

      delivered_one : (v : Verdict) → seqno ≡ delivered (facts_of g old) + 1 → IsStep g old (delivery seqno i) (Gave v) new → Grown g old new (record { seqno = seqno; item = i; verdict = v } ∷ [])
      delivered_one v next step =
          let is = came v step.moves in
          record {
            uuid = is.uuid;
            setting = is.setting;
            count = omega (arith, is.count);
            events = delivery seqno i ∷ [];
            answers = Gave v ∷ [];
            paired = refl;
            ran = joined.one_run old new (delivery seqno i) (Gave v) step;
            accepted = ap (λ (M : Order). M ++ []) (delivery_accepted seqno i v);
            node = λ n holds.
                let st = step.steps n holds in
                let there : seqno ≡ delivered n.facts + 1 = next ∙ ap (λ (s : Standing). delivered s + 1) (sym holds.facts) in (
                  st.0,
                  record {
                    count = ap delivered st.2.facts ∙ is.count ∙ ap (λ (s : Standing). delivered s + 1) (sym holds.facts);
                    order = λ L of. subst (λ (M : Order). IsOf (L ++ M) st.0) (delivery_accepted seqno i v) (follow L n st.0 (delivery seqno i) (Gave v) holds.node of st.1).order;
                    judged = λ L of. item_is L n v holds.node there of (follow L n st.0 (delivery seqno i) (Gave v) holds.node of st.1).answered;
                  },
                  st.2,
                );
          }

      pub delivered_judged : (j : Judged) (v : Verdict) → j.seqno ≡ seqno → j.item ≡ i → v ≡ j.verdict → seqno ≡ delivered (facts_of g old) + 1 → IsStep g old (delivery seqno i) (Gave v) new
          → Grown g old new (j ∷ [])
      delivered_judged j v at item judged next step =
          subst (λ (k : Judged). Grown g old new (k ∷ []))
          (ap (λ (n : ℕ). judged_as n i v) (sym at) ∙ ap (λ (i : Item). judged_as j.seqno i v) (sym item) ∙ ap (judged_as j.seqno j.item) judged)
          (delivered_one v next step)

      -- one that was refused

      refused_count : (r : Refusal) (n m : Node) (o : Option Refusal)
          → MatchOption o (((Refused r ≡ answer n.facts (delivery seqno i) (found n (delivery seqno i))) × (m ≡ moved n (delivery seqno i))) ⊎ (Fails n.facts (delivery seqno i) (Refused r) m.facts × (m ≡ record n { facts = m.facts }))) (λ q. (Refused r ≡ Refused q) × (m ≡ n))
          → delivered m.facts ≡ delivered n.facts
      refused_count r n m (Some q) st = ap (λ (k : Node). delivered k.facts) st.1
      refused_count r n m None (inl went) = let never = went.0 ∙ delivery_answer seqno n.facts i (found n (delivery seqno i)) in absurd cc
      refused_count r n m None (inr (failed, rest)) = failed_count n m (delivery seqno i) (Refused r) failed

      pub delivered_none : (r : Refusal) → IsStep g old (delivery seqno i) (Refused r) new → Grown g old new []
      delivered_none r step =
          let stays = move_stays (facts_of g old) (delivery seqno i) (Refused r) (facts_of g new) step.moves in
          record {
            uuid = stays.uuid;
            setting = stays.setting;
            count = omega (arith, stays.count);
            events = delivery seqno i ∷ [];
            answers = Refused r ∷ [];
            paired = refl;
            ran = joined.one_run old new (delivery seqno i) (Refused r) step;
            accepted = ap (λ (M : Order). M ++ []) (delivery_not_accepted seqno i r);
            node = λ n holds.
                let st = step.steps n holds in
                (st.0, grows_none n st.0 (refused_count r n st.0 (refusal n.facts (delivery seqno i)) st.1) (λ L of. subst (λ (M : Order). IsOf (L ++ M) st.0) (delivery_not_accepted seqno i r) (follow L n st.0 (delivery seqno i) (Refused r) holds.node of st.1).order), st.2);
          }

-- ---- why an item is refused that is the next one

not_nil : (uuid : List ℕ) → (IsNil uuid → ⊥) → (b : Bool) → is_nil_bytes uuid ≡ b → b ≡ false
not_nil uuid not true is = absurd (not ((bytes_eq-Decides uuid zero_bytes).0 is))
not_nil uuid not false is = refl

free_by : (uuid : List ℕ) (n seqno : ℕ) (js : List Judged) → is_nil_bytes uuid ≡ false → (n == MAX_SEQNO) ≡ false → (seqno == n + 1) ≡ true → nat_le MAX_AHEAD (length js) ≡ false
    → (if is_nil_bytes uuid then Some Undefined else if n == MAX_SEQNO then Some Exhausted else if not (seqno == n + 1) then Some (OutOfOrder (n + 1)) else if nat_le MAX_AHEAD (length js) then Some Backlogged else None) ≡ None
free_by uuid n seqno js nil most order few = rw nil (rw most (rw order (rw few refl)))

pub next_free : (s : Standing) (seqno : ℕ) (i : Item) → s.stopped ≡ false → (IsNil s.uuid → ⊥) → seqno ≡ delivered s + 1 → seqno ≤ MAX_SEQNO → length s.ahead < MAX_AHEAD → refusal s (delivery seqno i) ≡ None
next_free s seqno i running not next limit few =
    delivery_refused seqno s i ∙ ap (λ t. if t then Some Stopped else delivery_refusal s seqno) running
    ∙ free_by s.uuid (delivered s) seqno s.ahead (not_nil s.uuid not (is_nil_bytes s.uuid) refl) (grind (arith, nat_tests, next, limit)) (grind (arith, nat_tests, next)) (grind (arith, nat_tests, few))

-- a delivery is answered by a verdict or a refusal
pub delivery_answers : (s t : Standing) (seqno : ℕ) (i : Item) (a : Answer) → Moves s (delivery seqno i) a t → ((v : Verdict) × (a ≡ Gave v)) ⊎ ((r : Refusal) × (a ≡ Refused r))
delivery_answers s t seqno i a m = by (refusal s (delivery seqno i)) m
  where
    by : (o : Option Refusal) → MatchOption o (Outcome s (delivery seqno i) a t) (λ r. (a ≡ Refused r) × (t ≡ s)) → ((v : Verdict) × (a ≡ Gave v)) ⊎ ((r : Refusal) × (a ≡ Refused r))
    by (Some r) m = inr (r, m.0)
    by None (inl went) = inl (went.0.verdict, went.1 ∙ delivery_answer seqno s i went.0)
    by None (inr (inl (inl hungry))) = inr (OutOfMemory, hungry.1)
    by None (inr (inl (inr fault))) = inr (DiskFault, fault.1)
    by None (inr (inr corrupt)) = inr (Corrupt Pages, corrupt.1)

early_by : (s t : Standing) (seqno : ℕ) (i : Item) (e : Refusal) → s.stopped ≡ false → Outcome s (delivery seqno i) (Refused e) t → EndsEarly e × StopsBy e t
early_by s t seqno i e running (inl went) = let never = went.1 ∙ delivery_answer seqno s i went.0 in absurd cc
early_by s t seqno i e running (inr failed) = (by failed, failed_stops s (delivery seqno i) e t running failed)
  where
    by : Fails s (delivery seqno i) (Refused e) t ⊎ MeetsCorruption s (delivery seqno i) (Refused e) t → EndsEarly e
    by (inl (inl hungry)) = inl (same_refusal OutOfMemory e hungry.1)
    by (inl (inr fault)) = inr (inl (same_refusal DiskFault e fault.1))
    by (inr corrupt) = inr (inr (same_refusal (Corrupt Pages) e corrupt.1))

pub delivery_early : (s t : Standing) (seqno : ℕ) (i : Item) (e : Refusal) → s.stopped ≡ false → (IsNil s.uuid → ⊥) → seqno ≡ delivered s + 1 → seqno ≤ MAX_SEQNO → length s.ahead < MAX_AHEAD → Moves s (delivery seqno i) (Refused e) t → EndsEarly e × StopsBy e t
delivery_early s t seqno i e running not next limit few m =
    early_by s t seqno i e running
    (subst (λ (o : Option Refusal). MatchOption o (Outcome s (delivery seqno i) (Refused e) t) (λ r. (Refused e ≡ Refused r) × (t ≡ s)))
    (next_free s seqno i running not next limit few) m)

-- ---- why an item isn't the next one

module _ {D : Type 0} (g : Ghosts D) (r : Replica D) (j : Judged) (at : ℕ) where
  pub out_by_seqno : (n : ℕ) → n ≡ delivered (facts_of g r) → (j.seqno ≡ n + 1 → ⊥) → IsOut g r (Record j) at (Malformed at)
  out_by_seqno n here other = inr (refl, λ may. other (may.1.seqno ∙ ap (λ k. k + 1) (sym here)))

  pub out_by_verdict : (verdict_of r.certifier.current j.item ≡ j.verdict → ⊥) → IsOut g r (Record j) at (Malformed at)
  out_by_verdict other = inr (refl, λ may. other (sym may.1.verdict))

-- ---- by which verdict it is answered

pub judged_is : (h : Holding) (seqno : ℕ) (i : Item) (v : Verdict) → IsJudgedBy h (delivery seqno i) (Gave v) → v ≡ verdict_of h i
judged_is h seqno (WriteSet w) v is = is
judged_is h seqno (OfChange c) v is = is
