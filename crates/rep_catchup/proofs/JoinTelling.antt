-- What a refusal tells of the device, part by part.
use Rattle.std.proofs.Common.{◌≡◌, ◌⊎◌, inl, inr, ℕ, ◌+◌, ◌≤◌, ◌<◌, true, false, List, [], ◌∷◌, ◌++◌, length, Option, None, Some, Result, Ok, Err, refl, sym, ap, subst, ◌∙◌}
use Rattle.std.specs.Prelude.{◌≢◌, IsOk, IfErr, MatchOption}
use Rattle.rep_types.specs.declared.refusal.Refusal.{Refusal}
use Rattle.rep_types.specs.declared.refusal.Refusal.TheVariants.{Stopped, NotDue, LogFull, OutOfMemory, DiskFault, Corrupt, Malformed, StreamFault, WrongCluster}
use Rattle.rep_types.specs.declared.refusal.Part.{Part}
use Rattle.rep_types.specs.declared.refusal.Part.TheVariants.{Pages}
use Rattle.rep_types.specs.declared.judged.Judged.{Judged}
use Rattle.rep_types.specs.declared.verdict.Verdict.{Verdict}
use Rattle.rep_types.specs.declared.limits.TheConstants.{MAX_SEQNO, MAX_AHEAD}
use Rattle.rep_types.specs.declared.item.Item.{Item}
use Rattle.rep_disk.specs.declared.disk.Disk.{Ghosts}
use Rattle.rep_layout.specs.declared.format.Format.{Format}
use Rattle.rep_layout.specs.Supers.{IsNil}
use Rattle.rep_log.specs.Moves.{fault_of}
use Rattle.rep_steps.specs.declared.event.Event.{Event}
use Rattle.rep_steps.specs.Events.{delivery}
use Rattle.rep_steps.specs.Deliveries.{delivery_answer, delivery_reads_nothing}
use Rattle.rep_steps.specs.declared.answer.Answer.{Answer}
use Rattle.rep_steps.specs.declared.answer.Answer.TheVariants.{Gave, Refused}
use Rattle.rep_steps.specs.Standings.{Standing, delivered, refusal, refusal_here}
use Rattle.rep_steps.specs.Moves.{Moves, Fails, MeetsCorruption, answer}
use Rattle.rep_steps.specs.Nodes.{Node, Steps, moved, found}
use Rattle.rep_steps.specs.FactLaws.{move_serves}
use Rattle.rep_steps.specs.Runs.{Runs}
use Rattle.rep_replica.specs.Replicas.{Replica, facts_of}
use Rattle.rep_replica.specs.Refusing.{IsFaultToldBy, TellsFaults}
use Rattle.rep_replica.specs.Holding.{Holds}
use Rattle.rep_replica.specs.SettlingLaws.{settling_serves, done_is_none}
use Rattle.rep_replica.specs.Settling.{IsDue, IsOwn, AreOwn, AreDone, Works}
use Rattle.rep_catchup.specs.Growing.{Grown, IsToldBy, Tells}
use Rattle.rep_catchup.specs.Joining.{RefusesHeader}
use Rattle.rep_catchup.specs.Snapshots.{BringsEarly}
use Rattle.rep_catchup.proofs.JoinGrowing.{Outcome, same_refusal, answers_none, memory_is_none, corrupt_is_none, if_other, here_other, next_free}

-- ---- which refusal is which

stream_is_none : StreamFault ≢ DiskFault
stream_is_none is = cc

malformed_is_none : (at : ℕ) → Malformed at ≢ DiskFault
malformed_is_none at is = cc

wrong_is_none : WrongCluster ≢ DiskFault
wrong_is_none is = cc

pub stopped_is_none : Stopped ≢ DiskFault
stopped_is_none is = cc

fault_is_whole : (part : Part) → DiskFault ≢ Corrupt part
fault_is_whole part is = cc

memory_is_whole : (part : Part) → OutOfMemory ≢ Corrupt part
memory_is_whole part is = cc

stream_is_whole : (part : Part) → StreamFault ≢ Corrupt part
stream_is_whole part is = cc

malformed_is_whole : (at : ℕ) (part : Part) → Malformed at ≢ Corrupt part
malformed_is_whole at part is = cc

wrong_is_whole : (part : Part) → WrongCluster ≢ Corrupt part
wrong_is_whole part is = cc

stopped_is_whole : (part : Part) → Stopped ≢ Corrupt part
stopped_is_whole part is = cc

not_due_is_whole : (part : Part) → NotDue ≢ Corrupt part
not_due_is_whole part is = cc

full_is_whole : (part : Part) → LogFull ≢ Corrupt part
full_is_whole part is = cc

not_due_is_none : NotDue ≢ DiskFault
not_due_is_none is = cc

full_is_none : LogFull ≢ DiskFault
full_is_none is = cc

pub told_of_none : (old new : ℕ) (e : Refusal) → e ≢ DiskFault → new ≡ old → IsFaultToldBy old new e
told_of_none old new e other same = record { fault = λ is. absurd (other is); no_fault = λ not. same }

-- none but those that tell of a part, a full log, or a stop are found before a step of its own
own_refusal : (x : Refusal) → (NotDue ≡ x → ⊥) → (LogFull ≡ x → ⊥) → (Stopped ≡ x → ⊥) → (s : Standing) (e : Event) → IsOwn e → refusal s e ≡ Some x → ⊥
own_refusal x not_due not_full not_stopped s e own is = if_other x not_due not_full s.stopped Stopped (refusal_here s e) not_stopped (here_other x not_due not_full s e own) is

-- ---- steps of its own

-- one that failed tells of the device exactly where that did
failed_tells : (s : Standing) (e : Event) (r : Refusal) (t : Standing) → Fails s e (Refused r) t ⊎ MeetsCorruption s e (Refused r) t → IsFaultToldBy s.failures t.failures r
failed_tells s e r t (inl (inl hungry)) = subst (IsFaultToldBy s.failures t.failures) (sym (same_refusal OutOfMemory r hungry.1)) (told_of_none s.failures t.failures OutOfMemory memory_is_none (ap (λ (u : Standing). u.failures) hungry.2))
failed_tells s e r t (inl (inr fault)) = record { fault = λ is. fault.2; no_fault = λ not. absurd (not (same_refusal DiskFault r fault.1)) }
failed_tells s e r t (inr corrupt) = subst (IsFaultToldBy s.failures t.failures) (sym (same_refusal (Corrupt Pages) r corrupt.1)) (told_of_none s.failures t.failures (Corrupt Pages) corrupt_is_none (ap (λ (u : Standing). u.failures) corrupt.2))

last_tells : (s : Standing) (e : Event) (r : Refusal) (t : Standing) → IsOwn e → (o : Option Refusal) → refusal s e ≡ o → MatchOption o (Outcome s e (Refused r) t) (λ q. (Refused r ≡ Refused q) × (t ≡ s)) → IsFaultToldBy s.failures t.failures r
last_tells s e r t own (Some q) is m =
    let same : r ≡ q = same_refusal q r m.0 in
    told_of_none s.failures t.failures r (λ fault. own_refusal DiskFault not_due_is_none full_is_none stopped_is_none s e own (is ∙ ap Some (sym same ∙ fault))) (ap (λ (u : Standing). u.failures) m.1)
last_tells s e r t own None is (inl went) = absurd (answers_none r s e went.0 own went.1)
last_tells s e r t own None is (inr failed) = failed_tells s e r t failed

runs_tell : (r : Refusal) (done : List Answer) (events : List Event) (s t : Standing) → AreOwn events → AreDone done → Runs IsDue s events (done ++ Refused r ∷ []) t → IsFaultToldBy s.failures t.failures r
runs_tell r [] [] s t own are run = absurd run
runs_tell r [] (e ∷ []) s t own are run = subst (λ (u : Standing). IsFaultToldBy s.failures u.failures r) run.2 (last_tells s e r run.0 own.0 (refusal s e) refl run.1.1)
runs_tell r [] (e ∷ (f ∷ events)) s t own are run = absurd run.2
runs_tell r (a ∷ done) [] s t own are run = absurd run
runs_tell r (a ∷ done) (e ∷ events) s t own are run = subst (λ (k : ℕ). IsFaultToldBy k t.failures r) (move_serves s e a run.0 (done_is_none a are.0) run.1.1).failures (runs_tell r done events run.0 t own.1 are.1 run.2)

-- ---- steps of its own at a node: none meets a page that is not of its form

last_is_whole : (part : Part) (n : Node) (e : Event) (r : Refusal) (m : Node) → IsOwn e → r ≡ Corrupt part → (o : Option Refusal) → refusal n.facts e ≡ o
    → MatchOption o (((Refused r ≡ answer n.facts e (found n e)) × (m ≡ moved n e)) ⊎ (Fails n.facts e (Refused r) m.facts × (m ≡ record n { facts = m.facts }))) (λ q. (Refused r ≡ Refused q) × (m ≡ n)) → ⊥
last_is_whole part n e r m own is (Some q) here st = own_refusal (Corrupt part) (not_due_is_whole part) (full_is_whole part) (stopped_is_whole part) n.facts e own (here ∙ ap Some (sym (same_refusal q r st.0) ∙ is))
last_is_whole part n e r m own is None here (inl went) = answers_none r n.facts e (found n e) own went.0
last_is_whole part n e r m own is None here (inr (inl hungry, rest)) = memory_is_whole part (sym (same_refusal OutOfMemory r hungry.1) ∙ is)
last_is_whole part n e r m own is None here (inr (inr fault, rest)) = fault_is_whole part (sym (same_refusal DiskFault r fault.1) ∙ is)

runs_are_whole : (part : Part) (r : Refusal) (done : List Answer) (events : List Event) (n m : Node) → AreOwn events → r ≡ Corrupt part → Runs Steps n events (done ++ Refused r ∷ []) m → ⊥
runs_are_whole part r [] [] n m own is run = run
runs_are_whole part r [] (e ∷ []) n m own is run = last_is_whole part n e r run.0 own.0 is (refusal n.facts e) refl run.1
runs_are_whole part r [] (e ∷ (f ∷ events)) n m own is run = run.2
runs_are_whole part r (a ∷ done) [] n m own is run = run
runs_are_whole part r (a ∷ done) (e ∷ events) n m own is run = runs_are_whole part r done events run.0 m own.1 is run.2

-- ---- an item that is delivered

pub gave_tells : (s t : Standing) (seqno : ℕ) (i : Item) (v : Verdict) → Moves s (delivery seqno i) (Gave v) t → t.failures ≡ s.failures
gave_tells s t seqno i v m = (move_serves s (delivery seqno i) (Gave v) t (done_is_none (Gave v) refl) m).failures

-- it reads no page
delivery_is_whole : (s t : Standing) (seqno : ℕ) (i : Item) (e : Refusal) (part : Part) → Outcome s (delivery seqno i) (Refused e) t → e ≢ Corrupt part
delivery_is_whole s t seqno i e part (inl went) is = let never = went.1 ∙ delivery_answer seqno s i went.0 in absurd cc
delivery_is_whole s t seqno i e part (inr (inl (inl hungry))) is = memory_is_whole part (sym (same_refusal OutOfMemory e hungry.1) ∙ is)
delivery_is_whole s t seqno i e part (inr (inl (inr fault))) is = fault_is_whole part (sym (same_refusal DiskFault e fault.1) ∙ is)
delivery_is_whole s t seqno i e part (inr (inr corrupt)) is = let never : false ≡ true = sym (delivery_reads_nothing seqno i) ∙ corrupt.0 in cc

delivery_tells : (s t : Standing) (seqno : ℕ) (i : Item) (e : Refusal) → Outcome s (delivery seqno i) (Refused e) t → IsFaultToldBy s.failures t.failures e
delivery_tells s t seqno i e (inl went) = let never = went.1 ∙ delivery_answer seqno s i went.0 in absurd cc
delivery_tells s t seqno i e (inr failed) = failed_tells s (delivery seqno i) e t failed

-- ---- of a replica

module _ {D : Type 0} (g : Ghosts D) where
  -- nothing was asked of the device, and something else is told
  pub tells_none : (old new : Replica D) (e : Refusal) → e ≢ DiskFault → ((part : Part) → e ≢ Corrupt part) → g.failures new.engine.disk ≡ g.failures old.engine.disk → IsToldBy g old new e
  tells_none old new e other whole same = record { faults = told_of_none (g.failures old.engine.disk) (g.failures new.engine.disk) e other same; corrupt = λ is. absurd (whole Pages is); whole = λ n holds part. whole part }

  pub tells_malformed : (r : Replica D) (at : ℕ) → IsToldBy g r r (Malformed at)
  tells_malformed r at = tells_none r r (Malformed at) (malformed_is_none at) (malformed_is_whole at) refl

  pub tells_stream : (r : Replica D) (e : Refusal) → e ≡ StreamFault → IsToldBy g r r e
  tells_stream r e is = tells_none r r e (λ fault. stream_is_none (sym is ∙ fault)) (λ part corrupt. stream_is_whole part (sym is ∙ corrupt)) refl

  pub tells_stopped : (r : Replica D) → IsToldBy g r r Stopped
  tells_stopped r = tells_none r r Stopped stopped_is_none stopped_is_whole refl

  pub tells_header : (r : Replica D) (before : Option (List ℕ)) (e : Refusal) → RefusesHeader (facts_of g r) before e → IsToldBy g r r e
  tells_header r before e (inl stream) = tells_stream r e stream
  tells_header r before e (inr (inl malformed)) = subst (IsToldBy g r r) (sym malformed.0) (tells_malformed r 0)
  tells_header r before e (inr (inr wrong)) = subst (IsToldBy g r r) (sym wrong.0) (tells_none r r WrongCluster wrong_is_none wrong_is_whole refl)

  -- what is told behind what was done
  pub told_then : (a b c : Replica D) (e : Refusal) → g.failures b.engine.disk ≡ g.failures a.engine.disk → ((n : Node) → Holds g n a → (m : Node) × Holds g m b) → IsToldBy g b c e → IsToldBy g a c e
  told_then a b c e same goes told = record {
    faults = subst (λ (k : ℕ). IsFaultToldBy k (g.failures c.engine.disk) e) same told.faults;
    corrupt = told.corrupt;
    whole = λ n holds part. let on = goes n holds in told.whole on.0 on.1 part;
  }

  pub tells_then : {T : Type 0} (a b c : Replica D) (result : Result T Refusal) → g.failures b.engine.disk ≡ g.failures a.engine.disk → ((n : Node) → Holds g n a → (m : Node) × Holds g m b) → Tells g b c result → Tells g a c result
  tells_then a b c (Ok x) same goes told = told ∙ same
  tells_then a b c (Err e) same goes told = told_then a b c e same goes told

  -- where it grew it stands for a node still
  pub grown_goes : (a b : Replica D) (records : List Judged) → Grown g a b records → (n : Node) → Holds g n a → (m : Node) × Holds g m b
  grown_goes a b records grown n holds = let on = grown.node n holds in (on.0, on.2)

  -- ---- it settles

  pub settled_tells : (old new : Replica D) (result : Result (Unit {0}) Refusal) → Works g old new result → Tells g old new result
  settled_tells old new (Ok x) w = (settling_serves w.events w.answers (facts_of g old) (facts_of g new) w.ends w.moves).failures
  settled_tells old new (Err e) w = record {
    faults = runs_tell e w.ends.0 w.events (facts_of g old) (facts_of g new) w.own w.ends.1 (subst (λ (answers : List Answer). Runs IsDue (facts_of g old) w.events answers (facts_of g new)) w.ends.2 w.moves);
    corrupt = λ is. w.corrupt (ap Err is);
    whole = λ n holds part is.
        let ran = w.ran n holds in
        runs_are_whole part e w.ends.0 w.events n ran.0 w.own is (subst (λ (answers : List Answer). Runs Steps n w.events answers ran.0) w.ends.2 ran.1.runs);
  }

  -- ---- an item is refused

  pub delivery_told : (old new : Replica D) (seqno : ℕ) (i : Item) (e : Refusal) → (facts_of g old).stopped ≡ false → (IsNil (facts_of g old).uuid → ⊥) → seqno ≡ delivered (facts_of g old) + 1 → seqno ≤ MAX_SEQNO
      → length (facts_of g old).ahead < MAX_AHEAD → Moves (facts_of g old) (delivery seqno i) (Refused e) (facts_of g new) → IsToldBy g old new e
  delivery_told old new seqno i e running not next limit few m =
      let s = facts_of g old in
      let t = facts_of g new in
      let here : Outcome s (delivery seqno i) (Refused e) t =
      subst (λ (o : Option Refusal). MatchOption o (Outcome s (delivery seqno i) (Refused e) t) (λ r. (Refused e ≡ Refused r) × (t ≡ s))) (next_free s seqno i running not next limit few) m in
      record { faults = delivery_tells s t seqno i e here; corrupt = λ is. absurd (delivery_is_whole s t seqno i e Pages here is); whole = λ n holds part. delivery_is_whole s t seqno i e part here }

  -- ---- a snapshot is brought

  bring_is_whole : (format : Format) (s : Standing) (position at : ℕ) (before : Option (List ℕ)) (e : Refusal) (part : Part) → BringsEarly format s position at before e → e ≢ Corrupt part
  bring_is_whole format s position at before e part (inl stream) is = stream_is_whole part (sym stream ∙ is)
  bring_is_whole format s position at before e part (inr (inl memory)) is = memory_is_whole part (sym memory ∙ is)
  bring_is_whole format s position at before e part (inr (inr (inl fault))) is = fault_is_whole part (sym fault ∙ is)
  bring_is_whole format s position at before e part (inr (inr (inr malformed))) is = malformed_is_whole at part (sym malformed.0 ∙ is)

  pub bring_told : (old new : Replica D) (format : Format) (position at : ℕ) (before : Option (List ℕ)) (result : Result (Unit {0}) Refusal) (e : Refusal) → result ≡ Err e → TellsFaults (g.failures old.engine.disk) (g.failures new.engine.disk) result
      → IfErr result (BringsEarly format (facts_of g old) position at before) → IsToldBy g old new e
  bring_told old new format position at before result e is told early =
      let here : IsFaultToldBy (g.failures old.engine.disk) (g.failures new.engine.disk) e = subst (λ (r : Result (Unit {0}) Refusal). TellsFaults (g.failures old.engine.disk) (g.failures new.engine.disk) r) is told in
      let why : BringsEarly format (facts_of g old) position at before e = subst (λ (r : Result (Unit {0}) Refusal). IfErr r (BringsEarly format (facts_of g old) position at before)) is early in
      record { faults = here; corrupt = λ is. absurd (bring_is_whole format (facts_of g old) position at before e Pages why is); whole = λ n holds part. bring_is_whole format (facts_of g old) position at before e part why }

  pub brought_same : (old new : Replica D) (result : Result (Unit {0}) Refusal) (x : Unit {0}) → result ≡ Ok x → TellsFaults (g.failures old.engine.disk) (g.failures new.engine.disk) result → g.failures new.engine.disk ≡ g.failures old.engine.disk
  brought_same old new result x is told = subst (λ (r : Result (Unit {0}) Refusal). TellsFaults (g.failures old.engine.disk) (g.failures new.engine.disk) r) is told

-- ---- what is told, by the counts of failures alone

pub told_behind : (old mid new : ℕ) (result : Result (Unit {0}) Refusal) → mid ≡ old → TellsFaults mid new result → TellsFaults old new result
told_behind old mid new result same told = subst (λ (k : ℕ). TellsFaults k new result) same told

pub told_between : (old first last new : ℕ) (e : Refusal) → first ≡ old → new ≡ last → IsFaultToldBy first last e → IsFaultToldBy old new e
told_between old first last new e same back told = subst (λ (k : ℕ). IsFaultToldBy k new e) same (subst (λ (k : ℕ). IsFaultToldBy first k e) (sym back) told)

pub told_of_stream : (old new : ℕ) (e : Refusal) → e ≡ StreamFault → new ≡ old → IsFaultToldBy old new e
told_of_stream old new e is same = told_of_none old new e (λ fault. stream_is_none (sym is ∙ fault)) same

pub told_of_malformed : (old new at : ℕ) → new ≡ old → IsFaultToldBy old new (Malformed at)
told_of_malformed old new at same = told_of_none old new (Malformed at) (malformed_is_none at) same

pub put_same : (result : Result (Unit {0}) Refusal) (x : Unit {0}) {P : Type 0} → result ≡ Ok x → (IsOk (fault_of result) → P) → P
put_same result x {P} is same = same (subst (λ (r : Result (Unit {0}) Refusal). IsOk (fault_of r)) (sym is) refl)

pub install_told : {S : Type 0} (old new : ℕ) (e : Refusal) → new ≡ old → ((e ≡ Stopped) × S) ⊎ (e ≡ OutOfMemory) → IsFaultToldBy old new e
install_told old new e same (inl stopped) = told_of_none old new e (λ fault. stopped_is_none (sym stopped.0 ∙ fault)) same
install_told old new e same (inr memory) = told_of_none old new e (λ fault. memory_is_none (sym memory ∙ fault)) same

pub window_told : {S : Type 0} (old at : ℕ) (e : Refusal) → (e ≡ StreamFault) ⊎ ((e ≡ OutOfMemory) ⊎ ((e ≡ Malformed at) × S)) → IsFaultToldBy old old e
window_told old at e (inl stream) = told_of_stream old old e stream refl
window_told old at e (inr (inl memory)) = told_of_none old old e (λ fault. memory_is_none (sym memory ∙ fault)) refl
window_told old at e (inr (inr malformed)) = told_of_none old old e (λ fault. malformed_is_none at (sym malformed.0 ∙ fault)) refl
