-- How far the running of a script has come, and how it ends.
use Rattle.std.proofs.Common.{◌≡◌, ℕ, ◌+◌, ◌^◌, true, false, cond, List, [], ◌∷◌, ◌++◌, length, take, drop, Option, None, Some, Result, Ok, Err, IfSome, refl, sym, ap, subst, ◌∙◌, arith, append_assoc, append-nil, inl, inr}
use Rattle.std.specs.Prelude.{◌⊎◌, IfErr, IsSomeAnd, codes}
use Rattle.std.proofs.lemmas.List.{take_all}
use Rattle.std.proofs.Math.Seq.{take-append_seam}
use Rattle.rep_types.specs.declared.refusal.Refusal.{Refusal}
use Rattle.rep_types.specs.declared.refusal.Refusal.TheVariants.{StreamFault, Malformed}
use Rattle.rep_types.specs.Settings.{Setting}
use Rattle.rep_types.proofs.Choices.{some_by_each, renewed, not_renewed}
use Rattle.rep_types.specs.Transactions.{Renews}
use Rattle.rep_types.specs.declared.item.Item.{Item}
use Rattle.rep_steps.specs.declared.answer.Answer.{Answer}
use Rattle.rep_steps.specs.Events.{delivery}
use Rattle.rep_catchup.specs.Holding.{IsStep}
use Rattle.rep_disk.specs.declared.disk.Disk.{Ghosts}
use Rattle.rep_disk.specs.declared.memory.Loss.{Loss}
use Rattle.rep_disk.specs.History.{stable}
use Rattle.rep_disk.specs.Memory.{Memory}
use Rattle.rep_record.specs.Words.{is_blank, words}
use Rattle.rep_record.specs.Lines.{Unread, ahead, NextLine}
use Rattle.rep_catchup.specs.Replicas.{Replica}
use Rattle.rep_script.specs.declared.script_line.Command.{Command}
use Rattle.rep_script.specs.declared.script_line.Command.TheVariants.{Step, State, Limits, Sum, Stop}
use Rattle.rep_record.specs.Reading.{order_line, is_next, next, number_in, outcome}
use Rattle.rep_script.specs.ScriptLines.{script_line, delivered, delivery_of, whole_in}
use Rattle.rep_script.specs.Judging.{Reading, reading_of, said_ahead, text_ahead, with_line, content, ReadsParams}
use Rattle.rep_script.specs.Scripts.{script, script_on_disk, disk_line, unless_stop, IsOpening, EndsBehind, EndsOnDisk, OnNewDisk, Stops, EndsAtFault, FailsAtStop, ScriptEnds, RunEnds, Did, Does, DoesOrStops, RunsLine, RunsDiskLine}
use Rattle.rep_script.proofs.Stepping.{said_end, said_refused, said_step}
use Rattle.rep_script.proofs.Progress.{at_start}

-- these commands, and then what is said
abbrev pub done_then : List Command → List Command × Option Refusal → List Command × Option Refusal
done_then done said = (done ++ said.0, said.1)

-- Of this text, which was ahead at the start, some commands were done, and the rest is ahead.
pub record HasRun {X : Type 0} (does : X → Command → X → Type 0) (read : ℕ → List ℕ → Result Command Refusal) (text : List ℕ) (first : Unread) (old : X) (u : Unread) (left : Option (List ℕ)) (new : X) : Type 0 where
  pub done : List Command
  pub said : IsSomeAnd left (λ rest. said_ahead read first text ≡ done_then done (said_ahead read u rest))
  pub did : Did does old done new

-- what a line that is not refused does
abbrev pub RanLine : {X : Type 0} → (X → Command → X → Type 0) → X → Option (Result Command Refusal) → X → Type 0
RanLine does old None new = new ≡ old
RanLine does old (Some (Ok c)) new = does old c new
RanLine does old (Some (Err e)) new = ⊥

-- what a line does that ends a script
abbrev pub LineFails : {X : Type 0} → (X → Command → X → Type 0) → X → Option (Result Command Refusal) → Refusal → X → Type 0
LineFails does old None refusal new = ⊥
LineFails does old (Some (Ok c)) refusal new = does old c new × (refusal ≡ StreamFault)
LineFails does old (Some (Err e)) refusal new = (refusal ≡ e) × (new ≡ old)

-- one more command
pub did_more : {X : Type 0} (does : X → Command → X → Type 0) (old mid new : X) (done : List Command) (c : Command) → Did does old done mid → does mid c new → Did does old (done ++ c ∷ []) new
did_more does old mid new [] c did step = (new, subst (λ x. does x c new) did step, refl)
did_more does old mid new (d ∷ done) c (m, first, did) step = (m, first, did_more does m mid new done c did step)

-- the text's first fault, whichever it is, ends the running
pub run_ends_at_fault : {X : Type 0} (does : X → Command → X → Type 0) (asked : List Command × Option Refusal) (old new : X) (refusal : Refusal) → asked.1 ≡ Some refusal → Did does old asked.0 new →
    RunEnds does asked old (Err refusal) new
run_ends_at_fault does asked old new refusal fault did =
    elim refusal as (λ e. asked.1 ≡ Some e → RunEnds does asked old (Err e) new) [
      | StreamFault ↦ λ _. (length asked.0, rw (take_all (length asked.0) asked.0 (omega arith)) did)
      | _ ↦ λ e. (e, did)
    ] fault

-- a stream that fails behind some commands
pub run_ends_early : {X : Type 0} (does : X → Command → X → Type 0) (done later : List Command) (fault : Option Refusal) (old new : X) → Did does old done new →
    RunEnds does (done ++ later, fault) old (Err StreamFault) new
run_ends_early does done later fault old new did = (length done, rw (take-append_seam done later) did)

-- a call of next_line that refuses ends the running
refused_ends : {X : Type 0} (does : X → Command → X → Type 0) (read : ℕ → List ℕ → Result Command Refusal) (text : List ℕ) (left left' : Option (List ℕ)) (first u new : Unread) (old r : X) (refusal : Refusal) (line : List ℕ) →
    HasRun does read text first old u (ahead u left) r → IfSome left (λ known. NextLine (u.pending ++ known) u (Err refusal) new left' line) →
    RunEnds does (said_ahead read first text) old (Err refusal) r
refused_ends does read text None left' first u new old r refusal line h next = absurd h.said
refused_ends does read text (Some known) left' first u new old r refusal line h next =
    elim refusal as (λ e. NextLine (u.pending ++ known) u (Err e) new left' line → RunEnds does (said_ahead read first text) old (Err e) r) [
      | StreamFault ↦ λ _. rw h.said (run_ends_early does h.done (said_ahead read u (u.pending ++ known)).0 (said_ahead read u (u.pending ++ known)).1 old r h.did)
      | Malformed at ↦ λ is. rw (h.said, said_refused read (u.pending ++ known) u (Malformed at) is) (refl, rw append-nil h.did)
      | _ ↦ λ never. absurd never
    ] next

pub run_refused : {X : Type 0} (does : X → Command → X → Type 0) (read : ℕ → List ℕ → Result Command Refusal) (start left left' : Option (List ℕ)) (first u new : Unread) (old r : X) (refusal : Refusal) (line : List ℕ) →
    IfSome start (λ text. HasRun does read text first old u (ahead u left) r) → IfSome left (λ known. NextLine (u.pending ++ known) u (Err refusal) new left' line) →
    IfSome start (λ text. RunEnds does (said_ahead read first text) old (Err refusal) r)
run_refused does read None left left' first u new old r refusal line h next = tt
run_refused does read (Some text) left left' first u new old r refusal line h next = refused_ends does read text left left' first u new old r refusal line h next

-- the end of the text ends the running
pub run_all : {X : Type 0} (does : X → Command → X → Type 0) (read : ℕ → List ℕ → Result Command Refusal) (start left left' : Option (List ℕ)) (first u new : Unread) (old r : X) (line : List ℕ) →
    IfSome start (λ text. HasRun does read text first old u (ahead u left) r) → IfSome left (λ known. NextLine (u.pending ++ known) u (Ok false) new left' line) →
    IfSome start (λ text. RunEnds does (said_ahead read first text) old (Ok tt) r)
run_all does read None left left' first u new old r line h next = tt
run_all does read (Some text) None left' first u new old r line h next = absurd h.said
run_all does read (Some text) (Some known) left' first u new old r line h next =
    rw (h.said, next.none, said_end read u) (refl, rw append-nil h.did)

-- what one line leads to, by what it says
content_more : {X : Type 0} (does : X → Command → X → Type 0) (read : ℕ → List ℕ → Result Command Refusal) (text : List ℕ) (left' : Option (List ℕ)) (rest : List ℕ) (first new : Unread) (old r r' : X) (done : List Command) (c : Option (Result Command Refusal)) →
    said_ahead read first text ≡ done_then done (with_line c (said_ahead read new rest)) → ahead new left' ≡ Some rest → Did does old done r → RanLine does r c r' →
    HasRun does read text first old new (ahead new left') r'
content_more does read text left' rest first new old r r' done None said ahead_is did same = record {
  done = done;
  said = rw ahead_is said;
  did = rw same did;
}
content_more does read text left' rest first new old r r' done (Some (Ok c)) said ahead_is did step = record {
  done = done ++ c ∷ [];
  said = rw ahead_is (said ∙ ap (λ commands. (commands, (said_ahead read new rest).1)) (sym (append_assoc done (c ∷ []) (said_ahead read new rest).0)));
  did = did_more does old r r' done c did step;
}
content_more does read text left' rest first new old r r' done (Some (Err e)) said ahead_is did never = absurd never

-- one more line was run
pub run_more : {X : Type 0} (does : X → Command → X → Type 0) (read : ℕ → List ℕ → Result Command Refusal) (start left left' : Option (List ℕ)) (first u new : Unread) (old r r' : X) (line : List ℕ) →
    IfSome start (λ text. HasRun does read text first old u (ahead u left) r) → IfSome left (λ known. NextLine (u.pending ++ known) u (Ok true) new left' line) → new.number ≡ u.number + 1 →
    RanLine does r (content read new.number line) r' → IfSome start (λ text. HasRun does read text first old new (ahead new left') r')
run_more does read None left left' first u new old r r' line h next numbered ran = tt
run_more does read (Some text) None left' first u new old r r' line h next numbered ran = absurd h.said
run_more does read (Some text) (Some known) left' first u new old r r' line h next numbered ran =
    content_more does read text left' next.rest first new old r r' h.done (content read new.number line)
    (h.said ∙ ap (done_then h.done) (said_step read (u.pending ++ known) u new left' line next numbered)) next.ahead_is h.did ran

-- how a line ends the running, by what it says
content_ends : {X : Type 0} (does : X → Command → X → Type 0) (asked later : List Command × Option Refusal) (old r r' : X) (done : List Command) (c : Option (Result Command Refusal)) (refusal : Refusal) →
    asked ≡ done_then done (with_line c later) → Did does old done r → LineFails does r c refusal r' → RunEnds does asked old (Err refusal) r'
content_ends does asked later old r r' done None refusal said did never = absurd never
content_ends does asked later old r r' done (Some (Err e)) refusal said did (is, same) =
    subst (λ now. RunEnds does asked old (Err refusal) now) (sym same)
    (subst (λ said. RunEnds does said old (Err refusal) r) (sym said) (run_ends_at_fault does (done ++ [], Some e) old r refusal (ap Some (sym is)) (rw append-nil did)))
content_ends does asked later old r r' done (Some (Ok c)) refusal said did (step, is) =
    let more : asked ≡ ((done ++ c ∷ []) ++ later.0, later.1) = said ∙ ap (λ commands. (commands, later.1)) (sym (append_assoc done (c ∷ []) later.0)) in
    let early = run_ends_early does (done ++ c ∷ []) later.0 later.1 old r' (did_more does old r r' done c did step) in
    subst (λ e. RunEnds does asked old (Err e) r') (sym is) (subst (λ said. RunEnds does said old (Err StreamFault) r') (sym more) early)

-- a line that is refused, or whose answer could not be written, ends the running
pub run_line_ends : {X : Type 0} (does : X → Command → X → Type 0) (read : ℕ → List ℕ → Result Command Refusal) (start left left' : Option (List ℕ)) (first u new : Unread) (old r r' : X) (refusal : Refusal) (line : List ℕ) →
    IfSome start (λ text. HasRun does read text first old u (ahead u left) r) → IfSome left (λ known. NextLine (u.pending ++ known) u (Ok true) new left' line) → new.number ≡ u.number + 1 →
    LineFails does r (content read new.number line) refusal r' → IfSome start (λ text. RunEnds does (said_ahead read first text) old (Err refusal) r')
run_line_ends does read None left left' first u new old r r' refusal line h next numbered fails = tt
run_line_ends does read (Some text) None left' first u new old r r' refusal line h next numbered fails = absurd h.said
run_line_ends does read (Some text) (Some known) left' first u new old r r' refusal line h next numbered fails =
    content_ends does (said_ahead read first text) (said_ahead read new next.rest) old r r' h.done (content read new.number line) refusal
    (h.said ∙ ap (done_then h.done) (said_step read (u.pending ++ known) u new left' line next numbered)) h.did fails

-- ---- answers of a call that exclude one another

ok_is_no_err : {A P : Type 0} (x : A) (refusal : Refusal) → let r : Result A Refusal = Ok x in r ≡ Err refusal → P
ok_is_no_err x refusal is = cc

err_is_no_ok : {A P : Type 0} (refusal : Refusal) (x : A) → let r : Result A Refusal = Err refusal in r ≡ Ok x → P
err_is_no_ok refusal x is = cc

same_err : {A : Type 0} (e f : Refusal) → let r : Result A Refusal = Err e in r ≡ Err f → e ≡ f
same_err e f is = cc

none_is_no_stop : {P : Type 0} (loss : Loss) → let r : Result (Option Loss) Refusal = Ok None in r ≡ Ok (Some loss) → P
none_is_no_stop loss is = cc

some_is_not_none : {P : Type 0} (loss : Loss) → let asked : Option Loss = Some loss in asked ≡ None → P
some_is_not_none loss is = cc

same_stop : (loss l : Loss) → let r : Result (Option Loss) Refusal = Ok (Some loss) in r ≡ Ok (Some l) → let c : Option (Result Command Refusal) = Some (Ok (Stop l)) in c ≡ Some (Ok (Stop loss))
same_stop loss l is = cc

-- ---- on a disk

pub ran_on_disk : {D : Type 0} (g : Ghosts D) (old new : Replica D) (c : Option (Result Command Refusal)) →
    RunsDiskLine g old c (Ok tt) new → RanLine (Does g) old c new
ran_on_disk g old new None ran = ran.1
ran_on_disk g old new (Some (Ok c)) ran = ran.0
ran_on_disk g old new (Some (Err e)) ran = ok_is_no_err tt e ran.0

pub failed_on_disk : {D : Type 0} (g : Ghosts D) (old new : Replica D) (c : Option (Result Command Refusal)) (refusal : Refusal) →
    RunsDiskLine g old c (Err refusal) new → LineFails (Does g) old c refusal new
failed_on_disk g old new None refusal ran = err_is_no_ok refusal tt ran.0
failed_on_disk g old new (Some (Ok c)) refusal ran = ran
failed_on_disk g old new (Some (Err e)) refusal ran = (same_err {A = Unit {0}} refusal e ran.0, ran.1)

-- what a line of a script on a disk says, from what it says in any script
abbrev pub on_disk : ℕ → Option (Result Command Refusal) → Option (Result Command Refusal)
on_disk number None = None
on_disk number (Some r) = Some (unless_stop number r)

pub content_on_disk : (number : ℕ) (line : List ℕ) → content disk_line number line ≡ on_disk number (content script_line number line)
content_on_disk number line =
    elim (is_blank line) as (λ blank. cond blank None (Some (disk_line number line)) ≡ on_disk number (cond blank None (Some (script_line number line)))) [ true ↦ refl | false ↦ refl ]

-- a line that is refused, or whose answer could not be written, is so on a disk
pub fails_on_disk : {D : Type 0} (g : Ghosts D) (old new : Replica D) (number : ℕ) (c : Option (Result Command Refusal)) (result : Result (Unit {0}) Refusal) (refusal : Refusal) →
    result ≡ Err refusal → RunsLine g old c (Err refusal) new → RunsDiskLine g old (on_disk number c) result new
fails_on_disk g old new number None result refusal is ran = err_is_no_ok {A = Option Loss} refusal None ran.0
fails_on_disk g old new number (Some (Ok (Step e))) result refusal is ran = (ran.0, subst (λ r. IfErr r (λ e. e ≡ StreamFault)) (sym is) ran.1)
fails_on_disk g old new number (Some (Ok State)) result refusal is ran = (ran.0, subst (λ r. IfErr r (λ e. e ≡ StreamFault)) (sym is) ran.1)
fails_on_disk g old new number (Some (Ok Limits)) result refusal is ran = (ran.0, subst (λ r. IfErr r (λ e. e ≡ StreamFault)) (sym is) ran.1)
fails_on_disk g old new number (Some (Ok (Sum position))) result refusal is ran = (ran.0, subst (λ r. IfErr r (λ e. e ≡ StreamFault)) (sym is) ran.1)
fails_on_disk g old new number (Some (Ok (Stop loss))) result refusal is ran = err_is_no_ok {A = Option Loss} refusal (Some loss) ran.0
fails_on_disk g old new number (Some (Err e)) result refusal is ran = (is ∙ ap Err (same_err {A = Option Loss} refusal e ran.0), ran.1)

-- the lines of a whole script on a disk
pub text_run : {X : Type 0} (does : X → Command → X → Type 0) (left : Option (List ℕ)) (u : Unread) (old new : X) (result : Result (Unit {0}) Refusal) → u ≡ at_start →
    IfSome (ahead u left) (λ known. RunEnds does (said_ahead disk_line u known) old result new) → IfSome left (λ text. RunEnds does (script_on_disk text) old result new)
text_run does None u old new result fresh ends = tt
text_run does (Some text) u old new result fresh ends = subst (λ (v : Unread). RunEnds does (said_ahead disk_line v (v.pending ++ text)) old result new) fresh ends

-- some first commands were done, however it ended
some_done : {X : Type 0} (does : X → Command → X → Type 0) (asked : List Command × Option Refusal) (old new : X) (result : Result (Unit {0}) Refusal) → RunEnds does asked old result new →
    (k : ℕ) × Did does old (take k asked.0) new
some_done does asked old new (Ok _) ends = (length asked.0, rw (take_all (length asked.0) asked.0 (omega arith)) ends.1)
some_done does asked old new (Err refusal) ends =
    elim refusal as (λ e. RunEnds does asked old (Err e) new → (k : ℕ) × Did does old (take k asked.0) new) [
      | StreamFault ↦ λ e. e
      | _ ↦ λ e. (length asked.0, rw (take_all (length asked.0) asked.0 (omega arith)) e.1)
    ] ends

-- the writer did not take the last answers
pub unwritten_on_disk : {X : Type 0} (does : X → Command → X → Type 0) (left : Option (List ℕ)) (old new : X) (outcome result : Result (Unit {0}) Refusal) (refusal : Refusal) → result ≡ Err refusal → refusal ≡ StreamFault →
    IfSome left (λ text. RunEnds does (script_on_disk text) old outcome new) → IfSome left (λ text. RunEnds does (script_on_disk text) old result new)
unwritten_on_disk does None old new outcome result refusal is fault ends = tt
unwritten_on_disk does (Some text) old new outcome result refusal is fault ends =
    subst (λ e. RunEnds does (script_on_disk text) old e new) (sym (is ∙ ap Err fault)) (some_done does (script_on_disk text) old new outcome ends)

-- a script on a disk that was opened
pub ends_on_disk : {D : Type 0} (g : Ghosts D) (left : Option (List ℕ)) (old new : D) (opening : Result (Replica D) (D × Refusal)) (first last : Replica D) (result : Result (Unit {0}) Refusal) →
    IsOpening g old opening → opening ≡ Ok first →
    IfSome left (λ text. RunEnds (Does g) (script_on_disk text) first result last) → new ≡ last.engine.disk →
    IfSome left (λ text. EndsOnDisk g (script_on_disk text) old new result)
ends_on_disk g None old new opening first last result is_opening is ends back = tt
ends_on_disk g (Some text) old new opening first last result is_opening is ends back = record {
  opening = opening;
  is_opening = is_opening;
  ends = subst (λ o. EndsBehind g (script_on_disk text) o new result) (sym is) (last, ends, back);
}

-- a script on a disk that was refused
pub refused_on_disk : {D : Type 0} (g : Ghosts D) (left : Option (List ℕ)) (old new : D) (opening : Result (Replica D) (D × Refusal)) (refusal : Refusal) →
    IsOpening g old opening → opening ≡ Err (new, refusal) → IfSome left (λ text. EndsOnDisk g (script_on_disk text) old new (Err refusal))
refused_on_disk g None old new opening refusal is_opening is = tt
refused_on_disk g (Some text) old new opening refusal is_opening is = record {
  opening = opening;
  is_opening = is_opening;
  ends = subst (λ o. EndsBehind g (script_on_disk text) o new (Err refusal)) (sym is) (refl, refl);
}

-- ---- in memory

-- what a disk in memory is, for the definitions of any disk
abbrev pub memory : Ghosts Memory
memory = record { size = λ m. length (stable m.history); failures = λ m. m.failures; history = λ m. m.history; honest = λ m. Unit {0} }

abbrev pub DoesInMemory : Replica Memory → Command → Replica Memory → Type 0
DoesInMemory old c new = DoesOrStops memory old c new

abbrev pub EndsInMemory : Reading Command → Result (Unit {0}) Refusal → Type 0
EndsInMemory r result = ScriptEnds memory r result

pub ran_in_memory : (g : Ghosts Memory) (old new : Replica Memory) (c : Option (Result Command Refusal)) →
    RunsLine g old c (Ok None) new → RanLine (DoesOrStops g) old c new
ran_in_memory g old new None ran = ran.1
ran_in_memory g old new (Some (Ok (Step e))) ran = ran.0
ran_in_memory g old new (Some (Ok State)) ran = ran.0
ran_in_memory g old new (Some (Ok Limits)) ran = ran.0
ran_in_memory g old new (Some (Ok (Sum position))) ran = ran.0
ran_in_memory g old new (Some (Ok (Stop loss))) ran = none_is_no_stop loss ran.0
ran_in_memory g old new (Some (Err e)) ran = ok_is_no_err {A = Option Loss} None e ran.0

pub failed_in_memory : (g : Ghosts Memory) (old new : Replica Memory) (c : Option (Result Command Refusal)) (refusal : Refusal) →
    RunsLine g old c (Err refusal) new → LineFails (DoesOrStops g) old c refusal new
failed_in_memory g old new None refusal ran = err_is_no_ok {A = Option Loss} refusal None ran.0
failed_in_memory g old new (Some (Ok (Step e))) refusal ran = ran
failed_in_memory g old new (Some (Ok State)) refusal ran = ran
failed_in_memory g old new (Some (Ok Limits)) refusal ran = ran
failed_in_memory g old new (Some (Ok (Sum position))) refusal ran = ran
failed_in_memory g old new (Some (Ok (Stop loss))) refusal ran = err_is_no_ok {A = Option Loss} refusal (Some loss) ran.0
failed_in_memory g old new (Some (Err e)) refusal ran = (same_err {A = Option Loss} refusal e ran.0, ran.1)

pub stop_is_asked : {D : Type 0} (g : Ghosts D) (old new : Replica D) (c : Option (Result Command Refusal)) (loss : Loss) →
    RunsLine g old c (Ok (Some loss)) new → (c ≡ Some (Ok (Stop loss))) × (new ≡ old)
stop_is_asked g old new None loss ran = none_is_no_stop loss (sym ran.0)
stop_is_asked g old new (Some (Ok (Step e))) loss ran = some_is_not_none loss ran.1
stop_is_asked g old new (Some (Ok State)) loss ran = some_is_not_none loss ran.1
stop_is_asked g old new (Some (Ok Limits)) loss ran = some_is_not_none loss ran.1
stop_is_asked g old new (Some (Ok (Sum position))) loss ran = some_is_not_none loss ran.1
stop_is_asked g old new (Some (Ok (Stop l))) loss ran = (same_stop loss l ran.0, ran.1)
stop_is_asked g old new (Some (Err e)) loss ran = ok_is_no_err {A = Option Loss} (Some loss) e ran.0

-- a stop that is opened again
pub stop_ran : (g : Ghosts Memory) (old mid new : Replica Memory) (c : Option (Result Command Refusal)) (loss : Loss) →
    RunsLine g old c (Ok (Some loss)) mid → Stops g loss mid (Ok new) → RanLine (DoesOrStops g) old c new
stop_ran g old mid new c loss ran stops =
    let asked = stop_is_asked g old mid c loss ran in
    subst (λ said. RanLine (DoesOrStops g) old said new) (sym asked.0)
    (subst (λ r. Stops g loss r (Ok new)) asked.1 stops)

-- a script whose lines were run
pub script_run_ends : (g : Ghosts Memory) (p : Setting) (asked : List Command × Option Refusal) (first last : Replica Memory) (result : Result (Unit {0}) Refusal) →
    OnNewDisk g p (Ok first) → RunEnds (DoesOrStops g) asked first result last →
    ScriptEnds g (reading_of p asked) result
script_run_ends g p asked first last (Ok _) on ends =
    (ends.0, (last, record { first = first; on_new_disk = on; did = ends.1 }))
script_run_ends g p asked first last (Err refusal) on ends =
    elim refusal as (λ e. RunEnds (DoesOrStops g) asked first (Err e) last → ScriptEnds g (reading_of p asked) (Err e)) [
      | StreamFault ↦ λ _. tt
      | _ ↦ λ ended. inl (record { fault = ended.0; done = inr (last, record { first = first; on_new_disk = on; did = ended.1 }) })
    ] ends

-- a refusal that is no stream fault may come so
any_refusal : (g : Ghosts Memory) (r : Reading Command) (refusal : Refusal) →
    (EndsAtFault g r refusal ⊎ (OnNewDisk g r.setting (Err refusal) ⊎ FailsAtStop g r.setting r.order refusal)) →
    ScriptEnds g r (Err refusal)
any_refusal g r refusal why =
    elim refusal as (λ e. (EndsAtFault g r e ⊎ (OnNewDisk g r.setting (Err e) ⊎ FailsAtStop g r.setting r.order e)) →
    ScriptEnds g r (Err e)) [ StreamFault ↦ λ _. tt | _ ↦ λ w. w ] why

-- a stop that is not opened again
pub script_stop_fails : (g : Ghosts Memory) (p : Setting) (start left left' : Option (List ℕ)) (first u new : Unread) (old r : Replica Memory) (loss : Loss) (refusal : Refusal) (line : List ℕ) →
    OnNewDisk g p (Ok old) → IfSome start (λ text. HasRun (DoesOrStops g) script_line text first old u (ahead u left) r) →
    IfSome left (λ known. NextLine (u.pending ++ known) u (Ok true) new left' line) → new.number ≡ u.number + 1 →
    content script_line new.number line ≡ Some (Ok (Stop loss)) → Stops g loss r (Err refusal) →
    IfSome start (λ text. ScriptEnds g (reading_of p (said_ahead script_line first text)) (Err refusal))
script_stop_fails g p None left left' first u new old r loss refusal line on h next numbered asked stops = tt
script_stop_fails g p (Some text) None left' first u new old r loss refusal line on h next numbered asked stops = absurd h.said
script_stop_fails g p (Some text) (Some known) left' first u new old r loss refusal line on h next numbered asked stops =
    let later = said_ahead script_line new next.rest in
    let said : said_ahead script_line first text ≡ (h.done ++ Stop loss ∷ later.0, later.1) =
    h.said ∙ ap (done_then h.done) (said_step script_line (u.pending ++ known) u new left' line next numbered ∙ ap (λ c. with_line c later) asked) in
    any_refusal g (reading_of p (said_ahead script_line first text)) refusal (inr (inr (record {
      before = h.done;
      loss = loss;
      later = later.0;
      split = ap (λ (x : List Command × Option Refusal). x.0) said;
      last = r;
      reaches = record { first = old; on_new_disk = on; did = h.did };
      stops = stops;
    })))

-- a whole script whose params line is not read
pub script_unread : (g : Ghosts Memory) (left left' : Option (List ℕ)) (u new : Unread) (refusal : Refusal) → u ≡ at_start →
    IfSome (ahead u left) (λ known. ReadsParams order_line known u (Err refusal) new left' × ReadsParams script_line known u (Err refusal) new left') →
    IfSome left (λ text. ScriptEnds g (script text) (Err refusal))
script_unread g None left' u new refusal is reads = tt
script_unread g (Some text) left' u new refusal is reads =
    elim refusal as (λ e. ReadsParams script_line text at_start (Err e) new left' → ScriptEnds g (script text) (Err e)) [
      | StreamFault ↦ λ _. tt
      | _ ↦ λ e. rw e (inl (record { fault = refl; done = inl refl }))
    ] (subst (λ (v : Unread). ReadsParams script_line (v.pending ++ text) v (Err refusal) new left') is reads.1)

-- a script whose params line is read ends as the lines behind it do
begun : (g : Ghosts Memory) (text : List ℕ) (first new : Unread) (rest : Option (List ℕ)) (p : Setting) (result : Result (Unit {0}) Refusal) →
    IsSomeAnd rest (λ rest. text_ahead script_line first text ≡ reading_of p (said_ahead script_line new rest)) →
    IfSome rest (λ rest. ScriptEnds g (reading_of p (said_ahead script_line new rest)) result) → ScriptEnds g (text_ahead script_line first text) result
begun g text first new None p result reads ends = absurd reads
begun g text first new (Some rest) p result reads ends =
    subst (λ r. ScriptEnds g r result) (sym reads) ends

-- a whole script whose params line is read, and for which there is no disk
pub script_without_disk : (g : Ghosts Memory) (left left' : Option (List ℕ)) (u new : Unread) (p : Setting) (refusal : Refusal) → u ≡ at_start →
    IfSome (ahead u left) (λ known. ReadsParams order_line known u (Ok p) new left' × ReadsParams script_line known u (Ok p) new left') → OnNewDisk g p (Err refusal) →
    IfSome left (λ text. ScriptEnds g (script text) (Err refusal))
script_without_disk g None left' u new p refusal is reads on = tt
script_without_disk g (Some text) left' u new p refusal is reads on =
    begun g text at_start new (ahead new left') p (Err refusal) (subst (λ (v : Unread). ReadsParams script_line (v.pending ++ text) v (Ok p) new left') is reads.1)
    (some_by_each (ahead new left') (λ rest. any_refusal g (reading_of p (said_ahead script_line new rest)) refusal (inr (inl on))))

-- a whole script whose params line is read, and whose lines are run
pub script_read : (g : Ghosts Memory) (left left' : Option (List ℕ)) (u new : Unread) (p : Setting) (result : Result (Unit {0}) Refusal) → u ≡ at_start →
    IfSome (ahead u left) (λ known. ReadsParams order_line known u (Ok p) new left' × ReadsParams script_line known u (Ok p) new left') →
    IfSome (ahead new left') (λ rest. ScriptEnds g (reading_of p (said_ahead script_line new rest)) result) →
    IfSome left (λ text. ScriptEnds g (script text) result)
script_read g None left' u new p result is reads ends = tt
script_read g (Some text) left' u new p result is reads ends =
    begun g text at_start new (ahead new left') p result (subst (λ (v : Unread). ReadsParams script_line (v.pending ++ text) v (Ok p) new left') is reads.1) ends

-- ---- how a script in memory ends

pub ends_in_memory : (p : Setting) (start : Option (List ℕ)) (first : Unread) (old r : Replica Memory) (result end : Result (Unit {0}) Refusal) → result ≡ end →
    OnNewDisk memory p (Ok old) → IfSome start (λ text. RunEnds DoesInMemory (said_ahead script_line first text) old end r) →
    IfSome start (λ text. EndsInMemory (reading_of p (said_ahead script_line first text)) result)
ends_in_memory p None first old r result end is on ends = tt
ends_in_memory p (Some text) first old r result end is on ends =
    subst (λ e. EndsInMemory (reading_of p (said_ahead script_line first text)) e) (sym is)
    (script_run_ends memory p (said_ahead script_line first text) old r end on ends)

pub stop_fails_in_memory : (p : Setting) (start left left' : Option (List ℕ)) (first u new : Unread) (old r mid : Replica Memory) (loss : Loss) (result : Result (Unit {0}) Refusal) (refusal : Refusal) (line : List ℕ) →
    result ≡ Err refusal → OnNewDisk memory p (Ok old) → IfSome start (λ text. HasRun DoesInMemory script_line text first old u (ahead u left) r) →
    IfSome left (λ known. NextLine (u.pending ++ known) u (Ok true) new left' line) → new.number ≡ u.number + 1 →
    RunsLine memory r (content script_line new.number line) (Ok (Some loss)) mid → Stops memory loss mid (Err refusal) →
    IfSome start (λ text. EndsInMemory (reading_of p (said_ahead script_line first text)) result)
stop_fails_in_memory p start left left' first u new old r mid loss result refusal line is on h next numbered ran stops =
    let asked = stop_is_asked memory r mid (content script_line new.number line) loss ran in
    subst (λ e. IfSome start (λ text. EndsInMemory (reading_of p (said_ahead script_line first text)) e)) (sym is)
    (script_stop_fails memory p start left left' first u new old r loss refusal line on h next numbered asked.0
    (subst (λ x. Stops memory loss x (Err refusal)) asked.1 stops))

-- the writer failed
pub unwritten_in_memory : (p : Setting) (start : Option (List ℕ)) (first : Unread) (result : Result (Unit {0}) Refusal) (refusal : Refusal) → result ≡ Err refusal → refusal ≡ StreamFault →
    IfSome start (λ text. EndsInMemory (reading_of p (said_ahead script_line first text)) result)
unwritten_in_memory p None first result refusal is fault = tt
unwritten_in_memory p (Some text) first result refusal is fault =
    subst (λ e. EndsInMemory (reading_of p (said_ahead script_line first text)) e) (sym (is ∙ ap Err fault)) tt

-- ---- a delivery

module _ {D : Type 0} (g : Ghosts D) (old new : Replica D) where
  -- the item that came in the place of another one is delivered
  pub runs_delivery : (given : Result Item Refusal) (was now : Item) (outcome : Result (Unit {0}) Refusal) → Renews given was now outcome → outcome ≡ Ok tt → (seqno : ℕ) (a : Answer) → IsStep g old (delivery seqno now) a new → (result : Result (Unit {0}) Refusal) → IfErr result (λ e. e ≡ StreamFault)
      → RunsDiskLine g old (Some (delivered seqno given)) result new
  runs_delivery given was now outcome is ok seqno a step result fault = subst (λ r. RunsDiskLine g old (Some (delivered seqno r)) result new) (renewed given was now outcome is ok) ((a, step), fault)

  -- what a line of a script on a disk does, as that of any script: it is no stop
  pub runs_on : (said : Result Command Refusal) → RunsDiskLine g old (Some said) (Ok tt) new → RunsLine g old (Some said) (Ok None) new
  runs_on (Err e) runs = absurd (let never : ◌≡◌ {A = Result (Unit {0}) Refusal} (Ok tt) (Err e) = runs.0 in cc)
  runs_on (Ok (Step e)) runs = (runs.0, refl)
  runs_on (Ok State) runs = (runs.0, refl)
  runs_on (Ok Limits) runs = (runs.0, refl)
  runs_on (Ok (Sum position)) runs = (runs.0, refl)
  runs_on (Ok (Stop loss)) runs = absurd runs.0

  pub fails_on : (said : Result Command Refusal) (e : Refusal) → RunsDiskLine g old (Some said) (Err e) new → RunsLine g old (Some said) (Err e) new
  fails_on (Err f) e runs = (let same : ◌≡◌ {A = Result (Unit {0}) Refusal} (Err e) (Err f) = runs.0 in let one : e ≡ f = cc in ap Err one, runs.1)
  fails_on (Ok (Step s)) e runs = runs
  fails_on (Ok State) e runs = runs
  fails_on (Ok Limits) e runs = runs
  fails_on (Ok (Sum position)) e runs = runs
  fails_on (Ok (Stop loss)) e runs = absurd runs.0

-- an item that is refused
pub fails_delivery : {D : Type 0} (g : Ghosts D) (r : Replica D) (given : Result Item Refusal) (was now : Item) (outcome : Result (Unit {0}) Refusal) (e : Refusal) → Renews given was now outcome → outcome ≡ Err e → (seqno : ℕ) → RunsDiskLine g r (Some (delivered seqno given)) (Err e) r
fails_delivery g r given was now outcome e is refused seqno = subst (λ said. RunsDiskLine g r (Some (delivered seqno said)) (Err e) r) (not_renewed given was now outcome e is refused) (refl, refl)

-- what a line says whose first word is `deliver`
pub said_delivery : (number : ℕ) (line : List ℕ) (ws left : List (List ℕ)) → is_blank line ≡ false → ws ≡ words line → is_next (codes "deliver") ws ≡ true → left ≡ drop 1 ws → content script_line number line ≡ Some (delivery_of number (next (number_in (2 ^ 64)) left))
said_delivery number line ws left some ws_is first left_is =
    let seqno : List (List ℕ) → Option (ℕ × List (List ℕ)) = next (number_in (2 ^ 64)) in
    let found : is_next (codes "deliver") (words line) ≡ true = ap (is_next (codes "deliver")) (sym ws_is) ∙ first in
    let behind : drop 1 (words line) ≡ left = ap (drop 1) (sym ws_is) ∙ sym left_is in
    ap (λ blank. cond blank None (Some (script_line number line))) some
    ∙ ap Some (ap (λ b. cond b (delivery_of number (seqno (drop 1 (words line)))) (outcome Ok number (whole_in (words line)))) found ∙ ap (λ l. delivery_of number (seqno l)) behind)
