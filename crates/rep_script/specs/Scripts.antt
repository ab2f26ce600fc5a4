-- What a script asks for, and what running it does to a replica.
use Rattle.std.specs.Prelude.{◌≡◌, ℕ, ◌<◌, ◌⊎◌, List, [], ◌∷◌, ◌++◌, take, Option, None, Some, Result, Ok, Err, IfOk, IfErr, MatchResult}
use Rattle.rep_types.specs.declared.refusal.Refusal.{Refusal}
use Rattle.rep_types.specs.declared.refusal.Refusal.TheVariants.{OutOfMemory, DiskFault, Malformed, NotFormatted, StreamFault}
use Rattle.rep_types.specs.Settings.{Setting}
use Rattle.rep_record.specs.Lines.{raw_lines}
use Rattle.rep_disk.specs.declared.disk.Disk.{Ghosts}
use Rattle.rep_disk.specs.declared.memory.Loss.{Loss}
use Rattle.rep_disk.specs.History.{Begins, IsImage, seen}
use Rattle.rep_disk.specs.Memory.{Memory, IsAfterLoss}
use Rattle.rep_disk.specs.Devices.{Calls}
use Rattle.rep_layout.specs.Places.{need_of}
use Rattle.rep_steps.specs.declared.answer.Answer.{Answer}
use Rattle.rep_catchup.specs.Looking.{fault_in}
use Rattle.rep_catchup.specs.Formatting.{ImagesStandFor}
use Rattle.rep_catchup.specs.DiskOpening.{without_log, RefusesToOpen, IsUnwritten}
use Rattle.rep_catchup.specs.Replicas.{Replica}
use Rattle.rep_catchup.specs.Holding.{IsStep}
use Rattle.rep_catchup.specs.Opening.{Begins as BeginsOn, Opens}
use Rattle.rep_script.specs.declared.script_line.Command.{Command}
use Rattle.rep_script.specs.declared.script_line.Command.TheVariants.{Step, State, Limits, Sum, Stop}
use Rattle.rep_script.specs.ScriptLines.{script_line}
use Rattle.rep_script.specs.Summing.{TakesSum}
use Rattle.rep_script.specs.Judging.{Reading, said_by, text_of}

-- ---- what a script asks for

-- What a script asks for: its parameters, the commands of its lines up to the first line that is refused, and that refusal.
abbrev pub script : List ℕ → Reading Command
script text = text_of script_line 1 0 (raw_lines text)

-- a command other than a stop
abbrev pub unless_stop : ℕ → Result Command Refusal → Result Command Refusal
unless_stop number (Ok (Step e)) = Ok (Step e)
unless_stop number (Ok State) = Ok State
unless_stop number (Ok Limits) = Ok Limits
unless_stop number (Ok (Sum position)) = Ok (Sum position)
unless_stop number (Ok (Stop loss)) = Err (Malformed number)
unless_stop number (Err refusal) = Err refusal

-- What comes of a line, with this number, of a script on a disk: a stop is none of its lines.
abbrev pub disk_line : ℕ → List ℕ → Result Command Refusal
disk_line number line = unless_stop number (script_line number line)

-- What a script on a disk asks for: the commands of its lines up to the first that is refused, and that refusal. It has no parameters.
abbrev pub script_on_disk : List ℕ → List Command × Option Refusal
script_on_disk text = said_by disk_line 1 0 (raw_lines text)

-- ---- what opening a disk comes to

-- What the opening of a disk gives: a replica that begins with what was found there; or the disk again, of which nothing was written,
-- and why it was refused.
pub record IsOpening {D : Type 0} (g : Ghosts D) (disk : D) (result : Result (Replica D) (D × Refusal)) : Type 0 where
  pub call : MatchResult result (λ r. Calls {T = Unit {0}} g disk r.engine.disk (Ok tt)) (λ x. Calls g disk x.0 (fault_in x.1))
  pub small : g.size disk < need_of without_log → result ≡ Err (disk, NotFormatted)
  pub unwritten : g.honest disk → IfErr result (λ x. IsUnwritten (g.history disk) (g.history x.0))
  pub begins : IfOk result (λ r. BeginsOn (g.size disk) r)
  pub opens : g.honest disk → IfOk result (λ r. Opens g (g.history disk) r)
  pub refused : IfErr result (λ x. RefusesToOpen (g.honest disk) (seen (g.history disk)) x.1)

-- The disk was opened, or refused so.
abbrev pub Opened : {D : Type 0} → Ghosts D → D → Result (Replica D) Refusal → Type 0
Opened g disk (Ok r) = IsOpening g disk (Ok r)
Opened g disk (Err refusal) = (left : _) × IsOpening g disk (Err (left, refusal))

-- the bytes of the state UUID of the disk in memory that a script runs on: 11111111-1111-4111-8111-111111111111
abbrev pub script_uuid : List ℕ
script_uuid = 0x11 ∷ 0x11 ∷ 0x11 ∷ 0x11 ∷ 0x11 ∷ 0x11 ∷ 0x41 ∷ 0x11 ∷ 0x81 ∷ 0x11 ∷ 0x11 ∷ 0x11 ∷ 0x11 ∷ 0x11 ∷ 0x11 ∷ 0x11 ∷ []

-- A disk that was formatted with these parameters was opened, or refused so; or there was no memory for one, or it failed.
abbrev pub OnNewDisk : {D : Type 0} → Ghosts D → Setting → Result (Replica D) Refusal → Type 0
OnNewDisk {D} g p result =
    ((disk : D) × ImagesStandFor script_uuid p [] (g.history disk) × Opened g disk result) ⊎ ((result ≡ Err OutOfMemory) ⊎ (result ≡ Err DiskFault))

-- What a crash makes of a disk in memory.
pub record Crashes (loss : Loss) (old new : Memory) : Type 0 where
  pub anew : new.history ≡ Begins (seen new.history)
  pub left : IsAfterLoss loss old.history (seen new.history)
  pub image : IsImage old.history (seen new.history)
  pub failures : new.failures ≡ old.failures

-- A replica was stopped: its disk lost what the stop loses, and what was left was opened, or refused so.
pub record Stops (g : Ghosts Memory) (loss : Loss) (old : Replica Memory) (result : Result (Replica Memory) Refusal) : Type 0 where
  pub left : Memory
  pub lost : Crashes loss old.engine.disk left
  pub opened : Opened g left result

-- ---- what running a script does

-- What a command does to a replica on a disk that does not crash at a line's word: it makes this step, whatever it answers, or its state or its
-- window's limits are looked at, or a sum is taken.
abbrev pub Does : {D : Type 0} → Ghosts D → Replica D → Command → Replica D → Type 0
Does g old (Step e) new = (a : Answer) × IsStep g old e a new
Does g old State new = new ≡ old
Does g old Limits new = new ≡ old
Does g old (Sum position) new = TakesSum g old position new
Does g old (Stop loss) new = ⊥

-- The same on a disk that a stop makes crash, and opens again.
abbrev pub DoesOrStops : Ghosts Memory → Replica Memory → Command → Replica Memory → Type 0
DoesOrStops g old (Step e) new = (a : Answer) × IsStep g old e a new
DoesOrStops g old State new = new ≡ old
DoesOrStops g old Limits new = new ≡ old
DoesOrStops g old (Sum position) new = TakesSum g old position new
DoesOrStops g old (Stop loss) new = Stops g loss old (Ok new)

-- These commands were done one after another, each once.
abbrev pub Did : {X : Type 0} → (X → Command → X → Type 0) → X → List Command → X → Type 0
Did does old [] new = new ≡ old
Did does old (c ∷ commands) new = (mid : _) × does old c mid × Did does mid commands new

-- How the running of a script's lines ended that ask for this: at success no line is refused, and all commands were done; at a stream
-- fault, which may also be the reader's or the writer's, some first commands were done; any other refusal is that of the first line that is
-- refused, and all commands before it were done.
abbrev pub RunEnds : {X : Type 0} → (X → Command → X → Type 0) → List Command × Option Refusal → X → Result (Unit {0}) Refusal → X → Type 0
RunEnds does asked old (Ok _) new = (asked.1 ≡ None) × Did does old asked.0 new
RunEnds does asked old (Err StreamFault) new = (k : ℕ) × Did does old (take k asked.0) new
RunEnds does asked old (Err refusal) new = (asked.1 ≡ Some refusal) × Did does old asked.0 new

-- how a script ended that goes on behind this opening, and the disk that came back
abbrev pub EndsBehind : {D : Type 0} → Ghosts D → List Command × Option Refusal → Result (Replica D) (D × Refusal) → D → Result (Unit {0}) Refusal → Type 0
EndsBehind g asked (Ok first) new result = (last : _) × RunEnds (Does g) asked first result last × (new ≡ last.engine.disk)
EndsBehind g asked (Err x) new result = (new ≡ x.0) × (result ≡ Err x.1)

-- How a script on a disk ended, and the disk that came back: that of the last replica; where the opening was refused, what came back there.
pub record EndsOnDisk {D : Type 0} (g : Ghosts D) (asked : List Command × Option Refusal) (old new : D) (result : Result (Unit {0}) Refusal) : Type 0 where
  pub opening : Result (Replica D) (D × Refusal)
  pub is_opening : IsOpening g old opening
  pub ends : EndsBehind g asked opening new result

-- These commands were done by a replica on a new disk with these parameters, and this one came of it.
pub record Reaches (g : Ghosts Memory) (p : Setting) (commands : List Command) (last : Replica Memory) : Type 0 where
  pub first : Replica Memory
  pub on_new_disk : OnNewDisk g p (Ok first)
  pub did : Did (DoesOrStops g) first commands last

-- A stop of the script could not be opened again, and this is why; what stands before it was done.
pub record FailsAtStop (g : Ghosts Memory) (p : Setting) (commands : List Command) (refusal : Refusal) : Type 0 where
  pub before : List Command
  pub loss : Loss
  pub later : List Command
  pub split : commands ≡ before ++ Stop loss ∷ later
  pub last : Replica Memory
  pub reaches : Reaches g p before last
  pub stops : Stops g loss last (Err refusal)

-- The text's first fault is this, and all that it asks for before was done; where it asks for nothing, there may be no disk.
pub record EndsAtFault (g : Ghosts Memory) (r : Reading Command) (refusal : Refusal) : Type 0 where
  pub fault : r.fault ≡ Some refusal
  pub done : (r.order ≡ []) ⊎ ((last : Replica Memory) × Reaches g r.setting r.order last)

-- How a script ended: at success the text has no fault, and all that it asks for was done; a stream fault may come at any moment, since it
-- may be the reader's or the writer's; any other refusal is the text's first fault, and all before it was done, or a new disk or one behind a
-- stop was refused so, and all before that was done.
abbrev pub ScriptEnds : Ghosts Memory → Reading Command → Result (Unit {0}) Refusal → Type 0
ScriptEnds g r (Ok _) = (r.fault ≡ None) × ((last : _) × Reaches g r.setting r.order last)
ScriptEnds g r (Err StreamFault) = Unit {0}
ScriptEnds g r (Err refusal) =
    EndsAtFault g r refusal
    ⊎ (OnNewDisk g r.setting (Err refusal) ⊎ FailsAtStop g r.setting r.order refusal)

-- ---- what running one line does

-- What a command does to a replica, and what comes of it: a stop is handed back; after anything else the writer may have failed.
abbrev pub RunsCommand : {D : Type 0} → Ghosts D → Replica D → Command → Result (Option Loss) Refusal → Replica D → Type 0
RunsCommand g old (Step e) result new = Does g old (Step e) new × MatchResult result (λ asked. asked ≡ None) (λ refusal. refusal ≡ StreamFault)
RunsCommand g old State result new = Does g old State new × MatchResult result (λ asked. asked ≡ None) (λ refusal. refusal ≡ StreamFault)
RunsCommand g old Limits result new = Does g old Limits new × MatchResult result (λ asked. asked ≡ None) (λ refusal. refusal ≡ StreamFault)
RunsCommand g old (Sum position) result new = Does g old (Sum position) new × MatchResult result (λ asked. asked ≡ None) (λ refusal. refusal ≡ StreamFault)
RunsCommand g old (Stop loss) result new = (result ≡ Ok (Some loss)) × (new ≡ old)

-- what a line does to a replica, by what it says, and what comes of it
abbrev pub RunsLine : {D : Type 0} → Ghosts D → Replica D → Option (Result Command Refusal) → Result (Option Loss) Refusal → Replica D → Type 0
RunsLine g old None result new = (result ≡ Ok None) × (new ≡ old)
RunsLine g old (Some (Err refusal)) result new = (result ≡ Err refusal) × (new ≡ old)
RunsLine g old (Some (Ok c)) result new = RunsCommand g old c result new

-- the same of a line of a script on a disk
abbrev pub RunsDiskLine : {D : Type 0} → Ghosts D → Replica D → Option (Result Command Refusal) → Result (Unit {0}) Refusal → Replica D → Type 0
RunsDiskLine g old None result new = (result ≡ Ok tt) × (new ≡ old)
RunsDiskLine g old (Some (Err refusal)) result new = (result ≡ Err refusal) × (new ≡ old)
RunsDiskLine g old (Some (Ok c)) result new = Does g old c new × IfErr result (λ refusal. refusal ≡ StreamFault)
