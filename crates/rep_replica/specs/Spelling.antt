-- What the bytes of a disk decide of a replica's steps: which page is corrupt, and which row is there.
use Rattle.std.specs.Prelude.{ℕ, List, Option, Result, Ok, Err}
use Rattle.rep_types.specs.declared.key.Key.{Key}
use Rattle.rep_types.specs.declared.refusal.Refusal.{Refusal}
use Rattle.rep_disk.specs.declared.disk.Disk.{Ghosts}
use Rattle.rep_disk.specs.History.{seen}
use Rattle.rep_cells.specs.Readings.{reading_of}
use Rattle.rep_steps.specs.declared.event.Event.{Event}
use Rattle.rep_steps.specs.declared.event.Event.TheVariants.{Flush, Read}
use Rattle.rep_steps.specs.declared.answer.Answer.{Answer}
use Rattle.rep_steps.specs.declared.answer.Answer.TheVariants.{Wrote, Row, Refused}
use Rattle.rep_recover.specs.BasePages.{IsBadPage}
use Rattle.rep_recover.specs.CheckpointMoves.{position_in}
use Rattle.rep_recover.specs.CheckpointCalls.{FlushesAsSpelled}
use Rattle.rep_recover.specs.Reading.{ReadsAt}
use Rattle.rep_replica.specs.Replicas.{Replica}

-- A page was flushed, or not. On an honest device its bytes decide: where they have the page, it was written as it is at the checkpoint's
-- position; where they have none, nothing was; and it is corrupt only there.
abbrev pub FlushIsSpelled : {D : Type 0} → Ghosts D → ℕ → Replica D → Replica D → Result (Unit {0}) Refusal → Type 0
FlushIsSpelled g page old new result =
    g.honest old.engine.disk → FlushesAsSpelled old.engine.layout old.engine.checkpoint.base old.engine.kept (position_in old.engine.checkpoint.stage) page (g.history old.engine.disk) (g.history new.engine.disk) result

-- A row was read, or not. On an honest device its bytes decide it below all versions.
abbrev pub ReadIsSpelled : {D : Type 0} → Ghosts D → Key → ℕ → Replica D → Result (Option (List ℕ)) Refusal → Type 0
ReadIsSpelled g key s r result =
    g.honest r.engine.disk → ReadsAt (reading_of r.engine.layout (seen (g.history r.engine.disk))) r.engine.checkpoint.base r.engine.kept key s result

-- So it is of the two events that read a page.
abbrev pub Spells : {D : Type 0} → Ghosts D → Replica D → Event → Answer → Replica D → Type 0
Spells g old (Flush page) Wrote new = FlushIsSpelled g page old new (Ok tt)
Spells g old (Flush page) (Refused r) new = FlushIsSpelled g page old new (Err r)
Spells g old (Read key s) (Row row) new = ReadIsSpelled g key s old (Ok row)
Spells g old (Read key s) (Refused r) new = ReadIsSpelled g key s old (Err r)
Spells g old e a new = Unit {0}

-- On an honest device the base's bytes of some page are bad: in the slot in which the base has it they spell none.
abbrev pub MeetsBadPage : {D : Type 0} → Ghosts D → Replica D → Type 0
MeetsBadPage g r =
    g.honest r.engine.disk → (number : ℕ) × IsBadPage (reading_of r.engine.layout (seen (g.history r.engine.disk))) r.engine.checkpoint.base number
