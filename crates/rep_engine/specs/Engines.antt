-- What an engine holds, on any device: its facts, and what is so of it whatever the device does.
use Rattle.std.specs.Prelude.{◌≡◌, ℕ, pos, negsuc, ◌+◌, ◌-◌, ◌<◌, ◌≤◌, if◌then◌else◌, is_some, List, [], length, Option, None, Some, IsTrue, refl}
use Rattle.std.specs.Coded.{Coded, codes, code_by, coded×, coded_option, coded_list, coded_ℕ}
use Rattle.std.specs.FinMap as map
use Rattle.uuid.specs.Parts.{is_nil_bytes}
use Rattle.rep_types.specs.declared.key.Key.{Key}
use Rattle.rep_types.specs.declared.judged.Judged.{Judged}
use Rattle.rep_types.specs.Gtids.{Gtid}
use Rattle.rep_types.specs.declared.limits.TheConstants.{MAX_SEQNO}
use Rattle.rep_record.specs.declared.limits.TheConstants.{MAX_RECORDS}
use Rattle.rep_record.specs.Blocks.{SeqnosFrom}
use Rattle.rep_record.specs.Fronts.{fitting}
use Rattle.rep_disk.specs.declared.disk.Disk.{Ghosts}
use Rattle.rep_disk.specs.History.{History}
use Rattle.rep_layout.specs.declared.place.Layout.{Layout}
use Rattle.rep_layout.specs.declared.place.Place.{Place}
use Rattle.rep_layout.specs.Places.{layout_of}
use Rattle.rep_cells.specs.Known.{IsReadable}
use Rattle.rep_versions.specs.Versions.{Kept, Version, version_at, coded_version_key}
use Rattle.rep_pool.specs.Pools.{Pooled}
use Rattle.rep_pool.specs.BasePages.{IsPooled}
use Rattle.rep_log.specs.declared.phase.Phase.{Phase}
use Rattle.rep_log.specs.declared.phase.Phase.TheVariants.{Resting, Closing, Filling, Filled, Opening}
use Rattle.rep_log.specs.Standing.{busy, Standing as Log}
use Rattle.rep_steps.specs.Standings.{Standing, Stage, Off, Toward, Retiring, HasGoal}
use Rattle.rep_checkpoint.specs.Standing.{Standing as Checkpoint, IsCheckpoint, stage_of}

-- What an engine holds: the device and where its places lie, the checkpoint with the superblock of its base, the log, the versions
-- of what the items behind the base wrote, and the items that were gathered for the log's next block. Where the device failed, also
-- how far that block was before the call that met the failure.
pub record Engine (D : Type 0) : Type 0 where
  pub disk : D
  pub layout : Layout
  pub checkpoint : Checkpoint
  pub log : Log
  pub kept : Kept
  pub block : List Judged
  pub halted : Option Phase

-- Only the device was asked: what else the engine holds is as it was, but for whether the device's failure stopped it.
abbrev pub OnlyAsks : {D : Type 0} → Engine D → Engine D → Type 0
OnlyAsks old new = new ≡ record old { disk = new.disk; halted = new.halted }

-- The device failed, which stopped the engine: all else is as it was.
abbrev pub Halts : {D : Type 0} → Engine D → Engine D → Type 0
Halts old new = new ≡ record old { disk = new.disk; halted = Some old.log.phase }

-- While the device has not failed, the pool agrees with it, if it is honest.
abbrev pub PoolAgrees : {D : Type 0} → Ghosts D → Layout → Checkpoint → D → Option Phase → Pooled → Type 0
PoolAgrees g l c disk halted pages = halted ≡ None → IsPooled g c.base.params.rows l disk pages

-- No write that failed lies in any place.
abbrev pub AreReadable : Layout → History → Type 0
AreReadable l h = (place : Place) → IsReadable l h place

-- as numbers
abbrev pub Rest : Type 0
Rest = Layout × (Checkpoint × (Log × (List Judged × Option Phase)))

rest_code : Coded Rest
rest_code = Prim.hlevel codes

pub engine_code : {D : Type 0} → Coded D → Coded (Engine D)
engine_code {D} code =
    code_by (D × (Kept × Rest)) (coded× code (coded× (map.code coded_version_key (coded_option (coded_list coded_ℕ))) rest_code))
    (λ e. (e.disk, (e.kept, (e.layout, (e.checkpoint, (e.log, (e.block, e.halted)))))))
    (λ c. record { disk = c.0; kept = c.1.0; layout = c.1.1.0; checkpoint = c.1.1.1.0; log = c.1.1.1.1.0; block = c.1.1.1.1.1.0; halted = c.1.1.1.1.1.1 }) (λ _. refl)

-- how far the next block is
abbrev pub phase_at : Phase → Option Phase → Phase
phase_at phase None = phase
phase_at phase (Some before) = before

-- the seqno of the last durable item
abbrev pub durable_of : Log → ℕ
durable_of log = log.seqno - 1

-- The facts of an engine: those of a replica in which nothing waits but what the engine has accepted.
abbrev pub facts_of : {D : Type 0} → Ghosts D → Engine D → Standing
facts_of g e = record {
  uuid = e.checkpoint.base.uuid;
  setting = e.checkpoint.base.params;
  base = e.checkpoint.base.position;
  durable = durable_of e.log;
  ahead = e.block;
  phase = phase_at e.log.phase e.halted;
  next = e.log.next;
  start = e.log.start;
  stage = stage_of e.checkpoint;
  failures = g.failures e.disk;
  stopped = is_some e.halted;
}

-- the GTID of the durable position; that of a node without a cluster is the nil UUID and -1 (Galera documentation)
abbrev pub gtid_of : {D : Type 0} → Engine D → Gtid
gtid_of e = record { uuid = e.checkpoint.base.uuid; seqno = if is_nil_bytes e.checkpoint.base.uuid then negsuc 0 else pos (durable_of e.log) }

-- The block on its way has all that was gathered, and something.
pub record HasAll (n : ℕ) (block : List Judged) : Type 0 where
  pub all : n ≡ length block
  pub some : 0 < n

-- and a stale cell is closed only for what was gathered
abbrev pub IsWhole : Phase → List Judged → Type 0
IsWhole Resting block = Unit {0}
IsWhole Closing block = 0 < length block
IsWhole (Filling n) block = HasAll n block
IsWhole (Filled n) block = HasAll n block
IsWhole (Opening n) block = HasAll n block

-- Each block has an item: behind a position, from the first block on that begins there, there are no more blocks than items.
abbrev pub HasItems : ℕ → ℕ → Log → Type 0
HasItems position start log = log.next + position < start + log.seqno

-- and so it is behind a base that is on its way
abbrev pub HasItemsBehind : Stage → Log → Type 0
HasItemsBehind Off log = Unit {0}
HasItemsBehind (Toward goal part) log = HasItems goal.position goal.start log
HasItemsBehind (Retiring written) log = Unit {0}

-- The versions are of items above the base, up to the last one.
abbrev pub AreWithin : ℕ → ℕ → Kept → Type 0
AreWithin base last kept = (key : Key) (s : ℕ) (version : Version) → version_at kept key s ≡ Some version → (base < s) × (s ≤ last)

-- What is so of an engine, whatever the device does: log and gathered items go on behind the base, the log's next block has its
-- cell, each of its blocks has an item, and a base that is on its way lies between the one that stands and what is durable.
pub record IsEngine (l : Layout) (c : Checkpoint) (log : Log) (kept : Kept) (block : List Judged) : Type 0 where
  pub checkpoint : IsCheckpoint c
  pub layout : l ≡ layout_of c.base.params
  pub cells : log.cells ≡ c.base.params.cells
  pub start : log.start ≡ c.base.start
  pub behind : c.base.position < log.seqno
  pub begun : log.start ≤ log.next
  pub room : log.next + busy log.phase ≤ log.start + log.cells
  pub items : HasItems c.base.position log.start log
  pub goal : HasGoal c.base.position (durable_of log) log.start log.next (stage_of c)
  pub behind_goal : HasItemsBehind (stage_of c) log
  pub follow : SeqnosFrom log.seqno block
  pub fits : fitting [] block ≡ length block
  pub few : length block ≤ MAX_RECORDS
  pub whole : IsWhole log.phase block
  pub limit : log.seqno + length block ≤ MAX_SEQNO + 1
  pub undefined : IsTrue (is_nil_bytes c.base.uuid) → (log.seqno ≡ 1) × (block ≡ [])
  pub within : AreWithin c.base.position (durable_of log + length block) kept
