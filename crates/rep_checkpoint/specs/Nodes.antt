-- How a node stands on a device while its base moves, and what every image then means.
use Rattle.std.specs.Prelude.{◌≡◌, ℕ, ◌+◌, ◌-◌, ◌≤◌, List, [], length, map, take, None}
use Rattle.rep_types.specs.declared.key.Key.{Key}
use Rattle.rep_types.specs.declared.judged.Judged.{Judged}
use Rattle.rep_types.specs.Settings.{IsRow}
use Rattle.rep_types.specs.Order.{State}
use Rattle.rep_layout.specs.declared.super_body.SuperBody.{SuperBody}
use Rattle.rep_layout.specs.Places.{layout_of}
use Rattle.rep_layout.specs.Supers.{IsNil}
use Rattle.rep_cells.specs.Readings.{reading_of}
use Rattle.rep_cells.specs.States.{States, Allowed, Syncs}
use Rattle.rep_versions.specs.Versions.{Kept, ArePages}
use Rattle.rep_versions.specs.Following.{AreVersionsOf, effect_of}
use Rattle.rep_log.specs.Tail.{records_of}
use Rattle.rep_log.specs.Standing.{Standing as Log, LogIs}
use Rattle.rep_log.specs.Laws.{MayHold}
use Rattle.rep_log.specs.Moves.{SyncsLog, StartsLater, started, after_sync as log_after_sync}
use Rattle.rep_steps.specs.Standings.{underway}
use Rattle.rep_steps.specs.declared.event.Event.TheVariants.{Sync}
use Rattle.rep_steps.specs.Moves.{touched}
use Rattle.rep_steps.specs.Nodes.{Node, IsNode, moved, reached}
use Rattle.rep_steps.specs.Images.{AreJudgedFrom, IsFrontAt, IsEndOf}
use Rattle.rep_image.specs.Meanings.{Means}
use Rattle.rep_checkpoint.specs.declared.stage.Part.{Part}
use Rattle.rep_checkpoint.specs.declared.stage.Stage.TheVariants.{Toward}
use Rattle.rep_checkpoint.specs.Next.{Next}
use Rattle.rep_checkpoint.specs.Standing.{Standing, stage_of}
use Rattle.rep_checkpoint.specs.Moves.{after_sync}
use Rattle.rep_checkpoint.specs.States.{CheckpointIs}
use Rattle.rep_checkpoint.specs.Calls.{SyncsTo, AreAt, AreBehind}

-- A base that the node's items lead to: its superblock says the position behind the first of them and names the state there, and
-- its first cell is the one behind those that hold them. It lies within what is durable.
pub record IsLedTo (n : Node) (log : Log) (blocks : List (List Judged)) (b : SuperBody) (x : State) : Type 0 where
  pub past : ℕ
  pub position : b.position ≡ n.base.position + past
  pub within : b.position ≤ n.facts.durable
  pub state : x ≡ reached n.facts.setting n.base (take past n.items)
  pub cells : ℕ
  pub start : b.start ≡ log.start + cells
  pub few : cells ≤ length blocks
  pub records : records_of (take cells blocks) ≡ take past n.items

-- What a node is stands on a device: the checkpoint at its base, and a next base, where one is under way, that its items lead to; the
-- durable items in the log, and those of the block that is on its way, if there is one. Its items are judged from the base on.
pub record StandsAs (n : Node) (size : ℕ) (c : Standing) (log : Log) (blocks : List (List Judged)) (sealed : List Judged) (s : States) : Type 0 where
  pub uuid : n.facts.uuid ≡ c.base.uuid
  pub setting : n.facts.setting ≡ c.base.params
  pub goal : State
  pub checkpoint : CheckpointIs size c n.base goal s
  pub toward : (next : Next) (part : Part) → c.stage ≡ Toward next part → IsLedTo n log blocks next.super goal
  pub start : log.start ≡ c.base.start
  pub log_is : LogIs (layout_of c.base.params) log (c.base.position + 1) blocks sealed s
  pub phase : log.phase ≡ n.facts.phase
  pub durable : records_of blocks ≡ take (n.facts.durable - n.facts.base) n.items
  pub coming : sealed ≡ take (underway n.facts.phase) n.facts.ahead
  pub judged : AreJudgedFrom n.facts.setting n.base n.items
  pub undefined : IsNil c.base.uuid → (held : List (List Judged)) → MayHold log.phase blocks sealed held → held ≡ []

-- Each image of a node that so stands means a front of it that ends at what is durable, or, where a log's gate is opening, at that
-- with its block. Its base is the node's, or the next one while its superblock's gate opens.
abbrev pub NodesLeaveTheirEnds : Type 0
NodesLeaveTheirEnds =
    (image : List ℕ) (n : Node) (c : Standing) (log : Log) (blocks : List (List Judged)) (sealed : List Judged) (s : States)
    → IsNode n → StandsAs n (length image) c log blocks sealed s → Allowed (layout_of c.base.params) s (reading_of (layout_of c.base.params) image)
    → IsEndOf Means n image

-- So each means a front of it that has what is durable.
abbrev pub NodesLeaveTheirFronts : Type 0
NodesLeaveTheirFronts =
    (image : List ℕ) (n : Node) (c : Standing) (log : Log) (blocks : List (List Judged)) (sealed : List Judged) (s : States)
    → IsNode n → StandsAs n (length image) c log blocks sealed s → Allowed (layout_of c.base.params) s (reading_of (layout_of c.base.params) image)
    → IsFrontAt Means n image

-- A sync makes stable what was written, of the log and of the checkpoint together: where a block's gate was opening the block is
-- durable, and where a superblock's was, its base is the node's, and the log starts at its first cell. So the node after the sync
-- stands there.
abbrev pub NodesSettle : Type 0
NodesSettle =
    (n : Node) (size : ℕ) (c after : Standing) (log synced next : Log) (blocks : List (List Judged)) (sealed : List Judged) (s t : States)
    → IsNode n → n.facts.stage ≡ stage_of c → StandsAs n size c log blocks sealed s → Syncs s t
    → after ≡ after_sync c → SyncsTo c after → synced ≡ log_after_sync log → SyncsLog log synced → next ≡ started after.base.start synced → StartsLater synced next
    → (held : List (List Judged)) × (coming : List Judged) × StandsAs (moved n Sync) size after next held coming t

-- What the versions of a node's items say of the state that the first of them lead to: they lie behind the base, and make its rows
-- those of that state, which has none outside the schema; and the pages with a change up to there are those that the items touched.
pub record LeadsTo (n : Node) (kept : Kept) (past : ℕ) : Type 0 where
  pub behind : AreBehind n.base.position kept
  pub rows : AreAt n.facts.setting.rows kept (n.base.position + past) n.base.content (reached n.facts.setting n.base (take past n.items)).content
  pub pages : (pages : List ℕ) → ArePages kept n.facts.setting.rows n.base.position (n.base.position + past) pages → pages ≡ touched n.facts.setting.rows (take past n.items)

abbrev pub VersionsLeadToTheState : Type 0
VersionsLeadToTheState =
    (n : Node) (kept : Kept) (past : ℕ) → AreJudgedFrom n.facts.setting n.base n.items → ((key : Key) → (IsRow n.facts.setting.rows key → ⊥) → n.base.content key ≡ None)
    → AreVersionsOf n.base.position (map effect_of n.items) kept → LeadsTo n kept past
