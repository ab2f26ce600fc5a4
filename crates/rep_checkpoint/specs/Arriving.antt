-- A node on a device beside which a snapshot is installed: what every image means, and what the snapshot makes of the node.
use Rattle.std.specs.Prelude.{◌≡◌, ◌⊎◌, ℕ, ◌+◌, true, false, List, [], length}
use Rattle.rep_types.specs.declared.judged.Judged.{Judged}
use Rattle.rep_types.specs.Order.{State}
use Rattle.rep_layout.specs.declared.place.Place.TheVariants.{Super, Log as LogCell}
use Rattle.rep_layout.specs.declared.place.Side.{Side}
use Rattle.rep_layout.specs.declared.place.Side.TheVariants.{A, B}
use Rattle.rep_layout.specs.Places.{layout_of}
use Rattle.rep_cells.specs.Readings.{reading_of}
use Rattle.rep_cells.specs.States.{States, Closed, Allowed, Syncs}
use Rattle.rep_log.specs.declared.phase.Phase.TheVariants.{Resting}
use Rattle.rep_log.specs.Standing.{Standing as Log}
use Rattle.rep_log.specs.Moves.{SyncsLog, Restarts, restarted, after_sync as log_after_sync}
use Rattle.rep_steps.specs.Standings.{Retiring}
use Rattle.rep_steps.specs.Nodes.{Node, IsNode}
use Rattle.rep_steps.specs.Images.{Meaning, IsEndOf}
use Rattle.rep_image.specs.Meanings.{Means}
use Rattle.rep_checkpoint.specs.declared.stage.Part.TheVariants.{SuperOpening}
use Rattle.rep_checkpoint.specs.declared.stage.Stage.TheVariants.{Off}
use Rattle.rep_checkpoint.specs.Standing.{Standing, spare_side}
use Rattle.rep_checkpoint.specs.Moves.{found_at}
use Rattle.rep_checkpoint.specs.Nodes.{StandsAs}
use Rattle.rep_checkpoint.specs.Coming.{Coming, InstallationIs, blank, settled}
use Rattle.rep_checkpoint.specs.Installing.{BeginsToInstall}

-- the states, with the cell of this side's superblock closed
abbrev pub shut : States → Side → States
shut s A (Super A) = Closed
shut s B (Super B) = Closed
shut s side place = s place

-- What a node is stands on a device, as it would with the other superblock's cell closed; its log rests; and beside its base a snapshot
-- is as far as it says, and brings y, whose first cell is the log's next one.
pub record InstallsAs (n : Node) (size : ℕ) (c : Standing) (i : Coming) (y : State) (log : Log) (blocks : List (List Judged)) (sealed : List Judged) (s : States) : Type 0 where
  pub off : c.stage ≡ Off
  pub stands : StandsAs n size c log blocks sealed (shut s (spare_side c.base))
  pub resting : log.phase ≡ Resting
  pub start : i.next.super.start ≡ log.next
  pub installation : InstallationIs size c.base i n.base y s

-- what an image means that has it as its base: the snapshot, and nothing behind it
abbrev pub brought : Coming → State → Meaning
brought i y = record { uuid = i.next.super.uuid; setting = i.next.super.params; base = y; tail = [] }

-- the node that it makes: the snapshot's cluster, position and state, and no item behind it
abbrev pub installed : Node → Coming → State → Node
installed n i y = record n {
  facts = record n.facts { uuid = i.next.super.uuid; base = i.next.super.position; durable = i.next.super.position; start = n.facts.next; stage = Retiring false };
  base = y;
  items = [];
}

-- Each image means what it may mean of the node, or, while the snapshot's gate opens, the snapshot, whole.
abbrev pub InstallationsLeaveTheOldOrTheNew : Type 0
InstallationsLeaveTheOldOrTheNew =
    (image : List ℕ) (n : Node) (c : Standing) (i : Coming) (y : State) (log : Log) (blocks : List (List Judged)) (sealed : List Judged) (s : States)
    → IsNode n → InstallsAs n (length image) c i y log blocks sealed s → Allowed (layout_of c.base.params) s (reading_of (layout_of c.base.params) image)
    → IsEndOf Means n image ⊎ ((i.part ≡ SuperOpening) × Means image (brought i y))

-- What then stands is the node that it makes.
pub record Arrives (m : Node) (size : ℕ) (c : Standing) (log : Log) (t : States) : Type 0 where
  pub node : IsNode m
  pub stands : StandsAs m size c log [] [] t

-- A sync that succeeds leaves the node as it stands, with the snapshot further on; and where its gate was opened, the node that the
-- snapshot makes stands there, with a log that is empty.
pub record InstallationsMakeTheNode : Type 0 where
  pub goes_on : (n : Node) (size : ℕ) (c : Standing) (i : Coming) (y : State) (log synced : Log) (blocks : List (List Judged)) (sealed : List Judged) (s t : States)
      → (i.part ≡ SuperOpening → ⊥) → InstallsAs n size c i y log blocks sealed s → Syncs s t → synced ≡ log_after_sync log → SyncsLog log synced → InstallsAs n size c (settled i) y synced blocks sealed t
  pub ends : (n : Node) (size : ℕ) (c : Standing) (i : Coming) (y : State) (log synced next : Log) (blocks : List (List Judged)) (sealed : List Judged) (s t : States)
      → i.part ≡ SuperOpening → IsNode n → n.facts.ahead ≡ [] → InstallsAs n size c i y log blocks sealed s → Syncs s t → synced ≡ log_after_sync log → SyncsLog log synced
      → next ≡ restarted (i.next.super.position + 1) synced → Restarts (i.next.super.position + 1) synced next → Arrives (installed n i y) size (found_at i.next.super true) next t

-- Until its superblock is written it can be dropped: the node stands as it did.
abbrev pub InstallationsCanBeDropped : Type 0
InstallationsCanBeDropped =
    (n : Node) (size : ℕ) (c : Standing) (i : Coming) (y : State) (log : Log) (blocks : List (List Judged)) (sealed : List Judged) (s : States)
    → s (Super (spare_side c.base)) ≡ Closed → InstallsAs n size c i y log blocks sealed s → StandsAs n size c log blocks sealed s

-- It begins beside a node whose log rests; and what a call makes of the snapshot's places, with the log's as they were, leaves the node
-- as it stands.
pub record InstallationsStandBeside : Type 0 where
  pub begins : (n : Node) (size : ℕ) (c : Standing) (i : Coming) (log : Log) (blocks : List (List Judged)) (sealed : List Judged) (s : States)
      → c.stage ≡ Off → log.phase ≡ Resting → i.next.super.start ≡ log.next → BeginsToInstall c i → StandsAs n size c log blocks sealed s
      → InstallsAs n size c i (blank i.next.super.position i.next.window) log blocks sealed s
  pub goes_on : (n : Node) (size : ℕ) (c : Standing) (i k : Coming) (y z : State) (log : Log) (blocks : List (List Judged)) (sealed : List Judged) (s t : States)
      → ((j : ℕ) → t (LogCell j) ≡ s (LogCell j)) → k.next.super.start ≡ i.next.super.start → InstallationIs size c.base k n.base z t → InstallsAs n size c i y log blocks sealed s
      → InstallsAs n size c k z log blocks sealed t
