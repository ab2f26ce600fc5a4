-- What a node goes on with: the engine and the certifier that are made of what an opening finds.
use Rattle.std.specs.Prelude.{◌≡◌, ◌⊎◌, ℕ, ◌≤◌, Bool, false, is_some, List, [], None, IsTrue}
use Rattle.uuid.specs.Parts.{is_nil_bytes}
use Rattle.rep_types.specs.declared.judged.Judged.{Judged}
use Rattle.rep_disk.specs.declared.disk.Disk.{Ghosts}
use Rattle.rep_disk.specs.History.{History, Synced, seen}
use Rattle.rep_layout.specs.declared.super_body.SuperBody.{SuperBody}
use Rattle.rep_layout.specs.declared.place.Layout.{Layout}
use Rattle.rep_layout.specs.declared.place.Place.TheVariants.{Super}
use Rattle.rep_layout.specs.Places.{side_of}
use Rattle.rep_cells.specs.Readings.{reading_of}
use Rattle.rep_versions.specs.Versions.{Kept}
use Rattle.rep_log.specs.declared.phase.Phase.TheVariants.{Resting}
use Rattle.rep_log.specs.Standing.{Standing as Log}
use Rattle.rep_cert.specs.Holdings.{Holding, IsAskable, window_of}
use Rattle.rep_steps.specs.Nodes.{Node, window_at}
use Rattle.rep_steps.specs.Images.{Meaning, opened, OpensTheOrder}
use Rattle.rep_engine.specs.Bases.{IsSuperAt}
use Rattle.rep_engine.specs.Meanings.{Means}
use Rattle.rep_engine.specs.Stage.TheVariants.{Off, Retiring}
use Rattle.rep_engine.specs.CheckpointStanding.{spare_side}
use Rattle.rep_engine.specs.CheckpointMoves.{stage_found, found_at}
use Rattle.rep_engine.specs.Engines.{Engine, facts_of, durable_of}
use Rattle.rep_engine.specs.Holding.{Holds}
use Rattle.rep_recover.specs.Opening.{IsOpened}

-- the engine of what was found: its checkpoint is at the base, nothing is gathered, and it isn't stopped
abbrev pub engine_of : {D : Type 0} → D → Layout → SuperBody → Bool → Log → Kept → Engine D
engine_of disk l b both log kept = record { disk = disk; layout = l; checkpoint = found_at b both; log = log; kept = kept; block = []; halted = None }

-- On any device of this size: an engine that has gathered nothing and isn't stopped, whose log is at rest, over a superblock that can
-- stand on its side, with no next base on its way; and a certifier of its parameters that was made at the base and to which all that
-- is durable was delivered. Without a cluster nothing is durable. Log, certifier and versions are those of the items that were found
-- behind the base.
pub record IsStart {D : Type 0} (size : ℕ) (e : Engine D) (h : Holding) : Type 0 where
  pub is_super : IsSuperAt size (side_of e.checkpoint.base.number) e.checkpoint.base
  pub still : (e.checkpoint.stage ≡ Off) ⊎ (e.checkpoint.stage ≡ Retiring false)
  pub running : e.halted ≡ None
  pub empty : e.block ≡ []
  pub resting : e.log.phase ≡ Resting
  pub undefined : IsTrue (is_nil_bytes e.checkpoint.base.uuid) → durable_of e.log ≡ 0
  pub setting : h.setting ≡ e.checkpoint.base.params
  pub made : h.made ≡ e.checkpoint.base.position
  pub delivered : h.delivered ≡ durable_of e.log
  pub based : h.made ≤ durable_of e.log
  pub items : List Judged
  pub found : IsOpened size e.checkpoint.base e.layout e.log items h e.kept

-- the node that an engine is, where this is what its device's bytes mean
abbrev pub node_of : {D : Type 0} → Ghosts D → Engine D → (ℕ → Bool) → Meaning → Node
node_of g e gates meaning = opened (facts_of g e) gates meaning

-- On an honest device: it was synced, and nothing else; by the engine's superblock its bytes mean something, and what opening makes of
-- that is a node, of the order that the bytes stand for; the engine stands for that node, and the certifier's windows are the node's.
pub record OpensNode {D : Type 0} (g : Ghosts D) (old : History) (e : Engine D) (h : Holding) : Type 0 where
  pub synced : g.history e.disk ≡ Synced old
  pub meaning : Meaning
  pub means : Means (seen old) meaning
  pub super_is : means.super ≡ e.checkpoint.base
  pub other_is : e.checkpoint.stage ≡ stage_found (is_some (reading_of e.layout (seen old) (Super (spare_side e.checkpoint.base))))
  pub gates : ℕ → Bool
  pub opens : OpensTheOrder (facts_of g e) gates meaning
  pub holds : Holds g (node_of g e gates meaning) e
  pub windows : (k : ℕ) → IsAskable h k → window_of h k ≡ window_at (node_of g e gates meaning) k
