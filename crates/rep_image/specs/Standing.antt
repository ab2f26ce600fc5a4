-- How a base that stands still lies on a device, beside its log, and what every image then means.
use Rattle.std.specs.Prelude.{◌≡◌, ℕ, ◌+◌, List, [], length, Option}
use Rattle.rep_types.specs.declared.judged.Judged.{Judged}
use Rattle.rep_types.specs.Windows.{Window as Kept}
use Rattle.rep_layout.specs.declared.super_body.SuperBody.{SuperBody}
use Rattle.rep_layout.specs.declared.place.Place.TheVariants.{Super, Window, Page}
use Rattle.rep_layout.specs.Places.{side_of, layout_of}
use Rattle.rep_layout.specs.Supers.{IsNil, super_bytes}
use Rattle.rep_layout.specs.Windows.{window_bytes, IsWindowBody, beside}
use Rattle.rep_steps.specs.Readings.{reading_of}
use Rattle.rep_steps.specs.CellStates.{States, Opened, Stable, Allows, Allowed}
use Rattle.rep_steps.specs.Tail.{records_of}
use Rattle.rep_steps.specs.LogStanding.{Standing, LogIs}
use Rattle.rep_steps.specs.LogLaws.{MayHold}
use Rattle.rep_steps.specs.Images.{Meaning, AreJudgedFrom}
use Rattle.rep_image.specs.Bases.{other, IsSuperAt, IsLesser, HaveContent}
use Rattle.rep_image.specs.Meanings.{Means}

-- The superblock stands open, and what the other one's cell may read as is lesser; its window is stable.
pub record IsBaseAt (size : ℕ) (b : SuperBody) (v : Kept) (s : States) : Type 0 where
  pub is_super : IsSuperAt size (side_of b.number) b
  pub opened : s (Super (side_of b.number)) ≡ Opened (super_bytes b)
  pub lesser : (reading : Option (List ℕ)) → Allows (s (Super (other (side_of b.number)))) reading → IsLesser size (other (side_of b.number)) b.number reading
  pub saved : s (Window (side_of b.number)) ≡ Stable (window_bytes (beside b v))
  pub is_window : IsWindowBody b.params (beside b v)

-- What stands on a device: a base with its pages, which are stable, and a log that begins behind it.
pub record Stands (size : ℕ) (b : SuperBody) (m : Meaning) (log : Standing) (blocks : List (List Judged)) (sealed : List Judged) (s : States) : Type 0 where
  pub uuid : m.uuid ≡ b.uuid
  pub setting : m.setting ≡ b.params
  pub position : m.base.position ≡ b.position
  pub base : IsBaseAt size b m.base.kept s
  pub content : HaveContent b (λ number slot body. s (Page number slot) ≡ Stable body) m.base.content
  pub start : log.start ≡ b.start
  pub log_is : LogIs (layout_of b.params) log (b.position + 1) blocks sealed s

-- the meaning with these blocks of items behind its base
abbrev pub with_blocks : Meaning → List (List Judged) → Meaning
with_blocks m held = record m { tail = records_of held }

-- What stands means in each image the base, with the durable blocks or, while a gate opens, those with the block behind it, where
-- these are judged from the base on, and there is none without a cluster.
abbrev pub ImagesMeanWhatStands : Type 0
ImagesMeanWhatStands =
    (image : List ℕ) (b : SuperBody) (m : Meaning) (log : Standing) (blocks : List (List Judged)) (sealed : List Judged) (s : States)
    → Stands (length image) b m log blocks sealed s → Allowed (layout_of b.params) s (reading_of (layout_of b.params) image)
    → (held : List (List Judged)) × MayHold log.phase blocks sealed held
    × ((IsNil b.uuid → held ≡ []) → AreJudgedFrom m.setting m.base (records_of held) → Means image (with_blocks m held))
