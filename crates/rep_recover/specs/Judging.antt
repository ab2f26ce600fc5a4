-- Items that are judged again behind a base.
use Rattle.std.specs.Prelude.{◌≡◌, ℕ, ◌+◌, ◌-◌, ◌≤◌, Bool, true, false, List, length, map, take, Option, None}
use Rattle.rep_types.specs.declared.key.Key.{Key}
use Rattle.rep_types.specs.declared.judged.Judged.{Judged}
use Rattle.rep_types.specs.Windows.{Window as WindowOf}
use Rattle.rep_types.specs.Settings.{Setting}
use Rattle.rep_types.specs.Items.{writes_of}
use Rattle.rep_types.specs.Order.{State, counts}
use Rattle.rep_versions.specs.Versions.{Kept, IsAdded}
use Rattle.rep_versions.specs.Following.{AreVersionsOf, effect_of}
use Rattle.rep_cert.specs.Holdings.{Holding, Admits, IsAskable, window_of, verdict_of}
use Rattle.rep_engine.specs.Checking.{HoldsWindows}
use Rattle.rep_steps.specs.Nodes.{reached}
use Rattle.rep_steps.specs.Images.{AreJudgedFrom}

-- a base: its position, its window and its rows
abbrev pub base_with : ℕ → WindowOf → (Key → Option (List ℕ)) → State
base_with position window content = record { position = position; content = content; kept = window }

-- a base whose rows nothing is said of: no verdict and no window depends on them
abbrev pub bare : ℕ → WindowOf → State
bare position window = base_with position window (λ key. None)

-- The item is the next: it has the next seqno, and the verdict that judging it gives.
pub record IsNext (h : Holding) (j : Judged) : Type 0 where
  pub seqno : j.seqno ≡ h.delivered + 1
  pub verdict : j.verdict ≡ verdict_of h j.item

-- The versions with what an item wrote, if it counts.
abbrev pub Notes : Bool → Judged → Kept → Kept → Type 0
Notes true j before after = IsAdded j.seqno (writes_of j.item) before after
Notes false j before after = after ≡ before

-- The item is taken as the next: the certifier admits it, and what it wrote is noted, if it commits.
pub record Judges (h : Holding) (kept : Kept) (j : Judged) (after : Holding) (later : Kept) : Type 0 where
  pub next : IsNext h j
  pub admitted : Admits h j.item after
  pub noted : Notes (counts j) j kept later
  pub windows : h.made ≤ h.delivered → HoldsWindows h → HoldsWindows after

-- These items were judged again behind a base, one after another: each has the next seqno and the verdict that judging it gives.
-- What the certifier then holds are the windows from the base on, and the versions are those of the items.
pub record HasJudged (p : Setting) (S : State) (items : List Judged) (h : Holding) (kept : Kept) : Type 0 where
  pub setting : h.setting ≡ p
  pub made : h.made ≡ S.position
  pub delivered : h.delivered ≡ S.position + length items
  pub judged : AreJudgedFrom p S items
  pub windows : (k : ℕ) → IsAskable h k → window_of h k ≡ (reached p S (take (k - S.position) items)).kept
  pub versions : AreVersionsOf S.position (map effect_of items) kept
