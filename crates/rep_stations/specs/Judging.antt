-- The one history of a node that threads run, and the certifier that judges it (certification: Pedone, Guerraoui and Schiper 2003).
use Rattle.std.specs.Prelude.{◌≡◌, ℕ, ◌+◌, ◌-◌, ◌≤◌, List, length, take, None}
use Rattle.rep_types.specs.declared.item.Item.{Item}
use Rattle.rep_types.specs.declared.judged.Judged.{Judged}
use Rattle.rep_types.specs.Windows.{Window}
use Rattle.rep_types.specs.Order.{State, judged_next}
use Rattle.rep_cert.specs.Holdings.{Holding, IsAskable, window_of}
use Rattle.rep_steps.specs.Nodes.{reached}
use Rattle.rep_steps.specs.Images.{AreJudgedFrom}
use Rattle.rep_engine.specs.Checking.{HoldsWindows}

-- the next item with its seqno and its verdict, as the certifier judges it
abbrev pub next_of : Holding → Item → Judged
next_of h i = judged_next h.setting h.delivered (window_of h h.delivered) i

-- Where a certifier stands, as a state: its position and its window. No row decides a verdict, so it has none.
abbrev pub start_of : Holding → State
start_of h = record { position = h.delivered; content = λ _. None; kept = window_of h h.delivered }

-- A legal history behind what the first certifier held: each item, of either kind, has the next seqno, and the verdict that judging it
-- gives behind those before it.
abbrev pub Legal : Holding → List Judged → Type 0
Legal first items = AreJudgedFrom first.setting (start_of first) items

-- the window at a position, in the history behind what the first certifier held
abbrev pub window_in : Holding → List Judged → ℕ → Window
window_in first items k = (reached first.setting (start_of first) (take (k - first.delivered) items)).kept

-- A certifier has judged these items behind what the first one held, and nothing else. Each window that it can be asked for is the first
-- one's up to there, and the history's behind it; and where the first one's could all be written, so can these.
pub record HasJudged (first : Holding) (items : List Judged) (h : Holding) : Type 0 where
  pub setting : h.setting ≡ first.setting
  pub made : h.made ≡ first.made
  pub start : first.made ≤ first.delivered
  pub delivered : h.delivered ≡ first.delivered + length items
  pub before : (k : ℕ) → IsAskable h k → k ≤ first.delivered → window_of h k ≡ window_of first k
  pub behind : (k : ℕ) → IsAskable h k → first.delivered ≤ k → window_of h k ≡ window_in first items k
  pub windows : HoldsWindows first → HoldsWindows h
