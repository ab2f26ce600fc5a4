-- What a certifier holds, and what one more item makes of it.
use Rattle.std.specs.Prelude.{◌≡◌, ℕ, ◌+◌, ◌-◌, ◌≤◌, nat_le, List, [], ◌∷◌, length, slice_index_or, filter, max, All, Option}
use Rattle.rep_types.specs.declared.limits.TheConstants.{MAX_AHEAD}
use Rattle.rep_types.specs.declared.item.Item.{Item}
use Rattle.rep_types.specs.declared.reach.Reach.{Reach}
use Rattle.rep_types.specs.declared.verdict.Verdict.{Verdict}
use Rattle.rep_types.specs.Settings.{Setting}
use Rattle.rep_types.specs.Entries.{Entry}
use Rattle.rep_types.specs.Windows.{Window}
use Rattle.rep_types.specs.Order.{recent, judge, window_after}

-- What a certifier holds: its parameters, the position that it was made at, how many items came by now, how far back the windows
-- that can be asked for reach, the present one last, and the committed write sets of these windows.
pub record Holding : Type 0 where
  pub setting : Setting
  pub made : ℕ
  pub delivered : ℕ
  pub reaches : List Reach
  pub entries : List Entry

-- The positions whose windows can be asked for: none below the one that it was made at, and none more than MAX_AHEAD items
-- back, since a node is never further ahead of its durable position.
pub record IsAskable (h : Holding) (k : ℕ) : Type 0 where
  pub made : h.made ≤ k
  pub near : h.delivered ≤ k + MAX_AHEAD
  pub past : k ≤ h.delivered

-- the entries up to the seqno k
abbrev pub upto : ℕ → List Entry → List Entry
upto k es = filter (λ (e : Entry). nat_le e.seqno k) es

-- what stands where a list has no reach
abbrev pub no_reach : Reach
no_reach = record { size = 0; floor = 0 }

-- the reach that stands so many places before the last
abbrev pub back : List Reach → ℕ → Reach
back reaches places = slice_index_or reaches (length reaches - places - 1) no_reach

-- how far back the window at the position k reaches
abbrev pub reach_at : Holding → ℕ → Reach
reach_at h k = back h.reaches (h.delivered - k)

-- the window at the position k that reaches so far, among these entries
abbrev pub spanned : Reach → ℕ → List Entry → Window
spanned r k es = record { size = r.size; floor = r.floor; entries = recent r.floor (upto k es) }

-- the window at the position k
abbrev pub window_of : Holding → ℕ → Window
window_of h k = spanned (reach_at h k) k h.entries

-- the verdict on the item, were it the next
abbrev pub verdict_of : Holding → Item → Verdict
verdict_of h i = judge h.setting h.delivered (window_of h h.delivered) i

-- One more item: the next window is the one after it, and the windows before it stay, those that can still be asked for.
pub record Admits (h : Holding) (i : Item) (new : Holding) : Type 0 where
  pub setting : new.setting ≡ h.setting
  pub made : new.made ≡ h.made
  pub delivered : new.delivered ≡ h.delivered + 1
  pub next : window_of new new.delivered ≡ window_after h.setting h.delivered (window_of h h.delivered) i
  pub kept : (k : ℕ) → IsAskable new k → k ≤ h.delivered → window_of new k ≡ window_of h k

-- what a certifier holds now, and what it held before the last item where that can be undone
pub record Holdings : Type 0 where
  pub current : Holding
  pub before : Option Holding

-- A reach of this size at a position: its floor is raised to what the size spans there, where it is below.
abbrev pub raised : ℕ → ℕ → ℕ → Reach
raised size floor position = record { size = size; floor = max floor (position + 1 - size) }

-- What a certifier holds that is made at a position with a window: its floor is raised to what its size spans there, and of its
-- entries those from the floor up to the position are held, in the given order.
abbrev pub made_at : Setting → ℕ → Window → Holding
made_at p position v =
    let r = raised v.size v.floor position in
    record { setting = p; made = position; delivered = position; reaches = r ∷ []; entries = recent r.floor (upto position v.entries) }

-- A window has the form of one at the position: its floor is not below what its size spans there, and its entries are of seqnos
-- from the floor up to the position.
pub record IsOfPosition (position : ℕ) (v : Window) : Type 0 where
  pub spans : position + 1 ≤ v.floor + v.size
  pub entries : All (λ (e : Entry). (v.floor ≤ e.seqno) × (e.seqno ≤ position)) v.entries

-- A certifier that is made at a position with a window gives what the position leaves of it, and the window itself where it has
-- the form of one there.
pub record GivesItsWindow : Type 0 where
  pub made : (p : Setting) (position : ℕ) (v : Window) →
      window_of (made_at p position v) position ≡ spanned (raised v.size v.floor position) position v.entries
  pub whole : (p : Setting) (position : ℕ) (v : Window) → IsOfPosition position v → window_of (made_at p position v) position ≡ v
