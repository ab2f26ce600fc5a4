-- Certifiers of an order.
use Rattle.std.specs.Prelude.{◌≡◌, ℕ, ◌+◌, ◌≤◌, [], ◌∷◌, ◌++◌, length, take}
use Rattle.rep_types.specs.declared.item.Item.{Item}
use Rattle.rep_types.specs.Settings.{Setting}
use Rattle.rep_types.specs.Reaches.{reach}
use Rattle.rep_types.specs.Order.{Order, verdict, window}
use Rattle.rep_cert.specs.Holdings.{Holding, IsAskable, IsOfPosition, Admits, window_of, verdict_of, made_at}

-- What is held is that of the order: as many items came, and each window that can be asked for is the order's at that position.
pub record Follows (h : Holding) (L : Order) : Type 0 where
  pub made : h.made ≤ h.delivered
  pub delivered : h.delivered ≡ length L
  pub windows : (k : ℕ) → IsAskable h k → window_of h k ≡ window h.setting (take k L)

-- The window after an order has the form of one at its end. A certifier that is made with it holds that whole window, as far back as
-- the order's reaches, and follows the order.
pub record FollowsFromTheStart : Type 0 where
  pub form : (p : Setting) (L : Order) → IsOfPosition (length L) (window p L)
  pub whole : (p : Setting) (L : Order) → (made_at p (length L) (window p L)).entries ≡ (window p L).entries
  pub reaches : (p : Setting) (L : Order) → (made_at p (length L) (window p L)).reaches ≡ reach p L ∷ []
  pub follows : (p : Setting) (L : Order) → Follows (made_at p (length L) (window p L)) L

-- A certifier that follows an order and admits one more item follows the order with that item at its end.
abbrev pub FollowsOn : Type 0
FollowsOn = (h new : Holding) (i : Item) (L : Order) → Follows h L → Admits h i new → Follows new (L ++ i ∷ [])

-- The verdict of a certifier that follows an order is the order's.
abbrev pub JudgesAsTheOrder : Type 0
JudgesAsTheOrder = (h : Holding) (i : Item) (L : Order) → Follows h L → verdict_of h i ≡ verdict h.setting (L ++ i ∷ []) (length L + 1)
