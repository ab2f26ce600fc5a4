-- What reading and the grammar have to do with each other.
use Rattle.std.specs.Prelude.{◌≡◌, ◌↔◌, ℕ, List, Some}
use Rattle.rep_types.specs.declared.item.Item.{Item}
use Rattle.rep_types.specs.declared.item.SetWindow.{SetWindow}
use Rattle.rep_types.specs.Transactions.{Transaction}
use Rattle.rep_types.specs.Settings.{Setting}
use Rattle.rep_record.specs.Grammar.{IsItemLine, IsChangeLine, IsOrderLine, IsParamsLine}
use Rattle.rep_record.specs.Reading.{item_form, change_form, order_form, params_form}

-- Of each line just that is read which the grammar says that it says, so no line says two things, nor items of both kinds.
pub record ReadingIsTheGrammar : Type 0 where
  pub items : (line : List ℕ) (w : Transaction) → (item_form line ≡ Some w) ↔ IsItemLine line w
  pub one_item : (line : List ℕ) (v w : Transaction) → IsItemLine line v → IsItemLine line w → v ≡ w
  pub changes : (line : List ℕ) (c : SetWindow) → (change_form line ≡ Some c) ↔ IsChangeLine line c
  pub one_change : (line : List ℕ) (c d : SetWindow) → IsChangeLine line c → IsChangeLine line d → c ≡ d
  pub order : (line : List ℕ) (i : Item) → (order_form line ≡ Some i) ↔ IsOrderLine line i
  pub one_of_order : (line : List ℕ) (i j : Item) → IsOrderLine line i → IsOrderLine line j → i ≡ j
  pub params : (line : List ℕ) (p : Setting) → (params_form line ≡ Some p) ↔ IsParamsLine line p
  pub one_setting : (line : List ℕ) (p q : Setting) → IsParamsLine line p → IsParamsLine line q → p ≡ q
