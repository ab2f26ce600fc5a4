-- The grammar of a whole order text, apart from how a text is read, and what reading and the grammar have to do with each other.
use Rattle.std.specs.Prelude.{◌≡◌, ◌↔◌, ℕ, ◌≤◌, not, IsTrue, List, ◌∷◌, length, map, filter, None}
use Rattle.std.specs.List.{AllByRecursion, AllZip}
use Rattle.rep_types.specs.declared.item.Item.{Item}
use Rattle.rep_types.specs.declared.item.Item.TheVariants.{WriteSet, SetWindow}
use Rattle.rep_types.specs.Transactions.{IsWithinLimits}
use Rattle.rep_types.specs.Settings.{Setting, is_setting}
use Rattle.rep_types.specs.Windows.{is_window_size}
use Rattle.rep_types.specs.Order.{Order}
use Rattle.rep_record.specs.Words.{is_blank}
use Rattle.rep_record.specs.Lines.{raw_lines, without_feed}
use Rattle.rep_record.specs.Grammar.{IsItemLine, IsChangeLine, IsParamsLine}
use Rattle.rep_script.specs.Judging.{reading}

-- the lines with words of a text, without their line feeds
abbrev pub contents : List ℕ → List (List ℕ)
contents text = filter (λ (line : List ℕ). not (is_blank line)) (map without_feed (raw_lines text))

-- A line of an item within its limits: those of a write set, or those of a window's size.
abbrev pub IsItem : List ℕ → Item → Type 0
IsItem line (WriteSet w) = IsItemLine line w × IsWithinLimits w
IsItem line (SetWindow c) = IsChangeLine line c × IsTrue (is_window_size c.size)

-- The first of these lines is a params line within the limits, and each further one is an item.
pub record AreOrderLines (lines : List (List ℕ)) (p : Setting) (L : Order) : Type 0 where
  pub params : List ℕ
  pub items : List (List ℕ)
  pub whole : lines ≡ params ∷ items
  pub is_params : IsParamsLine params p
  pub allowed : IsTrue (is_setting p)
  pub are_items : AllZip IsItem items L

-- An order text: at most 67,108,864 bytes, lines of at most 4,096 bytes; those with words are a params line and items.
pub record IsOrderText (text : List ℕ) (p : Setting) (L : Order) : Type 0 where
  pub small : length text ≤ 67108864
  pub short : AllByRecursion (λ (raw : List ℕ). length (without_feed raw) ≤ 4096) (raw_lines text)
  pub lines : AreOrderLines (contents text) p L

-- A text is read without a fault exactly where it is an order text, and as what it is; and no text is two order texts.
pub record ReadingIsTheTextGrammar : Type 0 where
  pub reads : (text : List ℕ) (p : Setting) (L : Order) → (reading text ≡ record { setting = p; order = L; fault = None }) ↔ IsOrderText text p L
  pub one : (text : List ℕ) (p q : Setting) (L M : Order) → IsOrderText text p L → IsOrderText text q M → (p ≡ q) × (L ≡ M)
