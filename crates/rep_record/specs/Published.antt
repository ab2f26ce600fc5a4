-- The items of an order into which anybody may write: each text of it is an item, so that none stops a node (this project).
use Rattle.std.specs.Prelude.{◌≡◌, ℕ, ◌<◌, ◌≤◌, nat_lt, if◌then◌else◌, List, [], ◌∷◌, length, Result, Ok, Err, IsTrue}
use Rattle.rep_types.specs.declared.item.Item.{Item}
use Rattle.rep_types.specs.declared.item.Item.TheVariants.{WriteSet}
use Rattle.rep_types.specs.declared.refusal.Refusal.{Refusal}
use Rattle.rep_types.specs.declared.verdict.Verdict.TheVariants.{BadKey}
use Rattle.rep_types.specs.Transactions.{transaction}
use Rattle.rep_types.specs.Items.{IsWithin}
use Rattle.rep_types.specs.Settings.{Setting, is_setting}
use Rattle.rep_types.specs.Entries.{Entry}
use Rattle.rep_types.specs.Order.{verdict_on}
use Rattle.rep_record.specs.declared.text_reader.TheConstants.{MAX_LINE}
use Rattle.rep_record.specs.Grammar.{IsOrderLine}
use Rattle.rep_record.specs.Reading.{delete, order_line}

-- The item that has no effect, `item 0 w 255/0-`: a delete of a row that no schema has.
abbrev pub no_effect : Item
no_effect = WriteSet (transaction 0 0 0 [] (delete (record { table = 255; row = 0 }) ∷ []))

-- an item that was read, or else that one
abbrev pub or_no_effect : Result Item Refusal → Item
or_no_effect (Ok i) = i
or_no_effect (Err refusal) = no_effect

-- The item that a text is: that of a line of an order text which is not too long, and any other text is the item that has no effect. It is
-- as fixed as a byte of the disk: a node that read more texts as items would have other rows than the nodes that don't.
abbrev pub published : List ℕ → Item
published text = if nat_lt MAX_LINE (length text) then no_effect else or_no_effect (order_line 0 text)

-- The same in the words of the grammar: the text is a line of this item, which is within its limits, and it has at most 4,096 bytes.
pub record IsPublished (text : List ℕ) (i : Item) : Type 0 where
  pub short : length text ≤ MAX_LINE
  pub line : IsOrderLine text i
  pub within : IsWithin i

-- Under any parameters the item that has no effect is one of a bad key, wherever it stands in an order.
abbrev pub HasNoEffect : Item → Type 0
HasNoEffect i = (p : Setting) (lowest n : ℕ) (entries : List Entry) → IsTrue (is_setting p) → 0 < n → verdict_on p lowest n entries i ≡ BadKey
