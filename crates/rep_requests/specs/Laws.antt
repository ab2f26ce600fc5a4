-- What the lines of a text have to do with the items of an order.
use Rattle.std.specs.Prelude.{◌≡◌, ◌⊎◌, ℕ, ◌<◌, ◌^◌, true, false, List, ◌∷◌, ◌++◌, take}
use Rattle.std.specs.Fmt.{decimal}
use Rattle.rep_types.specs.declared.item.Item.{Item}
use Rattle.rep_record.specs.Published.{published}
use Rattle.rep_requests.specs.Requests.{Published, Broken, begins_with_digit, requested}

-- The line is an item of the order: some text behind a seqno.
pub record IsItemLine (number : ℕ) (line : List ℕ) : Type 0 where
  pub seqno : ℕ
  pub text : List ℕ
  pub is : requested number line ≡ Published seqno (published text)

-- A line that begins with a digit is an item, or it ends the node; any other is no item of an order that others write to. What is written of an
-- item, its seqno and its text, is read as that, whatever the text is. Of a line the first 8,192 bytes say all.
pub record NumbersAreItems : Type 0 where
  pub digit : (number : ℕ) (line : List ℕ) → begins_with_digit line ≡ true → IsItemLine number line ⊎ (requested number line ≡ Broken)
  pub other : (number : ℕ) (line : List ℕ) (seqno : ℕ) (i : Item) → begins_with_digit line ≡ false → requested number line ≡ Published seqno i → ⊥
  pub written : (number seqno : ℕ) (text : List ℕ) → seqno < 2 ^ 64 → requested number (decimal seqno ++ 32 ∷ text) ≡ Published seqno (published text)
  pub clipped : (number : ℕ) (line : List ℕ) → requested number (take 8192 line) ≡ requested number line
