-- Texts that are no items.
use Rattle.std.proofs.Common.{◌≡◌, ℕ, Bool, true, false, ◌&&◌, List, length, Option, None, Some, Result, Ok, Err, refl, sym, ap, ◌∙◌}
use Rattle.std.specs.Prelude.{nat_lt, not, if◌then◌else◌}
use Rattle.rep_types.specs.declared.item.Item.{Item}
use Rattle.rep_types.specs.declared.refusal.Refusal.{Refusal}
use Rattle.rep_types.specs.contracts.item.ItemPartialEq.TheImpl as item_eq
use Rattle.rep_record.specs.declared.text_reader.TheConstants.{MAX_LINE}
use Rattle.rep_record.specs.Words.{cut}
use Rattle.rep_record.specs.Reading.{order_line}
use Rattle.rep_record.specs.Published.{no_effect, or_no_effect, published}
use Rattle.rep_requests.specs.Requests.{Published, begins_with_digit, seqno_in, published_as, numbered_by, requested, is_read, is_item, is_unreadable_by, is_unreadable}
use Rattle.rep_requests.proofs.Numbered.{is_published, no_item}

-- a text that is none is taken as the item that has no effect
none_by : (long : Bool) (r : Result Item Refusal) → (not long && is_read r) ≡ false → (if long then no_effect else or_no_effect r) ≡ no_effect
none_by true r none = refl
none_by false (Ok i) none = absurd (let never : true ≡ false = none in cc)
none_by false (Err refusal) none = refl

not_so : (b : Bool) → not b ≡ true → b ≡ false
not_so true is = absurd (let never : false ≡ true = is in cc)
not_so false is = refl

no_text : (text : List ℕ) → is_item text ≡ false → published text ≡ no_effect
no_text text none = none_by (nat_lt MAX_LINE (length text)) (order_line 0 text) none

same_item : (m n : ℕ) (i j : Item) → Published m i ≡ Published n j → i ≡ j
same_item m n i j is = cc

no_seqno : (parts : List ℕ × List ℕ) (o : Option ℕ) (seqno : ℕ) (i : Item) → published_as o parts.1 ≡ Published seqno i → not (is_item parts.1) ≡ true → i ≡ no_effect
no_seqno parts None seqno i is none = absurd (let never : false ≡ true = ap is_published is in cc)
no_seqno parts (Some n) seqno i is none = sym (same_item n seqno (published parts.1) i is) ∙ no_text parts.1 (not_so (is_item parts.1) none)

no_parts : (o : Option (List ℕ × List ℕ)) (seqno : ℕ) (i : Item) → numbered_by o ≡ Published seqno i → is_unreadable_by o ≡ true → i ≡ no_effect
no_parts None seqno i is none = absurd (let never : false ≡ true = none in cc)
no_parts (Some parts) seqno i is none = no_seqno parts (seqno_in parts.0) seqno i is none

no_line : (number : ℕ) (line : List ℕ) (seqno : ℕ) (i : Item) (digit : Bool) → begins_with_digit line ≡ digit → requested number line ≡ Published seqno i → is_unreadable line ≡ true → i ≡ no_effect
no_line number line seqno i true is said none = no_parts (cut 32 line) seqno i (sym (rw is refl) ∙ said) none
no_line number line seqno i false is said none = absurd (no_item number line seqno i is said)

-- and an item that has an effect is that of a text which is one
one_by : (number : ℕ) (line : List ℕ) (seqno : ℕ) (i : Item) (none : Bool) → is_unreadable line ≡ none → requested number line ≡ Published seqno i → (item_eq.ghosts).eq i no_effect ≡ false → is_unreadable line ≡ false
one_by number line seqno i true is said other =
    let same = no_line number line seqno i (begins_with_digit line) refl said is in
    let never : (item_eq.ghosts).eq no_effect no_effect ≡ false = ap (λ (j : Item). (item_eq.ghosts).eq j no_effect) (sym same) ∙ other in
    absurd (let both : true ≡ false = never in cc)
one_by number line seqno i false is said other = is

pub one_read : (number : ℕ) (line : List ℕ) (seqno : ℕ) (i : Item) → requested number line ≡ Published seqno i → (item_eq.ghosts).eq i no_effect ≡ false → is_unreadable line ≡ false
one_read number line seqno i said other = one_by number line seqno i (is_unreadable line) refl said other
