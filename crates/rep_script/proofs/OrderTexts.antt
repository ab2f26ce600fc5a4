-- A text is read without a fault exactly where it is an order text.
use Rattle.std.proofs.Common.{◌≡◌, ℕ, ◌+◌, ◌≤◌, Bool, true, false, cond, List, [], ◌∷◌, length, map, Option, None, Some, Result, Ok, Err, refl, sym, ap, subst, ◌∙◌, arith}
use Rattle.std.specs.Prelude.{not, filter}
use Rattle.std.specs.List.{AllByRecursion, AllZip, sum_by}
use Rattle.std.proofs.lemmas.List.Concat.{length-flat_map}
use Rattle.std.proofs.lemmas.List.Sums.{sum_by-cons}
use Rattle.rep_types.specs.declared.item.Item.{Item}
use Rattle.rep_types.specs.declared.refusal.Refusal.{Refusal}
use Rattle.rep_types.specs.declared.refusal.Refusal.TheVariants.{Malformed}
use Rattle.rep_types.specs.Settings.{Setting}
use Rattle.rep_types.specs.Order.{Order}
use Rattle.rep_record.specs.Words.{is_blank}
use Rattle.rep_record.specs.Lines.{raw_lines, without_feed, line_fault}
use Rattle.rep_record.specs.Grammar.{IsParamsLine}
use Rattle.rep_record.specs.Reading.{order_line, params_line}
use Rattle.rep_record.proofs.TextLines.{are_lines}
use Rattle.rep_script.specs.Judging.{Reading, said_by, items_of, text_of, with_line, with_params, line_reading, reading_of, reading}
use Rattle.rep_script.specs.OrderText.{IsItem, AreOrderLines, IsOrderText}
use Rattle.rep_script.proofs.SaidLines.{item_is_said, item_is_given, params_are_said, params_are_given, line_is_allowed, line_has_no_fault}

-- the lines with words, without their line feeds
abbrev pub filled : List (List ℕ) → List (List ℕ)
filled raws = filter (λ (line : List ℕ). not (is_blank line)) (map without_feed raws)

-- the line has at most 4,096 bytes
abbrev pub IsShort : List ℕ → Type 0
IsShort raw = length (without_feed raw) ≤ 4096

-- how many bytes the lines have, their line feeds among them
abbrev pub total : List (List ℕ) → ℕ
total raws = sum_by (λ (raw : List ℕ). length raw) raws

-- one more line
total_more : (raw : List ℕ) (raws : List (List ℕ)) → total (raw ∷ raws) ≡ length raw + total raws
total_more raw raws = sum_by-cons (λ (line : List ℕ). length line) raw raws

-- the lines of a text have as many bytes as the text
total_whole : (text : List ℕ) → total (raw_lines text) ≡ length text
total_whole text = sym (length-flat_map (λ (raw : List ℕ). raw) (raw_lines text)) ∙ ap length (are_lines text).whole

-- ---- the items

-- These lines, which so many bytes of the text stand before, are these items.
pub record AreItems (before : ℕ) (raws : List (List ℕ)) (L : Order) : Type 0 where
  pub small : before + total raws ≤ 67108864
  pub short : AllByRecursion IsShort raws
  pub items : AllZip IsItem (filled raws) L

-- no item stands for no line
none_zipped : (L : Order) → AllZip IsItem [] L → L ≡ []
none_zipped [] h = refl
none_zipped (i ∷ L) h = absurd h

-- where the items are read without a fault, the first line has none
items_allowed : (number before : ℕ) (raw : List ℕ) (later : Order × Option Refusal) (fault : Option Refusal) (L : Order) →
    with_line (line_reading order_line number before raw fault) later ≡ (L, None) →
    (fault ≡ None) × (with_line (cond (is_blank (without_feed raw)) None (Some (order_line number (without_feed raw)))) later ≡ (L, None))
items_allowed number before raw later None L e = (refl, e)
items_allowed number before raw later (Some fault) L e =
    let same : Some fault ≡ None = ap (λ (items : Order × Option Refusal). items.1) e in
    absurd cc

-- one more line that is read without a fault, by whether it has words, and by what it says
items_found_more : (number before : ℕ) (raw : List ℕ) (raws : List (List ℕ)) (later : Order × Option Refusal) (blank : Bool) (r : Result Item Refusal) (L : Order) →
    is_blank (without_feed raw) ≡ blank → order_line number (without_feed raw) ≡ r → IsShort raw →
    ((M : Order) → later ≡ (M, None) → AreItems (before + length raw) raws M) →
    with_line (cond blank None (Some r)) later ≡ (L, None) → AreItems before (raw ∷ raws) L
items_found_more number before raw raws later true r L b s short rest e =
    let h = rest L e in
    record { small = omega (arith, total_more raw raws, h.small); short = (short, h.short); items = rw b h.items }
items_found_more number before raw raws later false (Ok i) L b s short rest e =
    let fault : later.1 ≡ None = ap (λ (items : Order × Option Refusal). items.1) e in
    let order : i ∷ later.0 ≡ L = ap (λ (items : Order × Option Refusal). items.0) e in
    let h = rest later.0 (ap (λ (f : Option Refusal). (later.0, f)) fault) in
    subst (λ M. AreItems before (raw ∷ raws) M) order (record {
      small = omega (arith, total_more raw raws, h.small);
      short = (short, h.short);
      items = rw b (item_is_said number (without_feed raw) i s, h.items);
    })
items_found_more number before raw raws later false (Err fault) L b s short rest e =
    let same : Some fault ≡ None = ap (λ (items : Order × Option Refusal). items.1) e in
    absurd cc

-- lines that are read without a fault are the items
pub items_found : (raws : List (List ℕ)) (number before : ℕ) (L : Order) → before ≤ 67108864 → items_of number before raws ≡ (L, None) → AreItems before raws L
unfolding said_by
items_found [] number before L fits e =
    let order : [] ≡ L = ap (λ (items : Order × Option Refusal). items.0) e in
    subst (λ M. AreItems before [] M) order (record { small = omega arith; short = tt; items = tt })
items_found (raw ∷ raws) number before L fits e =
    let later = items_of (number + 1) (before + length raw) raws in
    let a = items_allowed number before raw later (line_fault number before raw) L e in
    let b = line_is_allowed number before raw a.0 in
    items_found_more number before raw raws later (is_blank (without_feed raw)) (order_line number (without_feed raw)) L refl refl b.0
    (λ M. items_found raws (number + 1) (before + length raw) M b.1) a.1

-- one more line of the items, by whether it has words
items_again_more : (number : ℕ) (raw : List ℕ) (raws : List (List ℕ)) (later : Order × Option Refusal) (blank : Bool) (L : Order) →
    AllZip IsItem (cond (not blank) (without_feed raw ∷ filled raws) (filled raws)) L →
    ((M : Order) → AllZip IsItem (filled raws) M → later ≡ (M, None)) →
    with_line (cond blank None (Some (order_line number (without_feed raw)))) later ≡ (L, None)
items_again_more number raw raws later true L h rest = rest L h
items_again_more number raw raws later false [] h rest = absurd h
items_again_more number raw raws later false (i ∷ L) h rest = rw (item_is_given number (without_feed raw) i h.0, rest L h.1) refl

-- lines that are the items are read without a fault
pub items_again : (raws : List (List ℕ)) (number before : ℕ) (L : Order) → AreItems before raws L → items_of number before raws ≡ (L, None)
unfolding said_by
items_again [] number before L h = rw (none_zipped L h.items) refl
items_again (raw ∷ raws) number before L h =
    let more = total_more raw raws in
    rw (line_has_no_fault number before raw h.short.0 (omega (arith, more, h.small)))
    (items_again_more number raw raws (items_of (number + 1) (before + length raw) raws) (is_blank (without_feed raw)) L h.items
    (λ M items. items_again raws (number + 1) (before + length raw) M (record { small = omega (arith, more, h.small); short = h.short.1; items = items })))

-- ---- the whole text

-- These lines, which so many bytes of the text stand before, are these parameters and these items.
pub record AreText (before : ℕ) (raws : List (List ℕ)) (p : Setting) (L : Order) : Type 0 where
  pub small : before + total raws ≤ 67108864
  pub short : AllByRecursion IsShort raws
  pub lines : AreOrderLines (filled raws) p L

-- where the text is read without a fault, the first line has none
text_allowed : (number before : ℕ) (raw : List ℕ) (items : Order × Option Refusal) (later : Reading Item) (fault : Option Refusal) (p : Setting) (L : Order) →
    with_params (line_reading params_line number before raw fault) items later ≡ reading_of p (L, None) →
    (fault ≡ None) × (with_params (cond (is_blank (without_feed raw)) None (Some (params_line number (without_feed raw)))) items later ≡ reading_of p (L, None))
text_allowed number before raw items later None p L e = (refl, e)
text_allowed number before raw items later (Some fault) p L e =
    let same : Some fault ≡ None = ap (λ (r : Reading Item). r.fault) e in
    absurd cc

-- one more line that is read without a fault, by whether it has words, and by what it says
text_found_more : (number before : ℕ) (raw : List ℕ) (raws : List (List ℕ)) (items : Order × Option Refusal) (later : Reading Item) (blank : Bool) (r : Result Setting Refusal) (p : Setting) (L : Order) →
    is_blank (without_feed raw) ≡ blank → params_line number (without_feed raw) ≡ r → IsShort raw →
    (items ≡ (L, None) → AreItems (before + length raw) raws L) → (later ≡ reading_of p (L, None) → AreText (before + length raw) raws p L) →
    with_params (cond blank None (Some r)) items later ≡ reading_of p (L, None) → AreText before (raw ∷ raws) p L
text_found_more number before raw raws items later true r p L b s short are_items rest e =
    let h = rest e in
    record { small = omega (arith, total_more raw raws, h.small); short = (short, h.short); lines = rw b h.lines }
text_found_more number before raw raws items later false (Ok q) p L b s short are_items rest e =
    let h = are_items (ap (λ (r : Reading Item). (r.order, r.fault)) e) in
    let said = params_are_said number (without_feed raw) p (s ∙ ap (λ (r : Reading Item). Ok r.setting) e) in
    record {
      small = omega (arith, total_more raw raws, h.small);
      short = (short, h.short);
      lines = record { params = without_feed raw; items = filled raws; whole = rw b refl; is_params = said.0; allowed = said.1; are_items = h.items };
    }
text_found_more number before raw raws items later false (Err fault) p L b s short are_items rest e =
    let same : Some fault ≡ None = ap (λ (r : Reading Item). r.fault) e in
    absurd cc

-- lines that are read without a fault are the text
pub text_found : (raws : List (List ℕ)) (number before : ℕ) (p : Setting) (L : Order) → before ≤ 67108864 → text_of order_line number before raws ≡ reading_of p (L, None) → AreText before raws p L
unfolding text_of
text_found [] number before p L fits e =
    let same : Some (Malformed number) ≡ None = ap (λ (r : Reading Item). r.fault) e in
    absurd cc
text_found (raw ∷ raws) number before p L fits e =
    let items = items_of (number + 1) (before + length raw) raws in
    let later = text_of order_line (number + 1) (before + length raw) raws in
    let a = text_allowed number before raw items later (line_fault number before raw) p L e in
    let b = line_is_allowed number before raw a.0 in
    text_found_more number before raw raws items later (is_blank (without_feed raw)) (params_line number (without_feed raw)) p L refl refl b.0
    (items_found raws (number + 1) (before + length raw) L b.1) (text_found raws (number + 1) (before + length raw) p L b.1) a.1

-- one more line of the text, by whether it has words
text_again_more : (number : ℕ) (raw : List ℕ) (raws : List (List ℕ)) (items : Order × Option Refusal) (later : Reading Item) (blank : Bool) (p : Setting) (L : Order) →
    AreOrderLines (cond (not blank) (without_feed raw ∷ filled raws) (filled raws)) p L →
    (AllZip IsItem (filled raws) L → items ≡ (L, None)) → (AreOrderLines (filled raws) p L → later ≡ reading_of p (L, None)) →
    with_params (cond blank None (Some (params_line number (without_feed raw)))) items later ≡ reading_of p (L, None)
text_again_more number raw raws items later true p L h given rest = rest h
text_again_more number raw raws items later false p L h given rest =
    let whole : without_feed raw ∷ filled raws ≡ h.params ∷ h.items = h.whole in
    let first : h.params ≡ without_feed raw = cc in
    let others : h.items ≡ filled raws = cc in
    rw (
      params_are_given number (without_feed raw) p (subst (λ line. IsParamsLine line p) first h.is_params) h.allowed,
      given (subst (λ ls. AllZip IsItem ls L) others h.are_items),
    ) refl

-- lines that are the text are read without a fault
pub text_again : (raws : List (List ℕ)) (number before : ℕ) (p : Setting) (L : Order) → AreText before raws p L → text_of order_line number before raws ≡ reading_of p (L, None)
unfolding text_of
text_again [] number before p L h =
    let whole : [] ≡ h.lines.params ∷ h.lines.items = h.lines.whole in
    absurd cc
text_again (raw ∷ raws) number before p L h =
    let more = total_more raw raws in
    let small : before + length raw + total raws ≤ 67108864 = omega (arith, more, h.small) in
    rw (line_has_no_fault number before raw h.short.0 (omega (arith, more, h.small)))
    (text_again_more number raw raws (items_of (number + 1) (before + length raw) raws) (text_of order_line (number + 1) (before + length raw) raws) (is_blank (without_feed raw)) p L h.lines
    (λ items. items_again raws (number + 1) (before + length raw) L (record { small = small; short = h.short.1; items = items }))
    (λ lines. text_again raws (number + 1) (before + length raw) p L (record { small = small; short = h.short.1; lines = lines })))

-- a text that is read without a fault is an order text
pub order_text_found : (text : List ℕ) (p : Setting) (L : Order) → reading text ≡ reading_of p (L, None) → IsOrderText text p L
order_text_found text p L e =
    let h = text_found (raw_lines text) 1 0 p L (omega arith) e in
    record { small = omega (arith, total_whole text, h.small); short = h.short; lines = h.lines }

-- an order text is read without a fault
pub order_text_again : (text : List ℕ) (p : Setting) (L : Order) → IsOrderText text p L → reading text ≡ reading_of p (L, None)
order_text_again text p L h = text_again (raw_lines text) 1 0 p L (record { small = omega (arith, total_whole text, h.small); short = h.short; lines = h.lines })

-- what is read is one
pub order_text_one : (text : List ℕ) (p q : Setting) (L M : Order) → IsOrderText text p L → IsOrderText text q M → (p ≡ q) × (L ≡ M)
order_text_one text p q L M h k =
    let same : reading_of p (L, None) ≡ reading_of q (M, None) = sym (order_text_again text p L h) ∙ order_text_again text q M k in
    (ap (λ (r : Reading Item). r.setting) same, ap (λ (r : Reading Item). r.order) same)
