-- The items of lines.
use Rattle.std.proofs.Common.{◌≡◌, ℕ, ◌+◌, ◌^◌, Bool, true, false, ◌==◌, ◌||◌, inl, inr, List, [], ◌∷◌, ◌++◌, length, drop, Option, None, Some, Result, Ok, Err, refl, sym, ap, subst, ◌∙◌, arith}
use Rattle.std.specs.Prelude.{nat_lt, if◌then◌else◌, codes}
use Rattle.rep_types.specs.declared.key.Key.{Key}
use Rattle.rep_types.specs.declared.item.Item.{Item}
use Rattle.rep_types.specs.declared.item.Item.TheVariants.{WriteSet, SetWindow as OfSetWindow}
use Rattle.rep_types.specs.declared.refusal.Refusal.{Refusal}
use Rattle.rep_types.specs.declared.refusal.Refusal.TheVariants.{OutOfOrder}
use Rattle.rep_types.specs.Transactions.{Transaction, misplaced}
use Rattle.std.specs.List.{list_any}
use Rattle.rep_record.specs.Words.{words, is_blank}
use Rattle.rep_record.specs.Reading.{number_in, is_next, some_each, key_in, is_long, well_placed, of_kind, order_form, order_outcome}
use Rattle.rep_requests.specs.Requests.{Requested, Nothing, Published, Stated, Read, Sum, State, Limits, Counters, Donate, Refused, Broken, begins_with_digit, rows_requested, sum_at, sum_requested, transfer_requested, alone, item_requested, requested}
use Rattle.rep_follow.specs.Taking.{item_at, AreItems, item_awaited, item_onto, items_in}
use Rattle.rep_service.specs.Commanding.{awaited, ComesOf}
use Rattle.rep_service.specs.Passing.{AreLines}

-- ---- a line is the same item whatever its number is

same_if : {A B : Type 0} (f : A → B) (b : Bool) (x y z w : A) → f x ≡ f z → f y ≡ f w → f (if b then x else y) ≡ f (if b then z else w)
same_if f true x y z w p q = p
same_if f false x y z w p q = q

module _ (next : ℕ) where
  abbrev item : Requested → Option Item
  item r = item_awaited next r

  none_if : (b : Bool) (r s : Requested) → item r ≡ None → item s ≡ None → item (if b then r else s) ≡ None
  none_if true r s p q = p
  none_if false r s p q = q

  no_rows : (n : ℕ) (o : Option (List Key)) → item (rows_requested n o) ≡ None
  no_rows n None = refl
  no_rows n (Some keys) = none_if (nat_lt 16 (length keys)) _ _ refl refl

  no_sum_at : (n : ℕ) (o : Option ℕ) → item (sum_at n o) ≡ None
  no_sum_at n None = refl
  no_sum_at n (Some at) = refl

  no_sum : (n : ℕ) (ws : List (List ℕ)) → item (sum_requested n ws) ≡ None
  no_sum n [] = refl
  no_sum n (w ∷ []) = no_sum_at n (number_in (2 ^ 64) w)
  no_sum n (w ∷ v ∷ ws) = refl

  no_donate : (n : ℕ) (ws : List (List ℕ)) → item (transfer_requested n ws) ≡ None
  no_donate n [] = refl
  no_donate n (a ∷ []) = refl
  no_donate n (a ∷ b ∷ []) = refl
  no_donate n (a ∷ b ∷ c ∷ ws) = refl

  abbrev other : ℕ → List (List ℕ) → Requested
  other n ws =
      if is_next (codes "read") ws then rows_requested n (some_each key_in (drop 1 ws))
      else if is_next (codes "sum") ws then sum_requested n (drop 1 ws)
      else if is_next (codes "state") ws then alone n State (drop 1 ws)
      else if is_next (codes "limits") ws then alone n Limits (drop 1 ws)
      else if is_next (codes "counters") ws then alone n Counters (drop 1 ws)
      else if is_next (codes "donate") ws then transfer_requested n (drop 1 ws)
      else Refused (Rattle.rep_types.specs.declared.refusal.Refusal.TheVariants.Malformed n)

  no_other : (n : ℕ) (ws : List (List ℕ)) → item (other n ws) ≡ None
  no_other n ws =
      none_if (is_next (codes "read") ws) _ _ (no_rows n (some_each key_in (drop 1 ws)))
      (none_if (is_next (codes "sum") ws) _ _ (no_sum n (drop 1 ws))
      (none_if (is_next (codes "state") ws) _ _ (none_if (nat_lt 0 (length (drop 1 ws))) _ _ refl refl)
      (none_if (is_next (codes "limits") ws) _ _ (none_if (nat_lt 0 (length (drop 1 ws))) _ _ refl refl)
      (none_if (is_next (codes "counters") ws) _ _ (none_if (nat_lt 0 (length (drop 1 ws))) _ _ refl refl)
      (none_if (is_next (codes "donate") ws) _ _ (no_donate n (drop 1 ws)) refl)))))

  abbrev written : Result Transaction Refusal → Option Item
  written r = item (item_requested (of_kind WriteSet r))

  placed_same : (n m : ℕ) (w : Transaction) (o : Option ℕ) → written (well_placed n w o) ≡ written (well_placed m w o)
  placed_same n m w None = refl
  placed_same n m w (Some at) = refl

  form_same : (n m : ℕ) (o : Option Item) → item (item_requested (order_outcome n o)) ≡ item (item_requested (order_outcome m o))
  form_same n m None = refl
  form_same n m (Some (OfSetWindow c)) = refl
  form_same n m (Some (WriteSet w)) =
      same_if written (nat_lt 16 (length w.reads)) _ _ _ _ refl
      (same_if written (nat_lt 16 (length w.writes)) _ _ _ _ refl
      (same_if written (list_any is_long w.writes) _ _ _ _ refl (placed_same n m w (misplaced w.reads w.writes))))

  item_same : (n m : ℕ) (line : List ℕ) → item (requested n line) ≡ item (requested m line)
  item_same n m line =
      same_if item (begins_with_digit line) _ _ _ _ refl
      (same_if item (nat_lt 4096 (length line)) _ _ _ _ refl
      (same_if item (is_blank line) _ _ _ _ refl
      (same_if item (is_next (codes "item") (words line) || is_next (codes "window") (words line)) _ _ _ _ (form_same n m (order_form line)) (no_other n (words line) ∙ sym (no_other m (words line))))))

  published_by : (b : Bool) (i : Item) (o : Option Item) → (if b then Ok (Some i) else Err (OutOfOrder next)) ≡ Ok o → (if b then Some i else None) ≡ o
  published_by true i o is = cc
  published_by false i o is = absurd (let never : ◌≡◌ {A = Result (Option Item) Refusal} (Err (OutOfOrder next)) (Ok o) = is in cc)

  said_item : (n : ℕ) (r : Requested) (o : Option Item) → awaited next n r ≡ Ok o → item r ≡ o
  said_item n Nothing o is = cc
  said_item n (Published m i) o is = published_by (m == next) i o is
  said_item n (Stated i) o is = cc
  said_item n (Read keys) o is = cc
  said_item n (Sum at) o is = cc
  said_item n State o is = cc
  said_item n Limits o is = cc
  said_item n Counters o is = cc
  said_item n (Donate have out) o is = cc
  said_item n (Refused e) o is = cc
  said_item n Broken o is = absurd cc

  -- what the node makes of a line is the item that it is
  pub line_item : (n : ℕ) (line : List ℕ) (o : Option Item) → awaited next n (requested n line) ≡ Ok o → item_awaited next (requested 0 line) ≡ o
  line_item n line o is = item_same 0 n line ∙ said_item n (requested n line) o is

  unsaid_by : (b : Bool) (i : Item) (e : Refusal) → (if b then Ok (Some i) else Err (OutOfOrder next)) ≡ Err e → (if b then Some i else None) ≡ None
  unsaid_by true i e is = absurd (let never : ◌≡◌ {A = Result (Option Item) Refusal} (Ok (Some i)) (Err e) = is in cc)
  unsaid_by false i e is = refl

  -- what ends the node is no item that it awaits
  unsaid_item : (n : ℕ) (r : Requested) (e : Refusal) → awaited next n r ≡ Err e → item r ≡ None
  unsaid_item n Nothing e is = refl
  unsaid_item n (Published m i) e is = unsaid_by (m == next) i e is
  unsaid_item n (Stated i) e is = absurd (let never : ◌≡◌ {A = Result (Option Item) Refusal} (Ok (Some i)) (Err e) = is in cc)
  unsaid_item n (Read keys) e is = refl
  unsaid_item n (Sum at) e is = refl
  unsaid_item n State e is = refl
  unsaid_item n Limits e is = refl
  unsaid_item n Counters e is = refl
  unsaid_item n (Donate have out) e is = refl
  unsaid_item n (Refused f) e is = refl
  unsaid_item n Broken e is = refl

  comes_unsaid : (n : ℕ) (r : Requested) (wanted : Result (Option Item) Refusal) (f : Refusal) → awaited next n r ≡ wanted → ComesOf wanted (Err f) → item r ≡ None
  comes_unsaid n r (Ok None) f is comes = said_item n r None is
  comes_unsaid n r (Ok (Some i)) f is comes = absurd (let never : ◌≡◌ {A = Result (Option Item) Refusal} (Err f) (Ok (Some i)) = comes in cc)
  comes_unsaid n r (Err e) f is comes = unsaid_item n r e is

  -- nor is a line at which it is refused
  pub ended_item : (n : ℕ) (line : List ℕ) (r : Requested) (result : Result (Option Item) Refusal) (f : Refusal) → r ≡ requested n line → ComesOf (awaited next n r) result → result ≡ Err f → item_awaited next (requested 0 line) ≡ None
  ended_item n line r result f says comes is = item_same 0 n line ∙ ap (λ q. item_awaited next q) (sym says) ∙ comes_unsaid n r (awaited next n r) f refl (subst (ComesOf (awaited next n r)) is comes)

  numbered_item : (r : Requested) (i : Item) → item_at next r ≡ Some i → item r ≡ Some i
  numbered_item Nothing i is = absurd cc
  numbered_item (Published m j) i is = is
  numbered_item (Stated j) i is = absurd cc
  numbered_item (Read keys) i is = absurd cc
  numbered_item (Sum at) i is = absurd cc
  numbered_item State i is = absurd cc
  numbered_item Limits i is = absurd cc
  numbered_item Counters i is = absurd cc
  numbered_item (Donate have out) i is = absurd cc
  numbered_item (Refused e) i is = absurd cc
  numbered_item Broken i is = absurd cc

-- ---- lines one after another

pub one_item : (next : ℕ) (line : List ℕ) (lines : List (List ℕ)) (i : Item) → item_awaited next (requested 0 line) ≡ Some i → items_in next (line ∷ lines) ≡ i ∷ items_in (next + 1) lines
one_item next line lines i is = ap (λ (o : Option Item). item_onto o (items_in (next + 1) lines) (items_in next lines)) is

pub no_item : (next : ℕ) (line : List ℕ) (lines : List (List ℕ)) → item_awaited next (requested 0 line) ≡ None → items_in next (line ∷ lines) ≡ items_in next lines
no_item next line lines is = ap (λ (o : Option Item). item_onto o (items_in (next + 1) lines) (items_in next lines)) is

pub items_both : (next : ℕ) (lines more : List (List ℕ)) → items_in next (lines ++ more) ≡ items_in next lines ++ items_in (next + length (items_in next lines)) more
items_both next [] more = ap (λ k. items_in k more) (omega arith)
items_both next (line ∷ lines) more = by (λ k. items_both k lines more) (item_awaited next (requested 0 line)) refl
  where
    by : ((k : ℕ) → items_in k (lines ++ more) ≡ items_in k lines ++ items_in (k + length (items_in k lines)) more) → (o : Option Item) → item_awaited next (requested 0 line) ≡ o → items_in next (line ∷ (lines ++ more)) ≡ items_in next (line ∷ lines) ++ items_in (next + length (items_in next (line ∷ lines))) more
    by both None is =
        let here = no_item next line lines is in
        no_item next line (lines ++ more) is ∙ both next ∙ ap (λ (is : List Item). is ++ items_in (next + length is) more) (sym here)
    by both (Some i) is =
        let here = one_item next line lines i is in
        let at : (next + 1) + length (items_in (next + 1) lines) ≡ next + length (i ∷ items_in (next + 1) lines) = omega arith in
        one_item next line (lines ++ more) i is ∙ ap (λ l. i ∷ l) (both (next + 1)) ∙ ap (λ k. (i ∷ items_in (next + 1) lines) ++ items_in k more) at
        ∙ ap (λ (is : List Item). is ++ items_in (next + length is) more) (sym here)

-- numbered items
pub numbered_items : (next : ℕ) (lines : List (List ℕ)) (items : List Item) → AreItems next lines items → items_in next lines ≡ items
numbered_items next [] [] are = refl
numbered_items next [] (i ∷ items) are = absurd are
numbered_items next (line ∷ lines) [] are = absurd are
numbered_items next (line ∷ lines) (i ∷ items) are = one_item next line lines i (numbered_item next (requested 0 line) i are.0) ∙ ap (λ l. i ∷ l) (numbered_items (next + 1) lines items are.1)

-- items among lines that are answered
pub lines_items : (next : ℕ) (lines : List (List ℕ)) (items : List Item) → AreLines next lines items → items_in next lines ≡ items
lines_items next [] items none = sym none
lines_items next (line ∷ lines) items (inl (answered, are)) = no_item next line lines (line_item next answered.0 line None answered.1) ∙ lines_items next lines items are
lines_items next (line ∷ lines) items (inr (i, rest, is, item, are)) =
    one_item next line lines i (line_item next item.0 line (Some i) item.1) ∙ ap (λ l. i ∷ l) (lines_items (next + 1) lines rest are) ∙ sym is
