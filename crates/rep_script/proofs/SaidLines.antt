-- What a line of an order text has to be to be read without a fault.
use Rattle.std.proofs.Common.{◌≡◌, ℕ, ◌+◌, ◌<◌, ◌≤◌, Bool, true, false, cond, ltb, List, [], ◌∷◌, length, map, Option, Some, None, Result, Ok, Err, refl, ap, subst, ◌∙◌, arith}
use Rattle.std.specs.Prelude.{IfSome}
use Rattle.std.specs.List.{list_any, AllByRecursion}
use Rattle.std.specs.Option.{option_map_or}
use Rattle.std.proofs.lemmas.Bool.{ltb-false, lt-ltb, le-ltb}
use Rattle.rep_types.specs.declared.key.Key.{Key}
use Rattle.rep_types.specs.declared.value.Write.{Write}
use Rattle.rep_types.specs.declared.item.Item.{Item}
use Rattle.rep_types.specs.declared.item.Item.TheVariants.{WriteSet, SetWindow as OfSetWindow}
use Rattle.rep_types.specs.declared.refusal.Refusal.{Refusal}
use Rattle.rep_types.specs.declared.refusal.Refusal.TheVariants.{Malformed, TooManyReads, TooManyWrites, ValueTooLong, BadParams, StreamFault}
use Rattle.rep_types.specs.Keys.{disorder}
use Rattle.rep_types.specs.Transactions.{Transaction, IsWithinLimits, HasShortValue, key_of, misplaced, misplaced_entry, misplaced_write}
use Rattle.rep_types.specs.Settings.{Setting, is_setting}
use Rattle.rep_types.specs.Windows.{is_window_size}
use Rattle.rep_types.proofs.Choices.{or_both}
use Rattle.rep_record.specs.Lines.{without_feed, line_fault}
use Rattle.rep_record.specs.Grammar.{IsOrderLine, IsParamsLine}
use Rattle.rep_record.specs.Reading.{is_long, well_placed, limited, of_kind, limited_item, order_form, order_outcome, order_line, params_form, params_outcome, params_line}
use Rattle.rep_record.proofs.Parts.{order_means, params_mean}
use Rattle.rep_script.specs.OrderText.{IsItem}

-- ---- the limits of a write set

-- a value that is not too long is short
value_found : (value : Option (List ℕ)) → option_map_or (λ (bytes : List ℕ). ltb 62 (length bytes)) value false ≡ false → IfSome value (λ bytes. length bytes ≤ 62)
value_found None e = tt
value_found (Some bytes) e = ltb-false 62 (length bytes) e

-- a short value is not too long
value_again : (value : Option (List ℕ)) → IfSome value (λ bytes. length bytes ≤ 62) → option_map_or (λ (bytes : List ℕ). ltb 62 (length bytes)) value false ≡ false
value_again None h = refl
value_again (Some bytes) h = le-ltb 62 (length bytes) h

-- where no value is too long, each is short
values_found : (writes : List Write) → list_any is_long writes ≡ false → AllByRecursion HasShortValue writes
values_found [] e = tt
values_found (write ∷ writes) e =
    let p = or_both (is_long write) (list_any is_long writes) e in
    (value_found write.value p.0, values_found writes p.1)

-- where each value is short, none is too long
values_again : (writes : List Write) → AllByRecursion HasShortValue writes → list_any is_long writes ≡ false
values_again [] h = refl
values_again (write ∷ writes) h = rw (value_again write.value h.0, values_again writes h.1) refl

-- where no write is misplaced, there is one, and the writes are in order
writes_placed : (reads : List Key) (writes : List Write) (place : Option ℕ) → misplaced_write reads writes place ≡ None → (place ≡ None) × (0 < length writes)
writes_placed reads [] None e = absurd cc
writes_placed reads (write ∷ writes) None e = (refl, omega arith)
writes_placed reads writes (Some i) e = absurd cc

-- where no entry is misplaced, no read and no write is
entries_placed : (reads : List Key) (writes : List Write) (place : Option ℕ) → misplaced_entry reads writes place ≡ None →
    (place ≡ None) × (misplaced_write reads writes (disorder (map key_of writes)) ≡ None)
entries_placed reads writes None e = (refl, e)
entries_placed reads writes (Some i) e = absurd cc

-- a limit that was not passed
unpassed : {A : Type 0} (b : Bool) (refusal : Refusal) (rest : Result A Refusal) (x : A) → cond b (Err refusal) rest ≡ Ok x → (b ≡ false) × (rest ≡ Ok x)
unpassed true refusal rest x e = absurd cc
unpassed false refusal rest x e = (refl, e)

-- a write set that is given is the one whose order was looked at, and is in order
well_placed_found : (number : ℕ) (w v : Transaction) (place : Option ℕ) → well_placed number w place ≡ Ok v → (place ≡ None) × (w ≡ v)
well_placed_found number w v None e = (refl, cc)
well_placed_found number w v (Some i) e = absurd cc

-- a write set that is given is the one whose limits were looked at, and within them
limited_found : (number : ℕ) (w v : Transaction) → limited number w ≡ Ok v → (w ≡ v) × IsWithinLimits w
limited_found number w v e =
    let long = cond (list_any is_long w.writes) (Err ValueTooLong) (well_placed number w (misplaced w.reads w.writes)) in
    let a = unpassed (ltb 16 (length w.reads)) TooManyReads (cond (ltb 16 (length w.writes)) (Err TooManyWrites) long) v e in
    let b = unpassed (ltb 16 (length w.writes)) TooManyWrites long v a.1 in
    let c = unpassed (list_any is_long w.writes) ValueTooLong (well_placed number w (misplaced w.reads w.writes)) v b.1 in
    let d = well_placed_found number w v (misplaced w.reads w.writes) c.1 in
    let f = entries_placed w.reads w.writes (disorder w.reads) d.0 in
    let g = writes_placed w.reads w.writes (disorder (map key_of w.writes)) f.1 in (
      d.1,
      record {
        few_reads = ltb-false 16 (length w.reads) a.0;
        some_write = g.1;
        few_writes = ltb-false 16 (length w.writes) b.0;
        reads_ascend = f.0;
        writes_ascend = g.0;
        short_values = values_found w.writes c.0;
      },
    )

-- a write set within the limits is given
limited_again : (number : ℕ) (w : Transaction) → IsWithinLimits w → limited number w ≡ Ok w
limited_again number w h =
    rw (le-ltb 16 (length w.reads) h.few_reads, le-ltb 16 (length w.writes) h.few_writes, values_again w.writes h.short_values, h.reads_ascend, h.writes_ascend, lt-ltb 0 (length w.writes) h.some_write) refl

-- ---- the lines

-- what is given is what limits were looked at of, and within them
allowed_found : {A : Type 0} (x y : A) (b : Bool) → cond b (Ok x) (Err BadParams) ≡ Ok y → (x ≡ y) × (b ≡ true)
allowed_found x y true e = (cc, refl)
allowed_found x y false e = absurd cc

-- an item that is given is of the kind of what was read
kind_found : {A : Type 0} (kind : A → Item) (r : Result A Refusal) (i : Item) → of_kind kind r ≡ Ok i → (x : A) × (r ≡ Ok x) × (kind x ≡ i)
kind_found kind (Ok x) i e = (x, refl, cc)
kind_found kind (Err refusal) i e = absurd cc

-- an item that is given for what a line says is that, within its limits
item_is_within : (number : ℕ) (line : List ℕ) (i j : Item) → IsOrderLine line i → limited_item number i ≡ Ok j → IsItem line j
item_is_within number line (WriteSet w) j h e =
    let kind = kind_found WriteSet (limited number w) j e in
    let g = limited_found number w kind.0 kind.1 in
    subst (IsItem line) (ap WriteSet g.0 ∙ kind.2) (h, g.1)
item_is_within number line (OfSetWindow c) j h e =
    let kind = kind_found OfSetWindow (cond (is_window_size c.size) (Ok c) (Err BadParams)) j e in
    let g = allowed_found c kind.0 (is_window_size c.size) kind.1 in
    subst (IsItem line) (ap OfSetWindow g.0 ∙ kind.2) (h, g.1)

-- what is given for an item's line, by what it says
outcome_found : (number : ℕ) (line : List ℕ) (form : Option Item) (i : Item) → order_form line ≡ form → order_outcome number form ≡ Ok i → IsItem line i
outcome_found number line None i f e = absurd cc
outcome_found number line (Some j) i f e = item_is_within number line j i ((order_means.found line).of j f) e

-- a line that is given as an item is one
pub item_is_said : (number : ℕ) (line : List ℕ) (i : Item) → order_line number line ≡ Ok i → IsItem line i
item_is_said number line i e = outcome_found number line (order_form line) i refl e

-- an item is given
pub item_is_given : (number : ℕ) (line : List ℕ) (i : Item) → IsItem line i → order_line number line ≡ Ok i
item_is_given number line (WriteSet w) h = ap (order_outcome number) (order_means.again line (WriteSet w) h.0) ∙ ap (of_kind WriteSet) (limited_again number w h.1)
item_is_given number line (OfSetWindow c) h = ap (order_outcome number) (order_means.again line (OfSetWindow c) h.0) ∙ rw h.1 refl

-- what is given for a params line, by what it says
setting_found : (number : ℕ) (line : List ℕ) (form : Option Setting) (p : Setting) → params_form line ≡ form → params_outcome number form ≡ Ok p →
    IsParamsLine line p × (is_setting p ≡ true)
setting_found number line None p f e = absurd cc
setting_found number line (Some q) p f e =
    let g = allowed_found q p (is_setting q) e in
    rw (← g.0) ((params_mean.found line).of q f, g.1)

-- a line that is given as parameters says them, and they are within the limits
pub params_are_said : (number : ℕ) (line : List ℕ) (p : Setting) → params_line number line ≡ Ok p → IsParamsLine line p × (is_setting p ≡ true)
params_are_said number line p e = setting_found number line (params_form line) p refl e

-- parameters within the limits are given
pub params_are_given : (number : ℕ) (line : List ℕ) (p : Setting) → IsParamsLine line p → is_setting p ≡ true → params_line number line ≡ Ok p
params_are_given number line p h inside = ap (params_outcome number) (params_mean.again line p h) ∙ rw inside refl

-- the first of two tests that find no fault
no_fault : (long past : Bool) (number : ℕ) → cond long (Some (Malformed number)) (cond past (Some StreamFault) None) ≡ None → (long ≡ false) × (past ≡ false)
no_fault true past number e = absurd cc
no_fault false true number e = absurd cc
no_fault false false number e = (refl, refl)

-- a line without a fault is short, and ends within the first bytes of the text
pub line_is_allowed : (number before : ℕ) (raw : List ℕ) → line_fault number before raw ≡ None → (length (without_feed raw) ≤ 4096) × (before + length raw ≤ 67108864)
line_is_allowed number before raw e =
    let p = no_fault (ltb 4096 (length (without_feed raw))) (ltb 67108864 (before + length raw)) number e in
    (ltb-false 4096 (length (without_feed raw)) p.0, ltb-false 67108864 (before + length raw) p.1)

-- a short line that ends within the first bytes of the text has no fault
pub line_has_no_fault : (number before : ℕ) (raw : List ℕ) → length (without_feed raw) ≤ 4096 → before + length raw ≤ 67108864 → line_fault number before raw ≡ None
line_has_no_fault number before raw short small = rw (le-ltb 4096 (length (without_feed raw)) short, le-ltb 67108864 (before + length raw) small) refl
