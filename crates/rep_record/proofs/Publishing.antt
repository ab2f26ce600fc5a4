-- The item that a text is.
use Rattle.std.proofs.Common.{◌≡◌, ℕ, ◌≤◌, true, false, ◌&&◌, ◌||◌, List, [], ◌∷◌, length, Option, None, Some, Ok, Err, inl, refl, ap, ◌∙◌, arith}
use Rattle.std.proofs.Math.ListN.{get_or-eq_default}
use Rattle.std.proofs.lemmas.Bool.Decides.{nat_tests}
use Rattle.std.specs.List.{list_any, AllByRecursion}
use Rattle.std.specs.Option.{option_map_or}
use Rattle.std.specs.Prelude.{nat_le, nat_lt, if◌then◌else◌, not, slice_index, codes, IfSome}
use Rattle.rep_types.specs.declared.item.Item.{Item}
use Rattle.rep_types.specs.declared.item.Item.TheVariants.{WriteSet, SetWindow as OfSetWindow}
use Rattle.rep_types.specs.declared.limits.TheConstants.{MAX_VALUE}
use Rattle.rep_types.specs.declared.refusal.Refusal.TheVariants.{TooManyReads, TooManyWrites, ValueTooLong, BadParams}
use Rattle.rep_types.specs.declared.value.Write.{Write}
use Rattle.rep_types.specs.declared.verdict.Verdict.TheVariants.{Future, BadKey, Stale}
use Rattle.rep_types.specs.Items.{IsWithin}
use Rattle.rep_types.specs.Order.{conflict_with, greatest, seqnos_against}
use Rattle.rep_types.specs.Settings.{Setting, is_setting}
use Rattle.rep_types.specs.Transactions.{Transaction, transaction, IsWithinLimits, HasShortValue, misplaced, misplaced_entry, misplaced_write}
use Rattle.rep_record.specs.Reading.{delete, is_long, well_placed, limited, of_kind, limited_item}
use Rattle.rep_record.specs.Grammar.{IsKey, IsOrderLine}
use Rattle.rep_record.specs.Published.{no_effect, IsPublished, HasNoEffect}

-- ---- what is within its limits passes them

not_long : (value : Option (List ℕ)) → IfSome value (λ bytes. length bytes ≤ MAX_VALUE) → option_map_or (λ (bytes : List ℕ). nat_lt 62 (length bytes)) value false ≡ false
not_long None short = refl
not_long (Some bytes) short = grind (arith, nat_tests, short)

none_long : (writes : List Write) → AllByRecursion HasShortValue writes → list_any is_long writes ≡ false
none_long [] short = refl
none_long (write ∷ writes) short = ap (λ b. b || list_any is_long writes) (not_long write.value short.0) ∙ none_long writes short.1

well_ordered : (w : Transaction) → IsWithinLimits w → misplaced w.reads w.writes ≡ None
well_ordered w h =
    let some : nat_lt 0 (length w.writes) ≡ true = grind (arith, nat_tests, h.some_write) in
    ap (misplaced_entry w.reads w.writes) h.reads_ascend ∙ ap (misplaced_write w.reads w.writes) h.writes_ascend ∙ ap (λ b. if b then None else Some (length w.reads)) some

passes : (number : ℕ) (w : Transaction) → IsWithinLimits w → limited number w ≡ Ok w
passes number w h =
    let reads : nat_lt 16 (length w.reads) ≡ false = grind (arith, nat_tests, h.few_reads) in
    let writes : nat_lt 16 (length w.writes) ≡ false = grind (arith, nat_tests, h.few_writes) in
    ap (λ b. if b then Err TooManyReads else if nat_lt 16 (length w.writes) then Err TooManyWrites else if list_any is_long w.writes then Err ValueTooLong else well_placed number w (misplaced w.reads w.writes)) reads
    ∙ ap (λ b. if b then Err TooManyWrites else if list_any is_long w.writes then Err ValueTooLong else well_placed number w (misplaced w.reads w.writes)) writes
    ∙ ap (λ b. if b then Err ValueTooLong else well_placed number w (misplaced w.reads w.writes)) (none_long w.writes h.short_values) ∙ ap (well_placed number w) (well_ordered w h)

pub item_passes : (number : ℕ) (i : Item) → IsWithin i → limited_item number i ≡ Ok i
item_passes number (WriteSet w) h = ap (of_kind WriteSet) (passes number w h)
item_passes number (OfSetWindow c) h = ap (λ b. of_kind OfSetWindow (if b then Ok c else Err BadParams)) h

-- ---- what has no effect

few_tables : (p : Setting) → is_setting p ≡ true → length p.rows ≤ 8
few_tables p is = grind (arith, nat_tests, is)

pub never_there : HasNoEffect no_effect
never_there p lowest n entries is pos =
    let past : nat_le n 0 ≡ false = grind (arith, nat_tests, pos) in
    let none : slice_index p.rows 255 ≡ 0 = get_or-eq_default p.rows 0 (omega (arith, few_tables p is)) in
    let outside : nat_lt 0 (slice_index p.rows 255) ≡ false = ap (nat_lt 0) none in
    let later = if nat_lt 1 lowest then Stale else conflict_with (greatest (seqnos_against (transaction 0 0 0 [] (delete (record { table = 255; row = 0 }) ∷ [])) entries)) in
    ap (λ b. if b then Future else if not (nat_lt 0 (slice_index p.rows 255) && true) then BadKey else later) past ∙ ap (λ b. if not (b && true) then BadKey else later) outside

-- ---- and its text

key_word : IsKey (codes "255/0") (record { table = 255; row = 0 })
key_word = record {
  front = codes "255";
  back = codes "/0";
  joined = refl;
  first = record { digits = (omega arith, (omega arith, (omega arith, (omega arith, tt)))); value = refl; small = omega arith };
  second = (codes "0", refl, record { digits = (omega arith, (omega arith, tt)); value = refl; small = omega arith });
}

its_line : IsOrderLine (codes "item 0 w 255/0-") no_effect
its_line = (
  codes "0" ∷ codes "w" ∷ codes "255/0-" ∷ [],
  refl,
  record {
    front = codes "0" ∷ [];
    back = codes "w" ∷ codes "255/0-" ∷ [];
    joined = refl;
    first = (codes "0", refl, record { digits = (omega arith, (omega arith, tt)); value = refl; small = omega arith });
    second = record {
      front = [];
      back = codes "w" ∷ codes "255/0-" ∷ [];
      joined = refl;
      first = inl (refl, refl);
      second = record {
        front = [];
        back = codes "w" ∷ codes "255/0-" ∷ [];
        joined = refl;
        first = inl (refl, refl);
        second = (codes "255/0-" ∷ [], refl, (omega arith, ((codes "255/0", refl, key_word), tt)));
      };
    };
  },
)

pub its_text : IsPublished (codes "item 0 w 255/0-") no_effect
its_text = record {
  short = omega arith;
  line = its_line;
  within = record { few_reads = omega arith; some_write = omega arith; few_writes = omega arith; reads_ascend = refl; writes_ascend = refl; short_values = (tt, tt) };
}
