-- The law of records as bytes.
use Rattle.std.proofs.Common.{◌≡◌, ℕ, ◌<◌, ◌≤◌, ◌^◌, true, false, eqb, [], length, Ok, refl, ap, arith, lit<, ◌*◌, length-append}
use Rattle.std.specs.List.{flat_map}
use Rattle.std.proofs.lemmas.Bool.{le-ltb, lt-ltb}
use Rattle.std.proofs.lemmas.Bool.Decides.{nat_tests}
use Rattle.std.proofs.lemmas.List.{append-nil}
use Rattle.rep_types.specs.declared.item.Item.{Item}
use Rattle.rep_types.specs.declared.item.Item.TheVariants.{WriteSet, SetWindow}
use Rattle.rep_types.specs.declared.verdict.Verdict.{Verdict}
use Rattle.rep_types.specs.declared.verdict.Verdict.TheVariants.{Commit, Conflict, Stale, Future, BadKey}
use Rattle.rep_types.specs.declared.limits.TheConstants.{MAX_SEQNO, MAX_READS, MAX_WRITES}
use Rattle.rep_types.specs.declared.key.Key.{Key}
use Rattle.rep_types.specs.Transactions.{Transaction, HasShortValue, IsWithinLimits, checked}
use Rattle.rep_types.specs.Windows.{is_window_size}
use Rattle.rep_forms.specs.Forms.{IsForm, number_bytes}
use Rattle.rep_forms.specs.FormLaws.{length_number, run_short, all_of, byte_is_form, number_is_form, both_is_form, many_is_form, via_is_form, named_is_form}
use Rattle.rep_forms.specs.Keys.{key_bytes}
use Rattle.rep_forms.specs.KeyLaws.{key_is_form, key_short}
use Rattle.rep_forms.specs.Writes.{write_bytes}
use Rattle.rep_forms.specs.WriteLaws.{write_is_form, write_short}
use Rattle.rep_types.specs.Items.{IsWithin}
use Rattle.rep_record.specs.Records.{IsVerdictAt, IsSpelled, HasSpelling, IsRecord, body_bytes, record_bytes, label_fields, verdict_fields, size_width, list_fields, record_fields, record_form}

ruleset forms = (via_is_form, both_is_form, number_is_form, byte_is_form, many_is_form, key_is_form, write_is_form)

labels_is_form : IsForm label_fields
labels_is_form = search forms

verdict_is_form : IsForm verdict_fields
verdict_is_form = search forms

lists_is_form : IsForm list_fields
lists_is_form = search forms depth 10

fields_is_form : IsForm record_fields
fields_is_form = search (forms, labels_is_form, verdict_is_form, lists_is_form)

-- a verdict that fits its item
verdict_fits : (seqno : ℕ) (v : Verdict) → seqno ≤ MAX_SEQNO → IsVerdictAt seqno v → verdict_fields.Fits v
verdict_fits seqno Commit le h = ((lit< tt, lit< tt), refl)
verdict_fits seqno (Conflict m) le h = ((lit< tt, omega (arith, h.1)), refl)
verdict_fits seqno Stale le h = ((lit< tt, lit< tt), refl)
verdict_fits seqno Future le h = ((lit< tt, lit< tt), refl)
verdict_fits seqno BadKey le h = ((lit< tt, lit< tt), refl)

-- what is within the limits is not refused
checked_again : (w : Transaction) → IsWithinLimits w → checked w ≡ Ok w
checked_again w h =
    rw (le-ltb MAX_READS (length w.reads) h.few_reads, le-ltb MAX_WRITES (length w.writes) h.few_writes, h.reads_ascend, h.writes_ascend, lt-ltb 0 (length w.writes) h.some_write) refl

some_writes : (n : ℕ) → 0 < n → eqb n 0 ≡ false
some_writes n some = grind (arith, nat_tests)

-- behind writes there is no size
no_size : (n : ℕ) → 0 < n → size_width n ≡ 0
no_size n some = grind (arith, nat_tests)

nothing : (n : ℕ) → 0 < n → number_bytes (size_width n) 0 ≡ []
unfolding number_bytes
nothing n some = ap (λ k. number_bytes k 0) (no_size n some)

lists_fit : (w : Transaction) → IsSpelled w → list_fields.Fits (w.reads, (w.writes, 0))
lists_fit w h = (
  (
    omega (arith, h.limits.few_reads),
    (
      omega (arith, h.limits.few_writes),
      (
        record { size = refl; few = h.limits.few_reads; each = h.reads },
        (record { size = refl; few = h.limits.few_writes; each = h.writes }, rw (no_size (length w.writes) h.limits.some_write) (lit< tt)),
      ),
    ),
  ),
  refl,
)

-- a size within the limits
pub size_small : (size : ℕ) → is_window_size size ≡ true → size < 256 ^ 2
size_small size h = grind (arith, nat_tests)

size_fits : (size : ℕ) → is_window_size size ≡ true → list_fields.Fits ([], ([], size))
size_fits size h = (
  (lit< tt, (lit< tt, (record { size = refl; few = omega arith; each = tt }, (record { size = refl; few = omega arith; each = tt }, size_small size h)))),
  refl,
)

-- a record's body takes at most 1,227 bytes
pub body_short : (seqno : ℕ) (i : Item) (v : Verdict) → IsWithin i → length (body_bytes seqno i v) ≤ 1227
body_short seqno (WriteSet w) v h =
    let Short : Key → Type 0 = λ key. length (key_bytes key) ≤ 5 in
    let reads = run_short key_bytes Short 5 (λ key small. small) w.reads (all_of Short key_short w.reads) in
    let writes = run_short write_bytes HasShortValue 69 write_short w.writes h.short_values in
    let few : 5 * length w.reads ≤ 80 = omega (arith, h.few_reads) in
    let many : 69 * length w.writes ≤ 1104 = omega (arith, h.few_writes) in
    simp (length-append, length_number) (omega (arith, reads, writes, few, many))
body_short seqno (SetWindow c) v h = simp (length-append, length_number) (omega arith)

within : (i : Item) → HasSpelling i → IsWithin i
within (WriteSet w) h = h.limits
within (SetWindow c) h = h.size

-- the parts of what has a spelling fit, and are of it
item_fits : (seqno : ℕ) (i : Item) (v : Verdict) → seqno ≤ MAX_SEQNO → IsVerdictAt seqno v → HasSpelling i →
    record_fields.Fits (record { seqno = seqno; item = i; verdict = v })
item_fits seqno (WriteSet w) v small at h = (
  (omega (arith, body_short seqno (WriteSet w) v h.limits), (((omega (arith, small), (h.last_seen, (h.source, h.trx))), refl), (verdict_fits seqno v small at, lists_fit w h))),
  rw (some_writes (length w.writes) h.limits.some_write, checked_again w h.limits) refl,
)
item_fits seqno (SetWindow c) v small at h = (
  (omega (arith, body_short seqno (SetWindow c) v h.size), (((omega (arith, small), (lit< tt, (h.source, h.trx))), refl), (verdict_fits seqno v small at, size_fits c.size h.size))),
  rw h.size refl,
)

-- what is said of an item is spelled field by field
item_spelled : (seqno : ℕ) (i : Item) (v : Verdict) → HasSpelling i →
    record_bytes (record { seqno = seqno; item = i; verdict = v }) ≡ record_fields.spell (record { seqno = seqno; item = i; verdict = v })
item_spelled seqno (WriteSet w) v h = rw (nothing (length w.writes) h.limits.some_write, append-nil (flat_map write_bytes w.writes)) refl
item_spelled seqno (SetWindow c) v h = refl

pub record_is_form : IsForm record_form
record_is_form =
    named_is_form record_fields IsRecord record_bytes fields_is_form
    (λ j h. item_fits j.seqno j.item j.verdict h.seqno h.verdict h.item)
    (λ j h. item_spelled j.seqno j.item j.verdict h.item)
