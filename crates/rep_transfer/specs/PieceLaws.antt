-- Each piece tells by its first bytes how long it is.
use Rattle.std.proofs.Common.{◌≡◌, ℕ, ◌+◌, ◌*◌, ◌-◌, ◌≤◌, ◌<◌, ◌^◌, List, [], ◌∷◌, ◌++◌, length, take, get_or, refl, sym, ap, ◌∙◌, append_assoc, arith, length-append}
use Rattle.std.specs.List.{flat_map}
use Rattle.std.proofs.lemmas.List.{take_at, append-nil}
use Rattle.byteorder.specs.Numbers.{big_number-reads_back}
use Rattle.rep_types.specs.declared.key.Key.{Key}
use Rattle.rep_types.specs.declared.item.Item.{Item}
use Rattle.rep_types.specs.declared.item.Item.TheVariants.{WriteSet, SetWindow}
use Rattle.rep_types.specs.declared.verdict.Verdict.{Verdict}
use Rattle.rep_types.specs.Entries.{Entry}
use Rattle.rep_forms.specs.Forms.{byte, number, number_bytes, number_in}
use Rattle.rep_forms.specs.FormLaws.{length_number, run_size}
use Rattle.rep_forms.specs.Keys.{KeyFits, key_bytes}
use Rattle.rep_forms.specs.Rows.{RowFits, row_bytes}
use Rattle.rep_forms.specs.RowLaws.{row_size}
use Rattle.rep_forms.specs.Entries.{EntryFits, entry_bytes, entry_form}
use Rattle.rep_layout.specs.Formats.{digit_of}
use Rattle.rep_types.specs.Items.{IsWithin}
use Rattle.rep_record.specs.Records.{HasSpelling, body_bytes, spelled, record_form}
use Rattle.rep_record.specs.RecordLaws.{body_short}
use Rattle.rep_transfer.specs.declared.have.Have.{Have}
use Rattle.rep_transfer.specs.declared.header.Header.{Header}
use Rattle.rep_transfer.specs.declared.pieces.NumberedPage.{NumberedPage}
use Rattle.rep_transfer.specs.Haves.{have_mark, IsHave, have_bytes, header_form, header_mark, IsHeader, header_bytes}
use Rattle.rep_transfer.specs.Pieces.{IsPaced, no_more, more_of_entry, more_of_record, PageFits, page_bytes, page_form}
use Rattle.rep_transfer.specs.Shapes.{shape_bytes}
use Rattle.rep_transfer.specs.ShapeLaws.{shape_size}

pub letter_is_paced : IsPaced byte 1 no_more
letter_is_paced = record { size = λ x h. refl; room = λ x h. omega arith; first = omega arith }

number_is_paced : (n : ℕ) → n ≤ 4034 → IsPaced (number n) n no_more
number_is_paced n few = record { size = λ x h. omega (arith, length_number n x); room = λ x h. omega (arith, length_number n x, few); first = omega (arith, few) }

pub count_is_paced : IsPaced (number 2) 2 no_more
count_is_paced = number_is_paced 2 (omega arith)

pub position_is_paced : IsPaced (number 8) 8 no_more
position_is_paced = number_is_paced 8 (omega arith)

-- ---- headers and pages

mark_size : length header_mark ≡ 7
unfolding header_mark
mark_size = refl

pub header_size : (header : Header) → IsHeader header → length (header_bytes header) ≡ 59
header_size header h =
    omega (
      arith,
      mark_size,
      h.uuid.size,
      shape_size header.shape h.shape,
      length-append header_mark (digit_of header.format ∷ (header.uuid ++ shape_bytes header.shape)),
      length-append header.uuid (shape_bytes header.shape),
    )

pub header_is_paced : IsPaced header_form 59 no_more
header_is_paced = record { size = λ x h. header_size x h; room = λ x h. omega (arith, header_size x h); first = omega arith }

have_mark_size : length have_mark ≡ 8
unfolding have_mark
have_mark_size = refl

pub have_size : (have : Have) → IsHave have → length (have_bytes have) ≡ 67
have_size have h =
    omega (
      arith,
      have_mark_size,
      h.uuid.size,
      length_number 8 have.position,
      shape_size have.shape h.shape,
      length-append have_mark (have.uuid ++ (number_bytes 8 have.position ++ shape_bytes have.shape)),
      length-append have.uuid (number_bytes 8 have.position ++ shape_bytes have.shape),
      length-append (number_bytes 8 have.position) (shape_bytes have.shape),
    )

page_size : (p : NumberedPage) → PageFits p → length (page_bytes p) ≡ 4034
page_size p h =
    let rows : length (flat_map row_bytes p.rows) ≡ 64 * length p.rows = run_size row_bytes RowFits 64 row_size p.rows h.rows.each in
    omega (arith, rows, h.rows.size, length_number 2 p.number, length-append (number_bytes 2 p.number) (flat_map row_bytes p.rows))

pub page_is_paced : IsPaced page_form 4034 no_more
page_is_paced = record { size = λ x h. page_size x h; room = λ x h. omega (arith, page_size x h); first = omega arith }

-- ---- entries

key_size : (key : Key) → KeyFits key → length (key_bytes key) ≡ 5
key_size key h = omega (arith, length_number 4 key.row)

-- what stands first is what is taken
first_bytes : (a b c : List ℕ) (n : ℕ) → length a ≡ n → b ≡ a ++ c → take n b ≡ a
first_bytes a b c n size is = ap (take n) is ∙ take_at a c n size

at_end : (xs ys : List ℕ) (y n : ℕ) → length xs ≡ n → get_or (xs ++ y ∷ ys) n 0 ≡ y
at_end [] ys y n e = rw (sym e) refl
at_end (x ∷ xs) ys y n e = rw (sym e) (at_end xs ys y (length xs) refl)

entry_more : (e : Entry) → more_of_entry (take 9 (entry_bytes e)) ≡ 5 * length e.keys
unfolding more_of_entry
entry_more e =
    let front = first_bytes (number_bytes 8 e.seqno ++ length e.keys ∷ []) (entry_bytes e) (flat_map key_bytes e.keys) 9 (omega (arith, length_number 8 e.seqno, length-append (number_bytes 8 e.seqno) (length e.keys ∷ []))) (sym (append_assoc (number_bytes 8 e.seqno) (length e.keys ∷ []) (flat_map key_bytes e.keys))) in
    ap (λ bytes. 5 * get_or bytes 8 0) front ∙ ap (λ n. 5 * n) (at_end (number_bytes 8 e.seqno) [] (length e.keys) 8 (length_number 8 e.seqno))

entry_size : (e : Entry) → EntryFits e → length (entry_bytes e) ≡ 9 + 5 * length e.keys
entry_size e h =
    let keys : length (flat_map key_bytes e.keys) ≡ 5 * length e.keys = run_size key_bytes KeyFits 5 key_size e.keys h.keys in
    omega (arith, keys, length_number 8 e.seqno, length-append (number_bytes 8 e.seqno) (length e.keys ∷ flat_map key_bytes e.keys))

pub entry_is_paced : IsPaced entry_form 9 more_of_entry
entry_is_paced = record { size = λ x h. omega (arith, entry_size x h, entry_more x); room = λ x h. omega (arith, entry_size x h, h.few); first = omega arith }

-- ---- records

number_again : (n x : ℕ) → x < 256 ^ n → number_in n (number_bytes n x) ≡ x
unfolding number_in number_bytes
number_again n x h = ap (number_in n) (sym (append-nil (number_bytes n x))) ∙ big_number-reads_back n x [] h

-- a body behind its length
sized_more : (body : List ℕ) → length body ≤ 1227 → more_of_record (take 2 (number_bytes 2 (length body + 2) ++ body)) ≡ length body
unfolding more_of_record
sized_more body short =
    let front = first_bytes (number_bytes 2 (length body + 2)) (number_bytes 2 (length body + 2) ++ body) body 2 (length_number 2 (length body + 2)) refl in
    ap (λ bytes. number_in 2 bytes - 2) front ∙ ap (λ n. n - 2) (number_again 2 (length body + 2) (omega (arith, short))) ∙ omega arith

sized_size : (body : List ℕ) → length (number_bytes 2 (length body + 2) ++ body) ≡ 2 + length body
sized_size body = omega (arith, length_number 2 (length body + 2), length-append (number_bytes 2 (length body + 2)) body)

spelled_within : (i : Item) → HasSpelling i → IsWithin i
spelled_within (WriteSet w) h = h.limits
spelled_within (SetWindow c) h = h.size

record_size : (seqno : ℕ) (i : Item) (v : Verdict) → HasSpelling i → (length (spelled seqno i v) ≡ 2 + more_of_record (take 2 (spelled seqno i v))) × (length (spelled seqno i v) ≤ 4034)
record_size seqno i v h =
    let short = body_short seqno i v (spelled_within i h) in
    let size = sized_size (body_bytes seqno i v) in
    (omega (arith, size, sized_more (body_bytes seqno i v) short), omega (arith, size, short))

pub record_is_paced : IsPaced record_form 2 more_of_record
record_is_paced = record { size = λ j h. (record_size j.seqno j.item j.verdict h.item).0; room = λ j h. (record_size j.seqno j.item j.verdict h.item).1; first = omega arith }
