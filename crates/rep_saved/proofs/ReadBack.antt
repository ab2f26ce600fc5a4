-- What a saved state is written as reads back as it.
use Rattle.std.proofs.Common.{◌≡◌, ℕ, ℤ, ◌+◌, ◌<◌, ◌≤◌, ◌==◌, Bool, true, false, List, [], ◌∷◌, ◌++◌, append_assoc, length, length-append, take, drop, Option, None, Some, Ok, Err, refl, sym, ap, ◌∙◌, arith}
use Rattle.std.specs.Prelude.{IsTrue, codes, if◌then◌else◌}
use Rattle.std.specs.List.{slice_split, position_or_len}
use Rattle.std.specs.Fmt.{signed_decimal}
use Rattle.std.proofs.Math.Seq.{take-append_seam, drop-append_seam, take-length}
use Rattle.uuid.proofs.TextLemmas.{by_index_length}
use Rattle.std.proofs.lemmas.Bool.{lt-ltb, le-leb, eq-eqb}
use Rattle.std.proofs.lemmas.List.Splits.{slice_split_at}
use Rattle.uuid.specs.Text.{lower, hyphenated_text}
use Rattle.rep_types.specs.Gtids.{Gtid, is_seqno, seqno_in, uuid_in, gtid_of, gtid_with, gtid_in, gtid_text}
use Rattle.rep_types.specs.declared.refusal.Refusal.TheVariants.{Malformed}
use Rattle.rep_record.specs.Words.{cut}
use Rattle.rep_saved.specs.declared.line.Said.TheVariants.{Nothing, Uuid, Seqno, Safe, Bad}
use Rattle.rep_saved.specs.declared.saved.SavedState.{SavedState}
use Rattle.rep_saved.specs.Lines.{from_first, up_to_last, without_return, uuid_said, said_by, parted, said}
use Rattle.rep_saved.specs.Saved.{bit_text, saved_text, sayings, together, saved_in}
use Rattle.rep_saved.proofs.Sayings.{is_feed}
use Rattle.rep_saved.proofs.Visible.{Visible, uuid_visible, seqno_visible, bit_visible, no_feed, front_stays, end_stays, no_return}

-- ---- lines

-- a line that a key begins and a visible text ends
said_visible : (before value : List ℕ) → Visible value → from_first (before ++ value) ≡ before ++ value → said (without_return (before ++ value)) ≡ parted (cut 58 (before ++ value))
said_visible before value v front =
    ap said (no_return before value v) ∙ ap (λ t. parted (cut 58 t)) (ap up_to_last front ∙ end_stays before value v)

-- a key that has no colon is cut at the colon behind it
cut_key : (key value : List ℕ) → position_or_len (λ b. b == 58) (key ++ 58 ∷ value) ≡ length key → cut 58 (key ++ 58 ∷ value) ≡ Some (key, value)
unfolding cut
cut_key key value e =
    let inside : length key < length (key ++ 58 ∷ value) = omega (arith, length-append key (58 ∷ value)) in
    let front : take (length key) (key ++ 58 ∷ value) ≡ key = take-append_seam key (58 ∷ value) in
    let size : length (key ++ 58 ∷ []) ≡ length key + 1 = length-append key (58 ∷ []) in
    let behind : drop (length key + 1) (key ++ 58 ∷ value) ≡ value =
    ap (drop (length key + 1)) (sym (append_assoc key (58 ∷ []) value)) ∙ ap (λ n. drop n ((key ++ 58 ∷ []) ++ value)) (sym size) ∙ drop-append_seam (key ++ 58 ∷ []) value in
    rw (e, lt-ltb (length key) (length (key ++ 58 ∷ value)) inside, front, behind) refl

says_uuid : (value uuid : List ℕ) → Visible value → length value ≡ 36 → uuid_in value ≡ Some uuid → said (without_return (codes "uuid:    " ++ value)) ≡ Uuid uuid
says_uuid value uuid v size is =
    said_visible (codes "uuid:    ") value v refl ∙ ap parted (cut_key (codes "uuid") (codes "    " ++ value) refl)
    ∙ ap (said_by (codes "uuid")) (front_stays value v) ∙ ap (λ b. if b then uuid_said (uuid_in value) else Bad) (eq-eqb (length value) 36 size) ∙ ap uuid_said is

says_seqno : (value : List ℕ) (seqno : ℤ) → Visible value → seqno_in value ≡ Some seqno → said (without_return (codes "seqno:   " ++ value)) ≡ Seqno seqno
says_seqno value seqno v is =
    said_visible (codes "seqno:   ") value v refl ∙ ap parted (cut_key (codes "seqno") (codes "   " ++ value) refl)
    ∙ ap (said_by (codes "seqno")) (front_stays value v) ∙ rw is refl

says_safe : (bit : Bool) → said (without_return (codes "safe_to_bootstrap: " ++ bit_text bit)) ≡ Safe bit
unfolding cut
says_safe true = refl
says_safe false = refl

says_title : said (without_return (codes "# GALERA saved state")) ≡ Nothing
unfolding cut
says_title = refl

says_version : said (without_return (codes "version: 2.1")) ≡ Nothing
unfolding cut
says_version = refl

says_end : said [] ≡ Nothing
unfolding cut
says_end = refl

-- the lines of a text of five keys and values, as they are written
five_lines : (uuid seqno safe : List ℕ) → Visible uuid → Visible seqno → Visible safe →
    slice_split is_feed (codes "# GALERA saved state\nversion: 2.1\nuuid:    " ++ (uuid ++ (codes "\nseqno:   " ++ (seqno ++ (codes "\nsafe_to_bootstrap: " ++ (safe ++ codes "\n"))))))
    ≡ codes "# GALERA saved state" ∷ codes "version: 2.1" ∷ (codes "uuid:    " ++ uuid) ∷ (codes "seqno:   " ++ seqno) ∷ (codes "safe_to_bootstrap: " ++ safe) ∷ [] ∷ []
five_lines uuid seqno safe u n s =
    rw (
      slice_split_at is_feed uuid 10 (codes "seqno:   " ++ (seqno ++ (codes "\nsafe_to_bootstrap: " ++ (safe ++ codes "\n")))) (no_feed uuid u) refl,
      slice_split_at is_feed seqno 10 (codes "safe_to_bootstrap: " ++ (safe ++ codes "\n")) (no_feed seqno n) refl,
      slice_split_at is_feed safe 10 [] (no_feed safe s) refl,
    ) refl

-- ---- the parts of a GTID, which reads back

gtid_parts_by : (o : Option (List ℕ)) (n : Option ℤ) (text : List ℕ) (g : Gtid) → seqno_in text ≡ n → gtid_with o (58 ∷ text) ≡ Ok g → (o ≡ Some g.uuid) × (n ≡ Some g.seqno)
gtid_parts_by None n text g e h = absurd cc
gtid_parts_by (Some uuid) None text g e h = absurd (let q : Err (Malformed 37) ≡ Ok g = sym (ap (gtid_of uuid) e) ∙ h in cc)
gtid_parts_by (Some uuid) (Some seqno) text g e h =
    let same : Ok (record { uuid = uuid; seqno = seqno }) ≡ Ok g = sym (ap (gtid_of uuid) e) ∙ h in
    let own : record { uuid = uuid; seqno = seqno } ≡ g = cc in
    (ap (λ (x : Gtid). Some x.uuid) own, ap (λ (x : Gtid). Some x.seqno) own)

-- a text of 36 characters, a colon and more
gtid_parts : (head tail : List ℕ) (g : Gtid) → length head ≡ 36 → gtid_in ((head ++ codes ":") ++ tail) ≡ Ok g → (uuid_in head ≡ Some g.uuid) × (seqno_in tail ≡ Some g.seqno)
gtid_parts head tail g size h =
    let text : (head ++ codes ":") ++ tail ≡ head ++ 58 ∷ tail = append_assoc head (codes ":") tail in
    let front : take 36 (head ++ 58 ∷ tail) ≡ head = ap (λ n. take n (head ++ 58 ∷ tail)) (sym size) ∙ take-append_seam head (58 ∷ tail) in
    let behind : drop 36 (head ++ 58 ∷ tail) ≡ 58 ∷ tail = ap (λ n. drop n (head ++ 58 ∷ tail)) (sym size) ∙ drop-append_seam head (58 ∷ tail) in
    let all : take 36 head ≡ head = ap (λ n. take n head) (sym size) ∙ take-length head in
    let long : 36 ≤ length (head ++ 58 ∷ tail) = omega (arith, length-append head (58 ∷ tail), size) in
    let same : uuid_in (head ++ 58 ∷ tail) ≡ uuid_in head = rw (le-leb 36 (length (head ++ 58 ∷ tail)) long, size, front, all) refl in
    let parts = gtid_parts_by (uuid_in (head ++ 58 ∷ tail)) (seqno_in tail) tail g refl (ap (gtid_with (uuid_in (head ++ 58 ∷ tail))) (sym behind) ∙ ap gtid_in (sym text) ∙ h) in
    (sym same ∙ parts.0, parts.1)

-- ---- the whole

regrouped : (a u b n c s d : List ℕ) → (((((a ++ u) ++ b) ++ n) ++ c) ++ s) ++ d ≡ a ++ (u ++ (b ++ (n ++ (c ++ (s ++ d)))))
regrouped a u b n c s d = simp append_assoc

-- what six lines say together
six : (size : ℕ) (l1 l2 l3 l4 l5 : List ℕ) (uuid : List ℕ) (seqno : ℤ) (safe : Bool) → said (without_return l1) ≡ Nothing → said (without_return l2) ≡ Nothing →
    said (without_return l3) ≡ Uuid uuid → said (without_return l4) ≡ Seqno seqno → said (without_return l5) ≡ Safe safe → said [] ≡ Nothing →
    together size (sayings 0 (l1 ∷ l2 ∷ l3 ∷ l4 ∷ l5 ∷ [] ∷ [])) ≡ Ok (record { gtid = record { uuid = uuid; seqno = seqno }; safe_to_bootstrap = safe })
six size l1 l2 l3 l4 l5 uuid seqno safe e1 e2 e3 e4 e5 e6 = rw (e1, e2, e3, e4, e5, e6) refl

pub saved_back : (s : SavedState) → gtid_in (gtid_text s.gtid) ≡ Ok s.gtid → IsTrue (is_seqno s.gtid.seqno) → saved_in (saved_text s) ≡ Ok s
saved_back s own seqno =
    let u = hyphenated_text lower s.gtid.uuid in
    let n = signed_decimal s.gtid.seqno in
    let b = bit_text s.safe_to_bootstrap in
    let size : length (hyphenated_text lower s.gtid.uuid) ≡ 36 = by_index_length 36 _ in
    let parts = gtid_parts (hyphenated_text lower s.gtid.uuid) (signed_decimal s.gtid.seqno) s.gtid size own in
    let lines : slice_split is_feed (saved_text s) ≡ codes "# GALERA saved state" ∷ codes "version: 2.1" ∷ (codes "uuid:    " ++ u) ∷ (codes "seqno:   " ++ n) ∷ (codes "safe_to_bootstrap: " ++ b) ∷ [] ∷ [] =
    ap (slice_split is_feed) (regrouped (codes "# GALERA saved state\nversion: 2.1\nuuid:    ") u (codes "\nseqno:   ") n (codes "\nsafe_to_bootstrap: ") b (codes "\n"))
    ∙ five_lines u n b (uuid_visible s.gtid.uuid) (seqno_visible s.gtid.seqno seqno) (bit_visible s.safe_to_bootstrap) in
    ap (λ ls. together (length (saved_text s)) (sayings 0 ls)) lines
    ∙ six (length (saved_text s)) (codes "# GALERA saved state") (codes "version: 2.1") (codes "uuid:    " ++ u) (codes "seqno:   " ++ n) (codes "safe_to_bootstrap: " ++ b)
    s.gtid.uuid s.gtid.seqno s.safe_to_bootstrap says_title says_version
    (says_uuid u s.gtid.uuid (uuid_visible s.gtid.uuid) size parts.0) (says_seqno n s.gtid.seqno (seqno_visible s.gtid.seqno seqno) parts.1) (says_safe s.safe_to_bootstrap) says_end
