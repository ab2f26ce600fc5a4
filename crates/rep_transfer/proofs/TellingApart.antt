-- Bytes that begin with a transfer begin with no other.
use Rattle.std.proofs.Common.{◌≡◌, ◌⊎◌, ℕ, ◌^◌, ◌<◌, List, [], ◌∷◌, ◌++◌, length, Option, None, Some, IfSome, inl, inr, refl, sym, ap, subst, ◌∙◌, append_assoc, arith}
use Rattle.std.specs.List.{flat_map, AllByRecursion}
use Rattle.std.proofs.lemmas.Option.{same_Some}
use Rattle.rep_types.specs.declared.judged.Judged.{Judged}
use Rattle.rep_types.specs.Settings.{Setting}
use Rattle.rep_types.specs.Windows.{Window, fixed}
use Rattle.rep_types.proofs.Lists.{same_first}
use Rattle.rep_forms.specs.Forms.{Form, IsForm, number, number_bytes, many}
use Rattle.rep_forms.specs.FormLaws.{number_is_form, many_is_form}
use Rattle.rep_forms.specs.Entries.{EntryFits, entry_bytes, entry_form}
use Rattle.rep_forms.specs.EntryLaws.{entry_is_form}
use Rattle.rep_layout.specs.declared.format.Format.{Format}
use Rattle.rep_layout.specs.declared.format.Format.TheVariants.{One, Two}
use Rattle.rep_layout.specs.Windows.{IsOfFormat}
use Rattle.rep_record.specs.Records.{IsRecord, record_bytes, record_form}
use Rattle.rep_record.specs.RecordLaws.{record_is_form}
use Rattle.rep_transfer.specs.declared.header.Header.{Header}
use Rattle.rep_transfer.specs.Haves.{header_bytes, header_form}
use Rattle.rep_transfer.specs.Pieces.{page_bytes, page_form}
use Rattle.rep_transfer.specs.Shapes.{least_of}
use Rattle.rep_transfer.specs.TransferLaws.{header_is_form, page_is_form}
use Rattle.rep_transfer.specs.Transfers.{Snapshot, Transfer, SnapshotFits, IsTold, IsTransfer, kept_bytes, rest_of, snapshot_bytes, record_part, end_bytes, snapshot_part}
use Rattle.rep_transfer.specs.Telling.{PartsAreTold, TransfersAreTold, IsTakenOf, IsBeforeSnapshot}

-- ---- a value of a form, and what stands behind it

told : {A : Type 0} (F : Form A) → IsForm F → (x y : A) (r s : List ℕ) → F.Fits x → F.Fits y → F.spell x ++ r ≡ F.spell y ++ s → (x ≡ y) × (r ≡ s)
told {A} F is x y r s fits fit same =
    let both = same_Some {A = A × List ℕ} (x, r) (y, s) (sym (is.again x r fits) ∙ ap F.read same ∙ is.again y s fit) in
    (ap (λ (p : A × List ℕ). p.0) both, ap (λ (p : A × List ℕ). p.1) both)

-- one that other bytes follow, and then what stands behind these
told_before : {A : Type 0} (F : Form A) → IsForm F → (x y : A) (a b r s : List ℕ) → F.Fits x → F.Fits y → (F.spell x ++ a) ++ r ≡ (F.spell y ++ b) ++ s → (x ≡ y) × (a ++ r ≡ b ++ s)
told_before F is x y a b r s fits fit same = told F is x y (a ++ r) (b ++ s) fits fit (sym (append_assoc (F.spell x) a r) ∙ same ∙ append_assoc (F.spell y) b s)

-- as many values one after another
run_told : {A : Type 0} (F : Form A) → IsForm F → (xs ys : List A) (r s : List ℕ) → length xs ≡ length ys → AllByRecursion F.Fits xs → AllByRecursion F.Fits ys
    → flat_map F.spell xs ++ r ≡ flat_map F.spell ys ++ s → (xs ≡ ys) × (r ≡ s)
run_told F is xs ys r s size fits fit same =
    let n : ℕ = length ys in
    told (many n n F) (many_is_form n n F is) xs ys r s (record { size = size; few = omega arith; each = fits }) (record { size = refl; few = omega arith; each = fit }) same

-- and their number in front of them
counted_told : {A : Type 0} (F : Form A) → IsForm F → (xs ys : List A) (r s : List ℕ) → length xs < 2 ^ 16 → length ys < 2 ^ 16 → AllByRecursion F.Fits xs → AllByRecursion F.Fits ys
    → (number_bytes 2 (length xs) ++ flat_map F.spell xs) ++ r ≡ (number_bytes 2 (length ys) ++ flat_map F.spell ys) ++ s → (xs ≡ ys) × (r ≡ s)
counted_told F is xs ys r s few less fits fit same =
    let count = told_before (number 2) (number_is_form 2) (length xs) (length ys) (flat_map F.spell xs) (flat_map F.spell ys) r s few less same in
    run_told F is xs ys r s count.0 fits fit count.1

-- ---- a letter

-- ---- a snapshot

window_of_parts : (v w : Window) → v.size ≡ w.size → v.floor ≡ w.floor → v.entries ≡ w.entries → v ≡ w
window_of_parts v w size floor entries = ap (λ n. record { size = n; floor = v.floor; entries = v.entries }) size ∙ ap (λ n. record { size = w.size; floor = n; entries = v.entries }) floor
    ∙ ap (λ es. record { size = w.size; floor = w.floor; entries = es }) entries

-- a window that the format tells, and what stands behind it
kept_told : (format : Format) (p : Setting) (position : ℕ) (v w : Window) (r s : List ℕ) → v.size < 2 ^ 16 → v.floor < 2 ^ 64 → length v.entries < 2 ^ 16 → AllByRecursion EntryFits v.entries
    → w.size < 2 ^ 16 → w.floor < 2 ^ 64 → length w.entries < 2 ^ 16 → AllByRecursion EntryFits w.entries → IsOfFormat format p position v → IsOfFormat format p position w
    → kept_bytes format v ++ r ≡ kept_bytes format w ++ s → (v ≡ w) × (r ≡ s)
kept_told One p position v w r s size floor few fits size' floor' less fit tells tell same =
    let entries = counted_told entry_form entry_is_form v.entries w.entries r s few less fits fit same in
    (tells ∙ ap (fixed p.window position) entries.0 ∙ sym tell, entries.1)
kept_told Two p position v w r s size floor few fits size' floor' less fit tells tell same =
    let entries_of : Window → List ℕ = λ x. number_bytes 2 (length x.entries) ++ flat_map entry_bytes x.entries in
    let spread : (x : Window) (z : List ℕ) → kept_bytes Two x ++ z ≡ number_bytes 2 x.size ++ (number_bytes 8 x.floor ++ (entries_of x ++ z)) =
    λ x z. append_assoc (number_bytes 2 x.size ++ number_bytes 8 x.floor) (entries_of x) z ∙ append_assoc (number_bytes 2 x.size) (number_bytes 8 x.floor) (entries_of x ++ z) in
    let sizes = told (number 2) (number_is_form 2) v.size w.size (number_bytes 8 v.floor ++ (entries_of v ++ r)) (number_bytes 8 w.floor ++ (entries_of w ++ s)) size size' (sym (spread v r) ∙ same ∙ spread w s) in
    let floors = told (number 8) (number_is_form 8) v.floor w.floor (entries_of v ++ r) (entries_of w ++ s) floor floor' sizes.1 in
    let entries = counted_told entry_form entry_is_form v.entries w.entries r s few less fits fit floors.1 in
    (window_of_parts v w sizes.0 floors.0 entries.0, entries.1)

snapshot_of_parts : (s t : Snapshot) → s.position ≡ t.position → s.kept ≡ t.kept → s.pages ≡ t.pages → s ≡ t
snapshot_of_parts s t position kept pages = ap (λ n. record { position = n; kept = s.kept; pages = s.pages }) position ∙ ap (λ v. record { position = t.position; kept = v; pages = s.pages }) kept
    ∙ ap (λ ps. record { position = t.position; kept = t.kept; pages = ps }) pages

snapshot_told : (format : Format) (p : Setting) (s t : Snapshot) (r q : List ℕ) → SnapshotFits s → SnapshotFits t → IsOfFormat format p s.position s.kept → IsOfFormat format p t.position t.kept
    → snapshot_bytes format s ++ r ≡ snapshot_bytes format t ++ q → (s ≡ t) × (r ≡ q)
snapshot_told format p s t r q fits fit tells tell same =
    let behind = (same_first 83 83 ((number_bytes 8 s.position ++ rest_of format s) ++ r) ((number_bytes 8 t.position ++ rest_of format t) ++ q) same).1 in
    let position = told_before (number 8) (number_is_form 8) s.position t.position (rest_of format s) (rest_of format t) r q fits.position fit.position behind in
    let pages_of : Snapshot → List ℕ = λ x. number_bytes 2 (length x.pages) ++ flat_map page_bytes x.pages in
    let window = kept_told format p t.position s.kept t.kept (pages_of s ++ r) (pages_of t ++ q) fits.size fits.floor fits.few fits.entries fit.size fit.floor fit.few fit.entries
    (subst (λ n. IsOfFormat format p n s.kept) position.0 tells) tell (sym (append_assoc (kept_bytes format s.kept) (pages_of s) r) ∙ position.1 ∙ append_assoc (kept_bytes format t.kept) (pages_of t) q) in
    let pages = counted_told page_form page_is_form s.pages t.pages r q fits.some fit.some fits.pages fit.pages window.1 in
    (snapshot_of_parts s t position.0 window.0 pages.0, pages.1)

-- ---- records up to an end

record Ended (xs ys : List Judged) (last end : ℕ) (r s : List ℕ) : Type 0 where
  records : xs ≡ ys
  last_is : last ≡ end
  rest : r ≡ s

ended_told : (xs ys : List Judged) (last end : ℕ) (r s : List ℕ) → AllByRecursion IsRecord xs → AllByRecursion IsRecord ys → last < 2 ^ 64 → end < 2 ^ 64
    → (flat_map record_part xs ++ end_bytes last) ++ r ≡ (flat_map record_part ys ++ end_bytes end) ++ s → Ended xs ys last end r s
ended_told [] [] last end r s fits fit low high same =
    let behind = (same_first 69 69 (number_bytes 8 last ++ r) (number_bytes 8 end ++ s) same).1 in
    let ends = told (number 8) (number_is_form 8) last end r s low high behind in
    record { records = refl; last_is = ends.0; rest = ends.1 }
ended_told [] (y ∷ ys) last end r s fits fit low high same =
    absurd (let never : 69 ≡ 73 = (same_first 69 73 (number_bytes 8 last ++ r) (((record_bytes y ++ flat_map record_part ys) ++ end_bytes end) ++ s) same).0 in omega (arith, never))
ended_told (x ∷ xs) [] last end r s fits fit low high same =
    absurd (let never : 73 ≡ 69 = (same_first 73 69 (((record_bytes x ++ flat_map record_part xs) ++ end_bytes last) ++ r) (number_bytes 8 end ++ s) same).0 in omega (arith, never))
ended_told (x ∷ xs) (y ∷ ys) last end r s fits fit low high same =
    let spread : (z : Judged) (zs : List Judged) (n : ℕ) (q : List ℕ) → ((record_bytes z ++ flat_map record_part zs) ++ end_bytes n) ++ q ≡ record_bytes z ++ ((flat_map record_part zs ++ end_bytes n) ++ q) =
    λ z zs n q. ap (λ (l : List ℕ). l ++ q) (append_assoc (record_bytes z) (flat_map record_part zs) (end_bytes n)) ∙ append_assoc (record_bytes z) (flat_map record_part zs ++ end_bytes n) q in
    let behind = (same_first 73 73 (((record_bytes x ++ flat_map record_part xs) ++ end_bytes last) ++ r) (((record_bytes y ++ flat_map record_part ys) ++ end_bytes end) ++ s) same).1 in
    let first = told record_form record_is_form x y ((flat_map record_part xs ++ end_bytes last) ++ r) ((flat_map record_part ys ++ end_bytes end) ++ s) fits.0 fit.0 (sym (spread x xs last r) ∙ behind ∙ spread y ys end s) in
    let rest = ended_told xs ys last end r s fits.1 fit.1 low high first.1 in
    record { records = ap (λ z. z ∷ xs) first.0 ∙ ap (λ zs. y ∷ zs) rest.records; last_is = rest.last_is; rest = rest.rest }

-- no record and no end begins as a snapshot does
no_snapshot : (xs : List Judged) (last : ℕ) (r q : List ℕ) → (flat_map record_part xs ++ end_bytes last) ++ r ≡ 83 ∷ q → ⊥
no_snapshot [] last r q same = let never : 69 ≡ 83 = (same_first 69 83 (number_bytes 8 last ++ r) q same).0 in omega (arith, never)
no_snapshot (x ∷ xs) last r q same = let never : 73 ≡ 83 = (same_first 73 83 (((record_bytes x ++ flat_map record_part xs) ++ end_bytes last) ++ r) q same).0 in omega (arith, never)

-- ---- behind the header

record Behind (s u : Option Snapshot) (xs ys : List Judged) (last end : ℕ) (r q : List ℕ) : Type 0 where
  snapshot : s ≡ u
  ended : Ended xs ys last end r q

module _ (h : Header) (xs ys : List Judged) (last end : ℕ) (r q : List ℕ) (fits : AllByRecursion IsRecord xs) (fit : AllByRecursion IsRecord ys) (low : last < 2 ^ 64) (high : end < 2 ^ 64) where
  behind_told : (s u : Option Snapshot) → IfSome s SnapshotFits → IfSome u SnapshotFits → IfSome s (IsTold h) → IfSome u (IsTold h)
      → snapshot_part h.format s ++ ((flat_map record_part xs ++ end_bytes last) ++ r) ≡ snapshot_part h.format u ++ ((flat_map record_part ys ++ end_bytes end) ++ q) → Behind s u xs ys last end r q
  behind_told None None spelled spell tells tell same = record { snapshot = refl; ended = ended_told xs ys last end r q fits fit low high same }
  behind_told None (Some u) spelled spell tells tell same = absurd (no_snapshot xs last r ((number_bytes 8 u.position ++ rest_of h.format u) ++ ((flat_map record_part ys ++ end_bytes end) ++ q)) same)
  behind_told (Some s) None spelled spell tells tell same = absurd (no_snapshot ys end q ((number_bytes 8 s.position ++ rest_of h.format s) ++ ((flat_map record_part xs ++ end_bytes last) ++ r)) (sym same))
  behind_told (Some s) (Some u) spelled spell tells tell same =
      let first = snapshot_told h.format (least_of h.shape) s u ((flat_map record_part xs ++ end_bytes last) ++ r) ((flat_map record_part ys ++ end_bytes end) ++ q) spelled spell tells tell same in
      record { snapshot = ap Some first.0; ended = ended_told xs ys last end r q fits fit low high first.1 }

-- ---- the whole

transfer_of_parts : (t u : Transfer) → t.header ≡ u.header → t.snapshot ≡ u.snapshot → t.records ≡ u.records → t.last ≡ u.last → t ≡ u
transfer_of_parts t u header snapshot records last =
    ap (λ h. record { header = h; snapshot = t.snapshot; records = t.records; last = t.last }) header ∙ ap (λ s. record { header = u.header; snapshot = s; records = t.records; last = t.last }) snapshot
    ∙ ap (λ xs. record { header = u.header; snapshot = u.snapshot; records = xs; last = t.last }) records ∙ ap (λ n. record { header = u.header; snapshot = u.snapshot; records = u.records; last = n }) last

pub transfers_told : TransfersAreTold
transfers_told t u rest more is are same =
    let body : Transfer → List ℕ = λ x. snapshot_part x.header.format x.snapshot ++ (flat_map record_part x.records ++ end_bytes x.last) in
    let first = told_before header_form header_is_form t.header u.header (body t) (body u) rest more is.header are.header same in
    let spread : (x : Transfer) (z : List ℕ) → body x ++ z ≡ snapshot_part x.header.format x.snapshot ++ ((flat_map record_part x.records ++ end_bytes x.last) ++ z) =
    λ x z. append_assoc (snapshot_part x.header.format x.snapshot) (flat_map record_part x.records ++ end_bytes x.last) z in
    let told : IfSome t.snapshot (IsTold u.header) = subst (λ (h : Header). IfSome t.snapshot (IsTold h)) first.0 is.told in
    let parts =
    behind_told u.header t.records u.records t.last u.last rest more is.records are.records is.last are.last t.snapshot u.snapshot is.snapshot are.snapshot told are.told
    (ap (λ (h : Header). snapshot_part h.format t.snapshot ++ ((flat_map record_part t.records ++ end_bytes t.last) ++ rest)) (sym first.0) ∙ sym (spread t rest) ∙ first.1 ∙ spread u more) in
    (transfer_of_parts t u first.0 parts.snapshot parts.ended.records parts.ended.last_is, parts.ended.rest)

-- ---- a front of it

-- some of the records, and what is left
record Fewer (xs ys : List Judged) (last : ℕ) (r left : List ℕ) : Type 0 where
  more : List Judged
  records : xs ≡ ys ++ more
  left_is : left ≡ (flat_map record_part more ++ end_bytes last) ++ r

fewer_told : (xs ys : List Judged) (last : ℕ) (r left : List ℕ) → AllByRecursion IsRecord xs → AllByRecursion IsRecord ys → (flat_map record_part xs ++ end_bytes last) ++ r ≡ flat_map record_part ys ++ left → Fewer xs ys last r left
fewer_told xs [] last r left fits fit same = record { more = xs; records = refl; left_is = sym same }
fewer_told [] (y ∷ ys) last r left fits fit same =
    absurd (let never : 69 ≡ 73 = (same_first 69 73 (number_bytes 8 last ++ r) ((record_bytes y ++ flat_map record_part ys) ++ left) same).0 in omega (arith, never))
fewer_told (x ∷ xs) (y ∷ ys) last r left fits fit same =
    let behind = (same_first 73 73 (((record_bytes x ++ flat_map record_part xs) ++ end_bytes last) ++ r) ((record_bytes y ++ flat_map record_part ys) ++ left) same).1 in
    let first = told record_form record_is_form x y ((flat_map record_part xs ++ end_bytes last) ++ r) (flat_map record_part ys ++ left) fits.0 fit.0
    (sym (ap (λ (l : List ℕ). l ++ r) (append_assoc (record_bytes x) (flat_map record_part xs) (end_bytes last)) ∙ append_assoc (record_bytes x) (flat_map record_part xs ++ end_bytes last) r) ∙ behind ∙ append_assoc (record_bytes y) (flat_map record_part ys) left) in
    let rest = fewer_told xs ys last r left fits.1 fit.1 first.1 in
    record { more = rest.more; records = ap (λ z. z ∷ xs) first.0 ∙ ap (λ zs. y ∷ zs) rest.records; left_is = rest.left_is }

module _ (t : Transfer) (rest : List ℕ) (is : IsTransfer t) (left : List ℕ) where
  taken_of : (snapshot : Option Snapshot) (records : List Judged) → snapshot ≡ t.snapshot → Fewer t.records records t.last rest left → IsTakenOf t snapshot records left rest
  taken_of snapshot records same f = record { snapshot_is = same; more = f.more; records_are = f.records; left_is = f.left_is }

  parts_behind : (u snapshot : Option Snapshot) (records : List Judged) → u ≡ t.snapshot → IfSome u SnapshotFits → IfSome u (IsTold t.header) → IfSome snapshot SnapshotFits → IfSome snapshot (IsTold t.header) → AllByRecursion IsRecord records
      → snapshot_part t.header.format u ++ ((flat_map record_part t.records ++ end_bytes t.last) ++ rest) ≡ snapshot_part t.header.format snapshot ++ (flat_map record_part records ++ left)
      → IsTakenOf t snapshot records left rest ⊎ IsBeforeSnapshot t snapshot records left rest
  parts_behind None None records own fits tells fit tell are same = inl (taken_of None records own (fewer_told t.records records t.last rest left is.records are same))
  parts_behind None (Some s) records own fits tells fit tell are same =
      absurd (no_snapshot t.records t.last rest ((number_bytes 8 s.position ++ rest_of t.header.format s) ++ (flat_map record_part records ++ left)) same)
  parts_behind (Some u) None [] own fits tells fit tell are same = inr (record { first = u; first_is = sym own; no_snapshot = refl; no_record = refl; left_is = sym same })
  parts_behind (Some u) None (x ∷ xs) own fits tells fit tell are same =
      absurd (let never : 83 ≡ 73 = (same_first 83 73 ((number_bytes 8 u.position ++ rest_of t.header.format u) ++ ((flat_map record_part t.records ++ end_bytes t.last) ++ rest)) ((record_bytes x ++ flat_map record_part xs) ++ left) same).0 in omega (arith, never))
  parts_behind (Some u) (Some s) records own fits tells fit tell are same =
      let first = snapshot_told t.header.format (least_of t.header.shape) u s ((flat_map record_part t.records ++ end_bytes t.last) ++ rest) (flat_map record_part records ++ left) fits fit tells tell same in
      inl (taken_of (Some s) records (ap Some (sym first.0) ∙ own) (fewer_told t.records records t.last rest left is.records are first.1))

pub parts_told : PartsAreTold
parts_told t rest header snapshot records left is fits fit tell are same =
    let body : List ℕ = snapshot_part t.header.format t.snapshot ++ (flat_map record_part t.records ++ end_bytes t.last) in
    let first = told header_form header_is_form t.header header (body ++ rest) (snapshot_part header.format snapshot ++ (flat_map record_part records ++ left)) is.header fits
    (sym (append_assoc (header_bytes t.header) body rest) ∙ same) in
    let told : IfSome snapshot (IsTold t.header) = subst (λ (h : Header). IfSome snapshot (IsTold h)) (sym first.0) tell in
    let parts = parts_behind t rest is left t.snapshot snapshot records refl is.snapshot is.told fit told are
    (sym (append_assoc (snapshot_part t.header.format t.snapshot) (flat_map record_part t.records ++ end_bytes t.last) rest) ∙ first.1 ∙ ap (λ (h : Header). snapshot_part h.format snapshot ++ (flat_map record_part records ++ left)) (sym first.0)) in
    (sym first.0, parts)
