-- Records as bytes: a delivered item with its verdict, in the one spelling that it has.
use Rattle.std.specs.Prelude.{◌≡◌, ℕ, ◌+◌, ◌≤◌, ◌<◌, ◌^◌, Bool, true, ◌==◌, ◌&&◌, nat_lt, nat_le, if◌then◌else◌, List, ◌∷◌, ◌++◌, length, drop, Option, None, Some, Result, Ok, Err, IsTrue}
use Rattle.std.specs.List.{flat_map, AllByRecursion}
use Rattle.rep_types.specs.declared.key.Key.{Key}
use Rattle.rep_types.specs.declared.value.Write.{Write}
use Rattle.rep_types.specs.declared.judged.Judged.{Judged}
use Rattle.rep_types.specs.declared.item.Item.{Item}
use Rattle.rep_types.specs.declared.item.Item.TheVariants.{WriteSet, SetWindow}
use Rattle.rep_types.specs.declared.item.SetWindow.{SetWindow as Change}
use Rattle.rep_types.specs.declared.refusal.Refusal.{Refusal}
use Rattle.rep_types.specs.declared.verdict.Verdict.{Verdict}
use Rattle.rep_types.specs.declared.verdict.Verdict.TheVariants.{Commit, Conflict, Stale, Future, BadKey}
use Rattle.rep_types.specs.declared.limits.TheConstants.{MAX_SEQNO, MAX_READS, MAX_WRITES}
use Rattle.rep_types.specs.Transactions.{Transaction, transaction, IsWithinLimits, checked}
use Rattle.rep_types.specs.Windows.{is_window_size}
use Rattle.rep_types.specs.Items.{reads_of, writes_of, seen_by, source_of, trx_of}
use Rattle.rep_types.specs.Reaches.{resized}
use Rattle.rep_types.specs.Order.{is_commit}
use Rattle.rep_record.specs.declared.record.Labels.{Labels}
use Rattle.rep_forms.specs.Options.{◌>>=◌, given}
use Rattle.rep_forms.specs.Forms.{Form, byte, number, number_bytes, both, ◌⊗◌, many, via, as_named}
use Rattle.rep_forms.specs.Keys.{KeyFits, key_bytes, key_form}
use Rattle.rep_forms.specs.Writes.{WriteFits, write_bytes, write_form}

-- ---- which items have a spelling

-- a conflict is with an item before this one
abbrev pub IsVerdictAt : ℕ → Verdict → Type 0
IsVerdictAt seqno (Conflict m) = (1 ≤ m) × (m < seqno)
IsVerdictAt seqno verdict = Unit {0}

-- a write set within the limits, and numbers in the range of their types
pub record IsSpelled (w : Transaction) : Type 0 where
  pub limits : IsWithinLimits w
  pub last_seen : w.last_seen < 2 ^ 64
  pub source : w.source < 2 ^ 64
  pub trx : w.trx < 2 ^ 64
  pub reads : AllByRecursion KeyFits w.reads
  pub writes : AllByRecursion WriteFits w.writes

-- a size within the limits, and labels in the range of their types
pub record IsChange (c : Change) : Type 0 where
  pub size : IsTrue (is_window_size c.size)
  pub source : c.source < 2 ^ 64
  pub trx : c.trx < 2 ^ 64

-- which items have a spelling
abbrev pub HasSpelling : Item → Type 0
HasSpelling (WriteSet w) = IsSpelled w
HasSpelling (SetWindow c) = IsChange c

-- which verdicts an item may have: a change of the window's size always commits
abbrev pub Suits : Item → Verdict → Type 0
Suits (WriteSet w) verdict = Unit {0}
Suits (SetWindow c) verdict = verdict ≡ Commit

-- What has a spelling: a seqno from 1 to the greatest, a verdict that fits the seqno and the item, and an item that has one.
pub record IsRecord (j : Judged) : Type 0 where
  pub positive : 1 ≤ j.seqno
  pub seqno : j.seqno ≤ MAX_SEQNO
  pub verdict : IsVerdictAt j.seqno j.verdict
  pub suits : Suits j.item j.verdict
  pub item : HasSpelling j.item

-- whether a conflict is with an item before this one
abbrev pub is_verdict_at : ℕ → Verdict → Bool
is_verdict_at seqno (Conflict m) = nat_le 1 m && nat_lt m seqno
is_verdict_at seqno verdict = true

-- whether the item may have the verdict
abbrev pub suits : Item → Verdict → Bool
suits (WriteSet w) verdict = true
suits (SetWindow c) verdict = is_commit verdict

-- whether the seqno is from 1 to the greatest, and the verdict fits it and the item: what an item and numbers of their types leave open
abbrev pub is_placed : Judged → Bool
is_placed j = nat_le 1 j.seqno && nat_le j.seqno MAX_SEQNO && is_verdict_at j.seqno j.verdict && suits j.item j.verdict

-- ---- the spelling

-- a verdict: its number, and the seqno of a conflict
abbrev pub verdict_code : Verdict → ℕ
verdict_code Commit = 0
verdict_code (Conflict m) = 1
verdict_code Stale = 2
verdict_code Future = 3
verdict_code BadKey = 4

abbrev pub conflict_seqno : Verdict → ℕ
conflict_seqno (Conflict m) = m
conflict_seqno verdict = 0

abbrev pub verdict_bytes : Verdict → List ℕ
verdict_bytes verdict = verdict_code verdict ∷ number_bytes 8 (conflict_seqno verdict)

-- the numbers of a record: seqno, last_seen, source and trx
abbrev pub labels_in : ℕ → Item → Labels
labels_in seqno i = record { seqno = seqno; last_seen = seen_by i; source = source_of i; trx = trx_of i }

abbrev pub label_bytes : Labels → List ℕ
label_bytes l = number_bytes 8 l.seqno ++ (number_bytes 8 l.last_seen ++ (number_bytes 8 l.source ++ number_bytes 8 l.trx))

-- how many reads and how many writes there are, the reads, and the writes
abbrev pub list_bytes : Transaction → List ℕ
list_bytes w = length w.reads ∷ length w.writes ∷ (flat_map key_bytes w.reads ++ flat_map write_bytes w.writes)

-- what an item says behind its labels and its verdict: of a change of the window's size no read, no write, and the size
abbrev pub content_bytes : Item → List ℕ
content_bytes (WriteSet w) = list_bytes w
content_bytes (SetWindow c) = 0 ∷ 0 ∷ number_bytes 2 c.size

-- the record behind its length
abbrev pub body_bytes : ℕ → Item → Verdict → List ℕ
body_bytes seqno i verdict = label_bytes (labels_in seqno i) ++ (verdict_bytes verdict ++ content_bytes i)

-- the length of all of a record, and the rest
abbrev pub spelled : ℕ → Item → Verdict → List ℕ
spelled seqno i verdict = number_bytes 2 (length (body_bytes seqno i verdict) + 2) ++ body_bytes seqno i verdict

-- A record.
abbrev pub record_bytes : Judged → List ℕ
record_bytes j = spelled j.seqno j.item j.verdict

-- ---- the form

abbrev pub label_parts : Labels → ℕ × (ℕ × (ℕ × ℕ))
label_parts l = (l.seqno, (l.last_seen, (l.source, l.trx)))

abbrev pub labels_of : ℕ × (ℕ × (ℕ × ℕ)) → Option Labels
labels_of x = Some (record { seqno = x.0; last_seen = x.1.0; source = x.1.1.0; trx = x.1.1.1 })

abbrev pub label_fields : Form Labels
label_fields = via (number 8 ⊗ (number 8 ⊗ (number 8 ⊗ number 8))) label_parts labels_of

-- the verdict of this number, with the seqno of a conflict
abbrev pub verdict_of : ℕ → ℕ → Option Verdict
verdict_of code m =
    if code == 0 then Some Commit
    else if code == 1 then Some (Conflict m)
    else if code == 2 then Some Stale
    else if code == 3 then Some Future
    else if code == 4 then Some BadKey
    else None

abbrev pub verdict_fields : Form Verdict
verdict_fields = via (byte ⊗ number 8) (λ v. (verdict_code v, conflict_seqno v)) (λ x. verdict_of x.0 x.1)

-- reads and writes, and the size where there is no write, else 0
abbrev pub Lists : Type 0
Lists = List Key × (List Write × ℕ)

-- how many bytes the size has behind so many writes
abbrev pub size_width : ℕ → ℕ
size_width writes = if writes == 0 then 2 else 0

abbrev pub list_fields : Form Lists
list_fields =
    via (both byte (λ reads. both byte (λ writes. many MAX_READS reads key_form ⊗ (many MAX_WRITES writes write_form ⊗ number (size_width writes)))))
    (λ (l : Lists). (length l.0, (length l.1.0, (l.0, (l.1.0, l.1.1))))) (λ x. Some (x.1.1.0, (x.1.1.1.0, x.1.1.1.1)))

-- what is not refused
abbrev pub unrefused : {A : Type 0} → Result A Refusal → Option A
unrefused (Ok x) = Some x
unrefused (Err e) = None

-- a record's length, its numbers, its verdict, and what its item says
abbrev pub Parts : Type 0
Parts = ℕ × (Labels × (Verdict × Lists))

abbrev pub parts_of : Judged → Parts
parts_of j =
    (length (body_bytes j.seqno j.item j.verdict) + 2, (labels_in j.seqno j.item, (j.verdict, (reads_of j.item, (writes_of j.item, resized 0 j.item)))))

-- the item that these are of: without a write it is a change of the window's size
abbrev pub item_of : Labels → Lists → Option Item
item_of labels lists =
    if length lists.1.0 == 0 then given (is_window_size lists.1.1) (SetWindow (record { size = lists.1.1; source = labels.source; trx = labels.trx }))
    else unrefused (checked (transaction labels.source labels.trx labels.last_seen lists.0 lists.1.0)) >>= λ w. Some (WriteSet w)

abbrev pub judged_of : Labels → Verdict → Lists → Option Judged
judged_of labels verdict lists = item_of labels lists >>= λ i. Some (record { seqno = labels.seqno; item = i; verdict = verdict })

abbrev pub record_fields : Form Judged
record_fields = via (number 2 ⊗ (label_fields ⊗ (verdict_fields ⊗ list_fields))) parts_of (λ (x : Parts). judged_of x.1.0 x.1.1.0 x.1.1.1)

abbrev pub record_form : Form Judged
record_form = as_named record_fields IsRecord record_bytes

-- ---- what is read

-- The bytes begin with the record, which takes n of them.
pub record IsFront (bytes : List ℕ) (j : Judged) (n : ℕ) : Type 0 where
  pub is_record : IsRecord j
  pub size : n ≡ length (record_bytes j)
  pub front : bytes ≡ record_bytes j ++ drop n bytes
  pub within : n ≤ length bytes

-- The spelling of a record tells the record and where it ends: none begins that of another.
pub record RecordsAreTold : Type 0 where
  pub apart : (i j : Judged) (x y : List ℕ) → IsRecord i → IsRecord j → record_bytes i ++ x ≡ record_bytes j ++ y → (i ≡ j) × (x ≡ y)
  pub one_spelling : (i j : Judged) → IsRecord i → IsRecord j → record_bytes i ≡ record_bytes j → i ≡ j
