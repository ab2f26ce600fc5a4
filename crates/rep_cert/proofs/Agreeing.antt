-- The numbers of the rows agree with the entries that are kept, as items come and are undone.
use Rattle.std.proofs.Common.{◌≡◌, ℕ, ◌+◌, ◌-◌, ◌<◌, ◌≤◌, max, Bool, true, false, ◌&&◌, nat_le, if◌then◌else◌, List, [], ◌++◌, length, get_or, All, refl, sym, ap, subst, ◌∙◌, le_refl, append_assoc, arith}
use Rattle.std.specs.List.{list_any, list_all}
use Rattle.std.proofs.lemmas.List.{append-nil}
use Rattle.std.proofs.lemmas.List.Elements.{filter-append}
use Rattle.std.proofs.lemmas.List.Folds.{list_all-append}
use Rattle.circular_buffer.specs.Buffer.{keep_last}
use Rattle.rep_types.specs.declared.item.Item.TheVariants.{WriteSet}
use Rattle.rep_types.specs.declared.key.Key.{Key}
use Rattle.rep_types.specs.Keys.{key_eq}
use Rattle.rep_types.specs.Settings.{Setting, has_row, IsRow}
use Rattle.rep_types.specs.Entries.{Entry}
use Rattle.rep_types.specs.Transactions.{Transaction, written}
use Rattle.rep_types.specs.Order.{in_schema, is_commit, recent}
use Rattle.rep_cert.specs.declared.ring.TheConstants.{KEPT_ENTRIES}
use Rattle.rep_cert.specs.Holdings.{Holding, upto, verdict_of}
use Rattle.rep_cert.specs.Writers.{IsLaidOut, place, is_placed, writer, last_writer, Agrees}
use Rattle.rep_cert.specs.Kept.{Ascends, own_entry, level}
use Rattle.rep_cert.proofs.Ascending.{Ascends-wider, Ascends-drop, upto_below}
use Rattle.rep_cert.proofs.LastWriters.{last_writer-append, last_writer-recent, last_writer-upto}
use Rattle.rep_cert.proofs.Places.{HasPlace-row, is_placed_row}
use Rattle.rep_cert.proofs.Kept.{upto_kept, Ascends_own, kept_whole, kept_before}

-- entries that are the same above the level have the same last writers there
last_writer_alike : (low : ℕ) (es fs : List Entry) (key : Key) → recent (low + 1) es ≡ recent (low + 1) fs → max low (last_writer key es) ≡ max low (last_writer key fs)
last_writer_alike low es fs key same =
    sym (last_writer-recent low key es) ∙ (ap (λ (gs : List Entry). max low (last_writer key gs)) same ∙ last_writer-recent low key fs)

-- numbers agree with any entries that are the same above the level
pub Agrees-recent : (rows starts seqnos : List ℕ) (low : ℕ) (es fs : List Entry) → recent (low + 1) es ≡ recent (low + 1) fs → Agrees rows starts seqnos low es → Agrees rows starts seqnos low fs
Agrees-recent rows starts seqnos low es fs same agrees key row = agrees key row ∙ last_writer_alike low es fs key same

-- the keys that a certifiable item writes are rows
pub written_rows : (p : Setting) (w : Transaction) → in_schema p w ≡ true → list_all (has_row p.rows) (written w) ≡ true
written_rows p w keys =
    let both : (list_all (has_row p.rows) w.reads && list_all (has_row p.rows) (written w)) ≡ true = sym (list_all-append (has_row p.rows) w.reads (written w)) ∙ keys in
    grind arith

-- the last writer of a key among the item's own entry
own_writer : (n : ℕ) (w : Transaction) (commits : Bool) (key : Key) →
    last_writer key (own_entry n (WriteSet w) commits) ≡ (if commits && list_any (λ (k : Key). key_eq k key) (written w) then n else 0)
own_writer n w true key = omega arith
own_writer n w false key = refl

-- the number of a row after an item
noted_row : (p : Setting) (starts seqnos now : List ℕ) (n : ℕ) (w : Transaction) (commits : Bool) (key : Key) → IsLaidOut p.rows starts seqnos → IsRow p.rows key →
    (commits ≡ true → in_schema p w ≡ true) →
    ((i : ℕ) → i < length seqnos → get_or now i 0 ≡ (if commits && is_placed starts (written w) i then n else get_or seqnos i 0)) →
    writer starts now key ≡ (if commits && list_any (λ (k : Key). key_eq k key) (written w) then n else writer starts seqnos key)
noted_row p starts seqnos now n w true key laid row keys noted =
    noted (place starts key) (HasPlace-row p.rows starts seqnos key laid row).row
    ∙ ap (λ (b : Bool). if b then n else writer starts seqnos key) (is_placed_row p.rows starts seqnos (written w) key laid row (written_rows p w (keys refl)))
noted_row p starts seqnos now n w false key laid row keys noted = noted (place starts key) (HasPlace-row p.rows starts seqnos key laid row).row

-- a number that is above all others is the greatest
greatest_last : (b : Bool) (low high d before others : ℕ) → low ≤ high → others ≤ d → max low before ≡ max low others →
    max high (if b then d + 1 else before) ≡ max high (max others (if b then d + 1 else 0))
greatest_last true low high d before others rises few same = omega arith
greatest_last false low high d before others rises few same = omega arith

-- after an item, the numbers agree with what is kept after it
pub Agrees_noted : (p : Setting) (made d : ℕ) (starts seqnos now : List ℕ) (w : Transaction) (commits : Bool) (given es : List Entry) →
    IsLaidOut p.rows starts seqnos → made ≤ d → All (λ (e : Entry). e.seqno ≤ made) given → Ascends (made + 1) (d + 1) es → (commits ≡ true → in_schema p w ≡ true) →
    ((i : ℕ) → i < length seqnos → get_or now i 0 ≡ (if commits && is_placed starts (written w) i then d + 1 else get_or seqnos i 0)) →
    Agrees p.rows starts seqnos (level d) (given ++ es) →
    Agrees p.rows starts now (level (d + 1)) (given ++ keep_last KEPT_ENTRIES (es ++ own_entry (d + 1) (WriteSet w) commits))
Agrees_noted p made d starts seqnos now w commits given es laid start below a keys noted agrees key row =
    let low : ℕ = made + 1 in
    let high : ℕ = level (d + 1) in
    let own : List Entry = own_entry (d + 1) (WriteSet w) commits in
    let more : List Entry = es ++ own in
    let kept : List Entry = keep_last KEPT_ENTRIES more in
    let writes : Bool = commits && list_any (λ (k : Key). key_eq k key) (written w) in
    let wide : Ascends low (d + 2) more = Ascends_own low d (WriteSet w) commits es a in
    let later : d + 2 ≤ d + 1 + 1 = omega arith in
    let all_kept : upto (d + 1) (given ++ kept) ≡ given ++ kept =
    upto_kept made (d + 1) given kept (omega arith) below
    (Ascends-wider low (d + 2) low (d + 1 + 1) kept (le_refl low) later (Ascends-drop (length more - KEPT_ENTRIES) low (d + 2) more wide)) in
    let all : upto (d + 1) (given ++ more) ≡ given ++ more =
    upto_kept made (d + 1) given more (omega arith) below (Ascends-wider low (d + 2) low (d + 1 + 1) more (le_refl low) later wide) in
    let same : recent (high + 1) (given ++ kept) ≡ recent (high + 1) (given ++ more) =
    ap (recent (high + 1)) (sym all_kept) ∙ (kept_whole (high + 1) (d + 1) low (d + 2) given more (omega arith) wide ∙ ap (recent (high + 1)) all) in
    let few : last_writer key (given ++ es) ≤ d = subst (λ (gs : List Entry). last_writer key gs ≤ d) (upto_kept made d given es start below a) (last_writer-upto d key (given ++ es)) in
    let parts : last_writer key (given ++ more) ≡ max (last_writer key (given ++ es)) (if writes then d + 1 else 0) =
    ap (last_writer key) (sym (append_assoc given es own))
    ∙ (last_writer-append key (given ++ es) own ∙ ap (max (last_writer key (given ++ es))) (own_writer (d + 1) w commits key)) in
    ap (max high) (noted_row p starts seqnos now (d + 1) w commits key laid row keys noted)
    ∙ (greatest_last writes (level d) high d (writer starts seqnos key) (last_writer key (given ++ es)) (omega arith) few (agrees key row)
    ∙ sym (last_writer_alike high (given ++ kept) (given ++ more) key same ∙ ap (max high) parts))

-- after an item, the numbers before it agree with what is kept of the entries before it
pub Agrees_before : (rows : List ℕ) (made d : ℕ) (starts seqnos : List ℕ) (w : Transaction) (commits : Bool) (given es : List Entry) →
    made ≤ d → All (λ (e : Entry). e.seqno ≤ made) given → Ascends (made + 1) (d + 1) es → Agrees rows starts seqnos (level d) (given ++ es) →
    Agrees rows starts seqnos (level d) (upto d (given ++ keep_last KEPT_ENTRIES (es ++ own_entry (d + 1) (WriteSet w) commits)))
Agrees_before rows made d starts seqnos w commits given es start below a =
    let low : ℕ = level d + 1 in
    Agrees-recent rows starts seqnos (level d) (given ++ es) (upto d (given ++ keep_last KEPT_ENTRIES (es ++ own_entry (d + 1) (WriteSet w) commits)))
    (sym (kept_before low d (made + 1) d (WriteSet w) commits given es (le_refl d) (omega arith) a ∙ ap (recent low) (upto_kept made d given es start below a)))

-- the entries before the last item, where those that a certifier was made with are all among them
pub Agrees_undone : (rows : List ℕ) (made k low : ℕ) (starts seqnos : List ℕ) (given es : List Entry) → made ≤ k → All (λ (e : Entry). e.seqno ≤ made) given →
    Agrees rows starts seqnos low (upto k (given ++ es)) → Agrees rows starts seqnos low (given ++ upto k es)
Agrees_undone rows made k low starts seqnos given es start below =
    subst (Agrees rows starts seqnos low)
    (filter-append (λ (e : Entry). nat_le e.seqno k) given es ∙ ap (λ (gs : List Entry). gs ++ upto k es) (upto_below made k given start below))

-- what agrees above a level agrees above a higher one
pub Agrees_rises : (rows starts seqnos : List ℕ) (low high : ℕ) (es : List Entry) → low ≤ high → Agrees rows starts seqnos low es → Agrees rows starts seqnos high es
Agrees_rises rows starts seqnos low high es higher agrees key row = omega (arith, agrees key row)

-- numbers that were raised from nothing by all entries agree with them
pub Agrees_made : (rows starts none seqnos : List ℕ) (low : ℕ) (es : List Entry) → ((i : ℕ) → get_or none i 0 ≡ 0) →
    ((key : Key) → IsRow rows key → writer starts seqnos key ≡ max (writer starts none key) (last_writer key es)) → Agrees rows starts seqnos low (es ++ [])
Agrees_made rows starts none seqnos low es nothing raised key row =
    let first : last_writer key (es ++ []) ≡ last_writer key es = ap (last_writer key) (append-nil es) in
    omega (arith, nothing (place starts key), raised key row)

-- an item that commits names rows alone
pub commits_rows : (h : Holding) (w : Transaction) → is_commit (verdict_of h (WriteSet w)) ≡ true → in_schema h.setting w ≡ true
commits_rows h w commits = grind arith
