-- What a donor writes is what the joiner needs.
use Rattle.std.proofs.Common.{◌≡◌, ℕ, zero, suc, ◌+◌, ◌-◌, ◌≤◌, ◌<◌, ◌^◌, Bool, true, false, List, [], ◌∷◌, ◌++◌, length, map, take, Option, None, Some, Result, Ok, Err, inl, inr, refl, sym, ap, subst, ◌∙◌, append_assoc, arith, length-append}
use Rattle.std.specs.Prelude.{nat_lt, slice_index, IfSome}
use Rattle.std.specs.List.{flat_map, range_with_len, AllByRecursion}
use Rattle.std.specs.List.Sorted.{IsStrictlyIncreasing}
use Rattle.std.specs.Io.KnownBytes.{Appends}
use Rattle.std.proofs.KnownBytes.{Appends-trans}
use Rattle.std.proofs.Math.Path.{fun_ext}
use Rattle.std.proofs.Math.Seq.{take-append-add}
use Rattle.std.proofs.lemmas.Bool.{cases_lt, lt-ltb, le-ltb}
use Rattle.std.proofs.lemmas.List.FromFn.{get_or-range_with_len, length-range_with_len}
use Rattle.std.proofs.lemmas.List.Kept.{IsStrictlyIncreasing-filter}
use Rattle.rep_types.specs.declared.refusal.Refusal.{Refusal}
use Rattle.rep_types.specs.declared.key.Key.{Key}
use Rattle.rep_types.specs.declared.judged.Judged.{Judged}
use Rattle.rep_types.specs.declared.limits.TheConstants.{MAX_SEQNO}
use Rattle.rep_types.specs.Settings.{Setting, IsRow, is_setting, pages_of}
use Rattle.rep_types.specs.Windows.{Window as Kept, fixed}
use Rattle.rep_types.specs.Order.{State}
use Rattle.rep_types.proofs.Choices.{neither_some}
use Rattle.rep_types.proofs.Lists.{filter_no_longer}
use Rattle.rep_forms.specs.Forms.{number_bytes}
use Rattle.rep_disk.specs.declared.disk.Disk.{Ghosts}
use Rattle.rep_layout.specs.declared.format.Format.{Format}
use Rattle.rep_layout.specs.declared.format.Format.TheVariants.{Two}
use Rattle.rep_layout.specs.declared.super_body.SuperBody.{SuperBody}
use Rattle.rep_layout.specs.Rows.{row_place, RowPlacesAreTold}
use Rattle.rep_layout.specs.SuperLaws.{limits_of}
use Rattle.rep_layout.specs.Windows.{IsOfFormat}
use Rattle.rep_pages.specs.Slots.{state_of_page}
use Rattle.rep_log.specs.Standing.{Standing as Log}
use Rattle.rep_log.specs.Tail.{records_of}
use Rattle.rep_steps.specs.Standings.{Standing}
use Rattle.rep_steps.specs.Nodes.{Node, advanced}
use Rattle.rep_steps.specs.Images.{AreJudgedFrom}
use Rattle.rep_replica.specs.Coming.{blank, with_page}
use Rattle.rep_replica.specs.Engines.{durable_of}
use Rattle.rep_replica.specs.Replicas.{Replica}
use Rattle.rep_replica.specs.Holding.{Holds}
use Rattle.rep_replica.specs.Asking.{IsAsked}
use Rattle.rep_transfer.specs.declared.have.Have.{Have}
use Rattle.rep_transfer.specs.declared.header.Header.{Header}
use Rattle.rep_transfer.specs.Haves.{IsHeader, header_bytes}
use Rattle.rep_transfer.specs.Shapes.{shape_of, least_of}
use Rattle.rep_transfer.specs.declared.pieces.NumberedPage.{NumberedPage}
use Rattle.rep_transfer.specs.Pieces.{page_bytes}
use Rattle.rep_transfer.specs.Transfers.{Snapshot, Transfer, IsTransfer, IsTold, kept_bytes, snapshot_bytes, snapshot_part, end_bytes, transfer_bytes}
use Rattle.rep_transfer.specs.Writing.{Wrote}
use Rattle.rep_catchup.specs.Snapshots.{with_pages, state_of, number_of, IsSnapshot}
use Rattle.rep_catchup.specs.Donating.{IsRunning, as_seen, is_in_slot, held_below, rows_below, StandsBeside, ArePages, ArePagesBelow, IsPageThere, IsSnapshotThere, AreAllBlocks, AreBlocksThere, IsSnapshotFor, IsSnapshotOf, IsDonated, IsBaseFor, NeedsSnapshot, ComesWhereNeeded, HasAllParts, Brings, KnowsWindow, KnowsPages, KnowsSnapshot, KnowsBlocks, Donates, WroteFront, WroteLess, Writes, above, behind, durable_items, tail_part, window_part}
use Rattle.rep_catchup.proofs.DonateReads.{same_of, seen_before}
use Rattle.rep_catchup.proofs.DonateWrites.{front_before, front_behind, front_less, front_none, front_of_wrote, writes_mapped}
use Rattle.rep_catchup.proofs.DonateWindow.{some_window}
use Rattle.rep_catchup.proofs.DonatePages.{pages_none}
use Rattle.rep_catchup.proofs.DonateTail.{blocks_none, records_above}
use Rattle.rep_catchup.proofs.WindowLimits.{kept_fits, entries_fit}

-- ---- the base of a node

-- the base that a superblock names
pub record IsBaseOf (n : Node) (b : SuperBody) : Type 0 where
  pub setting : n.facts.setting ≡ b.params
  pub facts : n.facts.base ≡ b.position
  pub position : n.base.position ≡ b.position
  pub limit : b.position ≤ MAX_SEQNO
  pub outside : (key : Key) → (IsRow b.params.rows key → ⊥) → n.base.content key ≡ None

pub base_of : {D : Type 0} (g : Ghosts D) (n : Node) (r : Replica D) → Holds g n r → IsRunning r → IsBaseOf n r.engine.checkpoint.base
base_of g n r holds runs =
    let there = holds.engine.runs ((neither_some r.stopped r.engine.halted runs).1) in
    let base = there.stands.checkpoint.base in
    let at : n.facts.base ≡ r.engine.checkpoint.base.position = ap (λ (s : Standing). s.base) holds.facts in
    record {
      setting = ap (λ (s : Standing). s.setting) holds.facts;
      facts = at;
      position = base.position;
      limit = omega (arith, at, holds.node.facts.based, holds.node.facts.limit);
      outside = base.content.outside;
    }

-- ---- the pages

increasing : (n : ℕ) → IsStrictlyIncreasing (range_with_len 0 n)
increasing n k lt =
    let size = length-range_with_len 0 n in
    let one = get_or-range_with_len 0 n k 0 (omega (arith, lt, size)) in
    let two = get_or-range_with_len 0 n (k + 1) 0 (omega (arith, lt, size)) in
    omega (arith, one, two)

pub held_increase : (b : SuperBody) (n : ℕ) → IsStrictlyIncreasing (held_below b n)
held_increase b n = IsStrictlyIncreasing-filter (λ (page : ℕ). is_in_slot (state_of_page b page)) (range_with_len 0 n) (increasing n)

with_pages_rest : (schema : List ℕ) (pages : List NumberedPage) (y : State) → ((with_pages schema pages y).position ≡ y.position) × ((with_pages schema pages y).kept ≡ y.kept)
with_pages_rest schema [] y = (refl, refl)
with_pages_rest schema (p ∷ pages) y = with_pages_rest schema pages (with_page schema p.number p.rows y)

same_state : (S T : State) → S.position ≡ T.position → S.content ≡ T.content → S.kept ≡ T.kept → S ≡ T
same_state S T e f g = λ i. record { position = e i; content = f i; kept = g i }

-- All rows lie in the pages of the schema, and what is no row is absent.
all_rows : RowPlacesAreTold → (b : SuperBody) (content : Key → Option (List ℕ)) → ((key : Key) → (IsRow b.params.rows key → ⊥) → content key ≡ None) → (key : Key) → rows_below b.params.rows content (pages_of b.params.rows) key ≡ content key
all_rows places b content outside key = elim (cases_lt key.row (slice_index b.params.rows key.table)) [
  | inl is ↦
      let yes : nat_lt key.row (slice_index b.params.rows key.table) ≡ true = lt-ltb key.row (slice_index b.params.rows key.table) is in
      let within : nat_lt (row_place b.params.rows key).page (pages_of b.params.rows) ≡ true = lt-ltb (row_place b.params.rows key).page (pages_of b.params.rows) (places.within b.params.rows key is) in
      rw (yes, within)
  | inr past ↦ let no : nat_lt key.row (slice_index b.params.rows key.table) ≡ false = le-ltb key.row (slice_index b.params.rows key.table) past in rw no (sym (outside key (λ is. omega (arith, is, past))))
]

-- ---- a snapshot

length_map : (pages : List NumberedPage) → length (map number_of pages) ≡ length pages
length_map [] = refl
length_map (p ∷ pages) = ap suc (length_map pages)

held_few : (b : SuperBody) (n : ℕ) → length (held_below b n) ≤ n
held_few b n = omega (arith, filter_no_longer (λ (page : ℕ). is_in_slot (state_of_page b page)) (range_with_len 0 n), length-range_with_len 0 n)

-- ---- on any device

module _ (b : SuperBody) (v : Kept) (stands : StandsBeside b v) where
  abbrev most : ℕ
  most = pages_of b.params.rows

  few_pages : most ≤ 4096
  few_pages = (limits_of b.params stands.setting).pages

  -- the snapshot of this window and these pages
  abbrev with_these : List NumberedPage → Snapshot
  with_these pages = record { position = b.position; kept = v; pages = pages }

  same_count : (pages : List NumberedPage) → ArePagesBelow b most pages → length (held_below b most) ≡ length pages
  same_count pages are = ap length (sym are.numbers) ∙ length_map pages

  is_for : (pages : List NumberedPage) → ArePagesBelow b most pages → IsSnapshotFor b (with_these pages)
  is_for pages are =
      let kept = kept_fits b.params b.position v stands.position stands.kept in (
        record {
          position = stands.position;
          size = kept.0;
          floor = kept.1;
          few = kept.2;
          entries = entries_fit b.params v.floor b.position v.entries stands.setting stands.position stands.kept.entries;
          some = omega (arith, held_few b most, same_count pages are, few_pages);
          pages = are.fit;
        },
        record { position = refl; window = stands; numbers = are.numbers },
      )

  bytes_are : (pages : List NumberedPage) → window_part b v ++ (number_bytes 2 (length pages) ++ flat_map page_bytes pages) ≡ snapshot_bytes Two (with_these pages)
  bytes_are pages = append_assoc (83 ∷ number_bytes 8 b.position) (kept_bytes Two v) (number_bytes 2 (length pages) ++ flat_map page_bytes pages)

  -- the writer or the device failed in the window
  pub cut_in_window : (a c : Option (List ℕ)) → WroteFront a c (window_part b v) → (s : Snapshot) × IsSnapshotFor b s × WroteFront a c (snapshot_bytes Two s)
  cut_in_window a c cut =
      let pages = pages_none b most a (omega (arith, few_pages)) in
      (with_these pages.0, is_for pages.0 pages.1, subst (WroteFront a c) (bytes_are pages.0) (front_before a c (window_part b v) (number_bytes 2 (length pages.0) ++ flat_map page_bytes pages.0) cut))

  module _ (count : ℕ) (count_is : count ≡ length (held_below b most)) (a c d e : Option (List ℕ)) (window : Appends a c (window_part b v)) where
    number_is : (pages : List NumberedPage) → ArePagesBelow b most pages → number_bytes 2 count ≡ number_bytes 2 (length pages)
    number_is pages are = ap (number_bytes 2) (count_is ∙ same_count pages are)

    -- the writer failed at the number of pages
    pub cut_in_count : (x : Refusal) → Wrote c d (number_bytes 2 count) (Err x) → (s : Snapshot) × IsSnapshotFor b s × WroteFront a d (snapshot_bytes Two s)
    cut_in_count x wrote =
        let pages = pages_none b most a (omega (arith, few_pages)) in
        let number : WroteFront c d (number_bytes 2 (length pages.0)) = subst (WroteFront c d) (number_is pages.0 pages.1) (front_of_wrote c d (number_bytes 2 count) x wrote) in (
          with_these pages.0,
          is_for pages.0 pages.1,
          subst (WroteFront a d) (bytes_are pages.0) (front_behind a c d (window_part b v) (number_bytes 2 (length pages.0) ++ flat_map page_bytes pages.0) window (front_before c d (number_bytes 2 (length pages.0)) (flat_map page_bytes pages.0) number)),
        )

    -- all but the pages were written
    pub writes_snapshot : (Known : List NumberedPage → Type 0) (Knows : Snapshot → Type 0) (result : Result (Unit {0}) Refusal) → ((pages : List NumberedPage) → ArePagesBelow b most pages → Known pages → Knows (with_these pages)) → Appends c d (number_bytes 2 count)
        → Writes (flat_map page_bytes) (ArePagesBelow b most) (λ done. Known) d e result → Writes (snapshot_bytes Two) (IsSnapshotFor b) (λ done. Knows) a e result
    writes_snapshot Known Knows (Ok done) knows counted w =
        let (pages, are, known, written) = w.done in
        record {
          done = (
            with_these pages,
            is_for pages are,
            knows pages are known,
            subst (Appends a e) (bytes_are pages) (Appends-trans a c e (window_part b v) (number_bytes 2 (length pages) ++ flat_map page_bytes pages) window
                (Appends-trans c d e (number_bytes 2 (length pages)) (flat_map page_bytes pages) (subst (Appends c d) (number_is pages are) counted) written)),
          );
          cut = tt;
        }
    writes_snapshot Known Knows (Err x) knows counted w =
        let (pages, are, front) = w.cut in
        record {
          done = tt;
          cut = (
            with_these pages,
            is_for pages are,
            subst (WroteFront a e) (bytes_are pages) (front_behind a c e (window_part b v) (number_bytes 2 (length pages) ++ flat_map page_bytes pages) window
                (front_behind c d e (number_bytes 2 (length pages)) (flat_map page_bytes pages) (subst (Appends c d) (number_is pages are) counted) front)),
          );
        }

-- ---- of a node

module _ (places : RowPlacesAreTold) (n : Node) (b : SuperBody) (base : IsBaseOf n b) (v : Kept) (same : v ≡ n.base.kept) (pages : List NumberedPage) (stands : StandsBeside b v) (are : ArePages b n.base.content (pages_of b.params.rows) pages) where
  snapshot : Snapshot
  snapshot = record { position = b.position; kept = v; pages = pages }

  is_snapshot : IsSnapshot b.params snapshot
  unfolding snapshot
  is_snapshot = record {
    limit = base.limit;
    window = stands.kept;
    ascend = subst IsStrictlyIncreasing (sym are.numbers) (held_increase b (pages_of b.params.rows));
    pages = are.are_pages;
  }

  brings : state_of b.params snapshot ≡ n.base
  unfolding snapshot
  brings =
      let rest = with_pages_rest b.params.rows pages (blank b.position v) in
      same_state (state_of b.params snapshot) n.base (rest.0 ∙ sym base.position) (fun_ext (λ key. are.rows b.position v key ∙ all_rows places b n.base.content base.outside key)) (rest.1 ∙ same)

  pub snapshot_of_node : IsSnapshotOf n (record { position = b.position; kept = v; pages = pages })
  unfolding snapshot
  snapshot_of_node = record {
    is_snapshot = subst (λ (p : Setting). IsSnapshot p snapshot) (sym base.setting) is_snapshot;
    state = ap (λ (p : Setting). state_of p snapshot) base.setting ∙ brings;
  }

module _ {D : Type 0} (g : Ghosts D) where
  -- what is known of a snapshot, by what is known of its window and its pages
  pub knows_snapshot : RowPlacesAreTold → (r : Replica D) → IsRunning r → (v : Kept) (pages : List NumberedPage) → StandsBeside r.engine.checkpoint.base v → KnowsWindow g r v → KnowsPages g r (pages_of r.engine.checkpoint.base.params.rows) pages
      → KnowsSnapshot g r (record { position = r.engine.checkpoint.base.position; kept = v; pages = pages })
  knows_snapshot places r runs v pages stands window known = record {
    there = λ h. record { window = window.there h; pages = known.there h };
    of_node = λ n h. snapshot_of_node places n r.engine.checkpoint.base (base_of g n r h runs) v (window.of_node n h) pages stands (known.of_node n h);
  }

  -- what was known of the replica before
  pub pages_before : (a b : Replica D) (old new : Option (List ℕ)) (result : Result (Unit {0}) Refusal) → IsAsked g a b → ((n : Node) → Holds g n a → Holds g n b)
      → Writes (flat_map page_bytes) (ArePagesBelow b.engine.checkpoint.base (pages_of b.engine.checkpoint.base.params.rows)) (λ done. KnowsPages g b (pages_of b.engine.checkpoint.base.params.rows)) old new result
      → Writes (flat_map page_bytes) (ArePagesBelow a.engine.checkpoint.base (pages_of a.engine.checkpoint.base.params.rows)) (λ done. KnowsPages g a (pages_of a.engine.checkpoint.base.params.rows)) old new result
  pages_before a b old new result reads still w =
      let same : b.engine.checkpoint.base ≡ a.engine.checkpoint.base = same_of g (λ (r : Replica D). r.engine.checkpoint.base) a b reads refl in
      writes_mapped (flat_map page_bytes) _ _ _ _ old new result
      (λ pages are. subst (λ (s : SuperBody). ArePagesBelow s (pages_of s.params.rows) pages) same are)
      (λ done pages are known. record {
        there = λ h. seen_before g a b (λ r l s log. AllByRecursion (IsPageThere r s) pages) reads h (known.there (reads.stays_honest h));
        of_node = λ n h. subst (λ (s : SuperBody). ArePages s n.base.content (pages_of s.params.rows) pages) same (known.of_node n (still n h));
      }) w

  pub blocks_before : (a b : Replica D) (position : ℕ) (old new : Option (List ℕ)) (result : Result (Unit {0}) Refusal) → IsAsked g a b → ((n : Node) → Holds g n a → Holds g n b)
      → Writes (tail_part position) (AreAllBlocks b.engine.log) (λ done. KnowsBlocks g b) old new result → Writes (tail_part position) (AreAllBlocks a.engine.log) (λ done. KnowsBlocks g a) old new result
  blocks_before a b position old new result reads still w =
      let same : b.engine.log ≡ a.engine.log = same_of g (λ (r : Replica D). r.engine.log) a b reads refl in
      writes_mapped (tail_part position) _ _ _ _ old new result
      (λ blocks are. subst (λ (log : Log). AreAllBlocks log blocks) same are)
      (λ done blocks are known. record {
        there = λ h. seen_before g a b (λ r l s log. AreBlocksThere r l log.start blocks) reads h (known.there (reads.stays_honest h));
        of_node = λ n h. known.of_node n (still n h);
      }) w

-- ---- the records

-- All of a node's items are above its base.
above_base : (p : Setting) (S : State) (items : List Judged) (k position : ℕ) → position ≤ S.position → AreJudgedFrom p S items → above position (take k items) ≡ take k items
above_base p S items zero position within judged = refl
above_base p S [] (suc k) position within judged = refl
above_base p S (j ∷ items) (suc k) position within judged =
    let yes : nat_lt position j.seqno ≡ true = lt-ltb position j.seqno (omega (arith, within, judged.0)) in
    let rest = above_base p (advanced p S j) items k position (omega (arith, within)) judged.2 in
    rw yes (ap (λ (js : List Judged). j ∷ js) rest)

pub all_above : {D : Type 0} (g : Ghosts D) (n : Node) (r : Replica D) → Holds g n r → above n.facts.base (durable_items n) ≡ durable_items n
all_above g n r holds = above_base n.facts.setting n.base n.items (n.facts.durable - n.facts.base) n.facts.base (omega (arith, holds.node.position)) holds.judged

-- ---- what comes before the records

-- there is one
pub some_base : (b : SuperBody) (have : Have) (needs : Bool) → is_setting b.params ≡ true → b.position < 2 ^ 64 → (needs ≡ true → NeedsSnapshot b.position have) × (NeedsSnapshot b.position have → needs ≡ true) → (s : Option Snapshot) × IsBaseFor b have s
some_base b have false setting small needed = (None, (tt, λ needs. let never : false ≡ true = needed.1 needs in absurd cc))
some_base b have true setting small needed =
    let v = fixed b.params.window b.position [] in
    let stands = some_window b setting small in
    let s = cut_in_window b v stands None None (front_none None (window_part b v)) in
    (Some s.0, (s.1.0, (needed.0 refl, s.1.1)))

-- ---- all of it

-- format 2 tells each window
told_by_two : (h : Header) (o : Option Snapshot) → h.format ≡ Two → IfSome o (IsTold h)
told_by_two h None two = tt
told_by_two h (Some s) two = subst (λ (format : Format). IsOfFormat format (least_of h.shape) s.position s.kept) (sym two) tt

brings_of : (n : Node) (b : SuperBody) (have : Have) (s : Option Snapshot) (blocks : List (List Judged)) → n.facts.base ≡ b.position → ComesWhereNeeded b have s → IfSome s (IsSnapshotOf n) → records_of blocks ≡ durable_items n → above n.facts.base (durable_items n) ≡ durable_items n
    → Brings n have s (above (behind have s) (records_of blocks))
brings_of n b have None blocks base enough known is all = (
  λ nil. enough (inl nil),
  elim (cases_lt have.position n.facts.base) [ inl before ↦ absurd (enough (inr (omega (arith, before, base)))) | inr past ↦ past ],
  ap (above have.position) is,
)
brings_of n b have (Some s) blocks base (needs, beside) known is all = (
  subst (λ (k : ℕ). NeedsSnapshot k have) (sym base) needs,
  known,
  ap (λ (k : ℕ). above k (records_of blocks)) (beside.position ∙ sym base) ∙ ap (above n.facts.base) is ∙ all,
)

module _ (b : SuperBody) (log : Log) (have : Have) (h : Header) (is_header : IsHeader h) (two : h.format ≡ Two) (uuid : h.uuid ≡ b.uuid) (shape : h.shape ≡ shape_of b.params) (last : ℕ) (last_is : last ≡ durable_of log) (small : last < 2 ^ 64) where
  -- the transfer of these
  abbrev with_parts : Option Snapshot → List (List Judged) → Transfer
  with_parts s blocks = record { header = h; snapshot = s; records = above (behind have s) (records_of blocks); last = last }

  pub all_parts : (s : Option Snapshot) (blocks : List (List Judged)) → IsBaseFor b have s → AreAllBlocks log blocks → HasAllParts b log have (with_parts s blocks)
  all_parts s blocks base are = record {
    is_transfer = record { header = is_header; snapshot = base.0; told = told_by_two h s two; records = records_above log (behind have s) blocks are; last = small };
    format = two;
    uuid = uuid;
    shape = shape;
    snapshot = base.1;
    blocks = blocks;
    are_blocks = are;
    records = refl;
    last = last_is;
  }

  parts_are : (s : Option Snapshot) → snapshot_part Two s ≡ snapshot_part h.format s
  parts_are s = ap (λ (format : Format). snapshot_part format s) (sym two)

  -- the end comes behind what was written
  module _ (s : Option Snapshot) (blocks : List (List Judged)) (base : IsBaseFor b have s) (are : AreAllBlocks log blocks) (a e : Option (List ℕ)) where
    abbrev before_end : List ℕ
    before_end = header_bytes h ++ (snapshot_part h.format s ++ tail_part (behind have s) blocks)

    all_are : before_end ++ end_bytes last ≡ transfer_bytes (with_parts s blocks)
    all_are =
        append_assoc (header_bytes h) (snapshot_part h.format s ++ tail_part (behind have s) blocks) (end_bytes last)
        ∙ ap (λ (bytes : List ℕ). header_bytes h ++ bytes) (append_assoc (snapshot_part h.format s) (tail_part (behind have s) blocks) (end_bytes last))

    less : WroteFront a e before_end → WroteLess b log have a e
    less front =
        let cut = front_less a e before_end (end_bytes last) (omega arith) front in
        let k = cut.0 in
        let short : k < length (transfer_bytes (with_parts s blocks)) = subst (λ (bytes : List ℕ). k < length bytes) all_are cut.1 in
        let written : Appends a e (take k (transfer_bytes (with_parts s blocks))) = subst (λ (bytes : List ℕ). Appends a e (take k bytes)) all_are cut.2 in
        (with_parts s blocks, all_parts s blocks base are, k, short, written)

  -- the writer failed at the header
  pub cut_in_header : (a e : Option (List ℕ)) (x : Refusal) → (s : Option Snapshot) × IsBaseFor b have s → Wrote a e (header_bytes h) (Err x) → WroteLess b log have a e
  cut_in_header a e x (s, base) wrote =
      let (blocks, are, none) = blocks_none log (behind have s) a in
      less s blocks base are a e (front_before a e (header_bytes h) (snapshot_part h.format s ++ tail_part (behind have s) blocks) (front_of_wrote a e (header_bytes h) x wrote))

  module _ (a c : Option (List ℕ)) (began : Appends a c (header_bytes h)) where
    -- it ended in what comes before the records
    pub cut_in_base : (e : Option (List ℕ)) → (s : Option Snapshot) × IsBaseFor b have s × WroteFront c e (snapshot_part Two s) → WroteLess b log have a e
    cut_in_base e (s, base, front) =
        let (blocks, are, none) = blocks_none log (behind have s) a in
        less s blocks base are a e (front_behind a c e (header_bytes h) (snapshot_part h.format s ++ tail_part (behind have s) blocks) began
        (front_before c e (snapshot_part h.format s) (tail_part (behind have s) blocks) (subst (WroteFront c e) (parts_are s) front)))

    module _ (s : Option Snapshot) (position : ℕ) (d : Option (List ℕ)) (base : IsBaseFor b have s) (is : position ≡ behind have s) (based : Appends c d (snapshot_part Two s)) where
      -- it ended in the records
      pub cut_in_tail : (e : Option (List ℕ)) → (blocks : List (List Judged)) × AreAllBlocks log blocks × WroteFront d e (tail_part position blocks) → WroteLess b log have a e
      cut_in_tail e (blocks, are, front) =
          less s blocks base are a e (front_behind a c e (header_bytes h) (snapshot_part h.format s ++ tail_part (behind have s) blocks) began
          (front_behind c d e (snapshot_part h.format s) (tail_part (behind have s) blocks) (subst (Appends c d) (parts_are s) based) (subst (λ (k : ℕ). WroteFront d e (tail_part k blocks)) is front)))

      module _ (blocks : List (List Judged)) (e : Option (List ℕ)) (are : AreAllBlocks log blocks) (tailed : Appends d e (tail_part position blocks)) where
        told_tail : Appends a e (before_end s blocks base are a e)
        told_tail =
            Appends-trans a c e (header_bytes h) (snapshot_part h.format s ++ tail_part (behind have s) blocks) began
            (Appends-trans c d e (snapshot_part h.format s) (tail_part (behind have s) blocks) (subst (Appends c d) (parts_are s) based) (subst (λ (k : ℕ). Appends d e (tail_part k blocks)) is tailed))

        -- the writer failed at the end
        pub cut_in_end : (f : Option (List ℕ)) (x : Refusal) → Wrote e f (end_bytes last) (Err x) → WroteLess b log have a f
        cut_in_end f x wrote =
            let (k, short, cut) = wrote.cut in
            let first = before_end s blocks base are a f in
            let bytes = transfer_bytes (with_parts s blocks) in
            let same : first ++ end_bytes last ≡ bytes = all_are s blocks base are a f in
            let written : Appends a f (take (length first + k) bytes) = subst (λ (all : List ℕ). Appends a f (take (length first + k) all)) same (subst (Appends a f) (sym (take-append-add first (end_bytes last) k)) (Appends-trans a e f first (take k (end_bytes last)) told_tail cut)) in
            (with_parts s blocks, all_parts s blocks base are, length first + k, omega (arith, ap length same, length-append first (end_bytes last), short), written)

        -- all was written
        pub donates : {D : Type 0} (g : Ghosts D) (r : Replica D) (f : Option (List ℕ)) → r.engine.checkpoint.base ≡ b → r.engine.log ≡ log → Appends e f (end_bytes last)
            → (g.honest r.engine.disk → IfSome s (IsSnapshotThere (as_seen g r.engine) b) × AreBlocksThere (as_seen g r.engine) r.engine.layout log.start blocks) → ((n : Node) → Holds g n r → IsDonated n have (with_parts s blocks))
            → Donates g r have a f last
        donates g r f base_is log_is ended there of_node = record {
          transfer = with_parts s blocks;
          parts = subst (λ (x : SuperBody). HasAllParts x r.engine.log have (with_parts s blocks)) (sym base_is) (subst (λ (x : Log). HasAllParts b x have (with_parts s blocks)) (sym log_is) (all_parts s blocks base are));
          is_last = refl;
          written = subst (Appends a f) (all_are s blocks base are a f) (Appends-trans a e f (before_end s blocks base are a f) (end_bytes last) told_tail ended);
          there = λ h. record {
            snapshot = subst (λ (x : SuperBody). IfSome s (IsSnapshotThere (as_seen g r.engine) x)) (sym base_is) (there h).0;
            blocks = blocks;
            are_there = subst (λ (x : Log). AreBlocksThere (as_seen g r.engine) r.engine.layout x.start blocks) (sym log_is) (there h).1;
            count = are.1 ∙ ap (λ (x : Log). x.next - x.start) (sym log_is);
            records = refl;
          };
          of_node = of_node;
        }

module _ {D : Type 0} (g : Ghosts D) where
  pub base_there : (r : Replica D) (s : Option Snapshot) → IfSome s (KnowsSnapshot g r) → g.honest r.engine.disk → IfSome s (IsSnapshotThere (as_seen g r.engine) r.engine.checkpoint.base)
  base_there r None known h = tt
  base_there r (Some s) known h = known.there h

  pub base_of_node : (r : Replica D) (s : Option Snapshot) → IfSome s (KnowsSnapshot g r) → (n : Node) → Holds g n r → IfSome s (IsSnapshotOf n)
  base_of_node r None known n h = tt
  base_of_node r (Some s) known n h = known.of_node n h

  -- of a node it is what the joiner needs
  pub donated_of_node : (n : Node) (r : Replica D) → Holds g n r → (have : Have) (h : Header) → h.format ≡ Two → h.uuid ≡ r.engine.checkpoint.base.uuid → h.shape ≡ shape_of r.engine.checkpoint.base.params → (s : Option Snapshot) → ComesWhereNeeded r.engine.checkpoint.base have s
      → IfSome s (IsSnapshotOf n) → (blocks : List (List Judged)) → records_of blocks ≡ durable_items n → (last : ℕ) → last ≡ durable_of r.engine.log → IsTransfer (record { header = h; snapshot = s; records = above (behind have s) (records_of blocks); last = last })
      → IsDonated n have (record { header = h; snapshot = s; records = above (behind have s) (records_of blocks); last = last })
  donated_of_node n r holds have h two uuid shape s comes known blocks is last last_is is_transfer = record {
    is_transfer = is_transfer;
    format = two;
    uuid = uuid ∙ sym (ap (λ (x : Standing). x.uuid) holds.facts);
    shape = shape ∙ ap shape_of (sym (ap (λ (x : Standing). x.setting) holds.facts));
    brings = brings_of n r.engine.checkpoint.base have s blocks (ap (λ (x : Standing). x.base) holds.facts) comes known is (all_above g n r holds);
    last = last_is ∙ sym (ap (λ (x : Standing). x.durable) holds.facts);
  }
