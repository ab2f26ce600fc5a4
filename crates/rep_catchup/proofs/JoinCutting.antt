-- What stands where a transfer is not taken to its end.
use Rattle.std.proofs.Common.{◌≡◌, ◌⊎◌, inl, inr, ℕ, ◌+◌, ◌<◌, ◌^◌, List, [], ◌∷◌, ◌++◌, length, Option, None, Some, Result, Ok, Err, refl, sym, ap, subst, ◌∙◌, append_assoc, append-nil, arith, length-append}
use Rattle.std.specs.Prelude.{IfErr, IfSome}
use Rattle.std.specs.List.{flat_map}
use Rattle.std.specs.Io.KnownBytes.{Consumes}
use Rattle.std.proofs.KnownBytes.{Consumes-nil, Consumes-trans}
use Rattle.rep_types.specs.declared.refusal.Refusal.{Refusal}
use Rattle.rep_types.specs.declared.refusal.Refusal.TheVariants.{Stopped, OutOfMemory, DiskFault, Malformed, StreamFault}
use Rattle.rep_types.specs.ByItems.{HistoryByItems}
use Rattle.rep_types.specs.declared.judged.Judged.{Judged}
use Rattle.rep_types.specs.Order.{Order}
use Rattle.rep_types.specs.Settings.{Setting}
use Rattle.rep_types.proofs.Lists.{same_behind, all_append}
use Rattle.rep_forms.specs.Forms.{number_bytes}
use Rattle.rep_record.specs.Records.{IsRecord}
use Rattle.rep_disk.specs.declared.disk.Disk.{Ghosts}
use Rattle.rep_layout.specs.declared.format.Format.{Format}
use Rattle.rep_layout.specs.Supers.{IsNil}
use Rattle.rep_steps.specs.Standings.{Standing}
use Rattle.rep_steps.specs.Nodes.{Node}
use Rattle.rep_steps.specs.Orders.{IsOf}
use Rattle.rep_replica.specs.Holding.{Holds}
use Rattle.rep_replica.specs.Episodes.{IsStill}
use Rattle.rep_replica.specs.Replicas.{Replica, facts_of}
use Rattle.rep_replica.specs.Running.{RunsAreJoined}
use Rattle.rep_transfer.specs.declared.header.Header.{Header}
use Rattle.rep_transfer.specs.declared.part.Part.{Part}
use Rattle.rep_transfer.specs.declared.part.Part.TheVariants.{Snapshot as OfSnapshot, Record as OfRecord, End as OfEnd}
use Rattle.rep_transfer.specs.Taking.{counted, BeginWithNone}
use Rattle.rep_transfer.specs.Transfers.{Snapshot, rest_of, snapshot_bytes, snapshot_part, record_part, PartFits, part_bytes}
use Rattle.rep_catchup.specs.Snapshots.{state_of, Brought, GivenUp, NoneComes, BringsEarly, LeavesSnapshot}
use Rattle.rep_catchup.specs.Growing.{Grown}
use Rattle.rep_catchup.specs.Joining.{JoinsEarly, Went, GoesOn, Follows, Followed, MayFollow, NoneFollows, NoSnapshotComes, EndsHere, IsOut, Cut, CutShort, TakesHeader, RefusesHeader, Ended}
use Rattle.rep_catchup.proofs.JoinGrowing.{early_work, grown_none, grown_then}
use Rattle.rep_catchup.proofs.JoinTaking.{same_part}
use Rattle.rep_catchup.proofs.JoinFollowing.{flat_both}
use Rattle.rep_catchup.proofs.JoinWent.{stands_is, went_records, went_snapshot, went_nowhere, went_broken}

-- ---- what stands at the front of known bytes

-- known bytes that began with these
known_front : (P : List ℕ → Type 0) (before left : Option (List ℕ)) (bs : List ℕ) → Consumes before left bs → ((rest : List ℕ) → P (bs ++ rest)) → IfSome before P
known_front P None left bs taken h = tt
known_front P (Some bytes) None bs taken h = absurd taken
known_front P (Some bytes) (Some rest) bs taken h = subst P (sym taken) (h rest)

-- a snapshot begins with its position
fronted : (format : Format) (y : Snapshot) (rest : List ℕ) → snapshot_bytes format y ++ rest ≡ part_bytes (OfSnapshot y.position) ++ (rest_of format y ++ rest)
fronted format y rest = append_assoc (83 ∷ number_bytes 8 y.position) (rest_of format y) rest

position_same : (m n : ℕ) → OfSnapshot m ≡ OfSnapshot n → m ≡ n
position_same m n is = cc

-- how many bytes were taken then
counted_still : (at now n m : ℕ) → counted now 0 ≡ counted at n → counted now m ≡ counted at (n + m)
counted_still at now n m is = omega (arith, is)

counted_from : (at now n m : ℕ) → now ≡ counted at n → counted now m ≡ counted at (n + m)
counted_from at now n m is = omega (arith, is)

-- what a snapshot begins with, and its rest
all_bytes : (format : Format) (position : ℕ) (s : Snapshot) → position ≡ s.position → part_bytes (OfSnapshot position) ++ rest_of format s ≡ snapshot_bytes format s
all_bytes format position s is = ap (λ n. (83 ∷ number_bytes 8 n) ++ rest_of format s) is

behind_same : (m n : ℕ) (xs ys : List ℕ) → m ≡ n → part_bytes (OfSnapshot m) ++ xs ≡ part_bytes (OfSnapshot n) ++ ys → xs ≡ ys
behind_same m n xs ys is same = same_behind (part_bytes (OfSnapshot n)) xs ys (ap (λ k. part_bytes (OfSnapshot k) ++ xs) (sym is) ∙ same)

module _ {D : Type 0} (g : Ghosts D) where
  -- where no part stands none follows
  none_stands : (r : Replica D) (before : Option (List ℕ)) → IfSome before (BeginWithNone PartFits part_bytes) → IfSome before (NoneFollows g r)
  none_stands r None none = tt
  none_stands r (Some bytes) none = λ part rest fits is may. none part rest fits is

  pub no_snapshot_stands : (format : Format) (s : Standing) (before : Option (List ℕ)) → IfSome before (BeginWithNone PartFits part_bytes) → IfSome before (NoSnapshotComes format s)
  no_snapshot_stands format s None none = tt
  no_snapshot_stands format s (Some bytes) none = λ y rest fits told is snapshot later. none (OfSnapshot y.position) (rest_of format y ++ rest) fits.position (is ∙ fronted format y rest)

  pub ends_at_none : (r : Replica D) (at : ℕ) (before : Option (List ℕ)) → IfSome before (BeginWithNone PartFits part_bytes) → EndsHere g r at before (Malformed at)
  ends_at_none r at before none = inr (inr (refl, none_stands r before none))

  -- nor where one stands that may not
  ends_out : (r : Replica D) (part : Part) (at : ℕ) (before left : Option (List ℕ)) (e : Refusal) → PartFits part → Consumes before left (part_bytes part) → IsOut g r part at e → EndsHere g r at before e
  ends_out r part at before left e fits taken (inl work) = inr (inl work)
  ends_out r part at before left e fits taken (inr out) =
      inr (inr (out.0, known_front (NoneFollows g r) before left (part_bytes part) taken (λ rest q more fit is may. out.1 (subst (MayFollow g r) (sym (same_part part q rest more fits fit is)) may))))

  -- no part but a snapshot comes to a node of no cluster
  pub nil_is_out : (r : Replica D) (part : Part) (at : ℕ) → IsNil (facts_of g r).uuid → IsOut g r part at (Malformed at)
  nil_is_out r part at nil = inr (refl, never part)
    where
      never : (p : Part) → MayFollow g r p → ⊥
      never (OfSnapshot position) may = may
      never (OfRecord j) may = may.0 nil
      never (OfEnd last) may = may.0 nil

  -- ---- the node that is left

  -- it grew by some items
  node_grown : (uuid : List ℕ) (old new : Replica D) (records : List Judged) → Grown g old new records → (n : Node) → Holds g n old → (m : Node) × GoesOn n uuid None records m × Holds g m new
  node_grown uuid old new records grown n holds =
      let there = grown.node n holds in
      let m = there.0 in (
        m,
        record {
          uuid_is = ap (λ (s : Standing). s.uuid) there.2.facts ∙ grown.uuid ∙ ap (λ (s : Standing). s.uuid) (sym holds.facts);
          setting_is = ap (λ (s : Standing). s.setting) there.2.facts ∙ grown.setting ∙ ap (λ (s : Standing). s.setting) (sym holds.facts);
          order = there.1.order;
        },
        there.2,
      )

  -- a snapshot was given up
  still_of : (n m : Node) (L : Order) → IsStill n m → IsOf L n → IsOf (L ++ []) m
  still_of n m L still is = subst (λ (M : Order). IsOf M m) (sym (append-nil L)) (subst (IsOf L) (sym still) (record { within = is.within; base = is.base; items = is.items }))

  node_given : (uuid : List ℕ) (old new : Replica D) → GivenUp g old new → (n : Node) → Holds g n old → (m : Node) × GoesOn n uuid None [] m × Holds g m new
  node_given uuid old new given n holds =
      let up = given n holds in (
        up.node,
        record {
          uuid_is = ap (λ (m : Node). m.facts.uuid) up.still;
          setting_is = ap (λ (m : Node). m.facts.setting) up.still;
          order = λ L is. still_of n up.node L up.still is;
        },
        up.holds,
      )

  -- one came, and items behind it
  node_brought : HistoryByItems → (old mid new : Replica D) (format : Format) (uuid : List ℕ) (position start now : ℕ) (before left : Option (List ℕ)) (records : List Judged) (b : Brought g old mid format uuid position start now before left)
      → Grown g mid new records → (n : Node) → Holds g n old → (m : Node) × GoesOn n uuid (Some b.snapshot) records m × Holds g m new
  node_brought by_items old mid new format uuid position start now before left records b grown n holds =
      let came = b.node n holds in
      let there = grown.node came.node came.holds in
      let own : (facts_of g old).setting ≡ n.facts.setting = ap (λ (s : Standing). s.setting) (sym holds.facts) in (
        there.0,
        record {
          uuid_is = ap (λ (s : Standing). s.uuid) there.2.facts ∙ grown.uuid ∙ b.uuid_is;
          setting_is = ap (λ (s : Standing). s.setting) there.2.facts ∙ grown.setting ∙ b.setting ∙ own;
          order = λ L is. there.1.order L (stands_is n uuid (state_of (facts_of g old).setting b.snapshot) came.node L by_items came.stands (ap (λ (p : Setting). state_of p b.snapshot) own ∙ is));
        },
        there.2,
      )

  -- ---- records that were taken

  -- where nothing was taken
  short_nothing : (old new : Replica D) (format : Format) (uuid : List ℕ) (at : ℕ) (before : Option (List ℕ)) (e : Refusal) → counted at 0 ≡ at → Went g old new uuid None []
      → ((n : Node) → Holds g n old → (m : Node) × GoesOn n uuid None [] m × Holds g m new) → EndsHere g new at before e
      → ((k : ℕ) → e ≡ Malformed k → IfSome before (NoSnapshotComes format (facts_of g old))) → CutShort g old new format uuid before at e
  short_nothing old new format uuid at before e small went node ends none = record {
    snapshot = None;
    comes = tt;
    records = [];
    are_records = tt;
    left = before;
    taken = Consumes-nil before;
    went = went;
    node = λ other. node;
    ends = subst (λ k. EndsHere g new k before e) (sym small) ends;
    none = λ _ _ k is. none k is;
  }

  module _ (by_items : HistoryByItems) (joined : RunsAreJoined g) where
    -- behind those that were taken no more
    cut_at : (old now new : Replica D) (start at : ℕ) (first before : Option (List ℕ)) (e : Refusal) → counted at 0 ≡ at → Followed g old now start at first before None → Grown g now new [] → EndsHere g new at before e
        → Cut g old new first start e
    cut_at old now new start at first before e small f grown ends =
        let h = f.2 in
        let bytes_are : f.0 ≡ flat_map record_part h.records = h.spelled ∙ append-nil (flat_map record_part h.records) in
        record {
          records = h.records;
          are_records = h.are_records;
          grown = subst (Grown g old new) (append-nil h.records) (grown_then by_items g joined old now new h.records [] h.grown grown);
          left = before;
          taken = subst (Consumes first before) bytes_are f.1.taken;
          ends = subst (λ k. EndsHere g new k before e) (sym small ∙ f.1.counts ∙ ap (λ (bs : List ℕ). counted start (length bs)) bytes_are) ends;
        }

    pub cut_at_part : (old now new : Replica D) (start at : ℕ) (first before left : Option (List ℕ)) (part : Part) (e : Refusal) → counted at 0 ≡ at → Followed g old now start at first before None → Grown g now new []
        → PartFits part → Consumes before left (part_bytes part) → IsOut g new part at e → Cut g old new first start e
    cut_at_part old now new start at first before left part e small f grown fits taken out = cut_at old now new start at first before e small f grown (ends_out new part at before left e fits taken out)

    -- the part in hand isn't taken
    pub cut_in_hand : (old new : Replica D) (at : ℕ) (before left : Option (List ℕ)) (part : Part) (e : Refusal) → counted at 0 ≡ at → Grown g old new [] → PartFits part → Consumes before left (part_bytes part) → IsOut g new part at e
        → Cut g old new before at e
    cut_in_hand old new at before left part e small grown fits taken out = record {
      records = [];
      are_records = tt;
      grown = grown;
      left = before;
      taken = Consumes-nil before;
      ends = subst (λ k. EndsHere g new k before e) (sym small) (ends_out new part at before left e fits taken out);
    }

    -- it was, and some of those behind it
    pub cut_behind : (a b c : Replica D) (at now : ℕ) (before left : Option (List ℕ)) (hand : List ℕ) (e : Refusal) → now ≡ counted at (length hand) → Consumes before left hand → Follows g a b None hand → Cut g b c left now e
        → Cut g a c before at e
    cut_behind a b c at now before left hand e counts taken first cut =
        let xs = flat_map record_part first.records in
        let ys = flat_map record_part cut.records in
        let hand_is : hand ≡ xs = first.spelled ∙ append-nil xs in
        let both : hand ++ ys ≡ flat_map record_part (first.records ++ cut.records) = ap (λ (bs : List ℕ). bs ++ ys) hand_is ∙ sym (flat_both first.records cut.records) in
        record {
          records = first.records ++ cut.records;
          are_records = all_append IsRecord first.records cut.records first.are_records cut.are_records;
          grown = grown_then by_items g joined a b c first.records cut.records first.grown cut.grown;
          left = cut.left;
          taken = subst (Consumes before cut.left) both (Consumes-trans before left cut.left hand ys taken cut.taken);
          ends = subst (λ k. EndsHere g c k cut.left e) (counted_from at now (length hand) (length ys) counts ∙ ap (counted at) (sym (length-append hand ys)) ∙ ap (λ (bs : List ℕ). counted at (length bs)) both) cut.ends;
        }

    pub cut_behind_on : (a b c : Replica D) (at now : ℕ) (before left : Option (List ℕ)) (ended : Option ℕ) (hand : List ℕ) (result : Result ℕ Refusal) → ended ≡ None → now ≡ counted at (length hand) → Consumes before left hand → Follows g a b ended hand
        → IfErr result (Cut g b c left now) → IfErr result (Cut g a c before at)
    cut_behind_on a b c at now before left ended hand (Ok last) is counts taken first cut = tt
    cut_behind_on a b c at now before left ended hand (Err e) is counts taken first cut = cut_behind a b c at now before left hand e counts taken (subst (λ (o : Option ℕ). Follows g a b o hand) is first) cut

    -- nothing was taken
    pub short_none : (old : Replica D) (format : Format) (uuid : List ℕ) (at : ℕ) (before : Option (List ℕ)) (e : Refusal) → counted at 0 ≡ at → EndsHere g old at before e → ((k : ℕ) → e ≡ Malformed k → IfSome before (NoSnapshotComes format (facts_of g old)))
        → CutShort g old old format uuid before at e
    short_none old format uuid at before e small ends none =
        let same = grown_none by_items g joined old in
        short_nothing old old format uuid at before e small (went_records g old old uuid [] same) (node_grown uuid old old [] same) ends none

  -- records alone were taken
  pub short_records : (old new : Replica D) (format : Format) (uuid : List ℕ) (at : ℕ) (before : Option (List ℕ)) (e : Refusal) → Cut g old new before at e → IfSome before (NoSnapshotComes format (facts_of g old)) → CutShort g old new format uuid before at e
  short_records old new format uuid at before e cut other =
      let nothing : Option Snapshot = None in
      let none : nothing ≡ None → cut.records ≡ [] → (from : ℕ) → e ≡ Malformed from → IfSome before (NoSnapshotComes format (facts_of g old)) = λ _ _ _ _. other in
      record {
        snapshot = None;
        comes = tt;
        records = cut.records;
        are_records = cut.are_records;
        left = cut.left;
        taken = cut.taken;
        went = went_records g old new uuid cut.records cut.grown;
        node = λ other. node_grown uuid old new cut.records cut.grown;
        ends = cut.ends;
        none = none;
      }

  pub short_records_on : (old new : Replica D) (format : Format) (uuid : List ℕ) (at : ℕ) (before : Option (List ℕ)) (result : Result ℕ Refusal) → IfErr result (Cut g old new before at) → IfSome before (NoSnapshotComes format (facts_of g old))
      → IfErr result (CutShort g old new format uuid before at)
  short_records_on old new format uuid at before (Ok last) cut other = tt
  short_records_on old new format uuid at before (Err e) cut other = short_records old new format uuid at before e cut other

  -- a part that is none of a snapshot stands there
  pub no_front : (format : Format) (s : Standing) (part : Part) (before left : Option (List ℕ)) → PartFits part → Consumes before left (part_bytes part) → ((n : ℕ) → part ≡ OfSnapshot n → ⊥) → IfSome before (NoSnapshotComes format s)
  no_front format s part before left fits taken other =
      known_front (NoSnapshotComes format s) before left (part_bytes part) taken
      (λ rest y more fit told is snapshot later. other y.position (same_part part (OfSnapshot y.position) rest (rest_of format y ++ more) fits fit.position (is ∙ fronted format y more)))

  -- ---- a snapshot

  -- what it begins with was taken, and the rest of it not
  module _ (by_items : HistoryByItems) (old new : Replica D) (format : Format) (uuid : List ℕ) (position at start : ℕ) (before left : Option (List ℕ)) (e : Refusal) (fits : position < 2 ^ 64) (small : counted at 0 ≡ at) (counts : start ≡ counted at (length (part_bytes (OfSnapshot position)))) (taken : Consumes before left (part_bytes (OfSnapshot position))) where
    -- no other part stands there, and none of a second snapshot may come
    none_else : IfSome before (NoneFollows g new)
    none_else = known_front (NoneFollows g new) before left (part_bytes (OfSnapshot position)) taken (λ rest q more fit is may. subst (MayFollow g new) (sym (same_part (OfSnapshot position) q rest more fits fit is)) may)

    ends_early : BringsEarly format (facts_of g old) position at left e → EndsHere g new at before e
    ends_early (inl stream) = inl stream
    ends_early (inr (inl memory)) = inr (inl (inl memory))
    ends_early (inr (inr (inl fault))) = inr (inl (inr (inl fault)))
    ends_early (inr (inr (inr (is, none)))) = inr (inr (is, none_else))

    none_here : (k : ℕ) → e ≡ Malformed k → BringsEarly format (facts_of g old) position at left e → IfSome before (NoSnapshotComes format (facts_of g old))
    none_here k is (inl stream) = absurd (let never : Malformed k ≡ StreamFault = sym is ∙ stream in cc)
    none_here k is (inr (inl memory)) = absurd (let never : Malformed k ≡ OutOfMemory = sym is ∙ memory in cc)
    none_here k is (inr (inr (inl fault))) = absurd (let never : Malformed k ≡ DiskFault = sym is ∙ fault in cc)
    none_here k is (inr (inr (inr (same, none)))) = by before left taken none
      where
        by : (b l : Option (List ℕ)) → Consumes b l (part_bytes (OfSnapshot position)) → IfSome l (NoneComes format (facts_of g old) position) → IfSome b (NoSnapshotComes format (facts_of g old))
        by None l taken none = tt
        by (Some bytes) None taken none = absurd taken
        by (Some bytes) (Some behind) taken none = λ y rest fit told is snapshot later.
            let same = sym taken ∙ is ∙ fronted format y rest in
            let part : position ≡ y.position = position_same position y.position (same_part (OfSnapshot position) (OfSnapshot y.position) behind (rest_of format y ++ rest) fits fit.position same) in
            none y rest fit told (sym part) (behind_same position y.position behind (rest_of format y ++ rest) part same) snapshot later

    pub short_left : BringsEarly format (facts_of g old) position at left e → LeavesSnapshot g old new format uuid position start left e → CutShort g old new format uuid before at e
    short_left early (inl given) = short_nothing old new format uuid at before e small (went_nowhere g by_items old new uuid given) (node_given uuid old new given) (ends_early early) (λ k is. none_here k is early)
    short_left early (inr (fault, b)) = record {
      snapshot = Some b.snapshot;
      comes = (b.takes.fits, b.takes.told, b.takes.is_snapshot, b.takes.later);
      records = [];
      are_records = tt;
      left = b.left;
      taken = subst (Consumes before b.left) (all_bytes format position b.snapshot b.takes.position_is ∙ sym (append-nil (snapshot_bytes format b.snapshot))) (Consumes-trans before left b.left (part_bytes (OfSnapshot position)) (rest_of format b.snapshot) taken b.takes.took.taken);
      went = went_broken g by_items old new format uuid position start left b;
      node = λ other. absurd (other fault);
      ends = inr (inl (inr (inl fault)));
      none = λ is _ _ _. absurd (let never : Some b.snapshot ≡ None = is in cc);
    }

    -- all of it was taken, and some records
    pub short_behind : (mid : Replica D) (now : ℕ) (second : Option (List ℕ)) → Brought g old mid format uuid position start now left second → Cut g mid new second now e → CutShort g old new format uuid before at e
    short_behind mid now second b cut =
        let s = b.snapshot in
        let ys = flat_map record_part cut.records in
        let hand = part_bytes (OfSnapshot position) ++ rest_of format s in
        let whole : hand ≡ snapshot_bytes format s = all_bytes format position s b.takes.position_is in
        let count : counted now 0 ≡ counted at (length hand) = b.takes.took.counts ∙ counted_from at start (length (part_bytes (OfSnapshot position))) (length (rest_of format s)) counts ∙ ap (counted at) (sym (length-append (part_bytes (OfSnapshot position)) (rest_of format s))) in
        record {
          snapshot = Some s;
          comes = (b.takes.fits, b.takes.told, b.takes.is_snapshot, b.takes.later);
          records = cut.records;
          are_records = cut.are_records;
          left = cut.left;
          taken =
              subst (Consumes before cut.left) (ap (λ (bs : List ℕ). bs ++ ys) whole)
              (Consumes-trans before second cut.left hand ys (Consumes-trans before left second (part_bytes (OfSnapshot position)) (rest_of format s) taken b.takes.took.taken) cut.taken);
          went = went_snapshot g by_items old mid new format uuid position start now left second cut.records b cut.grown;
          node = λ other. node_brought by_items old mid new format uuid position start now left second cut.records b cut.grown;
          ends = subst (λ k. EndsHere g new k cut.left e) (counted_still at now (length hand) (length ys) count ∙ ap (counted at) (sym (length-append hand ys)) ∙ ap (λ (bs : List ℕ). counted at (length (bs ++ ys))) whole) cut.ends;
          none = λ is _ _ _. absurd (let never : Some s ≡ None = is in cc);
        }

  pub short_behind_on : HistoryByItems → (old new : Replica D) (format : Format) (uuid : List ℕ) (position at start : ℕ) (before left : Option (List ℕ)) (result : Result ℕ Refusal) → position < 2 ^ 64 → counted at 0 ≡ at → start ≡ counted at (length (part_bytes (OfSnapshot position))) → Consumes before left (part_bytes (OfSnapshot position))
      → (mid : Replica D) (now : ℕ) (second : Option (List ℕ)) → Brought g old mid format uuid position start now left second → IfErr result (Cut g mid new second now) → IfErr result (CutShort g old new format uuid before at)
  short_behind_on by_items old new format uuid position at start before left (Ok last) fits small counts taken mid now second b cut = tt
  short_behind_on by_items old new format uuid position at start before left (Err e) fits small counts taken mid now second b cut = short_behind by_items old new format uuid position at start before left e fits small counts taken mid now second b cut

-- ---- where a join ends

pub early_header : (s : Standing) (before : Option (List ℕ)) (e : Refusal) → RefusesHeader s before e → JoinsEarly e
early_header s before e (inl stream) = inl stream
early_header s before e (inr (inl none)) = inr (inl (0, none.0))
early_header s before e (inr (inr other)) = inr (inr (inl other.0))

module _ {D : Type 0} (g : Ghosts D) where
  early_here : (r : Replica D) (at : ℕ) (left : Option (List ℕ)) (e : Refusal) → EndsHere g r at left e → JoinsEarly e
  early_here r at left e (inl stream) = inl stream
  early_here r at left e (inr (inl work)) = early_work e work
  early_here r at left e (inr (inr out)) = inr (inl (at, out.0))

  pub early_parts : (old new : Replica D) (format : Format) (uuid : List ℕ) (before : Option (List ℕ)) (start : ℕ) (result : Result ℕ Refusal) → IfErr result (CutShort g old new format uuid before start) → IfErr result JoinsEarly
  early_parts old new format uuid before start (Ok last) cut = tt
  early_parts old new format uuid before start (Err e) cut = early_here new (counted start (length (snapshot_part format cut.snapshot ++ flat_map record_part cut.records))) cut.left e cut.ends

  pub ended_parts : (old mid new : Replica D) (header : Header) (first before : Option (List ℕ)) (start : ℕ) (result : Result ℕ Refusal) → Grown g old mid [] → TakesHeader (facts_of g mid) header first before → start ≡ 59
      → IfErr result (CutShort g mid new header.format header.uuid before start) → IfErr result (Ended g old new first)
  ended_parts old mid new header first before start (Ok last) grown head at cut = tt
  ended_parts old mid new header first before start (Err e) grown head at cut = record { settled = mid; grown = grown; why = inr (header, before, head, subst (λ k. CutShort g mid new header.format header.uuid before k e) at cut) }

pub or_stopped : (result : Result ℕ Refusal) → IfErr result JoinsEarly → IfErr result (λ e. (e ≡ Stopped) ⊎ JoinsEarly e)
or_stopped (Ok last) early = tt
or_stopped (Err e) early = inr early
