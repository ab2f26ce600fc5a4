-- A joiner that is given what a donor has for it takes that, or is refused for want of memory or a failed device.
use Rattle.std.proofs.Common.{◌≡◌, ◌⊎◌, inl, inr, ℕ, ◌+◌, ◌<◌, Bool, true, false, List, [], ◌∷◌, ◌++◌, length, take, Option, None, Some, Result, Ok, Err, append-nil, append_assoc, arith, refl, sym, ap, subst, ◌∙◌}
use Rattle.std.specs.Prelude.{◌≢◌, if◌then◌else◌, IfErr, IfOk, IfSome, MatchOption, IsTrue}
use Rattle.std.specs.List.{flat_map, list_all, AllByRecursion}
use Rattle.std.specs.Io.KnownBytes.{Appends, Consumes}
use Rattle.std.proofs.lemmas.List.{take-take}
use Rattle.uuid.specs.Parts.{is_nil_bytes}
use Rattle.rep_types.specs.declared.refusal.Refusal.{Refusal}
use Rattle.rep_types.specs.declared.refusal.Refusal.TheVariants.{OutOfMemory, DiskFault, Corrupt, Malformed, StreamFault}
use Rattle.rep_types.specs.declared.refusal.Part.{Part}
use Rattle.rep_types.specs.declared.refusal.Part.TheVariants.{Pages}
use Rattle.rep_streams.specs.Streams.{Held}
use Rattle.rep_types.specs.declared.judged.Judged.{Judged}
use Rattle.rep_types.specs.Settings.{Setting, has_row}
use Rattle.rep_types.specs.Entries.{Entry}
use Rattle.rep_types.specs.Windows.{Window}
use Rattle.rep_types.specs.Order.{Order, State}
use Rattle.rep_types.proofs.Lists.{all_at}
use Rattle.rep_record.specs.Records.{IsRecord}
use Rattle.rep_disk.specs.declared.disk.Disk.{Ghosts}
use Rattle.rep_disk.specs.Calls.{Rises}
use Rattle.rep_layout.specs.declared.format.Format.{Format}
use Rattle.rep_layout.specs.declared.format.Format.TheVariants.{Two}
use Rattle.rep_layout.specs.Supers.{IsNil}
use Rattle.rep_layout.specs.Windows.{IsEntry, IsWindowAt, IsOfFormat}
use Rattle.rep_steps.specs.Standings.{Standing, delivered}
use Rattle.rep_steps.specs.Nodes.{Node}
use Rattle.rep_steps.specs.Orders.{IsOf}
use Rattle.rep_replica.specs.Replicas.{Replica, facts_of}
use Rattle.rep_replica.specs.Holding.{Holds, JudgesAsItsNode}
use Rattle.rep_replica.specs.Settling.{EndsEarly}
use Rattle.rep_transfer.specs.declared.have.Have.{Have}
use Rattle.rep_transfer.specs.declared.header.Header.{Header}
use Rattle.rep_transfer.specs.declared.pieces.NumberedPage.{NumberedPage}
use Rattle.rep_transfer.specs.declared.part.Part.TheVariants.{Record as OfRecord, End as OfEnd}
use Rattle.rep_transfer.specs.Haves.{IsHeader, header_bytes}
use Rattle.rep_transfer.specs.Shapes.{Shape, shape_of, least_of}
use Rattle.rep_transfer.specs.Telling.{TransfersAreTold, PartsAreTold, IsTakenOf, IsBeforeSnapshot}
use Rattle.rep_transfer.specs.Taking.{counted}
use Rattle.rep_transfer.specs.Transfers.{Snapshot, Transfer, IsTold, SnapshotFits, snapshot_bytes, snapshot_part, record_part, end_bytes, transfer_bytes}
use Rattle.rep_catchup.specs.Haves.{have_of}
use Rattle.rep_catchup.specs.Donating.{IsFirstRefusal, IsOfCluster, Brings, EndsEarly as GivesUpEarly}
use Rattle.rep_catchup.specs.Snapshots.{IsSnapshot, IsPageOf, with_pages}
use Rattle.rep_catchup.specs.Growing.{Grown, Tells}
use Rattle.rep_catchup.specs.Joining.{Joined, IsFor, Becomes, GoesOn, Came, CutShort, Ended, EndsHere, RefusesHeader, TakesHeader, NoneFollows}
use Rattle.rep_catchup.specs.Orders.{IsJoiner, AreNext, DonatedPartsComeNext, JoinersHoldTheOrder}
use Rattle.uses_catchup.specs.CatchingUp.{MayCatchUp, IsGiven, CaughtUp}

-- ---- what a joiner says of itself

-- the position that it says is what is durable there, also where that is nothing
says : (uuid : List ℕ) (durable : ℕ) (b : Bool) → is_nil_bytes uuid ≡ b → (is_nil_bytes uuid ≡ true → durable ≡ 0) → (if b then 0 else durable) ≡ durable
says uuid durable true is none = sym (none is)
says uuid durable false is none = refl

module _ {D : Type 0} (g : Ghosts D) (O : Order) (n k : Node) (may : MayCatchUp O n k) (joiner : Replica D) (holds : Holds g k joiner) where
  own : k.facts ≡ facts_of g joiner
  own = holds.facts

  said : (have_of joiner).position ≡ k.facts.durable
  said =
      let uuid = ap (λ (s : Standing). s.uuid) own in
      says joiner.engine.checkpoint.base.uuid _ (is_nil_bytes joiner.engine.checkpoint.base.uuid) refl
      (λ nil. sym (ap (λ (s : Standing). s.durable) own) ∙ (holds.node.facts.undefined (subst (λ (u : List ℕ). is_nil_bytes u ≡ true) (sym uuid) nil)).0) ∙ sym (ap (λ (s : Standing). s.durable) own)

  all_durable : delivered k.facts ≡ k.facts.durable
  all_durable = omega (arith, ap length may.none)

  pub is_joiner : (have : Have) → have ≡ have_of joiner → IsJoiner (take n.facts.durable O) k have
  is_joiner have is = record {
    uuid = ap (λ (h : Have). h.uuid) is ∙ sym (ap (λ (s : Standing). s.uuid) own);
    position = ap (λ (h : Have). h.position) is ∙ said ∙ sym all_durable;
    front = λ defined. subst (λ (L : Order). IsOf L k) (sym (take-take k.facts.durable n.facts.durable O may.behind) ∙ ap (λ d. take d (take n.facts.durable O)) (sym all_durable)) (may.front defined);
  }

  -- so it is refused for nothing that it says
  pub is_served : {E : Type 0} (e : Ghosts E) (donor : Replica E) (have : Have) → have ≡ have_of joiner → Holds e n donor → IsFirstRefusal (facts_of e donor) have None
  is_served e donor have is standing =
      let there : n.facts ≡ facts_of e donor = standing.facts in
      let runs : (facts_of e donor).stopped ≡ false = ap (λ (s : Standing). s.stopped) (sym there) ∙ may.donor_runs in
      let uuid : have.uuid ≡ k.facts.uuid = (is_joiner have is).uuid in
      let cluster : IsOfCluster (facts_of e donor) have = record {
        shape = ap (λ (h : Have). h.shape) is ∙ ap (λ (s : Standing). shape_of s.setting) (sym own) ∙ may.shape ∙ ap (λ (s : Standing). shape_of s.setting) there;
        cluster = of_cluster may.cluster;
      } in
      record {
        stopped = λ stopped. absurd (let never : true ≡ false = sym stopped ∙ runs in cc);
        undefined = λ _ nil. absurd (may.defined (subst IsNil (ap (λ (s : Standing). s.uuid) (sym there)) nil));
        another = λ _ _ other. absurd (other cluster);
        ahead = λ _ _ _ past. absurd (omega (arith, past, may.behind, ap (λ (h : Have). h.position) is, said, ap (λ (s : Standing). s.durable) there));
        none = λ _ _ _ _. refl;
      }
    where
      of_cluster : (k.facts.uuid ≡ n.facts.uuid) ⊎ IsNil k.facts.uuid → (have.uuid ≡ (facts_of e donor).uuid) ⊎ IsNil have.uuid
      of_cluster (inl same) = inl ((is_joiner have is).uuid ∙ same ∙ ap (λ (s : Standing). s.uuid) standing.facts)
      of_cluster (inr nil) = inr (subst IsNil (sym (is_joiner have is).uuid) nil)

-- ---- lists

-- known bytes that began with these have a known rest
record HasRest (bytes bs : List ℕ) (left : Option (List ℕ)) : Type 0 where
  rest : List ℕ
  left_is : left ≡ Some rest
  front : bytes ≡ bs ++ rest

has_rest : (bytes bs : List ℕ) (left : Option (List ℕ)) → Consumes (Some bytes) left bs → HasRest bytes bs left
has_rest bytes bs None taken = absurd taken
has_rest bytes bs (Some rest) taken = record { rest = rest; left_is = refl; front = taken }

-- ---- nodes of one shape

module _ (p q : Setting) (tables : p.rows ≡ q.rows) where
  entry_alike : (lowest position : ℕ) (e : Entry) → IsEntry p lowest position e → IsEntry q lowest position e
  entry_alike lowest position e is =
      record { past = is.past; near = is.near; some = is.some; few = is.few; ascend = is.ascend; rows = subst (λ (rows : List ℕ). IsTrue (list_all (has_row rows) e.keys)) tables is.rows }

  entries_alike : (lowest position : ℕ) (es : List Entry) → AllByRecursion (IsEntry p lowest position) es → AllByRecursion (IsEntry q lowest position) es
  entries_alike lowest position [] all = tt
  entries_alike lowest position (e ∷ es) all = (entry_alike lowest position e all.0, entries_alike lowest position es all.1)

  window_alike : (position : ℕ) (v : Window) → IsWindowAt p position v → IsWindowAt q position v
  window_alike position v is = record { size = is.size; least = is.least; most = is.most; few = is.few; ascend = is.ascend; entries = entries_alike v.floor position v.entries is.entries }

  snapshot_alike : (s : Snapshot) → IsSnapshot p s → IsSnapshot q s
  snapshot_alike s is = record { limit = is.limit; window = window_alike s.position s.kept is.window; ascend = is.ascend; pages = subst (λ (rows : List ℕ). AllByRecursion (IsPageOf rows) s.pages) tables is.pages }

-- where a snapshot is
pages_position : (schema : List ℕ) (pages : List NumberedPage) (y : State) → (with_pages schema pages y).position ≡ y.position
pages_position schema [] y = refl
pages_position schema (p ∷ pages) y = pages_position schema pages _

-- ---- where it is caught up

module _ {D : Type 0} (g : Ghosts D) (O : Order) (n k : Node) (have : Have) (t : Transfer) (given : IsGiven O n k have t) (old new : Replica D) (holds : Holds g k old) where
  spans : k.facts.setting.window ≡ n.facts.setting.window
  spans = ap (λ (s : Shape). s.window) given.may.shape

  tables : k.facts.setting.rows ≡ n.facts.setting.rows
  tables = ap (λ (s : Shape). s.rows) given.may.shape

  module _ (told : TransfersAreTold) (hold : JoinersHoldTheOrder) where
    held : (left : Option (List ℕ)) (last : ℕ) → Joined g k (transfer_bytes t) left old new last → CaughtUp g O n new last
    held left last joined =
        let u = joined.transfer in
        let same : t ≡ u = (told t u [] joined.rest given.donated.is_transfer joined.is_transfer (append-nil (transfer_bytes t) ∙ joined.front)).0 in
        let becomes : Becomes k t joined.node = subst (λ (x : Transfer). Becomes k x joined.node) (sym same) joined.becomes in
        record {
          last_is = sym joined.last_is ∙ ap (λ (x : Transfer). x.last) (sym same) ∙ given.donated.last;
          node = joined.node;
          cluster = becomes.uuid ∙ given.donated.uuid;
          of = hold O n k joined.node have t given.node given.may.of given.joiner spans tables given.donated (subst (IsFor k) (sym same) joined.is_for) becomes;
          durable = becomes.durable ∙ given.donated.last;
          none = becomes.none;
          holds = joined.holds;
          quiet = joined.quiet;
        }

    pub caught : (bytes : List ℕ) (left : Option (List ℕ)) (result : Result ℕ Refusal) → bytes ≡ transfer_bytes t → IfOk result (Joined g k bytes left old new) → IfOk result (CaughtUp g O n new)
    caught bytes left (Err e) are joined = tt
    caught bytes left (Ok last) are joined = held left last (subst (λ (bs : List ℕ). Joined g k bs left old new last) are joined)

  -- ---- where it is refused

  abbrev pub Allowed : Refusal → Type 0
  Allowed e = (e ≡ OutOfMemory) ⊎ (e ≡ DiskFault)

  module _ (parts : PartsAreTold) (next : DonatedPartsComeNext) (judges : JudgesAsItsNode g new) (e : Refusal) (other : e ≢ StreamFault) (whole : e ≢ Corrupt Pages) where
    worked : EndsEarly e → Allowed e
    worked (inl memory) = inl memory
    worked (inr (inl fault)) = inr fault
    worked (inr (inr bad)) = absurd (whole bad)

    -- the header that comes is the transfer's
    header_is : (header : Header) (rest : List ℕ) → IsHeader header → transfer_bytes t ≡ header_bytes header ++ rest → header ≡ t.header
    header_is header rest is same = (parts t [] header None [] rest given.donated.is_transfer is tt tt tt (append-nil (transfer_bytes t) ∙ same)).0

    module _ (settled : Replica D) (grown : Grown g old settled []) where
      uuid_stays : (facts_of g settled).uuid ≡ k.facts.uuid
      uuid_stays = grown.uuid ∙ ap (λ (s : Standing). s.uuid) (sym holds.facts)

      setting_stays : (facts_of g settled).setting ≡ k.facts.setting
      setting_stays = grown.setting ∙ ap (λ (s : Standing). s.setting) (sym holds.facts)

      of_cluster : (k.facts.uuid ≡ n.facts.uuid) ⊎ IsNil k.facts.uuid → (t.header.uuid ≡ (facts_of g settled).uuid) ⊎ IsNil (facts_of g settled).uuid
      of_cluster (inl same) = inl (given.donated.uuid ∙ sym same ∙ sym uuid_stays)
      of_cluster (inr nil) = inr (subst IsNil (sym uuid_stays) nil)

      of_shape : t.header.shape ≡ shape_of (facts_of g settled).setting
      of_shape = given.donated.shape ∙ sym given.may.shape ∙ ap shape_of (sym setting_stays)

      -- it is refused for its header only where the reader failed
      headed : RefusesHeader (facts_of g settled) (Some (transfer_bytes t)) e → ⊥
      headed (inl stream) = other stream
      headed (inr (inl (is, none))) = none t.header _ given.donated.is_transfer.header refl
      headed (inr (inr (is, (header, rest, is_header, same, never)))) =
          let own = header_is header rest is_header same in
          never (subst (λ (h : Header). (h.uuid ≡ (facts_of g settled).uuid) ⊎ IsNil (facts_of g settled).uuid) (sym own) (of_cluster given.may.cluster)) (ap (λ (h : Header). h.shape) own ∙ of_shape)

      -- the node at which it settled is as much the joiner's as the one before
      node_settled : (m : Node) → (delivered m.facts ≡ delivered k.facts + 0) → ((L : Order) → IsOf L k → IsOf (L ++ []) m) → Holds g m settled → IsJoiner (take n.facts.durable O) m have
      node_settled m count goes standing =
          let uuid : m.facts.uuid ≡ k.facts.uuid = ap (λ (s : Standing). s.uuid) standing.facts ∙ uuid_stays in
          let same : delivered k.facts ≡ delivered m.facts = omega (arith, count) in
          record {
            uuid = given.joiner.uuid ∙ sym uuid;
            position = given.joiner.position ∙ same;
            front = λ defined. subst (λ (L : Order). IsOf L m) (append-nil (take (delivered m.facts) (take n.facts.durable O)))
                (goes (take (delivered m.facts) (take n.facts.durable O)) (subst (λ d. IsOf (take d (take n.facts.durable O)) k) same (given.joiner.front (λ nil. defined (subst IsNil (sym uuid) nil)))));
          }

      module _ (header : Header) (own : header ≡ t.header) (left : List ℕ) (head : transfer_bytes t ≡ header_bytes header ++ left) (cut : CutShort g settled new header.format header.uuid (Some left) 59 e) where
        two : header.format ≡ Two
        two = ap (λ (h : Header). h.format) own ∙ given.donated.format

        tells_any : (f : Format) (p : Setting) (position : ℕ) (v : Window) → f ≡ Two → IsOfFormat f p position v
        tells_any f p position v is = subst (λ (one : Format). IsOfFormat one p position v) (sym is) tt

        told_any : (o : Option Snapshot) → IfSome o (IsTold header)
        told_any None = tt
        told_any (Some s) = tells_any header.format (least_of header.shape) s.position s.kept two

        fits_any : (o : Option Snapshot) → Came header.format (facts_of g settled) o → IfSome o SnapshotFits
        fits_any None comes = tt
        fits_any (Some s) comes = comes.0

        -- a node of the transfer's cluster, wherever it begins
        defined : (o : Option Snapshot) (m : Node) (a : Node) → o ≡ t.snapshot → Brings n have t.snapshot t.records → a.facts.uuid ≡ k.facts.uuid → MatchOption o (m.facts.uuid ≡ a.facts.uuid) (λ s. m.facts.uuid ≡ header.uuid) → IsNil m.facts.uuid → ⊥
        defined None m a is brings same uuid nil = (subst (λ (o : Option Snapshot). Brings n have o t.records) (sym is) brings).0 (subst IsNil (uuid ∙ same ∙ sym given.joiner.uuid) nil)
        defined (Some s) m a is brings same uuid nil = given.donated.is_transfer.header.defined (subst IsNil (uuid ∙ ap (λ (h : Header). h.uuid) own) nil)

        -- where it stands behind what was taken, the next part may come
        may_follow : (rest : List ℕ) (at : ℕ) → IsTakenOf t cut.snapshot cut.records rest [] → NoneFollows g new rest → e ≡ Malformed at → ⊥
        may_follow rest at taken none is =
            let start = grown.node k holds in
            let a = start.0 in
            let there = cut.node (λ fault. let never : Malformed at ≡ DiskFault = sym is ∙ fault in cc) a start.2 in
            let m = there.0 in
            let joiner = node_settled a start.1.count start.1.order start.2 in
            let alike : a.facts.setting ≡ k.facts.setting = ap (λ (s : Standing). s.setting) start.2.facts ∙ setting_stays in
            let went : GoesOn a header.uuid t.snapshot cut.records m = subst (λ (o : Option Snapshot). GoesOn a header.uuid o cut.records m) taken.snapshot_is there.1 in
            let comes = next O n a m have t header.uuid cut.records taken.more given.node given.may.of joiner (ap (λ (p : Setting). p.window) alike ∙ spans) (ap (λ (p : Setting). p.rows) alike ∙ tables) given.donated there.2.node went taken.records_are in
            let of : IsNil (facts_of g new).uuid → ⊥ = λ nil.
            defined cut.snapshot m a taken.snapshot_is given.donated.brings (ap (λ (s : Standing). s.uuid) start.2.facts ∙ uuid_stays) there.1.uuid_is (subst IsNil (ap (λ (s : Standing). s.uuid) (sym there.2.facts)) nil) in
            by taken.more m there.2 of comes (subst (AllByRecursion IsRecord) taken.records_are given.donated.is_transfer.records) taken.left_is
          where
            by : (more : List Judged) (m : Node) → Holds g m new → (IsNil (facts_of g new).uuid → ⊥) → AreNext m more t.last → AllByRecursion IsRecord (cut.records ++ more) → rest ≡ (flat_map record_part more ++ end_bytes t.last) ++ [] → ⊥
            by [] m standing of comes all same = none (OfEnd t.last) [] given.donated.is_transfer.last same (of, comes ∙ ap delivered standing.facts)
            by (j ∷ more) m standing of comes all same =
                none (OfRecord j) (((flat_map record_part more) ++ end_bytes t.last) ++ []) (all_at IsRecord cut.records j more all)
                (same ∙ ap (λ (bs : List ℕ). bs ++ []) (append_assoc (record_part j) (flat_map record_part more) (end_bytes t.last)) ∙ append_assoc (record_part j) (flat_map record_part more ++ end_bytes t.last) [])
                (of, record { seqno = comes.0 ∙ ap (λ (s : Standing). delivered s + 1) standing.facts; verdict = sym comes.1 ∙ sym (judges m standing j.item) })

        -- nor is it refused for its snapshot
        snapshot_comes : (rest : List ℕ) (at : ℕ) → IsBeforeSnapshot t cut.snapshot cut.records rest [] → left ≡ snapshot_part header.format cut.snapshot ++ (flat_map record_part cut.records ++ rest) → e ≡ Malformed at → ⊥
        snapshot_comes rest at before same is =
            let s = before.first in
            let brings : Brings n have (Some s) t.records = subst (λ (o : Option Snapshot). Brings n have o t.records) before.first_is given.donated.brings in
            let fits : SnapshotFits s = subst (λ (o : Option Snapshot). IfSome o SnapshotFits) before.first_is given.donated.is_transfer.snapshot in
            let start = grown.node k holds in
            let p = (facts_of g settled).setting in
            let at_base : s.position ≡ n.facts.base = sym (pages_position n.facts.setting.rows s.pages _) ∙ ap (λ (y : State). y.position) brings.1.state ∙ given.node.position in
            let count : delivered (facts_of g settled) ≡ delivered k.facts = ap delivered (sym start.2.facts) ∙ (let same_count : delivered start.0.facts ≡ delivered k.facts = omega (arith, start.1.count) in same_count) in
            let later : (delivered (facts_of g settled) < s.position) ⊎ IsNil (facts_of g settled).uuid = above brings.0 at_base count in
            let bytes : left ≡ snapshot_bytes header.format s ++ ((flat_map record_part t.records ++ end_bytes t.last) ++ []) =
            same ∙ ap (λ (o : Option Snapshot). snapshot_part header.format o ++ (flat_map record_part cut.records ++ rest)) before.no_snapshot ∙ ap (λ (js : List Judged). flat_map record_part js ++ rest) before.no_record ∙ before.left_is
            ∙ ap (λ (h : Header). snapshot_bytes h.format s ++ ((flat_map record_part t.records ++ end_bytes t.last) ++ [])) (sym own) in
            cut.none before.no_snapshot before.no_record at is s _ fits (tells_any header.format p s.position s.kept two) bytes
            (snapshot_alike n.facts.setting p (sym tables ∙ ap (λ (q : Setting). q.rows) (sym setting_stays)) s brings.1.is_snapshot) later
          where
            above : IsNil have.uuid ⊎ (have.position < n.facts.base) → before.first.position ≡ n.facts.base → delivered (facts_of g settled) ≡ delivered k.facts → (delivered (facts_of g settled) < before.first.position) ⊎ IsNil (facts_of g settled).uuid
            above (inl nil) at_base count = inr (subst IsNil (given.joiner.uuid ∙ sym uuid_stays) nil)
            above (inr below) at_base count = inl (omega (arith, below, at_base, count, given.joiner.position))

        cut_for : (at : ℕ) → e ≡ Malformed at → IfSome cut.left (NoneFollows g new) → ⊥
        cut_for at is none =
            let rest = has_rest left (snapshot_part header.format cut.snapshot ++ flat_map record_part cut.records) cut.left cut.taken in
            let behind : left ≡ snapshot_part header.format cut.snapshot ++ (flat_map record_part cut.records ++ rest.rest) = rest.front ∙ append_assoc (snapshot_part header.format cut.snapshot) (flat_map record_part cut.records) rest.rest in
            let told = (parts t [] header cut.snapshot cut.records rest.rest given.donated.is_transfer (subst IsHeader (sym own) given.donated.is_transfer.header) (fits_any cut.snapshot cut.comes) (told_any cut.snapshot) cut.are_records
            (append-nil (transfer_bytes t) ∙ head ∙ ap (λ (bs : List ℕ). header_bytes header ++ bs) behind)).1 in
            by rest.rest told behind (subst (λ (o : Option (List ℕ)). IfSome o (NoneFollows g new)) rest.left_is none)
          where
            by : (l : List ℕ) → IsTakenOf t cut.snapshot cut.records l [] ⊎ IsBeforeSnapshot t cut.snapshot cut.records l [] → left ≡ snapshot_part header.format cut.snapshot ++ (flat_map record_part cut.records ++ l) → NoneFollows g new l → ⊥
            by l (inl taken) behind none = may_follow l at taken none is
            by l (inr before) behind none = snapshot_comes l at before behind is

        cut_allowed : EndsHere g new (counted 59 (length (snapshot_part header.format cut.snapshot ++ flat_map record_part cut.records))) cut.left e → Allowed e
        cut_allowed (inl stream) = absurd (other stream)
        cut_allowed (inr (inl work)) = worked work
        cut_allowed (inr (inr (is, none))) = absurd (cut_for _ is none)

    ended : Ended g old new (Some (transfer_bytes t)) e → Allowed e
    ended how = by how.why
      where
        by : ((EndsEarly e ⊎ RefusesHeader (facts_of g how.settled) (Some (transfer_bytes t)) e) × (how.settled ≡ new))
            ⊎ ((header : Header) × (left : Option (List ℕ)) × TakesHeader (facts_of g how.settled) header (Some (transfer_bytes t)) left × CutShort g how.settled new header.format header.uuid left 59 e) → Allowed e
        by (inl (inl work, same)) = worked work
        by (inl (inr header, same)) = absurd (headed how.settled how.grown header)
        by (inr (header, left, takes, cut)) =
            let rest = has_rest (transfer_bytes t) (header_bytes header) left takes.taken in
            let cut_here : CutShort g how.settled new header.format header.uuid (Some rest.rest) 59 e = subst (λ (o : Option (List ℕ)). CutShort g how.settled new header.format header.uuid o 59 e) rest.left_is cut in
            cut_allowed how.settled how.grown header (header_is header rest.rest takes.is_header rest.front) rest.rest rest.front cut_here cut_here.ends

  pub refused : PartsAreTold → DonatedPartsComeNext → JudgesAsItsNode g new → (bytes : List ℕ) (result : Result ℕ Refusal) → bytes ≡ transfer_bytes t → (result ≡ Err StreamFault → ⊥) → Tells g old new result
      → IfErr result (Ended g old new (Some bytes)) → IfErr result Allowed
  refused parts next judges bytes (Ok last) are stream tells how = tt
  refused parts next judges bytes (Err e) are stream tells how =
      ended parts next judges e (λ is. stream (ap (λ (f : Refusal). Err f) is)) (λ is. tells.whole k holds Pages is) (subst (λ (bs : List ℕ). Ended g old new (Some bs) e) are how)

-- ---- what the donor refuses

module _ (e told : Refusal) (is : ((e ≡ StreamFault) × (told ≡ OutOfMemory)) ⊎ ((e ≢ StreamFault) × (told ≡ e))) where
  pub refused_for : GivesUpEarly e → ((part : Part) → e ≢ Corrupt part) → (told ≡ OutOfMemory) ⊎ (told ≡ DiskFault)
  refused_for early whole = by is early
    where
      by : ((e ≡ StreamFault) × (told ≡ OutOfMemory)) ⊎ ((e ≢ StreamFault) × (told ≡ e)) → GivesUpEarly e → (told ≡ OutOfMemory) ⊎ (told ≡ DiskFault)
      by (inl stream) early = inl stream.1
      by (inr other) (inl stream) = absurd (other.0 stream)
      by (inr other) (inr (inl fault)) = inr (other.1 ∙ fault)
      by (inr other) (inr (inr (part, bad))) = absurd (whole part bad)

  pub fault_told : e ≡ DiskFault → told ≡ DiskFault
  fault_told fault = by is
    where
      by : ((e ≡ StreamFault) × (told ≡ OutOfMemory)) ⊎ ((e ≢ StreamFault) × (told ≡ e)) → told ≡ DiskFault
      by (inl stream) = absurd (let never : DiskFault ≡ StreamFault = sym fault ∙ stream.0 in cc)
      by (inr other) = other.1 ∙ fault

-- what was written into a room that held nothing
pub written_is : (old new : Held) (bytes : List ℕ) → old ≡ record { bytes = []; failed = false } → Appends (Some old.bytes) (Some new.bytes) bytes → new.bytes ≡ bytes
written_is old new bytes empty appended = appended ∙ ap (λ (h : Held). h.bytes ++ bytes) empty

-- ---- which answer is which

pub err_is : {T : Type 0} (e f : Refusal) (r : Result T Refusal) → r ≡ Err e → r ≡ Err f → e ≡ f
err_is e f r is was = cc

pub ok_other : {T : Type 0} (x : T) (f : Refusal) (r : Result T Refusal) → r ≡ Ok x → r ≢ Err f
ok_other x f r is was = cc

-- a failed device is told by its count
pub fault_rises : {D T : Type 0} (g : Ghosts D) (old new : Replica D) (result : Result T Refusal) → Tells g old new result → result ≡ Err DiskFault → Rises (g.failures old.engine.disk) (g.failures new.engine.disk)
fault_rises g old new (Ok x) tells fault = absurd (ok_other x DiskFault (Ok x) refl fault)
fault_rises g old new (Err e) tells fault = tells.faults.fault (err_is e DiskFault (Err e) refl fault)
