-- What is taken of a transfer's bytes, part by part.
use Rattle.std.proofs.Common.{◌≡◌, ◌⊎◌, inl, inr, ℕ, ◌<◌, true, List, [], ◌∷◌, ◌++◌, length, drop, Option, None, Some, Result, Ok, Err, refl, sym, ap, subst, ◌∙◌, append_assoc, append-nil, arith, length-append}
use Rattle.std.specs.Prelude.{IfOk, IfSome, OnOk, MatchOption, Bool, ◌==◌, ◌&&◌}
use Rattle.std.specs.List.{flat_map}
use Rattle.std.specs.Io.KnownBytes.{Consumes}
use Rattle.std.proofs.KnownBytes.{Consumes-nil, Consumes-trans}
use Rattle.std.proofs.lemmas.Bool.Decides.{nat_tests}
use Rattle.rep_types.specs.declared.judged.Judged.{Judged}
use Rattle.rep_types.specs.declared.refusal.Refusal.{Refusal}
use Rattle.rep_types.specs.Settings.{Setting}
use Rattle.rep_types.specs.Order.{Order, items_of, state, history as history_of}
use Rattle.rep_types.specs.ByItems.{HistoryByItems}
use Rattle.rep_types.proofs.Choices.{and_left}
use Rattle.rep_types.proofs.Lists.{all_append}
use Rattle.rep_forms.specs.Forms.{number_bytes}
use Rattle.rep_record.specs.Records.{IsRecord}
use Rattle.rep_disk.specs.declared.disk.Disk.{Ghosts}
use Rattle.rep_layout.specs.declared.format.Format.{Format}
use Rattle.rep_layout.specs.declared.format.Format.TheVariants.{One, Two}
use Rattle.rep_layout.specs.Supers.{IsNil}
use Rattle.rep_layout.specs.Windows.{IsOfFormat}
use Rattle.rep_steps.specs.Standings.{Standing, delivered}
use Rattle.rep_steps.specs.Moves.{is_off}
use Rattle.rep_steps.specs.Nodes.{Node}
use Rattle.rep_steps.specs.Orders.{IsOf}
use Rattle.rep_replica.specs.Replicas.{Replica, facts_of}
use Rattle.rep_replica.specs.Holding.{Holds}
use Rattle.rep_replica.specs.Running.{RunsAreJoined}
use Rattle.rep_replica.specs.Settling.{is_quiet}
use Rattle.rep_transfer.specs.declared.header.Header.{Header}
use Rattle.rep_transfer.specs.declared.part.Part.{Part}
use Rattle.rep_transfer.specs.Haves.{header_bytes}
use Rattle.rep_transfer.specs.Shapes.{Shape, shape_of, least_of}
use Rattle.rep_transfer.specs.Taking.{counted, TakesOne}
use Rattle.rep_transfer.specs.Transfers.{Snapshot, Transfer, rest_of, snapshot_bytes, record_part, PartFits, part_bytes}
use Rattle.rep_catchup.specs.Snapshots.{Brought, IsSnapshot, CanTell, Took, state_of}
use Rattle.rep_catchup.specs.Growing.{Grown}
use Rattle.rep_catchup.specs.Joining.{Follows, Followed, FollowedFrom, MayCome, TakesAll, TakesHeader, EndsAt, Joined, end_part, TookTransfer}
use Rattle.rep_catchup.proofs.JoinGrowing.{grown_none, grown_then}
use Rattle.rep_catchup.proofs.JoinTaking.{took_none, took_then, took_piece}
use Rattle.rep_catchup.proofs.JoinWent.{stands_is, starts_there, went_records, went_snapshot, went_behind}

-- ---- the parts behind a snapshot

pub flat_both : (xs ys : List Judged) → flat_map record_part (xs ++ ys) ≡ flat_map record_part xs ++ flat_map record_part ys
flat_both [] ys = refl
flat_both (x ∷ xs) ys = ap (λ (bs : List ℕ). record_part x ++ bs) (flat_both xs ys) ∙ sym (append_assoc (record_part x) (flat_map record_part xs) (flat_map record_part ys))

-- ---- a quiet replica

nothing : (xs : List Judged) → length xs ≡ 0 → xs ≡ []
nothing [] none = refl
nothing (x ∷ xs) none = absurd (omega (arith, none))

quiet_by : (xs : List Judged) (b : Bool) → ((length xs == 0) && b) ≡ true → xs ≡ []
quiet_by xs b is = let none : (length xs == 0) ≡ true = and_left (length xs == 0) b is in nothing xs (grind (arith, nat_tests, none))

pub none_ahead : (s : Standing) → is_quiet s ≡ true → s.ahead ≡ []
none_ahead s quiet = quiet_by s.ahead (is_off s.stage) quiet

module _ {D : Type 0} (g : Ghosts D) where
  module _ (by_items : HistoryByItems) (joined : RunsAreJoined g) where
    ends_then : (a b c : Replica D) (xs ys : List Judged) (ended : Option ℕ) → Grown g a b xs → IfSome ended (EndsAt g b c ys) → IfSome ended (EndsAt g a c (xs ++ ys))
    ends_then a b c xs ys None grown e = tt
    ends_then a b c xs ys (Some last) grown e = record {
      quiet = e.quiet;
      limit = e.limit;
      last_is = λ n holds.
          let one = grown.node n holds in
          let there = e.last_is one.0 one.2 in
          let here : delivered n.facts ≡ delivered (facts_of g a) = ap delivered holds.facts in
          let next : delivered one.0.facts ≡ delivered (facts_of g b) = ap delivered one.2.facts in
          omega (arith, there, here, next, one.1.count, length-append xs ys);
      least = omega (arith, grown.count, e.least, length-append xs ys);
      durable = e.durable;
    }

    pub follows_then : (a b c : Replica D) (ended : Option ℕ) (one two : List ℕ) → Follows g a b None one → Follows g b c ended two → Follows g a c ended (one ++ two)
    follows_then a b c ended one two first second = record {
      records = first.records ++ second.records;
      are_records = all_append IsRecord first.records second.records first.are_records second.are_records;
      spelled =
          ap (λ (bs : List ℕ). bs ++ two) (first.spelled ∙ append-nil (flat_map record_part first.records)) ∙ ap (λ (bs : List ℕ). flat_map record_part first.records ++ bs) second.spelled
          ∙ sym (append_assoc (flat_map record_part first.records) (flat_map record_part second.records) (end_part ended)) ∙ ap (λ (bs : List ℕ). bs ++ end_part ended) (sym (flat_both first.records second.records));
      grown = grown_then by_items g joined a b c first.records second.records first.grown second.grown;
      ends = ends_then a b c first.records second.records ended first.grown second.ends;
    }

    -- nothing was taken yet
    pub followed_none : (old : Replica D) (start : ℕ) (before : Option (List ℕ)) → Followed g old old start start before before None
    followed_none old start before = ([], took_none start before, record { records = []; are_records = tt; spelled = refl; grown = grown_none by_items g joined old; ends = tt })

    -- one part more
    pub followed_then : (a b c : Replica D) (from mid now : ℕ) (start before left : Option (List ℕ)) (ended : Option ℕ) (two : List ℕ) → Followed g a b from mid start before None → Took mid now before left two → Follows g b c ended two
        → Followed g a c from now start left ended
    followed_then a b c from mid now start before left ended two first took second = (first.0 ++ two, took_then from mid now start before left first.0 two first.1 took, follows_then a b c ended first.0 two first.2 second)

    -- a part, and those behind it
    pub from_then : (a b c : Replica D) (start now : ℕ) (before left : Option (List ℕ)) (last : ℕ) (one : List ℕ) → Follows g a b None one → Followed g b c start now before left (Some last) → FollowedFrom g a c one before left last
    from_then a b c start now before left last one first second = (second.0, second.1.taken, follows_then a b c (Some last) one second.0 first second.2)

  pub from_end : (a b : Replica D) (before : Option (List ℕ)) (last : ℕ) (one : List ℕ) → Follows g a b (Some last) one → FollowedFrom g a b one before before last
  from_end a b before last one first = ([], Consumes-nil before, subst (Follows g a b (Some last)) (sym (append-nil one)) first)

  -- ---- all parts

  module _ (old new : Replica D) (format : Format) (uuid : List ℕ) (last : ℕ) where
    -- where no snapshot comes
    pub takes_records : (hand : List ℕ) (before left : Option (List ℕ)) → (uuid ≡ (facts_of g old).uuid) ⊎ IsNil (facts_of g old).uuid → (IsNil (facts_of g old).uuid → ⊥)
        → FollowedFrom g old new hand before left last → TakesAll g old new format uuid last hand before left
    takes_records hand before left (inr nil) defined f = absurd (defined nil)
    takes_records hand before left (inl same) defined f =
        let h = f.2 in
        record {
          snapshot = None;
          fits = tt;
          told = tt;
          comes = defined;
          records = h.records;
          are_records = h.are_records;
          bytes = f.0;
          taken = f.1;
          spelled = h.spelled;
          uuid_is = h.grown.uuid ∙ sym same;
          setting = h.grown.setting;
          quiet = h.ends.quiet;
          limit = h.ends.limit;
          durable = h.ends.durable;
          node = λ n holds.
              let one = h.grown.node n holds in
              let here : delivered n.facts ≡ delivered (facts_of g old) = ap delivered holds.facts in
              (one.0, record { count = omega (arith, one.1.count, h.ends.last_is n holds, here); order = λ L of. one.1.order L of; judged = λ L of. one.1.judged L of }, one.2);
          went = went_records g old new uuid h.records h.grown;
        }

    -- where one comes
    module _ (by_items : HistoryByItems) (position start between now : ℕ) (before mid left : Option (List ℕ)) (second : Replica D) where
      pub takes_snapshot : Brought g old second format uuid position start between before mid → Followed g second new between now mid left (Some last)
          → TakesAll g old new format uuid last (83 ∷ number_bytes 8 position) before left
      takes_snapshot b f =
          let h = f.2 in
          let s : Snapshot = b.snapshot in
          record {
            snapshot = Some s;
            fits = b.takes.fits;
            told = b.takes.told;
            comes = (b.takes.is_snapshot, b.takes.later);
            records = h.records;
            are_records = h.are_records;
            bytes = rest_of format s ++ f.0;
            taken = Consumes-trans before mid left (rest_of format s) f.0 b.takes.took.taken f.1.taken;
            spelled =
                ap (λ n. (83 ∷ number_bytes 8 n) ++ (rest_of format s ++ f.0)) b.takes.position_is ∙ sym (append_assoc (83 ∷ number_bytes 8 s.position) (rest_of format s) f.0)
                ∙ ap (λ (bs : List ℕ). snapshot_bytes format s ++ bs) h.spelled;
            uuid_is = h.grown.uuid ∙ b.uuid_is;
            setting = h.grown.setting ∙ b.setting;
            quiet = h.ends.quiet;
            limit = h.ends.limit;
            durable = h.ends.durable;
            node = λ n holds.
                let at = b.node n holds in
                let m = at.node in
                let one = h.grown.node m at.holds in
                let q_is : (facts_of g old).setting ≡ n.facts.setting = ap (λ (x : Standing). x.setting) (sym holds.facts) in
                let here : delivered m.facts ≡ delivered (facts_of g second) = ap delivered at.holds.facts in
                let of : (L : Order) → state_of n.facts.setting s ≡ state n.facts.setting L → IsOf L m = λ L is. stands_is n uuid (state_of (facts_of g old).setting s) m L by_items at.stands (ap (λ (q : Setting). state_of q s) q_is ∙ is) in (
                  one.0,
                  record {
                    count = omega (arith, one.1.count, h.ends.last_is m at.holds, here);
                    order = λ L is. one.1.order L (of L is);
                    judged = λ L is. one.1.judged L (of L is) ∙ ap (λ (p : Setting). drop (length L) (history_of p (L ++ items_of h.records))) at.stands.setting_is;
                  },
                  one.2,
                );
            went = went_snapshot g by_items old second new format uuid position start between before mid h.records b h.grown;
          }

    -- with what was taken before
    pub all_taken : (hand : List ℕ) (before mid left : Option (List ℕ)) → Consumes before mid hand → TakesAll g old new format uuid last hand mid left → TakesAll g old new format uuid last [] before left
    all_taken hand before mid left first t = record {
      snapshot = t.snapshot;
      fits = t.fits;
      told = t.told;
      comes = t.comes;
      records = t.records;
      are_records = t.are_records;
      bytes = hand ++ t.bytes;
      taken = Consumes-trans before mid left hand t.bytes first t.taken;
      spelled = t.spelled;
      uuid_is = t.uuid_is;
      setting = t.setting;
      quiet = t.quiet;
      limit = t.limit;
      durable = t.durable;
      node = t.node;
      went = t.went;
    }

-- ---- the same of what calls answer

module _ {D : Type 0} (g : Ghosts D) where
  pub part_followed : HistoryByItems → RunsAreJoined g → (a b c : Replica D) (from mid now : ℕ) (start before left : Option (List ℕ)) (ended : Option ℕ) (p : Part) (result : Result (Option Part) Refusal) → result ≡ Ok (Some p) → Followed g a b from mid start before None
      → IfSome before (λ bytes. TakesOne PartFits part_bytes bytes left result) → IfOk result (λ found. IfSome found (λ q. now ≡ counted mid (length (part_bytes q)))) → Follows g b c ended (part_bytes p)
      → Followed g a c from now start left ended
  part_followed by_items joined a b c from mid now start before left ended p result is first known counts took =
      followed_then g by_items joined a b c from mid now start before left ended (part_bytes p) first (took_piece PartFits part_bytes mid now before left p result is known counts) took

  pub part_goes_on : HistoryByItems → RunsAreJoined g → (a b c : Replica D) (start now : ℕ) (before left : Option (List ℕ)) (ended : Option ℕ) (hand : List ℕ) (result : Result ℕ Refusal) → ended ≡ None → Follows g a b ended hand
      → IfOk result (λ last. Followed g b c start now before left (Some last)) → IfOk result (FollowedFrom g a c hand before left)
  part_goes_on by_items joined a b c start now before left ended hand (Err e) is took rest = tt
  part_goes_on by_items joined a b c start now before left ended hand (Ok last) is took rest =
      from_then g by_items joined a b c start now before left last hand (subst (λ (e : Option ℕ). Follows g a b e hand) is took) rest

  pub after_snapshot : HistoryByItems → (old second new : Replica D) (format : Format) (uuid : List ℕ) (position start between now : ℕ) (before mid left : Option (List ℕ)) (result : Result ℕ Refusal) → Brought g old second format uuid position start between before mid
      → IfOk result (λ last. Followed g second new between now mid left (Some last)) → IfOk result (λ last. TakesAll g old new format uuid last (83 ∷ number_bytes 8 position) before left)
  after_snapshot by_items old second new format uuid position start between now before mid left (Err e) b f = tt
  after_snapshot by_items old second new format uuid position start between now before mid left (Ok last) b f = takes_snapshot g old new format uuid last by_items position start between now before mid left second b f

  pub all_behind : (old new : Replica D) (format : Format) (uuid hand : List ℕ) (before mid left : Option (List ℕ)) (result : Result ℕ Refusal) → Consumes before mid hand
      → IfOk result (λ last. TakesAll g old new format uuid last hand mid left) → IfOk result (λ last. TakesAll g old new format uuid last [] before left)
  all_behind old new format uuid hand before mid left (Err e) first all = tt
  all_behind old new format uuid hand before mid left (Ok last) first all = all_taken g old new format uuid last hand before mid left first all

  pub no_snapshot : (old new : Replica D) (format : Format) (uuid hand : List ℕ) (before mid left : Option (List ℕ)) (result : Result ℕ Refusal) → Consumes before mid hand → (uuid ≡ (facts_of g old).uuid) ⊎ IsNil (facts_of g old).uuid
      → OnOk result (IsNil (facts_of g old).uuid → ⊥) → IfOk result (FollowedFrom g old new hand mid left) → IfOk result (λ last. TakesAll g old new format uuid last [] before left)
  no_snapshot old new format uuid hand before mid left (Err e) first cluster defined rest = tt
  no_snapshot old new format uuid hand before mid left (Ok last) first cluster defined rest =
      all_taken g old new format uuid last hand before mid left first (takes_records g old new format uuid last hand mid left cluster defined rest)

-- ---- a whole transfer

-- the window that the format tells among nodes of this shape
told_at : (format : Format) (shape : Shape) (p : Setting) (o : Option Snapshot) → shape ≡ shape_of p → IfSome o (CanTell format p) → IfSome o (λ s. IsOfFormat format (least_of shape) s.position s.kept)
told_at format shape p None same told = tt
told_at One shape p (Some s) same told = subst (λ (t : Shape). IsOfFormat One (least_of t) s.position s.kept) (sym same) told
told_at Two shape p (Some s) same told = tt

module _ {D : Type 0} (g : Ghosts D) (old mid new : Replica D) (header : Header) (last : ℕ) (settled : Grown g old mid []) where
  may_come : (n : Node) (snapshot : Option Snapshot) → Holds g n old → MayCome (facts_of g mid) snapshot → MatchOption snapshot (IsNil n.facts.uuid → ⊥) (λ s. IsSnapshot n.facts.setting s × ((delivered n.facts < s.position) ⊎ IsNil n.facts.uuid))
  may_come n None holds comes = λ nil. comes (subst IsNil (ap (λ (s : Standing). s.uuid) holds.facts ∙ sym settled.uuid) nil)
  may_come n (Some s) holds comes = (subst (λ (p : Setting). IsSnapshot p s) (settled.setting ∙ ap (λ (x : Standing). x.setting) (sym holds.facts)) comes.0, later comes.1)
    where
      later : (delivered (facts_of g mid) < s.position) ⊎ IsNil (facts_of g mid).uuid → (delivered n.facts < s.position) ⊎ IsNil n.facts.uuid
      later (inl below) = let here : delivered n.facts ≡ delivered (facts_of g old) = ap delivered holds.facts in inl (omega (arith, here, settled.count, below))
      later (inr nil) = inr (subst IsNil (settled.uuid ∙ ap (λ (x : Standing). x.uuid) (sym holds.facts)) nil)

  pub joined : (n : Node) (start before left : Option (List ℕ)) → Holds g n old → TakesHeader (facts_of g mid) header start before → TakesAll g mid new header.format header.uuid last [] before left
      → IfSome start (λ bytes. Joined g n bytes left old new last)
  joined n None before left holds head all = tt
  joined n (Some bytes) before left holds head all =
      by_left left (Consumes-trans (Some bytes) before left (header_bytes header) all.bytes head.taken all.taken)
    where
      transfer : Transfer
      transfer = record { header = header; snapshot = all.snapshot; records = all.records; last = last }

      by_left : (end : Option (List ℕ)) → Consumes (Some bytes) end (header_bytes header ++ all.bytes) → Joined g n bytes end old new last
      by_left None taken = absurd taken
      by_left (Some rest) taken =
          let m = settled.node n holds in
          let k = all.node m.0 m.2 in
          let p_is : m.0.facts.setting ≡ n.facts.setting = ap (λ (x : Standing). x.setting) m.2.facts ∙ settled.setting ∙ ap (λ (x : Standing). x.setting) (sym holds.facts) in
          let none : k.0.facts.ahead ≡ [] = ap (λ (x : Standing). x.ahead) k.2.facts ∙ none_ahead (facts_of g new) all.quiet in
          record {
            transfer = transfer;
            is_transfer = record {
              header = head.is_header;
              snapshot = all.fits;
              told = told_at header.format header.shape (facts_of g mid).setting all.snapshot head.shape all.told;
              records = all.are_records;
              last = all.limit;
            };
            is_for = record {
              cluster = cluster head.cluster;
              shape = head.shape ∙ ap shape_of (settled.setting ∙ ap (λ (x : Standing). x.setting) (sym holds.facts));
              snapshot = may_come n all.snapshot holds all.comes;
            };
            rest = rest;
            front = taken ∙ ap (λ (bs : List ℕ). (header_bytes header ++ bs) ++ rest) all.spelled;
            left_is = refl;
            last_is = refl;
            node = k.0;
            becomes = record {
              uuid = ap (λ (x : Standing). x.uuid) k.2.facts ∙ all.uuid_is;
              setting = ap (λ (x : Standing). x.setting) k.2.facts ∙ all.setting ∙ settled.setting ∙ ap (λ (x : Standing). x.setting) (sym holds.facts);
              durable = omega (arith, k.1.count, ap length none);
              none = none;
              order = λ L is. k.1.order L (starts_there n m.0 all.snapshot L p_is m.1.order is);
              judged = λ L is. k.1.judged L (starts_there n m.0 all.snapshot L p_is m.1.order is) ∙ ap (λ (p : Setting). drop (length L) (history_of p (L ++ items_of all.records))) p_is;
            };
            holds = k.2;
            quiet = all.quiet;
            went = went_behind g old mid new header.uuid all.snapshot all.records settled all.went;
          }
        where
          cluster : (header.uuid ≡ (facts_of g mid).uuid) ⊎ IsNil (facts_of g mid).uuid → (header.uuid ≡ n.facts.uuid) ⊎ IsNil n.facts.uuid
          cluster (inl same) = inl (same ∙ settled.uuid ∙ ap (λ (x : Standing). x.uuid) (sym holds.facts))
          cluster (inr nil) = inr (subst IsNil (settled.uuid ∙ ap (λ (x : Standing). x.uuid) (sym holds.facts)) nil)

-- what is so of what isn't taken to its end
-- what took all has nothing under way
pub quiet_then : {D : Type 0} (g : Ghosts D) (mid new : Replica D) (header : Header) (before left : Option (List ℕ)) (result : Result ℕ Refusal)
    → IfOk result (λ last. TakesAll g mid new header.format header.uuid last [] before left) → OnOk result (is_quiet (facts_of g new) ≡ true)
quiet_then g mid new header before left (Ok last) all = all.quiet
quiet_then g mid new header before left (Err e) all = tt

pub not_joined : (start : Option (List ℕ)) (P : List ℕ → ℕ → Type 0) (e : Refusal) → IfSome start (λ bytes. IfOk {E = Refusal} (Err e) (P bytes))
not_joined None P e = tt
not_joined (Some bytes) P e = tt

module _ {D : Type 0} (g : Ghosts D) (old mid new : Replica D) (header : Header) where
  pub joined_on : (n : Node) (start before left : Option (List ℕ)) (result : Result ℕ Refusal) → Grown g old mid [] → Holds g n old → TakesHeader (facts_of g mid) header start before
      → IfOk result (λ last. TakesAll g mid new header.format header.uuid last [] before left) → IfSome start (λ bytes. IfOk result (Joined g n bytes left old new))
  joined_on n None before left result settled holds head all = tt
  joined_on n (Some bytes) before left (Err e) settled holds head all = tt
  joined_on n (Some bytes) before left (Ok last) settled holds head all = joined g old mid new header last settled n (Some bytes) before left holds head all

-- ---- the same on any device

module _ {D : Type 0} (g : Ghosts D) (old mid new : Replica D) (header : Header) (settled : Grown g old mid []) where
  came_at : (snapshot : Option Snapshot) → MayCome (facts_of g mid) snapshot → MayCome (facts_of g old) snapshot
  came_at None comes = λ nil. comes (subst IsNil (sym settled.uuid) nil)
  came_at (Some s) comes = (subst (λ (p : Setting). IsSnapshot p s) settled.setting comes.0, later comes.1)
    where
      later : (delivered (facts_of g mid) < s.position) ⊎ IsNil (facts_of g mid).uuid → (delivered (facts_of g old) < s.position) ⊎ IsNil (facts_of g old).uuid
      later (inl below) = inl (omega (arith, settled.count, below))
      later (inr nil) = inr (subst IsNil settled.uuid nil)

  took : (last : ℕ) (start before left : Option (List ℕ)) → TakesHeader (facts_of g mid) header start before → TakesAll g mid new header.format header.uuid last [] before left → IfSome start (λ bytes. TookTransfer g bytes left old new last)
  took last None before left head all = tt
  took last (Some bytes) before left head all =
      by_left left (Consumes-trans (Some bytes) before left (header_bytes header) all.bytes head.taken all.taken)
    where
      transfer : Transfer
      transfer = record { header = header; snapshot = all.snapshot; records = all.records; last = last }

      cluster : (header.uuid ≡ (facts_of g mid).uuid) ⊎ IsNil (facts_of g mid).uuid → (header.uuid ≡ (facts_of g old).uuid) ⊎ IsNil (facts_of g old).uuid
      cluster (inl same) = inl (same ∙ settled.uuid)
      cluster (inr nil) = inr (subst IsNil settled.uuid nil)

      by_left : (end : Option (List ℕ)) → Consumes (Some bytes) end (header_bytes header ++ all.bytes) → TookTransfer g bytes end old new last
      by_left None taken = absurd taken
      by_left (Some rest) taken = record {
        transfer = transfer;
        is_transfer = record {
          header = head.is_header;
          snapshot = all.fits;
          told = told_at header.format header.shape (facts_of g mid).setting all.snapshot head.shape all.told;
          records = all.are_records;
          last = all.limit;
        };
        cluster = cluster head.cluster;
        shape = head.shape ∙ ap shape_of settled.setting;
        snapshot = came_at all.snapshot all.comes;
        rest = rest;
        front = taken ∙ ap (λ (bs : List ℕ). (header_bytes header ++ bs) ++ rest) all.spelled;
        left_is = refl;
        last_is = refl;
        durable = all.durable;
        uuid = all.uuid_is;
        setting = all.setting ∙ settled.setting;
      }

  pub took_on : (start before left : Option (List ℕ)) (result : Result ℕ Refusal) → TakesHeader (facts_of g mid) header start before → IfOk result (λ last. TakesAll g mid new header.format header.uuid last [] before left)
      → IfSome start (λ bytes. IfOk result (TookTransfer g bytes left old new))
  took_on None before left result head all = tt
  took_on (Some bytes) before left (Err e) head all = tt
  took_on (Some bytes) before left (Ok last) head all = took last (Some bytes) before left head all
