-- A batch for which a node was started from a replica and closed into one: what it came to.
use Rattle.std.proofs.Common.{◌≡◌, ◌⊎◌, inl, inr, ⊎_elim, Bool, ℕ, ◌+◌, ◌-◌, ◌<◌, ◌≤◌, ◌||◌, true, false, Option, Some, None, List, [], ◌∷◌, ◌++◌, length, sym, refl, ap, ◌∙◌, subst, arith, length-append, append_assoc}
use Rattle.std.specs.Prelude.{slice_get, is_some, IfSome, IsFalse}
use Rattle.std.specs.List.{AllZip}
use Rattle.std.proofs.lemmas.Option.{none-some, same_Some}
use Rattle.rep_types.specs.declared.item.Item.{Item}
use Rattle.rep_types.specs.declared.judged.Judged.{Judged}
use Rattle.rep_types.specs.declared.refusal.Refusal.{Refusal}
use Rattle.rep_types.specs.declared.refusal.Refusal.TheVariants.{Exhausted, OutOfMemory, Stopped}
use Rattle.rep_types.specs.declared.limits.TheConstants.{MAX_SEQNO}
use Rattle.rep_types.specs.Order.{Order, items_of as items_in}
use Rattle.rep_disk.specs.declared.disk.Disk.{Ghosts}
use Rattle.rep_cert.specs.Holdings.{Holdings}
use Rattle.rep_engine.specs.Engines.{Engine, durable_of, facts_of}
use Rattle.rep_steps.specs.Nodes.{Node}
use Rattle.rep_steps.specs.Orders.{IsOf}
use Rattle.rep_steps.specs.Images.{IsFrontOf}
use Rattle.rep_image.specs.Meanings.{Means}
use Rattle.rep_replica.specs.Replicas.{Replica, IsReplica, facts_of as replica_facts}
use Rattle.rep_replica.specs.Holding.{Holds}
use Rattle.rep_replica.specs.Settling.{IsRunning, is_quiet}
use Rattle.rep_stations.specs.Judging.{Legal}
use Rattle.rep_stations.specs.Taking.{StartsAs}
use Rattle.rep_stations.specs.Orders.{HistoriesExtendTheOrder}
use Rattle.rep_stations.specs.Ending.{HistoriesLieBetweenReplicas}
use Rattle.rep_snap.specs.Views.{Watching}
use Rattle.rep_ordered.specs.declared.view.View.{View}
use Rattle.rep_ordered.specs.Going.{Went}
use Rattle.rep_ordered.specs.GoingLaws.{append_nil}
use Rattle.rep_ordered.specs.Views.{Every, HasAll}
use Rattle.rep_node.specs.declared.home.Home.{Home}
use Rattle.rep_node.specs.declared.origin.Origin.{Origin}
use Rattle.rep_node.specs.declared.batch.Receipt.{Receipt}
use Rattle.rep_node.specs.Homes.{Start}
use Rattle.rep_node.specs.Ending.{StartsFrom, EndsAs}
use Rattle.rep_node.specs.Batches.{Ascends, IsBatch, IsReceipt, IsWhole, entry_of}
use Rattle.rep_node.specs.Served.{EndedFor, IsReceiptOf, IsServed, IsTold}
use Rattle.rep_node.proofs.Batching.{every_to}

-- ---- why it ended

abbrev IsHalted : {D : Type 0} → Replica D → Type 0
IsHalted r = (r.stopped || is_some r.engine.halted) ≡ true

abbrev IsEnd : {D : Type 0} → Replica D → ℕ → Replica D → List Receipt → Option Refusal → Type 0
IsEnd old count new receipts end = IfSome end (EndedFor old count new receipts)

pub stopped_as : {D : Type 0} (old : Replica D) (count : ℕ) (new : Replica D) (receipts : List Receipt) (end : Option Refusal) → IsHalted new → end ≡ Some Stopped → IsEnd old count new receipts end
stopped_as old count new receipts end halted is = subst (λ (e : Option Refusal). IsEnd old count new receipts e) (sym is) (inl (refl, halted))

pub refused_as : {D : Type 0} (A : Type 0) (count : ℕ) (old new : Replica D) (receipts : List Receipt) (end : Option Refusal) (refusal : Refusal) → new ≡ old → receipts ≡ [] → end ≡ Some refusal → ((refusal ≡ OutOfMemory) × A) ⊎ ((refusal ≡ Stopped) × IsHalted old)
    → IsEnd old count new receipts end
refused_as A count old new receipts end refusal same none is why = subst (λ (e : Option Refusal). IsEnd old count new receipts e) (sym is)
    (⊎_elim (λ (memory : (refusal ≡ OutOfMemory) × A). let z : EndedFor old count new receipts refusal = inr (inr memory.0, none) in z) (λ (stopped : (refusal ≡ Stopped) × IsHalted old). let z : EndedFor old count new receipts refusal = inl (stopped.0, subst IsHalted (sym same) stopped.1) in z) why)

-- what the seat of a node says of why it ended
abbrev SeatEnded : ℕ → ℕ → ℕ → List ℕ → List ℕ → List Receipt → Option Refusal → Type 0
SeatEnded halted allowance count own drawn receipts end = IfSome end (λ (refusal : Refusal). ((refusal ≡ Stopped) × (halted ≡ 1)) ⊎ ((((refusal ≡ Exhausted) × (allowance ≤ count)) ⊎ (refusal ≡ OutOfMemory)) × (drawn ≡ own) × (receipts ≡ [])))

halted_as : {D : Type 0} (new : Replica D) (said : Bool) (halted : ℕ) → new.stopped ≡ said → halted ≡ 1 → (IsFalse said → halted ≡ 0) → IsHalted new
halted_as new true halted is on off = ap (λ (b : Bool). b || is_some new.engine.halted) is
halted_as new false halted is on off = let none : halted ≡ 0 = off refl in absurd (omega arith)

pub ended_as : {D : Type 0} (count halted allowance : ℕ) (old new : Replica D) (own drawn : List ℕ) (receipts : List Receipt) (end : Option Refusal) → allowance ≡ MAX_SEQNO - durable_of old.engine.log → (IsFalse new.stopped → halted ≡ 0) → SeatEnded halted allowance count own drawn receipts end → IsEnd old count new receipts end
ended_as count halted allowance old new own drawn receipts None left off why = tt
ended_as count halted allowance old new own drawn receipts (Some refusal) left off (inl stopped) = inl (stopped.0, halted_as new new.stopped halted refl stopped.1 off)
ended_as count halted allowance old new own drawn receipts (Some refusal) left off (inr (inl exhausted, drawn_none, none)) = inr (inl (exhausted.0, let few = exhausted.1 in omega arith), none)
ended_as count halted allowance old new own drawn receipts (Some refusal) left off (inr (inr memory, drawn_none, none)) = inr (inr memory, none)

-- where nothing was drawn the history is empty
idle_as : (halted allowance count : ℕ) (own drawn : List ℕ) (receipts : List Receipt) (end : Option Refusal) (judged : List Judged) → own ≡ [] → length judged ≤ length drawn → SeatEnded halted allowance count own drawn receipts end → IfSome end (λ (refusal : Refusal). (refusal ≡ Stopped) ⊎ (judged ≡ []))
idle_as halted allowance count own drawn receipts None judged none few why = tt
idle_as halted allowance count own drawn receipts (Some refusal) judged none few (inl stopped) = inl stopped.0
idle_as halted allowance count own drawn receipts (Some refusal) [] none few (inr why) = inr refl
idle_as halted allowance count own drawn receipts (Some refusal) (j ∷ judged) none few (inr why) = let empty : length drawn ≡ 0 = ap (λ (l : List ℕ). length l) (why.1 ∙ none) in absurd (omega arith)

-- ---- whether it was stopped

pub not_both : (said stopped : Bool) → said ≡ stopped → said ≡ false → stopped ≡ true → ⊥
not_both said stopped is running halted = absurd (let never : true ≡ false = sym halted ∙ (sym is ∙ running) in cc)

pub not_running : {D : Type 0} (r : Replica D) (said : Bool) → said ≡ (r.stopped || is_some r.engine.halted) → said ≡ true → IsRunning r → ⊥
not_running r said is halted running = let runs : (r.stopped || is_some r.engine.halted) ≡ false = λ i. running.inside i || is_some (running.device i) in absurd (let never : true ≡ false = sym halted ∙ (is ∙ runs) in cc)

-- ---- receipts and the history

at_behind : {A : Type 0} (front rest : List A) (x : A) → slice_get (front ++ x ∷ rest) (length front) ≡ Some x
at_behind [] rest x = refl
at_behind (y ∷ front) rest x = at_behind front rest x

-- the receipt is of the entry at its seqno, of a history that begins at this one
record IsAt (items : List Item) (start : ℕ) (history : List Judged) (r : Receipt) : Type 0 where
  item : Item
  at : slice_get items r.index ≡ Some item
  from : start ≤ r.seqno
  inside : r.seqno < start + length history
  entry : slice_get history (r.seqno - start) ≡ Some (entry_of item r)

-- seqnos that ascend below a number: the first is as far below it as there are some
below : (top : ℕ) (r : Receipt) (rs : List Receipt) → Ascends (r ∷ rs) → Every (λ (q : Receipt). q.seqno < top) (r ∷ rs) → r.seqno + length (r ∷ rs) ≤ top
below top r [] up low = let b : r.seqno < top = low.0 in omega arith
below top r (q ∷ rs) up low = let h : q.seqno + length (q ∷ rs) ≤ top = below top q rs up.1 low.1 in let less : r.seqno < q.seqno = up.0 in omega arith

-- the first seqno is this one or above
abbrev FirstFrom : ℕ → List Receipt → Type 0
FirstFrom n [] = Unit {0}
FirstFrom n (r ∷ rs) = n ≤ r.seqno

next_from : (n : ℕ) (r : Receipt) (rs : List Receipt) → n ≡ r.seqno + 1 → Ascends (r ∷ rs) → FirstFrom n rs
next_from n r [] is up = tt
next_from n r (q ∷ rs) is up = let less : r.seqno < q.seqno = up.0 in omega arith

next_ascends : (r : Receipt) (rs : List Receipt) → Ascends (r ∷ rs) → Ascends rs
next_ascends r [] up = tt
next_ascends r (q ∷ rs) up = up.1

all_from : (items : List Item) (start n : ℕ) (history : List Judged) (rs : List Receipt) → n ≡ start → Every (IsAt items start history) rs → FirstFrom n rs
all_from items start n history [] is each = tt
all_from items start n history (r ∷ rs) is each = let from = each.0.from in omega arith

-- Receipts that ascend, and are no fewer than the entries, are those of the entries, one after the other.
zipped : (items : List Item) (start : ℕ) (history front rest : List Judged) (rs : List Receipt) → history ≡ front ++ rest → length rest ≤ length rs → FirstFrom (start + length front) rs → Ascends rs → Every (IsAt items start history) rs → AllZip (IsReceiptOf items) rs rest
zipped items start history front [] [] is few from up each = tt
zipped items start history front (j ∷ rest) [] is few from up each = absurd (omega arith)
zipped items start history front [] (r ∷ rs) is few from up each = let inside = each.0.inside in let low : start + length front ≤ r.seqno = from in let long : length history ≡ length front = ap (λ (l : List Judged). length l) (is ∙ append_nil front) in absurd (omega arith)
zipped items start history front (j ∷ rest) (r ∷ rs) is few from up each = let a = each.0 in let low : start + length front ≤ r.seqno = from in
    let long : length history ≡ length (front ++ j ∷ rest) = ap (λ (l : List Judged). length l) is in
    let high = below (start + length history) r rs up (every_to (IsAt items start history) (λ (q : Receipt). q.seqno < start + length history) (r ∷ rs) (λ q h. h.inside) each) in
    let here : r.seqno ≡ start + length front = omega (arith, length-append front (j ∷ rest)) in let place : r.seqno - start ≡ length front = omega arith in
    let same : entry_of a.item r ≡ j = same_Some _ _ (sym a.entry ∙ (ap (slice_get history) place ∙ (ap (λ (l : List Judged). slice_get l (length front)) is ∙ at_behind front rest j))) in (
      record { item = a.item; at = a.at; entry = sym same },
      zipped items start history (front ++ j ∷ []) rest rs (is ∙ sym (append_assoc front (j ∷ []) rest)) (omega arith) (next_from (start + length (front ++ j ∷ [])) r rs (omega (arith, length-append front (j ∷ []))) up) (next_ascends r rs up) each.1,
    )

module _ {D : Type 0} where
  at_seqno : (items : List Item) (v w : View (Home D) Judged) (r : Receipt) → IsReceipt items v w r → IsAt items w.start w.seen r
  at_seqno items v w r h = let s = h.stands in let e : Judged = entry_of h.item r in let place : w.start + length s.before ≡ r.seqno = s.place in
      let is : w.seen ≡ s.before ++ e ∷ s.begins.0 = s.begins.1 ∙ append_assoc s.before (e ∷ []) s.begins.0 in let long : length w.seen ≡ length (s.before ++ e ∷ s.begins.0) = ap (λ (l : List Judged). length l) is in
      let here : r.seqno - w.start ≡ length s.before = omega arith in record {
        item = h.item;
        at = h.at;
        from = omega arith;
        inside = omega (arith, length-append s.before (e ∷ s.begins.0));
        entry = ap (slice_get w.seen) here ∙ (ap (λ (l : List Judged). slice_get l (length s.before)) is ∙ at_behind s.before s.begins.0 e);
      }

  told : (items : List Item) (v w : View (Home D) Judged) (position upto : ℕ) (r : Receipt) → w.start ≡ position + 1 → w.durable ≤ upto → IsReceipt items v w r → IsTold items position upto w.seen r
  told items v w position upto r starts known h = let a = at_seqno items v w r h in let from = a.from in let durable = h.durable in let same : r.seqno - position - 1 ≡ r.seqno - w.start = omega arith in record {
    judged = entry_of a.item r;
    receipt = record { item = a.item; at = a.at; entry = refl };
    behind = omega arith;
    at = ap (slice_get w.seen) same ∙ a.entry;
    durable = omega arith;
  }

  -- ---- the first seat

  pub has_all : (v w : View (Home D) Judged) → v.own ≡ [] → v.allowance ≡ v.whole → Went v w → HasAll w
  has_all v w own all went = let none : length v.own ≡ 0 = ap (λ (l : List ℕ). length l) own in let kept = went.goes.kept in let whole = went.goes.whole in omega arith

module _ {D : Type 0} (g : Ghosts D) where
  -- ---- what it came to

  pub served : HistoriesExtendTheOrder g → (old new : Replica D) (items : List Item) (v w : View (Home D) Judged) (watch : List (Watching Origin)) (receipts : List Receipt) (end : Option Refusal)
      → v.start ≡ durable_of old.engine.log + 1 → v.own ≡ [] → StartsFrom g old v watch → Went v w → IsBatch items 0 (length items) v w receipts → Ascends receipts → (end ≡ None → IsWhole 0 (length items) v w receipts)
      → SeatEnded w.halted v.allowance (length items) v.own w.own receipts end → EndsAs g w new → IsServed g old items new receipts end
  served extend old new items v w watch receipts end starts own s went batch up whole ended e = record {
    judged = w.seen;
    legal = legal;
    told = every_to (IsReceipt items v w) (IsTold items (durable_of old.engine.log) (durable_of new.engine.log) w.seen) receipts (λ r h. told items v w (durable_of old.engine.log) (durable_of new.engine.log) r (went.goes.start ∙ starts) e.durable h) batch.told;
    order = up;
    places = batch.places;
    count = λ ended. let count = (whole ended).count in omega arith;
    whole = λ ended. let drawn = (whole ended).drawn in let none : length v.own ≡ 0 = ap (λ (l : List ℕ). length l) own in let few = e.drawn in
        let each = every_to (IsReceipt items v w) (IsAt items w.start w.seen) receipts (at_seqno items v w) batch.told in
        zipped items w.start w.seen [] w.seen receipts refl (omega arith) (all_from items w.start (w.start + 0) w.seen receipts (omega arith) each) up each;
    idle = idle_as w.halted v.allowance (length items) v.own w.own receipts end w.seen own e.drawn ended;
    entries = λ L n of holds. extend.entries L n old.engine old.certifier.current w.seen of (s.stands n holds) legal;
    stands = λ L n of holds running. e.stands L n of (starts_as n holds) running;
    taken = e.taken;
    begins = (e.waits, e.ends.whole);
    images = λ L n of holds image is. subst (λ (z : Engine D × Holdings). IsFrontOf Means z.0.checkpoint.base.uuid z.1.current.setting (L ++ items_in e.taken) (durable_of new.engine.log) image) (λ i. (engine i, certifier i)) (e.images L n of (starts_as n holds) image is);
  }
    where
      -- the seat that was closed with is one of the node that was started
      one : s.start ≡ e.start
      one = e.one s.start (went.goes.first ∙ s.first)

      certifier : e.start.certifier ≡ old.certifier
      certifier = ap (λ (z : Start D). z.certifier) (sym one) ∙ s.certifier

      engine : e.start.desk.engine ≡ old.engine
      engine = ap (λ (z : Start D). z.desk.engine) (sym one) ∙ s.engine

      legal : Legal old.certifier.current w.seen
      legal = subst (λ (c : Holdings). Legal c.current w.seen) certifier e.ends.legal

      starts_as : (n : Node) → Holds g n old → StartsAs g e.start.desk.engine e.start.certifier.current n
      starts_as n holds = subst (λ (z : Engine D × Holdings). StartsAs g z.0 z.1.current n) (λ i. (sym engine i, sym certifier i)) (s.stands n holds)

  -- a replica that is handed back as it was
  same_served : HistoriesLieBetweenReplicas g → HistoriesExtendTheOrder g → (old : Replica D) (items : List Item) (refusal : Refusal) → IsReplica (facts_of g old.engine) old.backlog old.certifier.current old.stopped → IsRunning old → is_quiet (replica_facts g old) ≡ true
      → IsServed g old items old [] (Some refusal)
  same_served between extend old items refusal is running quiet = let b = between.begins old is running.inside quiet in record {
    judged = [];
    legal = tt;
    told = tt;
    order = tt;
    places = λ i. omega arith;
    count = λ ended. absurd (none-some refusal (sym ended));
    whole = λ ended. absurd (none-some refusal (sym ended));
    idle = inr refl;
    entries = λ L n of holds. extend.entries L n old.engine old.certifier.current [] of (b.stands n holds) tt;
    stands = λ L n of holds runs. (n, subst (λ (l : Order). IsOf l n) (sym (append_nil L)) of, holds);
    taken = [];
    begins = ([], refl);
    images = λ L n of holds image left. extend.images L n old.engine old.engine old.certifier.current [] of (b.stands n holds) tt b.taken image left;
  }

  pub refused_served : HistoriesLieBetweenReplicas g → HistoriesExtendTheOrder g → (old new : Replica D) (items : List Item) (receipts : List Receipt) (end : Option Refusal) (refusal : Refusal)
      → IsReplica (facts_of g old.engine) old.backlog old.certifier.current old.stopped → IsRunning old → is_quiet (replica_facts g old) ≡ true → new ≡ old → receipts ≡ [] → end ≡ Some refusal → IsServed g old items new receipts end
  refused_served between extend old new items receipts end refusal is running quiet same none ended =
      subst (λ (z : Replica D × List Receipt × Option Refusal). IsServed g old items z.0 z.1 z.2) (λ i. (sym same i, sym none i, sym ended i)) (same_served between extend old items refusal is running quiet)
