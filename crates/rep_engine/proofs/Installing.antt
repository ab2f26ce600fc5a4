-- What the calls that install a snapshot make of an engine, and of the node that it stands for.
use Rattle.std.proofs.Common.{◌≡◌, ◌⊎◌, inl, inr, ℕ, ◌+◌, ◌-◌, ◌<◌, ◌≤◌, true, false, List, [], length, length-drop, map, drop, Option, None, Some, Result, Ok, Err, IfErr, OnOk, OnErr, refl, sym, ap, subst, ◌∙◌, arith}
use Rattle.std.specs.Prelude.{IsOk, IsErr}
use Rattle.std.proofs.lemmas.List.{drop_all}
use Rattle.std.proofs.lemmas.Slice.Eq.{bytes_eq-Decides}
use Rattle.uuid.specs.Parts.{is_nil_bytes, zero_bytes}
use Rattle.rep_types.specs.declared.judged.Judged.{Judged}
use Rattle.rep_types.specs.declared.refusal.Refusal.{Refusal}
use Rattle.rep_types.specs.declared.value.Write.{Write}
use Rattle.rep_types.specs.Settings.{Setting}
use Rattle.rep_types.specs.Order.{State}
use Rattle.rep_types.specs.Windows.{Window}
use Rattle.rep_types.proofs.Choices.{of_success}
use Rattle.rep_disk.specs.declared.disk.Disk.{Ghosts}
use Rattle.rep_disk.specs.History.{stable, IsImage}
use Rattle.rep_disk.specs.Moments.{LeavesOnly}
use Rattle.rep_disk.specs.Leaving.{leaves_weaker, leaves_none, leaves_then}
use Rattle.rep_disk.specs.Devices.{Calls}
use Rattle.rep_layout.specs.declared.place.Layout.{Layout}
use Rattle.rep_layout.specs.declared.super_body.SuperBody.{SuperBody}
use Rattle.rep_layout.specs.Places.{layout_of}
use Rattle.rep_layout.specs.GoingOn.{WindowsGoOn}
use Rattle.rep_layout.specs.Supers.{IsNil, super_bytes}
use Rattle.rep_record.specs.Blocks.{SeqnosFrom}
use Rattle.rep_cells.specs.Calls.{Settled, Settles}
use Rattle.rep_cells.specs.Known.{Assigns}
use Rattle.rep_cells.specs.Readings.{reading_of}
use Rattle.rep_cells.specs.States.{Allowed}
use Rattle.rep_cells.specs.Laws.{ImagesReadAsAllowed}
use Rattle.rep_versions.specs.Versions.{Kept, IsPruned}
use Rattle.rep_versions.specs.Following.{AreVersionsOf, VersionsFollowTheItems, effect_of}
use Rattle.rep_log.specs.declared.phase.Phase.{Phase}
use Rattle.rep_log.specs.declared.phase.Phase.TheVariants.{Resting, Closing, Filling, Filled, Opening}
use Rattle.rep_log.specs.Standing.{Standing as Log, busy, stands_at}
use Rattle.rep_log.specs.Moves.{fault_of, after_sync, synced_in, restarted, Restarts, SyncsLog}
use Rattle.rep_steps.specs.Standings.{Standing, Retiring}
use Rattle.rep_steps.specs.Nodes.{Node, IsNode}
use Rattle.rep_steps.specs.Images.{IsFrontAt, IsEndOf, Ends}
use Rattle.rep_checkpoint.specs.Meanings.{Means}
use Rattle.rep_checkpoint.specs.declared.stage.Part.{Part}
use Rattle.rep_checkpoint.specs.declared.stage.Part.TheVariants.{Flushing, Saving, Ready, SuperFilling, SuperFilled, SuperOpening}
use Rattle.rep_checkpoint.specs.declared.stage.Stage.TheVariants.{Off}
use Rattle.rep_checkpoint.specs.Standing.{Standing as Checkpoint}
use Rattle.rep_checkpoint.specs.Coming.{Coming, CanInstall, IsComing, IsDue, blank, coming, gone, placed, settled, with_page}
use Rattle.rep_checkpoint.specs.Installing.{BeginsToInstall, Installs, InstallsNext, InstallsPage}
use Rattle.rep_checkpoint.specs.Arriving.{InstallsAs, InstallationsLeaveTheOldOrTheNew, InstallationsMakeTheNode, InstallationsStandBeside, InstallationsCanBeDropped, Arrives, installed}
use Rattle.rep_checkpoint.specs.Moves.{found_at, next_part}
use Rattle.rep_checkpoint.specs.States.{cell_in}
use Rattle.rep_checkpoint.specs.Nodes.{StandsAs, NodesLeaveTheirFronts}
use Rattle.rep_engine.specs.Engines.{Engine, IsEngine, IsWhole, facts_of, durable_of, OnlyAsks}
use Rattle.rep_engine.specs.Holding.{Holds}
use Rattle.rep_engine.specs.Reading.{halted_by}
use Rattle.rep_engine.specs.Installing.{CanBring, IsBeside, StandsBoth, HoldsBoth, HoldsEither, MeansEither, Goes, TakesPlace, IsTaken, snapshot_of, halted_node}
use Rattle.rep_engine.proofs.Standing.{places, long, same_front, fronts_of, nil_bytes}
use Rattle.rep_engine.proofs.Syncing.{within_pruned}
use Rattle.rep_engine.proofs.Accepts.{length-effects}

-- ---- beside an engine, on any device

-- ---- what an image means

-- what ends where the log does has what is durable
end_front : (n : Node) (image : List ℕ) → IsEndOf Means n image → IsFrontAt Means n image
end_front n image f = record { meaning = f.meaning; reads = f.reads; end = f.end; least = by f.ends; front = f.front }
  where
    by : Ends n f.end → n.facts.durable ≤ f.end
    by (inl same) = omega (arith, same)
    by (inr more) = omega (arith, more.2)

front_or : {A : Type 0} (n : Node) (image : List ℕ) → IsEndOf Means n image ⊎ A → IsFrontAt Means n image ⊎ A
front_or n image (inl f) = inl (end_front n image f)
front_or n image (inr a) = inr a

pub either : (n : Node) (b : SuperBody) (y : State) (part : Part) (image : List ℕ) → IsFrontAt Means n image ⊎ ((part ≡ SuperOpening) × Means image (snapshot_of b y)) → MeansEither n b y image
either n b y part image (inl f) = inl f
either n b y part image (inr m) = inr m.1

-- while pages come, and until its superblock opens, it is the node's
pub front_alone : (n : Node) (part : Part) (image : List ℕ) {A : Type 0} → (part ≡ SuperOpening → ⊥) → IsFrontAt Means n image ⊎ ((part ≡ SuperOpening) × A) → IsFrontAt Means n image
front_alone n part image not (inl f) = f
front_alone n part image not (inr m) = absurd (not m.0)

-- ---- the node where the device failed

is_halted_node : (failures : ℕ) (n : Node) → IsNode n → IsNode (halted_node failures n)
is_halted_node failures n h = record {
  facts = record { allowed = h.facts.allowed; undefined = h.facts.undefined; based = h.facts.based; near = h.facts.near; limit = h.facts.limit; block = h.facts.block; few = h.facts.few; started = h.facts.started; room = h.facts.room; goal = h.facts.goal };
  position = h.position;
  enough = h.enough;
  ahead = h.ahead;
}

-- ---- how a call comes out

pub ok_fault : (result : Result (Unit {0}) Refusal) → IsOk result → IsOk (fault_of result)
ok_fault (Ok x) ok = refl
ok_fault (Err e) ok = absurd cc

pub ok_runs : (phase : Phase) (result : Result (Unit {0}) Refusal) → IsOk result → halted_by phase result ≡ None
ok_runs phase (Ok x) ok = refl
ok_runs phase (Err e) ok = absurd cc

-- a log that rests is after a sync as it was
pub rests : (log : Log) → log.phase ≡ Resting → log ≡ after_sync log
rests log resting = sym (ap (synced_in log) resting)

-- ---- a write

module _ {D : Type 0} (g : Ghosts D) (sized : (disk : D) → g.honest disk → length (stable (g.history disk)) ≡ g.size disk) (law : InstallationsLeaveTheOldOrTheNew) (beside : InstallationsStandBeside)
    (old : Engine D) (dk : D) (hl : Option Phase) (engine : IsEngine old.layout old.checkpoint old.log old.kept old.block) (runs : old.halted ≡ None)
    (n : Node) (y : State) (i : Coming) (holds : HoldsBoth g n y old i) where
  abbrev to : Engine D
  to = record old { disk = dk; halted = hl }

  there : StandsBoth g n y old i
  there = holds.runs runs

  assigns : Assigns (places old) (g.history old.disk) there.states
  assigns = subst (λ k. Assigns k (g.history old.disk) there.states) engine.layout there.assigns

  long_stays : (answer : Result (Unit {0}) Refusal) → Calls g old.disk dk (fault_of answer) → length (stable (g.history dk)) ≡ (long g old)
  long_stays answer call = sized dk (call.stays_honest holds.is_honest) ∙ call.same_size ∙ sym (sized old.disk holds.is_honest)

  -- it stands beside the engine after a call that succeeded
  holds_both : (k : Coming) (z : State) → g.honest dk → g.failures dk ≡ g.failures old.disk → hl ≡ None → StandsBoth g n z to k → ((image : List ℕ) → IsImage (g.history dk) image → IsFrontAt Means n image ⊎ ((k.part ≡ SuperOpening) × Means image (snapshot_of k.next.super z)))
      → HoldsBoth g n z to k
  holds_both k z is_honest rose still stands images = record {
    is_honest = is_honest;
    facts = holds.facts ∙ sym (rw rose (rw still (rw runs refl)));
    node = holds.node;
    runs = λ on. stands;
    images = images;
  }

  module _ (result : Result (Unit {0}) Refusal) (call : Calls g old.disk dk (fault_of result)) (during after : Coming) (z : State)
      (did : Installs (long g old) (places old) (g.history old.disk) (g.history dk) there.states old.checkpoint.base during after n.base y z result) (start : during.next.super.start ≡ i.next.super.start) where
    stands_during : InstallsAs n (long g old) old.checkpoint during y old.log there.blocks there.sealed did.states
    stands_during = beside.goes_on n (long g old) old.checkpoint i during y y old.log there.blocks there.sealed there.states did.states did.elsewhere start did.during_is there.installs

    images : (image : List ℕ) → IsImage (g.history dk) image → IsFrontAt Means n image ⊎ ((during.part ≡ SuperOpening) × Means image (snapshot_of during.next.super y))
    images image here =
        front_or n image
        (law image n old.checkpoint during y old.log there.blocks there.sealed did.states holds.node
        (subst (λ k. InstallsAs n k old.checkpoint during y old.log there.blocks there.sealed did.states) (sym (here.sized ∙ long_stays result call)) stands_during) (did.reaches.images image here))

    stands_after : IsOk result → after.next.super.start ≡ i.next.super.start → StandsBoth g n z to after
    stands_after ok same = record {
      states = did.states;
      assigns = subst (λ k. Assigns k (g.history dk) did.states) (sym engine.layout) (of_success result ok did.reaches.ok);
      blocks = there.blocks;
      sealed = there.sealed;
      installs =
          subst (λ k. InstallsAs n k old.checkpoint after z old.log there.blocks there.sealed did.states) (sym (long_stays result call))
          (beside.goes_on n (long g old) old.checkpoint i after y z old.log there.blocks there.sealed there.states did.states did.elsewhere same (of_success result ok did.after_is) there.installs);
      versions = there.versions;
      gates = there.gates;
    }

  -- the write that comes next
  next_did : (k : Coming) (result : Result (Unit {0}) Refusal) → InstallsNext g old.layout old.checkpoint.base i k old.disk dk result
      → Installs (long g old) (places old) (g.history old.disk) (g.history dk) there.states old.checkpoint.base (gone i) (gone i) n.base y y result
  next_did k result w = (subst (λ m. InstallsNext g m old.checkpoint.base i k old.disk dk result) engine.layout w).steps holds.is_honest (long g old) there.states n.base y assigns there.installs.installation

  pub next_goes : (k : Coming) (result : Result (Unit {0}) Refusal) → InstallsNext g old.layout old.checkpoint.base i k old.disk dk result → Calls g old.disk dk (fault_of result) → hl ≡ halted_by old.log.phase result
      → Goes g n y old to i k result
  next_goes k (Ok x) w call still =
      let did = next_did k (Ok x) w in
      let means = images (Ok x) call (gone i) (gone i) y did refl in
      record {
        holds = subst (λ (j : Coming). HoldsBoth g n y to j) (sym w.done) (holds_both (gone i) y (call.stays_honest holds.is_honest) (call.no_cause refl) still (stands_after (Ok x) call (gone i) (gone i) y did refl refl refl) means);
        either = tt;
        leaves = leaves_weaker (g.history old.disk) (g.history dk) (λ image here. either n i.next.super y (gone i).part image (means image here)) did.reaches.moments;
      }
  next_goes k (Err e) w call still =
      let did = next_did k (Err e) w in
      let means = images (Err e) call (gone i) (gone i) y did refl in
      record {
        holds = tt;
        either = record { is_honest = call.stays_honest holds.is_honest; images = λ image here. either n i.next.super y (gone i).part image (means image here) };
        leaves = leaves_weaker (g.history old.disk) (g.history dk) (λ image here. either n i.next.super y (gone i).part image (means image here)) did.reaches.moments;
      }

  -- a page
  page_did : (k : Coming) (page : ℕ) (rows : _) (result : Result (Unit {0}) Refusal) → InstallsPage g old.layout old.checkpoint.base page rows i k old.disk dk result
      → Installs (long g old) (places old) (g.history old.disk) (g.history dk) there.states old.checkpoint.base i (placed old.checkpoint.base page i) n.base y (with_page old.checkpoint.base.params.rows page rows y) result
  page_did k page rows result w = (subst (λ m. InstallsPage g m old.checkpoint.base page rows i k old.disk dk result) engine.layout w).steps holds.is_honest (long g old) there.states n.base y assigns there.installs.installation

  module _ (k : Coming) (page : ℕ) (rows : _) (result : Result (Unit {0}) Refusal) (w : InstallsPage g old.layout old.checkpoint.base page rows i k old.disk dk result) (call : Calls g old.disk dk (fault_of result)) (flushing : i.part ≡ Flushing) where
    page_fronts : (image : List ℕ) → IsImage (g.history dk) image → IsFrontAt Means n image
    page_fronts image here =
        front_alone n i.part image (λ opens. let never : Flushing ≡ SuperOpening = sym flushing ∙ opens in absurd cc)
        (images result call i (placed old.checkpoint.base page i) (with_page old.checkpoint.base.params.rows page rows y) (page_did k page rows result w) refl image here)

    pub page_leaves : LeavesOnly (g.history old.disk) (g.history dk) (IsFrontAt Means n)
    page_leaves = leaves_weaker (g.history old.disk) (g.history dk) page_fronts (page_did k page rows result w).reaches.moments

    pub page_holds : hl ≡ halted_by old.log.phase result → IsOk result → HoldsBoth g n (with_page old.checkpoint.base.params.rows page rows y) to k
    page_holds still ok =
        let z = with_page old.checkpoint.base.params.rows page rows y in
        subst (λ (j : Coming). HoldsBoth g n z to j) (sym (of_success result ok w.done))
        (holds_both (placed old.checkpoint.base page i) z (call.stays_honest holds.is_honest) (call.no_cause (ok_fault result ok)) (still ∙ ok_runs old.log.phase result ok) (stands_after result call i (placed old.checkpoint.base page i) z (page_did k page rows result w) refl ok refl)
        (λ image here. inl (page_fronts image here)))

    pub page_halts : hl ≡ Some old.log.phase → k ≡ i → HoldsBoth g (halted_node (g.failures dk) n) y to k
    page_halts still same = subst (λ (j : Coming). HoldsBoth g (halted_node (g.failures dk) n) y to j) (sym same) (record {
      is_honest = call.stays_honest holds.is_honest;
      facts = rw holds.facts (rw still (rw runs refl));
      node = is_halted_node (g.failures dk) n holds.node;
      runs = λ on. let never : Some old.log.phase ≡ None = sym still ∙ on in absurd cc;
      images = λ image here. inl (same_front n (halted_node (g.failures dk) n) image refl refl refl refl refl (page_fronts image here));
    })

  -- a sync
  sync_did : (result : Result (Unit {0}) Refusal) → Settles g old.layout old.disk dk (fault_of result) → Settled (places old) (g.history old.disk) (g.history dk) there.states (fault_of result)
  sync_did result settles = (subst (λ m. Settles g m old.disk dk (fault_of result)) engine.layout settles) holds.is_honest there.states assigns

  module _ (result : Result (Unit {0}) Refusal) (settles : Settles g old.layout old.disk dk (fault_of result)) (call : Calls g old.disk dk (fault_of result)) where
    pub sync_images : (image : List ℕ) → IsImage (g.history dk) image → IsFrontAt Means n image ⊎ ((i.part ≡ SuperOpening) × Means image (snapshot_of i.next.super y))
    sync_images image here = holds.images image ((sync_did result settles).fewer image here)

    pub sync_leaves : LeavesOnly (g.history old.disk) (g.history dk) (MeansEither n i.next.super y)
    sync_leaves = leaves_weaker (g.history old.disk) (g.history dk) (λ image here. either n i.next.super y i.part image (sync_images image here)) (sync_did result settles).reaches.moments

    pub sync_either : HoldsEither g n i.next.super y to
    sync_either = record { is_honest = call.stays_honest holds.is_honest; images = λ image here. either n i.next.super y i.part image (sync_images image here) }

    pub sync_holds : InstallationsMakeTheNode → (i.part ≡ SuperOpening → ⊥) → old.log.phase ≡ Resting → SyncsLog old.log old.log → hl ≡ None → IsOk result → HoldsBoth g n y to (settled i)
    sync_holds make closed resting syncs still ok =
        let did = sync_did result settles in
        holds_both (settled i) y (call.stays_honest holds.is_honest) (call.no_cause (ok_fault result ok)) still
        (record {
          states = did.after;
          assigns = subst (λ k. Assigns k (g.history dk) did.after) (sym engine.layout) (of_success (fault_of result) (ok_fault result ok) did.reaches.ok);
          blocks = there.blocks;
          sealed = there.sealed;
          installs =
              subst (λ k. InstallsAs n k old.checkpoint (settled i) y old.log there.blocks there.sealed did.after) (sym (long_stays result call))
              (make.goes_on n (long g old) old.checkpoint i y old.log old.log there.blocks there.sealed there.states did.after closed there.installs did.syncs (rests old.log resting) syncs);
          versions = there.versions;
          gates = there.gates;
        })
        (λ image here. inl (front_alone n i.part image closed (sync_images image here)))

  -- ---- the sync behind its open gate: it takes the base's place

  module _ (result : Result (Unit {0}) Refusal) (settles : Settles g old.layout old.disk dk (fault_of result)) (call : Calls g old.disk dk (fault_of result)) (ok : IsOk result) (still : hl ≡ None)
      (opening : i.part ≡ SuperOpening) (b : IsBeside old.checkpoint old.log old.block i) (syncs : SyncsLog old.log old.log) (next : Log) (next_is : next ≡ restarted (i.next.super.position + 1) old.log) (restarts : Restarts (i.next.super.position + 1) old.log next)
      (kept : Kept) (pruned : IsPruned i.next.super.position old.kept kept) (make : InstallationsMakeTheNode) (fronts : NodesLeaveTheirFronts) (reads : ImagesReadAsAllowed) (follow : VersionsFollowTheItems) where
    abbrev m : Node
    m = installed n i y

    abbrev taken : Engine D
    taken = record old { disk = dk; checkpoint = found_at i.next.super true; log = next; kept = kept; halted = hl }

    did_sync : Settled (places old) (g.history old.disk) (g.history dk) there.states (fault_of result)
    did_sync = sync_did result settles

    none_ahead : n.facts.ahead ≡ []
    none_ahead = ap (λ (s : Standing). s.ahead) holds.facts ∙ b.none

    came : Arrives m (long g old) (found_at i.next.super true) next did_sync.after
    came =
        make.ends n (long g old) old.checkpoint i y old.log old.log next there.blocks there.sealed there.states did_sync.after opening holds.node none_ahead there.installs did_sync.syncs (rests old.log b.resting) syncs next_is restarts

    params : i.next.super.params ≡ old.checkpoint.base.params
    params = b.coming.params

    facts_taken : m.facts ≡ facts_of g taken
    facts_taken =
        let behind : i.next.super.position + 1 - 1 ≡ i.next.super.position = omega arith in
        rw holds.facts (rw next_is (rw behind (rw params (rw (call.no_cause (ok_fault result ok)) (rw still (rw runs refl))))))

    -- no version is left
    few : length (map effect_of n.items) ≤ i.next.super.position - n.base.position
    few =
        let none : length (drop (n.facts.durable - n.facts.base) n.items) ≡ 0 = ap length (sym holds.node.ahead ∙ none_ahead) in
        let durable : n.facts.durable ≡ durable_of old.log = ap (λ (s : Standing). s.durable) holds.facts in
        omega (arith, none, length-drop (n.facts.durable - n.facts.base) n.items, length-effects n.items, durable, b.later, holds.node.position, holds.node.facts.based)

    versions : AreVersionsOf y.position (map effect_of []) kept
    versions =
        let durable : n.facts.durable ≡ durable_of old.log = ap (λ (s : Standing). s.durable) holds.facts in
        let above : n.base.position ≤ i.next.super.position = omega (arith, durable, b.later, holds.node.position, holds.node.facts.based) in
        subst (λ p. AreVersionsOf p (map effect_of []) kept) (sym there.installs.installation.position)
        (subst (λ (cs : List (List Write)). AreVersionsOf i.next.super.position cs kept) (drop_all (i.next.super.position - n.base.position) (map effect_of n.items) few)
        (follow.pruned n.base.position i.next.super.position (map effect_of n.items) old.kept kept above there.versions pruned))

    stands_taken : StandsAs m (length (stable (g.history dk))) (found_at i.next.super true) next [] [] did_sync.after
    stands_taken = subst (λ k. StandsAs m k (found_at i.next.super true) next [] [] did_sync.after) (sym (long_stays result call)) came.stands

    assigns_taken : Assigns (places old) (g.history dk) did_sync.after
    assigns_taken = of_success (fault_of result) (ok_fault result ok) did_sync.reaches.ok

    pub taken_holds : Holds g m taken
    taken_holds = record {
      is_honest = call.stays_honest holds.is_honest;
      facts = facts_taken;
      node = came.node;
      runs = λ on. record {
        states = did_sync.after;
        assigns = subst (λ k. Assigns k (g.history dk) did_sync.after) (sym engine.layout) assigns_taken;
        blocks = [];
        sealed = [];
        stands = stands_taken;
        versions = versions;
        gates = λ j. there.gates j ∙ ap (λ (k : Log). stands_at k j) (sym next_is);
      };
      images = fronts_of fronts m (g.history dk) (long g old) (found_at i.next.super true) next [] [] did_sync.after came.node came.stands (long_stays result call)
          (λ image here. subst (λ (p : Setting). Allowed (layout_of p) did_sync.after (reading_of (layout_of p) image)) (sym params) (reads (places old) (g.history dk) did_sync.after image assigns_taken here));
    }

-- ---- the same of the engine that a call leaves

module _ {D : Type 0} (g : Ghosts D) (sized : (disk : D) → g.honest disk → length (stable (g.history disk)) ≡ g.size disk) (law : InstallationsLeaveTheOldOrTheNew) (beside : InstallationsStandBeside)
    (old new : Engine D) (rest : OnlyAsks old new) (engine : IsEngine old.layout old.checkpoint old.log old.kept old.block) (runs : old.halted ≡ None)
    (n : Node) (y : State) (i : Coming) (holds : HoldsBoth g n y old i) (result : Result (Unit {0}) Refusal) (call : Calls g old.disk new.disk (fault_of result)) (still : new.halted ≡ halted_by old.log.phase result) where
  pub write_to : (k : Coming) → InstallsNext g old.layout old.checkpoint.base i k old.disk new.disk result → Goes g n y old new i k result
  write_to k w = subst (λ (e : Engine D). Goes g n y old e i k result) (sym rest) (next_goes g sized law beside old new.disk new.halted engine runs n y i holds k result w call still)

  pub page_to : (k : Coming) (page : ℕ) (rows : _) → InstallsPage g old.layout old.checkpoint.base page rows i k old.disk new.disk result → i.part ≡ Flushing → IsOk result → HoldsBoth g n (with_page old.checkpoint.base.params.rows page rows y) new k
  page_to k page rows w flushing ok =
      subst (λ (e : Engine D). HoldsBoth g n (with_page old.checkpoint.base.params.rows page rows y) e k) (sym rest) (page_holds g sized law beside old new.disk new.halted engine runs n y i holds k page rows result w call flushing still ok)

  pub page_stops : (k : Coming) (page : ℕ) (rows : _) → InstallsPage g old.layout old.checkpoint.base page rows i k old.disk new.disk result → i.part ≡ Flushing → new.halted ≡ Some old.log.phase → k ≡ i → HoldsBoth g (halted_node (g.failures new.disk) n) y new k
  page_stops k page rows w flushing stops same =
      subst (λ (e : Engine D). HoldsBoth g (halted_node (g.failures new.disk) n) y e k) (sym rest) (page_halts g sized law beside old new.disk new.halted engine runs n y i holds k page rows result w call flushing stops same)

  module _ (settles : Settles g old.layout old.disk new.disk (fault_of result)) where
    pub stable_leaves : LeavesOnly (g.history old.disk) (g.history new.disk) (MeansEither n i.next.super y)
    stable_leaves = sync_leaves g sized law beside old new.disk new.halted engine runs n y i holds result settles call

    pub stable_either : HoldsEither g n i.next.super y new
    stable_either = subst (λ (e : Engine D). HoldsEither g n i.next.super y e) (sym rest) (sync_either g sized law beside old new.disk new.halted engine runs n y i holds result settles call)

    pub stable_to : InstallationsMakeTheNode → (i.part ≡ SuperOpening → ⊥) → old.log.phase ≡ Resting → SyncsLog old.log old.log → IsOk result → HoldsBoth g n y new (settled i)
    stable_to make closed resting syncs ok =
        subst (λ (e : Engine D). HoldsBoth g n y e (settled i)) (sym rest) (sync_holds g sized law beside old new.disk new.halted engine runs n y i holds result settles call make closed resting syncs (still ∙ ok_runs old.log.phase result ok) ok)

-- The write was made: the engine runs on, and both stand behind it.
pub record Written {D : Type 0} (g : Ghosts D) (n : Node) (y : State) (old new : Engine D) (i k : Coming) : Type 0 where
  pub holds : HoldsBoth g n y new k
  pub leaves : LeavesOnly (g.history old.disk) (g.history new.disk) (MeansEither n i.next.super y)
  pub runs : new.halted ≡ None
  pub engine : IsEngine new.layout new.checkpoint new.log new.kept new.block
  pub gone_is : k ≡ gone i
  pub super : k.next.super ≡ i.next.super
  pub beside : IsBeside new.checkpoint new.log new.block k

pub written : {D : Type 0} (g : Ghosts D) (old new : Engine D) → OnlyAsks old new → IsEngine old.layout old.checkpoint old.log old.kept old.block
    → (n : Node) (y : State) (i k : Coming) (result : Result (Unit {0}) Refusal) → IsOk result → new.halted ≡ halted_by old.log.phase result → InstallsNext g old.layout old.checkpoint.base i k old.disk new.disk result → IsBeside old.checkpoint old.log old.block k
    → Goes g n y old new i k result → Written g n y old new i k
written {D} g old new rest engine n y i k result ok still w b first =
    let went = of_success result ok w.done in
    record {
      holds = of_success result ok first.holds;
      leaves = first.leaves;
      runs = still ∙ ok_runs old.log.phase result ok;
      engine = subst (λ (e : Engine D). IsEngine e.layout e.checkpoint e.log e.kept e.block) (sym rest) engine;
      gone_is = went;
      super = ap (λ (j : Coming). j.next.super) went;
      beside = subst (λ (e : Engine D). IsBeside e.checkpoint e.log e.block k) (sym rest) b;
    }

-- ---- one step after another

-- a call that failed leaves either
pub failed : {D : Type 0} {g : Ghosts D} (n : Node) (y : State) (old new : Engine D) (i k j : Coming) (first result : Result (Unit {0}) Refusal)
    → IsErr first → IsErr result → Goes g n y old new i k first → Goes g n y old new i j result
failed n y old new i k j (Ok x) result err e h = absurd cc
failed n y old new i k j (Err f) (Ok x) err e h = absurd cc
failed n y old new i k j (Err f) (Err r) err e h = record { holds = tt; either = h.either; leaves = h.leaves }

-- and so does one behind others
pub failed_then : {D : Type 0} {g : Ghosts D} (n : Node) (y : State) (old mid new : Engine D) (i k j : Coming) (result : Result (Unit {0}) Refusal) → IsErr result → k.next.super ≡ i.next.super
    → LeavesOnly (g.history old.disk) (g.history mid.disk) (MeansEither n i.next.super y) → LeavesOnly (g.history mid.disk) (g.history new.disk) (MeansEither n k.next.super y) → HoldsEither g n k.next.super y new
    → Goes g n y old new i j result
failed_then n y old mid new i k j (Ok x) err same before behind left = absurd cc
failed_then {D} {g} n y old mid new i k j (Err e) err same before behind left = record {
  holds = tt;
  either = subst (λ (b : SuperBody). HoldsEither g n b y new) same left;
  leaves = leaves_then (g.history old.disk) (g.history mid.disk) (g.history new.disk) before (subst (λ (b : SuperBody). LeavesOnly (g.history mid.disk) (g.history new.disk) (MeansEither n b y)) same behind) (λ image h. h);
}

-- one that is done goes on from it
pub done_then : {D : Type 0} {g : Ghosts D} (n : Node) (y : State) (old mid new : Engine D) (i k j : Coming) → k.next.super ≡ i.next.super
    → LeavesOnly (g.history old.disk) (g.history mid.disk) (MeansEither n i.next.super y) → LeavesOnly (g.history mid.disk) (g.history new.disk) (MeansEither n k.next.super y) → HoldsBoth g n y new j
    → Goes {T = Unit {0}} {E = Refusal} g n y old new i j (Ok tt)
done_then {D} {g} n y old mid new i k j same before behind holds = record {
  holds = holds;
  either = tt;
  leaves = leaves_then (g.history old.disk) (g.history mid.disk) (g.history new.disk) before (subst (λ (b : SuperBody). LeavesOnly (g.history mid.disk) (g.history new.disk) (MeansEither n b y)) same behind) (λ image h. h);
}

-- its gate is not yet open where its superblock was not stable
pub opens_filled : (part : Part) → IsDue part → (part ≡ SuperFilled → ⊥) → next_part part ≡ SuperOpening → ⊥
opens_filled Flushing due not e = cc
opens_filled Saving due not e = cc
opens_filled Ready due not e = cc
opens_filled SuperFilling due not e = cc
opens_filled SuperFilled due not e = not refl
opens_filled SuperOpening due not e = due

-- what is so of an engine is so of the one that it makes
nil_of : (uuid : List ℕ) → is_nil_bytes uuid ≡ true → IsNil uuid
nil_of uuid nil = (bytes_eq-Decides uuid zero_bytes).0 nil

pub engine_taken : (l : Layout) (c : Checkpoint) (log next : Log) (kept after : Kept) (block : List Judged) (i : Coming) → IsEngine l c log kept block → IsBeside c log block i → IsPruned i.next.super.position kept after
    → next ≡ restarted (i.next.super.position + 1) log → IsEngine l (found_at i.next.super true) next after block
engine_taken l c log next kept after block i h b pruned is =
    let p : ℕ = i.next.super.position in
    let none : length block ≡ 0 = ap length b.none in
    let idle : busy log.phase ≡ 0 = ap busy b.resting in
    subst (λ (k : Log). IsEngine l (found_at i.next.super true) k after block) (sym is) (record {
      checkpoint = record { is_super = b.coming.is_super; going = tt };
      layout = h.layout ∙ ap layout_of (sym b.coming.params);
      cells = h.cells ∙ ap (λ (s : Setting). s.cells) (sym b.coming.params);
      start = sym b.start;
      behind = omega arith;
      begun = omega arith;
      room = omega (arith, idle);
      items = omega arith;
      goal = tt;
      behind_goal = tt;
      follow = subst (SeqnosFrom (p + 1)) (sym b.none) tt;
      fits = h.fits;
      few = h.few;
      whole = h.whole;
      limit = omega (arith, none, b.coming.is_super.position);
      undefined = λ nil. absurd (b.coming.defined (nil_of i.next.super.uuid nil));
      within = λ key s version stands.
          let at = within_pruned c.base.position p (durable_of log + length block) kept after h.within pruned key s version stands in
          absurd (omega (arith, at.0, at.1, none, b.later));
    })

-- ---- where it begins

-- nothing waits for a log that is at work
rests_by : (phase : Phase) (block : List Judged) → block ≡ [] → IsWhole phase block → phase ≡ Resting
rests_by Resting block none whole = refl
rests_by Closing block none whole = absurd (omega (arith, ap length none, whole))
rests_by (Filling n) block none whole = absurd (omega (arith, ap length none, whole.all, whole.some))
rests_by (Filled n) block none whole = absurd (omega (arith, ap length none, whole.all, whole.some))
rests_by (Opening n) block none whole = absurd (omega (arith, ap length none, whole.all, whole.some))

module _ {D : Type 0} (old : Engine D) (engine : IsEngine old.layout old.checkpoint old.log old.kept old.block) (uuid : List ℕ) (position : ℕ) (v : Window) (off : old.checkpoint.stage ≡ Off) (b : CanBring old.checkpoint.base (durable_of old.log) uuid position v) where
  abbrev base : SuperBody
  base = old.checkpoint.base

  -- as many blocks as items: so its first cell is no later than its position
  started : old.log.next ≤ position
  started = by b.later
    where
      below : old.log.next < old.log.seqno
      below = omega (arith, engine.items, engine.start, engine.checkpoint.is_super.start)

      by : (durable_of old.log < position) ⊎ IsNil base.uuid → old.log.next ≤ position
      by (inl above) = omega (arith, below, above)
      by (inr nil) = omega (arith, below, (engine.undefined (nil_bytes base.uuid nil)).0)

  above_base : (durable_of old.log < position) ⊎ IsNil base.uuid → (base.position < position) ⊎ IsNil base.uuid
  above_base (inl above) = inl (omega (arith, above, engine.behind))
  above_base (inr nil) = inr nil

  pub can_by : WindowsGoOn → CanInstall old.checkpoint uuid position old.log.next v
  can_by law = record {
    off = off;
    sixteen = b.sixteen;
    defined = b.defined;
    cluster = b.cluster;
    later = above_base b.later;
    limit = b.limit;
    started = started;
    is_window = law.body base.params (base.number + 1) position v (omega (arith, engine.checkpoint.is_super.number, engine.checkpoint.is_super.position)) (omega (arith, b.limit)) b.window;
  }

  reaches : (durable_of old.log < position) ⊎ IsNil base.uuid → durable_of old.log ≤ position
  reaches (inl above) = omega (arith, above)
  reaches (inr nil) = omega (arith, (engine.undefined (nil_bytes base.uuid nil)).0)

  -- the snapshot, of which nothing is there yet, stands beside the engine
  pub begins_beside : old.block ≡ [] → (i : Coming) → i ≡ coming base uuid position old.log.next v → IsComing base i.next → IsBeside old.checkpoint old.log old.block i × (i.part ≡ Flushing)
  begins_beside none i is comes = (
    record {
      off = off;
      resting = rests_by old.log.phase old.block none engine.whole;
      none = none;
      coming = comes;
      start = ap (λ (k : Coming). k.next.super.start) is;
      later = subst (λ (k : Coming). durable_of old.log ≤ k.next.super.position) (sym is) (reaches b.later);
    },
    ap (λ (k : Coming). k.part) is,
  )

pub can_install : WindowsGoOn → {D : Type 0} (old : Engine D) → IsEngine old.layout old.checkpoint old.log old.kept old.block → (uuid : List ℕ) (position : ℕ) (v : Window) → old.checkpoint.stage ≡ Off → CanBring old.checkpoint.base (durable_of old.log) uuid position v
    → CanInstall old.checkpoint uuid position old.log.next v
can_install law old engine uuid position v off b = can_by old engine uuid position v off b law

pub begins_both : {D : Type 0} (g : Ghosts D) → InstallationsStandBeside → (old : Engine D) → IsEngine old.layout old.checkpoint old.log old.kept old.block → old.halted ≡ None
    → (uuid : List ℕ) (position : ℕ) (v : Window) → old.checkpoint.stage ≡ Off → old.block ≡ [] → CanBring old.checkpoint.base (durable_of old.log) uuid position v → BeginsToInstall old.checkpoint (coming old.checkpoint.base uuid position old.log.next v)
    → (n : Node) → Holds g n old → HoldsBoth g n (blank position v) old (coming old.checkpoint.base uuid position old.log.next v)
begins_both {D} g beside old engine runs uuid position v off none b begins n holds =
    let i = coming old.checkpoint.base uuid position old.log.next v in
    let there = holds.runs runs in
    let resting = rests_by old.log.phase old.block none engine.whole in
    record {
      is_honest = holds.is_honest;
      facts = holds.facts;
      node = holds.node;
      runs = λ on. record {
        states = there.states;
        assigns = there.assigns;
        blocks = there.blocks;
        sealed = there.sealed;
        installs = beside.begins n (length (stable (g.history old.disk))) old.checkpoint i old.log there.blocks there.sealed there.states off resting refl begins there.stands;
        versions = there.versions;
        gates = there.gates;
      };
      images = λ image here. inl (holds.images image here);
    }

-- ---- where it ends

-- given up while its pages come, it leaves the engine as it was
pub given_up : {D : Type 0} (g : Ghosts D) → InstallationsCanBeDropped → (n : Node) (y : State) (e : Engine D) (i : Coming) → i.part ≡ Flushing → HoldsBoth g n y e i → Holds g n e
given_up {D} g dropped n y e i flushing holds = record {
  is_honest = holds.is_honest;
  facts = holds.facts;
  node = holds.node;
  runs = λ on.
      let there = holds.runs on in
      record {
        states = there.states;
        assigns = there.assigns;
        blocks = there.blocks;
        sealed = there.sealed;
        stands = dropped n (length (stable (g.history e.disk))) e.checkpoint i y e.log there.blocks there.sealed there.states (there.installs.installation.cell ∙ ap (λ part. cell_in part (super_bytes i.next.super)) flushing) there.installs;
        versions = there.versions;
        gates = there.gates;
      };
  images = λ image here. front_alone n i.part image (λ opens. let never : Flushing ≡ SuperOpening = sym flushing ∙ opens in absurd cc) (holds.images image here);
}

-- behind the sync of its open gate the engine that goes on from it stands for the node that it makes
module _ {D : Type 0} (g : Ghosts D) (sized : (disk : D) → g.honest disk → length (stable (g.history disk)) ≡ g.size disk) (law : InstallationsLeaveTheOldOrTheNew) (beside : InstallationsStandBeside)
    (mid sync new : Engine D) (rest : OnlyAsks mid sync) (engine : IsEngine mid.layout mid.checkpoint mid.log mid.kept mid.block) (runs : mid.halted ≡ None)
    (n : Node) (y : State) (k : Coming) (holds : HoldsBoth g n y mid k) (result : Result (Unit {0}) Refusal) (call : Calls g mid.disk sync.disk (fault_of result)) (still : sync.halted ≡ halted_by mid.log.phase result)
    (settles : Settles g mid.layout mid.disk sync.disk (fault_of result)) (ok : IsOk result) (opening : k.part ≡ SuperOpening) (b : IsBeside mid.checkpoint mid.log mid.block k) (syncs : SyncsLog mid.log mid.log)
    (taken : IsTaken k sync new) (disk : new.disk ≡ sync.disk) (restarts : Restarts (k.next.super.position + 1) sync.log new.log) where
  log_same : sync.log ≡ mid.log
  log_same = ap (λ (e : Engine D). e.log) rest

  log_restarted : new.log ≡ restarted (k.next.super.position + 1) sync.log
  log_restarted = ap (λ (e : Engine D). e.log) taken.rest

  parts : new ≡ record mid { disk = sync.disk; checkpoint = found_at k.next.super true; log = new.log; kept = new.kept; halted = sync.halted }
  parts =
      let c : Checkpoint = found_at k.next.super true in
      taken.rest ∙ ap (λ (l : Log). record sync { disk = new.disk; checkpoint = c; log = l; kept = new.kept }) (sym log_restarted)
      ∙ ap (λ (d : D). record sync { disk = d; checkpoint = c; log = new.log; kept = new.kept }) disk
      ∙ ap (λ (e : Engine D). record e { disk = sync.disk; checkpoint = c; log = new.log; kept = new.kept }) rest

  pub took_place : InstallationsMakeTheNode → NodesLeaveTheirFronts → ImagesReadAsAllowed → VersionsFollowTheItems → Holds g (installed n k y) new
  took_place make fronts reads follow =
      subst (λ (e : Engine D). Holds g (installed n k y) e) (sym parts)
      (taken_holds g sized law beside mid sync.disk sync.halted engine runs n y k holds result settles call ok (still ∙ ok_runs mid.log.phase result ok) opening b syncs new.log (log_restarted ∙ ap (restarted (k.next.super.position + 1)) log_same)
      (subst (λ (l : Log). Restarts (k.next.super.position + 1) l new.log) log_same restarts) new.kept (subst (λ (v : Kept). IsPruned k.next.super.position v new.kept) (ap (λ (e : Engine D). e.kept) rest) taken.pruned) make fronts reads follow)

module _ {D : Type 0} (g : Ghosts D) (n : Node) (y : State) where
  -- where a step failed it didn't take the place
  pub not_taken : (old new : Engine D) (i k : Coming) (result : Result (Unit {0}) Refusal) → IsErr result → Goes g n y old new i k result → TakesPlace g n y i old new result
  not_taken old new i k (Ok x) err h = absurd cc
  not_taken old new i k (Err e) err h = record { holds = tt; either = h.either; leaves = h.leaves }

  -- where it was refused without a step
  pub still_both : (e : Engine D) (i : Coming) (r : Refusal) → HoldsBoth g n y e i → TakesPlace {T = Unit {0}} g n y i e e (Err r)
  still_both e i r h = record {
    holds = tt;
    either = record { is_honest = h.is_honest; images = λ image here. either n i.next.super y i.part image (h.images image here) };
    leaves = leaves_none (g.history e.disk) (g.history e.disk) refl;
  }

  -- the node that a snapshot of this superblock makes
  abbrev at : SuperBody → Node
  at b = record n { facts = record n.facts { uuid = b.uuid; base = b.position; durable = b.position; start = n.facts.next; stage = Retiring false }; base = y; items = [] }

  -- behind other steps
  pub takes_then : (old mid new : Engine D) (i k : Coming) (result : Result (Unit {0}) Refusal) → k.next.super ≡ i.next.super → LeavesOnly (g.history old.disk) (g.history mid.disk) (MeansEither n i.next.super y) → TakesPlace g n y k mid new result
      → TakesPlace g n y i old new result
  takes_then old mid new i k (Ok x) same before h = record {
    holds = subst (λ (b : SuperBody). Holds g (at b) new) same h.holds;
    either = tt;
    leaves = leaves_then (g.history old.disk) (g.history mid.disk) (g.history new.disk) before (subst (λ (b : SuperBody). LeavesOnly (g.history mid.disk) (g.history new.disk) (MeansEither n b y)) same h.leaves) (λ image m. m);
  }
  takes_then old mid new i k (Err e) same before h = record {
    holds = tt;
    either = subst (λ (b : SuperBody). HoldsEither g n b y new) same h.either;
    leaves = leaves_then (g.history old.disk) (g.history mid.disk) (g.history new.disk) before (subst (λ (b : SuperBody). LeavesOnly (g.history mid.disk) (g.history new.disk) (MeansEither n b y)) same h.leaves) (λ image m. m);
  }

-- ---- what is so where it was done, and where it failed

pub ok_by : {T : Type 0} (result : Result T Refusal) {P : Type 0} → (IsOk result → P) → OnOk result P
ok_by (Ok x) f = f refl
ok_by (Err e) f = tt

pub err_by : {T : Type 0} (result : Result T Refusal) {P : Refusal → Type 0} → ((e : Refusal) → result ≡ Err e → P e) → IfErr result P
err_by (Ok x) f = tt
err_by (Err e) f = f e refl

pub err_of : {T : Type 0} (result : Result T Refusal) {P : Type 0} (e : Refusal) → result ≡ Err e → OnErr result P → P
err_of {T} result {P} e is h = subst (λ (r : Result T Refusal). OnErr r P) is h
