-- A node after a sync.
use Rattle.std.proofs.Common.{◌≡◌, refl, sym, ap, subst, ◌∙◌, ℕ, ◌+◌, ◌-◌, ◌≤◌, inl, inr, true, false, List, [], ◌∷◌, ◌++◌, length, length-append, take, drop, arith}
use Rattle.std.specs.Prelude.{min, max}
use Rattle.std.proofs.lemmas.List.{length-take-le, take-append-le, drop-take, drop_all}
use Rattle.rep_types.specs.declared.judged.Judged.{Judged}
use Rattle.rep_types.specs.Settings.{Setting}
use Rattle.rep_types.specs.Order.{State}
use Rattle.rep_layout.specs.declared.super_body.SuperBody.{SuperBody}
use Rattle.rep_layout.specs.Places.{layout_of}
use Rattle.rep_layout.specs.Supers.{IsNil}
use Rattle.rep_cells.specs.States.{States, Syncs}
use Rattle.rep_log.specs.declared.phase.Phase.{Phase}
use Rattle.rep_log.specs.declared.phase.Phase.TheVariants.{Resting, Closing, Filling, Filled, Opening}
use Rattle.rep_log.specs.Tail.{seqno_after, records_of}
use Rattle.rep_log.specs.Standing.{Standing as Log, LogIs}
use Rattle.rep_log.specs.Laws.{MayHold}
use Rattle.rep_log.specs.Moves.{SyncsLog, StartsLater, started, blocks_synced, after_sync as log_after_sync}
use Rattle.rep_steps.specs.declared.event.Event.TheVariants.{Sync}
use Rattle.rep_steps.specs.Standings.{underway}
use Rattle.rep_steps.specs.Moves.{opening, taken, synced_phase, base_after}
use Rattle.rep_steps.specs.Nodes.{Node, IsNode, moved, passed, reached}
use Rattle.rep_steps.specs.Judging.{JudgingGoesOn}
use Rattle.rep_image.specs.Syncs.{left_sealed, TheSyncedLogIsTheFacts}
use Rattle.rep_checkpoint.specs.declared.stage.Part.{Part}
use Rattle.rep_checkpoint.specs.declared.stage.Part.TheVariants.{Flushing, Saving, Ready, SuperFilling, SuperFilled, SuperOpening}
use Rattle.rep_checkpoint.specs.declared.stage.Stage.{Stage}
use Rattle.rep_checkpoint.specs.declared.stage.Stage.TheVariants.{Off, Toward, Retiring}
use Rattle.rep_checkpoint.specs.Next.{Next}
use Rattle.rep_checkpoint.specs.Standing.{Standing, stage_of}
use Rattle.rep_checkpoint.specs.Moves.{after_sync}
use Rattle.rep_checkpoint.specs.States.{CheckpointIs}
use Rattle.rep_checkpoint.specs.Calls.{SyncsTo, synced_base}
use Rattle.rep_checkpoint.specs.Nodes.{IsLedTo, StandsAs, NodesSettle}
use Rattle.rep_checkpoint.proofs.Leaving.{seqno_counts, records_behind, to_base}

-- ---- the base after it

-- The base after a sync is one that the node's items lead to, and so is the next one where there still is one.
record Based (n : Node) (c after : Standing) (log : Log) (blocks : List (List Judged)) (goal : State) : Type 0 where
  led : IsLedTo n log blocks after.base (synced_base c n.base goal)
  uuid : after.base.uuid ≡ c.base.uuid
  params : after.base.params ≡ c.base.params
  position : base_after c.base.position (stage_of c) ≡ after.base.position
  still : (next : Next) (part : Part) → after.stage ≡ Toward next part → (led.past ≡ 0) × (led.cells ≡ 0) × IsLedTo n log blocks next.super goal

-- the next base of a stage
abbrev next_in : Next → Stage → Next
next_in none Off = none
next_in none (Toward next part) = next
next_in none (Retiring written) = none

module _ (n : Node) (size : ℕ) (log : Log) (blocks : List (List Judged)) (sealed : List Judged) (s : States) (h : IsNode n) where
  module _ (b : SuperBody) where
    abbrev at : Stage → Standing
    at stage = record { base = b; stage = stage }

    based : (stage : Stage) (stands : StandsAs n size (at stage) log blocks sealed s) → Based n (at stage) (after_sync (at stage)) log blocks stands.goal
    based Off stands = record { led = to_base n size (at Off) log blocks sealed s h stands; uuid = refl; params = refl; position = refl; still = λ next part e. absurd cc }
    based (Toward next Flushing) stands = record { led = to_base n size (at (Toward next Flushing)) log blocks sealed s h stands; uuid = refl; params = refl; position = refl; still = λ other part e. (refl, refl, stands.toward other part e) }
    based (Toward next Saving) stands = record { led = to_base n size (at (Toward next Saving)) log blocks sealed s h stands; uuid = refl; params = refl; position = refl; still = λ other part e. (refl, refl, subst (λ (k : Next). IsLedTo n log blocks k.super stands.goal) (ap (next_in next) e) (stands.toward next Saving refl)) }
    based (Toward next Ready) stands = record { led = to_base n size (at (Toward next Ready)) log blocks sealed s h stands; uuid = refl; params = refl; position = refl; still = λ other part e. (refl, refl, stands.toward other part e) }
    based (Toward next SuperFilling) stands = record { led = to_base n size (at (Toward next SuperFilling)) log blocks sealed s h stands; uuid = refl; params = refl; position = refl; still = λ other part e. (refl, refl, subst (λ (k : Next). IsLedTo n log blocks k.super stands.goal) (ap (next_in next) e) (stands.toward next SuperFilling refl)) }
    based (Toward next SuperFilled) stands = record { led = to_base n size (at (Toward next SuperFilled)) log blocks sealed s h stands; uuid = refl; params = refl; position = refl; still = λ other part e. (refl, refl, stands.toward other part e) }
    based (Toward next SuperOpening) stands = record { led = stands.toward next SuperOpening refl; uuid = stands.checkpoint.beside.follows.uuid; params = stands.checkpoint.beside.follows.params; position = refl; still = λ other part e. absurd cc }
    based (Retiring false) stands = record { led = to_base n size (at (Retiring false)) log blocks sealed s h stands; uuid = refl; params = refl; position = refl; still = λ next part e. absurd cc }
    based (Retiring true) stands = record { led = to_base n size (at (Retiring true)) log blocks sealed s h stands; uuid = refl; params = refl; position = refl; still = λ next part e. absurd cc }

-- ---- the log after it

-- the durable blocks come first in it
front_synced : (k : ℕ) (phase : Phase) (blocks : List (List Judged)) (sealed : List Judged) → k ≤ length blocks → take k (blocks_synced phase blocks sealed) ≡ take k blocks
front_synced k Resting blocks sealed le = refl
front_synced k Closing blocks sealed le = refl
front_synced k (Filling n) blocks sealed le = refl
front_synced k (Filled n) blocks sealed le = refl
front_synced k (Opening n) blocks sealed le = take-append-le k blocks (sealed ∷ []) le

more_synced : (phase : Phase) (blocks : List (List Judged)) (sealed : List Judged) → length blocks ≤ length (blocks_synced phase blocks sealed)
more_synced Resting blocks sealed = omega arith
more_synced Closing blocks sealed = omega arith
more_synced (Filling n) blocks sealed = omega arith
more_synced (Filled n) blocks sealed = omega arith
more_synced (Opening n) blocks sealed = omega (arith, length-append blocks (sealed ∷ []))

-- without a cluster it holds none
none_synced : (phase : Phase) (blocks : List (List Judged)) (sealed : List Judged) → ((held : List (List Judged)) → MayHold phase blocks sealed held → held ≡ [])
    → (k : ℕ) (held : List (List Judged)) → MayHold (synced_phase phase) (drop k (blocks_synced phase blocks sealed)) (left_sealed phase sealed) held → held ≡ []
none_synced phase blocks sealed none k held may = by phase none may
  where
    dropped : (bs : List (List Judged)) → bs ≡ [] → drop k bs ≡ []
    dropped bs e = ap (drop k) e ∙ drop_all k [] (omega arith)

    by : (phase : Phase) → ((held : List (List Judged)) → MayHold phase blocks sealed held → held ≡ []) → MayHold (synced_phase phase) (drop k (blocks_synced phase blocks sealed)) (left_sealed phase sealed) held → held ≡ []
    by Resting none (inl same) = same ∙ dropped blocks (none blocks (inl refl))
    by Closing none (inl same) = same ∙ dropped blocks (none blocks (inl refl))
    by (Filling n) none (inl same) = same ∙ dropped blocks (none blocks (inl refl))
    by (Filled n) none (inl same) = same ∙ dropped blocks (none blocks (inl refl))
    by (Opening n) none (inl same) = same ∙ dropped (blocks ++ sealed ∷ []) (none (blocks ++ sealed ∷ []) (inr (n, refl, refl)))
    by Resting none (inr more) = let e : Resting ≡ Opening more.0 = more.1 in absurd cc
    by Closing none (inr more) = let e : Resting ≡ Opening more.0 = more.1 in absurd cc
    by (Filling n) none (inr more) = let e : Filled n ≡ Opening more.0 = more.1 in absurd cc
    by (Filled n) none (inr more) = let e : Filled n ≡ Opening more.0 = more.1 in absurd cc
    by (Opening n) none (inr more) = let e : Resting ≡ Opening more.0 = more.1 in absurd cc

-- a log is started at a cell between its first and its next one
started_at : (start cells next : ℕ) → cells ≤ next - start → start ≤ next → max start (min (start + cells) next) ≡ start + cells
started_at start cells next le within = omega (arith, le, within)

-- ---- the node after it

module _ (goes : JudgingGoesOn) (facts : TheSyncedLogIsTheFacts) (n : Node) (size : ℕ) (c after : Standing) (log synced next : Log) (blocks : List (List Judged)) (sealed : List Judged) (s t : States)
    (h : IsNode n) (stage : n.facts.stage ≡ stage_of c) (stands : StandsAs n size c log blocks sealed s) (syncs : Syncs s t) (checkpoint_syncs : SyncsTo c after)
    (synced_is : synced ≡ log_after_sync log) (log_syncs : SyncsLog log synced) (next_is : next ≡ started after.base.start synced) (later : StartsLater synced next)
    (base : Based n c after log blocks stands.goal) where
  abbrev m : Node
  m = moved n Sync

  abbrev x : State
  x = synced_base c n.base stands.goal

  abbrev led : IsLedTo n log blocks after.base x
  led = base.led

  abbrev first : ℕ
  first = c.base.position + 1

  abbrev all : List (List Judged)
  all = blocks_synced log.phase blocks sealed

  abbrev coming : List Judged
  coming = left_sealed log.phase sealed

  at_base : n.facts.base ≡ c.base.position
  at_base = sym h.position ∙ stands.checkpoint.base.position

  position : base_after n.facts.base n.facts.stage ≡ after.base.position
  position = ap (base_after n.facts.base) stage ∙ ap (λ i. base_after i (stage_of c)) at_base ∙ base.position

  past_is : passed n.facts ≡ led.past
  past_is = omega (arith, position, led.position, h.position)

  base_is : m.base ≡ x
  base_is = ap (λ i. reached n.facts.setting n.base (take i n.items)) past_is ∙ sym led.state

  -- ---- the log

  at_start : synced.start ≡ log.start
  at_start = ap (λ (k : Log). k.start) synced_is ∙ facts.start log

  at_next : synced.next ≡ log.next + taken log.phase
  at_next = ap (λ (k : Log). k.next) synced_is ∙ facts.next log

  begun : next.start ≡ log.start + led.cells
  begun =
      ap (λ (k : Log). k.start) next_is ∙ ap (λ i. max i (min after.base.start synced.next)) at_start ∙ ap (λ i. max log.start (min i synced.next)) led.start
      ∙ started_at log.start led.cells synced.next (omega (arith, led.few, stands.log_is.next, at_next)) (omega (arith, stands.log_is.next, at_next))

  settled : LogIs (layout_of c.base.params) synced first all coming t
  settled =
      let held = log_syncs (layout_of c.base.params) s t first blocks sealed syncs stands.log_is in
      subst (λ (k : Log). LogIs (layout_of c.base.params) k first all coming t) (sym synced_is)
      (facts.stands (layout_of c.base.params) log first blocks sealed t (subst (λ (k : Log). LogIs (layout_of c.base.params) k first all sealed t) synced_is held))

  count : length (records_of (take led.cells all)) ≡ led.past
  count =
      ap (λ bs. length (records_of bs)) (front_synced led.cells log.phase blocks sealed led.few) ∙ ap length led.records
      ∙ length-take-le led.past n.items (omega (arith, led.position, led.within, h.enough, h.position))

  seqno : seqno_after first (take led.cells all) ≡ after.base.position + 1
  seqno = seqno_counts first (take led.cells all) ∙ omega (arith, count, led.position, stands.checkpoint.base.position)

  log_is : LogIs (layout_of after.base.params) next (after.base.position + 1) (drop led.cells all) coming t
  log_is =
      let started = later (layout_of c.base.params) t first all coming settled in
      let cells : next.start - synced.start ≡ led.cells = omega (arith, begun, at_start) in
      let behind = subst (λ i. LogIs (layout_of c.base.params) next (seqno_after first (take i all)) (drop i all) coming t) cells started in
      subst (λ (p : Setting). LogIs (layout_of p) next (after.base.position + 1) (drop led.cells all) coming t) (sym base.params)
      (subst (λ i. LogIs (layout_of c.base.params) next i (drop led.cells all) coming t) seqno behind)

  phase_is : next.phase ≡ m.facts.phase
  phase_is = ap (λ (k : Log). k.phase) next_is ∙ ap (λ (k : Log). k.phase) synced_is ∙ facts.phase log ∙ ap synced_phase stands.phase

  -- ---- the items

  coming_is : sealed ≡ take (underway log.phase) n.facts.ahead
  coming_is = stands.coming ∙ ap (λ p. take (underway p) n.facts.ahead) (sym stands.phase)

  held : records_of all ≡ take (n.facts.durable - n.facts.base + opening log.phase) n.items
  held = facts.durable log.phase blocks sealed n.items n.facts.ahead (n.facts.durable - n.facts.base) stands.durable h.ahead coming_is

  left : records_of (drop led.cells all) ≡ take (m.facts.durable - m.facts.base) m.items
  left =
      let far = n.facts.durable - n.facts.base + opening log.phase in
      let more = far - led.past in
      sym (records_behind led.cells all) ∙ ap (λ i. drop i (records_of all)) count ∙ ap (drop led.past) held
      ∙ ap (λ i. drop led.past (take i n.items)) (omega (arith, led.within, led.position, h.position)) ∙ drop-take led.past more n.items
      ∙ ap (λ i. take i (drop led.past n.items)) (omega (arith, led.within, led.position, h.position, position, ap opening stands.phase)) ∙ ap (λ i. take (m.facts.durable - m.facts.base) (drop i n.items)) (sym past_is)

  -- the next base, where there still is one
  toward : (to : Next) (part : Part) → after.stage ≡ Toward to part → IsLedTo m next (drop led.cells all) to.super stands.goal
  toward to part e =
      let is = base.still to part e in
      let old = is.2 in
      let none : passed n.facts ≡ 0 = past_is ∙ is.0 in
      let here : m.base ≡ n.base = ap (λ i. reached n.facts.setting n.base (take i n.items)) none in
      let items : m.items ≡ n.items = ap (λ i. drop i n.items) none in
      let blocks_are : drop led.cells all ≡ all = ap (λ i. drop i all) is.1 in
      record {
        past = old.past;
        position = omega (arith, old.position, ap (λ (y : State). y.position) here);
        within = omega (arith, old.within);
        state = old.state ∙ ap (λ (y : State). reached n.facts.setting y (take old.past n.items)) (sym here) ∙ ap (λ (js : List Judged). reached n.facts.setting m.base (take old.past js)) (sym items);
        cells = old.cells;
        start = omega (arith, old.start, begun, is.1);
        few = omega (arith, old.few, more_synced log.phase blocks sealed, ap length blocks_are);
        records =
            ap (λ bs. records_of (take old.cells bs)) blocks_are ∙ ap records_of (front_synced old.cells log.phase blocks sealed old.few) ∙ old.records ∙ ap (take old.past) (sym items);
      }

  stands_settled : StandsAs m size after next (drop led.cells all) coming t
  stands_settled = record {
    uuid = stands.uuid ∙ sym base.uuid;
    setting = stands.setting ∙ sym base.params;
    goal = stands.goal;
    checkpoint = subst (λ (y : State). CheckpointIs size after y stands.goal t) (sym base_is) (checkpoint_syncs size s t n.base stands.goal syncs stands.checkpoint);
    toward = toward;
    start = begun ∙ sym led.start;
    log_is = log_is;
    phase = phase_is;
    durable = left;
    coming = facts.coming log.phase sealed n.facts.ahead coming_is ∙ ap (λ p. take (underway (synced_phase p)) (drop (opening p) n.facts.ahead)) stands.phase;
    judged = goes.judged_behind n.facts.setting n.base (passed n.facts) n.items stands.judged;
    undefined = λ nil others may.
        let was : IsNil c.base.uuid = subst IsNil base.uuid nil in
        none_synced log.phase blocks sealed (stands.undefined was) led.cells others
        (subst (λ p. MayHold p (drop led.cells all) coming others) (phase_is ∙ ap synced_phase (sym stands.phase)) may);
  }

pub settle : JudgingGoesOn → TheSyncedLogIsTheFacts → NodesSettle
settle goes facts n size c after log synced next blocks sealed s t h stage stands syncs after_is checkpoint_syncs synced_is log_syncs next_is later =
    let base = subst (λ (a : Standing). Based n c a log blocks stands.goal) (sym after_is) (based n size log blocks sealed s h c.base c.stage stands) in (
      drop base.led.cells (blocks_synced log.phase blocks sealed),
      left_sealed log.phase sealed,
      stands_settled goes facts n size c after log synced next blocks sealed s t h stage stands syncs checkpoint_syncs synced_is log_syncs next_is later base,
    )
