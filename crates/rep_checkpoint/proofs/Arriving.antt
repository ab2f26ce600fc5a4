-- A node beside whose base a snapshot is installed, and the node that the snapshot makes.
use Rattle.std.proofs.Common.{◌≡◌, ◌≢◌, refl, sym, ap, subst, ◌∙◌, ℕ, ◌+◌, ◌-◌, true, List, [], length, take, arith}
use Rattle.std.proofs.lemmas.List.{drop_all}
use Rattle.std.proofs.lemmas.Slice.Eq.{bytes_eq-Decides}
use Rattle.std.proofs.Math.Seq.{take-nil}
use Rattle.std.specs.Prelude.{IsTrue}
use Rattle.uuid.specs.Parts.{is_nil_bytes, zero_bytes}
use Rattle.rep_types.specs.declared.judged.Judged.{Judged}
use Rattle.rep_types.specs.Settings.{Setting}
use Rattle.rep_types.specs.Order.{State}
use Rattle.rep_layout.specs.declared.place.Layout.{Layout}
use Rattle.rep_layout.specs.declared.place.Place.{Place}
use Rattle.rep_layout.specs.declared.place.Place.TheVariants.{Super, Window, Log as LogCell, Page}
use Rattle.rep_layout.specs.declared.place.Side.{Side}
use Rattle.rep_layout.specs.declared.place.Side.TheVariants.{A, B}
use Rattle.rep_layout.specs.Places.{side_of, layout_of}
use Rattle.rep_cells.specs.States.{States, Closed, Syncs}
use Rattle.rep_log.specs.declared.phase.Phase.{Phase}
use Rattle.rep_log.specs.declared.phase.Phase.TheVariants.{Resting}
use Rattle.rep_log.specs.Standing.{Standing as Log, LogIs}
use Rattle.rep_log.specs.Moves.{SyncsLog, Restarts, restarted, blocks_synced, synced_in, after_sync as log_after_sync}
use Rattle.rep_steps.specs.Standings.{claimed, underway}
use Rattle.rep_steps.specs.Nodes.{Node, IsNode}
use Rattle.rep_checkpoint.specs.declared.stage.Part.TheVariants.{SuperOpening}
use Rattle.rep_checkpoint.specs.declared.stage.Stage.{Stage}
use Rattle.rep_checkpoint.specs.declared.stage.Stage.TheVariants.{Off}
use Rattle.rep_checkpoint.specs.Standing.{Standing, spare_side}
use Rattle.rep_checkpoint.specs.Moves.{found_at}
use Rattle.rep_checkpoint.specs.States.{IsBase, StandsBeside, CheckpointIs}
use Rattle.rep_checkpoint.specs.Nodes.{StandsAs}
use Rattle.rep_checkpoint.specs.Coming.{Coming, settled}
use Rattle.rep_checkpoint.specs.Installing.{InstallationsSettle}
use Rattle.rep_checkpoint.specs.Arriving.{shut, InstallsAs, Arrives, installed, InstallationsMakeTheNode, InstallationsStandBeside}
use Rattle.rep_checkpoint.proofs.Apart.{checkpoint_apart}
use Rattle.rep_checkpoint.proofs.Frames.{base_as, super_apart}

-- ---- with a superblock's cell closed

-- that cell is
shut_closed : (s : States) (side : Side) → shut s side (Super side) ≡ Closed
shut_closed s A = refl
shut_closed s B = refl

-- and no other place has changed
shut_elsewhere : (s : States) (side : Side) (place : Place) → place ≢ Super side → shut s side place ≡ s place
shut_elsewhere s A (Super A) other = absurd (other refl)
shut_elsewhere s A (Super B) other = refl
shut_elsewhere s A (Window w) other = refl
shut_elsewhere s A (LogCell j) other = refl
shut_elsewhere s A (Page page slot) other = refl
shut_elsewhere s B (Super A) other = refl
shut_elsewhere s B (Super B) other = absurd (other refl)
shut_elsewhere s B (Window w) other = refl
shut_elsewhere s B (LogCell j) other = refl
shut_elsewhere s B (Page page slot) other = refl

-- so the log's cells have not
pub shut_log : (s : States) (side : Side) (j : ℕ) → shut s side (LogCell j) ≡ s (LogCell j)
shut_log s side j = shut_elsewhere s side (LogCell j) (λ e. cc)

-- a sync makes of these states what it makes of the others
shut_synced : (s t : States) (side : Side) → Syncs s t → Syncs (shut s side) (shut t side)
shut_synced s t A syncs (Super A) = refl
shut_synced s t A syncs (Super B) = syncs (Super B)
shut_synced s t A syncs (Window w) = syncs (Window w)
shut_synced s t A syncs (LogCell j) = syncs (LogCell j)
shut_synced s t A syncs (Page page slot) = syncs (Page page slot)
shut_synced s t B syncs (Super A) = syncs (Super A)
shut_synced s t B syncs (Super B) = refl
shut_synced s t B syncs (Window w) = syncs (Window w)
shut_synced s t B syncs (LogCell j) = syncs (LogCell j)
shut_synced s t B syncs (Page page slot) = syncs (Page page slot)

-- beside a base that stands there is then a checkpoint that is off
shut_checkpoint : (size : ℕ) (c : Standing) (x y : State) (s : States) → c.stage ≡ Off → IsBase size c.base x s → CheckpointIs size c x y (shut s (spare_side c.base))
shut_checkpoint size c x y s off is = record {
  base = base_as (shut_elsewhere s (spare_side c.base) (Super (side_of c.base.number)) (super_apart c.base)) (shut_elsewhere s (spare_side c.base) (Window (side_of c.base.number)) (λ e. cc))
      (λ number slot there. shut_elsewhere s (spare_side c.base) (Page number slot) (λ e. cc)) is;
  beside = subst (λ (stage : Stage). StandsBeside size c.base stage y (shut s (spare_side c.base))) (sym off) (shut_closed s (spare_side c.base));
}

-- ---- the node beside it

module _ (n : Node) (size : ℕ) (c : Standing) (log : Log) (blocks : List (List Judged)) (sealed : List Judged) (s t : States) (off : c.stage ≡ Off) (stands : StandsAs n size c log blocks sealed s) (base : IsBase size c.base n.base t) where
  -- it stands where its base and its log do
  stands_with : LogIs (layout_of c.base.params) log (c.base.position + 1) blocks sealed (shut t (spare_side c.base)) → StandsAs n size c log blocks sealed (shut t (spare_side c.base))
  stands_with log_is = search (shut_checkpoint size c n.base stands.goal t off base)

  -- as it does where no cell of the log has changed
  stands_on : ((j : ℕ) → t (LogCell j) ≡ s (LogCell j)) → StandsAs n size c log blocks sealed (shut t (spare_side c.base))
  stands_on same = stands_with (checkpoint_apart (layout_of c.base.params) log (c.base.position + 1) blocks sealed s (shut t (spare_side c.base)) (λ j. shut_log t (spare_side c.base) j ∙ same j) stands.log_is)

pub stand_beside : InstallationsStandBeside
stand_beside = record {
  begins = λ n size c i log blocks sealed s off resting start begins stands. record {
    off = off;
    stands = stands_on n size c log blocks sealed s s off stands stands.checkpoint.base (λ j. refl);
    resting = resting;
    start = start;
    installation = begins size s n.base stands.goal stands.checkpoint;
  };
  goes_on = λ n size c i k y z log blocks sealed s t same start is h. record {
    off = h.off;
    stands = stands_on n size c log blocks sealed (shut s (spare_side c.base)) t h.off h.stands is.stands (λ j. same j ∙ sym (shut_log s (spare_side c.base) j));
    resting = h.resting;
    start = start ∙ h.start;
    installation = is;
  };
}

-- ---- the node after a sync

-- a sync leaves a log that rests
rests : (log synced : Log) → log.phase ≡ Resting → synced ≡ log_after_sync log → synced ≡ log
rests log synced resting is = is ∙ ap (synced_in log) resting

-- and what it holds
holds : (l : Layout) (log : Log) (first : ℕ) (blocks : List (List Judged)) (sealed : List Judged) (s t : States) → log.phase ≡ Resting → SyncsLog log log → Syncs s t → LogIs l log first blocks sealed s → LogIs l log first blocks sealed t
holds l log first blocks sealed s t resting log_syncs syncs is =
    subst (λ (p : Phase). LogIs l log first (blocks_synced p blocks sealed) sealed t) resting (log_syncs l s t first blocks sealed syncs is)

module _ (settle : InstallationsSettle) (n : Node) (size : ℕ) (c : Standing) (i : Coming) (y : State) (log : Log) (blocks : List (List Judged)) (sealed : List Judged) (s t : States)
    (h : InstallsAs n size c i y log blocks sealed s) (syncs : Syncs s t) (log_syncs : SyncsLog log log) where
  abbrev first : ℕ
  first = c.base.position + 1

  -- the log stands as it did
  log_stands : LogIs (layout_of c.base.params) log first blocks sealed (shut t (spare_side c.base))
  log_stands = holds (layout_of c.base.params) log first blocks sealed (shut s (spare_side c.base)) (shut t (spare_side c.base)) h.resting log_syncs (shut_synced s t (spare_side c.base) syncs) h.stands.log_is

  -- the snapshot is further on, and the node as it was
  further : (i.part ≡ SuperOpening → ⊥) → InstallsAs n size c (settled i) y log blocks sealed t
  further closed =
      let there = settle.goes_on size c.base i n.base y s t closed syncs h.installation in
      record { off = h.off; stands = stands_with n size c log blocks sealed (shut s (spare_side c.base)) t h.off h.stands there.stands log_stands; resting = h.resting; start = h.start; installation = there }

  -- ---- where the gate of its superblock was opened

  module _ (next : Log) (opening : i.part ≡ SuperOpening) (is : IsNode n) (none : n.facts.ahead ≡ []) (next_is : next ≡ restarted (i.next.super.position + 1) log) (restarts : Restarts (i.next.super.position + 1) log next) where
    -- its node is of a cluster
    defined : IsTrue (is_nil_bytes i.next.super.uuid) → ⊥
    defined nil = h.installation.coming.defined ((bytes_eq-Decides i.next.super.uuid zero_bytes).0 nil)

    -- no block is on its way
    at_rest : n.facts.phase ≡ Resting
    at_rest = sym h.stands.phase ∙ h.resting

    -- facts and items agree: there is no item, and the log is empty
    is_node : IsNode (installed n i y)
    is_node = record {
      facts = record {
        allowed = is.facts.allowed;
        undefined = λ nil. absurd (defined nil);
        based = omega arith;
        near = is.facts.near;
        limit = omega (arith, ap length none, h.installation.coming.is_super.position);
        block = is.facts.block;
        few = is.facts.few;
        started = omega arith;
        room = omega (arith, ap claimed at_rest);
        goal = tt;
      };
      position = h.installation.position;
      enough = omega arith;
      ahead = none ∙ sym (drop_all (i.next.super.position - i.next.super.position) [] (omega arith));
    }

    -- the log is empty, and goes on behind the snapshot
    log_empty : LogIs (layout_of i.next.super.params) next (i.next.super.position + 1) [] [] t
    log_empty =
        let there = checkpoint_apart (layout_of c.base.params) log first blocks sealed (shut t (spare_side c.base)) t (λ j. sym (shut_log t (spare_side c.base) j)) log_stands in
        subst (λ (p : Setting). LogIs (layout_of p) next (i.next.super.position + 1) [] [] t) (sym h.installation.coming.params) (restarts (layout_of c.base.params) t first blocks sealed h.resting there)

    -- so the node that the snapshot makes stands on the device
    arrives : Arrives (installed n i y) size (found_at i.next.super true) next t
    arrives = record {
      node = is_node;
      stands = record {
        uuid = refl;
        setting = h.stands.setting ∙ sym h.installation.coming.params;
        goal = y;
        checkpoint = settle.ends size c.base i n.base y y s t opening syncs h.installation;
        toward = λ to part e. absurd cc;
        start = ap (λ (k : Log). k.start) next_is ∙ sym h.start;
        log_is = log_empty;
        phase = ap (λ (k : Log). k.phase) next_is ∙ h.stands.phase;
        durable = sym (take-nil (i.next.super.position - i.next.super.position));
        coming = sym (ap (take (underway n.facts.phase)) none ∙ take-nil (underway n.facts.phase));
        judged = tt;
        undefined = λ nil. absurd (h.installation.coming.defined nil);
      };
    }

pub make_the_node : InstallationsSettle → InstallationsMakeTheNode
make_the_node settle = record {
  goes_on = λ n size c i y log synced blocks sealed s t closed h syncs synced_is log_syncs.
      let same = rests log synced h.resting synced_is in
      subst (λ (k : Log). InstallsAs n size c (settled i) y k blocks sealed t) (sym same)
      (further settle n size c i y log blocks sealed s t h syncs (subst (SyncsLog log) same log_syncs) closed);
  ends = λ n size c i y log synced next blocks sealed s t opening is none h syncs synced_is log_syncs next_is restarts.
      let same = rests log synced h.resting synced_is in
      arrives settle n size c i y log blocks sealed s t h syncs (subst (SyncsLog log) same log_syncs) next opening is none
      (subst (λ (k : Log). next ≡ restarted (i.next.super.position + 1) k) same next_is) (subst (λ (k : Log). Restarts (i.next.super.position + 1) k next) same restarts);
}
