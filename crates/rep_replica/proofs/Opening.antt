-- A replica on what was opened stands for the node that opening makes.
use Rattle.std.proofs.Common.{◌≡◌, ℕ, false, List, [], append-nil, length, take, refl, sym, ap, subst, ◌∙◌, arith}
use Rattle.std.proofs.lemmas.List.{take_all, drop_all}
use Rattle.rep_types.specs.declared.judged.Judged.{Judged}
use Rattle.rep_disk.specs.declared.disk.Disk.{Ghosts}
use Rattle.rep_disk.specs.History.{History}
use Rattle.rep_cert.specs.Holdings.{Holdings}
use Rattle.rep_steps.specs.Standings.{Standing}
use Rattle.rep_steps.specs.Nodes.{Node}
use Rattle.rep_steps.specs.Parts.{with_ahead, part_of}
use Rattle.rep_steps.specs.Images.{OpensTheOrder}
use Rattle.rep_recover.specs.Engines.{Engine, facts_of as engine_facts}
use Rattle.rep_recover.specs.Holding.{Holds as EngineHolds}
use Rattle.rep_recover.specs.Starting.{IsStart, OpensNode, node_of}
use Rattle.rep_replica.specs.Replicas.{Replica, facts_of}
use Rattle.rep_replica.specs.Opening.{Opens}

module _ {D : Type 0} (g : Ghosts D) (size : ℕ) (old : History) (e : Engine D) (h : Holdings) (start : IsStart size e h.current) where
  pub opened_replica : OpensNode g old e h.current → Opens g old (record { engine = e; backlog = []; certifier = h; stopped = false })
  opened_replica o =
      let m = o.meaning in
      let n : Node = node_of g e o.gates m in
      let q = length m.tail in
      let r : Replica D = record { engine = e; backlog = []; certifier = h; stopped = false } in
      let facts : n.facts ≡ facts_of g r = o.holds.facts ∙ ap (λ (xs : List Judged). record (engine_facts g e) { ahead = xs }) (sym (append-nil e.block)) in
      let part : part_of e.block q n ≡ n =
      ap (λ (xs : List Judged). record n { facts = with_ahead xs n.facts; items = take q m.tail }) start.empty ∙ ap (λ (js : List Judged). record n { items = js }) (take_all q m.tail (omega arith)) in
      record {
        synced = o.synced;
        meaning = m;
        means = o.means;
        gates = o.gates;
        opens = subst (λ (s : Standing). OpensTheOrder s o.gates m) (ap (λ (xs : List Judged). record (engine_facts g e) { ahead = xs }) (sym (append-nil e.block))) o.opens;
        holds = record {
          running = refl;
          facts = facts;
          node = o.opens.node;
          judged = o.means.means.judged;
          taken = q;
          within = omega arith;
          engine = subst (λ (k : Node). EngineHolds g k e) (sym part) o.holds;
          waiting = sym (drop_all q m.tail (omega arith));
          windows = λ k above askable. o.windows k askable;
        };
      }
