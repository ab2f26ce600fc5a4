-- How a replica judges: as the node that it stands for.
use Rattle.std.proofs.Common.{◌≡◌, ◌+◌, ◌-◌, false, List, length, length-append, length-drop, sym, ap, ◌∙◌, arith}
use Rattle.std.proofs.lemmas.List.{take_all}
use Rattle.rep_types.specs.declared.judged.Judged.{Judged}
use Rattle.rep_types.specs.declared.item.Item.{Item}
use Rattle.rep_types.specs.Windows.{Window}
use Rattle.rep_types.specs.Settings.{Setting}
use Rattle.rep_types.specs.Order.{judge}
use Rattle.rep_disk.specs.declared.disk.Disk.{Ghosts}
use Rattle.rep_cert.specs.Holdings.{Holding, IsAskable, window_of, verdict_of}
use Rattle.rep_steps.specs.Standings.{Standing, delivered}
use Rattle.rep_steps.specs.Nodes.{Node, reached, window_at, verdict_for}
use Rattle.rep_recover.specs.Engines.{facts_of as engine_facts}
use Rattle.rep_replica.specs.Replicas.{Replica, facts_of, IsReplica}
use Rattle.rep_replica.specs.Holding.{Holds}

-- The certifier stands where the node does: it was handed as many items, has its window, and gives its verdicts.
pub record Judges {D : Type 0} (g : Ghosts D) (r : Replica D) (n : Node) : Type 0 where
  pub setting : r.certifier.current.setting ≡ n.facts.setting
  pub here : r.certifier.current.delivered ≡ delivered n.facts
  pub all : delivered n.facts ≡ n.base.position + length n.items
  pub present : window_of r.certifier.current r.certifier.current.delivered ≡ (reached n.facts.setting n.base n.items).kept
  pub verdict : (i : Item) → verdict_of r.certifier.current i ≡ verdict_for n i

module _ {D : Type 0} (g : Ghosts D) (r : Replica D) (running : r.stopped ≡ false) (is : IsReplica (engine_facts g r.engine) r.backlog r.certifier.current r.stopped)
    (n : Node) (holds : Holds g n r) where
  abbrev h : Holding
  h = r.certifier.current

  abbrev p : Setting
  p = n.facts.setting

  setting_is : h.setting ≡ p
  setting_is = is.setting ∙ sym (ap (λ (t : Standing). t.setting) holds.facts)

  count : h.delivered ≡ delivered (facts_of g r)
  count = let go = is.items running in omega (arith, go.count, length-append r.engine.block r.backlog)

  here : h.delivered ≡ delivered n.facts
  here = count ∙ sym (ap delivered holds.facts)

  all : delivered n.facts ≡ n.base.position + length n.items
  all =
      let rest : length n.facts.ahead ≡ length n.items - (n.facts.durable - n.facts.base) = ap length holds.node.ahead ∙ length-drop (n.facts.durable - n.facts.base) n.items in
      omega (arith, rest, holds.node.enough, holds.node.position, holds.node.facts.based)

  -- the certifier's window is the node's
  present : window_of h h.delivered ≡ (reached p n.base n.items).kept
  present =
      let on : IsAskable h h.delivered = record { made = omega (arith, is.askable.made, is.askable.past); near = omega arith; past = omega arith } in
      holds.windows h.delivered (omega (arith, here, all)) on ∙ ap (λ (xs : List Judged). (reached p n.base xs).kept) (take_all (h.delivered - n.base.position) n.items (omega (arith, here, all)))

  window_there : window_at n (delivered n.facts) ≡ (reached p n.base n.items).kept
  window_there = ap (λ (xs : List Judged). (reached p n.base xs).kept) (take_all (delivered n.facts - n.base.position) n.items (omega (arith, all)))

  verdict_is : (i : Item) → verdict_of h i ≡ verdict_for n i
  verdict_is i =
      ap (λ (x : Setting). judge x h.delivered (window_of h h.delivered) i) setting_is ∙ ap (λ k. judge p k (window_of h h.delivered) i) here
      ∙ ap (λ (v : Window). judge p (delivered n.facts) v i) (present ∙ sym window_there)

  pub judges_as : Judges g r n
  judges_as = record { setting = setting_is; here = here; all = all; present = present; verdict = verdict_is }
