-- What a part of a life leads to that began at a node of an order.
use Rattle.std.proofs.Common.{◌≡◌, ℕ, ◌+◌, ◌-◌, ◌≤◌, List, [], ◌∷◌, ◌++◌, length, map, take, drop, refl, sym, ap, subst, ◌∙◌, append-nil, append_assoc, arith, drop-drop, take-add}
use Rattle.std.proofs.lemmas.List.{map-append}
use Rattle.rep_types.specs.declared.item.Item.{Item}
use Rattle.rep_types.specs.declared.judged.Judged.{Judged}
use Rattle.rep_types.specs.declared.reply.Reply.{Reply}
use Rattle.rep_types.specs.Replies.{reply_of}
use Rattle.rep_types.specs.Settings.{Setting}
use Rattle.rep_types.specs.Order.{Order, history}
use Rattle.rep_disk.specs.declared.disk.Disk.{Ghosts}
use Rattle.rep_steps.specs.Standings.{Standing, delivered}
use Rattle.rep_steps.specs.Nodes.{Node}
use Rattle.rep_steps.specs.Orders.{IsOf, NodesHoldTheOrder}
use Rattle.rep_steps.specs.Runs.{accepted_by, RunsComeTo, RunsAnswerTheOrder}
use Rattle.rep_replica.specs.Replicas.{Replica, facts_of}
use Rattle.rep_replica.specs.Holding.{Holds}
use Rattle.rep_replica.specs.Episodes.{Episode, Runs, GivesUp, Brings, Breaks, IsStill, AreEpisodes, replies_of}
use Rattle.rep_follow.specs.Committing.{BringNothing, accepted_in, Follows}
use Rattle.rep_follow.specs.Joining.{KeepsTheOrder}

-- the replies from one position to another, and from there to a third, are those between the first and the last
replies_both : (js : List Judged) (d e f : ℕ) → d ≤ e → e ≤ f → map reply_of (take (e - d) (drop d js)) ++ map reply_of (take (f - e) (drop e js)) ≡ map reply_of (take (f - d) (drop d js))
replies_both js d e f one two =
    let at : e ≡ d + (e - d) = omega (arith, one) in
    let behind : drop e js ≡ drop (e - d) (drop d js) = ap (λ (k : ℕ). drop k js) at ∙ sym (drop-drop (e - d) d js) in
    let sum : (e - d) + (f - e) ≡ f - d = omega (arith, one, two) in
    ap (λ (rest : List Judged). map reply_of (take (e - d) (drop d js)) ++ map reply_of (take (f - e) rest)) behind
    ∙ sym (map-append reply_of (take (e - d) (drop d js)) (take (f - e) (drop (e - d) (drop d js))))
    ∙ ap (map reply_of) (sym (take-add (e - d) (f - e) (drop d js)) ∙ ap (λ k. take k (drop d js)) sum)

no_replies : (js : List Judged) (d : ℕ) → [] ≡ map reply_of (take (d - d) (drop d js))
no_replies js d = let none : d - d ≡ 0 = omega arith in sym (ap (λ k. map reply_of (take k (drop d js))) none)

module _ {D : Type 0} (g : Ghosts D) where
  -- where parts lead, and which replies they gave
  record Leads (L : Order) (items : List Item) (replies : List Reply) (n : Node) (new : Replica D) : Type 0 where
    node : Node
    holds : Holds g node new
    of : IsOf (L ++ items) node
    uuid_is : node.facts.uuid ≡ n.facts.uuid
    setting_is : node.facts.setting ≡ n.facts.setting
    rises : n.facts.durable ≤ node.facts.durable
    replied : (rest : Order) → replies ≡ map reply_of (take (node.facts.durable - n.facts.durable) (drop n.facts.durable (history n.facts.setting ((L ++ items) ++ rest))))

  still_of : (L : Order) (n m : Node) → IsStill n m → IsOf L n → IsOf L m
  still_of L n m still of = subst (IsOf L) (sym still) (record { within = of.within; base = of.base; items = of.items })

  -- from a node that differs from that one in its failures alone
  leads_still : (L : Order) (items : List Item) (replies : List Reply) (n m : Node) (new : Replica D) → IsStill n m → Leads L items replies m new → Leads L items replies n new
  leads_still L items replies n m new still leads =
      let uuid : m.facts.uuid ≡ n.facts.uuid = ap (λ (x : Node). x.facts.uuid) still in
      let setting : m.facts.setting ≡ n.facts.setting = ap (λ (x : Node). x.facts.setting) still in
      let durable : m.facts.durable ≡ n.facts.durable = ap (λ (x : Node). x.facts.durable) still in
      record {
        node = leads.node;
        holds = leads.holds;
        of = leads.of;
        uuid_is = leads.uuid_is ∙ uuid;
        setting_is = leads.setting_is ∙ setting;
        rises = subst (λ d. d ≤ leads.node.facts.durable) durable leads.rises;
        replied = λ rest.
            leads.replied rest ∙ ap (λ d. map reply_of (take (leads.node.facts.durable - d) (drop d (history m.facts.setting ((L ++ items) ++ rest))))) durable
            ∙ ap (λ (p : Setting). map reply_of (take (leads.node.facts.durable - n.facts.durable) (drop n.facts.durable (history p ((L ++ items) ++ rest))))) setting;
      }

  module _ (come : RunsComeTo) (answer : RunsAnswerTheOrder) where
    leads_by : (es : List (Episode D)) (old new : Replica D) → AreEpisodes g old es new → BringNothing es → (n : Node) (L : Order) → Holds g n old → IsOf L n → Leads L (accepted_in es) (replies_of es) n new
    leads_by [] old new same own n L holds of = record {
      node = n;
      holds = subst (Holds g n) same holds;
      of = subst (λ l. IsOf l n) (sym (append-nil L)) of;
      uuid_is = refl;
      setting_is = refl;
      rises = omega arith;
      replied = λ rest. no_replies (history n.facts.setting ((L ++ []) ++ rest)) n.facts.durable;
    }
    leads_by (Runs events answers to ∷ es) old new (ran, went) (count, own) n L holds of =
        let (m, on, held) = ran n holds in
        let accepted = accepted_by events answers in
        let one = come L n m events answers holds.node of on.runs in
        let two = leads_by es to new went own m (L ++ accepted) held one.order in
        record {
          node = two.node;
          holds = two.holds;
          of = subst (λ l. IsOf l two.node) (append_assoc L accepted (accepted_in es)) two.of;
          uuid_is = two.uuid_is ∙ one.uuid;
          setting_is = two.setting_is ∙ one.setting;
          rises = omega (arith, one.rises, two.rises);
          replied = λ rest.
              let whole = (L ++ (accepted ++ accepted_in es)) ++ rest in
              let parts : ((L ++ accepted) ++ accepted_in es) ++ rest ≡ whole = ap (λ l. l ++ rest) (append_assoc L accepted (accepted_in es)) in
              let first = (answer L (accepted_in es ++ rest) n m events answers holds.node of on.runs).replied ∙ ap (λ l. map reply_of (take (m.facts.durable - n.facts.durable) (drop n.facts.durable (history n.facts.setting l)))) (sym (append_assoc (L ++ accepted) (accepted_in es) rest) ∙ parts) in
              let then = two.replied rest ∙ ap (λ l. map reply_of (take (two.node.facts.durable - m.facts.durable) (drop m.facts.durable (history m.facts.setting l)))) parts
              ∙ ap (λ (p : Setting). map reply_of (take (two.node.facts.durable - m.facts.durable) (drop m.facts.durable (history p whole)))) one.setting in
              ap (λ rs. rs ++ replies_of es) first ∙ ap (λ rs. map reply_of (take (m.facts.durable - n.facts.durable) (drop n.facts.durable (history n.facts.setting whole))) ++ rs) then
              ∙ replies_both (history n.facts.setting whole) n.facts.durable m.facts.durable two.node.facts.durable one.rises two.rises;
        }
    leads_by (GivesUp to ∷ es) old new (gave, went) own n L holds of =
        let up = gave n holds in
        leads_still L (accepted_in es) (replies_of es) n up.node new up.still (leads_by es to new went own up.node L up.holds (still_of L n up.node up.still of))
    leads_by (Brings uuid y to ∷ es) old new went own n L holds of = absurd own
    leads_by (Breaks uuid y to ∷ es) old new went own n L holds of = absurd own

    pub keeps_the_order : NodesHoldTheOrder → (old new : Replica D) (items : List Item) (receipts : List Reply) → Follows g old new items receipts → (n : Node) (L : Order) → Holds g n old → IsOf L n → KeepsTheOrder g L items receipts n old new
    keeps_the_order hold old new items receipts follows n L holds of =
        let leads = leads_by follows.episodes old new follows.are follows.own n L holds of in
        let node = leads.node in
        let of_all : IsOf (L ++ items) node = subst (λ l. IsOf (L ++ l) node) follows.accepted leads.of in
        let began : n.facts.durable ≡ (facts_of g old).durable = ap (λ (s : Standing). s.durable) holds.facts in
        let ended : node.facts.durable ≡ (facts_of g new).durable = ap (λ (s : Standing). s.durable) leads.holds.facts in
        let count : node.facts.durable - n.facts.durable ≡ length receipts = omega (arith, began, ended, follows.durable.durable) in
        let all : delivered node.facts ≡ length (L ++ items) = (hold (L ++ items) node leads.holds.node of_all).count in
        record {
          node = node;
          holds = leads.holds;
          of = of_all;
          uuid_is = leads.uuid_is;
          setting_is = leads.setting_is;
          within = omega (arith, ended, all);
          replied = λ rest.
              sym follows.given ∙ leads.replied rest ∙ ap (λ k. map reply_of (take k (drop n.facts.durable (history n.facts.setting ((L ++ accepted_in follows.episodes) ++ rest))))) count
              ∙ ap (λ d. map reply_of (take (length receipts) (drop d (history n.facts.setting ((L ++ accepted_in follows.episodes) ++ rest))))) began
              ∙ ap (λ l. map reply_of (take (length receipts) (drop (facts_of g old).durable (history n.facts.setting ((L ++ l) ++ rest))))) follows.accepted;
        }
