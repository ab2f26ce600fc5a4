-- Steps of a node of an order.
use Rattle.std.proofs.Common.{◌≡◌, ℕ, ◌+◌, ◌-◌, ◌≤◌, ◌⊎◌, inl, inr, Bool, true, false, [], ◌∷◌, ◌++◌, length, map, take, drop, Option, None, Some, refl, sym, ap, subst, ◌∙◌, arith, length-append, append-nil}
use Rattle.std.specs.Prelude.{MatchOption, if◌then◌else◌}
use Rattle.std.proofs.lemmas.Bool.Decides.{nat_tests}
use Rattle.std.proofs.lemmas.List.{length-drop, length-take-le, drop-append-le, take-append-le, take_all, drop-drop}
use Rattle.rep_types.specs.declared.judged.Judged.{Judged}
use Rattle.rep_types.specs.declared.key.Key.{Key}
use Rattle.rep_types.specs.declared.verdict.Verdict.{Verdict}
use Rattle.rep_types.specs.declared.refusal.Refusal.{Refusal}
use Rattle.rep_types.specs.declared.refusal.Refusal.TheVariants.{Stopped, OutOfMemory, DiskFault}
use Rattle.rep_types.specs.Replies.{reply_of}
use Rattle.rep_types.specs.declared.item.Item.{Item}
use Rattle.rep_types.specs.declared.item.Item.TheVariants.{WriteSet}
use Rattle.rep_types.specs.Settings.{Setting}
use Rattle.rep_types.specs.Order.{Order, State, verdict, history, state, read, judge}
use Rattle.rep_log.specs.Fronts.{FrontsAreDetermined}
use Rattle.rep_steps.specs.declared.event.Event.{Event}
use Rattle.rep_steps.specs.declared.event.Event.TheVariants.{Deliver, SetWindow, Log, Sync, Check, Flush, Read}
use Rattle.rep_steps.specs.declared.answer.Answer.{Answer}
use Rattle.rep_steps.specs.declared.answer.Answer.TheVariants.{Gave, Synced, Row, Refused}
use Rattle.rep_steps.specs.Events.{change}
use Rattle.rep_steps.specs.Standings.{Standing, delivered, refusal, refusal_here, read_refusal}
use Rattle.rep_steps.specs.Moves.{answer, opening, next_item, Fails}
use Rattle.rep_steps.specs.Nodes.{Node, IsNode, Steps, NodesStayNodes, NodesOutlastFailures, moved, found, passed, state_at, window_at, verdict_for, delivered_to, reached}
use Rattle.rep_steps.specs.Orders.{IsOf, HoldsOf, FollowsTheOrder, accepted, answer_of}
use Rattle.rep_steps.proofs.Reaching.{OrderLaws, reached_is, judged_next}
use Rattle.rep_steps.proofs.Keeping.{node_after, stands_with, waiting, passed_within}

-- ---- what a node of an order holds

module _ (laws : OrderLaws) (L : Order) (n : Node) (h : IsNode n) (o : IsOf L n) where
  abbrev pub p : Setting
  p = n.facts.setting

  -- as many items behind the base as the order has
  pub count_behind : n.base.position + length n.items ≡ length L
  count_behind = omega (arith, ap length o.items, length-drop n.base.position (history p L), laws.items.as_many p L, o.within)

  pub count : delivered n.facts ≡ length L
  count = omega (arith, waiting n h, count_behind, h.position)

  -- the state at a position is the order's
  pub state_is : (k : ℕ) → n.base.position ≤ k → k ≤ length L → state_at n k ≡ state p (take k L)
  state_is k le within =
      ap (λ (S : State). reached p S (take (k - n.base.position) n.items)) o.base
      ∙ ap (λ js. reached p (state p (take n.base.position L)) (take (k - n.base.position) js)) o.items
      ∙ reached_is laws p L n.base.position (k - n.base.position) (omega (arith, le, within)) ∙ ap (λ i. state p (take i L)) (omega (arith, le))

  pub holds_of : HoldsOf L n
  holds_of = record { count = count; window = λ k le within. ap (λ (S : State). S.kept) (state_is k le within); state = state_is }

  -- the state of the whole order
  whole_is : state_at n (delivered n.facts) ≡ state p L
  whole_is = state_is (delivered n.facts) (omega (arith, count, o.within)) (omega (arith, count)) ∙ ap (λ (M : Order). state p M) (take_all (delivered n.facts) L (omega (arith, count)))

  -- the verdict that it finds is the order's
  pub verdict_is : (i : Item) → verdict_for n i ≡ verdict p (L ++ i ∷ []) (length L + 1)
  verdict_is i =
      ap (λ k. judge p k (window_at n (delivered n.facts)) i) count ∙ ap (λ (S : State). judge p (length L) S.kept i) whole_is ∙ judged_next laws p L i

  -- the items that aren't durable
  pub ahead_is : n.facts.ahead ≡ drop n.facts.durable (history p L)
  ahead_is =
      h.ahead ∙ ap (drop (n.facts.durable - n.facts.base)) o.items ∙ drop-drop (n.facts.durable - n.facts.base) n.base.position (history p L)
      ∙ ap (λ k. drop k (history p L)) (omega (arith, h.position, h.facts.based))

  -- a read that isn't refused
  pub row_is : (key : Key) (at : ℕ) → read_refusal n.facts key at ≡ None → (state_at n at).content key ≡ read p L key at
  row_is key at none =
      let above : n.facts.base ≤ at = grind (arith, nat_tests) in
      let below : at ≤ n.facts.durable = grind (arith, nat_tests) in
      ap (λ (S : State). S.content key) (state_is at (omega (arith, above, h.position)) (omega (arith, below, count)))

  -- ---- what an event makes of it

  delivered_is : (i : Item) → IsOf (L ++ i ∷ []) (delivered_to n i)
  delivered_is i = record {
    within = omega (arith, o.within, length-append L (i ∷ []));
    base = o.base ∙ ap (state p) (sym (take-append-le n.base.position L (i ∷ []) o.within));
    items =
        let made : ℕ → Verdict → Judged = λ k v. record { seqno = k + 1; item = i; verdict = v } in
        ap (λ js. js ++ next_item n.facts i (verdict_for n i) ∷ []) o.items
        ∙ ap (λ v. drop n.base.position (history p L) ++ made (delivered n.facts) v ∷ []) (verdict_is i)
        ∙ ap (λ k. drop n.base.position (history p L) ++ made k (verdict p (L ++ i ∷ []) (length L + 1)) ∷ []) count
        ∙ sym (drop-append-le n.base.position (history p L) (made (length L) (verdict p (L ++ i ∷ []) (length L + 1)) ∷ []) (omega (arith, o.within, laws.items.as_many p L)))
        ∙ ap (drop n.base.position) (sym (laws.items.one_more p L (i)));
  }

  synced_is : IsOf L (moved n Sync)
  synced_is =
      let far : n.base.position + passed n.facts ≤ length L = omega (arith, passed_within n h, count_behind) in
      let base : reached p n.base (take (passed n.facts) n.items) ≡ state p (take (n.base.position + passed n.facts) L) =
      ap (λ (S : State). reached p S (take (passed n.facts) n.items)) o.base ∙ ap (λ js. reached p (state p (take n.base.position L)) (take (passed n.facts) js)) o.items
      ∙ reached_is laws p L n.base.position (passed n.facts) far in
      let at : (reached p n.base (take (passed n.facts) n.items)).position ≡ n.base.position + passed n.facts =
      ap (λ (S : State). S.position) base ∙ length-take-le (n.base.position + passed n.facts) L far in
      record {
        within = omega (arith, at, far);
        base = base ∙ ap (λ k. state p (take k L)) (sym at);
        items = ap (drop (passed n.facts)) o.items ∙ drop-drop (passed n.facts) n.base.position (history p L) ∙ ap (λ k. drop k (history p L)) (sym at);
      }

  pub of_after : (e : Event) → IsOf (L ++ accepted e (answer n.facts e (found n e))) (moved n e)
  of_after (Deliver seqno w) = delivered_is (WriteSet w)
  of_after (SetWindow seqno size source trx) = delivered_is (change size source trx)
  of_after Log = rw (append-nil L) (record { within = o.within; base = o.base; items = o.items })
  of_after Sync = rw (append-nil L) synced_is
  of_after Check = rw (append-nil L) (record { within = o.within; base = o.base; items = o.items })
  of_after (Flush page) = rw (append-nil L) (record { within = o.within; base = o.base; items = o.items })
  of_after (Read key at) = rw (append-nil L) o

  pub answers : (e : Event) → refusal_here n.facts e ≡ None → answer n.facts e (found n e) ≡ answer_of L n.facts e
  answers (Deliver seqno w) none = ap Gave (verdict_is (WriteSet w))
  answers (SetWindow seqno size source trx) none = ap Gave (verdict_is (change size source trx))
  answers Log none = refl
  answers Sync none = ap (λ js. Synced (map reply_of (take (opening n.facts.phase) js))) ahead_is
  answers Check none = refl
  answers (Flush page) none = refl
  answers (Read key at) none = ap Row (row_is key at none)

-- ---- a step

-- what is refused delivers nothing
pub nothing_comes : (L : Order) (e : Event) (r : Refusal) → L ++ accepted e (Refused r) ≡ L
nothing_comes L (Deliver seqno w) r = append-nil L
nothing_comes L (SetWindow seqno size source trx) r = append-nil L
nothing_comes L Log r = append-nil L
nothing_comes L Sync r = append-nil L
nothing_comes L Check r = append-nil L
nothing_comes L (Flush page) r = append-nil L
nothing_comes L (Read key at) r = append-nil L

-- and changes nothing
refused_of : (L : Order) (n : Node) (e : Event) (r : Refusal) → IsNode n → IsOf L n → FollowsTheOrder L n e (Refused r) n
refused_of L n e r h o = record { node = h; order = rw (nothing_comes L e r) o; answered = inl (r, refl) }

-- a step that was refused by none
done_of : OrderLaws → FrontsAreDetermined → (L : Order) (n : Node) (e : Event) → IsNode n → IsOf L n → refusal_here n.facts e ≡ None
    → FollowsTheOrder L n e (answer n.facts e (found n e)) (moved n e)
done_of laws fronts L n e h o none = record { node = node_after fronts n e h none; order = of_after laws L n h o e; answered = inr (answers laws L n h o e none) }

-- the facts of a replica that the device stopped
abbrev pub stopped_at : ℕ → Standing → Standing
stopped_at failures s = record s { failures = failures; stopped = true }

abbrev pub stopped_node : ℕ → Node → Node
stopped_node failures n = record n { facts = stopped_at failures n.facts }

stopped_is : (failures : ℕ) (n : Node) → IsNode n → IsNode (stopped_node failures n)
stopped_is failures n h = record { facts = stands_with failures true n.facts.stage n.facts h.facts h.facts.goal; position = h.position; enough = h.enough; ahead = h.ahead }

stopped_of : (failures : ℕ) (L : Order) (n : Node) (e : Event) (r : Refusal) → IsNode n → IsOf L n → FollowsTheOrder L n e (Refused r) (stopped_node failures n)
stopped_of failures L n e r h o = record {
  node = stopped_is failures n h;
  order = rw (nothing_comes L e r) (record { within = o.within; base = o.base; items = o.items });
  answered = inl (r, refl);
}

pub outlasts : NodesOutlastFailures
outlasts failures n h = record {
  facts = stands_with failures n.facts.stopped n.facts.stage n.facts h.facts h.facts.goal;
  position = h.position;
  enough = h.enough;
  ahead = h.ahead;
}

-- a step was refused, stopped the replica, or did what the node does
pub data Comes (n : Node) (e : Event) (a : Answer) (m : Node) : Type 0 where
  Refuses : (r : Refusal) → a ≡ Refused r → m ≡ n → Comes n e a m
  Stops : (failures : ℕ) → a ≡ Refused DiskFault → m ≡ stopped_node failures n → Comes n e a m
  Does : refusal_here n.facts e ≡ None → a ≡ answer n.facts e (found n e) → m ≡ moved n e → Comes n e a m

unstopped : (b : Bool) (o : Option Refusal) → (if b then Some Stopped else o) ≡ None → o ≡ None
unstopped true o e = absurd cc
unstopped false o e = e

fails : (n m : Node) (e : Event) (a : Answer) → Fails n.facts e a m.facts → m ≡ record n { facts = m.facts } → Comes n e a m
fails n m e a (inl f) same = Refuses OutOfMemory f.1 (same ∙ ap (λ (s : Standing). record n { facts = s }) f.2)
fails n m e a (inr f) same = Stops m.facts.failures f.1 (same ∙ ap (λ (s : Standing). record n { facts = s }) f.3)

comes_by : (o : Option Refusal) (n m : Node) (e : Event) (a : Answer) → refusal n.facts e ≡ o
    → MatchOption o (((a ≡ answer n.facts e (found n e)) × (m ≡ moved n e)) ⊎ (Fails n.facts e a m.facts × (m ≡ record n { facts = m.facts }))) (λ r. (a ≡ Refused r) × (m ≡ n))
    → Comes n e a m
comes_by None n m e a none (inl d) = Does (unstopped n.facts.stopped (refusal_here n.facts e) none) d.0 d.1
comes_by None n m e a none (inr f) = fails n m e a f.0 f.1
comes_by (Some r) n m e a some s = Refuses r s.0 s.1

pub comes : (n m : Node) (e : Event) (a : Answer) → Steps n e a m → Comes n e a m
comes n m e a s = comes_by (refusal n.facts e) n m e a refl s

-- so it follows the order
pub follows : OrderLaws → FrontsAreDetermined → (L : Order) (n m : Node) (e : Event) (a : Answer) → IsNode n → IsOf L n → Comes n e a m → FollowsTheOrder L n e a m
follows laws fronts L n m e a h o (Refuses r answered same) =
    subst (λ k. FollowsTheOrder L n e a k) (sym same) (subst (λ b. FollowsTheOrder L n e b n) (sym answered) (refused_of L n e r h o))
follows laws fronts L n m e a h o (Stops failures answered same) =
    subst (λ k. FollowsTheOrder L n e a k) (sym same) (subst (λ b. FollowsTheOrder L n e b (stopped_node failures n)) (sym answered) (stopped_of failures L n e DiskFault h o))
follows laws fronts L n m e a h o (Does none answered same) =
    subst (λ k. FollowsTheOrder L n e a k) (sym same) (subst (λ b. FollowsTheOrder L n e b (moved n e)) (sym answered) (done_of laws fronts L n e h o none))

-- whatever it leads to is a node
stays : FrontsAreDetermined → (n m : Node) (e : Event) (a : Answer) → IsNode n → Comes n e a m → IsNode m
stays fronts n m e a h (Refuses r answered same) = subst IsNode (sym same) h
stays fronts n m e a h (Stops failures answered same) = subst IsNode (sym same) (stopped_is failures n h)
stays fronts n m e a h (Does none answered same) = subst IsNode (sym same) (node_after fronts n e h none)

pub nodes_stay : FrontsAreDetermined → NodesStayNodes
nodes_stay fronts n m e a h s = stays fronts n m e a h (comes n m e a s)
