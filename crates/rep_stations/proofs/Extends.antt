-- A node that went on by a legal history is of the order that the history extends.
use Rattle.std.proofs.Common.{◌≡◌, ◌⊎◌, inl, inr, ℕ, ◌+◌, ◌-◌, ◌≤◌, length-drop, List, [], ◌∷◌, ◌++◌, append_assoc, append-nil, length, take, drop, fold, refl, sym, ap, subst, ◌∙◌, arith}
use Rattle.std.proofs.lemmas.List.{take-append-drop, map-append, drop-map}
use Rattle.rep_types.specs.declared.judged.Judged.{Judged}
use Rattle.rep_types.specs.Settings.{Setting}
use Rattle.rep_types.specs.Verdicts.{StateIsEnough}
use Rattle.rep_types.specs.declared.key.Key.{Key}
use Rattle.rep_types.specs.declared.refusal.Refusal.{Refusal}
use Rattle.rep_types.specs.Order.{Order, State, items_of, state, history, joined, judged_next, read}
use Rattle.rep_disk.specs.declared.disk.Disk.{Ghosts}
use Rattle.rep_disk.specs.History.{IsImage}
use Rattle.rep_cert.specs.Holdings.{Holding}
use Rattle.rep_steps.specs.declared.event.Event.TheVariants.{Read}
use Rattle.rep_steps.specs.declared.answer.Answer.{Answer}
use Rattle.rep_steps.specs.declared.answer.Answer.TheVariants.{Row, Refused}
use Rattle.rep_steps.specs.Standings.{Standing}
use Rattle.rep_steps.specs.Nodes.{Node, Steps, advanced, reached}
use Rattle.rep_steps.specs.Orders.{IsOf, NodesHoldTheOrder, StepsFollowTheOrder}
use Rattle.rep_steps.specs.Images.{StandsFor, AreJudgedFrom, IsFrontOf, JudgedItemsExtendTheOrder, FrontsStandForTheOrder}
use Rattle.rep_image.specs.Meanings.{Means}
use Rattle.rep_steps.specs.Judging.{JudgingGoesOn}
use Rattle.rep_engine.specs.Engines.{Engine, durable_of}
use Rattle.rep_engine.specs.Holding.{Holds}
use Rattle.rep_stations.specs.Judging.{Legal}
use Rattle.rep_stations.specs.Taking.{GoesOn, StartsAs, HasTaken}
use Rattle.rep_stations.specs.Orders.{HistoriesExtendTheOrder}
use Rattle.rep_stations.proofs.Takes.{judged_there}
use Rattle.rep_stations.proofs.Closes.{judged_both}

-- ---- the items of a history

items_both : (js ks : List Judged) → items_of (js ++ ks) ≡ items_of js ++ items_of ks
items_both js ks = map-append (λ (j : Judged). j.item) js ks

items_joined : (p : Setting) (h : List Judged) (L : Order) → items_of (fold (joined p) h L) ≡ items_of h ++ L
items_joined p h [] = sym (append-nil (items_of h))
items_joined p h (i ∷ L) = items_joined p (joined p h i) L ∙ ap (λ (M : Order). M ++ L) (items_both h _) ∙ append_assoc (items_of h) (i ∷ []) L

-- the items that a node of an order has are the rest of it
own : (L : Order) (n : Node) → IsOf L n → take n.base.position L ++ items_of n.items ≡ L
own L n is =
    let p = n.facts.setting in
    let before = take n.base.position L in
    ap (λ (js : List Judged). before ++ items_of js) is.items ∙ ap (λ (N : Order). before ++ N) (sym (drop-map (λ (j : Judged). j.item) n.base.position (history p L)))
    ∙ ap (λ (N : Order). before ++ drop n.base.position N) (items_joined p [] L) ∙ take-append-drop n.base.position L

-- ---- the state after judged items

same_item : (j k : Judged) → j.seqno ≡ k.seqno → j.item ≡ k.item → j.verdict ≡ k.verdict → j ≡ k
same_item j k e f g = λ i. record { seqno = e i; item = f i; verdict = g i }

state_of : StateIsEnough → (p : Setting) (L : Order) (js : List Judged) → AreJudgedFrom p (state p L) js → reached p (state p L) js ≡ state p (L ++ items_of js)
state_of enough p L [] h = ap (state p) (sym (append-nil L))
state_of enough p L (j ∷ js) h =
    let S = state p L in
    let next : advanced p S j ≡ state p (L ++ j.item ∷ []) = ap (advanced p S) (same_item j (judged_next p S.position S.kept j.item) h.0 refl h.1) ∙ enough.states p L j.item in
    ap (λ (T : State). reached p T js) next ∙ state_of enough p (L ++ j.item ∷ []) js (subst (λ (T : State). AreJudgedFrom p T js) next h.2) ∙ ap (state p) (append_assoc L (j.item ∷ []) (items_of js))

-- ---- the node

module _ {D : Type 0} (g : Ghosts D) (goes : JudgingGoesOn) (extends : JudgedItemsExtendTheOrder) (enough : StateIsEnough) (L : Order) (n m : Node) (first : Engine D) (c : Holding) (items : List Judged)
    (is : IsOf L n) (start : StartsAs g first c n) (legal : Legal c items) (on : GoesOn n items m) where
  abbrev p : Setting
  p = n.facts.setting

  abbrev before : Order
  before = take n.base.position L

  abbrev all : List Judged
  all = n.items ++ items

  abbrev front : List Judged
  front = take on.past all

  abbrev back : List Judged
  back = drop on.past all

  abbrev M : Order
  M = before ++ items_of front

  abbrev K : Order
  K = L ++ items_of items

  all_judged : AreJudgedFrom p (state p before) all
  all_judged = subst (λ (S : State). AreJudgedFrom p S all) is.base (judged_both p n.base n.items items start.judged (judged_there g goes first c n start items legal))

  front_state : reached p (state p before) front ≡ state p M
  front_state = state_of enough p before front (goes.judged_front p (state p before) on.past all all_judged)

  base_is : m.base ≡ state p M
  base_is = on.base ∙ ap (λ (S : State). reached p S front) is.base ∙ front_state

  back_judged : AreJudgedFrom p (state p M) back
  back_judged = subst (λ (S : State). AreJudgedFrom p S back) front_state (goes.judged_behind p (state p before) on.past all all_judged)

  at : m.base.position ≡ length M
  at = ap (λ (S : State). S.position) base_is

  whole : M ++ items_of back ≡ K
  whole =
      append_assoc before (items_of front) (items_of back) ∙ ap (λ (N : Order). before ++ N) (sym (items_both front back) ∙ ap items_of (take-append-drop on.past all) ∙ items_both n.items items)
      ∙ sym (append_assoc before (items_of n.items) (items_of items)) ∙ ap (λ (N : Order). N ++ items_of items) (own L n is)

  pub of_order : IsOf K m
  of_order =
      let there = extends.extend n.facts.uuid p M back back_judged in
      record {
        within = subst (λ (N : Order). m.base.position ≤ length N) whole (omega (arith, at, there.within));
        base =
            base_is ∙ there.base_is ∙ ap (λ (N : Order). state p (take (length M) N)) whole ∙ ap (λ i. state p (take i K)) (sym at)
            ∙ ap (λ (q : Setting). state q (take m.base.position K)) (sym on.setting);
        items =
            on.rest ∙ there.tail_is ∙ ap (λ (N : Order). drop (length M) (history p N)) whole ∙ ap (λ i. drop i (history p K)) (sym at)
            ∙ ap (λ (q : Setting). drop m.base.position (history q K)) (sym on.setting);
      }

-- ---- the history

module _ {D : Type 0} (g : Ghosts D) (goes : JudgingGoesOn) (extends : JudgedItemsExtendTheOrder) (enough : StateIsEnough) (L : Order) (n : Node) (first : Engine D) (c : Holding) (items : List Judged)
    (is : IsOf L n) (start : StartsAs g first c n) (legal : Legal c items) where
  -- the state to which the node came is the order's
  came_is : reached n.facts.setting n.base n.items ≡ state n.facts.setting L
  came_is =
      let p = n.facts.setting in
      let before = take n.base.position L in
      ap (λ (S : State). reached p S n.items) is.base ∙ state_of enough p before n.items (subst (λ (S : State). AreJudgedFrom p S n.items) is.base start.judged) ∙ ap (state p) (own L n is)

  pub entries_are : items ≡ drop (length L) (history c.setting (L ++ items_of items))
  entries_are =
      let p = n.facts.setting in
      let judged : AreJudgedFrom p (state p L) items = subst (λ (S : State). AreJudgedFrom p S items) came_is (judged_there g goes first c n start items legal) in
      (extends.extend n.facts.uuid p L items judged).tail_is ∙ ap (λ (q : Setting). drop (length L) (history q (L ++ items_of items))) start.setting

  module _ (e : Engine D) (taken : HasTaken g first c items e) where
    abbrev longer : Order
    longer = L ++ items_of items

    abbrev there : (m : Node) × GoesOn n items m × Holds g m e
    there = taken.stands n start

    abbrev here : Node
    here = there.0

    of_longer : IsOf longer here
    of_longer = of_order g goes extends enough L n here first c items is start legal there.1

    same_setting : here.facts.setting ≡ c.setting
    same_setting = there.1.setting ∙ start.setting

    pub image_stands : NodesHoldTheOrder → FrontsStandForTheOrder → (image : List ℕ) → IsImage (g.history e.disk) image → IsFrontOf Means e.checkpoint.base.uuid c.setting longer (durable_of e.log) image
    image_stands hold fronts image is_image =
        let node = there.2.node in
        let f = there.2.images image is_image in
        let rest = ap length node.ahead ∙ length-drop (here.facts.durable - here.facts.base) here.items in
        let whole : here.base.position + length here.items ≡ length longer = omega (arith, (hold longer here node of_longer).count, rest, node.enough, node.position, node.facts.based) in
        record {
          meaning = f.meaning;
          reads = f.reads;
          end = f.end;
          least = omega (arith, f.least, ap (λ (s : Standing). s.durable) there.2.facts);
          most = omega (arith, f.front.within, whole);
          stands =
              subst (λ (u : List ℕ). StandsFor u c.setting (take f.end longer) f.meaning) (ap (λ (s : Standing). s.uuid) there.2.facts)
              (subst (λ (p : Setting). StandsFor here.facts.uuid p (take f.end longer) f.meaning) same_setting (fronts longer here f.end f.meaning node of_longer f.front));
        }

    pub row_is : StepsFollowTheOrder → (new : Engine D) (key : Key) (s : ℕ) (a : Answer) → ((k : Node) → Holds g k e → (t : Node) × Steps k (Read key s) a t × Holds g t new)
        → ((r : Refusal) × (a ≡ Refused r)) ⊎ (a ≡ Row (read c.setting longer key s))
    row_is follow new key s a steps =
        let to = steps here there.2 in
        elim ((follow longer here to.0 (Read key s) a there.2.node of_longer to.1).answered) [ inl refused ↦ inl refused | inr is_row ↦ inr (is_row ∙ ap (λ (p : Setting). Row (read p longer key s)) same_setting) ]

pub histories_extend : {D : Type 0} (g : Ghosts D) → JudgingGoesOn → JudgedItemsExtendTheOrder → StateIsEnough → NodesHoldTheOrder → FrontsStandForTheOrder → StepsFollowTheOrder
    → HistoriesExtendTheOrder g
histories_extend g goes extends enough hold fronts follow = record {
  entries = λ L n first c items is start legal. entries_are g goes extends enough L n first c items is start legal;
  node = λ L n m first c items is start legal on. of_order g goes extends enough L n m first c items is start legal on;
  images = λ L n first e c items is start legal taken. image_stands g goes extends enough L n first c items is start legal e taken hold fronts;
  rows = λ L n first e c items is start legal taken. row_is g goes extends enough L n first c items is start legal e taken follow;
}
