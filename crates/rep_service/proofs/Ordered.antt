-- What is said is what the order says.
use Rattle.std.proofs.Common.{◌≡◌, ℕ, ◌+◌, ◌≤◌, Bool, true, false, List, [], ◌∷◌, ◌++◌, length, map, take, drop, Option, None, Some, refl, sym, ap, subst, ◌∙◌, append-nil, append_assoc, length-append, drop-drop, arith}
use Rattle.std.specs.Prelude.{nat_lt, if◌then◌else◌, Ok, Err, IfSome}
use Rattle.std.proofs.Math.Seq.{take-append-le}
use Rattle.std.proofs.lemmas.Bool.{ltb-false}
use Rattle.uuid.specs.Parts.{is_nil_bytes}
use Rattle.rep_types.specs.declared.key.Key.{Key}
use Rattle.rep_types.specs.declared.item.Item.{Item}
use Rattle.rep_types.specs.declared.judged.Judged.{Judged}
use Rattle.rep_types.specs.declared.reply.Reply.{Reply}
use Rattle.rep_types.specs.declared.refusal.Refusal.{Refusal}
use Rattle.rep_types.specs.declared.refusal.Refusal.TheVariants.{Stopped, Undefined, TooOld, NotYet}
use Rattle.rep_types.specs.Replies.{reply_of}
use Rattle.rep_types.specs.Settings.{Setting}
use Rattle.rep_types.specs.Windows.{Window}
use Rattle.rep_types.specs.Order.{Order, history, rows as rows_after, window, state}
use Rattle.rep_disk.specs.declared.disk.Disk.{Ghosts}
use Rattle.rep_steps.specs.Standings.{Standing}
use Rattle.rep_steps.specs.Nodes.{Node, window_at}
use Rattle.rep_steps.specs.Orders.{IsOf, NodesHoldTheOrder}
use Rattle.rep_engine.specs.Engines.{gtid_of}
use Rattle.rep_replica.specs.Replicas.{Replica, facts_of}
use Rattle.rep_replica.specs.Holding.{Holds}
use Rattle.rep_sum.specs.declared.sum.Sum.{Sum as SumOf}
use Rattle.rep_sum.specs.Sums.{RowRead, keys_read, sum_of, sum_refusal, IsSumAt}
use Rattle.rep_script.specs.Summing.{position_of}
use Rattle.rep_follow.specs.Committing.{Follows}
use Rattle.rep_follow.specs.Joining.{PartsAreJoined}
use Rattle.rep_service.specs.Rows.{rows_of}
use Rattle.rep_service.specs.Saying.{Said, Rows, Summed, State, Limits, receipt_in, receipts_in, receipts_said}
use Rattle.rep_service.specs.Telling.{gtid_at, IsTold, AreTold, TellsTheOrder}
use Rattle.rep_service.specs.Commanding.{window_in, HasWindow}

-- ---- lines one after another

told_both : (uuid : List ℕ) (p : Setting) (L : Order) (at : ℕ) (a b : List Said) → AreTold uuid p L at a → AreTold uuid p L (at + length (receipts_in a)) b → AreTold uuid p L at (a ++ b)
told_both uuid p L at [] b one two = subst (λ k. AreTold uuid p L k b) (omega arith) two
told_both uuid p L at (s ∷ a) b one two =
    let count = length-append (receipt_in s) (receipts_in a) in
    let same : at + length (receipts_in (s ∷ a)) ≡ (at + length (receipt_in s)) + length (receipts_in a) = omega (arith, count) in
    (one.0, told_both uuid p L (at + length (receipt_in s)) a b one.1 (subst (λ k. AreTold uuid p L k b) same two))

-- of the same order, at the same position
told_as : (u v : List ℕ) (p q : Setting) (L M : Order) (j k : ℕ) (said : List Said) → u ≡ v → p ≡ q → L ≡ M → j ≡ k → AreTold u p L j said → AreTold v q M k said
told_as u v p q L M j k said uuid setting order at told =
    subst (λ x. AreTold x q M k said) uuid (subst (λ x. AreTold u x M k said) setting (subst (λ x. AreTold u p x k said) order (subst (λ x. AreTold u p L x said) at told)))

parted : (L : Order) (items more : List Item) (rest : Order) → ((L ++ items) ++ more) ++ rest ≡ (L ++ (items ++ more)) ++ rest
parted L items more rest = ap (λ l. l ++ rest) (append_assoc L items more)

goes_on : (L : Order) (items more : List Item) (rest : Order) → (L ++ items) ++ (more ++ rest) ≡ (L ++ (items ++ more)) ++ rest
goes_on L items more rest = sym (append_assoc (L ++ items) more rest) ∙ parted L items more rest

no_reply : {A : Type 0} (r : Reply) (rs : List Reply) → r ∷ rs ≡ [] → A
no_reply r rs is = absurd cc

first_reply : (r s : Reply) (rs ss : List Reply) → r ∷ rs ≡ s ∷ ss → r ≡ s
first_reply r s rs ss is = cc

other_replies : (r s : Reply) (rs ss : List Reply) → r ∷ rs ≡ s ∷ ss → rs ≡ ss
other_replies r s rs ss is = cc

-- receipts are the replies to the next items
told_receipts : (uuid : List ℕ) (p : Setting) (L : Order) (at : ℕ) (js : List Judged) (rs : List Reply) → drop at (history p L) ≡ js → rs ≡ map reply_of (take (length rs) js) → AreTold uuid p L at (receipts_said rs)
told_receipts uuid p L at js [] is are = tt
told_receipts uuid p L at [] (r ∷ rs) is are = no_reply r rs are
told_receipts uuid p L at (j ∷ js) (r ∷ rs) is are =
    let next : drop (at + 1) (history p L) ≡ js = sym (drop-drop 1 at (history p L)) ∙ ap (drop 1) is in
    ((j, ap (take 1) is, first_reply r (reply_of j) rs (map reply_of (take (length rs) js)) are), told_receipts uuid p L (at + 1) js rs next (other_replies r (reply_of j) rs (map reply_of (take (length rs) js)) are))

-- ---- a sum is taken at what is durable, or before

refused_last : (a b c d : Bool) (w x y z : Refusal) → (if a then Some w else if b then Some x else if c then Some y else if d then Some z else None) ≡ None → d ≡ false
refused_last true b c d w x y z is = absurd cc
refused_last false true c d w x y z is = absurd cc
refused_last false false true d w x y z is = absurd cc
refused_last false false false true w x y z is = absurd cc
refused_last false false false false w x y z is = refl

module _ {D : Type 0} (g : Ghosts D) where
  -- what is said of nothing that is delivered, wherever the order goes on
  abbrev pub IsToldAt : Replica D → Said → Type 0
  IsToldAt old one = (n : Node) (L rest : Order) → Holds g n old → IsOf L n → IsTold n.facts.uuid n.facts.setting ((L ++ []) ++ rest) (facts_of g old).durable one

  sum_within : (at : ℕ) (old new : Replica D) (sum : SumOf) → IsSumAt g at old (Ok sum) new → (o : Option Refusal) → sum_refusal (facts_of g old) at ≡ o → at ≤ (facts_of g old).durable
  sum_within at old new sum taken None is =
      let s = facts_of g old in
      let last = refused_last s.stopped (is_nil_bytes s.uuid) (nat_lt at s.base) (nat_lt s.durable at) Stopped Undefined (TooOld s.base) (NotYet s.durable) is in
      ltb-false s.durable at last
  sum_within at old new sum taken (Some e) is = absurd (let never : ◌≡◌ {A = _} (Ok sum) (Err e) = (subst (λ o. IfSome o (λ f. (Ok sum ≡ Err f) × (new ≡ old))) is taken.refused).0 in cc)

  -- the window that a replica gives is the order's
  pub window_is : NodesHoldTheOrder → (r : Replica D) (w : Window) → w ≡ window_in r → ((n : Node) → Holds g n r → w ≡ window_at n n.facts.durable) → HasWindow g r
  window_is hold r w is node n L holds of =
      let durable : n.facts.durable ≡ (facts_of g r).durable = ap (λ (s : Standing). s.durable) holds.facts in
      let held = hold L n holds.node of in
      let based : n.base.position ≤ n.facts.durable = omega (arith, holds.node.position, holds.node.facts.based) in
      let within : n.facts.durable ≤ length L = omega (arith, held.count) in
      sym is ∙ node n holds ∙ held.window n.facts.durable based within ∙ ap (λ k. window n.facts.setting (take k L)) durable

  module _ (parts : PartsAreJoined g) where
    -- what is durable is of the order
    within_order : (r : Replica D) (n : Node) (L : Order) → Holds g n r → IsOf L n → (facts_of g r).durable ≤ length L
    within_order r n L holds of = subst (λ (l : Order). (facts_of g r).durable ≤ length l) (append-nil L) (parts.order r r [] [] (parts.none r) n L holds of).within

    -- the order's front there, wherever it goes on
    front_is : (r : Replica D) (n : Node) (L rest : Order) → Holds g n r → IsOf L n → (at : ℕ) → at ≤ (facts_of g r).durable → take at L ≡ take at ((L ++ []) ++ rest)
    front_is r n L rest holds of at few =
        let within = within_order r n L holds of in
        let enough : at ≤ length L = omega (arith, few, within) in
        sym (take-append-le at L rest enough) ∙ ap (λ l. take at (l ++ rest)) (sym (append-nil L))

    pub tells_receipts : (old new : Replica D) (items : List Item) (receipts : List Reply) → Follows g old new items receipts → TellsTheOrder g old items (receipts_said receipts)
    tells_receipts old new items receipts follows n L rest holds of =
        told_receipts n.facts.uuid n.facts.setting ((L ++ items) ++ rest) (facts_of g old).durable _ receipts refl ((parts.order old new items receipts follows n L holds of).replied rest)

    -- two parts, the second from where the first led
    pub tells_both : (old mid : Replica D) (items more : List Item) (first others : List Said) → Follows g old mid items (receipts_in first) → TellsTheOrder g old items first → TellsTheOrder g mid more others → TellsTheOrder g old (items ++ more) (first ++ others)
    tells_both old mid items more first others follows one two n L rest holds of =
        let kept = parts.order old mid items (receipts_in first) follows n L holds of in
        told_both n.facts.uuid n.facts.setting ((L ++ (items ++ more)) ++ rest) (facts_of g old).durable first others
        (told_as n.facts.uuid n.facts.uuid n.facts.setting n.facts.setting ((L ++ items) ++ (more ++ rest)) ((L ++ (items ++ more)) ++ rest) (facts_of g old).durable (facts_of g old).durable first refl refl (goes_on L items more rest) refl (one n L (more ++ rest) holds of))
        (told_as kept.node.facts.uuid n.facts.uuid kept.node.facts.setting n.facts.setting (((L ++ items) ++ more) ++ rest) ((L ++ (items ++ more)) ++ rest) (facts_of g mid).durable ((facts_of g old).durable + length (receipts_in first)) others kept.uuid_is kept.setting_is
        (parted L items more rest) follows.durable.durable (two kept.node (L ++ items) rest kept.holds kept.of))

    -- ---- what is said at what is durable

    pub rows_told : (old : Replica D) (keys : List Key) (xs : List RowRead) → keys_read xs ≡ keys → ((n : Node) (L : Order) → Holds g n old → IsOf L n → xs ≡ rows_of n.facts.setting L keys (facts_of g old).durable) → IsToldAt old (Rows (facts_of g old).durable xs)
    rows_told old keys xs of_keys order n L rest holds of =
        let at = (facts_of g old).durable in
        let p = n.facts.setting in
        let front = front_is old n L rest holds of at (omega arith) in
        (refl, order n L holds of ∙ ap (λ ks. rows_of p L ks at) (sym of_keys) ∙ ap (λ (l : Order). map (λ (key : Key). (key, rows_after p l key)) (keys_read xs)) front)

    sum_at : (old : Replica D) (at : ℕ) (sum : SumOf) → at ≤ (facts_of g old).durable → ((n : Node) (L : Order) → Holds g n old → IsOf L n → sum ≡ sum_of n.facts.uuid n.facts.setting.rows (state n.facts.setting (take at L)))
        → (n : Node) (L rest : Order) → Holds g n old → IsOf L n → sum ≡ sum_of n.facts.uuid n.facts.setting.rows (state n.facts.setting (take at ((L ++ []) ++ rest)))
    sum_at old at sum few order n L rest holds of =
        order n L holds of ∙ ap (λ (l : Order). sum_of n.facts.uuid n.facts.setting.rows (state n.facts.setting l)) (front_is old n L rest holds of at few)

    pub sum_told : (old new : Replica D) (asked : Option ℕ) (sum : SumOf) → IsSumAt g (position_of g old asked) old (Ok sum) new
        → ((n : Node) (L : Order) → Holds g n old → IsOf L n → sum ≡ sum_of n.facts.uuid n.facts.setting.rows (state n.facts.setting (take (position_of g old asked) L))) → IsToldAt old (Summed asked sum)
    sum_told old new None sum taken order = sum_at old (facts_of g old).durable sum (sum_within (facts_of g old).durable old new sum taken _ refl) order
    sum_told old new (Some at) sum taken order = sum_at old at sum (sum_within at old new sum taken _ refl) order

    window_there : (old : Replica D) → HasWindow g old → (n : Node) (L rest : Order) → Holds g n old → IsOf L n → window_in old ≡ window n.facts.setting (take (facts_of g old).durable ((L ++ []) ++ rest))
    window_there old has n L rest holds of = has n L holds of ∙ ap (λ (l : Order). window n.facts.setting l) (front_is old n L rest holds of (facts_of g old).durable (omega arith))

    pub state_told : (old : Replica D) → HasWindow g old → IsToldAt old (State (gtid_of old.engine) old.engine.checkpoint.base.position (window_in old).entries)
    state_told old has n L rest holds of =
        let uuid : n.facts.uuid ≡ (facts_of g old).uuid = ap (λ (s : Standing). s.uuid) holds.facts in
        (ap (λ u. gtid_at u (facts_of g old).durable) (sym uuid), ap (λ (w : Window). w.entries) (window_there old has n L rest holds of))

    pub limits_told : (old : Replica D) → HasWindow g old → IsToldAt old (Limits (window_in old))
    limits_told old has n L rest holds of = window_there old has n L rest holds of
