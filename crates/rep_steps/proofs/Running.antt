-- What runs of events come to.
use Rattle.std.proofs.Common.{◌≡◌, ℕ, ◌+◌, ◌-◌, ◌≤◌, List, [], ◌∷◌, ◌++◌, append_assoc, append-nil, length, length-append, map, take, drop, refl, sym, ap, subst, ◌∙◌, arith}
use Rattle.std.proofs.Math.Seq.{take-add, take-append_seam}
use Rattle.std.proofs.lemmas.List.{drop_all, take_all, take-append-drop, take-append-le, drop-append-le, drop-drop, length-drop, length-take-le, map-append}
use Rattle.rep_types.specs.declared.judged.Judged.{Judged}
use Rattle.rep_types.specs.declared.refusal.Refusal.TheVariants.{DiskFault}
use Rattle.rep_types.specs.declared.item.Item.{Item}
use Rattle.rep_types.specs.declared.item.Item.TheVariants.{WriteSet}
use Rattle.rep_types.specs.Replies.{reply_of}
use Rattle.rep_types.specs.Settings.{Setting}
use Rattle.rep_types.specs.Order.{Order, history, verdict}
use Rattle.rep_log.specs.Fronts.{FrontsAreDetermined}
use Rattle.rep_steps.specs.declared.event.Event.{Event}
use Rattle.rep_steps.specs.declared.event.Event.TheVariants.{Deliver, SetWindow, Log, Sync, Check, Flush, Read}
use Rattle.rep_steps.specs.declared.answer.Answer.{Answer}
use Rattle.rep_steps.specs.declared.answer.Answer.TheVariants.{Gave, Wrote, Row, Refused}
use Rattle.rep_steps.specs.Events.{change}
use Rattle.rep_steps.specs.Standings.{Stage, Off, Toward, Retiring, Standing, delivered}
use Rattle.rep_steps.specs.Moves.{answer, check_answer, opening}
use Rattle.rep_steps.specs.Nodes.{Node, IsNode, moved, found, verdict_for, delivered_to}
use Rattle.rep_steps.specs.Orders.{IsOf, accepted}
use Rattle.rep_steps.specs.Runs.{Runs, accepted_by, verdict_in, verdicts, replies_in, acknowledged, verdict_of, ComesTo, RunsComeTo, RunsAnswerTheOrder, FedTheRest}
use Rattle.rep_steps.proofs.Reaching.{OrderLaws}
use Rattle.rep_steps.proofs.Following.{Comes, Refuses, Stops, Does, comes, follows, nothing_comes, stopped_node, count, ahead_is, verdict_is}

-- ---- runs, one event more at their end

pub runs_more : {S : Type 0} (one : S → Event → Answer → S → Type 0) (s mid t : S) (events : List Event) (answers : List Answer) (e : Event) (a : Answer)
    → Runs one s events answers mid → one mid e a t → Runs one s (events ++ e ∷ []) (answers ++ a ∷ []) t
runs_more one s mid t [] [] e a r next = (t, subst (λ k. one k e a t) (sym r) next, refl)
runs_more one s mid t [] (b ∷ answers) e a r next = absurd r
runs_more one s mid t (f ∷ events) [] e a r next = absurd r
runs_more one s mid t (f ∷ events) (b ∷ answers) e a r next = (r.0, r.1, runs_more one r.0 mid t events answers e a r.2 next)

-- ---- fronts of a history

-- where the order has L in front, its history has that of L in front
front_of : OrderLaws → (p : Setting) (L M : Order) → take (length L) (history p (L ++ M)) ≡ history p L
front_of laws p L M = laws.items.front p (L ++ M) (length L) ∙ ap (history p) (take-append_seam L M)

both_of : OrderLaws → (p : Setting) (L M : Order) → history p (L ++ M) ≡ history p L ++ drop (length L) (history p (L ++ M))
both_of laws p L M = sym (take-append-drop (length L) (history p (L ++ M))) ∙ ap (λ js. js ++ drop (length L) (history p (L ++ M))) (front_of laws p L M)

-- what stands behind a place in it, and then behind the front
pub behind_of : OrderLaws → (p : Setting) (L M : Order) (d : ℕ) → d ≤ length L → drop d (history p (L ++ M)) ≡ drop d (history p L) ++ drop (length L) (history p (L ++ M))
behind_of laws p L M d le = ap (drop d) (both_of laws p L M) ∙ drop-append-le d (history p L) (drop (length L) (history p (L ++ M))) (omega (arith, le, laws.items.as_many p L))

-- and the first k items there
piece_of : OrderLaws → (p : Setting) (L M : Order) (d k : ℕ) → d + k ≤ length L → take k (drop d (history p (L ++ M))) ≡ take k (drop d (history p L))
piece_of laws p L M d k within =
    ap (take k) (behind_of laws p L M d (omega (arith, within)))
    ∙ take-append-le k (drop d (history p L)) (drop (length L) (history p (L ++ M))) (omega (arith, within, length-drop d (history p L), laws.items.as_many p L))

-- ---- what one step comes to

-- where nothing was delivered and nothing became durable
pub record IsQuiet (n m : Node) (a : Answer) : Type 0 where
  pub setting : m.facts.setting ≡ n.facts.setting
  pub uuid : m.facts.uuid ≡ n.facts.uuid
  pub durable : m.facts.durable ≡ n.facts.durable
  pub no_verdict : verdict_in a ≡ []
  pub no_reply : replies_in a ≡ []

-- What a step comes to, beside that it follows the order.
record StepsTo (L : Order) (n : Node) (e : Event) (a : Answer) (m : Node) : Type 0 where
  setting : m.facts.setting ≡ n.facts.setting
  uuid : m.facts.uuid ≡ n.facts.uuid
  judged : verdict_in a ≡ map verdict_of (drop (length L) (history n.facts.setting (L ++ accepted e a)))
  rises : n.facts.durable ≤ m.facts.durable
  replied : replies_in a ≡ map reply_of (take (m.facts.durable - n.facts.durable) (drop n.facts.durable (history n.facts.setting (L ++ accepted e a))))

-- of no item there is no reply
no_replies : (k : ℕ) (js : List Judged) → k ≡ 0 → [] ≡ map reply_of (take k js)
no_replies k js e = sym (ap (λ i. map reply_of (take i js)) e)

pub none_behind : OrderLaws → (p : Setting) (L : Order) → drop (length L) (history p L) ≡ []
none_behind laws p L = drop_all (length L) (history p L) (omega (arith, laws.items.as_many p L))

quiet_steps : OrderLaws → (L : Order) (n m : Node) (e : Event) (a : Answer) → L ++ accepted e a ≡ L → IsQuiet n m a → StepsTo L n e a m
quiet_steps laws L n m e a same q = record {
  setting = q.setting;
  uuid = q.uuid;
  judged = q.no_verdict ∙ sym (ap (map verdict_of) (ap (λ (M : Order). drop (length L) (history n.facts.setting M)) same ∙ none_behind laws n.facts.setting L));
  rises = omega (arith, q.durable);
  replied = q.no_reply ∙ no_replies (m.facts.durable - n.facts.durable) (drop n.facts.durable (history n.facts.setting (L ++ accepted e a))) (omega (arith, q.durable));
}

check_verdict : (s : Standing) (stage : Stage) → verdict_in (check_answer s stage) ≡ []
check_verdict s Off = refl
check_verdict s (Toward goal part) = refl
check_verdict s (Retiring written) = refl

check_reply : (s : Standing) (stage : Stage) → replies_in (check_answer s stage) ≡ []
check_reply s Off = refl
check_reply s (Toward goal part) = refl
check_reply s (Retiring written) = refl

module _ (laws : OrderLaws) (L : Order) (n : Node) (h : IsNode n) (o : IsOf L n) where
  delivery_steps : (i : Item) (e : Event) → accepted e (Gave (verdict_for n i)) ≡ i ∷ [] → StepsTo L n e (Gave (verdict_for n i)) (delivered_to n i)
  delivery_steps i e is =
      let p = n.facts.setting in
      let j : Judged = record { seqno = length L + 1; item = i; verdict = verdict p (L ++ i ∷ []) (length L + 1) } in
      let behind : drop (length L) (history p (L ++ i ∷ [])) ≡ j ∷ [] =
      ap (drop (length L)) (laws.items.one_more p L (i)) ∙ drop-append-le (length L) (history p L) (j ∷ []) (omega (arith, laws.items.as_many p L)) ∙ ap (λ js. js ++ j ∷ []) (none_behind laws p L) in
      record {
        setting = refl;
        uuid = refl;
        judged = ap (λ v. v ∷ []) (verdict_is laws L n h o i) ∙ sym (ap (map verdict_of) (ap (λ (M : Order). drop (length L) (history p (L ++ M))) is ∙ behind));
        rises = omega arith;
        replied = no_replies (n.facts.durable - n.facts.durable) (drop n.facts.durable (history p (L ++ accepted e (Gave (verdict_for n i))))) (omega arith);
      }

  sync_steps : StepsTo L n Sync (answer n.facts Sync (found n Sync)) (moved n Sync)
  sync_steps =
      let p = n.facts.setting in
      let k = opening n.facts.phase in
      record {
        setting = refl;
        uuid = refl;
        judged = sym (ap (map verdict_of) (ap (λ (M : Order). drop (length L) (history p M)) (append-nil L) ∙ none_behind laws p L));
        rises = omega arith;
        replied = ap (λ js. map reply_of (take k js)) (ahead_is laws L n h o ∙ ap (λ (M : Order). drop n.facts.durable (history p M)) (sym (append-nil L)))
            ∙ ap (λ i. map reply_of (take i (drop n.facts.durable (history p (L ++ []))))) (omega arith);
      }

  done_steps : (e : Event) → StepsTo L n e (answer n.facts e (found n e)) (moved n e)
  done_steps (Deliver seqno w) = delivery_steps (WriteSet w) (Deliver seqno w) refl
  done_steps (SetWindow seqno size source trx) = delivery_steps (change size source trx) (SetWindow seqno size source trx) refl
  done_steps Log = quiet_steps laws L n (moved n Log) Log Wrote (append-nil L) (record { setting = refl; uuid = refl; durable = refl; no_verdict = refl; no_reply = refl })
  done_steps Sync = sync_steps
  done_steps Check = quiet_steps laws L n (moved n Check) Check (check_answer n.facts n.facts.stage) (append-nil L)
      (record { setting = refl; uuid = refl; durable = refl; no_verdict = check_verdict n.facts n.facts.stage; no_reply = check_reply n.facts n.facts.stage })
  done_steps (Flush page) = quiet_steps laws L n (moved n (Flush page)) (Flush page) Wrote (append-nil L) (record { setting = refl; uuid = refl; durable = refl; no_verdict = refl; no_reply = refl })
  done_steps (Read key at) = quiet_steps laws L n n (Read key at) (Row (found n (Read key at)).row) (append-nil L) (record { setting = refl; uuid = refl; durable = refl; no_verdict = refl; no_reply = refl })

  steps_to : (m : Node) (e : Event) (a : Answer) → Comes n e a m → StepsTo L n e a m
  steps_to m e a (Refuses r answered same) =
      subst (λ k. StepsTo L n e a k) (sym same) (subst (λ b. StepsTo L n e b n) (sym answered)
      (quiet_steps laws L n n e (Refused r) (nothing_comes L e r) (record { setting = refl; uuid = refl; durable = refl; no_verdict = refl; no_reply = refl })))
  steps_to m e a (Stops failures answered same) =
      subst (λ k. StepsTo L n e a k) (sym same) (subst (λ b. StepsTo L n e b (stopped_node failures n)) (sym answered)
      (quiet_steps laws L n (stopped_node failures n) e (Refused DiskFault) (nothing_comes L e DiskFault) (record { setting = refl; uuid = refl; durable = refl; no_verdict = refl; no_reply = refl })))
  steps_to m e a (Does none answered same) = subst (λ k. StepsTo L n e a k) (sym same) (subst (λ b. StepsTo L n e b (moved n e)) (sym answered) (done_steps e))

-- ---- what a run comes to

-- no event
none_comes : OrderLaws → (L : Order) (n m : Node) → IsNode n → IsOf L n → n ≡ m → ComesTo L n [] [] m
none_comes laws L n m h o e = subst (λ k. ComesTo L n [] [] k) e (record {
  node = h;
  setting = refl;
  uuid = refl;
  order = rw (append-nil L) o;
  judged = sym (ap (map verdict_of) (ap (λ (M : Order). drop (length L) (history n.facts.setting M)) (append-nil L) ∙ none_behind laws n.facts.setting L));
  rises = omega arith;
  replied = no_replies (n.facts.durable - n.facts.durable) (drop n.facts.durable (history n.facts.setting (L ++ []))) (omega arith);
})

-- a step, and the run behind it
one_more : OrderLaws → (L M : Order) (n mid m : Node) (e : Event) (a : Answer) (events : List Event) (answers : List Answer) → M ≡ L ++ accepted e a → mid.facts.durable ≤ length M
    → StepsTo L n e a mid → ComesTo M mid events answers m → ComesTo L n (e ∷ events) (a ∷ answers) m
one_more laws L M n mid m e a events answers same within s r =
    let p = n.facts.setting in
    let A = accepted_by events answers in
    let long : length L ≤ length M = omega (arith, ap length same, length-append L (accepted e a)) in
    let whole : L ++ (accepted e a ++ A) ≡ M ++ A = sym (append_assoc L (accepted e a) A) ∙ ap (λ (K : Order). K ++ A) (sym same) in
    let x = mid.facts.durable - n.facts.durable in
    let y = m.facts.durable - mid.facts.durable in
    let first : take x (drop n.facts.durable (history p (M ++ A))) ≡ take x (drop n.facts.durable (history p (L ++ accepted e a))) =
    piece_of laws p M A n.facts.durable x (omega (arith, within, s.rises)) ∙ ap (λ (K : Order). take x (drop n.facts.durable (history p K))) same in
    let then : take y (drop x (drop n.facts.durable (history p (M ++ A)))) ≡ take y (drop mid.facts.durable (history mid.facts.setting (M ++ A))) =
    ap (take y) (drop-drop x n.facts.durable (history p (M ++ A)) ∙ ap (λ i. drop i (history p (M ++ A))) (omega (arith, s.rises)))
    ∙ ap (λ (q : Setting). take y (drop mid.facts.durable (history q (M ++ A)))) (sym s.setting) in
    record {
      node = r.node;
      setting = r.setting ∙ s.setting;
      uuid = r.uuid ∙ s.uuid;
      order = rw whole r.order;
      judged = ap (λ vs. vs ++ verdicts answers) s.judged
          ∙ ap (λ vs. map verdict_of (drop (length L) (history p (L ++ accepted e a))) ++ vs) (r.judged ∙ ap (λ (q : Setting). map verdict_of (drop (length M) (history q (M ++ A)))) s.setting)
          ∙ sym (map-append verdict_of (drop (length L) (history p (L ++ accepted e a))) (drop (length M) (history p (M ++ A))))
          ∙ ap (map verdict_of) (ap (λ (K : Order). drop (length L) (history p K) ++ drop (length M) (history p (M ++ A))) (sym same) ∙ sym (behind_of laws p M A (length L) long))
          ∙ ap (λ (K : Order). map verdict_of (drop (length L) (history p K))) (sym whole);
      rises = omega (arith, s.rises, r.rises);
      replied = ap (λ rs. rs ++ acknowledged answers) s.replied
          ∙ ap (λ rs. map reply_of (take x (drop n.facts.durable (history p (L ++ accepted e a)))) ++ rs) r.replied
          ∙ sym (map-append reply_of (take x (drop n.facts.durable (history p (L ++ accepted e a)))) (take y (drop mid.facts.durable (history mid.facts.setting (M ++ A)))))
          ∙ ap (map reply_of) (ap (λ js. js ++ take y (drop mid.facts.durable (history mid.facts.setting (M ++ A)))) (sym first) ∙ ap (λ js. take x (drop n.facts.durable (history p (M ++ A))) ++ js) (sym then)
          ∙ sym (take-add x y (drop n.facts.durable (history p (M ++ A)))) ∙ ap (λ i. take i (drop n.facts.durable (history p (M ++ A)))) (omega (arith, s.rises, r.rises)))
          ∙ ap (λ (K : Order). map reply_of (take (m.facts.durable - n.facts.durable) (drop n.facts.durable (history p K)))) (sym whole);
    }

pub runs_come : OrderLaws → FrontsAreDetermined → RunsComeTo
runs_come laws fronts L n m [] [] h o r = none_comes laws L n m h o r
runs_come laws fronts L n m [] (a ∷ answers) h o r = absurd r
runs_come laws fronts L n m (e ∷ events) [] h o r = absurd r
runs_come laws fronts L n m (e ∷ events) (a ∷ answers) h o r =
    let step = comes n r.0 e a r.1 in
    let after = follows laws fronts L n r.0 e a h o step in
    let known : r.0.facts.durable ≤ length (L ++ accepted e a) = omega (arith, count laws (L ++ accepted e a) r.0 after.node after.order) in
    one_more laws L (L ++ accepted e a) n r.0 m e a events answers refl known (steps_to laws L n h o r.0 e a step)
    (runs_come laws fronts (L ++ accepted e a) r.0 m events answers after.node after.order r.2)

-- ---- what it answers within a whole order

pub runs_answer : OrderLaws → FrontsAreDetermined → RunsAnswerTheOrder
runs_answer laws fronts L rest n m events answers h o r =
    let p = n.facts.setting in
    let c = runs_come laws fronts L n m events answers h o r in
    let A = accepted_by events answers in
    let M = L ++ A in
    let first : delivered n.facts ≡ length L = count laws L n h o in
    let last : delivered m.facts ≡ length M = count laws M m c.node c.order in
    let more : length M ≡ length L + length A = length-append L A in
    let within : m.facts.durable ≤ length M = omega (arith, last) in
    let x = delivered m.facts - delivered n.facts in
    let y = m.facts.durable - n.facts.durable in
    let there : take x (drop (delivered n.facts) (history p (M ++ rest))) ≡ drop (length L) (history p M) =
    piece_of laws p M rest (delivered n.facts) x (omega (arith, first, last, more)) ∙ ap (λ k. take x (drop k (history p M))) first
    ∙ take_all x (drop (length L) (history p M)) (omega (arith, length-drop (length L) (history p M), laws.items.as_many p M, first, last, more)) in
    record {
      judged = c.judged ∙ ap (map verdict_of) (sym there);
      replied = c.replied ∙ ap (map reply_of) (sym (piece_of laws p M rest n.facts.durable y (omega (arith, within, c.rises))));
    }

-- ---- a node that is fed the rest of an order

pub fed : OrderLaws → FrontsAreDetermined → FedTheRest
fed laws fronts L end n m events answers within h o r rest =
    let c = runs_come laws fronts (take end L) n m events answers h o r in
    let whole : take end L ++ accepted_by events answers ≡ L = ap (λ (M : Order). take end L ++ M) rest ∙ take-append-drop end L in
    let long : length (take end L) ≡ end = length-take-le end L within in
    record {
      order = rw (← whole) c.order;
      judged = c.judged ∙ ap (λ (M : Order). map verdict_of (drop (length (take end L)) (history n.facts.setting M))) whole ∙ ap (λ k. map verdict_of (drop k (history n.facts.setting L))) long;
      replied = c.replied ∙ ap (λ (M : Order). map reply_of (take (m.facts.durable - n.facts.durable) (drop n.facts.durable (history n.facts.setting M)))) whole;
    }
