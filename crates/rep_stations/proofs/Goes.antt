-- What a step of an engine leaves of its facts, and of the node that it stands for.
use Rattle.std.proofs.Common.{◌≡◌, inl, inr, ℕ, ◌+◌, ◌-◌, ◌≤◌, Bool, true, false, List, [], ◌++◌, length, length-drop, map, take, drop, Option, None, Some, refl, sym, ap, subst, ◌∙◌, arith}
use Rattle.std.specs.Prelude.{if◌then◌else◌, MatchOption}
use Rattle.std.proofs.Math.Seq.{take-add}
use Rattle.std.proofs.lemmas.List.{drop-drop, length-map, length-take-le}
use Rattle.rep_types.specs.declared.judged.Judged.{Judged}
use Rattle.rep_types.specs.declared.reply.Reply.{Reply}
use Rattle.rep_types.specs.declared.refusal.Refusal.{Refusal}
use Rattle.rep_types.specs.declared.refusal.Refusal.TheVariants.{Stopped}
use Rattle.rep_types.specs.Replies.{reply_of}
use Rattle.rep_types.specs.Settings.{Setting}
use Rattle.rep_types.specs.Order.{State}
use Rattle.rep_steps.specs.declared.event.Event.{Event}
use Rattle.rep_steps.specs.declared.event.Event.TheVariants.{Deliver, SetWindow, Log, Sync, Check, Flush, Read}
use Rattle.rep_steps.specs.declared.answer.Answer.{Answer}
use Rattle.rep_steps.specs.declared.answer.Answer.TheVariants.{Gave, Wrote, Began, Synced, Row, Refused}
use Rattle.rep_steps.specs.Standings.{Standing, refusal, refusal_here}
use Rattle.rep_steps.specs.Moves.{Found, Moves, Fails, opening, replies, after}
use Rattle.rep_steps.specs.Nodes.{Node, IsNode, Steps, moved, passed, reached}
use Rattle.rep_steps.specs.Judging.{JudgingGoesOn}
use Rattle.rep_steps.specs.FactLaws.{passed_by}
use Rattle.rep_stations.specs.Taking.{GoesOn, IsOfAnEngine, MakesNothingDurable}

-- ---- the facts

-- The facts go on: so many of the items that were ahead are durable.
pub record FactsGo (s t : Standing) : Type 0 where
  pub uuid : t.uuid ≡ s.uuid
  pub setting : t.setting ≡ s.setting
  pub told : ℕ
  pub few : told ≤ length s.ahead
  pub durable : t.durable ≡ s.durable + told
  pub ahead : t.ahead ≡ drop told s.ahead

still : (s : Standing) → FactsGo s s
still s = record { uuid = refl; setting = refl; told = 0; few = omega arith; durable = omega arith; ahead = refl }

as_still : (s t : Standing) → t ≡ s → FactsGo s t
as_still s t is = subst (FactsGo s) (sym is) (still s)

failed : (s t : Standing) → t ≡ record s { failures = t.failures; stopped = true } → FactsGo s t
failed s t is = subst (FactsGo s) (sym is) (record { uuid = refl; setting = refl; told = 0; few = omega arith; durable = omega arith; ahead = refl })

fails_go : (s t : Standing) (e : Event) (a : Answer) → Fails s e a t → FactsGo s t
fails_go s t e a (inl h) = as_still s t h.2
fails_go s t e a (inr h) = failed s t h.3

-- what was done
done : (s : Standing) (e : Event) (f : Found) → IsOfAnEngine e → (e ≡ Sync → opening s.phase ≤ length s.ahead) → FactsGo s (after s e f)
done s (Deliver seqno w) f own few = absurd own
done s (SetWindow seqno size source trx) f own few = absurd own
done s Log f own few = record { uuid = refl; setting = refl; told = 0; few = omega arith; durable = omega arith; ahead = refl }
done s Sync f own few = record { uuid = refl; setting = refl; told = opening s.phase; few = few refl; durable = refl; ahead = refl }
done s Check f own few = record { uuid = refl; setting = refl; told = 0; few = omega arith; durable = omega arith; ahead = refl }
done s (Flush page) f own few = record { uuid = refl; setting = refl; told = 0; few = omega arith; durable = omega arith; ahead = refl }
done s (Read key at) f own few = record { uuid = refl; setting = refl; told = 0; few = omega arith; durable = omega arith; ahead = refl }

-- by the refusal
by_refusal : (A : Type 0) (B : Refusal → Type 0) (C : Type 0) (o : Option Refusal) → MatchOption o A B → (o ≡ None → A → C) → ((r : Refusal) → o ≡ Some r → B r → C) → C
by_refusal A B C None m done refused = done refl m
by_refusal A B C (Some r) m done refused = refused r refl m

-- what isn't refused was not stopped
runs : (stopped : Bool) (o : Option Refusal) → (if stopped then Some Stopped else o) ≡ None → stopped ≡ false
runs true o e = absurd cc
runs false o e = refl

pub facts_go : (s t : Standing) (e : Event) (a : Answer) → IsOfAnEngine e → (s.stopped ≡ false → opening s.phase ≤ length s.ahead) → Moves s e a t → FactsGo s t
facts_go s t e a own few moves =
    by_refusal _ _ (FactsGo s t) (refusal s e) moves
    (λ none went. elim went [
      | inl f ↦ subst (FactsGo s) (sym f.2) (done s e f.0 own (λ is. few (runs s.stopped (refusal_here s e) none)))
      | inr other ↦ elim other [ inl fails ↦ fails_go s t e a fails | inr corrupt ↦ as_still s t corrupt.2 ]
    ])
    (λ r some is. as_still s t is.1)

-- what makes nothing durable
nothing_done : (s : Standing) (e : Event) (f : Found) → MakesNothingDurable e → (after s e f).durable ≡ s.durable
nothing_done s (Deliver seqno w) f own = absurd own
nothing_done s (SetWindow seqno size source trx) f own = absurd own
nothing_done s Log f own = refl
nothing_done s Sync f own = absurd own
nothing_done s Check f own = refl
nothing_done s (Flush page) f own = refl
nothing_done s (Read key at) f own = refl

fails_still : (s t : Standing) (e : Event) (a : Answer) → Fails s e a t → t.durable ≡ s.durable
fails_still s t e a (inl h) = ap (λ (u : Standing). u.durable) h.2
fails_still s t e a (inr h) = ap (λ (u : Standing). u.durable) h.3

pub durable_still : (s t : Standing) (e : Event) (a : Answer) → MakesNothingDurable e → Moves s e a t → t.durable ≡ s.durable
durable_still s t e a own moves =
    by_refusal _ _ (t.durable ≡ s.durable) (refusal s e) moves
    (λ none went. elim went [
      | inl f ↦ ap (λ (u : Standing). u.durable) f.2 ∙ nothing_done s e f.0 own
      | inr other ↦ elim other [ inl fails ↦ fails_still s t e a fails | inr corrupt ↦ ap (λ (u : Standing). u.durable) corrupt.2 ]
    ])
    (λ r some is. ap (λ (u : Standing). u.durable) is.1)

-- ---- what a sync makes durable

-- the replies of an answer
abbrev told_by : Answer → List Reply
told_by (Gave v) = []
told_by Wrote = []
told_by (Began position) = []
told_by (Synced rs) = rs
told_by (Row row) = []
told_by (Refused r) = []

abbrev Tells : Standing → Standing → List Reply → Type 0
Tells s t rs = (t.durable ≡ s.durable + length rs) × (rs ≡ map reply_of (take (length rs) s.ahead))

tells : (s t : Standing) (rs : List Reply) → opening s.phase ≤ length s.ahead → rs ≡ replies s → t.durable ≡ s.durable + opening s.phase → Tells s t rs
tells s t rs few is durable =
    let k = opening s.phase in
    let long : length rs ≡ k = ap length is ∙ length-map (take k s.ahead) reply_of ∙ length-take-le k s.ahead few in
    (durable ∙ ap (λ n. s.durable + n) (sym long), is ∙ ap (λ n. map reply_of (take n s.ahead)) (sym long))

abbrev is_synced : Answer → Bool
is_synced (Gave v) = false
is_synced Wrote = false
is_synced (Began position) = false
is_synced (Synced rs) = true
is_synced (Row row) = false
is_synced (Refused r) = false

-- an answer that gives replies is no refusal
never : (rs : List Reply) (r : Refusal) → Synced rs ≡ Refused r → true ≡ false
never rs r is = ap is_synced is

pub sync_tells : (s t : Standing) (rs : List Reply) → (s.stopped ≡ false → opening s.phase ≤ length s.ahead) → Moves s Sync (Synced rs) t → Tells s t rs
sync_tells s t rs few moves =
    by_refusal _ _ (Tells s t rs) (refusal s Sync) moves
    (λ none went. elim went [
      | inl f ↦ tells s t rs (few (runs s.stopped (refusal_here s Sync) none)) (ap told_by f.1) (ap (λ (u : Standing). u.durable) f.2)
      | inr other ↦ elim other [
        | inl fails ↦ elim fails [ inl h ↦ absurd (let no = never rs _ h.1 in cc) | inr h ↦ absurd (let no = never rs _ h.1 in cc) ]
        | inr corrupt ↦ absurd (let no = never rs _ corrupt.1 in cc)
      ]
    ])
    (λ r some is. absurd (let no = never rs r is.0 in cc))

-- ---- the node

-- The node goes on: its base moves past so many of its items.
pub record NodeGoes (n m : Node) : Type 0 where
  pub setting : m.facts.setting ≡ n.facts.setting
  pub uuid : m.facts.uuid ≡ n.facts.uuid
  pub past : ℕ
  pub few : past ≤ length n.items
  pub base : m.base ≡ reached n.facts.setting n.base (take past n.items)
  pub items : m.items ≡ drop past n.items

node_moved : (n : Node) (e : Event) → IsOfAnEngine e → IsNode n → NodeGoes n (moved n e)
node_moved n (Deliver seqno w) own node = absurd own
node_moved n (SetWindow seqno size source trx) own node = absurd own
node_moved n Log own node = record { setting = refl; uuid = refl; past = 0; few = omega arith; base = refl; items = refl }
node_moved n Sync own node =
    let few = passed_by n.facts.base n.facts.durable n.facts.start n.facts.next n.facts.stage node.facts.goal node.facts.based in
    record { setting = refl; uuid = refl; past = passed n.facts; few = omega (arith, few, node.enough, node.facts.based); base = refl; items = refl }
node_moved n Check own node = record { setting = refl; uuid = refl; past = 0; few = omega arith; base = refl; items = refl }
node_moved n (Flush page) own node = record { setting = refl; uuid = refl; past = 0; few = omega arith; base = refl; items = refl }
node_moved n (Read key at) own node = record { setting = refl; uuid = refl; past = 0; few = omega arith; base = refl; items = refl }

-- where the facts alone changed
node_failed : (n m : Node) (e : Event) (a : Answer) → Fails n.facts e a m.facts → m ≡ record n { facts = m.facts } → NodeGoes n m
node_failed n m e a fails is =
    let facts = fails_go n.facts m.facts e a fails in
    record { setting = facts.setting; uuid = facts.uuid; past = 0; few = omega arith; base = ap (λ (k : Node). k.base) is; items = ap (λ (k : Node). k.items) is }

node_still : (n m : Node) → m ≡ n → NodeGoes n m
node_still n m is = subst (NodeGoes n) (sym is) (record { setting = refl; uuid = refl; past = 0; few = omega arith; base = refl; items = refl })

pub node_goes : (n m : Node) (e : Event) (a : Answer) → IsOfAnEngine e → IsNode n → Steps n e a m → NodeGoes n m
node_goes n m e a own node steps =
    by_refusal _ _ (NodeGoes n m) (refusal n.facts e) steps
    (λ none went. elim went [ inl did ↦ subst (NodeGoes n) (sym did.1) (node_moved n e own node) | inr fails ↦ node_failed n m e a fails.0 fails.1 ])
    (λ r some is. node_still n m is.1)

-- ---- the node of a history

pub goes_on : JudgingGoesOn → (n : Node) (items : List Judged) (m k : Node) → GoesOn n items m → NodeGoes m k → GoesOn n items k
goes_on goes n items m k on step =
    let p = n.facts.setting in
    let all = n.items ++ items in
    let left : length m.items ≡ length all - on.past = ap length on.rest ∙ length-drop on.past all in
    record {
      setting = step.setting ∙ on.setting;
      uuid = step.uuid ∙ on.uuid;
      past = on.past + step.past;
      within = omega (arith, on.within, step.few, left);
      base =
          step.base ∙ ap (λ (q : Setting). reached q m.base (take step.past m.items)) on.setting ∙ ap (λ (S : State). reached p S (take step.past m.items)) on.base
          ∙ ap (λ (js : List Judged). reached p (reached p n.base (take on.past all)) (take step.past js)) on.rest
          ∙ sym (goes.reached_both p n.base (take on.past all) (take step.past (drop on.past all))) ∙ ap (reached p n.base) (sym (take-add on.past step.past all));
      rest = step.items ∙ ap (drop step.past) on.rest ∙ drop-drop step.past on.past all;
    }
