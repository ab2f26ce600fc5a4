-- Steps of a node and moves of its facts.
use Rattle.std.proofs.Common.{◌≡◌, ◌⊎◌, inl, inr, Option, None, Some, refl, sym, ap, ◌∙◌}
use Rattle.std.specs.Prelude.{MatchOption}
use Rattle.rep_types.specs.declared.refusal.Refusal.{Refusal}
use Rattle.rep_steps.specs.declared.event.Event.{Event}
use Rattle.rep_steps.specs.declared.event.Event.TheVariants.{Deliver, SetWindow, Log, Sync, Check, Flush, Read}
use Rattle.rep_steps.specs.declared.answer.Answer.{Answer}
use Rattle.rep_steps.specs.declared.answer.Answer.TheVariants.{Refused}
use Rattle.rep_steps.specs.Standings.{Standing, refusal}
use Rattle.rep_steps.specs.Moves.{Found, answer, after, Fails, MeetsCorruption}
use Rattle.rep_steps.specs.Nodes.{Node, Finds, found, moved, StepsAreMoves}

-- the facts of the node after an event
facts_moved : (n : Node) (e : Event) → (moved n e).facts ≡ after n.facts e (found n e)
facts_moved n (Deliver seqno w) = refl
facts_moved n (SetWindow seqno size source trx) = refl
facts_moved n Log = refl
facts_moved n Sync = refl
facts_moved n Check = refl
facts_moved n (Flush page) = refl
facts_moved n (Read key at) = refl

-- by the refusal that comes first
move_by : (o : Option Refusal) (n m : Node) (e : Event) (a : Answer)
    → MatchOption o (((a ≡ answer n.facts e (found n e)) × (m ≡ moved n e)) ⊎ (Fails n.facts e a m.facts × (m ≡ record n { facts = m.facts }))) (λ r. (a ≡ Refused r) × (m ≡ n))
    → MatchOption o (((f : Found) × (a ≡ answer n.facts e f) × (m.facts ≡ after n.facts e f)) ⊎ (Fails n.facts e a m.facts ⊎ MeetsCorruption n.facts e a m.facts)) (λ r. (a ≡ Refused r) × (m.facts ≡ n.facts))
move_by None n m e a (inl d) = inl (found n e, d.0, ap (λ (k : Node). k.facts) d.1 ∙ facts_moved n e)
move_by None n m e a (inr f) = inr (inl f.0)
move_by (Some r) n m e a s = (s.0, ap (λ (k : Node). k.facts) s.1)

-- a node after it
record Leads (o : Option Refusal) (n : Node) (e : Event) (a : Answer) (t : Standing) : Type 0 where
  to : Node
  steps : MatchOption o (((a ≡ answer n.facts e (found n e)) × (to ≡ moved n e)) ⊎ (Fails n.facts e a to.facts × (to ≡ record n { facts = to.facts }))) (λ r. (a ≡ Refused r) × (to ≡ n))
  facts : to.facts ≡ t

step_by : (o : Option Refusal) (n : Node) (e : Event) (a : Answer) (t : Standing)
    → MatchOption o (((f : Found) × (a ≡ answer n.facts e f) × (t ≡ after n.facts e f)) ⊎ (Fails n.facts e a t ⊎ MeetsCorruption n.facts e a t)) (λ r. (a ≡ Refused r) × (t ≡ n.facts))
    → Finds n e a t → Leads o n e a t
step_by None n e a t (inl d) finds = record { to = moved n e; steps = inl (finds.told d.0 d.1 d.2, refl); facts = facts_moved n e ∙ sym (finds.left d.0 d.1 d.2) }
step_by None n e a t (inr (inl f)) finds = record { to = record n { facts = t }; steps = inr (f, refl); facts = refl }
step_by None n e a t (inr (inr c)) finds = absurd (finds.whole c.1)
step_by (Some r) n e a t s finds = record { to = n; steps = (s.0, refl); facts = sym s.1 }

pub steps_move : StepsAreMoves
steps_move = record {
  moves = λ n m e a s. move_by (refusal n.facts e) n m e a s;
  steps = λ n e a t s finds. let led = step_by (refusal n.facts e) n e a t s finds in (led.to, led.steps, led.facts);
}
