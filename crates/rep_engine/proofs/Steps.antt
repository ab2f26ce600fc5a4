-- Steps of facts and of nodes, by how a call comes out.
use Rattle.std.proofs.Common.{◌≡◌, inl, inr, ℕ, true, false, Option, None, Some, refl, sym, ap, subst, ◌∙◌}
use Rattle.std.specs.Prelude.{IsTrue, is_some, MatchOption, if◌then◌else◌}
use Rattle.rep_types.specs.declared.refusal.Refusal.{Refusal}
use Rattle.rep_types.specs.declared.refusal.Refusal.TheVariants.{Stopped, OutOfMemory, DiskFault, Corrupt}
use Rattle.rep_types.specs.declared.refusal.Part.TheVariants.{Pages}
use Rattle.rep_disk.specs.declared.disk.Disk.{Ghosts}
use Rattle.rep_disk.specs.Calls.{Rises}
use Rattle.rep_steps.specs.declared.event.Event.{Event}
use Rattle.rep_steps.specs.declared.event.Event.TheVariants.{Log}
use Rattle.rep_engine.specs.Engines.{Engine, facts_of, phase_at}
use Rattle.rep_engine.specs.Holding.{Holds}
use Rattle.rep_steps.specs.declared.answer.Answer.TheVariants.{Refused}
use Rattle.rep_steps.specs.Standings.{Standing, refusal, refusal_here, log_refusal}
use Rattle.rep_steps.specs.Moves.{Found, answer, after, takes_memory, takes_device, reads_a_page, Moves}
use Rattle.rep_steps.specs.Nodes.{Node, Steps, found, moved}

-- ---- which refusal it is

by_none : (A : Type 0) (B : Refusal → Type 0) (o : Option Refusal) → o ≡ None → A → MatchOption o A B
by_none A B o none a = subst (λ (o : Option Refusal). MatchOption o A B) (sym none) a

by_some : (A : Type 0) (B : Refusal → Type 0) (o : Option Refusal) (r : Refusal) → o ≡ Some r → B r → MatchOption o A B
by_some A B o r some b = subst (λ (o : Option Refusal). MatchOption o A B) (sym some) b

stopped_refusal : (s : Standing) (e : Event) → s.stopped ≡ true → refusal s e ≡ Some Stopped
stopped_refusal s e stopped = ap (λ b. if b then Some Stopped else refusal_here s e) stopped

pub same_refusal : (s : Standing) (e : Event) → s.stopped ≡ false → refusal s e ≡ refusal_here s e
same_refusal s e runs = ap (λ b. if b then Some Stopped else refusal_here s e) runs

-- ---- on any device

pub stopped_moves : (s : Standing) (e : Event) → s.stopped ≡ true → Moves s e (Refused Stopped) s
stopped_moves s e stopped = by_some _ _ (refusal s e) Stopped (stopped_refusal s e stopped) (refl, refl)

pub refused_moves : (s : Standing) (e : Event) (r : Refusal) → s.stopped ≡ false → refusal_here s e ≡ Some r → Moves s e (Refused r) s
refused_moves s e r runs some = by_some _ _ (refusal s e) r (same_refusal s e runs ∙ some) (refl, refl)

pub done_moves : (s : Standing) (e : Event) (f : Found) (t : Standing) → s.stopped ≡ false → refusal_here s e ≡ None → t ≡ after s e f → Moves s e (answer s e f) t
done_moves s e f t runs none is = by_none _ _ (refusal s e) (same_refusal s e runs ∙ none) (inl (f, refl, is))

pub hungry_moves : (s : Standing) (e : Event) → s.stopped ≡ false → refusal_here s e ≡ None → IsTrue (takes_memory s e) → Moves s e (Refused OutOfMemory) s
hungry_moves s e runs none takes = by_none _ _ (refusal s e) (same_refusal s e runs ∙ none) (inr (inl (inl (takes, refl, refl))))

-- the facts of what the device stopped
abbrev pub halted_at : ℕ → Standing → Standing
halted_at failures s = record s { failures = failures; stopped = true }

pub fault_moves : (s : Standing) (e : Event) (t : Standing) → s.stopped ≡ false → refusal_here s e ≡ None → IsTrue (takes_device s e) → Rises s.failures t.failures → t ≡ halted_at t.failures s → Moves s e (Refused DiskFault) t
fault_moves s e t runs none device rises is = by_none _ _ (refusal s e) (same_refusal s e runs ∙ none) (inr (inl (inr (device, refl, rises, is))))

pub corrupt_moves : (s : Standing) (e : Event) (t : Standing) → s.stopped ≡ false → refusal_here s e ≡ None → IsTrue (reads_a_page e) → t ≡ s → Moves s e (Refused (Corrupt Pages)) t
corrupt_moves s e t runs none page is = by_none _ _ (refusal s e) (same_refusal s e runs ∙ none) (inr (inr (page, refl, is)))

-- ---- of a node

pub stopped_steps : (n : Node) (e : Event) → n.facts.stopped ≡ true → Steps n e (Refused Stopped) n
stopped_steps n e stopped = by_some _ _ (refusal n.facts e) Stopped (stopped_refusal n.facts e stopped) (refl, refl)

pub refused_steps : (n : Node) (e : Event) (r : Refusal) → n.facts.stopped ≡ false → refusal_here n.facts e ≡ Some r → Steps n e (Refused r) n
refused_steps n e r runs some = by_some _ _ (refusal n.facts e) r (same_refusal n.facts e runs ∙ some) (refl, refl)

pub done_steps : (n : Node) (e : Event) → n.facts.stopped ≡ false → refusal_here n.facts e ≡ None → Steps n e (answer n.facts e (found n e)) (moved n e)
done_steps n e runs none = by_none _ _ (refusal n.facts e) (same_refusal n.facts e runs ∙ none) (inl (refl, refl))

pub hungry_steps : (n : Node) (e : Event) → n.facts.stopped ≡ false → refusal_here n.facts e ≡ None → IsTrue (takes_memory n.facts e) → Steps n e (Refused OutOfMemory) n
hungry_steps n e runs none takes = by_none _ _ (refusal n.facts e) (same_refusal n.facts e runs ∙ none) (inr (inl (takes, refl, refl), refl))

abbrev pub halted_node : ℕ → Node → Node
halted_node failures n = record n { facts = halted_at failures n.facts }

pub fault_steps : (n : Node) (e : Event) (failures : ℕ) → n.facts.stopped ≡ false → refusal_here n.facts e ≡ None → IsTrue (takes_device n.facts e) → Rises n.facts.failures failures → Steps n e (Refused DiskFault) (halted_node failures n)
fault_steps n e failures runs none device rises = by_none _ _ (refusal n.facts e) (same_refusal n.facts e runs ∙ none) (inr (inr (device, refl, rises, refl), refl))

-- a log step that is refused
pub refused_log : {D : Type 0} (g : Ghosts D) (old : Engine D) (n : Node) → Holds g n old → old.halted ≡ None → (r : Refusal) → log_refusal (facts_of g old) old.log.phase ≡ Some r
    → Steps n Log (Refused r) n
refused_log g old n holds runs r some =
    refused_steps n Log r (ap (λ (s : Standing). s.stopped) holds.facts ∙ ap is_some runs)
    (ap (λ (s : Standing). log_refusal s s.phase) holds.facts ∙ ap (λ halted. log_refusal (facts_of g old) (phase_at old.log.phase halted)) runs ∙ some)
