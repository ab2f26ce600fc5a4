-- Where the items end that the log of a node may hold.
use Rattle.std.proofs.Common.{◌≡◌, refl, sym, ap, subst, ◌∙◌, ℕ, ◌+◌, ◌-◌, ◌≤◌, inl, inr, List, [], ◌∷◌, ◌++◌, append_assoc, append-nil, length, take, drop, arith}
use Rattle.std.proofs.Math.Seq.{take-add}
use Rattle.std.proofs.lemmas.List.{length-drop}
use Rattle.rep_types.specs.declared.judged.Judged.{Judged}
use Rattle.rep_steps.specs.Phase.{Phase}
use Rattle.rep_steps.specs.Phase.TheVariants.{Opening}
use Rattle.rep_steps.specs.Tail.{records_of}
use Rattle.rep_steps.specs.LogLaws.{MayHold}
use Rattle.rep_steps.specs.Standings.{underway}
use Rattle.rep_steps.specs.Nodes.{Node, IsNode}
use Rattle.rep_steps.specs.Images.{Ends}
use Rattle.rep_image.specs.Ends.{HeldEnds, LogsEndInTheirNode}

pub records-append : (blocks more : List (List Judged)) → records_of (blocks ++ more) ≡ records_of blocks ++ records_of more
records-append [] more = refl
records-append (block ∷ blocks) more = ap (λ js. block ++ js) (records-append blocks more) ∙ sym (append_assoc block (records_of blocks) (records_of more))

module _ (n : Node) (phase : Phase) (blocks : List (List Judged)) (sealed : List Judged) (h : IsNode n) (same : phase ≡ n.facts.phase)
    (durable : records_of blocks ≡ take (n.facts.durable - n.facts.base) n.items) (coming : sealed ≡ take (underway n.facts.phase) n.facts.ahead) where
  held_ends : (held : List (List Judged)) → MayHold phase blocks sealed held → HeldEnds n held
  held_ends held (inl is) = record { end = n.facts.durable; ends = inl refl; least = omega arith; most = h.enough; items = ap records_of is ∙ durable }
  held_ends held (inr more) =
      let k = more.0 in
      let phase : n.facts.phase ≡ Opening k = sym same ∙ more.1 in
      let count : underway n.facts.phase ≡ k = ap underway phase in
      let block : k ≤ length n.facts.ahead = subst (λ i. i ≤ length n.facts.ahead) count h.facts.block in
      let past = n.facts.durable - n.facts.base in
      let rest : sealed ≡ take k (drop past n.items) = coming ∙ ap (λ i. take i n.facts.ahead) count ∙ ap (take k) h.ahead in
      let all : records_of held ≡ take (past + k) n.items =
      ap records_of more.2 ∙ records-append blocks (sealed ∷ []) ∙ ap (λ js. records_of blocks ++ js) (append-nil sealed)
      ∙ ap (λ js. js ++ sealed) durable ∙ ap (λ js. take past n.items ++ js) rest ∙ sym (take-add past k n.items) in
      record {
        end = n.facts.durable + k;
        ends = inr (k, phase, refl);
        least = omega arith;
        most = omega (arith, block, ap length h.ahead, length-drop past n.items, h.enough, h.facts.based);
        items = all ∙ ap (λ i. take i n.items) (omega (arith, h.facts.based));
      }

-- such an end has what is durable
least_end : (n : Node) (end : ℕ) → Ends n end → n.facts.durable ≤ end
least_end n end (inl same) = omega (arith, same)
least_end n end (inr more) = omega (arith, more.2)

pub logs_end : LogsEndInTheirNode
logs_end = record { held = held_ends; least = least_end }
