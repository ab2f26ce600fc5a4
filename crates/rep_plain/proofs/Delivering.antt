-- One more delivered item: what the node keeps of the items goes on as the order does.
use Rattle.std.proofs.Common.{◌≡◌, ℕ, ◌+◌, List, [], ◌∷◌, ◌++◌, length, sym, ap, ◌∙◌}
use Rattle.std.proofs.lemmas.List.{map-append}
use Rattle.rep_types.specs.declared.item.Item.{Item}
use Rattle.rep_types.specs.declared.judged.Judged.{Judged}
use Rattle.rep_types.specs.declared.reach.Reach.{Reach}
use Rattle.rep_types.specs.declared.verdict.Verdict.{Verdict}
use Rattle.rep_types.specs.Settings.{Setting}
use Rattle.rep_types.specs.Reaches.{reach, reach_after}
use Rattle.rep_types.specs.Order.{Order, items_of, history, verdict}
use Rattle.rep_plain.specs.Delivered.{Delivered, delivered}
use Rattle.rep_types.proofs.Reaches.{reach_push}
use Rattle.rep_types.proofs.Histories.{history_push_judged}

-- the items with one more at their end are the history of the longer order, and the reach after it is that of the longer order
pub delivered_push : (node : Delivered) (p : Setting) (h more : List Judged) (seqno : ℕ) (i : Item) (v : Verdict) (r next : Reach) →
    delivered p h ≡ node → h ≡ history p (items_of h) → r ≡ reach p (items_of h) → seqno ≡ length node.order + 1 →
    v ≡ verdict node.setting (node.order ++ i ∷ []) (length node.order + 1) → next ≡ reach_after r seqno i →
    more ≡ h ++ (record { seqno = seqno; item = i; verdict = v }) ∷ [] → (more ≡ history p (items_of more)) × (next ≡ reach p (items_of more))
delivered_push node p h more seqno i v r next seen whole far at told raised grown =
    let L : Order = items_of h in
    let made : ℕ → Verdict → Judged = λ n u. record { seqno = n; item = i; verdict = u } in
    let place : seqno ≡ length L + 1 = at ∙ ap (λ (d : Delivered). length d.order + 1) (sym seen) in
    let judged : v ≡ verdict p (L ++ i ∷ []) (length L + 1) =
    told ∙ ap (λ (d : Delivered). verdict d.setting (d.order ++ i ∷ []) (length d.order + 1)) (sym seen) in
    let longer : items_of more ≡ L ++ i ∷ [] = ap items_of grown ∙ map-append (λ (j : Judged). j.item) h (made seqno v ∷ []) in
    let items : more ≡ history p (L ++ i ∷ []) =
    grown
    ∙ (ap (λ (n : ℕ). h ++ made n v ∷ []) place
    ∙ (ap (λ (u : Verdict). h ++ made (length L + 1) u ∷ []) judged
    ∙ (ap (λ (g : List Judged). g ++ made (length L + 1) (verdict p (L ++ i ∷ []) (length L + 1)) ∷ []) whole ∙ sym (history_push_judged p L i)))) in
    let reached : next ≡ reach p (L ++ i ∷ []) =
    raised ∙ (ap (λ (s : Reach). reach_after s seqno i) far ∙ (ap (λ (n : ℕ). reach_after (reach p L) n i) place ∙ sym (reach_push p L i))) in
    (items ∙ ap (history p) (sym longer), reached ∙ ap (reach p) (sym longer))
