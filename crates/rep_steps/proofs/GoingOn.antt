-- Items that were judged one after another, with one more, in parts, and from another state.
use Rattle.std.proofs.Common.{◌≡◌, ℕ, zero, suc, ◌+◌, ◌≤◌, List, [], ◌∷◌, ◌++◌, length, drop, refl, sym, ap, subst, ◌∙◌, arith}
use Rattle.rep_types.specs.declared.judged.Judged.{Judged}
use Rattle.rep_types.specs.Settings.{Setting}
use Rattle.rep_types.specs.Windows.{Window}
use Rattle.rep_types.specs.declared.verdict.Verdict.{Verdict}
use Rattle.rep_types.specs.Order.{State, extended, judge, window_after}
use Rattle.rep_log.specs.Blocks.{SeqnosFrom}
use Rattle.rep_steps.specs.Nodes.{advanced, reached}
use Rattle.rep_steps.specs.Images.{AreJudgedFrom}
use Rattle.rep_steps.specs.Judging.{JudgingGoesOn}
use Rattle.rep_steps.proofs.Reaching.{reached_both, reached_position}
use Rattle.rep_steps.proofs.Judging.{first_judged, later_judged}

-- ---- seqnos

seqnos_drop : (n k : ℕ) (js : List Judged) → k ≤ length js → SeqnosFrom n js → SeqnosFrom (n + k) (drop k js)
seqnos_drop n zero js le h = subst (λ m. SeqnosFrom m js) (omega arith) h
seqnos_drop n (suc k) [] le h = absurd (omega (arith, le))
seqnos_drop n (suc k) (j ∷ js) le h = subst (λ m. SeqnosFrom m (drop k js)) (omega arith) (seqnos_drop (n + 1) k js (omega (arith, le)) h.1)

seqnos_more : (n : ℕ) (js : List Judged) (j : Judged) → SeqnosFrom n js → j.seqno ≡ n + length js → SeqnosFrom n (js ++ j ∷ [])
seqnos_more n [] j h is = (is ∙ omega arith, tt)
seqnos_more n (i ∷ js) j h is = (h.0, seqnos_more (n + 1) js j h.1 (is ∙ omega arith))

-- ---- states

reached_more : (p : Setting) (S : State) (js : List Judged) (j : Judged) → reached p S (js ++ j ∷ []) ≡ advanced p (reached p S js) j
reached_more p S [] j = refl
reached_more p S (i ∷ js) j = reached_more p (advanced p S i) js j

window_next : (p : Setting) (position : ℕ) (v : Window) (j : Judged) → j.seqno ≡ position + 1 → j.verdict ≡ judge p position v j.item → window_after p position v j.item ≡ extended v j
window_next p position v j e f =
    let made : ℕ → Verdict → Judged = λ seqno verdict. record { seqno = seqno; item = j.item; verdict = verdict } in
    ap (λ (verdict : Verdict). extended v (made (position + 1) verdict)) (sym f) ∙ ap (λ seqno. extended v (made seqno j.verdict)) (sym e)

kept_alike : (p : Setting) (S T : State) (js : List Judged) → S.kept ≡ T.kept → (reached p S js).kept ≡ (reached p T js).kept
kept_alike p S T [] same = same
kept_alike p S T (j ∷ js) same = kept_alike p (advanced p S j) (advanced p T j) js (ap (λ (v : Window). extended v j) same)

-- ---- what was judged

judged_more : (p : Setting) (S : State) (js : List Judged) (j : Judged) → AreJudgedFrom p S js → AreJudgedFrom p (reached p S js) (j ∷ []) → AreJudgedFrom p S (js ++ j ∷ [])
judged_more p S [] j h one = one
judged_more p S (i ∷ js) j h one = (h.0, h.1, judged_more p (advanced p S i) js j h.2 one)

judged_seqnos : (p : Setting) (S : State) (js : List Judged) → AreJudgedFrom p S js → SeqnosFrom (S.position + 1) js
judged_seqnos p S [] h = tt
judged_seqnos p S (j ∷ js) h = (h.0, judged_seqnos p (advanced p S j) js h.2)

judged_alike : (p : Setting) (S T : State) (js : List Judged) → S.position ≡ T.position → S.kept ≡ T.kept → AreJudgedFrom p S js → AreJudgedFrom p T js
judged_alike p S T [] at same h = tt
judged_alike p S T (j ∷ js) at same h = (
  h.0 ∙ ap (λ n. n + 1) at,
  h.1 ∙ ap (λ n. judge p n S.kept j.item) at ∙ ap (λ (v : Window). judge p T.position v j.item) same,
  judged_alike p (advanced p S j) (advanced p T j) js (ap (λ n. n + 1) at) (ap (λ (v : Window). extended v j) same) h.2,
)

pub judging_goes_on : JudgingGoesOn
judging_goes_on = search (judged_more, first_judged, later_judged, judged_alike, judged_seqnos, reached_position, reached_more, reached_both, window_next, kept_alike, seqnos_drop, seqnos_more)
