use Rattle.std.proofs.Common.{◌≡◌, ◌<◌, ◌∷◌, [], ◌++◌, inl, inr, true, false, sym, ap, subst, ◌∙◌}
use Rattle.std.proofs.lemmas.Bool.{cases_lt}
use Rattle.rep_types.specs.declared.limits.TheConstants.{MAX_SEQNO}
use Rattle.rep_types.specs.declared.judged.Judged.{Judged}
use Rattle.rep_record.specs.Records.{is_placed}
use Rattle.rep_stations.specs.Judging.{Legal, HasJudged, next_of}
use Rattle.rep_stations.proofs.Judges.{placed_next, legal_more, judged_on}
use Rattle.rep_stations.proofs.judge.judge_next.Goals as goal

abbrev judged : (c : goal.In_ok-seqno) → Judged
judged c = record { seqno = c.in_ok-seqno.seqno; item = c.args.item; verdict = c.in_ok-seqno.verdict }

judged_is : (c : goal.In_ok-seqno) → next_of c.args.certifier.now.current c.args.item ≡ judged c
judged_is c =
    ap (λ n. record { seqno = n; item = c.args.item; verdict = (next_of c.args.certifier.now.current c.args.item).verdict }) (sym c.in_ok-seqno.ensures.seqno)
    ∙ ap (λ v. record { seqno = c.in_ok-seqno.seqno; item = c.args.item; verdict = v }) (sym c.in_ok-seqno.ensures.verdict)

pub returns-clause-goes_on : goal.returns-clause-goes_on
returns-clause-goes_on c first items has =
    subst (λ (j : Judged). HasJudged first (items ++ j ∷ []) c.admit_item.new.self.current) (judged_is c)
    (judged_on c.judging_goes_on.ensures first items c.args.certifier.now.current c.admit_item.new.self.current c.args.item has c.in_ok-seqno.ensures.admitted c.certifiers_hold_windows.ensures c.limits.ensures)

pub returns-clause-legal : goal.returns-clause-legal
returns-clause-legal c first items has legal =
    subst (λ (j : Judged). Legal first (items ++ j ∷ [])) (judged_is c)
    (legal_more c.judging_goes_on.ensures first items c.args.certifier.now.current c.admit_item.new.self.current c.args.item has c.in_ok-seqno.ensures.admitted legal)

pub returns-clause-placed : goal.returns-clause-placed
returns-clause-placed c =
    let h = c.args.certifier.now.current in
    let left : h.delivered < MAX_SEQNO = elim (cases_lt h.delivered MAX_SEQNO) [ inl lt ↦ lt | inr le ↦ absurd (let never : false ≡ true = c.in_ok-seqno.ensures.exhausted.1 le in cc) ] in
    subst (λ (j : Judged). is_placed j ≡ true) (judged_is c) (placed_next c.verdicts_have_a_place.ensures h c.args.item left)
