-- How the judging of one line ends.
use Rattle.std.proofs.Common.{◌≡◌, ℕ, ◌+◌, List, [], ◌∷◌, ◌++◌, length, take, Option, Some, Result, Ok, Err, OnOk, OnErr, IfErr, ap, ◌∙◌, subst}
use Rattle.std.specs.Io.KnownBytes.{Appends}
use Rattle.rep_types.specs.declared.item.Item.{Item}
use Rattle.rep_types.specs.declared.refusal.Refusal.{Refusal}
use Rattle.rep_types.specs.declared.refusal.Refusal.TheVariants.{StreamFault}
use Rattle.rep_types.specs.declared.verdict.Verdict.{Verdict}
use Rattle.rep_types.specs.Order.{verdict}
use Rattle.rep_record.specs.Texts.{verdict_line}
use Rattle.rep_script.specs.Judging.{Delivered, JudgesLine, next_verdict_line}

-- the item was delivered, and its verdict line was written as far as the writer took it
pub judges_item : (old new : Delivered) (c : Option (Result Item Refusal)) (i : Item) (seqno : ℕ) (v : Verdict) (result : Result (Unit {0}) Refusal) (before after : Option (List ℕ)) →
    c ≡ Some (Ok i) → new ≡ record old { order = old.order ++ i ∷ [] } → seqno ≡ length old.order + 1 → v ≡ verdict old.setting (old.order ++ i ∷ []) (length old.order + 1) →
    OnOk result (Appends before after (verdict_line seqno v)) → OnErr result ((k : ℕ) × Appends before after (take k (verdict_line seqno v))) →
    IfErr result (λ e. e ≡ StreamFault) → JudgesLine old c result new before after
judges_item old new c i seqno v (Ok _) before after is grown numbered judged ok cut err =
    let line_is : verdict_line seqno v ≡ next_verdict_line old i = ap (λ n. verdict_line n v) numbered ∙ ap (verdict_line (length old.order + 1)) judged in
    rw is (grown, subst (Appends before after) line_is ok)
judges_item old new c i seqno v (Err e) before after is grown numbered judged ok cut err =
    let line_is : verdict_line seqno v ≡ next_verdict_line old i = ap (λ n. verdict_line n v) numbered ∙ ap (verdict_line (length old.order + 1)) judged in
    rw (is, err) (cut.0, subst (λ line. Appends before after (take cut.0 line)) line_is cut.1)
