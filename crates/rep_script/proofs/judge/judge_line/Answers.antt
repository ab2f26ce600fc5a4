use Rattle.std.proofs.Common.{◌≡◌, ◌+◌, ◌∙◌, ◌++◌, [], ◌∷◌, length, cond, None, Some, Ok, Err, refl, sym, ap, subst}
use Rattle.rep_types.specs.Settings.{Setting}
use Rattle.rep_types.proofs.Choices.{renewed, not_renewed}
use Rattle.std.proofs.KnownBytes.{Appends-nil}
use Rattle.rep_record.specs.Reading.{order_line}
use Rattle.rep_script.specs.Judging.{Delivered, JudgesLine, content}
use Rattle.rep_script.proofs.LineEnds.{judges_item}
use Rattle.rep_script.proofs.judge.judge_line.Goals as goal

pub returns-clause-judged : goal.returns-clause-judged
returns-clause-judged g c L follows =
    let held = g.W.Sink.contents in
    let old = c.args.certifier.now.current in
    let new = c.admit_item.new.self.current in
    let i = c.renew_order_line.new.item in
    let more = L ++ i ∷ [] in
    let said : content order_line c.args.number c.args.line.now ≡ Some (Ok i) =
    ap (λ blank. cond blank None (Some (order_line c.args.number c.args.line.now))) (sym c.is_blank.ensures.value ∙ c.if-is_blank.false)
    ∙ ap Some (sym (renewed (order_line c.args.number c.args.line.now) c.args.item.now i c.renew_order_line.result c.renew_order_line.ensures.value c.in_default.is)) in
    let admits = rw c.in_ok-seqno.was at c.admit_item.ensures.admitted in
    let taken : Setting → Delivered = λ s. record { setting = s; order = more } in
    let numbered : c.in_ok-seqno.seqno ≡ length L + 1 = c.in_ok-seqno.ensures.seqno ∙ ap (λ n. n + 1) follows.delivered in (
      more,
      c.follows_on.ensures old new i L follows admits,
      judges_item (record { setting = old.setting; order = L }) (record { setting = new.setting; order = more }) (content order_line c.args.number c.args.line.now) i c.in_ok-seqno.seqno
          c.in_ok-seqno.verdict c.write_verdict.result (held c.args.writer.now) (held c.write_verdict.new.writer) said (ap taken admits.setting) numbered
          (c.in_ok-seqno.ensures.verdict ∙ c.judges_as_the_order.ensures old i L follows) c.write_verdict.ensures.ok c.write_verdict.ensures.cut c.write_verdict.ensures.err,
    )

pub returns-in-Err-clause-judged : goal.returns-in-Err-clause-judged
returns-in-Err-clause-judged g c L follows =
    let node : Delivered = record { setting = c.args.certifier.now.current.setting; order = L } in
    let written = g.W.Sink.contents c.args.writer.now in
    let said : content order_line c.args.number c.args.line.now ≡ Some (Err c.in-Err.refusal) =
    ap (λ blank. cond blank None (Some (order_line c.args.number c.args.line.now))) (sym c.is_blank.ensures.value ∙ c.if-is_blank.false)
    ∙ ap Some (sym (not_renewed (order_line c.args.number c.args.line.now) c.args.item.now c.renew_order_line.new.item c.renew_order_line.result c.in-Err.refusal c.renew_order_line.ensures.value c.in-Err.is)) in
    (L, follows, subst (λ line. JudgesLine node line (Err c.in-Err.refusal) node written written) (sym said) (refl, Appends-nil written))
