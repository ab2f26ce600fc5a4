use Rattle.std.proofs.Common.{sym, ◌∙◌}
use Rattle.rep_requests.proofs.Unread.{one_read}
use Rattle.rep_requests.proofs.texts.is_unreadable.Goals as goal

pub returns-else-eq : goal.returns-else-eq
returns-else-eq c number seqno said =
    let other = rw c.no_effect.ensures.value at (sym c.eq.ensures ∙ c.if-eq.false) in
    c.if-eq.false ∙ sym (one_read number c.args.line.now seqno c.args.item.now said other)
