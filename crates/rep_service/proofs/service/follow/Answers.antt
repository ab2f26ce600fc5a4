use Rattle.std.proofs.Common.{[], Err, ap, refl}
use Rattle.rep_lines.specs.Feeds.{ahead}
use Rattle.rep_service.specs.Serving.{is_of_line}
use Rattle.rep_service.proofs.Orders.{order_ended, order_behind, text_not, text_follows}
use Rattle.rep_service.proofs.Closing.{at_the_end}
use Rattle.rep_follow.proofs.Noting.{source_kept, writer_kept}
use Rattle.rep_service.proofs.Noting.{by_either, ends_behind}
use Rattle.rep_service.proofs.service.follow.Goals as goal

pub returns-in-Err-follow_order-clause-notes : goal.returns-in-Err-follow_order-clause-notes
returns-in-Err-follow_order-clause-notes g c =
    let source = g.R.Source.failed in
    let writer = g.W.Sink.failed in
    let opened = c.in-Ok.ensures.notes in
    let behind = by_either (Unit {0}) (Unit {0}) (source c.args.source.now) (source c.open_order.new.source) (source c.follow_order.new.source) (writer c.args.writer.now) (writer c.open_order.new.writer) (writer c.follow_order.new.writer) c.in-Err-follow_order.refusal
    (source_kept (source c.args.source.now) (source c.open_order.new.source) (writer c.args.writer.now) (writer c.open_order.new.writer) c.in-Ok.position opened)
    (writer_kept (source c.args.source.now) (source c.open_order.new.source) (writer c.args.writer.now) (writer c.open_order.new.writer) c.in-Ok.position opened) c.in-Err-follow_order.ensures.notes in
    ends_behind (Unit {0}) (Unit {0}) (source c.args.source.now) (source c.follow_order.new.source) (writer c.args.writer.now) (writer c.follow_order.new.writer) (writer c.end_behind.new.writer) c.in-Err-follow_order.refusal c.end_behind.result behind
    c.end_behind.ensures.line (λ is. (let other = c.end_behind.ensures.other is in (other.0, ap writer other.2)))

pub returns-in-Err-clause-lives : goal.returns-in-Err-clause-lives
returns-in-Err-clause-lives g c = text_not g.D.Disk c.args.replica.now (ahead [] (g.R.Source.remaining c.args.source.now)) _ _ _ _ _ c.in-Err.refusal (rw c.new-input.ensures.feed at (rw c.new-input.ensures.number at c.in-Err.ensures.opens))

pub returns-in-Ok-follow_order-clause-lives : goal.returns-in-Ok-follow_order-clause-lives
returns-in-Ok-follow_order-clause-lives g c =
    let rest = g.R.Source.remaining in
    let opens = rw c.new-input.ensures.feed at (rw c.new-input.ensures.number at c.in-Ok.ensures.opens) in
    let order = c.in-Ok-follow_order.ensures.lives in
    let closed = c.end_text.ensures.lives (order.lives.rests c.requires.rests) in
    text_follows g.D.Disk c.in-Ok.position c.args.replica.now c.end_text.new.replica _ _ _ _ _ _ _ _ closed.0 c.end_text.result opens c.in-Ok.ensures.within
    (order_ended g.D.Disk c.parts_are_joined.ensures c.in-Ok.position c.args.replica.now c.follow_order.new.replica c.end_text.new.replica _ _ _ _ _ closed.0 c.end_text.result c.end_text.ensures.own order closed.1)
    (at_the_end _ c.follow_order.new.input.feed (rest c.follow_order.new.source) c.end_text.result _ (λ cut. (c.end_text.ensures.ends.cut cut).0) c.in-Ok-follow_order.ensures.ended.1 closed.2)

pub returns-in-Err-follow_order-clause-lives : goal.returns-in-Err-follow_order-clause-lives
returns-in-Err-follow_order-clause-lives g c =
    let opens = rw c.new-input.ensures.feed at (rw c.new-input.ensures.number at c.in-Ok.ensures.opens) in
    let e = c.in-Err-follow_order.refusal in
    let behind = order_behind g.D.Disk c.parts_are_joined.ensures c.in-Ok.position c.args.replica.now c.follow_order.new.replica c.end_behind.new.replica _ _ _ _ _ e c.end_behind.result (is_of_line e) refl c.in-Err-follow_order.ensures.lives c.end_behind.ensures.own c.end_behind.ensures.lives
    (λ is. (let other = c.end_behind.ensures.other is in (other.0, other.1, ap g.W.Sink.contents other.2))) in
    text_follows g.D.Disk c.in-Ok.position c.args.replica.now c.end_behind.new.replica _ _ _ _ _ _ _ _ behind.0 (Err c.end_behind.result) opens c.in-Ok.ensures.within behind.1 tt
