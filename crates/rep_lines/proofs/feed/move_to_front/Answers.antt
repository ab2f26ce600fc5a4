use Rattle.std.proofs.Common.{◌∙◌, ap, arith, take}
use Rattle.rep_lines.proofs.Ranges.{moved}
use Rattle.rep_lines.proofs.feed.move_to_front.Goals as goal

pub returns-clause-front : goal.returns-clause-front
returns-clause-front c =
    ap (take c.min.result) c.copy_within.ensures.after
    ∙ moved c.args.buffer.now c.args.start c.args.end c.min.result c.requires.order (omega (arith, c.requires.within, c.told-buffer)) c.min.ensures
