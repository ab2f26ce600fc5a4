use Rattle.std.proofs.Common.{arith, length-take}
use Rattle.rep_script.proofs.saved_file.parse_within.Goals as goal

pub slice_bounds-front-end : goal.slice_bounds-front-end
slice_bounds-front-end c = omega (arith, length-take 67108864 c.args.text.now, c.if-text-le-MAX_TEXT.false)
