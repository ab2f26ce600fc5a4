use Rattle.std.proofs.Common.{◌-◌, length, arith}
use Rattle.std.proofs.lemmas.List.{take_rest}
use Rattle.rep_forms.proofs.Blanks.{ends_blank}
use Rattle.rep_forms.proofs.numbers.are_few_blank.Goals as goal

pub returns-then-size-ge32 : goal.returns-then-size-ge32
returns-then-size-ge32 c = rw (c.is_block_blank.ensures, c.is_block_blank-then-size-ge32.ensures, take_rest c.args.bytes.now (length c.args.bytes.now - 32)) (ends_blank 32 c.args.bytes.now (omega arith) (omega arith))

pub returns-then-size-ge16 : goal.returns-then-size-ge16
returns-then-size-ge16 c = rw (c.is_pair_blank.ensures, c.is_pair_blank-then-size-ge16.ensures, take_rest c.args.bytes.now (length c.args.bytes.now - 16)) (ends_blank 16 c.args.bytes.now (omega arith) (omega arith))

pub returns-then-size-ge8 : goal.returns-then-size-ge8
returns-then-size-ge8 c = rw (c.is_word_blank.ensures, c.is_word_blank-then-size-ge8.ensures, take_rest c.args.bytes.now (length c.args.bytes.now - 8)) (ends_blank 8 c.args.bytes.now (omega arith) (omega arith))
