use Rattle.std.proofs.Common.{rules}
use Rattle.rep_forms.specs.Forms.{number}
use Rattle.rep_forms.specs.FormLaws.{number_is_form}
use Rattle.rep_transfer.proofs.Wholes.{other_size, spelled_2, spelled_whole}
use Rattle.rep_transfer.proofs.pieces.U16Piece.of.Goals as goal

pub returns-in_err-ok : goal.returns-in_err-ok
returns-in_err-ok c = other_size 2 c.args.bytes.now c.from_residual.result (λ size. search rules) (search rules)

pub returns : goal.returns
returns c = spelled_whole (number 2) (number_is_form 2) c.args.bytes.now c.from_be_bytes.result (search rules) (spelled_2 c.args.bytes.now c.from_be_bytes.result (search rules) (search rules) (search rules))
