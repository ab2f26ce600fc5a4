-- The lines of receipts (this project).
use Rattle.std.specs.Prelude.{ℕ, List, [], ◌∷◌, ◌++◌}
use Rattle.std.specs.Fmt.{decimal}
use Rattle.std.specs.List.{flat_map}
use Rattle.rep_types.specs.declared.reply.Reply.{Reply}
use Rattle.rep_types.specs.Texts.{verdict_text}

-- the line of a receipt: the seqno, the verdict, and the labels of its item
abbrev pub receipt_line : Reply → List ℕ
receipt_line r = decimal r.seqno ++ (32 ∷ verdict_text r.verdict ++ (32 ∷ decimal r.source ++ (58 ∷ decimal r.trx ++ 10 ∷ [])))

abbrev pub receipt_lines : List Reply → List ℕ
receipt_lines receipts = flat_map receipt_line receipts
