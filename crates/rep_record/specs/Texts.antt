-- The texts that are written.
use Rattle.std.specs.Prelude.{ℕ, List, [], ◌∷◌, ◌++◌}
use Rattle.std.specs.Fmt.{decimal}
use Rattle.rep_types.specs.declared.verdict.Verdict.{Verdict}
use Rattle.rep_types.specs.Texts.{verdict_text}

-- A verdict's line: the seqno, a space, the verdict, a line feed.
abbrev pub verdict_line : ℕ → Verdict → List ℕ
verdict_line seqno verdict = decimal seqno ++ (32 ∷ verdict_text verdict ++ 10 ∷ [])
