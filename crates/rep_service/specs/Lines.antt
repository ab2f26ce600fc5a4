-- The lines that a node which follows an order answers by (this project).
use Rattle.std.specs.Prelude.{ℕ, List, [], ◌∷◌, ◌++◌, codes, Option, None, Some}
use Rattle.std.specs.List.{flat_map}
use Rattle.std.specs.Fmt.{decimal}
use Rattle.hex.specs.Hex.{encode_lower}
use Rattle.rep_types.specs.declared.key.Key.{Key}
use Rattle.rep_follow.specs.declared.counts.Counts.{Counts}
use Rattle.rep_service.specs.declared.counters.Level.{Level}

-- how a key is written: its table, a slash, and its row, without zeros in front
abbrev pub key_text : Key → List ℕ
key_text key = decimal key.table ++ (47 ∷ decimal key.row)

-- how a row is written: its key, and an equals sign and its bytes as hexadecimal digits, or a hyphen where it is absent
abbrev pub row_text : Key → Option (List ℕ) → List ℕ
row_text key None = key_text key ++ 45 ∷ []
row_text key (Some bytes) = key_text key ++ (61 ∷ encode_lower bytes)

-- a space and the row
abbrev pub row_part : Key × Option (List ℕ) → List ℕ
row_part x = 32 ∷ row_text x.0 x.1

-- the line of rows that were read at one position
abbrev pub rows_line : ℕ → List (Key × Option (List ℕ)) → List ℕ
rows_line at rows = (codes "rows " ++ decimal at) ++ (flat_map row_part rows ++ 10 ∷ [])

-- a number behind its name
abbrev pub named : List ℕ → ℕ → List ℕ
named name number = 32 ∷ (name ++ (32 ∷ decimal number))

-- what a node has at the moment: how many items were delivered to it, how many of these are durable, the position of its base, and how many of
-- the cells of its log are live
abbrev pub level_part : Level → List ℕ
level_part l =
    named (codes "delivered") l.delivered ++ (named (codes "durable") l.durable ++ (named (codes "base") l.base ++ (named (codes "cells-live") l.cells_live ++ named (codes "cells") l.cells)))

-- what it did since its opening; its device counts the syncs
abbrev pub work_part : ℕ → Counts → List ℕ
work_part syncs c = named (codes "items") c.items ++ (named (codes "blocks") c.blocks ++ (named (codes "syncs") syncs ++ named (codes "checkpoints") c.checkpoints))

-- the verdicts on its items, and how many of them were no texts of items
abbrev pub verdict_part : Counts → List ℕ
verdict_part c =
    named (codes "commit") c.commit ++ (named (codes "conflict") c.conflict ++ (named (codes "stale") c.stale ++ (named (codes "future") c.future ++ (named (codes "badkey") c.badkey
    ++ named (codes "unreadable") c.unreadable))))

-- the line of counters
abbrev pub counters_line : Level → Counts → List ℕ
counters_line l c = codes "counters" ++ (level_part l ++ (work_part l.syncs c ++ (verdict_part c ++ 10 ∷ [])))

-- the line of an item at or below the base
abbrev pub old_line : ℕ → List ℕ
old_line seqno = codes "old " ++ (decimal seqno ++ 10 ∷ [])
