-- What of the one history waits for the engine, and how histories go on (this project).
use Rattle.std.specs.Prelude.{◌≡◌, ℕ, ◌+◌, ◌-◌, ◌≤◌, true, List, [], ◌∷◌, ◌++◌, length, drop}
use Rattle.rep_types.specs.declared.judged.Judged.{Judged}
use Rattle.rep_record.specs.Records.{is_placed}
use Rattle.rep_cert.specs.Holdings.{Holding}
use Rattle.rep_replica.specs.Replicas.{ArePlaced}
use Rattle.rep_stations.specs.Judging.{Legal}

-- Of these items, behind what the first certifier had come to, those behind the seqno wait: it is the last that the engine has taken.
pub record Waits (first : Holding) (items : List Judged) (seqno : ℕ) (backlog : List Judged) : Type 0 where
  pub least : first.delivered ≤ seqno
  pub most : seqno ≤ first.delivered + length items
  pub rest : backlog ≡ drop (seqno - first.delivered) items

-- A front of a legal history is one, and so it is with places in blocks; nothing waits at the start; an item that joins the history and is
-- pushed waits behind the others; and what the engine takes of their front waits no more. As many wait as there are seqnos behind the
-- last that was taken; and those that the engine has taken and those that wait are the history.
pub record HistoriesGoOn : Type 0 where
  pub legal_front : (first : Holding) (front rest : List Judged) → Legal first (front ++ rest) → Legal first front
  pub placed_front : (front rest : List Judged) → ArePlaced (front ++ rest) → ArePlaced front
  pub placed_more : (items : List Judged) (j : Judged) → ArePlaced items → is_placed j ≡ true → ArePlaced (items ++ j ∷ [])
  pub nothing_waits : (first : Holding) → Waits first [] first.delivered []
  pub pushed : (first : Holding) (items : List Judged) (seqno : ℕ) (backlog : List Judged) (j : Judged) → Waits first items seqno backlog → Waits first (items ++ j ∷ []) seqno (backlog ++ j ∷ [])
  pub taken : (first : Holding) (items : List Judged) (seqno count : ℕ) (backlog : List Judged) → count ≤ length backlog → Waits first items seqno backlog → Waits first items (seqno + count) (drop count backlog)
  pub count : (first : Holding) (items : List Judged) (seqno : ℕ) (backlog : List Judged) → Waits first items seqno backlog → seqno + length backlog ≡ first.delivered + length items
  pub meets : (first : Holding) (front rest : List Judged) (seqno : ℕ) (backlog : List Judged) → Waits first (front ++ rest) seqno backlog → seqno ≡ first.delivered + length front → backlog ≡ rest
