-- What an order says of the lines that a node writes which follows it.
use Rattle.std.specs.Prelude.{◌≡◌, ℕ, pos, negsuc, ◌+◌, if◌then◌else◌, List, [], ◌∷◌, ◌++◌, length, take, drop, Option, None, Some}
use Rattle.uuid.specs.Parts.{is_nil_bytes}
use Rattle.rep_types.specs.declared.item.Item.{Item}
use Rattle.rep_types.specs.declared.judged.Judged.{Judged}
use Rattle.rep_types.specs.Gtids.{Gtid}
use Rattle.rep_types.specs.Replies.{reply_of}
use Rattle.rep_types.specs.Settings.{Setting}
use Rattle.rep_types.specs.Order.{Order, history, window, state}
use Rattle.rep_disk.specs.declared.disk.Disk.{Ghosts}
use Rattle.rep_steps.specs.Nodes.{Node}
use Rattle.rep_steps.specs.Orders.{IsOf}
use Rattle.rep_replica.specs.Replicas.{Replica, facts_of}
use Rattle.rep_replica.specs.Holding.{Holds}
use Rattle.rep_sum.specs.Sums.{sum_of, keys_read}
use Rattle.rep_service.specs.Rows.{rows_of}
use Rattle.rep_service.specs.Saying.{Said, Receipt, Rows, Summed, State, Limits, Counters, receipt_in}

-- the GTID of a node of this cluster, by what is durable; one of no cluster has the seqno -1
abbrev pub gtid_at : List ℕ → ℕ → Gtid
gtid_at uuid at = record { uuid = uuid; seqno = if is_nil_bytes uuid then negsuc 0 else pos at }

-- the position that was asked for, or what is durable
abbrev pub position_asked : ℕ → Option ℕ → ℕ
position_asked at None = at
position_asked at (Some position) = position

-- What is said where so many items of the order are durable. A receipt is the reply to the next item; rows, the state and the limits are those of the
-- order there; a sum is that of the state at its position; and the counters tell the position.
abbrev pub IsTold : List ℕ → Setting → Order → ℕ → Said → Type 0
IsTold uuid p L at (Receipt r) = (j : Judged) × (take 1 (drop at (history p L)) ≡ j ∷ []) × (r ≡ reply_of j)
IsTold uuid p L at (Rows position rows) = (position ≡ at) × (rows ≡ rows_of p L (keys_read rows) at)
IsTold uuid p L at (Summed asked sum) = sum ≡ sum_of uuid p.rows (state p (take (position_asked at asked) L))
IsTold uuid p L at (State gtid base entries) = (gtid ≡ gtid_at uuid at) × (entries ≡ (window p (take at L)).entries)
IsTold uuid p L at (Limits limits) = limits ≡ window p (take at L)
IsTold uuid p L at (Counters level counts) = level.durable ≡ at
IsTold uuid p L at said = Unit {0}

-- So it is with lines one after another: with each receipt one item more is durable.
abbrev pub AreTold : List ℕ → Setting → Order → ℕ → List Said → Type 0
AreTold uuid p L at [] = Unit {0}
AreTold uuid p L at (one ∷ said) = IsTold uuid p L at one × AreTold uuid p L (at + length (receipt_in one)) said

-- So it is of a replica that stands for a node of an order: in each order that goes on behind the items that were delivered.
abbrev pub TellsTheOrder : {D : Type 0} → Ghosts D → Replica D → List Item → List Said → Type 0
TellsTheOrder g old items said =
    (n : Node) (L rest : Order) → Holds g n old → IsOf L n → AreTold n.facts.uuid n.facts.setting ((L ++ items) ++ rest) (facts_of g old).durable said
