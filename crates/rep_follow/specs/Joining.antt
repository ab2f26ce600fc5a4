-- How parts of a life of a node that follows an order are joined.
use Rattle.std.specs.Prelude.{◌≡◌, ℕ, ◌≤◌, List, [], ◌++◌, length, map, take, drop, Option, Result, Ok}
use Rattle.rep_types.specs.declared.item.Item.{Item}
use Rattle.rep_types.specs.declared.key.Key.{Key}
use Rattle.rep_types.specs.declared.refusal.Refusal.{Refusal}
use Rattle.rep_types.specs.declared.reply.Reply.{Reply}
use Rattle.rep_types.specs.Replies.{reply_of}
use Rattle.rep_types.specs.Order.{Order, history}
use Rattle.rep_disk.specs.declared.disk.Disk.{Ghosts}
use Rattle.rep_steps.specs.declared.event.Event.TheVariants.{Read}
use Rattle.rep_steps.specs.declared.answer.Answer.{Answer}
use Rattle.rep_steps.specs.Nodes.{Node}
use Rattle.rep_steps.specs.Orders.{IsOf}
use Rattle.rep_replica.specs.Replicas.{Replica, facts_of}
use Rattle.rep_replica.specs.Holding.{Holds, IsStep}
use Rattle.rep_replica.specs.Asking.{IsAsked}
use Rattle.rep_follow.specs.declared.counts.Counts.{Counts}
use Rattle.rep_follow.specs.Counting.{HasCounters}
use Rattle.rep_follow.specs.Committing.{Follows, Goes}

-- A part of a life that began at a node of the order leads to one of the order with the items that were delivered, of the same cluster and under the
-- same parameters. And wherever the order goes on, the receipts are the replies to its items behind those that were durable, in order and each once.
pub record KeepsTheOrder {D : Type 0} (g : Ghosts D) (L : Order) (items : List Item) (receipts : List Reply) (n : Node) (old new : Replica D) : Type 0 where
  pub node : Node
  pub holds : Holds g node new
  pub of : IsOf (L ++ items) node
  pub uuid_is : node.facts.uuid ≡ n.facts.uuid
  pub setting_is : node.facts.setting ≡ n.facts.setting
  pub within : (facts_of g new).durable ≤ length (L ++ items)
  pub replied : (rest : Order) → receipts ≡ map reply_of (take (length receipts) (drop (facts_of g old).durable (history n.facts.setting ((L ++ items) ++ rest))))

-- Where nothing was done, nothing was delivered and no reply given; nor where the device was asked and nothing else was done, or a row was read. And
-- two parts, the second from where the first led, are one: of the items of both, and the receipts of both. Each keeps the order.
pub record PartsAreJoined {D : Type 0} (g : Ghosts D) : Type 0 where
  pub none : (r : Replica D) → Follows g r r [] []
  pub asked : (old new : Replica D) → IsAsked g old new → Follows g old new [] []
  pub read : (old new : Replica D) (key : Key) (position : ℕ) (a : Answer) → IsStep g old (Read key position) a new → Follows g old new [] []
  pub both : (old mid new : Replica D) (items more : List Item) (first behind : List Reply) → Follows g old mid items first → Follows g mid new more behind → Follows g old new (items ++ more) (first ++ behind)
  pub order : (old new : Replica D) (items : List Item) (receipts : List Reply) → Follows g old new items receipts → (n : Node) (L : Order) → Holds g n old → IsOf L n → KeepsTheOrder g L items receipts n old new

-- The same of what is told and counted: nothing is, where the device was asked or a row was read.
pub record GoingIsJoined {D : Type 0} (g : Ghosts D) : Type 0 where
  pub none : (r : Replica D) (counts : Counts) (text : Option (List ℕ)) → HasCounters counts → Goes g r r [] [] counts counts text text (Ok tt)
  pub asked : (old new : Replica D) (counts : Counts) (text : Option (List ℕ)) → HasCounters counts → IsAsked g old new → Goes g old new [] [] counts counts text text (Ok tt)
  pub read : (old new : Replica D) (key : Key) (position : ℕ) (a : Answer) (counts : Counts) (text : Option (List ℕ)) → HasCounters counts → IsStep g old (Read key position) a new
      → Goes g old new [] [] counts counts text text (Ok tt)
  pub both : (old mid new : Replica D) (items more : List Item) (lines behind : List (List ℕ)) (was between now : Counts) (before written after : Option (List ℕ)) (result : Result (Unit {0}) Refusal) → Goes g old mid items lines was between before written (Ok tt)
      → Goes g mid new more behind between now written after result → Goes g old new (items ++ more) (lines ++ behind) was now before after result
