-- What an engine has taken of the one history (this project).
use Rattle.std.specs.Prelude.{◌≡◌, ℕ, ◌+◌, ◌-◌, ◌≤◌, List, [], ◌++◌, length, map, take, drop, IsTrue}
use Rattle.uuid.specs.Parts.{is_nil_bytes}
use Rattle.rep_types.specs.declared.judged.Judged.{Judged}
use Rattle.rep_types.specs.declared.limits.TheConstants.{MAX_SEQNO, MAX_AHEAD}
use Rattle.rep_types.specs.declared.reply.Reply.{Reply}
use Rattle.rep_types.specs.Replies.{reply_of}
use Rattle.rep_disk.specs.declared.disk.Disk.{Ghosts}
use Rattle.rep_cert.specs.Holdings.{Holding, IsAskable, window_of}
use Rattle.rep_steps.specs.declared.event.Event.{Event}
use Rattle.rep_steps.specs.declared.event.Event.TheVariants.{Deliver, SetWindow, Log, Sync, Check, Flush, Read}
use Rattle.rep_steps.specs.declared.answer.Answer.{Answer}
use Rattle.rep_steps.specs.declared.answer.Answer.TheVariants.{Synced}
use Rattle.rep_steps.specs.Moves.{Moves}
use Rattle.rep_steps.specs.Nodes.{Node, Steps, reached, window_at}
use Rattle.rep_steps.specs.Images.{AreJudgedFrom}
use Rattle.rep_engine.specs.Engines.{Engine, IsEngine, facts_of, durable_of}
use Rattle.rep_engine.specs.Accepting.{ComeNext}
use Rattle.rep_engine.specs.Holding.{Holds}
use Rattle.rep_engine.specs.Checking.{HoldsWindow, HoldsWindows}
use Rattle.rep_stations.specs.Judging.{Legal, HasJudged}

-- The node m is n with these items behind its own, its base moved past some of them all.
pub record GoesOn (n : Node) (items : List Judged) (m : Node) : Type 0 where
  pub setting : m.facts.setting ≡ n.facts.setting
  pub uuid : m.facts.uuid ≡ n.facts.uuid
  pub past : ℕ
  pub within : past ≤ length (n.items ++ items)
  pub base : m.base ≡ reached n.facts.setting n.base (take past (n.items ++ items))
  pub rest : m.items ≡ drop past (n.items ++ items)

-- The node stands for what the first engine and the first certifier held, on an honest device: its items were judged, as many as the
-- certifier came to, and the certifier's windows from the base on are the node's.
pub record StartsAs {D : Type 0} (g : Ghosts D) (first : Engine D) (c : Holding) (n : Node) : Type 0 where
  pub engine : Holds g n first
  pub setting : n.facts.setting ≡ c.setting
  pub judged : AreJudgedFrom n.facts.setting n.base n.items
  pub made : c.made ≤ c.delivered
  pub count : c.delivered ≡ n.base.position + length n.items
  pub windows : (k : ℕ) → n.base.position ≤ k → IsAskable c k → window_of c k ≡ window_at n k

-- The engine has taken these items behind what the first certifier had come to, and nothing else: those that are durable and, behind them,
-- its block. On an honest device it stands for each node that the first engine and the first certifier stood for, with these items; so
-- it does once its device failed.
pub record HasTaken {D : Type 0} (g : Ghosts D) (first : Engine D) (c : Holding) (items : List Judged) (e : Engine D) : Type 0 where
  pub setting : e.checkpoint.base.params ≡ c.setting
  pub uuid : e.checkpoint.base.uuid ≡ first.checkpoint.base.uuid
  pub rises : c.delivered ≤ durable_of e.log
  pub count : durable_of e.log + length e.block ≡ c.delivered + length items
  pub block : e.block ≡ drop (durable_of e.log - c.delivered) items
  pub stands : (n : Node) → StartsAs g first c n → (m : Node) × GoesOn n items m × Holds g m e

-- Whatever an engine has taken of a legal history that goes on with what waits, it has then taken so many more.
abbrev pub TakesMore : {D : Type 0} → Ghosts D → Engine D → List Judged → ℕ → Engine D → Type 0
TakesMore {D} g old waits count new =
    (first : Engine D) (c : Holding) (items : List Judged) → HasTaken g first c items old → Legal c (items ++ waits) → HasTaken g first c (items ++ take count waits) new

-- ---- what the other calls keep

-- an engine's events: all but a delivery
abbrev pub IsOfAnEngine : Event → Type 0
IsOfAnEngine (Deliver seqno w) = ⊥
IsOfAnEngine (SetWindow seqno size source trx) = ⊥
IsOfAnEngine Log = Unit {0}
IsOfAnEngine Sync = Unit {0}
IsOfAnEngine Check = Unit {0}
IsOfAnEngine (Flush page) = Unit {0}
IsOfAnEngine (Read key at) = Unit {0}

-- and those of them that make nothing durable
abbrev pub MakesNothingDurable : Event → Type 0
MakesNothingDurable (Deliver seqno w) = ⊥
MakesNothingDurable (SetWindow seqno size source trx) = ⊥
MakesNothingDurable Log = Unit {0}
MakesNothingDurable Sync = ⊥
MakesNothingDurable Check = Unit {0}
MakesNothingDurable (Flush page) = Unit {0}
MakesNothingDurable (Read key at) = Unit {0}

-- what holds of every engine
abbrev pub IsAnEngine : {D : Type 0} → Engine D → Type 0
IsAnEngine e = IsEngine e.layout e.checkpoint e.log e.kept e.block

-- What an engine has taken it has still taken after each of its steps, whatever the device did. A check is lent a certifier that has judged
-- these items and perhaps more, and is not too far ahead: it holds the window that a check asks for. A sync that succeeds makes as many
-- items of the block durable as it gives replies, those of its front, and no other step makes anything durable. And what waits in a legal
-- history comes next at the engine.
pub record TakenItemsStay {D : Type 0} (g : Ghosts D) : Type 0 where
  pub step : (old new : Engine D) (e : Event) (a : Answer) → IsOfAnEngine e → IsAnEngine old → Moves (facts_of g old) e a (facts_of g new)
      → ((n : Node) → Holds g n old → (m : Node) × Steps n e a m × Holds g m new)
      → (first : Engine D) (c : Holding) (items : List Judged) → HasTaken g first c items old → HasTaken g first c items new
  pub check : (old new : Engine D) (a : Answer) (h : Holding) → IsAnEngine old → Moves (facts_of g old) Check a (facts_of g new)
      → ((n : Node) → Holds g n old → window_of h (durable_of old.log) ≡ window_at n n.facts.durable → (m : Node) × Steps n Check a m × Holds g m new)
      → (first : Engine D) (c : Holding) (items more : List Judged) → HasJudged c (items ++ more) h → h.delivered ≤ durable_of old.log + MAX_AHEAD
      → HasTaken g first c items old → HasTaken g first c items new
  pub window : (e : Engine D) (h : Holding) (first : Engine D) (c : Holding) (items more : List Judged) → HasJudged c (items ++ more) h → h.delivered ≤ durable_of e.log + MAX_AHEAD
      → HoldsWindows c → HasTaken g first c items e → HoldsWindow e.checkpoint.base.params (durable_of e.log) h
  pub synced : (old new : Engine D) (replies : List Reply) → IsAnEngine old → Moves (facts_of g old) Sync (Synced replies) (facts_of g new)
      → (durable_of new.log ≡ durable_of old.log + length replies) × (replies ≡ map reply_of (take (length replies) old.block))
  pub still : (old new : Engine D) (e : Event) (a : Answer) → MakesNothingDurable e → Moves (facts_of g old) e a (facts_of g new) → durable_of new.log ≡ durable_of old.log
  pub comes : (first e : Engine D) (c : Holding) (items waits : List Judged) → HasTaken g first c items e → Legal c (items ++ waits) → c.delivered + length (items ++ waits) ≤ MAX_SEQNO
      → (IsTrue (is_nil_bytes first.checkpoint.base.uuid) → waits ≡ []) → ComeNext (facts_of g e) waits
