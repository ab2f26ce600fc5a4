-- Reads beside a node that runs: what a reader is, and what is said of a row.
use Rattle.std.specs.Prelude.{◌≡◌, ◌⊎◌, ℕ, ◌+◌, ◌<◌, ◌≤◌, ◌∷◌, [], ◌++◌, false, List, length, Option, None, Some, Result, Ok, Err}
use Rattle.rep_types.specs.declared.key.Key.{Key}
use Rattle.rep_types.specs.declared.judged.Judged.{Judged}
use Rattle.rep_types.specs.declared.refusal.Part.TheVariants.{Pages}
use Rattle.rep_types.specs.declared.refusal.Refusal.{Refusal}
use Rattle.rep_types.specs.declared.refusal.Refusal.TheVariants.{DiskFault, Stopped, TooOld, NotYet, BadKey, Corrupt, Closed}
use Rattle.rep_types.specs.Settings.{Setting, has_row}
use Rattle.rep_types.specs.Order.{Order, items_of, read}
use Rattle.rep_disk.specs.declared.disk.Disk.{Ghosts}
use Rattle.rep_cert.specs.Holdings.{Holding, Holdings}
use Rattle.rep_steps.specs.declared.event.Event.TheVariants.{Read}
use Rattle.rep_steps.specs.Moves.{Moves}
use Rattle.rep_steps.specs.Nodes.{Node}
use Rattle.rep_steps.specs.Orders.{IsOf}
use Rattle.rep_engine.specs.Engines.{Engine, durable_of, facts_of}
use Rattle.rep_engine.specs.Holding.{Holds, row}
use Rattle.rep_stations.specs.Judging.{Legal}
use Rattle.rep_stations.specs.Taking.{HasTaken, StartsAs}
use Rattle.rep_snap.specs.declared.change.Pair.{Pair}
use Rattle.rep_snap.specs.declared.peek.Peek.{Peek}
use Rattle.rep_snap.specs.declared.peek.Peek.TheVariants.{Value, Absent, Cold}
use Rattle.rep_snap.specs.Lists.{published, front_of}
use Rattle.rep_snap.specs.Looks.{IsPeek}
use Rattle.rep_snap.specs.Views.{Watching}
use Rattle.rep_ordered.specs.declared.view.View.{View}
use Rattle.rep_ordered.specs.Views.{StartsWith}
use Rattle.rep_node.specs.declared.home.Home.{Home}
use Rattle.rep_node.specs.declared.home.Desk.{Desk}
use Rattle.rep_node.specs.declared.origin.Origin.{Origin}
use Rattle.rep_node.specs.Publishing.{AreAllowed, shown}
use Rattle.rep_node.specs.Homes.{Start, DeskAt, position_of, values_of}

-- the lists that a reader of a node may find
abbrev pub allowed : Origin → ℕ → List Pair → Type 0
allowed origin start pairs = AreAllowed origin.certifier.log pairs

-- the parameters are those of the one certifier that stands here
abbrev pub AreParams : Setting → List Holdings → Type 0
AreParams p certifiers = (c : Holdings) → certifiers ≡ c ∷ [] → p ≡ c.current.setting

module _ {D : Type 0} where
  -- The reader was handed out with the node of this seat.
  abbrev pub IsReaderOf : View (Home D) Judged → Watching Origin → Type 0
  IsReaderOf v r = (s : Start D) → v.first ≡ values_of s → (r.book ≡ s.desk.publisher.book) × (r.basis ≡ s.desk.publisher.basis) × (r.start ≡ position_of s)

  module _ (g : Ghosts D) where
    -- The row is that of a legal history behind what the node was started with, one that reaches the position: a history that the reader saw
    -- published, each item with what it wrote, or a front of what the seat then sees.
    pub record IsRowOf (s : Start D) (w : View (Home D) Judged) (r : Watching Origin) (key : Key) (at : ℕ) (found : Option (List ℕ)) : Type 0 where
      pub items : List Judged
      pub legal : Legal s.certifier.current items
      pub known : (published r.seen ≡ shown items) ⊎ StartsWith w.seen items
      pub reaches : at ≤ position_of s + length items
      pub row : (L : Order) (n : Node) → IsOf L n → StartsAs g s.desk.engine s.certifier.current n → found ≡ read s.certifier.current.setting (L ++ items_of items) key at

    -- The row is that of each order that a node of the first one goes on to with what the engine has taken.
    pub record IsRowAt (e : Engine D) (key : Key) (at : ℕ) (found : Option (List ℕ)) : Type 0 where
      pub reaches : at ≤ durable_of e.log
      pub row : (L : Order) (n : Node) (first : Engine D) (c : Holding) (items : List Judged) → IsOf L n → StartsAs g first c n → Legal c items → HasTaken g first c items e
          → found ≡ read c.setting (L ++ items_of items) key at

    -- what a refusal of an engine says that is not stopped
    abbrev pub EngineRefuses : Engine D → Key → ℕ → Refusal → Type 0
    EngineRefuses e key at BadKey = has_row e.checkpoint.base.params.rows key ≡ false
    EngineRefuses e key at (NotYet durable) = (durable ≡ durable_of e.log) × (durable < at)
    EngineRefuses e key at (TooOld oldest) = at < oldest
    EngineRefuses e key at DiskFault = Unit {0}
    EngineRefuses e key at (Corrupt part) = (part ≡ Pages) × ((n : Node) → Holds g n e → ⊥)
    EngineRefuses e key at refusal = ⊥

    -- The engine that lay at the desk was asked, and this is what it answered.
    pub record Asked (s : Start D) (w : View (Home D) Judged) (key : Key) (at : ℕ) (answer : Result (Option (List ℕ)) Refusal) : Type 0 where
      pub desk : Desk D
      pub here : DeskAt g s 0 w.seen desk
      pub behind : Engine D
      pub moves : Moves (facts_of g desk.engine) (Read key at) (row answer) (facts_of g behind)

    module _ (v w : View (Home D) Judged) (key : Key) (at : ℕ) where
      -- the engine was asked, or the node was halted before
      abbrev pub AsksEngine : Result (Option (List ℕ)) Refusal → Type 0
      AsksEngine answer = ((answer ≡ Err Stopped) × (w.halted ≡ 1)) ⊎ ((s : Start D) → v.first ≡ values_of s → Asked s w key at answer)

      -- Where the published list says what the row is, or refuses, so it is answered, and the seat is as it was. Where no write of the row is left
      -- in it, the engine is asked.
      abbrev pub Answers : Result Peek Refusal → Result (Option (List ℕ)) Refusal → Type 0
      Answers (Ok (Value value)) answer = (answer ≡ Ok (Some value)) × (w ≡ v)
      Answers (Ok Absent) answer = (answer ≡ Ok None) × (w ≡ v)
      Answers (Ok Cold) answer = AsksEngine answer
      Answers (Err refusal) answer = (answer ≡ Err refusal) × (w ≡ v)

      -- What a refusal says where the engine was asked: a position that is not there yet is above what is durable as far as the seat then sees, and
      -- no page is corrupt on an honest device.
      abbrev pub RefusesAsked : Refusal → Type 0
      RefusesAsked (NotYet durable) = (durable < at) × (w.durable ≤ durable)
      RefusesAsked (TooOld oldest) = at < oldest
      RefusesAsked Stopped = w.halted ≡ 1
      RefusesAsked DiskFault = w.halted ≡ 1
      RefusesAsked (Corrupt part) = (part ≡ Pages) × ((s : Start D) → v.first ≡ values_of s → (n : Node) → StartsAs g s.desk.engine s.certifier.current n → ⊥)
      RefusesAsked refusal = ⊥

      module _ (shut : Watching Origin → Type 0) (r q : Watching Origin) where
        -- What a read comes to: the key is outside the schema, and the reader did not look; or it looked, or found the door shut, and that decides.
        abbrev pub Reads : Result (Option (List ℕ)) Refusal → Type 0
        Reads answer = ((answer ≡ Err BadKey) × (q ≡ r) × (w ≡ v)) ⊎ ((peek : Result Peek Refusal) × IsPeek allowed shut r key at q peek × Answers peek answer)

        -- What a refusal says, wherever it comes from. A position that is not there yet is above the front of the list that the reader then sees, or
        -- above what is durable as far as the seat then sees.
        abbrev pub Refuses : Refusal → Type 0
        Refuses BadKey = q ≡ r
        Refuses Closed = (q ≡ r) × shut r
        Refuses (NotYet front) = (front < at) × ((front ≡ front_of q.start (published q.seen)) ⊎ (w.durable ≤ front))
        Refuses refusal = RefusesAsked refusal
