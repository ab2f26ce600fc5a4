-- What comes of a text of items that a node serves which threads run.
use Rattle.std.specs.Prelude.{◌≡◌, ◌⊎◌, ℕ, true, List, [], ◌∷◌, ◌++◌, length, take, slice_get, Option, None, Some, IfSome, Result, Ok, Err}
use Rattle.std.specs.Fmt.{decimal}
use Rattle.std.specs.List.{flat_map}
use Rattle.std.specs.Io.KnownBytes.{Appends, Keeps}
use Rattle.rep_types.specs.declared.item.Item.{Item}
use Rattle.rep_types.specs.declared.refusal.Refusal.{Refusal}
use Rattle.rep_types.specs.declared.refusal.Refusal.TheVariants.{OutOfMemory, StreamFault}
use Rattle.rep_types.specs.Texts.{verdict_text}
use Rattle.rep_types.specs.Items.{source_of, trx_of}
use Rattle.rep_record.specs.Lines.{raw_lines}
use Rattle.rep_record.specs.Reading.{order_line}
use Rattle.rep_disk.specs.declared.disk.Disk.{Ghosts}
use Rattle.rep_replica.specs.Replicas.{Replica, facts_of}
use Rattle.rep_replica.specs.Settling.{Works, is_quiet}
use Rattle.rep_node.specs.declared.batch.Receipt.{Receipt}
use Rattle.rep_node.specs.Served.{EndedFor, IsServed}
use Rattle.rep_cert.specs.Holdings.{window_of}
use Rattle.rep_engine.specs.Engines.{durable_of, gtid_of}
use Rattle.rep_script.specs.Answering.{state_line}
use Rattle.rep_script.specs.Judging.{said_by}

-- the line of a receipt: the seqno, the verdict, and the labels of its item
abbrev pub receipt_line : Receipt → Item → List ℕ
receipt_line r i = decimal r.seqno ++ (32 ∷ verdict_text r.verdict ++ (32 ∷ decimal (source_of i) ++ (58 ∷ decimal (trx_of i) ++ 10 ∷ [])))

-- that of a receipt of one of these items, and nothing where there is no item at its place
abbrev pub line_of : Receipt → Option Item → List ℕ
line_of r None = []
line_of r (Some i) = receipt_line r i

abbrev pub receipt_lines : List Item → List Receipt → List ℕ
receipt_lines items receipts = flat_map (λ (r : Receipt). line_of r (slice_get items r.index)) receipts

-- The refusal of a text of which the lines say this: its first fault, or one of the reader or of memory.
abbrev pub IsFaultOf : List Item × Option Refusal → Refusal → Type 0
IsFaultOf said OutOfMemory = Unit {0}
IsFaultOf said StreamFault = Unit {0}
IsFaultOf said refusal = said.1 ≡ Some refusal

-- the line of a replica's state, at what is durable
abbrev pub line_of_state : {D : Type 0} → Replica D → List ℕ
line_of_state r = state_line (gtid_of r.engine) r.engine.checkpoint.base.position (window_of r.certifier.current (durable_of r.engine.log)).entries

-- This line is written; or nothing for want of memory, or a front of it where the writer fails.
abbrev pub AddsLine : List ℕ → Option (List ℕ) → Option (List ℕ) → Result (Unit {0}) Refusal → Type 0
AddsLine line before after (Ok x) = Appends before after line
AddsLine line before after (Err e) = ((e ≡ OutOfMemory) × Appends before after []) ⊎ ((e ≡ StreamFault) × ((k : ℕ) × Appends before after (take k line)))

-- What is written of a batch: these lines, and behind them, where it has no end, that of the state; or a front of that where the writer failed.
abbrev pub TellsBatch : List ℕ → List ℕ → Option Refusal → Option (List ℕ) → Option (List ℕ) → Result (Unit {0}) Refusal → Type 0
TellsBatch lines state None before after (Ok x) = Appends before after (lines ++ state)
TellsBatch lines state (Some end) before after (Ok x) = ⊥
TellsBatch lines state None before after (Err e) = ((e ≡ OutOfMemory) × Appends before after lines) ⊎ ((e ≡ StreamFault) × ((k : ℕ) × Appends before after (take k (lines ++ state))))
TellsBatch lines state (Some end) before after (Err e) = ((e ≡ end) × Appends before after lines) ⊎ ((e ≡ StreamFault) × ((k : ℕ) × Appends before after (take k lines)))

-- what the lines of a text say, each an item of either kind
abbrev pub items_in : List ℕ → List Item × Option Refusal
items_in text = said_by order_line 1 0 (raw_lines text)

module _ {D : Type 0} (g : Ghosts D) where
  -- All items of the text were handed in, and what came of them was written.
  pub record ServedText (text : Option (List ℕ)) (old new : Replica D) (before after : Option (List ℕ)) (result : Result (Unit {0}) Refusal) : Type 0 where
    pub items : List Item
    pub read : IfSome text (λ bytes. items_in bytes ≡ (items, None))
    pub receipts : List Receipt
    pub end : Option Refusal
    pub served : IsServed g old items new receipts end
    pub ended : IfSome end (EndedFor old (length items) new receipts)
    pub told : TellsBatch (receipt_lines items receipts) (line_of_state new) end before after result

  -- What comes of a text: it was refused, and nothing changed and nothing was written; or its items were served.
  abbrev pub ServesItems : Option (List ℕ) → Replica D → Replica D → Option (List ℕ) → Option (List ℕ) → Result (Unit {0}) Refusal → Type 0
  ServesItems text old new before after result =
      ((e : Refusal) × (result ≡ Err e) × IfSome text (λ bytes. IsFaultOf (items_in bytes) e) × (new ≡ old) × Keeps before after) ⊎ ServedText text old new before after result

  -- The replica settled first: it ended early, and nothing was written; or it was quiet, and the items were served.
  abbrev pub Serves : Option (List ℕ) → Replica D → Replica D → Option (List ℕ) → Option (List ℕ) → Result (Unit {0}) Refusal → Type 0
  Serves text old new before after result =
      ((e : Refusal) × (result ≡ Err e) × Works g old new (Err e) × Keeps before after)
      ⊎ ((quiet : Replica D) × Works g old quiet (Ok tt) × (is_quiet (facts_of g quiet) ≡ true) × ServesItems text quiet new before after result)
