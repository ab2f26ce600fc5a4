-- How far a text of items has been read.
use Rattle.std.proofs.Common.{◌≡◌, ℕ, ◌+◌, true, false, List, [], ◌∷◌, ◌++◌, Option, None, Some, Result, Ok, Err, IfSome, sym, ap, ◌∙◌, append_assoc, append-nil}
use Rattle.std.specs.Prelude.{IsSomeAnd}
use Rattle.rep_types.specs.declared.refusal.Refusal.{Refusal}
use Rattle.rep_types.specs.declared.refusal.Refusal.TheVariants.{OutOfMemory, StreamFault, Malformed}
use Rattle.rep_types.specs.declared.item.Item.{Item}
use Rattle.rep_record.specs.Lines.{Unread, ahead, NextLine}
use Rattle.rep_record.specs.Reading.{order_line}
use Rattle.rep_script.specs.Judging.{said_ahead, with_line, content}
use Rattle.rep_script.proofs.Stepping.{said_end, said_refused, said_step}
use Rattle.rep_serve.specs.Serving.{IsFaultOf}

-- these items, and then what is said
abbrev pub behind : List Item → List Item × Option Refusal → List Item × Option Refusal
behind items said = (items ++ said.0, said.1)

-- Of this text, which was ahead at the start, these items were read, and the rest is ahead.
abbrev pub HasRead : List ℕ → Unread → List Item → Unread → Option (List ℕ) → Type 0
HasRead text first items u left = IsSomeAnd left (λ rest. said_ahead order_line first text ≡ behind items (said_ahead order_line u rest))

-- a fault that the lines say
pub fault_said : (said : List Item × Option Refusal) (refusal : Refusal) → said.1 ≡ Some refusal → IsFaultOf said refusal
fault_said said refusal fault =
    elim refusal as (λ e. said.1 ≡ Some e → IsFaultOf said e) [
      | OutOfMemory ↦ λ _. tt
      | StreamFault ↦ λ _. tt
      | _ ↦ λ e. e
    ] fault

-- a call of next_line that refuses ends the reading
pub read_refused : (start left left' : Option (List ℕ)) (first u new : Unread) (items : List Item) (refusal : Refusal) (line : List ℕ) → IfSome start (λ text. HasRead text first items u (ahead u left))
    → IfSome left (λ known. NextLine (u.pending ++ known) u (Err refusal) new left' line) → IfSome start (λ text. IsFaultOf (said_ahead order_line first text) refusal)
read_refused None left left' first u new items refusal line h next = tt
read_refused (Some text) None left' first u new items refusal line h next = absurd h
read_refused (Some text) (Some known) left' first u new items refusal line h next =
    elim refusal as (λ e. NextLine (u.pending ++ known) u (Err e) new left' line → IsFaultOf (said_ahead order_line first text) e) [
      | StreamFault ↦ λ _. tt
      | Malformed at ↦ λ r. ap (λ (s : List Item × Option Refusal). s.1) (h ∙ ap (behind items) (said_refused order_line (u.pending ++ known) u (Malformed at) r))
      | _ ↦ λ never. absurd never
    ] next

-- the end of the text ends the reading
pub read_all : (start left left' : Option (List ℕ)) (first u new : Unread) (items : List Item) (line : List ℕ) → IfSome start (λ text. HasRead text first items u (ahead u left))
    → IfSome left (λ known. NextLine (u.pending ++ known) u (Ok false) new left' line) → IfSome start (λ text. said_ahead order_line first text ≡ (items, None))
read_all None left left' first u new items line h next = tt
read_all (Some text) None left' first u new items line h next = absurd h
read_all (Some text) (Some known) left' first u new items line h next =
    h ∙ ap (λ rest. behind items (said_ahead order_line u rest)) next.none ∙ ap (behind items) (said_end order_line u) ∙ ap (λ l. (l, None)) (append-nil items)

pub line_read : (items : List Item) (c : Option (Result Item Refusal)) (i : Item) (later : List Item × Option Refusal) → c ≡ Some (Ok i) → behind items (with_line c later) ≡ behind (items ++ i ∷ []) later
line_read items c i later is = ap (λ d. behind items (with_line d later)) is ∙ ap (λ l. (l, later.1)) (sym (append_assoc items (i ∷ []) later.0))

-- one more line was read that says nothing, or an item
pub read_more : (start left left' : Option (List ℕ)) (first u new : Unread) (items more : List Item) (line : List ℕ) → IfSome start (λ text. HasRead text first items u (ahead u left))
    → IfSome left (λ known. NextLine (u.pending ++ known) u (Ok true) new left' line) → new.number ≡ u.number + 1
    → ((later : List Item × Option Refusal) → behind items (with_line (content order_line new.number line) later) ≡ behind more later)
    → IfSome start (λ text. HasRead text first more new (ahead new left'))
read_more None left left' first u new items more line h next numbered grows = tt
read_more (Some text) None left' first u new items more line h next numbered grows = absurd h
read_more (Some text) (Some known) left' first u new items more line h next numbered grows =
    rw next.ahead_is (h ∙ ap (behind items) (said_step order_line (u.pending ++ known) u new left' line next numbered) ∙ grows (said_ahead order_line new next.rest))

-- a line that says no item ends the reading
pub read_faulty : (start left left' : Option (List ℕ)) (first u new : Unread) (items : List Item) (refusal : Refusal) (line : List ℕ) → IfSome start (λ text. HasRead text first items u (ahead u left))
    → IfSome left (λ known. NextLine (u.pending ++ known) u (Ok true) new left' line) → new.number ≡ u.number + 1 → content order_line new.number line ≡ Some (Err refusal)
    → IfSome start (λ text. IsFaultOf (said_ahead order_line first text) refusal)
read_faulty None left left' first u new items refusal line h next numbered says = tt
read_faulty (Some text) None left' first u new items refusal line h next numbered says = absurd h
read_faulty (Some text) (Some known) left' first u new items refusal line h next numbered says =
    fault_said (said_ahead order_line first text) refusal
    (ap (λ (s : List Item × Option Refusal). s.1) (h ∙ ap (behind items) (said_step order_line (u.pending ++ known) u new left' line next numbered ∙ ap (λ c. with_line c (said_ahead order_line new next.rest)) says)))
