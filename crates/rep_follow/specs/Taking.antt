-- What is taken of an order.
use Rattle.std.specs.Prelude.{◌≡◌, ◌⊎◌, ℕ, ◌+◌, ◌^◌, ◌≤◌, ◌==◌, ◌&&◌, Bool, true, false, not, nat_le, if◌then◌else◌, List, [], ◌∷◌, ◌++◌, length, Option, None, Some, Result, Ok, Err, IfErr, OnErr}
use Rattle.std.specs.List.{flat_map}
use Rattle.std.specs.Io.KnownBytes.{Consumes}
use Rattle.rep_disk.specs.declared.disk.Disk.{Ghosts}
use Rattle.rep_lines.specs.Lines.{HasNoFeed}
use Rattle.rep_lines.specs.Feeds.{ahead}
use Rattle.rep_requests.specs.Requests.{Requested, Published, Stated, requested}
use Rattle.rep_types.specs.declared.limits.TheConstants.{MAX_AHEAD}
use Rattle.rep_steps.specs.Standings.{Standing, refusal}
use Rattle.rep_steps.specs.Events.{delivery}
use Rattle.rep_replica.specs.Replicas.{Replica, facts_of}
use Rattle.rep_follow.specs.declared.counts.Counts.{Counts}
use Rattle.rep_follow.specs.Counting.{checkpoints_in}
use Rattle.rep_follow.specs.Committing.{Follows, IsLastAnswer, Goes, IsHeldUp, TellsAndBegins}
use Rattle.rep_types.specs.declared.item.Item.{Item}
use Rattle.rep_types.specs.declared.refusal.Refusal.{Refusal}
use Rattle.rep_types.specs.declared.refusal.Refusal.TheVariants.{StreamFault, Exhausted}

-- the item, where it was taken
abbrev pub taken_by : Item → Result (Unit {0}) Refusal → List Item
taken_by i (Ok x) = i ∷ []
taken_by i (Err e) = []

-- The item was delivered by one step, or refused by it, and no checkpoint ended; where it is refused, nothing that decides a refusal changed.
pub record Delivers {D : Type 0} (g : Ghosts D) (old new : Replica D) (i : Item) (result : Result (Unit {0}) Refusal) : Type 0 where
  pub follows : Follows g old new (taken_by i result) []
  pub still : checkpoints_in g old follows.episodes ≡ 0
  pub answered : IfErr result (IsLastAnswer follows.episodes)
  pub phase : (facts_of g new).phase ≡ (facts_of g old).phase
  pub same : OnErr result (facts_of g new ≡ facts_of g old)

-- Why the item with this seqno is not taken, as the replica then stands: the writer failed; the block that had to come first did not become durable;
-- or it is the first refusal of the delivery that applies.
abbrev pub IsNotTaken : {D : Type 0} → Ghosts D → Replica D → ℕ → Item → Refusal → Type 0
IsNotTaken g new seqno i e = (e ≡ StreamFault) ⊎ (IsHeldUp g new e ⊎ (refusal (facts_of g new) (delivery seqno i) ≡ Some e))

-- Whether as many items are delivered and not durable as may be, at a node that runs.
abbrev pub is_backlogged : Standing → Bool
is_backlogged s = not s.stopped && nat_le MAX_AHEAD (length s.ahead)

-- What comes before an item: where as many wait as may, a block, with the checkpoint after it if one is due; else nothing.
abbrev pub MakesRoom : {D : Type 0} → Ghosts D → Bool → Replica D → Replica D → Counts → Counts → Option (List ℕ) → Option (List ℕ) → Result (Unit {0}) Refusal → Type 0
MakesRoom g true old mid was between before after made = TellsAndBegins g old mid was between before after made
MakesRoom g false old mid was between before after made = (mid ≡ old) × (between ≡ was) × (after ≡ before) × (made ≡ Ok tt)

-- what follows where that ended well: the item is delivered, or is refused
abbrev pub AndDelivers : {D : Type 0} → Ghosts D → Item → Result (Unit {0}) Refusal → Replica D → Replica D → Result (Unit {0}) Refusal → Type 0
AndDelivers g i (Ok x) mid new result = Delivers g mid new i result
AndDelivers g i (Err e) mid new result = (result ≡ Err e) × (new ≡ mid)

-- There was room for the item, or it was made; and where that ended well, it was delivered, or refused.
pub record TakesItem {D : Type 0} (g : Ghosts D) (i : Item) (old new : Replica D) (was : Counts) (before after : Option (List ℕ)) (result : Result (Unit {0}) Refusal) : Type 0 where
  pub mid : Replica D
  pub between : Counts
  pub made : Result (Unit {0}) Refusal
  pub room : MakesRoom g (is_backlogged (facts_of g old)) old mid was between before after made
  pub delivers : AndDelivers g i made mid new result

-- the item that a line is which asks for this, where it has this seqno of the order
abbrev pub item_at : ℕ → Requested → Option Item
item_at seqno (Published n i) = if n == seqno then Some i else None
item_at seqno r = None

-- These lines are these items, which follow one another in the order from this seqno on.
abbrev pub AreItems : ℕ → List (List ℕ) → List Item → Type 0
AreItems seqno [] [] = Unit {0}
AreItems seqno [] (i ∷ items) = ⊥
AreItems seqno (line ∷ lines) [] = ⊥
AreItems seqno (line ∷ lines) (i ∷ items) = (item_at seqno (requested 0 line) ≡ Some i) × AreItems (seqno + 1) lines items

-- the text of lines, each with its line feed
abbrev pub text_of : List (List ℕ) → List ℕ
text_of lines = flat_map (λ (line : List ℕ). line ++ 10 ∷ []) lines

-- the lines that were handed out: one more than the items that were taken, but where none is left
abbrev pub handed_by : List (List ℕ) → List ℕ → Result Bool Refusal → List (List ℕ)
handed_by lines last (Ok false) = lines
handed_by lines last r = lines ++ last ∷ []

-- Why it ended: no whole line is left; or the last one is no next item; or it is the next one, and no number is left behind its seqno, or it is not
-- taken.
abbrev pub EndsBy : {D : Type 0} → Ghosts D → Replica D → ℕ → List ℕ → List ℕ → Result Bool Refusal → Type 0
EndsBy g new next held last (Ok false) = HasNoFeed held
EndsBy g new next held last (Ok true) = item_at next (requested 0 last) ≡ None
EndsBy g new next held last (Err e) = (i : Item) × (item_at next (requested 0 last) ≡ Some i) × (((e ≡ Exhausted) × (2 ^ 64 ≤ next + 1)) ⊎ IsNotTaken g new next i e)

abbrev pub done_by : Result Bool Refusal → Result (Unit {0}) Refusal
done_by (Ok x) = Ok tt
done_by (Err e) = Err e

-- The items of the first lines that waited were taken, from this seqno on, in the lines' order, each once; and what became durable was told.
pub record TakesLines {D : Type 0} (g : Ghosts D) (first : ℕ) (old new : Replica D) (was now : Counts) (held left : List ℕ) (last : List ℕ) (before after : Option (List ℕ)) (result : Result Bool Refusal) (next : ℕ) : Type 0 where
  pub lines : List (List ℕ)
  pub items : List Item
  pub are : AreItems first lines items
  pub next_is : next ≡ first + length items
  pub handed : (rest : Option (List ℕ)) → Consumes (ahead held rest) (ahead left rest) (text_of (handed_by lines last result))
  pub goes : Goes g old new items lines was now before after (done_by result)
  pub ends : EndsBy g new next left last result

-- ---- the items of a text

-- the item that a line is to a node that awaits this seqno: the one that has it, or one without a number, as who owns the order writes it
abbrev pub item_awaited : ℕ → Requested → Option Item
item_awaited next (Published n i) = if n == next then Some i else None
item_awaited next (Stated i) = Some i
item_awaited next r = None

-- the item in front of the items behind it, where the line is one
abbrev pub item_onto : Option Item → List Item → List Item → List Item
item_onto (Some i) behind same = i ∷ behind
item_onto None behind same = same

-- The items of the lines, from the one on with this seqno: every other line is none of them.
abbrev pub items_in : ℕ → List (List ℕ) → List Item
items_in next [] = []
items_in next (line ∷ lines) = item_onto (item_awaited next (requested 0 line)) (items_in (next + 1) lines) (items_in next lines)
