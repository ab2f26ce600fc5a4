-- Words on what a seat knows.
use Rattle.std.specs.Prelude.{◌≡◌, ℕ, ◌+◌, ◌-◌, ◌/◌, ◌%◌, ◌<◌, ◌≤◌, ◌==◌, if◌then◌else◌, max, Option, Some, None, List, [], ◌∷◌, ◌++◌, length, map}
use Rattle.rep_ordered.specs.declared.view.GivenUp.{GivenUp}
use Rattle.rep_ordered.specs.declared.view.Hold.{Hold}
use Rattle.rep_ordered.specs.declared.view.Joined.{Joined}
use Rattle.rep_ordered.specs.declared.view.Reached.{Reached}
use Rattle.rep_ordered.specs.declared.view.View.{View}
use Rattle.rep_ordered.specs.declared.view.Mind.{Mind}
use Rattle.rep_ordered.specs.Counts.{one, total, times}

abbrev pub Every : {A : Type 0} → (A → Type 0) → List A → Type 0
Every P [] = Unit {0}
Every P (x ∷ xs) = P x × Every P xs

-- the list begins with `front`
abbrev pub StartsWith : {A : Type 0} → List A → List A → Type 0
StartsWith {A} xs front = (rest : List A) × (xs ≡ front ++ rest)

-- 1 where the station is among those held, else 0
abbrev pub held_at : ℕ → List Hold → ℕ
held_at j held = total (λ (h : Hold). one j h.station) held

-- the greatest number that the station's turn was seen at, or 0
abbrev pub reached_at : ℕ → List Reached → ℕ
reached_at j [] = 0
reached_at j (r ∷ rs) = max (if j == r.station then r.number else 0) (reached_at j rs)

-- the word of the station where it is among those held, else 0. A seat holds a station at most once
abbrev pub word_at : ℕ → List Hold → ℕ
word_at j [] = 0
word_at j (h ∷ hs) = if j == h.station then h.word else word_at j hs

-- the same of its floor
abbrev pub floor_at : ℕ → List Hold → ℕ
floor_at j [] = 0
floor_at j (h ∷ hs) = if j == h.station then h.floor else floor_at j hs

-- the others that are held, in their order
abbrev pub except : ℕ → List Hold → List Hold
except j [] = []
except j (h ∷ hs) = if j == h.station then hs else h ∷ except j hs

abbrev pub hold : ℕ → ℕ → ℕ → Hold
hold j w floor = record { station = j; word = w; floor = floor }

abbrev pub reach : ℕ → ℕ → Reached
reach j n = record { station = j; number = n }

-- the history, after what joins it
abbrev pub grown : {E : Type 0} → List E → Option E → List E
grown seen None = seen
grown seen (Some e) = seen ++ e ∷ []

-- how many of the entries joined the history at this number
abbrev pub joined_at : {E : Type 0} → ℕ → List (Joined E) → ℕ
joined_at x [] = 0
joined_at x (o ∷ os) = one x o.number + joined_at x os

-- the entries that a seat let join the history, after what joins it at this number
abbrev pub joining : {E : Type 0} → Option E → ℕ → List (Joined E) → List (Joined E)
joining None n os = os
joining (Some e) n os = record { number = n; entry = e } ∷ os

-- the durable number that is known of station 1, after one of the station j was seen
abbrev pub backed_after : ℕ → ℕ → ℕ → ℕ
backed_after j seen known = if j == 1 then seen else known

-- 1 where the station's value names the number that stations 1 and 2 name alike, else 0
abbrev pub names : ℕ → ℕ
names j = one j 1 + one j 2

-- the number that is known to be named alike, after one of the station j was seen
abbrev pub common_after : ℕ → ℕ → ℕ → ℕ
common_after j seen known = if names j == 0 then known else seen

-- a station that was given up with this value
abbrev pub gone_at : {V : Type 0} → ℕ → V → GivenUp V
gone_at j x = record { station = j; value = x }

-- what the value of station 1 names, or this number where there is no such station
abbrev pub second_of : {V : Type 0} → (V → ℕ) → ℕ → List V → ℕ
second_of f none [] = none
second_of f none (x ∷ []) = none
second_of f none (x ∷ y ∷ xs) = f y

module _ {E : Type 0} where
  -- the entry stands in the history at its number, which is among the seat's own
  pub record OwnEntry (start : ℕ) (history : List E) (own : List ℕ) (o : Joined E) : Type 0 where
    pub before : List E
    pub begins : StartsWith history (before ++ o.entry ∷ [])
    pub place : start + length before ≡ o.number
    pub drawn : 0 < times o.number own

  -- what the history has at a seat's own numbers: the entries that it let join, and at the others nothing yet
  pub record Placed (start : ℕ) (history : List E) (own : List ℕ) (joined : List (Joined E)) : Type 0 where
    pub entries : Every (OwnEntry start history own) joined
    pub others : (x : ℕ) → 0 < times x own → joined_at x joined ≡ 0 → start + length history ≤ x

module _ {V E : Type 0} where
  abbrev pub allowance_of : Mind V E → ℕ
  allowance_of m = m.view.allowance

  abbrev pub count_of : Mind V E → ℕ
  count_of m = length m.view.own

  abbrev pub drew : ℕ → Mind V E → ℕ
  drew x m = times x m.view.own

  abbrev pub on : ℕ → Mind V E → ℕ
  on j m = held_at j m.view.held

  abbrev pub halted_of : Mind V E → ℕ
  halted_of m = m.view.halted

  -- a seat that was told of no history
  abbrev pub untold : View V E → Mind V E
  untold v = record { view = v; told = [] }

  -- the first seat's view: it has the whole allowance, and knows the durable number that the lock is made with, and what the first values name
  abbrev pub opened : (V → ℕ) → (V → ℕ) → ℕ → ℕ → List V → ℕ → View V E
  opened durable_of common_of start whole first durable = record { start = start; whole = whole; first = first; allowance = whole; seen = []; own = []; joined = []; durable = durable; halted = 0; backed = second_of durable_of durable first; common = second_of common_of 0 first; reached = []; held = []; given_up = [] }

  -- the view of a seat that was joined to another
  abbrev pub spent : ℕ → ℕ → List V → View V E
  spent start whole first = record { start = start; whole = whole; first = first; allowance = 0; seen = []; own = []; joined = []; durable = 0; halted = 0; backed = 0; common = 0; reached = []; held = []; given_up = [] }

  abbrev pub with_number : ℕ → View V E → View V E
  with_number n v = record v { allowance = v.allowance - 1; own = v.own ++ n ∷ [] }

  abbrev pub giving : ℕ → View V E → View V E
  giving give v = record v { allowance = v.allowance - give }

  -- a seat that was split off: it has seen as much, and has drawn and holds nothing
  abbrev pub given : ℕ → View V E → View V E
  given give v = record v { allowance = give; own = []; joined = []; held = []; given_up = [] }

  -- two views in one, but for what the second has seen of the history
  abbrev pub both : View V E → View V E → View V E
  both v w = record v { allowance = v.allowance + w.allowance; own = v.own ++ w.own; joined = v.joined ++ w.joined; durable = max v.durable w.durable; halted = max v.halted w.halted; backed = max v.backed w.backed; common = max v.common w.common; reached = v.reached ++ w.reached; given_up = v.given_up ++ w.given_up }

  -- the same seat, which knows the history and the durable word as they are now
  abbrev pub knowing : List E → ℕ → ℕ → View V E → View V E
  knowing history durable halted v = record v { seen = history; durable = durable; halted = halted }

  -- what a seat knows of the history that it has seen, where the law holds of every history of the lock
  pub record Sees (law : List E → Type 0) (v : View V E) : Type 0 where
    pub legal : law v.seen
    pub placed : Placed v.start v.seen v.own v.joined

  -- what is known of the history, of the durable number and of the halt has grown, and nothing else has changed
  pub record Later (v w : View V E) : Type 0 where
    pub same : w ≡ record v { seen = w.seen; durable = w.durable; halted = w.halted }
    pub seen : StartsWith w.seen v.seen
    -- while it holds station 0, nothing joins the history
    pub still : 0 < held_at 0 v.held → w.seen ≡ v.seen
    pub durable : v.durable ≤ w.durable
    pub halted : v.halted ≤ w.halted
    -- after a halt the durable number stays
    pub stays : 0 < v.halted → w.durable ≡ v.durable

  -- the seat holds the station by its ticket, whatever else it holds
  abbrev pub HoldsTurn : View V E → ℕ → Type 0
  HoldsTurn v j = word_at j v.held % 4 ≡ 1

  -- the same from the side
  abbrev pub HoldsSide : View V E → ℕ → Type 0
  HoldsSide v j = word_at j v.held % 4 ≡ 2

  -- the same in either way
  abbrev pub Holds : View V E → ℕ → Type 0
  Holds v j = 0 < held_at j v.held

  -- the number of the turn at which the station was entered
  abbrev pub turn_of : ℕ → View V E → ℕ
  turn_of j v = word_at j v.held / 4

  abbrev pub floor_of : ℕ → View V E → ℕ
  floor_of j v = floor_at j v.held

  -- who leaves one of stations 1 and 2 with a value that names this number: the number is not lowered, and is another than before only if the seat holds both
  abbrev pub Names : View V E → ℕ → Type 0
  Names v number = (v.common ≤ number) × (held_at 1 v.held + held_at 2 v.held ≤ 1 → number ≡ v.common)

  -- the station is left: the entry has joined the history at the number of the turn, the station's turn is at n, and its value names this durable number and this one for stations 1 and 2. The other stations are held as before
  abbrev pub without : Option E → ℕ → ℕ → ℕ → ℕ → View V E → View V E
  without entry j n durable common v = record v { seen = grown v.seen entry; joined = joining entry (turn_of j v) v.joined; backed = backed_after j durable v.backed; common = common_after j common v.common; reached = reach j n ∷ v.reached; held = except j v.held }

  -- the station was given up with these values, of which there is one
  abbrev pub abandoned_with : ℕ → List V → View V E → View V E
  abandoned_with j xs v = record v { given_up = map (gone_at j) xs ++ v.given_up }

  -- the station was given up with this value
  abbrev pub abandoned : ℕ → V → View V E → View V E
  abandoned j x v = record v { given_up = gone_at j x ∷ v.given_up }

  -- the seat has all the numbers of the lock, drawn or not: no other seat may act
  abbrev pub HasAll : View V E → Type 0
  HasAll v = v.allowance + length v.own ≡ v.whole

  -- a seat that may still act: it may draw a number or has drawn one, unless there is none at all
  abbrev pub Lives : View V E → Type 0
  Lives v = 0 < v.whole → 0 < v.allowance + length v.own
