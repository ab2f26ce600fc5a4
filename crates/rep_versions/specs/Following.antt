-- What versions that items were added to, in order, say of the rows.
use Rattle.std.specs.Prelude.{◌≡◌, ℕ, ◌+◌, ◌-◌, ◌≤◌, nat_lt, if◌then◌else◌, List, [], ◌∷◌, ◌++◌, length, map, take, drop, fold, slice_index_or, Option, None}
use Rattle.std.specs.FinMap.{empty}
use Rattle.rep_types.specs.declared.key.Key.{Key}
use Rattle.rep_types.specs.declared.value.Write.{Write}
use Rattle.rep_types.specs.declared.judged.Judged.{Judged}
use Rattle.rep_types.specs.Keys.{key_eq}
use Rattle.rep_types.specs.declared.item.Item.{Item}
use Rattle.rep_types.specs.Items.{writes_of}
use Rattle.rep_types.specs.Settings.{Setting}
use Rattle.rep_types.specs.Order.{Order, State, latest, is_commit, counts, history, rows, read, judge, content_after, after}
use Rattle.rep_versions.specs.declared.versions.At.{At}
use Rattle.rep_versions.specs.Versions.{Kept, Version, version_at, overlaid, IsAdded, IsTakenBack, IsPruned, IsAnswer, told, IsRowAt}

-- What the items behind a base wrote, one after another: nothing, where an item doesn't commit.
abbrev pub Changes : Type 0
Changes = List (List Write)

-- what these writes make of a row, if they write it
abbrev pub made_by : List Write → Key → Option Version
made_by writes key = overlaid None (latest (λ (write : Write). key_eq write.key key) writes)

-- what the item of a seqno wrote, of those behind the base, the first of which has the next seqno
abbrev pub written_at : ℕ → Changes → ℕ → List Write
written_at base changes s = if nat_lt base s then slice_index_or changes (s - (base + 1)) [] else []

-- The versions are what the items behind the base made of the rows, each at its seqno, and no others.
abbrev pub AreVersionsOf : ℕ → Changes → Kept → Type 0
AreVersionsOf base changes kept = (key : Key) (s : ℕ) → version_at kept key s ≡ made_by (written_at base changes s) key

-- what the rows are after the items behind the base, if they are this at the base
abbrev pub rows_after : (Key → Option (List ℕ)) → Changes → Key → Option (List ℕ)
rows_after content changes = fold content_after content changes

-- what a judged item writes, and what the items of an order behind a base do
abbrev pub effect_of : Judged → List Write
effect_of j = if counts j then writes_of j.item else []

abbrev pub changes_of : Setting → Order → ℕ → Changes
changes_of p L base = map effect_of (drop base (history p L))

-- Versions to which the items are added in order, each at its seqno, stay those of the items; so they do as the newest item is
-- taken back, and as those up to a later base go. What they say of a row is what it is after so many items. Of the items of an
-- order that are the order's rows; and the state after one more item has the rows that it makes of those before it.
pub record VersionsFollowTheItems : Type 0 where
  pub none : (base : ℕ) → AreVersionsOf base [] empty
  pub added : (base : ℕ) (changes : Changes) (writes : List Write) (before after : Kept) → AreVersionsOf base changes before
      → IsAdded (base + length changes + 1) writes before after → AreVersionsOf base (changes ++ writes ∷ []) after
  pub passed : (base : ℕ) (changes : Changes) (kept : Kept) → AreVersionsOf base changes kept → AreVersionsOf base (changes ++ [] ∷ []) kept
  pub taken_back : (base : ℕ) (changes : Changes) (writes : List Write) (before after : Kept) → AreVersionsOf base (changes ++ writes ∷ []) before
      → IsTakenBack (base + length changes + 1) before after → AreVersionsOf base changes after
  pub pruned : (base position : ℕ) (changes : Changes) (before after : Kept) → base ≤ position → AreVersionsOf base changes before
      → IsPruned position before after → AreVersionsOf position (drop (position - base) changes) after
  pub answers : (kept : Kept) (key : Key) (s : ℕ) (answer : At) (below : Option (List ℕ)) → IsAnswer kept key s answer → IsRowAt kept key s below (told answer below)
  pub row : (base s : ℕ) (changes : Changes) (kept : Kept) (content : Key → Option (List ℕ)) (key : Key) (row : Option (List ℕ)) → base ≤ s
      → AreVersionsOf base changes kept → IsRowAt kept key s (content key) row → row ≡ rows_after content (take (s - base) changes) key
  pub order : (p : Setting) (L : Order) (base s : ℕ) (key : Key) → base ≤ s
      → rows_after (rows p (take base L)) (take (s - base) (changes_of p L base)) key ≡ read p L key s
  pub next : (p : Setting) (S : State) (i : Item) (key : Key)
      → (after p S i).content key ≡ rows_after S.content ((if is_commit (judge p S.position S.kept i) then writes_of i else []) ∷ []) key
