-- Keys, and lists of them in order.
use Rattle.std.specs.Prelude.{ℕ, ◌+◌, Bool, ◌==◌, ◌&&◌, if◌then◌else◌, List, [], ◌∷◌, Option, None, Some}
use Rattle.std.specs.declared.cmp.Ordering.{Ordering}
use Rattle.std.specs.Ordering.{nat_cmp, on, then_cmp, is_lt}
use Rattle.rep_types.specs.declared.key.Key.{Key}

-- whether both name one row
abbrev pub key_eq : Key → Key → Bool
key_eq a b = (a.table == b.table) && (a.row == b.row)

-- the order of keys: by table, then by row
abbrev pub key_cmp : Key → Key → Ordering
key_cmp = then_cmp (on (λ (key : Key). key.table) nat_cmp) (on (λ (key : Key). key.row) nat_cmp)

-- whether a comes before b in it
abbrev pub key_lt : Key → Key → Bool
key_lt a b = is_lt (key_cmp a b)

-- the place of the first key that isn't above the one before it, the first of these keys being at place i and coming after `before`
abbrev pub disorder_after : ℕ → Key → List Key → Option ℕ
disorder_after i before [] = None
disorder_after i before (key ∷ keys) = if key_lt before key then disorder_after (i + 1) key keys else Some i

-- the place of the first key that isn't above the one before it: None where the list is strictly ascending
abbrev pub disorder : List Key → Option ℕ
disorder [] = None
disorder (key ∷ keys) = disorder_after 1 key keys
