-- The cells of blocks.
use Rattle.std.proofs.Common.{◌≡◌, ◌≢◌, ℕ, ◌%◌, ◌<◌, eqb, false, refl, ap, ◌∙◌, arith}
use Rattle.std.proofs.lemmas.Bool.{ne_eqb}
use Rattle.std.proofs.lemmas.Nat.{mod_below}
use Rattle.rep_layout.specs.declared.place.Layout.{Layout}
use Rattle.rep_layout.specs.declared.place.Place.{Place}
use Rattle.rep_layout.specs.declared.place.Place.TheVariants.{Super, Window, Log, Page}
use Rattle.rep_layout.specs.Places.{log_of}

-- a block's cell, in a layout with cells
pub log_is : (l : Layout) (n : ℕ) → 0 < l.cells → log_of l n ≡ Log (n % l.cells)
log_is l n some =
    let test : eqb l.cells 0 ≡ false = ne_eqb l.cells 0 (λ e. omega (arith, e, some)) in
    rw test refl

-- it is one of them
pub index_small : (l : Layout) (n : ℕ) → 0 < l.cells → n % l.cells < l.cells
index_small l n some = mod_below n l.cells (omega (arith, some))

-- a cell's number
abbrev number_of : Place → ℕ
number_of (Super side) = 0
number_of (Window side) = 0
number_of (Log cell) = cell
number_of (Page page slot) = 0

-- cells of different numbers are different places
pub same_cell : (i j : ℕ) → Log i ≡ Log j → i ≡ j
same_cell i j e = ap number_of e

-- a cell that isn't the block's is another place
pub other_cell : (l : Layout) (i n : ℕ) → 0 < l.cells → i ≢ n % l.cells → Log i ≢ log_of l n
other_cell l i n some other e = other (same_cell i (n % l.cells) (e ∙ log_is l n some))
