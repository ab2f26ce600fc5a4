use Rattle.std.proofs.Common.{◌≡◌, ℕ, Bool, true, false, List, ◌++◌, length, map, take, drop, sym, ap, ◌∙◌, lit<, length-set}
use Rattle.std.specs.Prelude.{◌||◌, IsTrue, nat_lt, count_by}
use Rattle.std.proofs.Math.ListN.{set}
use Rattle.std.proofs.Math.Seq.{take-append_seam}
use Rattle.std.proofs.lemmas.Bool.{ltb-true}
use Rattle.std.proofs.lemmas.List.Sums.{count_by-le-length}
use Rattle.std.specs.List.{list_any}
use Rattle.rep_types.specs.declared.limits.TheConstants.{MAX_WRITES}
use Rattle.rep_types.specs.declared.value.Write.{Write}
use Rattle.rep_types.specs.Keys.{disorder, key_eq, key_lt}
use Rattle.rep_types.specs.Transactions.{key_of}
use Rattle.rep_session.proofs.Ascending.{write_inserted, write_replaced, write_within, writes_ascend}
use Rattle.rep_session.proofs.places.place_write.Goals as goal

-- a slice written back whole is what it was filled with
refilled : (n : ℕ) (xs ws : List Write) → length ws ≡ n → take n (ws ++ drop (length ws) xs) ≡ ws
refilled n xs ws e = ap (λ k. take k (ws ++ drop (length ws) xs)) (sym e) ∙ take-append_seam ws (drop (length ws) xs)

-- one of two tests holds, and not the second
first_of_two : (a b : Bool) → IsTrue (a || b) → b ≡ false → a ≡ true
first_of_two true b h e = cc
first_of_two false true h e = absurd cc
first_of_two false false h e = h

pub bounds-deref_mut-place : goal.bounds-deref_mut-place
bounds-deref_mut-place c =
    let there = write_within c.args.write.key c.args.writes.now.items c.requires.ascend (rw c.as_slice-2.ensures.value at (sym c.is_written.ensures ∙ c.if-is_written.true)) in
    rw (c.deref_mut.ensures.value, c.writes_before-place.ensures, c.as_slice.ensures.value) there

pub insert-requires : goal.insert-requires
insert-requires c = (
  lit< tt,
  (
    rw (c.writes_before-place.ensures, c.as_slice.ensures.value) (count_by-le-length (λ (other : Write). key_lt other.key c.args.write.key) c.args.writes.now.items),
    ltb-true _ _ (first_of_two (nat_lt (length c.args.writes.now.items) MAX_WRITES) (list_any (λ (other : Write). key_eq other.key c.args.write.key) c.args.writes.now.items)
        c.requires.room (rw c.as_slice-2.ensures.value at (sym c.is_written.ensures ∙ c.if-is_written.false))),
  ),
)

new_key : goal.returns-else-is_written-clause-placed
new_key c =
    c.insert.ensures.items ∙ rw (c.writes_before-place.ensures, c.as_slice.ensures.value)
    (write_inserted c.args.write c.args.writes.now.items c.requires.ascend (rw c.as_slice-2.ensures.value at (sym c.is_written.ensures ∙ c.if-is_written.false)))

old_key : goal.returns-then-is_written-clause-placed
old_key c =
    let written : List Write = set c.args.writes.now.items (count_by (λ (other : Write). key_lt other.key c.args.write.key) c.args.writes.now.items) c.args.write in
    rw (c.deref_mut.ensures.value, c.writes_before-place.ensures, c.as_slice.ensures.value)
    (refilled (length c.args.writes.now.items) c.args.writes.now.items written (length-set c.args.writes.now.items _ c.args.write)
    ∙ write_replaced c.args.write c.args.writes.now.items c.requires.ascend (rw c.as_slice-2.ensures.value at (sym c.is_written.ensures ∙ c.if-is_written.true)))

pub returns-then-is_written-clause-placed : goal.returns-then-is_written-clause-placed
returns-then-is_written-clause-placed c = old_key c

pub returns-then-is_written-clause-ascend : goal.returns-then-is_written-clause-ascend
returns-then-is_written-clause-ascend c = ap (λ (ws : List Write). disorder (map key_of ws)) (old_key c) ∙ writes_ascend c.args.write c.args.writes.now.items c.requires.ascend

pub returns-else-is_written-clause-placed : goal.returns-else-is_written-clause-placed
returns-else-is_written-clause-placed c = new_key c

pub returns-else-is_written-clause-ascend : goal.returns-else-is_written-clause-ascend
returns-else-is_written-clause-ascend c = ap (λ (ws : List Write). disorder (map key_of ws)) (new_key c) ∙ writes_ascend c.args.write c.args.writes.now.items c.requires.ascend
