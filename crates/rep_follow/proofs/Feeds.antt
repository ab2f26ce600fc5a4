-- Items that are taken line by line.
use Rattle.std.proofs.Common.{◌≡◌, ℕ, ◌+◌, ◌^◌, ◌≤◌, true, false, List, [], ◌∷◌, ◌++◌, length, Option, None, Some, Ok, Err, refl, sym, ap, ◌∙◌, inl, inr, arith, subst, append-nil, length-append}
use Rattle.std.specs.Io.KnownBytes.{Consumes}
use Rattle.std.proofs.KnownBytes.{Consumes-nil, Consumes-trans}
use Rattle.std.proofs.lemmas.List.Concat.{flat_map-append}
use Rattle.rep_types.specs.declared.item.Item.{Item}
use Rattle.rep_types.specs.declared.refusal.Refusal.{Refusal}
use Rattle.rep_types.specs.declared.refusal.Refusal.TheVariants.{Exhausted}
use Rattle.rep_disk.specs.declared.disk.Disk.{Ghosts}
use Rattle.rep_lines.specs.Lines.{HasNoFeed}
use Rattle.rep_lines.specs.Feeds.{ahead}
use Rattle.rep_requests.specs.Requests.{requested}
use Rattle.rep_replica.specs.Replicas.{Replica}
use Rattle.rep_follow.specs.declared.counts.Counts.{Counts}
use Rattle.rep_follow.specs.Counting.{HasCounters, tally, risen_by}
use Rattle.rep_follow.specs.Committing.{Goes}
use Rattle.rep_follow.specs.Taking.{item_at, AreItems, text_of, TakesLines, IsNotTaken}
use Rattle.rep_follow.proofs.Committing.{goes_none, goes_both, goes_on, goes_text, goes_refused, not_early}

-- ---- line by line

are_items_more : (seqno next : ℕ) (lines : List (List ℕ)) (items : List Item) (line : List ℕ) (i : Item) → AreItems seqno lines items → next ≡ seqno + length items → item_at next (requested 0 line) ≡ Some i
    → AreItems seqno (lines ++ line ∷ []) (items ++ i ∷ [])
are_items_more seqno next [] [] line i are is at = let same : next ≡ seqno = omega (arith, is) in (subst (λ k. item_at k (requested 0 line) ≡ Some i) same at, tt)
are_items_more seqno next [] (j ∷ items) line i are is at = absurd are
are_items_more seqno next (l ∷ lines) [] line i are is at = absurd are
are_items_more seqno next (l ∷ lines) (j ∷ items) line i are is at = (are.0, are_items_more (seqno + 1) next lines items line i are.1 (omega (arith, is)) at)

text_more : (lines : List (List ℕ)) (line : List ℕ) → text_of (lines ++ line ∷ []) ≡ text_of lines ++ (line ++ 10 ∷ [])
text_more lines line = flat_map-append (λ (l : List ℕ). l ++ 10 ∷ []) lines (line ∷ []) ∙ ap (λ l. text_of lines ++ l) (append-nil (line ++ 10 ∷ []))

-- The items of the lines that were handed out were taken.
pub record Taken {D : Type 0} (g : Ghosts D) (first : ℕ) (old new : Replica D) (was now : Counts) (held left : List ℕ) (before after : Option (List ℕ)) (next : ℕ) : Type 0 where
  pub lines : List (List ℕ)
  pub items : List Item
  pub are : AreItems first lines items
  pub next_is : next ≡ first + length items
  pub handed : (rest : Option (List ℕ)) → Consumes (ahead held rest) (ahead left rest) (text_of lines)
  pub goes : Goes g old new items lines was now before after (Ok tt)

module _ {D : Type 0} (g : Ghosts D) where
  pub taken_none : (r : Replica D) (was : Counts) (held : List ℕ) (text : Option (List ℕ)) (next : ℕ) → HasCounters was → Taken g next r r was was held held text text next
  taken_none r was held text next has = record {
    lines = [];
    items = [];
    are = tt;
    next_is = omega arith;
    handed = λ rest. Consumes-nil (ahead held rest);
    goes = goes_none g r was text (Ok tt) has tt;
  }

  module _ (first : ℕ) (old mid new : Replica D) (was between now : Counts) (held left then line : List ℕ) (before written after : Option (List ℕ)) (next : ℕ) (taken : Taken g first old mid was between held left before written next)
      (handed : (rest : Option (List ℕ)) → Consumes (ahead left rest) (ahead then rest) (line ++ 10 ∷ [])) where
    handed_more : (rest : Option (List ℕ)) → Consumes (ahead held rest) (ahead then rest) (text_of (taken.lines ++ line ∷ []))
    handed_more rest = subst (Consumes (ahead held rest) (ahead then rest)) (sym (text_more taken.lines line))
        (Consumes-trans (ahead held rest) (ahead left rest) (ahead then rest) (text_of taken.lines) (line ++ 10 ∷ []) (taken.handed rest) (handed rest))

    -- one more was taken
    pub taken_more : (i : Item) (counted : Counts) (x : Unit {0}) → item_at next (requested 0 line) ≡ Some i → Goes g mid new (i ∷ []) [] between counted written after (Ok x) → now ≡ risen_by counted (tally [] (line ∷ []) [] 0 0) → Taken g first old new was now held then before after (next + 1)
    taken_more i counted x at goes text = record {
      lines = taken.lines ++ line ∷ [];
      items = taken.items ++ i ∷ [];
      are = are_items_more first next taken.lines taken.items line i taken.are taken.next_is at;
      next_is = omega (arith, taken.next_is, length-append taken.items (i ∷ []));
      handed = handed_more;
      goes = goes_both g old mid new taken.items (i ∷ []) taken.lines (line ∷ []) was between now before written after tt (Ok tt) taken.goes
          (goes_both g mid new new (i ∷ []) [] [] (line ∷ []) between counted now written after after x (Ok tt) goes (goes_text g new line counted now after text));
    }

    -- it is no next item
    pub taken_other : item_at next (requested 0 line) ≡ None → TakesLines g first old mid was between held then line before written (Ok true) next
    taken_other at = record { lines = taken.lines; items = taken.items; are = taken.are; next_is = taken.next_is; handed = handed_more; goes = taken.goes; ends = at }

    -- no number is left behind its seqno
    pub taken_last : (i : Item) → item_at next (requested 0 line) ≡ Some i → 2 ^ 64 ≤ next + 1 → TakesLines g first old mid was between held then line before written (Err Exhausted) next
    taken_last i at last = record {
      lines = taken.lines;
      items = taken.items;
      are = taken.are;
      next_is = taken.next_is;
      handed = handed_more;
      goes = goes_refused g old mid taken.items taken.lines was between before written tt (Err Exhausted) (not_early Exhausted (inr (inl refl))) taken.goes;
      ends = (i, at, inl (refl, last));
    }

    -- it was refused
    pub taken_refused : (i : Item) (e : Refusal) → item_at next (requested 0 line) ≡ Some i → IsNotTaken g new next i e → Goes g mid new [] [] between now written after (Err e) → TakesLines g first old new was now held then line before after (Err e) next
    taken_refused i e at why goes = record {
      lines = taken.lines;
      items = taken.items;
      are = taken.are;
      next_is = taken.next_is;
      handed = handed_more;
      goes = goes_on g old mid new taken.items taken.lines was between now before written after (Err e) taken.goes goes;
      ends = (i, at, inr why);
    }

  -- none is left
  pub taken_all : (first : ℕ) (old new : Replica D) (was now : Counts) (held left line : List ℕ) (before after : Option (List ℕ)) (next : ℕ) → Taken g first old new was now held left before after next → HasNoFeed left
      → TakesLines g first old new was now held left line before after (Ok false) next
  taken_all first old new was now held left line before after next taken none = record {
    lines = taken.lines;
    items = taken.items;
    are = taken.are;
    next_is = taken.next_is;
    handed = taken.handed;
    goes = taken.goes;
    ends = none;
  }
