-- Groups of items one after another.
use Rattle.std.proofs.Common.{◌≡◌, ◌⊎◌, inl, inr, ℕ, ◌+◌, ◌-◌, ◌^◌, ◌≤◌, false, true, List, [], ◌∷◌, ◌++◌, length, Option, None, Some, Result, Ok, Err, refl, sym, ap, ◌∙◌, arith, subst, append_assoc, length-append}
use Rattle.std.specs.Io.KnownBytes.{Keeps, Consumes, IsAtEnd}
use Rattle.std.proofs.KnownBytes.{Consumes-nil, Consumes-trans, Consumes-kept}
use Rattle.std.proofs.lemmas.List.Concat.{flat_map-append}
use Rattle.rep_types.specs.declared.item.Item.{Item}
use Rattle.rep_types.specs.declared.refusal.Refusal.{Refusal}
use Rattle.rep_types.specs.declared.refusal.Refusal.TheVariants.{StreamFault, Exhausted}
use Rattle.rep_disk.specs.declared.disk.Disk.{Ghosts}
use Rattle.rep_lines.specs.Lines.{HasNoFeed}
use Rattle.rep_lines.specs.Feeds.{ahead}
use Rattle.rep_replica.specs.Replicas.{Replica, facts_of}
use Rattle.rep_follow.specs.declared.following.End.{End}
use Rattle.rep_follow.specs.declared.following.End.TheVariants.{Line, Text}
use Rattle.rep_follow.specs.declared.counts.Counts.{Counts}
use Rattle.rep_follow.specs.Counting.{HasCounters}
use Rattle.rep_follow.specs.Committing.{Goes, IsHeldUp}
use Rattle.rep_follow.specs.Taking.{AreItems, text_of, TakesLines}
use Rattle.rep_follow.specs.Following.{went, HandedOut, EndsAt, HasRead, IsNotFollowed, FollowsItems}
use Rattle.rep_follow.proofs.Committing.{goes_none, goes_both, goes_on, goes_refused, not_early}

-- items behind items
are_items_both : (first next : ℕ) (lines more : List (List ℕ)) (items then : List Item) → AreItems first lines items → next ≡ first + length items → AreItems next more then → AreItems first (lines ++ more) (items ++ then)
are_items_both first next [] more [] then one is two = let same : next ≡ first = omega (arith, is) in subst (λ k. AreItems k more then) same two
are_items_both first next [] more (j ∷ items) then one is two = absurd one
are_items_both first next (l ∷ lines) more [] then one is two = absurd one
are_items_both first next (l ∷ lines) more (j ∷ items) then one is two = (one.0, are_items_both (first + 1) next lines more items then one.1 (omega (arith, is)) two)

text_both : (lines more : List (List ℕ)) → text_of (lines ++ more) ≡ text_of lines ++ text_of more
text_both lines more = flat_map-append (λ (l : List ℕ). l ++ 10 ∷ []) lines more

-- The items of these lines were taken, and told.
pub record Took {D : Type 0} (g : Ghosts D) (first : ℕ) (old new : Replica D) (was now : Counts) (turns : ℕ) (asked rest : Option (List ℕ)) (text behind : Option (List ℕ)) (before after : Option (List ℕ)) (next : ℕ) : Type 0 where
  pub lines : List (List ℕ)
  pub items : List Item
  pub are : AreItems first lines items
  pub next_is : next ≡ first + length items
  pub handed : Consumes text behind (text_of lines)
  pub goes : Goes g old new items lines was now before after (Ok tt)
  pub read : HasRead turns asked rest

-- what was read, behind what was read before
read_more : (m n : ℕ) (before between after : Option (List ℕ)) → HasRead m before between → HasRead n between after → HasRead (m + n) before after
read_more m n before between after one two = (one.0 ++ two.0, let few = one.1 in let more = two.1 in omega (arith, length-append one.0 two.0, few, more), Consumes-trans before between after one.0 two.0 one.2 two.2)

read_less : (m n : ℕ) (before after : Option (List ℕ)) → n ≤ m → HasRead m before after → HasRead n before after
read_less m n before after less read = (read.0, let many = read.1 in omega (arith, less, many), read.2)

-- what a group comes to, behind others
out_more : (lines more : List (List ℕ)) (last : List ℕ) (out : List (List ℕ)) → out ≡ more ++ last ∷ [] → lines ++ out ≡ (lines ++ more) ++ last ∷ []
out_more lines more last out is = ap (λ l. lines ++ l) is ∙ sym (append_assoc lines more (last ∷ []))

out_behind : (lines more : List (List ℕ)) (last : List ℕ) (out : List (List ℕ)) (r : Result (Option End) Refusal) → HandedOut more last out r → HandedOut (lines ++ more) last (lines ++ out) r
out_behind lines more last out (Ok None) is = ap (λ l. lines ++ l) is
out_behind lines more last out (Ok (Some Text)) is = ap (λ l. lines ++ l) is
out_behind lines more last out (Ok (Some Line)) is = out_more lines more last out is
out_behind lines more last out (Err e) (inl is) = inl (ap (λ l. lines ++ l) is)
out_behind lines more last out (Err e) (inr is) = inr (out_more lines more last out is)

module _ {D : Type 0} (g : Ghosts D) where
  ends_behind : (turns next : ℕ) (new : Replica D) (left : List ℕ) (first asked rest : Option (List ℕ)) (lines more : List (List ℕ)) (last : List ℕ) (out : List (List ℕ)) (r : Result (Option End) Refusal) → HasRead turns first asked
      → EndsAt g next new left asked rest more last out r → EndsAt g next new left first rest (lines ++ more) last (lines ++ out) r
  ends_behind turns next new left first asked rest lines more last out (Ok None) read ends = (ends.0, read_less (turns + 1) 1 first rest (omega arith) (read_more turns 1 first asked rest read ends.1))
  ends_behind turns next new left first asked rest lines more last out (Ok (Some Text)) read ends = ends
  ends_behind turns next new left first asked rest lines more last out (Ok (Some Line)) read ends = ends
  ends_behind turns next new left first asked rest lines more last out (Err e) read (inl ends) = inl (out_more lines more last out ends.0, ends.1)
  ends_behind turns next new left first asked rest lines more last out (Err e) read (inr (is, inl why)) = inr (ap (λ l. lines ++ l) is, inl why)
  ends_behind turns next new left first asked rest lines more last out (Err e) read (inr (is, inr (inl why))) = inr (ap (λ l. lines ++ l) is, inr (inl why))
  ends_behind turns next new left first asked rest lines more last out (Err e) read (inr (is, inr (inr why))) =
      inr (ap (λ l. lines ++ l) is, inr (inr (why.0, read_less (turns + (2 ^ 64 - 1)) (2 ^ 64 - 1) first rest (omega arith) (read_more turns (2 ^ 64 - 1) first asked rest read why.1))))

  pub took_none : (r : Replica D) (was : Counts) (asked text written : Option (List ℕ)) (next : ℕ) → HasCounters was → Took g next r r was was 0 asked asked text text written written next
  took_none r was asked text written next has = record { lines = []; items = []; are = tt; next_is = omega arith; handed = Consumes-nil text; goes = goes_none g r was written (Ok tt) has tt; read = ([], omega arith, Consumes-nil asked) }

  module _ (first next then turns : ℕ) (old mid new : Replica D) (was between now : Counts) (left : List ℕ) (begun asked rest text middle behind : Option (List ℕ)) (last : List ℕ) (before written after : Option (List ℕ)) (took : Took g first old mid was between turns begun asked text middle before written next) where
    pub follows_behind : (r : Result (Option End) Refusal) → FollowsItems g next mid new between now left asked rest middle behind last written after r then → FollowsItems g first old new was now left begun rest text behind last before after r then
    follows_behind r f = record {
      lines = took.lines ++ f.lines;
      items = took.items ++ f.items;
      are = are_items_both first next took.lines f.lines took.items f.items took.are took.next_is f.are;
      next_is = omega (arith, took.next_is, f.next_is, length-append took.items f.items);
      out = took.lines ++ f.out;
      out_is = out_behind took.lines f.lines last f.out r f.out_is;
      handed = subst (Consumes text behind) (sym (text_both took.lines f.out)) (Consumes-trans text middle behind (text_of took.lines) (text_of f.out) took.handed f.handed);
      goes = goes_both g old mid new took.items f.items took.lines f.lines was between now before written after tt (went r) took.goes f.goes;
      ends = ends_behind turns then new left begun asked rest took.lines f.lines last f.out r took.read f.ends;
    }

    -- more came behind a group
    pub took_behind : FollowsItems g next mid new between now left asked rest middle behind last written after (Ok None) then → Took g first old new was now (turns + 1) begun rest text behind before after then
    took_behind f =
        let all = follows_behind (Ok None) f in
        record { lines = all.lines; items = all.items; are = all.are; next_is = all.next_is; handed = subst (λ (ls : List (List ℕ)). Consumes text behind (text_of ls)) all.out_is all.handed; goes = all.goes; read = read_more turns 1 begun asked rest took.read f.ends.1 }

  -- it ends after very many groups
  pub took_ended : (first next turns : ℕ) (old new : Replica D) (was now : Counts) (left : List ℕ) (asked rest text behind : Option (List ℕ)) (last : List ℕ) (before after : Option (List ℕ)) → 2 ^ 64 - 1 ≤ turns → Took g first old new was now turns asked rest text behind before after next
      → FollowsItems g first old new was now left asked rest text behind last before after (Err Exhausted) next
  took_ended first next turns old new was now left asked rest text behind last before after many took = record {
    lines = took.lines;
    items = took.items;
    are = took.are;
    next_is = took.next_is;
    out = took.lines;
    out_is = inl refl;
    handed = took.handed;
    goes = goes_refused g old new took.items took.lines was now before after tt (Err Exhausted) (not_early Exhausted (inr (inl refl))) took.goes;
    ends = inr (refl, inr (inr (refl, read_less turns (2 ^ 64 - 1) asked rest many took.read)));
  }

  -- ---- a group
  module _ (first next : ℕ) (old mid : Replica D) (was between : Counts) (held left : List ℕ) (last : List ℕ) (before written : Option (List ℕ)) where
    -- the lines were taken up to one that was refused
    pub group_refused : (rest : Option (List ℕ)) (e : Refusal) → TakesLines g first old mid was between held left last before written (Err e) next → FollowsItems g first old mid was between left rest rest (ahead held rest) (ahead left rest) last before written (Err e) next
    group_refused rest e t = record { lines = t.lines; items = t.items; are = t.are; next_is = t.next_is; out = t.lines ++ last ∷ []; out_is = inr refl; handed = t.handed rest; goes = t.goes; ends = inl (refl, t.ends) }

    -- up to one that is no next item
    pub group_line : (rest : Option (List ℕ)) → TakesLines g first old mid was between held left last before written (Ok true) next → FollowsItems g first old mid was between left rest rest (ahead held rest) (ahead left rest) last before written (Ok (Some Line)) next
    group_line rest t = record { lines = t.lines; items = t.items; are = t.are; next_is = t.next_is; out = t.lines ++ last ∷ []; out_is = refl; handed = t.handed rest; goes = t.goes; ends = t.ends }

    module _ (taken : TakesLines g first old mid was between held left last before written (Ok false) next) (new : Replica D) (now : Counts) (after : Option (List ℕ)) where
      -- what was taken did not become durable
      pub group_kept : (rest : Option (List ℕ)) (e : Refusal) → (e ≡ StreamFault) ⊎ IsHeldUp g new e → Goes g mid new [] [] between now written after (Err e)
          → FollowsItems g first old new was now left rest rest (ahead held rest) (ahead left rest) last before after (Err e) next
      group_kept rest e why goes = record {
        lines = taken.lines;
        items = taken.items;
        are = taken.are;
        next_is = taken.next_is;
        out = taken.lines;
        out_is = inl refl;
        handed = taken.handed rest;
        goes = goes_on g old mid new taken.items taken.lines was between now before written after (Err e) taken.goes goes;
        ends = inr (refl, kept_why why);
      }
        where
          kept_why : (e ≡ StreamFault) ⊎ IsHeldUp g new e → IsNotFollowed g new rest rest e
          kept_why (inl is) = inl is
          kept_why (inr is) = inr (inl is)

      module _ (goes : Goes g mid new [] [] between now written after (Ok tt)) (all : (facts_of g new).ahead ≡ []) (then : List ℕ) (rest rest' : Option (List ℕ)) (kept : Keeps (ahead left rest) (ahead then rest')) where
        whole : Goes g old new taken.items taken.lines was now before after (Ok tt)
        whole = goes_on g old mid new taken.items taken.lines was between now before written after (Ok tt) taken.goes goes

        handed : Consumes (ahead held rest) (ahead then rest') (text_of taken.lines)
        handed = Consumes-kept (ahead held rest) (ahead left rest) (ahead then rest') (text_of taken.lines) (taken.handed rest) kept

        -- the source failed
        pub group_failed : (e : Refusal) → e ≡ StreamFault → FollowsItems g first old new was now then rest rest' (ahead held rest) (ahead then rest') last before after (Err e) next
        group_failed e is = record {
          lines = taken.lines;
          items = taken.items;
          are = taken.are;
          next_is = taken.next_is;
          out = taken.lines;
          out_is = inl refl;
          handed = handed;
          goes = goes_refused g old new taken.items taken.lines was now before after tt (Err e) (not_early e (inl is)) whole;
          ends = inr (refl, inl is);
        }

        -- more came
        pub group_more : HasRead 1 rest rest' → FollowsItems g first old new was now then rest rest' (ahead held rest) (ahead then rest') last before after (Ok None) next
        group_more read = record { lines = taken.lines; items = taken.items; are = taken.are; next_is = taken.next_is; out = taken.lines; out_is = refl; handed = handed; goes = whole; ends = (all, read) }

        -- the text has ended
        pub group_text : then ≡ left → IsAtEnd rest' → FollowsItems g first old new was now then rest rest' (ahead held rest) (ahead then rest') last before after (Ok (Some Text)) next
        group_text same end = record {
          lines = taken.lines;
          items = taken.items;
          are = taken.are;
          next_is = taken.next_is;
          out = taken.lines;
          out_is = refl;
          handed = handed;
          goes = whole;
          ends = (subst HasNoFeed (sym same) taken.ends, end, all);
        }
