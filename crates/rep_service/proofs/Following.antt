-- Lines whose items are delivered, one after another.
use Rattle.std.proofs.Common.{◌≡◌, ℕ, ◌+◌, ◌⊎◌, inl, inr, List, [], ◌∷◌, ◌++◌, length, take, Option, None, Some, Result, Ok, Err, OnOk, refl, sym, ap, subst, ◌∙◌, append-nil, length-append, arith}
use Rattle.std.proofs.Math.Seq.{take-append_seam, take-append-add, take-length}
use Rattle.std.proofs.lemmas.List.Concat.{flat_map-append}
use Rattle.std.specs.Io.KnownBytes.{Consumes}
use Rattle.std.proofs.KnownBytes.{Consumes-nil, Consumes-trans}
use Rattle.rep_types.specs.declared.item.Item.{Item}
use Rattle.rep_types.specs.declared.reply.Reply.{Reply}
use Rattle.rep_types.specs.declared.refusal.Refusal.{Refusal}
use Rattle.rep_disk.specs.declared.disk.Disk.{Ghosts}
use Rattle.rep_replica.specs.Replicas.{Replica}
use Rattle.rep_requests.specs.Requests.{Requested, requested}
use Rattle.rep_follow.specs.declared.counts.Counts.{Counts}
use Rattle.rep_follow.specs.declared.following.End.{End}
use Rattle.rep_follow.specs.declared.following.End.TheVariants.{Line, Text}
use Rattle.rep_follow.specs.Joining.{PartsAreJoined}
use Rattle.rep_follow.specs.Taking.{text_of, taken_by, item_awaited, AreItems, items_in}
use Rattle.rep_follow.specs.Following.{ended, FollowsItems}
use Rattle.rep_service.specs.Saying.{Said, passed_in, answers_in, receipts_said}
use Rattle.rep_service.specs.Living.{Lives, NotWrongCluster, AnswersLines, AreAnswered, TakesItems, FollowsLines}
use Rattle.rep_service.proofs.Saying.{none_both, none_passed, none_answered, on_all, own_ok}
use Rattle.rep_service.proofs.Own.{own_items}
use Rattle.rep_service.proofs.Lives.{Did, lives_none, lives_both, lives_as, lives_goes}
use Rattle.rep_service.proofs.Answered.{on_both, items_answer, answered_whole, answered_front, answered_as, answered_both, answered_receipts, answered_line}
use Rattle.rep_service.proofs.Items.{items_both, no_item, one_item, numbered_items}

pub text_both : (lines more : List (List ℕ)) → text_of (lines ++ more) ≡ text_of lines ++ text_of more
text_both lines more = flat_map-append (λ (l : List ℕ). l ++ 10 ∷ []) lines more

pub handed_both : (text between behind : Option (List ℕ)) (lines more : List (List ℕ)) → Consumes text between (text_of lines) → Consumes between behind (text_of more) → Consumes text behind (text_of (lines ++ more))
handed_both text between behind lines more one two = subst (Consumes text behind) (sym (text_both lines more)) (Consumes-trans text between behind (text_of lines) (text_of more) one two)

all_both : (first : ℕ) (lines more : List (List ℕ)) (items then : List Item) (mid : ℕ) → items ≡ items_in first lines → mid ≡ first + length items → then ≡ items_in mid more → items ++ then ≡ items_in first (lines ++ more)
all_both first lines more items then mid one at two =
    let here : items_in mid more ≡ items_in (first + length (items_in first lines)) more = ap (λ k. items_in k more) (at ∙ ap (λ (is : List Item). first + length is) one) in
    ap (λ (is : List Item). is ++ then) one ∙ ap (λ (is : List Item). items_in first lines ++ is) (two ∙ here) ∙ sym (items_both first lines more)

front_both : (first : ℕ) (lines more : List (List ℕ)) (items then : List Item) (mid most : ℕ) → items ≡ items_in first lines → mid ≡ first + length items → then ≡ take most (items_in mid more) → items ++ then ≡ take (length items + most) (items_in first (lines ++ more))
front_both first lines more items then mid most one at two =
    ap (λ (is : List Item). items ++ is) two ∙ sym (take-append-add items (items_in mid more) most) ∙ ap (take (length items + most)) (all_both first lines more items (items_in mid more) mid one at refl)

module _ {D : Type 0} (g : Ghosts D) where
  -- it goes on, whatever comes of the rest that changes nothing
  pub takes_as : (first : ℕ) (lines : List (List ℕ)) (old new : Replica D) (next : ℕ) (before after : Option (List ℕ)) (r : Result (Unit {0}) Refusal) → NotWrongCluster r → TakesItems g first lines old new next before after (Ok tt) → TakesItems g first lines old new next before after r
  takes_as first lines old new next before after r own takes = record {
    items = takes.items;
    said = takes.said;
    lives = lives_as g old new takes.items takes.said before after r takes.lives;
    most = takes.most;
    are = takes.are;
    all = on_all r takes.all;
    next_is = on_all r takes.next_is;
    none = takes.none;
    answers = answered_as lines takes.said r takes.answers;
    own = own;
  }

  -- a front of them, behind which it ended
  takes_front : (first : ℕ) (lines more : List (List ℕ)) (old new : Replica D) (items : List Item) (said : List Said) (next : ℕ) (before after : Option (List ℕ)) (e : Refusal) → NotWrongCluster (Err e) → items_in first lines ≡ items → Lives g old new items said before after (Err e) → passed_in said ≡ []
      → AnswersLines lines (answers_in said) → TakesItems g first (lines ++ more) old new next before after (Err e)
  takes_front first lines more old new items said next before after e own is lives none answers = record {
    items = items;
    said = said;
    lives = lives;
    most = length items;
    are = sym (take-append_seam items (items_in (first + length items) more)) ∙ ap (take (length items)) (all_both first lines more items (items_in (first + length items) more) (first + length items) (sym is) refl refl);
    all = tt;
    next_is = tt;
    none = none;
    answers = answered_front lines more said e answers;
    own = own;
  }

  -- the items that were taken, and all of them are the lines
  pub takes_all : (first : ℕ) (lines : List (List ℕ)) (old new : Replica D) (items : List Item) (said : List Said) (next : ℕ) (before after : Option (List ℕ)) → items_in first lines ≡ items → next ≡ first + length items → Lives g old new items said before after (Ok tt)
      → passed_in said ≡ [] → AreAnswered lines said (Ok tt) → TakesItems g first lines old new next before after (Ok tt)
  takes_all first lines old new items said next before after is at lives none answers = record {
    items = items;
    said = said;
    lives = lives;
    most = length items;
    are = sym (take-length items) ∙ ap (take (length items)) (sym is);
    all = sym is;
    next_is = at;
    none = none;
    answers = answers;
    own = own_ok;
  }

  -- none was taken, and it ended
  pub takes_not : (first : ℕ) (lines : List (List ℕ)) (old new : Replica D) (said : List Said) (next : ℕ) (before after : Option (List ℕ)) (e : Refusal) → NotWrongCluster (Err e) → Lives g old new [] said before after (Err e) → passed_in said ≡ [] → AreAnswered lines said (Err e)
      → TakesItems g first lines old new next before after (Err e)
  takes_not first lines old new said next before after e own lives none answers = record { items = []; said = said; lives = lives; most = 0; are = refl; all = tt; next_is = tt; none = none; answers = answers; own = own }

  module _ (parts : PartsAreJoined g) where
    pub takes_both : (first mid next : ℕ) (lines more : List (List ℕ)) (old between new : Replica D) (before written after : Option (List ℕ)) (r : Result (Unit {0}) Refusal) → TakesItems g first lines old between mid before written (Ok tt)
        → TakesItems g mid more between new next written after r → TakesItems g first (lines ++ more) old new next before after r
    takes_both first mid next lines more old between new before written after r one two = record {
      items = one.items ++ two.items;
      said = one.said ++ two.said;
      lives = lives_both g parts old between new one.items two.items one.said two.said before written after r one.lives two.lives;
      most = length one.items + two.most;
      are = front_both first lines more one.items two.items mid two.most one.all one.next_is two.are;
      all = on_both r (all_both first lines more one.items two.items mid one.all one.next_is) two.all;
      next_is = on_both r (λ at. omega (arith, at, one.next_is, length-append one.items two.items)) two.next_is;
      none = none_both one.said two.said one.none two.none;
      answers = answered_both lines more one.said two.said r one.answers two.answers;
      own = two.own;
    }

    -- ---- a line

    module _ (next number : ℕ) (line : List ℕ) (request : Requested) (says : request ≡ requested number line) (old mid : Replica D) (before between : Option (List ℕ)) where
      pub line_none : Did g request old mid before between (Ok tt) → item_awaited next (requested 0 line) ≡ None → TakesItems g next (line ∷ []) old mid next before between (Ok tt)
      line_none did is = takes_all next (line ∷ []) old mid [] did.said next before between (no_item next line [] is) (omega arith) did.lives did.none (answered_line g number line request says old mid before between (Ok tt) did)

      pub line_not : (e : Refusal) (last : ℕ) → NotWrongCluster (Err e) → Did g request old mid before between (Err e) → TakesItems g next (line ∷ []) old mid last before between (Err e)
      line_not e last own did = takes_not next (line ∷ []) old mid did.said last before between e own did.lives did.none (answered_line g number line request says old mid before between (Err e) did)

      pub line_taken : (new : Replica D) (after : Option (List ℕ)) (receipts : List Reply) (i : Item) (last : ℕ) (r : Result (Unit {0}) Refusal) → NotWrongCluster r → Did g request old mid before between (Ok tt) → item_awaited next (requested 0 line) ≡ Some i
          → Lives g mid new (taken_by i r) (receipts_said receipts) between after r → OnOk r (last ≡ next + 1) → TakesItems g next (line ∷ []) old new last before after r
      line_taken new after receipts i last r own did is two at = by r own two at
        where
          none : passed_in (did.said ++ receipts_said receipts) ≡ []
          none = none_both did.said (receipts_said receipts) did.none (none_passed receipts)

          answers : (r : Result (Unit {0}) Refusal) → AreAnswered (line ∷ []) (did.said ++ receipts_said receipts) r
          answers r = answered_receipts (line ∷ []) did.said receipts r (answered_as (line ∷ []) did.said r (answered_line g number line request says old mid before between (Ok tt) did))

          by : (r : Result (Unit {0}) Refusal) → NotWrongCluster r → Lives g mid new (taken_by i r) (receipts_said receipts) between after r → OnOk r (last ≡ next + 1) → TakesItems g next (line ∷ []) old new last before after r
          by (Ok x) mine two at = takes_all next (line ∷ []) old new (i ∷ []) (did.said ++ receipts_said receipts) last before after (one_item next line [] i is) at (lives_both g parts old mid new [] (i ∷ []) did.said (receipts_said receipts) before between after (Ok tt) did.lives two) none (answers (Ok tt))
          by (Err e) mine two at = takes_not next (line ∷ []) old new (did.said ++ receipts_said receipts) last before after e mine (lives_both g parts old mid new [] [] did.said (receipts_said receipts) before between after (Err e) did.lives two) none (answers (Err e))

    -- ---- the lines

    pub lines_none : (first : ℕ) (r : Replica D) (text written : Option (List ℕ)) → FollowsLines g first r r text text first written written (Ok tt)
    lines_none first r text written = record { lines = []; handed = Consumes-nil text; takes = takes_all first [] r r [] [] first written written refl (omega arith) (lives_none g parts r written (Ok tt)) refl (answered_whole [] [] (Ok tt) refl) }

    pub lines_both : (first mid next : ℕ) (old between new : Replica D) (text middle behind before written after : Option (List ℕ)) (r : Result (Unit {0}) Refusal) → FollowsLines g first old between text middle mid before written (Ok tt)
        → FollowsLines g mid between new middle behind next written after r → FollowsLines g first old new text behind next before after r
    lines_both first mid next old between new text middle behind before written after r one two = record {
      lines = one.lines ++ two.lines;
      handed = handed_both text middle behind one.lines two.lines one.handed two.handed;
      takes = takes_both first mid next one.lines two.lines old between new before written after r one.takes two.takes;
    }

    pub lines_as : (first next : ℕ) (old new : Replica D) (text behind before after : Option (List ℕ)) (r : Result (Unit {0}) Refusal) → NotWrongCluster r → FollowsLines g first old new text behind next before after (Ok tt) → FollowsLines g first old new text behind next before after r
    lines_as first next old new text behind before after r own follows = record { lines = follows.lines; handed = follows.handed; takes = takes_as first follows.lines old new next before after r own follows.takes }

    -- ---- numbered items

    module _ (first : ℕ) (old new : Replica D) (was now : Counts) (left : List ℕ) (asked rest text behind : Option (List ℕ)) (last : List ℕ) (before after : Option (List ℕ)) (ends : Result End Refusal) (next : ℕ) (to : Option (List ℕ)) (same : to ≡ behind) (follows : FollowsItems g first old new was now left asked rest text behind last before after (ended ends) next) where
      abbrev Of : Result End Refusal → Type 0
      Of r = FollowsItems g first old new was now left asked rest text behind last before after (ended r) next

      -- the lines of the items, none of which has an answer of its own
      lines_of_items : (lines : List (List ℕ)) (items : List Item) (receipts : List Reply) → AreItems first lines items → AnswersLines lines (answers_in (receipts_said receipts))
      lines_of_items lines items receipts are = subst (AnswersLines lines) (sym (none_answered receipts)) (items_answer first lines items are)

      pub followed_text : (e : End) → ends ≡ Ok e → e ≡ Text → FollowsLines g first old new text to next before after (Ok tt)
      followed_text e is text_is =
          let f = subst Of (is ∙ ap Ok text_is) follows in
          record {
            lines = f.lines;
            handed = subst (λ (o : Option (List ℕ)). Consumes text o (text_of f.lines)) (sym same) (subst (λ (o : List (List ℕ)). Consumes text behind (text_of o)) f.out_is f.handed);
            takes = takes_all first f.lines old new f.items (receipts_said f.goes.receipts) next before after (numbered_items first f.lines f.items f.are) f.next_is (lives_goes g parts old new f.items was now before after (Ok tt) f.goes)
                (none_passed f.goes.receipts) (answered_whole f.lines (receipts_said f.goes.receipts) (Ok tt) (lines_of_items f.lines f.items f.goes.receipts f.are));
          }

      pub followed_line : (e : End) → ends ≡ Ok e → e ≡ Line → (line : List ℕ) → line ≡ last → (end : Replica D) (at : ℕ) (written : Option (List ℕ)) (r : Result (Unit {0}) Refusal) → TakesItems g next (line ∷ []) new end at after written r → FollowsLines g first old end text to at before written r
      followed_line e is at_line line line_is end at written r takes =
          let f = subst Of (is ∙ ap Ok at_line) follows in
          record {
            lines = f.lines ++ last ∷ [];
            handed = subst (λ (o : Option (List ℕ)). Consumes text o (text_of (f.lines ++ last ∷ []))) (sym same) (subst (λ (o : List (List ℕ)). Consumes text behind (text_of o)) f.out_is f.handed);
            takes = takes_both first next at f.lines (last ∷ []) old new end before after written r
                (takes_all first f.lines old new f.items (receipts_said f.goes.receipts) next before after (numbered_items first f.lines f.items f.are) f.next_is (lives_goes g parts old new f.items was now before after (Ok tt) f.goes)
                (none_passed f.goes.receipts) (answered_whole f.lines (receipts_said f.goes.receipts) (Ok tt) (lines_of_items f.lines f.items f.goes.receipts f.are)))
                (subst (λ (l : List ℕ). TakesItems g next (l ∷ []) new end at after written r) line_is takes);
          }

      pub followed_not : (e : Refusal) → ends ≡ Err e → FollowsLines g first old new text to next before after (Err e)
      followed_not e is =
          let f = subst Of is follows in
          record { lines = f.out; handed = subst (λ (o : Option (List ℕ)). Consumes text o (text_of f.out)) (sym same) f.handed; takes = by f (own_items g next new left asked rest f.lines last f.out e f.ends) f.out_is }
        where
          by : (f : Of (Err e)) → NotWrongCluster (Err e) → (f.out ≡ f.lines) ⊎ (f.out ≡ f.lines ++ last ∷ []) → TakesItems g first f.out old new next before after (Err e)
          by f own (inl out) = subst (λ (o : List (List ℕ)). TakesItems g first o old new next before after (Err e)) (append-nil f.lines ∙ sym out)
              (takes_front first f.lines [] old new f.items (receipts_said f.goes.receipts) next before after e own (numbered_items first f.lines f.items f.are) (lives_goes g parts old new f.items was now before after (Err e) f.goes) (none_passed f.goes.receipts) (lines_of_items f.lines f.items f.goes.receipts f.are))
          by f own (inr out) = subst (λ (o : List (List ℕ)). TakesItems g first o old new next before after (Err e)) (sym out)
              (takes_front first f.lines (last ∷ []) old new f.items (receipts_said f.goes.receipts) next before after e own (numbered_items first f.lines f.items f.are) (lives_goes g parts old new f.items was now before after (Err e) f.goes) (none_passed f.goes.receipts) (lines_of_items f.lines f.items f.goes.receipts f.are))
