-- Lines that are answered up to an item.
use Rattle.std.proofs.Common.{◌≡◌, ℕ, ◌+◌, inl, inr, List, [], ◌∷◌, ◌++◌, length, Option, None, Some, Result, Ok, Err, refl, sym, ap, subst, ◌∙◌, length-append, arith}
use Rattle.std.specs.Prelude.{MatchResult}
use Rattle.std.specs.Io.KnownBytes.{Keeps, Consumes, IsAtEnd}
use Rattle.std.proofs.KnownBytes.{Consumes-nil, Consumes-trans}
use Rattle.rep_types.specs.declared.item.Item.{Item}
use Rattle.rep_types.specs.declared.refusal.Refusal.{Refusal}
use Rattle.rep_disk.specs.declared.disk.Disk.{Ghosts}
use Rattle.rep_lines.specs.Lines.{HasNoFeed}
use Rattle.rep_requests.specs.Requests.{Requested, requested}
use Rattle.rep_replica.specs.Replicas.{Replica, facts_of}
use Rattle.rep_follow.specs.Joining.{PartsAreJoined}
use Rattle.rep_follow.specs.Taking.{text_of, item_awaited, items_in}
use Rattle.rep_service.specs.Commanding.{EndsNode, awaited, ComesOf}
use Rattle.rep_service.specs.Passing.{IsAnswered, IsItem, AreLines, Passes}
use Rattle.rep_service.specs.Living.{HandsLines, Reaches, Misses, NotWrongCluster}
use Rattle.rep_service.proofs.Saying.{own_ok}
use Rattle.rep_service.proofs.Following.{text_both}
use Rattle.rep_service.proofs.Lives.{Did}
use Rattle.rep_service.proofs.Handing.{hands_none, hands_kept, hands_more, hands_as}
use Rattle.rep_service.proofs.Items.{lines_items, items_both, no_item}

-- one more line is answered
answered_push : (next : ℕ) (lines : List (List ℕ)) (line : List ℕ) → AreLines next lines [] → IsAnswered next line → AreLines next (lines ++ line ∷ []) []
answered_push next [] line are is = inl (is, refl)
answered_push next (l ∷ lines) line (inl are) is = inl (are.0, answered_push next lines line are.1 is)
answered_push next (l ∷ lines) line (inr are) is = absurd (let never : [] ≡ are.0 ∷ are.1 = are.2 in cc)

-- the item is reached
item_push : (next : ℕ) (lines : List (List ℕ)) (line : List ℕ) (i : Item) → AreLines next lines [] → IsItem next line i → AreLines next (lines ++ line ∷ []) (i ∷ [])
item_push next [] line i are is = inr (i, [], refl, is, refl)
item_push next (l ∷ lines) line i (inl are) is = inl (are.0, item_push next lines line i are.1 is)
item_push next (l ∷ lines) line i (inr are) is = absurd (let never : [] ≡ are.0 ∷ are.1 = are.2 in cc)

-- So many lines were answered, none of which is an item.
pub record Reaching {D : Type 0} (g : Ghosts D) (next : ℕ) (old new : Replica D) (text behind before after : Option (List ℕ)) : Type 0 where
  pub hands : HandsLines g old new text behind before after (Ok tt)
  pub are : AreLines next hands.lines []

module _ {D : Type 0} (g : Ghosts D) (parts : PartsAreJoined g) (next : ℕ) where
  pub reaching_none : (r : Replica D) (text written : Option (List ℕ)) → Reaching g next r r text text written written
  reaching_none r text written = record { hands = hands_none g parts r text written; are = refl }

  module _ (old between : Replica D) (text mid behind before written : Option (List ℕ)) (so : Reaching g next old between text mid before written) where
    module _ (new : Replica D) (after : Option (List ℕ)) (number : ℕ) (line : List ℕ) (request : Requested) (says : request ≡ requested number line) (handed : Consumes mid behind (line ++ 10 ∷ [])) (none : (facts_of g between).ahead ≡ []) (did : Did g request between new written after (Ok tt)) where
      pub reaching_more : IsAnswered next line → Reaching g next old new text behind before after
      reaching_more is = record { hands = hands_more g parts old between new text mid behind before written after number line request (Ok tt) own_ok says so.hands handed none did; are = answered_push next so.hands.lines line so.are is }

      pub reaches_item : (left : List ℕ) (rest : Option (List ℕ)) (i : Item) → IsItem next line i → Reaches g next old new left rest text behind before after (Some i)
      reaches_item left rest i is = record {
        hands = hands_more g parts old between new text mid behind before written after number line request (Ok tt) own_ok says so.hands handed none did;
        are = item_push next so.hands.lines line i so.are is;
        ended = λ none. absurd cc;
      }

    pub misses_more : (new : Replica D) (after : Option (List ℕ)) (number : ℕ) (line : List ℕ) (request : Requested) (e : Refusal) → NotWrongCluster (Err e) → request ≡ requested number line → item_awaited next (requested 0 line) ≡ None → Consumes mid behind (line ++ 10 ∷ []) → (facts_of g between).ahead ≡ []
        → Did g request between new written after (Err e) → Misses g next old new text behind before after e
    misses_more new after number line request e own says other handed none did =
        let lines = so.hands.lines in
        let before_it : items_in next lines ≡ [] = lines_items next lines [] so.are in
        record {
          hands = hands_more g parts old between new text mid behind before written after number line request (Err e) own says so.hands handed none did;
          none = items_both next lines (line ∷ []) ∙ ap (λ (is : List Item). is ++ items_in (next + length is) (line ∷ [])) before_it ∙ ap (λ k. items_in k (line ∷ [])) (omega arith) ∙ no_item next line [] other;
        }

    pub misses_kept : (e : Refusal) → NotWrongCluster (Err e) → Keeps mid behind → Misses g next old between text behind before written e
    misses_kept e own kept = record { hands = hands_kept g old between text mid behind before written (Err e) own so.hands kept; none = lines_items next so.hands.lines [] so.are }

    pub misses_as : (e : Refusal) → NotWrongCluster (Err e) → Misses g next old between text mid before written e
    misses_as e own = record { hands = hands_as g old between text mid before written (Err e) own so.hands; none = lines_items next so.hands.lines [] so.are }

    pub reaches_end : (left : List ℕ) (rest : Option (List ℕ)) → HasNoFeed left → IsAtEnd rest → Keeps mid behind → Reaches g next old between left rest text behind before written None
    reaches_end left rest none ended kept = record { hands = hands_kept g old between text mid behind before written (Ok tt) own_ok so.hands kept; are = so.are; ended = λ is. (none, ended) }

-- ---- what came of a line

comes_item : (wanted result : Result (Option Item) Refusal) (i : Item) → ComesOf wanted result → result ≡ Ok (Some i) → wanted ≡ Ok (Some i)
comes_item (Ok None) result i comes is = absurd (let none = subst (λ r. MatchResult r (λ o. o ≡ None) EndsNode) is comes in let never : ◌≡◌ {A = Option Item} (Some i) None = none in cc)
comes_item (Ok (Some j)) result i comes is = sym comes ∙ is
comes_item (Err e) result i comes is = absurd (let never : ◌≡◌ {A = Result (Option Item) Refusal} (Err e) (Ok (Some i)) = sym comes ∙ is in cc)

comes_none : (wanted result : Result (Option Item) Refusal) → ComesOf wanted result → result ≡ Ok None → wanted ≡ Ok None
comes_none (Ok None) result comes is = refl
comes_none (Ok (Some j)) result comes is = absurd (let never : ◌≡◌ {A = Result (Option Item) Refusal} (Ok (Some j)) (Ok None) = sym comes ∙ is in cc)
comes_none (Err e) result comes is = absurd (let never : ◌≡◌ {A = Result (Option Item) Refusal} (Err e) (Ok None) = sym comes ∙ is in cc)

module _ (next number : ℕ) (line slice : List ℕ) (said : Requested) (result : Result (Option Item) Refusal) (sliced : slice ≡ line) (says : said ≡ requested number slice) (comes : ComesOf (awaited next number said) result) where
  said_is : said ≡ requested number line
  said_is = says ∙ ap (requested number) sliced

  pub is_item : (i : Item) → result ≡ Ok (Some i) → IsItem next line i
  is_item i is = (number, ap (awaited next number) (sym said_is) ∙ comes_item (awaited next number said) result i comes is)

  pub is_answered : result ≡ Ok None → IsAnswered next line
  is_answered is = (number, ap (awaited next number) (sym said_is) ∙ comes_none (awaited next number said) result comes is)

-- ---- items one after another

lines_both : (next : ℕ) (lines more : List (List ℕ)) (items rest : List Item) → AreLines next lines items → AreLines (next + length items) more rest → AreLines next (lines ++ more) (items ++ rest)
lines_both next [] more items rest none are =
    let at : next + length items ≡ next = ap (λ (is : List Item). next + length is) none ∙ omega arith in
    subst (λ (is : List Item). AreLines next more (is ++ rest)) (sym none) (subst (λ k. AreLines k more rest) at are)
lines_both next (l ∷ lines) more items rest (inl answered) are = inl (answered.0, lines_both next lines more items rest answered.1 are)
lines_both next (l ∷ lines) more items rest (inr (i, others, is, item, lines_are)) are =
    let at : next + length items ≡ (next + 1) + length others = ap (λ (xs : List Item). next + length xs) is ∙ omega arith in
    inr (i, others ++ rest, ap (λ (xs : List Item). xs ++ rest) is, item, lines_both (next + 1) lines more others rest lines_are (subst (λ k. AreLines k more rest) at are))

pub passes_none : (first : ℕ) (text : Option (List ℕ)) → Passes first text text [] first
passes_none first text = record { lines = []; are = refl; handed = Consumes-nil text; position_is = omega arith }

pub passes_both : (first mid : ℕ) (text between behind : Option (List ℕ)) (items more : List Item) (position : ℕ) → Passes first text between items mid → Passes mid between behind more position → Passes first text behind (items ++ more) position
passes_both first mid text between behind items more position one two = record {
  lines = one.lines ++ two.lines;
  are = lines_both (first + 1) one.lines two.lines items more one.are (subst (λ k. AreLines k two.lines more) (omega (arith, one.position_is)) two.are);
  handed = subst (Consumes text behind) (sym (text_both one.lines two.lines)) (Consumes-trans text between behind (text_of one.lines) (text_of two.lines) one.handed two.handed);
  position_is = omega (arith, one.position_is, two.position_is, length-append items more);
}

module _ {D : Type 0} (g : Ghosts D) (first : ℕ) (old new : Replica D) (left : List ℕ) (rest text behind before after : Option (List ℕ)) where
  -- the next item was passed over
  pub passes_item : (i : Item) (position : ℕ) → Reaches g (first + 1) old new left rest text behind before after (Some i) → position ≡ first + 1 → Passes first text behind (i ∷ []) position
  passes_item i position r is = record { lines = r.hands.lines; are = r.are; handed = r.hands.handed; position_is = omega (arith, is) }

  -- there is none
  pub passes_end : Reaches g (first + 1) old new left rest text behind before after None → Passes first text behind [] first
  passes_end r = record { lines = r.hands.lines; are = r.are; handed = r.hands.handed; position_is = omega arith }
