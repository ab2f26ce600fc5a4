-- Lines that are answered, one after another.
use Rattle.std.proofs.Common.{◌≡◌, ℕ, ◌+◌, ◌⊎◌, inl, inr, List, [], ◌∷◌, ◌++◌, length, take, Option, Some, Result, Ok, Err, OnOk, refl, sym, ap, subst, ◌∙◌, append-nil, append_assoc}
use Rattle.std.proofs.Math.Seq.{take-append_seam, take-append-add, take-length}
use Rattle.rep_types.specs.declared.item.Item.{Item}
use Rattle.rep_types.specs.declared.reply.Reply.{Reply}
use Rattle.rep_types.specs.declared.refusal.Refusal.{Refusal}
use Rattle.rep_disk.specs.declared.disk.Disk.{Ghosts}
use Rattle.rep_replica.specs.Replicas.{Replica}
use Rattle.rep_requests.specs.Requests.{Requested, Nothing, Published, Stated, Read, Sum, State, Limits, Counters, Donate, Refused, Broken, requested}
use Rattle.rep_follow.specs.Taking.{item_at, AreItems}
use Rattle.rep_service.specs.Saying.{Said, answers_in, receipts_said}
use Rattle.rep_service.specs.Living.{AnswersTo, AnswersLines, AreAnswered}
use Rattle.rep_service.proofs.Saying.{answers_both, none_answered, on_all}
use Rattle.rep_service.proofs.Lives.{Did}

pub on_both : {P Q : Type 0} (r : Result (Unit {0}) Refusal) → (P → Q) → OnOk r P → OnOk r Q
on_both (Ok x) f p = f p
on_both (Err e) f p = tt

-- ---- lines

lines_answer : (lines more : List (List ℕ)) (said then : List Said) → AnswersLines lines said → AnswersLines more then → AnswersLines (lines ++ more) (said ++ then)
lines_answer [] more said then none two = subst (λ s. AnswersLines more (s ++ then)) (sym none) two
lines_answer (line ∷ lines) more said then (first, rest, is, here, one) two = (first, rest ++ then, ap (λ s. s ++ then) is ∙ append_assoc first rest then, here, lines_answer lines more rest then one two)

-- an item is answered by no line of its own
no_answer : (seqno : ℕ) (request : Requested) (i : Item) → item_at seqno request ≡ Some i → AnswersTo request []
no_answer seqno Nothing i is = refl
no_answer seqno (Published n j) i is = refl
no_answer seqno (Stated j) i is = refl
no_answer seqno Broken i is = refl
no_answer seqno (Read keys) i is = absurd cc
no_answer seqno (Sum at) i is = absurd cc
no_answer seqno State i is = absurd cc
no_answer seqno Limits i is = absurd cc
no_answer seqno Counters i is = absurd cc
no_answer seqno (Donate have out) i is = absurd cc
no_answer seqno (Refused e) i is = absurd cc

pub items_answer : (seqno : ℕ) (lines : List (List ℕ)) (items : List Item) → AreItems seqno lines items → AnswersLines lines []
items_answer seqno [] [] are = refl
items_answer seqno [] (i ∷ items) are = absurd are
items_answer seqno (line ∷ lines) [] are = absurd are
items_answer seqno (line ∷ lines) (i ∷ items) are = ([], [], refl, (0, no_answer seqno (requested 0 line) i are.0), items_answer (seqno + 1) lines items are.1)

-- ---- lines, and how it ended

pub answered_whole : (lines : List (List ℕ)) (said : List Said) (r : Result (Unit {0}) Refusal) → AnswersLines lines (answers_in said) → AreAnswered lines said r
answered_whole lines said r are = record { most = length lines; are = subst (λ l. AnswersLines l (answers_in said)) (sym (take-length lines)) are; all = on_all r are }

-- a front of them
pub answered_front : (lines more : List (List ℕ)) (said : List Said) (e : Refusal) → AnswersLines lines (answers_in said) → AreAnswered (lines ++ more) said (Err e)
answered_front lines more said e are = record { most = length lines; are = subst (λ l. AnswersLines l (answers_in said)) (sym (take-append_seam lines more)) are; all = tt }

pub answered_as : (lines : List (List ℕ)) (said : List Said) (r : Result (Unit {0}) Refusal) → AreAnswered lines said (Ok tt) → AreAnswered lines said r
answered_as lines said r a = record { most = a.most; are = a.are; all = on_all r a.all }

pub answered_both : (lines more : List (List ℕ)) (said then : List Said) (r : Result (Unit {0}) Refusal) → AreAnswered lines said (Ok tt) → AreAnswered more then r → AreAnswered (lines ++ more) (said ++ then) r
answered_both lines more said then r one two =
    let both = sym (answers_both said then) in
    record {
      most = length lines + two.most;
      are = subst (λ l. AnswersLines l (answers_in (said ++ then))) (sym (take-append-add lines more two.most)) (subst (AnswersLines (lines ++ take two.most more)) both (lines_answer lines (take two.most more) (answers_in said) (answers_in then) one.all two.are));
      all = on_both r (λ are. subst (AnswersLines (lines ++ more)) both (lines_answer lines more (answers_in said) (answers_in then) one.all are)) two.all;
    }

-- what answers no line comes behind it
pub answered_more : (lines : List (List ℕ)) (said more : List Said) (r : Result (Unit {0}) Refusal) → answers_in more ≡ [] → AreAnswered lines said r → AreAnswered lines (said ++ more) r
answered_more lines said more r none a =
    let same : answers_in said ≡ answers_in (said ++ more) = sym (answers_both said more ∙ ap (λ l. answers_in said ++ l) none ∙ append-nil (answers_in said)) in
    record { most = a.most; are = subst (AnswersLines (take a.most lines)) same a.are; all = on_both r (subst (AnswersLines lines) same) a.all }

pub answered_receipts : (lines : List (List ℕ)) (said : List Said) (receipts : List Reply) (r : Result (Unit {0}) Refusal) → AreAnswered lines said r → AreAnswered lines (said ++ receipts_said receipts) r
answered_receipts lines said receipts r a = answered_more lines said (receipts_said receipts) r (none_answered receipts) a

-- ---- a line

module _ {D : Type 0} (g : Ghosts D) (number : ℕ) (line : List ℕ) (request : Requested) (is : request ≡ requested number line) (old new : Replica D) (before after : Option (List ℕ)) (r : Result (Unit {0}) Refusal) (did : Did g request old new before after r) where
  one_line : AnswersTo request (answers_in did.said) → AnswersLines (line ∷ []) (answers_in did.said)
  one_line answers = (answers_in did.said, [], sym (append-nil (answers_in did.said)), (number, subst (λ q. AnswersTo q (answers_in did.said)) is answers), refl)

  pub answered_line : AreAnswered (line ∷ []) did.said r
  answered_line = by did.cut
    where
      by : (answers_in did.said ≡ []) ⊎ AnswersTo request (answers_in did.said) → AreAnswered (line ∷ []) did.said r
      by (inl none) = record { most = 0; are = none; all = on_both r one_line did.all }
      by (inr answers) = record { most = 1; are = one_line answers; all = on_both r one_line did.all }
