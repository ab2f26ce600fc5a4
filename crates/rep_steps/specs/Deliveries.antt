-- What is said of each delivery, whatever the kind of its item.
use Rattle.std.proofs.Common.{◌≡◌, ℕ, ◌+◌, false, [], ◌∷◌, ◌++◌, length, if◌then◌else◌, Some, refl}
use Rattle.rep_types.specs.declared.item.Item.{Item}
use Rattle.rep_types.specs.declared.item.Item.TheVariants.{WriteSet, SetWindow as OfChange}
use Rattle.rep_types.specs.declared.refusal.Refusal.{Refusal}
use Rattle.rep_types.specs.declared.refusal.Refusal.TheVariants.{Stopped}
use Rattle.rep_types.specs.declared.verdict.Verdict.{Verdict}
use Rattle.rep_types.specs.Order.{Order, verdict}
use Rattle.rep_steps.specs.declared.answer.Answer.TheVariants.{Gave, Refused}
use Rattle.rep_steps.specs.Events.{delivery}
use Rattle.rep_steps.specs.Standings.{Standing, delivery_refusal, refusal}
use Rattle.rep_steps.specs.Moves.{Found, answer, after, with_item, reads_a_page}
use Rattle.rep_steps.specs.Nodes.{Node, moved, verdict_on, verdict_for, delivered_to}
use Rattle.rep_steps.specs.Orders.{accepted, answer_of}

module _ (seqno : ℕ) where
  -- it is refused by its seqno alone
  pub delivery_refused : (s : Standing) (i : Item) → refusal s (delivery seqno i) ≡ (if s.stopped then Some Stopped else delivery_refusal s seqno)
  delivery_refused s (WriteSet w) = refl
  delivery_refused s (OfChange c) = refl

  -- it is answered by the verdict that was found, and leaves one more item
  pub delivery_answer : (s : Standing) (i : Item) (f : Found) → answer s (delivery seqno i) f ≡ Gave f.verdict
  delivery_answer s (WriteSet w) f = refl
  delivery_answer s (OfChange c) f = refl

  pub delivery_after : (s : Standing) (i : Item) (f : Found) → after s (delivery seqno i) f ≡ with_item s i f.verdict
  delivery_after s (WriteSet w) f = refl
  delivery_after s (OfChange c) f = refl

  -- a node finds the verdict of judging it, and has it from then on
  pub delivery_verdict : (n : Node) (i : Item) → verdict_on n (delivery seqno i) ≡ verdict_for n i
  delivery_verdict n (WriteSet w) = refl
  delivery_verdict n (OfChange c) = refl

  pub delivery_moved : (n : Node) (i : Item) → moved n (delivery seqno i) ≡ delivered_to n i
  delivery_moved n (WriteSet w) = refl
  delivery_moved n (OfChange c) = refl

  -- at a node of an order that is the order's, which grows by it where it was given one
  pub delivery_answered : (L : Order) (s : Standing) (i : Item) → answer_of L s (delivery seqno i) ≡ Gave (verdict s.setting (L ++ i ∷ []) (length L + 1))
  delivery_answered L s (WriteSet w) = refl
  delivery_answered L s (OfChange c) = refl

  pub delivery_accepted : (i : Item) (v : Verdict) → accepted (delivery seqno i) (Gave v) ≡ i ∷ []
  delivery_accepted (WriteSet w) v = refl
  delivery_accepted (OfChange c) v = refl

  pub delivery_not_accepted : (i : Item) (r : Refusal) → accepted (delivery seqno i) (Refused r) ≡ []
  delivery_not_accepted (WriteSet w) r = refl
  delivery_not_accepted (OfChange c) r = refl

  -- no page is read for it
  pub delivery_reads_nothing : (i : Item) → reads_a_page (delivery seqno i) ≡ false
  delivery_reads_nothing (WriteSet w) = refl
  delivery_reads_nothing (OfChange c) = refl
