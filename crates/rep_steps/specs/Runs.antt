-- Runs of events, and what they come to.
use Rattle.std.specs.Prelude.{◌≡◌, ℕ, ◌-◌, ◌≤◌, List, [], ◌∷◌, ◌++◌, length, map, take, drop}
use Rattle.rep_types.specs.declared.judged.Judged.{Judged}
use Rattle.rep_types.specs.declared.reply.Reply.{Reply}
use Rattle.rep_types.specs.declared.verdict.Verdict.{Verdict}
use Rattle.rep_types.specs.Replies.{reply_of}
use Rattle.rep_types.specs.Order.{Order, history}
use Rattle.rep_steps.specs.declared.event.Event.{Event}
use Rattle.rep_steps.specs.declared.answer.Answer.{Answer}
use Rattle.rep_steps.specs.declared.answer.Answer.TheVariants.{Gave, Synced}
use Rattle.rep_steps.specs.Standings.{delivered}
use Rattle.rep_steps.specs.Nodes.{Node, IsNode, Steps}
use Rattle.rep_steps.specs.Orders.{IsOf, accepted}

-- the events one after another, the answer to each, and what is there after the last; by what one step does
abbrev pub Runs : {S : Type 0} → (S → Event → Answer → S → Type 0) → S → List Event → List Answer → S → Type 0
Runs one s [] [] t = s ≡ t
Runs one s [] (a ∷ answers) t = ⊥
Runs one s (e ∷ events) [] t = ⊥
Runs {S} one s (e ∷ events) (a ∷ answers) t = (mid : S) × one s e a mid × Runs one mid events answers t

-- the order that a run delivered
abbrev pub accepted_by : List Event → List Answer → Order
accepted_by [] answers = []
accepted_by (e ∷ events) [] = []
accepted_by (e ∷ events) (a ∷ answers) = accepted e a ++ accepted_by events answers

-- the verdicts that it answered
abbrev pub verdict_in : Answer → List Verdict
verdict_in (Gave v) = v ∷ []
verdict_in a = []

abbrev pub verdicts : List Answer → List Verdict
verdicts [] = []
verdicts (a ∷ answers) = verdict_in a ++ verdicts answers

-- the replies that it gave
abbrev pub replies_in : Answer → List Reply
replies_in (Synced replies) = replies
replies_in a = []

abbrev pub acknowledged : List Answer → List Reply
acknowledged [] = []
acknowledged (a ∷ answers) = replies_in a ++ acknowledged answers

abbrev pub verdict_of : Judged → Verdict
verdict_of j = j.verdict

-- What a run comes to at a node of the order: a node of the order that grew by what was delivered; the verdicts are those of the
-- whole order; the replies are those of the items that became durable, in their order and each once.
pub record ComesTo (L : Order) (n : Node) (events : List Event) (answers : List Answer) (m : Node) : Type 0 where
  pub node : IsNode m
  pub setting : m.facts.setting ≡ n.facts.setting
  pub uuid : m.facts.uuid ≡ n.facts.uuid
  pub order : IsOf (L ++ accepted_by events answers) m
  pub judged : verdicts answers ≡ map verdict_of (drop (length L) (history n.facts.setting (L ++ accepted_by events answers)))
  pub rises : n.facts.durable ≤ m.facts.durable
  pub replied : acknowledged answers ≡ map reply_of (take (m.facts.durable - n.facts.durable) (drop n.facts.durable (history n.facts.setting (L ++ accepted_by events answers))))

abbrev pub RunsComeTo : Type 0
RunsComeTo = (L : Order) (n m : Node) (events : List Event) (answers : List Answer) → IsNode n → IsOf L n → Runs Steps n events answers m
    → ComesTo L n events answers m

-- What a run answers within a whole order: the verdicts and the replies are those that the order has there, between what was delivered
-- and durable before the run and after it.
pub record AnswersOf (O : Order) (n : Node) (answers : List Answer) (m : Node) : Type 0 where
  pub judged : verdicts answers ≡ map verdict_of (take (delivered m.facts - delivered n.facts) (drop (delivered n.facts) (history n.facts.setting O)))
  pub replied : acknowledged answers ≡ map reply_of (take (m.facts.durable - n.facts.durable) (drop n.facts.durable (history n.facts.setting O)))

-- So it is in each order that goes on behind what was delivered.
abbrev pub RunsAnswerTheOrder : Type 0
RunsAnswerTheOrder = (L rest : Order) (n m : Node) (events : List Event) (answers : List Answer) → IsNode n → IsOf L n → Runs Steps n events answers m
    → AnswersOf ((L ++ accepted_by events answers) ++ rest) n answers m

-- A node that was opened on a front of an order and is fed the rest gives the verdicts and replies of one that never stopped.
pub record GoesOn (L : Order) (end : ℕ) (n : Node) (answers : List Answer) (m : Node) : Type 0 where
  pub order : IsOf L m
  pub judged : verdicts answers ≡ map verdict_of (drop end (history n.facts.setting L))
  pub replied : acknowledged answers ≡ map reply_of (take (m.facts.durable - n.facts.durable) (drop n.facts.durable (history n.facts.setting L)))

abbrev pub FedTheRest : Type 0
FedTheRest = (L : Order) (end : ℕ) (n m : Node) (events : List Event) (answers : List Answer) → end ≤ length L → IsNode n → IsOf (take end L) n
    → Runs Steps n events answers m → accepted_by events answers ≡ drop end L → GoesOn L end n answers m
