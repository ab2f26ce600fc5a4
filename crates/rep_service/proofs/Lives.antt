-- Parts of a node's life, one after another.
use Rattle.std.proofs.Common.{◌≡◌, ℕ, ◌⊎◌, inl, inr, List, [], ◌∷◌, ◌++◌, length, map, Option, None, Some, Result, Ok, Err, OnOk, refl, sym, ap, subst, ◌∙◌, arith}
use Rattle.std.specs.Prelude.{take, IfOk, IfSome}
use Rattle.rep_types.specs.declared.key.Key.{Key}
use Rattle.rep_types.specs.declared.item.Item.{Item}
use Rattle.rep_types.specs.declared.judged.Judged.{Judged}
use Rattle.rep_types.specs.declared.reply.Reply.{Reply}
use Rattle.rep_types.specs.declared.refusal.Refusal.{Refusal}
use Rattle.rep_types.specs.Order.{Order, state}
use Rattle.rep_disk.specs.declared.disk.Disk.{Ghosts}
use Rattle.rep_log.specs.declared.phase.Phase.TheVariants.{Resting}
use Rattle.rep_steps.specs.Nodes.{Node}
use Rattle.rep_steps.specs.Orders.{IsOf}
use Rattle.rep_engine.specs.Engines.{gtid_of}
use Rattle.rep_replica.specs.Replicas.{Replica, facts_of}
use Rattle.rep_replica.specs.Holding.{Holds}
use Rattle.rep_replica.specs.Asking.{IsAsked}
use Rattle.rep_replica.specs.Reading.{IsRead}
use Rattle.rep_requests.specs.Requests.{Requested, Nothing, Published, Stated, Read as ReadsKeys, Sum as SumAt, State as OwnState, Limits as OwnLimits, Counters as OwnCounters, Donate, Refused as Wrong, Broken}
use Rattle.rep_sum.specs.declared.sum.Sum.{Sum}
use Rattle.rep_sum.specs.Sums.{RowRead, AreGiven, IsRefusedAt, sum_of, sum_refusal, Sums, IsSumAt}
use Rattle.rep_script.specs.Answering.{Tells}
use Rattle.rep_script.specs.Summing.{position_of}
use Rattle.rep_follow.specs.declared.counts.Counts.{Counts}
use Rattle.rep_follow.specs.Counting.{HasCounters}
use Rattle.rep_follow.specs.Committing.{item_of, Follows, Goes, TellsAll}
use Rattle.rep_follow.specs.Joining.{PartsAreJoined, GoingIsJoined}
use Rattle.rep_service.specs.Rows.{ReadsRows, rows_of}
use Rattle.rep_service.specs.Saying.{Said, Rows, Summed, State, Limits, Counters, Donated, Refused, Writes, line_of, receipts_in, passed_in, answers_in, receipts_said}
use Rattle.rep_service.specs.Commanding.{TellsRead, TellsSummed, TellsDonated, TellsTransfer, window_in, IsStateOf, IsLimitsOf, AreCountersOf, DoesAt}
use Rattle.rep_service.specs.Telling.{TellsTheOrder}
use Rattle.rep_service.specs.Living.{Lives, IsOfKind, AnswersTo}
use Rattle.rep_service.proofs.Saying.{receipts_both, answers_both, none_both, given_said, none_passed, none_answered, writes_none, writes_as, writes_both, writes_receipts, on_all, One, one_said, one_refuses, one_own}
use Rattle.rep_service.proofs.Ordered.{IsToldAt, tells_receipts, tells_both, rows_told, sum_told, state_told, limits_told}

abbrev no_counts : Counts
no_counts = record { items = 0; blocks = 0; checkpoints = 0; commit = 0; conflict = 0; stale = 0; future = 0; badkey = 0; unreadable = 0 }

have_none : HasCounters no_counts
have_none = record { items = omega arith; blocks = omega arith; checkpoints = omega arith; commit = omega arith; conflict = omega arith; stale = omega arith; future = omega arith; badkey = omega arith; unreadable = omega arith }

-- Nothing was delivered, and no reply given.
pub record Stays {D : Type 0} (g : Ghosts D) (old new : Replica D) : Type 0 where
  pub follows : Follows g old new [] []
  pub rests : (facts_of g old).phase ≡ Resting → (facts_of g new).phase ≡ Resting

-- What was done at a line that asks for this: nothing was delivered, and one line at most is its answer.
pub record Did {D : Type 0} (g : Ghosts D) (request : Requested) (old new : Replica D) (before after : Option (List ℕ)) (r : Result (Unit {0}) Refusal) : Type 0 where
  pub said : List Said
  pub lives : Lives g old new [] said before after r
  pub none : passed_in said ≡ []
  pub cut : (answers_in said ≡ []) ⊎ AnswersTo request (answers_in said)
  pub all : OnOk r (AnswersTo request (answers_in said))

module _ {D : Type 0} (g : Ghosts D) where
  -- it went on, whatever comes of the rest that changes nothing
  pub lives_as : (old new : Replica D) (items : List Item) (said : List Said) (before after : Option (List ℕ)) (r : Result (Unit {0}) Refusal) → Lives g old new items said before after (Ok tt) → Lives g old new items said before after r
  lives_as old new items said before after r lives = record { follows = lives.follows; written = writes_as said before after r lives.written; told = lives.told; rests = λ rests. on_all r (lives.rests rests) }

  nothing_judged : (js : List Judged) → map item_of js ≡ [] → js ≡ []
  nothing_judged [] is = refl
  nothing_judged (j ∷ js) is = absurd (let never : item_of j ∷ map item_of js ≡ [] = is in cc)

  nothing_in : (rs : List Reply) → length rs ≡ 0 → rs ≡ []
  nothing_in [] is = refl
  nothing_in (r ∷ rs) is = absurd (omega (arith, is))

  -- where nothing waits and nothing is delivered, no reply is given
  none_given : (old new : Replica D) (receipts : List Reply) → (facts_of g old).ahead ≡ [] → Follows g old new [] receipts → receipts ≡ []
  none_given old new receipts none follows =
      let judged = nothing_judged follows.judged follows.are_items in
      let waited : (facts_of g old).ahead ++ follows.judged ≡ [] = ap (λ l. l ++ follows.judged) none ∙ judged in
      let few = ap (λ (l : List Judged). length l) waited in
      nothing_in receipts (omega (arith, follows.durable.within, few))

  pub lives_quiet : (old new : Replica D) (said : List Said) (before after : Option (List ℕ)) (r : Result (Unit {0}) Refusal) → (facts_of g old).ahead ≡ [] → Lives g old new [] said before after r → receipts_in said ≡ []
  lives_quiet old new said before after r none lives = none_given old new (receipts_in said) none lives.follows

  pub lives_stays : (old new : Replica D) (said : List Said) (before after : Option (List ℕ)) (r : Result (Unit {0}) Refusal) → Stays g old new → receipts_in said ≡ [] → Writes said before after r → TellsTheOrder g old [] said → Lives g old new [] said before after r
  lives_stays old new said before after r stays still written told = record { follows = subst (Follows g old new []) (sym still) stays.follows; written = written; told = told; rests = λ rests. on_all r (stays.rests rests) }

  -- it stays as far as what was said has no receipt
  pub stays_of : (old new : Replica D) (said : List Said) (before after : Option (List ℕ)) → receipts_in said ≡ [] → Lives g old new [] said before after (Ok tt) → Stays g old new
  stays_of old new said before after still lives = record { follows = subst (Follows g old new []) still lives.follows; rests = lives.rests }

  module _ (parts : PartsAreJoined g) where
    pub lives_goes : (old new : Replica D) (items : List Item) {lines : List (List ℕ)} (was now : Counts) (before after : Option (List ℕ)) (r : Result (Unit {0}) Refusal) (goes : Goes g old new items lines was now before after r) → Lives g old new items (receipts_said goes.receipts) before after r
    lives_goes old new items was now before after r goes = record {
      follows = subst (Follows g old new items) (sym (given_said goes.receipts)) goes.follows;
      written = writes_receipts goes.receipts before after r goes.written;
      told = tells_receipts g parts old new items goes.receipts goes.follows;
      rests = goes.rests;
    }

    pub lives_none : (r : Replica D) (text : Option (List ℕ)) (result : Result (Unit {0}) Refusal) → Lives g r r [] [] text text result
    lives_none r text result = record { follows = parts.none r; written = writes_none text result; told = λ n L rest holds of. tt; rests = λ rests. on_all result rests }

    pub lives_both : (old mid new : Replica D) (items more : List Item) (first then : List Said) (before between after : Option (List ℕ)) (r : Result (Unit {0}) Refusal) → Lives g old mid items first before between (Ok tt) → Lives g mid new more then between after r
        → Lives g old new (items ++ more) (first ++ then) before after r
    lives_both old mid new items more first then before between after r one two = record {
      follows = subst (Follows g old new (items ++ more)) (sym (receipts_both first then)) (parts.both old mid new items more (receipts_in first) (receipts_in then) one.follows two.follows);
      written = writes_both first then before between after r one.written two.written;
      told = tells_both g parts old mid items more first then one.follows one.told two.told;
      rests = λ rests. two.rests (one.rests rests);
    }

    stays_none : (r : Replica D) → Stays g r r
    stays_none r = record { follows = parts.none r; rests = λ rests. rests }

    pub stays_both : (old mid new : Replica D) → Stays g old mid → Stays g mid new → Stays g old new
    stays_both old mid new one two = record { follows = parts.both old mid new [] [] [] [] one.follows two.follows; rests = λ rests. two.rests (one.rests rests) }

    module _ (going : GoingIsJoined g) where
      pub stays_asked : (old new : Replica D) → IsAsked g old new → Stays g old new
      stays_asked old new asked = record { follows = parts.asked old new asked; rests = (going.asked old new no_counts None have_none asked).rests }

      stays_read : (old new : Replica D) (key : Key) (at : ℕ) (answer : Result (Option (List ℕ)) Refusal) → IsRead g old key at answer new → Stays g old new
      stays_read old new key at answer is = record { follows = parts.read old new key at _ is.step; rests = (going.read old new key at _ no_counts None have_none is.step).rests }

      stays_given : (at : ℕ) (xs : List RowRead) (old new : Replica D) → AreGiven g at old xs new → Stays g old new
      stays_given at [] old new same = subst (λ r. Stays g old r) (sym same) (stays_none old)
      stays_given at (x ∷ xs) old new (mid, is, rest) = stays_both old mid new (stays_read old mid x.0 at (Ok x.1) is) (stays_given at xs mid new rest)

      stays_refused : (at : ℕ) (keys : List Key) (old new : Replica D) (e : Refusal) → IsRefusedAt g at keys old e new → Stays g old new
      stays_refused at keys old new e is = stays_both old is.mid new (stays_given at is.rows old is.mid is.given) (stays_read is.mid new is.key at (Err e) is.refused)

      stays_rows : (at : ℕ) (keys : List Key) (old new : Replica D) (rows : Result (List RowRead) Refusal) → ReadsRows g at keys old rows new → Stays g old new
      stays_rows at keys old new (Ok rows) reads = stays_given at rows old new reads.1
      stays_rows at keys old new (Err e) reads = stays_refused at keys old new e reads

      stays_sums : (at : ℕ) (old new : Replica D) (sum : Result Sum Refusal) → Sums g at old sum new → Stays g old new
      stays_sums at old new (Ok sum) sums = stays_given at sums.rows old new sums.given
      stays_sums at old new (Err e) sums = stays_refused at _ old new e sums

      stays_sum : (at : ℕ) (old new : Replica D) (sum : Result Sum Refusal) → IsSumAt g at old sum new → (o : Option Refusal) → sum_refusal (facts_of g old) at ≡ o → Stays g old new
      stays_sum at old new sum taken None is = stays_sums at old new sum (taken.sums is)
      stays_sum at old new sum taken (Some e) is =
          let refused : (sum ≡ Err e) × (new ≡ old) = subst (λ o. IfSome o (λ f. (sum ≡ Err f) × (new ≡ old))) is taken.refused in
          subst (λ r. Stays g old r) (sym refused.1) (stays_none old)

      -- ---- what was done at a line

      -- nothing
      nothing : (request : Requested) (old new : Replica D) (before after : Option (List ℕ)) (r : Result (Unit {0}) Refusal) → AnswersTo request [] → (new ≡ old) × (after ≡ before) → Did g request old new before after r
      nothing request old new before after r answers same = record {
        said = [];
        lives = subst (λ x. Lives g old x [] [] before after r) (sym same.0) (subst (λ x. Lives g old old [] [] before x r) (sym same.1) (lives_none old before r));
        none = refl;
        cut = inl refl;
        all = on_all r answers;
      }

      -- the answer to what a line asks for, as the order has it
      abbrev IsAnswer : Requested → Replica D → Said → Type 0
      IsAnswer request old one = IsOfKind request one × IsToldAt g old one

      tells_one : (request : Requested) (old : Replica D) (said : List Said) → (said ≡ []) ⊎ ((one : Said) × (said ≡ one ∷ []) × IsAnswer request old one) → TellsTheOrder g old [] said
      tells_one request old said (inl none) = subst (TellsTheOrder g old []) (sym none) (λ n L rest holds of. tt)
      tells_one request old said (inr (one, is, answer)) = subst (TellsTheOrder g old []) (sym is) (λ n L rest holds of. (answer.1 n L rest holds of, tt))

      -- one line was said, and nothing else done
      says : (request : Requested) (old new : Replica D) (before after : Option (List ℕ)) (r : Result (Unit {0}) Refusal) → ((said : List Said) → ((one : Said) × (said ≡ one ∷ []) × IsOfKind request one) → AnswersTo request said)
          → Stays g old new → One (IsAnswer request old) before after r → Did g request old new before after r
      says request old new before after r to stays one = record {
        said = one.said;
        lives = lives_stays old new one.said before after r stays one.still one.writes (tells_one request old one.said one.only);
        none = one.none;
        cut = by one.cut;
        all = on r one.all;
      }
        where
          by : (answers_in one.said ≡ []) ⊎ ((x : Said) × (answers_in one.said ≡ x ∷ []) × IsAnswer request old x) → (answers_in one.said ≡ []) ⊎ AnswersTo request (answers_in one.said)
          by (inl none) = inl none
          by (inr (x, is, answer)) = inr (to (answers_in one.said) (x, is, answer.0))

          on : (r : Result (Unit {0}) Refusal) → OnOk r ((x : Said) × (answers_in one.said ≡ x ∷ []) × IsAnswer request old x) → OnOk r (AnswersTo request (answers_in one.said))
          on (Ok y) (x, is, answer) = to (answers_in one.said) (x, is, answer.0)
          on (Err e) is = tt

      same_stays : (old new : Replica D) → new ≡ old → Stays g old new
      same_stays old new same = subst (λ x. Stays g old x) (sym same) (stays_none old)

      -- a refusal
      refused_one : (request : Requested) (old : Replica D) → ((f : Refusal) → IsOfKind request (Refused f)) → (f : Refusal) → IsAnswer request old (Refused f)
      refused_one request old any f = (any f, λ n L rest holds of. tt)

      rows_one : (keys : List Key) (old new : Replica D) (before after : Option (List ℕ)) (r : Result (Unit {0}) Refusal) (rows : Result (List RowRead) Refusal) → ReadsRows g (facts_of g old).durable keys old rows new → TellsRead (facts_of g old).durable rows before after r
          → ((n : Node) (L : Order) → Holds g n old → IsOf L n → IfOk rows (λ xs. xs ≡ rows_of n.facts.setting L keys (facts_of g old).durable)) → One (IsAnswer (ReadsKeys keys) old) before after r
      rows_one keys old new before after r (Ok rows) reads told order = one_said (IsAnswer (ReadsKeys keys) old) (Rows (facts_of g old).durable rows) before after r refl refl refl (reads.0, rows_told g parts old keys rows reads.0 order) told.0 told.1
      rows_one keys old new before after r (Err e) reads told order = one_refuses (IsAnswer (ReadsKeys keys) old) e before after r (refused_one (ReadsKeys keys) old (λ f. tt)) told

      sum_one : (asked : Option ℕ) (old new : Replica D) (before after : Option (List ℕ)) (r : Result (Unit {0}) Refusal) (sum : Result Sum Refusal) → IsSumAt g (position_of g old asked) old sum new → TellsSummed sum before after r
          → ((n : Node) (L : Order) → Holds g n old → IsOf L n → IfOk sum (λ s. s ≡ sum_of n.facts.uuid n.facts.setting.rows (state n.facts.setting (take (position_of g old asked) L)))) → One (IsAnswer (SumAt asked) old) before after r
      sum_one asked old new before after r (Ok sum) taken told order = one_said (IsAnswer (SumAt asked) old) (Summed asked sum) before after r refl refl refl (refl, sum_told g parts old new asked sum taken order) told.0 told.1
      sum_one asked old new before after r (Err e) taken told order = one_refuses (IsAnswer (SumAt asked) old) e before after r (refused_one (SumAt asked) old (λ f. tt)) told

      donated_one : (have out : List ℕ) (old : Replica D) (before after : Option (List ℕ)) (r : Result (Unit {0}) Refusal) (donated : Result ℕ Refusal) → TellsDonated donated before after r → One (IsAnswer (Donate have out) old) before after r
      donated_one have out old before after r (Ok last) told = one_said (IsAnswer (Donate have out) old) (Donated last) before after r refl refl refl (tt, λ n L rest holds of. tt) told.0 told.1
      donated_one have out old before after r (Err e) told = one_refuses (IsAnswer (Donate have out) old) e before after r (refused_one (Donate have out) old (λ f. tt)) told

      -- behind receipts
      behind_receipts : (request : Requested) (old mid new : Replica D) (receipts : List Reply) (before between after : Option (List ℕ)) (r : Result (Unit {0}) Refusal) → Lives g old mid [] (receipts_said receipts) before between (Ok tt) → Did g request mid new between after r
          → Did g request old new before after r
      behind_receipts request old mid new receipts before between after r one two =
          let same : answers_in (receipts_said receipts ++ two.said) ≡ answers_in two.said = answers_both (receipts_said receipts) two.said ∙ ap (λ l. l ++ answers_in two.said) (none_answered receipts) in
          record {
            said = receipts_said receipts ++ two.said;
            lives = lives_both old mid new [] [] (receipts_said receipts) two.said before between after r one two.lives;
            none = none_both (receipts_said receipts) two.said (none_passed receipts) two.none;
            cut = subst (λ l. (l ≡ []) ⊎ AnswersTo request l) (sym same) two.cut;
            all = subst (λ l. OnOk r (AnswersTo request l)) (sym same) two.all;
          }

      transfers : (have out : List ℕ) (old mid new : Replica D) (was now : Counts) (before between after : Option (List ℕ)) (committed r : Result (Unit {0}) Refusal) → TellsAll g old mid was now before between committed → TellsTransfer g mid new committed between after r
          → Did g (Donate have out) old new before after r
      transfers have out old mid new was now before between after (Ok x) r tells (asked, (donated, told)) =
          behind_receipts (Donate have out) old mid new tells.goes.receipts before between after r (lives_goes old mid [] was now before between (Ok tt) tells.goes)
          (says (Donate have out) mid new between after r (λ said is. is) (stays_asked mid new asked) (donated_one have out mid between after r donated told))
      transfers have out old mid new was now before between after (Err e) r tells (is, same, kept) =
          let lives = lives_goes old mid [] was now before between (Err e) tells.goes in
          record {
            said = receipts_said tells.goes.receipts;
            lives = subst (λ x. Lives g old x [] (receipts_said tells.goes.receipts) before after r) (sym same) (subst (λ x. Lives g old mid [] (receipts_said tells.goes.receipts) before x r) (sym kept) (subst (λ x. Lives g old mid [] (receipts_said tells.goes.receipts) before between x) (sym is) lives));
            none = none_passed tells.goes.receipts;
            cut = inl (none_answered tells.goes.receipts);
            all = subst (λ x. OnOk x (AnswersTo (Donate have out) (answers_in (receipts_said tells.goes.receipts)))) (sym is) tt;
          }

      pub did : (request : Requested) (old new : Replica D) (was now : Counts) (before after : Option (List ℕ)) (r : Result (Unit {0}) Refusal) → DoesAt g request old new was now before after r → Did g request old new before after r
      did Nothing old new was now before after r does = nothing Nothing old new before after r refl does.1
      did (Published n i) old new was now before after r does = nothing (Published n i) old new before after r refl does.1
      did (Stated i) old new was now before after r does = nothing (Stated i) old new before after r refl does.1
      did Broken old new was now before after r does = nothing Broken old new before after r refl does.1
      did (ReadsKeys keys) old new was now before after r does =
          says (ReadsKeys keys) old new before after r (λ said is. is) (stays_rows (facts_of g old).durable keys old new does.1.rows does.1.reads) (rows_one keys old new before after r does.1.rows does.1.reads does.1.told does.1.order)
      did (SumAt at) old new was now before after r does =
          says (SumAt at) old new before after r (λ said is. is) (stays_sum (position_of g old at) old new does.1.sum does.1.taken _ refl) (sum_one at old new before after r does.1.sum does.1.taken does.1.told does.1.order)
      did OwnState old new was now before after r does =
          says OwnState old new before after r (λ said is. is) (same_stays old new does.1.0)
          (one_own (IsStateOf g old) (IsAnswer OwnState old) before after r (refused_one OwnState old (λ f. tt)) does.1.1
          (λ one is told fault. one_said (IsAnswer OwnState old) (State (gtid_of old.engine) old.engine.checkpoint.base.position (window_in old).entries) before after r refl refl refl (tt, state_told g parts old is.1) (subst (λ s. Tells (line_of s) before after r) is.0 told) fault))
      did OwnLimits old new was now before after r does =
          says OwnLimits old new before after r (λ said is. is) (same_stays old new does.1.0)
          (one_own (IsLimitsOf g old) (IsAnswer OwnLimits old) before after r (refused_one OwnLimits old (λ f. tt)) does.1.1
          (λ one is told fault. one_said (IsAnswer OwnLimits old) (Limits (window_in old)) before after r refl refl refl (tt, limits_told g parts old is.1) (subst (λ s. Tells (line_of s) before after r) is.0 told) fault))
      did OwnCounters old new was now before after r does =
          says OwnCounters old new before after r (λ said is. is) (same_stays old new does.1.0)
          (one_own (AreCountersOf g old was) (IsAnswer OwnCounters old) before after r (refused_one OwnCounters old (λ f. tt)) does.1.1
          (λ one is told fault. one_said (IsAnswer OwnCounters old) (Counters is.0 was) before after r refl refl refl (tt, λ n L rest holds of. is.1.durable) (subst (λ s. Tells (line_of s) before after r) is.2 told) fault))
      did (Donate have out) old new was now before after r does = transfers have out old does.mid new was now before does.between after does.committed r does.tells does.transfer
      did (Wrong e) old new was now before after r does =
          says (Wrong e) old new before after r (λ said is. is) (same_stays old new does.1.0)
          (one_own (λ said. ⊥) (IsAnswer (Wrong e) old) before after r (refused_one (Wrong e) old (λ f. tt)) does.1.1 (λ one never told fault. absurd never))
