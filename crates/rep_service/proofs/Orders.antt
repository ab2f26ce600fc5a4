-- What was delivered of an order, from its first line to its end, and what was written of it.
use Rattle.std.proofs.Common.{◌≡◌, ◌≢◌, ℕ, ◌+◌, ◌-◌, ◌≤◌, Bool, true, false, List, [], ◌++◌, length, take, drop, Option, Result, Ok, Err, OnOk, refl, sym, ap, subst, ◌∙◌, append-nil, take_all, arith}
use Rattle.std.specs.Io.KnownBytes.{IsAtEnd}
use Rattle.std.proofs.Math.Seq.{drop-append_seam, take-append_seam}
use Rattle.std.proofs.lemmas.List.{drop_all}
use Rattle.rep_types.specs.declared.item.Item.{Item}
use Rattle.rep_types.specs.declared.reply.Reply.{Reply}
use Rattle.rep_types.specs.declared.refusal.Refusal.{Refusal}
use Rattle.rep_types.specs.declared.refusal.Refusal.TheVariants.{StreamFault, WrongCluster}
use Rattle.rep_disk.specs.declared.disk.Disk.{Ghosts}
use Rattle.rep_replica.specs.Replicas.{Replica, facts_of}
use Rattle.rep_engine.specs.Engines.{gtid_of}
use Rattle.rep_follow.specs.Committing.{Follows}
use Rattle.rep_follow.specs.Joining.{PartsAreJoined}
use Rattle.rep_follow.specs.Taking.{items_in}
use Rattle.rep_service.specs.Opening.{OpensOrder, at_line}
use Rattle.rep_service.specs.Serving.{is_of_line}
use Rattle.rep_service.specs.Saying.{Said, Writes, receipts_in, passed_in, receipts_said}
use Rattle.rep_service.specs.Telling.{TellsTheOrder}
use Rattle.rep_service.specs.Living.{Lives, FollowsLines, IsFrom, ArePassed, PassesLines, IsOfLog, passed_before, FollowsOrder, ClosesWell, FollowsText, NotWrongCluster}
use Rattle.rep_service.proofs.Saying.{receipts_both, passed_both, writes_both, writes_whole, on_all}
use Rattle.rep_service.proofs.Ordered.{tells_both}
use Rattle.rep_service.proofs.Lives.{lives_both}
use Rattle.rep_service.proofs.Items.{items_both}
use Rattle.rep_service.proofs.Answered.{on_both, answered_as, answered_both}
use Rattle.rep_service.proofs.Following.{handed_both}
use Rattle.rep_service.proofs.Passed.{all_append, from_none, passes_as, passed_count}

-- the items behind those that were passed over
items_behind : (position at next : ℕ) (lines more : List (List ℕ)) → at ≡ position + length (items_in (position + 1) lines) → next ≡ at + 1 → drop (at - position) (items_in (position + 1) (lines ++ more)) ≡ items_in next more
items_behind position at next lines more passed next_is =
    let count : at - position ≡ length (items_in (position + 1) lines) = omega (arith, passed) in
    let behind : (position + 1) + length (items_in (position + 1) lines) ≡ next = omega (arith, passed, next_is) in
    ap (λ (k : ℕ). drop k (items_in (position + 1) (lines ++ more))) count ∙ ap (drop (length (items_in (position + 1) lines))) (items_both (position + 1) lines more)
    ∙ drop-append_seam (items_in (position + 1) lines) (items_in ((position + 1) + length (items_in (position + 1) lines)) more) ∙ ap (λ (k : ℕ). items_in k more) behind

module _ {D : Type 0} (g : Ghosts D) where
  abbrev Order : ℕ → Replica D → Replica D → Option (List ℕ) → Option (List ℕ) → Option (List ℕ) → Option (List ℕ) → List Said → Result (Unit {0}) Refusal → Type 0
  Order = FollowsOrder g

  abbrev base_of : Replica D → ℕ
  base_of r = r.engine.checkpoint.base.position

  -- lines whose items are durable already
  abbrev Passes : ℕ → Replica D → Replica D → Option (List ℕ) → Option (List ℕ) → ℕ → Option (List ℕ) → Option (List ℕ) → Result (Unit {0}) Refusal → Type 0
  Passes position old new text behind at before after r = PassesLines g (base_of old) (IsOfLog g old) position old new text behind at before after r

  unclosed : (old new : Replica D) (items : List Item) (said : List Said) (before after : Option (List ℕ)) (r : Result (Unit {0}) Refusal) → Lives g old new items said before after r → Lives g old new items (said ++ []) before after r
  unclosed old new items said before after r lives = subst (λ s. Lives g old new items s before after r) (sym (append-nil said)) lives

  -- it ended before what is durable was passed over
  pub order_not : (position : ℕ) (old new : Replica D) (text behind : Option (List ℕ)) (at : ℕ) (before after : Option (List ℕ)) (e : Refusal) → Passes position old new text behind at before after (Err e) → Order position old new text behind before after [] (Err e)
  order_not position old new text behind at before after e passes = record {
    lines = passes.lines;
    items = [];
    said = passes.said;
    handed = passes.handed;
    lives = unclosed old new [] passes.said before after (Err e) passes.lives;
    most = 0;
    are = refl;
    all = tt;
    passed = passes.passed.most;
    are_passed = passes.passed.are;
    all_passed = tt;
    from = passes.passed.from;
    missed = λ old few. passes.passed.missed few;
    differs = passes.passed.differs;
    answers = passes.answers;
  }

  pub order_stopped : (position : ℕ) (old new : Replica D) (text behind : Option (List ℕ)) (at : ℕ) (before after : Option (List ℕ)) (e : Refusal) → NotWrongCluster (Err e) → Passes position old new text behind at before after (Ok tt) → Order position old new text behind before after [] (Err e)
  order_stopped position old new text behind at before after e own passes = order_not position old new text behind at before after e (passes_as g (base_of old) (IsOfLog g old) position old new text behind at before after (Err e) own passes)

  -- the text ended before
  pub order_short : (position : ℕ) (old new : Replica D) (text behind : Option (List ℕ)) (at : ℕ) (before after : Option (List ℕ)) → Passes position old new text behind at before after (Ok tt) → at ≤ (facts_of g old).durable → Order position old new text behind before after [] (Ok tt)
  order_short position old new text behind at before after passes within =
      let items = items_in (position + 1) passes.lines in
      let few : length items ≤ passed_before g position old = omega (arith, passes.position_is, within) in
      record {
        lines = passes.lines;
        items = [];
        said = passes.said;
        handed = passes.handed;
        lives = unclosed old new [] passes.said before after (Ok tt) passes.lives;
        most = 0;
        are = refl;
        all = sym (drop_all (passed_before g position old) items few);
        passed = passes.passed.most;
        are_passed = passes.passed.are;
        all_passed = subst (λ is. ArePassed (position + 1) is (passed_in passes.said)) (sym (take_all (passed_before g position old) items few)) passes.passed.all;
        from = passes.passed.from;
        missed = λ old few. passes.passed.missed few;
        differs = passes.passed.differs;
        answers = passes.answers;
      }

  module _ (parts : PartsAreJoined g) where
    -- another part ended it, behind all lines
    pub order_ended : (position : ℕ) (old mid new : Replica D) (text behind before written after : Option (List ℕ)) (closing : List Said) (r : Result (Unit {0}) Refusal) → NotWrongCluster r → Order position old mid text behind before written [] (Ok tt) → Lives g mid new [] closing written after r
        → Order position old new text behind before after closing r
    order_ended position old mid new text behind before written after closing r own f lives =
        let both = lives_both g parts old mid new f.items [] (f.said ++ []) closing before written after r f.lives lives in
        record {
          lines = f.lines;
          items = f.items;
          said = f.said;
          handed = f.handed;
          lives = subst (λ (is : List Item). Lives g old new is (f.said ++ closing) before after r) (append-nil f.items) (subst (λ s. Lives g old new (f.items ++ []) (s ++ closing) before after r) (append-nil f.said) both);
          most = f.most;
          are = f.are;
          all = on_all r f.all;
          passed = f.passed;
          are_passed = f.are_passed;
          all_passed = on_all r f.all_passed;
          from = f.from;
          missed = λ old few. absurd (let never = f.missed old few in cc);
          differs = λ is. absurd (own is);
          answers = answered_as f.lines f.said r f.answers;
        }

    pub order_follows : (position : ℕ) (old mid new : Replica D) (text between behind before written after : Option (List ℕ)) (at next last : ℕ) (r : Result (Unit {0}) Refusal) → Passes position old mid text between at before written (Ok tt) → at ≡ (facts_of g old).durable → next ≡ at + 1
        → FollowsLines g next mid new between behind last written after r → Order position old new text behind before after [] r
    order_follows position old mid new text between behind before written after at next last r passes durable next_is follows =
        let items = items_in (position + 1) passes.lines in
        let both = items_both (position + 1) passes.lines follows.lines in
        let rest = ap (λ (k : ℕ). drop (k - position) (items_in (position + 1) (passes.lines ++ follows.lines))) (sym durable) ∙ items_behind position at next passes.lines follows.lines passes.position_is next_is in
        let count : passed_before g position old ≡ length items = omega (arith, passes.position_is, durable) in
        let front : take (passed_before g position old) (items_in (position + 1) (passes.lines ++ follows.lines)) ≡ items =
        ap (λ k. take k (items_in (position + 1) (passes.lines ++ follows.lines))) count ∙ ap (take (length items)) both ∙ take-append_seam items (items_in ((position + 1) + length items) follows.lines) in
        let same : passed_in passes.said ≡ passed_in (passes.said ++ follows.takes.said) = sym (passed_both passes.said follows.takes.said ∙ ap (λ l. passed_in passes.said ++ l) follows.takes.none ∙ append-nil (passed_in passes.said)) in
        let whole : ArePassed (position + 1) (take (passed_before g position old) (items_in (position + 1) (passes.lines ++ follows.lines))) (passed_in (passes.said ++ follows.takes.said)) =
        subst (λ is. ArePassed (position + 1) is (passed_in (passes.said ++ follows.takes.said))) (sym front) (subst (ArePassed (position + 1) items) same passes.passed.all) in
        record {
          lines = passes.lines ++ follows.lines;
          items = follows.takes.items;
          said = passes.said ++ follows.takes.said;
          handed = handed_both text between behind passes.lines follows.lines passes.handed follows.handed;
          lives = unclosed old new follows.takes.items (passes.said ++ follows.takes.said) before after r (lives_both g parts old mid new [] follows.takes.items passes.said follows.takes.said before written after r passes.lives follows.takes.lives);
          most = follows.takes.most;
          are = follows.takes.are ∙ ap (take follows.takes.most) (sym rest);
          all = on_both r (λ (is : follows.takes.items ≡ items_in next follows.lines). is ∙ sym rest) follows.takes.all;
          passed = passed_before g position old;
          are_passed = whole;
          all_passed = on_all r whole;
          from = all_append (IsFrom (base_of old) (IsOfLog g old)) passes.said follows.takes.said passes.passed.from (from_none (base_of old) (IsOfLog g old) follows.takes.said follows.takes.none);
          missed = λ old few. absurd (let told = passed_count (position + 1) items (passed_in passes.said) passes.passed.all in let as_many = ap (λ (l : List Said). length l) same in omega (arith, old, told, as_many, count));
          differs = λ is. absurd (follows.takes.own is);
          answers = answered_both passes.lines follows.lines passes.said follows.takes.said r passes.answers follows.takes.answers;
        }

    -- what came before a line that ended it was made durable then
    order_closed : (position : ℕ) (old mid new : Replica D) (text behind before written after : Option (List ℕ)) (receipts : List Reply) (e f : Refusal) → NotWrongCluster (Err f) → is_of_line e ≡ true → Order position old mid text behind before written [] (Err e) → Lives g mid new [] (receipts_said receipts) written after (Err f)
        → Order position old new text behind before after (receipts_said receipts) (Err f)
    order_closed position old mid new text behind before written after receipts e f ours of order lives =
        let own : e ≢ StreamFault = λ is. absurd (let never : true ≡ false = sym of ∙ ap is_of_line is in cc) in
        let first = order.lives in
        let whole = writes_whole (order.said ++ []) before written e own first.written in
        let unit = append-nil order.said in
        record {
          lines = order.lines;
          items = order.items;
          said = order.said;
          handed = order.handed;
          lives = record {
            follows = subst (λ s. Follows g old new order.items (receipts_in (s ++ receipts_said receipts))) unit
                (subst (Follows g old new order.items) (sym (receipts_both (order.said ++ []) (receipts_said receipts)))
                (subst (λ (is : List Item). Follows g old new is (receipts_in (order.said ++ []) ++ receipts_in (receipts_said receipts))) (append-nil order.items)
                (parts.both old mid new order.items [] (receipts_in (order.said ++ [])) (receipts_in (receipts_said receipts)) first.follows lives.follows)));
            written = subst (λ s. Writes (s ++ receipts_said receipts) before after (Err f)) unit (writes_both (order.said ++ []) (receipts_said receipts) before written after (Err f) whole lives.written);
            told = subst (λ s. TellsTheOrder g old order.items (s ++ receipts_said receipts)) unit
                (subst (λ (is : List Item). TellsTheOrder g old is ((order.said ++ []) ++ receipts_said receipts)) (append-nil order.items) (tells_both g parts old mid order.items [] (order.said ++ []) (receipts_said receipts) first.follows first.told lives.told));
            rests = λ rests. tt;
          };
          most = order.most;
          are = order.are;
          all = tt;
          passed = order.passed;
          are_passed = order.are_passed;
          all_passed = tt;
          from = order.from;
          missed = λ old few. absurd (let is : ◌≡◌ {A = Result (Unit {0}) Refusal} (Err e) (Err WrongCluster) = order.missed old few in let same : e ≡ WrongCluster = cc in let never : true ≡ false = sym of ∙ ap is_of_line same in cc);
          differs = λ is. absurd (ours is);
          answers = record { most = order.answers.most; are = order.answers.are; all = tt };
        }

    pub order_behind : (position : ℕ) (old mid new : Replica D) (text behind before written after : Option (List ℕ)) (e f : Refusal) (b : Bool) → is_of_line e ≡ b → Order position old mid text behind before written [] (Err e)
        → (is_of_line e ≡ true → NotWrongCluster (Err f)) → (is_of_line e ≡ true → (receipts : List Reply) × Lives g mid new [] (receipts_said receipts) written after (Err f)) → (is_of_line e ≡ false → (f ≡ e) × (new ≡ mid) × (after ≡ written))
        → (closing : List Said) × Order position old new text behind before after closing (Err f)
    order_behind position old mid new text behind before written after e f true of order own line other = let closed = line of in (receipts_said closed.0, order_closed position old mid new text behind before written after closed.0 e f (own of) of order closed.1)
    order_behind position old mid new text behind before written after e f false of order own line other =
        let same = other of in
        ([], subst (λ (r : Replica D). Order position old r text behind before after [] (Err f)) (sym same.1) (subst (λ (x : Refusal). Order position old mid text behind before after [] (Err x)) (sym same.0) (subst (λ w. Order position old mid text behind before w [] (Err e)) (sym same.2) order)))

  -- ---- a text

  pub text_not : (old : Replica D) (text : Option (List ℕ)) (left : List ℕ) (rest opened before after : Option (List ℕ)) (e : Refusal) → OpensOrder (facts_of g old) (at_line (gtid_of old.engine) (base_of old)) 0 left rest text opened before after (Err e)
      → FollowsText g old old text before after (Err e)
  text_not old text left rest opened before after e opens = record { begun = Err e; left = left; rest = rest; opened = opened; told = after; opens = opens; follows = (refl, refl, refl) }

  pub text_follows : (position : ℕ) (old new : Replica D) (text : Option (List ℕ)) (left : List ℕ) (rest opened behind before told after : Option (List ℕ)) (closing : List Said) (r : Result (Unit {0}) Refusal)
      → OpensOrder (facts_of g old) (at_line (gtid_of old.engine) (base_of old)) 0 left rest text opened before told (Ok position) → position ≤ (facts_of g old).durable → Order position old new opened behind told after closing r → OnOk r (IsAtEnd behind × ClosesWell new closing)
      → FollowsText g old new text before after r
  text_follows position old new text left rest opened behind before told after closing r opens begins order ends = record {
    begun = Ok position;
    left = left;
    rest = rest;
    opened = opened;
    told = told;
    opens = opens;
    follows = (begins, (behind, closing, order, ends));
  }
