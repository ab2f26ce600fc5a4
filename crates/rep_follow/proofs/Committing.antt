-- Commits of blocks one after another.
use Rattle.std.proofs.Common.{◌≡◌, ℕ, ◌-◌, ◌<◌, ◌≤◌, Bool, true, false, List, [], ◌∷◌, ◌++◌, length, take, drop, map, Option, Result, Ok, Err, refl, sym, ap, ◌∙◌, ◌⊎◌, inl, inr, arith, subst, append_assoc, append-nil, length-append, length-drop}
use Rattle.std.proofs.lemmas.List.{map-append, drop-drop, drop-append-le, take-append-le, length-map, length-take-le}
use Rattle.std.proofs.Math.Seq.{take-add}
use Rattle.std.specs.Prelude.{◌||◌, is_some, nat_lt, OnOk, OnErr, IfErr}
use Rattle.std.specs.Io.KnownBytes.{Appends}
use Rattle.std.proofs.KnownBytes.{Appends-nil, Appends-trans}
use Rattle.std.proofs.lemmas.List.Concat.{flat_map-append}
use Rattle.rep_types.specs.declared.refusal.Refusal.TheVariants.{StreamFault, Exhausted, Stopped, OutOfMemory, DiskFault, Corrupt}
use Rattle.rep_types.specs.declared.refusal.Part.TheVariants.{Pages}
use Rattle.rep_types.specs.declared.item.Item.{Item}
use Rattle.rep_types.specs.declared.judged.Judged.{Judged}
use Rattle.rep_types.specs.declared.reply.Reply.{Reply}
use Rattle.rep_types.specs.declared.refusal.Refusal.{Refusal}
use Rattle.rep_types.specs.Replies.{reply_of}
use Rattle.rep_disk.specs.declared.disk.Disk.{Ghosts}
use Rattle.rep_steps.specs.declared.event.Event.{Event}
use Rattle.rep_steps.specs.declared.answer.Answer.{Answer}
use Rattle.rep_steps.specs.declared.answer.Answer.TheVariants.{Refused}
use Rattle.rep_steps.specs.Standings.{Standing, delivered as delivered_of}
use Rattle.rep_steps.specs.Runs.{Runs as RunsBy, accepted_by, acknowledged}
use Rattle.rep_steps.specs.Orders.{accepted}
use Rattle.rep_steps.specs.declared.event.Event.TheVariants.{Deliver, SetWindow, Log, Sync, Check, Flush, Read}
use Rattle.rep_replica.specs.Replicas.{Replica, facts_of}
use Rattle.rep_replica.specs.Settling.{IsOwn, AreOwn, EndsEarly}
use Rattle.rep_replica.specs.Holding.{IsStep}
use Rattle.rep_replica.specs.Running.{Ran}
use Rattle.rep_replica.specs.Episodes.{Episode, Runs, GivesUp, Brings, Breaks, AreEpisodes, replies_of}
use Rattle.rep_replica.specs.Asking.{IsAsked, AsksAreGivenUp}
use Rattle.rep_replica.specs.Committing.{Commits as CommitsBlock, HasBlock, coming}
use Rattle.rep_follow.specs.Receipts.{receipt_line, receipt_lines}
use Rattle.rep_follow.specs.declared.counts.Counts.{Counts}
use Rattle.rep_follow.specs.Counting.{one_where, tally, risen_by, HasCounters, HasSettled}
use Rattle.rep_follow.specs.Committing.{IsDurableBy, item_of, BringNothing, accepted_in, Follows, IsLastAnswer, EndsAsAnswered, Goes, Written, WrittenNext, TellsNext, TellsAll}
use Rattle.rep_follow.proofs.Counting.{risen_not, counted_both, counted_block, counted_run, counted_items, counted_none}
use Rattle.rep_follow.specs.Taking.{Delivers}

-- ---- the receipts

-- nothing became durable
pub none_durable : (s t : Standing) → t.durable ≡ s.durable → t.ahead ≡ s.ahead → IsDurableBy s [] [] t
none_durable s t durable ahead = record { within = omega arith; are = refl; durable = omega (arith, durable); ahead = ahead ∙ sym (append-nil s.ahead) }

-- first these, and then those behind them
pub both_durable : (s m t : Standing) (one two : List Judged) (first then : List Reply) → IsDurableBy s one first m → IsDurableBy m two then t → IsDurableBy s (one ++ two) (first ++ then) t
both_durable s m t one two first then p q =
    let size = length-append first then in
    let all = s.ahead ++ one in
    let whole : s.ahead ++ (one ++ two) ≡ all ++ two = sym (append_assoc s.ahead one two) in
    let left : m.ahead ++ two ≡ drop (length first) (all ++ two) = ap (λ l. l ++ two) p.ahead ∙ sym (drop-append-le (length first) all two p.within) in
    let behind : length (m.ahead ++ two) ≡ length (all ++ two) - length first = ap length left ∙ length-drop (length first) (all ++ two) in
    let longer = length-append all two in
    record {
      within = subst (λ l. length (first ++ then) ≤ length l) (sym whole) (omega (arith, size, behind, longer, p.within, q.within));
      are = ap (λ l. l ++ then) (p.are ∙ ap (map reply_of) (sym (take-append-le (length first) all two p.within)))
          ∙ ap (λ l. map reply_of (take (length first) (all ++ two)) ++ l) (q.are ∙ ap (λ (js : List Judged). map reply_of (take (length then) js)) left)
          ∙ sym (map-append reply_of (take (length first) (all ++ two)) (take (length then) (drop (length first) (all ++ two))))
          ∙ ap (map reply_of) (sym (take-add (length first) (length then) (all ++ two)))
          ∙ ap (λ k. map reply_of (take k (all ++ two))) (sym size) ∙ ap (λ l. map reply_of (take (length (first ++ then)) l)) (sym whole);
      durable = omega (arith, size, p.durable, q.durable);
      ahead = q.ahead ∙ ap (drop (length then)) left ∙ drop-drop (length then) (length first) (all ++ two) ∙ ap (λ k. drop k (all ++ two)) (sym size) ∙ ap (drop (length (first ++ then))) (sym whole);
    }

-- a block became durable
pub block_size : (s t : Standing) (replies : List Reply) → HasBlock s replies t → length replies ≡ coming s
block_size s t replies block = ap length block.told ∙ length-map (take (coming s) s.ahead) reply_of ∙ length-take-le (coming s) s.ahead block.within

pub block_durable : (s t : Standing) (replies : List Reply) → HasBlock s replies t → IsDurableBy s [] replies t
block_durable s t replies block =
    let size = block_size s t replies block in
    let none = append-nil s.ahead in
    record {
      within = subst (λ l. length replies ≤ length l) (sym none) (omega (arith, size, block.within));
      are = block.told ∙ ap (λ k. map reply_of (take k s.ahead)) (sym size) ∙ ap (λ l. map reply_of (take (length replies) l)) (sym none);
      durable = omega (arith, size, block.durable);
      ahead = block.ahead ∙ ap (λ k. drop k s.ahead) (sym size) ∙ ap (drop (length replies)) (sym none);
    }

-- ---- the steps

-- steps of its own deliver nothing
accepted_none : (e : Event) (a : Answer) → IsOwn e → accepted e a ≡ []
accepted_none (Deliver seqno w) a own = absurd own
accepted_none (SetWindow seqno size source trx) a own = absurd own
accepted_none Log a own = refl
accepted_none Sync a own = refl
accepted_none Check a own = refl
accepted_none (Flush page) a own = refl
accepted_none (Read key at) a own = absurd own

pub own_none : (events : List Event) (answers : List Answer) → AreOwn events → accepted_by events answers ≡ []
own_none [] answers own = refl
own_none (e ∷ events) [] own = refl
own_none (e ∷ events) (a ∷ answers) own = ap (λ l. l ++ accepted_by events answers) (accepted_none e a own.0) ∙ own_none events answers own.1

-- each event has its answer
pub runs_paired : {S : Type 0} (one : S → Event → Answer → S → Type 0) (s t : S) (events : List Event) (answers : List Answer) → RunsBy one s events answers t → length events ≡ length answers
runs_paired one s t [] [] runs = refl
runs_paired one s t [] (a ∷ answers) runs = absurd runs
runs_paired one s t (e ∷ events) [] runs = absurd runs
runs_paired one s t (e ∷ events) (a ∷ answers) runs = let later = runs_paired one runs.0 t events answers runs.2 in omega (arith, later)

-- ---- episodes

-- parts of a life behind parts of it
pub episodes_both : {D : Type 0} (g : Ghosts D) (from mid last : Replica D) (es fs : List (Episode D)) → BringNothing es → AreEpisodes g from es mid → AreEpisodes g mid fs last → AreEpisodes g from (es ++ fs) last
episodes_both g from mid last [] fs own one two = subst (λ r. AreEpisodes g r fs last) (sym one) two
episodes_both g from mid last (Runs events answers to ∷ es) fs own one two = (one.0, episodes_both g to mid last es fs own.1 one.1 two)
episodes_both g from mid last (GivesUp to ∷ es) fs own one two = (one.0, episodes_both g to mid last es fs own one.1 two)
episodes_both g from mid last (Brings uuid y to ∷ es) fs own one two = absurd own
episodes_both g from mid last (Breaks uuid y to ∷ es) fs own one two = absurd own

pub nothing_both : {D : Type 0} (es fs : List (Episode D)) → BringNothing es → BringNothing fs → BringNothing (es ++ fs)
nothing_both [] fs one two = two
nothing_both (Runs events answers to ∷ es) fs one two = (one.0, nothing_both es fs one.1 two)
nothing_both (GivesUp to ∷ es) fs one two = nothing_both es fs one two
nothing_both (Brings uuid y to ∷ es) fs one two = absurd one
nothing_both (Breaks uuid y to ∷ es) fs one two = absurd one

pub accepted_both : {D : Type 0} (es fs : List (Episode D)) → accepted_in (es ++ fs) ≡ accepted_in es ++ accepted_in fs
accepted_both [] fs = refl
accepted_both (Runs events answers to ∷ es) fs = ap (λ l. accepted_by events answers ++ l) (accepted_both es fs) ∙ sym (append_assoc (accepted_by events answers) (accepted_in es) (accepted_in fs))
accepted_both (GivesUp to ∷ es) fs = accepted_both es fs
accepted_both (Brings uuid y to ∷ es) fs = accepted_both es fs
accepted_both (Breaks uuid y to ∷ es) fs = accepted_both es fs

pub given_both : {D : Type 0} (es fs : List (Episode D)) → replies_of (es ++ fs) ≡ replies_of es ++ replies_of fs
given_both [] fs = refl
given_both (Runs events answers to ∷ es) fs = ap (λ l. acknowledged answers ++ l) (given_both es fs) ∙ sym (append_assoc (acknowledged answers) (replies_of es) (replies_of fs))
given_both (GivesUp to ∷ es) fs = given_both es fs
given_both (Brings uuid y to ∷ es) fs = given_both es fs
given_both (Breaks uuid y to ∷ es) fs = given_both es fs

module _ {D : Type 0} (g : Ghosts D) where
  -- nothing was done yet
  abbrev pub follows_none : (r : Replica D) → Follows g r r [] []
  follows_none r = record {
    episodes = [];
    are = refl;
    own = tt;
    accepted = refl;
    given = refl;
    judged = [];
    are_items = refl;
    durable = none_durable (facts_of g r) (facts_of g r) refl refl;
  }

  -- some more
  abbrev pub follows_both : (old mid new : Replica D) (items more : List Item) (first then : List Reply) → Follows g old mid items first → Follows g mid new more then → Follows g old new (items ++ more) (first ++ then)
  follows_both old mid new items more first then one two = record {
    episodes = one.episodes ++ two.episodes;
    are = episodes_both g old mid new one.episodes two.episodes one.own one.are two.are;
    own = nothing_both one.episodes two.episodes one.own two.own;
    accepted = accepted_both one.episodes two.episodes ∙ ap (λ l. l ++ accepted_in two.episodes) one.accepted ∙ ap (λ l. items ++ l) two.accepted;
    given = given_both one.episodes two.episodes ∙ ap (λ l. l ++ replies_of two.episodes) one.given ∙ ap (λ l. first ++ l) two.given;
    judged = one.judged ++ two.judged;
    are_items = map-append item_of one.judged two.judged ∙ ap (λ l. l ++ map item_of two.judged) one.are_items ∙ ap (λ l. items ++ l) two.are_items;
    durable = both_durable (facts_of g old) (facts_of g mid) (facts_of g new) one.judged two.judged first then one.durable two.durable;
  }

  -- one run
  abbrev pub follows_run : (old new : Replica D) (events : List Event) (answers : List Answer) (judged : List Judged) (items : List Item) (receipts : List Reply) → length events ≡ length answers → Ran g old new events answers
      → accepted_by events answers ≡ items → acknowledged answers ≡ receipts → map item_of judged ≡ items → IsDurableBy (facts_of g old) judged receipts (facts_of g new) → Follows g old new items receipts
  follows_run old new events answers judged items receipts paired ran accepted given are durable = record {
    episodes = Runs events answers new ∷ [];
    are = (ran, refl);
    own = (paired, tt);
    accepted = append-nil (accepted_by events answers) ∙ accepted;
    given = append-nil (acknowledged answers) ∙ given;
    judged = judged;
    are_items = are;
    durable = durable;
  }

  -- the device was asked, and nothing else was done
  abbrev pub follows_ask : AsksAreGivenUp g → (old new : Replica D) → IsAsked g old new → Follows g old new [] []
  follows_ask given_up old new asked = record {
    episodes = GivesUp new ∷ [];
    are = (given_up old new asked, refl);
    own = tt;
    accepted = refl;
    given = refl;
    judged = [];
    are_items = refl;
    durable = none_durable (facts_of g old) (facts_of g new) (ap (λ r. (facts_of g r).durable) asked.rest) (ap (λ r. (facts_of g r).ahead) asked.rest);
  }

module _ {D : Type 0} (g : Ghosts D) (pages : ℕ) (old new : Replica D) where
  -- a block
  abbrev pub follows_block : (replies : List Reply) → CommitsBlock g pages old new (Ok replies) → Follows g old new [] replies
  follows_block replies c = follows_run g old new c.works.events c.works.answers [] [] replies (runs_paired (IsStep g) old new c.works.events c.works.answers c.works.steps) c.works.ran
      (own_none c.works.events c.works.answers c.works.own) c.told refl (block_durable (facts_of g old) (facts_of g new) replies c.block)

  -- none
  abbrev pub follows_no_block : (e : Refusal) → CommitsBlock g pages old new (Err e) → Follows g old new [] []
  follows_no_block e c = follows_run g old new c.works.events c.works.answers [] [] [] (runs_paired (IsStep g) old new c.works.events c.works.answers c.works.steps) c.works.ran
      (own_none c.works.events c.works.answers c.works.own) c.told refl (none_durable (facts_of g old) (facts_of g new) c.block.durable c.block.ahead)

-- ---- causes

-- what holds in any case
pub on_ok : {X : Type 0} (r : Result (Unit {0}) Refusal) → X → OnOk r X
on_ok (Ok x) holds = holds
on_ok (Err e) holds = tt

-- what was answered last behind other parts of a life
last_behind : {D : Type 0} (es fs : List (Episode D)) (e : Refusal) → IsLastAnswer fs e → IsLastAnswer (es ++ fs) e
last_behind es fs e last = (es ++ last.0, last.1, last.2, last.3, ap (λ l. es ++ l) last.4 ∙ sym (append_assoc es last.0 (Runs last.1 (last.2 ++ Refused e ∷ []) last.3 ∷ [])))

pub early_behind : {D T : Type 0} (es fs : List (Episode D)) (r : Result T Refusal) → EndsAsAnswered fs r → EndsAsAnswered (es ++ fs) r
early_behind es fs (Ok x) early = tt
early_behind es fs (Err e) early = λ is. last_behind es fs e (early is)

never_early : (e : Refusal) → (e ≡ StreamFault) ⊎ ((e ≡ Exhausted) ⊎ (e ≡ Stopped)) → EndsEarly e → ⊥
never_early e (inr (inr is)) (inl other) = let never : Stopped ≡ OutOfMemory = sym is ∙ other in absurd cc
never_early e (inr (inr is)) (inr (inl other)) = let never : Stopped ≡ DiskFault = sym is ∙ other in absurd cc
never_early e (inr (inr is)) (inr (inr other)) = let never : Stopped ≡ Corrupt Pages = sym is ∙ other in absurd cc
never_early e (inl is) (inl other) = let never : StreamFault ≡ OutOfMemory = sym is ∙ other in absurd cc
never_early e (inl is) (inr (inl other)) = let never : StreamFault ≡ DiskFault = sym is ∙ other in absurd cc
never_early e (inl is) (inr (inr other)) = let never : StreamFault ≡ Corrupt Pages = sym is ∙ other in absurd cc
never_early e (inr (inl is)) (inl other) = let never : Exhausted ≡ OutOfMemory = sym is ∙ other in absurd cc
never_early e (inr (inl is)) (inr (inl other)) = let never : Exhausted ≡ DiskFault = sym is ∙ other in absurd cc
never_early e (inr (inl is)) (inr (inr other)) = let never : Exhausted ≡ Corrupt Pages = sym is ∙ other in absurd cc

pub not_early : {D : Type 0} (e : Refusal) → (e ≡ StreamFault) ⊎ ((e ≡ Exhausted) ⊎ (e ≡ Stopped)) → (es : List (Episode D)) → EndsAsAnswered {T = Unit {0}} es (Err e)
not_early e is es = λ early. absurd (never_early e is early)

-- a stream's fault is no step's
pub early_stream : {D T : Type 0} (es : List (Episode D)) (r : Result T Refusal) → IfErr r (λ e. e ≡ StreamFault) → EndsAsAnswered es r
early_stream es (Ok x) is = tt
early_stream es (Err e) is = λ early. absurd (never_early e (inl is) early)

-- the steps of a block that ended early
early_block : {D : Type 0} (g : Ghosts D) (pages : ℕ) (old new : Replica D) (e : Refusal) (c : CommitsBlock g pages old new (Err e)) → IsLastAnswer (Runs c.works.events c.works.answers new ∷ []) e
early_block g pages old new e c = ([], c.works.events, c.works.ends.0, new, ap (λ (answers : List Answer). Runs c.works.events answers new ∷ []) c.works.ends.2)

-- ---- what is told

pub lines_both : (first then : List Reply) → receipt_lines (first ++ then) ≡ receipt_lines first ++ receipt_lines then
lines_both first then = flat_map-append receipt_line first then

module _ {D : Type 0} (g : Ghosts D) where
  -- a stopped replica did nothing
  pub told_stopped : (r : Replica D) (was : Counts) (text : Option (List ℕ)) → HasCounters was → TellsAll g r r was was text text (Err Stopped)
  told_stopped r was text has = record {
    goes = record { receipts = []; follows = follows_none g r; written = Appends-nil text; counted = counted_none g r was has; rests = λ rests. tt; early = not_early Stopped (inr (inr refl)) [] };
    all = tt;
    rests = λ some. tt;
  }

  pub tells_stopped : (r : Replica D) (was : Counts) (text : Option (List ℕ)) → HasCounters was → TellsNext g r r was was text text (Err Stopped)
  tells_stopped r was text has =
      record { receipts = []; follows = follows_none g r; few = omega arith; written = (refl, Appends-nil text); counted = counted_none g r was has; rests = tt; early = not_early Stopped (inr (inr refl)) [] }

  none_long : (judged : List Judged) → length judged ≤ 0 → judged ≡ []
  none_long [] few = refl
  none_long (j ∷ judged) few = absurd (omega (arith, few))

  not_from_outside : (a b : Bool) → (a || b) ≡ false → a ≡ false
  not_from_outside false b none = refl
  not_from_outside true b none = none

  -- where no more was delivered than is durable, nothing waits
  pub none_waits : (r : Replica D) (durable delivered : ℕ) → durable ≡ (facts_of g r).durable → (r.stopped ≡ false → delivered ≡ delivered_of (facts_of g r)) → (r.stopped || is_some r.engine.halted) ≡ false → delivered ≤ durable
      → (facts_of g r).ahead ≡ []
  none_waits r durable delivered is_durable is_delivered running few =
      let all = is_delivered (not_from_outside r.stopped (is_some r.engine.halted) running) in
      none_long (facts_of g r).ahead (omega (arith, is_durable, all, few))

  -- and where more was, something does
  pub some_waits : (r : Replica D) (durable delivered : ℕ) → durable ≡ (facts_of g r).durable → (r.stopped ≡ false → delivered ≡ delivered_of (facts_of g r)) → (r.stopped || is_some r.engine.halted) ≡ false → durable < delivered
      → 0 < length (facts_of g r).ahead
  some_waits r durable delivered is_durable is_delivered running more =
      let all = is_delivered (not_from_outside r.stopped (is_some r.engine.halted) running) in
      omega (arith, is_durable, all, more)

  -- a block lessens what waits
  pub next_smaller : (old new : Replica D) (was now : Counts) (before after : Option (List ℕ)) (x : Unit {0}) → TellsNext g old new was now before after (Ok x) → length (facts_of g new).ahead < length (facts_of g old).ahead
  next_smaller old new was now before after x next =
      let d = next.follows.durable in
      let some = next.written.0 in
      let within = d.within in
      let none = sym (length-map next.follows.judged item_of) ∙ ap length next.follows.are_items in
      omega (arith, ap length d.ahead, length-drop (length next.receipts) ((facts_of g old).ahead ++ next.follows.judged), length-append (facts_of g old).ahead next.follows.judged, none, some, within)

-- ---- a block

-- nothing is written where nothing became durable
none_written : (e : Refusal) (text : Option (List ℕ)) → WrittenNext [] text text (Err e)
none_written StreamFault text = (0, Appends-nil text)
none_written e text = (refl, Appends-nil text)

block_some : (s t : Standing) (replies : List Reply) → HasBlock s replies t → 0 < length replies
block_some s t replies block = let size = block_size s t replies block in omega (arith, size, block.some)

block_few : (s t : Standing) (replies : List Reply) → HasBlock s replies t → length replies ≤ 64
block_few s t replies block = let size = block_size s t replies block in omega (arith, size, block.few)

-- the receipts of a block are written, or a front of them
block_written : (replies : List Reply) (before after : Option (List ℕ)) (r : Result (Unit {0}) Refusal) → 0 < length replies → OnOk r (Appends before after (receipt_lines replies))
    → OnErr r ((k : ℕ) × (k < length (receipt_lines replies)) × Appends before after (take k (receipt_lines replies))) → IfErr r (λ e. e ≡ StreamFault) → WrittenNext replies before after r
block_written replies before after (Ok x) some ok cut fault = (some, ok)
block_written replies before after (Err e) some ok cut fault = subst (λ (f : Refusal). WrittenNext replies before after (Err f)) (sym fault) (cut.0, cut.2)

module _ {D : Type 0} (g : Ghosts D) (pages : ℕ) (old new : Replica D) (was now : Counts) where
  pub tells_no_block : (e : Refusal) (text : Option (List ℕ)) → CommitsBlock g pages old new (Err e) → HasSettled g old new was now → TellsNext g old new was now text text (Err e)
  tells_no_block e text c is =
      record { receipts = []; follows = follows_no_block g pages old new e c; few = omega arith; written = none_written e text; counted = counted_run g pages old new was now c.works.events c.works.answers c.told is; rests = tt; early = λ early. early_block g pages old new e c }

  pub tells_block : (replies : List Reply) (before after : Option (List ℕ)) (r : Result (Unit {0}) Refusal) → CommitsBlock g pages old new (Ok replies)
      → now ≡ risen_by was (tally [] [] replies 1 (one_where (nat_lt (facts_of g old).base (facts_of g new).base))) → OnOk r (Appends before after (receipt_lines replies))
      → OnErr r ((k : ℕ) × (k < length (receipt_lines replies)) × Appends before after (take k (receipt_lines replies))) → IfErr r (λ e. e ≡ StreamFault) → TellsNext g old new was now before after r
  tells_block replies before after r c is ok cut fault =
      let some = block_some (facts_of g old) (facts_of g new) replies c.block in
      record {
        receipts = replies;
        follows = follows_block g pages old new replies c;
        few = block_few (facts_of g old) (facts_of g new) replies c.block;
        written = block_written replies before after r some ok cut fault;
        counted = counted_block g pages old new was now replies c some is;
        rests = on_ok r c.block.phase;
        early = early_stream (Runs c.works.events c.works.answers new ∷ []) r fault;
      }

-- ---- an item is taken

-- all receipts are written
pub written_whole : (receipts : List Reply) (before after : Option (List ℕ)) (r : Result (Unit {0}) Refusal) → Appends before after (receipt_lines receipts) → Written receipts before after r
written_whole receipts before after (Ok x) written = written
written_whole receipts before after (Err StreamFault) written =
    (receipts, [], 0, sym (append-nil receipts), omega arith, subst (Appends before after) (sym (append-nil (receipt_lines receipts))) written)
written_whole receipts before after (Err e) written = written

-- those of one block, or a front of them
written_next : (receipts : List Reply) (before after : Option (List ℕ)) (r : Result (Unit {0}) Refusal) → length receipts ≤ 64 → WrittenNext receipts before after r → Written receipts before after r
written_next receipts before after (Ok x) few w = w.1
written_next receipts before after (Err StreamFault) few w = ([], receipts, w.0, refl, few, w.1)
written_next receipts before after (Err e) few w = subst (λ (rs : List Reply). Appends before after (receipt_lines rs)) (sym w.0) w.1

-- what is written behind what was written whole
written_behind : (first then : List Reply) (before between after : Option (List ℕ)) (r : Result (Unit {0}) Refusal) → Appends before between (receipt_lines first) → Written then between after r → Written (first ++ then) before after r
written_behind first then before between after (Ok x) one two = subst (Appends before after) (sym (lines_both first then)) (Appends-trans before between after (receipt_lines first) (receipt_lines then) one two)
written_behind first then before between after (Err StreamFault) one two = (
  first ++ two.0,
  two.1,
  two.2,
  ap (λ l. first ++ l) two.3 ∙ sym (append_assoc first two.0 two.1),
  two.4,
  subst (Appends before after) (sym (ap (λ l. l ++ take two.2 (receipt_lines two.1)) (lines_both first two.0) ∙ append_assoc (receipt_lines first) (receipt_lines two.0) (take two.2 (receipt_lines two.1))))
      (Appends-trans before between after (receipt_lines first) (receipt_lines two.0 ++ take two.2 (receipt_lines two.1)) one two.5),
)
written_behind first then before between after (Err e) one two = subst (Appends before after) (sym (lines_both first then)) (Appends-trans before between after (receipt_lines first) (receipt_lines then) one two)

module _ {D : Type 0} (g : Ghosts D) where
  -- nothing was done
  pub goes_none : (r : Replica D) (was : Counts) (text : Option (List ℕ)) (x : Result (Unit {0}) Refusal) → HasCounters was → EndsAsAnswered {D = D} [] x → Goes g r r [] [] was was text text x
  goes_none r was text x has early = record { receipts = []; follows = follows_none g r; written = written_whole [] text text x (Appends-nil text); counted = counted_none g r was has; rests = λ rests. on_ok x rests; early = early }

  -- the text of a line was counted
  pub goes_text : (r : Replica D) (line : List ℕ) (was now : Counts) (text : Option (List ℕ)) → now ≡ risen_by was (tally [] (line ∷ []) [] 0 0) → Goes g r r [] (line ∷ []) was now text text (Ok tt)
  goes_text r line was now text is = record { receipts = []; follows = follows_none g r; written = Appends-nil text; counted = is; rests = λ rests. rests; early = tt }

  -- the next block became durable, or not
  pub goes_next : (old new : Replica D) (was now : Counts) (before after : Option (List ℕ)) (r : Result (Unit {0}) Refusal) → TellsNext g old new was now before after r → Goes g old new [] [] was now before after r
  goes_next old new was now before after r next = record { receipts = next.receipts; follows = next.follows; written = written_next next.receipts before after r next.few next.written; counted = next.counted; rests = λ rests. next.rests; early = next.early }

  -- a node goes on twice
  pub goes_both : (old mid new : Replica D) (items more : List Item) (lines behind : List (List ℕ)) (was between now : Counts) (before written after : Option (List ℕ)) (x : Unit {0}) (r : Result (Unit {0}) Refusal)
      → Goes g old mid items lines was between before written (Ok x) → Goes g mid new more behind between now written after r → Goes g old new (items ++ more) (lines ++ behind) was now before after r
  goes_both old mid new items more lines behind was between now before written after x r one two = record {
    receipts = one.receipts ++ two.receipts;
    follows = follows_both g old mid new items more one.receipts two.receipts one.follows two.follows;
    written = written_behind one.receipts two.receipts before written after r one.written two.written;
    counted = counted_both g old mid one.follows.episodes two.follows.episodes items more lines behind one.receipts two.receipts was between now one.follows.own one.follows.are one.counted two.counted;
    rests = λ rests. two.rests (one.rests rests);
    early = early_behind one.follows.episodes two.follows.episodes r two.early;
  }

  -- nothing is delivered after it
  pub goes_on : (old mid new : Replica D) (items : List Item) (lines : List (List ℕ)) (was between now : Counts) (before written after : Option (List ℕ)) (r : Result (Unit {0}) Refusal)
      → Goes g old mid items lines was between before written (Ok tt) → Goes g mid new [] [] between now written after r → Goes g old new items lines was now before after r
  goes_on old mid new items lines was between now before written after r one two =
      subst (λ (ls : List (List ℕ)). Goes g old new items ls was now before after r) (append-nil lines)
      (subst (λ (is : List Item). Goes g old new is (lines ++ []) was now before after r) (append-nil items) (goes_both old mid new items [] lines [] was between now before written after tt r one two))

  -- with a refusal that is no step's
  pub goes_refused : (old new : Replica D) (items : List Item) (lines : List (List ℕ)) (was now : Counts) (before after : Option (List ℕ)) (x : Unit {0}) (r : Result (Unit {0}) Refusal) → ((es : List (Episode D)) → EndsAsAnswered es r)
      → Goes g old new items lines was now before after (Ok x) → Goes g old new items lines was now before after r
  goes_refused old new items lines was now before after x r early goes =
      record { receipts = goes.receipts; follows = goes.follows; written = written_whole goes.receipts before after r goes.written; counted = goes.counted; rests = λ rests. on_ok r (goes.rests rests); early = early goes.follows.episodes }

module _ {D : Type 0} (g : Ghosts D) (old new : Replica D) (i : Item) (was : Counts) where
  -- an item is taken, and nothing is told
  pub goes_item : (now : Counts) (text : Option (List ℕ)) (d : Delivers g old new i (Ok tt)) → now ≡ risen_by was (tally (i ∷ []) [] [] 0 0) → Goes g old new (i ∷ []) [] was now text text (Ok tt)
  goes_item now text d is = record {
    receipts = [];
    follows = d.follows;
    written = Appends-nil text;
    counted = counted_items g old d.follows.episodes (i ∷ []) was now d.follows.own d.follows.given d.still is;
    rests = λ rests. d.phase ∙ rests;
    early = tt;
  }

  -- it is refused
  pub goes_no_item : (text : Option (List ℕ)) (e : Refusal) (d : Delivers g old new i (Err e)) → HasCounters was → Goes g old new [] [] was was text text (Err e)
  goes_no_item text e d has = record {
    receipts = [];
    follows = d.follows;
    written = written_whole [] text text (Err e) (Appends-nil text);
    counted = counted_items g old d.follows.episodes [] was was d.follows.own d.follows.given d.still (risen_not was has);
    rests = λ rests. tt;
    early = λ early. d.answered;
  }
