-- What is counted of parts of a life, one after another.
use Rattle.std.proofs.Common.{◌≡◌, ℕ, ◌+◌, ◌^◌, ◌<◌, ◌≤◌, Bool, true, false, List, [], ◌∷◌, ◌++◌, length, cond, Option, None, Some, Ok, refl, sym, ap, ◌∙◌, arith, subst, length-append, inl, inr, ◌⊎◌, map, take}
use Rattle.std.specs.Prelude.{count_by, nat_lt, MatchOption}
use Rattle.std.proofs.lemmas.Bool.Decides.{nat_tests}
use Rattle.std.proofs.lemmas.List.Sums.{sum_by-append, sum_by-cons}
use Rattle.rep_types.specs.declared.item.Item.{Item}
use Rattle.rep_types.specs.declared.judged.Judged.{Judged}
use Rattle.rep_types.specs.declared.reply.Reply.{Reply}
use Rattle.rep_types.specs.declared.verdict.Verdict.{Verdict}
use Rattle.rep_types.specs.declared.refusal.Refusal.{Refusal}
use Rattle.rep_types.specs.Replies.{reply_of}
use Rattle.rep_types.specs.Order.{is_commit}
use Rattle.rep_requests.specs.Requests.{is_unreadable}
use Rattle.rep_disk.specs.declared.disk.Disk.{Ghosts}
use Rattle.rep_log.specs.declared.phase.Phase.{Phase}
use Rattle.rep_log.specs.declared.phase.Phase.TheVariants.{Resting, Closing, Filling, Filled, Opening}
use Rattle.rep_steps.specs.declared.event.Event.{Event}
use Rattle.rep_steps.specs.declared.event.Event.TheVariants.{Deliver, SetWindow, Log, Sync, Check, Flush, Read}
use Rattle.rep_steps.specs.declared.answer.Answer.{Answer}
use Rattle.rep_steps.specs.declared.answer.Answer.TheVariants.{Gave, Wrote, Began, Synced, Row, Refused}
use Rattle.rep_steps.specs.Standings.{Standing, Stage, Off, Toward, Retiring, refusal}
use Rattle.rep_steps.specs.Moves.{Found, Fails, MeetsCorruption, answer, after, opening, taken, check_answer}
use Rattle.rep_steps.specs.Runs.{Runs as RunsBy, acknowledged, replies_in}
use Rattle.rep_replica.specs.Replicas.{Replica, facts_of}
use Rattle.rep_replica.specs.Settling.{Allows}
use Rattle.rep_replica.specs.Committing.{Commits as CommitsBlock}
use Rattle.rep_replica.specs.Episodes.{Episode, Runs, GivesUp, Brings, Breaks, AreEpisodes, replies_of}
use Rattle.rep_follow.specs.declared.counts.Counts.{Counts}
use Rattle.rep_follow.specs.Counting.{told_of, is_conflict, is_stale, is_future, is_bad_key, is_block, blocks_in, one_where, checkpoints_in, tally, risen, risen_by, HasCounters, AreCounted, HasSettled}
use Rattle.rep_follow.specs.Committing.{BringNothing}

-- ---- the counters

risen_twice : (x m n k : ℕ) → k ≡ m + n → risen (risen x m) n ≡ risen x k
risen_twice x m n k is = omega (arith, is)

risen_none : (x : ℕ) → x < 2 ^ 64 → x ≡ risen x 0
risen_none x below = omega (arith, below)

told_both : (is : Verdict → Bool) (first then : List Reply) → told_of is (first ++ then) ≡ told_of is first + told_of is then
told_both is first then = sum_by-append (λ (r : Reply). cond (is r.verdict) 1 0) first then

-- to count twice is to count both together
pub risen_both : (was : Counts) (items more : List Item) (lines behind : List (List ℕ)) (first then : List Reply) (b c d e blocks checkpoints : ℕ) → blocks ≡ b + c → checkpoints ≡ d + e
    → risen_by (risen_by was (tally items lines first b d)) (tally more behind then c e) ≡ risen_by was (tally (items ++ more) (lines ++ behind) (first ++ then) blocks checkpoints)
risen_both was items more lines behind first then b c d e blocks checkpoints bs cs =
    let is_items = risen_twice was.items (length items) (length more) (length (items ++ more)) (length-append items more) in
    let is_blocks = risen_twice was.blocks b c blocks bs in
    let is_checkpoints = risen_twice was.checkpoints d e checkpoints cs in
    let is_unreadable = risen_twice was.unreadable (count_by is_unreadable lines) (count_by is_unreadable behind) (count_by is_unreadable (lines ++ behind)) (sum_by-append (λ (l : List ℕ). cond (is_unreadable l) 1 0) lines behind) in
    let is_commits = risen_twice was.commit (told_of is_commit first) (told_of is_commit then) (told_of is_commit (first ++ then)) (told_both is_commit first then) in
    let is_conflicts = risen_twice was.conflict (told_of is_conflict first) (told_of is_conflict then) (told_of is_conflict (first ++ then)) (told_both is_conflict first then) in
    let is_stales = risen_twice was.stale (told_of is_stale first) (told_of is_stale then) (told_of is_stale (first ++ then)) (told_both is_stale first then) in
    let is_futures = risen_twice was.future (told_of is_future first) (told_of is_future then) (told_of is_future (first ++ then)) (told_both is_future first then) in
    let is_bad_keys = risen_twice was.badkey (told_of is_bad_key first) (told_of is_bad_key then) (told_of is_bad_key (first ++ then)) (told_both is_bad_key first then) in
    cc

-- where nothing came, nothing rises
pub risen_not : (was : Counts) → HasCounters was → was ≡ risen_by was (tally [] [] [] 0 0)
risen_not was has =
    let is_items = risen_none was.items has.items in
    let is_blocks = risen_none was.blocks has.blocks in
    let is_checkpoints = risen_none was.checkpoints has.checkpoints in
    let is_unreadable = risen_none was.unreadable has.unreadable in
    let is_commits = risen_none was.commit has.commit in
    let is_conflicts = risen_none was.conflict has.conflict in
    let is_stales = risen_none was.stale has.stale in
    let is_futures = risen_none was.future has.future in
    let is_bad_keys = risen_none was.badkey has.badkey in
    let whole : ◌≡◌ {A = Counts} (record { items = was.items; blocks = was.blocks; checkpoints = was.checkpoints; commit = was.commit; conflict = was.conflict; stale = was.stale; future = was.future; badkey = was.badkey; unreadable = was.unreadable })
    (risen_by was (tally [] [] [] 0 0)) = cc in
    whole

-- each counter that rose has 64 bits
risen_below : (x m : ℕ) → risen x m < 2 ^ 64
risen_below x m = omega arith

pub risen_has : (was more now : Counts) → now ≡ risen_by was more → HasCounters now
risen_has was more now is = subst HasCounters (sym is) (record {
  items = risen_below was.items more.items;
  blocks = risen_below was.blocks more.blocks;
  checkpoints = risen_below was.checkpoints more.checkpoints;
  commit = risen_below was.commit more.commit;
  conflict = risen_below was.conflict more.conflict;
  stale = risen_below was.stale more.stale;
  future = risen_below was.future more.future;
  badkey = risen_below was.badkey more.badkey;
  unreadable = risen_below was.unreadable more.unreadable;
})

-- the text of a line
one_text : (line : List ℕ) → one_where (is_unreadable line) ≡ count_by is_unreadable (line ∷ [])
one_text line = let count = sum_by-cons (λ (l : List ℕ). cond (is_unreadable l) 1 0) line [] in omega (arith, count)

pub counted_text : (was now more : Counts) (line : List ℕ) (so : Bool) → now ≡ risen_by was more → more ≡ record (tally [] [] [] 0 0) { unreadable = one_where so } → so ≡ is_unreadable line → now ≡ risen_by was (tally [] (line ∷ []) [] 0 0)
counted_text was now more line so risen is same =
    risen ∙ ap (risen_by was) (is ∙ ap (λ (b : Bool). record (tally [] [] [] 0 0) { unreadable = one_where b }) same ∙ ap (λ (n : ℕ). record (tally [] [] [] 0 0) { unreadable = n }) (one_text line))

-- ---- episodes

count_both : (first then : List Answer) → count_by is_block (first ++ then) ≡ count_by is_block first + count_by is_block then
count_both first then = sum_by-append (λ (a : Answer). cond (is_block a) 1 0) first then

count_more : (a : Answer) (answers : List Answer) → count_by is_block (a ∷ answers) ≡ one_where (is_block a) + count_by is_block answers
count_more a answers = sum_by-cons (λ (b : Answer). cond (is_block b) 1 0) a answers

blocks_both : {D : Type 0} (es fs : List (Episode D)) → blocks_in (es ++ fs) ≡ blocks_in es + blocks_in fs
blocks_both [] fs = omega arith
blocks_both (Runs events answers to ∷ es) fs = let later = blocks_both es fs in omega (arith, later)
blocks_both (GivesUp to ∷ es) fs = blocks_both es fs
blocks_both (Brings uuid y to ∷ es) fs = blocks_both es fs
blocks_both (Breaks uuid y to ∷ es) fs = blocks_both es fs

module _ {D : Type 0} (g : Ghosts D) where
  checkpoints_both : (from mid : Replica D) (es fs : List (Episode D)) → BringNothing es → AreEpisodes g from es mid → checkpoints_in g from (es ++ fs) ≡ checkpoints_in g from es + checkpoints_in g mid fs
  checkpoints_both from mid [] fs own are = let same = ap (λ r. checkpoints_in g r fs) are in omega (arith, same)
  checkpoints_both from mid (Runs events answers to ∷ es) fs own are = let later = checkpoints_both to mid es fs own.1 are.1 in omega (arith, later)
  checkpoints_both from mid (GivesUp to ∷ es) fs own are = checkpoints_both to mid es fs own are.1
  checkpoints_both from mid (Brings uuid y to ∷ es) fs own are = absurd own
  checkpoints_both from mid (Breaks uuid y to ∷ es) fs own are = absurd own

  -- what is counted of parts behind parts
  pub counted_both : (from mid : Replica D) (es fs : List (Episode D)) (items more : List Item) (lines behind : List (List ℕ)) (first then : List Reply) (was between now : Counts) → BringNothing es → AreEpisodes g from es mid
      → AreCounted g from es items lines first was between → AreCounted g mid fs more behind then between now → AreCounted g from (es ++ fs) (items ++ more) (lines ++ behind) (first ++ then) was now
  counted_both from mid es fs items more lines behind first then was between now own are one two =
      two ∙ ap (λ c. risen_by c (tally more behind then (blocks_in fs) (checkpoints_in g mid fs))) one
      ∙ risen_both was items more lines behind first then (blocks_in es) (blocks_in fs) (checkpoints_in g from es) (checkpoints_in g mid fs) (blocks_in (es ++ fs)) (checkpoints_in g from (es ++ fs)) (blocks_both es fs) (checkpoints_both from mid es fs own are)

  -- a run that leaves the base ends no checkpoint
  still_one : (b c : ℕ) → c ≡ b → one_where (nat_lt b c) ≡ 0
  still_one b c same = grind (arith, nat_tests)

  pub still_run : (from to : Replica D) (events : List Event) (answers : List Answer) → (facts_of g to).base ≡ (facts_of g from).base → checkpoints_in g from (Runs events answers to ∷ []) ≡ 0
  still_run from to events answers same = let none = still_one (facts_of g from).base (facts_of g to).base same in omega (arith, none)

-- ---- the blocks of a run

no_block : (s t : Standing) (a : Answer) → is_block a ≡ false → t.next ≡ s.next → s.next + one_where (is_block a) ≤ t.next
no_block s t a none same = let zero_is = ap one_where none in omega (arith, zero_is, same)

synced_block : (phase : Phase) (ahead : List Judged) → one_where (is_block (Synced (map reply_of (take (opening phase) ahead)))) ≤ taken phase
synced_block Resting ahead = omega arith
synced_block Closing ahead = omega arith
synced_block (Filling n) ahead = omega arith
synced_block (Filled n) ahead = omega arith
synced_block (Opening n) ahead = one_at_most (is_block (Synced (map reply_of (take n ahead))))
  where
    one_at_most : (b : Bool) → one_where b ≤ 1
    one_at_most true = omega arith
    one_at_most false = omega arith

check_none : (s : Standing) (stage : Stage) → is_block (check_answer s stage) ≡ false
check_none s Off = refl
check_none s (Toward goal part) = refl
check_none s (Retiring written) = refl

went_block : (s t : Standing) (e : Event) (a : Answer) (found : Found) → a ≡ answer s e found → t ≡ after s e found → s.next + one_where (is_block a) ≤ t.next
went_block s t (Deliver seqno w) a found is to = no_block s t a (ap is_block is) (ap (λ (u : Standing). u.next) to)
went_block s t (SetWindow seqno size source trx) a found is to = no_block s t a (ap is_block is) (ap (λ (u : Standing). u.next) to)
went_block s t Log a found is to = no_block s t a (ap is_block is) (ap (λ (u : Standing). u.next) to)
went_block s t Sync a found is to =
    let one = ap (λ b. one_where (is_block b)) is in
    let moved = ap (λ (u : Standing). u.next) to in
    let few = synced_block s.phase s.ahead in
    omega (arith, one, moved, few)
went_block s t Check a found is to = no_block s t a (ap is_block is ∙ check_none s s.stage) (ap (λ (u : Standing). u.next) to)
went_block s t (Flush page) a found is to = no_block s t a (ap is_block is) (ap (λ (u : Standing). u.next) to)
went_block s t (Read key at) a found is to = no_block s t a (ap is_block is) (ap (λ (u : Standing). u.next) to)

moved_block : (s t : Standing) (e : Event) (a : Answer) (o : Option Refusal)
    → MatchOption o (((found : Found) × (a ≡ answer s e found) × (t ≡ after s e found)) ⊎ (Fails s e a t ⊎ MeetsCorruption s e a t)) (λ r. (a ≡ Refused r) × (t ≡ s)) → s.next + one_where (is_block a) ≤ t.next
moved_block s t e a None (inl went) = went_block s t e a went.0 went.1 went.2
moved_block s t e a None (inr (inl (inl hungry))) = no_block s t a (ap is_block hungry.1) (ap (λ (u : Standing). u.next) hungry.2)
moved_block s t e a None (inr (inl (inr fault))) = no_block s t a (ap is_block fault.1) (ap (λ (u : Standing). u.next) fault.3)
moved_block s t e a None (inr (inr corrupt)) = no_block s t a (ap is_block corrupt.1) (ap (λ (u : Standing). u.next) corrupt.2)
moved_block s t e a (Some r) refused = no_block s t a (ap is_block refused.0) (ap (λ (u : Standing). u.next) refused.1)

-- each block takes a cell
run_blocks : (rule : Standing → Event → Type 0) (s t : Standing) (events : List Event) (answers : List Answer) → RunsBy (Allows rule) s events answers t → s.next + count_by is_block answers ≤ t.next
run_blocks rule s t [] [] runs = let same = ap (λ (u : Standing). u.next) runs in omega (arith, same)
run_blocks rule s t [] (a ∷ answers) runs = absurd runs
run_blocks rule s t (e ∷ events) [] runs = absurd runs
run_blocks rule s t (e ∷ events) (a ∷ answers) runs =
    let first = moved_block s runs.0 e a (refusal s e) runs.1.1 in
    let later = run_blocks rule runs.0 t events answers runs.2 in
    let count = count_more a answers in
    omega (arith, first, later, count)

-- an answer without a reply is no block, and one with a reply is one
answer_none : (a : Answer) → replies_in a ≡ [] → is_block a ≡ false
answer_none (Synced []) none = refl
answer_none (Synced (r ∷ replies)) none = absurd cc
answer_none (Gave v) none = refl
answer_none Wrote none = refl
answer_none (Began n) none = refl
answer_none (Row row) none = refl
answer_none (Refused r) none = refl

answer_some : (a : Answer) (more : List Reply) → 0 < length (replies_in a ++ more) → (one_where (is_block a) ≡ 1) ⊎ (0 < length more)
answer_some (Synced []) more some = inr some
answer_some (Synced (r ∷ replies)) more some = inl refl
answer_some (Gave v) more some = inr some
answer_some Wrote more some = inr some
answer_some (Began n) more some = inr some
answer_some (Row row) more some = inr some
answer_some (Refused r) more some = inr some

both_none : (first then : List Reply) → first ++ then ≡ [] → (first ≡ []) × (then ≡ [])
both_none [] then none = (refl, none)
both_none (r ∷ first) then none = absurd cc

pub answers_none : (answers : List Answer) → acknowledged answers ≡ [] → count_by is_block answers ≡ 0
answers_none [] none = refl
answers_none (a ∷ answers) none =
    let parts = both_none (replies_in a) (acknowledged answers) none in
    let first = ap one_where (answer_none a parts.0) in
    let later = answers_none answers parts.1 in
    let count = count_more a answers in
    omega (arith, first, later, count)

one_some : (a : Answer) (answers : List Answer) → (one_where (is_block a) ≡ 1) ⊎ (0 < length (acknowledged answers)) → (0 < length (acknowledged answers) → 1 ≤ count_by is_block answers) → 1 ≤ count_by is_block (a ∷ answers)
one_some a answers (inl one) later = let count = count_more a answers in omega (arith, one, count)
one_some a answers (inr more) later = let least = later more in let count = count_more a answers in omega (arith, least, count)

answers_some : (answers : List Answer) → 0 < length (acknowledged answers) → 1 ≤ count_by is_block answers
answers_some [] some = absurd (omega (arith, some))
answers_some (a ∷ answers) some = one_some a answers (answer_some a (acknowledged answers) some) (answers_some answers)

module _ {D : Type 0} (g : Ghosts D) (pages : ℕ) (old new : Replica D) (was now : Counts) where
  -- a block, with its receipts
  pub counted_block : (replies : List Reply) (c : CommitsBlock g pages old new (Ok replies)) → 0 < length replies → now ≡ risen_by was (tally [] [] replies 1 (one_where (nat_lt (facts_of g old).base (facts_of g new).base)))
      → AreCounted g old (Runs c.works.events c.works.answers new ∷ []) [] [] replies was now
  counted_block replies c some is =
      let most = run_blocks _ (facts_of g old) (facts_of g new) c.works.events c.works.answers c.works.moves in
      let least = answers_some c.works.answers (subst (λ (rs : List Reply). 0 < length rs) (sym c.told) some) in
      let next = c.block.next in
      let one : 1 ≡ count_by is_block c.works.answers + 0 = omega (arith, most, least, next) in
      let base = one_where (nat_lt (facts_of g old).base (facts_of g new).base) in
      let same : base ≡ base + 0 = omega arith in
      is ∙ ap (λ n. risen_by was (tally [] [] replies n base)) one ∙ ap (λ n. risen_by was (tally [] [] replies (count_by is_block c.works.answers + 0) n)) same

  -- none
  pub counted_run : (events : List Event) (answers : List Answer) → acknowledged answers ≡ [] → HasSettled g old new was now → AreCounted g old (Runs events answers new ∷ []) [] [] [] was now
  counted_run events answers told is =
      let none = answers_none answers told in
      let zero_is : 0 ≡ count_by is_block answers + 0 = omega (arith, none) in
      let base = one_where (nat_lt (facts_of g old).base (facts_of g new).base) in
      let same : base ≡ base + 0 = omega arith in
      is ∙ ap (λ n. risen_by was (tally [] [] [] n base)) zero_is ∙ ap (λ n. risen_by was (tally [] [] [] (count_by is_block answers + 0) n)) same

-- ---- what is counted of no block

blocks_none : {D : Type 0} (es : List (Episode D)) → BringNothing es → replies_of es ≡ [] → blocks_in es ≡ 0
blocks_none [] own none = refl
blocks_none (Runs events answers to ∷ es) own none =
    let parts = both_none (acknowledged answers) (replies_of es) none in
    let first = answers_none answers parts.0 in
    let later = blocks_none es own.1 parts.1 in
    omega (arith, first, later)
blocks_none (GivesUp to ∷ es) own none = blocks_none es own none
blocks_none (Brings uuid y to ∷ es) own none = absurd own
blocks_none (Breaks uuid y to ∷ es) own none = absurd own

-- items alone
pub counted_items : {D : Type 0} (g : Ghosts D) (from : Replica D) (es : List (Episode D)) (items : List Item) (was now : Counts) → BringNothing es → replies_of es ≡ [] → checkpoints_in g from es ≡ 0
    → now ≡ risen_by was (tally items [] [] 0 0) → AreCounted g from es items [] [] was now
counted_items g from es items was now own none still is =
    is ∙ ap (λ n. risen_by was (tally items [] [] n 0)) (sym (blocks_none es own none)) ∙ ap (λ n. risen_by was (tally items [] [] (blocks_in es) n)) (sym still)

-- nothing
pub counted_none : {D : Type 0} (g : Ghosts D) (from : Replica D) (was : Counts) → HasCounters was → AreCounted g from [] [] [] [] was was
counted_none g from was has = risen_not was has
