-- What a node counts of what it does.
use Rattle.std.specs.Prelude.{◌≡◌, ℕ, ◌+◌, ◌-◌, ◌^◌, ◌<◌, min, Bool, true, false, nat_lt, cond, List, [], ◌∷◌, length, count_by}
use Rattle.rep_types.specs.declared.item.Item.{Item}
use Rattle.rep_types.specs.declared.reply.Reply.{Reply}
use Rattle.rep_types.specs.declared.verdict.Verdict.{Verdict}
use Rattle.rep_types.specs.declared.verdict.Verdict.TheVariants.{Conflict, Stale, Future, BadKey}
use Rattle.rep_types.specs.Order.{is_commit}
use Rattle.rep_requests.specs.Requests.{is_unreadable}
use Rattle.rep_disk.specs.declared.disk.Disk.{Ghosts}
use Rattle.rep_steps.specs.declared.answer.Answer.{Answer}
use Rattle.rep_steps.specs.declared.answer.Answer.TheVariants.{Synced}
use Rattle.rep_replica.specs.Replicas.{Replica, facts_of}
use Rattle.rep_replica.specs.Episodes.{Episode, Runs, GivesUp, Brings, Breaks}
use Rattle.rep_follow.specs.declared.counts.Counts.{Counts}

-- ---- what is counted

-- the other verdicts
abbrev pub is_conflict : Verdict → Bool
is_conflict (Conflict m) = true
is_conflict v = false

abbrev pub is_stale : Verdict → Bool
is_stale Stale = true
is_stale v = false

abbrev pub is_future : Verdict → Bool
is_future Future = true
is_future v = false

abbrev pub is_bad_key : Verdict → Bool
is_bad_key BadKey = true
is_bad_key v = false

-- how many of these receipts have such a verdict
abbrev pub told_of : (Verdict → Bool) → List Reply → ℕ
told_of is receipts = count_by (λ (r : Reply). is r.verdict) receipts

-- Whether the answer tells that a block is durable: it has the replies to the origins of the block's items.
abbrev pub is_block : Answer → Bool
is_block (Synced (r ∷ replies)) = true
is_block a = false

-- how many blocks became durable in these parts of a life
abbrev pub blocks_in : {D : Type 0} → List (Episode D) → ℕ
blocks_in [] = 0
blocks_in (Runs events answers to ∷ es) = count_by is_block answers + blocks_in es
blocks_in (GivesUp to ∷ es) = blocks_in es
blocks_in (Brings uuid y to ∷ es) = blocks_in es
blocks_in (Breaks uuid y to ∷ es) = blocks_in es

-- one more where it holds
abbrev pub one_where : Bool → ℕ
one_where so = cond so 1 0

-- In how many of these parts of a life, from this replica on, the base rose in a run: a checkpoint ended there.
abbrev pub checkpoints_in : {D : Type 0} → Ghosts D → Replica D → List (Episode D) → ℕ
checkpoints_in g from [] = 0
checkpoints_in g from (Runs events answers to ∷ es) = one_where (nat_lt (facts_of g from).base (facts_of g to).base) + checkpoints_in g to es
checkpoints_in g from (GivesUp to ∷ es) = checkpoints_in g to es
checkpoints_in g from (Brings uuid y to ∷ es) = checkpoints_in g to es
checkpoints_in g from (Breaks uuid y to ∷ es) = checkpoints_in g to es

-- ---- how it is counted

-- what is counted of these items, which were taken, of the lines of those that came with a number, of these receipts, which were given, of so many
-- blocks and of so many checkpoints
abbrev pub tally : List Item → List (List ℕ) → List Reply → ℕ → ℕ → Counts
tally items lines receipts blocks checkpoints = record {
  items = length items;
  blocks = blocks;
  checkpoints = checkpoints;
  commit = told_of is_commit receipts;
  conflict = told_of is_conflict receipts;
  stale = told_of is_stale receipts;
  future = told_of is_future receipts;
  badkey = told_of is_bad_key receipts;
  unreadable = count_by is_unreadable lines;
}

-- a counter of 64 bits that rises by so many: it stops at its greatest number
abbrev pub risen : ℕ → ℕ → ℕ
risen was more = min (was + more) (2 ^ 64 - 1)

-- each counter
abbrev pub risen_by : Counts → Counts → Counts
risen_by was more = record {
  items = risen was.items more.items;
  blocks = risen was.blocks more.blocks;
  checkpoints = risen was.checkpoints more.checkpoints;
  commit = risen was.commit more.commit;
  conflict = risen was.conflict more.conflict;
  stale = risen was.stale more.stale;
  future = risen was.future more.future;
  badkey = risen was.badkey more.badkey;
  unreadable = risen was.unreadable more.unreadable;
}

-- Each counter has 64 bits.
pub record HasCounters (c : Counts) : Type 0 where
  pub items : c.items < 2 ^ 64
  pub blocks : c.blocks < 2 ^ 64
  pub checkpoints : c.checkpoints < 2 ^ 64
  pub commit : c.commit < 2 ^ 64
  pub conflict : c.conflict < 2 ^ 64
  pub stale : c.stale < 2 ^ 64
  pub future : c.future < 2 ^ 64
  pub badkey : c.badkey < 2 ^ 64
  pub unreadable : c.unreadable < 2 ^ 64

-- The counters rose by what these parts of a life come to, from this replica on: these items were taken, these are the lines of those that came
-- with a number, and these receipts were given.
abbrev pub AreCounted : {D : Type 0} → Ghosts D → Replica D → List (Episode D) → List Item → List (List ℕ) → List Reply → Counts → Counts → Type 0
AreCounted g from episodes items lines receipts was now = now ≡ risen_by was (tally items lines receipts (blocks_in episodes) (checkpoints_in g from episodes))

-- Nothing was counted but a checkpoint, where the base rose.
abbrev pub HasSettled : {D : Type 0} → Ghosts D → Replica D → Replica D → Counts → Counts → Type 0
HasSettled g old new was now = now ≡ risen_by was (tally [] [] [] 0 (one_where (nat_lt (facts_of g old).base (facts_of g new).base)))
