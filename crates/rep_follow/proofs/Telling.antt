-- Blocks one after another, with a checkpoint that begins behind each where one is due.
use Rattle.std.proofs.Common.{◌≡◌, ℕ, ◌<◌, Bool, false, List, [], ◌∷◌, ◌++◌, length, Option, Result, Ok, Err, refl, ap, ◌∙◌, ◌⊎◌, inl, inr, arith, subst}
use Rattle.std.specs.Prelude.{◌||◌, is_some}
use Rattle.rep_types.specs.declared.refusal.Refusal.{Refusal}
use Rattle.rep_types.specs.declared.refusal.Refusal.TheVariants.{Stopped}
use Rattle.rep_disk.specs.declared.disk.Disk.{Ghosts}
use Rattle.rep_log.specs.declared.phase.Phase.TheVariants.{Resting}
use Rattle.rep_replica.specs.Replicas.{Replica, facts_of}
use Rattle.rep_follow.specs.declared.counts.Counts.{Counts}
use Rattle.rep_follow.specs.Counting.{HasCounters}
use Rattle.rep_follow.specs.Committing.{Goes, TellsAll, TellsAndBegins, Between, TellsBlocks}
use Rattle.rep_follow.proofs.Committing.{goes_none, goes_both, tells_stopped}
use Rattle.rep_follow.proofs.Beginning.{block_goes, block_smaller, block_rests}

-- nothing was done
pub record Stays {D : Type 0} (old new : Replica D) (was now : Counts) (before after : Option (List ℕ)) : Type 0 where
  pub replica : new ≡ old
  pub counts : now ≡ was
  pub text : after ≡ before

-- some blocks
abbrev pub Blocks : {D : Type 0} → Ghosts D → Replica D → Replica D → Counts → Counts → Option (List ℕ) → Option (List ℕ) → Result (Unit {0}) Refusal → Type 0
Blocks {D} g old new was now before after r = (between : List (Between D)) × TellsBlocks g old was before between new now after r

-- All that became durable is told and counted, block by block, no stream has failed since, and the replica runs.
pub record Told {D : Type 0} (g : Ghosts D) (old new : Replica D) (was now : Counts) (before after : Option (List ℕ)) (failed failing : Bool) : Type 0 where
  pub goes : Goes g old new [] [] was now before after (Ok tt)
  pub blocks : Stays old new was now before after ⊎ Blocks g old new was now before after (Ok tt)
  pub idle : length (facts_of g old).ahead ≡ 0 → new ≡ old
  pub running : (new.stopped || is_some new.engine.halted) ≡ false
  pub fine : failing ≡ failed

module _ {D : Type 0} (g : Ghosts D) where
  pub told_none : (r : Replica D) (was : Counts) (text : Option (List ℕ)) (failed : Bool) → HasCounters was → (r.stopped || is_some r.engine.halted) ≡ false → Told g r r was was text text failed failed
  told_none r was text failed has running =
      record { goes = goes_none g r was text (Ok tt) has tt; blocks = inl (record { replica = refl; counts = refl; text = refl }); idle = λ none. refl; running = running; fine = refl }

  -- one more behind them
  blocks_behind : (l : List (Between D)) (old mid new : Replica D) (was between now : Counts) (before written after : Option (List ℕ)) (r : Result (Unit {0}) Refusal)
      → TellsBlocks g old was before l mid between written (Ok tt) → TellsAndBegins g mid new between now written after r → TellsBlocks g old was before (l ++ (record { replica = mid; counts = between; text = written }) ∷ []) new now after r
  blocks_behind [] old mid new was between now before written after r blocks block = (blocks, block)
  blocks_behind (m ∷ l) old mid new was between now before written after r blocks block = (blocks.0, blocks_behind l m.replica mid new m.counts between now m.text written after r blocks.1 block)

  -- the log is at rest behind each
  blocks_rest : (l : List (Between D)) (old new : Replica D) (was now : Counts) (before after : Option (List ℕ)) → TellsBlocks g old was before l new now after (Ok tt) → (facts_of g new).phase ≡ Resting
  blocks_rest [] old new was now before after blocks = block_rests g old new was now before after tt blocks
  blocks_rest (m ∷ l) old new was now before after blocks = blocks_rest l m.replica new m.counts now m.text after blocks.1

  none_waits_at : (old new : Replica D) → new ≡ old → length (facts_of g old).ahead ≡ 0 → 0 < length (facts_of g new).ahead → ⊥
  none_waits_at old new same none some = let size = ap (λ (r : Replica D). length (facts_of g r).ahead) same in omega (arith, size, none, some)

  module _ (old mid new : Replica D) (was between now : Counts) (before written after : Option (List ℕ)) (failed failing then : Bool) (told : Told g old mid was between before written failed failing) where
    more_by : (r : Result (Unit {0}) Refusal) → Stays old mid was between before written ⊎ Blocks g old mid was between before written (Ok tt) → TellsAndBegins g mid new between now written after r → Blocks g old new was now before after r
    more_by r (inl stays) block = (
      [],
      subst (λ (text : Option (List ℕ)). TellsAndBegins g old new was now text after r) stays.text
          (subst (λ (counts : Counts). TellsAndBegins g old new counts now written after r) stays.counts (subst (λ (from : Replica D). TellsAndBegins g from new between now written after r) stays.replica block)),
    )
    more_by r (inr blocks) block = (blocks.0 ++ (record { replica = mid; counts = between; text = written }) ∷ [], blocks_behind blocks.0 old mid new was between now before written after r blocks.1 block)

    pub told_blocks : (r : Result (Unit {0}) Refusal) → TellsAndBegins g mid new between now written after r → Blocks g old new was now before after r
    told_blocks r block = more_by r told.blocks block

    goes_more : (r : Result (Unit {0}) Refusal) → TellsAndBegins g mid new between now written after r → Goes g old new [] [] was now before after r
    goes_more r block = goes_both g old mid new [] [] [] [] was between now before written after tt r told.goes (block_goes g mid new between now written after r block)

    -- one more block
    pub told_more : (x : Unit {0}) → TellsAndBegins g mid new between now written after (Ok x) → (new.stopped || is_some new.engine.halted) ≡ false → then ≡ failing → Told g old new was now before after failed then
    told_more x block running fine = record {
      goes = goes_more (Ok x) block;
      blocks = inr (told_blocks (Ok x) block);
      idle = λ none. absurd (let fewer = block_smaller g mid new between now written after x block in none_waits_at old mid (told.idle none) none (omega (arith, fewer)));
      running = running;
      fine = fine ∙ told.fine;
    }

    -- the next one ended so
    pub told_ended : (e : Refusal) → TellsAndBegins g mid new between now written after (Err e) → TellsAll g old new was now before after (Err e)
    told_ended e block = record { goes = goes_more (Err e) block; all = tt; rests = λ some. tt }

    pub told_idle : 0 < length (facts_of g mid).ahead → length (facts_of g old).ahead ≡ 0 → ⊥
    told_idle some none = none_waits_at old mid (told.idle none) none some

  -- nothing waits
  module _ (old new : Replica D) (was now : Counts) (before after : Option (List ℕ)) (failed failing : Bool) (told : Told g old new was now before after failed failing) (none : (facts_of g new).ahead ≡ []) where
    some_by : Stays old new was now before after ⊎ Blocks g old new was now before after (Ok tt) → 0 < length (facts_of g old).ahead → Blocks g old new was now before after (Ok tt)
    some_by (inl stays) some = absurd (let size = ap (λ (r : Replica D). length (facts_of g r).ahead) stays.replica in let left = ap length none in omega (arith, size, left, some))
    some_by (inr blocks) some = blocks

    pub told_some : 0 < length (facts_of g old).ahead → Blocks g old new was now before after (Ok tt)
    told_some some = some_by told.blocks some

    pub told_all : TellsAll g old new was now before after (Ok tt)
    told_all = record { goes = told.goes; all = none; rests = λ some. let blocks = told_some some in blocks_rest blocks.0 old new was now before after blocks.1 }

  -- a stopped replica makes none
  pub blocks_stopped : (r : Replica D) (was : Counts) (text : Option (List ℕ)) → HasCounters was → Blocks g r r was was text text (Err Stopped)
  blocks_stopped r was text has = ([], record { mid = r; told = Err Stopped; tells = tells_stopped g r was text has; begins = (refl, refl) })
