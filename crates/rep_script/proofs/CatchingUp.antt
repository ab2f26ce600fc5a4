-- What a donor and a joiner say.
use Rattle.std.proofs.Common.{◌≡◌, ℕ, true, List, Option, None, Some, Result, Ok, Err, sym, ◌∙◌}
use Rattle.std.specs.Prelude.{◌≢◌, IfOk, IfErr, IfSome, OnOk}
use Rattle.rep_types.specs.declared.refusal.Refusal.{Refusal}
use Rattle.rep_types.specs.declared.refusal.Refusal.TheVariants.{DiskFault, Corrupt, StreamFault}
use Rattle.rep_types.specs.declared.refusal.Part.{Part}
use Rattle.rep_types.specs.declared.refusal.Part.TheVariants.{Pages}
use Rattle.rep_disk.specs.declared.disk.Disk.{Ghosts}
use Rattle.rep_steps.specs.Nodes.{Node}
use Rattle.rep_catchup.specs.Replicas.{Replica, facts_of}
use Rattle.rep_catchup.specs.Holding.{Holds}
use Rattle.rep_catchup.specs.Settling.{is_quiet}
use Rattle.rep_catchup.specs.Growing.{Tells as TellsOfDevice}
use Rattle.rep_catchup.specs.Joining.{Joined, TookTransfer}
use Rattle.rep_script.specs.CatchingUp.{Taken}

-- ---- a joiner

some_last : (before : Option (List ℕ)) (P : List ℕ → ℕ → Type 0) (last : ℕ) → IfSome before (λ bytes. P bytes last) → IfSome before (λ bytes. (k : ℕ) × P bytes k)
some_last None P last found = tt
some_last (Some bytes) P last found = (last, found)

-- the transfer was taken to its end
pub taken : {D : Type 0} (g : Ghosts D) (old new : Replica D) (before left : Option (List ℕ)) (joined : Result ℕ Refusal) (last : ℕ) → joined ≡ Ok last → OnOk joined (is_quiet (facts_of g new) ≡ true)
    → IfSome before (λ bytes. IfOk joined (TookTransfer g bytes left old new))
    → ((n : Node) → Holds g n old → IfSome before (λ bytes. IfOk joined (Joined g n bytes left old new))) → Taken g old new before left
taken g old new before left (Ok k) last is quiet took joins = record { quiet = quiet; took = some_last before (λ bytes p. TookTransfer g bytes left old new p) k took; joined = λ n holds. some_last before (λ bytes p. Joined g n bytes left old new p) k (joins n holds) }
taken g old new before left (Err e) last is quiet took joins = absurd (cc)

-- and whether its line could be written or not
pub either_way : {T : Type 0} (result : Result T Refusal) (P : Type 0) → P → OnOk result P
either_way (Ok x) P p = p
either_way (Err e) P p = tt

-- ---- what is told of the device

stream_is_none : StreamFault ≢ DiskFault
stream_is_none is = cc

stream_is_whole : (part : Part) → StreamFault ≢ Corrupt part
stream_is_whole part is = cc

module _ {D : Type 0} (g : Ghosts D) (old new : Replica D) where
  -- a line that fails tells nothing of it
  pub line_tells : {T : Type 0} (result : Result T Refusal) → IfErr result (λ e. e ≡ StreamFault) → g.failures new.engine.disk ≡ g.failures old.engine.disk → TellsOfDevice g old new result
  line_tells (Ok x) told same = same
  line_tells (Err e) told same = record {
    faults = record { fault = λ is. absurd (stream_is_none (sym told ∙ is)); no_fault = λ not. same };
    corrupt = λ is. absurd (stream_is_whole Pages (sym told ∙ is));
    whole = λ n holds part is. stream_is_whole part (sym told ∙ is);
  }
