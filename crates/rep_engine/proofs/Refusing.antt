-- What a refusal leaves of an engine.
use Rattle.std.proofs.Common.{◌≡◌, ◌≢◌, ◌⊎◌, inl, inr, Option, None, Some, Result, Ok, Err, sym, ap, ◌∙◌, refl, IfErr, OnErr, IsOk}
use Rattle.std.specs.Prelude.{IsErrAnd}
use Rattle.std.proofs.lemmas.Result.{err_from_is_err_and}
use Rattle.rep_types.specs.declared.refusal.Refusal.{Refusal}
use Rattle.rep_types.specs.declared.refusal.Refusal.TheVariants.{DiskFault, Corrupt, Stopped}
use Rattle.rep_types.specs.declared.refusal.Part.TheVariants.{Pages}
use Rattle.rep_log.specs.declared.phase.Phase.{Phase}
use Rattle.rep_checkpoint.specs.Standing.{Standing as Checkpoint}
use Rattle.rep_engine.specs.Engines.{Engine, Halts}
use Rattle.rep_engine.specs.Reading.{halted_by}

-- what a call answers that passes on that it is stopped
pub passed_on : {T : Type 0} (result : Result T Refusal) (e : Refusal) → IsErrAnd result (λ y. y ≡ e) → e ≡ Stopped → result ≡ Err Stopped
passed_on result e given is = let passed = err_from_is_err_and result given in passed.1 ∙ ap Err (passed.2 ∙ is)

-- the device didn't fail where a call left the engine running
pub not_failed : {T : Type 0} (phase : Phase) (result : Result T Refusal) → halted_by phase result ≡ None → result ≢ Err DiskFault
not_failed phase result on fault = let never : Some phase ≡ None = sym (ap (halted_by phase) fault) ∙ on in absurd cc

-- and where nothing but that is refused, it was done
pub done_or_failed : {T : Type 0} (result : Result T Refusal) → IfErr result (λ e. e ≡ DiskFault) → result ≢ Err DiskFault → IsOk result
done_or_failed (Ok x) refused other = refl
done_or_failed (Err e) refused other = absurd (other (ap Err refused))

module _ {D T : Type 0} (old new : Engine D) where
  -- the device's fault stops it, and nothing else
  pub fault_stops : (result : Result T Refusal) → new ≡ record old { disk = new.disk; halted = halted_by old.log.phase result } → IfErr result (λ e. e ≡ DiskFault → Halts old new)
  fault_stops (Ok x) rest = tt
  fault_stops (Err e) rest = λ fault. rest ∙ ap (λ (r : Refusal). record old { disk = new.disk; halted = halted_by {T = T} old.log.phase (Err r) }) fault

  -- and a page that isn't of its form was asked for
  pub refused_after : (result : Result T Refusal) → old.halted ≡ None → new ≡ record old { disk = new.disk; halted = halted_by old.log.phase result } → IfErr result (λ e. (e ≡ DiskFault) ⊎ (e ≡ Corrupt Pages))
      → IfErr result (λ e. (e ≡ DiskFault) ⊎ (((e ≡ Corrupt Pages) × (new ≡ record old { disk = new.disk })) ⊎ (new ≡ old)))
  refused_after (Ok x) runs rest refused = tt
  refused_after (Err e) runs rest (inl fault) = inl fault
  refused_after (Err e) runs rest (inr corrupt) =
      let on : halted_by {T = T} old.log.phase (Err e) ≡ old.halted = ap (λ (r : Refusal). halted_by {T = T} old.log.phase (Err r)) corrupt ∙ sym runs in
      inr (inl (corrupt, rest ∙ ap (λ (h : Option Phase). record old { disk = new.disk; halted = h }) on))

  -- where the checkpoint stays too
  pub checkpoint_stays : (result : Result T Refusal) → new ≡ record old { disk = new.disk; checkpoint = new.checkpoint; halted = new.halted } → new.halted ≡ halted_by old.log.phase result → OnErr result (new.checkpoint ≡ old.checkpoint)
      → OnErr result (new ≡ record old { disk = new.disk; halted = halted_by old.log.phase result })
  checkpoint_stays (Ok x) rest halted same = tt
  checkpoint_stays (Err e) rest halted same =
      rest ∙ ap (λ (k : Checkpoint). record old { disk = new.disk; checkpoint = k; halted = new.halted }) same
      ∙ ap (λ (h : Option Phase). record old { disk = new.disk; halted = h }) halted

  pub stays_stopped : (result : Result T Refusal) → new ≡ record old { disk = new.disk; checkpoint = new.checkpoint; halted = new.halted } → new.halted ≡ halted_by old.log.phase result → OnErr result (new.checkpoint ≡ old.checkpoint)
      → IfErr result (λ e. e ≡ DiskFault → Halts old new)
  stays_stopped (Ok x) rest halted same = tt
  stays_stopped (Err e) rest halted same = fault_stops (Err e) (checkpoint_stays (Err e) rest halted same)
