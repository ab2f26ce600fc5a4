-- What stands where a format could not be told.
use Rattle.std.proofs.Common.{◌≡◌, ℕ, ◌<◌, ◌≤◌, Result, Ok, Err, sym, subst, arith, inl, inr}
use Rattle.std.specs.Prelude.{IfErr, OnOk, MatchResult}
use Rattle.std.proofs.lemmas.Bool.{cases_lt}
use Rattle.rep_types.specs.declared.refusal.Refusal.{Refusal}
use Rattle.rep_types.specs.declared.refusal.Refusal.TheVariants.{DiskFault, StreamFault, TooSmall}
use Rattle.rep_disk.specs.declared.disk.Disk.{Ghosts}
use Rattle.rep_disk.specs.Devices.{Calls}
use Rattle.rep_log.specs.Moves.{fault_of}

-- a format that was told with a stream fault has succeeded
pub untold : (outcome result : Result (Unit {0}) Refusal) (P : Type 0) (size need : ℕ) → OnOk outcome P → (size < need → outcome ≡ Err (TooSmall need)) →
    (need ≤ size → IfErr outcome (λ refusal. refusal ≡ DiskFault)) → MatchResult outcome (λ _. IfErr result (λ refusal. refusal ≡ StreamFault)) (λ refusal. result ≡ Err refusal) →
    result ≡ Err StreamFault → P
untold (Ok _) result P size need formatted small fault told is = formatted
untold (Err e) result P size need formatted small fault told is = elim (cases_lt size need) [
  | inl less ↦ let why : e ≡ TooSmall need = cc (small less) in cc
  | inr enough ↦ let why : e ≡ DiskFault = fault (omega arith) in cc
]

-- the device's fault is told as it was: a line that fails is none
pub told_call : {D : Type 0} (g : Ghosts D) (old new : D) (outcome result : Result (Unit {0}) Refusal) → MatchResult outcome (λ _. IfErr result (λ refusal. refusal ≡ StreamFault)) (λ refusal. result ≡ Err refusal)
    → Calls g old new (fault_of outcome) → Calls g old new (fault_of result)
told_call g old new (Ok x) (Ok y) told call = record { same_size = call.same_size; stays_honest = call.stays_honest; was_honest = call.was_honest; cause = call.cause; no_cause = call.no_cause }
told_call {D} g old new (Ok x) (Err e) told call =
    subst (λ (refusal : Refusal). Calls g old new (fault_of {T = Unit {0}} (Err refusal))) (sym told)
    (record { same_size = call.same_size; stays_honest = call.stays_honest; was_honest = call.was_honest; cause = call.cause; no_cause = call.no_cause })
told_call g old new (Err e) result told call = subst (λ (r : Result (Unit {0}) Refusal). Calls g old new (fault_of r)) (sym told) call
