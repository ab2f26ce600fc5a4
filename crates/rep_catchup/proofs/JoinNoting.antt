-- What is noted of a source while a transfer is taken from it.
use Rattle.std.proofs.Common.{◌≡◌, inl, inr, ℕ, Bool, Result, Ok, Err, refl, sym, ap, ◌∙◌}
use Rattle.std.specs.Prelude.{◌≢◌, IfErr}
use Rattle.rep_types.specs.declared.refusal.Refusal.{Refusal}
use Rattle.rep_types.specs.declared.refusal.Refusal.TheVariants.{OutOfMemory, DiskFault, Corrupt, Malformed, StreamFault}
use Rattle.rep_types.specs.declared.refusal.Part.TheVariants.{Pages}
use Rattle.rep_streams.specs.Streams.{Notes}
use Rattle.rep_replica.specs.Replicas.{Replica}
use Rattle.rep_replica.specs.Settling.{EndsEarly}
use Rattle.rep_transfer.specs.declared.part.Part.{Part}
use Rattle.rep_catchup.specs.Joining.{IsOut}
use Rattle.rep_disk.specs.declared.disk.Disk.{Ghosts}

-- ---- what is no fault of a stream

pub works_other : (e : Refusal) → EndsEarly e → e ≢ StreamFault
works_other e (inl is) fault = absurd (let never : OutOfMemory ≡ StreamFault = sym is ∙ fault in cc)
works_other e (inr (inl is)) fault = absurd (let never : DiskFault ≡ StreamFault = sym is ∙ fault in cc)
works_other e (inr (inr is)) fault = absurd (let never : Corrupt Pages ≡ StreamFault = sym is ∙ fault in cc)

pub out_is_other : {D : Type 0} (g : Ghosts D) (r : Replica D) (part : Part) (at : ℕ) (e : Refusal) → IsOut g r part at e → e ≢ StreamFault
out_is_other g r part at e (inl work) fault = works_other e work fault
out_is_other g r part at e (inr out) fault = absurd (let never : Malformed at ≡ StreamFault = sym out.0 ∙ fault in cc)

-- ---- a refusal that is none

err_same : {T : Type 0} (e f : Refusal) (result : Result T Refusal) → result ≡ Err e → result ≡ Err f → e ≡ f
err_same e f result is was = cc

ok_is_none : {T : Type 0} (x : T) → Ok x ≢ Err StreamFault
ok_is_none x is = cc

pub notes_none : {T : Type 0} {was is : Bool} {e : Refusal} → is ≡ was → e ≢ StreamFault → Notes {T = T} was is (Err e)
notes_none {T} {was} {is} {e} same other = record { fault = λ fault. absurd (other (err_same {T = T} e StreamFault (Err e) refl fault)); fine = λ _. same }

-- ---- of more than one call

pub notes_then : {T : Type 0} {was mid is : Bool} {result : Result T Refusal} → mid ≡ was → Notes mid is result → Notes was is result
notes_then same notes = record { fault = notes.fault; fine = λ other. notes.fine other ∙ same }

-- a refusal that is handed on
pub notes_passed : {T U : Type 0} {was is : Bool} {e : Refusal} → Notes {T = T} was is (Err e) → Notes {T = U} was is (Err e)
notes_passed {T} {U} {was} {is} {e} notes = record {
  fault = λ fault. notes.fault (ap (λ (f : Refusal). Err f) (err_same {T = U} e StreamFault (Err e) refl fault));
  fine = λ other. notes.fine (λ fault. other (ap (λ (f : Refusal). Err f) (err_same {T = T} e StreamFault (Err e) refl fault)));
}

-- a call that refuses with a device's fault alone
pub notes_device : {T : Type 0} {was is : Bool} (result : Result T Refusal) → is ≡ was → IfErr result (λ e. e ≡ DiskFault) → Notes was is result
notes_device (Ok x) same only = record { fault = λ fault. absurd (ok_is_none x fault); fine = λ _. same }
notes_device (Err e) same only = notes_none same (λ fault. absurd (let never : DiskFault ≡ StreamFault = sym only ∙ fault in cc))

pub device_alone : {T : Type 0} (P : Type 0) (result : Result T Refusal) → IfErr result (λ e. (e ≡ DiskFault) × P) → IfErr result (λ e. e ≡ DiskFault)
device_alone P (Ok x) only = tt
device_alone P (Err e) only = only.0
