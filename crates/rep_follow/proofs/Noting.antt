-- What is noted of streams.
use Rattle.std.proofs.Common.{◌≡◌, inl, inr, Bool, Result, Ok, Err, refl, ap, ◌∙◌}
use Rattle.std.specs.Prelude.{◌≢◌, IfErr}
use Rattle.rep_types.specs.declared.refusal.Refusal.{Refusal}
use Rattle.rep_types.specs.declared.refusal.Refusal.TheVariants.{StreamFault}
use Rattle.rep_streams.specs.Streams.{Notes}
use Rattle.rep_follow.specs.Following.{NotesEither}

error_same : (X : Type 0) (a b : Refusal) → ◌≡◌ {A = Result X Refusal} (Err a) (Err b) → a ≡ b
error_same X a b is = cc

-- a refusal that is no stream's leaves a note as it was
pub noted_own : {T : Type 0} (old new : Bool) (r : Result T Refusal) → new ≡ old → IfErr r (λ e. e ≢ StreamFault) → Notes old new r
noted_own old new (Ok x) same own = record { fault = λ is. absurd cc; fine = λ other. same }
noted_own {T} old new (Err e) same own = record { fault = λ is. absurd (own (error_same T e StreamFault is)); fine = λ other. same }

-- an answer that is no refusal
pub noted_done : {T : Type 0} (old new : Bool) (x : T) → new ≡ old → Notes old new (Ok x)
noted_done old new x same = record { fault = λ is. absurd cc; fine = λ other. same }

-- a refusal behind what left the note as it was
pub noted_err : (S T : Type 0) (old mid new : Bool) (e : Refusal) → mid ≡ old → Notes {T = S} mid new (Err e) → Notes {T = T} old new (Err e)
noted_err S T old mid new e same notes = record {
  fault = λ is. notes.fault (ap Err (error_same T e StreamFault is));
  fine = λ other. notes.fine (λ is. other (ap Err (error_same S e StreamFault is))) ∙ same;
}

-- ---- of both

pub either_done : {T : Type 0} (s s' w w' : Bool) (x : T) → s' ≡ s → w' ≡ w → NotesEither s s' w w' (Ok x)
either_done s s' w w' x source writer = record { fault = λ is. absurd cc; source_fine = λ other. source; writer_fine = λ other. writer }

-- the writer's
pub either_writer : (S T : Type 0) (s w mid w' : Bool) (e : Refusal) → mid ≡ w → Notes {T = S} mid w' (Err e) → NotesEither {T = T} s s w w' (Err e)
either_writer S T s w mid w' e same notes = record {
  fault = λ is. inr (notes.fault (ap Err (error_same T e StreamFault is)));
  source_fine = λ other. refl;
  writer_fine = λ other. notes.fine (λ is. other (ap Err (error_same S e StreamFault is))) ∙ same;
}

-- the source's
pub either_source : (S T : Type 0) (s s' w w' : Bool) (e : Refusal) → w' ≡ w → Notes {T = S} s s' (Err e) → NotesEither {T = T} s s' w w' (Err e)
either_source S T s s' w w' e same notes = record {
  fault = λ is. inl (notes.fault (ap Err (error_same T e StreamFault is)));
  source_fine = λ other. notes.fine (λ is. other (ap Err (error_same S e StreamFault is)));
  writer_fine = λ other. same;
}

-- behind what left both as they were
pub either_err : (S T : Type 0) (s s1 s' w w1 w' : Bool) (e : Refusal) → s1 ≡ s → w1 ≡ w → NotesEither {T = S} s1 s' w1 w' (Err e) → NotesEither {T = T} s s' w w' (Err e)
either_err S T s s1 s' w w1 w' e source writer notes = record {
  fault = λ is. notes.fault (ap Err (error_same T e StreamFault is));
  source_fine = λ other. notes.source_fine (λ is. other (ap Err (error_same S e StreamFault is))) ∙ source;
  writer_fine = λ other. notes.writer_fine (λ is. other (ap Err (error_same S e StreamFault is))) ∙ writer;
}

never_fault : (S : Type 0) (x : S) → ◌≡◌ {A = Result S Refusal} (Ok x) (Err StreamFault) → ⊥
never_fault S x is = cc

pub source_kept : {S : Type 0} (s s' w w' : Bool) (x : S) → NotesEither s s' w w' (Ok x) → s' ≡ s
source_kept {S} s s' w w' x notes = notes.source_fine (never_fault S x)

pub writer_kept : {S : Type 0} (s s' w w' : Bool) (x : S) → NotesEither s s' w w' (Ok x) → w' ≡ w
writer_kept {S} s s' w w' x notes = notes.writer_fine (never_fault S x)
