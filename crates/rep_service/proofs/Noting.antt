-- What is noted of both streams.
use Rattle.std.proofs.Common.{◌≡◌, inl, inr, Bool, true, false, Result, Ok, Err, refl, sym, ap, subst, ◌∙◌}
use Rattle.std.specs.Prelude.{◌≢◌}
use Rattle.rep_types.specs.declared.refusal.Refusal.{Refusal}
use Rattle.rep_types.specs.declared.refusal.Refusal.TheVariants.{StreamFault}
use Rattle.rep_streams.specs.Streams.{Notes}
use Rattle.rep_follow.specs.Following.{NotesEither}
use Rattle.rep_service.specs.Serving.{is_of_line}

error_same : (X : Type 0) (a b : Refusal) → ◌≡◌ {A = Result X Refusal} (Err a) (Err b) → a ≡ b
error_same X a b is = cc

-- no refusal
pub still_done : {T : Type 0} (s s' w w' : Bool) (x : T) → s' ≡ s → w' ≡ w → NotesEither s s' w w' (Ok x)
still_done s s' w w' x source writer = record { fault = λ is. absurd cc; source_fine = λ other. source; writer_fine = λ other. writer }

-- a refusal that is no stream's
pub still_own : {T : Type 0} (s s' w w' : Bool) (e : Refusal) → s' ≡ s → w' ≡ w → e ≢ StreamFault → NotesEither {T = T} s s' w w' (Err e)
still_own {T} s s' w w' e source writer own = record { fault = λ is. absurd (own (error_same T e StreamFault is)); source_fine = λ other. source; writer_fine = λ other. writer }

-- the writer's
pub by_writer : (S T : Type 0) (s s' w mid w' : Bool) (e : Refusal) → s' ≡ s → mid ≡ w → Notes {T = S} mid w' (Err e) → NotesEither {T = T} s s' w w' (Err e)
by_writer S T s s' w mid w' e source same notes = record {
  fault = λ is. inr (notes.fault (ap Err (error_same T e StreamFault is)));
  source_fine = λ other. source;
  writer_fine = λ other. notes.fine (λ is. other (ap Err (error_same S e StreamFault is))) ∙ same;
}

-- the source's
pub by_source : (S T : Type 0) (s mid s' w w' : Bool) (e : Refusal) → mid ≡ s → w' ≡ w → Notes {T = S} mid s' (Err e) → NotesEither {T = T} s s' w w' (Err e)
by_source S T s mid s' w w' e same writer notes = record {
  fault = λ is. inl (notes.fault (ap Err (error_same T e StreamFault is)));
  source_fine = λ other. notes.fine (λ is. other (ap Err (error_same S e StreamFault is))) ∙ same;
  writer_fine = λ other. writer;
}

-- that of either, behind what left both as they were
pub by_either : (S T : Type 0) (s mid s' w last w' : Bool) (e : Refusal) → mid ≡ s → last ≡ w → NotesEither {T = S} mid s' last w' (Err e) → NotesEither {T = T} s s' w w' (Err e)
by_either S T s mid s' w last w' e source writer notes = record {
  fault = λ is. notes.fault (ap Err (error_same T e StreamFault is));
  source_fine = λ other. notes.source_fine (λ is. other (ap Err (error_same S e StreamFault is))) ∙ source;
  writer_fine = λ other. notes.writer_fine (λ is. other (ap Err (error_same S e StreamFault is))) ∙ writer;
}

-- ---- behind a line that ends the node

not_of_line : {A : Type 0} (e : Refusal) → is_of_line e ≡ true → e ≡ StreamFault → A
not_of_line e of is = absurd (let never : true ≡ false = sym of ∙ ap is_of_line is in cc)

end_by : (S T : Type 0) (s s' w mid w' : Bool) (e f : Refusal) (b : Bool) → is_of_line e ≡ b → NotesEither {T = S} s s' w mid (Err e) → (b ≡ true → Notes {T = Unit {0}} mid w' (Err f)) → (b ≡ false → (f ≡ e) × (w' ≡ mid)) → NotesEither {T = T} s s' w w' (Err f)
end_by S T s s' w mid w' e f true of notes line other =
    by_writer (Unit {0}) T s s' w mid w' f (notes.source_fine (λ is. not_of_line e of (error_same S e StreamFault is))) (notes.writer_fine (λ is. not_of_line e of (error_same S e StreamFault is))) (line refl)
end_by S T s s' w mid w' e f false of notes line other =
    let same = other refl in
    subst (λ (g : Refusal). NotesEither {T = T} s s' w w' (Err g)) (sym same.0) (subst (λ (x : Bool). NotesEither {T = T} s s' w x (Err e)) (sym same.1) (by_either S T s s s' w w mid e refl refl notes))

pub ends_behind : (S T : Type 0) (s s' w mid w' : Bool) (e f : Refusal) → NotesEither {T = S} s s' w mid (Err e) → (is_of_line e ≡ true → Notes {T = Unit {0}} mid w' (Err f)) → (is_of_line e ≡ false → (f ≡ e) × (w' ≡ mid)) → NotesEither {T = T} s s' w w' (Err f)
ends_behind S T s s' w mid w' e f notes line other = end_by S T s s' w mid w' e f (is_of_line e) refl notes line other
