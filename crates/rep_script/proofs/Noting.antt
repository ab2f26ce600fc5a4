-- What the notes of the streams are while a text is read and answered.
use Rattle.std.proofs.Common.{◌≡◌, ℕ, ◌+◌, ◌<◌, Bool, true, false, List, [], length, Option, None, Some, Result, Ok, Err, refl, ap, ◌∙◌, inl, inr, arith}
use Rattle.std.specs.Prelude.{◌≢◌, ◌⊎◌, IfErr}
use Rattle.rep_types.specs.declared.refusal.Refusal.{Refusal}
use Rattle.rep_types.specs.declared.refusal.Refusal.TheVariants.{StreamFault}
use Rattle.rep_streams.specs.Streams.{Notes}
use Rattle.rep_record.specs.Lines.{Unread, IsTooLong, IsLongText, NotesText}
use Rattle.rep_script.specs.Answering.{NotesBoth}

-- another answer than a refusal is no stream fault, and a refusal is one whatever the answer would have been
other_type : {T U : Type 0} (e : Refusal) → ◌≡◌ {A = Result T Refusal} (Err e) (Err StreamFault) → ◌≡◌ {A = Result U Refusal} (Err e) (Err StreamFault)
other_type e is = let same : e ≡ StreamFault = cc in ap Err same

-- ---- a text that is read

-- Lines were read: the reader has not failed meanwhile, and where too much is left there was before.
pub record ReadsOn (Long Long' : Type 0) (reader reader' : Bool) : Type 0 where
  pub fine : reader' ≡ reader
  pub long : Long' → Long

pub line_read : {T : Type 0} (Long Long' Long'' : Type 0) (r r' r'' : Bool) (x : T) → ReadsOn Long Long' r r' → NotesText Long' r' r'' (Ok x) → (Long'' → Long') → ReadsOn Long Long'' r r''
line_read Long Long' Long'' r r' r'' x h n back = record { fine = n.fine (λ e. absurd cc) ∙ h.fine; long = λ l. h.long (back l) }

-- a line is refused, or the reader fails
pub reading_stops : {T U : Type 0} (Long Long' : Type 0) (r r' r'' : Bool) (e : Refusal) → ReadsOn Long Long' r r' → NotesText {T = T} Long' r' r'' (Err e) → NotesText {T = U} Long r r'' (Err e)
reading_stops {T} {U} Long Long' r r' r'' e h n = record {
  fault = λ is. elim (n.fault (other_type {T = U} {U = T} e is)) [ inl failed ↦ inl failed | inr long ↦ inr (h.long long) ];
  fine = λ other. n.fine (λ is. other (other_type {T = T} {U = U} e is)) ∙ h.fine;
}

-- what is read of a line that was handed out
pub reading_ends : {U : Type 0} (Long Long' : Type 0) (r r' : Bool) (result : Result U Refusal) → ReadsOn Long Long' r r' → IfErr result (λ e. e ≢ StreamFault) → NotesText Long r r' result
reading_ends Long Long' r r' (Ok x) h own = record { fault = λ is. absurd cc; fine = λ other. h.fine }
reading_ends Long Long' r r' (Err e) h own = record { fault = λ is. absurd (let same : e ≡ StreamFault = cc in own same); fine = λ other. h.fine }

-- ---- a text that is read and answered

-- Lines were read and answered: no stream has failed meanwhile, and where too much is left there was before.
pub record GoesOn (Long Long' : Type 0) (reader reader' writer writer' : Bool) : Type 0 where
  pub reader_fine : reader' ≡ reader
  pub writer_fine : writer' ≡ writer
  pub long : Long' → Long

pub goes_on : (Long : Type 0) (reader writer : Bool) → GoesOn Long Long reader reader writer writer
goes_on Long reader writer = record { reader_fine = refl; writer_fine = refl; long = λ l. l }

pub line_goes : {T : Type 0} (Long Long' Long'' : Type 0) (r r' r'' w w' w'' : Bool) (x : T) → GoesOn Long Long' r r' w w' → NotesBoth Long' r' r'' w' w'' (Ok x) → (Long'' → Long') →
    GoesOn Long Long'' r r'' w w''
line_goes Long Long' Long'' r r' r'' w w' w'' x h n back = record {
  reader_fine = n.reader_fine (λ e. absurd cc) ∙ h.reader_fine;
  writer_fine = n.writer_fine (λ e. absurd cc) ∙ h.writer_fine;
  long = λ l. h.long (back l);
}

-- a line is refused, or a stream fails at it
pub line_stops : {T U : Type 0} (Long Long' Other : Type 0) (r r' r'' w w' w'' : Bool) (e : Refusal) → GoesOn Long Long' r r' w w' → NotesBoth {T = T} Long' r' r'' w' w'' (Err e) →
    NotesBoth {T = U} (Other ⊎ Long) r r'' w w'' (Err e)
line_stops {T} {U} Long Long' Other r r' r'' w w' w'' e h n = record {
  fault = λ is. elim (n.fault (other_type {T = U} {U = T} e is)) [ inl failed ↦ inl failed | inr (inl failed) ↦ inr (inl failed) | inr (inr long) ↦ inr (inr (inr (h.long long))) ];
  reader_fine = λ other. n.reader_fine (λ is. other (other_type {T = T} {U = U} e is)) ∙ h.reader_fine;
  writer_fine = λ other. n.writer_fine (λ is. other (other_type {T = T} {U = U} e is)) ∙ h.writer_fine;
}

-- its answer is refused, or finds no room
pub answer_stops : {T U : Type 0} (Long Long' Other : Type 0) (r r' w w' v v' : Bool) (e : Refusal) → GoesOn Long Long' r r' w w' → Notes {T = T} v v' (Err e) →
    NotesBoth {T = U} ((v' ≡ true) ⊎ Other) r r' w w' (Err e)
answer_stops {T} {U} Long Long' Other r r' w w' v v' e h n = record {
  fault = λ is. inr (inr (inl (n.fault (other_type {T = U} {U = T} e is))));
  reader_fine = λ other. h.reader_fine;
  writer_fine = λ other. h.writer_fine;
}

-- it is refused for what no stream has done
pub own_stops : {U : Type 0} (Long Long' Other : Type 0) (r r' w w' : Bool) (e : Refusal) → GoesOn Long Long' r r' w w' → e ≢ StreamFault → NotesBoth {T = U} Other r r' w w' (Err e)
own_stops Long Long' Other r r' w w' e h own = record {
  fault = λ is. absurd (let same : e ≡ StreamFault = cc in own same);
  reader_fine = λ other. h.reader_fine;
  writer_fine = λ other. h.writer_fine;
}

-- the text has ended
pub text_ends : {U : Type 0} (Long Long' Other : Type 0) (r r' w w' : Bool) (x : U) → GoesOn Long Long' r r' w w' → NotesBoth Other r r' w w' (Ok x)
text_ends Long Long' Other r r' w w' x h = record { fault = λ is. absurd cc; reader_fine = λ other. h.reader_fine; writer_fine = λ other. h.writer_fine }

-- ---- the last answers

-- they were sent, and each had found room
pub sent_noted : {U : Type 0} (Long : Type 0) (r r' w w' w'' v : Bool) (result : Result U Refusal) → NotesBoth ((v ≡ true) ⊎ Long) r r' w w' result → w'' ≡ w' → v ≡ false →
    NotesBoth Long r r' w w'' result
sent_noted Long r r' w w' w'' v result n same room = record {
  fault = λ is. elim (n.fault is) [ inl failed ↦ inl failed | inr (inl failed) ↦ inr (inl (same ∙ failed)) | inr (inr (inl full)) ↦ absurd cc | inr (inr (inr long)) ↦ inr (inr long) ];
  reader_fine = n.reader_fine;
  writer_fine = λ other. same ∙ n.writer_fine other;
}

-- or the writer has failed
pub unsent_noted : {T U : Type 0} (Long : Type 0) (r r' w w' w'' : Bool) (e : Refusal) → Notes {T = T} w' w'' (Err e) → e ≡ StreamFault → NotesBoth {T = U} Long r r' w w'' (Err e)
unsent_noted {T} {U} Long r r' w w' w'' e n is = record {
  fault = λ same. inr (inl (n.fault (other_type {T = U} {U = T} e same)));
  reader_fine = λ other. absurd (other cc);
  writer_fine = λ other. absurd (other cc);
}

-- ---- a whole text

-- a text of which nothing was read is too long where it has too many bytes
pub text_long : (u : Unread) (left : Option (List ℕ)) → u ≡ record { pending = []; taken = 0; number = 0 } → IsTooLong u left → IsLongText left
text_long u None new long = tt
text_long u (Some text) new long =
    let whole : 67108864 < 0 + length text = rw new at long in
    omega (arith, whole)

-- its first line could not be read
pub no_params : {T U : Type 0} (Long Whole : Type 0) (r r' w : Bool) (e : Refusal) → (Long → Whole) → NotesText {T = T} Long r r' (Err e) → NotesBoth {T = U} Whole r r' w w (Err e)
no_params {T} {U} Long Whole r r' w e whole n = record {
  fault = λ is. elim (n.fault (other_type {T = U} {U = T} e is)) [ inl failed ↦ inl failed | inr long ↦ inr (inr (whole long)) ];
  reader_fine = λ other. n.fine (λ is. other (other_type {T = T} {U = U} e is));
  writer_fine = λ other. refl;
}

-- or it was read, and what is behind it refused for what no stream has done
pub nothing_behind : {T U : Type 0} (Long Whole : Type 0) (r r' w : Bool) (x : T) (e : Refusal) → NotesText Long r r' (Ok x) → e ≢ StreamFault → NotesBoth {T = U} Whole r r' w w (Err e)
nothing_behind Long Whole r r' w x e n own = record {
  fault = λ is. absurd (let same : e ≡ StreamFault = cc in own same);
  reader_fine = λ other. n.fine (λ is. absurd cc);
  writer_fine = λ other. refl;
}

-- or it was read, and then the rest
pub rest_behind : {T U : Type 0} (Long Long' Whole : Type 0) (r r' r'' w w' : Bool) (x : T) (result : Result U Refusal) → (Long → Whole) → (Long' → Long) → NotesText Long r r' (Ok x) →
    NotesBoth Long' r' r'' w w' result → NotesBoth Whole r r'' w w' result
rest_behind Long Long' Whole r r' r'' w w' x result whole back first n = record {
  fault = λ is. elim (n.fault is) [ inl failed ↦ inl failed | inr (inl failed) ↦ inr (inl failed) | inr (inr long) ↦ inr (inr (whole (back long))) ];
  reader_fine = λ other. n.reader_fine other ∙ first.fine (λ is. absurd cc);
  writer_fine = n.writer_fine;
}

-- all of it was read at once
pub text_noted : {U : Type 0} (Long Whole : Type 0) (r r' w w' : Bool) (result : Result U Refusal) → (Long → Whole) → NotesBoth Long r r' w w' result → NotesBoth Whole r r' w w' result
text_noted Long Whole r r' w w' result whole n = record {
  fault = λ is. elim (n.fault is) [ inl failed ↦ inl failed | inr (inl failed) ↦ inr (inl failed) | inr (inr long) ↦ inr (inr (whole long)) ];
  reader_fine = n.reader_fine;
  writer_fine = n.writer_fine;
}

-- it was read, and then answered
pub read_and_told : {T U : Type 0} (Long : Type 0) (r r' w w' : Bool) (x : T) (result : Result U Refusal) → NotesText Long r r' (Ok x) → Notes w w' result → NotesBoth Long r r' w w' result
read_and_told Long r r' w w' x result first n = record {
  fault = λ is. inr (inl (n.fault is));
  reader_fine = λ other. first.fine (λ is. absurd cc);
  writer_fine = n.fine;
}

-- ---- a transfer

-- a writer that has failed has noted it
pub when_failed : {U : Type 0} (w w' : Bool) (result : Result U Refusal) → Notes w w' result → IfErr result (λ e. e ≡ StreamFault) → IfErr result (λ e. (e ≡ StreamFault) × (w' ≡ true))
when_failed w w' (Ok x) n f = tt
when_failed w w' (Err e) n f = (f, n.fault (ap Err f))

-- it was not taken, and nothing told
pub not_taken : {T U : Type 0} (Other : Type 0) (r r' w : Bool) (e : Refusal) → Notes {T = T} r r' (Err e) → NotesBoth {T = U} Other r r' w w (Err e)
not_taken {T} {U} Other r r' w e n = record {
  fault = λ is. inl (n.fault (other_type {T = U} {U = T} e is));
  reader_fine = λ other. n.fine (λ is. other (other_type {T = T} {U = U} e is));
  writer_fine = λ other. refl;
}

-- it was taken, and then told
pub taken_and_told : {T U : Type 0} (Other : Type 0) (r r' w w' : Bool) (x : T) (result : Result U Refusal) → Notes r r' (Ok x) → Notes w w' result → NotesBoth Other r r' w w' result
taken_and_told Other r r' w w' x result first n = record {
  fault = λ is. inr (inl (n.fault is));
  reader_fine = λ other. first.fine (λ is. absurd cc);
  writer_fine = n.fine;
}
