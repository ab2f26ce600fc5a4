-- Calls on one cell, one after another.
use Rattle.std.proofs.Common.{◌≡◌, ◌⊎◌, ℕ, inl, inr, List, Option, None, Some, Result, Ok, Err, refl, sym, ap, subst, ◌∙◌, arith}
use Rattle.std.specs.Prelude.{OnOk, IsErr}
use Rattle.std.proofs.lemmas.Bool.{false≢true}
use Rattle.std.proofs.lemmas.Result.{on_ok_weaker}
use Rattle.rep_disk.specs.History.{History}
use Rattle.rep_disk.specs.Moments.{LeavesOnly}
use Rattle.rep_disk.specs.Leaving.{leaves_then}
use Rattle.rep_layout.specs.declared.place.Layout.{Layout}
use Rattle.rep_layout.specs.declared.place.Place.{Place}
use Rattle.rep_cells.specs.Readings.{IsPlace, reading_of}
use Rattle.rep_cells.specs.States.{State, States, Opening, Opened, Closing, Allows, synced}
use Rattle.rep_cells.specs.Known.{Assigns}
use Rattle.rep_cells.specs.Calls.{Reaches, Stepped, Settled}
use Rattle.uses_log.specs.Publishing.{ReadsAsOneOf, Publishes}

-- at each moment the cell reads as nothing or as one of these bodies, and every other place as it was allowed to
abbrev pub Leaves : Layout → History → History → States → Place → (List ℕ → Type 0) → Type 0
Leaves l first h s cell IsOne = LeavesOnly first h (λ image. ReadsAsOneOf l s cell IsOne (reading_of l image))

-- outside the cell, states allow no more than the first ones, and a sync makes the same of them
pub record Narrower (t s : States) (cell : Place) : Type 0 where
  pub allows : (q : Place) (r : Option (List ℕ)) → (q ≡ cell → ⊥) → Allows (t q) r → Allows (s q) r
  pub syncs : (q : Place) → (q ≡ cell → ⊥) → synced (t q) ≡ synced (s q)

-- some calls have succeeded: the cell is in this state
pub record Stage (l : Layout) (first h : History) (s : States) (cell : Place) (IsOne : List ℕ → Type 0) (state : State) : Type 0 where
  pub states : States
  pub assigns : Assigns l h states
  pub there : states cell ≡ state
  pub narrower : Narrower states s cell
  pub moments : Leaves l first h s cell IsOne

-- the same right after a sync
pub record AtRest (l : Layout) (first h : History) (s : States) (cell : Place) (IsOne : List ℕ → Type 0) (state : State) : Type 0 where
  pub stage : Stage l first h s cell IsOne state
  pub settled : (q : Place) → (q ≡ cell → ⊥) → stage.states q ≡ synced (s q)

-- what one call more comes to
pub record Went {T E : Type 0} (l : Layout) (first h : History) (s : States) (cell : Place) (IsOne : List ℕ → Type 0) (Then : Type 0) (result : Result T E) : Type 0 where
  pub ok : OnOk result Then
  pub moments : Leaves l first h s cell IsOne

-- a state allows nothing, or one of these bodies
abbrev pub IsFine : (List ℕ → Type 0) → State → Type 0
IsFine IsOne state = (r : Option (List ℕ)) → Allows state r → (r ≡ None) ⊎ ((body : List ℕ) × IsOne body × (r ≡ Some body))

-- before the first call
pub begins : {l : Layout} {h : History} {s : States} {cell : Place} {state : State} (IsOne : List ℕ → Type 0) → Assigns l h s → s cell ≡ state → Stage l h h s cell IsOne state
begins {l} {h} {s} {cell} {state} IsOne is there = record {
  states = s;
  assigns = is;
  there = there;
  narrower = record { allows = λ q r apart allowed. allowed; syncs = λ q apart. refl };
  moments = record { later = omega arith; since = λ t image late since. inl since };
}

-- the moments of a call, behind those before it
moments_then :
    {T E : Type 0} → (l : Layout) (first h new : History) (s during after : States) (cell : Place) (IsOne : List ℕ → Type 0) (state : State) (result : Result T E)
    → Leaves l first h s cell IsOne → IsPlace l cell → during cell ≡ state → Narrower during s cell → IsFine IsOne state → Reaches l h new during after result → Leaves l first new s cell IsOne
moments_then l first h new s during after cell IsOne state result before is there narrower fine reaches =
    leaves_then first h new before reaches.moments (λ image of. record {
      there = fine (reading_of l image cell) (subst (λ x. Allows x (reading_of l image cell)) there (reaches.images image of cell is));
      elsewhere = λ q place other. narrower.allows q (reading_of l image q) other (reaches.images image of q place);
    })

-- a call on the cell
pub went_on :
    {T E : Type 0} {l other : Layout} {first h new : History} {s : States} {cell : Place} {IsOne : List ℕ → Type 0} {state : State} {step : State → State} {result : Result T E}
    → Stage l first h s cell IsOne state → IsPlace l cell → IsFine IsOne (step state) → other ≡ l → ((t : States) → Assigns other h t → Stepped other h new t cell step result)
    → Went l first new s cell IsOne (Stage l first new s cell IsOne (step state)) result
went_on {T} {E} {l} {other} {first} {h} {new} {s} {cell} {IsOne} {state} {step} {result} stage is fine same_as call =
    let stepped : Stepped l h new stage.states cell step result = subst (λ (k : Layout). Assigns k h stage.states → Stepped k h new stage.states cell step result) same_as (call stage.states) stage.assigns in
    let there : stepped.after cell ≡ step state = stepped.moves.there ∙ ap step stage.there in
    let narrower : Narrower stepped.after s cell = record {
      allows = λ q r apart allowed. stage.narrower.allows q r apart (subst (λ x. Allows x r) (stepped.moves.elsewhere q apart) allowed);
      syncs = λ q apart. ap synced (stepped.moves.elsewhere q apart) ∙ stage.narrower.syncs q apart;
    } in
    let moments = moments_then l first h new s stepped.after stepped.after cell IsOne (step state) result stage.moments is there narrower fine stepped.reaches in
    record {
      ok = on_ok_weaker result (λ assigns. record { states = stepped.after; assigns = assigns; there = there; narrower = narrower; moments = moments }) stepped.reaches.ok;
      moments = moments;
    }

-- a sync
pub went_stable :
    {T E : Type 0} {l other : Layout} {first h new : History} {s : States} {cell : Place} {IsOne : List ℕ → Type 0} {state : State} {result : Result T E}
    → Stage l first h s cell IsOne state → IsPlace l cell → IsFine IsOne state → other ≡ l → ((t : States) → Assigns other h t → Settled other h new t result)
    → Went l first new s cell IsOne (AtRest l first new s cell IsOne (synced state)) result
went_stable {T} {E} {l} {other} {first} {h} {new} {s} {cell} {IsOne} {state} {result} stage is fine same_as call =
    let settled : Settled l h new stage.states result = subst (λ (k : Layout). Assigns k h stage.states → Settled k h new stage.states result) same_as (call stage.states) stage.assigns in
    let rests : (q : Place) → (q ≡ cell → ⊥) → settled.after q ≡ synced (s q) = λ q apart. settled.syncs q ∙ stage.narrower.syncs q apart in
    let narrower : Narrower settled.after s cell = record {
      allows = λ q r apart allowed. stage.narrower.allows q r apart (settled.narrows q r allowed);
      syncs = λ q apart. sym (settled.again q) ∙ rests q apart;
    } in
    let moments = moments_then l first h new s stage.states settled.after cell IsOne state result stage.moments is stage.there stage.narrower fine settled.reaches in
    record {
      ok = on_ok_weaker result (λ assigns. record {
        stage = record { states = settled.after; assigns = assigns; there = settled.syncs cell ∙ ap synced stage.there; narrower = narrower; moments = moments };
        settled = rests;
      }) settled.reaches.ok;
      moments = moments;
    }

-- the end
pub publishes : {T E : Type 0} {l : Layout} {first new : History} {s : States} {cell : Place} {body : List ℕ} {IsOne : List ℕ → Type 0} {result : Result T E} → Went l first new s cell IsOne (AtRest l first new s cell IsOne (Opened body)) result → Publishes l first new s cell body IsOne result
publishes {T} {E} {l} {first} {new} {s} {cell} {body} {IsOne} {result} went = record {
  done = on_ok_weaker result (λ rest. (rest.stage.states, rest.stage.assigns, rest.stage.there, rest.settled)) went.ok;
  moments = went.moments;
}

-- an end before it
pub stops : {T E F G : Type 0} {l : Layout} {first new : History} {s : States} {cell : Place} {body : List ℕ} {IsOne : List ℕ → Type 0} {Then : Type 0} {failed : Result T E} {result : Result F G} → Went l first new s cell IsOne Then failed → IsErr result → Publishes l first new s cell body IsOne result
stops {result = Ok x} went fails = absurd (false≢true fails)
stops {result = Err e} went fails = record { done = tt; moments = went.moments }

-- what is published behind other calls
pub publishes_then :
    {T E : Type 0} → (l : Layout) (first h new : History) (s : States) (cell : Place) (body : List ℕ) (IsOne IsLast : List ℕ → Type 0) (state : State) (result : Result T E)
    → (stage : Stage l first h s cell IsOne state) → ((one : List ℕ) → IsLast one → IsOne one) → Publishes l h new stage.states cell body IsLast result → Publishes l first new s cell body IsOne result
publishes_then l first h new s cell body IsOne IsLast state result stage wider last = record {
  done = on_ok_weaker result (λ end. (end.0, end.1, end.2, λ q other. end.3 q other ∙ stage.narrower.syncs q other)) last.done;
  moments = leaves_then first h new stage.moments last.moments (λ image is. record {
    there = elim is.there [ inl none ↦ inl none | inr some ↦ inr (some.0, wider some.0 some.1, some.2) ];
    elsewhere = λ q place other. stage.narrower.allows q (reading_of l image q) other (is.elsewhere q place other);
  });
}

-- a cell that opens allows nothing or its body
pub nothing_or_this : (body : List ℕ) → IsFine (λ one. one ≡ body) (Opening body)
nothing_or_this body r (inl none) = inl none
nothing_or_this body r (inr some) = inr (body, refl, some)

-- one that closes allows nothing or the body that stood there
pub nothing_or_before : (before body : List ℕ) → IsFine (λ one. (one ≡ before) ⊎ (one ≡ body)) (Closing before)
nothing_or_before before body r (inl none) = inl none
nothing_or_before before body r (inr some) = inr (before, inl refl, some)

-- what a call on the cell, and what a sync, says of all states
abbrev pub Steps : {T E : Type 0} → Layout → History → History → Place → (State → State) → Result T E → Type 0
Steps l h new cell step result = (t : States) → Assigns l h t → Stepped l h new t cell step result

abbrev pub Settles : {T E : Type 0} → Layout → History → History → Result T E → Type 0
Settles l h new result = (t : States) → Assigns l h t → Settled l h new t result
