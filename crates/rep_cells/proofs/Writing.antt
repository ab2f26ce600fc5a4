-- What a write in a place comes to.
use Rattle.std.proofs.Common.{◌≡◌, ℕ, ◌+◌, ◌<◌, ◌≤◌, ◌⊎◌, inl, inr, Bool, true, false, eqb, List, length, Result, Ok, Err, refl, sym, ap, subst, ◌∙◌, arith}
use Rattle.std.specs.Prelude.{replicate, OnOk, OnErr}
use Rattle.std.proofs.lemmas.List.{length-replicate}
use Rattle.rep_disk.specs.History.{History, Wrote, Spoiled, stable, IsImage}
use Rattle.rep_disk.specs.Moments.{IsNext, Stays, Writes as Written, Spoils}
use Rattle.rep_disk.proofs.Images.{write_widens}
use Rattle.rep_disk.proofs.Moments.{call_adds}
use Rattle.rep_layout.specs.declared.place.Layout.{Layout}
use Rattle.rep_layout.specs.declared.place.Place.{Place}
use Rattle.rep_layout.specs.Places.{body_len, gate_len, offset_of, gate_of, end_of, need_of}
use Rattle.rep_layout.proofs.PlacesApart.{lie_apart, lies_inside}
use Rattle.rep_cells.specs.Readings.{IsPlace, IsCell, IsArea, reading_of}
use Rattle.rep_cells.specs.States.{State, States, Unknown, Shutting, Closed, Filling, Filled, Opening, Opened, Closing, Pending, Stable, IsSure, Allowed, Moves, filling, opening, closing, writing}
use Rattle.rep_cells.specs.Known.{GateIs, BodyIs, BodyStays, Known, Assigns}
use Rattle.rep_cells.specs.Calls.{gate, IsWithin, WroteIn, Writes, Loses, Stepped}
use Rattle.rep_cells.proofs.Ranges.{Apart, gate_stays_apart, gate_is_apart, body_stays_apart, body_written, gate_written}
use Rattle.rep_cells.proofs.Kept.{Kept, known_kept, kept_allows, known_elsewhere, Stands, stands, assigned, stands_elsewhere, stands_spoiled}
use Rattle.rep_cells.proofs.Fitting.{end_fits, gate_fits, place_same, gate_is_sector, states_move}

-- a write of a body: what is known where it succeeds, and what is kept whatever bytes stand in the range
pub fill_known : (l : Layout) (h : History) (place : Place) (body : List ℕ) (state : State) → gate_of l place ≤ length (stable h) → length body ≡ body_len place → Known l h place state → Known l (Wrote (offset_of l place) body h) place (filling body state)
fill_known l h place body state fits size is =
    let apart : Apart (offset_of l place) (length body) (gate_of l place) (gate_len place) = inl (omega (arith, size)) in
    let new : BodyIs l (Wrote (offset_of l place) body h) place body = body_written l h place body fits size in
    by_cases apart new state is
  where
    by_cases : Apart (offset_of l place) (length body) (gate_of l place) (gate_len place) → BodyIs l (Wrote (offset_of l place) body h) place body → (st : State) → Known l h place st → Known l (Wrote (offset_of l place) body h) place (filling body st)
    by_cases apart new Unknown k = tt
    by_cases apart new Shutting k = gate_is_apart l h place false (offset_of l place) body apart k
    by_cases apart new Closed k = (gate_stays_apart l h place false (offset_of l place) body apart k, new)
    by_cases apart new (Filling b) k = (gate_stays_apart l h place false (offset_of l place) body apart k.0, new)
    by_cases apart new (Filled b) k = (gate_stays_apart l h place false (offset_of l place) body apart k.0, new)
    by_cases apart new (Opening b) k = tt
    by_cases apart new (Opened b) k = tt
    by_cases apart new (Closing b) k = gate_is_apart l h place false (offset_of l place) body apart k.0
    by_cases apart new (Pending b) k = tt
    by_cases apart new (Stable b) k = tt

pub fill_kept : (l : Layout) (h : History) (place : Place) (body junk : List ℕ) (state : State) → length junk ≡ body_len place → Kept l h place state → Kept l (Wrote (offset_of l place) junk h) place (filling body state)
fill_kept l h place body junk state size is =
    let apart : Apart (offset_of l place) (length junk) (gate_of l place) (gate_len place) = inl (omega (arith, size)) in
    by_cases apart state is
  where
    by_cases : Apart (offset_of l place) (length junk) (gate_of l place) (gate_len place) → (st : State) → Kept l h place st → Kept l (Wrote (offset_of l place) junk h) place (filling body st)
    by_cases apart Unknown k = tt
    by_cases apart Shutting k = tt
    by_cases apart Closed k = gate_stays_apart l h place false (offset_of l place) junk apart k
    by_cases apart (Filling b) k = gate_stays_apart l h place false (offset_of l place) junk apart k
    by_cases apart (Filled b) k = gate_stays_apart l h place false (offset_of l place) junk apart k
    by_cases apart (Opening b) k = tt
    by_cases apart (Opened b) k = tt
    by_cases apart (Closing b) k = tt
    by_cases apart (Pending b) k = tt
    by_cases apart (Stable b) k = tt

-- a write of a gate leaves the body behind it
body_behind : (l : Layout) (h : History) (place : Place) (body bytes : List ℕ) → BodyStays l h place body → BodyStays l (Wrote (gate_of l place) bytes h) place body
body_behind l h place body bytes is = body_stays_apart l h place body (gate_of l place) bytes (inr (omega arith)) is

-- what a write of a gate makes of a cell: one state over a body that is stable, and another over the rest
abbrev gated : (List ℕ → State) → State → State → State
gated over other (Filled body) = over body
gated over other (Opening body) = over body
gated over other (Opened body) = over body
gated over other (Closing body) = over body
gated over other _ = other

-- what holds behind such a write: it rests on the body alone
gated_holds :
    (l : Layout) (h : History) (place : Place) (bytes : List ℕ) (P : State → Type 0) (over : List ℕ → State) (other : State) → ((body : List ℕ) → BodyStays l (Wrote (gate_of l place) bytes h) place body → P (over body)) → P other
    → (state : State) → Known l h place state → P (gated over other state)
gated_holds l h place bytes P over other stable rest (Filled body) k = stable body (body_behind l h place body bytes k.1)
gated_holds l h place bytes P over other stable rest (Opening body) k = stable body (body_behind l h place body bytes k.1)
gated_holds l h place bytes P over other stable rest (Opened body) k = stable body (body_behind l h place body bytes k.1)
gated_holds l h place bytes P over other stable rest (Closing body) k = stable body (body_behind l h place body bytes k.1)
gated_holds l h place bytes P over other stable rest _ k = rest

-- an image after a write is one after some bytes were written there
as_written : {T E : Type 0} → (at : ℕ) (bytes : List ℕ) (h new : History) (result : Result T E) (image : List ℕ) → Writes at bytes h new result → IsImage new image → (junk : List ℕ) × (length junk ≡ length bytes) × IsImage (Wrote at junk h) image
as_written at bytes h new (Ok x) image w of = (bytes, refl, subst (λ (g : History). IsImage g image) w.done of)
as_written at bytes h new (Err e) image w of = elim w.failed [
  | inl same ↦ (bytes, refl, write_widens h at bytes image (subst (λ (g : History). IsImage g image) same of))
  | inr spoilt ↦
      let junk : List ℕ = spoilt.0 in
      let is : IsImage (Spoiled at junk h) image = subst (λ (g : History). IsImage g image) spoilt.2 of in
      (junk, spoilt.1, record { sized = is.sized; outside = is.outside })
]

-- a write is one call
one_call : {T E : Type 0} → (at : ℕ) (bytes : List ℕ) (h new : History) (result : Result T E) → Writes at bytes h new result → IsNext h new
one_call at bytes h new (Ok x) w = subst (λ (g : History). IsNext h g) (sym w.done) (Written at bytes)
one_call at bytes h new (Err e) w = elim w.failed [
  | inl same ↦ subst (λ (g : History). IsNext h g) (sym same) Stays
  | inr spoilt ↦ subst (λ (g : History). IsNext h g) (sym spoilt.2) (Spoils at spoilt.0)
]

-- a write in a place lies apart from another one
elsewhere_apart : (l : Layout) (p q : Place) (at n : ℕ) → IsPlace l p → IsPlace l q → (q ≡ p → ⊥) → offset_of l p ≤ at → at + n ≤ end_of l p → (at + n ≤ offset_of l q) ⊎ (end_of l q ≤ at)
elsewhere_apart l p q at n there other differ from to = elim (lie_apart l p q there other (λ e. differ (sym e))) [
  | inl before ↦ inl (omega arith)
  | inr behind ↦ inr (omega arith)
]

-- what holds of each state after a step of one place
moved : (P : Place → State → Type 0) (s t : States) (place : Place) (step : State → State) → Moves s t place step → P place (step (s place)) → ((q : Place) → (q ≡ place → ⊥) → P q (s q)) → (q : Place) → P q (t q)
moved P s t place step moves here elsewhere q = elim (place_same q place) [
  | inl same ↦ subst (λ p. P p (t p)) (sym same) (subst (λ state. P place state) (sym moves.there) here)
  | inr differ ↦ subst (λ state. P q state) (sym (moves.elsewhere q differ)) (elsewhere q differ)
]

-- what a write in a place comes to, from what it does there
write_steps :
    {T E : Type 0} → (l : Layout) (h new : History) (s : States) (place : Place) (at : ℕ) (bytes : List ℕ) (step : State → State) (result : Result T E)
    → Assigns l h s → IsPlace l place → offset_of l place ≤ at → at + length bytes ≤ end_of l place → Writes at bytes h new result
    → Known l (Wrote at bytes h) place (step (s place))
    → ((junk : List ℕ) → length junk ≡ length bytes → Kept l (Wrote at junk h) place (step (s place)))
    → (IsSure (step (s place)) → IsSure (s place))
    → Stepped l h new s place step result
write_steps {T} {E} l h new s place at bytes step result is there from to w known kept sure = record {
  after = after;
  moves = moves;
  reaches = record { ok = succeeds result w; images = allowed; moments = call_adds h new (one_call at bytes h new result w) };
  lost = fails result w;
}
  where
    after : States
    after = (states_move s place step).0

    moves : Moves s after place step
    moves = (states_move s place step).1

    apart : (q : Place) (n : ℕ) → n ≡ length bytes → IsPlace l q → (q ≡ place → ⊥) → (at + n ≤ offset_of l q) ⊎ (end_of l q ≤ at)
    apart q n size other differ = elsewhere_apart l place q at n there other differ from (omega (arith, size, to))

    succeeds : (r : Result T E) → Writes at bytes h new r → OnOk r (Assigns l new after)
    succeeds (Ok x) v =
        let each : (q : Place) → IsPlace l q → Stands l (Wrote at bytes h) q (after q) =
        moved (λ q state. IsPlace l q → Stands l (Wrote at bytes h) q state) s after place step moves
        (λ other. (known, λ now. is.readable place other (sure now)))
        (λ q differ other. stands_elsewhere l h q (s q) at bytes (gate_fits l h s q is other) (apart q (length bytes) refl other differ) (stands l h s q is other)) in
        subst (λ (g : History). Assigns l g after) (sym v.done) (assigned l (Wrote at bytes h) after is.fits each)
    succeeds (Err e) v = tt

    none : States
    none = (states_move s place (λ state. Unknown)).0

    lost_in : (g : History) → need_of l ≤ length (stable g) → ((q : Place) → (q ≡ place → ⊥) → IsPlace l q → Stands l g q (s q)) → Loses l g s place
    lost_in g fits elsewhere = record {
      states = none;
      moves = (states_move s place (λ state. Unknown)).1;
      assigns = assigned l g none fits (moved (λ q state. IsPlace l q → Stands l g q state) s none place (λ state. Unknown) (states_move s place (λ state. Unknown)).1 (λ other. (tt, λ now. absurd now)) elsewhere);
    }

    fails : (r : Result T E) → Writes at bytes h new r → OnErr r (Loses l new s place)
    fails (Ok x) v = tt
    fails (Err e) v = elim v.failed [
      | inl same ↦ subst (λ (g : History). Loses l g s place) (sym same) (lost_in h is.fits (λ q differ other. stands l h s q is other))
      | inr spoilt ↦ subst (λ (g : History). Loses l g s place) (sym spoilt.2) (lost_in (Spoiled at spoilt.0 h) is.fits (λ q differ other. stands_spoiled l h q (s q) at spoilt.0 (gate_fits l h s q is other) (apart q (length spoilt.0) spoilt.1 other differ) (stands l h s q is other)))
    ]

    kept_after : (junk : List ℕ) → length junk ≡ length bytes → (q : Place) → IsPlace l q → Kept l (Wrote at junk h) q (after q)
    kept_after junk size =
        moved (λ q state. IsPlace l q → Kept l (Wrote at junk h) q state) s after place step moves
        (λ other. kept junk size)
        (λ q differ other. known_kept l (Wrote at junk h) q (s q) (known_elsewhere l h q (s q) at junk (gate_fits l h s q is other) (apart q (length junk) size other differ) (is.places q other)))

    allowed : (image : List ℕ) → IsImage new image → Allowed l after (reading_of l image)
    allowed image of q other =
        let one = as_written at bytes h new result image w of in
        kept_allows l (Wrote at one.0 h) q (after q) image (gate_fits l h s q is other) (kept_after one.0 one.1 q other) one.2

-- a step that makes no state sure leaves only those sure that were
sure_before : (step : State → State) → (IsSure (step Unknown) → ⊥) → (IsSure (step Shutting) → ⊥) → ((body : List ℕ) → IsSure (step (Pending body)) → ⊥) → (state : State) → IsSure (step state) → IsSure state
sure_before step unknown shutting pending Unknown sure = unknown sure
sure_before step unknown shutting pending Shutting sure = shutting sure
sure_before step unknown shutting pending Closed sure = tt
sure_before step unknown shutting pending (Filling body) sure = tt
sure_before step unknown shutting pending (Filled body) sure = tt
sure_before step unknown shutting pending (Opening body) sure = tt
sure_before step unknown shutting pending (Opened body) sure = tt
sure_before step unknown shutting pending (Closing body) sure = tt
sure_before step unknown shutting pending (Pending body) sure = pending body sure
sure_before step unknown shutting pending (Stable body) sure = tt

-- the four writes
pub fill_steps : {T E : Type 0} → (l : Layout) (h new : History) (s : States) (place : Place) (body : List ℕ) (result : Result T E) → Assigns l h s → IsPlace l place → length body ≡ body_len place → Writes (offset_of l place) body h new result → Stepped l h new s place (filling body) result
fill_steps l h new s place body result is there size w =
    write_steps l h new s place (offset_of l place) body (filling body) result is there (omega arith) (omega (arith, size)) w
    (fill_known l h place body (s place) (gate_fits l h s place is there) size (is.places place there))
    (λ junk same. fill_kept l h place body junk (s place) (same ∙ size) (known_kept l h place (s place) (is.places place there)))
    (sure_before (filling body) (λ e. e) (λ e. e) (λ b e. e) (s place))

pub write_area_steps : {T E : Type 0} → (l : Layout) (h new : History) (s : States) (place : Place) (body : List ℕ) (result : Result T E) → Assigns l h s → IsArea l place → length body ≡ body_len place → Writes (offset_of l place) body h new result → Stepped l h new s place (writing body) result
write_area_steps l h new s place body result is area size w =
    write_steps l h new s place (offset_of l place) body (writing body) result is area.0 (omega arith) (omega (arith, size)) w
    (area.1, body_written l h place body (gate_fits l h s place is area.0) size)
    (λ junk same. tt)
    (λ e. absurd e)

-- a gate's sector
gate_size : (first : ℕ) (place : Place) → 0 < gate_len place → length (gate first) ≡ gate_len place
gate_size first place some = ap (λ (n : ℕ). 1 + n) (length-replicate {A = ℕ} 511 0) ∙ sym (gate_is_sector place some)

-- a write of a gate whose first byte reads as open or as closed
gate_steps :
    {T E : Type 0} → (l : Layout) (h new : History) (s : States) (place : Place) (first : ℕ) (shows : Bool) (over : List ℕ → State) (other : State) (step : State → State) (result : Result T E) → eqb first 0xA5 ≡ shows
    → ((state : State) → gated over other state ≡ step state) → ((g : History) → GateIs l g place shows → Known l g place other × ((body : List ℕ) → BodyStays l g place body → Known l g place (over body)))
    → ((g : History) → Kept l g place other × ((body : List ℕ) → BodyStays l g place body → Kept l g place (over body))) → ((state : State) → IsSure (step state) → IsSure state)
    → Assigns l h s → IsCell l place → Writes (gate_of l place) (gate first) h new result → Stepped l h new s place step result
gate_steps l h new s place first shows over other step result reads step_is known kept sure is cell w =
    let size = gate_size first place cell.1 in
    let now = is.places place cell.0 in
    let P : List ℕ → State → Type 0 = λ bytes. Known l (Wrote (gate_of l place) bytes h) place in
    let K : List ℕ → State → Type 0 = λ bytes. Kept l (Wrote (gate_of l place) bytes h) place in
    let says = known (Wrote (gate_of l place) (gate first) h) (gate_written l h place first (replicate 511 0) shows (end_fits l h s place is cell.0) cell.1 size reads) in
    write_steps l h new s place (gate_of l place) (gate first) step result is cell.0 (omega arith) (omega (arith, size)) w
    (subst (P (gate first)) (step_is (s place)) (gated_holds l h place (gate first) (P (gate first)) over other says.1 says.0 (s place) now))
    (λ junk same. subst (K junk) (step_is (s place)) (gated_holds l h place junk (K junk) over other (kept (Wrote (gate_of l place) junk h)).1 (kept (Wrote (gate_of l place) junk h)).0 (s place) now))
    (sure (s place))

opening_is : (state : State) → gated Opening Unknown state ≡ opening state
opening_is Unknown = refl
opening_is _ = refl

closing_is : (state : State) → gated Closing Shutting state ≡ closing state
closing_is Unknown = refl
closing_is _ = refl

pub open_steps : {T E : Type 0} → (l : Layout) (h new : History) (s : States) (place : Place) (result : Result T E) → Assigns l h s → IsCell l place → Writes (gate_of l place) (gate 0xA5) h new result → Stepped l h new s place opening result
open_steps l h new s place result =
    gate_steps l h new s place 0xA5 true Opening Unknown opening result refl opening_is (λ g is. (tt, λ body stays. (is, stays))) (λ g. (tt, λ body stays. stays)) (sure_before opening (λ e. e) (λ e. e) (λ b e. e))

pub close_steps : {T E : Type 0} → (l : Layout) (h new : History) (s : States) (place : Place) (result : Result T E) → Assigns l h s → IsCell l place → Writes (gate_of l place) (gate 0) h new result → Stepped l h new s place closing result
close_steps l h new s place result =
    gate_steps l h new s place 0 false Closing Shutting closing result refl closing_is (λ g is. (is, λ body stays. (is, stays))) (λ g. (tt, λ body stays. stays)) (sure_before closing (λ e. e) (λ e. e) (λ b e. e))

-- a gate's sector lies on the device
pub gate_ends : (l : Layout) (place : Place) (at : ℕ) (sector : List ℕ) (first size : ℕ) → IsCell l place → need_of l ≤ size → at ≡ gate_of l place → sector ≡ gate first → at + length sector ≤ size
gate_ends l place at sector first size cell fits where_it_is what_it_is = omega (arith, fits, where_it_is, ap length what_it_is, gate_size first place cell.1, lies_inside l place cell.0)

-- a write of a gate, as the device was asked for it
pub gate_writes : {T E : Type 0} → (l : Layout) (place : Place) (at : ℕ) (sector : List ℕ) (first : ℕ) (h new : History) (result : Result T E) → at ≡ gate_of l place → sector ≡ gate first → Writes at sector h new result → Writes (gate_of l place) (gate first) h new result
gate_writes l place at sector first h new result where_it_is what_it_is w = subst (λ n. Writes n (gate first) h new result) where_it_is (subst (λ bytes. Writes at bytes h new result) what_it_is w)

-- ---- one write, within a place

wrote_in : {T E : Type 0} (l : Layout) (place : Place) (at : ℕ) (bytes : List ℕ) (h new : History) (result : Result T E) → IsWithin l place at (length bytes) → OnOk result (new ≡ Wrote at bytes h) → OnOk result (WroteIn l place h new)
wrote_in l place at bytes h new (Ok x) within is = record { at = at; bytes = bytes; within = within; is = is }
wrote_in l place at bytes h new (Err e) within is = tt

-- of its body
pub body_in : {T E : Type 0} (l : Layout) (place : Place) (at : ℕ) (bytes : List ℕ) (h new : History) (result : Result T E) → IsPlace l place → at ≡ offset_of l place → length bytes ≡ body_len place → OnOk result (new ≡ Wrote at bytes h) → OnOk result (WroteIn l place h new)
body_in l place at bytes h new result there where_it_is size is = wrote_in l place at bytes h new result (record { there = there; begins = omega (arith, where_it_is); ends = omega (arith, where_it_is, size) }) is

-- of its gate
pub gate_in : {T E : Type 0} (l : Layout) (place : Place) (at : ℕ) (sector : List ℕ) (first : ℕ) (h new : History) (result : Result T E) → IsCell l place → at ≡ gate_of l place → sector ≡ gate first → OnOk result (new ≡ Wrote at sector h) → OnOk result (WroteIn l place h new)
gate_in l place at sector first h new result cell where_it_is what_it_is is =
    wrote_in l place at sector h new result (record { there = cell.0; begins = omega (arith, where_it_is); ends = omega (arith, where_it_is, ap length what_it_is, gate_size first place cell.1) }) is
