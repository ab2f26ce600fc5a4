-- The states on the way of formatting.
use Rattle.std.proofs.Common.{◌≡◌, ℕ, ◌+◌, inl, inr, List, refl, ap, ◌∙◌, arith}
use Rattle.std.proofs.lemmas.Bool.{cases_lt}
use Rattle.rep_layout.specs.declared.place.Side.{Side}
use Rattle.rep_layout.specs.declared.place.Side.TheVariants.{A, B}
use Rattle.rep_layout.specs.declared.place.Place.TheVariants.{Super, Window, Log}
use Rattle.rep_cells.specs.States.{State, States, Closed, Filling, Pending, closing, filling, opening, writing, synced, Moves, Syncs}
use Rattle.rep_cells.specs.Laws.{SyncsNarrow}
use Rattle.rep_recover.specs.Formatting.{WillClose, AreClosed, HasFirst}

-- ---- all gates are closed

abbrev pub FirstWillClose : States → Type 0
FirstWillClose s = synced (s (Super A)) ≡ Closed

pub first_closed : SyncsNarrow → (s t : States) → Unit {0} → Moves s t (Super A) closing → FirstWillClose t
first_closed syncs s t h moves = ap synced moves.there ∙ syncs.closes (s (Super A))

pub second_closed : SyncsNarrow → (s t : States) → FirstWillClose s → Moves s t (Super B) closing → WillClose 0 t
second_closed syncs s t h moves = record { supers = each; log = λ i lt. absurd (omega (arith, lt)) }
  where
    each : (side : Side) → synced (t (Super side)) ≡ Closed
    each A = ap synced (moves.elsewhere (Super A) (λ e. cc)) ∙ h
    each B = ap synced moves.there ∙ syncs.closes (s (Super B))

pub cell_closed : SyncsNarrow → (n : ℕ) (s t : States) → WillClose n s → Moves s t (Log n) closing → WillClose (n + 1) t
cell_closed syncs n s t h moves = record {
  supers = λ side. ap synced (moves.elsewhere (Super side) (λ e. cc)) ∙ h.supers side;
  log = λ i lt. elim (cases_lt i n) [
    | inl less ↦ ap synced (moves.elsewhere (Log i) (λ e. (let same : i ≡ n = cc in omega (arith, same, less)))) ∙ h.log i less
    | inr le ↦ (let same : i ≡ n = omega (arith, lt, le) in ap (λ (k : ℕ). synced (t (Log k))) same ∙ ap synced moves.there ∙ syncs.closes (s (Log n)))
  ];
}

pub all_closed : (n : ℕ) (s t : States) → WillClose n s → Syncs s t → AreClosed n t
all_closed n s t h syncs = record { supers = λ side. syncs (Super side) ∙ h.supers side; log = λ i lt. syncs (Log i) ∙ h.log i lt }

-- ---- the base is written, and its gate opened

abbrev pub HasSuper : ℕ → State → States → Type 0
HasSuper n super s = HasFirst n super (s (Window A)) s

pub super_filled : (n : ℕ) (body : List ℕ) (s t : States) → AreClosed n s → Moves s t (Super A) (filling body) → HasSuper n (Filling body) t
super_filled n body s t h moves = record {
  first = moves.there ∙ ap (filling body) (h.supers A);
  second = moves.elsewhere (Super B) (λ e. cc) ∙ h.supers B;
  beside = refl;
  log = λ i lt. moves.elsewhere (Log i) (λ e. cc) ∙ h.log i lt;
}

pub window_written : (n : ℕ) (super : State) (body : List ℕ) (s t : States) → HasSuper n super s → Moves s t (Window A) (writing body) → HasFirst n super (Pending body) t
window_written n super body s t h moves = record {
  first = moves.elsewhere (Super A) (λ e. cc) ∙ h.first;
  second = moves.elsewhere (Super B) (λ e. cc) ∙ h.second;
  beside = moves.there;
  log = λ i lt. moves.elsewhere (Log i) (λ e. cc) ∙ h.log i lt;
}

pub first_synced : (n : ℕ) (super window : State) (s t : States) → HasFirst n super window s → Syncs s t → HasFirst n (synced super) (synced window) t
first_synced n super window s t h syncs = record {
  first = syncs (Super A) ∙ ap synced h.first;
  second = syncs (Super B) ∙ ap synced h.second;
  beside = syncs (Window A) ∙ ap synced h.beside;
  log = λ i lt. syncs (Log i) ∙ ap synced (h.log i lt);
}

pub gate_opened : (n : ℕ) (super window : State) (s t : States) → HasFirst n super window s → Moves s t (Super A) opening → HasFirst n (opening super) window t
gate_opened n super window s t h moves = record {
  first = moves.there ∙ ap opening h.first;
  second = moves.elsewhere (Super B) (λ e. cc) ∙ h.second;
  beside = moves.elsewhere (Window A) (λ e. cc) ∙ h.beside;
  log = λ i lt. moves.elsewhere (Log i) (λ e. cc) ∙ h.log i lt;
}
