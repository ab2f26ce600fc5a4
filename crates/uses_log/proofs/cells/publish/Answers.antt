use Rattle.std.proofs.Common.{◌≡◌, ℕ, List, Result, Ok, inl, refl, ◌∙◌}
use Rattle.rep_disk.specs.History.{History}
use Rattle.rep_layout.specs.declared.place.Layout.{Layout}
use Rattle.rep_layout.specs.declared.place.Place.{Place}
use Rattle.rep_cells.specs.Readings.{IsPlace}
use Rattle.rep_cells.specs.States.{States, Closed, Filling, Filled, Opening, filling, opening}
use Rattle.rep_cells.specs.Known.{Assigns}
use Rattle.uses_log.proofs.Publishing.{Stage, AtRest, Went, Steps, Settles, nothing_or_this, begins, went_on, went_stable, publishes, stops}
use Rattle.uses_log.proofs.cells.publish.Goals as goal

-- the four calls, each behind those before it
fills :
    {T E : Type 0} {l : Layout} {h new : History} {s : States} {cell : Place} {body : List ℕ} {result : Result T E}
    → Assigns l h s → s cell ≡ Closed → IsPlace l cell → Steps l h new cell (filling body) result
    → Went l h new s cell (λ one. one ≡ body) (Stage l h new s cell (λ one. one ≡ body) (Filling body)) result
fills is closed place fill = went_on (begins _ is closed) place (λ r none. inl none) refl fill

rests :
    {T E F G : Type 0} {l l1 : Layout} {h h1 new : History} {s : States} {cell : Place} {body : List ℕ} {x : T} {result : Result F G}
    → Assigns l h s → s cell ≡ Closed → IsPlace l cell → l1 ≡ l → Steps {T = T} {E = E} l h h1 cell (filling body) (Ok x) → Settles l1 h1 new result
    → Went l h new s cell (λ one. one ≡ body) (AtRest l h new s cell (λ one. one ≡ body) (Filled body)) result
rests is closed place same fill sync = went_stable (fills is closed place fill).ok place (λ r none. inl none) same sync

opens :
    {T E : Type 0} {l l1 l2 : Layout} {h h1 h2 new : History} {s : States} {cell : Place} {body : List ℕ} {x y : T} {result : Result T E}
    → Assigns l h s → s cell ≡ Closed → IsPlace l cell → l1 ≡ l → l2 ≡ l → Steps {T = T} {E = E} l h h1 cell (filling body) (Ok x) → Settles {T = T} {E = E} l1 h1 h2 (Ok y) → Steps l2 h2 new cell opening result
    → Went l h new s cell (λ one. one ≡ body) (Stage l h new s cell (λ one. one ≡ body) (Opening body)) result
opens is closed place same same_2 fill sync gate = went_on (rests is closed place same fill sync).ok.stage place (nothing_or_this _) same_2 gate

pub returns-in_err-fill-clause-published : goal.returns-in_err-fill-clause-published
returns-in_err-fill-clause-published g c = λ honest s is closed.
    stops (fills is closed c.requires.cell.0 (c.fill.ensures.states honest)) c.from_residual.ensures.0

pub returns-in_err-sync-clause-published : goal.returns-in_err-sync-clause-published
returns-in_err-sync-clause-published g c = λ honest s is closed.
    let honest_1 = c.fill.ensures.call.stays_honest honest in
    stops (rests is closed c.requires.cell.0 c.fill.ensures.layout (c.in_ok-fill.ensures.states honest) (c.sync.ensures.states honest_1)) c.from_residual-in_err-sync.ensures.0

pub returns-in_err-open_gate-clause-published : goal.returns-in_err-open_gate-clause-published
returns-in_err-open_gate-clause-published g c = λ honest s is closed.
    let honest_1 = c.fill.ensures.call.stays_honest honest in
    let honest_2 = c.sync.ensures.call.stays_honest honest_1 in
    stops
    (opens is closed c.requires.cell.0 c.fill.ensures.layout (c.sync.ensures.layout ∙ c.fill.ensures.layout) (c.in_ok-fill.ensures.states honest) (c.in_ok-sync.ensures.states honest_1) (c.open_gate.ensures.states honest_2))
    c.from_residual-in_err-open_gate.ensures.0

pub returns-clause-published : goal.returns-clause-published
returns-clause-published g c = λ honest s is closed.
    let honest_1 = c.fill.ensures.call.stays_honest honest in
    let honest_2 = c.sync.ensures.call.stays_honest honest_1 in
    let honest_3 = c.open_gate.ensures.call.stays_honest honest_2 in
    let same_2 = c.sync.ensures.layout ∙ c.fill.ensures.layout in
    let opened = opens is closed c.requires.cell.0 c.fill.ensures.layout same_2 (c.in_ok-fill.ensures.states honest) (c.in_ok-sync.ensures.states honest_1) (c.in_ok-open_gate.ensures.states honest_2) in
    publishes (went_stable opened.ok c.requires.cell.0 (nothing_or_this c.args.body.now) (c.open_gate.ensures.layout ∙ same_2) (c.sync-2.ensures.states honest_3))
