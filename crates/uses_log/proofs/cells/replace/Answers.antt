use Rattle.std.proofs.Common.{◌≡◌, ◌⊎◌, ℕ, List, Result, Ok, inr, refl, subst, ◌∙◌}
use Rattle.rep_disk.specs.History.{History}
use Rattle.rep_layout.specs.declared.place.Layout.{Layout}
use Rattle.rep_layout.specs.declared.place.Place.{Place}
use Rattle.rep_cells.specs.Readings.{IsPlace}
use Rattle.rep_cells.specs.States.{States, Closed, Opened, Closing, closing}
use Rattle.rep_cells.specs.Known.{Assigns}
use Rattle.uses_log.specs.Publishing.{Publishes}
use Rattle.uses_log.proofs.Publishing.{Stage, AtRest, Went, Steps, Settles, nothing_or_before, begins, went_on, went_stable, publishes_then, stops}
use Rattle.uses_log.proofs.cells.replace.Goals as goal

-- the calls before the body is published
shuts :
    {T E : Type 0} {l : Layout} {h new : History} {s : States} {cell : Place} {before body : List ℕ} {result : Result T E}
    → Assigns l h s → s cell ≡ Opened before → IsPlace l cell → Steps l h new cell closing result
    → Went l h new s cell (λ one. (one ≡ before) ⊎ (one ≡ body)) (Stage l h new s cell (λ one. (one ≡ before) ⊎ (one ≡ body)) (Closing before)) result
shuts {before = before} {body = body} is opened place close = went_on (begins _ is opened) place (nothing_or_before before body) refl close

rests :
    {T E F G : Type 0} {l l1 : Layout} {h h1 new : History} {s : States} {cell : Place} {before body : List ℕ} {x : T} {result : Result F G}
    → Assigns l h s → s cell ≡ Opened before → IsPlace l cell → l1 ≡ l → Steps {T = T} {E = E} l h h1 cell closing (Ok x) → Settles l1 h1 new result
    → Went l h new s cell (λ one. (one ≡ before) ⊎ (one ≡ body)) (AtRest l h new s cell (λ one. (one ≡ before) ⊎ (one ≡ body)) Closed) result
rests {before = before} {body = body} is opened place same close sync = went_stable (shuts is opened place close).ok place (nothing_or_before before body) same sync

pub returns-in_err-close_gate-clause-published : goal.returns-in_err-close_gate-clause-published
returns-in_err-close_gate-clause-published g c = λ honest s before is opened.
    stops (shuts is opened c.requires.cell.0 (c.close_gate.ensures.states honest)) c.from_residual.ensures.0

pub returns-in_err-sync-clause-published : goal.returns-in_err-sync-clause-published
returns-in_err-sync-clause-published g c = λ honest s before is opened.
    let honest_1 = c.close_gate.ensures.call.stays_honest honest in
    stops (rests is opened c.requires.cell.0 c.close_gate.ensures.layout (c.in_ok-close_gate.ensures.states honest) (c.sync.ensures.states honest_1)) c.from_residual-in_err-sync.ensures.0

pub returns-clause-published : goal.returns-clause-published
returns-clause-published g c = λ honest s before is opened.
    let l = c.args.cells.now.layout in
    let h2 : History = g.D.Disk.history c.sync.new.self.disk in
    let h3 : History = g.D.Disk.history c.publish.new.cells.disk in
    let body : List ℕ = c.args.body.now in
    let cell = c.args.cell in
    let honest_1 = c.close_gate.ensures.call.stays_honest honest in
    let honest_2 = c.sync.ensures.call.stays_honest honest_1 in
    let same : c.sync.new.self.layout ≡ l = c.sync.ensures.layout ∙ c.close_gate.ensures.layout in
    let closed = (rests {body = body} is opened c.requires.cell.0 c.close_gate.ensures.layout (c.in_ok-close_gate.ensures.states honest) (c.in_ok-sync.ensures.states honest_1)).ok.stage in
    let last : Publishes l h2 h3 closed.states cell body (λ one. one ≡ body) c.publish.result =
    subst (λ (k : Layout). Assigns k h2 closed.states → Publishes k h2 h3 closed.states cell body (λ one. one ≡ body) c.publish.result) same (λ assigns. c.publish.ensures.published honest_2 closed.states assigns closed.there) closed.assigns in
    publishes_then l _ h2 h3 s cell body (λ one. (one ≡ before) ⊎ (one ≡ body)) (λ one. one ≡ body) Closed c.publish.result closed (λ one same_one. inr same_one) last
