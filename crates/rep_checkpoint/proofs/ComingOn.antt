-- The write that comes next of a snapshot.
use Rattle.std.proofs.Common.{◌≡◌, ap, ◌∙◌, ℕ, Result, OnOk, OnErr, IfErr}
use Rattle.rep_types.specs.declared.refusal.Refusal.{Refusal}
use Rattle.rep_types.specs.declared.refusal.Refusal.TheVariants.{DiskFault}
use Rattle.rep_types.specs.Order.{State}
use Rattle.rep_disk.specs.declared.disk.Disk.{Ghosts}
use Rattle.rep_disk.specs.declared.disk.DiskFault.{DiskFault as Fault}
use Rattle.rep_layout.specs.declared.super_body.SuperBody.{SuperBody}
use Rattle.rep_layout.specs.declared.place.Layout.{Layout}
use Rattle.rep_layout.specs.declared.place.Place.TheVariants.{Super}
use Rattle.rep_layout.specs.Supers.{super_bytes}
use Rattle.rep_cells.specs.States.{States, filling, opening, Moves}
use Rattle.rep_cells.specs.Calls.{WritesOnly, WritesIn, StepsAt}
use Rattle.rep_log.specs.Moves.{fault_of}
use Rattle.rep_checkpoint.specs.declared.stage.Part.{Part}
use Rattle.rep_checkpoint.specs.declared.stage.Part.TheVariants.{Flushing, Saving, Ready, SuperFilling, SuperFilled, SuperOpening}
use Rattle.rep_checkpoint.specs.declared.stage.Stage.TheVariants.{Toward}
use Rattle.rep_checkpoint.specs.Next.{Next}
use Rattle.rep_checkpoint.specs.Standing.{spare_side}
use Rattle.rep_checkpoint.specs.Moves.{next_part}
use Rattle.rep_checkpoint.specs.States.{IsBase, IsFar, cell_in}
use Rattle.rep_checkpoint.specs.Calls.{next_place, next_step, next_offset, next_bytes}
use Rattle.rep_checkpoint.specs.Coming.{Coming, IsDue, InstallationIs, gone}
use Rattle.rep_checkpoint.specs.Installing.{InstallsNext}
use Rattle.rep_checkpoint.proofs.Frames.{saved_as}
use Rattle.rep_checkpoint.proofs.GoingOn.{super_base, window_base, all_flushed, writes_stage}

-- it comes as far as its window, its pages and its superblock's cell do, beside a base that stays
pub coming_as : {size : ℕ} {base : SuperBody} {next : Next} {x y : State} {s t : States} (part to : Part) → InstallationIs size base (record { next = next; part = part }) x y s
    → IsBase size base x t → IsFar to (spare_side base) next y t → t (Super (spare_side base)) ≡ cell_in to (super_bytes next.super) → InstallationIs size base (record { next = next; part = to }) x y t
coming_as part to h stands far cell = record { stands = stands; coming = h.coming; position = h.position; kept = h.kept; far = far; cell = cell }

-- what comes next was written
goes : (size : ℕ) (base : SuperBody) (next : Next) (part : Part) (x y : State) (s t : States) → IsDue part → InstallationIs size base (record { next = next; part = part }) x y s
    → Moves s t (next_place base (Toward next part)) (next_step (Toward next part)) → InstallationIs size base (record { next = next; part = next_part part }) x y t
goes size base next Flushing x y s t due is moves =
    coming_as Flushing Saving is (window_base is.stands _ moves) (all_flushed next y s t (spare_side base) is.coming.none (λ number slot there. moves.elsewhere _ (λ e. absurd cc)) moves.there is.far) (moves.elsewhere _ (λ e. absurd cc) ∙ is.cell)
goes size base next Saving x y s t due is moves = absurd due
goes size base next Ready x y s t due is moves =
    coming_as Ready SuperFilling is (super_base is.stands _ moves) (saved_as (moves.elsewhere _ (λ e. absurd cc)) (λ number slot there. moves.elsewhere _ (λ e. absurd cc)) is.far) (moves.there ∙ ap (filling (super_bytes next.super)) is.cell)
goes size base next SuperFilling x y s t due is moves = absurd due
goes size base next SuperFilled x y s t due is moves =
    coming_as SuperFilled SuperOpening is (super_base is.stands _ moves) (saved_as (moves.elsewhere _ (λ e. absurd cc)) (λ number slot there. moves.elsewhere _ (λ e. absurd cc)) is.far) (moves.there ∙ ap opening is.cell)
goes size base next SuperOpening x y s t due is moves = absurd due

-- as the call makes it
pub goes_next :
    {D : Type 0} (g : Ghosts D) (l : Layout) (base : SuperBody) (before after : Coming) (old new : D) (answer : Result (Unit {0}) Fault) (result : Result (Unit {0}) Refusal)
    → IsDue before.part → fault_of result ≡ answer → OnOk result (after ≡ gone before) → OnErr result (after ≡ before) → IfErr result (λ e. e ≡ DiskFault)
    → WritesOnly g (next_offset l base (Toward before.next before.part)) (next_bytes (Toward before.next before.part)) old new answer → WritesIn g l (next_place base (Toward before.next before.part)) old new answer
    → StepsAt g l (next_place base (Toward before.next before.part)) (next_step (Toward before.next before.part)) old new answer → InstallsNext g l base before after old new result
goes_next g l base before after old new answer result due fault done failed only written inside steps =
    let w = writes_stage g l base (Toward before.next before.part) old new answer result fault only written inside steps in
    record { done = done; fault = failed; written = w.written; inside = w.inside; steps = λ h size s x y assigns is. w.steps h s assigns _ (λ t moves. goes size base before.next before.part x y s t due is moves) }
