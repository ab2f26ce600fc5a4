use Rattle.std.proofs.Common.{rules, ◌≡◌, ◌+◌, ℕ, List, ◌++◌, Result, IfErr, ap, sym, subst, ◌∙◌, inl, inr}
use Rattle.std.proofs.lemmas.Result.{err_from_is_err_and}
use Rattle.rep_types.specs.declared.refusal.Refusal.{Refusal}
use Rattle.rep_types.specs.declared.refusal.Refusal.TheVariants.{Corrupt, DiskFault, BadParams, OutOfMemory}
use Rattle.rep_types.specs.declared.refusal.Part.TheVariants.{Log as in_log}
use Rattle.rep_types.proofs.Choices.{of_no_failure}
use Rattle.rep_layout.specs.declared.place.Layout.{Layout}
use Rattle.rep_disk.specs.History.{History, Synced, seen, failed}
use Rattle.rep_types.specs.declared.judged.Judged.{Judged}
use Rattle.rep_cells.specs.Device.{disk_of, layout_of}
use Rattle.rep_cells.specs.Readings.{reading_of}
use Rattle.rep_log.specs.Tail.{IsOfForm, IsLog}
use Rattle.rep_log.specs.Scanning.{Finds}
use Rattle.uses_log.proofs.Keeping.{kept_of}
use Rattle.uses_log.proofs.log.find.Goals as goal

pub returns-clause-found : goal.returns-clause-found
returns-clause-found g c = λ honest.
    let l : Layout = layout_of c.args.cells.now in
    let h : History = g.D.Disk.history (disk_of c.args.cells.now) in
    let first : ℕ = c.args.position + 1 in
    let failure = sym c.if-is_err.ensures.value in
    let synced : g.D.Disk.history (disk_of c.sync.new.self) ≡ Synced h = of_no_failure c.sync.result failure (c.sync.ensures.synced honest) in
    let scans = c.in_ok-log.ensures.scans in
    let kept = kept_of scans (λ v. v.items) (λ s j t takes. takes) ∙ ap (λ (xs : List Judged). xs ++ scans.items) c.new-items.ensures.items in
    let finds = scans.finds (c.sync.ensures.call.stays_honest honest, ap failed synced) in
    let here = subst (λ (m : Layout). Finds m (seen h) c.args.start first c.in_ok-log.log scans.items) c.sync.ensures.layout
    (subst (λ (x : History). Finds (layout_of c.sync.new.self) (seen x) c.args.start first c.in_ok-log.log scans.items) synced finds) in (
      subst (λ (xs : List Judged). Finds l (seen h) c.args.start first c.in_ok-log.log xs) (sym kept) here,
      search rules,
    )

pub returns-in_err-log-clause-corrupt : goal.returns-in_err-log-clause-corrupt
returns-in_err-log-clause-corrupt g c = λ honest.
    let l : Layout = layout_of c.args.cells.now in
    let h : History = g.D.Disk.history (disk_of c.args.cells.now) in
    let first : ℕ = c.args.position + 1 in
    let synced : g.D.Disk.history (disk_of c.sync.new.self) ≡ Synced h = of_no_failure c.sync.result (sym c.if-is_err.ensures.value) (c.sync.ensures.synced honest) in
    let P : Refusal → Type 0 = λ e. e ≡ Corrupt in_log → IsOfForm (reading_of l (seen h)) l c.args.start first → ⊥ in
    let refuses : P c.in_err-log.field-0.0 = λ is form. elim c.in_err-log.ensures.refused [
      | inl fault ↦ (let e : DiskFault ≡ Corrupt in_log = sym fault ∙ is in absurd cc)
      | inr why ↦ elim why [
        | inl params ↦ (let e : BadParams ≡ Corrupt in_log = sym params.0 ∙ is in absurd cc)
        | inr records ↦ elim records [
          | inl memory ↦ (let e : OutOfMemory ≡ Corrupt in_log = sym memory ∙ is in absurd cc)
          | inr corrupt ↦ (
              let there = subst (λ (m : Layout). IsLog (reading_of m (seen (g.D.Disk.history (disk_of c.sync.new.self)))) m c.args.start first form.0) (sym c.sync.ensures.layout)
              (subst (λ (x : History). IsLog (reading_of l (seen x)) l c.args.start first form.0) (sym synced) form.1) in
              (corrupt.1 (c.sync.ensures.call.stays_honest honest) (ap failed synced) form.0 there).why)
        ]
      ]
    ] in
    let err = err_from_is_err_and c.from_residual.result c.from_residual.ensures.1 in
    subst (λ (r : Result _ Refusal). IfErr r P) (sym err.1) (subst P (sym err.2) refuses)
