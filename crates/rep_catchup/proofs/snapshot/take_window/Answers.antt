use Rattle.std.proofs.Common.{◌<◌, ◌^◌, refl, inl, inr, subst}
use Rattle.std.specs.Prelude.{IfSome}
use Rattle.std.proofs.lemmas.Result.{err_from_is_err_and}
use Rattle.rep_types.specs.Settings.{Setting}
use Rattle.rep_forms.specs.Forms.{number_bytes}
use Rattle.rep_replica.specs.Replicas.{facts_of}
use Rattle.rep_catchup.specs.Snapshots.{TakesKept, NoneKeptComes}
use Rattle.rep_catchup.proofs.JoinTaking.{none_found}
use Rattle.rep_catchup.proofs.JoinBringing.{no_kept, no_number}
use Rattle.rep_catchup.proofs.snapshot.take_window.Goals as goal

pub returns-in_err-window-clause-refused : goal.returns-in_err-window-clause-refused
returns-in_err-window-clause-refused g c =
    let s = facts_of g.D.Disk c.args.replica.now in
    let p = err_from_is_err_and c.from_residual.result c.from_residual.ensures.1 in
    rw (p.1, p.2) (
    elim c.in_err-window.ensures.refused [
      | inl stream ↦ inl stream
      | inr (inl memory) ↦ inr (inl memory)
      | inr (inr (malformed, none)) ↦ inr (inr (
        malformed,
        no_kept c.args.format s c.args.position (g.R.Source.remaining c.args.reader.now)
            (subst (λ (p : Setting). IfSome (g.R.Source.remaining c.args.reader.now) (NoneKeptComes c.args.format p c.args.position)) c.params-params.ensures none),
      ))
    ]
    )

pub returns-in-None-clause-refused : goal.returns-in-None-clause-refused
returns-in-None-clause-refused g c =
    let start = g.R.Source.remaining c.args.reader.now in
    let before = g.R.Source.remaining c.take_kept.new.reader in
    let taken = subst (λ (p : Setting). TakesKept c.args.format p c.args.position c.in_ok-window.window c.args.transfer.now c.take_kept.new.transfer start before) c.params-params.ensures c.in_ok-window.ensures.taken in
    inr (inr (
      refl,
      no_number c.args.format (facts_of g.D.Disk c.args.replica.now) c.args.position c.in_ok-window.window c.args.transfer.now c.take_kept.new.transfer start before c.ranges.position.fits taken
          (none_found (λ n. n < 2 ^ 16) (number_bytes 2) before (g.R.Source.remaining c.next.new.reader) c.in_ok-count.field-0 c.next.result c.in_ok-count.was c.in-None.is c.next.ensures.known),
    ))
