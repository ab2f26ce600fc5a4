use Rattle.std.proofs.Common.{◌≡◌, ◌<◌, ◌^◌, Bool, true, false, None, Ok, refl, ap, sym, subst, ◌∙◌, inl, inr, rules, arith}
use Rattle.std.proofs.lemmas.Result.{err_from_is_err_and}
use Rattle.rep_forms.specs.Forms.{number_bytes}
use Rattle.rep_layout.specs.Windows.{IsWindowAt}
use Rattle.rep_catchup.specs.Snapshots.{reaching}
use Rattle.rep_catchup.proofs.JoinTaking.{consumed, found_fits, none_found}
use Rattle.rep_catchup.proofs.JoinWindow.{no_count, too_many, no_entries, no_window}
use Rattle.rep_catchup.proofs.snapshot.take_kept.Goals as goal

never_both : (b : Bool) → b ≡ true → b ≡ false → ⊥
never_both b is other = absurd cc

pub returns-in_default-clause-refused : goal.returns-in_default-clause-refused
returns-in_default-clause-refused g c =
    let start = g.R.Source.remaining c.args.reader.now in
    let between = g.R.Source.remaining c.take_reach.new.reader in
    let none : c.in_ok-count.field-0 ≡ None = search rules in
    inr (inr (
      refl,
      no_count c.args.format c.args.params.now c.args.position c.ranges.position.fits c.in_ok-reach.reach c.args.transfer.now c.take_reach.new.transfer start between c.in_ok-reach.ensures.taken
          (none_found (λ n. n < 2 ^ 16) (number_bytes 2) between (g.R.Source.remaining c.next.new.reader) c.in_ok-count.field-0 c.next.result c.in_ok-count.was none c.next.ensures.known),
    ))

pub returns-then-from-get-clause-refused : goal.returns-then-from-get-clause-refused
returns-then-from-get-clause-refused g c =
    let start = g.R.Source.remaining c.args.reader.now in
    let between = g.R.Source.remaining c.take_reach.new.reader in
    let left = g.R.Source.remaining c.next.new.reader in
    let count = c.in-Some.count in
    let is = c.in_ok-count.was ∙ ap Ok c.in-Some.is in
    inr (inr (
      refl,
      too_many c.args.format c.args.params.now c.args.position c.ranges.position.fits c.in_ok-reach.reach c.args.transfer.now c.take_reach.new.transfer start between c.in_ok-reach.ensures.taken count left
          (found_fits (λ n. n < 2 ^ 16) count c.next.result is c.next.ensures.fits) (consumed (λ n. n < 2 ^ 16) (number_bytes 2) between left count c.next.result is c.next.ensures.known) (omega (arith, c.if-from-get.true, c.get.ensures.seqnos, c.from.ensures)),
    ))

pub returns-in_err-entries-clause-refused : goal.returns-in_err-entries-clause-refused
returns-in_err-entries-clause-refused g c =
    let start = g.R.Source.remaining c.args.reader.now in
    let between = g.R.Source.remaining c.take_reach.new.reader in
    let left = g.R.Source.remaining c.next.new.reader in
    let count = c.in-Some.count in
    let is = c.in_ok-count.was ∙ ap Ok c.in-Some.is in
    let p = err_from_is_err_and c.from_residual-in_err-entries.result c.from_residual-in_err-entries.ensures.1 in
    rw (p.1, p.2) (
    elim c.in_err-entries.ensures.refused [
      | inl stream ↦ inl stream
      | inr (inl memory) ↦ inr (inl memory)
      | inr (inr (malformed, none)) ↦ inr (inr (
        malformed,
        no_entries c.args.format c.args.params.now c.args.position c.ranges.position.fits c.in_ok-reach.reach c.args.transfer.now c.take_reach.new.transfer start between c.in_ok-reach.ensures.taken count left
            (found_fits (λ n. n < 2 ^ 16) count c.next.result is c.next.ensures.fits) (consumed (λ n. n < 2 ^ 16) (number_bytes 2) between left count c.next.result is c.next.ensures.known) none,
      ))
    ]
    )

pub returns-else-is_window_at-clause-refused : goal.returns-else-is_window_at-clause-refused
returns-else-is_window_at-clause-refused g c =
    let start = g.R.Source.remaining c.args.reader.now in
    let between = g.R.Source.remaining c.take_reach.new.reader in
    let left = g.R.Source.remaining c.next.new.reader in
    let count = c.in-Some.count in
    let is = c.in_ok-count.was ∙ ap Ok c.in-Some.is in
    let reach = c.in_ok-reach.reach in
    let entries = c.in_ok-entries.entries.items in
    let window : c.new-window.result ≡ reaching reach entries = c.new-window.ensures in
    inr (inr (
      refl,
      no_window c.args.format c.args.params.now c.args.position c.ranges.position.fits reach c.args.transfer.now c.take_reach.new.transfer start between c.in_ok-reach.ensures.taken count left
          (found_fits (λ n. n < 2 ^ 16) count c.next.result is c.next.ensures.fits) (consumed (λ n. n < 2 ^ 16) (number_bytes 2) between left count c.next.result is c.next.ensures.known) entries c.next.new.self c.take_entries.new.transfer
          (g.R.Source.remaining c.take_entries.new.reader) c.in_ok-entries.ensures.taken
          (λ w. never_both c.is_window_at.result (c.is_window_at.ensures.1 (subst (IsWindowAt c.args.params.now c.args.position) (sym window) w)) c.if-is_window_at.false),
    ))
