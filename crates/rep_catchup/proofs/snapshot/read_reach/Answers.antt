use Rattle.std.proofs.Common.{◌≡◌, ℕ, ◌<◌, ◌^◌, true, Result, Ok, Err, refl, ap, sym, subst, ◌∙◌, inr, Bool, rules}
use Rattle.std.specs.Prelude.{if◌then◌else◌}
use Rattle.rep_types.specs.declared.refusal.Refusal.{Refusal}
use Rattle.rep_types.specs.declared.refusal.Refusal.TheVariants.{BadParams}
use Rattle.rep_types.specs.Windows.{is_window_size}
use Rattle.rep_forms.specs.Forms.{number_bytes}
use Rattle.rep_catchup.proofs.JoinTaking.{consumed, found_fits, none_found}
use Rattle.rep_catchup.proofs.JoinWindow.{other_size, no_floor}
use Rattle.rep_catchup.proofs.snapshot.read_reach.Goals as goal

-- a size within the limits is one
made : (n : ℕ) (result : Result ℕ Refusal) → result ≡ (if is_window_size n then Ok n else Err BadParams) → is_window_size n ≡ true → result ≡ Ok n
made n result is within = is ∙ ap (λ (b : Bool). if b then Ok n else Err BadParams) within

pub returns-in_default-new-clause-refused : goal.returns-in_default-new-clause-refused
returns-in_default-new-clause-refused g c = λ p position.
    let start = g.R.Source.remaining c.args.reader.now in
    let between = g.R.Source.remaining c.next.new.reader in
    let seqnos = c.in-Some.seqnos in
    let is = c.in_ok-seqnos.was ∙ ap Ok c.in-Some.is in
    let same : c.from.result ≡ seqnos = search rules in
    let never : is_window_size seqnos ≡ true → ⊥ = λ within. c.in_default-new.not-Ok c.from.result (made c.from.result c.new.result c.new.ensures (subst (λ n. is_window_size n ≡ true) (sym same) within)) in
    inr (
      refl,
      other_size p position seqnos start between (found_fits (λ n. n < 2 ^ 16) seqnos c.next.result is c.next.ensures.fits) (consumed (λ n. n < 2 ^ 16) (number_bytes 2) start between seqnos c.next.result is c.next.ensures.known) never,
    )

pub returns-in-None-clause-refused : goal.returns-in-None-clause-refused
returns-in-None-clause-refused g c = λ p position.
    let start = g.R.Source.remaining c.args.reader.now in
    let between = g.R.Source.remaining c.next.new.reader in
    let seqnos = c.in-Some.seqnos in
    let is = c.in_ok-seqnos.was ∙ ap Ok c.in-Some.is in
    inr (
      refl,
      no_floor p position seqnos start between (found_fits (λ n. n < 2 ^ 16) seqnos c.next.result is c.next.ensures.fits) (consumed (λ n. n < 2 ^ 16) (number_bytes 2) start between seqnos c.next.result is c.next.ensures.known)
          (none_found (λ n. n < 2 ^ 64) (number_bytes 8) between (g.R.Source.remaining c.next-2.new.reader) c.in_ok-floor.field-0 c.next-2.result c.in_ok-floor.was c.in-None.is c.next-2.ensures.known),
    )
