-- What a publisher shows after a call.
use Rattle.std.proofs.Common.{◌≡◌, ◌∙◌, sym, ℕ, Bool, false, [], Result, Ok, Err, IfOk, IfErr, MatchResult}
use Rattle.std.specs.Result.{is_err}
use Rattle.std.proofs.lemmas.Bool.{false≢true}
use Rattle.rep_snap.specs.declared.shelf.Sight.{Sight}
use Rattle.rep_snap.specs.Views.{Listing, listing, opened}

-- where nothing was refused, nothing is left to be shown
pub all_shown : {U E : Type 0} (r : Result U E) (b : Bool) (P N : Type 0) (Q : E → Type 0) → b ≡ is_err r → MatchResult r (λ _. P × N) Q → b ≡ false → N
all_shown (Ok u) b P N Q is h well = h.1
all_shown (Err e) b P N Q is h well = absurd (false≢true (sym well ∙ is))

-- what is shown stays, where nothing was to be shown
pub shown_stays : {U E S : Type 0} (r : Result U E) (x y z : S) (N M : Type 0) → MatchResult r (λ _. (y ≡ z) × N) (λ _. (y ≡ x) × M) → z ≡ x → y ≡ x
shown_stays (Ok u) x y z N M h is = h.0 ∙ is
shown_stays (Err e) x y z N M h is = h.0

-- what holds beside a refusal
pub refused_as : {U E : Type 0} (r : Result U E) (refusal : E) (P : Type 0) → P → IfErr r (λ e. e ≡ refusal) → IfErr r (λ e. (e ≡ refusal) × P)
refused_as (Ok u) refusal P p h = h
refused_as (Err e) refusal P p h = (h, p)

-- a publisher that shows what it was started with, and has done nothing
pub is_opened : {A E : Type 0} (r : Result (Listing A) E) (s : Sight A) (basis : A) (start ready : ℕ) → s.basis ≡ basis → s.start ≡ start → s.seen.log ≡ []
    → IfOk r (λ p. p ≡ listing s ready false) → IfOk r (λ p. p ≡ opened p.book basis start ready)
is_opened (Ok p) s basis start ready b t l is = is ∙ (λ i. record { book = (sym is i).book; basis = b i; start = t i; list = l i; ready = ready; failed = false })
is_opened (Err e) s basis start ready b t l is = is
