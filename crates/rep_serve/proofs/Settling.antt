-- Whether a replica that settled is stopped.
use Rattle.std.proofs.Common.{◌≡◌, Bool, true, false, Result, Ok, Err, refl, sym, ◌∙◌, ◌⊎◌, inl, inr}
use Rattle.std.specs.Prelude.{◌≢◌}
use Rattle.rep_types.specs.declared.refusal.Refusal.{Refusal}
use Rattle.rep_types.specs.declared.refusal.Refusal.TheVariants.{Stopped, StreamFault}
use Rattle.rep_replica.specs.Settling.{EndsEarly}

-- a call that was done was not refused
pub not_refused : (b : Bool) (P : Type 0) (result : Result (Unit {0}) Refusal) (x : Unit {0}) (e : Refusal) → result ≡ Ok x → (b ≡ true → (result ≡ Err e) × P) → b ≡ false
not_refused false P result x e is refused = refl
not_refused true P result x e is refused = absurd (let never : Ok x ≡ Err e = sym is ∙ (refused refl).0 in cc)

-- a replica that settles is refused as no stream that has failed
pub settle_own : (e : Refusal) → (e ≡ Stopped) ⊎ EndsEarly e → e ≢ StreamFault
settle_own e (inl is) = λ same. absurd cc
settle_own e (inr (inl is)) = λ same. absurd cc
settle_own e (inr (inr (inl is))) = λ same. absurd cc
settle_own e (inr (inr (inr is))) = λ same. absurd cc
