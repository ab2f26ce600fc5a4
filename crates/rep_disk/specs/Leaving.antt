-- How what calls leave adds up: laws of `LeavesOnly`, for who proves something of several calls.
use Rattle.std.proofs.Common.{◌≡◌, ◌⊎◌, ◌≤◌, inl, inr, ℕ, List, sym, subst, arith}
use Rattle.rep_disk.specs.History.{History}
use Rattle.rep_disk.specs.Moments.{LeavesOnly, ImageSince, moment}

-- where nothing was asked of the device
pub leaves_none : {P : List ℕ → Type 0} → (old new : History) → new ≡ old → LeavesOnly old new P
leaves_none {P} old new same = subst (λ h. LeavesOnly old h P) (sym same) (record { later = omega arith; since = λ t image le since. inl since })

-- what has P has Q
pub leaves_weaker : {P Q : List ℕ → Type 0} → (old new : History) → ((image : List ℕ) → P image → Q image) → LeavesOnly old new P → LeavesOnly old new Q
leaves_weaker {P} {Q} old new f l = record { later = l.later; since = λ t image le since. by image (l.since t image le since) }
  where
    by : {A : Type 0} (image : List ℕ) → A ⊎ P image → A ⊎ Q image
    by image (inl a) = inl a
    by image (inr p) = inr (f image p)

-- one call behind another
pub leaves_both : {P : List ℕ → Type 0} → (old mid new : History) → LeavesOnly old mid P → LeavesOnly mid new P → LeavesOnly old new P
leaves_both {P} old mid new a b = record {
  later = omega (arith, a.later, b.later);
  since = λ t image le since. by t image le (b.since t image (omega (arith, le, a.later)) since);
}
  where
    by : (t : ℕ) (image : List ℕ) → t ≤ moment old → ImageSince mid t image ⊎ P image → ImageSince old t image ⊎ P image
    by t image le (inl before) = a.since t image le before
    by t image le (inr p) = inr p

pub leaves_then : {P Q : List ℕ → Type 0} → (old mid new : History) → LeavesOnly old mid P → LeavesOnly mid new Q → ((image : List ℕ) → Q image → P image) → LeavesOnly old new P
leaves_then old mid new a b f = leaves_both old mid new a (leaves_weaker mid new f b)
