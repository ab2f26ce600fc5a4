-- What a line asks for that is no item.
use Rattle.std.proofs.Common.{◌≡◌, ℕ, ◌==◌, Bool, true, false, None, Some, refl, ap}
use Rattle.std.specs.Prelude.{if◌then◌else◌}
use Rattle.std.proofs.lemmas.Bool.{eqb-true}
use Rattle.rep_types.specs.declared.item.Item.{Item}
use Rattle.rep_requests.specs.Requests.{Requested, Nothing, Published, Stated, Read, Sum, State, Limits, Counters, Donate, Refused, Broken}
use Rattle.rep_follow.specs.Taking.{item_at}

no_item_by : (b : Bool) (n seqno : ℕ) (i : Item) → (n == seqno) ≡ b → ((j : Item) → Published n i ≡ Published seqno j → ⊥) → (if n == seqno then Some i else None) ≡ None
no_item_by true n seqno i is none = absurd (none i (ap (λ k. Published k i) (eqb-true n seqno is)))
no_item_by false n seqno i is none = ap (λ b. if b then Some i else None) is

-- what asks for no item with this seqno is none
pub no_item_at : (seqno : ℕ) (r : Requested) → ((i : Item) → r ≡ Published seqno i → ⊥) → item_at seqno r ≡ None
no_item_at seqno (Published n i) none = no_item_by (n == seqno) n seqno i refl none
no_item_at seqno Nothing none = refl
no_item_at seqno (Stated i) none = refl
no_item_at seqno (Read keys) none = refl
no_item_at seqno (Sum at) none = refl
no_item_at seqno State none = refl
no_item_at seqno Limits none = refl
no_item_at seqno Counters none = refl
no_item_at seqno (Donate have out) none = refl
no_item_at seqno (Refused e) none = refl
no_item_at seqno Broken none = refl
