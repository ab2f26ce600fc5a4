-- What comes of a delivery.
use Rattle.std.proofs.Common.{◌≡◌, Bool, ◌+◌, true, false, ◌⊎◌, inl, inr, ℕ, [], ◌∷◌, length, Option, None, Some, Result, Ok, Err, IfErr, refl, sym, ap, ◌∙◌, subst, arith, append-nil}
use Rattle.std.specs.Prelude.{MatchOption, MatchResult, ◌≢◌, ◌==◌, nat_le, not, if◌then◌else◌}
use Rattle.uuid.specs.Parts.{is_nil_bytes}
use Rattle.rep_types.specs.declared.limits.TheConstants.{MAX_SEQNO, MAX_AHEAD}
use Rattle.rep_types.specs.declared.item.Item.{Item}
use Rattle.rep_types.specs.declared.item.Item.TheVariants.{WriteSet, SetWindow}
use Rattle.rep_types.specs.declared.refusal.Refusal.{Refusal}
use Rattle.rep_types.specs.declared.refusal.Refusal.TheVariants.{StreamFault, Stopped, Undefined, Exhausted, OutOfOrder, Backlogged}
use Rattle.rep_types.specs.declared.verdict.Verdict.{Verdict}
use Rattle.rep_disk.specs.declared.disk.Disk.{Ghosts}
use Rattle.rep_steps.specs.declared.answer.Answer.{Answer}
use Rattle.rep_steps.specs.declared.answer.Answer.TheVariants.{Gave, Wrote, Began, Synced, Row, Refused}
use Rattle.rep_steps.specs.Standings.{Standing, refusal, delivery_refusal, delivered}
use Rattle.rep_steps.specs.Moves.{Found, Fails, MeetsCorruption, answer, after, with_item, next_item}
use Rattle.rep_steps.specs.Events.{delivery}
use Rattle.rep_steps.specs.Orders.{accepted}
use Rattle.rep_steps.specs.Runs.{acknowledged}
use Rattle.rep_replica.specs.Replicas.{Replica, facts_of}
use Rattle.rep_replica.specs.Episodes.{Runs}
use Rattle.rep_replica.specs.Holding.{IsStep}
use Rattle.rep_replica.specs.Running.{RunsAreJoined}
use Rattle.rep_replica.specs.Settling.{outcome_of}
use Rattle.rep_follow.specs.Committing.{IsDurableBy, Follows}
use Rattle.rep_follow.specs.Taking.{Delivers}
use Rattle.rep_follow.proofs.Committing.{none_durable, follows_run}
use Rattle.rep_follow.proofs.Counting.{still_run}

-- the item was taken, with a verdict; or it is refused, and nothing changes
abbrev pub Came : Standing → ℕ → Item → Answer → Standing → Option Refusal → Type 0
Came s seqno i a t None = (v : Verdict) × (a ≡ Gave v) × (t ≡ with_item s i v)
Came s seqno i a t (Some r) = (a ≡ Refused r) × (t ≡ s)

came_by : (s t : Standing) (seqno : ℕ) (i : Item) (a : Answer) (o : Option Refusal)
    → MatchOption o (((found : Found) × (a ≡ answer s (delivery seqno i) found) × (t ≡ after s (delivery seqno i) found)) ⊎ (Fails s (delivery seqno i) a t ⊎ MeetsCorruption s (delivery seqno i) a t)) (λ r. (a ≡ Refused r) × (t ≡ s))
    → Came s seqno i a t o
came_by s t seqno (WriteSet w) a None (inl went) = (went.0.verdict, went.1, went.2)
came_by s t seqno (SetWindow c) a None (inl went) = (went.0.verdict, went.1, went.2)
came_by s t seqno (WriteSet w) a None (inr (inl (inl hungry))) = absurd (let never : false ≡ true = hungry.0 in cc)
came_by s t seqno (SetWindow c) a None (inr (inl (inl hungry))) = absurd (let never : false ≡ true = hungry.0 in cc)
came_by s t seqno (WriteSet w) a None (inr (inl (inr fault))) = absurd (let never : false ≡ true = fault.0 in cc)
came_by s t seqno (SetWindow c) a None (inr (inl (inr fault))) = absurd (let never : false ≡ true = fault.0 in cc)
came_by s t seqno (WriteSet w) a None (inr (inr corrupt)) = absurd (let never : false ≡ true = corrupt.0 in cc)
came_by s t seqno (SetWindow c) a None (inr (inr corrupt)) = absurd (let never : false ≡ true = corrupt.0 in cc)
came_by s t seqno i a (Some r) refused = refused

-- what is delivered of it
accepted_gave : (seqno : ℕ) (i : Item) (v : Verdict) → accepted (delivery seqno i) (Gave v) ≡ i ∷ []
accepted_gave seqno (WriteSet w) v = refl
accepted_gave seqno (SetWindow c) v = refl

accepted_refused : (seqno : ℕ) (i : Item) (r : Refusal) → accepted (delivery seqno i) (Refused r) ≡ []
accepted_refused seqno (WriteSet w) r = refl
accepted_refused seqno (SetWindow c) r = refl

-- one item more waits
one_more : (s t : Standing) (i : Item) (v : Verdict) → t ≡ with_item s i v → IsDurableBy s (next_item s i v ∷ []) [] t
one_more s t i v is = record { within = omega arith; are = refl; durable = omega (arith, ap (λ (u : Standing). u.durable) is); ahead = ap (λ (u : Standing). u.ahead) is }

module _ {D : Type 0} (g : Ghosts D) (joined : RunsAreJoined g) (old new : Replica D) (seqno : ℕ) (i : Item) (a : Answer) (step : IsStep g old (delivery seqno i) a new) where
  came : Came (facts_of g old) seqno i a (facts_of g new) (refusal (facts_of g old) (delivery seqno i))
  came = came_by (facts_of g old) (facts_of g new) seqno i a (refusal (facts_of g old) (delivery seqno i)) step.moves

  abbrev taken_as : (v : Verdict) → a ≡ Gave v → facts_of g new ≡ with_item (facts_of g old) i v → Follows g old new (i ∷ []) []
  taken_as v is to = follows_run g old new (delivery seqno i ∷ []) (a ∷ []) (next_item (facts_of g old) i v ∷ []) (i ∷ []) [] refl (joined.one_run old new (delivery seqno i) a step)
      (append-nil (accepted (delivery seqno i) a) ∙ ap (accepted (delivery seqno i)) is ∙ accepted_gave seqno i v) (ap (λ (b : Answer). acknowledged (b ∷ [])) is) refl
      (one_more (facts_of g old) (facts_of g new) i v to)

  abbrev refused_as : (r : Refusal) → a ≡ Refused r → facts_of g new ≡ facts_of g old → Follows g old new [] []
  refused_as r is to = follows_run g old new (delivery seqno i ∷ []) (a ∷ []) [] [] [] refl (joined.one_run old new (delivery seqno i) a step)
      (append-nil (accepted (delivery seqno i) a) ∙ ap (accepted (delivery seqno i)) is ∙ accepted_refused seqno i r) (ap (λ (b : Answer). acknowledged (b ∷ [])) is) refl
      (none_durable (facts_of g old) (facts_of g new) (ap (λ (u : Standing). u.durable) to) (ap (λ (u : Standing). u.ahead) to))

  -- it was taken, where it wasn't refused
  taken_by_cases : (o : Option Refusal) → refusal (facts_of g old) (delivery seqno i) ≡ o → Came (facts_of g old) seqno i a (facts_of g new) o → ((r : Refusal) → a ≡ Refused r → ⊥)
      → Delivers g old new i (Ok tt) × (refusal (facts_of g old) (delivery seqno i) ≡ None)
  taken_by_cases None none c not =
      (record { follows = taken_as c.0 c.1 c.2; still = still_run g old new (delivery seqno i ∷ []) (a ∷ []) (ap (λ (u : Standing). u.base) c.2); answered = tt; phase = ap (λ (u : Standing). u.phase) c.2; same = tt }, none)
  taken_by_cases (Some r) some c not = absurd (not r c.0)

  pub is_taken : ((r : Refusal) → a ≡ Refused r → ⊥) → Delivers g old new i (Ok tt) × (refusal (facts_of g old) (delivery seqno i) ≡ None)
  is_taken not = taken_by_cases (refusal (facts_of g old) (delivery seqno i)) refl came not

  -- it was refused
  refused_by_cases : (o : Option Refusal) → refusal (facts_of g old) (delivery seqno i) ≡ o → Came (facts_of g old) seqno i a (facts_of g new) o → (r : Refusal) → a ≡ Refused r
      → Delivers g old new i (Err r) × (refusal (facts_of g old) (delivery seqno i) ≡ Some r)
  refused_by_cases None none c r is = absurd (let never : Gave c.0 ≡ Refused r = sym c.1 ∙ is in cc)
  refused_by_cases (Some e) some c r is =
      let same : Refused e ≡ Refused r = sym c.0 ∙ is in
      let one : e ≡ r = cc in (
        record {
          follows = refused_as r is c.1;
          still = still_run g old new (delivery seqno i ∷ []) (a ∷ []) (ap (λ (u : Standing). u.base) c.1);
          answered = ([], delivery seqno i ∷ [], [], new, ap (λ (b : Answer). Runs (delivery seqno i ∷ []) (b ∷ []) new ∷ []) is);
          phase = ap (λ (u : Standing). u.phase) c.1;
          same = c.1;
        },
        some ∙ ap Some one,
      )

  pub is_refused : (r : Refusal) → a ≡ Refused r → Delivers g old new i (Err r) × (refusal (facts_of g old) (delivery seqno i) ≡ Some r)
  is_refused r is = refused_by_cases (refusal (facts_of g old) (delivery seqno i)) refl came r is

-- ---- why it is refused

is_stream : Option Refusal → Bool
is_stream (Some StreamFault) = true
is_stream o = false

stopped_or : (t : Bool) (o : Option Refusal) → is_stream o ≡ false → is_stream (if t then Some Stopped else o) ≡ false
unfolding is_stream
stopped_or true o none = refl
stopped_or false o none = none

delivery_by : (nil all out full : Bool) (expected : ℕ)
    → is_stream (if nil then Some Undefined else if all then Some Exhausted else if out then Some (OutOfOrder expected) else if full then Some Backlogged else None) ≡ false
unfolding is_stream
delivery_by true all out full expected = refl
delivery_by false true out full expected = refl
delivery_by false false true full expected = refl
delivery_by false false false true expected = refl
delivery_by false false false false expected = refl

delivery_none : (s : Standing) (seqno : ℕ) → is_stream (delivery_refusal s seqno) ≡ false
delivery_none s seqno = delivery_by (is_nil_bytes s.uuid) (delivered s == MAX_SEQNO) (not (seqno == delivered s + 1)) (nat_le MAX_AHEAD (length s.ahead)) (delivered s + 1)

refusal_none : (s : Standing) (seqno : ℕ) (i : Item) → is_stream (refusal s (delivery seqno i)) ≡ false
unfolding is_stream
refusal_none s seqno (WriteSet w) = stopped_or s.stopped (delivery_refusal s seqno) (delivery_none s seqno)
refusal_none s seqno (SetWindow c) = stopped_or s.stopped (delivery_refusal s seqno) (delivery_none s seqno)

-- not for a stream
pub delivery_own : (s : Standing) (seqno : ℕ) (i : Item) (r : Refusal) → refusal s (delivery seqno i) ≡ Some r → r ≢ StreamFault
unfolding is_stream
delivery_own s seqno i r is same = let both : true ≡ false = ap is_stream (ap Some (sym same) ∙ sym is) ∙ refusal_none s seqno i in cc

-- ---- what came of it

-- what is said of a delivery with this result
pub record Delivered {D : Type 0} (g : Ghosts D) (old new : Replica D) (seqno : ℕ) (i : Item) (r : Result (Unit {0}) Refusal) : Type 0 where
  pub delivers : Delivers g old new i r
  pub own : IfErr r (λ e. e ≢ StreamFault)
  pub exact : MatchResult r (λ _. refusal (facts_of g old) (delivery seqno i) ≡ None) (λ e. refusal (facts_of g old) (delivery seqno i) ≡ Some e)

module _ {D : Type 0} (g : Ghosts D) (joined : RunsAreJoined g) (old new : Replica D) (seqno : ℕ) (i : Item) (a : Answer) (step : IsStep g old (delivery seqno i) a new) where
  done : ((r : Refusal) → a ≡ Refused r → ⊥) → Delivered g old new seqno i (Ok tt)
  done not = let came = is_taken g joined old new seqno i a step not in record { delivers = came.0; own = tt; exact = came.1 }

  by_answer : (b : Answer) → a ≡ b → Delivered g old new seqno i (outcome_of b)
  by_answer (Refused e) is =
      let came = is_refused g joined old new seqno i a step e is in
      record { delivers = came.0; own = delivery_own (facts_of g old) seqno i e came.1; exact = came.1 }
  by_answer (Gave v) is = done (λ r refused. absurd (let never : Gave v ≡ Refused r = sym is ∙ refused in cc))
  by_answer Wrote is = done (λ r refused. absurd (let never : Wrote ≡ Refused r = sym is ∙ refused in cc))
  by_answer (Began n) is = done (λ r refused. absurd (let never : Began n ≡ Refused r = sym is ∙ refused in cc))
  by_answer (Synced replies) is = done (λ r refused. absurd (let never : Synced replies ≡ Refused r = sym is ∙ refused in cc))
  by_answer (Row row) is = done (λ r refused. absurd (let never : Row row ≡ Refused r = sym is ∙ refused in cc))

  pub delivered_so : (r : Result (Unit {0}) Refusal) → r ≡ outcome_of a → Delivered g old new seqno i r
  delivered_so r is = subst (Delivered g old new seqno i) (sym is) (by_answer a refl)
