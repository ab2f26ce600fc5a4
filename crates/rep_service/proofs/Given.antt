-- Rows that are read one after another.
use Rattle.std.proofs.Common.{◌≡◌, ℕ, zero, suc, ◌+◌, ◌<◌, ◌⊎◌, inl, inr, List, [], ◌∷◌, ◌++◌, length, take, drop, get_or, arith, Option, Ok, Err, refl, sym, ap, subst, ◌∙◌}
use Rattle.std.proofs.lemmas.List.{map-append, take_more}
use Rattle.rep_types.specs.declared.key.Key.{Key}
use Rattle.rep_types.specs.declared.refusal.Refusal.{Refusal}
use Rattle.rep_types.specs.Order.{Order, read}
use Rattle.rep_disk.specs.declared.disk.Disk.{Ghosts}
use Rattle.rep_steps.specs.declared.event.Event.TheVariants.{Read}
use Rattle.rep_steps.specs.declared.answer.Answer.TheVariants.{Row, Refused}
use Rattle.rep_steps.specs.Nodes.{Node}
use Rattle.rep_steps.specs.Orders.{IsOf, StepsFollowTheOrder}
use Rattle.rep_replica.specs.Replicas.{Replica, facts_of, OnlyItsEngineAsks}
use Rattle.rep_replica.specs.Holding.{Holds}
use Rattle.rep_replica.specs.Reading.{IsRead}
use Rattle.rep_sum.specs.Sums.{RowRead, AreGiven, keys_read, IsRefusedAt}
use Rattle.rep_sum.proofs.Standing.{given_holds}
use Rattle.rep_service.specs.Rows.{rows_of}

no_refusal : {A : Type 0} (x : Option (List ℕ)) (r : Refusal) → Row x ≡ Refused r → A
no_refusal x r e = absurd cc

same_row : (x y : Option (List ℕ)) → Row x ≡ Row y → x ≡ y
same_row x y e = cc

pub keys_push : (xs : List RowRead) (key : Key) (x : Option (List ℕ)) → keys_read (xs ++ (key, x) ∷ []) ≡ keys_read xs ++ key ∷ []
keys_push xs key x = map-append (λ (y : RowRead). y.0) xs ((key, x) ∷ [])

module _ {D : Type 0} (g : Ghosts D) (at : ℕ) where
  -- one more was given
  pub given_push : (a b c : Replica D) (xs : List RowRead) (key : Key) (x : Option (List ℕ)) → AreGiven g at a xs b → IsRead g b key at (Ok x) c → AreGiven g at a (xs ++ (key, x) ∷ []) c
  given_push a b c [] key x same is = (c, subst (λ (r : Replica D). IsRead g r key at (Ok x) c) same is, refl)
  given_push a b c (y ∷ xs) key x (m, one, rest) is = (m, one, given_push m b c xs key x rest is)

  -- the next one was refused
  pub refused_next : (a b c : Replica D) (xs : List RowRead) (key : Key) (keys left : List Key) (e : Refusal) → AreGiven g at a xs b → IsRead g b key at (Err e) c → keys_read xs ++ key ∷ left ≡ keys
      → IsRefusedAt g at keys a e c
  refused_next a b c xs key keys left e given is split = record { rows = xs; key = key; left = left; split = split; mid = b; given = given; refused = is }

  -- ---- of a node of an order

  module _ (law : StepsFollowTheOrder) (n : Node) (L : Order) (of : IsOf L n) where
    row_is : (a b : Replica D) (key : Key) (x : Option (List ℕ)) → Holds g n a → IsRead g a key at (Ok x) b → x ≡ read n.facts.setting L key at
    row_is a b key x holds is =
        let to = is.step.steps n holds in
        let follows = law L n to.0 (Read key at) (Row x) holds.node of to.1 in
        by follows.answered
      where
        by : ((r : Refusal) × (Row x ≡ Refused r)) ⊎ (Row x ≡ Row (read n.facts.setting L key at)) → x ≡ read n.facts.setting L key at
        by (inl r) = no_refusal x r.0 r.1
        by (inr r) = same_row x (read n.facts.setting L key at) r

    -- the rows are those of the order
    pub rows_are : (a b : Replica D) (xs : List RowRead) → Holds g n a → AreGiven g at a xs b → xs ≡ rows_of n.facts.setting L (keys_read xs) at
    rows_are a b [] holds given = refl
    rows_are a b (x ∷ xs) holds (m, is, rest) =
        let row = row_is a m x.0 x.1 holds is in
        let on = given_holds g at n a m (x ∷ []) (m, is, refl) holds in
        ap (λ (y : Option (List ℕ)). (x.0, y) ∷ xs) row ∙ ap (λ ys. (x.0, read n.facts.setting L x.0 at) ∷ ys) (rows_are m b xs on rest)

-- ---- keys one after another

-- the key that a list gives where it has none
abbrev pub no_key : Key
no_key = record { table = 0; row = 0 }

-- what stands before a key, it, and what stands behind
pub split_at : {A : Type 0} (keys : List A) (i : ℕ) (d : A) → i < length keys → take i keys ++ get_or keys i d ∷ drop (suc i) keys ≡ keys
split_at [] i d within = absurd (omega (arith, within))
split_at (k ∷ keys) zero d within = refl
split_at (k ∷ keys) (suc i) d within = ap (λ ks. k ∷ ks) (split_at keys i d (omega (arith, within)))

-- one more of them was read
pub keys_more : (keys : List Key) (xs : List RowRead) (i : ℕ) (x : Option (List ℕ)) → i < length keys → keys_read xs ≡ take i keys → keys_read (xs ++ (get_or keys i no_key, x) ∷ []) ≡ take (i + 1) keys
keys_more keys xs i x within is = keys_push xs (get_or keys i no_key) x ∙ ap (λ ks. ks ++ get_or keys i no_key ∷ []) is ∙ sym (take_more keys i no_key within)

-- ---- what is delivered stays

ahead_of : {D : Type 0} (g : Ghosts D) (old new : Replica D) → OnlyItsEngineAsks old new → (facts_of g new).ahead ≡ (facts_of g old).ahead
ahead_of g old new rest = ap (λ (r : Replica _). (facts_of g r).ahead) rest

module _ {D : Type 0} (g : Ghosts D) (at : ℕ) where
  pub given_ahead : (a b : Replica D) (xs : List RowRead) → AreGiven g at a xs b → (facts_of g b).ahead ≡ (facts_of g a).ahead
  given_ahead a b [] same = ap (λ (r : Replica D). (facts_of g r).ahead) same
  given_ahead a b (x ∷ xs) (m, is, rest) = given_ahead m b xs rest ∙ ahead_of g a m is.rest

  pub refused_ahead : (a b c : Replica D) (xs : List RowRead) (key : Key) (e : Refusal) → AreGiven g at a xs b → IsRead g b key at (Err e) c → (facts_of g c).ahead ≡ (facts_of g a).ahead
  refused_ahead a b c xs key e given is = ahead_of g b c is.rest ∙ given_ahead a b xs given
