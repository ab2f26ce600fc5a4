-- What a sum that is read row by row says of the node that the replica stands for.
use Rattle.std.proofs.Common.{◌≡◌, ◌⊎◌, inl, inr, ℕ, pos, negsuc, ◌+◌, ◌-◌, ◌<◌, ◌≤◌, Bool, true, false, cond, List, [], ◌∷◌, ◌++◌, length, take, Option, Some, None, Result, Ok, Err, refl, sym, ap, subst, ◌∙◌, append_assoc, arith}
use Rattle.std.specs.Prelude.{is_some, nat_lt, if◌then◌else◌, MatchOption, IfSome, IsTrue, ◌^◌}
use Rattle.std.proofs.lemmas.Bool.{ltb-false, ltb-true}
use Rattle.std.proofs.lemmas.List.Concat.{flat_map-cons}
use Rattle.std.proofs.lemmas.List.Sums.{sum_by-cons}
use Rattle.std.proofs.lemmas.List.{length-take-le}
use Rattle.std.specs.Int.{bytes_high_first}
use Rattle.sha2.specs.Hashers.{Holds256}
use Rattle.uuid.specs.Parts.{is_nil_bytes}
use Rattle.rep_types.specs.declared.key.Key.{Key}
use Rattle.rep_types.specs.declared.refusal.Refusal.{Refusal}
use Rattle.rep_types.specs.declared.refusal.Refusal.TheVariants.{Stopped, Undefined, TooOld, NotYet, DiskFault, Corrupt, OutOfMemory}
use Rattle.rep_types.specs.declared.refusal.Part.TheVariants.{Pages}
use Rattle.rep_types.specs.Gtids.{Gtid, is_seqno}
use Rattle.rep_types.specs.Numbers.{given}
use Rattle.rep_types.specs.Settings.{has_row}
use Rattle.rep_types.specs.declared.judged.Judged.{Judged}
use Rattle.rep_types.specs.Order.{Order, State, state}
use Rattle.rep_types.specs.Sums.{keys_of, row_sum_bytes, rows_sum_bytes, rows_there}
use Rattle.rep_disk.specs.declared.disk.Disk.{Ghosts}
use Rattle.rep_disk.specs.Calls.{IsCall, Rises}
use Rattle.rep_log.specs.Moves.{fault_of}
use Rattle.rep_steps.specs.declared.event.Event.TheVariants.{Read}
use Rattle.rep_steps.specs.declared.answer.Answer.TheVariants.{Row, Refused}
use Rattle.rep_steps.specs.Standings.{Standing, refusal}
use Rattle.rep_steps.specs.Moves.{Moves, Fails, MeetsCorruption, Found}
use Rattle.rep_steps.specs.Nodes.{Node, Steps, state_at, reached, advanced}
use Rattle.rep_steps.specs.Orders.{IsOf, NodesHoldTheOrder}
use Rattle.rep_replica.specs.Replicas.{Replica, facts_of}
use Rattle.rep_replica.specs.Holding.{Holds}
use Rattle.rep_replica.specs.Reading.{IsRead}
use Rattle.rep_sum.proofs.Listing.{key_known}
use Rattle.rep_sum.proofs.Reading.{there}
use Rattle.rep_sum.specs.declared.sum.Sum.{Sum}
use Rattle.rep_sum.specs.declared.summing.Summing.{Summing}
use Rattle.rep_sum.specs.Sums.{RowRead, Adds, AreGiven, read_bytes, read_there, keys_read, IsRefusedAt, IsSumRead, AsksAtMost, IsSumAt, sum_refusal, sum_of, digest_of}

not_true : {A : Type 0} → false ≡ true → A
not_true e = absurd cc

-- a device that failed is no page of no form
pub no_corruption : {A T : Type 0} → ◌≡◌ {A = Result T Refusal} (Err DiskFault) (Err (Corrupt Pages)) → A
no_corruption e = absurd cc

-- ---- a row that was given

no_refusal : {A : Type 0} (x : Option (List ℕ)) (r : Refusal) → Row x ≡ Refused r → A
no_refusal x r e = absurd cc

same_refusal : (x y : Refusal) → Refused x ≡ Refused y → x ≡ y
same_refusal x y e = cc

same_row : (x y : Option (List ℕ)) → Row x ≡ Row y → x ≡ y
same_row x y e = cc

-- no refusal applied
given_by : (A : Type 0) (B : Refusal → Type 0) (x : Option (List ℕ)) (o : Option Refusal) → MatchOption o A (λ r. (Row x ≡ Refused r) × B r) → A
given_by A B x None m = m
given_by A B x (Some r) m = no_refusal x r m.0

-- nothing failed
given_fine : {A : Type 0} (s t : Standing) (key : Key) (at : ℕ) (x : Option (List ℕ)) → Fails s (Read key at) (Row x) t → A
given_fine s t key at x (inl f) = no_refusal x OutOfMemory f.1
given_fine s t key at x (inr f) = no_refusal x DiskFault f.1

module _ {D : Type 0} (g : Ghosts D) (s : ℕ) where
  -- the facts stay
  row_facts : (a b : Replica D) (key : Key) (x : Option (List ℕ)) → IsRead g a key s (Ok x) b → facts_of g b ≡ facts_of g a
  row_facts a b key x is = by (given_by _ (λ r. facts_of g b ≡ facts_of g a) x (refusal (facts_of g a) (Read key s)) is.step.moves)
    where
      by : ((f : Found) × (Row x ≡ Row f.row) × (facts_of g b ≡ facts_of g a)) ⊎ (Fails (facts_of g a) (Read key s) (Row x) (facts_of g b) ⊎ MeetsCorruption (facts_of g a) (Read key s) (Row x) (facts_of g b)) → facts_of g b ≡ facts_of g a
      by (inl f) = f.2
      by (inr (inl f)) = given_fine (facts_of g a) (facts_of g b) key s x f
      by (inr (inr m)) = no_refusal x (Corrupt Pages) m.1

  given_facts : (a b : Replica D) (xs : List RowRead) → AreGiven g s a xs b → facts_of g b ≡ facts_of g a
  given_facts a b [] same = ap (facts_of g) same
  given_facts a b (x ∷ xs) (m, is, rest) = given_facts m b xs rest ∙ row_facts a m x.0 x.1 is

  -- the row is the node's, for which the replica still stands
  row_is : (n : Node) (a b : Replica D) (key : Key) (x : Option (List ℕ)) → IsRead g a key s (Ok x) b → Holds g n a → (x ≡ (state_at n s).content key) × Holds g n b
  row_is n a b key x is holds =
      let to = is.step.steps n holds in
      by to.0 to.2 (given_by _ (λ r. to.0 ≡ n) x (refusal n.facts (Read key s)) to.1)
    where
      by : (m : Node) → Holds g m b → ((Row x ≡ Row ((state_at n s).content key)) × (m ≡ n)) ⊎ (Fails n.facts (Read key s) (Row x) m.facts × (m ≡ record n { facts = m.facts })) → (x ≡ (state_at n s).content key) × Holds g n b
      by m h (inl e) = (same_row x ((state_at n s).content key) e.0, subst (λ (k : Node). Holds g k b) e.1 h)
      by m h (inr f) = given_fine n.facts m.facts key s x f.0

  pub given_holds : (n : Node) (a b : Replica D) (xs : List RowRead) → AreGiven g s a xs b → Holds g n a → Holds g n b
  given_holds n a b [] same holds = subst (Holds g n) (sym same) holds
  given_holds n a b (x ∷ xs) (m, is, rest) holds = given_holds n m b xs rest (row_is n a m x.0 x.1 is holds).1

  given_bytes : (n : Node) (a b : Replica D) (xs : List RowRead) → AreGiven g s a xs b → Holds g n a → read_bytes xs ≡ rows_sum_bytes (state_at n s) (keys_read xs)
  given_bytes n a b [] same holds = refl
  given_bytes n a b (x ∷ xs) (m, is, rest) holds =
      let row = row_is n a m x.0 x.1 is holds in
      flat_map-cons (λ (y : RowRead). row_sum_bytes y.0 y.1) x xs
      ∙ ap (λ value. row_sum_bytes x.0 value ++ read_bytes xs) row.0
      ∙ ap (λ bytes. row_sum_bytes x.0 ((state_at n s).content x.0) ++ bytes) (given_bytes n m b xs rest row.1)
      ∙ sym (flat_map-cons (λ (key : Key). row_sum_bytes key ((state_at n s).content key)) x.0 (keys_read xs))

  given_there : (n : Node) (a b : Replica D) (xs : List RowRead) → AreGiven g s a xs b → Holds g n a → read_there xs ≡ rows_there (state_at n s) (keys_read xs)
  given_there n a b [] same holds = refl
  given_there n a b (x ∷ xs) (m, is, rest) holds =
      let row = row_is n a m x.0 x.1 is holds in
      sum_by-cons there x xs
      ∙ ap (λ value. cond (is_some value) 1 0 + read_there xs) row.0
      ∙ ap (λ k. cond (is_some ((state_at n s).content x.0)) 1 0 + k) (given_there n m b xs rest row.1)
      ∙ sym (sum_by-cons (λ (key : Key). cond (is_some ((state_at n s).content key)) 1 0) x.0 (keys_read xs))

-- ---- the device and the replica

module _ {D : Type 0} (g : Ghosts D) (s : ℕ) where
  -- two calls one after another, the first of which did not fail
  call_joined : {U : Type 0} (a b c : D) (r : Result U Refusal) → IsCall g.size g.failures g.honest a b (fault_of {T = Unit {0}} (Ok tt)) → IsCall g.size g.failures g.honest b c (fault_of r) → IsCall g.size g.failures g.honest a c (fault_of r)
  call_joined a b c r first second = record {
    same_size = second.same_size ∙ first.same_size;
    stays_honest = λ h. second.stays_honest (first.stays_honest h);
    was_honest = λ h. first.was_honest (second.was_honest h);
    cause = λ is. subst (λ (k : ℕ). Rises k (g.failures c)) (first.no_cause refl) (second.cause is);
    no_cause = λ is. second.no_cause is ∙ first.no_cause refl;
  }

  abbrev moved : Replica D → Replica D → Replica D
  moved a b = record a { engine = record a.engine { disk = b.engine.disk; halted = b.engine.halted } }

  -- the device was asked, and all succeeded
  abbrev Done : Replica D → Replica D → Type 0
  Done a b = AsksAtMost {T = Unit {0}} g a (Ok tt) b

  same_asked : (a : Replica D) → Done a a
  same_asked a = record { call = record { same_size = refl; stays_honest = λ h. h; was_honest = λ h. h; cause = λ is. not_true is; no_cause = λ is. refl }; same = λ h. refl; rest = refl }

  -- the device is asked once more
  asked_more : {T : Type 0} (a b c : Replica D) (r : Result T Refusal) → Done a b → AsksAtMost g b r c → AsksAtMost g a r c
  asked_more a b c r x y = record {
    call = call_joined a.engine.disk b.engine.disk c.engine.disk r x.call y.call;
    same = λ h. y.same (x.call.stays_honest h) ∙ x.same h;
    rest = y.rest ∙ ap (λ (z : Replica D). moved z c) x.rest;
  }

  given_asked : (a b : Replica D) (xs : List RowRead) → AreGiven g s a xs b → Done a b
  given_asked a b [] same = subst (Done a) (sym same) (same_asked a)
  given_asked a b (x ∷ xs) (m, is, rest) = asked_more a m b (Ok tt) (record { call = is.call; same = is.same; rest = is.rest }) (given_asked m b xs rest)

  refused_asked : (keys : List Key) (a b : Replica D) (r : Refusal) → IsRefusedAt g s keys a r b → AsksAtMost {T = Sum} g a (Err r) b
  refused_asked keys a b r h = asked_more a h.mid b (Err r) (given_asked a h.mid h.rows h.given) (record { call = h.refused.call; same = h.refused.same; rest = h.refused.rest })

  read_asked : (a b : Replica D) (sum : Sum) → IsSumRead g s a sum b → AsksAtMost g a (Ok sum) b
  read_asked a b sum h = asked_more a a b (Ok sum) (same_asked a) (let all = given_asked a b h.rows h.given in record { call = all.call; same = all.same; rest = all.rest })

-- ---- which refusal it is

some_not_none : {A : Type 0} (r : Refusal) → Some r ≡ None → A
some_not_none r e = absurd cc

-- none of a sum: so the replica runs, and the position is from the base on and durable
abbrev first_of : Bool → Bool → Bool → Bool → ℕ → ℕ → Option Refusal
first_of stopped nil below above base durable =
    if stopped then Some Stopped else if nil then Some Undefined else if below then Some (TooOld base) else if above then Some (NotYet durable) else None

none_above : (stopped nil below above : Bool) (base durable : ℕ) → first_of stopped nil below above base durable ≡ None → (stopped ≡ false) × (below ≡ false) × (above ≡ false) × (nil ≡ false)
none_above true nil below above base durable e = some_not_none Stopped e
none_above false true below above base durable e = some_not_none Undefined e
none_above false false true above base durable e = some_not_none (TooOld base) e
none_above false false false true base durable e = some_not_none (NotYet durable) e
none_above false false false false base durable e = (refl, refl, refl, refl)

pub none_found : (t : Standing) (at : ℕ) → sum_refusal t at ≡ None → (t.stopped ≡ false) × (nat_lt at t.base ≡ false) × (nat_lt t.durable at ≡ false) × (is_nil_bytes t.uuid ≡ false)
none_found t at e = none_above t.stopped (is_nil_bytes t.uuid) (nat_lt at t.base) (nat_lt t.durable at) t.base t.durable e

-- and none of a read of a row there
pub no_read_refusal : (t : Standing) (key : Key) (at : ℕ) → sum_refusal t at ≡ None → has_row t.setting.rows key ≡ true → refusal t (Read key at) ≡ None
no_read_refusal t key at e known = let none = none_found t at e in rw (none.0, known, none.1, none.2) refl

-- a row's refusal is the device's, or that of its page
read_refused_by : (t u : Standing) (key : Key) (at : ℕ) (r : Refusal) → refusal t (Read key at) ≡ None → Moves t (Read key at) (Refused r) u → (r ≡ DiskFault) ⊎ (r ≡ Corrupt Pages)
read_refused_by t u key at r none moves =
    by (subst (λ o. MatchOption o (((f : Found) × (Refused r ≡ Row f.row) × (u ≡ t)) ⊎ (Fails t (Read key at) (Refused r) u ⊎ MeetsCorruption t (Read key at) (Refused r) u)) (λ q. (Refused r ≡ Refused q) × (u ≡ t))) none moves)
  where
    by : ((f : Found) × (Refused r ≡ Row f.row) × (u ≡ t)) ⊎ (Fails t (Read key at) (Refused r) u ⊎ MeetsCorruption t (Read key at) (Refused r) u) → (r ≡ DiskFault) ⊎ (r ≡ Corrupt Pages)
    by (inl f) = no_refusal f.0.row r (sym f.1)
    by (inr (inl (inl f))) = not_true f.0
    by (inr (inl (inr f))) = inl (same_refusal r DiskFault f.1)
    by (inr (inr m)) = inr (same_refusal r (Corrupt Pages) m.1)

-- and of a node's it is the device's
step_refused_by : (n m : Node) (key : Key) (at : ℕ) (r : Refusal) → refusal n.facts (Read key at) ≡ None → Steps n (Read key at) (Refused r) m → r ≡ DiskFault
step_refused_by n m key at r none steps =
    by (subst (λ o. MatchOption o (((Refused r ≡ Row ((state_at n at).content key)) × (m ≡ n)) ⊎ (Fails n.facts (Read key at) (Refused r) m.facts × (m ≡ record n { facts = m.facts }))) (λ q. (Refused r ≡ Refused q) × (m ≡ n))) none steps)
  where
    by : ((Refused r ≡ Row ((state_at n at).content key)) × (m ≡ n)) ⊎ (Fails n.facts (Read key at) (Refused r) m.facts × (m ≡ record n { facts = m.facts })) → r ≡ DiskFault
    by (inl e) = no_refusal ((state_at n at).content key) r (sym e.0)
    by (inr (inl f, _)) = not_true f.0
    by (inr (inr f, _)) = same_refusal r DiskFault f.1

module _ {D : Type 0} (g : Ghosts D) (s : ℕ) where
  abbrev schema_of : Replica D → List ℕ
  schema_of a = a.engine.checkpoint.base.params.rows

  -- no refusal but the device's applies to the row that was refused
  none_there : (a b : Replica D) (r : Refusal) → sum_refusal (facts_of g a) s ≡ None → (h : IsRefusedAt g s (keys_of (schema_of a)) a r b) → refusal (facts_of g a) (Read h.key s) ≡ None
  none_there a b r none h = no_read_refusal (facts_of g a) h.key s none (key_known (schema_of a) (keys_read h.rows) h.left h.key h.split)

  pub refused_only : (a b : Replica D) (r : Refusal) → sum_refusal (facts_of g a) s ≡ None → IsRefusedAt g s (keys_of (schema_of a)) a r b → (r ≡ DiskFault) ⊎ (r ≡ Corrupt Pages)
  refused_only a b r none h =
      let still = given_facts g s a h.mid h.rows h.given in
      read_refused_by (facts_of g h.mid) (facts_of g b) h.key s r (ap (λ (t : Standing). refusal t (Read h.key s)) still ∙ none_there a b r none h) h.refused.step.moves

  -- a node's pages are whole
  pub refused_by_device : (n : Node) (a b : Replica D) (r : Refusal) → Holds g n a → sum_refusal (facts_of g a) s ≡ None → IsRefusedAt g s (keys_of (schema_of a)) a r b → r ≡ DiskFault
  refused_by_device n a b r holds none h =
      let to = h.refused.step.steps n (given_holds g s n a h.mid h.rows h.given holds) in
      step_refused_by n to.0 h.key s r (ap (λ (t : Standing). refusal t (Read h.key s)) holds.facts ∙ none_there a b r none h) to.1

  -- ---- what comes of it

  pub sum_refused : (a b : Replica D) (r : Refusal) → sum_refusal (facts_of g a) s ≡ None → IsRefusedAt g s (keys_of (schema_of a)) a r b → IsSumAt g s a (Err r) b
  sum_refused a b r none h = record {
    refused = subst (λ o. IfSome o (λ e. (◌≡◌ {A = Result Sum Refusal} (Err r) (Err e)) × (b ≡ a))) (sym none) tt;
    sums = λ _. h;
    asks = refused_asked g s (keys_of (schema_of a)) a b r h;
  }

  pub sum_given : (a b : Replica D) (sum : Sum) → sum_refusal (facts_of g a) s ≡ None → IsSumRead g s a sum b → IsSumAt g s a (Ok sum) b
  sum_given a b sum none h = record {
    refused = subst (λ o. IfSome o (λ e. (◌≡◌ {A = Result Sum Refusal} (Ok sum) (Err e)) × (b ≡ a))) (sym none) tt;
    sums = λ _. h;
    asks = read_asked g s a b sum h;
  }

  -- it is of what was read
  pub sum_read : (a b : Replica D) (from to : Summing) (uuid : List ℕ) (gtid : Gtid) (digest : List ℕ) → uuid ≡ a.engine.checkpoint.base.uuid → gtid ≡ record { uuid = uuid; seqno = pos s }
      → Holds256 from.hasher (uuid ++ bytes_high_first 8 s) → from.rows ≡ 0 → Adds g s (keys_of (schema_of a)) a from b to → ((m : List ℕ) → Holds256 to.hasher m → digest ≡ digest_of m)
      → IsSumRead g s a (record { gtid = gtid; rows = to.rows; digest = digest }) b
  sum_read a b from to uuid gtid digest uuid_is gtid_is fed none adds digests = record {
    rows = adds.rows;
    of = adds.of;
    given = adds.given;
    told =
        let bytes = digests ((uuid ++ bytes_high_first 8 s) ++ read_bytes adds.rows) (adds.fed (uuid ++ bytes_high_first 8 s) fed) ∙ ap digest_of (append_assoc uuid (bytes_high_first 8 s) (read_bytes adds.rows)) in
        let count : to.rows ≡ read_there adds.rows = adds.there ∙ omega (arith, none) in
        ap (λ (id : Gtid). record { gtid = id; rows = to.rows; digest = digest }) gtid_is
        ∙ ap (λ (k : ℕ). record { gtid = record { uuid = uuid; seqno = pos s }; rows = k; digest = digest }) count
        ∙ ap (λ (d : List ℕ). record { gtid = record { uuid = uuid; seqno = pos s }; rows = read_there adds.rows; digest = d }) bytes
        ∙ ap (λ (u : List ℕ). record { gtid = record { uuid = u; seqno = pos s }; rows = read_there adds.rows; digest = digest_of (u ++ (bytes_high_first 8 s ++ read_bytes adds.rows)) }) uuid_is;
  }

-- a position that no refusal applies to is a seqno
pub is_in_range : (t : Standing) (at : ℕ) → sum_refusal t at ≡ None → IsTrue (is_seqno (if is_nil_bytes t.uuid then negsuc 0 else pos t.durable)) → at < 2 ^ 63
is_in_range t at none limit =
    let found = none_found t at none in
    let durable : nat_lt t.durable (2 ^ 63) ≡ true = rw found.3 at limit in
    let below = ltb-false t.durable at found.2 in
    let limited = ltb-true t.durable (2 ^ 63) durable in
    omega (arith, below, limited)

-- the GTID that is made
pub made_is : (b : Bool) (x y : Gtid) → given b x ≡ Some y → y ≡ x
made_is true x y e = cc
made_is false x y e = absurd cc

-- ---- what the sum tells

reached_position : (n : Node) (S : State) (js : List Judged) → (reached n.facts.setting S js).position ≡ S.position + length js
reached_position n S [] = omega arith
reached_position n S (j ∷ js) = reached_position n (advanced n.facts.setting S j) js ∙ omega arith

module _ {D : Type 0} (g : Ghosts D) (s : ℕ) (n : Node) where
  at_position : (a : Replica D) → Holds g n a → sum_refusal (facts_of g a) s ≡ None → (n.base.position ≤ s) × (s ≤ n.facts.durable) × ((state_at n s).position ≡ s)
  at_position a holds none =
      let found = none_found (facts_of g a) s none in
      let from : n.facts.base ≤ s = subst (λ (t : Standing). t.base ≤ s) (sym holds.facts) (ltb-false s (facts_of g a).base found.1) in
      let up_to : s ≤ n.facts.durable = subst (λ (t : Standing). s ≤ t.durable) (sym holds.facts) (ltb-false (facts_of g a).durable s found.2) in
      let base = holds.node.position in
      let enough = holds.node.enough in (
        omega (arith, base, from),
        up_to,
        reached_position n n.base (take (s - n.base.position) n.items) ∙ omega (arith, length-take-le (s - n.base.position) n.items (omega (arith, base, from, up_to, enough)), base, from),
      )

  abbrev made : ℕ → ℕ → List ℕ → Sum
  made position rows bytes = record { gtid = record { uuid = n.facts.uuid; seqno = pos position }; rows = rows; digest = digest_of (n.facts.uuid ++ (bytes_high_first 8 position ++ bytes)) }

  pub sum_is : (a b : Replica D) (sum : Sum) → Holds g n a → sum_refusal (facts_of g a) s ≡ None → IsSumRead g s a sum b → sum ≡ sum_of n.facts.uuid n.facts.setting.rows (state_at n s)
  sum_is a b sum holds none h =
      let at = (at_position a holds none).2 in
      let facts = holds.facts in
      let rows = ap (rows_there (state_at n s)) (h.of ∙ ap (λ (t : Standing). keys_of t.setting.rows) (sym facts)) in
      let bytes = ap (rows_sum_bytes (state_at n s)) (h.of ∙ ap (λ (t : Standing). keys_of t.setting.rows) (sym facts)) in
      let uuid : (facts_of g a).uuid ≡ n.facts.uuid = ap (λ (t : Standing). t.uuid) (sym facts) in
      h.told
      ∙ ap (λ (u : List ℕ). record { gtid = record { uuid = u; seqno = pos s }; rows = read_there h.rows; digest = digest_of (u ++ (bytes_high_first 8 s ++ read_bytes h.rows)) }) uuid
      ∙ ap (λ k. made s k (read_bytes h.rows)) (given_there g s n a b h.rows h.given holds ∙ rows)
      ∙ ap (made s (rows_there (state_at n s) (keys_of n.facts.setting.rows))) (given_bytes g s n a b h.rows h.given holds ∙ bytes)
      ∙ ap (λ k. made k (rows_there (state_at n s) (keys_of n.facts.setting.rows)) (rows_sum_bytes (state_at n s) (keys_of n.facts.setting.rows))) (sym at)

  -- and so it is that of the order
  pub sum_of_order : NodesHoldTheOrder → (L : Order) (a b : Replica D) (sum : Sum) → IsOf L n → Holds g n a → sum_refusal (facts_of g a) s ≡ None → IsSumRead g s a sum b → sum ≡ sum_of n.facts.uuid n.facts.setting.rows (state n.facts.setting (take s L))
  sum_of_order law L a b sum is_of holds none h =
      let at = at_position a holds none in
      let of = law L n holds.node is_of in
      sum_is a b sum holds none h ∙ ap (sum_of n.facts.uuid n.facts.setting.rows) (of.state s at.0 (omega (arith, at.1, of.count)))
