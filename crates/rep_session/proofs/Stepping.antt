-- One call of a session, by what it does to what is read and written.
use Rattle.std.proofs.Common.{◌≡◌, ℕ, Bool, true, false, cond, List, [], ◌∷◌, filter, Contains, Option, None, Some, Result, Ok, Err, refl, sym, ap, ◌∙◌, subst, inl, inr, ⊎_elim}
use Rattle.std.specs.Prelude.{◌⊎◌, MatchOption, IsOk, ⊤, not, if◌then◌else◌}
use Rattle.std.specs.List.{find}
use Rattle.std.specs.Option.{option_or}
use Rattle.std.proofs.lemmas.List.Elements.{Contains-append_left, Contains-append_right, Contains-append_cases}
use Rattle.std.proofs.lemmas.List.Folds.{find-append}
use Rattle.rep_types.specs.declared.key.Key.{Key}
use Rattle.rep_types.specs.declared.value.Write.{Write}
use Rattle.rep_types.specs.declared.refusal.Refusal.{Refusal}
use Rattle.rep_types.specs.declared.refusal.Refusal.TheVariants.{Closed, BadKey}
use Rattle.rep_types.specs.Keys.{key_eq, key_lt}
use Rattle.rep_types.specs.Settings.{Setting, has_row}
use Rattle.rep_types.specs.Transactions.{key_of}
use Rattle.rep_types.specs.Order.{Order, read, latest}
use Rattle.rep_types.proofs.Choices.{option_or_none}
use Rattle.rep_types.proofs.Latest.{latest-append}
use Rattle.rep_types.proofs.Members.{Contains-filter, Contains-from_filter, Contains-cons_cases, Contains-first, Contains-behind}
use Rattle.rep_session.specs.Sessions.{Progress, known, recalled, is_read_too_many, write_of, with_read, with_write, after_read, write_refusal, placed, itself}
use Rattle.rep_session.specs.Runs.{Call, Got, Wrote, Does, done, last_write}
use Rattle.rep_session.proofs.Keys.{lt_not_eq, gt_not_eq, between, same_key, eq_not_lt, eq_not_gt, lt_not_gt}

-- ---- what is found among writes, and kept of them

-- a test that passes only where another does finds the same in what is kept
find_kept_first : (test p : Write → Bool) (x : Write) (xs : List Write) (t b : Bool) → test x ≡ t → p x ≡ b → (test x ≡ true → p x ≡ true) →
    find test (filter p xs) ≡ find test xs → find test (cond b (x ∷ filter p xs) (filter p xs)) ≡ cond t (Some x) (find test xs)
find_kept_first test p x xs t true e g h rest = rw e (ap (cond t (Some x)) rest)
find_kept_first test p x xs true false e g h rest = absurd (let q : false ≡ true = sym g ∙ h e in cc)
find_kept_first test p x xs false false e g h rest = rest

find_kept : (test p : Write → Bool) → ((x : Write) → test x ≡ true → p x ≡ true) → (xs : List Write) → find test (filter p xs) ≡ find test xs
find_kept test p h [] = refl
find_kept test p h (x ∷ xs) = find_kept_first test p x xs (test x) (p x) refl refl (h x) (find_kept test p h xs)

-- a test that passes only where another does not finds nothing there
find_dropped_first : (test p : Write → Bool) (x : Write) (xs : List Write) (t b : Bool) → test x ≡ t → p x ≡ b → (test x ≡ true → p x ≡ false) →
    find test (filter p xs) ≡ None → find test (cond b (x ∷ filter p xs) (filter p xs)) ≡ None
find_dropped_first test p x xs t false e g h rest = rest
find_dropped_first test p x xs true true e g h rest = absurd (let q : true ≡ false = sym g ∙ h e in cc)
find_dropped_first test p x xs false true e g h rest = rw e rest

find_dropped : (test p : Write → Bool) → ((x : Write) → test x ≡ true → p x ≡ false) → (xs : List Write) → find test (filter p xs) ≡ None
find_dropped test p h [] = refl
find_dropped test p h (x ∷ xs) = find_dropped_first test p x xs (test x) (p x) refl refl (h x) (find_dropped test p h xs)

-- where none is found, there is no last one either
latest_none_first : (test : Write → Bool) (x : Write) (xs : List Write) (t : Bool) → cond t (Some x) (find test xs) ≡ None →
    (find test xs ≡ None → latest test xs ≡ None) → option_or (latest test xs) (cond t (Some x) None) ≡ None
latest_none_first test x xs true e rest = absurd cc
latest_none_first test x xs false e rest = rw (rest e) refl

latest_none : (test : Write → Bool) (xs : List Write) → find test xs ≡ None → latest test xs ≡ None
latest_none test [] e = refl
latest_none test (x ∷ xs) e = latest_none_first test x xs (test x) e (latest_none test xs)

-- a test that passes only where another does has the same last one in what is kept
latest_kept_first : (test p : Write → Bool) (x : Write) (xs : List Write) (t b : Bool) → test x ≡ t → p x ≡ b → (test x ≡ true → p x ≡ true) →
    latest test (filter p xs) ≡ latest test xs → latest test (cond b (x ∷ filter p xs) (filter p xs)) ≡ option_or (latest test xs) (cond t (Some x) None)
latest_kept_first test p x xs t true e g h rest = rw e (ap (λ o. option_or o (cond t (Some x) None)) rest)
latest_kept_first test p x xs true false e g h rest = absurd (let q : false ≡ true = sym g ∙ h e in cc)
latest_kept_first test p x xs false false e g h rest = rest ∙ sym (option_or_none (latest test xs))

latest_kept : (test p : Write → Bool) → ((x : Write) → test x ≡ true → p x ≡ true) → (xs : List Write) → latest test (filter p xs) ≡ latest test xs
latest_kept test p h [] = refl
latest_kept test p h (x ∷ xs) = latest_kept_first test p x xs (test x) (p x) refl refl (h x) (latest_kept test p h xs)

or_cond : (b : Bool) (write : Write) (o : Option Write) → cond b (Some write) o ≡ option_or (cond b (Some write) None) o
or_cond true write o = refl
or_cond false write o = refl

module _ (write : Write) (key : Key) (ws : List Write) where
  abbrev of_key : Write → Bool
  of_key = λ w. key_eq w.key key

  abbrev below : Write → Bool
  below = λ w. key_lt w.key write.key

  abbrev above : Write → Bool
  above = λ w. key_lt write.key w.key

  placed_found : find of_key (placed key_of write ws) ≡ option_or (find of_key (filter below ws)) (cond (key_eq write.key key) (Some write) (find of_key (filter above ws)))
  placed_found = find-append of_key (filter below ws) (write ∷ filter above ws)

  placed_last : latest of_key (placed key_of write ws) ≡ option_or (option_or (latest of_key (filter above ws)) (cond (key_eq write.key key) (Some write) None)) (latest of_key (filter below ws))
  placed_last = latest-append of_key (filter below ws) (write ∷ filter above ws)

  -- What stands under the key among those with the write: it, where its key is this one, and else what was there. It is found as the
  -- first one, and is the last one too where no key was written twice.
  record Under (is : Option Write) : Type 0 where
    first : write_of (placed key_of write ws) key ≡ is
    once : last_write ws key ≡ write_of ws key → last_write (placed key_of write ws) key ≡ is

  -- the write itself under its key
  under_own : key_eq write.key key ≡ true → Under (Some write)
  under_own same =
      let down : find of_key (filter below ws) ≡ None = find_dropped of_key below (λ w e. rw (same_key write.key key same) (eq_not_lt w.key key e)) ws in
      let up : find of_key (filter above ws) ≡ None = find_dropped of_key above (λ w e. rw (same_key write.key key same) (eq_not_gt w.key key e)) ws in
      record {
        first = placed_found ∙ rw (down, same) refl;
        once = λ old. placed_last ∙ rw (latest_none of_key (filter above ws) up, same) refl;
      }

  -- what was there under a key above its key
  under_above : key_lt write.key key ≡ true → Under (write_of ws key)
  under_above up =
      let none : find of_key (filter below ws) ≡ None = find_dropped of_key below (λ w e. rw (same_key w.key key e) (lt_not_gt write.key key up)) ws in
      let keeps : (w : Write) → of_key w ≡ true → above w ≡ true = λ w e. rw (same_key w.key key e) up in
      record {
        first = placed_found ∙ rw (none, lt_not_eq write.key key up) (find_kept of_key above keeps ws);
        once = λ old. placed_last ∙ rw (latest_none of_key (filter below ws) none, lt_not_eq write.key key up, latest_kept of_key above keeps ws) (option_or_none (option_or (latest of_key ws) None) ∙ option_or_none (latest of_key ws) ∙ old);
      }

  -- and under a key below it
  under_below : key_lt key write.key ≡ true → Under (write_of ws key)
  under_below down =
      let none : find of_key (filter above ws) ≡ None = find_dropped of_key above (λ w e. rw (same_key w.key key e) (lt_not_gt key write.key down)) ws in
      let keeps : (w : Write) → of_key w ≡ true → below w ≡ true = λ w e. rw (same_key w.key key e) down in
      record {
        first = placed_found ∙ rw (find_kept of_key below keeps ws, gt_not_eq key write.key down, none) (option_or_none (find of_key ws));
        once = λ old. placed_last ∙ rw (latest_none of_key (filter above ws) none, gt_not_eq key write.key down, latest_kept of_key below keeps ws) old;
      }

  under : (same up : Bool) → key_eq write.key key ≡ same → key_lt write.key key ≡ up → Under (cond same (Some write) (write_of ws key))
  under true up e g = under_own e
  under false true e g = under_above g
  under false false e g = under_below (between write.key key g e)

-- under each key the write is found that was put there, or what was there
pub placed_write : (write : Write) (ws : List Write) (key : Key) → write_of (placed key_of write ws) key ≡ option_or (last_write (write ∷ []) key) (write_of ws key)
placed_write write ws key =
    (under write key ws (key_eq write.key key) (key_lt write.key key) refl refl).first ∙ or_cond (key_eq write.key key) write (write_of ws key)

-- where no key was written twice, none is then
pub placed_once : (write : Write) (ws : List Write) (key : Key) → last_write ws key ≡ write_of ws key → last_write (placed key_of write ws) key ≡ write_of (placed key_of write ws) key
placed_once write ws key old =
    let u = under write key ws (key_eq write.key key) (key_lt write.key key) refl refl in
    u.once old ∙ sym u.first

-- ---- which keys stand among those that were read

placed_has : (key k : Key) (ks : List Key) → Contains (placed itself key ks) k → Contains ks k ⊎ (key ≡ k)
placed_has key k ks has =
    ⊎_elim (λ below. inl (Contains-from_filter (λ (y : Key). key_lt y key) ks k below).0)
    (λ rest. ⊎_elim (λ same. inr same) (λ above. inl (Contains-from_filter (λ (y : Key). key_lt key y) ks k above).0)
    (Contains-cons_cases key k (filter (λ (y : Key). key_lt key y) ks) rest))
    (Contains-append_cases (filter (λ (y : Key). key_lt y key) ks) (key ∷ filter (λ (y : Key). key_lt key y) ks) k has)

placed_itself : (key : Key) (ks : List Key) → Contains (placed itself key ks) key
placed_itself key ks =
    Contains-append_right (filter (λ (y : Key). key_lt y key) ks) (key ∷ filter (λ (y : Key). key_lt key y) ks) key
    (Contains-first key key (filter (λ (y : Key). key_lt key y) ks) refl)

placed_keeps_by : (key k : Key) (ks : List Key) (down same : Bool) → key_lt k key ≡ down → key_eq k key ≡ same → Contains ks k → Contains (placed itself key ks) k
placed_keeps_by key k ks true same e g has =
    Contains-append_left (filter (λ (y : Key). key_lt y key) ks) (key ∷ filter (λ (y : Key). key_lt key y) ks) k (Contains-filter (λ (y : Key). key_lt y key) ks k has e)
placed_keeps_by key k ks false true e g has = subst (Contains (placed itself key ks)) (sym (same_key k key g)) (placed_itself key ks)
placed_keeps_by key k ks false false e g has =
    Contains-append_right (filter (λ (y : Key). key_lt y key) ks) (key ∷ filter (λ (y : Key). key_lt key y) ks) k
    (Contains-behind key k (filter (λ (y : Key). key_lt key y) ks) (Contains-filter (λ (y : Key). key_lt key y) ks k has (between k key e g)))

placed_keeps : (key k : Key) (ks : List Key) → Contains ks k → Contains (placed itself key ks) k
placed_keeps key k ks has = placed_keeps_by key k ks (key_lt k key) (key_eq k key) refl refl has

-- ---- a call

-- What a call does at an open session: which writes and reads there are behind it, and what it was answered.
pub record Stepped (p : Setting) (L : Order) (t : Progress) (call : Call) (u : Progress) : Type 0 where
  pub source : u.source ≡ t.source
  pub trx : u.trx ≡ t.trx
  pub snapshot : u.snapshot ≡ t.snapshot
  pub ended : u.ended ≡ t.ended
  pub writes : (key : Key) → write_of u.writes key ≡ option_or (last_write (done (call ∷ [])) key) (write_of t.writes key)
  pub once : (key : Key) → last_write t.writes key ≡ write_of t.writes key → last_write u.writes key ≡ write_of u.writes key
  pub kept : (key : Key) → Contains t.reads key → Contains u.reads key
  pub from : (key : Key) → Contains u.reads key → Contains t.reads key ⊎ ((row : Option (List ℕ)) × ((call ≡ Got key (Ok row)) × (write_of t.writes key ≡ None)))
  pub read_now : (key : Key) (row : Option (List ℕ)) → call ≡ Got key (Ok row) → write_of t.writes key ≡ None → Contains u.reads key × (row ≡ read p L key t.snapshot)
  pub own : (key : Key) (row : Option (List ℕ)) (write : Write) → call ≡ Got key (Ok row) → write_of t.writes key ≡ Some write → row ≡ write.value

-- what is known of a key: where nothing is, it was not written; where an answer is, it was
recalled_none : (o : Option Write) (many : Bool) → recalled o many ≡ None → o ≡ None
recalled_none None many e = refl
recalled_none (Some write) many e = absurd cc

recalled_row : (o : Option Write) (many : Bool) (row : Option (List ℕ)) → recalled o many ≡ Some (Ok row) → (write : Write) × ((o ≡ Some write) × (row ≡ write.value))
recalled_row (Some write) many row e = (write, (refl, cc))
recalled_row None true row e = absurd cc
recalled_row None false row e = absurd cc

known_by : (ended row_there : Bool) (o rest : Option (Result (Option (List ℕ)) Refusal)) → ended ≡ false →
    (if ended then Some (Err Closed) else if not row_there then Some (Err BadKey) else o) ≡ rest → (rest ≡ None) ⊎ ((row : Option (List ℕ)) × (rest ≡ Some (Ok row))) → o ≡ rest
known_by true there o rest lasts e answered = absurd cc
known_by false true o rest lasts e answered = e
known_by false false o rest lasts e (inl none) = absurd (let q : Some (Err BadKey) ≡ None = e ∙ none in cc)
known_by false false o rest lasts e (inr found) = absurd (let q : Some (Err BadKey) ≡ Some (Ok found.0) = e ∙ found.1 in cc)

known_none : (t : Progress) (key : Key) → t.ended ≡ false → known t key ≡ None → write_of t.writes key ≡ None
known_none t key lasts e =
    recalled_none (write_of t.writes key) (is_read_too_many t key)
    (known_by t.ended (has_row t.tables key) (recalled (write_of t.writes key) (is_read_too_many t key)) None lasts e (inl refl))

known_row : (t : Progress) (key : Key) (row : Option (List ℕ)) → t.ended ≡ false → known t key ≡ Some (Ok row) → (write : Write) × ((write_of t.writes key ≡ Some write) × (row ≡ write.value))
known_row t key row lasts e =
    recalled_row (write_of t.writes key) (is_read_too_many t key) row
    (known_by t.ended (has_row t.tables key) (recalled (write_of t.writes key) (is_read_too_many t key)) (Some (Ok row)) lasts e (inr (row, refl)))

-- the key and the answer of a get
got_parts : (key k : Key) (answer : Result (Option (List ℕ)) Refusal) (row : Option (List ℕ)) → Got key answer ≡ Got k (Ok row) → (key ≡ k) × (answer ≡ Ok row)
got_parts key k answer row e = (cc, cc)

-- a call that leaves the progress as it is
step_still : (p : Setting) (L : Order) (t : Progress) (call : Call) → done (call ∷ []) ≡ []
    → ((key : Key) (row : Option (List ℕ)) → call ≡ Got key (Ok row) → write_of t.writes key ≡ None → Contains t.reads key × (row ≡ read p L key t.snapshot))
    → ((key : Key) (row : Option (List ℕ)) (write : Write) → call ≡ Got key (Ok row) → write_of t.writes key ≡ Some write → row ≡ write.value) → Stepped p L t call t
step_still p L t call none read_now own = record {
  source = refl;
  trx = refl;
  snapshot = refl;
  ended = refl;
  writes = λ k. rw none refl;
  once = λ k old. old;
  kept = λ k has. has;
  from = λ k has. inl has;
  read_now = read_now;
  own = own;
}

-- a get whose answer was known
step_known : (p : Setting) (L : Order) (t : Progress) (key : Key) (answer : Result (Option (List ℕ)) Refusal) → t.ended ≡ false → known t key ≡ Some answer → Stepped p L t (Got key answer) t
step_known p L t key answer lasts e = step_still p L t (Got key answer) refl (λ k row is none.
    let parts = got_parts key k answer row is in
    let own = known_row t key row lasts (e ∙ ap Some parts.1) in
    absurd (let q : None ≡ Some own.0 = sym none ∙ ap (write_of t.writes) (sym parts.0) ∙ own.1.0 in cc)) (λ k row write is has.
    let parts = got_parts key k answer row is in
    let own = known_row t key row lasts (e ∙ ap Some parts.1) in
    let same : own.0 ≡ write = (let q : Some own.0 ≡ Some write = sym own.1.0 ∙ ap (write_of t.writes) parts.0 ∙ has in cc) in
    own.1.1 ∙ ap (λ (w : Write). w.value) same)

-- a call that no row is answered and that writes nothing
step_nothing : (p : Setting) (L : Order) (t : Progress) (call : Call) → done (call ∷ []) ≡ [] → ((key : Key) (row : Option (List ℕ)) → call ≡ Got key (Ok row) → ⊥) → Stepped p L t call t
step_nothing p L t call none unanswered = step_still p L t call none (λ k row is free. absurd (unanswered k row is)) (λ k row write is has. absurd (unanswered k row is))

-- a get that rows refused, and a write that was refused
step_refused : (p : Setting) (L : Order) (t : Progress) (key : Key) (r : Refusal) → Stepped p L t (Got key (Err r)) t
step_refused p L t key r = step_nothing p L t (Got key (Err r)) refl (λ k row is. cc)

step_undone : (p : Setting) (L : Order) (t : Progress) (write : Write) (r : Refusal) → Stepped p L t (Wrote write (Err r)) t
step_undone p L t write r = step_nothing p L t (Wrote write (Err r)) refl (λ k row is. cc)

-- a get that rows answered
step_read : (p : Setting) (L : Order) (t : Progress) (key : Key) (found : Option (List ℕ)) → write_of t.writes key ≡ None → found ≡ read p L key t.snapshot → Stepped p L t (Got key (Ok found)) (with_read t key)
step_read p L t key found unwritten is_row = record {
  source = refl;
  trx = refl;
  snapshot = refl;
  ended = refl;
  writes = λ k. refl;
  once = λ k old. old;
  kept = λ k has. placed_keeps key k t.reads has;
  from = λ k has. ⊎_elim (λ old. inl old)
      (λ same. inr (found, (ap (λ j. Got j (Ok found)) same, ap (write_of t.writes) (sym same) ∙ unwritten)))
      (placed_has key k t.reads has);
  read_now = λ k row is none.
      let parts = got_parts key k (Ok found) row is in
      let rows : found ≡ row = cc in
      (subst (λ j. Contains (placed itself key t.reads) j) parts.0 (placed_itself key t.reads), sym rows ∙ is_row ∙ ap (λ j. read p L j t.snapshot) parts.0);
  own = λ k row write is has.
      let parts = got_parts key k (Ok found) row is in
      absurd (let q : None ≡ Some write = sym unwritten ∙ ap (write_of t.writes) parts.0 ∙ has in cc);
}

-- a write that was done
step_done : (p : Setting) (L : Order) (t : Progress) (write : Write) (nothing : ⊤) → Stepped p L t (Wrote write (Ok nothing)) (with_write t write)
step_done p L t write nothing = record {
  source = refl;
  trx = refl;
  snapshot = refl;
  ended = refl;
  writes = λ k. placed_write write t.writes k;
  once = λ k old. placed_once write t.writes k old;
  kept = λ k has. has;
  from = λ k has. inl has;
  read_now = λ k row is none. absurd cc;
  own = λ k row w is has. absurd cc;
}

module _ {S : Type 0} (gives : S → Key → ℕ → Result (Option (List ℕ)) Refusal → S → Type 0) (are_of : S → Setting → Order → Type 0)
    (law : (a b : S) (key : Key) (s : ℕ) (row : Option (List ℕ)) (p : Setting) (L : Order) → gives a key s (Ok row) b → are_of b p L → row ≡ read p L key s)
    (p : Setting) (L : Order) where
  asked : (t : Progress) (key : Key) (answer : Result (Option (List ℕ)) Refusal) (a b : S) → write_of t.writes key ≡ None →
      gives a key t.snapshot answer b → are_of b p L → Stepped p L t (Got key answer) (after_read t key answer)
  asked t key (Ok row) a b none g of = step_read p L t key row none (law a b key t.snapshot row p L g of)
  asked t key (Err r) a b none g of = step_refused p L t key r

  got : (t : Progress) (key : Key) (answer : Result (Option (List ℕ)) Refusal) (a b : S) (u : Progress) (o : Option (Result (Option (List ℕ)) Refusal)) →
      t.ended ≡ false → known t key ≡ o →
      MatchOption o (gives a key t.snapshot answer b × (u ≡ after_read t key answer)) (λ r. (answer ≡ r) × (u ≡ t) × (b ≡ a)) → are_of b p L →
      Stepped p L t (Got key answer) u
  got t key answer a b u None lasts e h of =
      subst (λ v. Stepped p L t (Got key answer) v) (sym h.1) (asked t key answer a b (known_none t key lasts e) h.0 of)
  got t key answer a b u (Some r) lasts e h of =
      subst (λ v. Stepped p L t (Got key answer) v) (sym h.1) (step_known p L t key answer lasts (e ∙ ap Some (sym h.0)))

  wrote : (t : Progress) (write : Write) (answer : Result ⊤ Refusal) (u : Progress) (o : Option Refusal) →
      MatchOption o (IsOk answer × (u ≡ with_write t write)) (λ r. (answer ≡ Err r) × (u ≡ t)) → Stepped p L t (Wrote write answer) u
  wrote t write (Ok nothing) u None h = subst (λ v. Stepped p L t (Wrote write (Ok nothing)) v) (sym h.1) (step_done p L t write nothing)
  wrote t write (Err r) u None h = absurd (let q : false ≡ true = h.0 in cc)
  wrote t write (Ok nothing) u (Some r) h = absurd (let q : Ok nothing ≡ Err r = h.0 in cc)
  wrote t write (Err s) u (Some r) h = subst (λ v. Stepped p L t (Wrote write (Err s)) v) (sym h.1) (step_undone p L t write s)

  pub stepped : (t : Progress) (call : Call) (u : Progress) → t.ended ≡ false → Does gives are_of p L t call u → Stepped p L t call u
  stepped t (Got key answer) u lasts h = got t key answer h.0 h.1.0 u (known t key) lasts refl h.1.1.0 h.1.1.1
  stepped t (Wrote write answer) u lasts h = wrote t write answer u (write_refusal t write) h
