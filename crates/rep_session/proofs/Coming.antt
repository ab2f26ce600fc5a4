-- All calls of a session, and what it comes to.
use Rattle.std.proofs.Common.{◌≡◌, ℕ, Bool, true, false, List, [], ◌∷◌, ◌++◌, length, Contains, Option, None, Some, Result, Ok, Err, refl, sym, ap, ◌∙◌, subst, inl, inr, ⊎_elim, arith}
use Rattle.std.specs.Prelude.{◌⊎◌, nat_lt, if◌then◌else◌}
use Rattle.std.specs.Option.{option_or}
use Rattle.rep_types.specs.declared.key.Key.{Key}
use Rattle.rep_types.specs.declared.value.Write.{Write}
use Rattle.rep_types.specs.declared.refusal.Refusal.{Refusal}
use Rattle.rep_types.specs.Settings.{Setting}
use Rattle.rep_types.specs.Transactions.{Transaction, transaction}
use Rattle.rep_types.specs.declared.item.Item.{Item}
use Rattle.rep_types.specs.Items.{reads_of, seen_by}
use Rattle.rep_types.specs.Order.{Order, item, read}
use Rattle.rep_types.specs.Verdicts.{ReadsAreSerial}
use Rattle.rep_types.proofs.Choices.{option_or_assoc, option_or_none}
use Rattle.rep_session.specs.declared.finished.Finished.TheVariants.{ReadOnly, WriteSet}
use Rattle.rep_session.specs.Sessions.{Progress, begun, write_of}
use Rattle.rep_session.specs.Runs.{Call, Got, Wrote, Runs, done, last_write, WasGot, SessionsComeTo, SessionsAreSerial}
use Rattle.rep_session.proofs.Stepping.{Stepped, stepped}

-- the last write of more calls
last_more : (call : Call) (calls : List Call) (key : Key) → last_write (done (call ∷ calls)) key ≡ option_or (last_write (done calls) key) (last_write (done (call ∷ [])) key)
last_more (Got k answer) calls key = sym (option_or_none (last_write (done calls) key))
last_more (Wrote write (Ok nothing)) calls key = refl
last_more (Wrote write (Err refusal)) calls key = sym (option_or_none (last_write (done calls) key))

-- the same of a session that had read and written something before
pub record ReadFrom (t : Progress) (calls : List Call) (key : Key) (row : Option (List ℕ)) : Type 0 where
  pub got : WasGot calls key row
  pub unwritten : option_or (last_write (done got.before) key) (write_of t.writes key) ≡ None

pub record Came (p : Setting) (L : Order) (t : Progress) (calls : List Call) (u : Progress) : Type 0 where
  pub source : u.source ≡ t.source
  pub trx : u.trx ≡ t.trx
  pub snapshot : u.snapshot ≡ t.snapshot
  pub writes : (key : Key) → write_of u.writes key ≡ option_or (last_write (done calls) key) (write_of t.writes key)
  pub once : (key : Key) → last_write t.writes key ≡ write_of t.writes key → last_write u.writes key ≡ write_of u.writes key
  pub kept : (key : Key) → Contains t.reads key → Contains u.reads key
  pub from : (key : Key) → Contains u.reads key → Contains t.reads key ⊎ ((row : Option (List ℕ)) × ReadFrom t calls key row)
  pub read_now : (key : Key) (row : Option (List ℕ)) → ReadFrom t calls key row → Contains u.reads key × (row ≡ read p L key t.snapshot)
  pub own : (key : Key) (answer : Option (List ℕ)) (write : Write) (got : WasGot calls key answer) →
      option_or (last_write (done got.before) key) (write_of t.writes key) ≡ Some write → answer ≡ write.value

-- of no call nothing was got
none_got : {X : Type 0} (before : List Call) (call : Call) (behind : List Call) → [] ≡ before ++ call ∷ behind → X
none_got [] call behind e = absurd cc
none_got (c ∷ before) call behind e = absurd cc

came_nowhere : (p : Setting) (L : Order) (t : Progress) → Came p L t [] t
came_nowhere p L t = record {
  source = refl;
  trx = refl;
  snapshot = refl;
  writes = λ key. refl;
  once = λ key old. old;
  kept = λ key has. has;
  from = λ key has. inl has;
  read_now = λ key row from. none_got from.got.before (Got key (Ok row)) from.got.behind from.got.whole;
  own = λ key answer write got is. none_got got.before (Got key (Ok answer)) got.behind got.whole;
}

module _ (p : Setting) (L : Order) (t mid u : Progress) (call : Call) (calls : List Call) (s : Stepped p L t call mid) (r : Came p L mid calls u) where
  -- what was written before, seen from before and from behind the first call
  prior : (before : List Call) (key : Key) → option_or (last_write (done before) key) (write_of mid.writes key) ≡ option_or (last_write (done (call ∷ before)) key) (write_of t.writes key)
  prior before key =
      ap (option_or (last_write (done before) key)) (s.writes key)
      ∙ sym (option_or_assoc (last_write (done before) key) (last_write (done (call ∷ [])) key) (write_of t.writes key))
      ∙ ap (λ o. option_or o (write_of t.writes key)) (sym (last_more call before key))

  read_by : (key : Key) (row : Option (List ℕ)) (before behind : List Call) → call ∷ calls ≡ before ++ Got key (Ok row) ∷ behind →
      option_or (last_write (done before) key) (write_of t.writes key) ≡ None → Contains u.reads key × (row ≡ read p L key t.snapshot)
  read_by key row [] behind whole none =
      let first : call ≡ Got key (Ok row) = cc in
      let now = s.read_now key row first none in
      (r.kept key now.0, now.1)
  read_by key row (c ∷ before) behind whole none =
      let first : call ≡ c = cc in
      let rest : calls ≡ before ++ Got key (Ok row) ∷ behind = cc in
      let later = r.read_now key row (record {
        got = record { before = before; behind = behind; whole = rest };
        unwritten = prior before key ∙ ap (λ x. option_or (last_write (done (x ∷ before)) key) (write_of t.writes key)) first ∙ none;
      }) in
      (later.0, later.1 ∙ ap (read p L key) s.snapshot)

  own_by : (key : Key) (answer : Option (List ℕ)) (write : Write) (before behind : List Call) → call ∷ calls ≡ before ++ Got key (Ok answer) ∷ behind →
      option_or (last_write (done before) key) (write_of t.writes key) ≡ Some write → answer ≡ write.value
  own_by key answer write [] behind whole is =
      let first : call ≡ Got key (Ok answer) = cc in
      s.own key answer write first is
  own_by key answer write (c ∷ before) behind whole is =
      let first : call ≡ c = cc in
      let rest : calls ≡ before ++ Got key (Ok answer) ∷ behind = cc in
      r.own key answer write (record { before = before; behind = behind; whole = rest })
      (prior before key ∙ ap (λ x. option_or (last_write (done (x ∷ before)) key) (write_of t.writes key)) first ∙ is)

  from_by : (key : Key) → Contains u.reads key → Contains t.reads key ⊎ ((row : Option (List ℕ)) × ReadFrom t (call ∷ calls) key row)
  from_by key has =
      ⊎_elim
      (λ now. ⊎_elim (λ old. inl old)
      (λ first. inr (first.0, record { got = record { before = []; behind = calls; whole = ap (λ x. x ∷ calls) first.1.0 }; unwritten = first.1.1 }))
      (s.from key now))
      (λ later. inr (
        later.0,
        record {
          got = record { before = call ∷ later.1.got.before; behind = later.1.got.behind; whole = ap (λ xs. call ∷ xs) later.1.got.whole };
          unwritten = sym (prior later.1.got.before key) ∙ later.1.unwritten;
        },
      ))
      (r.from key has)

  came_on : Came p L t (call ∷ calls) u
  came_on = record {
    source = r.source ∙ s.source;
    trx = r.trx ∙ s.trx;
    snapshot = r.snapshot ∙ s.snapshot;
    writes = λ key. r.writes key ∙ prior calls key;
    once = λ key old. r.once key (s.once key old);
    kept = λ key has. r.kept key (s.kept key has);
    from = from_by;
    read_now = λ key row from. read_by key row from.got.before from.got.behind from.got.whole from.unwritten;
    own = λ key answer write got is. own_by key answer write got.before got.behind got.whole is;
  }

module _ {S : Type 0} (gives : S → Key → ℕ → Result (Option (List ℕ)) Refusal → S → Type 0) (are_of : S → Setting → Order → Type 0)
    (law : (a b : S) (key : Key) (s : ℕ) (row : Option (List ℕ)) (p : Setting) (L : Order) → gives a key s (Ok row) b → are_of b p L → row ≡ read p L key s) where
  came : (p : Setting) (L : Order) (t : Progress) (calls : List Call) (u : Progress) → t.ended ≡ false → Runs gives are_of p L t calls u → Came p L t calls u
  came p L t [] u lasts h = subst (λ v. Came p L t [] v) h (came_nowhere p L t)
  came p L t (call ∷ calls) u lasts (mid, (does, runs)) =
      let s : Stepped p L t call mid = stepped gives are_of law p L t call mid lasts does in
      came_on p L t mid u call calls s (came p L mid calls u (s.ended ∙ lasts) runs)

  pub sessions_come : SessionsComeTo gives are_of
  sessions_come p L source trx snapshot tables calls u runs =
      let c : Came p L (begun source trx tables snapshot) calls u = came p L (begun source trx tables snapshot) calls u refl runs in
      record {
        source = c.source;
        trx = c.trx;
        snapshot = c.snapshot;
        reads = λ key. (
          (λ has. ⊎_elim (λ old. absurd (omega (arith, old.1)))
              (λ found. (found.0, record { got = found.1.got; unwritten = sym (option_or_none (last_write (done found.1.got.before) key)) ∙ found.1.unwritten }))
              (c.from key has)),
          (λ found. (c.read_now key found.0 (record { got = found.1.got; unwritten = option_or_none (last_write (done found.1.got.before) key) ∙ found.1.unwritten })).0),
        );
        writes = λ key. c.writes key ∙ option_or_none (last_write (done calls) key);
        once = λ key. c.once key refl;
        rows = λ key row was. (c.read_now key row (record { got = was.got; unwritten = option_or_none (last_write (done was.got.before) key) ∙ was.unwritten })).1;
        own = λ key answer write got is. c.own key answer write got (option_or_none (last_write (done got.before) key) ∙ is);
      }

  -- the write set of a session that ended with one
  set_of : (some : Bool) (w x : Transaction) → (if some then WriteSet w else ReadOnly) ≡ WriteSet x → w ≡ x
  set_of true w x e = cc
  set_of false w x e = absurd cc

  pub sessions_serial : ReadsAreSerial → SessionsAreSerial gives are_of
  sessions_serial serial p L source trx snapshot tables calls u n w runs first last is ends commit key row was =
      let c = sessions_come p L source trx snapshot tables calls u runs in
      let own : transaction u.source u.trx u.snapshot u.reads u.writes ≡ w = set_of (nat_lt 0 (length u.writes)) (transaction u.source u.trx u.snapshot u.reads u.writes) w ends in
      let has : Contains (reads_of (item L n)) key = subst (λ (i : Item). Contains (reads_of i) key) (sym is) (subst (λ (x : Transaction). Contains x.reads key) own ((c.reads key).1 (row, was))) in
      let seen : snapshot ≡ seen_by (item L n) = sym c.snapshot ∙ ap (λ (x : Transaction). x.last_seen) own ∙ sym (ap seen_by is) in
      c.rows key row was ∙ ap (read p L key) seen ∙ serial p L n key first last commit has
