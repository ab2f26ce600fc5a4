-- Calls one after another.
use Rattle.std.proofs.Common.{◌≡◌, ℕ, zero, suc, ◌+◌, ◌≤◌, inl, inr, List, [], ◌∷◌, length, get_or, Result, Ok, Err, IsErr, OnOk, OnErr, refl, sym, ap, subst, ◌∙◌, arith}
use Rattle.std.proofs.lemmas.Bool.{false≢true}
use Rattle.std.proofs.lemmas.Result.{on_ok_weaker}
use Rattle.rep_types.specs.declared.refusal.Refusal.{Refusal}
use Rattle.rep_disk.specs.declared.disk.Disk.{Ghosts}
use Rattle.rep_disk.specs.declared.disk.DiskFault.{DiskFault}
use Rattle.rep_disk.specs.Bytes.{put}
use Rattle.rep_disk.specs.History.{History, Wrote, Synced, seen}
use Rattle.rep_disk.specs.Calls.{Rises, MaySpoil}
use Rattle.rep_disk.specs.Devices.{Calls}
use Rattle.rep_layout.specs.declared.place.Layout.{Layout}
use Rattle.rep_layout.specs.declared.place.Place.{Place}
use Rattle.rep_cells.specs.States.{State, States, Moves, Syncs}
use Rattle.rep_cells.specs.Calls.{Writes, WritesOnly, StepsAt, Settles}
use Rattle.rep_log.specs.Moves.{fault_of}
use Rattle.rep_recover.specs.Going.{Goes, StaysFrom, pages_at}

-- ---- calls

-- no call
pub no_call : {D : Type 0} (g : Ghosts D) (disk : D) → Calls {T = Unit {0}} g disk disk (Ok tt)
no_call g disk = record { same_size = refl; stays_honest = λ h. h; was_honest = λ h. h; cause = λ e. absurd (false≢true e); no_cause = λ e. refl }

-- one behind another that succeeded
pub calls : {D T U : Type 0} (g : Ghosts D) (a b d : D) (x : T) (r : Result U DiskFault) → Calls {T = T} g a b (Ok x) → Calls g b d r → Calls g a d r
calls g a b d x r first second = record {
  same_size = second.same_size ∙ first.same_size;
  stays_honest = λ h. second.stays_honest (first.stays_honest h);
  was_honest = λ h. first.was_honest (second.was_honest h);
  cause = λ e. subst (λ (n : ℕ). Rises n (g.failures d)) (first.no_cause refl) (second.cause e);
  no_cause = λ e. second.no_cause e ∙ first.no_cause refl;
}

-- a call that failed, and another result that is a failure too
pub failed_call : {D T U : Type 0} (g : Ghosts D) (a b : D) (r : Result T DiskFault) (q : Result U DiskFault) → IsErr r → IsErr q → Calls g a b r → Calls g a b q
failed_call g a b r (Ok x) e f call = absurd (false≢true f)
failed_call g a b r (Err x) e f call = record { same_size = call.same_size; stays_honest = call.stays_honest; was_honest = call.was_honest; cause = λ ok. call.cause e; no_cause = λ ok. absurd (false≢true ok) }

-- ---- what stays

-- a write elsewhere leaves a byte
pub elsewhere : (xs : List ℕ) (at : ℕ) (bytes : List ℕ) (byte : ℕ) → at + length bytes ≤ byte → get_or (put xs at bytes) byte 0 ≡ get_or xs byte 0
elsewhere [] at bytes byte le = refl
elsewhere (x ∷ xs) at [] byte le = refl
elsewhere (x ∷ xs) zero (b ∷ bytes) zero le = absurd (omega (arith, le))
elsewhere (x ∷ xs) zero (b ∷ bytes) (suc byte) le = elsewhere xs zero bytes byte (omega (arith, le))
elsewhere (x ∷ xs) (suc at) (b ∷ bytes) zero le = absurd (omega (arith, le))
elsewhere (x ∷ xs) (suc at) (b ∷ bytes) (suc byte) le = elsewhere xs at (b ∷ bytes) byte (omega (arith, le))

pub stays_written : (from at : ℕ) (bytes : List ℕ) (old new : History) → at + length bytes ≤ from → new ≡ Wrote at bytes old → StaysFrom from old new
stays_written from at bytes old new le is byte past = ap (λ (h : History). get_or (seen h) byte 0) is ∙ elsewhere (seen old) at bytes byte (omega (arith, le, past))

pub stays_spoiled : (from at n : ℕ) (old new : History) → at + n ≤ from → MaySpoil at n old new → StaysFrom from old new
stays_spoiled from at n old new le (inl is) byte past = ap (λ (h : History). get_or (seen h) byte 0) is
stays_spoiled from at n old new le (inr is) byte past = ap (λ (h : History). get_or (seen h) byte 0) is.2 ∙ elsewhere (seen old) at is.0 byte (omega (arith, le, past, is.1))

stays_after : {T : Type 0} (from at : ℕ) (bytes : List ℕ) (old new : History) (r : Result T DiskFault) → at + length bytes ≤ from → Writes at bytes old new r → StaysFrom from old new
stays_after from at bytes old new (Ok x) le is = stays_written from at bytes old new le is.done
stays_after from at bytes old new (Err e) le is = stays_spoiled from at (length bytes) old new le is.failed

stays_synced : {T : Type 0} (from : ℕ) (old new : History) (r : Result T DiskFault) → OnOk r (new ≡ Synced old) → OnErr r (new ≡ old) → StaysFrom from old new
stays_synced from old new (Ok x) is not byte past = ap (λ (h : History). get_or (seen h) byte 0) is
stays_synced from old new (Err e) is not byte past = ap (λ (h : History). get_or (seen h) byte 0) not

-- ---- one call, and several

module _ {D : Type 0} (g : Ghosts D) (l : Layout) where
  -- a write in a place before the pages
  pub goes_by :
      {T : Type 0} (P Q : States → Type 0) (place : Place) (step : State → State) (at : ℕ) (bytes : List ℕ) (old new : D) (r : Result T DiskFault) → Calls g old new r
      → WritesOnly g at bytes old new r → at + length bytes ≤ pages_at l → StepsAt g l place step old new r → ((s t : States) → P s → Moves s t place step → Q t)
      → Goes g l P Q old new r
  goes_by P Q place step at bytes old new r call writes le steps so = record {
    call = call;
    stays = λ h. stays_after (pages_at l) at bytes (g.history old) (g.history new) r le (writes h);
    leads = λ h s assigns is. (let stepped = steps h s assigns in on_ok_weaker r (λ a. (stepped.after, a, so s stepped.after is stepped.moves)) stepped.reaches.ok);
  }

  -- a sync
  pub goes_synced : {T : Type 0} (P Q : States → Type 0) (old new : D) (r : Result T DiskFault) → Calls g old new r
      → (g.honest old → OnOk r (g.history new ≡ Synced (g.history old))) → (g.honest old → OnErr r (g.history new ≡ g.history old)) → Settles g l old new r → ((s t : States) → P s → Syncs s t → Q t)
      → Goes g l P Q old new r
  goes_synced P Q old new r call synced unsynced settles so = record {
    call = call;
    stays = λ h. stays_synced (pages_at l) (g.history old) (g.history new) r (synced h) (unsynced h);
    leads = λ h s assigns is. (let settled = settles h s assigns in on_ok_weaker r (λ a. (settled.after, a, so s settled.after is settled.syncs)) settled.reaches.ok);
  }

  -- nothing
  pub goes_nowhere : (P : States → Type 0) (disk : D) → Goes {T = Unit {0}} g l P P disk disk (Ok tt)
  goes_nowhere P disk = record { call = no_call g disk; stays = λ h byte past. refl; leads = λ h s assigns is. (s, assigns, is) }

  -- one behind another
  pub goes_on :
      {T U : Type 0} (P Q R : States → Type 0) (m : Layout) (a b d : D) (x : T) (r : Result U DiskFault) → m ≡ l → Goes g l P Q a b (Ok x) → Goes g m Q R b d r
      → Goes g l P R a d r
  goes_on P Q R m a b d x r same first second =
      let next = subst (λ (k : Layout). Goes g k Q R b d r) same second in
      record {
        call = calls g a b d x r first.call next.call;
        stays = λ h byte past. next.stays (first.call.stays_honest h) byte past ∙ first.stays h byte past;
        leads = λ h s assigns is. (let mid = first.leads h s assigns is in next.leads (first.call.stays_honest h) mid.0 mid.1 mid.2);
      }

  -- where it fails, nothing is said of what it would lead to
  pub goes_wrong :
      {T U : Type 0} (P Q R : States → Type 0) (a b : D) (r : Result T DiskFault) (q : Result U DiskFault) → IsErr r → IsErr q → Goes g l P Q a b r → Goes g l P R a b q
  goes_wrong P Q R a b r (Ok x) e f goes = absurd (false≢true f)
  goes_wrong P Q R a b r (Err x) e f goes = record { call = failed_call g a b r (Err x) e f goes.call; stays = goes.stays; leads = λ h s assigns is. tt }

-- what the device answered, as a refusal: the one succeeded where the other did
pub on_ok_refused : (P : Type 0) (r : Result (Unit {0}) Refusal) (a : Result (Unit {0}) DiskFault) → fault_of r ≡ a → OnOk a P → OnOk r P
on_ok_refused P (Ok x) a is h = subst (λ (b : Result (Unit {0}) DiskFault). OnOk b P) (sym is) h
on_ok_refused P (Err e) a is h = tt
