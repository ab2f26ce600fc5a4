-- What a donor's reads leave at its replica, one part after another.
use Rattle.std.proofs.Common.{◌≡◌, ◌≢◌, Bool, true, false, Option, None, Some, Result, Ok, Err, inl, inr, refl, sym, ap, subst, ◌∙◌, IfErr, ℕ, List}
use Rattle.std.specs.Prelude.{◌⊎◌, ◌||◌, is_some, IsOk, IsErr, OnOk}
use Rattle.rep_types.specs.declared.refusal.Refusal.{Refusal}
use Rattle.rep_types.specs.declared.refusal.Refusal.TheVariants.{StreamFault, DiskFault, Corrupt}
use Rattle.rep_types.specs.declared.refusal.Part.{Part}
use Rattle.rep_types.proofs.Choices.{neither_some}
use Rattle.rep_disk.specs.declared.disk.Disk.{Ghosts}
use Rattle.rep_disk.specs.History.{History, seen}
use Rattle.rep_disk.specs.Calls.{Rises}
use Rattle.rep_layout.specs.declared.place.Layout.{Layout}
use Rattle.rep_layout.specs.declared.super_body.SuperBody.{SuperBody}
use Rattle.rep_cells.specs.Readings.{Reading, reading_of}
use Rattle.rep_log.specs.declared.phase.Phase.{Phase}
use Rattle.rep_log.specs.Moves.{fault_of}
use Rattle.rep_log.specs.Standing.{Standing as Log}
use Rattle.rep_steps.specs.Nodes.{Node}
use Rattle.rep_replica.specs.EngineReading.{halted_by}
use Rattle.rep_replica.specs.Replicas.{Replica}
use Rattle.rep_replica.specs.Holding.{Holds}
use Rattle.rep_replica.specs.Asking.{IsAsked}
use Rattle.rep_replica.specs.Donating.{Asks}
use Rattle.rep_streams.specs.Streams.{Notes}
use Rattle.rep_transfer.specs.Writing.{Wrote}
use Rattle.rep_catchup.specs.Donating.{EndsEarly, IsRunning, Leaves, as_seen, IsBadPart}

-- ---- whether it is stopped

neither : {T : Type 0} (inside : Bool) (halted : Option T) → inside ≡ false → halted ≡ None → (inside || is_some halted) ≡ false
neither true halted off none = absurd (let never : true ≡ false = off in cc)
neither false None off none = refl
neither false (Some x) off none = absurd cc

-- ---- whether the writer has failed

pub notes_none : {T : Type 0} (noted : Bool) (x : T) → Notes noted noted (Ok x)
notes_none noted x = record { fault = λ is. absurd cc; fine = λ other. refl }

pub notes_passed : {T U : Type 0} (before after : Bool) (e : Refusal) → Notes {T = T} before after (Err e) → Notes {T = U} before after (Err e)
notes_passed before after e notes = record {
  fault = λ is. notes.fault (let same : e ≡ StreamFault = cc in ap Err same);
  fine = λ other. notes.fine (λ is. other (let same : e ≡ StreamFault = cc in ap Err same));
}

-- nothing had failed before
pub notes_behind : {T : Type 0} (before mid after : Bool) (result : Result T Refusal) → mid ≡ before → Notes mid after result → Notes before after result
notes_behind before mid after result same notes = subst (λ (noted : Bool). Notes noted after result) same notes

pub notes_more : {T : Type 0} (before mid after : Bool) (x : T) → mid ≡ before → Notes mid after (Ok x) → after ≡ before
notes_more before mid after x same notes = notes.fine (λ is. absurd cc) ∙ same

-- the part that was asked for
pub asked_part : {T : Type 0} (part other : Part) (result : Result T Refusal) → IfErr result (λ e. (e ≡ DiskFault) ⊎ (e ≡ Corrupt part)) → result ≡ Err (Corrupt other) → other ≡ part
asked_part part other (Ok x) is same = absurd cc
asked_part part other (Err e) (inl fault) same = absurd cc
asked_part part other (Err e) (inr corrupt) same = let one : part ≡ other = cc in sym one

module _ {D : Type 0} (g : Ghosts D) where
  -- ---- the device was read alone

  pub reads_none : (r : Replica D) → IsAsked g r r
  reads_none r = record { rest = refl; stays_honest = λ h. h; same = λ h. refl; halts = inl refl; still = λ n h same. h }

  -- what stopped it: one of the two, or none
  abbrev Halts : Replica D → Replica D → Type 0
  Halts a b = (b.engine.halted ≡ a.engine.halted) ⊎ ((a.engine.halted ≡ None) × (b.engine.halted ≡ Some a.engine.log.phase))

  halts_then : (a b c : Replica D) → b.engine.log.phase ≡ a.engine.log.phase → Halts a b → Halts b c → Halts a c
  halts_then a b c phase (inl same) (inl again) = inl (again ∙ same)
  halts_then a b c phase (inl same) (inr halts) = inr (sym same ∙ halts.0, halts.1 ∙ ap Some phase)
  halts_then a b c phase (inr halts) (inl again) = inr (halts.0, again ∙ halts.1)
  halts_then a b c phase (inr halts) (inr never) = absurd (let not : None ≡ Some a.engine.log.phase = sym never.0 ∙ halts.1 in cc)

  -- where neither stopped it, the first did not
  none_stopped : (a b c : Replica D) → Halts a b → Halts b c → c.engine.halted ≡ a.engine.halted → (b.engine.halted ≡ a.engine.halted) × (c.engine.halted ≡ b.engine.halted)
  none_stopped a b c (inl same) second is = (same, is ∙ sym same)
  none_stopped a b c (inr halts) (inl again) is = absurd (let not : None ≡ Some a.engine.log.phase = sym halts.0 ∙ sym is ∙ again ∙ halts.1 in cc)
  none_stopped a b c (inr halts) (inr never) is = absurd (let not : None ≡ Some a.engine.log.phase = sym never.0 ∙ halts.1 in cc)

  pub reads_then : (a b c : Replica D) → IsAsked g a b → IsAsked g b c → IsAsked g a c
  reads_then a b c first second = record {
    rest = second.rest ∙ ap (λ (r : Replica D). record r { engine = record r.engine { disk = c.engine.disk; halted = c.engine.halted } }) first.rest;
    stays_honest = λ h. second.stays_honest (first.stays_honest h);
    same = λ h. second.same (first.stays_honest h) ∙ first.same h;
    halts = halts_then a b c (ap (λ (r : Replica D). r.engine.log.phase) first.rest) first.halts second.halts;
    still = λ n h is. let each = none_stopped a b c first.halts second.halts is in second.still n (first.still n h each.0) each.1;
  }

  -- ---- what a part leaves

  -- what the device showed before
  pub seen_before : (a b : Replica D) (P : Reading → Layout → SuperBody → Log → Type 0) → IsAsked g a b → g.honest a.engine.disk → P (as_seen g b.engine) b.engine.layout b.engine.checkpoint.base b.engine.log → P (as_seen g a.engine) a.engine.layout a.engine.checkpoint.base a.engine.log
  seen_before a b P reads is_honest there =
      let here = subst (λ (r : Replica D). P (reading_of r.engine.layout (seen (g.history b.engine.disk))) r.engine.layout r.engine.checkpoint.base r.engine.log) reads.rest there in
      subst (λ (h : History). P (reading_of a.engine.layout (seen h)) a.engine.layout a.engine.checkpoint.base a.engine.log) (reads.same is_honest) here

  -- nothing was asked
  pub leaves_all : {T : Type 0} (r : Replica D) (noted : Bool) (x : T) → IsRunning r → Leaves g r r noted noted (Ok x)
  leaves_all r noted x runs = record {
    reads = reads_none r;
    runs = runs;
    holds = λ n h other. h;
    refused = tt;
    whole = λ n h part is. absurd cc;
    fault = λ is. absurd cc;
    no_fault = λ other. refl;
    halts = λ other. refl;
    bad = λ h part is. absurd cc;
    notes = notes_none noted x;
  }

  -- the writer failed
  pub leaves_cut : {T : Type 0} (r : Replica D) (before after : Bool) (e : Refusal) → e ≡ StreamFault → Notes {T = T} before after (Err e) → Leaves {T = T} g r r before after (Err e)
  leaves_cut r before after e is notes = record {
    reads = reads_none r;
    runs = tt;
    holds = λ n h other. h;
    refused = inl is;
    whole = λ n h part same. absurd cc;
    fault = λ same. absurd cc;
    no_fault = λ other. refl;
    halts = λ other. refl;
    bad = λ h part same. absurd cc;
    notes = notes;
  }

  -- the device was asked
  runs_on : {T : Type 0} (old new : Replica D) (phase : Phase) (result : Result T Refusal) → new.stopped ≡ old.stopped → IsRunning old → new.engine.halted ≡ halted_by phase result → OnOk result (IsRunning new)
  runs_on old new phase (Ok x) same runs none = neither new.stopped new.engine.halted (same ∙ (neither_some old.stopped old.engine.halted runs).0) none
  runs_on old new phase (Err e) same runs none = tt

  module _ {T : Type 0} (part : Part) where
    abbrev Told : Result T Refusal → Type 0
    Told result = IfErr result (λ e. (e ≡ DiskFault) ⊎ (e ≡ Corrupt part))

    early : (result : Result T Refusal) → Told result → IfErr result EndsEarly
    early (Ok x) is = tt
    early (Err e) (inl fault) = inr (inl fault)
    early (Err e) (inr corrupt) = inr (inr (part, corrupt))

    whole_of : (other : Part) (result : Result T Refusal) → Told result → result ≢ Err (Corrupt part) → result ≢ Err (Corrupt other)
    whole_of other (Ok x) is not same = absurd cc
    whole_of other (Err e) (inl fault) not same = absurd cc
    whole_of other (Err e) (inr corrupt) not same = not (ap Err corrupt)

    told : (result : Result T Refusal) → Told result → result ≢ Err DiskFault → IsOk (fault_of result)
    told (Ok x) is other = refl
    told (Err e) (inl fault) other = absurd (other (ap Err fault))
    told (Err e) (inr corrupt) other = subst (λ (r : Refusal). IsOk (fault_of {T = ℕ} (Err r))) (sym corrupt) refl

    not_halted_by : (phase : Phase) (result : Result T Refusal) → Told result → result ≢ Err DiskFault → halted_by phase result ≡ None
    not_halted_by phase (Ok x) is other = refl
    not_halted_by phase (Err e) (inl fault) other = absurd (other (ap Err fault))
    not_halted_by phase (Err e) (inr corrupt) other = subst (λ (r : Refusal). halted_by {T = ℕ} phase (Err r) ≡ None) (sym corrupt) refl

    bad_of : (P : Part → Type 0) (other : Part) (result : Result T Refusal) → Told result → (result ≡ Err (Corrupt part) → P part) → result ≡ Err (Corrupt other) → P other
    bad_of P other (Ok x) is here same = absurd cc
    bad_of P other (Err e) (inl fault) here same = absurd cc
    bad_of P other (Err e) (inr corrupt) here same = let one : part ≡ other = cc in subst P one (here (ap Err corrupt))

    no_stream : (result : Result T Refusal) → Told result → result ≢ Err StreamFault
    no_stream (Ok x) is same = absurd cc
    no_stream (Err e) (inl fault) same = absurd cc
    no_stream (Err e) (inr corrupt) same = absurd cc

  pub leaves_asked : {T : Type 0} (part : Part) (old new : Replica D) (noted : Bool) (result : Result T Refusal) → Asks g part old new result → IsAsked g old new → IsRunning old
      → ((n : Node) → Holds g n old → result ≢ Err DiskFault → Holds g n new) → ((n : Node) → Holds g n old → result ≢ Err (Corrupt part))
      → (g.honest old.engine.disk → result ≡ Err (Corrupt part) → IsBadPart (as_seen g old.engine) old.engine.layout old.engine.checkpoint.base old.engine.log part) → Leaves g old new noted noted result
  leaves_asked part old new noted result asked alone runs still whole bad = record {
    reads = alone;
    runs = runs_on old new old.engine.log.phase result (ap (λ (r : Replica D). r.stopped) asked.rest) runs (asked.running runs).0;
    holds = still;
    refused = early part result (asked.running runs).1;
    whole = λ n h other. whole_of part other result (asked.running runs).1 (whole n h);
    fault = λ is. (
      asked.call.cause (subst (λ r. IsErr (fault_of r)) (sym is) refl),
      ap is_some ((asked.running runs).0 ∙ ap (halted_by old.engine.log.phase) is),
    );
    no_fault = λ other. asked.call.no_cause (told part result (asked.running runs).1 other);
    halts = λ other. (asked.running runs).0 ∙ not_halted_by part old.engine.log.phase result (asked.running runs).1 other ∙ sym ((neither_some old.stopped old.engine.halted runs).1);
    bad = λ h other. bad_of part (IsBadPart (as_seen g old.engine) old.engine.layout old.engine.checkpoint.base old.engine.log) other result (asked.running runs).1 (bad h);
    notes = record { fault = λ is. absurd (no_stream part result (asked.running runs).1 is); fine = λ other. refl };
  }

  pub leaves_noted : {T : Type 0} (r : Replica D) (before after : Bool) (x : T) → Notes before after (Ok x) → IsRunning r → Leaves g r r before after (Ok x)
  leaves_noted r before after x notes runs = subst (λ (noted : Bool). Leaves g r r before noted (Ok x)) (sym (notes.fine (λ is. absurd cc))) (leaves_all r before x runs)

  -- the writer was asked
  pub leaves_wrote : (r : Replica D) (before after : Bool) (a b : Option (List ℕ)) (bytes : List ℕ) (result : Result (Unit {0}) Refusal) → Wrote a b bytes result → Notes before after result → IsRunning r → Leaves g r r before after result
  leaves_wrote r before after a b bytes (Ok x) w notes runs = leaves_noted r before after x notes runs
  leaves_wrote r before after a b bytes (Err e) w notes runs = leaves_cut r before after e w.refused notes

  -- one part after another
  pub leaves_then : {T U : Type 0} (a b c : Replica D) (before mid after : Bool) (x : T) (result : Result U Refusal) → Leaves g a b before mid (Ok x) → Leaves g b c mid after result → Leaves g a c before after result
  leaves_then a b c before mid after x result first second = record {
    reads = reads_then a b c first.reads second.reads;
    runs = second.runs;
    holds = λ n h other. second.holds n (first.holds n h (λ is. absurd cc)) other;
    refused = second.refused;
    whole = λ n h part. second.whole n (first.holds n h (λ is. absurd cc)) part;
    fault = λ is.
        let risen = second.fault is in
        (subst (λ (k : ℕ). Rises k (g.failures c.engine.disk)) (first.no_fault (λ never. absurd cc)) risen.0, risen.1);
    no_fault = λ other. second.no_fault other ∙ first.no_fault (λ never. absurd cc);
    halts = λ other. second.halts other ∙ first.halts (λ never. absurd cc);
    bad = λ h part is. seen_before a b (λ r l base log. IsBadPart r l base log part) first.reads h (second.bad (first.reads.stays_honest h) part is);
    notes = subst (λ (noted : Bool). Notes noted after result) (first.notes.fine (λ never. absurd cc)) second.notes;
  }

  -- a refusal is passed on
  pub leaves_passed : {T U : Type 0} (a b : Replica D) (before after : Bool) (e : Refusal) → Leaves {T = T} g a b before after (Err e) → Leaves {T = U} g a b before after (Err e)
  leaves_passed a b before after e left = record {
    reads = left.reads;
    runs = tt;
    holds = λ n h other. left.holds n h (λ is. other (let same : e ≡ DiskFault = cc in ap Err same));
    refused = left.refused;
    whole = λ n h part is. left.whole n h part (let same : e ≡ Corrupt part = cc in ap Err same);
    fault = λ is. left.fault (let same : e ≡ DiskFault = cc in ap Err same);
    no_fault = λ other. left.no_fault (λ is. other (let same : e ≡ DiskFault = cc in ap Err same));
    halts = λ other. left.halts (λ is. other (let same : e ≡ DiskFault = cc in ap Err same));
    bad = λ h part is. left.bad h part (let same : e ≡ Corrupt part = cc in ap Err same);
    notes = notes_passed before after e left.notes;
  }

  -- and so is a value
  pub leaves_given : {T U : Type 0} (a b : Replica D) (before after : Bool) (x : T) (y : U) → Leaves g a b before after (Ok x) → Leaves g a b before after (Ok y)
  leaves_given a b before after x y left = record {
    reads = left.reads;
    runs = left.runs;
    holds = λ n h other. left.holds n h (λ is. absurd cc);
    refused = tt;
    whole = λ n h part is. absurd cc;
    fault = λ is. absurd cc;
    no_fault = λ other. left.no_fault (λ is. absurd cc);
    halts = λ other. left.halts (λ is. absurd cc);
    bad = λ h part is. absurd cc;
    notes = record { fault = λ is. absurd cc; fine = λ other. left.notes.fine (λ is. absurd cc) };
  }

  -- what it still stands for
  pub still_holds : {T : Type 0} (a b : Replica D) (before after : Bool) (x : T) (n : Node) → Leaves g a b before after (Ok x) → Holds g n a → Holds g n b
  still_holds a b before after x n left h = left.holds n h (λ is. absurd cc)

  -- the base, the log and the layout stay
  pub same_of : {R : Type 0} (f : Replica D → R) (a b : Replica D) → IsAsked g a b → f (record a { engine = record a.engine { disk = b.engine.disk; halted = b.engine.halted } }) ≡ f a → f b ≡ f a
  same_of f a b reads is = ap f reads.rest ∙ is
