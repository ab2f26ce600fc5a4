-- The window of a base, as a donor writes it.
use Rattle.std.proofs.Common.{◌≡◌, ℕ, ◌^◌, ◌<◌, true, List, [], ◌∷◌, ◌++◌, length, Option, Result, Ok, Err, ap, subst, ◌∙◌, append_assoc}
use Rattle.std.specs.List.{flat_map}
use Rattle.std.specs.Io.KnownBytes.{Appends}
use Rattle.std.proofs.KnownBytes.{Appends-trans}
use Rattle.rep_types.specs.declared.refusal.Refusal.{Refusal}
use Rattle.rep_types.specs.declared.reach.Reach.{Reach}
use Rattle.rep_types.specs.Settings.{is_setting}
use Rattle.rep_types.specs.Windows.{Window as Kept, fixed}
use Rattle.rep_forms.specs.Forms.{number_bytes}
use Rattle.rep_forms.specs.Entries.{entry_bytes}
use Rattle.rep_layout.specs.declared.format.Format.TheVariants.{Two}
use Rattle.rep_layout.specs.declared.super_body.SuperBody.{SuperBody}
use Rattle.rep_layout.specs.Windows.{Window as WindowBody, beside, IsWindowBody}
use Rattle.rep_transfer.specs.Transfers.{reach_bytes}
use Rattle.rep_transfer.specs.Writing.{Wrote}
use Rattle.rep_catchup.specs.Snapshots.{reaching}
use Rattle.rep_catchup.specs.Donating.{StandsBeside, window_part, WroteFront, Writes}
use Rattle.rep_catchup.proofs.DonateWrites.{front_before, front_behind, front_of_wrote, front_none}
use Rattle.rep_catchup.proofs.WindowLimits.{fixed_told, fixed_stands}

-- there is such a window: that without entries
pub some_window : (b : SuperBody) → is_setting b.params ≡ true → b.position < 2 ^ 64 → StandsBeside b (fixed b.params.window b.position [])
some_window b setting small = record { setting = setting; position = small; format = fixed_told b.format b.params b.position; kept = fixed_stands b.params b.position setting }

-- nothing was written
pub window_none : (b : SuperBody) (Known : Kept → Type 0) (a : Option (List ℕ)) (e : Refusal) → is_setting b.params ≡ true → b.position < 2 ^ 64 → Writes {T = Unit {0}} (window_part b) (StandsBeside b) (λ _. Known) a a (Err e)
window_none b Known a e setting small = let v = fixed b.params.window b.position [] in record { done = tt; cut = (v, some_window b setting small, front_none a (window_part b v)) }

-- what was written of a reader's window: the position that a snapshot begins with, size and floor, the number of entries, and these
module _ (b : SuperBody) (w : WindowBody) (position count : ℕ) (r : Reach) (a c d e : Option (List ℕ)) (setting : is_setting b.params ≡ true) (shown : (w ≡ beside b w.kept) × IsWindowBody b.params w) (position_is : position ≡ b.position)
    (reach_is : r ≡ record { size = w.kept.size; floor = w.kept.floor }) (count_is : count ≡ length w.kept.entries) where
  abbrev told_front : List ℕ
  told_front = 83 ∷ (number_bytes 8 position ++ reach_bytes Two (reaching r w.kept.entries))

  abbrev front : List ℕ
  front = 83 ∷ number_bytes 8 b.position

  abbrev reach : List ℕ
  reach = reach_bytes Two w.kept

  abbrev number : List ℕ
  number = number_bytes 2 (length w.kept.entries)

  abbrev entries : List ℕ
  entries = flat_map entry_bytes w.kept.entries

  front_is : told_front ≡ front ++ reach
  front_is =
      ap (λ (k : ℕ). 83 ∷ (number_bytes 8 k ++ reach_bytes Two (reaching r w.kept.entries))) position_is
      ∙ ap (λ (q : Reach). front ++ reach_bytes Two (reaching q w.kept.entries)) reach_is

  number_is : number_bytes 2 count ≡ number
  number_is = ap (number_bytes 2) count_is

  whole : (front ++ reach) ++ (number ++ entries) ≡ window_part b w.kept
  whole = append_assoc front reach (number ++ entries)

  stands : StandsBeside b w.kept
  stands = let body = subst (IsWindowBody b.params) shown.0 shown.1 in record { setting = setting; position = body.position; format = body.format; kept = body.kept }

  pub window_cut : (Known : Kept → Type 0) (x : Refusal) → Wrote a c told_front (Err x) → Writes {T = Unit {0}} (window_part b) (StandsBeside b) (λ _. Known) a c (Err x)
  window_cut Known x wrote = record {
    done = tt;
    cut = (w.kept, stands, subst (WroteFront a c) whole (front_before a c (front ++ reach) (number ++ entries) (subst (WroteFront a c) front_is (front_of_wrote a c told_front x wrote))));
  }

  pub window_cut_behind : (Known : Kept → Type 0) (x : Refusal) → Appends a c told_front → Wrote c d (number_bytes 2 count) (Err x) → Writes {T = Unit {0}} (window_part b) (StandsBeside b) (λ _. Known) a d (Err x)
  window_cut_behind Known x began wrote = record {
    done = tt;
    cut = (
      w.kept,
      stands,
      subst (WroteFront a d) whole (front_behind a c d (front ++ reach) (number ++ entries) (subst (Appends a c) front_is began)
          (front_before c d number entries (subst (WroteFront c d) number_is (front_of_wrote c d (number_bytes 2 count) x wrote)))),
    );
  }

  pub window_writes : (Known : Kept → Type 0) → Known w.kept → Appends a c told_front → Appends c d (number_bytes 2 count) → (result : Result (Unit {0}) Refusal) → Wrote d e entries result → Writes (window_part b) (StandsBeside b) (λ _. Known) a e result
  window_writes Known known began counted (Ok x) wrote = record {
    done = (
      w.kept,
      stands,
      known,
      subst (Appends a e) whole (Appends-trans a c e (front ++ reach) (number ++ entries) (subst (Appends a c) front_is began) (Appends-trans c d e number entries (subst (Appends c d) number_is counted) wrote.done)),
    );
    cut = tt;
  }
  window_writes Known known began counted (Err x) wrote = record {
    done = tt;
    cut = (
      w.kept,
      stands,
      subst (WroteFront a e) whole (front_behind a c e (front ++ reach) (number ++ entries) (subst (Appends a c) front_is began)
          (front_behind c d e number entries (subst (Appends c d) number_is counted) (front_of_wrote d e entries x wrote))),
    );
  }
