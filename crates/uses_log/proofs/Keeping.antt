-- A vector keeps what it is given.
use Rattle.std.proofs.Common.{◌≡◌, ℕ, List, [], ◌∷◌, ◌++◌, sym, ap, ◌∙◌, append_assoc, append-nil}
use Rattle.rep_types.specs.declared.judged.Judged.{Judged}
use Rattle.rep_record.specs.declared.replays.Replays.{Ghosts}
use Rattle.rep_record.specs.Replaying.{Replayed}
use Rattle.rep_layout.specs.declared.place.Layout.{Layout}
use Rattle.rep_log.specs.Standing.{Standing}
use Rattle.rep_log.specs.Scanning.{Scans}

-- where taking a record puts it at the end, all of them are there
pub kept_all :
    {S : Type 0} (g : Ghosts S) (items_of : S → List Judged) → ((s : S) (j : Judged) (t : S) → g.takes s j t → items_of t ≡ items_of s ++ j ∷ [])
    → (s t : S) (records : List Judged) → Replayed g s records t → items_of t ≡ items_of s ++ records
kept_all g items_of keeps s t [] h = ap items_of (sym h) ∙ sym (append-nil (items_of s))
kept_all g items_of keeps s t (j ∷ records) h =
    kept_all g items_of keeps h.0 t records h.2 ∙ ap (λ (xs : List Judged). xs ++ records) (keeps s j h.0 h.1) ∙ append_assoc (items_of s) (j ∷ []) records

-- and so all that a scan gives
pub kept_of :
    {S : Type 0} {g : Ghosts S} {IsHonest : Type 0} {l : Layout} {bytes : List ℕ} {from first : ℕ} {log : Standing} {old new : S} → (scans : Scans g IsHonest l bytes from first log old new)
    → (items_of : S → List Judged) → ((s : S) (j : Judged) (t : S) → g.takes s j t → items_of t ≡ items_of s ++ j ∷ []) → items_of new ≡ items_of old ++ scans.items
kept_of {g = g} {old = old} {new = new} scans items_of keeps = kept_all g items_of keeps old new scans.items scans.replayed
