-- What is read of a place.
use Rattle.std.proofs.Common.{◌≡◌, ℕ, zero, suc, ◌+◌, ◌<◌, ◌≤◌, List, length, get_or, Option, None, Some, refl, sym, ap, subst, ◌∙◌, arith, eqb, eq-eqb}
use Rattle.std.proofs.lemmas.Bool.{ne_eqb}
use Rattle.rep_disk.specs.Bytes.{part, Untouched}
use Rattle.rep_disk.specs.History.{History, seen, stable, failed, Reads}
use Rattle.rep_disk.proofs.Images.{untouched_part, length-seen, seen_is_image, read_part}
use Rattle.rep_layout.specs.declared.place.Layout.{Layout}
use Rattle.rep_layout.specs.declared.place.Place.{Place}
use Rattle.rep_layout.specs.Places.{body_len, gate_len, offset_of, gate_of, need_of}
use Rattle.rep_layout.proofs.PlacesApart.{lies_inside}
use Rattle.rep_cells.specs.Readings.{IsPlace, IsCell, IsArea, gate_shows, is_open, body_of, reading_of}
use Rattle.rep_cells.specs.States.{States, Opened, Shows, IsSure}
use Rattle.rep_cells.specs.Known.{Known, IsBodyReadable, IsReadable, Assigns}
use Rattle.rep_cells.proofs.Ranges.{open_without_gate, closed_reads, open_reads, body_image}
use Rattle.rep_cells.proofs.Kept.{known_shows}
use Rattle.rep_cells.proofs.Fitting.{gate_fits}

-- a gate is looked at in its first byte alone
gate_byte : (n at : ℕ) (bytes : List ℕ) → 0 < n → gate_shows n at bytes ≡ eqb (get_or bytes at 0) 0xA5
gate_byte zero at bytes some = absurd (omega arith)
gate_byte (suc n) at bytes some = refl

-- the first byte of a gate, as it was read
first_read : (l : Layout) (h : History) (cell : Place) (first : List ℕ) (at : ℕ) → IsCell l cell → IsReadable l h cell → at ≡ gate_of l cell → Reads h at first → length first ≡ 1 → is_open l cell (seen h) ≡ eqb (get_or first 0 0) 0xA5
first_read l h cell first at is readable e reads size =
    let place : at + 0 ≡ gate_of l cell = omega (arith, e) in
    let apart : Untouched (failed h) (at + 0) 1 = untouched_part (failed h) (gate_of l cell) (gate_len cell) (at + 0) 1 (omega (arith, e)) (omega (arith, e, is.1)) readable.1 in
    let byte : get_or first 0 0 ≡ get_or (seen h) (at + 0) 0 = reads 0 (omega (arith, size)) apart in
    gate_byte (gate_len cell) (gate_of l cell) (seen h) is.1 ∙ ap (λ (b : ℕ). eqb b 0xA5) (sym (byte ∙ ap (λ (k : ℕ). get_or (seen h) k 0) place))

-- a body, as it was read
pub body_read : (l : Layout) (h : History) (place : Place) (bytes : List ℕ) (at size : ℕ) → IsPlace l place → need_of l ≤ size → length (stable h) ≡ size → IsBodyReadable l h place → at ≡ offset_of l place → Reads h at bytes → length bytes ≡ body_len place → bytes ≡ body_of l place (seen h)
body_read l h place bytes at size there fits sized readable e reads len =
    let from : Reads h (offset_of l place) bytes = subst (λ (k : ℕ). Reads h k bytes) e reads in
    let apart : Untouched (failed h) (offset_of l place) (length bytes) = subst (λ (n : ℕ). Untouched (failed h) (offset_of l place) n) (sym len) readable in
    read_part h (offset_of l place) bytes from apart (omega (arith, fits, lies_inside l place there, sized, len, length-seen h))
    ∙ ap (λ (n : ℕ). part (offset_of l place) n (seen h)) len

-- a cell whose gate is closed
pub shut_cell_reads : (l : Layout) (h : History) (cell : Place) (first : List ℕ) (at : ℕ) → IsCell l cell → IsReadable l h cell → at ≡ gate_of l cell → Reads h at first → length first ≡ 1 → (get_or first 0 0 ≡ 0xA5 → ⊥) → None ≡ reading_of l (seen h) cell
shut_cell_reads l h cell first at is readable e reads size shut =
    sym (closed_reads l cell (seen h) (first_read l h cell first at is readable e reads size ∙ ne_eqb (get_or first 0 0) 0xA5 shut))

-- one whose gate stands open
pub open_cell_reads :
    (l : Layout) (h : History) (cell : Place) (first body : List ℕ) (at : ℕ) → IsCell l cell → IsReadable l h cell
    → at ≡ gate_of l cell → Reads h at first → length first ≡ 1 → get_or first 0 0 ≡ 0xA5
    → body ≡ body_of l cell (seen h) → Some body ≡ reading_of l (seen h) cell
open_cell_reads l h cell first body at is readable e reads one wide same =
    sym (open_reads l cell (seen h) body (first_read l h cell first at is readable e reads one ∙ eq-eqb (get_or first 0 0) 0xA5 wide) (sym same))

-- an area
pub area_reads : (l : Layout) (h : History) (area : Place) (body : List ℕ) → IsArea l area → body ≡ body_of l area (seen h) → Some body ≡ reading_of l (seen h) area
area_reads l h area body is same = sym (open_reads l area (seen h) body (open_without_gate l area (seen h) is.1) (sym same))

-- what is read is what the state shows
pub shown : (l : Layout) (h : History) (s : States) (place : Place) (found : Option (List ℕ)) → Assigns l h s → IsPlace l place → found ≡ reading_of l (seen h) place → Shows (s place) found
shown l h s place found is there same = subst (λ r. Shows (s place) r) (sym same) (known_shows l h place (s place) (gate_fits l h s place is there) (is.places place there))

-- a cell that stands open: its body can be read, and lies there
pub opened_readable : (l : Layout) (h : History) (s : States) (place : Place) (body : List ℕ) → Assigns l h s → IsPlace l place → s place ≡ Opened body → IsBodyReadable l h place
opened_readable l h s place body is there opened = (is.readable place there (subst IsSure (sym opened) tt)).0

pub opened_body : (l : Layout) (h : History) (s : States) (place : Place) (body : List ℕ) → Assigns l h s → IsPlace l place → s place ≡ Opened body → body_of l place (seen h) ≡ body
opened_body l h s place body is there opened =
    body_image l h place body (seen h) (gate_fits l h s place is there) (subst (λ state. Known l h place state) opened (is.places place there)).1 (seen_is_image h)
