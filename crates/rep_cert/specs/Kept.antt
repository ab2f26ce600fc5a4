-- How the fields of a certifier make what it holds.
use Rattle.std.specs.Prelude.{◌≡◌, ℕ, ◌+◌, ◌-◌, ◌<◌, ◌≤◌, max, Bool, true, ◌&&◌, if◌then◌else◌, List, [], ◌∷◌, length, take, All, None, Some}
use Rattle.circular_buffer.specs.Buffer.{keep_last}
use Rattle.rep_types.specs.declared.item.Item.{Item}
use Rattle.rep_types.specs.declared.reach.Reach.{Reach}
use Rattle.rep_types.specs.Settings.{Setting}
use Rattle.rep_types.specs.Entries.{Entry}
use Rattle.rep_types.specs.Items.{is_write_set, written_by}
use Rattle.rep_types.specs.Order.{recent}
use Rattle.rep_types.specs.declared.limits.TheConstants.{MAX_SEQNO, MAX_AHEAD, MAX_WINDOW}
use Rattle.rep_cert.specs.declared.ring.TheConstants.{KEPT_ENTRIES}
use Rattle.rep_cert.specs.declared.reaches.TheConstants.{KEPT_REACHES}
use Rattle.rep_cert.specs.declared.writers.Former.{Former}
use Rattle.rep_cert.specs.Holdings.{Holding, Holdings, upto, back}
use Rattle.rep_cert.specs.Writers.{IsLaidOut, Agrees, restored}

-- the oldest position whose window can be asked for
abbrev pub oldest : ℕ → ℕ → ℕ
oldest made delivered = max made (delivered - MAX_AHEAD)

-- how many positions have windows that can be asked for
abbrev pub askable : ℕ → ℕ → ℕ
askable made delivered = delivered + 1 - oldest made delivered

-- the entry of the item with the seqno n, if it is a write set and commits
abbrev pub own_entry : ℕ → Item → Bool → List Entry
own_entry n i commits = if is_write_set i && commits then (record { seqno = n; keys = written_by i }) ∷ [] else []

-- what is held after so many items, where these are the reaches and the entries that were kept
abbrev pub holding : Setting → ℕ → ℕ → List Reach → List Entry → Holding
holding p made delivered rs es =
    record {
      setting = p;
      made = made;
      delivered = delivered;
      reaches = keep_last (askable made delivered) rs;
      entries = recent (back rs (delivered - oldest made delivered)).floor (upto delivered es);
    }

-- the reaches before the last item
abbrev pub former_reaches : List Reach → List Reach
former_reaches rs = take (length rs - 1) rs

-- the same with what stood before the last item, if that can be undone
abbrev pub holdings : Setting → ℕ → ℕ → Bool → List Reach → List Entry → Holdings
holdings p made delivered undoable rs es =
    record {
      current = holding p made delivered rs es;
      before = if undoable then Some (holding p made (delivered - 1) (former_reaches rs) es) else None;
    }

-- the seqnos ascend from `low` on, and are below `high`
abbrev pub Ascends : ℕ → ℕ → List Entry → Type 0
Ascends low high [] = low ≤ high
Ascends low high (e ∷ es) = (low ≤ e.seqno) × Ascends (e.seqno + 1) high es

-- What holds of the entries that a certifier keeps, and of its counts: those that it was made with are of the seqnos that a window
-- can span at that position, the others are of the items that came since, and there is room for all of them that a window which can
-- be asked for, or the one before an undo, may hold.
pub record IsKept (made delivered : ℕ) (undoable : Bool) (given admitted : List Entry) (capacity : ℕ) : Type 0 where
  pub past : All (λ (e : Entry). e.seqno ≤ made) given
  pub spanned : All (λ (e : Entry). made + 1 ≤ e.seqno + MAX_WINDOW) given
  pub ascending : Ascends (made + 1) (delivered + 1) admitted
  pub few : length admitted ≤ KEPT_ENTRIES
  pub room : capacity ≡ KEPT_ENTRIES
  pub start : made ≤ delivered
  pub undo : undoable ≡ true → made < delivered
  pub limit : delivered ≤ max made MAX_SEQNO

-- What holds of the reaches that a certifier keeps: there is one for each position whose window can be asked for, and, where the
-- last item can be undone, for each whose window could be before it. No floor is above a later one, and none is further back than
-- a window can span.
pub record Reached (made delivered : ℕ) (undoable : Bool) (rs : List Reach) (capacity : ℕ) : Type 0 where
  pub few : length rs ≤ KEPT_REACHES
  pub room : capacity ≡ KEPT_REACHES
  pub enough : delivered + 1 ≤ oldest made delivered + length rs
  pub more : undoable ≡ true → delivered + 1 ≤ oldest made (delivered - 1) + length rs
  pub rises : (i j : ℕ) → i ≤ j → j < length rs → (back rs j).floor ≤ (back rs i).floor
  pub spans : (j : ℕ) → j < length rs → delivered + 1 ≤ (back rs j).floor + MAX_WINDOW + j

-- the seqnos that no certifiable item conflicts with: a window spans at most MAX_WINDOW of them
abbrev pub level : ℕ → ℕ
level delivered = delivered - MAX_WINDOW

-- What holds of the numbers of the rows: they agree with the entries that are kept, and, where the last item can be undone, those
-- before it agree with the entries before it.
pub record KeepsWriters (p : Setting) (delivered : ℕ) (undoable : Bool) (es : List Entry) (starts seqnos : List ℕ) (former : List Former) : Type 0 where
  pub laid_out : IsLaidOut p.rows starts seqnos
  pub inside : All (λ (f : Former). f.place < length seqnos) former
  pub now : Agrees p.rows starts seqnos (level delivered) es
  pub before : undoable ≡ true → Agrees p.rows starts (restored former seqnos) (level (delivered - 1)) (upto (delivered - 1) es)
