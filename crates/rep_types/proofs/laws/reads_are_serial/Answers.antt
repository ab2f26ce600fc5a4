use Rattle.std.proofs.Common.{◌≡◌, ℕ, ◌-◌, ◌<◌, take, Contains, sym, ap, ◌∙◌, arith}
use Rattle.std.proofs.lemmas.List.{take-take}
use Rattle.std.proofs.lemmas.List.Elements.{Contains-append_left}
use Rattle.rep_types.specs.declared.item.Item.{Item}
use Rattle.rep_types.specs.declared.item.Item.TheVariants.{WriteSet, SetWindow}
use Rattle.rep_types.specs.declared.key.Key.{Key}
use Rattle.rep_types.specs.declared.verdict.Verdict.TheVariants.{Commit}
use Rattle.rep_types.specs.Transactions.{written}
use Rattle.rep_types.specs.Settings.{Setting}
use Rattle.rep_types.specs.Items.{reads_of, seen_by}
use Rattle.rep_types.specs.Reaches.{floor}
use Rattle.rep_types.specs.Order.{Order, item, entries, history, rows, read, verdict_on}
use Rattle.rep_types.proofs.Members.{Contains-nothing}
use Rattle.rep_types.proofs.SerialReads.{IsClear-from_commit, rows_seen}
use Rattle.rep_types.proofs.laws.reads_are_serial.Goals as goal

-- an item of either kind, which the items before n let commit
reads_of_item : (p : Setting) (L : Order) (n : ℕ) (key : Key) (i : Item) → 0 < n → verdict_on p (floor p L (n - 1)) n (entries (history p (take (n - 1) L))) i ≡ Commit →
    Contains (reads_of i) key → read p L key (seen_by i) ≡ read p L key (n - 1)
reads_of_item p L n key (SetWindow c) pos commit has = absurd (Contains-nothing key has)
reads_of_item p L n key (WriteSet w) pos commit has =
    let seen : w.last_seen < n = (IsClear-from_commit p (floor p L (n - 1)) n (entries (history p (take (n - 1) L))) w commit).past in
    let front : take w.last_seen (take (n - 1) L) ≡ take w.last_seen L = take-take w.last_seen (n - 1) L (omega arith) in
    ap (λ (K : Order). rows p K key) (sym front)
    ∙ rows_seen p (take (n - 1) L) (floor p L (n - 1)) n w key commit (Contains-append_left w.reads (written w) key has)

pub returns : goal.returns
returns c p L n key pos inside commit has = reads_of_item p L n key (item L n) pos commit has
