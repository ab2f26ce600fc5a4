-- How many cells its log has is each node's own affair: with the same window and the same tables they come to the same.
use Rattle.std.proofs.Common.{◌≡◌, ℕ, zero, suc, ◌+◌, List, [], ◌∷◌, ◌++◌, length, fold, take, refl, ap, ◌∙◌}
use Rattle.rep_types.specs.declared.item.Item.{Item}
use Rattle.rep_types.specs.declared.item.Item.TheVariants.{WriteSet, SetWindow}
use Rattle.rep_types.specs.declared.judged.Judged.{Judged}
use Rattle.rep_types.specs.declared.verdict.Verdict.{Verdict}
use Rattle.rep_types.specs.declared.key.Key.{Key}
use Rattle.rep_types.specs.Entries.{Entry}
use Rattle.rep_types.specs.Settings.{Setting, setting}
use Rattle.rep_types.specs.Reaches.{resized, size, floor}
use Rattle.rep_types.specs.Order.{Order, State, items_of, verdict_among, verdict_on, entries, joined, history, effects, row_in, recent, state}
use Rattle.rep_replica.specs.Coming.{blank}
use Rattle.rep_transfer.specs.Transfers.{Snapshot}
use Rattle.rep_catchup.specs.Snapshots.{with_pages, state_of}

module _ (p q : Setting) (window : p.window ≡ q.window) (tables : p.rows ≡ q.rows) where
  size_alike : (L : Order) → size p L ≡ size q L
  size_alike L = ap (λ n. fold resized n L) window

  floor_alike : (L : Order) (n : ℕ) → floor p L n ≡ floor q L n
  floor_alike L zero = refl
  floor_alike L (suc n) = rw (floor_alike L n, size_alike (take (suc n) L)) refl

  verdict_alike : (lowest n : ℕ) (es : List Entry) (i : Item) → verdict_on p lowest n es i ≡ verdict_on q lowest n es i
  verdict_alike lowest n es (WriteSet w) = ap (λ (tables : List ℕ). verdict_among (setting 0 0 tables) lowest n es w) tables
  verdict_alike lowest n es (SetWindow c) = refl

  joined_alike : (h : List Judged) (i : Item) → joined p h i ≡ joined q h i
  joined_alike h i =
      ap (λ (v : Verdict). h ++ record { seqno = length h + 1; item = i; verdict = v } ∷ [])
      (verdict_alike (floor p (items_of h) (length h)) (length h + 1) (entries h) i ∙ ap (λ f. verdict_on q f (length h + 1) (entries h) i) (floor_alike (items_of h) (length h)))

  all_alike : (h : List Judged) (L : Order) → fold (joined p) h L ≡ fold (joined q) h L
  all_alike h [] = refl
  all_alike h (i ∷ L) = all_alike (joined p h i) L ∙ ap (λ (g : List Judged). fold (joined q) g L) (joined_alike h i)

  pub history_alike : (L : Order) → history p L ≡ history q L
  history_alike L = all_alike [] L

  pub state_alike : (L : Order) → state p L ≡ state q L
  state_alike L =
      let of : ℕ → ℕ → List Judged → State = λ s f h. record { position = length L; content = λ (key : Key). row_in (effects h) key; kept = record { size = s; floor = f; entries = recent f (entries h) } } in
      ap (λ s. of s (floor p L (length L)) (history p L)) (size_alike L) ∙ ap (λ f. of (size q L) f (history p L)) (floor_alike L (length L)) ∙ ap (λ h. of (size q L) (floor q L (length L)) h) (history_alike L)

  pub snapshot_alike : (s : Snapshot) → state_of p s ≡ state_of q s
  snapshot_alike s = ap (λ (x : List ℕ). with_pages x s.pages (blank s.position s.kept)) tables
