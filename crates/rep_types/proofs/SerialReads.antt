-- Lemmas on the reads of a committed item.
use Rattle.std.proofs.Common.{◌≡◌, ℕ, ◌+◌, ◌<◌, ◌≤◌, Bool, true, false, ◌||◌, List, [], ◌∷◌, ◌++◌, take, drop, All, Contains, None, refl, sym, ap, ◌∙◌, arith}
use Rattle.std.specs.List.{list_any}
use Rattle.std.proofs.lemmas.List.{take-append-drop}
use Rattle.std.proofs.lemmas.List.Elements.{All-head, All-tail}
use Rattle.std.proofs.lemmas.List.Folds.{list_any-append}
use Rattle.std.proofs.lemmas.Bool.{or_parts}
use Rattle.std.proofs.lemmas.Bool.Decides.{nat_tests}
use Rattle.rep_types.specs.declared.key.Key.{Key}
use Rattle.rep_types.specs.declared.value.Write.{Write}
use Rattle.rep_types.specs.declared.item.Item.{Item}
use Rattle.rep_types.specs.declared.item.Item.TheVariants.{WriteSet, SetWindow}
use Rattle.rep_types.specs.declared.judged.Judged.{Judged}
use Rattle.rep_types.specs.declared.verdict.Verdict.{Verdict}
use Rattle.rep_types.specs.declared.verdict.Verdict.TheVariants.{Commit}
use Rattle.rep_types.specs.Keys.{key_eq}
use Rattle.rep_types.specs.Transactions.{Transaction, named, written}
use Rattle.rep_types.specs.Settings.{Setting}
use Rattle.rep_types.specs.Entries.{Entry}
use Rattle.rep_types.specs.Order.{Order, touches, in_schema, latest, against, greatest, seqnos_against, verdict_among, entries, effects, history, row_in, rows}
use Rattle.rep_types.proofs.Latest.{latest-append}
use Rattle.rep_types.proofs.Greatest.{none_against}
use Rattle.rep_types.proofs.Histories.{take_history, later_history}
use Rattle.rep_types.proofs.Touches.{latest_untouched}
use Rattle.rep_types.proofs.Rows.{effects-append, row_in-append, content_after_none}
use Rattle.rep_types.proofs.Windows.{entries-append}

-- what a commit says: w had seen an earlier position, its keys are in the schema, it isn't stale, and no committed item is against it
pub record IsClear (p : Setting) (lowest n : ℕ) (es : List Entry) (w : Transaction) : Type 0 where
  pub past : w.last_seen < n
  pub keys : in_schema p w ≡ true
  pub recent : lowest ≤ w.last_seen + 1
  pub free : greatest (seqnos_against w es) ≡ None

-- a commit says those four things
pub IsClear-from_commit : (p : Setting) (lowest n : ℕ) (es : List Entry) (w : Transaction) → verdict_among p lowest n es w ≡ Commit → IsClear p lowest n es w
IsClear-from_commit p lowest n es w h = grind (arith, nat_tests)

-- none of these items wrote a key that w names, if they come after what w had seen and none of their entries is against w
pub latest-effects_none : (w : Transaction) (key : Key) (h : List Judged) → Contains (named w) key → All (λ (j : Judged). w.last_seen < j.seqno) h →
    list_any (against w) (entries h) ≡ false → latest (λ (write : Write). key_eq write.key key) (effects h) ≡ None
latest-effects_none w key [] has later none = refl
latest-effects_none w key (j ∷ h) has later none =
    first_none j.item j.verdict (All-head (λ (j : Judged). w.last_seen < j.seqno) j h later)
    (latest-effects_none w key h has (All-tail (λ (j : Judged). w.last_seen < j.seqno) j h later)) none
  where
    test : Write → Bool
    test write = key_eq write.key key

    with_first : Item → Verdict → List Judged
    with_first i v = record { seqno = j.seqno; item = i; verdict = v } ∷ h

    first_none : (i : Item) (v : Verdict) → w.last_seen < j.seqno → (list_any (against w) (entries h) ≡ false → latest test (effects h) ≡ None) →
        list_any (against w) (entries (with_first i v)) ≡ false → latest test (effects (with_first i v)) ≡ None
    first_none (WriteSet x) v later rest none =
        let own : touches (written x) (named w) ≡ false → latest test x.writes ≡ None = λ apart. latest_untouched x.writes (named w) key apart has in
        grind (arith, nat_tests, latest-append test x.writes (effects h))
    first_none (SetWindow c) v later rest none = grind (arith, rest)

-- after the items that w had seen nothing was written to a key that it names, if it commits as the next item
pub rows_seen : (p : Setting) (L : Order) (lowest n : ℕ) (w : Transaction) (key : Key) → verdict_among p lowest n (entries (history p L)) w ≡ Commit →
    Contains (named w) key → rows p (take w.last_seen L) key ≡ rows p L key
rows_seen p L lowest n w key commit has =
    let h : List Judged = history p L in
    let s : ℕ = w.last_seen in
    let split : take s h ++ drop s h ≡ h = take-append-drop s h in
    let none : list_any (against w) (entries h) ≡ false = none_against w (entries h) (IsClear-from_commit p lowest n (entries h) w commit).free in
    let parts : list_any (against w) (entries h) ≡ (list_any (against w) (entries (take s h)) || list_any (against w) (entries (drop s h))) =
    ap (λ (xs : List Judged). list_any (against w) (entries xs)) (sym split)
    ∙ (ap (list_any (against w)) (entries-append (take s h) (drop s h)) ∙ list_any-append (against w) (entries (take s h)) (entries (drop s h))) in
    let unseen : list_any (against w) (entries (drop s h)) ≡ false =
    (or_parts (list_any (against w) (entries (take s h))) (list_any (against w) (entries (drop s h))) (sym parts ∙ none)).1 in
    let apart : latest (λ (write : Write). key_eq write.key key) (effects (drop s h)) ≡ None = latest-effects_none w key (drop s h) has (later_history p L s) unseen in
    let before : row_in (effects h) key ≡ row_in (effects (take s h)) key =
    ap (λ (xs : List Judged). row_in (effects xs) key) (sym split)
    ∙ (ap (λ (ws : List Write). row_in ws key) (effects-append (take s h) (drop s h))
    ∙ (row_in-append (effects (take s h)) (effects (drop s h)) key
    ∙ content_after_none (row_in (effects (take s h))) (effects (drop s h)) key apart)) in
    sym (before ∙ ap (λ (xs : List Judged). row_in (effects xs) key) (take_history p L s))
