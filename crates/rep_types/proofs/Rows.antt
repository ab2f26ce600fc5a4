-- Lemmas on rows: what more writes, and more items, do to them.
use Rattle.std.proofs.Common.{◌≡◌, ℕ, ◌+◌, Bool, true, false, if◌then◌else◌, List, [], ◌∷◌, ◌++◌, length, Option, None, ap, ◌∙◌, arith}
use Rattle.std.proofs.lemmas.List.{append-nil}
use Rattle.std.proofs.lemmas.List.Concat.{flat_map-append}
use Rattle.std.proofs.lemmas.List.Elements.{filter-append}
use Rattle.rep_types.specs.declared.key.Key.{Key}
use Rattle.rep_types.specs.declared.value.Write.{Write}
use Rattle.rep_types.specs.declared.item.Item.{Item}
use Rattle.rep_types.specs.declared.judged.Judged.{Judged}
use Rattle.rep_types.specs.Keys.{key_eq}
use Rattle.rep_types.specs.Items.{writes_of}
use Rattle.rep_types.specs.Settings.{Setting}
use Rattle.rep_types.specs.Order.{Order, latest, is_commit, counts, history, verdict, effects, row_in, rows, overwritten, content_after}
use Rattle.rep_types.proofs.Latest.{latest-append}
use Rattle.rep_types.proofs.Histories.{history_push_judged}

-- the effects of a joined list are those of its first part, then those of its second
pub effects-append : (g h : List Judged) → effects (g ++ h) ≡ effects g ++ effects h
effects-append g h = simp (filter-append, flat_map-append)

-- one more judged item: its writes take effect where it committed
pub effects_push : (h : List Judged) (j : Judged) → effects (h ++ j ∷ []) ≡ effects h ++ (if counts j then writes_of j.item else [])
effects_push h j = grind (arith, effects-append h (j ∷ []), append-nil)

-- more writes go over what stood under the key
pub row_in-append : (first second : List Write) (key : Key) → row_in (first ++ second) key ≡ content_after (row_in first) second key
row_in-append first second key = grind (arith, latest-append (λ (write : Write). key_eq write.key key) first second)

-- writes that name the key nowhere leave what stood under it
pub content_after_none : (content : Key → Option (List ℕ)) (writes : List Write) (key : Key) →
    latest (λ (write : Write). key_eq write.key key) writes ≡ None → content_after content writes key ≡ content key
content_after_none content writes key h = ap (overwritten (content key)) h

-- the effects of one more item: its writes, where its verdict is Commit
pub effects_history_push : (p : Setting) (L : Order) (i : Item) →
    effects (history p (L ++ i ∷ [])) ≡ effects (history p L) ++ (if is_commit (verdict p (L ++ i ∷ []) (length L + 1)) then writes_of i else [])
effects_history_push p L i = ap effects (history_push_judged p L i) ∙ effects_push (history p L) _

-- writes that may follow go over what stood under the key, if they do follow
row_in-append_if : (b : Bool) (first second : List Write) (key : Key) →
    row_in (first ++ (if b then second else [])) key ≡ (if b then content_after (row_in first) second key else row_in first key)
row_in-append_if true first second key = row_in-append first second key
row_in-append_if false first second key = ap (λ (writes : List Write). row_in writes key) (append-nil first)

-- the rows of one more item: its writes go over what stood there, where its verdict is Commit
pub rows_push : (p : Setting) (L : Order) (i : Item) (key : Key) →
    rows p (L ++ i ∷ []) key ≡
    (if is_commit (verdict p (L ++ i ∷ []) (length L + 1)) then content_after (rows p L) (writes_of i) key else rows p L key)
rows_push p L i key =
    ap (λ (writes : List Write). row_in writes key) (effects_history_push p L i)
    ∙ row_in-append_if (is_commit (verdict p (L ++ i ∷ []) (length L + 1))) (effects (history p L)) (writes_of i) key
