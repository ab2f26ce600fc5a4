use Rattle.std.proofs.Common.{◌≡◌, ℕ, ◌+◌, Bool, true, false, if◌then◌else◌, List, [], ◌∷◌, ◌++◌, length, Option, refl, sym, ap, ◌∙◌}
use Rattle.std.proofs.Math.Path.{fun_ext}
use Rattle.std.proofs.lemmas.List.{length_push}
use Rattle.rep_types.specs.declared.item.Item.{Item}
use Rattle.rep_types.specs.declared.key.Key.{Key}
use Rattle.rep_types.specs.declared.verdict.Verdict.{Verdict}
use Rattle.rep_types.specs.Items.{writes_of}
use Rattle.rep_types.specs.Settings.{Setting}
use Rattle.rep_types.specs.Order.{Order, state, after, is_commit, verdict, judge, window, rows, content_after}
use Rattle.rep_types.proofs.Windows.{judge_window, window_push}
use Rattle.rep_types.proofs.Rows.{rows_push}
use Rattle.rep_types.proofs.laws.state_is_enough.Goals as goal

-- the value under a key, whichever of two functions gives it
at-if : (b : Bool) (f g : Key → Option (List ℕ)) (key : Key) → (if b then f else g) key ≡ (if b then f key else g key)
at-if true f g key = refl
at-if false f g key = refl

-- the rows after one more item, from those before it
content_push : (p : Setting) (L : Order) (i : Item) (key : Key) →
    (if is_commit (judge p (length L) (window p L) i) then content_after (rows p L) (writes_of i) else rows p L) key ≡ rows p (L ++ i ∷ []) key
content_push p L i key =
    let chosen : Verdict → Option (List ℕ) = λ v. (if is_commit v then content_after (rows p L) (writes_of i) else rows p L) key in
    ap chosen (judge_window p L i)
    ∙ (at-if (is_commit (verdict p (L ++ i ∷ []) (length L + 1))) (content_after (rows p L) (writes_of i)) (rows p L) key ∙ sym (rows_push p L i key))

-- the state after one more item is that of the longer order
state_push : (p : Setting) (L : Order) (i : Item) → after p (state p L) i ≡ state p (L ++ i ∷ [])
state_push p L i = cc (fun_ext (content_push p L i), window_push p L i, length_push L i)

pub returns : goal.returns
returns c = record { verdicts = judge_window; states = state_push }
