-- What versions say of the state that a node's items lead to.
use Rattle.std.proofs.Common.{◌≡◌, ℕ, zero, suc, ◌+◌, ◌-◌, Bool, true, false, List, [], ◌∷◌, take, map, Option, None, Some, refl, sym, ap, ◌∙◌, arith}
use Rattle.std.specs.Prelude.{if◌then◌else◌, not, nat_lt, nat_le, slice_index_or}
use Rattle.std.specs.Option.{option_or}
use Rattle.std.specs.List.{list_all}
use Rattle.std.proofs.lemmas.Bool.Decides.{nat_tests}
use Rattle.std.proofs.lemmas.List.Folds.{list_all-append}
use Rattle.rep_types.specs.declared.key.Key.{Key}
use Rattle.rep_types.specs.declared.judged.Judged.{Judged}
use Rattle.rep_types.specs.declared.value.Write.{Write}
use Rattle.rep_types.specs.declared.verdict.Verdict.{Verdict}
use Rattle.rep_types.specs.declared.verdict.Verdict.TheVariants.{Stale, Future, BadKey}
use Rattle.rep_types.specs.Keys.{key_eq}
use Rattle.rep_types.specs.declared.item.Item.{Item}
use Rattle.rep_types.specs.declared.item.Item.TheVariants.{WriteSet, SetWindow}
use Rattle.rep_types.specs.Transactions.{Transaction, written}
use Rattle.rep_types.specs.Settings.{Setting, has_row, IsRow}
use Rattle.rep_types.specs.Windows.{Window as WindowOf}
use Rattle.rep_types.specs.Items.{writes_of}
use Rattle.rep_types.specs.Order.{State, latest, counts, is_commit, in_schema, judge, content_after, conflict_with, greatest, seqnos_against}
use Rattle.rep_types.proofs.Choices.{and_left, and_right}
use Rattle.rep_types.proofs.Touches.{key_eq-true}
use Rattle.rep_versions.specs.Versions.{Kept}
use Rattle.rep_versions.specs.Following.{AreVersionsOf, VersionsFollowTheItems, made_by, effect_of, rows_after}
use Rattle.rep_steps.specs.Nodes.{Node, advanced, reached}
use Rattle.rep_steps.specs.Images.{AreJudgedFrom}
use Rattle.rep_checkpoint.specs.Calls.{AreAt, AreBehind}

-- ---- what the items make of the rows

effect_is : (content : Key → Option (List ℕ)) (j : Judged) (b : Bool) → counts j ≡ b → (if b then content_after content (writes_of j.item) else content) ≡ content_after content (effect_of j)
effect_is content j true is = rw is refl
effect_is content j false is = rw is refl

pub content_reached : (p : Setting) (S : State) (js : List Judged) → (reached p S js).content ≡ rows_after S.content (map effect_of js)
content_reached p S [] = refl
content_reached p S (j ∷ js) = content_reached p (advanced p S j) js ∙ ap (λ c. rows_after c (map effect_of js)) (effect_is S.content j (counts j) refl)

pub take_effects : (k : ℕ) (js : List Judged) → map effect_of (take k js) ≡ take k (map effect_of js)
take_effects zero js = refl
take_effects (suc k) [] = refl
take_effects (suc k) (j ∷ js) = ap (λ rest. effect_of j ∷ rest) (take_effects k js)

-- ---- outside the schema

-- an item that commits names rows of the schema alone
passes : (future known stale : Bool) (rest : Verdict) → is_commit (if future then Future else if not known then BadKey else if stale then Stale else rest) ≡ true → known ≡ true
passes true known stale rest e = absurd cc
passes false true stale rest e = refl
passes false false stale rest e = absurd cc

pub commits_inside : (p : Setting) (position : ℕ) (v : WindowOf) (w : Transaction) → is_commit (judge p position v (WriteSet w)) ≡ true → in_schema p w ≡ true
commits_inside p position v w e =
    passes (nat_le (position + 1) w.last_seen) (in_schema p w) (nat_lt (w.last_seen + 1) v.floor) (conflict_with (greatest (seqnos_against w v.entries))) e

pub writes_inside : (p : Setting) (w : Transaction) → in_schema p w ≡ true → list_all (has_row p.rows) (written w) ≡ true
writes_inside p w e = and_right (list_all (has_row p.rows) w.reads) (list_all (has_row p.rows) (written w)) (sym (list_all-append (has_row p.rows) w.reads (written w)) ∙ e)

-- what an item that commits writes are rows of the schema: a change of the window's size writes nothing
pub commits_writes_inside : (p : Setting) (position : ℕ) (v : WindowOf) (i : Item) → is_commit (judge p position v i) ≡ true → list_all (has_row p.rows) (map (λ (write : Write). write.key) (writes_of i)) ≡ true
commits_writes_inside p position v (WriteSet w) e = writes_inside p w (commits_inside p position v w e)
commits_writes_inside p position v (SetWindow c) e = refl

one_latest : (rows : List ℕ) (key : Key) (write : Write) (last : Option Write) → has_row rows key ≡ false → has_row rows write.key ≡ true → last ≡ None → (b : Bool) → key_eq write.key key ≡ b → option_or last (if key_eq write.key key then Some write else None) ≡ None
one_latest rows key write last out inside none true is =
    let same : write.key ≡ key = key_eq-true write.key key is in
    let never : true ≡ false = sym inside ∙ ap (has_row rows) same ∙ out in absurd cc
one_latest rows key write last out inside none false is = ap (λ o. option_or o (if key_eq write.key key then Some write else None)) none ∙ ap (λ b. if b then Some write else None) is

none_latest : (rows : List ℕ) (key : Key) → has_row rows key ≡ false → (writes : List Write) → list_all (has_row rows) (map (λ (write : Write). write.key) writes) ≡ true → latest (λ (write : Write). key_eq write.key key) writes ≡ None
none_latest rows key out [] all = refl
none_latest rows key out (write ∷ writes) all =
    let others = list_all (has_row rows) (map (λ (w : Write). w.key) writes) in
    one_latest rows key write (latest (λ (w : Write). key_eq w.key key) writes) out (and_left (has_row rows write.key) others all) (none_latest rows key out writes (and_right (has_row rows write.key) others all)) (key_eq write.key key) refl

-- so what lies outside stays absent
advanced_outside : (p : Setting) (S : State) (j : Judged) (key : Key) → has_row p.rows key ≡ false → j.verdict ≡ judge p S.position S.kept j.item → (advanced p S j).content key ≡ S.content key
advanced_outside p S j key out is = by (counts j) refl
  where
    by : (b : Bool) → counts j ≡ b → (if b then content_after S.content (writes_of j.item) else S.content) key ≡ S.content key
    by false e = refl
    by true e =
        let commits : is_commit (judge p S.position S.kept j.item) ≡ true = ap is_commit (sym is) ∙ e in
        let inside = commits_writes_inside p S.position S.kept j.item commits in
        rw (none_latest p.rows key out (writes_of j.item) inside) refl

reached_outside : (p : Setting) (S : State) (js : List Judged) (key : Key) → has_row p.rows key ≡ false → AreJudgedFrom p S js → (reached p S js).content key ≡ S.content key
reached_outside p S [] key out h = refl
reached_outside p S (j ∷ js) key out h = reached_outside p (advanced p S j) js key out h.2 ∙ advanced_outside p S j key out h.1

not_row : (rows : List ℕ) (key : Key) → (IsRow rows key → ⊥) → has_row rows key ≡ false
not_row rows key out = by (has_row rows key) refl
  where
    by : (b : Bool) → has_row rows key ≡ b → b ≡ false
    by true e = absurd (out (grind (arith, nat_tests)))
    by false e = refl

-- ---- the rows at a later state

pub are_behind : (base : ℕ) (js : List Judged) (kept : Kept) → AreVersionsOf base (map effect_of js) kept → AreBehind base kept
are_behind base js kept versions key m le =
    let early : nat_lt base m ≡ false = grind (arith, nat_tests, le) in
    versions key m ∙ ap (λ b. made_by (if b then slice_index_or (map effect_of js) (m - (base + 1)) [] else []) key) early

pub are_at : VersionsFollowTheItems → (n : Node) (kept : Kept) (past : ℕ) → AreJudgedFrom n.facts.setting n.base (take past n.items) → ((key : Key) → (IsRow n.facts.setting.rows key → ⊥) → n.base.content key ≡ None)
    → AreVersionsOf n.base.position (map effect_of n.items) kept → AreAt n.facts.setting.rows kept (n.base.position + past) n.base.content (reached n.facts.setting n.base (take past n.items)).content
are_at law n kept past judged outside versions = record {
  row = λ key row inside is.
      law.row n.base.position (n.base.position + past) (map effect_of n.items) kept n.base.content key row (omega arith) versions is
      ∙ ap (λ i. rows_after n.base.content (take i (map effect_of n.items)) key) (omega arith) ∙ ap (λ changes. rows_after n.base.content changes key) (sym (take_effects past n.items))
      ∙ ap (λ (c : Key → Option (List ℕ)). c key) (sym (content_reached n.facts.setting n.base (take past n.items)));
  outside = λ key out. reached_outside n.facts.setting n.base (take past n.items) key (not_row n.facts.setting.rows key out) judged ∙ outside key out;
}
