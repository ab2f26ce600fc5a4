-- Items that are judged again, one after another.
use Rattle.std.proofs.Common.{◌≡◌, ℕ, suc, ◌+◌, ◌-◌, ◌<◌, ◌≤◌, ◌⊎◌, inl, inr, Bool, true, false, if◌then◌else◌, List, [], ◌∷◌, ◌++◌, length, length-append, append-nil, append_assoc, map, take, refl, sym, ap, subst, ◌∙◌, arith}
use Rattle.std.proofs.lemmas.Bool.{cases_lt}
use Rattle.std.proofs.lemmas.List.{take-append-le, take_all}
use Rattle.std.proofs.lemmas.List.Sums.{fold-append}
use Rattle.rep_types.specs.declared.judged.Judged.{Judged}
use Rattle.rep_types.specs.declared.verdict.Verdict.{Verdict}
use Rattle.rep_types.specs.declared.value.Write.{Write}
use Rattle.rep_types.specs.Windows.{Window as WindowOf}
use Rattle.rep_types.specs.Settings.{Setting}
use Rattle.rep_types.specs.Items.{writes_of}
use Rattle.rep_types.specs.Order.{State, counts, extended, judge, window_after}
use Rattle.rep_record.specs.declared.replays.Replays.{Ghosts as Given}
use Rattle.rep_record.specs.Replaying.{Replayed, Rejected}
use Rattle.std.specs.FinMap.{empty}
use Rattle.rep_versions.specs.Versions.{Kept, IsAdded}
use Rattle.rep_versions.specs.Following.{AreVersionsOf, effect_of, VersionsFollowTheItems}
use Rattle.rep_cert.specs.Holdings.{Holding, IsAskable, Admits, window_of, verdict_of, made_at}
use Rattle.rep_steps.specs.Nodes.{advanced, reached}
use Rattle.rep_steps.specs.Images.{AreJudgedFrom}
use Rattle.rep_engine.specs.Checking.{HoldsWindows}
use Rattle.rep_recover.specs.Judging.{IsNext, Notes, Judges, HasJudged}

-- ---- states on the way

pub reached_position : (p : Setting) (S : State) (js : List Judged) → (reached p S js).position ≡ S.position + length js
reached_position p S [] = omega arith
reached_position p S (j ∷ js) = omega (arith, reached_position p (advanced p S j) js)

reached_more : (p : Setting) (S : State) (js : List Judged) (j : Judged) → reached p S (js ++ j ∷ []) ≡ advanced p (reached p S js) j
reached_more p S js j = fold-append (advanced p) S js (j ∷ [])

-- what the next item has to be
record IsNextAt (p : Setting) (S : State) (j : Judged) : Type 0 where
  seqno : j.seqno ≡ S.position + 1
  verdict : j.verdict ≡ judge p S.position S.kept j.item

judged_more : (p : Setting) (S : State) (js : List Judged) (j : Judged) → AreJudgedFrom p S js → IsNextAt p (reached p S js) j → AreJudgedFrom p S (js ++ j ∷ [])
judged_more p S [] j h next = (next.seqno, next.verdict, tt)
judged_more p S (i ∷ js) j h next = (h.0, h.1, judged_more p (advanced p S i) js j h.2 next)

judged_there : (p : Setting) (S : State) (js : List Judged) (j : Judged) (rest : List Judged) → AreJudgedFrom p S (js ++ j ∷ rest) → IsNextAt p (reached p S js) j
judged_there p S [] j rest h = record { seqno = h.0; verdict = h.1 }
judged_there p S (i ∷ js) j rest h = judged_there p (advanced p S i) js j rest h.2

-- ---- the certifier

-- the window after an item that is the next
window_is : (p : Setting) (position : ℕ) (v : WindowOf) (j : Judged) → j.seqno ≡ position + 1 → j.verdict ≡ judge p position v j.item → window_after p position v j.item ≡ extended v j
window_is p position v j e f =
    let made : ℕ → Verdict → Judged = λ seqno verdict. record { seqno = seqno; item = j.item; verdict = verdict } in
    ap (λ (verdict : Verdict). extended v (made (position + 1) verdict)) (sym f) ∙ ap (λ seqno. extended v (made seqno j.verdict)) (sym e)

-- the present window can be asked for
now_askable : (h : Holding) → h.made ≤ h.delivered → IsAskable h h.delivered
now_askable h le = record { made = le; near = omega arith; past = omega arith }

module _ (law : VersionsFollowTheItems) (p : Setting) (S : State) (js : List Judged) (h : Holding) (kept : Kept) (at : HasJudged p S js h kept) where
  abbrev R : State
  R = reached p S js

  position_is : R.position ≡ h.delivered
  position_is = reached_position p S js ∙ sym at.delivered

  present : window_of h h.delivered ≡ R.kept
  present =
      at.windows h.delivered (now_askable h (omega (arith, at.made, at.delivered)))
      ∙ ap (λ (xs : List Judged). (reached p S xs).kept) (take_all (h.delivered - S.position) js (omega (arith, at.delivered)))

  verdict_is : (j : Judged) → verdict_of h j.item ≡ judge p R.position R.kept j.item
  verdict_is j =
      ap (λ (q : Setting). judge q h.delivered (window_of h h.delivered) j.item) at.setting ∙ ap (λ (v : WindowOf). judge p h.delivered v j.item) present
      ∙ ap (λ (n : ℕ). judge p n R.kept j.item) (sym position_is)

  next_at : (j : Judged) → IsNext h j → IsNextAt p R j
  next_at j is = record { seqno = omega (arith, is.seqno, position_is); verdict = is.verdict ∙ verdict_is j }

  -- an item that is not the next is none of items that are judged so
  pub not_next : (j : Judged) (rest items : List Judged) → items ≡ js ++ j ∷ rest → (IsNext h j → ⊥) → AreJudgedFrom p S items → ⊥
  not_next j rest items split not all =
      let is = judged_there p S js j rest (subst (λ (xs : List Judged). AreJudgedFrom p S xs) split all) in
      not (record { seqno = omega (arith, is.seqno, position_is); verdict = is.verdict ∙ sym (verdict_is j) })

  module _ (j : Judged) (new : Holding) (is : IsNext h j) (admits : Admits h j.item new) where
    abbrev more : List Judged
    more = js ++ j ∷ []

    long : length more ≡ length js + 1
    long = length-append js (j ∷ [])

    -- the window behind it
    next_window : window_of new new.delivered ≡ (reached p S more).kept
    next_window =
        let next = next_at j is in
        admits.next ∙ ap (λ (q : Setting). window_after q h.delivered (window_of h h.delivered) j.item) at.setting
        ∙ ap (λ (v : WindowOf). window_after p h.delivered v j.item) present ∙ ap (λ (n : ℕ). window_after p n R.kept j.item) (sym position_is)
        ∙ window_is p R.position R.kept j next.seqno next.verdict ∙ sym (ap (λ (T : State). T.kept) (reached_more p S js j))

    windows_more : (k : ℕ) → IsAskable new k → window_of new k ≡ (reached p S (take (k - S.position) more)).kept
    windows_more k ask = by (cases_lt h.delivered k)
      where
        by : ((h.delivered < k) ⊎ (k ≤ h.delivered)) → window_of new k ≡ (reached p S (take (k - S.position) more)).kept
        by (inl lt) =
            let last : k ≡ new.delivered = omega (arith, lt, ask.past, admits.delivered) in
            ap (window_of new) last ∙ next_window ∙ ap (λ (xs : List Judged). (reached p S xs).kept) (sym (take_all (k - S.position) more (omega (arith, lt, at.delivered, long))))
        by (inr le) =
            admits.kept k ask le ∙ at.windows k (record { made = omega (arith, ask.made, admits.made); near = omega (arith, ask.near, admits.delivered); past = le })
            ∙ ap (λ (xs : List Judged). (reached p S xs).kept) (sym (take-append-le (k - S.position) js (j ∷ []) (omega (arith, le, at.delivered))))

    effects_more : map effect_of js ++ effect_of j ∷ [] ≡ map effect_of more
    effects_more = grow js
      where
        grow : (xs : List Judged) → map effect_of xs ++ effect_of j ∷ [] ≡ map effect_of (xs ++ j ∷ [])
        grow [] = refl
        grow (x ∷ xs) = ap (λ (ys : List (List Write)). effect_of x ∷ ys) (grow xs)

    counted : (xs : List Judged) → length (map effect_of xs) ≡ length xs
    counted [] = refl
    counted (x ∷ xs) = ap suc (counted xs)

    versions_more : (b : Bool) → counts j ≡ b → (after : Kept) → Notes b j kept after → AreVersionsOf S.position (map effect_of more) after
    versions_more true e after notes =
        let place : j.seqno ≡ S.position + length (map effect_of js) + 1 = omega (arith, is.seqno, at.delivered, counted js) in
        let effect : effect_of j ≡ writes_of j.item = ap (λ (b : Bool). if b then writes_of j.item else []) e in
        let own = law.added S.position (map effect_of js) (writes_of j.item) kept after at.versions (subst (λ (n : ℕ). IsAdded n (writes_of j.item) kept after) place notes) in
        subst (λ (xs : List (List Write)). AreVersionsOf S.position xs after) (ap (λ (ws : List Write). map effect_of js ++ ws ∷ []) (sym effect) ∙ effects_more) own
    versions_more false e after notes =
        let effect : effect_of j ≡ [] = ap (λ (b : Bool). if b then writes_of j.item else []) e in
        let own = law.passed S.position (map effect_of js) kept at.versions in
        subst (λ (x : Kept). AreVersionsOf S.position (map effect_of more) x) (sym notes)
        (subst (λ (xs : List (List Write)). AreVersionsOf S.position xs kept) (ap (λ (ws : List Write). map effect_of js ++ ws ∷ []) (sym effect) ∙ effects_more) own)

    -- one item more
    pub judged_on : (after : Kept) → Notes (counts j) j kept after → HasJudged p S more new after
    judged_on after notes = record {
      setting = admits.setting ∙ at.setting;
      made = admits.made ∙ at.made;
      delivered = omega (arith, admits.delivered, at.delivered, long);
      judged = judged_more p S js j at.judged (next_at j is);
      windows = windows_more;
      versions = versions_more (counts j) refl after notes;
    }

-- ---- the beginning

pub nothing_judged : VersionsFollowTheItems → (p : Setting) (S : State) (h : Holding) (kept : Kept) → window_of (made_at p S.position S.kept) S.position ≡ S.kept → h ≡ made_at p S.position S.kept → kept ≡ empty → HasJudged p S [] h kept
nothing_judged law p S h kept spanned is none =
    subst (λ (x : Holding). HasJudged p S [] x kept) (sym is)
    (subst (λ (v : Kept). HasJudged p S [] (made_at p S.position S.kept) v) (sym none) (record {
      setting = refl;
      made = refl;
      delivered = omega arith;
      judged = tt;
      windows = λ k ask.
          let same : k ≡ S.position = omega (arith, ask.made, ask.past) in
          ap (window_of (made_at p S.position S.kept)) same ∙ spanned
          ∙ ap (λ (xs : List Judged). (reached p S xs).kept) (sym (take_all (k - S.position) [] (omega arith)));
      versions = law.none S.position;
    }))

-- ---- the items one by one

module _ {S : Type 0} (g : Given S) (holding : S → Holding) (kept : S → Kept) (judges : (s : S) (j : Judged) (t : S) → g.takes s j t → Judges (holding s) (kept s) j (holding t) (kept t)) (law : VersionsFollowTheItems) (p : Setting) (base : State) where
  -- one that was given on was judged
  judged_one : (s t : S) (js : List Judged) (j : Judged) → HasJudged p base js (holding s) (kept s) → g.takes s j t → HasJudged p base (js ++ j ∷ []) (holding t) (kept t)
  judged_one s t js j at takes =
      let one = judges s j t takes in
      judged_on law p base js (holding s) (kept s) at j (holding t) one.next one.admitted (kept t) one.noted

  -- and so all that were
  pub judged_all : (s t : S) (js items : List Judged) → HasJudged p base js (holding s) (kept s) → Replayed g s items t → HasJudged p base (js ++ items) (holding t) (kept t)
  judged_all s t js [] at h = subst (λ (u : S). HasJudged p base (js ++ []) (holding u) (kept u)) h (subst (λ (xs : List Judged). HasJudged p base xs (holding s) (kept s)) (sym (append-nil js)) at)
  judged_all s t js (j ∷ items) at h =
      subst (λ (xs : List Judged). HasJudged p base xs (holding t) (kept t)) (append_assoc js (j ∷ []) items)
      (judged_all h.0 t (js ++ j ∷ []) items (judged_one s h.0 js j at h.1) h.2)

  -- the certifier's windows can be written
  pub windows_all : (s t : S) (js items : List Judged) → HasJudged p base js (holding s) (kept s) → HoldsWindows (holding s) → Replayed g s items t → HoldsWindows (holding t)
  windows_all s t js [] at windows h = subst (λ (u : S). HoldsWindows (holding u)) h windows
  windows_all s t js (j ∷ items) at windows h =
      windows_all h.0 t (js ++ j ∷ []) items (judged_one s h.0 js j at h.1) ((judges s j h.0 h.1).windows (omega (arith, at.made, at.delivered)) windows) h.2

  -- items of which one is rejected are none that judging gives again
  pub none_judged : ((s : S) (j : Judged) → g.rejects s j → IsNext (holding s) j → ⊥) → (s : S) (items : List Judged) → HasJudged p base [] (holding s) (kept s) → Rejected g s items → AreJudgedFrom p base items → ⊥
  none_judged why s items at r =
      not_next law p base r.before (holding r.state) (kept r.state) (judged_all s r.state [] r.before at r.replayed) r.one r.behind items r.split (why r.state r.one r.why)
