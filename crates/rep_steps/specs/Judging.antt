-- Items that were judged one after another, in parts and together, and the states that they lead to.
use Rattle.std.specs.Prelude.{◌≡◌, ℕ, ◌+◌, ◌<◌, ◌≤◌, true, List, [], ◌∷◌, ◌++◌, length, filter, nat_le, take, drop, Contains}
use Rattle.rep_types.specs.declared.judged.Judged.{Judged}
use Rattle.rep_types.specs.declared.item.Item.{Item}
use Rattle.rep_types.specs.declared.limits.TheConstants.{MAX_SEQNO}
use Rattle.rep_types.specs.Entries.{Entry}
use Rattle.rep_types.specs.Settings.{Setting}
use Rattle.rep_types.specs.Windows.{Window}
use Rattle.rep_types.specs.Order.{State, judge, recent, window_after, extended}
use Rattle.rep_log.specs.Blocks.{SeqnosFrom}
use Rattle.rep_log.specs.Records.{is_placed}
use Rattle.rep_steps.specs.Nodes.{advanced, reached}
use Rattle.rep_steps.specs.Images.{AreJudgedFrom}

-- Items that were judged one after another are so with one more behind them, in a front and in what follows it, and from a state that
-- has other rows, since no row decides a verdict; and their seqnos follow one another. The state that they lead to is as many items
-- further on; it is reached with one more item and in two goes; and its window is the one after each item, and the same from a state that
-- has other rows. Seqnos
-- that follow one another do so without the first of them and with one more.
pub record JudgingGoesOn : Type 0 where
  pub judged_more : (p : Setting) (S : State) (js : List Judged) (j : Judged) → AreJudgedFrom p S js → AreJudgedFrom p (reached p S js) (j ∷ []) → AreJudgedFrom p S (js ++ j ∷ [])
  pub judged_front : (p : Setting) (S : State) (k : ℕ) (js : List Judged) → AreJudgedFrom p S js → AreJudgedFrom p S (take k js)
  pub judged_behind : (p : Setting) (S : State) (k : ℕ) (js : List Judged) → AreJudgedFrom p S js → AreJudgedFrom p (reached p S (take k js)) (drop k js)
  pub judged_alike : (p : Setting) (S T : State) (js : List Judged) → S.position ≡ T.position → S.kept ≡ T.kept → AreJudgedFrom p S js → AreJudgedFrom p T js
  pub judged_seqnos : (p : Setting) (S : State) (js : List Judged) → AreJudgedFrom p S js → SeqnosFrom (S.position + 1) js
  pub reached_position : (p : Setting) (S : State) (js : List Judged) → (reached p S js).position ≡ S.position + length js
  pub reached_more : (p : Setting) (S : State) (js : List Judged) (j : Judged) → reached p S (js ++ j ∷ []) ≡ advanced p (reached p S js) j
  pub reached_both : (p : Setting) (S : State) (js ks : List Judged) → reached p S (js ++ ks) ≡ reached p (reached p S js) ks
  pub window_next : (p : Setting) (position : ℕ) (v : Window) (j : Judged) → j.seqno ≡ position + 1 → j.verdict ≡ judge p position v j.item → window_after p position v j.item ≡ extended v j
  pub kept_alike : (p : Setting) (S T : State) (js : List Judged) → S.kept ≡ T.kept → (reached p S js).kept ≡ (reached p T js).kept
  pub seqnos_drop : (n k : ℕ) (js : List Judged) → k ≤ length js → SeqnosFrom n js → SeqnosFrom (n + k) (drop k js)
  pub seqnos_more : (n : ℕ) (js : List Judged) (j : Judged) → SeqnosFrom n js → j.seqno ≡ n + length js → SeqnosFrom n (js ++ j ∷ [])

-- The next item with its verdict has a place in a block: its seqno is one; a change of the window's size commits; and where no entry of the
-- window is above the position, a conflict is with an item before it. So has what a certifier answers, who looks at no entry above it.
pub record VerdictsHaveAPlace : Type 0 where
  pub within : (p : Setting) (position : ℕ) (v : Window) (i : Item) → position < MAX_SEQNO → ((e : Entry) → Contains v.entries e → e.seqno ≤ position)
      → is_placed (record { seqno = position + 1; item = i; verdict = judge p position v i }) ≡ true
  pub upto : (p : Setting) (position span lowest : ℕ) (es : List Entry) (i : Item) → position < MAX_SEQNO
      → is_placed (record { seqno = position + 1; item = i; verdict = judge p position (record { size = span; floor = lowest; entries = recent lowest (filter (λ (e : Entry). nat_le e.seqno position) es) }) i }) ≡ true
