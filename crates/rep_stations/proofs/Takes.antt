-- What an engine has taken of the history, over its steps.
use Rattle.std.proofs.Common.{◌≡◌, ◌⊎◌, inl, inr, ℕ, ◌+◌, ◌-◌, ◌<◌, ◌≤◌, true, false, List, [], ◌++◌, append_assoc, length, length-append, length-drop, take, drop, Option, None, Some, sym, ap, subst, ◌∙◌, arith}
use Rattle.std.specs.Prelude.{is_some, IsTrue}
use Rattle.std.proofs.Math.Seq.{take-add, take-append_seam, drop-append_seam}
use Rattle.std.proofs.lemmas.Bool.{cases_lt}
use Rattle.std.proofs.lemmas.List.{take-append-drop, take-append-le, drop-append-le, drop-drop, length-take-le, take_all}
use Rattle.uuid.specs.Parts.{is_nil_bytes}
use Rattle.rep_types.specs.declared.judged.Judged.{Judged}
use Rattle.rep_types.specs.declared.limits.TheConstants.{MAX_SEQNO, MAX_AHEAD}
use Rattle.rep_types.specs.Settings.{Setting}
use Rattle.rep_types.specs.Windows.{Window}
use Rattle.rep_types.specs.Order.{State}
use Rattle.rep_disk.specs.declared.disk.Disk.{Ghosts}
use Rattle.rep_record.specs.Blocks.{SeqnosFrom}
use Rattle.rep_log.specs.declared.phase.Phase.{Phase}
use Rattle.rep_log.specs.declared.phase.Phase.TheVariants.{Resting, Closing, Filling, Filled, Opening}
use Rattle.rep_cert.specs.Holdings.{Holding, IsAskable, window_of}
use Rattle.rep_steps.specs.declared.event.Event.{Event}
use Rattle.rep_steps.specs.declared.event.Event.TheVariants.{Check}
use Rattle.rep_steps.specs.declared.answer.Answer.{Answer}
use Rattle.rep_steps.specs.Standings.{Standing}
use Rattle.rep_steps.specs.Moves.{Moves, opening}
use Rattle.rep_steps.specs.Nodes.{Node, Steps, reached, window_at}
use Rattle.rep_steps.specs.Images.{AreJudgedFrom}
use Rattle.rep_steps.specs.Judging.{JudgingGoesOn}
use Rattle.rep_engine.specs.Engines.{Engine, IsWhole, facts_of, phase_at, durable_of}
use Rattle.rep_engine.specs.Accepting.{ComeNext}
use Rattle.rep_engine.specs.Holding.{Holds, with_items}
use Rattle.rep_engine.specs.Checking.{HoldsWindow, HoldsWindows}
use Rattle.rep_layout.specs.Windows.{IsWindowAt}
use Rattle.rep_stations.specs.Judging.{Legal, HasJudged, start_of}
use Rattle.rep_stations.specs.Taking.{GoesOn, StartsAs, HasTaken, TakenItemsStay, IsOfAnEngine, IsAnEngine}
use Rattle.rep_stations.proofs.Goes.{facts_go, durable_still, sync_tells, node_goes, goes_on}

-- ---- lists

-- what a front of two lists has of the second, where it has all of the first
take_over : {X : Type 0} (k : ℕ) (xs ys : List X) → take (length xs + k) (xs ++ ys) ≡ xs ++ take k ys
take_over k xs ys =
    take-add (length xs) k (xs ++ ys) ∙ ap (λ zs. zs ++ take k (drop (length xs) (xs ++ ys))) (take-append_seam xs ys) ∙ ap (λ zs. xs ++ take k zs) (drop-append_seam xs ys)

-- ---- windows of a history, at a node that it began at and at one that went on

-- the state to which the node came at the start
abbrev came : Node → State
came n = reached n.facts.setting n.base n.items

-- the window at a position, in all of the items
abbrev window_on : Node → List Judged → ℕ → Window
window_on n items k = (reached n.facts.setting n.base (take (k - n.base.position) (n.items ++ items))).kept

-- what went on reached what all of the items lead to
pub all_reached : JudgingGoesOn → (n : Node) (items : List Judged) (m : Node) → GoesOn n items m → reached m.facts.setting m.base m.items ≡ reached n.facts.setting (came n) items
all_reached goes n items m on =
    let p = n.facts.setting in
    let all = n.items ++ items in
    ap (λ (q : Setting). reached q m.base m.items) on.setting ∙ ap (λ (S : State). reached p S m.items) on.base ∙ ap (reached p (reached p n.base (take on.past all))) on.rest
    ∙ sym (goes.reached_both p n.base (take on.past all) (drop on.past all)) ∙ ap (reached p n.base) (take-append-drop on.past all) ∙ goes.reached_both p n.base n.items items

-- where its base is
pub base_at : JudgingGoesOn → (n : Node) (items : List Judged) (m : Node) → (on : GoesOn n items m) → m.base.position ≡ n.base.position + on.past
base_at goes n items m on =
    let front = take on.past (n.items ++ items) in
    ap (λ (S : State). S.position) on.base ∙ goes.reached_position n.facts.setting n.base front ∙ omega (arith, length-take-le on.past (n.items ++ items) on.within)

-- a window from its base on
pub window_then : JudgingGoesOn → (n : Node) (items : List Judged) (m : Node) → GoesOn n items m → (k : ℕ) → m.base.position ≤ k → window_at m k ≡ window_on n items k
window_then goes n items m on k le =
    let p = n.facts.setting in
    let all = n.items ++ items in
    let at : m.base.position ≡ n.base.position + on.past = base_at goes n items m on in
    let more = k - (n.base.position + on.past) in
    let both : take on.past all ++ take more (drop on.past all) ≡ take (k - n.base.position) all = sym (take-add on.past more all) ∙ ap (λ i. take i all) (omega (arith, le, at)) in
    ap (λ (q : Setting). (reached q m.base (take (k - m.base.position) m.items)).kept) on.setting ∙ ap (λ (js : List Judged). (reached p m.base (take (k - m.base.position) js)).kept) on.rest
    ∙ ap (λ i. (reached p m.base (take (k - i) (drop on.past all))).kept) at ∙ ap (λ (S : State). (reached p S (take more (drop on.past all))).kept) on.base
    ∙ ap (λ (S : State). S.kept) (sym (goes.reached_both p n.base (take on.past all) (take more (drop on.past all)))) ∙ ap (λ (js : List Judged). (reached p n.base js).kept) both

module _ {D : Type 0} (g : Ghosts D) (goes : JudgingGoesOn) (first : Engine D) (c : Holding) (n : Node) (start : StartsAs g first c n) where
  -- the first certifier's window is that of the node's state
  first_window : window_of c c.delivered ≡ (came n).kept
  first_window =
      start.windows c.delivered (omega (arith, start.count)) (record { made = start.made; near = omega arith; past = omega arith })
      ∙ ap (λ (js : List Judged). (reached n.facts.setting n.base js).kept) (take_all (c.delivered - n.base.position) n.items (omega (arith, start.count)))

  first_position : c.delivered ≡ (came n).position
  first_position = start.count ∙ sym (goes.reached_position n.facts.setting n.base n.items)

  -- a legal history is judged from there
  pub judged_there : (items : List Judged) → Legal c items → AreJudgedFrom n.facts.setting (came n) items
  judged_there items legal =
      subst (λ (p : Setting). AreJudgedFrom p (came n) items) (sym start.setting) (goes.judged_alike c.setting (start_of c) (came n) items first_position first_window legal)

  -- what waits is judged from where a node came that went on
  pub judged_then : (items waits : List Judged) (m : Node) → GoesOn n items m → Legal c (items ++ waits) → AreJudgedFrom m.facts.setting (reached m.facts.setting m.base m.items) waits
  judged_then items waits m on legal =
      let p = n.facts.setting in
      let behind : AreJudgedFrom p (reached p (came n) (take (length items) (items ++ waits))) (drop (length items) (items ++ waits)) = goes.judged_behind p (came n) (length items) (items ++ waits) (judged_there (items ++ waits) legal) in
      let there : AreJudgedFrom p (reached p (came n) items) (drop (length items) (items ++ waits)) =
      subst (λ (js : List Judged). AreJudgedFrom p (reached p (came n) js) (drop (length items) (items ++ waits))) (take-append_seam items waits) behind in
      let all : AreJudgedFrom p (reached p (came n) items) waits = subst (AreJudgedFrom p (reached p (came n) items)) (drop-append_seam items waits) there in
      subst (λ (q : Setting). AreJudgedFrom q (reached m.facts.setting m.base m.items) waits) (sym on.setting) (subst (λ (S : State). AreJudgedFrom p S waits) (sym (all_reached goes n items m on)) all)

  -- the windows of a certifier that has judged the history
  pub history_windows : (items : List Judged) (h : Holding) → HasJudged c items h → (k : ℕ) → n.base.position ≤ k → IsAskable h k → window_of h k ≡ window_on n items k
  history_windows items h judged k above ask = by (cases_lt c.delivered k)
    where
      p : Setting
      p = n.facts.setting

      by : ((c.delivered < k) ⊎ (k ≤ c.delivered)) → window_of h k ≡ window_on n items k
      by (inl lt) =
          let more = k - c.delivered in
          judged.behind k ask (omega (arith, lt)) ∙ ap (λ (q : Setting). (reached q (start_of c) (take more items)).kept) (sym start.setting)
          ∙ goes.kept_alike n.facts.setting (start_of c) (came n) (take more items) first_window
          ∙ ap (λ (S : State). S.kept) (sym (goes.reached_both n.facts.setting n.base n.items (take more items)))
          ∙ ap (λ (js : List Judged). (reached n.facts.setting n.base js).kept) (sym (take_over more n.items items) ∙ ap (λ i. take i (n.items ++ items)) (omega (arith, lt, start.count)))
      by (inr le) =
          judged.before k ask le
          ∙ start.windows k above (record { made = omega (arith, ask.made, judged.made); near = omega (arith, ask.near, judged.delivered); past = le })
          ∙ ap (λ (js : List Judged). (reached n.facts.setting n.base js).kept) (sym (take-append-le (k - n.base.position) n.items items (omega (arith, le, start.count))))

-- ---- steps

-- whose items become durable was gathered
opening_within : (phase : Phase) (block : List Judged) → IsWhole phase block → opening phase ≤ length block
opening_within Resting block h = omega arith
opening_within Closing block h = omega arith
opening_within (Filling n) block h = omega arith
opening_within (Filled n) block h = omega arith
opening_within (Opening n) block h = omega (arith, h.all)

running_within : (phase : Phase) (halted : Option Phase) (block : List Judged) → IsWhole phase block → is_some halted ≡ false → opening (phase_at phase halted) ≤ length block
running_within phase None block h runs = opening_within phase block h
running_within phase (Some before) block h runs = absurd (let never : true ≡ false = runs in cc)

module _ {D : Type 0} (g : Ghosts D) (goes : JudgingGoesOn) (first : Engine D) (c : Holding) (items : List Judged) (old : Engine D)
    (taken : HasTaken g first c items old) where
  -- ---- a step of the engine, which leads each of the nodes on

  pub step_taken : (new : Engine D) (e : Event) (a : Answer) → IsOfAnEngine e → IsAnEngine old → Moves (facts_of g old) e a (facts_of g new)
      → ((n m : Node) → StartsAs g first c n → GoesOn n items m → Holds g m old → (k : Node) × Steps m e a k × Holds g k new) → HasTaken g first c items new
  step_taken new e a own is moves steps =
      let go = facts_go (facts_of g old) (facts_of g new) e a own (running_within old.log.phase old.halted old.block is.whole) moves in
      let left : length new.block ≡ length old.block - go.told = ap length go.ahead ∙ length-drop go.told old.block in
      record {
        setting = go.setting ∙ taken.setting;
        uuid = go.uuid ∙ taken.uuid;
        rises = omega (arith, go.durable, taken.rises);
        count = omega (arith, go.durable, go.few, left, taken.count);
        block =
            go.ahead ∙ ap (drop go.told) taken.block ∙ drop-drop go.told (durable_of old.log - c.delivered) items
            ∙ ap (λ k. drop k items) (omega (arith, go.durable, taken.rises));
        stands = λ n start.
            let at = taken.stands n start in
            let to = steps n at.0 start at.1 at.2 in
            (to.0, goes_on goes n items at.0 to.0 at.1 (node_goes at.0 to.0 e a own at.2.node to.1), to.2);
      }

  -- the window at what is durable can be asked of who has judged these items, and perhaps more
  askable : (more : List Judged) (h : Holding) → HasJudged c (items ++ more) h → h.delivered ≤ durable_of old.log + MAX_AHEAD → IsAskable h (durable_of old.log)
  askable more h judged near = record {
    made = omega (arith, judged.made, judged.start, taken.rises);
    near = near;
    past = omega (arith, judged.delivered, length-append items more, taken.count);
  }

  pub window_held : (more : List Judged) (h : Holding) → HasJudged c (items ++ more) h → h.delivered ≤ durable_of old.log + MAX_AHEAD → HoldsWindows c
      → HoldsWindow old.checkpoint.base.params (durable_of old.log) h
  window_held more h judged near windows =
      let ask = askable more h judged near in
      record {
        askable = ask;
        window = subst (λ (p : Setting). IsWindowAt p (durable_of old.log) (window_of h (durable_of old.log))) (judged.setting ∙ sym taken.setting) (judged.windows windows (durable_of old.log) ask);
      }

  -- and is the node's
  pub window_there : (more : List Judged) (h : Holding) → HasJudged c (items ++ more) h → h.delivered ≤ durable_of old.log + MAX_AHEAD → (n m : Node) → StartsAs g first c n → GoesOn n items m → Holds g m old
      → window_of h (durable_of old.log) ≡ window_at m m.facts.durable
  window_there more h judged few n m start on holds =
      let ask = askable more h judged few in
      let d = durable_of old.log in
      let at : m.facts.durable ≡ d = ap (λ (s : Standing). s.durable) holds.facts in
      let low : m.base.position ≤ d = omega (arith, at, holds.node.position, holds.node.facts.based) in
      let begun : n.base.position ≤ d = omega (arith, low, base_at goes n items m on) in
      history_windows g goes first c n start (items ++ more) h judged d begun ask
      ∙ ap (λ (js : List Judged). (reached n.facts.setting n.base (take (d - n.base.position) js)).kept) (sym (append_assoc n.items items more))
      ∙ ap (λ (js : List Judged). (reached n.facts.setting n.base js).kept) (take-append-le (d - n.base.position) (n.items ++ items) more (omega (arith, taken.count, start.count, length-append n.items items)))
      ∙ sym (window_then goes n items m on d low) ∙ ap (window_at m) (sym at)

  -- ---- items that are accepted

  -- the node that went on, with these items too
  pub more_on : (js : List Judged) (n m : Node) → GoesOn n items m → GoesOn n (items ++ js) (with_items js m)
  more_on js n m on =
      let all = n.items ++ items in
      let whole : n.items ++ (items ++ js) ≡ all ++ js = sym (append_assoc n.items items js) in
      record {
        setting = on.setting;
        uuid = on.uuid;
        past = on.past;
        within = omega (arith, on.within, ap length whole, length-append all js);
        base = on.base ∙ ap (reached n.facts.setting n.base) (sym (take-append-le on.past all js on.within) ∙ ap (take on.past) (sym whole));
        rest = ap (λ (xs : List Judged). xs ++ js) on.rest ∙ sym (drop-append-le on.past all js on.within) ∙ ap (drop on.past) (sym whole);
      }

  pub more_taken : (new : Engine D) (waits : List Judged) (count : ℕ) → count ≤ length waits
      → facts_of g new ≡ record (facts_of g old) { ahead = old.block ++ take count waits }
      → ((n : Node) → Holds g n old → AreJudgedFrom n.facts.setting (reached n.facts.setting n.base n.items) (take count waits) → Holds g (with_items (take count waits) n) new)
      → Legal c (items ++ waits) → HasTaken g first c (items ++ take count waits) new
  more_taken new waits count few facts holds legal =
      let js = take count waits in
      let durable : durable_of new.log ≡ durable_of old.log = ap (λ (s : Standing). s.durable) facts in
      let block : new.block ≡ old.block ++ js = ap (λ (s : Standing). s.ahead) facts in
      record {
        setting = ap (λ (s : Standing). s.setting) facts ∙ taken.setting;
        uuid = ap (λ (s : Standing). s.uuid) facts ∙ taken.uuid;
        rises = omega (arith, durable, taken.rises);
        count = omega (arith, durable, taken.count, ap length block, length-append old.block js, length-append items js);
        block =
            block ∙ ap (λ (xs : List Judged). xs ++ js) taken.block ∙ sym (drop-append-le (durable_of old.log - c.delivered) items js (omega (arith, taken.count, taken.rises)))
            ∙ ap (λ k. drop (k - c.delivered) (items ++ js)) (sym durable);
        stands = λ n start.
            let at = taken.stands n start in
            let m = at.0 in
            let judged : AreJudgedFrom m.facts.setting (reached m.facts.setting m.base m.items) js =
            goes.judged_front m.facts.setting (reached m.facts.setting m.base m.items) count waits (judged_then g goes first c n start items waits m at.1 legal) in
            (with_items js m, more_on js n m at.1, holds m at.2 judged);
      }

  -- what waits comes next
  pub waits_come : (waits : List Judged) → Legal c (items ++ waits) → c.delivered + length (items ++ waits) ≤ MAX_SEQNO → (IsTrue (is_nil_bytes first.checkpoint.base.uuid) → waits ≡ []) → ComeNext (facts_of g old) waits
  waits_come waits legal limit undefined =
      let long : length (items ++ waits) ≡ length items + length waits = length-append items waits in
      let seqnos : SeqnosFrom (c.delivered + 1) (items ++ waits) = goes.judged_seqnos c.setting (start_of c) (items ++ waits) legal in
      let behind : SeqnosFrom (c.delivered + 1 + length items) (drop (length items) (items ++ waits)) = goes.seqnos_drop (c.delivered + 1) (length items) (items ++ waits) (omega (arith, long)) seqnos in
      record {
        follow = subst (λ k. SeqnosFrom k waits) (omega (arith, taken.count)) (subst (SeqnosFrom (c.delivered + 1 + length items)) (drop-append_seam items waits) behind);
        limit = omega (arith, taken.count, limit, long);
        undefined = λ nil. undefined (subst (λ (u : List ℕ). IsTrue (is_nil_bytes u)) taken.uuid nil);
      }

-- ---- the law

pub stay_taken : {D : Type 0} (g : Ghosts D) → JudgingGoesOn → TakenItemsStay g
stay_taken g goes = record {
  step = λ old new e a own is moves steps first c items taken. step_taken g goes first c items old taken new e a own is moves (λ n m start on holds. steps m holds);
  check = λ old new a h is moves steps first c items more judged near taken.
      step_taken g goes first c items old taken new Check a tt is moves
      (λ n m start on holds. steps m holds (window_there g goes first c items old taken more h judged near n m start on holds));
  window = λ e h first c items more judged near windows taken. window_held g goes first c items e taken more h judged near windows;
  synced = λ old new rs is moves. sync_tells (facts_of g old) (facts_of g new) rs (running_within old.log.phase old.halted old.block is.whole) moves;
  still = λ old new e a own moves. durable_still (facts_of g old) (facts_of g new) e a own moves;
  comes = λ first e c items waits taken legal limit undefined. waits_come g goes first c items e taken waits legal limit undefined;
}
