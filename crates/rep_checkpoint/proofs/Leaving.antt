-- The images of a node that stands on a device.
use Rattle.std.proofs.Common.{◌≡◌, refl, sym, ap, subst, ◌∙◌, zero, suc, ℕ, ◌+◌, ◌-◌, ◌≤◌, inl, inr, List, [], ◌∷◌, ◌++◌, length, length-append, take, drop, arith}
use Rattle.std.proofs.lemmas.List.{length-take-le, take-append-le, drop-take, drop_all}
use Rattle.rep_types.specs.declared.judged.Judged.{Judged}
use Rattle.rep_types.specs.Settings.{Setting}
use Rattle.rep_types.specs.Order.{State}
use Rattle.rep_layout.specs.declared.super_body.SuperBody.{SuperBody}
use Rattle.rep_layout.specs.Places.{layout_of}
use Rattle.rep_layout.specs.Supers.{IsNil}
use Rattle.rep_cells.specs.Readings.{Reading, reading_of}
use Rattle.rep_cells.specs.States.{States}
use Rattle.rep_log.specs.Tail.{seqno_after, records_of, IsLog}
use Rattle.rep_log.specs.Standing.{Standing as Log}
use Rattle.rep_log.specs.Laws.{MayHold, HoldsFrom, TheLogInEveryImage}
use Rattle.rep_steps.specs.Nodes.{Node, IsNode, reached}
use Rattle.rep_steps.specs.Images.{Meaning, AreJudgedFrom, IsEndOf}
use Rattle.rep_steps.specs.Judging.{JudgingGoesOn}
use Rattle.rep_image.specs.Meanings.{Means}
use Rattle.rep_image.specs.Ends.{HeldEnds, LogsEndInTheirNode}
use Rattle.rep_checkpoint.specs.declared.stage.Part.TheVariants.{SuperOpening}
use Rattle.rep_checkpoint.specs.declared.stage.Stage.{Stage}
use Rattle.rep_checkpoint.specs.declared.stage.Stage.TheVariants.{Toward}
use Rattle.rep_checkpoint.specs.Next.{Next}
use Rattle.rep_checkpoint.specs.Standing.{Standing, IsNext}
use Rattle.rep_checkpoint.specs.States.{StandsBeside}
use Rattle.rep_checkpoint.specs.Laws.{HasBase, TheBaseInEveryImage}
use Rattle.rep_checkpoint.specs.Nodes.{IsLedTo, StandsAs, NodesLeaveTheirEnds, NodesLeaveTheirFronts}

-- ---- of items and blocks

-- the seqno behind some blocks counts their records
pub seqno_counts : (seqno : ℕ) (blocks : List (List Judged)) → seqno_after seqno blocks ≡ seqno + length (records_of blocks)
seqno_counts seqno [] = omega arith
seqno_counts seqno (block ∷ blocks) = seqno_counts (seqno + length block) blocks ∙ omega (arith, length-append block (records_of blocks))

-- the records of the later blocks are those behind the records of the first
pub records_behind : (k : ℕ) (blocks : List (List Judged)) → drop (length (records_of (take k blocks))) (records_of blocks) ≡ records_of (drop k blocks)
records_behind zero blocks = refl
records_behind (suc k) [] = refl
records_behind (suc k) (block ∷ blocks) =
    ap (λ i. drop i (block ++ records_of blocks)) (length-append block (records_of (take k blocks)))
    ∙ drop_past block (length (records_of (take k blocks))) (records_of blocks) ∙ records_behind k blocks
  where
    drop_past : (xs : List Judged) (i : ℕ) (ys : List Judged) → drop (length xs + i) (xs ++ ys) ≡ drop i ys
    drop_past [] i ys = ap (λ k. drop k ys) (omega arith)
    drop_past (x ∷ xs) i ys =
        let one_more : length (x ∷ xs) + i ≡ suc (length xs + i) = omega arith in
        ap (λ k. drop k (x ∷ (xs ++ ys))) one_more ∙ drop_past xs i ys

-- what the log may hold has the durable blocks first
held_first : (n : Node) (phase : _) (k : ℕ) (blocks : List (List Judged)) (sealed : List Judged) (held : List (List Judged)) → k ≤ length blocks → MayHold phase blocks sealed held → (take k held ≡ take k blocks) × (k ≤ length held)
held_first n phase k blocks sealed held le (inl same) = (ap (take k) same, omega (arith, le, ap length same))
held_first n phase k blocks sealed held le (inr more) = (ap (take k) more.2 ∙ take-append-le k blocks (sealed ∷ []) le, omega (arith, le, ap length more.2, length-append blocks (sealed ∷ [])))

-- ---- an image with a base that the items lead to

module _ (goes : JudgingGoesOn) (logs_end : LogsEndInTheirNode) (image : List ℕ) (n : Node) (c : Standing) (log : Log) (blocks : List (List Judged)) (sealed : List Judged) (s : States) (h : IsNode n) (stands : StandsAs n (length image) c log blocks sealed s)
    (b : SuperBody) (x : State) (uuid : b.uuid ≡ c.base.uuid) (params : b.params ≡ c.base.params) (led : IsLedTo n log blocks b x)
    (held : List (List Judged)) (may : MayHold log.phase blocks sealed held) where
  abbrev p : Setting
  p = n.facts.setting

  abbrev at : ℕ
  at = c.base.position

  base_at : n.base.position ≡ at
  base_at = stands.checkpoint.base.position

  ends : HeldEnds n held
  ends = logs_end.held n log.phase blocks sealed h stands.phase stands.durable stands.coming held may

  first : (take led.cells held ≡ take led.cells blocks) × (led.cells ≤ length held)
  first = held_first n log.phase led.cells blocks sealed held led.few may

  -- the records before the base's first cell are as many as it lies behind the node's base
  count : length (records_of (take led.cells held)) ≡ led.past
  count =
      ap (λ bs. length (records_of bs)) first.0 ∙ ap length led.records
      ∙ length-take-le led.past n.items (omega (arith, led.position, led.within, h.enough, h.position))

  seqno : seqno_after (at + 1) (take led.cells held) ≡ b.position + 1
  seqno = seqno_counts (at + 1) (take led.cells held) ∙ omega (arith, count, led.position, base_at)

  log_in : (r : Reading) → HoldsFrom r (layout_of c.base.params) log.start (at + 1) held → IsLog r (layout_of b.params) b.start (b.position + 1) (drop led.cells held)
  log_in r holds =
      let there = holds led.cells first.1 in
      let begun = subst (λ i. IsLog r (layout_of c.base.params) i (seqno_after (at + 1) (take led.cells held)) (drop led.cells held)) (sym led.start) there in
      let behind = subst (λ i. IsLog r (layout_of c.base.params) b.start i (drop led.cells held)) seqno begun in
      subst (λ (q : Setting). IsLog r (layout_of q) b.start (b.position + 1) (drop led.cells held)) (sym params) behind

  abbrev rest : ℕ
  rest = ends.end - (n.base.position + led.past)

  -- the items behind the base
  tail : records_of (drop led.cells held) ≡ take rest (drop led.past n.items)
  tail =
      sym (records_behind led.cells held) ∙ ap (λ i. drop i (records_of held)) count ∙ ap (drop led.past) ends.items
      ∙ ap (λ i. drop led.past (take i n.items)) (omega (arith, ends.least, led.within, led.position, h.position)) ∙ drop-take led.past rest n.items

  judged : AreJudgedFrom p x (records_of (drop led.cells held))
  judged =
      let later = goes.judged_behind p n.base led.past n.items stands.judged in
      let some = goes.judged_front p (reached p n.base (take led.past n.items)) rest (drop led.past n.items) later in
      let at_base = subst (λ (S : State). AreJudgedFrom p S (take rest (drop led.past n.items))) (sym led.state) some in
      subst (AreJudgedFrom p x) (sym tail) at_base

  none : IsNil b.uuid → drop led.cells held ≡ []
  none nil = ap (drop led.cells) (stands.undefined (subst IsNil uuid nil) held may) ∙ drop_all led.cells [] (omega arith)

  abbrev meaning : Meaning
  meaning = record { uuid = n.facts.uuid; setting = p; base = x; tail = records_of (drop led.cells held) }

  means : (r : Reading) → r ≡ reading_of (layout_of b.params) image → HasBase (length image) r b x → HoldsFrom r (layout_of c.base.params) log.start (at + 1) held → Means image meaning
  means r is has holds = record {
    super = b;
    means = rw (sym is) (record {
      chosen = has.chosen;
      uuid = stands.uuid ∙ sym uuid;
      setting = stands.setting ∙ sym params;
      position = has.position;
      window = has.window;
      content = has.content;
      blocks = drop led.cells held;
      log = log_in r holds;
      undefined = none;
      tail = refl;
      judged = judged;
    });
  }

  is_end : Means image meaning → IsEndOf Means n image
  is_end reads = record {
    meaning = meaning;
    reads = reads;
    end = ends.end;
    ends = ends.ends;
    front = record {
      uuid_is = refl;
      setting_is = refl;
      past = led.past;
      order = omega (arith, ends.least, led.within, led.position);
      within = omega (arith, ends.most, h.position);
      base_is = led.state;
      tail_is = tail;
    };
  }

-- ---- the laws

module _ (n : Node) (size : ℕ) (c : Standing) (log : Log) (blocks : List (List Judged)) (sealed : List Judged) (s : States) (h : IsNode n) (stands : StandsAs n size c log blocks sealed s) where
  -- the base that stands is led to by no item
  abbrev pub to_base : IsLedTo n log blocks c.base n.base
  to_base = record {
    past = 0;
    position = omega (arith, stands.checkpoint.base.position);
    within = omega (arith, stands.checkpoint.base.position, h.position, h.facts.based);
    state = refl;
    cells = 0;
    start = omega (arith, stands.start);
    few = omega arith;
    records = refl;
  }

  follows : (next : Next) → c.stage ≡ Toward next SuperOpening → IsNext c.base next
  follows next stage = (subst (λ (t : Stage). StandsBeside size c.base t stands.goal s) stage stands.checkpoint.beside).follows

-- an image that has the base which stands means the items that it holds behind that
pub still_ends : JudgingGoesOn → LogsEndInTheirNode → (image : List ℕ) (n : Node) (c : Standing) (log : Log) (blocks : List (List Judged)) (sealed : List Judged) (s : States) (h : IsNode n) (stands : StandsAs n (length image) c log blocks sealed s)
    → (b : SuperBody) (x : State) → b ≡ c.base → x ≡ n.base → HasBase (length image) (reading_of (layout_of c.base.params) image) b x
    → (held : List (List Judged)) → MayHold log.phase blocks sealed held → HoldsFrom (reading_of (layout_of c.base.params) image) (layout_of c.base.params) log.start (c.base.position + 1) held → IsEndOf Means n image
still_ends goes logs_end image n c log blocks sealed s h stands b x b_is x_is has held may holds =
    let r = reading_of (layout_of c.base.params) image in
    let led = to_base n (length image) c log blocks sealed s h stands in
    let here = subst (λ (y : State). HasBase (length image) r c.base y) x_is (subst (λ (d : SuperBody). HasBase (length image) r d x) b_is has) in
    is_end goes logs_end image n c log blocks sealed s h stands c.base n.base refl refl led held may
    (means goes logs_end image n c log blocks sealed s h stands c.base n.base refl refl led held may r refl here holds)

pub leave_ends : JudgingGoesOn → LogsEndInTheirNode → TheBaseInEveryImage → TheLogInEveryImage → NodesLeaveTheirEnds
leave_ends goes logs_end base law image n c log blocks sealed s h stands allowed =
    let l = layout_of c.base.params in
    let r = reading_of l image in
    let told = base (length image) l s r c n.base stands.goal refl stands.checkpoint allowed in
    let logs = law l s r log (c.base.position + 1) blocks sealed stands.log_is allowed in
    let b = told.0 in
    let x = told.1 in
    elim told.2 [
      | inl still ↦ still_ends goes logs_end image n c log blocks sealed s h stands b x still.0 still.1 told.3 logs.0 logs.1 logs.2
      | inr next ↦
          let led = subst (λ (y : State). IsLedTo n log blocks b y) (sym next.3) (subst (λ (d : SuperBody). IsLedTo n log blocks d stands.goal) (sym next.2) (stands.toward next.0 SuperOpening next.1)) in
          let after = follows n (length image) c log blocks sealed s h stands next.0 next.1 in
          let uuid : b.uuid ≡ c.base.uuid = ap (λ (d : SuperBody). d.uuid) next.2 ∙ after.uuid in
          let params : b.params ≡ c.base.params = ap (λ (d : SuperBody). d.params) next.2 ∙ after.params in
          is_end goes logs_end image n c log blocks sealed s h stands b x uuid params led logs.0 logs.1
          (means goes logs_end image n c log blocks sealed s h stands b x uuid params led logs.0 logs.1 r (ap (λ (p : Setting). reading_of (layout_of p) image) (sym params)) told.3 logs.2)
    ]

pub leave_fronts : LogsEndInTheirNode → NodesLeaveTheirEnds → NodesLeaveTheirFronts
leave_fronts logs_end law image n c log blocks sealed s h stands allowed =
    let e = law image n c log blocks sealed s h stands allowed in
    record { meaning = e.meaning; reads = e.reads; end = e.end; least = logs_end.least n e.end e.ends; front = e.front }
