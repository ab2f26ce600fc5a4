-- An item that is delivered.
use Rattle.std.proofs.Common.{◌≡◌, ℕ, ◌+◌, ◌-◌, ◌<◌, ◌≤◌, ◌⊎◌, inl, inr, Bool, true, false, if◌then◌else◌, List, [], ◌∷◌, ◌++◌, append_assoc, length, length-append, take, drop, Option, None, Some, refl, sym, ap, subst, ◌∙◌, arith}
use Rattle.std.specs.Prelude.{◌↔◌, ◌||◌, ◌==◌, nat_le, is_some, MatchOption}
use Rattle.std.proofs.lemmas.Bool.{cases_lt}
use Rattle.std.proofs.lemmas.Bool.Decides.{nat_tests}
use Rattle.std.proofs.lemmas.List.{take-append-le, drop-append-le, take_all}
use Rattle.uuid.specs.Parts.{is_nil_bytes}
use Rattle.rep_types.specs.declared.judged.Judged.{Judged}
use Rattle.rep_types.specs.declared.limits.TheConstants.{MAX_SEQNO, MAX_AHEAD}
use Rattle.rep_types.specs.declared.refusal.Refusal.{Refusal}
use Rattle.rep_types.specs.declared.refusal.Refusal.TheVariants.{Stopped}
use Rattle.rep_types.specs.declared.item.Item.{Item}
use Rattle.rep_types.specs.declared.item.Item.TheVariants.{WriteSet, SetWindow as OfChange}
use Rattle.rep_types.specs.declared.verdict.Verdict.{Verdict}
use Rattle.rep_types.specs.Items.{IsWithin}
use Rattle.rep_types.specs.Windows.{Window}
use Rattle.rep_types.specs.Settings.{Setting}
use Rattle.rep_types.specs.Order.{State, judge, window_after}
use Rattle.rep_disk.specs.declared.disk.Disk.{Ghosts}
use Rattle.rep_cert.specs.Holdings.{Holding, IsAskable, Admits, reach_at, window_of, verdict_of}
use Rattle.rep_steps.specs.Events.{delivery}
use Rattle.rep_steps.specs.Deliveries.{delivery_refused, delivery_answer, delivery_after, delivery_verdict, delivery_moved}
use Rattle.rep_steps.specs.declared.answer.Answer.TheVariants.{Gave, Refused}
use Rattle.rep_steps.specs.Standings.{Standing, delivered, refusal, delivery_refusal}
use Rattle.rep_steps.specs.Moves.{Found, Moves, next_item}
use Rattle.rep_steps.specs.Nodes.{Node, Steps, NodesStayNodes, reached, found, verdict_for, delivered_to}
use Rattle.rep_steps.specs.Parts.{with_ahead, part_of}
use Rattle.rep_steps.specs.Images.{AreJudgedFrom}
use Rattle.rep_steps.specs.Judging.{JudgingGoesOn, VerdictsHaveAPlace}
use Rattle.rep_recover.specs.Engines.{Engine, facts_of as engine_facts}
use Rattle.rep_recover.specs.Holding.{Holds as EngineHolds}
use Rattle.rep_recover.specs.Checking.{CertifiersHoldWindows}
use Rattle.rep_record.specs.Records.{is_placed}
use Rattle.rep_replica.proofs.Judging.{Judges, judges_as}
use Rattle.rep_replica.proofs.Placing.{placed_more}
use Rattle.rep_replica.specs.Replicas.{Replica, facts_of, IsReplica}
use Rattle.rep_replica.specs.Holding.{Holds, IsStep, IsJudgedBy}
use Rattle.rep_replica.specs.Spelling.{Spells}
use Rattle.rep_disk.specs.Leaving.{leaves_none}

-- ---- where nothing refuses it

-- the tests that were passed
tests : (nil last other many : Bool) (a b c d : Refusal) → (if nil then Some a else if last then Some b else if other then Some c else if many then Some d else None) ≡ None → (nil ≡ false) × (last ≡ false) × (many ≡ false)
tests true last other many a b c d e = absurd cc
tests false true other many a b c d e = absurd cc
tests false false true many a b c d e = absurd cc
tests false false false true a b c d e = absurd cc
tests false false false false a b c d e = (refl, refl, refl)

pub running_refusal : (s : Standing) (seqno : ℕ) (i : Item) → s.stopped ≡ false → refusal s (delivery seqno i) ≡ delivery_refusal s seqno
running_refusal s seqno i runs = delivery_refused seqno s i ∙ ap (λ b. if b then Some Stopped else delivery_refusal s seqno) runs

-- the backlog has room
pub not_full : {D : Type 0} (g : Ghosts D) (r : Replica D) (seqno : ℕ) → delivery_refusal (facts_of g r) seqno ≡ None → length r.backlog < MAX_AHEAD
not_full g r seqno none =
    let s : Standing = facts_of g r in
    let few = (tests (is_nil_bytes s.uuid) (delivered s == MAX_SEQNO) _ (nat_le MAX_AHEAD (length s.ahead)) _ _ _ _ none).2 in
    let many : length s.ahead < MAX_AHEAD = grind (arith, nat_tests, few) in
    omega (arith, many, length-append r.engine.block r.backlog)

by_none : (A : Type 0) (B : Refusal → Type 0) (o : Option Refusal) → o ≡ None → A → MatchOption o A B
by_none A B o none a = subst (λ (o : Option Refusal). MatchOption o A B) (sym none) a

-- ---- the replica with one item more

module _ {D : Type 0} (g : Ghosts D) (old new : Replica D) (seqno : ℕ) (i : Item) (j : Judged)
    (running : old.stopped ≡ false) (runs : old.engine.halted ≡ None) (none : delivery_refusal (facts_of g old) seqno ≡ None)
    (is : IsReplica (engine_facts g old.engine) old.backlog old.certifier.current old.stopped)
    (j_is : j ≡ record { seqno = old.certifier.current.delivered + 1; item = i; verdict = verdict_of old.certifier.current i })
    (admits : Admits old.certifier.current i new.certifier.current)
    (engine : new.engine ≡ old.engine) (backlog : new.backlog ≡ old.backlog ++ j ∷ []) (stopped : new.stopped ≡ old.stopped) (goes : JudgingGoesOn) where
  abbrev h : Holding
  h = old.certifier.current

  abbrev s : Standing
  s = facts_of g old

  count : h.delivered ≡ delivered s
  count = let go = is.items running in omega (arith, go.count, length-append old.engine.block old.backlog)

  next_is : j ≡ next_item s i (verdict_of h i)
  next_is = j_is ∙ ap (λ n. record { seqno = n + 1; item = i; verdict = verdict_of h i }) count

  s_runs : s.stopped ≡ false
  s_runs = ap (λ b. b || is_some old.engine.halted) running ∙ ap is_some runs

  nothing : refusal s (delivery seqno i) ≡ None
  nothing = running_refusal s seqno i s_runs ∙ none

  ahead_is : new.engine.block ++ new.backlog ≡ s.ahead ++ j ∷ []
  ahead_is = ap (λ (e : Engine D). e.block ++ new.backlog) engine ∙ ap (λ (xs : List Judged). old.engine.block ++ xs) backlog ∙ sym (append_assoc old.engine.block old.backlog (j ∷ []))

  facts_are : facts_of g new ≡ record s { ahead = s.ahead ++ j ∷ [] }
  facts_are =
      ap (λ (xs : List Judged). record (engine_facts g new.engine) { ahead = xs; stopped = new.stopped || is_some new.engine.halted }) ahead_is
      ∙ ap (λ (e : Engine D). record (engine_facts g e) { ahead = s.ahead ++ j ∷ []; stopped = new.stopped || is_some e.halted }) engine
      ∙ ap (λ b. record (engine_facts g old.engine) { ahead = s.ahead ++ j ∷ []; stopped = b || is_some old.engine.halted }) stopped

  -- ---- on any device

  abbrev found_it : Found
  found_it = record { verdict = verdict_of h i; stale = false; left = []; row = None }

  pub delivered_moves : Moves s (delivery seqno i) (Gave (verdict_of h i)) (facts_of g new)
  delivered_moves = by_none _ _ (refusal s (delivery seqno i)) nothing (inl (found_it, sym (delivery_answer seqno s i found_it), facts_are ∙ ap (λ (x : Judged). record s { ahead = s.ahead ++ x ∷ [] }) next_is ∙ sym (delivery_after seqno s i found_it)))

  passed : (is_nil_bytes s.uuid ≡ false) × ((delivered s == MAX_SEQNO) ≡ false) × (nat_le MAX_AHEAD (length s.ahead) ≡ false)
  passed = tests (is_nil_bytes s.uuid) (delivered s == MAX_SEQNO) _ (nat_le MAX_AHEAD (length s.ahead)) _ _ _ _ none

  many : length s.ahead < MAX_AHEAD
  many = let few = passed.2 in grind (arith, nat_tests, few)

  limited : delivered s < MAX_SEQNO
  limited =
      let go = is.items running in
      let below : delivered s ≤ MAX_SEQNO = omega (arith, go.come.limit, length-append old.engine.block old.backlog) in
      let last = passed.1 in
      grind (arith, nat_tests, last, below)

  pub replica_delivers : VerdictsHaveAPlace → CertifiersHoldWindows → IsWithin i → IsReplica (engine_facts g new.engine) new.backlog new.certifier.current new.stopped
  replica_delivers places law limits =
      subst (λ (e : Engine D). IsReplica (engine_facts g e) new.backlog new.certifier.current new.stopped) (sym engine)
      (subst (λ (js : List Judged). IsReplica (engine_facts g old.engine) js new.certifier.current new.stopped) (sym backlog) (record {
        setting = admits.setting ∙ is.setting;
        askable = record {
          made = omega (arith, admits.made, is.askable.made);
          near = let go = is.items running in omega (arith, admits.delivered, go.count, many, length-append old.engine.block old.backlog);
          past = omega (arith, admits.delivered, is.askable.past);
        };
        windows = law.admits h new.certifier.current i (omega (arith, is.askable.made, is.askable.past)) limits is.windows admits;
        items = λ on.
            let go = is.items running in
            let place : j.seqno ≡ old.certifier.current.delivered + 1 = ap (λ (x : Judged). x.seqno) j_is in
            record {
              come = record {
                follow = goes.seqnos_more (delivered (engine_facts g old.engine) + 1) old.backlog j go.come.follow (omega (arith, place, go.count));
                limit = omega (arith, length-append old.backlog (j ∷ []), go.count, count, limited);
                undefined = λ nil. absurd (let never : false ≡ true = sym passed.0 ∙ nil in cc);
              };
              placed = placed_more old.backlog j go.placed (subst (λ (x : Judged). is_placed x ≡ true) (sym j_is) (places.upto h.setting h.delivered (reach_at h h.delivered).size (reach_at h h.delivered).floor h.entries i (omega (arith, limited, count))));
              count = omega (arith, admits.delivered, go.count, length-append old.backlog (j ∷ []));
            };
      }))

  -- ---- of a node

  module _ (stay : NodesStayNodes) (n : Node) (holds : Holds g n old) where
    abbrev p : Setting
    p = n.facts.setting

    abbrev q : ℕ
    q = holds.taken

    abbrev judges : Judges g old n
    judges = judges_as g old running is n holds

    setting_is : h.setting ≡ p
    setting_is = judges.setting

    here : h.delivered ≡ delivered n.facts
    here = judges.here

    all : delivered n.facts ≡ n.base.position + length n.items
    all = judges.all

    -- the certifier's window is the node's
    present : window_of h h.delivered ≡ (reached p n.base n.items).kept
    present = judges.present

    verdict_is : verdict_of h i ≡ verdict_for n i
    verdict_is = judges.verdict i

    abbrev m : Node
    m = delivered_to n i

    -- the item is the one that comes next at the node
    item_is : j ≡ next_item n.facts i (verdict_for n i)
    item_is = next_is ∙ ap (λ (t : Standing). next_item t i (verdict_of h i)) (sym holds.facts) ∙ ap (next_item n.facts i) verdict_is

    items_are : m.items ≡ n.items ++ j ∷ []
    items_are = ap (λ (x : Judged). n.items ++ x ∷ []) (sym item_is)

    step : Steps n (delivery seqno i) (Gave (verdict_of h i)) m
    step = by_none _ _ (refusal n.facts (delivery seqno i)) (ap (λ (t : Standing). refusal t (delivery seqno i)) holds.facts ∙ nothing) (inl (ap Gave (verdict_is ∙ sym (delivery_verdict seqno n i)) ∙ sym (delivery_answer seqno n.facts i (found n (delivery seqno i))), sym (delivery_moved seqno n i)))

    facts_then : m.facts ≡ facts_of g new
    facts_then =
        ap (λ (x : Judged). record n.facts { ahead = n.facts.ahead ++ x ∷ [] }) (sym item_is) ∙ ap (λ (t : Standing). record t { ahead = t.ahead ++ j ∷ [] }) holds.facts ∙ sym facts_are

    place : (reached p n.base n.items).position ≡ h.delivered
    place = goes.reached_position p n.base n.items ∙ sym (here ∙ all)

    seqno_is : j.seqno ≡ (reached p n.base n.items).position + 1
    seqno_is = ap (λ (x : Judged). x.seqno) j_is ∙ ap (λ k. k + 1) (sym place)

    verdict_there : j.verdict ≡ judge p (reached p n.base n.items).position (reached p n.base n.items).kept i
    verdict_there =
        ap (λ (x : Judged). x.verdict) j_is ∙ ap (λ (r : Setting). judge r h.delivered (window_of h h.delivered) i) setting_is ∙ ap (λ (v : Window). judge p h.delivered v i) present
        ∙ ap (λ k. judge p k (reached p n.base n.items).kept i) (sym place)

    same_item : j.item ≡ i
    same_item = ap (λ (x : Judged). x.item) j_is

    verdict_here : j.verdict ≡ judge p (reached p n.base n.items).position (reached p n.base n.items).kept j.item
    verdict_here = verdict_there ∙ ap (judge p (reached p n.base n.items).position (reached p n.base n.items).kept) (sym same_item)

    next_window : window_of new.certifier.current new.certifier.current.delivered ≡ (reached p n.base (n.items ++ j ∷ [])).kept
    next_window =
        admits.next ∙ ap (λ (r : Setting). window_after r h.delivered (window_of h h.delivered) i) setting_is ∙ ap (λ (v : Window). window_after p h.delivered v i) present
        ∙ ap (λ k. window_after p k (reached p n.base n.items).kept i) (sym place) ∙ ap (window_after p (reached p n.base n.items).position (reached p n.base n.items).kept) (sym same_item)
        ∙ goes.window_next p (reached p n.base n.items).position (reached p n.base n.items).kept j seqno_is verdict_here
        ∙ sym (ap (λ (T : State). T.kept) (goes.reached_more p n.base n.items j))

    windows_more : (k : ℕ) → n.base.position ≤ k → IsAskable new.certifier.current k → window_of new.certifier.current k ≡ (reached p n.base (take (k - n.base.position) (n.items ++ j ∷ []))).kept
    windows_more k above ask = by (cases_lt h.delivered k)
      where
        long : length (n.items ++ j ∷ []) ≡ length n.items + 1
        long = length-append n.items (j ∷ [])

        by : ((h.delivered < k) ⊎ (k ≤ h.delivered)) → window_of new.certifier.current k ≡ (reached p n.base (take (k - n.base.position) (n.items ++ j ∷ []))).kept
        by (inl lt) =
            let last : k ≡ new.certifier.current.delivered = omega (arith, lt, ask.past, admits.delivered) in
            ap (window_of new.certifier.current) last ∙ next_window ∙ ap (λ (xs : List Judged). (reached p n.base xs).kept) (sym (take_all (k - n.base.position) (n.items ++ j ∷ []) (omega (arith, lt, here, all, long))))
        by (inr le) =
            admits.kept k ask le ∙ holds.windows k above (record { made = omega (arith, ask.made, admits.made); near = omega (arith, ask.near, admits.delivered); past = le })
            ∙ ap (λ (xs : List Judged). (reached p n.base xs).kept) (sym (take-append-le (k - n.base.position) n.items (j ∷ []) (omega (arith, le, here, all))))

    pub delivered_holds : (t : Node) × Steps n (delivery seqno i) (Gave (verdict_of h i)) t × Holds g t new
    delivered_holds =
        let part : part_of old.engine.block q m ≡ part_of old.engine.block q n =
        ap (λ (xs : List Judged). record n { facts = with_ahead old.engine.block n.facts; items = xs }) (take-append-le q n.items (next_item n.facts i (verdict_for n i) ∷ []) holds.within) in
        let there : EngineHolds g (part_of old.engine.block q m) old.engine = subst (λ (k : Node). EngineHolds g k old.engine) (sym part) holds.engine in (
          m,
          step,
          record {
            running = stopped ∙ running;
            facts = facts_then;
            node = stay n m (delivery seqno i) (Gave (verdict_of h i)) holds.node step;
            judged = subst (AreJudgedFrom p n.base) (sym items_are) (goes.judged_more p n.base n.items j holds.judged (seqno_is, verdict_here, tt));
            taken = q;
            within = omega (arith, holds.within, ap length items_are, length-append n.items (j ∷ []));
            engine = subst (λ (e : Engine D). EngineHolds g (part_of e.block q m) e) (sym engine) there;
            waiting = backlog ∙ ap (λ (xs : List Judged). xs ++ j ∷ []) holds.waiting ∙ sym (drop-append-le q n.items (j ∷ []) holds.within) ∙ ap (drop q) (sym items_are);
            windows = λ k above ask. windows_more k above ask ∙ ap (λ (xs : List Judged). (reached p n.base (take (k - n.base.position) xs)).kept) (sym items_are);
          },
        )

  spelled_by : (x : Item) → Spells g old (delivery seqno x) (Gave (verdict_of h i)) new
  spelled_by (WriteSet w) = tt
  spelled_by (OfChange c) = tt

  pub delivered_step : NodesStayNodes → IsStep g old (delivery seqno i) (Gave (verdict_of h i)) new
  delivered_step stay = record {
    moves = delivered_moves;
    steps = delivered_holds stay;
    leaves = λ n holds. leaves_none (g.history old.engine.disk) (g.history new.engine.disk) (ap (λ (e : Engine D). g.history e.disk) engine);
    device = subst (λ (x : Engine D). g.honest old.engine.disk ↔ g.honest x.disk) (sym engine) (λ h. h, λ h. h);
    unchanged = tt;
    spelled = spelled_by i;
  }

-- the verdict is the certifier's
pub judged_by : (h : Holding) (seqno : ℕ) (i : Item) (v : Verdict) → v ≡ verdict_of h i → IsJudgedBy h (delivery seqno i) (Gave v)
judged_by h seqno (WriteSet w) v is = is
judged_by h seqno (OfChange c) v is = is

pub judged_none : (h : Holding) (seqno : ℕ) (i : Item) (r : Refusal) → IsJudgedBy h (delivery seqno i) (Refused r)
judged_none h seqno (WriteSet w) r = tt
judged_none h seqno (OfChange c) r = tt

-- no page is read for it
pub spelled_none : {D : Type 0} (g : Ghosts D) (old new : Replica D) (seqno : ℕ) (i : Item) (r : Refusal) → Spells g old (delivery seqno i) (Refused r) new
spelled_none g old new seqno (WriteSet w) r = tt
spelled_none g old new seqno (OfChange c) r = tt
