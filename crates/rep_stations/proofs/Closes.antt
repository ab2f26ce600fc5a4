-- How a history begins with the parts of a replica, and ends in those of one.
use Rattle.std.proofs.Common.{◌≡◌, ℕ, ◌+◌, ◌-◌, ◌≤◌, Bool, true, false, List, [], ◌∷◌, ◌++◌, append-nil, length, length-append, length-drop, take, drop, refl, sym, ap, subst, ◌∙◌, arith}
use Rattle.std.specs.Prelude.{◌||◌, ◌&&◌, ◌==◌, is_some, IsTrue}
use Rattle.std.proofs.Math.Seq.{take-append_seam, drop-append_seam}
use Rattle.std.proofs.lemmas.Bool.Decides.{nat_tests}
use Rattle.std.proofs.lemmas.List.{drop-append-le, take_all, drop_all}
use Rattle.uuid.specs.Parts.{is_nil_bytes}
use Rattle.rep_types.specs.declared.judged.Judged.{Judged}
use Rattle.rep_types.specs.Settings.{Setting}
use Rattle.rep_types.specs.Order.{State}
use Rattle.rep_types.proofs.Choices.{and_left}
use Rattle.rep_disk.specs.declared.disk.Disk.{Ghosts}
use Rattle.rep_cert.specs.Holdings.{Holding, window_of}
use Rattle.rep_steps.specs.Standings.{Standing, IsStanding}
use Rattle.rep_steps.specs.Nodes.{Node, IsNode, advanced, reached}
use Rattle.rep_steps.specs.Parts.{with_ahead, part_of}
use Rattle.rep_steps.specs.Images.{AreJudgedFrom}
use Rattle.rep_steps.specs.Judging.{JudgingGoesOn}
use Rattle.rep_engine.specs.Engines.{Engine, facts_of, durable_of}
use Rattle.rep_engine.specs.Accepting.{ComeNext}
use Rattle.rep_engine.specs.Holding.{Holds as EngineHolds, with_items}
use Rattle.rep_replica.specs.Replicas.{Replica, ArePlaced, IsReplica, facts_of as replica_facts}
use Rattle.rep_replica.specs.Settling.{is_quiet}
use Rattle.rep_replica.specs.Holding.{Holds}
use Rattle.rep_stations.specs.Judging.{Legal, HasJudged, start_of}
use Rattle.rep_stations.specs.Taking.{GoesOn, StartsAs}
use Rattle.rep_stations.specs.Ending.{Begins, Ends, HistoriesLieBetweenReplicas}
use Rattle.rep_stations.proofs.Takes.{base_at, waits_come, more_on, judged_there, history_windows, window_then}

-- ---- lists

none_left : {X : Type 0} (xs ys : List X) → xs ++ ys ≡ [] → (xs ≡ []) × (ys ≡ [])
none_left [] ys e = (refl, e)
none_left (x ∷ xs) ys e = absurd cc

no_items : {X : Type 0} (xs : List X) (b : Bool) → ((length xs == 0) && b) ≡ true → xs ≡ []
no_items [] b e = refl
no_items (x ∷ xs) b e =
    let first : (length (x ∷ xs) == 0) ≡ true = and_left (length (x ∷ xs) == 0) b e in
    let none : length (x ∷ xs) ≡ 0 = grind (arith, nat_tests, first) in
    absurd (omega (arith, none))

placed_behind : (js ks : List Judged) → ArePlaced (js ++ ks) → ArePlaced ks
placed_behind [] ks all = all
placed_behind (j ∷ js) ks all = placed_behind js ks all.1

pub judged_both : (p : Setting) (S : State) (js ks : List Judged) → AreJudgedFrom p S js → AreJudgedFrom p (reached p S js) ks → AreJudgedFrom p S (js ++ ks)
judged_both p S [] ks h more = more
judged_both p S (j ∷ js) ks h more = (h.0, h.1, judged_both p (advanced p S j) js ks h.2 more)

-- ---- the beginning

module _ {D : Type 0} (g : Ghosts D) (r : Replica D) (is : IsReplica (facts_of g r.engine) r.backlog r.certifier.current r.stopped) (running : r.stopped ≡ false)
    (quiet : is_quiet (replica_facts g r) ≡ true) where
  abbrev h : Holding
  h = r.certifier.current

  none : (r.engine.block ≡ []) × (r.backlog ≡ [])
  none = none_left r.engine.block r.backlog (no_items (r.engine.block ++ r.backlog) _ quiet)

  none_ahead : r.engine.block ++ r.backlog ≡ []
  none_ahead = ap (λ (js : List Judged). js ++ r.backlog) none.0 ∙ none.1

  at : h.delivered ≡ durable_of r.engine.log
  at = let go = is.items running in omega (arith, go.count, ap length none.0, ap length none.1)

  nothing_judged : HasJudged h [] h
  nothing_judged = record {
    setting = refl;
    made = refl;
    start = omega (arith, is.askable.made, at);
    delivered = omega arith;
    before = λ k ask le. refl;
    behind = λ k ask le.
        ap (window_of h) (let same : k ≡ h.delivered = omega (arith, ask.past, le) in same)
        ∙ ap (λ (js : List Judged). (reached h.setting (start_of h) js).kept) (sym (take_all (k - h.delivered) [] (omega arith)));
    windows = λ windows. windows;
  }

  goes_nowhere : (n : Node) → GoesOn n [] n
  goes_nowhere n = record { setting = refl; uuid = refl; past = 0; within = omega arith; base = refl; rest = sym (append-nil n.items) }

  -- the node that the replica stands for
  starts : (n : Node) → Holds g n r → StartsAs g r.engine h n
  starts n holds =
      let ahead : n.facts.ahead ≡ [] = ap (λ (s : Standing). s.ahead) holds.facts ∙ none_ahead in
      let few : length n.items ≤ holds.taken = omega (arith, ap length holds.waiting, ap length none.1, length-drop holds.taken n.items) in
      let part : part_of r.engine.block holds.taken n ≡ n =
      ap (λ (js : List Judged). record n { facts = with_ahead js n.facts; items = take holds.taken n.items }) (none.0 ∙ sym ahead) ∙ ap (λ (js : List Judged). record n { items = js }) (take_all holds.taken n.items few) in
      record {
        engine = subst (λ (m : Node). EngineHolds g m r.engine) part holds.engine;
        setting = ap (λ (s : Standing). s.setting) holds.facts ∙ sym is.setting;
        judged = holds.judged;
        made = omega (arith, is.askable.made, at);
        count =
            omega (
              arith,
              at,
              ap (λ (s : Standing). s.durable) holds.facts,
              holds.node.position,
              holds.node.enough,
              holds.node.facts.based,
              ap length holds.node.ahead,
              ap length ahead,
              length-drop (n.facts.durable - n.facts.base) n.items,
            );
        windows = holds.windows;
      }

  pub begun : Begins g r
  begun = record {
    judged = nothing_judged;
    windows = is.windows;
    taken = record {
      setting = sym is.setting;
      uuid = refl;
      rises = omega (arith, at);
      count = omega (arith, at, ap length none.0);
      block = none.0 ∙ sym (drop_all (durable_of r.engine.log - h.delivered) [] (omega arith));
      stands = λ n start. (n, goes_nowhere n, start.engine);
    };
    waits = none.1;
    at = at;
    stands = starts;
  }

-- ---- the end

module _ {D : Type 0} (g : Ghosts D) (goes : JudgingGoesOn) (first : Engine D) (c : Holding) (items taken waits : List Judged) (r : Replica D)
    (x : Ends g first c items taken waits r) where
  abbrev e : Engine D
  e = r.engine

  long : length items ≡ length taken + length waits
  long = ap length x.whole ∙ length-append taken waits

  none_waits : IsTrue (is_nil_bytes first.checkpoint.base.uuid) → waits ≡ []
  none_waits nil = (none_left taken waits (sym x.whole ∙ x.undefined nil)).1

  comes : ComeNext (facts_of g e) waits
  comes =
      waits_come g goes first c taken e x.engine waits (subst (Legal c) x.whole x.legal)
      (omega (arith, x.limit, x.judged.delivered, ap length x.whole)) none_waits

  pub ended : IsReplica (facts_of g e) r.backlog r.certifier.current r.stopped
  ended = record {
    setting = x.judged.setting ∙ sym x.engine.setting;
    askable = record {
      made = omega (arith, x.judged.made, x.judged.start, x.engine.rises);
      near = x.near;
      past = omega (arith, x.engine.count, x.judged.delivered, long);
    };
    windows = x.judged.windows x.windows;
    items = λ on. record {
      come = subst (ComeNext (facts_of g e)) (sym (x.waiting on)) comes;
      placed = subst ArePlaced (sym (x.waiting on)) (placed_behind taken waits (subst ArePlaced x.whole x.placed));
      count = omega (arith, x.judged.delivered, x.engine.count, long, ap length (x.waiting on));
    };
  }

  -- ---- what the replica stands for

  module _ (running : r.stopped ≡ false) (n : Node) (start : StartsAs g first c n) (m : Node) (on : GoesOn n taken m) (holds : EngineHolds g m e) where
    abbrev k : Node
    k = with_items waits m

    block : m.facts.ahead ≡ e.block
    block = ap (λ (s : Standing). s.ahead) holds.facts

    durable : m.facts.durable ≡ durable_of e.log
    durable = ap (λ (s : Standing). s.durable) holds.facts

    ahead : length k.facts.ahead ≡ length e.block + length waits
    ahead = length-append m.facts.ahead waits ∙ ap (λ (js : List Judged). length js + length waits) block

    whole_on : GoesOn n items k
    whole_on = subst (λ (js : List Judged). GoesOn n js k) (sym x.whole) (more_on g goes first c taken e x.engine waits n m on)

    facts : k.facts ≡ replica_facts g r
    facts =
        ap (λ (s : Standing). record s { ahead = s.ahead ++ waits }) holds.facts ∙ ap (λ (js : List Judged). record (facts_of g e) { ahead = e.block ++ js }) (sym (x.waiting running))
        ∙ ap (λ b. record (facts_of g e) { ahead = e.block ++ r.backlog; stopped = b || is_some e.halted }) (sym running)

    standing : IsStanding k.facts
    standing =
        let was = holds.node.facts in
        record {
          allowed = was.allowed;
          undefined = λ nil.
              let none = none_waits (subst (λ (u : List ℕ). IsTrue (is_nil_bytes u)) (ap (λ (s : Standing). s.uuid) holds.facts ∙ x.engine.uuid) nil) in
              let before = was.undefined nil in
              (before.0, ap (λ (js : List Judged). js ++ waits) before.1 ∙ none);
          based = was.based;
          near = omega (arith, ahead, x.near, x.judged.delivered, x.engine.count, long);
          limit = omega (arith, ahead, durable, x.limit, x.judged.delivered, x.engine.count, long);
          block = omega (arith, was.block, length-append m.facts.ahead waits);
          few = was.few;
          started = was.started;
          room = was.room;
          goal = was.goal;
        }

    node : IsNode k
    node = record {
      facts = standing;
      position = holds.node.position;
      enough = omega (arith, holds.node.enough, length-append m.items waits);
      ahead =
          ap (λ (js : List Judged). js ++ waits) holds.node.ahead
          ∙ sym (drop-append-le (m.facts.durable - m.facts.base) m.items waits (omega (arith, holds.node.enough, holds.node.facts.based)));
    }

    judged : AreJudgedFrom k.facts.setting k.base k.items
    judged =
        let p = n.facts.setting in
        let all = n.items ++ items in
        let of_all : AreJudgedFrom p n.base all = judged_both p n.base n.items items start.judged (judged_there g goes first c n start items x.legal) in
        let behind : AreJudgedFrom p (reached p n.base (take whole_on.past all)) (drop whole_on.past all) = goes.judged_behind p n.base whole_on.past all of_all in
        subst (λ (q : Setting). AreJudgedFrom q k.base k.items) (sym whole_on.setting)
        (subst (λ (S : State). AreJudgedFrom p S k.items) (sym whole_on.base) (subst (AreJudgedFrom p (reached p n.base (take whole_on.past all))) (sym whole_on.rest) behind))

    part : m ≡ part_of e.block (length m.items) k
    part =
        ap (λ (js : List Judged). record m { facts = with_ahead js m.facts }) block
        ∙ ap (λ (js : List Judged). record m { facts = with_ahead e.block m.facts; items = js }) (sym (take-append_seam m.items waits))

    pub whole_holds : (t : Node) × GoesOn n items t × Holds g t r
    whole_holds = (
      k,
      whole_on,
      record {
        running = running;
        facts = facts;
        node = node;
        judged = judged;
        taken = length m.items;
        within = omega (arith, length-append m.items waits);
        engine = subst (λ (t : Node). EngineHolds g t e) part holds;
        waiting = x.waiting running ∙ sym (drop-append_seam m.items waits);
        windows = λ i above ask.
            history_windows g goes first c n start items r.certifier.current x.judged i (omega (arith, above, base_at goes n items k whole_on)) ask
            ∙ sym (window_then goes n items k whole_on i above);
      },
    )

-- ---- the law

pub lie_between : {D : Type 0} (g : Ghosts D) → JudgingGoesOn → HistoriesLieBetweenReplicas g
lie_between g goes = record {
  begins = λ r is running quiet. begun g r is running quiet;
  ends = λ first c items taken waits r x. ended g goes first c items taken waits r x;
  stands = λ first c items taken waits r x running n start.
      let at = x.engine.stands n start in
      whole_holds g goes first c items taken waits r x running n start at.0 at.1 at.2;
}
