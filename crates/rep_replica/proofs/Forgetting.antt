-- A read forgets nothing of the order, and answers its rows.
use Rattle.std.proofs.Common.{◌≡◌, ◌⊎◌, inl, inr, ℕ, ◌≤◌, Bool, true, false, List, length, take, Option, Some, None, Result, Ok, Err, refl, sym, ap, subst, ◌∙◌}
use Rattle.std.specs.Prelude.{◌||◌, is_some, nat_lt, not, if◌then◌else◌, MatchOption}
use Rattle.std.proofs.lemmas.Bool.{ltb-false}
use Rattle.std.proofs.lemmas.List.{take-take}
use Rattle.rep_types.specs.declared.key.Key.{Key}
use Rattle.rep_types.specs.declared.refusal.Refusal.{Refusal}
use Rattle.rep_types.specs.declared.refusal.Refusal.TheVariants.{Stopped, BadKey, NotYet, TooOld}
use Rattle.rep_types.specs.Settings.{Setting, has_row}
use Rattle.rep_types.specs.Order.{Order, read, rows}
use Rattle.rep_disk.specs.declared.disk.Disk.{Ghosts}
use Rattle.rep_disk.specs.History.{History, stable, IsImage}
use Rattle.rep_cells.specs.Known.{Assigns}
use Rattle.rep_log.specs.declared.phase.Phase.{Phase}
use Rattle.rep_steps.specs.declared.event.Event.TheVariants.{Read}
use Rattle.rep_steps.specs.declared.answer.Answer.TheVariants.{Row, Refused}
use Rattle.rep_steps.specs.Standings.{Standing}
use Rattle.rep_steps.specs.Nodes.{Node, Steps, NodesOutlastFailures}
use Rattle.rep_steps.specs.Orders.{IsOf, StepsFollowTheOrder}
use Rattle.rep_steps.specs.Parts.{part_of}
use Rattle.rep_steps.specs.Images.{IsFrontAt}
use Rattle.rep_recover.specs.Meanings.{Means}
use Rattle.rep_recover.specs.Nodes.{StandsAs}
use Rattle.rep_recover.specs.Engines.{Engine}
use Rattle.rep_recover.specs.Holding.{Stands, Holds as EngineHolds, row}
use Rattle.rep_replica.specs.Replicas.{Replica}
use Rattle.rep_replica.specs.Holding.{Holds, IsStep}
use Rattle.rep_replica.specs.Reading.{IsRead, running, HasRowsOf, ReadsForgetNothing}

-- ---- a row that is answered

-- a row is no refusal
no_refusal : {A : Type 0} (x : Option (List ℕ)) (r : Refusal) → Row x ≡ Refused r → A
no_refusal x r e = absurd cc

-- where a row is answered, no refusal applies, and the position is at most the durable one
answered_within : (A : Type 0) (B : Refusal → Type 0) (stopped known above below : Bool) (durable base s : ℕ) (x : Option (List ℕ)) → nat_lt durable s ≡ above
    → MatchOption (if stopped then Some Stopped else if not known then Some BadKey else if above then Some (NotYet durable) else if below then Some (TooOld base) else None) A (λ r. (Row x ≡ Refused r) × B r) → s ≤ durable
answered_within A B true known above below durable base s x is m = no_refusal x Stopped m.0
answered_within A B false false above below durable base s x is m = no_refusal x BadKey m.0
answered_within A B false true true below durable base s x is m = no_refusal x (NotYet durable) m.0
answered_within A B false true false true durable base s x is m = no_refusal x (TooOld base) m.0
answered_within A B false true false false durable base s x is m = ltb-false durable s is

same_row : (x y : Option (List ℕ)) → Row x ≡ Row y → x ≡ y
same_row x y e = cc

read_follows : {D : Type 0} (g : Ghosts D) → StepsFollowTheOrder → (a b : Replica D) (key : Key) (s : ℕ) (answer : Result (Option (List ℕ)) Refusal)
    → IsStep g a (Read key s) (row answer) b → (n : Node) (M : Order) (x : Option (List ℕ)) → Holds g n a → IsOf M n → answer ≡ Ok x
    → (s ≤ n.facts.durable) × (x ≡ read n.facts.setting M key s)
read_follows g follow a b key s answer step n M x holds is_of is_ok =
    let to = step.steps n holds in
    let steps : Steps n (Read key s) (Row x) to.0 = subst (λ (r : Result (Option (List ℕ)) Refusal). Steps n (Read key s) (row r) to.0) is_ok to.1 in (
      answered_within _ _ n.facts.stopped (has_row n.facts.setting.rows key) (nat_lt n.facts.durable s) (nat_lt s n.facts.base) n.facts.durable n.facts.base s x refl steps,
      by (follow M n to.0 (Read key s) (Row x) holds.node is_of steps).answered,
    )
  where
    by : ((r : Refusal) × (Row x ≡ Refused r)) ⊎ (Row x ≡ Row (read n.facts.setting M key s)) → x ≡ read n.facts.setting M key s
    by (inl (r, e)) = no_refusal x r e
    by (inr e) = same_row x (read n.facts.setting M key s) e

-- ---- a device that was asked differs in its count of failures

abbrev counted : ℕ → Standing → Standing
counted failures s = record s { failures = failures }

abbrev recounted : ℕ → Node → Node
recounted failures n = record n { facts = counted failures n.facts }

front_still : (f : ℕ) (n : Node) (image : List ℕ) → IsFrontAt Means n image → IsFrontAt Means (recounted f n) image
front_still f n image h = record { meaning = h.meaning; reads = h.reads; end = h.end; least = h.least; front = h.front }

-- the engine with this device in place of its own
abbrev upon : {D : Type 0} → D → Engine D → Engine D
upon disk e = record e { disk = disk; halted = None }

abbrev on_disk : {D : Type 0} → D → Replica D → Replica D
on_disk disk r = record r { engine = upon disk r.engine; stopped = false }

module _ {D : Type 0} (outlast : NodesOutlastFailures) (g : Ghosts D) (old new : D) (is_honest : g.honest old) (same : g.history new ≡ g.history old) where
  stands_still : (n : Node) (e : Engine D) → Stands g n (upon new e) → Stands g (recounted (g.failures old) n) (upon old e)
  stands_still n e h = record {
    states = h.states;
    assigns = subst (λ (past : History). Assigns e.layout past h.states) same h.assigns;
    blocks = h.blocks;
    sealed = h.sealed;
    stands =
        let at = subst (λ (past : History). StandsAs n (length (stable past)) e.checkpoint e.log h.blocks h.sealed h.states) same h.stands in
        record {
          uuid = at.uuid;
          setting = at.setting;
          goal = at.goal;
          checkpoint = at.checkpoint;
          toward = λ next part is. let led = at.toward next part is in record { past = led.past; position = led.position; within = led.within; state = led.state; cells = led.cells; start = led.start; few = led.few; records = led.records };
          start = at.start;
          log_is = at.log_is;
          phase = at.phase;
          durable = at.durable;
          coming = at.coming;
          judged = at.judged;
          undefined = at.undefined;
        };
    versions = h.versions;
    gates = h.gates;
  }

  engine_still : (n : Node) (e : Engine D) → EngineHolds g n (upon new e) → EngineHolds g (recounted (g.failures old) n) (upon old e)
  engine_still n e h = record {
    is_honest = is_honest;
    facts = ap (counted (g.failures old)) h.facts;
    node = outlast (g.failures old) n h.node;
    runs = λ none. stands_still n e (h.runs refl);
    images = λ image is. front_still (g.failures old) n image (h.images image (subst (λ (past : History). IsImage past image) (sym same) is));
  }

  holds_still : (n : Node) (r : Replica D) → Holds g n (on_disk new r) → Holds g (recounted (g.failures old) n) (on_disk old r)
  holds_still n r h = record {
    running = refl;
    facts = ap (counted (g.failures old)) h.facts;
    node = outlast (g.failures old) n h.node;
    judged = h.judged;
    taken = h.taken;
    within = h.within;
    engine = engine_still (part_of r.engine.block h.taken n) r.engine h.engine;
    waiting = h.waiting;
    windows = h.windows;
  }

  are_still : (r : Replica D) (p : Setting) (L : Order) → HasRowsOf g (on_disk new r) p L → HasRowsOf g (on_disk old r) p L
  are_still r p L h = record {
    node = recounted (g.failures old) h.node;
    order = h.order;
    holds = holds_still h.node r h.holds;
    is_of = record { within = h.is_of.within; base = h.is_of.base; items = h.is_of.items };
    setting = h.setting;
    durable = h.durable;
  }

-- ---- the law

module _ {D : Type 0} (g : Ghosts D) (outlast : NodesOutlastFailures) (follow : StepsFollowTheOrder) where
  -- of a stopped replica it is said as of the same one that runs
  as_running : (r : Replica D) (p : Setting) (L : Order) → HasRowsOf g r p L → HasRowsOf g (running r) p L
  as_running r p L h = record { node = h.node; order = h.order; holds = h.holds; is_of = h.is_of; setting = h.setting; durable = h.durable }

  as_stopped : (r : Replica D) (p : Setting) (L : Order) → HasRowsOf g (running r) p L → HasRowsOf g r p L
  as_stopped r p L h = record { node = h.node; order = h.order; holds = h.holds; is_of = h.is_of; setting = h.setting; durable = h.durable }

  -- an order whose rows the replica has behind a read is one whose rows it had before
  forgets : (a b : Replica D) (key : Key) (s : ℕ) (answer : Result (Option (List ℕ)) Refusal) (p : Setting) (L : Order) → IsRead g a key s answer b → HasRowsOf g b p L → HasRowsOf g a p L
  forgets a b key s answer p L h of =
      let new = b.engine.disk in
      let old = a.engine.disk in
      let was_honest : g.honest old = h.call.was_honest of.holds.engine.is_honest in
      let ran : HasRowsOf g (running b) p L = as_running b p L of in
      let moved : HasRowsOf g (on_disk new a) p L = subst (λ (r : Replica D). HasRowsOf g (running r) p L) h.rest ran in
      as_stopped a p L (are_still outlast g old new was_honest (h.same was_honest) a p L moved)

  -- where a row is answered, it runs
  runs : (a : Replica D) (stopped : Bool) (halted : Option Phase) → a.stopped ≡ stopped → a.engine.halted ≡ halted → ((stopped || is_some halted) ≡ true → ⊥) → running a ≡ a
  runs a true halted is_stopped is_halted never = absurd (never refl)
  runs a false (Some phase) is_stopped is_halted never = absurd (never refl)
  runs a false None is_stopped is_halted never = ap (λ (stopped : Bool). record a { engine = record a.engine { halted = None }; stopped = stopped }) (sym is_stopped) ∙ ap (λ (halted : Option Phase). record a { engine = record a.engine { halted = halted } }) (sym is_halted)

  -- a row that it answers is the row of each order that begins with what is durable there
  reads : (a b : Replica D) (key : Key) (s : ℕ) (answer : Result (Option (List ℕ)) Refusal) (x : Option (List ℕ)) (p : Setting) (L : Order) → IsRead g a key s answer b → answer ≡ Ok x
      → HasRowsOf g b p L → x ≡ read p L key s
  reads a b key s answer x p L h is_ok behind =
      let of : HasRowsOf g a p L = forgets a b key s answer p L h behind in
      let same : running a ≡ a = runs a a.stopped a.engine.halted refl refl (λ stopped. never (sym is_ok ∙ (h.stopped stopped).0)) in
      let holds : Holds g of.node a = subst (Holds g of.node) same of.holds in
      let found = read_follows g follow a b key s answer h.step of.node of.order x holds of.is_of is_ok in
      let d = of.node.facts.durable in
      let front : (K : Order) → take s (take d K) ≡ take s K = λ K. take-take s d K found.0 in
      let items : take s of.order ≡ take s L = sym (front of.order) ∙ ap (take s) (sym of.durable) ∙ front L in
      found.1 ∙ ap (λ (K : Order). rows of.node.facts.setting K key) items ∙ ap (λ (q : Setting). rows q (take s L) key) of.setting
    where
      never : (let answer : Result (Option (List ℕ)) Refusal = Ok x in answer ≡ Err Stopped) → ⊥
      never e = cc

  pub reads_forget : ReadsForgetNothing g
  reads_forget = record { forgets = forgets; rows = reads }
