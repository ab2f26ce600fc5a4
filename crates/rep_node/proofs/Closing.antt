-- A node at its end: what its lock is closed with is what a replica is put together from.
use Rattle.std.proofs.Common.{◌≡◌, ℕ, ◌+◌, ◌-◌, ◌^◌, ◌≤◌, Bool, true, false, Option, Some, None, List, [], ◌∷◌, ◌++◌, map, length, ap, sym, refl, ◌∙◌, subst, arith}
use Rattle.std.specs.Prelude.{IsTrue, IsFalse, ◌↔◌}
use mathlib.Core.Logic.{dite}
use native.Mathlib.Decide.{ℕ_discrete}
use Rattle.rep_types.specs.declared.judged.Judged.{Judged}
use Rattle.rep_types.specs.Order.{items_of}
use Rattle.rep_disk.specs.declared.disk.Disk.{Ghosts}
use Rattle.rep_engine.specs.Engines.{durable_of}
use Rattle.rep_replica.specs.Replicas.{Replica}
use Rattle.rep_replica.specs.Holding.{Holds}
use Rattle.rep_steps.specs.Nodes.{Node}
use Rattle.rep_steps.specs.Orders.{IsOf}
use Rattle.rep_steps.specs.Images.{IsFrontOf}
use Rattle.rep_image.specs.Meanings.{Means}
use Rattle.rep_stations.specs.Judging.{HasJudged, Legal}
use Rattle.rep_stations.specs.Waiting.{HistoriesGoOn, Waits}
use Rattle.rep_stations.specs.Orders.{HistoriesExtendTheOrder}
use Rattle.rep_stations.specs.Ending.{Ends, HistoriesLieBetweenReplicas}
use Rattle.rep_ordered.specs.declared.view.View.{View}
use Rattle.rep_ordered.specs.Counts.{times, once_below}
use Rattle.rep_ordered.specs.Views.{Later, held_at, reached_at}
use Rattle.rep_ordered.specs.Ends.{Closed, ClosedAt}
use Rattle.rep_node.specs.declared.home.Home.{Home}
use Rattle.rep_node.specs.declared.home.Home.TheVariants.{Certifier as AtFirst, Desk as AtSecond, Queue as AtThird}
use Rattle.rep_node.specs.Homes.{Start, AtHome, CertifierAt, DeskAt, QueueAt, IsLegal, IsLegalBehind, position_of, values_of, durable_in, common_in}
use Rattle.rep_node.specs.Seats.{IsSeat, PassedOrStopped}
use Rattle.rep_node.specs.Ending.{EndsAs}
use Rattle.rep_ordered.specs.Beginnings.{shorter, whole_front}
use Rattle.rep_node.proofs.Standing.{certifier_found, desk_found, queue_found, at_first, at_second, at_third, one_start}

-- ---- the values that were closed are one thing

abbrev some_or : {A : Type 0} → A → Option A → A
some_or d None = d
some_or d (Some x) = x

pub one_end : {D : Type 0} (values : List (Option (Home D))) (s t : Start D) → values ≡ map Some (values_of s) → values ≡ map Some (values_of t) → s ≡ t
one_end values s t p q = one_start (values_of s) s t refl (ap (map (some_or (AtFirst s.certifier))) (sym p ∙ q))

-- the bit of the front says whether there was a halt
pub not_halted : (stopped : Bool) (halted : ℕ) → IsTrue stopped ↔ (halted ≡ 1) → halted ≤ 1 → stopped ≡ false → halted ≡ 0
not_halted true halted is low running = absurd (let never : true ≡ false = running in cc)
not_halted false halted is low running = dite (ℕ_discrete halted 1) (λ one. absurd (let never : IsTrue false = is.1 one in cc)) (λ other. omega arith)

pub was_halted : (stopped bit : Bool) (before halted : ℕ) → stopped ≡ bit → halted ≡ before → IsTrue bit ↔ (halted ≡ 1) → halted ≤ 1 → (IsTrue stopped → before ≡ 1) × (IsFalse stopped → before ≡ 0)
was_halted stopped bit before halted same last is low = (λ yes. sym last ∙ is.0 (sym same ∙ yes), λ no. sym last ∙ not_halted bit halted is low (sym same ∙ no))

abbrev pub replica_of : {D : Type 0} → Start D → Bool → Replica D
replica_of t stopped = record { engine = t.desk.engine; backlog = t.queue.backlog; certifier = t.certifier; stopped = stopped }

module _ {D : Type 0} (g : Ghosts D) where
  abbrev pub ClosedBy : View (Home D) Judged → List (Option (Home D)) → Type 0
  ClosedBy v values = Closed (IsLegal v.first) (AtHome g v.first) durable_in common_in v values

  abbrev Closes : View (Home D) Judged → ℕ → ℕ → ℕ → Option (Home D) → Type 0
  Closes v durable common j found = ClosedAt (IsLegal v.first) (AtHome g v.first) durable_in common_in v durable common j found

  -- without a halt the queue's turn is behind the last number that was drawn
  all_passed : (v : View (Home D) Judged) (number : ℕ) → ((x : ℕ) → times x v.own + once_below x v.start ≡ once_below x (v.start + length v.own)) → v.halted ≡ 0 → PassedOrStopped v → v.start ≤ number → reached_at 2 v.reached ≤ number → v.start + length v.own ≤ number
  all_passed v number numbers running passed begun turn = dite (ℕ_discrete (length v.own) 0)
      (λ none_drawn. omega arith)
      (λ some_drawn. let last : ℕ = v.start + length v.own - 1 in let once = numbers last in let p = passed running last (omega arith) in omega arith)

  -- what lies at home in the three stations in the end
  pub record Closing (v : View (Home D) Judged) (s t : Start D) : Type 0 where
    pub number : ℕ
    pub durable : ℕ
    pub given : ℕ
    pub certifier : CertifierAt s (v.start + length v.seen) v.seen durable t.certifier.current
    pub desk : DeskAt g s given v.seen t.desk
    pub queue : QueueAt s number v.seen t.queue
    pub backed : durable ≤ durable_of t.desk.engine.log
    pub known : v.durable ≤ durable
    pub common : durable_of t.desk.engine.log + length t.desk.engine.block ≡ t.queue.accepted
    pub within : length v.seen ≤ length v.own
    pub limit : v.start + length v.seen ≤ 2 ^ 60 + 1
    pub passed : v.halted ≡ 0 → v.start + length v.own ≤ number
    pub kept : given ≤ v.halted

  closing : (v : View (Home D) Judged) (values : List (Option (Home D))) (closed : ClosedBy v values) (s : Start D) (x y z : Option (Home D)) → v.first ≡ values_of s → PassedOrStopped v
      → Closes v closed.durable closed.common 0 x → Closes v closed.durable closed.common 1 y → Closes v closed.durable closed.common 2 z
      → (t : Start D) × (x ≡ Some (AtFirst t.certifier)) × (y ≡ Some (AtSecond t.desk)) × (z ≡ Some (AtThird t.queue)) × Closing v s t
  closing v values closed s x y z is passed a b c =
      let f = certifier_found g v.first a.number a.given closed.durable v.seen a.value a.keeps in
      let e = desk_found g v.first b.number b.given closed.durable v.seen b.value b.keeps in
      let found = queue_found g v.first c.number c.given closed.durable v.seen c.value c.keeps in
      let t : Start D = record { certifier = f.0; desk = e.0; queue = found.0 } in
      let place = a.place refl in let within = a.within in let limit = a.limit in
      let common_desk : durable_of t.desk.engine.log + length t.desk.engine.block ≡ closed.common = sym (ap common_in e.1) ∙ b.common (omega arith) in
      let common_queue : t.queue.accepted ≡ closed.common = sym (ap common_in found.1) ∙ c.common (omega arith) in
      let backed = (b.backed refl).1 in let durable : durable_in b.value ≡ durable_of t.desk.engine.log = ap durable_in e.1 in (
        t,
        a.is ∙ ap Some f.1,
        b.is ∙ ap Some e.1,
        c.is ∙ ap Some found.1,
        record {
          number = c.number;
          durable = closed.durable;
          given = b.given;
          certifier = subst (λ n. CertifierAt s n v.seen closed.durable t.certifier.current) (sym place) (at_first g v.first a.number a.given closed.durable v.seen a.value t.certifier a.keeps f.1 s is);
          desk = at_second g v.first b.number b.given closed.durable v.seen b.value t.desk b.keeps e.1 s is;
          queue = at_third g v.first c.number c.given closed.durable v.seen c.value t.queue c.keeps found.1 s is;
          backed = omega arith;
          known = closed.known;
          common = common_desk ∙ sym common_queue;
          within = omega arith;
          limit = omega arith;
          passed = λ running. all_passed v c.number closed.numbers running passed c.begun c.turn;
          kept = b.halted;
        },
      )

  -- what the lock is closed with
  closed_homes : (v : View (Home D) Judged) (values : List (Option (Home D))) → ClosedBy v values → length values ≡ 3 → (s : Start D) → v.first ≡ values_of s → v.held ≡ [] → PassedOrStopped v
      → (t : Start D) × (values ≡ map Some (values_of t)) × Closing v s t
  closed_homes v [] closed three s is free passed = absurd (omega arith)
  closed_homes v (x ∷ []) closed three s is free passed = absurd (omega arith)
  closed_homes v (x ∷ y ∷ []) closed three s is free passed = absurd (omega arith)
  closed_homes v (x ∷ y ∷ z ∷ w ∷ more) closed three s is free passed = absurd (omega arith)
  closed_homes v (x ∷ y ∷ z ∷ []) closed three s is free passed = let c = closing v (x ∷ y ∷ z ∷ []) closed s x y z is passed (closed.each 0 x refl (ap (held_at 0) free)) (closed.each 1 y refl (ap (held_at 1) free)) (closed.each 2 z refl (ap (held_at 2) free)) in
      (c.0, (λ i. c.1 i ∷ c.2 i ∷ c.3 i ∷ []), c.4)

  -- ---- it is what a replica is put together from

  -- without a halt all that the seat saw has passed
  all_seen : (v : View (Home D) Judged) (s t : Start D) (c : Closing v s t) → v.start ≡ position_of s + 1 → v.halted ≡ 0 → (c.queue.front ≡ v.seen) × (length v.seen ≡ length v.own)
  all_seen v s t c starts running = let passed = c.passed running in let long = c.queue.below.long in let short = shorter v.seen c.queue.front c.queue.below.begins in let within = c.within in
      (whole_front v.seen c.queue.front c.queue.below.begins (omega arith), omega arith)

  -- and what the engine has not accepted waits
  all_wait : HistoriesGoOn → (v : View (Home D) Judged) (s t : Start D) (c : Closing v s t) → v.start ≡ position_of s + 1 → v.halted ≡ 0 → t.queue.backlog ≡ c.desk.begins.0
  all_wait laws v s t c starts running = let all = all_seen v s t c starts running in let common = c.common in let count = c.desk.taken.count in
      laws.meets s.certifier.current c.desk.front c.desk.begins.0 t.queue.accepted t.queue.backlog (subst (λ front. Waits s.certifier.current front t.queue.accepted t.queue.backlog) (all.0 ∙ c.desk.begins.1) c.queue.waits) (omega arith)

  all_judged : (v : View (Home D) Judged) (s t : Start D) → Closing v s t → v.start ≡ position_of s + 1 → HasJudged s.certifier.current v.seen t.certifier.current
  all_judged v s t c starts = let long = c.certifier.below.long in let all : c.certifier.front ≡ v.seen = whole_front v.seen c.certifier.front c.certifier.below.begins (omega arith) in subst (λ front. HasJudged s.certifier.current front t.certifier.current) all c.certifier.judged

  parts_end : HistoriesGoOn → (v : View (Home D) Judged) (seat : IsSeat g v) (t : Start D) (c : Closing v seat.start t) → IsLegalBehind seat.start.certifier.current v.seen → (stopped : Bool) → (stopped ≡ false → v.halted ≡ 0)
      → Ends g seat.start.desk.engine seat.start.certifier.current v.seen c.desk.front c.desk.begins.0 (replica_of t stopped)
  parts_end laws v seat t c legal stopped was = let starts = seat.number in let judged = all_judged v seat.start t c starts in let delivered = judged.delivered in let room = c.certifier.room in let backed = c.backed in let limit = c.limit in record {
    whole = c.desk.begins.1;
    legal = legal.legal;
    placed = legal.placed;
    windows = seat.begins.windows;
    judged = judged;
    near = omega arith;
    limit = omega arith;
    undefined = λ undefined. absurd (let defined = seat.begins.defined in cc);
    engine = c.desk.taken;
    waiting = λ running. all_wait laws v seat.start t c starts (was running);
  }

  pub ends_as : HistoriesGoOn → HistoriesLieBetweenReplicas g → HistoriesExtendTheOrder g → (v : View (Home D) Judged) (values : List (Option (Home D))) → ClosedBy v values → (seat : IsSeat g v) (t : Start D) → Closing v seat.start t
      → (stopped : Bool) → (stopped ≡ false → v.halted ≡ 0) → EndsAs g v (replica_of t stopped)
  ends_as laws between extend v values closed seat t c stopped was = let s : Start D = seat.start in let known = c.known in let backed = c.backed in let legal = closed.sees.legal s seat.first in let ends = parts_end laws v seat t c legal stopped was in record {
    start = s;
    first = seat.first;
    one = λ other is. one_start v.first other s is seat.first;
    taken = c.desk.front;
    waits = c.desk.begins.0;
    ends = ends;
    durable = omega arith;
    numbers = closed.numbers;
    drawn = c.within;
    whole = λ running. (all_seen v s t c seat.number running).1;
    works = λ running. let kept = c.kept in c.desk.works (omega arith);
    stands = λ L n of starts running. let m = between.stands s.desk.engine s.certifier.current v.seen c.desk.front c.desk.begins.0 (replica_of t stopped) ends running n starts in
        (m.0, extend.node L n m.0 s.desk.engine s.certifier.current v.seen of starts legal.legal m.1, m.2);
    images = λ L n of starts image is. subst (λ uuid. IsFrontOf Means uuid s.certifier.current.setting (L ++ items_of c.desk.front) (durable_of t.desk.engine.log) image) c.desk.taken.uuid
        (extend.images L n s.desk.engine t.desk.engine s.certifier.current c.desk.front of starts
        (laws.legal_front s.certifier.current c.desk.front c.desk.begins.0 (subst (Legal s.certifier.current) c.desk.begins.1 legal.legal)) c.desk.taken image is);
  }

  -- what was so after a last look was so before, where nothing more was seen
  pub ends_before : (v w : View (Home D) Judged) (r : Replica D) → Later v w → w.halted ≡ v.halted → w.seen ≡ v.seen → EndsAs g w r → EndsAs g v r
  ends_before v w r later halted seen e = let durable = later.durable in let known = e.durable in let drawn = e.drawn in
      let own : length w.own ≡ length v.own = ap (λ (z : View (Home D) Judged). length z.own) later.same in let as_long : length w.seen ≡ length v.seen = ap length seen in record {
        start = e.start;
        first = sym (ap (λ (z : View (Home D) Judged). z.first) later.same) ∙ e.first;
        one = λ s is. e.one s (ap (λ (z : View (Home D) Judged). z.first) later.same ∙ is);
        taken = e.taken;
        waits = e.waits;
        ends = subst (λ items. Ends g e.start.desk.engine e.start.certifier.current items e.taken e.waits r) seen e.ends;
        durable = omega arith;
        numbers = λ x. subst (λ (z : View (Home D) Judged). times x z.own + once_below x z.start ≡ once_below x (z.start + length z.own)) later.same (e.numbers x);
        drawn = omega arith;
        whole = λ running. let all = e.whole (halted ∙ running) in omega arith;
        works = λ running. e.works (halted ∙ running);
        stands = λ L n of starts running. subst (λ items. (m : Node) × IsOf (L ++ items_of items) m × Holds g m r) seen (e.stands L n of starts running);
        images = e.images;
      }

  -- the node's end, after a last look at the front
  pub close_parts : HistoriesGoOn → HistoriesLieBetweenReplicas g → HistoriesExtendTheOrder g → (v w : View (Home D) Judged) (values : List (Option (Home D))) → Later v w → (w.halted ≡ v.halted) × (w.seen ≡ v.seen) → v.held ≡ []
      → IsSeat g v → PassedOrStopped v → ClosedBy w values → length values ≡ 3
      → (t : Start D) × (values ≡ map Some (values_of t)) × ((stopped : Bool) → (stopped ≡ false → w.halted ≡ 0) → EndsAs g v (replica_of t stopped))
  close_parts laws between extend v w values later last free seat passed closed three = let halted = last.0 in
      let still : IsSeat g w = subst (IsSeat g) (sym later.same) record { start = seat.start; first = seat.first; begins = seat.begins; number = seat.number; whole = seat.whole; once = seat.once } in
      let passed_still : PassedOrStopped w = subst PassedOrStopped (sym later.same) (λ running. passed (sym halted ∙ running)) in
      let t = closed_homes w values closed three still.start still.first (ap (λ (z : View (Home D) Judged). z.held) later.same ∙ free) passed_still in
      (t.0, t.1, λ stopped was. ends_before v w (replica_of t.0 stopped) later last.0 last.1 (ends_as laws between extend w values closed still t.0 t.2 stopped was))

  pub legal_before : (v w : View (Home D) Judged) → Later v w → w.seen ≡ v.seen → IsLegal w.first w.seen → IsLegal v.first v.seen
  legal_before v w later seen legal = subst (λ (z : List (Home D) × List Judged). IsLegal z.0 z.1) (λ i. (ap (λ (z : View (Home D) Judged). z.first) later.same i, seen i)) legal
