-- What the engine and the queue are behind what the engine accepts.
use Rattle.std.proofs.Common.{◌≡◌, ℕ, ◌+◌, ◌≤◌, List, ◌++◌, length, take, drop, refl, sym, ap, subst, ◌∙◌, append_assoc, length-append, arith}
use Rattle.std.specs.Prelude.{Bool, IsFalse, IsTrue, true, false}
use Rattle.std.proofs.lemmas.List.{length-map, length-take-le, take-append-drop}
use Rattle.uuid.specs.Parts.{is_nil_bytes}
use Rattle.rep_types.specs.declared.judged.Judged.{Judged}
use Rattle.rep_record.specs.declared.limits.TheConstants.{MAX_RECORDS}
use Rattle.rep_record.specs.Fronts.{fitting, FrontsAreDetermined}
use Rattle.rep_disk.specs.declared.disk.Disk.{Ghosts}
use Rattle.rep_log.specs.declared.phase.Phase.{Phase}
use Rattle.rep_log.specs.declared.phase.Phase.TheVariants.{Resting, Closing, Filling, Filled, Opening}
use Rattle.rep_engine.specs.Engines.{Engine, durable_of, facts_of}
use Rattle.rep_engine.specs.Accepting.{ComeNext, accepted_in}
use Rattle.rep_snap.specs.declared.change.Pair.{Pair}
use Rattle.rep_snap.specs.Lists.{published}
use Rattle.rep_stations.specs.Judging.{Legal}
use Rattle.rep_stations.specs.Taking.{HasTaken, TakesMore, TakenItemsStay, IsAnEngine}
use Rattle.rep_stations.specs.Waiting.{Waits, HistoriesGoOn}
use Rattle.rep_node.specs.declared.home.Desk.{Desk}
use Rattle.rep_node.specs.declared.home.Queue.{Queue}
use Rattle.rep_node.specs.Publishing.{shown}
use Rattle.rep_node.specs.Homes.{Start}
use Rattle.rep_node.specs.Keeping.{AreAtWork}
use Rattle.rep_ordered.specs.Beginnings.{front_begins}
use Rattle.rep_node.proofs.Publishes.{shown_both}

-- ---- how many come next

accepted_fits : (phase : Phase) (block js : List Judged) → accepted_in phase block js ≤ fitting block js
accepted_fits Resting block js = omega arith
accepted_fits Closing block js = omega arith
accepted_fits (Filling n) block js = omega arith
accepted_fits (Filled n) block js = omega arith
accepted_fits (Opening n) block js = omega arith

never : (b : Bool) → IsTrue b → IsFalse b → ⊥
never b yes_it_is no_it_is = let e : true ≡ false = sym yes_it_is ∙ no_it_is in absurd cc

module _ {D : Type 0} (g : Ghosts D) (laws : HistoriesGoOn) (s : Start D) (number : ℕ) (items : List Judged) (d : Desk D) (q : Queue) (w : AreAtWork g s number items d q) where
  -- the items below the number are those that the engine has taken, and those that wait
  pub whole : w.queue.front ≡ w.work.desk.front ++ q.backlog
  whole =
      let c = s.certifier.current in
      let count = w.work.desk.taken.count in
      let common = w.common in
      let most = w.queue.waits.most in
      let t = front_begins items w.work.desk.front w.queue.front w.work.desk.begins w.queue.below.begins (omega arith) in
      let rest = laws.meets c w.work.desk.front t.0 q.accepted q.backlog (subst (λ f. Waits c f q.accepted q.backlog) t.1 w.queue.waits) (omega arith) in
      t.1 ∙ ap (λ l. w.work.desk.front ++ l) (sym rest)

  pub legal_whole : Legal s.certifier.current (w.work.desk.front ++ q.backlog)
  legal_whole = let b = w.queue.below.begins in subst (Legal s.certifier.current) whole (laws.legal_front s.certifier.current w.queue.front b.0 (subst (Legal s.certifier.current) b.1 w.work.legal.legal))

  -- as many wait to be published as the block has
  pub as_many : length d.waiting ≡ length d.engine.block
  as_many =
      let p = w.work.desk.shown refl in
      let all : length (published d.publisher.list) + length d.waiting ≡ length w.work.desk.front = sym (length-append (published d.publisher.list) d.waiting) ∙ ap length p.shown_or_waits ∙ length-map w.work.desk.front _ in
      let durable = p.durable in
      let count = w.work.desk.taken.count in omega (arith, all, durable, count)

  -- so there is room for those that come next
  pub has_room : FrontsAreDetermined → IsAnEngine d.engine → (n : ℕ) → n ≡ accepted_in d.engine.log.phase d.engine.block q.backlog → length d.waiting + n ≤ MAX_RECORDS
  has_room fronts is n count =
      let fits = accepted_fits d.engine.log.phase d.engine.block q.backlog in
      let few = fronts.few d.engine.block q.backlog is.few in
      let same = as_many in omega (arith, fits, few, same, count)

  pub come_next : TakenItemsStay g → ComeNext (facts_of g d.engine) q.backlog
  come_next stays =
      let long = w.queue.below.long in
      let size : length w.queue.front ≡ length (w.work.desk.front ++ q.backlog) = ap length whole in
      let limit = w.limit in
      stays.comes s.desk.engine d.engine s.certifier.current w.work.desk.front q.backlog w.work.desk.taken legal_whole (omega (arith, long, size, limit)) (λ undefined. absurd (never (is_nil_bytes s.desk.engine.checkpoint.base.uuid) undefined w.work.begins.defined))

  -- the last that the engine has then accepted
  pub accepted_last : (e : Engine D) (count accepted : ℕ) → count ≤ length q.backlog → TakesMore g d.engine q.backlog count e → accepted ≡ durable_of e.log + length e.block → accepted ≡ q.accepted + count
  accepted_last e count accepted within takes is =
      let before = w.work.desk.taken.count in
      let after = (takes s.desk.engine s.certifier.current w.work.desk.front w.work.desk.taken legal_whole).count in
      let common = w.common in
      let longer = length-append w.work.desk.front (take count q.backlog) in
      let size : length (take count q.backlog) ≡ count = length-take-le count q.backlog within in omega (arith, before, after, common, longer, size, is)

  pub accepted_rises : (e : Engine D) (count accepted : ℕ) → count ≤ length q.backlog → TakesMore g d.engine q.backlog count e → accepted ≡ durable_of e.log + length e.block → q.accepted ≤ accepted
  accepted_rises e count accepted within takes is = let last = accepted_last e count accepted within takes is in omega (arith, last)

  -- what the engine and the queue are then
  pub accepted_next : (e : Engine D) (n count accepted : ℕ) (backlog : List Judged) → count ≤ length q.backlog → n ≡ count → TakesMore g d.engine q.backlog count e → backlog ≡ drop count q.backlog
      → e ≡ record (d.engine) { kept = e.kept; block = e.block } → accepted ≡ durable_of e.log + length e.block → (waiting : List Pair) → waiting ≡ d.waiting ++ shown (take n q.backlog)
      → AreAtWork g s number items (record { engine = e; publisher = d.publisher; waiting = waiting }) (record { backlog = backlog; accepted = accepted })
  accepted_next e n count accepted backlog within same takes left rest is waiting waits =
      let c = s.certifier.current in
      let F = w.work.desk.front in
      let p = w.work.desk.shown refl in
      let b = w.queue.below.begins in
      let log : e.log ≡ d.engine.log = ap (λ (z : Engine D). z.log) rest in
      let all : published d.publisher.list ++ waiting ≡ shown (F ++ take count q.backlog) = ap (λ l. published d.publisher.list ++ l) waits ∙ sym (append_assoc (published d.publisher.list) d.waiting (shown (take n q.backlog))) ∙ ap (λ l. l ++ shown (take n q.backlog)) p.shown_or_waits
      ∙ sym (shown_both F (take n q.backlog)) ∙ ap (λ k. shown (F ++ take k q.backlog)) same in
      let taken : HasTaken g s.desk.engine c (F ++ take count q.backlog) e = takes s.desk.engine c F w.work.desk.taken legal_whole in
      let parts : w.queue.front ≡ (F ++ take count q.backlog) ++ drop count q.backlog = whole ∙ ap (λ l. F ++ l) (sym (take-append-drop count q.backlog)) ∙ sym (append_assoc F (take count q.backlog) (drop count q.backlog)) in
      let last = accepted_last e count accepted within takes is in record {
        work = record {
          begins = w.work.begins;
          legal = w.work.legal;
          desk = record {
            front = F ++ take count q.backlog;
            begins = (drop count q.backlog ++ b.0, b.1 ∙ ap (λ l. l ++ b.0) parts ∙ append_assoc (F ++ take count q.backlog) (drop count q.backlog) b.0);
            taken = taken;
            publisher = w.work.desk.publisher;
            works = λ running. ap (λ (z : Engine D). z.halted) rest ∙ w.work.desk.works running;
            ahead = let ahead = w.work.desk.ahead in let still : durable_of e.log ≡ durable_of d.engine.log = ap durable_of log in omega (arith, ahead, still);
            fronts = (waiting, sym all);
            shown = λ _. record {
              shown_or_waits = all;
              durable = p.durable ∙ ap durable_of (sym log);
              oldest = let before = p.oldest in let base : e.checkpoint.base.position ≡ d.engine.checkpoint.base.position = ap (λ (z : Engine D). z.checkpoint.base.position) rest in omega (arith, before, base);
            };
          };
        };
        queue = record {
          front = w.queue.front;
          below = w.queue.below;
          waits = subst (λ (z : ℕ × List Judged). Waits c w.queue.front z.0 z.1) (λ i. (sym last i, sym left i)) (laws.taken c w.queue.front q.accepted count q.backlog within w.queue.waits);
        };
        common = is;
        limit = w.limit;
      }
