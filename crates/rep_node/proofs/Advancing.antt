-- What the engine and the publisher are behind a step of the log.
use Rattle.std.proofs.Common.{◌≡◌, ℕ, ◌+◌, ◌≤◌, max, List, [], ◌∷◌, ◌++◌, length, None, refl, sym, ap, subst, ◌∙◌, arith}
use Rattle.std.proofs.lemmas.List.{length-map}
use Rattle.rep_types.specs.declared.judged.Judged.{Judged}
use Rattle.rep_disk.specs.declared.disk.Disk.{Ghosts}
use Rattle.rep_cert.specs.Holdings.{Holding, Holdings}
use Rattle.rep_engine.specs.Engines.{Engine, durable_of}
use Rattle.rep_snap.specs.declared.change.Pair.{Pair}
use Rattle.rep_snap.specs.Lists.{oldest_of, published}
use Rattle.rep_snap.specs.Views.{Listing}
use Rattle.rep_stations.specs.Taking.{HasTaken}
use Rattle.rep_node.specs.declared.home.Desk.{Desk}
use Rattle.rep_node.specs.declared.origin.Origin.{Origin}
use Rattle.rep_node.specs.Publishing.{AreShown, shown}
use Rattle.rep_node.specs.Homes.{Start, DeskAt, position_of}
use Rattle.rep_node.specs.Keeping.{AtWork, HasStepped, common_of_desk}
use Rattle.rep_node.specs.Checking.{IsPruned}
use Rattle.rep_node.proofs.Publishes.{oldest_least, shown_both, shown_front}

module _ {D : Type 0} (g : Ghosts D) (s : Start D) (items : List Judged) where
  -- ---- a step of the engine

  module _ (d : Desk D) (w : AtWork g s items d) (e : Engine D) (stays : (first : Engine D) (c : Holding) (items : List Judged) → HasTaken g first c items d.engine → HasTaken g first c items e) where
    taken_still : HasTaken g s.desk.engine s.certifier.current w.desk.front e
    taken_still = stays s.desk.engine s.certifier.current w.desk.front w.desk.taken

    pub same_common : durable_of e.log + length e.block ≡ common_of_desk d
    same_common = let after = taken_still.count in let before = w.desk.taken.count in omega (arith, after, before)

    -- one that failed is to be given up
    pub step_failed : durable_of d.engine.log ≤ durable_of e.log → DeskAt g s 1 items (record (d) { engine = e })
    step_failed rises = record {
      front = w.desk.front;
      begins = w.desk.begins;
      taken = taken_still;
      publisher = w.desk.publisher;
      ahead = let ahead = w.desk.ahead in omega (arith, ahead, rises);
      fronts = w.desk.fronts;
      works = λ (z : 1 ≡ 0). absurd (omega arith);
      shown = λ (z : 1 ≡ 0). absurd (omega arith);
    }

    -- readers find no snapshot gone above the base still
    pub step_done : e.halted ≡ None → durable_of d.engine.log ≤ durable_of e.log → d.engine.checkpoint.base.position ≤ e.checkpoint.base.position → HasStepped g s items (record (d) { engine = e })
    step_done works rises base = let was = w.desk.shown refl in record {
      begins = w.begins;
      legal = w.legal;
      front = w.desk.front;
      starts = w.desk.begins;
      taken = taken_still;
      publisher = w.desk.publisher;
      works = works;
      waits = was.shown_or_waits;
      behind = let durable = was.durable in omega (arith, durable, rises);
      oldest = let oldest = was.oldest in omega (arith, oldest, base);
    }

  -- ---- what is durable behind it is published

  module _ (d : Desk D) (h : HasStepped g s items d) where
    -- what is published and what waits is of the items that the engine has taken
    as_long : length (published d.publisher.list ++ d.waiting) ≡ length h.front
    as_long = ap length h.waits ∙ length-map h.front _

    start_is : d.publisher.start ≡ position_of s
    start_is = h.publisher.2 ∙ h.begins.start

    pub are_allowed : (c : Holdings) × (d.publisher.basis.certifier.log ≡ c ∷ []) × (d.publisher.start ≡ c.current.delivered) × AreShown c.current (published d.publisher.list ++ d.waiting)
    are_allowed =
        let b = h.starts in
        let all : AreShown s.certifier.current (shown h.front ++ shown b.0) = record { items = items; legal = h.legal.legal; are = sym (ap shown b.1 ∙ shown_both h.front b.0) } in (
          s.certifier,
          ap (λ (o : Origin). o.certifier.log) h.publisher.1 ∙ h.begins.origin,
          start_is,
          subst (AreShown s.certifier.current) (sym h.waits) (shown_front s.certifier.current (shown h.front) (shown b.0) all),
        )

    -- what is durable is published or waits
    pub is_within : durable_of d.engine.log ≤ d.publisher.start + length (published d.publisher.list ++ d.waiting)
    is_within = let count = h.taken.count in let long = as_long in let start = start_is in omega (arith, count, long, start)

    -- and what was published is durable
    pub is_behind : d.publisher.start + length (published d.publisher.list) ≤ durable_of d.engine.log
    is_behind = let start = start_is in let behind = h.behind in omega (arith, start, behind)

    module _ (p : Listing Origin) (waiting : List Pair) (same : (p.book ≡ d.publisher.book) × (p.basis ≡ d.publisher.basis) × (p.start ≡ d.publisher.start)) where
      pub given_up : published p.list ++ waiting ≡ published d.publisher.list ++ d.waiting → d.publisher.start + length (published p.list) ≤ durable_of d.engine.log → DeskAt g s 1 items (record { engine = d.engine; publisher = p; waiting = waiting })
      given_up whole behind = record {
        front = h.front;
        begins = h.starts;
        taken = h.taken;
        publisher = (same.0 ∙ h.publisher.0, same.1 ∙ h.publisher.1, same.2 ∙ h.publisher.2);
        ahead = let start = start_is in omega (arith, start, behind);
        fronts = (waiting, sym (whole ∙ h.waits));
        works = λ (z : 1 ≡ 0). absurd (omega arith);
        shown = λ (z : 1 ≡ 0). absurd (omega arith);
      }

      pub works_on : published p.list ++ waiting ≡ published d.publisher.list ++ d.waiting → oldest_of d.publisher.start p.list ≡ oldest_of d.publisher.start d.publisher.list → d.publisher.start + length (published p.list) ≡ durable_of d.engine.log
          → AtWork g s items (record { engine = d.engine; publisher = p; waiting = waiting })
      works_on whole oldest durable = record {
        begins = h.begins;
        legal = h.legal;
        desk = record {
          front = h.front;
          begins = h.starts;
          taken = h.taken;
          publisher = (same.0 ∙ h.publisher.0, same.1 ∙ h.publisher.1, same.2 ∙ h.publisher.2);
          ahead = let start = start_is in omega (arith, start, durable);
          fronts = (waiting, sym (whole ∙ h.waits));
          works = λ _. h.works;
          shown = λ _. record {
            shown_or_waits = whole ∙ h.waits;
            durable = let start = start_is in omega (arith, start, durable);
            oldest = let before = h.oldest in let here : oldest_of p.start p.list ≡ oldest_of d.publisher.start d.publisher.list = ap (λ n. oldest_of n p.list) same.2 ∙ oldest in omega (arith, before, here);
          };
        };
      }

  -- ---- readers' snapshots below the base are let go

  module _ (d : Desk D) (w : AtWork g s items d) (p : Listing Origin) (same : (p.book ≡ d.publisher.book) × (p.basis ≡ d.publisher.basis) × (p.start ≡ d.publisher.start)) where
    started_at : d.publisher.start ≡ position_of s
    started_at = w.desk.publisher.2 ∙ w.begins.start

    pub pruned_works : (base : ℕ) → base ≡ d.engine.checkpoint.base.position → published p.list ≡ published d.publisher.list → oldest_of d.publisher.start p.list ≡ max (oldest_of d.publisher.start d.publisher.list) base
        → AtWork g s items (record { engine = d.engine; publisher = p; waiting = d.waiting })
    pruned_works base is list oldest = let before = w.desk.shown refl in record {
      begins = w.begins;
      legal = w.legal;
      desk = record {
        front = w.desk.front;
        begins = w.desk.begins;
        taken = w.desk.taken;
        publisher = (same.0 ∙ w.desk.publisher.0, same.1 ∙ w.desk.publisher.1, same.2 ∙ w.desk.publisher.2);
        ahead = let ahead = w.desk.ahead in let long : length (published p.list) ≡ length (published d.publisher.list) = ap length list in omega (arith, ahead, long);
        fronts = (w.desk.fronts.0, w.desk.fronts.1 ∙ ap (λ l. l ++ w.desk.fronts.0) (sym list));
        works = λ _. w.desk.works refl;
        shown = λ _. record {
          shown_or_waits = ap (λ l. l ++ d.waiting) list ∙ before.shown_or_waits;
          durable = let durable = before.durable in let long : length (published p.list) ≡ length (published d.publisher.list) = ap length list in omega (arith, durable, long);
          oldest = let was = before.oldest in let here : oldest_of p.start p.list ≡ max (oldest_of d.publisher.start d.publisher.list) base = ap (λ n. oldest_of n p.list) same.2 ∙ oldest in omega (arith, was, here, is);
        };
      };
    }

    pub pruned_oldest : (base : ℕ) → base ≡ d.engine.checkpoint.base.position → oldest_of d.publisher.start p.list ≡ max (oldest_of d.publisher.start d.publisher.list) base → IsPruned s (record { engine = d.engine; publisher = p; waiting = d.waiting })
    pruned_oldest base is oldest =
        let start = started_at in
        let before : oldest_of (position_of s) d.publisher.list ≡ oldest_of d.publisher.start d.publisher.list = sym (ap (λ n. oldest_of n d.publisher.list) start) in
        let after : oldest_of (position_of s) p.list ≡ oldest_of d.publisher.start p.list = sym (ap (λ n. oldest_of n p.list) start) in
        let low = oldest_least (position_of s) d.publisher.list in
        let high = (w.desk.shown refl).oldest in
        omega (arith, before, after, low, high, oldest, is)
