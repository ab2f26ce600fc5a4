-- What a join does, as parts of a life.
use Rattle.std.proofs.Common.{◌≡◌, ℕ, ◌+◌, List, [], ◌∷◌, ◌++◌, length, take, drop, Option, None, Some, Result, Ok, Err, refl, sym, ap, subst, ◌∙◌, append-nil, arith}
use Rattle.std.specs.Prelude.{IfOk, IfErr}
use Rattle.std.proofs.Math.ListN.{take-append-drop}
use Rattle.std.proofs.lemmas.List.{take_all, drop_all, length-map}
use Rattle.rep_types.specs.declared.judged.Judged.{Judged}
use Rattle.rep_types.specs.declared.refusal.Refusal.{Refusal}
use Rattle.rep_types.specs.Settings.{Setting}
use Rattle.rep_types.specs.Order.{Order, State, items_of, state, history as history_of}
use Rattle.rep_types.specs.ByItems.{HistoryByItems}
use Rattle.rep_disk.specs.declared.disk.Disk.{Ghosts}
use Rattle.rep_steps.specs.Standings.{Standing}
use Rattle.rep_steps.specs.Nodes.{Node}
use Rattle.rep_steps.specs.Orders.{IsOf}
use Rattle.rep_steps.specs.Runs.{accepted_by}
use Rattle.rep_replica.specs.Replicas.{Replica, facts_of}
use Rattle.rep_replica.specs.Episodes.{Runs, GivesUp, Brings, Breaks, FedFrom, StandsAt, reached_by}
use Rattle.rep_layout.specs.declared.format.Format.{Format}
use Rattle.rep_transfer.specs.declared.pieces.NumberedPage.{NumberedPage}
use Rattle.rep_transfer.specs.Transfers.{Snapshot}
use Rattle.rep_catchup.specs.Snapshots.{Brought, Broken, GivenUp, state_of, with_pages}
use Rattle.rep_catchup.specs.Growing.{Grown}
use Rattle.rep_catchup.proofs.JoinGrowing.{none_behind}
use Rattle.rep_catchup.specs.Joining.{StartsAt, Lived, TakesAll, CutShort, Went, AreOf, GoOnIn}

-- ---- where a snapshot is

pages_position : (schema : List ℕ) (pages : List NumberedPage) (y : State) → (with_pages schema pages y).position ≡ y.position
pages_position schema [] y = refl
pages_position schema (p ∷ pages) y = pages_position schema pages _

pub state_position : (p : Setting) (s : Snapshot) → (state_of p s).position ≡ s.position
state_position p s = pages_position p.rows s.pages _

-- ---- a node that stands at a snapshot

-- it is of each order whose state that is
pub stands_is : (n : Node) (uuid : List ℕ) (y : State) (m : Node) (L : Order) → HistoryByItems → StandsAt n uuid y m → y ≡ state n.facts.setting L → IsOf L m
stands_is n uuid y m L by_items is same =
    let p : Setting = m.facts.setting in
    let base : m.base ≡ state p L = is.base ∙ same ∙ ap (λ (q : Setting). state q L) (sym is.setting_is) in
    let at : m.base.position ≡ length L = ap (λ (s : State). s.position) base in
    record {
      within = omega (arith, at);
      base = base ∙ ap (state p) (sym (take_all m.base.position L (omega (arith, at))));
      items = is.none ∙ sym (drop_all m.base.position (history_of p L) (omega (arith, at, by_items.as_many p L)));
    }

-- an order that a transfer starts at, at a node that grew by nothing
pub starts_there : (n m : Node) (snapshot : Option Snapshot) (L : Order) → m.facts.setting ≡ n.facts.setting → ((M : Order) → IsOf M n → IsOf (M ++ []) m) → StartsAt n snapshot L → StartsAt m snapshot L
starts_there n m None L same goes is = subst (λ (M : Order). IsOf M m) (append-nil L) (goes L is)
starts_there n m (Some s) L same goes is = subst (λ (p : Setting). state_of p s ≡ state p L) (sym same) is

-- ---- the parts

module _ {D : Type 0} (g : Ghosts D) where
  -- the items are what the run accepted
  goes_on : (old new : Replica D) (O : Order) (k : ℕ) (records : List Judged) (grown : Grown g old new records) → GoOnIn O k records → (rest : Order) × ((take k O ++ accepted_by grown.events grown.answers) ++ rest ≡ O)
  goes_on old new O k records grown on = (on.0, ap (λ (L : Order). (take k O ++ L) ++ on.0) grown.accepted ∙ on.1)

  -- by records alone
  pub went_records : (old new : Replica D) (uuid : List ℕ) (records : List Judged) → Grown g old new records → Went g old new uuid None records
  went_records old new uuid records grown = record {
    episodes = Runs grown.events grown.answers new ∷ [];
    are = (grown.ran, refl);
    reaches = λ k. ap (λ (L : Order). k + length L) grown.accepted ∙ ap (λ n. k + n) (length-map records (λ (j : Judged). j.item));
    judged = λ n holds L is. (grown.node n holds).1.judged L is;
    fed = λ O k on. (goes_on old new O k records grown on, tt);
  }

  -- by a snapshot, and records behind it
  pub went_snapshot : HistoryByItems → (old mid new : Replica D) (format : Format) (uuid : List ℕ) (position start now : ℕ) (before left : Option (List ℕ)) (records : List Judged) (b : Brought g old mid format uuid position start now before left) → Grown g mid new records
      → Went g old new uuid (Some b.snapshot) records
  went_snapshot by_items old mid new format uuid position start now before left records b grown =
      let p : Setting = (facts_of g old).setting in
      record {
        episodes = Brings uuid (state_of p b.snapshot) mid ∷ (Runs grown.events grown.answers new ∷ []);
        are = (b.node, (grown.ran, refl));
        reaches = λ k. ap (λ (L : Order). (state_of p b.snapshot).position + length L) grown.accepted ∙ ap (λ n. n + length (items_of records)) (state_position p b.snapshot) ∙ ap (λ n. b.snapshot.position + n) (length-map records (λ (j : Judged). j.item));
        judged = λ n holds L is.
            let at = b.node n holds in
            let q_is : p ≡ n.facts.setting = ap (λ (x : Standing). x.setting) (sym holds.facts) in
            let of : IsOf L at.node = stands_is n uuid (state_of p b.snapshot) at.node L by_items at.stands (ap (λ (q : Setting). state_of q b.snapshot) q_is ∙ is) in
            (grown.node at.node at.holds).1.judged L of ∙ ap (λ (q : Setting). drop (length L) (history_of q (L ++ items_of records))) at.stands.setting_is;
        fed = λ O k on. (on.0, (goes_on mid new O (state_of p b.snapshot).position records grown (subst (λ n. GoOnIn O n records) (sym (state_position p b.snapshot)) on.1), tt));
      }

  -- by some of a snapshot, which was given up
  pub went_nowhere : HistoryByItems → (old new : Replica D) (uuid : List ℕ) → GivenUp g old new → Went g old new uuid None []
  went_nowhere by_items old new uuid grown = record {
    episodes = GivesUp new ∷ [];
    are = (grown, refl);
    reaches = λ k. omega arith;
    judged = λ n holds L is. sym (none_behind by_items n.facts.setting L);
    fed = λ O k on. tt;
  }

  -- by a snapshot while whose coming the device failed
  pub went_broken : HistoryByItems → (old new : Replica D) (format : Format) (uuid : List ℕ) (position start : ℕ) (before : Option (List ℕ)) (b : Broken g old new format uuid position start before) → Went g old new uuid (Some b.snapshot) []
  went_broken by_items old new format uuid position start before b = record {
    episodes = Breaks uuid (state_of (facts_of g old).setting b.snapshot) new ∷ [];
    are = (b.node, refl, refl);
    reaches = λ k. state_position (facts_of g old).setting b.snapshot ∙ omega arith;
    judged = λ n holds L is. sym (none_behind by_items n.facts.setting L);
    fed = λ O k on. on.0;
  }

  -- behind own steps
  pub went_behind : (old mid new : Replica D) (uuid : List ℕ) (snapshot : Option Snapshot) (records : List Judged) → Grown g old mid [] → Went g mid new uuid snapshot records → Went g old new uuid snapshot records
  went_behind old mid new uuid snapshot records grown w = record {
    episodes = Runs grown.events grown.answers mid ∷ w.episodes;
    are = (grown.ran, w.are);
    reaches = λ k. ap (λ (L : Order). reached_by (k + length L) w.episodes) grown.accepted ∙ ap (λ n. reached_by n w.episodes) (omega arith) ∙ w.reaches k;
    judged = λ n holds L is.
        let one = grown.node n holds in
        let same : one.0.facts.setting ≡ n.facts.setting = ap (λ (x : Standing). x.setting) one.2.facts ∙ grown.setting ∙ ap (λ (x : Standing). x.setting) (sym holds.facts) in
        w.judged one.0 one.2 L (starts_there n one.0 snapshot L same one.1.order is) ∙ ap (λ (p : Setting). drop (length L) (history_of p (L ++ items_of records))) same;
    fed = λ O k on.
        let none : accepted_by grown.events grown.answers ≡ [] = grown.accepted in
        let here : (take k O ++ accepted_by grown.events grown.answers) ++ drop k O ≡ O = ap (λ (L : Order). (take k O ++ L) ++ drop k O) none ∙ ap (λ (L : Order). L ++ drop k O) (append-nil (take k O)) ∙ take-append-drop k O in
        let same : k + length (accepted_by grown.events grown.answers) ≡ k = omega (arith, ap length none) in (
          (drop k O, here),
          subst (λ n. FedFrom uuid (facts_of g old).setting O n w.episodes) (sym same)
              (subst (λ (p : Setting). FedFrom uuid p O k w.episodes) grown.setting (w.fed O k (subst (λ (p : Setting). AreOf uuid p O k snapshot records) (sym grown.setting) on))),
        );
  }

  -- nothing was done
  pub lived_none : HistoryByItems → (r : Replica D) → Lived g r r
  lived_none by_items r = ([], None, [], record { episodes = []; are = refl; reaches = λ k. omega arith; judged = λ n holds L is. sym (none_behind by_items n.facts.setting L); fed = λ O k on. tt })

  -- own steps were taken
  pub lived_settling : (old new : Replica D) → Grown g old new [] → Lived g old new
  lived_settling old new grown = ([], None, [], went_records old new [] [] grown)

  -- and a transfer was taken behind them, or some of it
  pub lived_parts : (old mid new : Replica D) (format : Format) (uuid : List ℕ) (before left : Option (List ℕ)) (start : ℕ) (result : Result ℕ Refusal) → Grown g old mid [] → IfOk result (λ last. TakesAll g mid new format uuid last [] before left)
      → IfErr result (CutShort g mid new format uuid before start) → Lived g old new
  lived_parts old mid new format uuid before left start (Ok last) grown all cut = (uuid, all.snapshot, all.records, went_behind old mid new uuid all.snapshot all.records grown all.went)
  lived_parts old mid new format uuid before left start (Err e) grown all cut = (uuid, cut.snapshot, cut.records, went_behind old mid new uuid cut.snapshot cut.records grown cut.went)
