-- What opening finds is what an engine is made of, and on an honest device the engine stands for the node that the bytes mean.
use Rattle.std.proofs.Common.{◌≡◌, ℕ, ◌+◌, ◌-◌, ◌≤◌, inl, inr, Bool, true, false, ◌⊎◌, IsTrue, List, [], length, map, take, refl, sym, ap, subst, ◌∙◌, arith}
use Rattle.std.proofs.lemmas.List.{take_all}
use Rattle.std.proofs.lemmas.Slice.Eq.{bytes_eq-Decides}
use Rattle.uuid.specs.Parts.{is_nil_bytes, zero_bytes}
use Rattle.rep_types.specs.declared.judged.Judged.{Judged}
use Rattle.rep_types.specs.Settings.{Setting, is_setting}
use Rattle.rep_disk.specs.declared.disk.Disk.{Ghosts}
use Rattle.rep_disk.specs.History.{History, seen, stable}
use Rattle.rep_layout.specs.declared.super_body.SuperBody.{SuperBody}
use Rattle.rep_layout.specs.declared.place.Layout.{Layout}
use Rattle.rep_layout.specs.Places.{layout_of}
use Rattle.rep_layout.specs.Supers.{IsNil}
use Rattle.rep_cells.specs.Readings.{reading_of}
use Rattle.rep_cells.specs.Known.{found}
use Rattle.rep_cells.specs.Laws.{ImagesReadAsAllowed}
use Rattle.rep_versions.specs.Versions.{Kept}
use Rattle.rep_versions.specs.Following.{AreVersionsOf, effect_of}
use Rattle.rep_log.specs.declared.phase.Phase.{Phase}
use Rattle.rep_log.specs.declared.phase.Phase.TheVariants.{Resting, Opening}
use Rattle.rep_log.specs.Tail.{Shows}
use Rattle.rep_log.specs.Standing.{Standing as Log, busy, stands_at}
use Rattle.rep_log.specs.Scanning.{IsScanned}
use Rattle.rep_log.specs.Laws.{MayHold}
use Rattle.rep_cert.specs.Holdings.{Holding, IsAskable, window_of}
use Rattle.rep_steps.specs.Standings.{HasGoal, Off as is_off, Retiring as is_retiring}
use Rattle.rep_steps.specs.Nodes.{Node, window_at, reached}
use Rattle.rep_steps.specs.Images.{Meaning, IsOpening, OpeningsOpenTheOrder}
use Rattle.rep_engine.specs.Part.{Part}
use Rattle.rep_engine.specs.Stage.TheVariants.{Off, Toward, Retiring}
use Rattle.rep_engine.specs.Next.{Next}
use Rattle.rep_engine.specs.CheckpointStanding.{Standing, IsGoing, stage_of}
use Rattle.rep_engine.specs.CheckpointMoves.{stage_found, found_at}
use Rattle.rep_engine.specs.CheckpointLaws.{HasBase, TheBaseIsFound}
use Rattle.rep_engine.specs.Nodes.{StandsAs, NodesLeaveTheirFronts}
use Rattle.rep_engine.specs.Engines.{Engine, IsEngine, IsWhole, HasItemsBehind, facts_of, durable_of}
use Rattle.rep_engine.specs.Holding.{Stands as Runs}
use Rattle.rep_recover.specs.Opening.{IsOpened, Recovers}
use Rattle.rep_recover.specs.Starting.{engine_of, node_of, IsStart, OpensNode}
use Rattle.rep_recover.proofs.Behind.{no_blocks}

-- ---- where the checkpoint is, whether the other superblock was open or not

still : (both : Bool) → (stage_found both ≡ Off) ⊎ (stage_found both ≡ Retiring false)
still true = inr refl
still false = inl refl

stage_is : (b : SuperBody) (both : Bool) → (stage_of (found_at b both) ≡ is_off) ⊎ (stage_of (found_at b both) ≡ is_retiring false)
stage_is b true = inr refl
stage_is b false = inl refl

going : (b : SuperBody) (both : Bool) → IsGoing b (stage_found both)
going b true = tt
going b false = tt

no_goal : (base durable start next : ℕ) (b : SuperBody) (both : Bool) → HasGoal base durable start next (stage_of (found_at b both))
no_goal base durable start next b true = tt
no_goal base durable start next b false = tt

no_items : (log : Log) (b : SuperBody) (both : Bool) → HasItemsBehind (stage_of (found_at b both)) log
no_items log b true = tt
no_items log b false = tt

not_toward : (both : Bool) (next : Next) (part : Part) → stage_found both ≡ Toward next part → ⊥
not_toward true next part e = cc
not_toward false next part e = cc

-- ---- on any device

nil_of : (uuid : List ℕ) → is_nil_bytes uuid ≡ true → IsNil uuid
nil_of uuid is = (bytes_eq-Decides uuid zero_bytes).0 is

module _ (size : ℕ) (b : SuperBody) (l : Layout) (log : Log) (items : List Judged) (h : Holding) (kept : Kept) (o : IsOpened size b l log items h kept) where
  abbrev s : IsScanned (layout_of b.params) b.start (b.position + 1) log items
  s = o.behind.scanned

  -- without a cluster there is no item, and no position
  none_there : is_nil_bytes b.uuid ≡ true → log.seqno ≡ 1
  none_there is =
      let nil = nil_of b.uuid is in
      omega (arith, s.seqno, (o.is_super.is_super.undefined nil).1, ap length (o.behind.undefined nil))

  pub is_engine : (both : Bool) → IsEngine l (found_at b both) log kept []
  is_engine both = record {
    checkpoint = record { is_super = o.is_super.is_super; going = going b both };
    layout = o.layout;
    cells = s.cells;
    start = s.start;
    behind = omega (arith, s.seqno);
    begun = omega (arith, s.start, s.later);
    room = subst (λ (p : Phase). log.next + busy p ≤ log.start + log.cells) (sym s.phase) (omega (arith, s.start, s.cells, s.lap));
    items = omega (arith, s.start, s.seqno, s.filled);
    goal = no_goal b.position (durable_of log) log.start log.next b both;
    behind_goal = no_items log b both;
    follow = tt;
    fits = refl;
    few = omega arith;
    whole = subst (λ (p : Phase). IsWhole p []) (sym s.phase) tt;
    limit = omega (arith, s.limit);
    undefined = λ nil. (none_there nil, refl);
    within = λ key n version stands. let at = o.within key n version stands in (at.0, omega (arith, at.1, s.seqno));
  }

  pub is_start : {D : Type 0} (disk : D) (both : Bool) → IsStart size (engine_of disk l b both log kept) h
  is_start disk both = record {
    is_super = o.is_super;
    still = still both;
    running = refl;
    empty = refl;
    resting = s.phase;
    undefined = λ nil. omega (arith, none_there nil);
    setting = o.behind.judged.setting;
    made = o.behind.judged.made;
    delivered = omega (arith, o.behind.judged.delivered, s.seqno);
    based = omega (arith, o.behind.judged.made, s.seqno);
    items = items;
    found = o;
  }

-- ---- on an honest device

module _ {D : Type 0} (g : Ghosts D) (disk : D) (old : History) (size : ℕ) (b : SuperBody) (both : Bool) (log : Log) (items : List Judged) (h : Holding) (kept : Kept)
    (o : IsOpened size b (layout_of b.params) log items h kept) (re : Recovers old (g.history disk) b both log items h kept)
    (base_found : TheBaseIsFound) where
  abbrev m : Meaning
  m = re.meaning

  abbrev c : Standing
  c = found_at b both

  abbrev e : Engine D
  e = engine_of disk (layout_of b.params) b both log kept

  abbrev n : Node
  n = node_of g e (stands_at log) m

  -- the numbers of the meaning are the superblock's and the log's
  position : m.base.position ≡ b.position
  position = re.means.position

  durable : m.base.position + length m.tail ≡ durable_of log
  durable = omega (arith, position, ap length re.tail, o.behind.scanned.seqno)

  facts : n.facts ≡ facts_of g e
  facts =
      ap (λ (x : List ℕ). record n.facts { uuid = x }) re.means.uuid
      ∙ ap (λ (x : Setting). record n.facts { uuid = b.uuid; setting = x }) re.means.setting
      ∙ ap (λ (x : ℕ). record n.facts { uuid = b.uuid; setting = b.params; base = x }) position
      ∙ ap (λ (x : ℕ). record n.facts { uuid = b.uuid; setting = b.params; base = b.position; durable = x }) durable
      ∙ ap (λ (x : Phase). record n.facts { uuid = b.uuid; setting = b.params; base = b.position; durable = durable_of log; phase = x }) (sym o.behind.scanned.phase)

  is_opening : IsOpening (facts_of g e) m
  is_opening = record {
    allowed = subst (λ (p : Setting). IsTrue (is_setting p)) (sym re.means.setting) o.is_super.is_super.setting;
    undefined = λ nil. omega (arith, durable, none_there size b (layout_of b.params) log items h kept o (ap is_nil_bytes (sym re.means.uuid) ∙ nil));
    limit = omega (arith, durable, o.behind.scanned.limit);
    started = omega (arith, o.behind.scanned.start, o.behind.scanned.later);
    room = omega (arith, o.behind.scanned.start, o.behind.scanned.lap, ap (λ (p : Setting). p.cells) re.means.setting);
    stage = stage_is b both;
  }

  none_held : IsNil b.uuid → (held : List (List Judged)) → MayHold log.phase re.finds.blocks [] held → held ≡ []
  none_held nil held (inl same) = same ∙ no_blocks (Shows (reading_of (layout_of b.params) (seen old)) (layout_of b.params)) b.start (b.position + 1) re.finds.blocks re.finds.is_log.stand (sym re.finds.items_are ∙ o.behind.undefined nil)
  none_held nil held (inr more) = absurd (let opens : Resting ≡ Opening more.0 = sym re.finds.phase ∙ more.1 in cc)

  base_is : HasBase (length (seen old)) (reading_of (layout_of b.params) (seen old)) b m.base
  base_is = record { chosen = re.means.chosen; position = position; window = re.means.window; content = re.means.content }

  stands : StandsAs n (length (seen old)) c log re.finds.blocks [] (found (layout_of b.params) (seen old))
  stands = record {
    uuid = re.means.uuid;
    setting = re.means.setting;
    goal = m.base;
    checkpoint = base_found (length (seen old)) (layout_of b.params) (seen old) b both m.base m.base base_is re.other_is;
    toward = λ next part e. absurd (not_toward both next part e);
    start = re.finds.start;
    log_is = re.finds.log_is;
    phase = re.finds.phase;
    durable = sym re.finds.items_are ∙ sym re.tail ∙ sym (take_all (m.base.position + length m.tail - m.base.position) m.tail (omega arith));
    coming = refl;
    judged = re.means.judged;
    undefined = none_held;
  }

  stands_now : StandsAs n (length (stable (g.history disk))) c log re.finds.blocks [] (found (layout_of b.params) (seen old))
  stands_now = subst (λ (x : History). StandsAs n (length (stable x)) c log re.finds.blocks [] (found (layout_of b.params) (seen old))) (sym re.synced) stands

  runs : Runs g n e
  runs = record {
    states = found (layout_of b.params) (seen old);
    assigns = re.states;
    blocks = re.finds.blocks;
    sealed = [];
    stands = stands_now;
    versions =
        subst (λ (base : ℕ). AreVersionsOf base (map effect_of m.tail) kept) (sym position)
        (subst (λ (js : List Judged). AreVersionsOf b.position (map effect_of js) kept) (sym re.tail) re.versions);
    gates = λ i. refl;
  }

  windows : (k : ℕ) → IsAskable h k → window_of h k ≡ window_at n k
  windows k ask =
      re.windows k ask
      ∙ ap (λ (js : List Judged). (reached b.params m.base (take (k - b.position) js)).kept) (sym re.tail)
      ∙ ap (λ (base : ℕ). (reached b.params m.base (take (k - base) m.tail)).kept) (sym position)
      ∙ ap (λ (p : Setting). (reached p m.base (take (k - m.base.position) m.tail)).kept) (sym re.means.setting)

  pub opens_node : g.honest disk → OpeningsOpenTheOrder → NodesLeaveTheirFronts → ImagesReadAsAllowed → OpensNode g old e h
  opens_node is_honest opens fronts allowed =
      let node = opens (facts_of g e) (stands_at log) m is_opening in
      record {
        synced = re.synced;
        meaning = m;
        means = record { super = b; means = re.means };
        super_is = refl;
        other_is = ap stage_found re.other_is;
        gates = stands_at log;
        opens = node;
        holds = record {
          is_honest = is_honest;
          facts = facts;
          node = node.node;
          runs = λ _. runs;
          images = λ image here.
              fronts image n c log re.finds.blocks [] (found (layout_of b.params) (seen old)) node.node
              (subst (λ (k : ℕ). StandsAs n k c log re.finds.blocks [] (found (layout_of b.params) (seen old))) (sym here.sized) stands_now)
              (allowed (layout_of b.params) (g.history disk) (found (layout_of b.params) (seen old)) image re.states here);
        };
        windows = windows;
      }
