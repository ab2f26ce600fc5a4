-- A snapshot that is installed beside a replica, and the node that comes of it.
use Rattle.std.proofs.Common.{◌≡◌, ◌⊎◌, inl, inr, ℕ, zero, suc, ◌+◌, ◌-◌, ◌≤◌, true, false, List, [], ◌∷◌, ◌++◌, append-nil, length, take, drop, Option, None, Some, Result, Ok, Err, IfErr, OnErr, refl, sym, ap, subst, ◌∙◌, arith}
use Rattle.std.specs.Prelude.{◌&&◌, ◌==◌, is_some, IsOk, IsErr, OnOk, IfSome}
use Rattle.std.specs.Result.{is_err}
use Rattle.std.proofs.lemmas.List.{take_all, drop_all, take-append-drop}
use Rattle.std.proofs.lemmas.Bool.Decides.{nat_tests}
use Rattle.rep_types.specs.declared.judged.Judged.{Judged}
use Rattle.rep_types.specs.declared.refusal.Refusal.{Refusal}
use Rattle.rep_types.specs.declared.refusal.Refusal.TheVariants.{DiskFault}
use Rattle.rep_types.specs.declared.limits.TheConstants.{MAX_SEQNO}
use Rattle.rep_types.specs.Settings.{Setting}
use Rattle.rep_types.specs.Order.{State}
use Rattle.rep_types.specs.Windows.{Window}
use Rattle.rep_types.proofs.Choices.{and_both}
use Rattle.rep_disk.specs.declared.disk.Disk.{Ghosts}
use Rattle.rep_disk.specs.History.{History}
use Rattle.rep_disk.specs.Calls.{Rises}
use Rattle.rep_disk.specs.Moments.{LeavesOnly}
use Rattle.rep_disk.specs.Leaving.{leaves_none, leaves_then}
use Rattle.rep_disk.specs.Devices.{Calls}
use Rattle.rep_layout.specs.declared.super_body.SuperBody.{SuperBody}
use Rattle.rep_cert.specs.Holdings.{Holding, Holdings, IsAskable, window_of, made_at}
use Rattle.rep_log.specs.declared.phase.Phase.{Phase}
use Rattle.rep_log.specs.declared.phase.Phase.TheVariants.{Resting}
use Rattle.rep_log.specs.Moves.{fault_of}
use Rattle.rep_steps.specs.Standings.{Standing, Off as is_off_stage, Retiring as is_retiring, delivered}
use Rattle.rep_steps.specs.Moves.{is_off}
use Rattle.rep_steps.specs.Nodes.{Node, window_at, reached}
use Rattle.rep_steps.specs.Parts.{part_of}
use Rattle.rep_steps.specs.Images.{Meaning, IsFrontAt, AreJudgedFrom}
use Rattle.rep_recover.specs.Meanings.{Means}
use Rattle.rep_recover.specs.Part.TheVariants.{SuperOpening}
use Rattle.rep_recover.specs.Stage.{Stage}
use Rattle.rep_recover.specs.Stage.TheVariants.{Off, Toward, Retiring}
use Rattle.rep_recover.specs.CheckpointStanding.{stage_in}
use Rattle.rep_recover.specs.Coming.{coming}
use Rattle.rep_recover.specs.Arriving.{installed}
use Rattle.rep_recover.specs.Engines.{Engine, facts_of as engine_facts, durable_of, phase_at, Halts}
use Rattle.rep_recover.specs.Holding.{Holds as EngineHolds}
use Rattle.rep_recover.specs.Checking.{CertifiersHoldWindows, HoldsWindows}
use Rattle.rep_recover.specs.Installing.{CanBring, IsBeside, IsTaken, HoldsEither, MeansEither, TakesPlace, snapshot_of}
use Rattle.rep_replica.specs.Replicas.{Replica, IsReplica, GoOn, facts_of}
use Rattle.rep_replica.specs.Refusing.{TellsFaults}
use Rattle.rep_replica.specs.Holding.{Holds}
use Rattle.rep_replica.specs.Settling.{is_quiet}
use Rattle.rep_replica.specs.Installing.{Bringing, IsBringing, HoldsBoth, IsInstalled, IsAt, Lands, Installs, LeavesFronts}

-- ---- lists

take_none : (k : ℕ) → take {A = Judged} k [] ≡ []
take_none zero = refl
take_none (suc k) = refl

drop_none : (k : ℕ) → drop {A = Judged} k [] ≡ []
drop_none zero = refl
drop_none (suc k) = refl

-- ---- a quiet replica

empty : (js : List Judged) → (length js == 0) ≡ true → js ≡ []
empty [] e = refl
empty (j ∷ js) e = absurd (grind (arith, nat_tests, e))

neither : (xs ys : List Judged) → xs ++ ys ≡ [] → (xs ≡ []) × (ys ≡ [])
neither [] ys e = (refl, e)
neither (x ∷ xs) ys e = absurd cc

rests_off : (stage : Stage) → is_off (stage_in stage) ≡ true → stage ≡ Off
rests_off Off e = refl
rests_off (Toward next part) e = absurd (let never : false ≡ true = e in cc)
rests_off (Retiring written) e = absurd (let never : false ≡ true = e in cc)

-- Nothing waits for a quiet replica, neither in its engine nor before it, and no checkpoint is under way.
pub record Rests {D : Type 0} (r : Replica D) : Type 0 where
  pub block : r.engine.block ≡ []
  pub backlog : r.backlog ≡ []
  pub off : r.engine.checkpoint.stage ≡ Off

pub quiet_rests : {D : Type 0} (g : Ghosts D) (r : Replica D) → is_quiet (facts_of g r) ≡ true → Rests r
quiet_rests g r quiet =
    let parts = and_both (length (r.engine.block ++ r.backlog) == 0) (is_off (stage_in r.engine.checkpoint.stage)) quiet in
    let none = neither r.engine.block r.backlog (empty (r.engine.block ++ r.backlog) parts.0) in
    record { block = none.0; backlog = none.1; off = rests_off r.engine.checkpoint.stage parts.1 }

-- ---- what an engine holds that has taken all

-- the part of a node that has all of it is the node
part_all : (n : Node) (block : List Judged) (q : ℕ) → block ≡ n.facts.ahead → take q n.items ≡ n.items → part_of block q n ≡ n
part_all n block q ahead all = ap (λ (js : List Judged). record n { facts = record n.facts { ahead = js }; items = take q n.items }) ahead ∙ ap (λ (js : List Judged). record n { items = js }) all

take_whole : (q : ℕ) (js : List Judged) → drop q js ≡ [] → take q js ≡ js
take_whole q js none = sym (append-nil (take q js)) ∙ ap (λ (rest : List Judged). take q js ++ rest) (sym none) ∙ take-append-drop q js

pub engine_whole : {D : Type 0} (g : Ghosts D) (n : Node) (r : Replica D) → Rests r → Holds g n r → EngineHolds g n r.engine
engine_whole g n r rests holds =
    let ahead : r.engine.block ≡ n.facts.ahead = sym (append-nil r.engine.block) ∙ ap (λ (js : List Judged). r.engine.block ++ js) (sym rests.backlog) ∙ sym (ap (λ (s : Standing). s.ahead) holds.facts) in
    subst (λ (m : Node). EngineHolds g m r.engine) (part_all n r.engine.block holds.taken ahead (take_whole holds.taken n.items (sym holds.waiting ∙ rests.backlog))) holds.engine

-- ---- given up

facts_alone : {D : Type 0} (g : Ghosts D) (e : Engine D) (certifier : Holdings) → facts_of g (record { engine = e; backlog = []; certifier = certifier; stopped = false }) ≡ engine_facts g e
facts_alone g e certifier = ap (λ (js : List Judged). record (engine_facts g e) { ahead = js }) (append-nil e.block)

pub held_alone : {D : Type 0} (g : Ghosts D) (n : Node) (e : Engine D) (certifier : Holdings) → EngineHolds g n e → AreJudgedFrom n.facts.setting n.base n.items
    → ((k : ℕ) → n.base.position ≤ k → IsAskable certifier.current k → window_of certifier.current k ≡ window_at n k) → Holds g n (record { engine = e; backlog = []; certifier = certifier; stopped = false })
held_alone {D} g n e certifier h judged windows = record {
  running = refl;
  facts = h.facts ∙ sym (facts_alone g e certifier);
  node = h.node;
  judged = judged;
  taken = length n.items;
  within = omega arith;
  engine = subst (λ (m : Node). EngineHolds g m e) (sym (part_all n e.block (length n.items) (sym (ap (λ (s : Standing). s.ahead) h.facts)) (take_all (length n.items) n.items (omega arith)))) h;
  waiting = sym (drop_all (length n.items) n.items (omega arith));
  windows = windows;
}

-- ---- installed

-- the window of a certifier that is made at the snapshot, and the node's there
module _ {D : Type 0} (g : Ghosts D) (law : CertifiersHoldWindows) (n : Node) (y : State) (b : Bringing D) (holds : HoldsBoth g n y b) (runs : b.engine.halted ≡ None)
    (is : IsBringing (engine_facts g b.engine) b.coming b.before b.after) (beside : IsBeside b.engine.checkpoint b.engine.log b.engine.block b.coming) where
  abbrev super : SuperBody
  super = b.coming.next.super

  abbrev p : Setting
  p = b.engine.checkpoint.base.params

  abbrev m : Node
  m = installed n b.coming y

  position_is : y.position ≡ super.position
  position_is = (holds.engine.runs runs).installs.installation.position

  kept_is : y.kept ≡ b.coming.next.window
  kept_is = (holds.engine.runs runs).installs.installation.kept

  state_there : (k : ℕ) → window_at m k ≡ y.kept
  state_there k = ap (λ (js : List Judged). (reached n.facts.setting y js).kept) (take_none (k - y.position))

  pub windows_there : (k : ℕ) → y.position ≤ k → IsAskable b.after.current k → window_of b.after.current k ≡ window_at m k
  windows_there k above askable =
      let here : IsAskable (made_at p super.position b.coming.next.window) k = subst (λ (h : Holding). IsAskable h k) is.made askable in
      let same : k ≡ super.position = omega (arith, here.past, above, position_is) in
      ap (λ (h : Holding). window_of h k) is.made ∙ ap (window_of (made_at p super.position b.coming.next.window)) same
      ∙ law.first p super.position b.coming.next.window is.window ∙ sym (state_there k ∙ kept_is)

  -- the replica over the engine that it leaves
  pub held_there : (e : Engine D) → EngineHolds g m e → Holds g m (record { engine = e; backlog = []; certifier = b.after; stopped = false })
  held_there e h = held_alone g m e b.after h tt windows_there

  ahead_none : n.facts.ahead ≡ []
  ahead_none = ap (λ (s : Standing). s.ahead) holds.engine.facts ∙ beside.none

  setting_is : n.facts.setting ≡ super.params
  setting_is = ap (λ (s : Standing). s.setting) holds.engine.facts ∙ sym beside.coming.params

  -- once the superblock before it is retired, the node stands at the snapshot
  pub is_there : IsInstalled super y (record m { facts = record m.facts { stage = is_off_stage } })
  is_there =
      let running : m.facts.stopped ≡ false = ap (λ (s : Standing). s.stopped) holds.engine.facts ∙ ap is_some runs in
      search (setting_is, position_is, ahead_none)

  -- what means a front of it means the snapshot
  pub means_it : (image : List ℕ) → IsFrontAt Means m image → Means image (snapshot_of super y)
  means_it image f = subst (Means image) same f.reads
    where
      meaning : List ℕ → Setting → State → List Judged → Meaning
      meaning u s z tail = record { uuid = u; setting = s; base = z; tail = tail }

      front : f.meaning.base ≡ y
      front = f.front.base_is ∙ ap (reached n.facts.setting y) (take_none f.front.past)

      tail : f.meaning.tail ≡ []
      tail = f.front.tail_is ∙ ap (take (f.end - (y.position + f.front.past))) (drop_none f.front.past) ∙ take_none (f.end - (y.position + f.front.past))

      same : f.meaning ≡ snapshot_of super y
      same =
          ap (λ u. meaning u f.meaning.setting f.meaning.base f.meaning.tail) f.front.uuid_is ∙ ap (λ (s : Setting). meaning super.uuid s f.meaning.base f.meaning.tail) (f.front.setting_is ∙ setting_is)
          ∙ ap (λ (z : State). meaning super.uuid super.params z f.meaning.tail) front ∙ ap (meaning super.uuid super.params y) tail

  -- so what is left of it is one of the two
  pub either_there : (r : Replica D) → LeavesFronts g m r → HoldsEither g n super y r.engine
  either_there r left = record { is_honest = left.is_honest; images = λ image here. inr (means_it image (left.images image here)) }

  pub leaves_there : (old mid new : History) → LeavesOnly old mid (MeansEither n super y) → LeavesOnly mid new (IsFrontAt Means m) → LeavesOnly old new (MeansEither n super y)
  leaves_there old mid new before behind = leaves_then old mid new before behind (λ image f. inr (means_it image f))

-- ---- on any device

module _ {D : Type 0} (g : Ghosts D) (b : Bringing D) (e : Engine D) (taken : IsTaken b.coming b.engine e) (beside : IsBeside b.engine.checkpoint b.engine.log b.engine.block b.coming) (runs : b.engine.halted ≡ None) where
  pub setting_there : (engine_facts g e).setting ≡ b.engine.checkpoint.base.params
  setting_there = ap (λ (x : Engine D). x.checkpoint.base.params) taken.rest ∙ beside.coming.params

  pub durable_there : (engine_facts g e).durable ≡ b.coming.next.super.position
  durable_there = let behind : b.coming.next.super.position + 1 - 1 ≡ b.coming.next.super.position = omega arith in ap (λ (x : Engine D). durable_of x.log) taken.rest ∙ behind

  pub phase_there : (engine_facts g e).phase ≡ Resting
  phase_there = ap (λ (x : Engine D). phase_at x.log.phase x.halted) taken.rest ∙ ap (phase_at b.engine.log.phase) runs ∙ beside.resting

  pub stage_there : (engine_facts g e).stage ≡ is_retiring false
  stage_there = ap (λ (x : Engine D). stage_in x.checkpoint.stage) taken.rest

  pub ahead_there : (engine_facts g e).ahead ≡ []
  ahead_there = ap (λ (x : Engine D). x.block) taken.rest ∙ beside.none

  pub running_there : e.halted ≡ None
  running_there = ap (λ (x : Engine D). x.halted) taken.rest ∙ runs

  -- it stands where the snapshot is
  pub is_at : (s : Standing) (certifier : Holdings) → s ≡ record (facts_of g (record { engine = e; backlog = []; certifier = certifier; stopped = false })) { stage = is_off_stage } → IsAt b.coming.next.super s
  is_at s certifier is =
      let alone : s ≡ record (engine_facts g e) { stage = is_off_stage } = is ∙ ap (λ (t : Standing). record t { stage = is_off_stage }) (facts_alone g e certifier) in
      let none = ahead_there in
      record {
        uuid = ap (λ (t : Standing). t.uuid) alone ∙ ap (λ (x : Engine D). x.checkpoint.base.uuid) taken.rest;
        setting = ap (λ (t : Standing). t.setting) alone ∙ ap (λ (x : Engine D). x.checkpoint.base.params) taken.rest;
        base = ap (λ (t : Standing). t.base) alone ∙ ap (λ (x : Engine D). x.checkpoint.base.position) taken.rest;
        durable = ap (λ (t : Standing). t.durable) alone ∙ durable_there;
        quiet = ap is_quiet alone ∙ ap (λ (js : List Judged). (length js == 0) && true) none;
        running = ap (λ (t : Standing). t.stopped) alone ∙ ap is_some running_there;
      }

pub lands_there :
    {D : Type 0} (g : Ghosts D) (b : Bringing D) (e : Engine D) → IsTaken b.coming b.engine e → IsBeside b.engine.checkpoint b.engine.log b.engine.block b.coming → b.engine.halted ≡ None → (certifier : Holdings) (new : Replica D) (result : Result (Unit {0}) Refusal)
    → OnOk result (facts_of g new ≡ record (facts_of g (record { engine = e; backlog = []; certifier = certifier; stopped = false })) { stage = is_off_stage }) → IfErr result (λ r. (r ≡ DiskFault) × ((facts_of g new).stopped ≡ true)) → Lands g b new result
lands_there g b e taken beside runs certifier new (Ok x) done fault = record { done = is_at g b e taken beside runs (facts_of g new) certifier done; fault = tt }
lands_there g b e taken beside runs certifier new (Err r) done fault = record { done = tt; fault = fault }

-- ---- what is so of replicas

pub none_come : (s : Standing) (h : Holding) → delivered s ≤ MAX_SEQNO → h.delivered ≡ delivered s → GoOn s [] h
none_come s h most count = record { come = record { follow = tt; limit = omega (arith, most); undefined = λ nil. refl }; placed = tt; count = omega (arith, count) }

-- ---- how a call comes out

pub on_err : {P : Type 0} (result : Result (Unit {0}) Refusal) → P → OnErr result P
on_err (Ok x) h = tt
on_err (Err e) h = h

pub halts_on : {A B : Type 0} (result : Result (Unit {0}) Refusal) → IfErr result (λ e. e ≡ DiskFault → A) → (A → B) → IfErr result (λ e. e ≡ DiskFault → B)
halts_on (Ok x) h f = tt
halts_on (Err e) h f = λ fault. f (h fault)

pub done_on : {A B : Type 0} (result : Result (Unit {0}) Refusal) → OnOk result A → (A → B) → OnOk result B
done_on (Ok x) h f = f h
done_on (Err e) h f = tt

pub some_on : {T A B : Type 0} (o : Option T) → IfSome o (λ _. A) → (A → B) → IfSome o (λ _. B)
some_on None h f = tt
some_on (Some x) h f = f h

pub same_ok : {A B : Type 0} {a b : A} → ◌≡◌ {A = Result A B} (Ok a) (Ok b) → a ≡ b
same_ok e = cc

pub never_err : {A B : Type 0} {P : Type 0} {result : Result A B} {a : A} {b : B} → result ≡ Ok a → result ≡ Err b → P
never_err {A} {B} {P} {result} {a} {b} ok err = absurd (let never : ◌≡◌ {A = Result A B} (Ok a) (Err b) = sym ok ∙ err in cc)

-- ---- where it begins

-- the certifier that goes on is made at the snapshot
pub is_bringing : {D : Type 0} (g : Ghosts D) (e : Engine D) (uuid : List ℕ) (position : ℕ) (v : Window) (before after : Holdings) → CanBring e.checkpoint.base (durable_of e.log) uuid position v → IsReplica (engine_facts g e) [] before.current false
    → after.current ≡ made_at e.checkpoint.base.params position v → IsBringing (engine_facts g e) (coming e.checkpoint.base uuid position e.log.next v) before after
is_bringing g e uuid position v before after can replica made = record {
  replica = replica;
  window = can.window;
  made = made;
}

-- ---- where it ends

-- a device that was asked or failed leaves a replica one
pub replica_still : {D : Type 0} (g : Ghosts D) (old : Engine D) (disk : D) (halted : Option Phase) (backlog : List Judged) (h : Holding) → IsReplica (engine_facts g old) backlog h false
    → IsReplica (engine_facts g (record old { disk = disk; halted = halted })) backlog h false
replica_still g old disk halted backlog h r = record {
  setting = r.setting;
  askable = r.askable;
  windows = r.windows;
  items = λ inside.
      let on = r.items inside in
      record { come = record { follow = on.come.follow; limit = on.come.limit; undefined = on.come.undefined }; placed = on.placed; count = on.count };
}

-- over what the snapshot made of the engine goes a certifier that was made there
pub replica_there : {D : Type 0} (g : Ghosts D) → CertifiersHoldWindows → (b : Bringing D) (e : Engine D) → IsTaken b.coming b.engine e → IsBeside b.engine.checkpoint b.engine.log b.engine.block b.coming → b.engine.halted ≡ None
    → IsBringing (engine_facts g b.engine) b.coming b.before b.after → IsReplica (engine_facts g e) [] b.after.current false
replica_there g law b e taken beside runs is =
    let p = b.engine.checkpoint.base.params in
    let position = b.coming.next.super.position in
    let v = b.coming.next.window in
    let durable = durable_there g b e taken beside runs in
    let ahead : length (engine_facts g e).ahead ≡ 0 = ap length (ahead_there g b e taken beside runs) in
    record {
      setting = ap (λ (h : Holding). h.setting) is.made ∙ sym (setting_there g b e taken beside runs);
      askable = subst (λ (h : Holding). IsAskable h (engine_facts g e).durable) (sym is.made) (record { made = omega (arith, durable); near = omega (arith, durable); past = omega (arith, durable) });
      windows = subst HoldsWindows (sym is.made) (law.made p position v is.window);
      items = λ inside. none_come (engine_facts g e) b.after.current (omega (arith, ahead, durable, beside.coming.is_super.position)) (ap (λ (h : Holding). h.delivered) is.made ∙ omega (arith, ahead, durable));
    }

-- what stands beside an engine whose device failed is either
pub either_still : {D : Type 0} (g : Ghosts D) (n : Node) (y : State) (b : Bringing D) (r : Replica D) (e : Refusal) → r.engine ≡ b.engine → HoldsBoth g n y b → Installs g n y b r (Err e)
either_still {D} g n y b r e same holds =
    let left : HoldsEither g n b.coming.next.super y b.engine = record { is_honest = holds.engine.is_honest; images = λ image here. by image (holds.engine.images image here) } in
    record {
      holds = tt;
      either = subst (λ (x : Engine D). HoldsEither g n b.coming.next.super y x) (sym same) left;
      leaves = subst (λ (x : Engine D). LeavesOnly (g.history b.engine.disk) (g.history x.disk) (MeansEither n b.coming.next.super y)) (sym same) (leaves_none (g.history b.engine.disk) (g.history b.engine.disk) refl);
    }
  where
    by : (image : List ℕ) → IsFrontAt Means n image ⊎ ((b.coming.part ≡ SuperOpening) × Means image (snapshot_of b.coming.next.super y)) → MeansEither n b.coming.next.super y image
    by image (inl f) = inl f
    by image (inr m) = inr m.1

-- where the device failed before the snapshot took the base's place
pub lands_failed : {D : Type 0} (g : Ghosts D) (b : Bringing D) (e : Engine D) (backlog : List Judged) (certifier : Holdings) (result : Result (Unit {0}) Refusal) → IsErr result
    → IfErr result (λ r. (r ≡ DiskFault) × (Halts b.engine e)) → Lands g b (record { engine = e; backlog = backlog; certifier = certifier; stopped = false }) result
lands_failed g b e backlog certifier (Ok x) err h = absurd cc
lands_failed {D} g b e backlog certifier (Err r) err h = record { done = tt; fault = (h.0, ap (λ (x : Engine D). is_some x.halted) h.1) }

-- what the engine tells of its device is told
pub told_by : {D : Type 0} (g : Ghosts D) (b : Bringing D) (e : Engine D) (result : Result (Unit {0}) Refusal) → IfErr result (λ r. (r ≡ DiskFault) × (Halts b.engine e))
    → Calls g b.engine.disk e.disk (fault_of result) → TellsFaults (g.failures b.engine.disk) (g.failures e.disk) result
told_by g b e (Ok x) fault call = call.no_cause refl
told_by g b e (Err r) fault call =
    let rose : IsErr (fault_of {T = Unit {0}} (Err r)) → Rises (g.failures b.engine.disk) (g.failures e.disk) = call.cause in
    record { fault = λ is. rose (subst (λ (x : Refusal). IsErr (fault_of {T = Unit {0}} (Err x))) (sym is) refl); no_fault = λ not. absurd (not fault.0) }

-- where it succeeded there is none
pub none_told : {P : Type 0} (result : Result (Unit {0}) Refusal) → (IsOk (fault_of result) → P) → OnOk result P
none_told (Ok x) same = same refl
none_told (Err r) same = tt

-- and behind it what else is told
pub told_behind : (old mid new : ℕ) (result : Result (Unit {0}) Refusal) → mid ≡ old → TellsFaults mid new result → TellsFaults old new result
told_behind old mid new result same told = subst (λ (k : ℕ). TellsFaults k new result) same told

pub installs_failed : {D : Type 0} (g : Ghosts D) (n : Node) (y : State) (b : Bringing D) (r : Replica D) (result : Result (Unit {0}) Refusal) → IsErr result
    → TakesPlace g n y b.coming b.engine r.engine result → Installs g n y b r result
installs_failed g n y b r (Ok x) err takes = absurd cc
installs_failed g n y b r (Err e) err takes = record { holds = tt; either = takes.either; leaves = takes.leaves }

-- what its failure leaves is a replica
pub replica_failed : {D : Type 0} (g : Ghosts D) (old e : Engine D) (backlog : List Judged) (h : Holding) (result : Result (Unit {0}) Refusal) → IsErr result → IfErr result (λ r. (r ≡ DiskFault) × (Halts old e))
    → IsReplica (engine_facts g old) backlog h false → IsReplica (engine_facts g e) backlog h false
replica_failed g old e backlog h (Ok x) err is r = absurd cc
replica_failed {D} g old e backlog h (Err f) err is r = subst (λ (x : Engine D). IsReplica (engine_facts g x) backlog h false) (sym is.1) (replica_still g old e.disk (Some old.log.phase) backlog h r)

-- where it took the place, and its superblock before is retired, or the device failed at that
module _ {D : Type 0} (g : Ghosts D) (law : CertifiersHoldWindows) (n : Node) (y : State) (b : Bringing D) (holds : HoldsBoth g n y b) (runs : b.engine.halted ≡ None)
    (is : IsBringing (engine_facts g b.engine) b.coming b.before b.after) (beside : IsBeside b.engine.checkpoint b.engine.log b.engine.block b.coming) (e : Engine D) (ended : Result (Unit {0}) Refusal) (ok : IsOk ended) (takes : TakesPlace g n y b.coming b.engine e ended) where
  abbrev there : Node
  there = installed n b.coming y

  abbrev mid : Replica D
  mid = record { engine = e; backlog = []; certifier = b.after; stopped = false }

  pub held : Holds g there mid
  held = held_there g law n y b holds runs is beside e (by ended ok takes.holds)
    where
      by : (result : Result (Unit {0}) Refusal) → IsOk result → OnOk result (EngineHolds g there e) → EngineHolds g there e
      by (Ok x) ok h = h
      by (Err r) ok h = absurd cc

  pub installs_there : (new : Replica D) (result : Result (Unit {0}) Refusal) → OnOk result (Holds g (record there { facts = record there.facts { stage = is_off_stage } }) new) → OnErr result (LeavesFronts g there new)
      → LeavesOnly (g.history e.disk) (g.history new.engine.disk) (IsFrontAt Means there) → Installs g n y b new result
  installs_there new (Ok x) done fronts leaves = record {
    holds = (record there { facts = record there.facts { stage = is_off_stage } }, is_there g law n y b holds runs is beside, done);
    either = tt;
    leaves = leaves_there g law n y b holds runs is beside (g.history b.engine.disk) (g.history e.disk) (g.history new.engine.disk) takes.leaves leaves;
  }
  installs_there new (Err r) done fronts leaves = record {
    holds = tt;
    either = either_there g law n y b holds runs is beside new fronts;
    leaves = leaves_there g law n y b holds runs is beside (g.history b.engine.disk) (g.history e.disk) (g.history new.engine.disk) takes.leaves leaves;
  }

pub err_of : (result : Result (Unit {0}) Refusal) → true ≡ is_err result → IsErr result
err_of (Ok x) e = absurd cc
err_of (Err r) e = refl

pub taken_of : {P : Type 0} (result : Result (Unit {0}) Refusal) → IsOk result → OnOk result P → P
taken_of (Ok x) ok h = h
taken_of (Err r) ok h = absurd cc
