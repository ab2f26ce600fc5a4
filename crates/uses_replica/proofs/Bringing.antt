-- A node that stands at a snapshot, and pages that come one after another.
use Rattle.std.proofs.Common.{◌≡◌, inl, inr, ℕ, zero, suc, ◌+◌, ◌-◌, ◌<◌, Bool, true, false, List, [], ◌∷◌, length, take, Option, None, Some, Result, Ok, Err, OnOk, OnErr, refl, sym, ap, subst, ◌∙◌, arith}
use Rattle.std.specs.Prelude.{◌⊎◌, ◌==◌, not, nat_le, if◌then◌else◌, is_some, IsOk, IsErr, IfSome, IfErr}
use Rattle.std.proofs.lemmas.Bool.Decides.{nat_tests}
use Rattle.std.proofs.lemmas.Slice.Eq.{bytes_eq-Decides}
use Rattle.uuid.specs.Parts.{is_nil_bytes, zero_bytes}
use Rattle.rep_types.specs.declared.judged.Judged.{Judged}
use Rattle.rep_types.specs.declared.limits.TheConstants.{MAX_SEQNO, MAX_AHEAD}
use Rattle.rep_types.specs.declared.item.Item.{Item}
use Rattle.rep_types.specs.declared.refusal.Refusal.{Refusal}
use Rattle.rep_types.specs.declared.refusal.Refusal.TheVariants.{Undefined, Exhausted, OutOfOrder, Backlogged, Stopped, DiskFault}
use Rattle.rep_types.specs.Settings.{Setting}
use Rattle.rep_types.specs.Windows.{Window}
use Rattle.rep_types.specs.Order.{State, judge}
use Rattle.rep_disk.specs.declared.disk.Disk.{Ghosts}
use Rattle.rep_disk.specs.Moments.{LeavesOnly}
use Rattle.rep_disk.specs.Leaving.{leaves_none, leaves_weaker, leaves_both, leaves_then}
use Rattle.rep_layout.specs.Supers.{IsNil}
use Rattle.rep_layout.specs.declared.super_body.SuperBody.{SuperBody}
use Rattle.rep_pages.specs.Rows.{Rows}
use Rattle.rep_log.specs.declared.phase.Phase.{Phase}
use Rattle.rep_steps.specs.Events.{delivery}
use Rattle.rep_steps.specs.Deliveries.{delivery_refused}
use Rattle.rep_steps.specs.Standings.{Standing, delivered, delivery_refusal, refusal}
use Rattle.rep_steps.specs.Nodes.{Node, state_at, reached}
use Rattle.rep_steps.specs.Images.{IsFrontAt}
use Rattle.rep_image.specs.Meanings.{Means}
use Rattle.rep_checkpoint.specs.Coming.{Coming, blank, coming, placed, with_page}
use Rattle.rep_engine.specs.Engines.{Engine}
use Rattle.rep_engine.specs.Reading.{halted_by}
use Rattle.rep_engine.specs.Installing.{MeansEither}
use Rattle.rep_replica.specs.Replicas.{Replica, facts_of}
use Rattle.rep_replica.specs.Holding.{Holds}
use Rattle.rep_replica.specs.Installing.{Bringing, HoldsBoth, Installs, IsInstalled, Lands, given_up}
use Rattle.uses_replica.specs.Bringing.{Brings, GoesOn, MeansOldOrNew, PutsAll, with_pages}

-- ---- how it goes on

take_none : (k : ℕ) → take {A = Judged} k [] ≡ []
take_none zero = refl
take_none (suc k) = refl

not_nil : (uuid : List ℕ) → (IsNil uuid → ⊥) → (b : Bool) → is_nil_bytes uuid ≡ b → b ≡ false
not_nil uuid not true is = absurd (not ((bytes_eq-Decides uuid zero_bytes).0 is))
not_nil uuid not false is = refl

module _ (b : SuperBody) (y : State) (m : Node) (h : IsInstalled b y m) where
  abbrev s : Standing
  s = m.facts

  all_there : delivered s ≡ y.position
  all_there = omega (arith, ap length h.ahead, h.durable, h.position)

  state_there : (k : ℕ) → state_at m k ≡ y
  state_there k = ap (λ (js : List Judged). reached s.setting m.base (take (k - m.base.position) js)) h.none ∙ ap (reached s.setting m.base) (take_none (k - m.base.position)) ∙ h.base

  free_by : (uuid : List ℕ) (n seqno : ℕ) (js : List Judged) → is_nil_bytes uuid ≡ false → (n == MAX_SEQNO) ≡ false → (seqno == n + 1) ≡ true → nat_le MAX_AHEAD (length js) ≡ false
      → (if is_nil_bytes uuid then Some Undefined else if n == MAX_SEQNO then Some Exhausted else if not (seqno == n + 1) then Some (OutOfOrder (n + 1)) else if nat_le MAX_AHEAD (length js) then Some Backlogged else None) ≡ None
  free_by uuid n seqno js nil most order few = rw nil (rw most (rw order (rw few refl)))

  next_free : (IsNil s.uuid → ⊥) → y.position < MAX_SEQNO → (i : Item) → refusal s (delivery (y.position + 1) i) ≡ None
  next_free not below i =
      delivery_refused (y.position + 1) s i ∙ ap (λ t. if t then Some Stopped else delivery_refusal s (y.position + 1)) h.running
      ∙ free_by s.uuid (delivered s) (y.position + 1) s.ahead (not_nil s.uuid not (is_nil_bytes s.uuid) refl) (grind (arith, nat_tests, all_there, below)) (grind (arith, nat_tests, all_there)) (grind (arith, nat_tests, ap length h.ahead))

  pub goes_on : GoesOn y m
  goes_on = record {
    rows = λ key. ap (λ (z : State). z.content key) (state_there y.position);
    window = ap (λ (z : State). z.kept) (state_there s.durable);
    next = next_free;
    verdict = λ i. ap (λ (z : State). judge s.setting (delivered s) z.kept i) (state_there (delivered s)) ∙ ap (λ k. judge s.setting k y.kept i) all_there;
    free = h.off;
  }

-- ---- pages one after another

-- Some of the pages came, and these are left.
pub record Put {D : Type 0} (g : Ghosts D) (pages rest : List (ℕ × Rows)) (first now : Bringing D) : Type 0 where
  pub uuid : now.coming.next.super.uuid ≡ first.coming.next.super.uuid
  pub position : now.coming.next.super.position ≡ first.coming.next.super.position
  pub params : now.engine.checkpoint.base.params ≡ first.engine.checkpoint.base.params
  pub shape : now.coming.next.super.params ≡ first.coming.next.super.params
  pub holds : (n : Node) (y : State) → HoldsBoth g n y first
      → (z : State) × HoldsBoth g n z now × (with_pages first.engine.checkpoint.base.params.rows rest z ≡ with_pages first.engine.checkpoint.base.params.rows pages y)
  pub leaves : (n : Node) (y : State) → HoldsBoth g n y first → LeavesOnly (g.history first.engine.disk) (g.history now.engine.disk) (IsFrontAt Means n)

module _ {D : Type 0} (g : Ghosts D) (pages : List (ℕ × Rows)) (first : Bringing D) where
  pub put_none : (rest : List (ℕ × Rows)) → rest ≡ pages → Put g pages rest first first
  put_none rest same = record {
    uuid = refl;
    position = refl;
    params = refl;
    shape = refl;
    holds = λ n y h. (y, h, ap (λ (ps : List (ℕ × Rows)). with_pages first.engine.checkpoint.base.params.rows ps y) same);
    leaves = λ n y h. leaves_none (g.history first.engine.disk) (g.history first.engine.disk) refl;
  }

  module _ (rest : List (ℕ × Rows)) (now new : Bringing D) (page : ℕ) (rows : Rows) (put : Put g pages ((page, rows) ∷ rest) first now) (still : new ≡ record now { engine = record now.engine { disk = new.engine.disk; halted = new.engine.halted }; coming = new.coming })
      (leaves : (n : Node) (y : State) → HoldsBoth g n y now → LeavesOnly (g.history now.engine.disk) (g.history new.engine.disk) (IsFrontAt Means n)) where
    same_params : new.engine.checkpoint.base.params ≡ first.engine.checkpoint.base.params
    same_params = ap (λ (b : Bringing D). b.engine.checkpoint.base.params) still ∙ put.params

    leaves_on : (n : Node) (y : State) → HoldsBoth g n y first → LeavesOnly (g.history first.engine.disk) (g.history new.engine.disk) (IsFrontAt Means n)
    leaves_on n y h = leaves_both (g.history first.engine.disk) (g.history now.engine.disk) (g.history new.engine.disk) (put.leaves n y h) (leaves n (put.holds n y h).0 (put.holds n y h).1)

    -- one more came
    pub put_more : new.coming ≡ placed now.engine.checkpoint.base page now.coming → ((n : Node) (y : State) → HoldsBoth g n y now → HoldsBoth g n (with_page now.engine.checkpoint.base.params.rows page rows y) new) → Put g pages rest first new
    put_more done holds = record {
      uuid = ap (λ (i : Coming). i.next.super.uuid) done ∙ put.uuid;
      position = ap (λ (i : Coming). i.next.super.position) done ∙ put.position;
      params = same_params;
      shape = ap (λ (i : Coming). i.next.super.params) done ∙ put.shape;
      holds = λ n y h.
          let was = put.holds n y h in
          let z = with_page now.engine.checkpoint.base.params.rows page rows was.0 in
          (z, holds n was.0 was.1, ap (λ (p : Setting). with_pages first.engine.checkpoint.base.params.rows rest (with_page p.rows page rows was.0)) put.params ∙ was.2);
      leaves = leaves_on;
    }

    -- or it was refused
    pub put_refused : (r : Refusal) → new.coming ≡ now.coming → ((n : Node) (y : State) → HoldsBoth g n y now → new.engine.halted ≡ None → HoldsBoth g n y new) → PutsAll g pages first new (Err r)
    put_refused r same holds = record {
      uuid = ap (λ (i : Coming). i.next.super.uuid) same ∙ put.uuid;
      position = ap (λ (i : Coming). i.next.super.position) same ∙ put.position;
      params = same_params;
      shape = ap (λ (i : Coming). i.next.super.params) same ∙ put.shape;
      all = λ n y h. tt;
      some = λ n y h runs. let was = put.holds n y h in (was.0, holds n was.0 was.1 runs);
      leaves = leaves_on;
    }

  -- all came
  pub put_all : (now : Bringing D) → Put g pages [] first now → PutsAll g pages first now (Ok tt)
  put_all now put = record {
    uuid = put.uuid;
    position = put.position;
    params = put.params;
    shape = put.shape;
    all = λ n y h. let was = put.holds n y h in subst (λ (z : State). HoldsBoth g n z now) was.2 was.1;
    some = λ n y h runs. let was = put.holds n y h in (was.0, was.1);
    leaves = put.leaves;
  }

  -- one can't come
  pub put_some : (rest : List (ℕ × Rows)) (now : Bringing D) (r : Refusal) → Put g pages rest first now → PutsAll g pages first now (Err r)
  put_some rest now r put = record {
    uuid = put.uuid;
    position = put.position;
    params = put.params;
    shape = put.shape;
    all = λ n y h. tt;
    some = λ n y h runs. let was = put.holds n y h in (was.0, was.1);
    leaves = put.leaves;
  }

-- ---- how a page comes out

pub ok_of : {P : Type 0} (result : Result (Unit {0}) Refusal) → IsOk result → OnOk result P → P
ok_of (Ok x) ok h = h
ok_of (Err e) ok h = absurd cc

-- a page that was refused: the device had failed before, or did
pub refused_page : {D : Type 0} (g : Ghosts D) (now new : Bringing D) (phase : Phase) (result : Result (Unit {0}) Refusal) (e : Refusal) → result ≡ Err e → (halted : Option Phase)
    → IfSome halted (λ _. (result ≡ Err Stopped) × (new ≡ now)) → (halted ≡ None → (new.engine.halted ≡ halted_by phase result) × IfErr result (λ r. r ≡ DiskFault))
    → (n : Node) (y : State) → HoldsBoth g n y now → new.engine.halted ≡ None → HoldsBoth g n y new
refused_page g now new phase result e is (Some before) stopped runs n y h none = subst (HoldsBoth g n y) (sym stopped.1) h
refused_page g now new phase result e is None stopped runs n y h none =
    let fault : e ≡ DiskFault = subst (λ (r : Result (Unit {0}) Refusal). IfErr r (λ f. f ≡ DiskFault)) is (runs refl).1 in
    let failed : Some phase ≡ None = sym (ap (halted_by {T = Unit {0}} phase) (is ∙ ap Err fault)) ∙ sym (runs refl).0 ∙ none in
    cc failed

pub same_coming : {A : Type 0} {a b : A} (result : Result (Unit {0}) Refusal) (e : Refusal) → result ≡ Err e → OnErr result (a ≡ b) → a ≡ b
same_coming {A} {a} {b} result e is h = subst (λ (r : Result (Unit {0}) Refusal). OnErr r (a ≡ b)) is h

pub by_err : (P : Result (Unit {0}) Refusal → Type 0) (result : Result (Unit {0}) Refusal) → IsErr result → ((r : Refusal) → P (Err r)) → P result
by_err P (Ok x) err f = absurd cc
by_err P (Err r) err f = f r

-- ---- what comes of it all

on_ok : {A B : Type 0} (result : Result (Unit {0}) Refusal) → OnOk result A → (A → B) → OnOk result B
on_ok (Ok x) a f = f a
on_ok (Err e) a f = tt

-- what was given up stands for the node as before, where the device has not failed
pub given_back : {D : Type 0} (g : Ghosts D) (n : Node) (k : Bringing D) (new : Replica D) → new ≡ given_up k → (halted : Option Phase) → k.engine.halted ≡ halted
    → (k.engine.halted ≡ None → Holds g n new) → ((facts_of g new).stopped ≡ true) ⊎ Holds g n new
given_back g n k new same None is holds = inr (holds is)
given_back {D} g n k new same (Some phase) is holds = inl (ap (λ (r : Replica D). (facts_of g r).stopped) same ∙ ap is_some is)

-- and behind an end that failed it is stopped
pub end_failed : {D : Type 0} (g : Ghosts D) (k : Bringing D) (new : Replica D) (result : Result (Unit {0}) Refusal) (halted : Option Phase) → k.engine.halted ≡ halted → IfSome halted (λ _. ◌≡◌ {A = Replica D × Result (Unit {0}) Refusal} (new, result) (given_up k, Err Stopped))
    → (halted ≡ None → Lands g k new result) → OnErr result ((facts_of g new).stopped ≡ true)
end_failed g k new (Ok x) halted is stopped lands = tt
end_failed g k new (Err e) None is stopped lands = (lands refl).fault.1
end_failed {D} g k new (Err e) (Some phase) is stopped lands = ap (λ (x : Replica D × Result (Unit {0}) Refusal). (facts_of g x.0).stopped) stopped ∙ ap is_some is

on_err : {A B : Type 0} (result : Result (Unit {0}) Refusal) → OnErr result A → (A → B) → OnErr result B
on_err (Ok x) a f = tt
on_err (Err e) a f = f a

module _ {D : Type 0} (g : Ghosts D) (n : Node) (uuid : List ℕ) (position : ℕ) (v : Window) (pages : List (ℕ × Rows)) (old : Replica D) (i k : Bringing D) (begun : (i.engine ≡ old.engine) × (i.coming ≡ coming old.engine.checkpoint.base uuid position old.engine.log.next v))
    (holds : HoldsBoth g n (blank position v) i) where
  abbrev y : State
  y = with_pages old.engine.checkpoint.base.params.rows pages (blank position v)

  same_rows : with_pages i.engine.checkpoint.base.params.rows pages (blank position v) ≡ y
  same_rows = ap (λ (e : Engine D). with_pages e.checkpoint.base.params.rows pages (blank position v)) begun.0

  setting_is : i.coming.next.super.params ≡ n.facts.setting
  setting_is = ap (λ (c : Coming). c.next.super.params) begun.1 ∙ ap (λ (e : Engine D). e.checkpoint.base.params) (sym begun.0) ∙ sym (ap (λ (s : Standing). s.setting) holds.engine.facts)

  -- where all pages came and it took the place, or the device failed at that
  pub brought : (new : Replica D) (result : Result (Unit {0}) Refusal) → PutsAll g pages i k (Ok tt) → ((z : State) → HoldsBoth g n z k → Installs g n z k new result) → OnErr result ((facts_of g new).stopped ≡ true) → Brings g n uuid y old new result
  brought new result put installs stopped =
      let all = subst (λ (z : State). HoldsBoth g n z k) same_rows (put.all n (blank position v) holds) in
      let came = installs y all in
      let b = k.coming.next.super in
      let uuid_is : b.uuid ≡ uuid = put.uuid ∙ ap (λ (c : Coming). c.next.super.uuid) begun.1 in
      let before = subst (λ (e : Engine D). LeavesOnly (g.history e.disk) (g.history k.engine.disk) (IsFrontAt Means n)) begun.0 (put.leaves n (blank position v) holds) in
      record {
        done = on_ok result came.holds (λ h. (b, uuid_is, h.0, h.1, h.2));
        refused = on_err result stopped inl;
        leaves = leaves_then (g.history old.engine.disk) (g.history k.engine.disk) (g.history new.engine.disk) (leaves_weaker (g.history old.engine.disk) (g.history k.engine.disk) (λ image f. inl f) before) came.leaves (λ image m. old_or_new b uuid_is (put.shape ∙ setting_is) image m);
      }
    where
      old_or_new : (b : SuperBody) → b.uuid ≡ uuid → b.params ≡ n.facts.setting → (image : List ℕ) → MeansEither n b y image → MeansOldOrNew n uuid y image
      old_or_new b at set image (inl f) = inl f
      old_or_new b at set image (inr m) =
          inr (subst (λ (u : List ℕ). Means image (record { uuid = u; setting = n.facts.setting; base = y; tail = [] })) at (subst (λ (p : Setting). Means image (record { uuid = b.uuid; setting = p; base = y; tail = [] })) set m))

  -- where one didn't, and it was given up
  pub dropped : (new : Replica D) (r : Refusal) → PutsAll g pages i k (Err r) → new ≡ given_up k → ((z : State) → HoldsBoth g n z k → Holds g n new) → Brings g n uuid y old new (Err r)
  dropped new r put same alone =
      let before = subst (λ (e : Engine D). LeavesOnly (g.history e.disk) (g.history k.engine.disk) (IsFrontAt Means n)) begun.0 (put.leaves n (blank position v) holds) in
      record {
        done = tt;
        refused = given_back g n k new same k.engine.halted refl (λ runs. let left = put.some n (blank position v) holds runs in alone left.0 left.1);
        leaves = subst (λ (e : Engine D). LeavesOnly (g.history old.engine.disk) (g.history e.disk) (MeansOldOrNew n uuid y)) (sym (ap (λ (r : Replica D). r.engine) same)) (leaves_weaker (g.history old.engine.disk) (g.history k.engine.disk) (λ image f. inl f) before);
      }

-- where it wasn't begun
pub not_begun : {D : Type 0} (g : Ghosts D) (n : Node) (uuid : List ℕ) (y : State) (old new : Replica D) (r : Refusal) → new ≡ old → Holds g n old → Brings g n uuid y old new (Err r)
not_begun {D} g n uuid y old new r same holds = record {
  done = tt;
  refused = inr (subst (Holds g n) (sym same) holds);
  leaves = subst (λ (x : Replica D). LeavesOnly (g.history old.engine.disk) (g.history x.engine.disk) (MeansOldOrNew n uuid y)) (sym same) (leaves_none (g.history old.engine.disk) (g.history old.engine.disk) refl);
}
