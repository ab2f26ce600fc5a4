-- What an engine that is read answers, and what a seat that asked it may say.
use Rattle.std.proofs.Common.{◌≡◌, inl, inr, ℕ, ◌+◌, ◌≤◌, length, Bool, true, false, not, nat_lt, if◌then◌else◌, Option, None, Some, Result, Ok, Err, IfOk, IfErr, List, refl, sym, ap, subst, ◌∙◌, arith, ltb-true, ltb-false}
use Rattle.std.specs.Prelude.{is_some, MatchOption}
use Rattle.std.proofs.lemmas.Option.{same_Some}
use Rattle.rep_types.specs.declared.key.Key.{Key}
use Rattle.rep_types.specs.declared.judged.Judged.{Judged}
use Rattle.rep_types.specs.declared.refusal.Part.TheVariants.{Pages}
use Rattle.rep_types.specs.declared.refusal.Refusal.{Refusal}
use Rattle.rep_types.specs.declared.refusal.Refusal.TheVariants.{OutOfMemory, DiskFault, Stopped, TooOld, NotYet, BadKey, Corrupt}
use Rattle.rep_types.specs.Settings.{Setting, has_row}
use Rattle.rep_disk.specs.declared.disk.Disk.{Ghosts}
use Rattle.rep_log.specs.declared.phase.Phase.{Phase}
use Rattle.rep_steps.specs.declared.event.Event.TheVariants.{Read}
use Rattle.rep_steps.specs.declared.answer.Answer.TheVariants.{Row, Refused}
use Rattle.rep_steps.specs.Standings.{Standing, read_refusal, refusal}
use Rattle.rep_steps.specs.Moves.{Moves}
use Rattle.rep_steps.specs.Nodes.{Node, Steps}
use Rattle.rep_engine.specs.Engines.{Engine, durable_of, facts_of, OnlyAsks}
use Rattle.rep_engine.specs.Holding.{Holds, row}
use Rattle.rep_cert.specs.Holdings.{Holding}
use Rattle.rep_stations.specs.Judging.{Legal}
use Rattle.rep_stations.specs.Taking.{HasTaken}
use Rattle.rep_stations.specs.Orders.{HistoriesExtendTheOrder}
use Rattle.rep_stations.specs.Waiting.{HistoriesGoOn}
use Rattle.rep_snap.specs.Views.{Watching}
use Rattle.rep_ordered.specs.declared.view.View.{View}
use Rattle.rep_node.specs.declared.home.Desk.{Desk}
use Rattle.rep_node.specs.declared.home.Home.{Home}
use Rattle.rep_node.specs.declared.origin.Origin.{Origin}
use Rattle.rep_node.specs.Homes.{Start, DeskAt, values_of}
use Rattle.rep_node.specs.Keeping.{AtDesk}
use Rattle.rep_node.proofs.Desks.{desk_moved}
use Rattle.rep_node.specs.Reading.{EngineRefuses, IsRowAt, IsRowOf, RefusesAsked}

-- an answer that is this refusal
pub only_err : {T : Type 0} (P : T → Type 0) (r : Result T Refusal) (e : Refusal) → r ≡ Err e → IfOk r P
only_err P r e is = subst (λ (z : Result _ Refusal). IfOk z P) (sym is) tt

pub this_err : {T : Type 0} (P : Refusal → Type 0) (r : Result T Refusal) (e : Refusal) → r ≡ Err e → P e → IfErr r P
this_err P r e is h = subst (λ (z : Result _ Refusal). IfErr z P) (sym is) h

-- ---- why a read is refused

abbrev first_of_three : Bool → Bool → Bool → ℕ → ℕ → Option Refusal
first_of_three inside above below durable base = if not inside then Some BadKey else if above then Some (NotYet durable) else if below then Some (TooOld base) else None

by_tests : (P : Refusal → Type 0) (inside above below : Bool) (durable base : ℕ) (r : Refusal) → first_of_three inside above below durable base ≡ Some r → (inside ≡ false → P BadKey) → (above ≡ true → P (NotYet durable)) → (below ≡ true → P (TooOld base)) → P r
by_tests P false above below durable base r is outside late early = subst P (same_Some _ _ is) (outside refl)
by_tests P true true below durable base r is outside late early = subst P (same_Some _ _ is) (late refl)
by_tests P true false true durable base r is outside late early = subst P (same_Some _ _ is) (early refl)
by_tests P true false false durable base r is outside late early = absurd (let never : None ≡ Some r = is in cc)

not_above : (inside above below : Bool) (durable base : ℕ) → first_of_three inside above below durable base ≡ None → above ≡ false
not_above false above below durable base is = absurd (let never : Some BadKey ≡ None = is in cc)
not_above true true below durable base is = absurd (let never : Some (NotYet durable) ≡ None = is in cc)
not_above true false below durable base is = refl

-- which of these it is, is known
by_refusal : (A : Type 0) (B : Refusal → Type 0) (C : Type 0) (o : Option Refusal) → MatchOption o A B → (o ≡ None → A → C) → ((r : Refusal) → o ≡ Some r → B r → C) → C
by_refusal A B C None m done refused = done refl m
by_refusal A B C (Some r) m done refused = refused r refl m

-- who was stopped, or not
never_corrupt_refusal : (s : Standing) (key : Key) (at : ℕ) (b : Bool) (r : Refusal) → (if b then Some Stopped else read_refusal s key at) ≡ Some r → r ≡ Corrupt Pages → ⊥
never_corrupt_refusal s key at true r is corrupt = let stopped : Stopped ≡ r = same_Some _ _ is in let never : Stopped ≡ Corrupt Pages = stopped ∙ corrupt in absurd cc
never_corrupt_refusal s key at false r is corrupt =
    by_tests (λ (e : Refusal). e ≡ Corrupt Pages → ⊥) (has_row s.setting.rows key) (nat_lt s.durable at) (nat_lt at s.base) s.durable s.base r is
    (λ _ never. absurd (let e : BadKey ≡ Corrupt Pages = never in cc))
    (λ _ never. absurd (let e : NotYet s.durable ≡ Corrupt Pages = never in cc))
    (λ _ never. absurd (let e : TooOld s.base ≡ Corrupt Pages = never in cc))
    corrupt

-- a node of an honest device never finds a page corrupt
never_corrupt : (n m : Node) (key : Key) (at : ℕ) → Steps n (Read key at) (Refused (Corrupt Pages)) m → ⊥
never_corrupt n m key at steps =
    by_refusal _ _ ⊥ (refusal n.facts (Read key at)) steps
    (λ _ went. elim went [
      | inl done ↦ absurd (let e : Refused (Corrupt Pages) ≡ Row _ = done.0 in cc)
      | inr failed ↦ elim failed.0 [
        | inl memory ↦ absurd (let e : Refused (Corrupt Pages) ≡ Refused OutOfMemory = memory.1 in cc)
        | inr device ↦ absurd (let e : Refused (Corrupt Pages) ≡ Refused DiskFault = device.1 in cc)
      ]
    ])
    (λ r is told. never_corrupt_refusal n.facts key at n.facts.stopped r is (let same : Refused (Corrupt Pages) ≡ Refused r = told.0 in cc))

module _ {D : Type 0} (g : Ghosts D) (e new : Engine D) (key : Key) (at : ℕ) (works : e.halted ≡ None) where
  -- what is refused is refused for what is asked
  running : refusal (facts_of g e) (Read key at) ≡ read_refusal (facts_of g e) key at
  running = ap (λ (o : Option Phase). if is_some o then Some Stopped else read_refusal (facts_of g e) key at) works

  refused_so : (r : Refusal) → Moves (facts_of g e) (Read key at) (Refused r) (facts_of g new) → ((n : Node) → Holds g n e → (m : Node) × Steps n (Read key at) (Refused r) m × Holds g m new) → EngineRefuses g e key at r
  refused_so r moves steps =
      by_refusal _ _ (EngineRefuses g e key at r) (refusal (facts_of g e) (Read key at)) moves
      (λ _ went. elim went [
        | inl done ↦ absurd (let never : Refused r ≡ Row _ = done.1 in cc)
        | inr other ↦ elim other [
          | inl fails ↦ elim fails [
            | inl memory ↦ absurd (let never : false ≡ true = memory.0 in cc)
            | inr device ↦ let same : r ≡ DiskFault = (let is : Refused r ≡ Refused DiskFault = device.1 in cc) in subst (EngineRefuses g e key at) (sym same) tt
          ]
          | inr corrupt ↦ let same : r ≡ Corrupt Pages = (let is : Refused r ≡ Refused (Corrupt Pages) = corrupt.1 in cc) in
              subst (EngineRefuses g e key at) (sym same) (
                refl,
                λ n holds. let step = steps n holds in never_corrupt n step.0 key at (subst (λ (x : Refusal). Steps n (Read key at) (Refused x) step.0) same step.1),
              )
        ]
      ])
      (λ x is told. let same : x ≡ r = (let alike : Refused r ≡ Refused x = told.0 in cc) in
      subst (EngineRefuses g e key at) same
      (by_tests (EngineRefuses g e key at) (has_row e.checkpoint.base.params.rows key) (nat_lt (durable_of e.log) at) (nat_lt at e.checkpoint.base.position) (durable_of e.log) e.checkpoint.base.position x (sym running ∙ is)
      (λ outside. outside) (λ late. (refl, ltb-true (durable_of e.log) at late)) (λ early. ltb-true at e.checkpoint.base.position early)))

  pub engine_refuses : (result : Result (Option (List ℕ)) Refusal) → Moves (facts_of g e) (Read key at) (row result) (facts_of g new) → ((n : Node) → Holds g n e → (m : Node) × Steps n (Read key at) (row result) m × Holds g m new)
      → IfErr result (EngineRefuses g e key at)
  engine_refuses (Ok x) moves steps = tt
  engine_refuses (Err r) moves steps = refused_so r moves steps

  row_reaches : (x : Option (List ℕ)) → Moves (facts_of g e) (Read key at) (Row x) (facts_of g new) → at ≤ durable_of e.log
  row_reaches x moves =
      by_refusal _ _ (at ≤ durable_of e.log) (refusal (facts_of g e) (Read key at)) moves
      (λ none _. ltb-false (durable_of e.log) at (not_above (has_row e.checkpoint.base.params.rows key) (nat_lt (durable_of e.log) at) (nat_lt at e.checkpoint.base.position) (durable_of e.log) e.checkpoint.base.position (sym running ∙ none)))
      (λ r _ told. absurd (let never : Row x ≡ Refused r = told.0 in cc))

  pub engine_rows : HistoriesExtendTheOrder g → (result : Result (Option (List ℕ)) Refusal) → Moves (facts_of g e) (Read key at) (row result) (facts_of g new)
      → ((n : Node) → Holds g n e → (m : Node) × Steps n (Read key at) (row result) m × Holds g m new) → IfOk result (IsRowAt g e key at)
  engine_rows laws (Ok x) moves steps = record {
    reaches = row_reaches x moves;
    row = λ L n first c items of starts legal taken. elim (laws.rows L n first e c items of starts legal taken new key at (Row x) steps) [
      | inl refused ↦ absurd (let never : Row x ≡ Refused refused.0 = refused.1 in cc)
      | inr is ↦ cc is
    ];
  }
  engine_rows laws (Err r) moves steps = tt

-- ---- the desk, once its engine was read

module _ {D : Type 0} (g : Ghosts D) (s : Start D) (items : List Judged) (d : Desk D) (here : DeskAt g s 0 items d) (e : Engine D) (still : OnlyAsks d.engine e)
    (stays : (first : Engine D) (c : Holding) (items : List Judged) → HasTaken g first c items d.engine → HasTaken g first c items e) where
  read_as : (given : ℕ) (x : D) (halted : Option Phase) → HasTaken g s.desk.engine s.certifier.current here.front (record d.engine { disk = x; halted = halted }) → (given ≡ 0 → halted ≡ None)
      → DeskAt g s given items (record { engine = record d.engine { disk = x; halted = halted }; publisher = d.publisher; waiting = d.waiting })
  read_as given x halted taken works = record {
    front = here.front;
    begins = here.begins;
    taken = taken;
    publisher = here.publisher;
    works = works;
    ahead = here.ahead;
    fronts = here.fronts;
    shown = λ _. let h = here.shown refl in record { shown_or_waits = h.shown_or_waits; durable = h.durable; oldest = h.oldest };
  }

  pub desk_read : (given : ℕ) → (given ≡ 0 → e.halted ≡ None) → DeskAt g s given items (record { engine = e; publisher = d.publisher; waiting = d.waiting })
  desk_read given works =
      subst (λ (x : Engine D). DeskAt g s given items (record { engine = x; publisher = d.publisher; waiting = d.waiting })) (sym still)
      (read_as given e.disk e.halted (subst (HasTaken g s.desk.engine s.certifier.current here.front) still (stays s.desk.engine s.certifier.current here.front here.taken)) works)

-- the seat is at it still
pub at_read : {D : Type 0} (g : Ghosts D) (v u : View (Home D) Judged) (d : Desk D) (e : Engine D) → AtDesk g 0 v u d → OnlyAsks d.engine e
    → ((first : Engine D) (c : Holding) (items : List Judged) → HasTaken g first c items d.engine → HasTaken g first c items e) → (given : ℕ) → (given ≡ 0 → e.halted ≡ None)
    → AtDesk g given v u (record { engine = e; publisher = d.publisher; waiting = d.waiting })
at_read g v u d e a still stays given works =
    let log : durable_of e.log ≡ durable_of d.engine.log = ap (λ (z : Engine _). durable_of z.log) still in
    let common : durable_of e.log + length e.block ≡ durable_of d.engine.log + length d.engine.block = ap (λ (z : Engine _). durable_of z.log + length z.block) still in
    desk_moved g 0 v u d a given (record { engine = e; publisher = d.publisher; waiting = d.waiting }) (omega (arith, log)) common (λ s first. desk_read g s u.seen d (a.desk s first) e still stays given works)

-- ---- what a seat says that asked it

module _ {D : Type 0} (g : Ghosts D) (v t : View (Home D) Judged) (d : Desk D) (here : (s : Start D) → v.first ≡ values_of s → DeskAt g s 0 t.seen d)
    (legal : (s : Start D) → v.first ≡ values_of s → Legal s.certifier.current t.seen) (key : Key) (at : ℕ) where
  pub row_asked : HistoriesGoOn → (x : Option (List ℕ)) → IsRowAt g d.engine key at x → (s : Start D) → v.first ≡ values_of s → (r : Watching Origin) → IsRowOf g s t r key at x
  row_asked laws x told s is r =
      let desk = here s is in
      let front : Legal s.certifier.current desk.front = laws.legal_front s.certifier.current desk.front desk.begins.0 (subst (Legal s.certifier.current) desk.begins.1 (legal s is)) in record {
        items = desk.front;
        legal = front;
        known = inr desk.begins;
        reaches = let count = desk.taken.count in let low = told.reaches in omega (arith, count, low);
        row = λ L n of starts. told.row L n s.desk.engine s.certifier.current desk.front of starts front desk.taken;
      }

  outside_not : (start : Start D) → v.first ≡ values_of start → has_row start.certifier.current.setting.rows key ≡ true → has_row d.engine.checkpoint.base.params.rows key ≡ false → ⊥
  outside_not start first inside outside = let desk = here start first in let both : true ≡ false = sym inside ∙ (sym (ap (λ (p : Setting). has_row p.rows key) desk.taken.setting) ∙ outside) in absurd cc

  refuses_asked : (start : Start D) → v.first ≡ values_of start → has_row start.certifier.current.setting.rows key ≡ true → t.durable ≤ durable_of d.engine.log → (e : Refusal) → (e ≡ DiskFault → t.halted ≡ 1) → EngineRefuses g d.engine key at e → RefusesAsked g v t key at e
  refuses_asked start first inside known BadKey fault h = outside_not start first inside h
  refuses_asked start first inside known (NotYet durable) fault h = (h.1, let is = h.0 in omega (arith, is, known))
  refuses_asked start first inside known (TooOld oldest) fault h = h
  refuses_asked start first inside known Stopped fault h = absurd h
  refuses_asked start first inside known DiskFault fault h = fault refl
  refuses_asked start first inside known (Corrupt part) fault h = (h.0, λ s is n starts. let stands = (here s is).taken.stands n starts in h.1 stands.0 stands.2)
  refuses_asked start first inside known e fault h = h

  pub rows_asked : HistoriesGoOn → (result : Result (Option (List ℕ)) Refusal) → IfOk result (IsRowAt g d.engine key at) → IfOk result (λ x. (s : Start D) → v.first ≡ values_of s → (r : Watching Origin) → IsRowOf g s t r key at x)
  rows_asked laws (Ok x) told = row_asked laws x told
  rows_asked laws (Err e) told = tt

  pub refusals_asked : (start : Start D) → v.first ≡ values_of start → has_row start.certifier.current.setting.rows key ≡ true → t.durable ≤ durable_of d.engine.log → (result : Result (Option (List ℕ)) Refusal) → (result ≡ Err DiskFault → t.halted ≡ 1) → IfErr result (EngineRefuses g d.engine key at)
      → IfErr result (RefusesAsked g v t key at)
  refusals_asked start first inside known (Ok x) fault h = tt
  refusals_asked start first inside known (Err e) fault h = refuses_asked start first inside known e (λ is. fault (ap (λ z. Err z) is)) h
