-- Reads of rows.
use Rattle.std.proofs.Common.{◌≡◌, ◌≢◌, ◌⊎◌, inl, inr, ℕ, ◌+◌, ◌-◌, ◌≤◌, Bool, true, false, List, [], length, map, Option, None, Some, Result, Ok, Err, refl, sym, ap, subst, ◌∙◌, arith, IfOk, IfErr}
use Rattle.std.proofs.lemmas.Bool.Decides.{nat_tests}
use Rattle.std.specs.Prelude.{is_some, if◌then◌else◌, not, nat_lt}
use Rattle.rep_types.specs.declared.key.Key.{Key}
use Rattle.rep_types.specs.declared.refusal.Refusal.{Refusal}
use Rattle.rep_types.specs.declared.refusal.Refusal.TheVariants.{DiskFault, Corrupt, BadKey, NotYet, TooOld}
use Rattle.rep_types.specs.declared.refusal.Part.TheVariants.{Pages}
use Rattle.rep_types.specs.declared.verdict.Verdict.TheVariants.{Commit}
use Rattle.rep_types.specs.Settings.{Setting, has_row, IsRow}
use Rattle.rep_disk.specs.declared.disk.Disk.{Ghosts}
use Rattle.rep_disk.specs.Calls.{Rises}
use Rattle.rep_disk.specs.History.{History, seen, stable, IsImage}
use Rattle.rep_disk.specs.Devices.{Calls}
use Rattle.rep_layout.specs.declared.rows.RowPlace.{RowPlace}
use Rattle.rep_layout.specs.Rows.{row_place}
use Rattle.rep_layout.specs.declared.place.Layout.{Layout}
use Rattle.rep_layout.specs.declared.place.Place.TheVariants.{Page}
use Rattle.rep_layout.specs.declared.super_body.SuperBody.{SuperBody}
use Rattle.rep_layout.specs.Places.{layout_of}
use Rattle.rep_layout.specs.Supers.{IsSuper}
use Rattle.rep_cells.specs.Readings.{reading_of}
use Rattle.rep_cells.specs.States.{States, Stable}
use Rattle.rep_cells.specs.Known.{Assigns}
use Rattle.rep_pages.specs.declared.page.Page.{Page as PageBody}
use Rattle.rep_pages.specs.Rows.{row_at}
use Rattle.rep_pool.specs.BasePages.{IsPageAsSpelled, row_of_page, IsRowOfPage}
use Rattle.rep_versions.specs.declared.versions.At.{At}
use Rattle.rep_versions.specs.Versions.{Kept, IsAnswer, IsRowAt, told}
use Rattle.rep_versions.specs.Following.{AreVersionsOf, VersionsFollowTheItems, effect_of}
use Rattle.rep_log.specs.Moves.{fault_of}
use Rattle.rep_steps.specs.declared.event.Event.TheVariants.{Read}
use Rattle.rep_steps.specs.declared.answer.Answer.TheVariants.{Row, Refused}
use Rattle.rep_steps.specs.Standings.{Standing, read_refusal}
use Rattle.rep_steps.specs.Moves.{Moves}
use Rattle.rep_steps.specs.Nodes.{Node, Steps, NodesStayNodes, state_at}
use Rattle.rep_steps.specs.Images.{AreJudgedFrom}
use Rattle.rep_checkpoint.specs.Bases.{HaveContent}
use Rattle.rep_checkpoint.specs.Nodes.{VersionsLeadToTheState}
use Rattle.rep_checkpoint.specs.Laws.{StableBasesAreRead}
use Rattle.rep_engine.specs.Engines.{Engine, facts_of}
use Rattle.rep_engine.specs.Holding.{Stands, Holds, row}
use Rattle.rep_engine.specs.Reading.{ReadsRow, halted_by}
use Rattle.rep_engine.proofs.Steps.{done_moves, fault_moves, corrupt_moves, done_steps, fault_steps, halted_at, halted_node}
use Rattle.rep_engine.proofs.Asking.{facts_asked, holds_asked}
use Rattle.rep_engine.proofs.Logs.{rises_by}
use Rattle.rep_engine.proofs.Standing.{same_front}
use Rattle.rep_engine.proofs.Spelled.{row_inside}

-- ---- a page of the base

-- where the row lies
pub place_of : {schema : List ℕ} {found : Option RowPlace} (rows : List ℕ) (key : Key) (place : RowPlace) → schema ≡ rows → found ≡ (if has_row schema key then Some (row_place schema key) else None) → found ≡ Some place → IsRow rows key × (place ≡ row_place rows key)
place_of rows key place same found is = by (has_row rows key) refl (subst (λ (schema : List ℕ). (if has_row schema key then Some (row_place schema key) else None) ≡ Some place) same (sym found ∙ is))
  where
    by : (b : Bool) → has_row rows key ≡ b → (if b then Some (row_place rows key) else None) ≡ Some place → IsRow rows key × (place ≡ row_place rows key)
    by true has e = (grind (arith, nat_tests), cc)
    by false has e = absurd cc

-- what is read of a base that stands
pub row_of_base :
    StableBasesAreRead → (l : Layout) (h : History) (b : SuperBody) (s : States) (content : Key → Option (List ℕ)) (key : Key) (place : RowPlace) (result : Result (Option (List ℕ)) Refusal)
    → IsSuper b → l ≡ layout_of b.params → Assigns l h s → HaveContent b (λ number slot body. s (Page number slot) ≡ Stable body) content → IsRow b.params.rows key → place ≡ row_place b.params.rows key → IsRowOfPage (reading_of l (seen h)) b place.page place.index result
    → IfOk result (λ value. value ≡ content key) × (result ≢ Err (Corrupt Pages))
row_of_base stable l h b s content key place result super here assigns have inside at row = by row.page row.spelled row.row
  where
    by : (page : Result PageBody Refusal) → IsPageAsSpelled (reading_of l (seen h)) b place.page page → result ≡ row_of_page place.index page → IfOk result (λ value. value ≡ content key) × (result ≢ Err (Corrupt Pages))
    by (Ok page) spelled is =
        let rows = stable.rows l h b s content place.page page super here assigns have spelled.page in
        let value : row_at page.rows place.index ≡ content key = ap (λ (p : RowPlace). row_at page.rows p.index) at ∙ sym (rows key inside (sym (ap (λ (p : RowPlace). p.page) at))) in
        subst (λ (r : Result (Option (List ℕ)) Refusal). IfOk r (λ row. row ≡ content key) × (r ≢ Err (Corrupt Pages))) (sym is) (value, λ e. absurd cc)
    by (Err e) spelled is =
        subst (λ (r : Result (Option (List ℕ)) Refusal). IfOk r (λ row. row ≡ content key) × (r ≢ Err (Corrupt Pages))) (sym is) (tt, λ f. stable.whole l h b s content place.page super here assigns have (spelled.corrupt (as_page f)))
      where
        as_page : ◌≡◌ {A = Result (Option (List ℕ)) Refusal} (Err e) (Err (Corrupt Pages)) → ◌≡◌ {A = Result PageBody Refusal} (Err e) (Err (Corrupt Pages))
        as_page f = cc

-- ---- what the items made of a row

-- the row at a position from the base on
pub row_is : VersionsFollowTheItems → VersionsLeadToTheState → (n : Node) (kept : Kept) (key : Key) (at : ℕ) (answer : At) → n.base.position ≤ at → AreJudgedFrom n.facts.setting n.base n.items
    → ((other : Key) → (IsRow n.facts.setting.rows other → ⊥) → n.base.content other ≡ None) → IsRow n.facts.setting.rows key → AreVersionsOf n.base.position (map effect_of n.items) kept → IsAnswer kept key at answer
    → told answer (n.base.content key) ≡ (state_at n at).content key
row_is law lead n kept key at answer le judged outside inside versions is =
    let row : Option (List ℕ) = told answer (n.base.content key) in
    let here : IsRowAt kept key (n.base.position + (at - n.base.position)) (n.base.content key) row = subst (λ i. IsRowAt kept key i (n.base.content key) row) (omega (arith, le)) (law.answers kept key at answer (n.base.content key) is) in
    (lead n kept (at - n.base.position) judged outside versions).rows.row key row inside here

-- ---- a read that isn't refused

-- it lies at the base or behind it
at_base : (base durable at : ℕ) (row late early : Bool) → (if not row then Some BadKey else if late then Some (NotYet durable) else if early then Some (TooOld base) else None) ≡ None → early ≡ false
at_base base durable at false late early e = absurd cc
at_base base durable at true true early e = absurd cc
at_base base durable at true false true e = absurd cc
at_base base durable at true false false e = refl

pub not_early : (s : Standing) (key : Key) (at : ℕ) → read_refusal s key at ≡ None → s.base ≤ at
not_early s key at none =
    let early : nat_lt at s.base ≡ false = at_base s.base s.durable at (has_row s.setting.rows key) (nat_lt s.durable at) (nat_lt at s.base) none in
    grind (arith, nat_tests)

module _ {D : Type 0} (g : Ghosts D) (sized : (disk : D) → g.honest disk → length (stable (g.history disk)) ≡ g.size disk)
    (old : Engine D) (key : Key) (at : ℕ) (runs : old.halted ≡ None) (none : read_refusal (facts_of g old) key at ≡ None) where
  -- on any device
  pub row_moves : (value : Option (List ℕ)) (new : Engine D) → facts_of g new ≡ facts_of g old → Moves (facts_of g old) (Read key at) (Row value) (facts_of g new)
  row_moves value new same = done_moves (facts_of g old) (Read key at) (record { verdict = Commit; stale = false; left = []; row = value }) (facts_of g new) (ap is_some runs) none same

  facts_halt : (disk : D) → facts_of g (record old { disk = disk; halted = Some old.log.phase }) ≡ halted_at (g.failures disk) (facts_of g old)
  facts_halt disk = rw runs refl

  base_moves : (result : Result (Option (List ℕ)) Refusal) (disk : D) → Calls g old.disk disk (fault_of result) → IfErr result (λ e. (e ≡ DiskFault) ⊎ (e ≡ Corrupt Pages))
      → Moves (facts_of g old) (Read key at) (row result) (facts_of g (record old { disk = disk; halted = halted_by old.log.phase result }))
  base_moves (Ok value) disk call refused = row_moves value (record old { disk = disk; halted = None }) (facts_asked g old runs disk (call.no_cause refl))
  base_moves (Err e) disk call (inl fault) =
      let rises : Rises (g.failures old.disk) (g.failures disk) = rises_by (Option (List ℕ)) g e fault call in
      subst (λ (f : Refusal). Moves (facts_of g old) (Read key at) (Refused f) (facts_of g (record old { disk = disk; halted = halted_by {T = Option (List ℕ)} old.log.phase (Err f) }))) (sym fault)
      (fault_moves (facts_of g old) (Read key at) _ (ap is_some runs) none refl rises (facts_halt disk))
  base_moves (Err e) disk call (inr corrupt) =
      let same : g.failures disk ≡ g.failures old.disk = (subst (λ (f : Refusal). Calls g old.disk disk (fault_of {T = Option (List ℕ)} (Err f))) corrupt call).no_cause refl in
      subst (λ (f : Refusal). Moves (facts_of g old) (Read key at) (Refused f) (facts_of g (record old { disk = disk; halted = halted_by {T = Option (List ℕ)} old.log.phase (Err f) }))) (sym corrupt)
      (corrupt_moves (facts_of g old) (Read key at) _ (ap is_some runs) none refl (facts_asked g old runs disk same))

  pub reads_moves : (result : Result (Option (List ℕ)) Refusal) (new : Engine D) → ReadsRow g key old new result → Moves (facts_of g old) (Read key at) (row result) (facts_of g new)
  reads_moves result new h = subst (λ e. Moves (facts_of g old) (Read key at) (row result) (facts_of g e)) (sym h.after) (base_moves result new.disk h.call h.refused)

  -- of a node
  module _ (law : VersionsFollowTheItems) (lead : VersionsLeadToTheState) (n : Node) (holds : Holds g n old) where
    there : Stands g n old
    there = holds.runs runs

    runs_on : n.facts.stopped ≡ false
    runs_on = ap (λ (s : Standing). s.stopped) holds.facts ∙ ap is_some runs

    none_here : read_refusal n.facts key at ≡ None
    none_here = ap (λ (s : Standing). read_refusal s key at) holds.facts ∙ none

    behind : n.base.position ≤ at
    behind = omega (arith, not_early n.facts key at none_here, holds.node.position)

    -- what is no row of the schema is absent at the base
    outside : (other : Key) → (IsRow n.facts.setting.rows other → ⊥) → n.base.content other ≡ None
    outside other out = there.stands.checkpoint.base.content.outside other (λ inside. out (subst (λ (p : Setting). IsRow p.rows other) (sym there.stands.setting) inside))

    -- the row is the node's
    pub row_steps : (answer : At) (value : Option (List ℕ)) → IsAnswer old.kept key at answer → value ≡ told answer (n.base.content key) → Steps n (Read key at) (Row value) n
    row_steps answer value is value_is =
        subst (λ v. Steps n (Read key at) (Row v) n) (sym (value_is ∙ row_is law lead n old.kept key at answer behind there.stands.judged outside (row_inside n.facts key at none_here) there.versions is))
        (done_steps n (Read key at) runs_on none_here)

    -- the engine whose device failed
    halted_then : NodesStayNodes → (disk : D) → g.honest disk → Rises (g.failures old.disk) (g.failures disk) → g.history disk ≡ g.history old.disk
        → Steps n (Read key at) (Refused DiskFault) (halted_node (g.failures disk) n) × Holds g (halted_node (g.failures disk) n) (record old { disk = disk; halted = Some old.log.phase })
    halted_then nodes disk is_honest rises past =
        let steps = fault_steps n (Read key at) (g.failures disk) runs_on none_here refl (subst (λ k. Rises k (g.failures disk)) (sym (ap (λ (s : Standing). s.failures) holds.facts)) rises) in (
          steps,
          record {
            is_honest = is_honest;
            facts = ap (halted_at (g.failures disk)) holds.facts ∙ sym (facts_halt disk);
            node = nodes n (halted_node (g.failures disk) n) (Read key at) (Refused DiskFault) holds.node steps;
            runs = λ on. let never : Some old.log.phase ≡ None = on in absurd cc;
            images = λ image here. same_front n (halted_node (g.failures disk) n) image refl refl refl refl refl (holds.images image (subst (λ h. IsImage h image) past here));
          },
        )

    base_steps : NodesStayNodes → (answer : At) → IsAnswer old.kept key at answer → told answer (n.base.content key) ≡ n.base.content key → (result : Result (Option (List ℕ)) Refusal) (disk : D)
        → Calls g old.disk disk (fault_of result) → g.history disk ≡ g.history old.disk → IfErr result (λ e. (e ≡ DiskFault) ⊎ (e ≡ Corrupt Pages))
        → IfOk result (λ value. value ≡ n.base.content key) × (result ≡ Err (Corrupt Pages) → ⊥)
        → (m : Node) × Steps n (Read key at) (row result) m × Holds g m (record old { disk = disk; halted = halted_by old.log.phase result })
    base_steps nodes answer is below (Ok value) disk call past refused read =
        (n, row_steps answer value is (read.0 ∙ sym below), holds_asked g old runs disk (call.no_cause refl) n holds (call.stays_honest holds.is_honest) past)
    base_steps nodes answer is below (Err e) disk call past (inl fault) read =
        let rises : Rises (g.failures old.disk) (g.failures disk) = rises_by (Option (List ℕ)) g e fault call in
        let stops = halted_then nodes disk (call.stays_honest holds.is_honest) rises past in (
          halted_node (g.failures disk) n,
          subst (λ (f : Refusal). Steps n (Read key at) (Refused f) (halted_node (g.failures disk) n)) (sym fault) stops.0,
          subst (λ (f : Refusal). Holds g (halted_node (g.failures disk) n) (record old { disk = disk; halted = halted_by {T = Option (List ℕ)} old.log.phase (Err f) })) (sym fault) stops.1,
        )
    base_steps nodes answer is below (Err e) disk call past (inr corrupt) read = absurd (read.1 (ap Err corrupt))

    pub reads_steps : NodesStayNodes → (answer : At) → IsAnswer old.kept key at answer → told answer (n.base.content key) ≡ n.base.content key → (result : Result (Option (List ℕ)) Refusal) (new : Engine D)
        → ReadsRow g key old new result → (m : Node) × Steps n (Read key at) (row result) m × Holds g m new
    reads_steps nodes answer is below result new h =
        subst (λ e. (m : Node) × Steps n (Read key at) (row result) m × Holds g m e) (sym h.after)
        (base_steps nodes answer is below result new.disk h.call (h.same holds.is_honest) h.refused (h.read holds.is_honest there.states n.base.content there.assigns there.stands.checkpoint.base.content))
