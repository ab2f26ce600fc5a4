use Rattle.std.proofs.Common.{◌∙◌, None, Some, refl, sym, ap, subst, inr, rules}
use Rattle.rep_types.specs.declared.refusal.Refusal.TheVariants.{Stopped}
use Rattle.rep_layout.specs.declared.place.Place.TheVariants.{Page}
use Rattle.rep_layout.specs.Rows.{row_place}
use Rattle.rep_versions.specs.declared.versions.At.{At}
use Rattle.rep_versions.specs.Versions.{IsAnswer, told}
use Rattle.rep_engine.specs.Engines.{facts_of}
use Rattle.rep_engine.proofs.Refusing.{passed_on, fault_stops, refused_after}
use Rattle.rep_engine.proofs.Spelled.{read_newest, read_below, read_refused, found_above, refused_elsewise, row_inside}
use Rattle.rep_engine.proofs.Reading.{row_moves, row_steps, reads_moves, reads_steps}
use Rattle.rep_engine.proofs.Asking.{none_asked}
use Rattle.rep_engine.proofs.Steps.{stopped_moves, stopped_steps}
use Rattle.rep_steps.specs.Standings.{Standing}
use Rattle.rep_steps.specs.declared.event.Event.TheVariants.{Read}
use Rattle.rep_engine.proofs.engine.Engine.read.Goals as goal

pub returns-in-Found-clause-moves : goal.returns-in-Found-clause-moves
returns-in-Found-clause-moves g c =
    let runs = c.in_ok-running.ensures.runs in
    row_moves g.D.Disk g.met.D.Disk.sized c.args.self.now c.args.key c.args.s runs (sym c.read_refusal.ensures ∙ c.in_default.is) (Some c.copied.result) c.args.self.now refl

pub returns-in-Found-clause-steps : goal.returns-in-Found-clause-steps
returns-in-Found-clause-steps g c = λ n holds.
    let runs = c.in_ok-running.ensures.runs in
    let steps = row_steps g.D.Disk g.met.D.Disk.sized c.args.self.now c.args.key c.args.s runs (sym c.read_refusal.ensures ∙ c.in_default.is) c.versions_follow_the_items.ensures c.versions_lead_to_the_state.ensures n holds
    c.version_of.result (Some c.copied.result) c.version_of.ensures (ap Some c.copied.ensures.same ∙ sym (ap (λ (a : At). told a (n.base.content c.args.key)) c.in-Found.is)) in
    (n, steps, holds)

pub returns-in-Deleted-clause-moves : goal.returns-in-Deleted-clause-moves
returns-in-Deleted-clause-moves g c =
    let runs = c.in_ok-running.ensures.runs in
    row_moves g.D.Disk g.met.D.Disk.sized c.args.self.now c.args.key c.args.s runs (sym c.read_refusal.ensures ∙ c.in_default.is) None c.args.self.now refl

pub returns-in-Deleted-clause-steps : goal.returns-in-Deleted-clause-steps
returns-in-Deleted-clause-steps g c = λ n holds.
    let runs = c.in_ok-running.ensures.runs in
    let steps = row_steps g.D.Disk g.met.D.Disk.sized c.args.self.now c.args.key c.args.s runs (sym c.read_refusal.ensures ∙ c.in_default.is) c.versions_follow_the_items.ensures c.versions_lead_to_the_state.ensures n holds
    c.version_of.result None c.version_of.ensures (sym (ap (λ (a : At). told a (n.base.content c.args.key)) c.in-Deleted.is)) in
    (n, steps, holds)

pub returns-in-Below-clause-moves : goal.returns-in-Below-clause-moves
returns-in-Below-clause-moves g c =
    let runs = c.in_ok-running.ensures.runs in
    let read = c.read_base.ensures.read in
    reads_moves g.D.Disk g.met.D.Disk.sized c.args.self.now c.args.key c.args.s runs (sym c.read_refusal.ensures ∙ c.in_default.is) c.read_base.result c.read_base.new.self read

pub returns-in-Below-clause-steps : goal.returns-in-Below-clause-steps
returns-in-Below-clause-steps g c = λ n holds.
    let runs = c.in_ok-running.ensures.runs in
    let read = c.read_base.ensures.read in
    reads_steps g.D.Disk g.met.D.Disk.sized c.args.self.now c.args.key c.args.s runs (sym c.read_refusal.ensures ∙ c.in_default.is) c.versions_follow_the_items.ensures c.versions_lead_to_the_state.ensures n holds
    c.nodes_stay_nodes.ensures c.version_of.result c.version_of.ensures (ap (λ (a : At). told a (n.base.content c.args.key)) c.in-Below.is) c.read_base.result c.read_base.new.self read

-- ---- what the bytes say

pub returns-in-Some-clause-spelled : goal.returns-in-Some-clause-spelled
returns-in-Some-clause-spelled g c = λ honest.
    read_refused _ c.args.self.now.checkpoint.base c.args.self.now.kept c.args.key c.args.s c.in-Some.refusal
    (refused_elsewise (facts_of g.D.Disk c.args.self.now) c.args.key c.args.s c.in-Some.refusal (sym c.read_refusal.ensures ∙ c.in-Some.is))

pub returns-in-Found-clause-spelled : goal.returns-in-Found-clause-spelled
returns-in-Found-clause-spelled g c = λ honest.
    let is : IsAnswer c.args.self.now.kept c.args.key c.args.s c.version_of.result = c.version_of.ensures in
    let found = subst (IsAnswer c.args.self.now.kept c.args.key c.args.s) c.in-Found.is is in
    read_newest c.versions_follow_the_items.ensures _ c.args.self.now.checkpoint.base c.args.self.now.kept c.args.key c.args.s c.version_of.result (Some c.copied.result) is
    (λ below. ap (λ (a : At). told a below) c.in-Found.is ∙ sym (ap Some c.copied.ensures.same))
    (found_above c.args.self.now.kept c.args.key c.args.s found.0 _ found.1)

pub returns-in-Deleted-clause-spelled : goal.returns-in-Deleted-clause-spelled
returns-in-Deleted-clause-spelled g c = λ honest.
    let is : IsAnswer c.args.self.now.kept c.args.key c.args.s c.version_of.result = c.version_of.ensures in
    let found = subst (IsAnswer c.args.self.now.kept c.args.key c.args.s) c.in-Deleted.is is in
    read_newest c.versions_follow_the_items.ensures _ c.args.self.now.checkpoint.base c.args.self.now.kept c.args.key c.args.s c.version_of.result None is
    (λ below. ap (λ (a : At). told a below) c.in-Deleted.is)
    (found_above c.args.self.now.kept c.args.key c.args.s found.0 None found.1)

pub returns-in-Below-clause-spelled : goal.returns-in-Below-clause-spelled
returns-in-Below-clause-spelled g c = λ honest.
    let none = subst (IsAnswer c.args.self.now.kept c.args.key c.args.s) c.in-Below.is c.version_of.ensures in
    let inside = row_inside (facts_of g.D.Disk c.args.self.now) c.args.key c.args.s (sym c.read_refusal.ensures ∙ c.in_default.is) in
    read_below c.the_bytes_tell_the_page.ensures _ c.args.self.now.checkpoint.base c.args.self.now.kept c.args.key c.args.s c.read_base.result inside none (c.read_base.ensures.read.spelled honest (λ slot there. c.in_ok-running.ensures.readable honest (Page (row_place c.args.self.now.checkpoint.base.params.rows c.args.key).page slot)))

-- ---- what a refusal leaves

pub returns-in-Below-clause-unchanged : goal.returns-in-Below-clause-unchanged
returns-in-Below-clause-unchanged g c =
    let runs = c.in_ok-running.ensures.runs in
    refused_after c.args.self.now c.read_base.new.self c.read_base.result runs c.read_base.ensures.read.after c.read_base.ensures.read.refused

pub returns-in-Below-clause-fault : goal.returns-in-Below-clause-fault
returns-in-Below-clause-fault g c = fault_stops c.args.self.now c.read_base.new.self c.read_base.result c.read_base.ensures.read.after

-- ---- where the device has failed before

pub returns-in_err-running : goal.returns-in_err-running
returns-in_err-running g c =
    rw (passed_on c.from_residual.result c.in_err-running.field-0.0 c.from_residual.ensures.1 c.in_err-running.ensures.stopped.0) (record {
      call = none_asked g.D.Disk c.args.self.now.disk;
      rest = refl;
      moves = stopped_moves (facts_of g.D.Disk c.args.self.now) (Read c.args.key c.args.s) c.in_err-running.ensures.stopped.1;
      steps = λ n holds. (n, stopped_steps n (Read c.args.key c.args.s) (ap (λ (s : Standing). s.stopped) holds.facts ∙ c.in_err-running.ensures.stopped.1), holds);
      same = λ honest. refl;
      spelled = λ honest. read_refused _ c.args.self.now.checkpoint.base c.args.self.now.kept c.args.key c.args.s Stopped (λ e. absurd cc);
      unchanged = inr (inr refl);
      fault = λ e. absurd cc;
    })

pub nodes_stay_nodes-requires : goal.nodes_stay_nodes-requires
nodes_stay_nodes-requires g c = search

pub versions_follow_the_items-requires : goal.versions_follow_the_items-requires
versions_follow_the_items-requires g c = search

pub versions_lead_to_the_state-requires : goal.versions_lead_to_the_state-requires
versions_lead_to_the_state-requires g c = search

pub the_bytes_tell_the_page-requires : goal.the_bytes_tell_the_page-requires
the_bytes_tell_the_page-requires g c = search

pub returns-in-Some-clause-rest : goal.returns-in-Some-clause-rest
returns-in-Some-clause-rest g c = search

pub returns-in-Some-clause-same : goal.returns-in-Some-clause-same
returns-in-Some-clause-same g c = search

pub copied-requires : goal.copied-requires
copied-requires g c = search

pub returns-in-Found-clause-rest : goal.returns-in-Found-clause-rest
returns-in-Found-clause-rest g c = search

pub returns-in-Found-clause-same : goal.returns-in-Found-clause-same
returns-in-Found-clause-same g c = search

pub returns-in-Found-clause-unchanged : goal.returns-in-Found-clause-unchanged
returns-in-Found-clause-unchanged g c = search

pub returns-in-Found-clause-fault : goal.returns-in-Found-clause-fault
returns-in-Found-clause-fault g c = search

pub returns-in-Deleted-clause-rest : goal.returns-in-Deleted-clause-rest
returns-in-Deleted-clause-rest g c = search

pub returns-in-Deleted-clause-same : goal.returns-in-Deleted-clause-same
returns-in-Deleted-clause-same g c = search

pub returns-in-Deleted-clause-unchanged : goal.returns-in-Deleted-clause-unchanged
returns-in-Deleted-clause-unchanged g c = search

pub returns-in-Deleted-clause-fault : goal.returns-in-Deleted-clause-fault
returns-in-Deleted-clause-fault g c = search

pub returns-in-Below-clause-call : goal.returns-in-Below-clause-call
returns-in-Below-clause-call g c = search

pub returns-in-Below-clause-same : goal.returns-in-Below-clause-same
returns-in-Below-clause-same g c = search

pub returns-in-Some-clause-call : goal.returns-in-Some-clause-call
returns-in-Some-clause-call g c = search rules

pub returns-in-Some-clause-moves : goal.returns-in-Some-clause-moves
returns-in-Some-clause-moves g c = search rules

pub returns-in-Some-clause-steps : goal.returns-in-Some-clause-steps
returns-in-Some-clause-steps g c = search rules

pub returns-in-Some-clause-unchanged : goal.returns-in-Some-clause-unchanged
returns-in-Some-clause-unchanged g c = search rules

pub returns-in-Some-clause-fault : goal.returns-in-Some-clause-fault
returns-in-Some-clause-fault g c = search rules

pub read_base-requires : goal.read_base-requires
read_base-requires g c = search rules

pub returns-in-Found-clause-call : goal.returns-in-Found-clause-call
returns-in-Found-clause-call g c = search rules

pub returns-in-Deleted-clause-call : goal.returns-in-Deleted-clause-call
returns-in-Deleted-clause-call g c = search rules

pub returns-in-Below-clause-rest : goal.returns-in-Below-clause-rest
returns-in-Below-clause-rest g c = search rules
