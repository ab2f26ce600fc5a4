use Rattle.std.proofs.Common.{◌≡◌, refl, sym, ap, subst, ◌∙◌, rules}
use Rattle.std.specs.Prelude.{IsOk}
use Rattle.rep_layout.specs.declared.place.Layout.{Layout}
use Rattle.rep_cells.specs.Device.{disk_of, layout_of}
use Rattle.rep_log.specs.declared.phase.Phase.TheVariants.{Resting}
use Rattle.rep_log.specs.Standing.{Standing as Log}
use Rattle.rep_engine.specs.Engines.{Engine, IsEngine}
use Rattle.rep_engine.proofs.Installing.{ok_fault, rests}
use Rattle.rep_engine.proofs.Pools.{pooled_as, pooled_synced}
use Rattle.rep_engine.proofs.engine.Engine.install_sync.Goals as goal

pub invariant_of-self-2 : goal.invariant_of-self-2
invariant_of-self-2 g c =
    let old = c.self.inside.checkpoint.base in
    let resting : c.self.inside.log.phase ≡ Resting = ap (λ (e : Engine g.row.D.Denot). e.log.phase) c.self.view_is ∙ c.requires.resting in
    let same : c.synced.new.self ≡ c.self.inside.log = c.synced.ensures.after ∙ sym (rests c.self.inside.log resting) in
    let ok : IsOk c.sync.result = subst IsOk c.refusal_of-outcome.ensures.fault (ok_fault c.refusal_of-outcome.result c.if-is_err.ensures.negation) in (
      subst (λ (k : Log). IsEngine (layout_of c.sync.new.self) c.self.inside.checkpoint k c.self.inside.versions c.self.inside.block) (sym same)
          (subst (λ (l : Layout). IsEngine l c.self.inside.checkpoint c.self.inside.log c.self.inside.versions c.self.inside.block) (sym c.sync.ensures.layout) c.self.invariant.0),
      c.self.invariant.1,
      λ on. pooled_as g.D.Disk (layout_of c.self.inside.cells) (layout_of c.sync.new.self) old old (disk_of c.sync.new.self) c.self.inside.pool c.sync.ensures.layout refl
          (pooled_synced c.pools_go_on.ensures g.D.Disk old.params.rows (layout_of c.self.inside.cells) (disk_of c.self.inside.cells) (disk_of c.sync.new.self) c.self.inside.pool c.sync.result
          c.sync.ensures.call.was_honest c.sync.ensures.synced ok (c.self.invariant.2 on)),
    )

pub pools_go_on-requires : goal.pools_go_on-requires
pools_go_on-requires g c = search

pub refusal_of-outcome-requires : goal.refusal_of-outcome-requires
refusal_of-outcome-requires g c = search

pub phase-requires : goal.phase-requires
phase-requires g c = search

pub returns-then-is_err-clause-refused : goal.returns-then-is_err-clause-refused
returns-then-is_err-clause-refused g c = search

pub synced-requires : goal.synced-requires
synced-requires g c = search

pub returns-clause-refused : goal.returns-clause-refused
returns-clause-refused g c = search

pub invariant_of-self : goal.invariant_of-self
invariant_of-self g c = search rules

pub returns-then-is_err-clause-call : goal.returns-then-is_err-clause-call
returns-then-is_err-clause-call g c = search rules

pub returns-then-is_err-clause-rest : goal.returns-then-is_err-clause-rest
returns-then-is_err-clause-rest g c = search rules

pub returns-then-is_err-clause-halted : goal.returns-then-is_err-clause-halted
returns-then-is_err-clause-halted g c = search rules

pub returns-then-is_err-clause-settles : goal.returns-then-is_err-clause-settles
returns-then-is_err-clause-settles g c = search rules

pub returns-then-is_err-clause-log : goal.returns-then-is_err-clause-log
returns-then-is_err-clause-log g c = search rules

pub returns-clause-call : goal.returns-clause-call
returns-clause-call g c = search rules

pub returns-clause-rest : goal.returns-clause-rest
returns-clause-rest g c = search rules

pub returns-clause-halted : goal.returns-clause-halted
returns-clause-halted g c = search rules

pub returns-clause-settles : goal.returns-clause-settles
returns-clause-settles g c = search rules

pub returns-clause-log : goal.returns-clause-log
returns-clause-log g c = search rules
