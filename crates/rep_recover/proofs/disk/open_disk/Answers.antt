use Rattle.std.proofs.Common.{ℕ, List, [], sym, ap, subst}
use Rattle.rep_types.specs.declared.judged.Judged.{Judged}
use Rattle.rep_disk.specs.History.{History, failed}
use Rattle.rep_layout.specs.declared.super_body.SuperBody.{SuperBody}
use Rattle.rep_layout.specs.declared.place.Layout.{Layout}
use Rattle.rep_layout.specs.Places.{layout_of as layout_with}
use Rattle.rep_cells.specs.Device.{disk_of, layout_of}
use Rattle.rep_engine.specs.Pools.{Agrees}
use Rattle.rep_cert.specs.Holdings.{Holding, Holdings}
use Rattle.rep_engine.specs.Engines.{Engine}
use Rattle.rep_recover.specs.Opening.{IsOpened}
use Rattle.rep_recover.specs.Starting.{engine_of, IsStart, OpensNode}
use Rattle.rep_recover.proofs.Starting.{is_engine, is_start, opens_node}
use Rattle.rep_recover.proofs.disk.open_disk.Goals as goal

pub start-requires-clause-engine : goal.start-requires-clause-engine
start-requires-clause-engine g c =
    let o = c.in_ok-opened.opened in
    is_engine (g.D.Disk.size c.args.disk) o.superblock (layout_of o.cells) o.log c.in_ok-opened.ensures.opened.0 o.certifier.current o.versions c.in_ok-opened.ensures.opened.1 o.both

-- the opening ends behind its sync, and writes nothing
pub start-requires-clause-pool : goal.start-requires-clause-pool
start-requires-clause-pool g c = λ honest.
    let o = c.in_ok-opened.opened in
    let there = c.in_ok-opened.ensures.opened.2 (c.in_ok-opened.ensures.call.was_honest honest) in
    let h : History = g.D.Disk.history (disk_of o.cells) in
    let rows = o.superblock.params.rows in
    subst (Agrees rows (layout_of o.cells) h) (sym c.in-Ok.ensures.empty)
    (subst (λ (l : Layout). Agrees rows l h []) (sym c.in_ok-opened.ensures.opened.1.layout) (c.pools_go_on.ensures.begins rows (layout_with o.superblock.params) h there.states.fits (ap failed there.synced)))

pub returns-in-Ok-clause-recovers : goal.returns-in-Ok-clause-recovers
returns-in-Ok-clause-recovers g c = λ honest.
    let o = c.in_ok-opened.opened in
    let b : SuperBody = o.superblock in
    let size : ℕ = g.D.Disk.size c.args.disk in
    let old : History = g.D.Disk.history c.args.disk in
    let disk = disk_of o.cells in
    let h : Holding = o.certifier.current in
    let items : List Judged = c.in_ok-opened.ensures.opened.0 in
    let is = c.in_ok-opened.ensures.opened.1 in
    let there = subst (λ (l : Layout). IsOpened size b l o.log items h o.versions) is.layout is in
    let all = opens_node g.D.Disk disk old size b o.both o.log items h o.versions there (c.in_ok-opened.ensures.opened.2 honest) c.the_base_is_found.ensures (c.in_ok-opened.ensures.call.stays_honest honest) c.openings_open_the_order.ensures c.nodes_leave_their_fronts.ensures c.images_read_as_allowed.ensures in
    let laid = subst (λ (l : Layout). OpensNode g.D.Disk old (engine_of disk l b o.both o.log o.versions) h) (sym is.layout) all in
    let made = subst (λ (e : Engine g.row.D.Denot). OpensNode g.D.Disk old e h) (sym c.start.ensures.engine) laid in
    subst (λ (x : Holdings). OpensNode g.D.Disk old c.start.result.0 x.current) (sym c.start.ensures.certifier) made

pub returns-in-Ok-clause-opened : goal.returns-in-Ok-clause-opened
returns-in-Ok-clause-opened g c =
    let o = c.in_ok-opened.opened in
    let size : ℕ = g.D.Disk.size c.args.disk in
    let all = is_start size o.superblock (layout_of o.cells) o.log c.in_ok-opened.ensures.opened.0 o.certifier.current o.versions c.in_ok-opened.ensures.opened.1 (disk_of o.cells) o.both in
    let made = subst (λ (e : Engine g.row.D.Denot). IsStart size e o.certifier.current) (sym c.start.ensures.engine) all in
    subst (λ (x : Holdings). IsStart size c.start.result.0 x.current) (sym c.start.ensures.certifier) made
