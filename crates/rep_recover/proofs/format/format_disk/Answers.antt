use Rattle.std.proofs.Common.{ℕ, List, [], sym, subst, ◌∙◌}
use Rattle.std.proofs.lemmas.Result.{on_ok_weaker}
use Rattle.rep_types.specs.Settings.{Setting}
use Rattle.rep_layout.specs.declared.place.Layout.{Layout}
use Rattle.rep_cells.specs.Device.{disk_of, layout_of}
use Rattle.rep_cells.specs.States.{Unknown}
use Rattle.rep_recover.specs.Formatting.{uuid_of, ImagesStandFor}
use Rattle.rep_recover.proofs.Going.{on_ok_refused}
use Rattle.rep_recover.proofs.Formatted.{formatted_by}
use Rattle.rep_recover.proofs.format.format_disk.Goals as goal

pub returns-clause-formatted : goal.returns-clause-formatted
returns-clause-formatted g c = λ honest.
    let uuid : List ℕ = uuid_of c.args.uuid in
    let p : Setting = c.args.params.now in
    let l : Layout = layout_of c.in-Ok.cells in
    let there = subst g.D.Disk.honest (sym c.in-Ok.ensures.disk) honest in
    let leads = c.format_cells-answer.ensures.goes.leads there (λ place. Unknown) (c.in-Ok.ensures.unknown there) tt in
    let stands = on_ok_weaker c.format_cells-answer.result (formatted_by uuid p c.first_super_body-superblock.ensures.is_super c.first_window_body-window.ensures.is_window c.images_read_as_allowed.ensures c.images_mean_what_stands.ensures
    l c.as_slice.result.now c.as_slice-2.result.now (g.D.Disk.history (disk_of c.format_cells-answer.new.cells)) (c.in-Ok.ensures.layout ∙ c.new-layout.ensures)
    (c.as_slice.ensures.value ∙ c.first_super_body-superblock.ensures.bytes) (c.as_slice-2.ensures.value ∙ c.first_window_body-window.ensures.bytes)) leads in
    on_ok_refused _ c.refusal_of.result c.format_cells-answer.result c.refusal_of.ensures.fault
    (on_ok_weaker c.format_cells-answer.result (subst (λ d. ImagesStandFor uuid p [] (g.D.Disk.history d)) (sym c.into_disk.ensures)) stands)
