use Rattle.rep_layout.specs.Places.{layout_of, need_of}
use Rattle.rep_script.proofs.Formatting.{untold, told_call}
use Rattle.rep_script.proofs.format.format_text.Goals as goal

pub returns-clause-untold : goal.returns-clause-untold
returns-clause-untold g c honest is =
    untold c.format_disk-disk.result.1 c.write_formatted-outcome.result _ (g.D.Disk.size c.args.disk) (need_of (layout_of c.args.params.now))
    (c.format_disk-disk.ensures.formatted honest) (λ less. (c.format_disk-disk.ensures.small less).0) c.format_disk-disk.ensures.fault c.write_formatted-outcome.ensures.refused is

pub returns-clause-call : goal.returns-clause-call
returns-clause-call g c =
    told_call g.D.Disk c.args.disk c.format_disk-disk.result.0 c.format_disk-disk.result.1 c.write_formatted-outcome.result c.write_formatted-outcome.ensures.refused c.format_disk-disk.ensures.call
