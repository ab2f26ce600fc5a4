use Rattle.std.proofs.Common.{Ok, ap, ◌∙◌}
use Rattle.rep_transfer.specs.Haves.{IsHeader, header_bytes}
use Rattle.rep_transfer.specs.PieceLaws.{header_size}
use Rattle.rep_catchup.proofs.JoinTaking.{counts_of, found_fits}
use Rattle.rep_catchup.proofs.joining.take_header.Goals as goal

pub returns-clause-counted : goal.returns-clause-counted
returns-clause-counted g c =
    let is = c.in_ok-header.was ∙ ap Ok c.in-Some.is in
    let fits = found_fits IsHeader c.in-Some.header c.next.result is c.next.ensures.fits in
    counts_of header_bytes c.args.transfer.now c.next.new.self 59 c.in-Some.header c.next.result is (header_size c.in-Some.header fits) c.next.ensures.taken
