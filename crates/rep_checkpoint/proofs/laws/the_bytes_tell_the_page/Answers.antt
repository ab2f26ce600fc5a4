use Rattle.rep_checkpoint.proofs.Spelled.{not_bad, same_rows}
use Rattle.rep_checkpoint.proofs.laws.the_bytes_tell_the_page.Goals as goal

pub returns : goal.returns
returns c = record { none = not_bad; rows = same_rows c.pages_are_told.ensures }
