use Rattle.std.proofs.Common.{◌∙◌, sym, ap, true, nat_lt, ◌<◌, arith, if◌then◌else◌, subst, ◌≡◌}
use Rattle.std.proofs.lemmas.Bool.Decides.{nat_tests}
use Rattle.rep_versions.specs.Versions.{IsAdded}
use Rattle.rep_snap.specs.Shelves.{added}
use Rattle.rep_snap.proofs.Changing.{only_added}
use Rattle.rep_snap.proofs.shelf.keep.Goals as goal

pub returns-in-Ok : goal.returns-in-Ok
returns-in-Ok c =
    let pair = c.args.pair.now in
    let below : c.args.oldest < pair.seqno = c.if-pair-oldest.false in
    let test : nat_lt c.args.oldest pair.seqno ≡ true = grind (arith, nat_tests, below) in
    let done : IsAdded pair.seqno pair.writes.items c.args.kept.now c.add_writes.new.self = subst (λ ws. IsAdded pair.seqno ws c.args.kept.now c.add_writes.new.self) c.as_slice.ensures.value c.in-Ok.ensures.added in
    only_added pair.seqno pair.writes.items c.args.kept.now c.add_writes.new.self done
    ∙ sym (ap (λ b. if b then added pair.seqno pair.writes.items c.args.kept.now else c.args.kept.now) test)
