use Rattle.std.proofs.Common.{sym, subst, refl, arith, IsSome}
use Rattle.rep_versions.proofs.versions.page_within.Goals as goal

pub returns-clause-some : goal.returns-clause-some
returns-clause-some c =
    let newest = c.in_ok-version.ensures.some in
    record {
      seqno = c.in_ok-version.version.now.0;
      stands = subst IsSome (sym newest.stands) refl;
      within = record { above = grind (arith, c.if-version-base.false); up_to = newest.within; row = grind (arith, c.in_ok-place.ensures) };
      there = grind (arith, c.in_ok-place.ensures);
    }
