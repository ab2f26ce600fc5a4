use Rattle.std.proofs.Common.{◌≡◌, arith, ap, sym, inr, ◌∙◌}
use Rattle.std.proofs.KnownBytes.{Consumes-trans, Consumes-kept}
use Rattle.std.proofs.lemmas.Bool.{ne_eqb, eqb-true, eqb-false}
use Rattle.rep_record.proofs.TextLines.{no_feed_more, fed_next, long_next, fed_cut, last_cut, cut_long}
use Rattle.rep_streams.proofs.Noted.{noted_ok}
use Rattle.rep_record.proofs.text_reader.TextReader.next_line.Goals as goal

pub returns-then-byte-eq10-clause-known : goal.returns-then-byte-eq10-clause-known
returns-then-byte-eq10-clause-known g c =
    let so_far = c.loop-byte.invariant in
    let taken = rw (c.in-Some.is, c.if-byte-eq10.true) at c.in_ok-byte.ensures.some in
    let counted = rw c.len-then-byte-eq10.ensures.value at c.count_line-then-byte-eq10.ensures in
    fed_next _ _ _ _ _ _ _ (Consumes-trans _ _ _ _ _ so_far.front taken) so_far.no_feed so_far.short (c.next_byte.ensures.taken ∙ so_far.taken) counted

pub returns-then-is_full-clause-known : goal.returns-then-is_full-clause-known
returns-then-is_full-clause-known g c =
    let so_far = c.loop-byte.invariant in
    let taken = rw c.in-Some.is at c.in_ok-byte.ensures.some in
    let full = eqb-true _ _ (sym c.is_full.ensures.value ∙ c.if-is_full.true) in
    let same : c.self.inside.number ≡ c.args.self.now.number = ap (λ u. u.number) c.self.view_is ∙ c.next_byte.ensures.number ∙ so_far.number in
    rw same (long_next _ c.next_byte.new.self _ _ _ _ (Consumes-trans _ _ _ _ _ so_far.front taken) so_far.no_feed (ne_eqb _ _ c.if-byte-eq10.false) full)

pub loop-byte-preserved : goal.loop-byte-preserved
loop-byte-preserved g c =
    let so_far = c.loop-byte.invariant in
    let taken = rw c.in-Some.is at c.in_ok-byte.ensures.some in
    let room = eqb-false _ _ (sym c.is_full.ensures.value ∙ c.if-is_full.false) in
    record {
      front = rw c.push.ensures.items (Consumes-trans _ _ _ _ _ so_far.front taken);
      no_feed = rw c.push.ensures.items (no_feed_more _ _ so_far.no_feed (ne_eqb _ _ c.if-byte-eq10.false));
      short = omega (arith, c.push.ensures.len, c.is_full.ensures.fits, room);
      taken = c.next_byte.ensures.taken ∙ so_far.taken;
      number = c.next_byte.ensures.number ∙ so_far.number;
      failed = noted_ok _ _ _ c.in_ok-byte.ensures.notes ∙ so_far.failed;
    }

pub returns-in_default-clause-cut : goal.returns-in_default-clause-cut
returns-in_default-clause-cut g c e =
    let so_far = c.loop-byte.invariant in
    let left = rw c.in_default.is at c.in_ok-byte.ensures.left in
    let ends = rw c.in_default.is at c.in_ok-byte.ensures.end in
    let counted = rw c.len.ensures.value at c.count_line.ensures in
    inr (last_cut c.args.self.now c.next_byte.new.self c.count_line.new.self _ _ _ _ (Consumes-kept _ _ _ _ so_far.front left) ends so_far.no_feed so_far.short (c.next_byte.ensures.taken ∙ so_far.taken) counted e)

pub returns-in_default-clause-notes : goal.returns-in_default-clause-notes
returns-in_default-clause-notes g c =
    let so_far = c.loop-byte.invariant in
    let left = rw c.in_default.is at c.in_ok-byte.ensures.left in
    let ends = rw c.in_default.is at c.in_ok-byte.ensures.end in
    let counted = rw c.len.ensures.value at c.count_line.ensures in
    record {
      fault = λ e. inr (cut_long c.args.self.now (g.R.Source.remaining c.args.reader.now) (last_cut c.args.self.now c.next_byte.new.self c.count_line.new.self _ _ _ _ (Consumes-kept _ _ _ _ so_far.front left) ends so_far.no_feed so_far.short (c.next_byte.ensures.taken ∙ so_far.taken) counted e));
      fine = λ other. noted_ok _ _ _ c.in_ok-byte.ensures.notes ∙ so_far.failed;
    }

pub returns-then-byte-eq10-clause-cut : goal.returns-then-byte-eq10-clause-cut
returns-then-byte-eq10-clause-cut g c e =
    let so_far = c.loop-byte.invariant in
    let taken = rw (c.in-Some.is, c.if-byte-eq10.true) at c.in_ok-byte.ensures.some in
    let counted = rw c.len-then-byte-eq10.ensures.value at c.count_line-then-byte-eq10.ensures in
    inr (fed_cut c.args.self.now c.next_byte.new.self c.count_line-then-byte-eq10.new.self _ _ _ _ (Consumes-trans _ _ _ _ _ so_far.front taken) so_far.no_feed so_far.short (c.next_byte.ensures.taken ∙ so_far.taken) counted e)

pub returns-then-byte-eq10-clause-notes : goal.returns-then-byte-eq10-clause-notes
returns-then-byte-eq10-clause-notes g c =
    let so_far = c.loop-byte.invariant in
    let taken = rw (c.in-Some.is, c.if-byte-eq10.true) at c.in_ok-byte.ensures.some in
    let counted = rw c.len-then-byte-eq10.ensures.value at c.count_line-then-byte-eq10.ensures in
    record {
      fault = λ e. inr (cut_long c.args.self.now (g.R.Source.remaining c.args.reader.now) (fed_cut c.args.self.now c.next_byte.new.self c.count_line-then-byte-eq10.new.self _ _ _ _ (Consumes-trans _ _ _ _ _ so_far.front taken) so_far.no_feed so_far.short (c.next_byte.ensures.taken ∙ so_far.taken) counted e));
      fine = λ other. noted_ok _ _ _ c.in_ok-byte.ensures.notes ∙ so_far.failed;
    }

pub returns-then-is_full-clause-notes : goal.returns-then-is_full-clause-notes
returns-then-is_full-clause-notes g c =
    let so_far = c.loop-byte.invariant in
    record { fault = λ e. absurd cc; fine = λ other. noted_ok _ _ _ c.in_ok-byte.ensures.notes ∙ so_far.failed }
