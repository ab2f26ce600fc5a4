use Rattle.std.proofs.Common.{◌≡◌, ◌<◌, ◌^◌, None, Ok, refl, ap, sym, subst, ◌∙◌, Option, ℕ, rules}
use Rattle.std.proofs.lemmas.Result.{err_from_is_err_and}
use Rattle.rep_transfer.specs.Transfers.{PartFits, part_bytes}
use Rattle.rep_catchup.specs.Joining.{Followed}
use Rattle.rep_catchup.proofs.JoinTaking.{consumed, found_fits, counted_small}
use Rattle.rep_catchup.proofs.JoinCutting.{cut_at_part}
use Rattle.rep_catchup.proofs.JoinFollowing.{followed_none, part_followed}
use Rattle.rep_catchup.proofs.JoinTelling.{told_then, tells_stream, tells_malformed, grown_goes}
use Rattle.rep_catchup.proofs.JoinNoting.{notes_none, out_is_other}
use Rattle.rep_catchup.proofs.joining.follow.Goals as goal

pub loop-part-init : goal.loop-part-init
loop-part-init g c = record {
  running = c.requires.running;
  same = refl;
  noted = refl;
  defined = c.requires.defined;
  followed = followed_none g.D.Disk c.history_by_items.ensures c.runs_are_joined.ensures c.args.replica.now c.args.transfer.now (g.R.Source.remaining c.args.reader.now);
}

pub returns-in-Some-2-clause-followed : goal.returns-in-Some-2-clause-followed
returns-in-Some-2-clause-followed g c =
    let start = g.R.Source.remaining c.args.reader.now in
    let left = g.R.Source.remaining c.next_part.new.reader in
    subst (λ (ended : Option ℕ). Followed g.D.Disk c.args.replica.now c.take_part.new.replica c.args.transfer.now c.next_part.new.transfer start left ended) c.in-Some-2.is
    (part_followed g.D.Disk c.history_by_items.ensures c.runs_are_joined.ensures c.args.replica.now c.loop-part.replica c.take_part.new.replica c.args.transfer.now c.loop-part.transfer c.next_part.new.transfer start
    (g.R.Source.remaining c.loop-part.reader) left c.in_ok-last.field-0 c.in-Some.part c.next_part.result (c.in_ok-part.was ∙ ap Ok c.in-Some.is) c.loop-part.invariant.followed c.next_part.ensures.known c.next_part.ensures.taken c.in_ok-last.ensures.took)

pub loop-part-preserved : goal.loop-part-preserved
loop-part-preserved g c =
    let start = g.R.Source.remaining c.args.reader.now in
    let left = g.R.Source.remaining c.next_part.new.reader in
    let none : c.in_ok-last.field-0 ≡ None = search rules in
    let followed =
    subst (λ (ended : Option ℕ). Followed g.D.Disk c.args.replica.now c.take_part.new.replica c.args.transfer.now c.next_part.new.transfer start left ended) none
    (part_followed g.D.Disk c.history_by_items.ensures c.runs_are_joined.ensures c.args.replica.now c.loop-part.replica c.take_part.new.replica c.args.transfer.now c.loop-part.transfer c.next_part.new.transfer start
    (g.R.Source.remaining c.loop-part.reader) left c.in_ok-last.field-0 c.in-Some.part c.next_part.result (c.in_ok-part.was ∙ ap Ok c.in-Some.is) c.loop-part.invariant.followed c.next_part.ensures.known c.next_part.ensures.taken c.in_ok-last.ensures.took) in
    record {
      running = c.in_ok-last.ensures.ends;
      same = c.in_ok-last.ensures.tells ∙ c.loop-part.invariant.same;
      noted = c.next_part.ensures.notes.fine (search rules) ∙ c.loop-part.invariant.noted;
      defined = λ nil. c.requires.defined (sym followed.2.grown.uuid ∙ nil);
      followed = followed;
    }

-- ---- where a part isn't taken

pub returns-in_err-last-clause-cut : goal.returns-in_err-last-clause-cut
returns-in_err-last-clause-cut g c =
    let p = err_from_is_err_and c.from_residual-in_err-last.result c.from_residual-in_err-last.ensures.1 in
    let e = c.in_err-last.field-0.0 in
    let start = g.R.Source.remaining c.args.reader.now in
    let before = g.R.Source.remaining c.loop-part.reader in
    let part = c.in-Some.part in
    let is = c.in_ok-part.was ∙ ap Ok c.in-Some.is in
    let small : c.taken-at.result < 2 ^ 64 = search rules in
    let followed = subst (λ k. Followed g.D.Disk c.args.replica.now c.loop-part.replica c.args.transfer.now k start before None) (sym c.taken-at.ensures) c.loop-part.invariant.followed in
    rw (p.1, p.2) (cut_at_part g.D.Disk c.history_by_items.ensures c.runs_are_joined.ensures c.args.replica.now c.loop-part.replica c.take_part.new.replica c.args.transfer.now c.taken-at.result start before
    (g.R.Source.remaining c.next_part.new.reader) part e (counted_small c.taken-at.result small) followed c.in_err-last.ensures.kept (found_fits PartFits part c.next_part.result is c.next_part.ensures.fits)
    (consumed PartFits part_bytes before (g.R.Source.remaining c.next_part.new.reader) part c.next_part.result is c.next_part.ensures.known) c.in_err-last.ensures.refused)

-- ---- what is told of the device

pub returns-in_err-part-clause-tells : goal.returns-in_err-part-clause-tells
returns-in_err-part-clause-tells g c =
    let p = err_from_is_err_and c.from_residual.result c.from_residual.ensures.1 in
    let e = c.in_err-part.field-0.0 in
    rw (p.1, p.2) (told_then g.D.Disk c.args.replica.now c.loop-part.replica c.loop-part.replica e c.loop-part.invariant.same
    (grown_goes g.D.Disk c.args.replica.now c.loop-part.replica c.loop-part.invariant.followed.2.records c.loop-part.invariant.followed.2.grown) (tells_stream g.D.Disk c.loop-part.replica e c.in_err-part.ensures.refused))

pub returns-in_default-clause-tells : goal.returns-in_default-clause-tells
returns-in_default-clause-tells g c =
    told_then g.D.Disk c.args.replica.now c.loop-part.replica c.loop-part.replica _ c.loop-part.invariant.same
    (grown_goes g.D.Disk c.args.replica.now c.loop-part.replica c.loop-part.invariant.followed.2.records c.loop-part.invariant.followed.2.grown) (tells_malformed g.D.Disk c.loop-part.replica c.taken-at.result)

pub returns-in_err-last-clause-tells : goal.returns-in_err-last-clause-tells
returns-in_err-last-clause-tells g c =
    let p = err_from_is_err_and c.from_residual-in_err-last.result c.from_residual-in_err-last.ensures.1 in
    let e = c.in_err-last.field-0.0 in
    rw (p.1, p.2) (told_then g.D.Disk c.args.replica.now c.loop-part.replica c.take_part.new.replica e c.loop-part.invariant.same
    (grown_goes g.D.Disk c.args.replica.now c.loop-part.replica c.loop-part.invariant.followed.2.records c.loop-part.invariant.followed.2.grown) c.in_err-last.ensures.tells)

-- ---- what is noted of the source

pub returns-in_err-last-clause-notes : goal.returns-in_err-last-clause-notes
returns-in_err-last-clause-notes g c =
    let p = err_from_is_err_and c.from_residual-in_err-last.result c.from_residual-in_err-last.ensures.1 in
    let e = c.in_err-last.field-0.0 in
    rw (p.1, p.2) (notes_none (c.next_part.ensures.notes.fine (search rules) ∙ c.loop-part.invariant.noted) (out_is_other g.D.Disk c.take_part.new.replica c.in-Some.part c.taken-at.result e c.in_err-last.ensures.refused))
