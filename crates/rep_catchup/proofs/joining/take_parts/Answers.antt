use Rattle.std.proofs.Common.{◌≡◌, ◌<◌, ◌^◌, Some, Ok, Err, ap, sym, subst, inl, ◌∙◌, rules, arith}
use Rattle.std.specs.Prelude.{IfErr}
use Rattle.rep_types.specs.declared.refusal.Refusal.TheVariants.{Malformed, StreamFault}
use Rattle.rep_transfer.specs.declared.part.Part.{Part}
use Rattle.rep_transfer.specs.declared.part.Part.TheVariants.{Snapshot}
use Rattle.rep_transfer.specs.Transfers.{PartFits, part_bytes}
use Rattle.rep_replica.specs.Replicas.{facts_of}
use Rattle.rep_catchup.specs.Joining.{CutShort}
use Rattle.rep_catchup.proofs.JoinTaking.{consumed, found_fits, none_found, counted_small}
use Rattle.rep_catchup.proofs.JoinFollowing.{all_behind, no_snapshot}
use Rattle.rep_catchup.proofs.JoinCutting.{ends_at_none, no_snapshot_stands, short_none, short_records_on, no_front}
use Rattle.rep_catchup.proofs.JoinTelling.{tells_malformed, tells_stream}
use Rattle.rep_catchup.proofs.JoinNoting.{notes_then, notes_none, notes_passed}
use Rattle.rep_catchup.proofs.joining.take_parts.Goals as goal

-- ---- where no part is taken

pub returns-in-Ok-None-clause-cut : goal.returns-in-Ok-None-clause-cut
returns-in-Ok-None-clause-cut g c =
    let before = g.R.Source.remaining c.args.reader.now in
    let start = c.args.transfer.now in
    let small : c.taken-at.result < 2 ^ 64 = search rules in
    let same : c.taken-at.result ≡ start = c.taken-at.ensures in
    let none = none_found PartFits part_bytes before (g.R.Source.remaining c.next_part.new.reader) c.in-Ok-None.field-0 c.next_part.result c.in-Ok-None.is c.in-Ok-None.field-0-is c.next_part.ensures.known in
    subst (λ k. CutShort g.D.Disk c.args.replica c.args.replica c.args.header.now.format c.args.header.now.uuid before start (Malformed k)) (sym same)
    (short_none g.D.Disk c.history_by_items.ensures c.runs_are_joined.ensures c.args.replica c.args.header.now.format c.args.header.now.uuid start before (Malformed start) (counted_small start (omega (arith, small, same)))
    (ends_at_none g.D.Disk c.args.replica start before none) (λ k is. no_snapshot_stands g.D.Disk c.args.header.now.format (facts_of g.D.Disk c.args.replica) before none))

pub returns-in-Err-clause-cut : goal.returns-in-Err-clause-cut
returns-in-Err-clause-cut g c =
    let before = g.R.Source.remaining c.args.reader.now in
    let start = c.args.transfer.now in
    let small : c.taken-at.result < 2 ^ 64 = search rules in
    let same : c.taken-at.result ≡ start = c.taken-at.ensures in
    short_none g.D.Disk c.history_by_items.ensures c.runs_are_joined.ensures c.args.replica c.args.header.now.format c.args.header.now.uuid start before c.in-Err.refusal (counted_small start (omega (arith, small, same)))
    (inl c.in-Err.ensures.refused) (λ k is. absurd (let never : Malformed k ≡ StreamFault = sym is ∙ c.in-Err.ensures.refused in cc))

-- ---- a snapshot

pub returns-in-Snapshot-clause-taken : goal.returns-in-Snapshot-clause-taken
returns-in-Snapshot-clause-taken g c =
    let position = c.in-Snapshot.position in
    let before = g.R.Source.remaining c.args.reader.now in
    let mid = g.R.Source.remaining c.next_part.new.reader in
    let is : c.next_part.result ≡ Ok (Some (Snapshot position)) = c.in-Ok-Some.is ∙ ap Ok c.in-Ok-Some.field-0-is ∙ ap (λ (p : Part). Ok (Some p)) c.in-Snapshot.is in
    all_behind g.D.Disk c.args.replica c.take_snapshot.result.0 c.args.header.now.format c.args.header.now.uuid (part_bytes (Snapshot position)) before mid (g.R.Source.remaining c.take_snapshot.new.reader) c.take_snapshot.result.1
    (consumed PartFits part_bytes before mid (Snapshot position) c.next_part.result is c.next_part.ensures.known) c.take_snapshot.ensures.taken

pub returns-in-Snapshot-clause-cut : goal.returns-in-Snapshot-clause-cut
returns-in-Snapshot-clause-cut g c =
    let position = c.in-Snapshot.position in
    let before = g.R.Source.remaining c.args.reader.now in
    let mid = g.R.Source.remaining c.next_part.new.reader in
    let is : c.next_part.result ≡ Ok (Some (Snapshot position)) = c.in-Ok-Some.is ∙ ap Ok c.in-Ok-Some.field-0-is ∙ ap (λ (p : Part). Ok (Some p)) c.in-Snapshot.is in
    subst (λ k. IfErr c.take_snapshot.result.1 (CutShort g.D.Disk c.args.replica c.take_snapshot.result.0 c.args.header.now.format c.args.header.now.uuid before k)) c.taken-at.ensures
    (c.take_snapshot.ensures.cut before (consumed PartFits part_bytes before mid (Snapshot position) c.next_part.result is c.next_part.ensures.known))

-- ---- records alone

pub returns : goal.returns
returns g c =
    let before = g.R.Source.remaining c.args.reader.now in
    let mid = g.R.Source.remaining c.next_part.new.reader in
    let part = c.in-Ok-Some.part in
    let is : c.next_part.result ≡ Ok (Some part) = c.in-Ok-Some.is ∙ ap Ok c.in-Ok-Some.field-0-is in
    let taken = consumed PartFits part_bytes before mid part c.next_part.result is c.next_part.ensures.known in
    record {
      taken =
          no_snapshot g.D.Disk c.args.replica c.follow_from-followed.new.replica c.args.header.now.format c.args.header.now.uuid (part_bytes part) before mid (g.R.Source.remaining c.follow_from-followed.new.reader)
          c.follow_from-followed.result taken c.requires.cluster c.follow_from-followed.ensures.defined c.follow_from-followed.ensures.followed;
      ends = c.follow_from-followed.ensures.ends;
      notes = notes_then (c.next_part.ensures.notes.fine (λ fault. let never : Ok (Some part) ≡ Err StreamFault = sym is ∙ fault in cc)) c.follow_from-followed.ensures.notes;
      tells = c.follow_from-followed.ensures.tells;
      cut =
          subst (λ k. IfErr c.follow_from-followed.result (CutShort g.D.Disk c.args.replica c.follow_from-followed.new.replica c.args.header.now.format c.args.header.now.uuid before k)) c.taken-at.ensures
          (short_records_on g.D.Disk c.args.replica c.follow_from-followed.new.replica c.args.header.now.format c.args.header.now.uuid c.taken-at.result before c.follow_from-followed.result (c.follow_from-followed.ensures.cut before taken)
          (no_front g.D.Disk c.args.header.now.format (facts_of g.D.Disk c.args.replica) part before mid (found_fits PartFits part c.next_part.result is c.next_part.ensures.fits) taken c.in_default.not-Snapshot));
    }

-- ---- what is told of the device

pub returns-in-Ok-None-clause-tells : goal.returns-in-Ok-None-clause-tells
returns-in-Ok-None-clause-tells g c = tells_malformed g.D.Disk c.args.replica c.taken-at.result

pub returns-in-Err-clause-tells : goal.returns-in-Err-clause-tells
returns-in-Err-clause-tells g c = tells_stream g.D.Disk c.args.replica c.in-Err.refusal c.in-Err.ensures.refused

-- ---- what is noted of the source

pub returns-in-Ok-None-clause-notes : goal.returns-in-Ok-None-clause-notes
returns-in-Ok-None-clause-notes g c =
    notes_none (c.next_part.ensures.notes.fine (λ fault. let never : Ok c.in-Ok-None.field-0 ≡ Err StreamFault = sym c.in-Ok-None.is ∙ fault in cc))
    (λ fault. let never : Malformed c.taken-at.result ≡ StreamFault = fault in cc)

pub returns-in-Err-clause-notes : goal.returns-in-Err-clause-notes
returns-in-Err-clause-notes g c = notes_passed c.in-Err.ensures.notes
