use Rattle.std.proofs.Common.{List, [], ℕ, refl, inl, inr, sym, ap, ◌∙◌, arith}
use Rattle.rep_types.specs.declared.refusal.Refusal.TheVariants.{Stopped}
use Rattle.rep_transfer.specs.Taking.{counted}
use Rattle.rep_replica.specs.Replicas.{facts_of}
use Rattle.rep_catchup.specs.Joining.{Joined, TookTransfer}
use Rattle.rep_catchup.proofs.JoinGrowing.{early_work, is_running}
use Rattle.rep_catchup.proofs.JoinWent.{lived_none, lived_settling, lived_parts}
use Rattle.rep_catchup.proofs.JoinFollowing.{not_joined, joined_on, took_on, quiet_then}
use Rattle.rep_catchup.proofs.JoinCutting.{early_header, early_parts, ended_parts, or_stopped}
use Rattle.rep_catchup.proofs.JoinTelling.{tells_then, tells_stopped, tells_header, grown_goes, told_then}
use Rattle.rep_catchup.proofs.JoinNoting.{works_other, notes_none, notes_passed}
use Rattle.rep_catchup.proofs.joining.join.Goals as goal

pub settle-requires : goal.settle-requires
settle-requires g c = record { running = is_running c.args.replica (sym c.is_stopped.ensures ∙ c.if-is_stopped.false) }

-- ---- what is so behind the header

pub returns-in-Ok-clause-refused : goal.returns-in-Ok-clause-refused
returns-in-Ok-clause-refused g c =
    or_stopped c.take_parts.result.1
    (early_parts g.D.Disk c.settle.new.replica c.take_parts.result.0 c.in-Ok.header.format c.in-Ok.header.uuid (g.R.Source.remaining c.take_header.new.reader) c.take_header.new.transfer c.take_parts.result.1 c.take_parts.ensures.cut)

pub returns-in-Ok-clause-early : goal.returns-in-Ok-clause-early
returns-in-Ok-clause-early g c = λ running.
    early_parts g.D.Disk c.settle.new.replica c.take_parts.result.0 c.in-Ok.header.format c.in-Ok.header.uuid (g.R.Source.remaining c.take_header.new.reader) c.take_header.new.transfer c.take_parts.result.1 c.take_parts.ensures.cut

pub returns-in-Ok-clause-joined : goal.returns-in-Ok-clause-joined
returns-in-Ok-clause-joined g c = λ n holds.
    joined_on g.D.Disk c.args.replica c.settle.new.replica c.take_parts.result.0 c.in-Ok.header n (g.R.Source.remaining c.args.reader.now) (g.R.Source.remaining c.take_header.new.reader)
    (g.R.Source.remaining c.take_parts.new.reader) c.take_parts.result.1 c.settle.ensures.grown holds c.in-Ok.ensures.taken c.take_parts.ensures.taken

pub returns-in-Ok-clause-quiet : goal.returns-in-Ok-clause-quiet
returns-in-Ok-clause-quiet g c =
    quiet_then g.D.Disk c.settle.new.replica c.take_parts.result.0 c.in-Ok.header (g.R.Source.remaining c.take_header.new.reader) (g.R.Source.remaining c.take_parts.new.reader) c.take_parts.result.1 c.take_parts.ensures.taken

pub returns-in-Ok-clause-ended : goal.returns-in-Ok-clause-ended
returns-in-Ok-clause-ended g c = λ running.
    ended_parts g.D.Disk c.args.replica c.settle.new.replica c.take_parts.result.0 c.in-Ok.header (g.R.Source.remaining c.args.reader.now) (g.R.Source.remaining c.take_header.new.reader) c.take_header.new.transfer
    c.take_parts.result.1 c.settle.ensures.grown c.in-Ok.ensures.taken (c.in-Ok.ensures.counted ∙ ap (λ k. counted k 59) c.new-transfer.ensures ∙ omega arith) c.take_parts.ensures.cut

-- ---- where it was stopped before, or didn't settle

pub returns-then-is_stopped-clause-joined : goal.returns-then-is_stopped-clause-joined
returns-then-is_stopped-clause-joined g c = λ n holds.
    let start = g.R.Source.remaining c.args.reader.now in
    not_joined start (λ (bytes : List ℕ). Joined g.D.Disk n bytes start c.args.replica c.args.replica) Stopped

pub returns-in-Err-clause-refused : goal.returns-in-Err-clause-refused
returns-in-Err-clause-refused g c = inr (early_work c.in-Err.refusal c.in-Err.ensures.refused)

pub returns-in-Err-clause-early : goal.returns-in-Err-clause-early
returns-in-Err-clause-early g c = λ running. early_work c.in-Err.refusal c.in-Err.ensures.refused

pub returns-in-Err-clause-joined : goal.returns-in-Err-clause-joined
returns-in-Err-clause-joined g c = λ n holds.
    let start = g.R.Source.remaining c.args.reader.now in
    not_joined start (λ (bytes : List ℕ). Joined g.D.Disk n bytes start c.args.replica c.settle.new.replica) c.in-Err.refusal

pub returns-in-Err-clause-ended : goal.returns-in-Err-clause-ended
returns-in-Err-clause-ended g c = λ running. record { settled = c.settle.new.replica; grown = c.settle.ensures.grown; why = inl (inl c.in-Err.ensures.refused, refl) }

-- ---- where the header is not taken

pub returns-in-Err-take_header-clause-refused : goal.returns-in-Err-take_header-clause-refused
returns-in-Err-take_header-clause-refused g c =
    inr (early_header (facts_of g.D.Disk c.settle.new.replica) (g.R.Source.remaining c.args.reader.now) c.in-Err-take_header.refusal c.in-Err-take_header.ensures.refused)

pub returns-in-Err-take_header-clause-early : goal.returns-in-Err-take_header-clause-early
returns-in-Err-take_header-clause-early g c = λ running.
    early_header (facts_of g.D.Disk c.settle.new.replica) (g.R.Source.remaining c.args.reader.now) c.in-Err-take_header.refusal c.in-Err-take_header.ensures.refused

pub returns-in-Err-take_header-clause-joined : goal.returns-in-Err-take_header-clause-joined
returns-in-Err-take_header-clause-joined g c = λ n holds.
    not_joined (g.R.Source.remaining c.args.reader.now) (λ (bytes : List ℕ). Joined g.D.Disk n bytes (g.R.Source.remaining c.take_header.new.reader) c.args.replica c.settle.new.replica) c.in-Err-take_header.refusal

pub returns-in-Err-take_header-clause-ended : goal.returns-in-Err-take_header-clause-ended
returns-in-Err-take_header-clause-ended g c = λ running.
    record { settled = c.settle.new.replica; grown = c.settle.ensures.grown; why = inl (inr c.in-Err-take_header.ensures.refused, refl) }

-- ---- what it did

pub returns-then-is_stopped-clause-lived : goal.returns-then-is_stopped-clause-lived
returns-then-is_stopped-clause-lived g c = lived_none g.D.Disk c.history_by_items.ensures c.args.replica

pub returns-in-Err-clause-lived : goal.returns-in-Err-clause-lived
returns-in-Err-clause-lived g c = lived_settling g.D.Disk c.args.replica c.settle.new.replica c.settle.ensures.grown

pub returns-in-Err-take_header-clause-lived : goal.returns-in-Err-take_header-clause-lived
returns-in-Err-take_header-clause-lived g c = lived_settling g.D.Disk c.args.replica c.settle.new.replica c.settle.ensures.grown

pub returns-in-Ok-clause-lived : goal.returns-in-Ok-clause-lived
returns-in-Ok-clause-lived g c =
    lived_parts g.D.Disk c.args.replica c.settle.new.replica c.take_parts.result.0 c.in-Ok.header.format c.in-Ok.header.uuid (g.R.Source.remaining c.take_header.new.reader) (g.R.Source.remaining c.take_parts.new.reader) c.take_header.new.transfer
    c.take_parts.result.1 c.settle.ensures.grown c.take_parts.ensures.taken c.take_parts.ensures.cut

-- ---- what is told of the device

pub returns-then-is_stopped-clause-tells : goal.returns-then-is_stopped-clause-tells
returns-then-is_stopped-clause-tells g c = tells_stopped g.D.Disk c.args.replica

pub returns-in-Err-take_header-clause-tells : goal.returns-in-Err-take_header-clause-tells
returns-in-Err-take_header-clause-tells g c =
    told_then g.D.Disk c.args.replica c.settle.new.replica c.settle.new.replica c.in-Err-take_header.refusal c.in_default.ensures.tells
    (grown_goes g.D.Disk c.args.replica c.settle.new.replica [] c.settle.ensures.grown)
    (tells_header g.D.Disk c.settle.new.replica (g.R.Source.remaining c.args.reader.now) c.in-Err-take_header.refusal c.in-Err-take_header.ensures.refused)

pub returns-in-Ok-clause-tells : goal.returns-in-Ok-clause-tells
returns-in-Ok-clause-tells g c =
    tells_then g.D.Disk c.args.replica c.settle.new.replica c.take_parts.result.0 c.take_parts.result.1 c.in_default.ensures.tells (grown_goes g.D.Disk c.args.replica c.settle.new.replica [] c.settle.ensures.grown)
    c.take_parts.ensures.tells

-- ---- what was taken, on any device

pub returns-then-is_stopped-clause-took : goal.returns-then-is_stopped-clause-took
returns-then-is_stopped-clause-took g c =
    let start = g.R.Source.remaining c.args.reader.now in
    not_joined start (λ (bytes : List ℕ). TookTransfer g.D.Disk bytes start c.args.replica c.args.replica) Stopped

pub returns-in-Err-clause-took : goal.returns-in-Err-clause-took
returns-in-Err-clause-took g c =
    let start = g.R.Source.remaining c.args.reader.now in
    not_joined start (λ (bytes : List ℕ). TookTransfer g.D.Disk bytes start c.args.replica c.settle.new.replica) c.in-Err.refusal

pub returns-in-Err-take_header-clause-took : goal.returns-in-Err-take_header-clause-took
returns-in-Err-take_header-clause-took g c =
    not_joined (g.R.Source.remaining c.args.reader.now) (λ (bytes : List ℕ). TookTransfer g.D.Disk bytes (g.R.Source.remaining c.take_header.new.reader) c.args.replica c.settle.new.replica) c.in-Err-take_header.refusal

pub returns-in-Ok-clause-took : goal.returns-in-Ok-clause-took
returns-in-Ok-clause-took g c =
    took_on g.D.Disk c.args.replica c.settle.new.replica c.take_parts.result.0 c.in-Ok.header c.settle.ensures.grown (g.R.Source.remaining c.args.reader.now) (g.R.Source.remaining c.take_header.new.reader) (g.R.Source.remaining c.take_parts.new.reader)
    c.take_parts.result.1 c.in-Ok.ensures.taken c.take_parts.ensures.taken

-- ---- what is noted of the source

pub returns-in-Err-clause-notes : goal.returns-in-Err-clause-notes
returns-in-Err-clause-notes g c = notes_none refl (works_other c.in-Err.refusal c.in-Err.ensures.refused)

pub returns-in-Err-take_header-clause-notes : goal.returns-in-Err-take_header-clause-notes
returns-in-Err-take_header-clause-notes g c = notes_passed c.in-Err-take_header.ensures.notes
