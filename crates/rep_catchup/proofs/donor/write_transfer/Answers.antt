use Rattle.std.proofs.Common.{◌≡◌, ◌<◌, ◌^◌, Ok, Err, inl, inr, refl, ap, subst, ◌∙◌, arith}
use Rattle.std.proofs.lemmas.Result.{err_from_is_err_and}
use Rattle.rep_types.specs.declared.refusal.Refusal.TheVariants.{Corrupt}
use Rattle.rep_layout.specs.declared.format.Format.TheVariants.{Two}
use Rattle.rep_layout.specs.Supers.{IsNil}
use Rattle.rep_transfer.specs.declared.header.Header.{Header}
use Rattle.rep_transfer.specs.Shapes.{shape_of}
use Rattle.rep_catchup.proofs.DonateReads.{leaves_cut, leaves_noted, leaves_passed, leaves_then, still_holds}
use Rattle.rep_catchup.proofs.Donated.{all_parts, base_of_node, base_there, blocks_before, cut_in_base, cut_in_end, cut_in_header, cut_in_tail, donated_of_node, donates}
use Rattle.rep_catchup.proofs.donor.write_transfer.Goals as goal

pub returns-in_err-position-clause-leaves : goal.returns-in_err-position-clause-leaves
returns-in_err-position-clause-leaves g c =
    let p = err_from_is_err_and c.from_residual-in_err-position.result c.from_residual-in_err-position.ensures.1 in
    let old = c.args.replica.now in
    rw (p.1, p.2) (leaves_then g.D.Disk old old c.write_base.new.replica _ _ _ tt (Err c.in_err-position.field-0.0)
    (leaves_noted g.D.Disk old (g.W.Sink.failed c.args.writer.now) (g.W.Sink.failed c.write_header.new.writer) tt c.in_ok-write_header.ensures.notes c.requires.running) c.in_err-position.ensures.leaves)

pub returns-in_err-write_tail-clause-leaves : goal.returns-in_err-write_tail-clause-leaves
returns-in_err-write_tail-clause-leaves g c =
    let p = err_from_is_err_and c.from_residual-in_err-write_tail.result c.from_residual-in_err-write_tail.ensures.1 in
    let e = c.in_err-write_tail.field-0.0 in
    let old = c.args.replica.now in
    let base = c.write_base.new.replica in
    let begun = leaves_noted g.D.Disk old (g.W.Sink.failed c.args.writer.now) (g.W.Sink.failed c.write_header.new.writer) tt c.in_ok-write_header.ensures.notes c.requires.running in
    let based = leaves_then g.D.Disk old old base (g.W.Sink.failed c.args.writer.now) (g.W.Sink.failed c.write_header.new.writer) (g.W.Sink.failed c.write_base.new.writer) tt (Ok c.in_ok-position.position) begun c.in_ok-position.ensures.leaves in
    rw (p.1, p.2) (leaves_passed g.D.Disk old c.write_tail.new.replica _ _ e (leaves_then g.D.Disk old base c.write_tail.new.replica _ _ _ c.in_ok-position.position (Err e) based c.in_err-write_tail.ensures.leaves))

pub returns-in_err-write_end-clause-leaves : goal.returns-in_err-write_end-clause-leaves
returns-in_err-write_end-clause-leaves g c =
    let p = err_from_is_err_and c.from_residual-in_err-write_end.result c.from_residual-in_err-write_end.ensures.1 in
    let e = c.in_err-write_end.field-0.0 in
    let old = c.args.replica.now in
    let base = c.write_base.new.replica in
    let begun = leaves_noted g.D.Disk old (g.W.Sink.failed c.args.writer.now) (g.W.Sink.failed c.write_header.new.writer) tt c.in_ok-write_header.ensures.notes c.requires.running in
    let based = leaves_then g.D.Disk old old base (g.W.Sink.failed c.args.writer.now) (g.W.Sink.failed c.write_header.new.writer) (g.W.Sink.failed c.write_base.new.writer) tt (Ok c.in_ok-position.position) begun c.in_ok-position.ensures.leaves in
    let new = c.write_tail.new.replica in
    let told = leaves_then g.D.Disk old base new (g.W.Sink.failed c.args.writer.now) (g.W.Sink.failed c.write_base.new.writer) (g.W.Sink.failed c.write_tail.new.writer) c.in_ok-position.position (Ok c.in_ok-write_tail.field-0) based c.in_ok-write_tail.ensures.leaves in
    rw (p.1, p.2) (leaves_passed g.D.Disk old new _ _ e (leaves_then g.D.Disk old new new _ _ _ c.in_ok-write_tail.field-0 (Err e) told
    (leaves_cut g.D.Disk new _ _ e c.in_err-write_end.ensures.written.refused c.in_err-write_end.ensures.notes)))

pub returns-clause-leaves : goal.returns-clause-leaves
returns-clause-leaves g c =
    let old = c.args.replica.now in
    let base = c.write_base.new.replica in
    let begun = leaves_noted g.D.Disk old (g.W.Sink.failed c.args.writer.now) (g.W.Sink.failed c.write_header.new.writer) tt c.in_ok-write_header.ensures.notes c.requires.running in
    let based = leaves_then g.D.Disk old old base (g.W.Sink.failed c.args.writer.now) (g.W.Sink.failed c.write_header.new.writer) (g.W.Sink.failed c.write_base.new.writer) tt (Ok c.in_ok-position.position) begun c.in_ok-position.ensures.leaves in
    let new = c.write_tail.new.replica in
    let told = leaves_then g.D.Disk old base new (g.W.Sink.failed c.args.writer.now) (g.W.Sink.failed c.write_base.new.writer) (g.W.Sink.failed c.write_tail.new.writer) c.in_ok-position.position (Ok c.in_ok-write_tail.field-0) based c.in_ok-write_tail.ensures.leaves in
    let last = c.durable-last.result in
    leaves_then g.D.Disk old new new _ _ _ c.in_ok-write_tail.field-0 (Ok last) told (leaves_noted g.D.Disk new (g.W.Sink.failed c.write_tail.new.writer) (g.W.Sink.failed c.write_end.new.writer) last
    (record { fault = λ is. absurd cc; fine = λ other. c.in_ok-write_end.ensures.notes.fine (λ is. absurd cc) }) told.runs)

pub returns-in_err-write_header-clause-cut : goal.returns-in_err-write_header-clause-cut
returns-in_err-write_header-clause-cut g c =
    let p = err_from_is_err_and c.from_residual.result c.from_residual.ensures.1 in
    let old = c.args.replica.now in
    let b = old.engine.checkpoint.base in
    let header : Header = record { format = Two; uuid = c.uuid.result; shape = c.of.result } in
    let not_nil : IsNil c.uuid.result → ⊥ = λ nil. c.requires.defined (subst IsNil c.uuid.ensures nil) in
    let shape : c.of.result ≡ shape_of b.params = c.of.ensures ∙ ap shape_of c.params.ensures in
    let last = c.durable-last.result in
    let small : last < 2 ^ 64 = omega arith in
    rw p.1 (cut_in_header b old.engine.log c.args.have.now header (c.write_header.ensures.form not_nil) refl c.uuid.ensures shape last c.durable-last.ensures.durable small (g.W.Sink.contents c.args.writer.now) (g.W.Sink.contents c.write_header.new.writer) c.in_err-write_header.field-0.0 c.some_base_comes.ensures (c.in_err-write_header.ensures.written not_nil))

pub returns-in_err-position-clause-cut : goal.returns-in_err-position-clause-cut
returns-in_err-position-clause-cut g c =
    let p = err_from_is_err_and c.from_residual-in_err-position.result c.from_residual-in_err-position.ensures.1 in
    let old = c.args.replica.now in
    let b = old.engine.checkpoint.base in
    let header : Header = record { format = Two; uuid = c.uuid.result; shape = c.of.result } in
    let not_nil : IsNil c.uuid.result → ⊥ = λ nil. c.requires.defined (subst IsNil c.uuid.ensures nil) in
    let shape : c.of.result ≡ shape_of b.params = c.of.ensures ∙ ap shape_of c.params.ensures in
    let last = c.durable-last.result in
    let small : last < 2 ^ 64 = omega arith in
    rw p.1 (cut_in_base b old.engine.log c.args.have.now header (c.write_header.ensures.form not_nil) refl c.uuid.ensures shape last c.durable-last.ensures.durable small (g.W.Sink.contents c.args.writer.now) (g.W.Sink.contents c.write_header.new.writer) (c.in_ok-write_header.ensures.written not_nil).done (g.W.Sink.contents c.write_base.new.writer) c.in_err-position.ensures.writes.cut)

pub returns-in_err-write_tail-clause-cut : goal.returns-in_err-write_tail-clause-cut
returns-in_err-write_tail-clause-cut g c =
    let p = err_from_is_err_and c.from_residual-in_err-write_tail.result c.from_residual-in_err-write_tail.ensures.1 in
    let old = c.args.replica.now in
    let b = old.engine.checkpoint.base in
    let header : Header = record { format = Two; uuid = c.uuid.result; shape = c.of.result } in
    let not_nil : IsNil c.uuid.result → ⊥ = λ nil. c.requires.defined (subst IsNil c.uuid.ensures nil) in
    let shape : c.of.result ≡ shape_of b.params = c.of.ensures ∙ ap shape_of c.params.ensures in
    let last = c.durable-last.result in
    let small : last < 2 ^ 64 = omega arith in
    let e = c.in_err-write_tail.field-0.0 in
    let left = c.in_ok-position.ensures.leaves in
    let (s, base, known, based) = c.in_ok-position.ensures.writes.done in
    let tail = blocks_before g.D.Disk old c.write_base.new.replica c.in_ok-position.position (g.W.Sink.contents c.write_base.new.writer) (g.W.Sink.contents c.write_tail.new.writer) (Err e) left.reads
    (λ n h. still_holds g.D.Disk old c.write_base.new.replica _ _ c.in_ok-position.position n left h) c.in_err-write_tail.ensures.writes in
    rw p.1 (cut_in_tail b old.engine.log c.args.have.now header (c.write_header.ensures.form not_nil) refl c.uuid.ensures shape last c.durable-last.ensures.durable small (g.W.Sink.contents c.args.writer.now) (g.W.Sink.contents c.write_header.new.writer) (c.in_ok-write_header.ensures.written not_nil).done s c.in_ok-position.position (g.W.Sink.contents c.write_base.new.writer) base known.is_behind based (g.W.Sink.contents c.write_tail.new.writer) tail.cut)

pub returns-in_err-write_end-clause-cut : goal.returns-in_err-write_end-clause-cut
returns-in_err-write_end-clause-cut g c =
    let p = err_from_is_err_and c.from_residual-in_err-write_end.result c.from_residual-in_err-write_end.ensures.1 in
    let old = c.args.replica.now in
    let b = old.engine.checkpoint.base in
    let header : Header = record { format = Two; uuid = c.uuid.result; shape = c.of.result } in
    let not_nil : IsNil c.uuid.result → ⊥ = λ nil. c.requires.defined (subst IsNil c.uuid.ensures nil) in
    let shape : c.of.result ≡ shape_of b.params = c.of.ensures ∙ ap shape_of c.params.ensures in
    let last = c.durable-last.result in
    let small : last < 2 ^ 64 = omega arith in
    let left = c.in_ok-position.ensures.leaves in
    let (s, base, known, based) = c.in_ok-position.ensures.writes.done in
    let (blocks, are, knows, tailed) = (blocks_before g.D.Disk old c.write_base.new.replica c.in_ok-position.position (g.W.Sink.contents c.write_base.new.writer) (g.W.Sink.contents c.write_tail.new.writer) (Ok c.in_ok-write_tail.field-0) left.reads
    (λ n h. still_holds g.D.Disk old c.write_base.new.replica _ _ c.in_ok-position.position n left h) c.in_ok-write_tail.ensures.writes).done in
    rw p.1 (cut_in_end b old.engine.log c.args.have.now header (c.write_header.ensures.form not_nil) refl c.uuid.ensures shape last c.durable-last.ensures.durable small (g.W.Sink.contents c.args.writer.now) (g.W.Sink.contents c.write_header.new.writer) (c.in_ok-write_header.ensures.written not_nil).done s c.in_ok-position.position (g.W.Sink.contents c.write_base.new.writer) base known.is_behind based blocks (g.W.Sink.contents c.write_tail.new.writer) are tailed (g.W.Sink.contents c.write_end.new.writer)
    c.in_err-write_end.field-0.0 c.in_err-write_end.ensures.written)

pub returns-clause-donates : goal.returns-clause-donates
returns-clause-donates g c =
    let old = c.args.replica.now in
    let b = old.engine.checkpoint.base in
    let header : Header = record { format = Two; uuid = c.uuid.result; shape = c.of.result } in
    let not_nil : IsNil c.uuid.result → ⊥ = λ nil. c.requires.defined (subst IsNil c.uuid.ensures nil) in
    let shape : c.of.result ≡ shape_of b.params = c.of.ensures ∙ ap shape_of c.params.ensures in
    let last = c.durable-last.result in
    let small : last < 2 ^ 64 = omega arith in
    let left = c.in_ok-position.ensures.leaves in
    let (s, base, known, based) = c.in_ok-position.ensures.writes.done in
    let (blocks, are, knows, tailed) = (blocks_before g.D.Disk old c.write_base.new.replica c.in_ok-position.position (g.W.Sink.contents c.write_base.new.writer) (g.W.Sink.contents c.write_tail.new.writer) (Ok c.in_ok-write_tail.field-0) left.reads
    (λ n h. still_holds g.D.Disk old c.write_base.new.replica _ _ c.in_ok-position.position n left h) c.in_ok-write_tail.ensures.writes).done in
    donates b old.engine.log c.args.have.now header (c.write_header.ensures.form not_nil) refl c.uuid.ensures shape last c.durable-last.ensures.durable small (g.W.Sink.contents c.args.writer.now) (g.W.Sink.contents c.write_header.new.writer) (c.in_ok-write_header.ensures.written not_nil).done s c.in_ok-position.position (g.W.Sink.contents c.write_base.new.writer) base known.is_behind based blocks (g.W.Sink.contents c.write_tail.new.writer) are tailed
    g.D.Disk old (g.W.Sink.contents c.write_end.new.writer) refl refl c.in_ok-write_end.ensures.written.done (λ h. (base_there g.D.Disk old s known.snapshot h, knows.there h))
    (λ n h. donated_of_node g.D.Disk n old h c.args.have.now header refl c.uuid.ensures shape s base.1 (base_of_node g.D.Disk old s known.snapshot n h) blocks (knows.of_node n h) last c.durable-last.ensures.durable (all_parts b old.engine.log c.args.have.now header (c.write_header.ensures.form not_nil) refl c.uuid.ensures shape last c.durable-last.ensures.durable small s blocks base are).is_transfer)

pub returns-in_err-write_header-clause-asked : goal.returns-in_err-write_header-clause-asked
returns-in_err-write_header-clause-asked g c =
    let p = err_from_is_err_and c.from_residual.result c.from_residual.ensures.1 in
    let refused = (c.in_err-write_header.ensures.written (λ nil. c.requires.defined (subst IsNil c.uuid.ensures nil))).refused in
    rw (p.1, p.2) (λ part is. absurd cc)

pub returns-in_err-position-clause-asked : goal.returns-in_err-position-clause-asked
returns-in_err-position-clause-asked g c =
    let p = err_from_is_err_and c.from_residual-in_err-position.result c.from_residual-in_err-position.ensures.1 in
    let e = c.in_err-position.field-0.0 in
    rw (p.1, p.2) (λ part is. inr (c.in_err-position.ensures.asked part (let same : e ≡ Corrupt part = cc in ap Err same)))

pub returns-in_err-write_tail-clause-asked : goal.returns-in_err-write_tail-clause-asked
returns-in_err-write_tail-clause-asked g c =
    let p = err_from_is_err_and c.from_residual-in_err-write_tail.result c.from_residual-in_err-write_tail.ensures.1 in
    let e = c.in_err-write_tail.field-0.0 in
    rw (p.1, p.2) (λ part is. inl (c.in_err-write_tail.ensures.asked part (let same : e ≡ Corrupt part = cc in ap Err same)))

pub returns-in_err-write_end-clause-asked : goal.returns-in_err-write_end-clause-asked
returns-in_err-write_end-clause-asked g c =
    let p = err_from_is_err_and c.from_residual-in_err-write_end.result c.from_residual-in_err-write_end.ensures.1 in
    let refused = c.in_err-write_end.ensures.written.refused in
    rw (p.1, p.2) (λ part is. absurd cc)
