use Rattle.std.proofs.Common.{ℕ, List, length, ◌++◌, le_refl, subst, ◌≡◌, ◌<◌, ◌-◌, ◌+◌, true, IsSome, sym, ap, ◌∙◌, arith}
use Rattle.std.proofs.lemmas.List.Elements.{All-nil}
use Rattle.arrayvec.specs.ArrayVec.{ArrayVec}
use Rattle.rep_cert.specs.Holdings.{Holdings}
use Rattle.rep_cert.specs.declared.writers.Former.{Former}
use Rattle.rep_cert.specs.Kept.{holding, holdings, former_reaches, level}
use Rattle.rep_cert.specs.Writers.{restored}
use Rattle.rep_cert.proofs.Ascending.{Ascends-wider}
use Rattle.rep_cert.proofs.Reaching.{Reached_pop}
use Rattle.rep_cert.proofs.Kept.{length-upto, is_undoable, before_undo, Ascends-upto}
use Rattle.rep_cert.proofs.Places.{IsLaidOut-same, length-restored}
use Rattle.rep_cert.proofs.Agreeing.{Agrees_undone}
use Rattle.rep_cert.proofs.certifier.Certifier.undo_last.Goals as goal

pub invariant_of-self : goal.invariant_of-self
invariant_of-self c =
    let s = c.self.inside in
    let P : Holdings → Type 0 = λ v. IsSome v.before in
    let some : IsSome (holdings s.params s.made_at s.delivered s.undoable s.reaches.items (s.given.items ++ s.admitted.items)).before = subst P (sym c.self.view_is) c.requires in
    let undoable : s.undoable ≡ true = is_undoable s.undoable (holding s.params s.made_at (s.delivered - 1) (former_reaches s.reaches.items) (s.given.items ++ s.admitted.items)) some in
    let start : s.made_at < s.delivered = c.self.invariant.0.undo undoable in
    let seqnos = restored s.writers.former.items s.writers.seqnos.items in
    let same : c.restore.new.self.starts.items ≡ s.writers.starts.items = ap (λ (v : ArrayVec ℕ). v.items) c.restore.ensures.starts in
    let as_many : length c.restore.new.self.seqnos.items ≡ length s.writers.seqnos.items =
    ap (λ (ns : List ℕ). length ns) c.restore.ensures.restored ∙ length-restored s.writers.former.items s.writers.seqnos.items in
    rw (c.forget.ensures, c.drop_last.ensures) (
      record {
        past = c.self.invariant.0.past;
        spanned = c.self.invariant.0.spanned;
        ascending = Ascends-upto (s.delivered - 1) (s.made_at + 1) (s.delivered + 1) s.admitted.items (omega arith) c.self.invariant.0.ascending;
        few = omega (arith, length-upto (s.delivered - 1) s.admitted.items, c.self.invariant.0.few);
        room = c.self.invariant.0.room;
        start = omega arith;
        undo = λ never. cc;
        limit = omega (arith, c.self.invariant.0.limit);
      },
      Reached_pop s.made_at s.delivered s.undoable s.reaches.items s.reaches.capacity undoable start c.self.invariant.1,
      record {
        laid_out =
            IsLaidOut-same s.params.rows s.writers.starts.items s.writers.seqnos.items c.restore.new.self.starts.items c.restore.new.self.seqnos.items same as_many
            c.self.invariant.2.laid_out;
        inside = rw c.restore.ensures.none (All-nil (λ (f : Former). f.place < length c.restore.new.self.seqnos.items));
        now =
            rw (same, c.restore.ensures.restored)
            (Agrees_undone s.params.rows s.made_at (s.delivered - 1) (level (s.delivered - 1)) s.writers.starts.items seqnos s.given.items s.admitted.items (omega arith)
            c.self.invariant.0.past (c.self.invariant.2.before undoable));
        before = λ never. cc;
      },
    )

pub returns-clause-current : goal.returns-clause-current
returns-clause-current c =
    let s = c.self.inside in
    let P : Holdings → Type 0 = λ v. IsSome v.before in
    let some : IsSome (holdings s.params s.made_at s.delivered s.undoable s.reaches.items (s.given.items ++ s.admitted.items)).before = subst P (sym c.self.view_is) c.requires in
    let undoable : s.undoable ≡ true = is_undoable s.undoable (holding s.params s.made_at (s.delivered - 1) (former_reaches s.reaches.items) (s.given.items ++ s.admitted.items)) some in
    rw (c.forget.ensures, c.drop_last.ensures) (sym (ap (λ (v : Holdings). v.before) c.self.view_is) ∙ before_undo s.params s.made_at s.delivered s.undoable s.reaches.items s.given.items s.admitted.items undoable)

pub forget-requires-clause-last : goal.forget-requires-clause-last
forget-requires-clause-last c =
    let s = c.self.inside in
    Ascends-wider (s.made_at + 1) (s.delivered + 1) 0 (s.delivered + 1) s.admitted.items (omega arith) (le_refl (s.delivered + 1)) c.self.invariant.0.ascending
