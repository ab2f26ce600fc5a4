use Rattle.std.proofs.Common.{subst, ◌≡◌, ◌-◌, ◌+◌, ◌<◌, ℕ, true, Some, List, [], ◌∷◌, ◌++◌, length, sym, ap, ◌∙◌, le_refl, arith}
use Rattle.std.proofs.lemmas.List.{append-nil}
use Rattle.std.proofs.lemmas.List.Elements.{All-nil}
use Rattle.std.proofs.lemmas.Bool.Decides.{nat_tests}
use Rattle.arrayvec.specs.ArrayVec.{ArrayVec}
use Rattle.circular_buffer.specs.Buffer.{Buffer, buffer, keep_last}
use Rattle.rep_types.specs.declared.item.Item.{Item}
use Rattle.rep_types.specs.declared.item.Item.TheVariants.{SetWindow}
use Rattle.rep_types.specs.declared.limits.TheConstants.{MAX_SEQNO}
use Rattle.rep_types.specs.declared.reach.Reach.{Reach}
use Rattle.rep_types.specs.Entries.{Entry}
use Rattle.rep_cert.specs.declared.reaches.TheConstants.{KEPT_REACHES}
use Rattle.rep_cert.specs.declared.ring.TheConstants.{KEPT_ENTRIES}
use Rattle.rep_cert.specs.declared.writers.Former.{Former}
use Rattle.rep_cert.specs.Holdings.{Holding, Holdings, Admits, back, raised, upto}
use Rattle.rep_cert.specs.Kept.{holding, former_reaches, level}
use Rattle.rep_cert.specs.Writers.{Agrees}
use Rattle.rep_cert.proofs.Ascending.{Ascends-wider}
use Rattle.rep_cert.proofs.Reaching.{keep_last_all, Reached_push}
use Rattle.rep_cert.proofs.Kept.{upto_kept, Admits_holding, holding_before}
use Rattle.rep_cert.proofs.Agreeing.{Agrees_rises}
use Rattle.rep_cert.proofs.certifier.Certifier.set_window.Goals as goal

-- the reaches with that of the item
reaches_are : (c : goal.After-self-2-1) →
    c.reach_on.new.reaches ≡
    buffer (keep_last KEPT_REACHES (c.self.inside.reaches.items ++ raised c.args.size (back c.self.inside.reaches.items 0).floor (c.self.inside.delivered + 1) ∷ [])) KEPT_REACHES
reaches_are c =
    let rs : List Reach = c.self.inside.reaches.items in
    c.reach_on.ensures.added
    ∙ ap (λ (n : ℕ). buffer (keep_last n (rs ++ raised c.args.size (back rs 0).floor (c.self.inside.delivered + 1) ∷ [])) n) c.self.invariant.1.room

-- no entry comes
entries_are : (c : goal.After-self-2-1) → c.self.inside.admitted.items ≡ keep_last KEPT_ENTRIES (c.self.inside.admitted.items ++ [])
entries_are c =
    let es : List Entry = c.self.inside.admitted.items in
    sym (ap (λ (fs : List Entry). keep_last KEPT_ENTRIES fs) (append-nil es) ∙ keep_last_all KEPT_ENTRIES es c.self.invariant.0.few)

pub invariant_of-self : goal.invariant_of-self
invariant_of-self c =
    let s = c.self.inside in
    let left : s.delivered < MAX_SEQNO = grind (arith, nat_tests) in
    let is = c.self.invariant.0 in
    let numbers = c.forget_former.new.self in
    let all : List Entry = s.given.items ++ s.admitted.items in
    let starts : numbers.starts.items ≡ s.writers.starts.items = ap (λ (v : ArrayVec ℕ). v.items) c.forget_former.ensures.starts in
    let seqnos : numbers.seqnos.items ≡ s.writers.seqnos.items = ap (λ v. v.items) c.forget_former.ensures.seqnos in
    let back_one : s.delivered ≡ s.delivered + 1 - 1 = omega arith in
    let whole : upto s.delivered all ≡ all = upto_kept s.made_at s.delivered s.given.items s.admitted.items is.start is.past is.ascending in
    let before : Agrees s.params.rows s.writers.starts.items s.writers.seqnos.items (level s.delivered) (upto s.delivered all) =
    subst (Agrees s.params.rows s.writers.starts.items s.writers.seqnos.items (level s.delivered)) (sym whole) c.self.invariant.2.now in
    rw (reaches_are c, c.forget_former.ensures.none, starts, seqnos) (
      record {
        past = is.past;
        spanned = is.spanned;
        ascending = Ascends-wider (s.made_at + 1) (s.delivered + 1) (s.made_at + 1) (s.delivered + 1 + 1) s.admitted.items (le_refl (s.made_at + 1)) (omega arith) is.ascending;
        few = is.few;
        room = is.room;
        start = omega (arith, is.start);
        undo = λ now. omega (arith, is.start);
        limit = omega (arith, is.limit, left);
      },
      Reached_push s.made_at s.delivered s.undoable s.reaches.items s.reaches.capacity is.start c.self.invariant.1
          (raised c.args.size (back s.reaches.items 0).floor (s.delivered + 1)) (omega arith) c.reach_on.ensures.near,
      record {
        laid_out = c.self.invariant.2.laid_out;
        inside = All-nil (λ (f : Former). f.place < length s.writers.seqnos.items);
        now = Agrees_rises s.params.rows s.writers.starts.items s.writers.seqnos.items (level s.delivered) (level (s.delivered + 1)) all (omega arith) c.self.invariant.2.now;
        before = λ now. subst (λ (n : ℕ). Agrees s.params.rows s.writers.starts.items s.writers.seqnos.items (level n) (upto n all)) back_one before;
      },
    )

pub returns-clause-admitted : goal.returns-clause-admitted
returns-clause-admitted c source trx =
    let s = c.self.inside in
    let i : Item = SetWindow (record { size = c.args.size; source = source; trx = trx }) in
    let is = c.self.invariant.0 in
    let h : Holding = holding s.params s.made_at s.delivered s.reaches.items (s.given.items ++ s.admitted.items) in
    let P : Holdings → Type 0 = λ v. Admits v.current i (holding s.params s.made_at (s.delivered + 1) c.reach_on.new.reaches.items (s.given.items ++ s.admitted.items)) in
    let Q : List Entry → Type 0 = λ es. Admits h i (holding s.params s.made_at (s.delivered + 1) c.reach_on.new.reaches.items (s.given.items ++ es)) in
    let R : List Reach → Type 0 = λ rs. Admits h i (holding s.params s.made_at (s.delivered + 1) rs (s.given.items ++ keep_last KEPT_ENTRIES (s.admitted.items ++ []))) in
    subst P c.self.view_is
    (subst Q (sym (entries_are c))
    (subst R (sym (ap (λ (b : Buffer Reach). b.items) (reaches_are c)))
    (Admits_holding s.params s.made_at s.delivered s.undoable s.reaches.items s.reaches.capacity i s.given.items s.admitted.items is.start c.self.invariant.1
    c.reach_on.ensures.near is.past is.ascending)))

pub returns-clause-undoable : goal.returns-clause-undoable
returns-clause-undoable c =
    let s = c.self.inside in
    let i : Item = SetWindow (record { size = c.args.size; source = 0; trx = 0 }) in
    let is = c.self.invariant.0 in
    let next : Reach = raised c.args.size (back s.reaches.items 0).floor (s.delivered + 1) in
    let back_one : s.delivered + 1 - 1 ≡ s.delivered = omega arith in
    ap Some
    (ap (λ (n : ℕ). holding s.params s.made_at n (former_reaches c.reach_on.new.reaches.items) (s.given.items ++ s.admitted.items)) back_one
    ∙ (ap (λ (es : List Entry). holding s.params s.made_at s.delivered (former_reaches c.reach_on.new.reaches.items) (s.given.items ++ es)) (entries_are c)
    ∙ (ap (λ (b : Buffer Reach). holding s.params s.made_at s.delivered (former_reaches b.items) (s.given.items ++ keep_last KEPT_ENTRIES (s.admitted.items ++ []))) (reaches_are c)
    ∙ (holding_before s.params s.made_at (s.made_at + 1) s.delivered i true s.undoable s.reaches.items s.reaches.capacity next s.given.items s.admitted.items is.start
    c.self.invariant.1 is.ascending
    ∙ ap (λ (v : Holdings). v.current) c.self.view_is))))
