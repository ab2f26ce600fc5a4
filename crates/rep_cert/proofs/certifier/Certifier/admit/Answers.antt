use Rattle.std.proofs.Common.{subst, ◌≡◌, ◌-◌, ◌+◌, ◌≤◌, ◌<◌, ℕ, true, Bool, Some, List, [], ◌∷◌, ◌++◌, length, sym, ap, ◌∙◌, refl, le_refl, arith}
use Rattle.std.proofs.lemmas.Bool.Decides.{nat_tests}
use Rattle.arrayvec.specs.ArrayVec.{ArrayVec}
use Rattle.circular_buffer.specs.Buffer.{Buffer, buffer, keep_last}
use Rattle.rep_types.specs.declared.item.Item.TheVariants.{WriteSet}
use Rattle.rep_types.specs.declared.limits.TheConstants.{MAX_SEQNO, MAX_WINDOW}
use Rattle.rep_types.specs.declared.reach.Reach.{Reach}
use Rattle.rep_types.specs.declared.verdict.Verdict.{Verdict}
use Rattle.rep_types.specs.Entries.{Entry}
use Rattle.rep_types.specs.Transactions.{written}
use Rattle.rep_types.specs.Reaches.{reach_after}
use Rattle.rep_types.specs.Order.{in_schema, is_commit}
use Rattle.rep_cert.specs.declared.reaches.TheConstants.{KEPT_REACHES}
use Rattle.rep_cert.specs.declared.ring.TheConstants.{KEPT_ENTRIES}
use Rattle.rep_cert.specs.Holdings.{Holding, Holdings, Admits, back, raised, upto, verdict_of}
use Rattle.rep_cert.specs.Kept.{holding, own_entry, former_reaches, Ascends, level}
use Rattle.rep_cert.specs.Writers.{Agrees, restored}
use Rattle.rep_cert.proofs.Ascending.{Ascends-wider, Ascends-drop}
use Rattle.rep_cert.proofs.Reaching.{Reached_push}
use Rattle.rep_cert.proofs.Kept.{Ascends_own, length-keep_last, Admits_holding, holding_before}
use Rattle.rep_cert.proofs.Places.{HasPlace-all, IsLaidOut-same}
use Rattle.rep_cert.proofs.Agreeing.{Agrees_noted, Agrees_before, commits_rows, written_rows}
use Rattle.rep_cert.proofs.certifier.Certifier.admit.Goals as goal

pub note_judged-requires : goal.note_judged-requires
note_judged-requires c =
    let s = c.self.inside in
    let w = c.args.item.now in
    let keys : is_commit c.judge-verdict.result ≡ true → in_schema s.params w ≡ true =
    λ yes. rw (ap (λ (v : Holdings). v.current.setting) c.self.view_is) (commits_rows c.args.self.now.current w (ap is_commit (sym c.judge-verdict.ensures) ∙ yes)) in
    record { places = λ yes. HasPlace-all s.params.rows s.writers.starts.items s.writers.seqnos.items (written w) c.self.invariant.2.laid_out (written_rows s.params w (keys yes)) }

-- the reach of the item, with the size as it was
reach_is : (c : goal.After-self-2-1) →
    raised c.reach_before-size.result.size (back c.self.inside.reaches.items 0).floor (c.self.inside.delivered + 1) ≡
    reach_after (back c.self.inside.reaches.items 0) (c.self.inside.delivered + 1) (WriteSet c.args.item.now)
reach_is c =
    ap (λ (q : Reach). raised q.size (back c.self.inside.reaches.items 0).floor (c.self.inside.delivered + 1)) c.reach_before-size.ensures

near : (c : goal.After-self-2-1) →
    c.self.inside.delivered + 1 + 1 ≤ (reach_after (back c.self.inside.reaches.items 0) (c.self.inside.delivered + 1) (WriteSet c.args.item.now)).floor + MAX_WINDOW
near c = omega (arith, c.reach_on.ensures.near, ap (λ (q : Reach). q.floor) (reach_is c))

-- the reaches with it
reaches_are : (c : goal.After-self-2-1) →
    c.reach_on.new.reaches ≡
    buffer
    (keep_last KEPT_REACHES (c.self.inside.reaches.items ++ reach_after (back c.self.inside.reaches.items 0) (c.self.inside.delivered + 1) (WriteSet c.args.item.now) ∷ []))
    KEPT_REACHES
reaches_are c =
    let rs : List Reach = c.self.inside.reaches.items in
    c.reach_on.ensures.added
    ∙ (ap (λ (n : ℕ). buffer (keep_last n (rs ++ raised c.reach_before-size.result.size (back rs 0).floor (c.self.inside.delivered + 1) ∷ [])) n) c.self.invariant.1.room
    ∙ ap (λ (q : Reach). buffer (keep_last KEPT_REACHES (rs ++ q ∷ [])) KEPT_REACHES) (reach_is c))

-- the entries with its own
entries_are : (c : goal.After-self-2-1) →
    c.keep.new.entries ≡
    buffer
    (keep_last KEPT_ENTRIES (c.self.inside.admitted.items ++ own_entry (c.self.inside.delivered + 1) (WriteSet c.args.item.now) (is_commit c.judge-verdict.result))) KEPT_ENTRIES
entries_are c =
    c.keep.ensures
    ∙ ap
    (λ (n : ℕ). buffer (keep_last n (c.self.inside.admitted.items ++ own_entry (c.self.inside.delivered + 1) (WriteSet c.args.item.now) (is_commit c.judge-verdict.result))) n)
    c.self.invariant.0.room

pub invariant_of-self : goal.invariant_of-self
invariant_of-self c =
    let s = c.self.inside in
    let left : s.delivered < MAX_SEQNO = grind (arith, nat_tests) in
    let w = c.args.item.now in
    let commits : Bool = is_commit c.judge-verdict.result in
    let more : List Entry = s.admitted.items ++ own_entry (s.delivered + 1) (WriteSet w) commits in
    let is = c.self.invariant.0 in
    let low : ℕ = s.made_at + 1 in
    let wide : Ascends low (s.delivered + 2) more = Ascends_own low s.delivered (WriteSet w) commits s.admitted.items is.ascending in
    let numbers = c.note_judged.new.self in
    let same : numbers.starts.items ≡ s.writers.starts.items = ap (λ (v : ArrayVec ℕ). v.items) c.note_judged.ensures.starts in
    let keys : commits ≡ true → in_schema s.params w ≡ true =
    λ yes. rw (ap (λ (v : Holdings). v.current.setting) c.self.view_is) (commits_rows c.args.self.now.current w (ap is_commit (sym c.judge-verdict.ensures) ∙ yes)) in
    let back_one : s.delivered ≡ s.delivered + 1 - 1 = omega arith in
    let entries : List Entry = s.given.items ++ keep_last KEPT_ENTRIES more in
    let before : Agrees s.params.rows s.writers.starts.items (restored numbers.former.items numbers.seqnos.items) (level s.delivered) (upto s.delivered entries) =
    rw c.note_judged.ensures.before
    (Agrees_before s.params.rows s.made_at s.delivered s.writers.starts.items s.writers.seqnos.items w commits s.given.items s.admitted.items is.start is.past is.ascending
    c.self.invariant.2.now) in
    rw (entries_are c, reaches_are c) (
      record {
        past = is.past;
        spanned = is.spanned;
        ascending =
            Ascends-wider low (s.delivered + 2) low (s.delivered + 1 + 1) (keep_last KEPT_ENTRIES more) (le_refl low) (omega arith)
            (Ascends-drop (length more - KEPT_ENTRIES) low (s.delivered + 2) more wide);
        few = length-keep_last KEPT_ENTRIES more;
        room = refl;
        start = omega (arith, is.start);
        undo = λ now. omega (arith, is.start);
        limit = omega (arith, is.limit, left);
      },
      Reached_push s.made_at s.delivered s.undoable s.reaches.items s.reaches.capacity is.start c.self.invariant.1
          (reach_after (back s.reaches.items 0) (s.delivered + 1) (WriteSet w)) (omega arith) (near c),
      record {
        laid_out = IsLaidOut-same s.params.rows s.writers.starts.items s.writers.seqnos.items numbers.starts.items numbers.seqnos.items same c.note_judged.ensures.size c.self.invariant.2.laid_out;
        inside = rw c.note_judged.ensures.size c.note_judged.ensures.inside;
        now =
            rw same
            (Agrees_noted s.params s.made_at s.delivered s.writers.starts.items s.writers.seqnos.items numbers.seqnos.items w commits s.given.items s.admitted.items
            c.self.invariant.2.laid_out is.start is.past is.ascending keys c.note_judged.ensures.noted c.self.invariant.2.now);
        before = λ now.
            rw same
            (subst (λ (n : ℕ). Agrees s.params.rows s.writers.starts.items (restored numbers.former.items numbers.seqnos.items) (level n) (upto n entries)) back_one before);
      },
    )

pub returns-clause-admitted : goal.returns-clause-admitted
returns-clause-admitted c =
    let s = c.self.inside in
    let i = WriteSet c.args.item.now in
    let is = c.self.invariant.0 in
    let h : Holding = holding s.params s.made_at s.delivered s.reaches.items (s.given.items ++ s.admitted.items) in
    let own : Bool → List Entry = λ commits. keep_last KEPT_ENTRIES (s.admitted.items ++ own_entry (s.delivered + 1) i commits) in
    let same : c.judge-verdict.result ≡ verdict_of h i = c.judge-verdict.ensures ∙ ap (λ (v : Holdings). verdict_of v.current i) (sym c.self.view_is) in
    let entries : c.keep.new.entries.items ≡ own (is_commit (verdict_of h i)) =
    ap (λ (b : Buffer Entry). b.items) (entries_are c) ∙ ap (λ (v : Verdict). own (is_commit v)) same in
    let reaches = ap (λ (b : Buffer Reach). b.items) (reaches_are c) in
    let P : Holdings → Type 0 = λ v. Admits v.current i (holding s.params s.made_at (s.delivered + 1) c.reach_on.new.reaches.items (s.given.items ++ c.keep.new.entries.items)) in
    let Q : List Entry → Type 0 = λ es. Admits h i (holding s.params s.made_at (s.delivered + 1) c.reach_on.new.reaches.items (s.given.items ++ es)) in
    let R : List Reach → Type 0 = λ rs. Admits h i (holding s.params s.made_at (s.delivered + 1) rs (s.given.items ++ own (is_commit (verdict_of h i)))) in
    subst P c.self.view_is
    (subst Q (sym entries)
    (subst R (sym reaches)
    (Admits_holding s.params s.made_at s.delivered s.undoable s.reaches.items s.reaches.capacity i s.given.items s.admitted.items is.start c.self.invariant.1 (near c) is.past
    is.ascending)))

pub returns-clause-undoable : goal.returns-clause-undoable
returns-clause-undoable c =
    let s = c.self.inside in
    let i = WriteSet c.args.item.now in
    let is = c.self.invariant.0 in
    let commits : Bool = is_commit c.judge-verdict.result in
    let more : List Entry = s.admitted.items ++ own_entry (s.delivered + 1) i commits in
    let next : Reach = reach_after (back s.reaches.items 0) (s.delivered + 1) i in
    let back_one : s.delivered + 1 - 1 ≡ s.delivered = omega arith in
    ap Some
    (ap (λ (n : ℕ). holding s.params s.made_at n (former_reaches c.reach_on.new.reaches.items) (s.given.items ++ c.keep.new.entries.items)) back_one
    ∙ (ap (λ (b : Buffer Entry). holding s.params s.made_at s.delivered (former_reaches c.reach_on.new.reaches.items) (s.given.items ++ b.items)) (entries_are c)
    ∙ (ap (λ (b : Buffer Reach). holding s.params s.made_at s.delivered (former_reaches b.items) (s.given.items ++ keep_last KEPT_ENTRIES more)) (reaches_are c)
    ∙ (holding_before s.params s.made_at (s.made_at + 1) s.delivered i commits s.undoable s.reaches.items s.reaches.capacity next s.given.items s.admitted.items is.start
    c.self.invariant.1 is.ascending
    ∙ ap (λ (v : Holdings). v.current) c.self.view_is))))
