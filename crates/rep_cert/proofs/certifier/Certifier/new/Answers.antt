use Rattle.std.proofs.Common.{◌≡◌, ◌≤◌, ◌<◌, ◌+◌, ℕ, max, length, ◌++◌, ◌&&◌, nat_le, List, [], ◌∷◌, filter, All, None, rules, refl, sym, ap, ◌∙◌, subst, le_refl, arith}
use Rattle.std.proofs.lemmas.Fn.{filter_same}
use Rattle.std.proofs.lemmas.List.Elements.{All-filter, All-nil, All-weaker}
use Rattle.arrayvec.specs.ArrayVec.{ArrayVec}
use Rattle.rep_types.specs.declared.limits.TheConstants.{MAX_WINDOW}
use Rattle.rep_types.specs.declared.reach.Reach.{Reach}
use Rattle.rep_types.specs.Entries.{Entry}
use Rattle.rep_types.specs.Order.{recent}
use Rattle.rep_types.proofs.Windows.{recent_above}
use Rattle.rep_cert.specs.Holdings.{Holding, raised, upto}
use Rattle.rep_cert.specs.declared.writers.Former.{Former}
use Rattle.rep_cert.specs.Kept.{holding, level}
use Rattle.rep_cert.specs.Writers.{IsLaidOut, writer, last_writer}
use Rattle.rep_cert.proofs.Ascending.{upto_past}
use Rattle.rep_cert.proofs.Reaching.{Reached_made}
use Rattle.rep_cert.proofs.Kept.{between, holding_made}
use Rattle.rep_cert.proofs.Places.{IsLaidOut-same}
use Rattle.rep_cert.proofs.Agreeing.{Agrees_made}
use Rattle.rep_cert.proofs.certifier.Certifier.new.Goals as goal

-- the window that is held reaches as far as the given one, its floor raised
reach_is : (c : goal.After-raise_all) → c.raised-reach.result ≡ raised c.args.window.size c.args.window.floor c.args.position
reach_is c =
    c.raised-reach.ensures.raised
    ∙ (ap (λ (size : ℕ). raised size c.floor.result c.args.position) c.size.ensures ∙ ap (λ (floor : ℕ). raised c.args.window.size floor c.args.position) c.floor.ensures)

-- of the entries given, those that it spans are held
held : (c : goal.After-raise_all) → c.retain.new.self.items ≡ recent c.raised-reach.result.floor (upto c.args.position c.args.window.entries)
held c =
    let low : ℕ = c.raised-reach.result.floor in
    let cut : c.retain.new.self.items ≡ filter (λ (e : Entry). nat_le low e.seqno && nat_le e.seqno c.args.position) c.into_entries-given.result.items =
    filter_same _ _ _ (λ e b f k. search rules) _ _ c.retain.ensures.filtered in
    cut
    ∙ (between low c.args.position c.into_entries-given.result.items ∙ ap (λ (es : List Entry). recent low (upto c.args.position es)) c.into_entries-given.ensures)

pub invariant_of-result : goal.invariant_of-result
invariant_of-result c =
    let reach : Reach = c.raised-reach.result in
    let low : ℕ = reach.floor in
    let all : List Entry = upto c.args.position c.args.window.entries in
    let P : List Entry → Type 0 = λ es. All (λ (e : Entry). e.seqno ≤ c.args.position) es in
    let Q : List Entry → Type 0 = λ es. All (λ (e : Entry). c.args.position + 1 ≤ e.seqno + MAX_WINDOW) es in
    let rows : List ℕ = c.args.params.rows in
    let made = c.in_ok-writers.writers in
    let writers = c.raise_all.new.self in
    let same : writers.starts.items ≡ made.starts.items = ap (λ (v : ArrayVec ℕ). v.items) c.raise_all.ensures.starts in
    let laid : IsLaidOut rows made.starts.items made.seqnos.items =
    subst (λ (ns : List ℕ). IsLaidOut ns made.starts.items made.seqnos.items) c.schema.ensures c.in_ok-writers.ensures.laid_out in
    let none : writers.former.items ≡ [] = ap (λ (v : ArrayVec Former). v.items) c.raise_all.ensures.former ∙ c.in_ok-writers.ensures.former in
    rw (c.in_ok-admitted.ensures, c.in_ok-reaches.ensures.begun) (
      record {
        past =
            subst P (sym (held c))
            (All-filter (λ (e : Entry). nat_le low e.seqno) (λ (e : Entry). e.seqno ≤ c.args.position) all (upto_past c.args.position c.args.window.entries));
        spanned =
            subst Q (sym (held c))
            (All-weaker (λ (e : Entry). low ≤ e.seqno) (λ (e : Entry). c.args.position + 1 ≤ e.seqno + MAX_WINDOW) (λ e above. omega (arith, above, c.raised-reach.ensures.near))
            (recent low all) (recent_above low all));
        ascending = le_refl (c.args.position + 1);
        few = omega arith;
        room = refl;
        start = le_refl c.args.position;
        undo = λ never. cc;
        limit = omega arith;
      },
      Reached_made c.args.position reach c.raised-reach.ensures.near,
      record {
        laid_out = IsLaidOut-same rows made.starts.items made.seqnos.items writers.starts.items writers.seqnos.items same c.raise_all.ensures.size laid;
        inside = rw none (All-nil (λ (f : Former). f.place < length writers.seqnos.items));
        now =
            Agrees_made rows writers.starts.items made.seqnos.items writers.seqnos.items (level c.args.position) c.retain.new.self.items c.in_ok-writers.ensures.none
            (λ key row.
            c.raise_all.ensures.raised key (rw c.schema-2.ensures row)
            ∙ (ap (λ (ns : List ℕ). max (writer ns made.seqnos.items key) (last_writer key c.deref.result.now)) (sym same)
            ∙ ap (λ (es : List Entry). max (writer writers.starts.items made.seqnos.items key) (last_writer key es)) c.deref.ensures.value));
        before = λ never. cc;
      },
    )

pub returns-clause-made : goal.returns-clause-made
returns-clause-made c =
    let reach : Reach = c.raised-reach.result in
    let es : List Entry = c.args.window.entries in
    rw (c.in_ok-admitted.ensures, c.in_ok-reaches.ensures.begun)
    (ap (λ (h : Holding). record { current = h; before = None })
    (ap (λ (fs : List Entry). holding c.args.params c.args.position c.args.position (reach ∷ []) (fs ++ [])) (held c)
    ∙ (holding_made c.args.params c.args.position reach es
    ∙ ap
    (λ (r : Reach). record { setting = c.args.params; made = c.args.position; delivered = c.args.position; reaches = r ∷ []; entries = recent r.floor (upto c.args.position es) })
    (reach_is c))))
