use Rattle.std.proofs.Common.{◌≡◌, ◌<◌, ℕ, ◌+◌, max, length, true, false, List, ◌++◌, [], ◌∷◌, get_or, set, take, sym, ap, subst, ◌∙◌, arith}
use Rattle.std.proofs.Math.ListN.{length-set}
use Rattle.std.proofs.lemmas.List.{take_more}
use Rattle.std.proofs.lemmas.Bool.{ltb-true}
use Rattle.arrayvec.specs.ArrayVec.{ArrayVec}
use Rattle.rep_types.specs.declared.key.Key.{Key}
use Rattle.rep_types.specs.Settings.{has_row, IsRow}
use Rattle.rep_cert.specs.Writers.{IsLaidOut, HasPlace, place, writer, last_writer}
use Rattle.rep_cert.proofs.Places.{HasPlace-row, HasPlace-key, raised_in, raised_out, read_at}
use Rattle.rep_cert.proofs.writers.LastWriters.raise.Goals as goal
use Rattle.rep_cert.proofs.writers.LastWriters.raise.Goals.{Then-contains, then-contains, else-contains}

-- the row of the key at hand has a place
has_place : (c : Then-contains) → HasPlace c.loop-key.self.starts.items c.loop-key.self.seqnos.items (get_or c.keys-key-items.result.now c.loop-key.key-index (record { table = 0; row = 0 }))
has_place c = HasPlace-key c.args.schema.now c.args.self.now c.loop-key.self _ c.requires c.loop-key.invariant.starts c.loop-key.invariant.size (sym c.contains.ensures ∙ c.if-contains.true)

pub place-place-requires : goal.place-place-requires
place-place-requires c = has_place (goal.at.place-place-requires c).Then-contains

pub index-requires : goal.index-requires
index-requires c = omega (arith, (has_place (goal.at.index-requires c).Then-contains).row)

pub index_mut-requires : goal.index_mut-requires
index_mut-requires c = omega (arith, (has_place (goal.at.index_mut-requires c).Then-contains).row)

pub loop-key-preserved : goal.loop-key-preserved
loop-key-preserved c =
    let rows : List ℕ = c.args.schema.now in
    let old = c.args.self.now in
    let self = c.loop-key.self in
    let n : ℕ = c.args.entry.now.seqno in
    let i : ℕ = c.loop-key.key-index in
    let key : Key = get_or c.keys-key-items.result.now i (record { table = 0; row = 0 }) in
    let keys : List Key = c.args.entry.now.keys in
    let same : self.starts ≡ old.starts = c.loop-key.invariant.starts in
    let laid : IsLaidOut rows old.starts.items self.seqnos.items = record { tables = c.requires.tables; size = c.loop-key.invariant.size ∙ c.requires.size } in
    let P : List Key → Type 0 = λ ks. take (i + 1) ks ≡ take i ks ++ key ∷ [] in
    let more : take (i + 1) keys ≡ take i keys ++ key ∷ [] =
    subst P c.keys-key-items.ensures.keys (take_more c.keys-key-items.result.now i (record { table = 0; row = 0 }) c.loop-key-test.true) in
    let so_far : (k : Key) → IsRow rows k → writer old.starts.items self.seqnos.items k ≡
    max (writer old.starts.items old.seqnos.items k) (last_writer k ((record { seqno = n; keys = take i keys }) ∷ [])) =
    λ k row. sym (ap (λ (v : ArrayVec ℕ). writer v.items self.seqnos.items k) same) ∙ c.loop-key.invariant.raised k row in
    let end : (k : Key) → max (writer old.starts.items old.seqnos.items k) (last_writer k ((record { seqno = n; keys = take i keys ++ key ∷ [] }) ∷ [])) ≡
    max (writer old.starts.items old.seqnos.items k) (last_writer k ((record { seqno = n; keys = take (i + 1) keys }) ∷ [])) =
    λ k. ap (λ (ks : List Key). max (writer old.starts.items old.seqnos.items k) (last_writer k ((record { seqno = n; keys = ks }) ∷ []))) (sym more) in
    elim c.if-contains.branch [
      | then-contains w ↦
          let at : ℕ = w.place-place.result in
          let has : has_row rows key ≡ true = sym c.contains.ensures ∙ w.if-contains.true in
          let here : at ≡ place old.starts.items key = w.place-place.ensures ∙ ap (λ (v : ArrayVec ℕ). place v.items key) same in
          let inside : at < length self.seqnos.items = omega (arith, (HasPlace-row rows old.starts.items self.seqnos.items key laid (ltb-true _ _ has)).row) in
          let read : w.index.result.now ≡ get_or self.seqnos.items at 0 = read_at self.seqnos.items at w.index.result.now inside w.index.ensures in
          let is : w.later.result ≡ max n (get_or self.seqnos.items at 0) = omega (arith, w.later.ensures, w.seqno.ensures) in
          rw w.self-is
          (record {
            starts = same;
            former = c.loop-key.invariant.former;
            size = length-set self.seqnos.items at w.later.result ∙ c.loop-key.invariant.size;
            raised = λ k row.
                ap (λ (v : ArrayVec ℕ). writer v.items (set self.seqnos.items at w.later.result) k) same
                ∙ (raised_in rows old.starts.items self.seqnos.items old.seqnos.items key (take i keys) n at w.later.result laid has here is so_far k row ∙ end k);
          })
      | else-contains w ↦
          let none : has_row rows key ≡ false = sym c.contains.ensures ∙ w.if-contains.false in
          rw w.self-is
          (record {
            starts = same;
            former = c.loop-key.invariant.former;
            size = c.loop-key.invariant.size;
            raised = λ k row.
                ap (λ (v : ArrayVec ℕ). writer v.items self.seqnos.items k) same
                ∙ (raised_out rows old.starts.items self.seqnos.items old.seqnos.items key (take i keys) n none so_far k row ∙ end k);
          })
    ]
