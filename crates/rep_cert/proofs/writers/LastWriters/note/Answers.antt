use Rattle.std.proofs.Common.{◌≡◌, ◌<◌, ℕ, if◌then◌else◌, ◌+◌, List, [], ◌∷◌, ◌++◌, length, get_or, set, take, map, All, sym, ap, subst, ◌∙◌, arith}
use Rattle.std.proofs.Math.ListN.{length-set}
use Rattle.std.proofs.lemmas.List.Elements.{All-push}
use Rattle.arrayvec.specs.ArrayVec.{ArrayVec}
use Rattle.rep_types.specs.declared.key.Key.{Key}
use Rattle.rep_types.specs.declared.value.Write.{Write}
use Rattle.rep_types.specs.Transactions.{key_of}
use Rattle.rep_cert.specs.declared.writers.Former.{Former}
use Rattle.rep_cert.specs.Writers.{HasPlace, place, is_placed, restored}
use Rattle.rep_cert.proofs.LastWriters.{keys_more}
use Rattle.rep_cert.proofs.Places.{HasPlace-write, noted_more, restored_more, read_at}
use Rattle.rep_cert.proofs.writers.LastWriters.note.Goals as goal
use Rattle.rep_cert.proofs.writers.LastWriters.note.Goals.{After-write-item}

-- the row of the write at hand has a place
has_place : (c : After-write-item) → HasPlace c.loop-write.self.starts.items c.loop-write.self.seqnos.items c.write-item.result.key
has_place c =
    HasPlace-write c.args.self.now c.loop-write.self c.args.item.now.writes c.writes-write-items.result.now c.loop-write.write-index c.write-item.result c.loop-write.invariant.starts
    c.loop-write.invariant.size c.writes-write-items.ensures.writes c.requires.places c.loop-write-test.true c.write-item.is

pub place-place-requires : goal.place-place-requires
place-place-requires c = has_place (goal.at.place-place-requires c).After-write-item

pub index-requires : goal.index-requires
index-requires c = omega (arith, (has_place (goal.at.index-requires c).After-write-item).row)

pub index_mut-requires : goal.index_mut-requires
index_mut-requires c = omega (arith, (has_place (goal.at.index_mut-requires c).After-write-item).row)

pub loop-write-preserved : goal.loop-write-preserved
loop-write-preserved c =
    let old = c.args.self.now in
    let self = c.loop-write.self in
    let writes : List Write = c.args.item.now.writes in
    let i : ℕ = c.loop-write.write-index in
    let at : ℕ = c.place-place.result in
    let key : Key = c.write-item.result.key in
    let has : HasPlace self.starts.items self.seqnos.items key = has_place (goal.at.loop-write-preserved c).After-write-item in
    let here : at ≡ place old.starts.items key = c.place-place.ensures ∙ ap (λ (v : ArrayVec ℕ). place v.items key) c.loop-write.invariant.starts in
    let inside : at < length self.seqnos.items = omega (arith, has.row) in
    let read : c.index.result.now ≡ get_or self.seqnos.items at 0 = read_at self.seqnos.items at c.index.result.now inside c.index.ensures in
    let former : ℕ → Former = λ n. record { place = at; seqno = n } in
    let P : List Write → Type 0 = λ ws. map key_of (take (i + 1) ws) ≡ map key_of (take i ws) ++ key ∷ [] in
    let more : map key_of (take (i + 1) writes) ≡ map key_of (take i writes) ++ key ∷ [] =
    subst P c.writes-write-items.ensures.writes (keys_more c.writes-write-items.result.now i c.write-item.result c.loop-write-test.true c.write-item.is) in
    record {
      starts = c.loop-write.invariant.starts;
      size = length-set self.seqnos.items at c.args.seqno ∙ c.loop-write.invariant.size;
      count = omega (arith, c.push.ensures.len, c.loop-write.invariant.count);
      noted = λ k within.
          noted_more old.starts.items self.seqnos.items old.seqnos.items (map key_of (take i writes)) key c.args.seqno at here inside c.loop-write.invariant.noted k within
          ∙ ap (λ (keys : List Key). if is_placed old.starts.items keys k then c.args.seqno else get_or old.seqnos.items k 0) (sym more);
      inside =
          subst (All (λ (f : Former). f.place < length old.seqnos.items)) (sym c.push.ensures.items)
          (All-push (λ (f : Former). f.place < length old.seqnos.items) self.former.items (former c.index.result.now) c.loop-write.invariant.inside
          (omega (arith, c.loop-write.invariant.size)));
      before =
          ap (λ (fs : List Former). restored fs (set self.seqnos.items at c.args.seqno)) (c.push.ensures.items ∙ ap (λ (n : ℕ). self.former.items ++ former n ∷ []) read)
          ∙ (restored_more self.former.items self.seqnos.items at c.args.seqno ∙ c.loop-write.invariant.before);
    }
