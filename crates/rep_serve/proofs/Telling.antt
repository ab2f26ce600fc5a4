-- What is written of a batch, receipt by receipt.
use Rattle.std.proofs.Common.{◌≡◌, ℕ, zero, suc, arith, ◌+◌, ◌<◌, List, [], ◌∷◌, ◌++◌, length, take, drop, slice_get, slice_index_or, Option, None, Some, Result, Ok, Err, inl, inr, sym, ap, subst, ◌∙◌, append-nil}
use Rattle.std.specs.Io.KnownBytes.{Appends}
use Rattle.std.proofs.lemmas.List.{take_more, take-append-drop}
use Rattle.std.proofs.Math.Seq.{take-append-add}
use Rattle.std.proofs.lemmas.List.Concat.{flat_map-append}
use Rattle.std.proofs.lemmas.Option.{slice_get-get_or, slice_get_within}
use Rattle.std.proofs.KnownBytes.{Appends-trans}
use Rattle.std.specs.Prelude.{◌≢◌, IfSome, OnOk, OnErr}
use Rattle.rep_types.specs.declared.item.Item.{Item}
use Rattle.rep_types.specs.declared.judged.Judged.{Judged}
use Rattle.rep_types.specs.declared.refusal.Refusal.{Refusal}
use Rattle.rep_types.specs.declared.refusal.Refusal.TheVariants.{StreamFault}
use Rattle.rep_ordered.specs.Views.{Every}
use Rattle.rep_replica.specs.Replicas.{Replica}
use Rattle.rep_node.specs.Served.{EndedFor, IsTold}
use Rattle.rep_node.specs.declared.batch.Receipt.{Receipt}
use Rattle.rep_script.specs.Answering.{Answered}
use Rattle.rep_script.proofs.Answering.{answered_cut, answered_front, answered_more, answered_on}
use Rattle.rep_script.proofs.Progress.{take_front}
use Rattle.rep_serve.specs.Serving.{AddsLine, TellsBatch, line_of, receipt_line, receipt_lines}

abbrev of_its_place : List Item → Receipt → List ℕ
of_its_place items r = line_of r (slice_get items r.index)

-- what holds of each holds of the one at a place
every_at : {A : Type 0} (P : A → Type 0) (xs : List A) (i : ℕ) (d : A) → Every P xs → i < length xs → P (slice_index_or xs i d)
every_at P [] i d e inside = absurd (omega arith)
every_at P (x ∷ xs) zero d e inside = e.0
every_at P (x ∷ xs) (suc i) d e inside = every_at P xs i d e.1 (omega arith)

-- the item of a receipt stands at its place
pub item_at : (items : List Item) (receipts : List Receipt) (i : ℕ) (d : Receipt) (w e : Item) → Every (λ (r : Receipt). r.index < length items) receipts → i < length receipts → w ≡ slice_index_or items (slice_index_or receipts i d).index e
    → slice_get items (slice_index_or receipts i d).index ≡ Some w
item_at items receipts i d w e places within is =
    slice_get-get_or items (slice_index_or receipts i d).index e (every_at (λ (r : Receipt). r.index < length items) receipts i d places within) ∙ ap Some (sym is)

-- one more receipt, one more line
pub lines_more : (items : List Item) (receipts : List Receipt) (i : ℕ) (d : Receipt) (w : Item) → i < length receipts → slice_get items (slice_index_or receipts i d).index ≡ Some w
    → receipt_lines items (take (i + 1) receipts) ≡ receipt_lines items (take i receipts) ++ receipt_line (slice_index_or receipts i d) w
lines_more items receipts i d w within at =
    let r = slice_index_or receipts i d in
    ap (receipt_lines items) (take_more receipts i d within) ∙ flat_map-append (of_its_place items) (take i receipts) (r ∷ []) ∙ ap (λ l. receipt_lines items (take i receipts) ++ l) (append-nil (of_its_place items r) ∙ ap (line_of r) at)

-- the first lines are a front of all
pub lines_front : (items : List Item) (receipts : List Receipt) (i k : ℕ) → (n : ℕ) × (take n (receipt_lines items receipts) ≡ take k (receipt_lines items (take i receipts)))
lines_front items receipts i k =
    let whole : receipt_lines items receipts ≡ receipt_lines items (take i receipts) ++ receipt_lines items (drop i receipts) = ap (receipt_lines items) (sym (take-append-drop i receipts)) ∙ flat_map-append (of_its_place items) (take i receipts) (drop i receipts) in
    let front = take_front k (receipt_lines items (take i receipts)) (receipt_lines items (drop i receipts)) in
    (front.0, ap (take front.0) whole ∙ front.1)

-- where the writer fails, a front of all lines is answered
pub lines_cut : (items : List Item) (receipts : List Receipt) (i k : ℕ) (before mid after : Option (List ℕ)) (waiting left : List ℕ) → Answered before mid waiting (receipt_lines items (take i receipts)) → Answered mid after left (take k waiting)
    → (n : ℕ) × Answered before after left (take n (receipt_lines items receipts))
lines_cut items receipts i k before mid after waiting left first second =
    let cut = answered_cut before mid after waiting left (receipt_lines items (take i receipts)) k first second in
    let front = lines_front items receipts i cut.0 in
    (front.0, subst (Answered before after left) (sym front.1) cut.1)

-- where a line has no room, so it is too
pub line_cut : (items : List Item) (receipts : List Receipt) (i k : ℕ) (d : Receipt) (w : Item) (before mid after : Option (List ℕ)) (waiting room left : List ℕ) → i < length receipts → slice_get items (slice_index_or receipts i d).index ≡ Some w
    → Answered before mid waiting (receipt_lines items (take i receipts)) → Answered mid after room waiting → Appends (Some room) (Some left) (take k (receipt_line (slice_index_or receipts i d) w)) → (n : ℕ) × Answered before after left (take n (receipt_lines items receipts))
line_cut items receipts i k d w before mid after waiting room left is at first second third =
    let r = slice_index_or receipts i d in
    let so_far = answered_on before mid after waiting room (receipt_lines items (take i receipts)) first second in
    let put : Answered before after left (receipt_lines items (take i receipts) ++ take k (receipt_line r w)) = answered_more before after room left (take k (receipt_line r w)) (receipt_lines items (take i receipts)) so_far third in
    let n = length (receipt_lines items (take i receipts)) + k in
    let front = lines_front items receipts (i + 1) n in
    (front.0, subst (Answered before after left) (sym (front.1 ∙ ap (take n) (lines_more items receipts i d w is at) ∙ take-append-add (receipt_lines items (take i receipts)) (receipt_line r w) k)) put)

-- one more line is answered
pub line_put : (items : List Item) (receipts : List Receipt) (i : ℕ) (d : Receipt) (w : Item) (before mid after : Option (List ℕ)) (waiting room more : List ℕ) → i < length receipts → slice_get items (slice_index_or receipts i d).index ≡ Some w
    → Answered before mid waiting (receipt_lines items (take i receipts)) → Answered mid after room waiting → Appends (Some room) (Some more) (receipt_line (slice_index_or receipts i d) w) → Answered before after more (receipt_lines items (take (i + 1) receipts))
line_put items receipts i d w before mid after waiting room more is at first second third =
    let r = slice_index_or receipts i d in
    subst (Answered before after more) (sym (lines_more items receipts i d w is at)) (answered_more before after room more (receipt_line r w) (receipt_lines items (take i receipts)) (answered_on before mid after waiting room (receipt_lines items (take i receipts)) first second) third)

-- ---- what is written

-- a front of a front of lines
front_of_front : (lines : List ℕ) (n m : ℕ) → (k : ℕ) × (take k lines ≡ take m (take n lines))
front_of_front lines n m = let front = take_front m (take n lines) (drop n lines) in (front.0, ap (take front.0) (sym (take-append-drop n lines)) ∙ front.1)

-- the lines that waited were not taken whole
pub lines_unsent : (lines : List ℕ) (outcome : Result (Unit {0}) Refusal) (before mid after : Option (List ℕ)) (waiting : List ℕ) (k : ℕ) → OnOk outcome (Answered before mid waiting lines)
    → OnErr outcome ((n : ℕ) × Answered before mid waiting (take n lines)) → Appends mid after (take k waiting) → (m : ℕ) × Appends before after (take m lines)
lines_unsent lines (Ok x) before mid after waiting k ok cut sent = answered_front before mid after waiting lines k ok sent
lines_unsent lines (Err e) before mid after waiting k ok cut sent =
    let some = answered_front before mid after waiting (take cut.0 lines) k cut.1 sent in
    let front = front_of_front lines cut.0 some.0 in
    (front.0, subst (Appends before after) (sym front.1) some.1)

-- the writer failed within the lines
pub tells_cut : (lines state : List ℕ) (end : Option Refusal) (before after : Option (List ℕ)) (e : Refusal) (k : ℕ) → e ≡ StreamFault → Appends before after (take k lines) → TellsBatch lines state end before after (Err e)
tells_cut lines state None before after e k fault written = let front = take_front k lines state in inr (fault, (front.0, subst (Appends before after) (sym front.1) written))
tells_cut lines state (Some end) before after e k fault written = inr (fault, (k, written))

-- the lines stand, and that of the state behind them, as far as it was written
pub tells_line : (lines state : List ℕ) (before mid after : Option (List ℕ)) (result : Result (Unit {0}) Refusal) → Appends before mid lines → AddsLine state mid after result → TellsBatch lines state None before after result
tells_line lines state before mid after (Ok x) written adds = Appends-trans before mid after lines state written adds
tells_line lines state before mid after (Err e) written adds = elim adds [
  | inl none ↦ inl (none.0, subst (Appends before after) (append-nil lines) (Appends-trans before mid after lines [] written none.1))
  | inr cut ↦ inr (cut.0, (length lines + cut.1.0, subst (Appends before after) (sym (take-append-add lines state cut.1.0)) (Appends-trans before mid after lines (take cut.1.0 state) written cut.1.1)))
]

-- the receipts of a batch are of places of it
pub places_within : (items : List Item) (position upto : ℕ) (history : List Judged) (receipts : List Receipt) → Every (IsTold items position upto history) receipts → Every (λ (r : Receipt). r.index < length items) receipts
places_within items position upto history [] told = tt
places_within items position upto history (r ∷ rs) told = (
  slice_get_within items r.index told.0.receipt.item told.0.receipt.at,
  places_within items position upto history rs told.1,
)

-- no batch ends as a stream that has failed
pub end_own : {D : Type 0} (old new : Replica D) (count : ℕ) (receipts : List Receipt) (end : Option Refusal) → IfSome end (EndedFor old count new receipts) → IfSome end (λ refusal. refusal ≢ StreamFault)
end_own old new count receipts None h = tt
end_own old new count receipts (Some e) (inl (is, stopped)) = λ same. absurd cc
end_own old new count receipts (Some e) (inr (inl (is, many), none)) = λ same. absurd cc
end_own old new count receipts (Some e) (inr (inr is, none)) = λ same. absurd cc
