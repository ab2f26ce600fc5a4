-- How far the judging of a text has come, and how it ends.
use Rattle.std.proofs.Common.{◌≡◌, ℕ, ◌+◌, true, false, List, [], ◌∷◌, ◌++◌, length, take, drop, Option, None, Some, Result, Ok, Err, IfSome, refl, sym, ap, subst, ◌∙◌, arith, append_assoc, append-nil, inl, inr}
use Rattle.std.proofs.lemmas.Bool.{cases_lt}
use Rattle.std.specs.Prelude.{◌⊎◌, IsSomeAnd}
use Rattle.std.specs.Io.KnownBytes.{Appends}
use Rattle.std.proofs.KnownBytes.{Appends-nil}
use Rattle.std.proofs.lemmas.List.{take_all, take-append-drop, take-append-le}
use Rattle.std.proofs.Math.Seq.{take-append_seam, take-append-add}
use Rattle.std.proofs.lemmas.List.Concat.{flat_map-append}
use Rattle.rep_types.specs.declared.item.Item.{Item}
use Rattle.rep_types.specs.declared.refusal.Refusal.{Refusal}
use Rattle.rep_types.specs.declared.refusal.Refusal.TheVariants.{OutOfMemory, StreamFault, Malformed}
use Rattle.rep_types.specs.Settings.{Setting}
use Rattle.rep_types.specs.Order.{Order, history}
use Rattle.rep_types.proofs.Histories.{take_history, history_push_judged}
use Rattle.rep_cert.specs.Holdings.{Holding}
use Rattle.rep_cert.specs.Following.{Follows}
use Rattle.rep_record.specs.Lines.{Unread, ahead, NextLine}
use Rattle.rep_record.specs.Reading.{order_line}
use Rattle.rep_script.specs.Judging.{Delivered, Reading, JudgesNext, reading_of, items_ahead, with_line, content, line_of, verdict_lines, judged_text, next_verdict_line, Ends, EndsBy, JudgesLine, ReadsParams, refused, text_ahead, reading}
use Rattle.rep_script.specs.ScriptLines.{script_line}
use Rattle.rep_script.specs.Answering.{Answered}
use Rattle.rep_script.proofs.Answering.{nothing_answered, answered_on, answered_cut, answered_more, answered_all, answered_front}
use Rattle.rep_script.proofs.Stepping.{said_end, said_refused, said_step}

-- the items of an order, and then those of a text
abbrev pub with_front : Order → Order × Option Refusal → Order × Option Refusal
with_front L items = (L ++ items.0, items.1)

-- Of this text, which was ahead at the start, the node's items are judged and answered, and the rest is ahead.
pub record HasJudged (text : List ℕ) (first : Unread) (p : Setting) (node : Delivered) (u : Unread) (left before after : Option (List ℕ)) (waiting : List ℕ) : Type 0 where
  pub setting : node.setting ≡ p
  pub items : IsSomeAnd left (λ rest. items_ahead first text ≡ with_front node.order (items_ahead u rest))
  pub written : Answered before after waiting (verdict_lines (history node.setting node.order))

-- It is so of the items that a certifier follows.
abbrev pub HasCertified : List ℕ → Unread → Setting → Holding → Unread → Option (List ℕ) → Option (List ℕ) → Option (List ℕ) → List ℕ → Type 0
HasCertified text first p holds u left before after waiting =
    (L : Order) × Follows holds L × HasJudged text first p (record { setting = holds.setting; order = L }) u left before after waiting

-- at the start nothing is judged
pub judged_none : (start before : Option (List ℕ)) (u : Unread) (holds : Holding) (waiting : List ℕ) → Follows holds [] → waiting ≡ [] →
    IfSome start (λ text. HasCertified text u holds.setting holds u start before before waiting)
judged_none None before u holds waiting follows idle = tt
judged_none (Some text) before u holds waiting follows idle =
    ([], follows, record { setting = refl; items = refl; written = subst (λ w. Answered before before w []) (sym idle) (nothing_answered before) })

-- the first items of a longer order have the same history
pub take_longer : (p : Setting) (L M : Order) → take (length L) (history p (L ++ M)) ≡ history p L
take_longer p L M = take_history p (L ++ M) (length L) ∙ ap (history p) (take-append_seam L M)

-- the verdict lines of a longer order begin with those of the order
pub verdict_lines_longer : (p : Setting) (L M : Order) → (more : List ℕ) × (verdict_lines (history p (L ++ M)) ≡ verdict_lines (history p L) ++ more)
verdict_lines_longer p L M =
    let whole : history p (L ++ M) ≡ history p L ++ drop (length L) (history p (L ++ M)) =
    sym (take-append-drop (length L) (history p (L ++ M))) ∙ ap (λ h. h ++ drop (length L) (history p (L ++ M))) (take_longer p L M) in
    (verdict_lines (drop (length L) (history p (L ++ M))), ap verdict_lines whole ∙ flat_map-append line_of (history p L) (drop (length L) (history p (L ++ M))))

-- one more item, one more verdict line
pub verdict_lines_push : (p : Setting) (L : Order) (i : Item) →
    verdict_lines (history p (L ++ i ∷ [])) ≡ verdict_lines (history p L) ++ next_verdict_line (record { setting = p; order = L }) i
verdict_lines_push p L i =
    ap verdict_lines (history_push_judged p L i) ∙ (flat_map-append line_of (history p L) _ ∙ ap (λ l. verdict_lines (history p L) ++ l) (append-nil (next_verdict_line (record { setting = p; order = L }) i)))

-- a front of a list is one of a longer list
pub take_front : (k : ℕ) (ys zs : List ℕ) → (n : ℕ) × (take n (ys ++ zs) ≡ take k ys)
take_front k ys zs = elim (cases_lt k (length ys)) [
  | inl short ↦ (k, take-append-le k ys zs (omega arith))
  | inr long ↦ (length ys, take-append_seam ys zs ∙ sym (take_all k ys (omega arith)))
]

-- at the text's first fault, whichever it is, all verdict lines are written
pub ends_at_fault : (r : Reading Item) (IsAnswered : List ℕ → Type 0) (refusal : Refusal) → r.fault ≡ Some refusal → IsAnswered (judged_text r) → EndsBy r IsAnswered (Err refusal)
ends_at_fault r IsAnswered refusal fault written =
    elim refusal as (λ e. r.fault ≡ Some e → EndsBy r IsAnswered (Err e)) [
      | OutOfMemory ↦ λ _. (length (history r.setting r.order), rw (take_all (length (history r.setting r.order)) (history r.setting r.order) (omega arith)) written)
      | StreamFault ↦ λ _. (length (judged_text r), rw (take_all (length (judged_text r)) (judged_text r) (omega arith)) written)
      | _ ↦ λ e. (e, written)
    ] fault

-- a stream that fails after some items, of whose lines a front is written
pub ends_stream_fault : (p : Setting) (L M : Order) (fault : Option Refusal) (n : ℕ) (IsAnswered : List ℕ → Type 0) → IsAnswered (take n (verdict_lines (history p L))) →
    EndsBy (reading_of p (L ++ M, fault)) IsAnswered (Err StreamFault)
ends_stream_fault p L M fault n IsAnswered written =
    let longer = verdict_lines_longer p L M in
    let front = take_front n (verdict_lines (history p L)) longer.0 in
    (front.0, rw (longer.1, front.1) written)

-- a stream that fails within the next line
pub ends_within_line : (p : Setting) (L : Order) (i : Item) (M : Order) (fault : Option Refusal) (k : ℕ) (IsAnswered : List ℕ → Type 0) →
    IsAnswered (verdict_lines (history p L) ++ take k (next_verdict_line (record { setting = p; order = L }) i)) →
    EndsBy (reading_of p (L ++ i ∷ M, fault)) IsAnswered (Err StreamFault)
ends_within_line p L i M fault k IsAnswered written =
    let before_lines = verdict_lines (history p L) in
    let next = next_verdict_line (record { setting = p; order = L }) i in
    let longer = verdict_lines_longer p (L ++ i ∷ []) M in
    let front = take_front k next longer.0 in
    let whole : verdict_lines (history p (L ++ i ∷ M)) ≡ before_lines ++ (next ++ longer.0) =
    ap (λ items. verdict_lines (history p items)) (sym (append_assoc L (i ∷ []) M)) ∙ (longer.1 ∙ (ap (λ l. l ++ longer.0) (verdict_lines_push p L i) ∙ append_assoc before_lines next longer.0)) in
    (length before_lines + front.0, rw (whole, take-append-add before_lines (next ++ longer.0) front.0, front.1) written)

-- any refusal but a stream fault
unless_fault : (at : ℕ) (mid after : Option (List ℕ)) (rest waiting : List ℕ) → ((Malformed at ≡ StreamFault) ⊎ Answered mid after rest waiting) → Answered mid after rest waiting
unless_fault at mid after rest waiting (inl same) = cc
unless_fault at mid after rest waiting (inr moved) = moved

-- a call of next_line that refuses ends the judging
refused_ends : (text : List ℕ) (left left' : Option (List ℕ)) (first u new : Unread) (p : Setting) (node : Delivered) (refusal : Refusal) (line : List ℕ) (before mid after : Option (List ℕ)) (waiting rest : List ℕ) →
    HasJudged text first p node u (ahead u left) before mid waiting → IfSome left (λ known. NextLine (u.pending ++ known) u (Err refusal) new left' line) →
    ((k : ℕ) × Answered mid after rest (take k waiting)) → ((refusal ≡ StreamFault) ⊎ Answered mid after rest waiting) →
    EndsBy (reading_of p (items_ahead first text)) (Answered before after rest) (Err refusal)
refused_ends text None left' first u new p node refusal line before mid after waiting rest h next cut sent = absurd h.items
refused_ends text (Some known) left' first u new p node refusal line before mid after waiting rest h next cut sent =
    elim refusal as (λ e. NextLine (u.pending ++ known) u (Err e) new left' line → ((e ≡ StreamFault) ⊎ Answered mid after rest waiting) → EndsBy (reading_of p (items_ahead first text)) (Answered before after rest) (Err e)) [
      | StreamFault ↦ λ _ _. let front = answered_cut before mid after waiting rest (verdict_lines (history node.setting node.order)) cut.0 h.written cut.1 in
          rw (h.items, ← h.setting) (ends_stream_fault node.setting node.order (items_ahead u (u.pending ++ known)).0 (items_ahead u (u.pending ++ known)).1 front.0 (Answered before after rest) front.1)
      | Malformed at ↦ λ r moved. rw (h.items, said_refused order_line (u.pending ++ known) u (Malformed at) r, ← h.setting)
          (ends_at_fault (reading_of node.setting (node.order ++ [], Some (Malformed at))) (Answered before after rest) (Malformed at) refl
          (rw append-nil (answered_on before mid after waiting rest (verdict_lines (history node.setting node.order)) h.written (unless_fault at mid after rest waiting moved))))
      | _ ↦ λ never _. absurd never
    ] next sent

pub judged_refused : (start left left' : Option (List ℕ)) (first u new : Unread) (p : Setting) (holds : Holding) (refusal : Refusal) (line : List ℕ) (before mid after : Option (List ℕ)) (waiting rest : List ℕ) →
    IfSome start (λ text. HasCertified text first p holds u (ahead u left) before mid waiting) → IfSome left (λ known. NextLine (u.pending ++ known) u (Err refusal) new left' line) →
    ((k : ℕ) × Answered mid after rest (take k waiting)) → ((refusal ≡ StreamFault) ⊎ Answered mid after rest waiting) →
    IfSome start (λ text. EndsBy (reading_of p (items_ahead first text)) (Answered before after rest) (Err refusal))
judged_refused None left left' first u new p holds refusal line before mid after waiting rest h next cut sent = tt
judged_refused (Some text) left left' first u new p holds refusal line before mid after waiting rest (L, _, h) next cut sent =
    refused_ends text left left' first u new p (record { setting = holds.setting; order = L }) refusal line before mid after waiting rest h next cut sent

-- the end of the text ends the judging
pub judged_all : (start left left' : Option (List ℕ)) (first u new : Unread) (p : Setting) (holds : Holding) (line : List ℕ) (before mid after : Option (List ℕ)) (waiting rest : List ℕ) →
    IfSome start (λ text. HasCertified text first p holds u (ahead u left) before mid waiting) → IfSome left (λ known. NextLine (u.pending ++ known) u (Ok false) new left' line) →
    Answered mid after rest waiting → IfSome start (λ text. EndsBy (reading_of p (items_ahead first text)) (Answered before after rest) (Ok tt))
judged_all None left left' first u new p holds line before mid after waiting rest h next sent = tt
judged_all (Some text) None left' first u new p holds line before mid after waiting rest (L, _, h) next sent = absurd h.items
judged_all (Some text) (Some known) left' first u new p holds line before mid after waiting rest (L, _, h) next sent =
    rw (h.items, next.none, said_end order_line u, ← h.setting)
    (refl, rw append-nil (answered_on before mid after waiting rest (verdict_lines (history holds.setting L)) h.written sent))

-- what one line leads to, by what it says
judged_content : (text : List ℕ) (left' : Option (List ℕ)) (rest : List ℕ) (first new : Unread) (p : Setting) (node node' : Delivered) (c : Option (Result Item Refusal)) (before after : Option (List ℕ)) (waiting more : List ℕ) →
    node.setting ≡ p → items_ahead first text ≡ with_front node.order (with_line c (items_ahead new rest)) → ahead new left' ≡ Some rest →
    Answered before after waiting (verdict_lines (history node.setting node.order)) → JudgesLine node c (Ok tt) node' (Some waiting) (Some more) →
    HasJudged text first p node' new (ahead new left') before after more
judged_content text left' rest first new p node node' None before after waiting more setting items ahead_is written (_, same, kept) = record {
  setting = ap (λ (d : Delivered). d.setting) same ∙ setting;
  items = rw (ahead_is, same) items;
  written = rw same (rw append-nil at (answered_more before after waiting more [] (verdict_lines (history node.setting node.order)) written kept));
}
judged_content text left' rest first new p node node' (Some (Err e)) before after waiting more setting items ahead_is written (is, kept) = cc
judged_content text left' rest first new p node node' (Some (Ok i)) before after waiting more setting items ahead_is written (grown, added) = record {
  setting = ap (λ (d : Delivered). d.setting) grown ∙ setting;
  items = rw (ahead_is, grown) (items ∙ ap (λ order. (order, (items_ahead new rest).1)) (sym (append_assoc node.order (i ∷ []) (items_ahead new rest).0)));
  written = rw (grown, verdict_lines_push node.setting node.order i)
      (answered_more before after waiting more (next_verdict_line node i) (verdict_lines (history node.setting node.order)) written added);
}

-- one more line was judged
pub judged_more : (start left left' : Option (List ℕ)) (first u new : Unread) (p : Setting) (holds holds' : Holding) (line : List ℕ) (before mid after : Option (List ℕ)) (waiting rest more : List ℕ) →
    IfSome start (λ text. HasCertified text first p holds u (ahead u left) before mid waiting) →
    IfSome left (λ known. NextLine (u.pending ++ known) u (Ok true) new left' line) → new.number ≡ u.number + 1 → Answered mid after rest waiting →
    ((L : Order) → Follows holds L → JudgesNext holds L (content order_line new.number line) (Ok tt) holds' (Some rest) (Some more)) →
    IfSome start (λ text. HasCertified text first p holds' new (ahead new left') before after more)
judged_more None left left' first u new p holds holds' line before mid after waiting rest more h next numbered sent judges = tt
judged_more (Some text) None left' first u new p holds holds' line before mid after waiting rest more (L, _, h) next numbered sent judges = absurd h.items
judged_more (Some text) (Some known) left' first u new p holds holds' line before mid after waiting rest more (L, follows, h) next numbered sent judges =
    let node : Delivered = record { setting = holds.setting; order = L } in
    let judged = judges L follows in (
      judged.0,
      judged.1,
      judged_content text left' next.rest first new p node (record { setting = holds'.setting; order = judged.0 }) (content order_line new.number line) before after rest more h.setting
          (h.items ∙ ap (with_front L) (said_step order_line (u.pending ++ known) u new left' line next numbered)) next.ahead_is
          (answered_on before mid after waiting rest (verdict_lines (history holds.setting L)) h.written sent) judged.2,
    )

-- how a line ends the judging, by what it says
line_ends : (text : List ℕ) (later : Order × Option Refusal) (first : Unread) (node node' : Delivered) (c : Option (Result Item Refusal)) (refusal : Refusal) (before after : Option (List ℕ)) (waiting more : List ℕ) →
    items_ahead first text ≡ with_front node.order (with_line c later) →
    Answered before after waiting (verdict_lines (history node.setting node.order)) → JudgesLine node c (Err refusal) node' (Some waiting) (Some more) →
    EndsBy (reading_of node.setting (items_ahead first text)) (Answered before after more) (Err refusal)
line_ends text later first node node' None refusal before after waiting more items written (is, same, kept) = cc
line_ends text later first node node' (Some (Err e)) refusal before after waiting more items written (is, kept) =
    let fault : Some e ≡ Some refusal = cc in
    subst (λ found. EndsBy (reading_of node.setting found) (Answered before after more) (Err refusal)) (sym items)
    (ends_at_fault (reading_of node.setting (node.order ++ [], Some e)) (Answered before after more) refusal fault
    (rw append-nil (rw append-nil at (answered_more before after waiting more [] (verdict_lines (history node.setting node.order)) written kept))))
line_ends text later first node node' (Some (Ok i)) refusal before after waiting more items written judges =
    subst (λ found. EndsBy (reading_of node.setting found) (Answered before after more) (Err refusal)) (sym items) (elim refusal as (λ e. JudgesLine node (Some (Ok i)) (Err e) node' (Some waiting) (Some more) → EndsBy (reading_of node.setting (with_front node.order (i ∷ later.0, later.1))) (Answered before after more) (Err e)) [
      | StreamFault ↦ λ cut. ends_within_line node.setting node.order i later.0 later.1 cut.0 (Answered before after more)
          (answered_more before after waiting more (take cut.0 (next_verdict_line node i)) (verdict_lines (history node.setting node.order)) written cut.1)
      | _ ↦ λ never. absurd never
    ] judges)

-- a line that is refused, or that could not be judged or answered, ends the judging
pub judged_line_ends : (start left left' : Option (List ℕ)) (first u new : Unread) (p : Setting) (holds holds' : Holding) (refusal : Refusal) (line : List ℕ) (before mid after : Option (List ℕ)) (waiting rest more : List ℕ) →
    IfSome start (λ text. HasCertified text first p holds u (ahead u left) before mid waiting) →
    IfSome left (λ known. NextLine (u.pending ++ known) u (Ok true) new left' line) → new.number ≡ u.number + 1 → Answered mid after rest waiting →
    ((L : Order) → Follows holds L → JudgesNext holds L (content order_line new.number line) (Err refusal) holds' (Some rest) (Some more)) →
    IfSome start (λ text. EndsBy (reading_of p (items_ahead first text)) (Answered before after more) (Err refusal))
judged_line_ends None left left' first u new p holds holds' refusal line before mid after waiting rest more h next numbered sent judges = tt
judged_line_ends (Some text) None left' first u new p holds holds' refusal line before mid after waiting rest more (L, _, h) next numbered sent judges = absurd h.items
judged_line_ends (Some text) (Some known) left' first u new p holds holds' refusal line before mid after waiting rest more (L, follows, h) next numbered sent judges =
    let node : Delivered = record { setting = holds.setting; order = L } in
    let judged = judges L follows in
    subst (λ s. EndsBy (reading_of s (items_ahead first text)) (Answered before after more) (Err refusal)) h.setting
    (line_ends text (items_ahead new next.rest) first node (record { setting = holds'.setting; order = judged.0 }) (content order_line new.number line) refusal before after rest more
    (h.items ∙ ap (with_front L) (said_step order_line (u.pending ++ known) u new left' line next numbered))
    (answered_on before mid after waiting rest (verdict_lines (history holds.setting L)) h.written sent) judged.2)

-- ---- the answers that wait are written at the end

-- what is so of all that is answered
ends_map : (r : Reading Item) (P Q : List ℕ → Type 0) (result : Result (Unit {0}) Refusal) → ((bytes : List ℕ) → P bytes → Q bytes) → EndsBy r P result → EndsBy r Q result
ends_map r P Q (Ok _) f ends = (ends.0, f (judged_text r) ends.1)
ends_map r P Q (Err refusal) f ends =
    elim refusal as (λ e. EndsBy r P (Err e) → EndsBy r Q (Err e)) [
      | OutOfMemory ↦ λ e. (e.0, f (verdict_lines (take e.0 (history r.setting r.order))) e.1)
      | StreamFault ↦ λ e. (e.0, f (take e.0 (judged_text r)) e.1)
      | _ ↦ λ e. (e.0, f (judged_text r) e.1)
    ] ends

-- the verdict lines of some first items are a front of all
lines_front : (r : Reading Item) (k : ℕ) → (n : ℕ) × (take n (judged_text r) ≡ verdict_lines (take k (history r.setting r.order)))
lines_front r k =
    let h = history r.setting r.order in
    let whole : judged_text r ≡ verdict_lines (take k h) ++ verdict_lines (drop k h) =
    ap verdict_lines (sym (take-append-drop k h)) ∙ flat_map-append line_of (take k h) (drop k h) in
    (length (verdict_lines (take k h)), ap (take (length (verdict_lines (take k h)))) whole ∙ take-append_seam (verdict_lines (take k h)) (verdict_lines (drop k h)))

-- what is answered is a front of all verdict lines, however it ended
ends_front : (r : Reading Item) (P : List ℕ → Type 0) (result : Result (Unit {0}) Refusal) → EndsBy r P result → (n : ℕ) × P (take n (judged_text r))
ends_front r P (Ok _) ends = (length (judged_text r), rw (take_all (length (judged_text r)) (judged_text r) (omega arith)) ends.1)
ends_front r P (Err refusal) ends =
    elim refusal as (λ e. EndsBy r P (Err e) → (n : ℕ) × P (take n (judged_text r))) [
      | OutOfMemory ↦ λ e. let front = lines_front r e.0 in (front.0, subst P (sym front.1) e.1)
      | StreamFault ↦ λ e. e
      | _ ↦ λ e. (length (judged_text r), rw (take_all (length (judged_text r)) (judged_text r) (omega arith)) e.1)
    ] ends

-- all that waited was written
pub ends_sent : (r : Reading Item) (before mid after : Option (List ℕ)) (waiting : List ℕ) (result : Result (Unit {0}) Refusal) → EndsBy r (Answered before mid waiting) result → Appends mid after waiting →
    Ends r before after result
ends_sent r before mid after waiting result ends sent =
    ends_map r (Answered before mid waiting) (Appends before after) result (λ bytes answered. answered_all before mid after waiting bytes answered sent) ends

-- the writer failed
pub ends_unsent : (r : Reading Item) (before mid after : Option (List ℕ)) (waiting : List ℕ) (result : Result (Unit {0}) Refusal) → EndsBy r (Answered before mid waiting) result →
    ((k : ℕ) × Appends mid after (take k waiting)) → Ends r before after (Err StreamFault)
ends_unsent r before mid after waiting result ends cut =
    let front = ends_front r (Answered before mid waiting) result ends in
    let written = answered_front before mid after waiting (take front.0 (judged_text r)) cut.0 front.1 cut.1 in
    let shorter = take_front written.0 (take front.0 (judged_text r)) (drop front.0 (judged_text r)) in
    let whole : take shorter.0 (judged_text r) ≡ take written.0 (take front.0 (judged_text r)) =
    ap (take shorter.0) (sym (take-append-drop front.0 (judged_text r))) ∙ shorter.1 in
    (shorter.0, subst (Appends before after) (sym whole) written.1)

-- the rest of a text whose verdict lines were all written
pub items_sent : (start : Option (List ℕ)) (first : Unread) (p : Setting) (result : Result (Unit {0}) Refusal) (before mid after : Option (List ℕ)) (waiting : List ℕ) →
    IfSome start (λ text. EndsBy (reading_of p (items_ahead first text)) (Answered before mid waiting) result) → Appends mid after waiting →
    IfSome start (λ text. Ends (reading_of p (items_ahead first text)) before after result)
items_sent None first p result before mid after waiting ends sent = tt
items_sent (Some text) first p result before mid after waiting ends sent = ends_sent (reading_of p (items_ahead first text)) before mid after waiting result ends sent

-- the rest of a text whose last verdict lines the writer did not take
pub items_unsent : (start : Option (List ℕ)) (first : Unread) (p : Setting) (outcome result : Result (Unit {0}) Refusal) (refusal : Refusal) (before mid after : Option (List ℕ)) (waiting : List ℕ) →
    result ≡ Err refusal → refusal ≡ StreamFault → IfSome start (λ text. EndsBy (reading_of p (items_ahead first text)) (Answered before mid waiting) outcome) →
    ((k : ℕ) × Appends mid after (take k waiting)) → IfSome start (λ text. Ends (reading_of p (items_ahead first text)) before after result)
items_unsent None first p outcome result refusal before mid after waiting is fault ends cut = tt
items_unsent (Some text) first p outcome result refusal before mid after waiting is fault ends cut =
    subst (λ e. Ends (reading_of p (items_ahead first text)) before after e) (sym (is ∙ ap Err fault)) (ends_unsent (reading_of p (items_ahead first text)) before mid after waiting outcome ends cut)

-- a text whose params line is not read ends with that
pub ends_unread : (text : List ℕ) (first new : Unread) (left before : Option (List ℕ)) (refusal : Refusal) → ReadsParams order_line text first (Err refusal) new left →
    Ends (text_ahead order_line first text) before before (Err refusal)
ends_unread text first new left before refusal reads =
    elim refusal as (λ e. ReadsParams order_line text first (Err e) new left → Ends (text_ahead order_line first text) before before (Err e)) [
      | OutOfMemory ↦ λ e. rw e (ends_at_fault (refused OutOfMemory) (Appends before before) OutOfMemory refl (Appends-nil before))
      | StreamFault ↦ λ _. (0, Appends-nil before)
      | _ ↦ λ e. rw e (refl, Appends-nil before)
    ] reads

-- a text whose params line is read ends as its items do
pub ends_read : (text : List ℕ) (first new : Unread) (left before after : Option (List ℕ)) (p : Setting) (result : Result (Unit {0}) Refusal) → ReadsParams order_line text first (Ok p) new left →
    IfSome (ahead new left) (λ rest. Ends (reading_of p (items_ahead new rest)) before after result) → Ends (text_ahead order_line first text) before after result
ends_read text first new None before after p result reads ends = absurd reads
ends_read text first new (Some known) before after p result reads ends =
    subst (λ r. Ends r before after result) (sym reads) ends

-- where a reader of lines stands before it has read
abbrev pub at_start : Unread
at_start = record { pending = []; taken = 0; number = 0 }

-- a whole text whose params line is not read
pub text_unread : (left left' before : Option (List ℕ)) (u new : Unread) (refusal : Refusal) → u ≡ at_start → IfSome (ahead u left) (λ known. ReadsParams order_line known u (Err refusal) new left' × ReadsParams script_line known u (Err refusal) new left') →
    IfSome left (λ text. Ends (reading text) before before (Err refusal))
text_unread None left' before u new refusal is reads = tt
text_unread (Some text) left' before u new refusal is reads =
    ends_unread text at_start new left' before refusal (subst (λ (v : Unread). ReadsParams order_line (v.pending ++ text) v (Err refusal) new left') is reads.0)

-- where no memory is left for a certifier, nothing is written
pub none_judged : (start : Option (List ℕ)) (u : Unread) (p : Setting) (before : Option (List ℕ)) →
    IfSome start (λ rest. Ends (reading_of p (items_ahead u rest)) before before (Err OutOfMemory))
none_judged None u p before = tt
none_judged (Some rest) u p before = (0, Appends-nil before)

-- a whole text whose params line is read, and whose items are judged
pub text_read : (left left' before after : Option (List ℕ)) (u new : Unread) (p : Setting) (result : Result (Unit {0}) Refusal) → u ≡ at_start →
    IfSome (ahead u left) (λ known. ReadsParams order_line known u (Ok p) new left' × ReadsParams script_line known u (Ok p) new left') →
    IfSome (ahead new left') (λ rest. Ends (reading_of p (items_ahead new rest)) before after result) →
    IfSome left (λ text. Ends (reading text) before after result)
text_read None left' before after u new p result is reads ends = tt
text_read (Some text) left' before after u new p result is reads ends =
    ends_read text at_start new left' before after p result (subst (λ (v : Unread). ReadsParams order_line (v.pending ++ text) v (Ok p) new left') is reads.0) ends
