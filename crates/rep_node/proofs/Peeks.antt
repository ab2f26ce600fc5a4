-- What a reader's peek says of a row, and a read that follows it.
use Rattle.std.proofs.Common.{◌≡◌, ◌⊎◌, inl, inr, ℕ, ◌+◌, ◌≤◌, Bool, true, false, nat_lt, if◌then◌else◌, Option, None, Some, Result, Ok, Err, IfErr, List, [], ◌∷◌, length, refl, sym, ap, subst, ◌∙◌, append-nil, arith, ltb-false}
use mathlib.Core.List.{IsPrefix}
use Rattle.rep_types.specs.declared.key.Key.{Key}
use Rattle.rep_types.specs.declared.judged.Judged.{Judged}
use Rattle.rep_types.specs.declared.refusal.Refusal.{Refusal}
use Rattle.rep_types.specs.declared.refusal.Refusal.TheVariants.{TooOld, NotYet, BadKey, Closed}
use Rattle.rep_types.specs.Order.{rows}
use Rattle.rep_types.specs.ByItems.{HistoryByItems}
use Rattle.rep_versions.specs.Following.{VersionsFollowTheItems}
use Rattle.rep_disk.specs.declared.disk.Disk.{Ghosts}
use Rattle.rep_stations.specs.Judging.{start_of}
use Rattle.rep_stations.specs.Orders.{HistoriesExtendTheOrder}
use Rattle.rep_snap.specs.declared.peek.Peek.{Peek}
use Rattle.rep_snap.specs.Lists.{IsFound, published, front_of, oldest_of, left, refused}
use Rattle.rep_snap.specs.Laws.{PeeksFollowTheFold, row_over, rows_at}
use Rattle.rep_snap.specs.Looks.{Looked, IsPeek}
use Rattle.rep_snap.specs.Views.{Watching}
use Rattle.rep_ordered.specs.declared.view.View.{View}
use Rattle.rep_ordered.specs.Views.{Later}
use Rattle.rep_ordered.specs.GoingLaws.{goes_later}
use Rattle.rep_node.specs.declared.home.Home.{Home}
use Rattle.rep_node.specs.declared.origin.Origin.{Origin}
use Rattle.rep_node.specs.Publishing.{AreShown}
use Rattle.rep_node.specs.Homes.{Start, Begins, position_of, values_of}
use Rattle.rep_node.specs.Seats.{IsSeat, SeesLegal, WentIdle}
use Rattle.rep_node.specs.Reading.{allowed, Answers, IsReaderOf, IsRowOf, Reads, Refuses, RefusesAsked}
use Rattle.rep_node.proofs.Standing.{of_the_start}
use Rattle.rep_node.proofs.Shown.{folded, front_of_shown, not_before}

-- ---- a snapshot that is not refused, and one that is

abbrev first_of_two : Bool → Bool → ℕ → ℕ → Option Refusal
first_of_two late early front oldest = if late then Some (NotYet front) else if early then Some (TooOld oldest) else None

none_of_two : (late early : Bool) (front oldest : ℕ) → first_of_two late early front oldest ≡ None → (late ≡ false) × (early ≡ false)
none_of_two true early front oldest is = absurd (let never : Some (NotYet front) ≡ None = is in cc)
none_of_two false true front oldest is = absurd (let never : Some (TooOld oldest) ≡ None = is in cc)
none_of_two false false front oldest is = (refl, refl)

is_between : (front oldest at : ℕ) → refused front oldest at ≡ None → (at ≤ front) × (oldest ≤ at)
is_between front oldest at h = let none = none_of_two (nat_lt front at) (nat_lt at oldest) front oldest h in (ltb-false front at none.0, ltb-false at oldest none.1)

-- ---- what the reader saw

-- a key that the reader knows to be outside the schema, or a peek of its list
abbrev pub Peeked : (Watching Origin → Type 0) → Watching Origin → Key → ℕ → Watching Origin → Result Peek Refusal → Type 0
Peeked shut r key at q peek = ((peek ≡ Err BadKey) × (q ≡ r)) ⊎ IsPeek allowed shut r key at q peek

module _ (shut : Watching Origin → Type 0) (r q : Watching Origin) (key : Key) (at : ℕ) where
  nothing_new : q ≡ r → IsPrefix r.seen q.seen
  nothing_new is = ([], append-nil r.seen ∙ sym (ap (λ (t : Watching Origin). t.seen) is))

  pub sees_more : (peek : Result Peek Refusal) → Peeked shut r key at q peek → IsPrefix r.seen q.seen
  sees_more peek (inl bad) = nothing_new bad.1
  sees_more peek (inr looked) = elim looked [ inl closed ↦ nothing_new closed.1 | inr seen ↦ seen.0.seen ]

  -- where the peek says something, the reader looked
  looked_so : (said : Peek) → Peeked shut r key at q (Ok said) → Looked allowed r q × ((refused (front_of q.start (published q.seen)) (oldest_of q.start q.seen) at ≡ None) × IsFound (left (oldest_of q.start q.seen) (published q.seen) key) at said)
  looked_so said (inl bad) = absurd (let never : Ok said ≡ Err BadKey = bad.0 in cc)
  looked_so said (inr looked) = elim looked [ inl closed ↦ absurd (let never : Ok said ≡ Err Closed = closed.0 in cc) | inr seen ↦ seen ]

module _ {D : Type 0} (g : Ghosts D) (v w : View (Home D) Judged) (shut : Watching Origin → Type 0) (r q : Watching Origin) (key : Key) (at : ℕ) where
  -- what a read comes to
  pub reads_so : (peek : Result Peek Refusal) (answer : Result (Option (List ℕ)) Refusal) → Peeked shut r key at q peek → Answers g v w key at peek answer → Reads g v w key at shut r q answer
  reads_so peek answer (inl bad) h = let told = subst (λ (z : Result Peek Refusal). Answers g v w key at z answer) bad.0 h in inl (told.0, bad.1, told.1)
  reads_so peek answer (inr looked) h = inr (peek, looked, h)

  -- what it says where the engine refuses
  asked_refuses : (e : Refusal) → RefusesAsked g v w key at e → Refuses g v w key at shut r q e
  asked_refuses BadKey h = absurd h
  asked_refuses Closed h = absurd h
  asked_refuses (NotYet durable) h = (h.0, inr h.1)
  asked_refuses e h = h

  pub refuses_as_asked : (answer : Result (Option (List ℕ)) Refusal) → IfErr answer (RefusesAsked g v w key at) → IfErr answer (Refuses g v w key at shut r q)
  refuses_as_asked (Ok x) h = tt
  refuses_as_asked (Err e) h = asked_refuses e h

module _ {D : Type 0} (g : Ghosts D) (v : View (Home D) Judged) (seat : IsSeat g v) (r : Watching Origin) (own : IsReaderOf v r) where
  -- the certifier that the reader's lists go on from
  pub origin_of : (s : Start D) → v.first ≡ values_of s → r.basis.certifier.log ≡ s.certifier ∷ []
  origin_of s first = ap (λ (o : Origin). o.certifier.log) (own s first).1 ∙ (of_the_start (Begins g) v.first seat.start seat.first seat.begins s first).origin

  module _ (folds : PeeksFollowTheFold) (versions : VersionsFollowTheItems) (by_items : HistoryByItems) (extend : HistoriesExtendTheOrder g) (w : View (Home D) Judged) (shut : Watching Origin → Type 0) (q : Watching Origin) (key : Key) (at : ℕ) where
    -- what it says of a row is the row of what it saw
    pub row_shown : (said : Peek) → Peeked shut r key at q (Ok said) → (x : Option (List ℕ)) → ((below : Option (List ℕ)) → x ≡ row_over below said) → (s : Start D) → v.first ≡ values_of s → IsRowOf g s w q key at x
    row_shown said peeked x says s first =
        let c = s.certifier.current in
        let oldest = oldest_of q.start q.seen in
        let looked = looked_so shut r q key at said peeked in
        let are : AreShown c (published q.seen) = looked.0.allowed s.certifier (ap (λ (t : Watching Origin). t.basis.certifier.log) looked.0.same ∙ origin_of s first) in
        let start : q.start ≡ position_of s = ap (λ (t : Watching Origin). t.start) looked.0.same ∙ (own s first).2 in
        let range = is_between (front_of q.start (published q.seen)) oldest at looked.1.0 in
        let high = range.0 in
        let low = range.1 in
        let since = not_before q.start q.seen in
        let long : front_of q.start (published q.seen) ≡ position_of s + length are.items = (λ i. front_of (start i) (are.are i)) ∙ front_of_shown c.setting (start_of c) are.items are.legal in
        record {
          items = are.items;
          legal = are.legal;
          known = inl are.are;
          reaches = omega (arith, long, high);
          row = λ L n of starts.
              says (rows_at (rows c.setting L) (published q.seen) oldest key)
              ∙ sym (folds.row (rows c.setting L) q.start oldest at (published q.seen) key said looked.0.ascends low looked.1.1)
              ∙ ap (λ pairs. rows_at (rows c.setting L) pairs at key) are.are
              ∙ folded versions by_items g extend L n s.desk.engine c of starts are.items key at are.legal (omega (arith, low, since, start));
        }

-- ---- the seat

-- who only learns something was idle
pub idle_look : {D : Type 0} (v w : View (Home D) Judged) → Later v w → SeesLegal v w → v.held ≡ [] → WentIdle v w
idle_look v w later sees free = (
  record { goes = goes_later v w later; free = ap (λ (z : View (Home _) Judged). z.held) later.same ∙ free },
  ap (λ (z : View (Home _) Judged). z.own) later.same,
  ap (λ (z : View (Home _) Judged). z.joined) later.same,
  sees,
)
