-- What calls leave of a node, its one seat and its one reader.
use Rattle.std.proofs.Common.{◌≡◌, ℕ, ◌<◌, ◌≤◌, Option, Some, None, List, [], ◌∷◌, ◌++◌, length, ap, sym, refl, ◌∙◌, subst, arith, length-append}
use Rattle.std.specs.Prelude.{All, MatchOption, Result, slice_index_or}
use Rattle.atomic_table.specs.Seated.{TableId}
use Rattle.rep_types.specs.declared.judged.Judged.{Judged}
use Rattle.rep_types.specs.declared.key.Key.{Key}
use Rattle.rep_types.specs.declared.refusal.Refusal.{Refusal}
use Rattle.rep_disk.specs.declared.disk.Disk.{Ghosts}
use Rattle.rep_cert.specs.Holdings.{Holdings}
use Rattle.rep_replica.specs.Replicas.{Replica}
use Rattle.rep_session.specs.Sessions.{Progress, after_read}
use Rattle.rep_snap.specs.declared.change.Change.{Change}
use Rattle.rep_snap.specs.Views.{Watching, watching}
use Rattle.rep_ordered.specs.declared.view.View.{View}
use Rattle.rep_ordered.specs.Going.{Goes, Went}
use Rattle.rep_ordered.specs.GoingLaws.{goes_later, goes_shared}
use Rattle.rep_ordered.specs.Seats.{Place, seat_of}
use Rattle.rep_ordered.specs.Steps.{Learns}
use Rattle.rep_ordered.specs.Views.{HasAll, Later, both, given, giving, opened}
use Rattle.rep_node.specs.declared.home.Desk.{Desk}
use Rattle.rep_node.specs.declared.home.Home.{Home}
use Rattle.rep_node.specs.declared.home.Home.TheVariants.{Certifier as AtFirst, Desk as AtSecond}
use Rattle.rep_node.specs.declared.origin.Origin.{Origin}
use Rattle.rep_node.specs.Ending.{StartsFrom}
use Rattle.rep_node.specs.Homes.{Start, common_in, durable_in, position_of, values_of}
use Rattle.rep_node.specs.Reading.{IsReaderOf}
use Rattle.rep_node.specs.Rows.{Beside, ReadsBeside}
use Rattle.rep_node.specs.Seats.{WentIdle}
use Rattle.test_node.specs.Running.{HasReader, Runs}

-- ---- a node was started with one thing

abbrev certifier_in : {D : Type 0} → Start D → List (Home D) → Holdings
certifier_in s (AtFirst c ∷ more) = c
certifier_in s homes = s.certifier

abbrev desk_in : {D : Type 0} → Start D → List (Home D) → Desk D
desk_in s (a ∷ AtSecond d ∷ more) = d
desk_in s homes = s.desk

module _ {D : Type 0} (first : List (Home D)) (s t : Start D) (p : first ≡ values_of s) (q : first ≡ values_of t) where
  same_desk : s.desk ≡ t.desk
  same_desk = ap (desk_in s) (sym p ∙ q)

  same_position : position_of s ≡ position_of t
  same_position = ap (λ (homes : List (Home D)). (certifier_in s homes).current.delivered) (sym p ∙ q)

-- ---- what holds of all holds of the last

at_end : {A : Type 0} (ys : List A) (x d : A) → slice_index_or (ys ++ x ∷ []) (length ys) d ≡ x
at_end [] x d = refl
at_end (y ∷ ys) x d = at_end ys x d

last_too : {A : Type 0} (P : A → Type 0) (xs ys : List A) (x : A) → xs ≡ ys ++ x ∷ [] → All P xs → P x
last_too P xs ys x is all = let within : length ys < length (ys ++ x ∷ []) = omega (arith, length-append ys (x ∷ [])) in subst P (at_end ys x x) (subst (All P) is all (length ys) x within)

module _ {D : Type 0} where
  -- ---- the reader

  pub own_at_first : (v : View (Home D) Judged) (start : Start D) (r : Watching Origin) → v.first ≡ values_of start → start.desk.publisher.start ≡ position_of start → r ≡ watching start.desk.publisher → IsReaderOf v r
  own_at_first v start r first at is s also = let desk = same_desk v.first start s first also in (
    ap (λ (w : Watching Origin). w.book) is ∙ ap (λ (d : Desk D). d.publisher.book) desk,
    ap (λ (w : Watching Origin). w.basis) is ∙ ap (λ (d : Desk D). d.publisher.basis) desk,
    ap (λ (w : Watching Origin). w.start) is ∙ (at ∙ same_position v.first start s first also),
  )

  -- the seat went on, and so did the reader
  pub own_on : (v w : View (Home D) Judged) (r q : Watching Origin) → IsReaderOf v r → w.first ≡ v.first → q.book ≡ r.book → q.basis ≡ r.basis → q.start ≡ r.start → IsReaderOf w q
  own_on v w r q own same book basis start s first = let was = own s (sym same ∙ first) in (book ∙ was.0, basis ∙ was.1, start ∙ was.2)

  -- ---- the seat

  all_on : (v w : View (Home D) Judged) → Goes v w → HasAll v → HasAll w
  all_on v w goes all = goes.kept ∙ (all ∙ sym goes.whole)

  -- ---- all three

  pub goes_on : (node : TableId) (a b : Place (Home D) Judged) (r q : Watching Origin) → Runs node a r → b.lock ≡ a.lock → Goes a.view b.view → IsReaderOf b.view q → Runs node b q
  goes_on node a b r q runs lock goes own = record { lock = lock ∙ runs.lock; all = all_on a.view b.view goes runs.all; own = own; start = runs.start; first = goes.first ∙ runs.first }

  idles : (node : TableId) (a b : Place (Home D) Judged) (r q : Watching Origin) → Runs node a r → b.lock ≡ a.lock → WentIdle a.view b.view → q.book ≡ r.book → q.basis ≡ r.basis → q.start ≡ r.start → Runs node b q
  idles node a b r q runs lock idle book basis start = goes_on node a b r q runs lock idle.0.goes (own_on a.view b.view r q runs.own idle.0.goes.first book basis start)

  pub halts : (node : TableId) (a b : Place (Home D) Judged) (r : Watching Origin) → Runs node a r → b.lock ≡ a.lock → Later a.view b.view → Runs node b r
  halts node a b r runs lock later = let goes = goes_later a.view b.view later in
      goes_on node a b r r runs lock goes (own_on a.view b.view r r runs.own goes.first refl refl refl)

  pub serves : (node : TableId) (a b : Place (Home D) Judged) (r : Watching Origin) → Runs node a r → b.lock ≡ a.lock → Went a.view b.view → Runs node b r
  serves node a b r runs lock went = goes_on node a b r r runs lock went.goes (own_on a.view b.view r r runs.own went.goes.first refl refl refl)

  -- the reader learnt of something, or of nothing
  pub learns : (node : TableId) (a b : Place (Home D) Judged) (r w q : Watching Origin) (told : List Change) → Runs node a r → b.lock ≡ a.lock → WentIdle a.view b.view → w ≡ record r { told = told } → q ≡ w → Runs node b q
  learns node a b r w q told runs lock idle learnt is = let same : q ≡ record r { told = told } = is ∙ learnt in
      idles node a b r q runs lock idle (ap (λ (x : Watching Origin). x.book) same) (ap (λ (x : Watching Origin). x.basis) same) (ap (λ (x : Watching Origin). x.start) same)

  pub learns_nothing : (node : TableId) (a b : Place (Home D) Judged) (r q : Watching Origin) → Runs node a r → b.lock ≡ a.lock → WentIdle a.view b.view → q ≡ r → Runs node b q
  learns_nothing node a b r q runs lock idle is = learns node a b r r q r.told runs lock idle refl is

  pub reads : (node : TableId) (a b : Place (Home D) Judged) (r q : Watching Origin) → Runs node a r → b.lock ≡ a.lock → WentIdle a.view b.view → q ≡ record r { seen = q.seen } → Runs node b q
  reads node a b r q runs lock idle same = idles node a b r q runs lock idle (ap (λ (x : Watching Origin). x.book) same) (ap (λ (x : Watching Origin). x.basis) same) (ap (λ (x : Watching Origin). x.start) same)

  -- the seat stays as it is
  pub looks : (node : TableId) (a : Place (Home D) Judged) (r q : Watching Origin) → Runs node a r → q.book ≡ r.book → q.basis ≡ r.basis → q.start ≡ r.start → Runs node a q
  looks node a r q runs book basis start = record { lock = runs.lock; all = runs.all; own = own_on a.view a.view r q runs.own refl book basis start; start = runs.start; first = runs.first }

  pub same_seat : (node : TableId) (a b : Place (Home D) Judged) (r q : Watching Origin) → Runs node a r → b ≡ a → IsReaderOf b.view q → Runs node b q
  same_seat node a b r q runs same own = record { lock = ap (λ (z : Place (Home D) Judged). z.lock) same ∙ runs.lock; all = subst (λ (z : Place (Home D) Judged). HasAll z.view) (sym same) runs.all; own = own; start = runs.start; first = ap (λ (z : Place (Home D) Judged). z.view.first) same ∙ runs.first }

  -- ---- the start

  pub starts : (g : Ghosts D) (node : TableId) (seat : Place (Home D) Judged) (replica : Replica D) (watch more : List (Watching Origin)) (r : Watching Origin) (from whole durable : ℕ)
      → seat.lock ≡ node → seat.view ≡ opened durable_in common_in from whole seat.view.first durable → StartsFrom g replica seat.view watch → watch ≡ more ++ r ∷ [] → Runs node seat r
  starts g node seat replica watch more r from whole durable lock view begun is = record {
    lock = lock;
    all = let allowance : seat.view.allowance ≡ whole = ap (λ (v : View (Home D) Judged). v.allowance) view in let all : seat.view.whole ≡ whole = ap (λ (v : View (Home D) Judged). v.whole) view in let none : length seat.view.own ≡ 0 = ap (λ (v : View (Home D) Judged). length v.own) view in omega arith;
    own = own_at_first seat.view begun.start r begun.first begun.begins.start (last_too (λ (w : Watching Origin). w ≡ watching begun.start.desk.publisher) watch more r is begun.readers);
    start = begun.start;
    first = begun.first;
  }

  -- ---- a seat that was split off, and taken in again

  pub split_off : (node lock : TableId) (a b : Place (Home D) Judged) (r : Watching Origin) (give : ℕ) → Runs node a r → b ≡ seat_of lock (given give a.view) → HasReader b.view r
  split_off node lock a b r give runs is = let first : b.view.first ≡ a.view.first = ap (λ (z : Place (Home D) Judged). z.view.first) is in record { own = own_on a.view b.view r r runs.own first refl refl refl; start = runs.start; first = first ∙ runs.first }

  pub taken_in : (law : List Judged → Type 0) (lock : TableId) (v a b u : View (Home D) Judged) (s o : Place (Home D) Judged) (give : ℕ) → HasAll v → give ≤ v.allowance → s ≡ seat_of lock (giving give v) → o ≡ seat_of lock (given give v)
      → Goes s.view a → Goes o.view b → Learns law b.seen (both a b) u → HasAll u
  taken_in law lock v a b u s o give all less split gave first second joined = let view : Place (Home D) Judged → View (Home D) Judged = λ z. z.view in
      all_on v u (goes_shared law give v s.view o.view a b u less (ap view split) (ap view gave) first second joined).0 all

  -- ---- what a session's get leaves

  pub gets : (g : Ghosts D) (shut : Watching Origin → Type 0) (node : TableId) (a b : Beside D) (r q : Watching Origin) (t u : Progress) (key : Key) (answer : Result (Option (List ℕ)) Refusal)
      (o : Option (Result (Option (List ℕ)) Refusal)) → MatchOption o (ReadsBeside g shut a key t.snapshot answer b × (u ≡ after_read t key answer)) (λ x. (answer ≡ x) × (u ≡ t) × (b ≡ a)) → Runs node a.seat r → IsReaderOf b.seat.view q → Runs node b.seat q
  gets g shut node a b r q t u key answer None given runs own = goes_on node a.seat b.seat r q runs given.0.lock given.0.idle.0.goes own
  gets g shut node a b r q t u key answer (Some x) given runs own = same_seat node a.seat b.seat r q runs (ap (λ (z : Beside D). z.seat) given.2) own
