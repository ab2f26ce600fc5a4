-- Why what is refused behind the first line is not refused as another cluster's.
use Rattle.std.proofs.Common.{◌≡◌, ◌≢◌, ℕ, ◌+◌, ◌==◌, ◌⊎◌, inl, inr, Bool, true, false, not, List, length, Option, None, Some, Result, Ok, Err, refl, subst}
use Rattle.std.specs.Prelude.{nat_le, if◌then◌else◌, is_some, ◌||◌}
use Rattle.uuid.specs.Parts.{is_nil_bytes}
use Rattle.rep_types.specs.declared.item.Item.{Item}
use Rattle.rep_types.specs.declared.item.Item.TheVariants.{WriteSet, SetWindow as OfChange}
use Rattle.rep_types.specs.declared.refusal.Refusal.{Refusal}
use Rattle.rep_types.specs.declared.refusal.Refusal.TheVariants.{DiskFault, Stopped, OutOfOrder, Backlogged, Undefined, Corrupt, WrongCluster, Exhausted, StreamFault}
use Rattle.rep_types.specs.declared.refusal.Part.{Part}
use Rattle.rep_types.specs.declared.limits.TheConstants.{MAX_SEQNO, MAX_AHEAD}
use Rattle.rep_disk.specs.declared.disk.Disk.{Ghosts}
use Rattle.rep_steps.specs.Standings.{Standing, delivered, refusal}
use Rattle.rep_steps.specs.Events.{delivery}
use Rattle.rep_requests.specs.Requests.{Requested, Nothing, Published, Stated, Read, Sum, State, Limits, Counters, Donate, Refused, Broken}
use Rattle.rep_replica.specs.Replicas.{Replica, facts_of}
use Rattle.rep_replica.specs.Settling.{EndsEarly}
use Rattle.rep_replica.specs.Donating.{Asks}
use Rattle.rep_follow.specs.Committing.{IsHeldUp}
use Rattle.rep_follow.specs.Taking.{EndsBy, IsNotTaken}
use Rattle.rep_follow.specs.Following.{EndsAt, IsNotFollowed}
use Rattle.rep_service.specs.Commanding.{EndsNode, awaited, ComesOf}
use Rattle.rep_service.specs.Living.{NotWrongCluster}
use Rattle.rep_service.proofs.Saying.{own_by, own_fault}

own_early : (e : Refusal) → EndsEarly e → e ≢ WrongCluster
own_early e (inl hungry) is = cc
own_early e (inr (inl fault)) is = cc
own_early e (inr (inr corrupt)) is = cc

pub own_end : (e : Refusal) → EndsNode e → e ≢ WrongCluster
own_end e (inl fault) is = cc
own_end e (inr (inl stopped)) is = cc
own_end e (inr (inr early)) is = own_early e early is

pub own_next : (e : Refusal) → (e ≡ StreamFault) ⊎ (e ≡ Exhausted) → e ≢ WrongCluster
own_next e (inl fault) is = cc
own_next e (inr often) is = cc

-- ---- an item that is not taken

own_choice : (a b c d f : Bool) (n : ℕ) (e : Refusal) → (if a then Some Stopped else if b then Some Undefined else if c then Some Exhausted else if d then Some (OutOfOrder n) else if f then Some Backlogged else None) ≡ Some e → e ≢ WrongCluster
own_choice true b c d f n e refused is = cc
own_choice false true c d f n e refused is = cc
own_choice false false true d f n e refused is = cc
own_choice false false false true f n e refused is = cc
own_choice false false false false true n e refused is = cc
own_choice false false false false false n e refused is = cc

own_delivery : (s : Standing) (seqno : ℕ) (i : Item) (e : Refusal) → refusal s (delivery seqno i) ≡ Some e → e ≢ WrongCluster
own_delivery s seqno (WriteSet w) e refused =
    own_choice s.stopped (is_nil_bytes s.uuid) (delivered s == MAX_SEQNO) (not (seqno == delivered s + 1)) (nat_le MAX_AHEAD (length s.ahead)) (delivered s + 1) e refused
own_delivery s seqno (OfChange change) e refused =
    own_choice s.stopped (is_nil_bytes s.uuid) (delivered s == MAX_SEQNO) (not (seqno == delivered s + 1)) (nat_le MAX_AHEAD (length s.ahead)) (delivered s + 1) e refused

-- ---- a line that ends it

own_order : (next number : ℕ) (request : Requested) (e f : Refusal) → awaited next number request ≡ Err e → f ≡ e → f ≢ WrongCluster
own_order next number (Published n i) e f wanted same is = by (n == next) wanted
  where
    by : (b : Bool) → (if b then Ok (Some i) else Err (OutOfOrder next)) ≡ Err e → ⊥
    by true ended = cc
    by false ended = cc
own_order next number Broken e f wanted same is = cc
own_order next number Nothing e f wanted same is = cc
own_order next number (Stated i) e f wanted same is = cc
own_order next number (Read keys) e f wanted same is = cc
own_order next number (Sum at) e f wanted same is = cc
own_order next number State e f wanted same is = cc
own_order next number Limits e f wanted same is = cc
own_order next number Counters e f wanted same is = cc
own_order next number (Donate have out) e f wanted same is = cc
own_order next number (Refused g) e f wanted same is = cc

own_come : (wanted : Result (Option Item) Refusal) (f : Refusal) → ((e : Refusal) → wanted ≡ Err e → f ≡ e → f ≢ WrongCluster) → ComesOf wanted (Err f) → f ≢ WrongCluster
own_come (Ok None) f ends comes is = own_end f comes is
own_come (Ok (Some i)) f ends comes is = absurd (let never : ◌≡◌ {A = Result (Option Item) Refusal} (Err f) (Ok (Some i)) = comes in cc)
own_come (Err e) f ends comes is = ends e refl (let same : ◌≡◌ {A = Result (Option Item) Refusal} (Err f) (Err e) = comes in let one : f ≡ e = cc in one) is

pub own_answer : (next number : ℕ) (request : Requested) (result : Result (Option Item) Refusal) (f : Refusal) → ComesOf (awaited next number request) result → result ≡ Err f → f ≢ WrongCluster
own_answer next number request result f comes is =
    own_come (awaited next number request) f (λ e wanted same. own_order next number request e f wanted same) (subst (ComesOf (awaited next number request)) is comes)

module _ {D : Type 0} (g : Ghosts D) where
  pub own_held : (new : Replica D) (e : Refusal) → IsHeldUp g new e → e ≢ WrongCluster
  own_held new e (inl stopped) is = let same = stopped.0 in cc
  own_held new e (inr early) is = own_early e early is

  pub own_told : (new : Replica D) (e : Refusal) → (e ≡ StreamFault) ⊎ IsHeldUp g new e → e ≢ WrongCluster
  own_told new e (inl fault) = own_fault e fault
  own_told new e (inr held) = own_held new e held

  pub own_taken : (new : Replica D) (seqno : ℕ) (i : Item) (e : Refusal) → IsNotTaken g new seqno i e → e ≢ WrongCluster
  own_taken new seqno i e (inl fault) = own_fault e fault
  own_taken new seqno i e (inr (inl held)) = own_held new e held
  own_taken new seqno i e (inr (inr refused)) = own_delivery (facts_of g new) seqno i e refused

  own_followed : (new : Replica D) (asked rest : Option (List ℕ)) (e : Refusal) → IsNotFollowed g new asked rest e → e ≢ WrongCluster
  own_followed new asked rest e (inl fault) is = own_fault e fault is
  own_followed new asked rest e (inr (inl held)) is = own_held new e held is
  own_followed new asked rest e (inr (inr often)) is = let same = often.0 in cc

  own_by_line : (new : Replica D) (next : ℕ) (left last : List ℕ) (e : Refusal) → EndsBy g new next left last (Err e) → e ≢ WrongCluster
  own_by_line new next left last e (i, item, inl none) is = let same = none.0 in cc
  own_by_line new next left last e (i, item, inr refused) is = own_taken new next i e refused is

  pub own_items : (next : ℕ) (new : Replica D) (left : List ℕ) (asked rest : Option (List ℕ)) (lines : List (List ℕ)) (last : List ℕ) (out : List (List ℕ)) (e : Refusal) → EndsAt g next new left asked rest lines last out (Err e) → NotWrongCluster (Err e)
  own_items next new left asked rest lines last out e (inl ends) = own_by e (own_by_line new next left last e ends.1)
  own_items next new left asked rest lines last out e (inr ends) = own_by e (own_followed new asked rest e ends.1)

  -- ---- a block of the log

  own_asked_by : (T : Type 0) (part : Part) (old new : Replica D) (e : Refusal) (b : Bool) → (old.stopped || is_some old.engine.halted) ≡ b → Asks {T = T} g part old new (Err e) → e ≢ WrongCluster
  own_asked_by T part old new e true halted asks is = let same = (asks.stopped halted).0 in cc
  own_asked_by T part old new e false running asks is = by ((asks.running running).1) is
    where
      by : (e ≡ DiskFault) ⊎ (e ≡ Corrupt part) → e ≢ WrongCluster
      by (inl fault) is = cc
      by (inr corrupt) is = cc

  pub own_asked : (T : Type 0) (part : Part) (old new : Replica D) (e : Refusal) → Asks {T = T} g part old new (Err e) → e ≢ WrongCluster
  own_asked T part old new e asks = own_asked_by T part old new e _ refl asks
