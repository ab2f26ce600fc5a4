-- What clauses see of a publisher, of a reader and of what was told.
use Rattle.std.specs.Prelude.{◌≡◌, ◌⊎◌, ℕ, ◌-◌, ◌<◌, ◌≤◌, Bool, true, false, List, [], ◌∷◌, ◌++◌, length, nat_lt, if◌then◌else◌, Result, MatchResult}
use mathlib.Core.List.{IsPrefix}
use Rattle.logbook.specs.Pages.{Book}
use Rattle.rep_types.specs.declared.refusal.Refusal.{Refusal}
use Rattle.rep_types.specs.declared.refusal.Refusal.TheVariants.{OutOfMemory, TooManyWrites}
use Rattle.rep_types.specs.declared.limits.TheConstants.{MAX_WRITES}
use Rattle.rep_types.specs.declared.value.Write.{Write}
use Rattle.rep_snap.specs.declared.change.Change.{Change}
use Rattle.rep_snap.specs.declared.change.Change.TheVariants.{Publish}
use Rattle.rep_snap.specs.declared.shelf.Sight.{Sight}
use Rattle.rep_snap.specs.Lists.{pair_of}

-- A publisher: which one it is, with what it was started, what it did, how many readers it has ready, and whether it has failed, so that it does nothing more.
pub record Listing (A : Type 0) : Type 0 where
  pub book : Book
  pub basis : A
  pub start : ℕ
  pub list : List Change
  pub ready : ℕ
  pub failed : Bool

-- What was told: the history of a publisher so far.
pub record Telling : Type 0 where
  pub book : Book
  pub list : List Change

-- A reader: of which publisher, what it saw of its history, and what it was told.
pub record Watching (A : Type 0) : Type 0 where
  pub book : Book
  pub basis : A
  pub start : ℕ
  pub seen : List Change
  pub told : List Change

abbrev pub longer : List Change → List Change → List Change
longer xs ys = if nat_lt (length xs) (length ys) then ys else xs

module _ {A : Type 0} where
  abbrev pub listing : Sight A → ℕ → Bool → Listing A
  listing s ready failed = record { book = s.seen.book; basis = s.basis; start = s.start; list = s.seen.log; ready = ready; failed = failed }

  -- the same publisher, whose history goes on from what had been seen
  pub record Later (s t : Sight A) : Type 0 where
    pub book : t.seen.book ≡ s.seen.book
    pub basis : t.basis ≡ s.basis
    pub start : t.start ≡ s.start
    pub seen : IsPrefix s.seen.log t.seen.log

  -- a publisher that did nothing yet, with so many readers ready
  abbrev pub opened : Book → A → ℕ → ℕ → Listing A
  opened book basis start ready = record { book = book; basis = basis; start = start; list = []; ready = ready; failed = false }

  abbrev pub with_changes : List Change → Listing A → Listing A
  with_changes changes p = record p { list = p.list ++ changes }

  -- the same, having failed
  abbrev pub failing : Listing A → Listing A
  failing p = record p { failed = true }

  -- The changes are made, where the publisher has not failed before; or all are refused, and the publisher shows what it showed, and has failed.
  abbrev pub AreChanges : List Change → Listing A → Listing A → Result (Unit {0}) Refusal → Type 0
  AreChanges changes p q answer = MatchResult answer (λ _. (p.failed ≡ false) × (q ≡ with_changes changes p)) (λ e. (e ≡ OutOfMemory) × (q ≡ failing p))

  -- the same of one change
  abbrev pub IsChange : Change → Listing A → Listing A → Result (Unit {0}) Refusal → Type 0
  IsChange change = AreChanges (change ∷ [])

  -- A pair of these writes is published, as a change; or they are more than a pair has, and the publisher is as it was.
  abbrev pub IsPublish : ℕ → List Write → Listing A → Listing A → Result (Unit {0}) Refusal → Type 0
  IsPublish seqno writes p q answer = MatchResult answer (λ _. (length writes ≤ MAX_WRITES) × (p.failed ≡ false) × (q ≡ with_changes (Publish (pair_of seqno writes) ∷ []) p))
      (λ e. ((e ≡ TooManyWrites) × (MAX_WRITES < length writes) × (q ≡ p)) ⊎ ((e ≡ OutOfMemory) × (length writes ≤ MAX_WRITES) × (q ≡ failing p)))

  -- the same, with one reader less ready, if there was one
  abbrev pub one_less : Listing A → Listing A
  one_less p = record p { ready = p.ready - 1 }

  abbrev pub telling : Listing A → Telling
  telling p = record { book = p.book; list = p.list }

  -- a reader that has seen and was told nothing
  abbrev pub unaware : Listing A → Watching A
  unaware p = record { book = p.book; basis = p.basis; start = p.start; seen = []; told = [] }

  -- a new reader, which has seen all that the publisher did
  abbrev pub watching : Listing A → Watching A
  watching p = record { book = p.book; basis = p.basis; start = p.start; seen = p.list; told = p.list }

  -- a reader that has seen no more than this, which is nothing
  abbrev pub newcomer : Sight A → Watching A
  newcomer s = record { book = s.seen.book; basis = s.basis; start = s.start; seen = []; told = [] }

  abbrev pub watched : Sight A → Telling → Watching A
  watched s t = record { book = s.seen.book; basis = s.basis; start = s.start; seen = s.seen.log; told = t.list }
