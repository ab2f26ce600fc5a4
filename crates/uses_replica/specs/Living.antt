-- A disk that is opened, used and taken out again, any number of times.
use Rattle.std.specs.Prelude.{◌≡◌, ◌⊎◌, ℕ, List, [], ◌∷◌, take, ⊤}
use Rattle.std.specs.declared.vec.Vec.{Vec}
use Rattle.rep_types.specs.declared.refusal.Refusal.{Refusal}
use Rattle.rep_types.specs.declared.refusal.Refusal.TheVariants.{OutOfMemory, DiskFault}
use Rattle.rep_types.specs.Settings.{Setting}
use Rattle.rep_types.specs.Order.{Order}
use Rattle.rep_disk.specs.declared.disk.Disk.{Ghosts}
use Rattle.rep_disk.specs.History.{seen}
use Rattle.rep_disk.specs.Calls.{Rises}
use Rattle.rep_steps.specs.declared.event.Event.{Event}
use Rattle.rep_steps.specs.declared.answer.Answer.{Answer}
use Rattle.rep_steps.specs.Images.{IsFrontOf}
use Rattle.rep_image.specs.Meanings.{Means}
use Rattle.rep_recover.specs.Opening.{RefusesToOpen}
use Rattle.rep_replica.specs.Lives.{Life, IsLife, Lives, AreFed, LivesFollow}

-- The life did these events and answered them so; nothing had begun when it ended.
pub record Did {D : Type 0} (events : List Event) (answers : List Answer) (life : Life D) : Type 0 where
  pub events_are : life.events ≡ events
  pub answers_are : life.answers ≡ answers
  pub none_begun : life.begun ≡ []

-- each of the lives, one after another
abbrev pub DidEach : {D Z : Type 0} → List (Vec Event Z) → List (Vec Answer Z) → List (Life D) → Type 0
DidEach [] [] [] = Unit {0}
DidEach [] [] (life ∷ lives) = ⊥
DidEach [] (answers ∷ told) lives = ⊥
DidEach (events ∷ rest) [] lives = ⊥
DidEach (events ∷ rest) (answers ∷ told) [] = ⊥
DidEach (events ∷ rest) (answers ∷ told) (life ∷ lives) = Did events.items answers.items life × DidEach rest told lives

-- what the last of them left, or what they began on
abbrev pub left_by : {D : Type 0} → List ℕ → List (Life D) → List ℕ
left_by image [] = image
left_by image (life ∷ lives) = left_by life.left lives

-- A life on the disk, which is taken out at its end as it then reads.
pub record LivesOnce {D : Type 0} (g : Ghosts D) (old : D) (events : List Event) (answers : List Answer) (new : D) : Type 0 where
  pub life : Life D
  pub did : Did events answers life
  pub is_life : IsLife g (seen (g.history old)) life
  pub left : life.left ≡ seen (g.history new)
  pub is_honest : g.honest new

-- Lives on the disk that did these events and answered them so, and the disk is handed back as the last of them left it, so that further
-- lives go on from there. Where it stood for a front of an order, and they were fed that order, they follow it.
pub record LivesOn {D Z : Type 0} (g : Ghosts D) (old : D) (events : List (Vec Event Z)) (answers : List (Vec Answer Z)) (new : D) : Type 0 where
  pub lives : List (Life D)
  pub did : DidEach events answers lives
  pub are_lives : Lives g (seen (g.history old)) lives
  pub left : left_by (seen (g.history old)) lives ≡ seen (g.history new)
  pub is_honest : g.honest new
  pub follow : (uuid : List ℕ) (p : Setting) (O : Order) (d h : ℕ) → IsFrontOf Means uuid p (take h O) d (seen (g.history old)) → AreFed g O lives → LivesFollow g uuid p O d h [] lives

-- A refusal in whose life nothing was done: the disk reads as it did. Where it is of the bytes, the reason stands there; where it is a
-- disk fault, the disk's count of failures rose.
pub record IsUnlived {D : Type 0} (g : Ghosts D) (old : D) (refusal : Refusal) (new : D) : Type 0 where
  pub same : seen (g.history new) ≡ seen (g.history old)
  pub is_honest : g.honest new
  pub reason : RefusesToOpen ⊤ (seen (g.history old)) refusal
  pub fault : refusal ≡ DiskFault → Rises (g.failures old) (g.failures new)

-- Some of the lives were lived, from the first on, with answers that nobody is given; and on the disk as the last of them left it came the
-- refusal, in whose life nothing was done. Where the disk stood for a front of an order, and these lives were fed it, the refusal is not
-- of the bytes.
pub record LivesUntil {D Z : Type 0} (g : Ghosts D) (old : D) (events : List (Vec Event Z)) (refusal : Refusal) (new : D) : Type 0 where
  pub count : ℕ
  pub answers : List (Vec Answer Z)
  pub mid : D
  pub lived : LivesOn g old (take count events) answers mid
  pub refused : IsUnlived g mid refusal new
  pub sound : (uuid : List ℕ) (p : Setting) (O : Order) (d h : ℕ) → IsFrontOf Means uuid p (take h O) d (seen (g.history old)) → AreFed g O lived.lives → (refusal ≡ OutOfMemory) ⊎ (refusal ≡ DiskFault)
