-- What calls make of a seat, as every client has to say it: what the seat knows has grown, and it has its numbers still.
use Rattle.std.specs.Prelude.{◌≡◌, ℕ, ◌+◌, ◌<◌, ◌≤◌, Option, None, List, [], ◌∷◌, ◌++◌, length}
use Rattle.rep_ordered.specs.declared.view.View.{View}
use Rattle.rep_ordered.specs.Counts.{times}
use Rattle.rep_ordered.specs.Views.{StartsWith, Later, Sees, reached_at, with_number, without, abandoned, giving, given, both}
use Rattle.rep_ordered.specs.Steps.{Entered, Learns}

module _ {V E : Type 0} where
  -- the seat is one of the same lock, has its numbers still, drawn or not, and has seen as much or more
  pub record Goes (v w : View V E) : Type 0 where
    pub start : w.start ≡ v.start
    pub whole : w.whole ≡ v.whole
    pub first : w.first ≡ v.first
    pub kept : w.allowance + length w.own ≡ v.allowance + length v.own
    pub seen : StartsWith w.seen v.seen
    pub durable : v.durable ≤ w.durable
    pub halted : v.halted ≤ w.halted
    pub reached : (j : ℕ) → reached_at j v.reached ≤ reached_at j w.reached

  -- the same of a seat that then holds nothing
  pub record Went (v w : View V E) : Type 0 where
    pub goes : Goes v w
    pub free : w.held ≡ []

  -- each number that the seat drew has passed the station
  abbrev pub AllPassed : ℕ → View V E → Type 0
  AllPassed j v = (x : ℕ) → 0 < times x v.own → x < reached_at j v.reached

-- Each call goes on from the view before it, and so do calls one after another.
module _ {V E : Type 0} (legal : List V → List E → Type 0) (at_home : List V → ℕ → ℕ → ℕ → List E → ℕ → V → Type 0) (durable_of common_of : V → ℕ) where
  pub record ViewsGoOn : Type 0 where
    pub same : (v : View V E) → Goes v v
    pub on : (u v w : View V E) → Goes u v → Goes v w → Goes u w
    pub later : (v w : View V E) → Later v w → Goes v w
    pub claimed : (v w : View V E) (number : ℕ) → w ≡ with_number number v → 0 < v.allowance → Goes v w
    pub entered : (j number kind : ℕ) (v w : View V E) (x : V) → Entered (legal v.first) (at_home v.first) durable_of common_of j number kind v w x → Goes v w
    pub left : (j n d c : ℕ) (entry : Option E) (v w : View V E) → w ≡ without entry j n d c v → Goes v w
    pub gave_up : (j n d c : ℕ) (y : V) (v w : View V E) → w ≡ abandoned j y (without None j n d c v) → Goes v w
    -- a station was entered, something was perhaps learnt, and the station was left: the seat holds what it held
    pub through : (j number kind n d c : ℕ) (entry : Option E) (v w l u : View V E) (x : V) → Entered (legal v.first) (at_home v.first) durable_of common_of j number kind v w x → Later w l → u ≡ without entry j n d c l → Goes v u × (u.held ≡ v.held)
    -- the same where it was given up
    pub gone : (j number kind n d c : ℕ) (y : V) (v w l u : View V E) (x : V) → Entered (legal v.first) (at_home v.first) durable_of common_of j number kind v w x → Later w l → u ≡ abandoned j y (without None j n d c l) → Goes v u × (u.held ≡ v.held)
    -- a seat was split in two, both went on, and the one took the other in
    pub shared : (give : ℕ) (v a b a' b' u : View V E) → give ≤ v.allowance → a ≡ giving give v → b ≡ given give v → Goes a a' → Goes b b' → Learns (legal a'.first) b'.seen (both a' b') u → Goes v u × (u.held ≡ a'.held)
    -- who leaves without an entry sees what it saw
    pub sees : (j n d c : ℕ) (v w : View V E) → Sees (legal v.first) v → w ≡ without None j n d c v → Sees (legal w.first) w

-- What a seat drew has passed a station, as it sees more of the station's turns, draws one more number, and takes another seat in.
pub record NumbersPass (V E : Type 0) : Type 0 where
  pub still : (j : ℕ) (v w : View V E) → reached_at j v.reached ≤ reached_at j w.reached → w.own ≡ v.own → AllPassed j v → AllPassed j w
  pub more : (j : ℕ) (v w : View V E) (number : ℕ) → reached_at j v.reached ≤ reached_at j w.reached → w.own ≡ v.own ++ number ∷ [] → number < reached_at j w.reached → AllPassed j v → AllPassed j w
  pub joined : (j : ℕ) (v w u : View V E) → u.own ≡ v.own ++ w.own → u.reached ≡ v.reached ++ w.reached → AllPassed j v → AllPassed j w → AllPassed j u
