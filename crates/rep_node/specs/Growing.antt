-- What lies at home still may as the history and the durable number grow.
use Rattle.std.specs.Prelude.{ℕ, ◌≤◌, List, ◌++◌}
use Rattle.std.proofs.Common.{ap, ◌∙◌, append_assoc, arith}
use Rattle.rep_types.specs.declared.judged.Judged.{Judged}
use Rattle.rep_disk.specs.declared.disk.Disk.{Ghosts}
use Rattle.rep_ordered.specs.Views.{StartsWith}
use Rattle.rep_node.specs.declared.home.Home.{Home}
use Rattle.rep_node.specs.declared.home.Home.TheVariants.{Certifier as AtFirst, Desk as AtSecond, Queue as AtThird}
use Rattle.rep_node.specs.Homes.{Below, AtHome}

begins_grown : (items more front : List Judged) → StartsWith items front → StartsWith (items ++ more) front
begins_grown items more front h = (h.0 ++ more, ap (λ l. l ++ more) h.1 ∙ append_assoc front h.0 more)

below_grown : (position number : ℕ) (items more front : List Judged) → Below position number items front → Below position number (items ++ more) front
below_grown position number items more front h = record { begins = begins_grown items more front h.begins; long = h.long }

module _ {D : Type 0} (g : Ghosts D) where
  pub home_grows : (first : List (Home D)) (station number given durable later : ℕ) (items more : List Judged) (home : Home D) → AtHome g first station number given items durable home → durable ≤ later
      → AtHome g first station number given (items ++ more) later home
  home_grows first station number given durable later items more (AtFirst c) h up = (
    h.0,
    λ s is. let at = h.1 s is in record { front = at.front; below = below_grown _ number items more at.front at.below; room = let r = at.room in omega arith; judged = at.judged },
  )
  home_grows first station number given durable later items more (AtSecond d) h up = (
    h.0,
    λ s is. let at = h.1 s is in record { front = at.front; begins = begins_grown items more at.front at.begins; taken = at.taken; publisher = at.publisher; works = at.works; shown = at.shown; ahead = at.ahead; fronts = at.fronts },
  )
  home_grows first station number given durable later items more (AtThird q) h up = (
    h.0,
    λ s is. let at = h.1 s is in record { front = at.front; below = below_grown _ number items more at.front at.below; waits = at.waits },
  )
