-- How a node ended on a disk.
use Rattle.std.proofs.Common.{◌≡◌, List, ℕ, Option, Result, Ok, Err, refl, subst}
use Rattle.rep_types.specs.declared.refusal.Refusal.{Refusal}
use Rattle.rep_disk.specs.declared.disk.Disk.{Ghosts}
use Rattle.rep_replica.specs.Replicas.{Replica}
use Rattle.rep_script.specs.Scripts.{IsOpening}
use Rattle.rep_service.specs.Living.{FollowsText}
use Rattle.rep_service.specs.Serving.{EndsWell, EndsOnDisk}

module _ {D : Type 0} (g : Ghosts D) (disk : D) (text : Option (List ℕ)) (new : D) (opening : Result (Replica D) (D × Refusal)) (is_opening : IsOpening g disk opening) (before after : Option (List ℕ)) where
  pub ends_on_disk : (first last : Replica D) (r : Result (Unit {0}) Refusal) → opening ≡ Ok first → EndsWell g last r → FollowsText g first last text before after r → new ≡ last.engine.disk → EndsOnDisk g disk text new before after r
  ends_on_disk first last r is well follows same = record { opening = Ok first; is_opening = subst (IsOpening g disk) is is_opening; ends = (last, same, well, follows) }

  pub refused_on_disk : (refusal : Refusal) → opening ≡ Err (new, refusal) → after ≡ before → EndsOnDisk g disk text new before after (Err refusal)
  refused_on_disk refusal is same = record { opening = Err (new, refusal); is_opening = subst (IsOpening g disk) is is_opening; ends = (refl, refl, same) }
