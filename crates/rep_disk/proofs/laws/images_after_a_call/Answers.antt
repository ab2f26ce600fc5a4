use Rattle.std.proofs.Common.{sym, subst}
use Rattle.rep_disk.specs.History.{Synced, IsImage}
use Rattle.rep_disk.proofs.Images.{seen_is_image, synced_image, sync_narrows, write_widens, spoil_widens}
use Rattle.rep_disk.proofs.laws.images_after_a_call.Goals as goal

pub returns : goal.returns
returns c = record {
  one_after_sync = λ h image. (synced_image h image, λ is. subst (IsImage (Synced h)) (sym is) (seen_is_image (Synced h)));
  sync_makes_none = sync_narrows;
  write_takes_none = write_widens;
  spoil_takes_none = spoil_widens;
}
