use Rattle.std.proofs.Common.{arith}
use Rattle.rep_disk.specs.Moments.{moment}
use Rattle.rep_disk.proofs.Moments.{counts_now, only_now, call_images, within_call, call_adds}
use Rattle.rep_disk.proofs.laws.moments_of_calls.Goals as goal

pub returns : goal.returns
returns c = record {
  of_none = λ h image. (only_now h image, counts_now h (moment h) image (omega arith));
  of_one = λ old new image next. (call_images old new image next, within_call old new image next);
  adds = call_adds;
}
