use Rattle.std.proofs.Common.{◌∙◌, sym}
use Rattle.rep_disk.proofs.Images.{seen_is_image, stable_is_image, length-seen, image_part}
use Rattle.rep_disk.proofs.laws.images_of_a_moment.Goals as goal

pub returns : goal.returns
returns c = record {
  seen_is_one = seen_is_image;
  stable_is_one = stable_is_image;
  same_size = λ h image is. is.sized ∙ sym (length-seen h);
  same_part = image_part;
}
