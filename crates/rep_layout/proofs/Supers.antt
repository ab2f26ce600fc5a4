-- What a superblock can say.
use Rattle.std.proofs.Common.{◌≡◌, true, arith}
use Rattle.std.proofs.lemmas.Bool.Decides.{nat_tests}
use Rattle.std.proofs.lemmas.Slice.Eq.{bytes_eq-Decides}
use Rattle.uuid.specs.Parts.{zero_bytes}
use Rattle.rep_types.specs.Settings.{is_setting}
use Rattle.rep_forms.specs.Forms.{IsPart}
use Rattle.rep_layout.specs.declared.super_body.SuperBody.{SuperBody}
use Rattle.rep_layout.specs.Supers.{IsSuper, is_super}

-- what the test takes is of the form
pub super_said : (s : SuperBody) → IsPart 16 s.uuid → is_setting s.params ≡ true → is_super s ≡ true → IsSuper s
super_said s uuid setting h = grind (arith, nat_tests, bytes_eq-Decides s.uuid zero_bytes)
