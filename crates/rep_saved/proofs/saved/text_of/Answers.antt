use Rattle.std.proofs.Common.{refl}
use Rattle.rep_saved.proofs.saved.text_of.Goals as goal

pub returns : goal.returns
returns c =
    rw (
      c.push_str-7.ensures.bytes,
      c.push_str-6.ensures.bytes,
      c.bit_text.ensures,
      c.push_str-5.ensures.bytes,
      c.push_str-4.ensures.bytes,
      c.as_str.ensures.value,
      c.seqno_text.ensures.text,
      c.push_str-3.ensures.bytes,
      c.push_str-2.ensures.bytes,
      c.encode_lower.ensures.text,
      c.hyphenated-hyphenated.ensures,
      c.uuid.ensures,
      c.push_str.ensures.bytes,
      c.new-text.ensures,
    ) refl
