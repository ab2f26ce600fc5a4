use Rattle.std.proofs.Common.{refl, sym, ◌∙◌, ap, drop}
use Rattle.std.proofs.lemmas.List.{take_rest}
use Rattle.rep_record.proofs.Kept.{hex_from, hex_step}
use Rattle.rep_record.proofs.pieces.read_hex.Goals as goal

pub loop-rest-preserved : goal.loop-rest-preserved
loop-rest-preserved c =
    let rest = c.loop-rest.rest.now in
    ap (hex_from c.keep.new.kept.items) (take_rest rest 2) ∙ ap (λ kept. hex_from kept (drop 2 rest)) c.keep.ensures
    ∙ sym (hex_step c.loop-rest.bytes.items rest c.in-len2-up.len_at_least ∙ rw (← c.in_ok-read_byte.ensures) refl) ∙ c.loop-rest.invariant
