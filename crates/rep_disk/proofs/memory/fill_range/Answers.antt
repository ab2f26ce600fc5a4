use Rattle.std.proofs.Common.{rules, ◌≡◌, ◌+◌, ◌-◌, length, take, drop, replicate, ap, ◌∙◌, sym, arith}
use Rattle.std.proofs.lemmas.List.{length-replicate}
use Rattle.rep_disk.proofs.Bytes.{put_mid-put_as, length-part}
use Rattle.rep_disk.proofs.memory.fill_range.Goals as goal

pub returns : goal.returns
returns c =
    let room : (c.args.range.at + c.args.range.len - c.args.range.at) ≡ c.args.range.len = omega arith in
    let size : length (take (c.args.range.at + c.args.range.len - c.args.range.at) (drop c.args.range.at c.args.bytes.now)) ≡ c.args.range.len =
    rw room (length-part c.args.range.at c.args.range.len c.args.bytes.now c.requires) in
    let filling : c.fill.new.self ≡ replicate c.args.range.len c.args.byte =
    c.fill.ensures.after (λ y same. search rules) ∙ ap (λ n. replicate n c.args.byte) size in
    put_mid-put_as _ _ _ _ _ (room ∙ sym (length-replicate c.args.range.len c.args.byte)) filling (omega (arith, length-replicate c.args.range.len c.args.byte))
