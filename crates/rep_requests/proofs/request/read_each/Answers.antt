use Rattle.std.proofs.Common.{◌∙◌, sym, ap, arith}
use Rattle.std.specs.Option.{option_map}
use Rattle.std.proofs.lemmas.Bool.{eqb-true, eqb-false}
use Rattle.rep_record.specs.Reading.{each, key_in}
use Rattle.rep_requests.proofs.Keys.{keys_from, each_none, each_end, more_kept, more_passed, keys_ended}
use Rattle.rep_requests.proofs.request.read_each.Goals as goal

pub returns-in_err-key : goal.returns-in_err-key
returns-in_err-key c =
    let so_far = c.loop-word.invariant in
    let none = ap (each key_in) c.in-Some.ensures ∙ each_none c.in-Some.word.now c.next_word.new.self (sym c.in_err-key.ensures) in
    ap (option_map (λ keys. (keys.0.items, keys.1))) c.from_residual.ensures
    ∙ ap (keys_from c.loop-word.keys.items c.loop-word.has_more) (sym none) ∙ so_far.told

pub loop-word-preserved-then-is_full : goal.loop-word-preserved-then-is_full
loop-word-preserved-then-is_full c =
    let so_far = c.loop-word.invariant in
    let full = eqb-true _ _ (sym c.is_full.ensures.value ∙ c.if-is_full.true) in
    record {
      told = more_passed c.loop-word.keys.items c.loop-word.has_more c.in_ok-key.key c.in-Some.word.now c.next_word.new.self c.loop-word.words full (sym c.in_ok-key.ensures) c.in-Some.ensures ∙ so_far.told;
      few = so_far.few;
      full = λ _. full;
    }

pub loop-word-preserved : goal.loop-word-preserved
loop-word-preserved c =
    let so_far = c.loop-word.invariant in
    let room = eqb-false _ _ (sym c.is_full.ensures.value ∙ c.if-is_full.false) in
    record {
      told = ap (λ keys. keys_from keys c.loop-word.has_more (each key_in c.next_word.new.self)) c.push.ensures.items
          ∙ more_kept c.loop-word.keys.items c.loop-word.has_more c.in_ok-key.key c.in-Some.word.now c.next_word.new.self c.loop-word.words (sym c.in_ok-key.ensures) c.in-Some.ensures ∙ so_far.told;
      few = omega (arith, c.push.ensures.len, c.is_full.ensures.fits, room);
      full = λ more. absurd (room (so_far.full more));
    }

pub returns : goal.returns
returns c =
    let so_far = c.loop-word.invariant in
    sym (keys_ended c.loop-word.keys.items c.loop-word.has_more so_far.few)
    ∙ ap (keys_from c.loop-word.keys.items c.loop-word.has_more) (sym (ap (each key_in) c.in_default.ensures.0 ∙ each_end)) ∙ so_far.told
