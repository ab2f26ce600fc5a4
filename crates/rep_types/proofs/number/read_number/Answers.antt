use Rattle.std.proofs.Common.{◌≡◌, ◌^◌, ◌<◌, ◌≤◌, ◌+◌, ◌*◌, length, get_or, arith, sym, ap, ◌∙◌}
use Rattle.std.specs.Char.{digit_value}
use Rattle.std.proofs.lemmas.Bool.{eqb-true, eqb-false}
use Rattle.rep_types.proofs.Digits.{no_number-empty, no_number-at, no_number-large, reads_more, reads_all}
use Rattle.rep_types.proofs.number.read_number.Goals as goal

pub returns-then-is_empty : goal.returns-then-is_empty
returns-then-is_empty c = sym (no_number-empty (2 ^ 64) c.args.digits.now (eqb-true _ _ (sym c.if-is_empty.ensures)))

pub returns-in_err-digit : goal.returns-in_err-digit
returns-in_err-digit c =
    let e : c.from.result ≡ get_or c.args.digits.now c.loop-byte.byte-index 0 = omega arith in
    let large : 10 ≤ digit_value (get_or c.args.digits.now c.loop-byte.byte-index 0) = omega (arith, ap digit_value e, c.in_err-digit.ensures.value) in
    c.from_residual.ensures ∙ sym (no_number-at (2 ^ 64) c.args.digits.now c.loop-byte.byte-index c.loop-byte-test.true large)

pub returns-in_err-checked_mul : goal.returns-in_err-checked_mul
returns-in_err-checked_mul c =
    let large : 2 ^ 64 ≤ c.loop-byte.number * 10 + digit_value (get_or c.args.digits.now c.loop-byte.byte-index 0) = omega arith in
    c.from_residual-in_err-checked_mul.ensures
    ∙ sym (no_number-large c.args.digits.now c.loop-byte.byte-index c.loop-byte.number c.loop-byte-test.true c.loop-byte.invariant large)

pub returns-in_err-number : goal.returns-in_err-number
returns-in_err-number c =
    let e : c.from.result ≡ get_or c.args.digits.now c.loop-byte.byte-index 0 = omega arith in
    let large : 2 ^ 64 ≤ c.loop-byte.number * 10 + digit_value (get_or c.args.digits.now c.loop-byte.byte-index 0) = omega (arith, ap digit_value e, c.in_ok-digit.ensures.value) in
    c.from_residual-in_err-number.ensures
    ∙ sym (no_number-large c.args.digits.now c.loop-byte.byte-index c.loop-byte.number c.loop-byte-test.true c.loop-byte.invariant large)

pub loop-byte-preserved : goal.loop-byte-preserved
loop-byte-preserved c =
    let e : c.from.result ≡ get_or c.args.digits.now c.loop-byte.byte-index 0 = omega arith in
    let n : c.in_ok-number.number ≡ c.loop-byte.number * 10 + digit_value (get_or c.args.digits.now c.loop-byte.byte-index 0) = omega (arith, ap digit_value e, c.in_ok-digit.ensures.value) in
    let small : digit_value (get_or c.args.digits.now c.loop-byte.byte-index 0) < 10 = omega (arith, ap digit_value e, c.in_ok-digit.ensures.value) in
    rw n (reads_more c.args.digits.now c.loop-byte.byte-index c.loop-byte.number c.loop-byte-test.true small (omega arith) c.loop-byte.invariant)

pub returns : goal.returns
returns c =
    let some : 0 < length c.args.digits.now = omega (arith, eqb-false _ _ (sym c.if-is_empty.ensures)) in
    sym (reads_all c.args.digits.now c.loop-byte.byte-index c.loop-byte.number some c.loop-byte-test.false c.loop-byte.invariant)
