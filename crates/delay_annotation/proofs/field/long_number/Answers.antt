-- Each turn reads one digit more; a byte that is no digit ends it.
use Rattle.std.proofs.Common.{◌<◌, sym, ap, subst, ◌∙◌, arith}
use Rattle.std.specs.Char.{digit_value}
use Rattle.delay_annotation.proofs.Digits.{next_digit, no_number, nine_digits}
use Rattle.delay_annotation.proofs.field.long_number.Goals as goal

pub returns-in_default : goal.returns-in_default
returns-in_default c =
    no_number c.args.most c.args.text.now c.loop-byte.byte-index c.loop-byte-test.true
    (λ digit. c.in_default.ensures.value (subst (λ byte. digit_value byte < 10) (sym c.from.ensures) digit))

pub overflow_mul-number : goal.overflow_mul-number
overflow_mul-number c =
    let small = nine_digits c.args.text.now c.loop-byte.byte-index (omega arith) c.loop-byte.invariant.digits in omega arith

pub overflow_add-number : goal.overflow_add-number
overflow_add-number c =
    let small = nine_digits c.args.text.now c.loop-byte.byte-index (omega arith) c.loop-byte.invariant.digits in
    let digit = c.in-Some.ensures.value in omega arith

pub loop-byte-preserved : goal.loop-byte-preserved
loop-byte-preserved c =
    let digit = c.in-Some.ensures.value in
    next_digit c.args.text.now c.loop-byte.byte-index c.loop-byte.number c.from-in-loop-byte.result c.loop-byte-test.true
    c.loop-byte.invariant.digits c.loop-byte.invariant.value
    (subst (λ byte. digit_value byte < 10) c.from.ensures digit.0) (c.from-in-loop-byte.ensures ∙ digit.1 ∙ ap digit_value c.from.ensures)
