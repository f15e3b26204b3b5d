-- The digits' value is the number of whose decimal text they are.
use Rattle.std.proofs.Common.{arith, decimal}
use Rattle.text_pieces.proofs.Spelled.{none_spelled, one_spelled}
use Rattle.text_pieces.proofs.Decimals.{decimal_first, decimal_length, decimal_value, is_decimal}
use Rattle.text_pieces.proofs.number.read_number.Goals as goal
use Rattle.text_pieces.proofs.number.read_number.Goals.{else-first-eq48-via-then-first-eq48+else-word-gt1, else-first-eq48-via-else-first-eq48}

pub returns-in_default : goal.returns-in_default
returns-in_default c =
    none_spelled decimal _ c.args.word.now (λ v small is. let long = decimal_length c.args.word.now v (omega arith) is in absurd (omega arith))

pub returns-then-word-gt-MOST_DIGITS : goal.returns-then-word-gt-MOST_DIGITS
returns-then-word-gt-MOST_DIGITS c =
    none_spelled decimal _ c.args.word.now (λ v small is. let long = decimal_length c.args.word.now v (omega arith) is in absurd (omega arith))

pub returns-then-word-gt1 : goal.returns-then-word-gt1
returns-then-word-gt1 c =
    none_spelled decimal _ c.args.word.now
    (λ v small is. absurd (omega (arith, decimal_first c.args.word.now v (omega arith) is c.if-first-eq48.true)))

pub returns-in_default-value_of : goal.returns-in_default-value_of
returns-in_default-value_of c =
    none_spelled decimal _ c.args.word.now (λ v small is. c.in_default-value_of.ensures (decimal_value c.args.word.now v (omega arith) is).digits)

pub returns-then-number-from : goal.returns-then-number-from
returns-then-number-from c =
    none_spelled decimal _ c.args.word.now
    (λ v small is. let value = (decimal_value c.args.word.now v (omega arith) is).value in absurd (omega (arith, value, c.in-Some.ensures.value)))

pub returns : goal.returns
returns c =
    one_spelled decimal _ c.args.word.now c.in-Some.number (omega arith)
    (is_decimal c.args.word.now c.in-Some.number c.in-Some.ensures (omega arith)
    (λ zero. elim c.else-first-eq48.branch [
      | else-first-eq48-via-then-first-eq48+else-word-gt1 w ↦ omega arith
      | else-first-eq48-via-else-first-eq48 w ↦ absurd (w.if-first-eq48.false zero)
    ])
    (omega arith))
    (λ v small is. let value = (decimal_value c.args.word.now v (omega arith) is).value in omega (arith, value, c.in-Some.ensures.value))
