-- Seven digits fit.
use Rattle.std.proofs.Common.{arith}
use Rattle.delay_annotation.proofs.Digits.{short_number}
use Rattle.delay_annotation.proofs.field.number.Goals as goal

pub overflow_cast-result : goal.overflow_cast-result
overflow_cast-result c =
    let below = short_number c.args.most c.args.text.now c.in_ok-number.number (omega arith) c.in_ok-number.ensures in omega arith
