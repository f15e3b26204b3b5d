-- What std reads of a text that may spell a number in the range.
use Rattle.std.proofs.Common.{refl, sym}
use Rattle.std.proofs.lemmas.Bool.{le-leb}
use Rattle.command_line.proofs.Numbers.{read_none, read_some}
use Rattle.command_line.proofs.number.is_within.Goals as goal

pub returns-then-value-least : goal.returns-then-value-least
returns-then-value-least c =
    let spelled = read_some 32 c.args.most_digits c.in-Ok.value c.args.text.now c.parse.result c.in-Ok.is c.parse.ensures.value.0
    (c.may_spell.ensures.0 c.if-not-may_spell.false) in
    rw spelled (rw (le-leb c.args.least c.in-Ok.value c.if-value-least.true) refl)

pub returns-in-Err : goal.returns-in-Err
returns-in-Err c =
    sym (read_none 32 c.args.least c.args.greatest c.args.most_digits c.args.text.now c.parse.result _ c.ranges.greatest.fits c.in-Err.is
    c.parse.ensures.value.0 (c.may_spell.ensures.0 c.if-not-may_spell.false))
