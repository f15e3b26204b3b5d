-- What std reads of a text that may spell a number.
use Rattle.std.proofs.Common.{◌∙◌, arith}
use Rattle.command_line.proofs.Numbers.{read}
use Rattle.command_line.proofs.number.long_number.Goals as goal

pub returns-then-may_spell : goal.returns-then-may_spell
returns-then-may_spell c =
    c.ok.ensures.value
    ∙ read 64 19 c.args.most_digits c.args.text.now c.parse.result (omega arith) c.requires c.parse.ensures.value.0
    (c.may_spell.ensures.0 c.if-may_spell.true)
