-- How many pins are 1 tells the gate's value, kind by kind.
use Rattle.std.proofs.Common.{⊎_elim}
use Rattle.delay_replay.proofs.PinCounts.{and_counted, nand_counted, or_counted, nor_counted, xor_counted, xnor_counted, buff_counted, not_counted}
use Rattle.delay_replay.proofs.pin_count.value_of_count.Goals as goal

pub returns-in-And : goal.returns-in-And
returns-in-And c values fan_in many count = and_counted c.args.kind c.args.pins c.args.count values many count c.in-And.is

pub returns-in-Nand : goal.returns-in-Nand
returns-in-Nand c values fan_in many count = nand_counted c.args.kind c.args.pins c.args.count values many count c.in-Nand.is

pub returns-in-Or : goal.returns-in-Or
returns-in-Or c values fan_in many count =
    ⊎_elim
    (or_counted c.args.kind c.args.pins c.args.count values many count)
    (buff_counted c.args.kind c.args.pins c.args.count values many count fan_in)
    c.in-Or.is

pub returns-in-Nor : goal.returns-in-Nor
returns-in-Nor c values fan_in many count =
    ⊎_elim
    (nor_counted c.args.kind c.args.pins c.args.count values many count)
    (not_counted c.args.kind c.args.pins c.args.count values many count fan_in)
    c.in-Nor.is

pub returns-in-Xor : goal.returns-in-Xor
returns-in-Xor c values fan_in many count = xor_counted c.args.kind c.args.pins c.args.count values many count c.in-Xor.is

pub returns-in-Xnor : goal.returns-in-Xnor
returns-in-Xnor c values fan_in many count = xnor_counted c.args.kind c.args.pins c.args.count values many count c.in-Xnor.is
