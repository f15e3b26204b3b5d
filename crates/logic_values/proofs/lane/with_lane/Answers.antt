-- The bit is set or cleared, and no other bit is.
use Rattle.std.proofs.Common.{◌==◌, w64, ap, sym, ◌∙◌}
use Rattle.std.proofs.lemmas.Nat.Bits.{bit_at_set_same, bit_at_set_other, bit_at_clear_same, bit_at_clear_other}
use Rattle.logic_values.proofs.lane.with_lane.Goals as goal

pub returns-then-bit-clause-this : goal.returns-then-bit-clause-this
returns-then-bit-clause-this c =
    ap (λ bit. bit == 1) (bit_at_set_same w64 c.args.word c.args.lane c.requires) ∙ sym c.if-bit.true

pub returns-then-bit-clause-others : goal.returns-then-bit-clause-others
returns-then-bit-clause-others c other within differs =
    ap (λ bit. bit == 1) (bit_at_set_other w64 c.args.word c.args.lane c.requires other differs)

pub returns-else-bit-clause-this : goal.returns-else-bit-clause-this
returns-else-bit-clause-this c =
    ap (λ bit. bit == 1) (bit_at_clear_same w64 c.args.word c.args.lane c.requires) ∙ sym c.if-bit.false

pub returns-else-bit-clause-others : goal.returns-else-bit-clause-others
returns-else-bit-clause-others c other within differs =
    ap (λ bit. bit == 1) (bit_at_clear_other w64 c.args.word c.args.lane c.requires other within differs)
