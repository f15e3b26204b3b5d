-- Each bit of the exclusive or turns.
use Rattle.std.proofs.Common.{◌≡◌, not, Bool, true, false, bit_xor, refl, ap, ◌∙◌}
use Rattle.std.specs.Bool.{beq}
use Rattle.std.proofs.lemmas.Nat.{xor_lt}
use Rattle.logic_values.specs.Lanes.{lane_of}
use Rattle.logic_values.proofs.LaneBits.{lane_of-not, lane_of-xor}
use Rattle.test_grade.proofs.steady_lanes.same_bits.Goals as goal

twice : (bit : Bool) → not (not bit) ≡ bit
twice true = refl
twice false = refl

pub returns : goal.returns
returns c lane within =
    let a = c.args.first in
    let b = c.args.second in
    lane_of-not (bit_xor a b) lane (xor_lt 64 a b c.ranges.first.fits c.ranges.second.fits) within
    ∙ ap not (lane_of-xor a b lane) ∙ twice (beq (lane_of a lane) (lane_of b lane))
