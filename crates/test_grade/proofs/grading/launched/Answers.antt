-- The bits that end so and are not steady.
use Rattle.std.proofs.Common.{◌≡◌, ◌&&◌, not, true, false, w64, bit_and, ap, ap₂, sym, subst, ◌↔◌, IsTrue, ◌∙◌}
use Rattle.std.specs.Int.{bit_not}
use Rattle.logic_values.specs.Lanes.{lane_of}
use Rattle.logic_values.proofs.LaneBits.{lane_of-and, lane_of-not}
use Rattle.test_grade.proofs.GradedSides.{said_of, launched_at, launched_not}
use Rattle.test_grade.proofs.grading.launched.Goals as goal

pub returns-then-final_bit : goal.returns-then-final_bit
returns-then-final_bit c lane within =
    let last = lane_of c.args.last lane in
    let steady = lane_of c.args.steady lane in
    subst (λ bit. IsTrue (lane_of (bit_and c.args.last (bit_not w64 c.args.steady)) lane) ↔ ((last ≡ bit) × (steady ≡ false)))
    (sym c.if-final_bit.true ∙ c.final_bit.ensures)
    (said_of ((last ≡ true) × (steady ≡ false)) (lane_of (bit_and c.args.last (bit_not w64 c.args.steady)) lane) (last && not steady)
    (lane_of-and c.args.last (bit_not w64 c.args.steady) lane
    ∙ ap (λ other. last && other) (lane_of-not c.args.steady lane c.ranges.steady.fits within))
    (launched_at last steady))

pub returns-else-final_bit : goal.returns-else-final_bit
returns-else-final_bit c lane within =
    let last = lane_of c.args.last lane in
    let steady = lane_of c.args.steady lane in
    let word = bit_and (bit_not w64 c.args.last) (bit_not w64 c.args.steady) in
    subst (λ bit. IsTrue (lane_of word lane) ↔ ((last ≡ bit) × (steady ≡ false)))
    (sym c.if-final_bit.false ∙ c.final_bit.ensures)
    (said_of ((last ≡ false) × (steady ≡ false)) (lane_of word lane) (not last && not steady)
    (lane_of-and (bit_not w64 c.args.last) (bit_not w64 c.args.steady) lane
    ∙ ap₂ (λ a b. a && b) (lane_of-not c.args.last lane c.ranges.last.fits within) (lane_of-not c.args.steady lane c.ranges.steady.fits within))
    (launched_not last steady))
