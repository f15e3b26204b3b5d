-- A line is steady at a bit where it is steady and ends there.
use Rattle.std.proofs.Common.{◌≡◌, not, Bool, true, false, ◌&&◌, w64, refl, ap, sym, ◌∙◌}
use Rattle.std.specs.Int.{bit_not}
use Rattle.netlist.specs.Steadiness.{is_known_as}
use Rattle.logic_values.specs.Lanes.{lane_of}
use Rattle.logic_values.proofs.LaneBits.{lane_of-and, lane_of-not}
use Rattle.test_grade.specs.Lines.{known_in}
use Rattle.test_grade.proofs.steady_lanes.at_bit.Goals as goal

at_one : (steady last : Bool) → (steady && last) ≡ is_known_as true (known_in last steady)
at_one true true = refl
at_one true false = refl
at_one false last = refl

at_none : (steady last : Bool) → (steady && not last) ≡ is_known_as false (known_in last steady)
at_none true true = refl
at_none true false = refl
at_none false last = refl

pub returns-then-bit : goal.returns-then-bit
returns-then-bit c lane within =
    lane_of-and c.args.steady c.args.last lane
    ∙ at_one (lane_of c.args.steady lane) (lane_of c.args.last lane)
    ∙ ap (λ bit. is_known_as bit (known_in (lane_of c.args.last lane) (lane_of c.args.steady lane))) (sym c.if-bit.true)

pub returns-else-bit : goal.returns-else-bit
returns-else-bit c lane within =
    lane_of-and c.args.steady (bit_not w64 c.args.last) lane
    ∙ ap (λ last. lane_of c.args.steady lane && last) (lane_of-not c.args.last lane c.ranges.last.fits within)
    ∙ at_none (lane_of c.args.steady lane) (lane_of c.args.last lane)
    ∙ ap (λ bit. is_known_as bit (known_in (lane_of c.args.last lane) (lane_of c.args.steady lane))) (sym c.if-bit.false)
