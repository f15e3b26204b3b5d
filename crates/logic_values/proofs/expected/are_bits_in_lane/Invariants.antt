use Rattle.std.proofs.Common.{◌≡◌, take, map}
use Rattle.logic_values.specs.Lanes.{lane_of}
use Rattle.logic_values.proofs.expected.are_bits_in_lane.Given as goal

-- the bits before this place are those in the lane
abbrev pub invariant-loop-place : goal.invariant-loop-place
invariant-loop-place l = take l.place l.bits ≡ map (λ word. lane_of word l.lane) (take l.place l.words)
