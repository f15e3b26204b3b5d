use Rattle.std.proofs.Common.{◌≡◌, map, take}
use Rattle.logic_values.specs.Lanes.{lane_of}
use Rattle.logic_values.proofs.expected.put_bits.Given as goal

-- the bits of the words so far are put
abbrev pub invariant-loop-place : goal.invariant-loop-place
invariant-loop-place l = take l.place l.bits ≡ map (λ word. lane_of word l.lane) (take l.place l.words)
