use Rattle.std.proofs.Common.{◌≡◌, length, take}
use Rattle.calls.specs.declared.refusal.TheConstants.{MOST_PARTS}
use Rattle.calls.proofs.refusal.array_of.Given as goal

-- so many of the parts stand in the array
abbrev pub invariant-loop-index : goal.invariant-loop-index
invariant-loop-index l = record {
  room : length l.array ≡ MOST_PARTS;
  filled : take l.index l.array ≡ take l.index l.parts;
}
