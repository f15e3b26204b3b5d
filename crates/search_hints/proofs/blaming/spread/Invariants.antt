use Rattle.std.proofs.Common.{◌≡◌, ◌-◌, ◌≤◌}
use Rattle.search_hints.specs.Blamed.{AreBehind}
use Rattle.search_hints.proofs.blaming.spread.Given as goal

-- the lines that were found are behind the first ones
abbrev pub invariant-loop-place : goal.invariant-loop-place
invariant-loop-place l = record {
  room : l.found.room ≡ l.fn.found.room;
  within : l.place ≤ l.found.room;
  behind : AreBehind l.net l.fn.found.lines l.found.lines;
}

abbrev pub decreases-loop-place : goal.decreases-loop-place
decreases-loop-place l = l.found.room - l.place
