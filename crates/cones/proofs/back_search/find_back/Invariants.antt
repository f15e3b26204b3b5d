use Rattle.std.proofs.Common.{◌≡◌, ◌-◌, ◌≤◌}
use Rattle.cones.proofs.Spreading.{IsSpread}
use Rattle.cones.proofs.back_search.find_back.Given as goal

-- what the lines before this place read was found
abbrev pub invariant-loop-place : goal.invariant-loop-place
invariant-loop-place l = record {
  room : l.found.room ≡ l.initial.found.room;
  within : l.place ≤ l.found.room;
  spread : IsSpread l.net l.links l.ends l.found.lines l.place;
}

abbrev pub decreases-loop-place : goal.decreases-loop-place
decreases-loop-place l = l.found.room - l.place
