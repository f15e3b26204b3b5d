use Rattle.std.specs.List.{All}
use Rattle.cones.specs.KeptCones.{IsNoCone}
use Rattle.cones.proofs.end_cone.no_cones.Given as goal

-- the cones so far are of no end
abbrev pub invariant-loop : goal.invariant-loop
invariant-loop l = All (IsNoCone l.lines) l.cones.items
