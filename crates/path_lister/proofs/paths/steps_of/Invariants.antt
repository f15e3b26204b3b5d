use Rattle.std.proofs.Common.{◌≡◌, ◌≤◌, length, map, take, vec_len, vec_capacity}
use Rattle.path_laws.specs.CircuitGraph.{arc_pin}
use Rattle.path_lister.proofs.paths.steps_of.Given as goal

-- the pins of the arcs before this one are there
abbrev pub invariant-loop-arc : goal.invariant-loop-arc
invariant-loop-arc l = record {
  listed : l.steps.items ≡ map (arc_pin l.net l.pins) (take l.arc-index l.walk);
  each : vec_len l.steps ≡ l.arc-index;
  room : length l.walk ≤ vec_capacity l.steps;
}
