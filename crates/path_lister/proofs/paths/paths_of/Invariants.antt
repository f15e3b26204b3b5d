use Rattle.std.proofs.Common.{◌≡◌, ◌≤◌, length, map, take, vec_len, vec_capacity}
use Rattle.path_laws.specs.CircuitGraph.{route_of}
use Rattle.path_lister.proofs.paths.paths_of.Given as goal

-- the paths of the walks before this one are there
abbrev pub invariant-loop-place : goal.invariant-loop-place
invariant-loop-place l = record {
  listed : l.paths.items ≡ map (route_of l.net l.pins) (take l.place l.listing);
  each : vec_len l.paths ≡ l.place;
  room : length l.listing ≤ vec_capacity l.paths;
}
