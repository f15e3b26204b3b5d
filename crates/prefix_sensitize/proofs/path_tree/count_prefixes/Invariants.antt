use Rattle.std.proofs.Common.{◌≤◌, ◌*◌, take}
use Rattle.netlist.specs.declared.limits.TheConstants.{MOST_LEVELS}
use Rattle.prefix_sensitize.specs.PathOrder.{routes_in}
use Rattle.prefix_sensitize.specs.Prefixes.{HasPrefixes}
use Rattle.prefix_sensitize.proofs.path_tree.count_prefixes.Given as goal

-- the prefixes of the paths before this one are counted
abbrev pub invariant-loop-place : goal.invariant-loop-place
invariant-loop-place l = record {
  count : HasPrefixes (routes_in l.paths (take l.place l.order)) l.prefixes;
  few : l.prefixes ≤ l.place * MOST_LEVELS;
}
