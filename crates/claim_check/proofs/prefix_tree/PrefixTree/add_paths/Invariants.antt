use Rattle.std.proofs.Common.{◌+◌, ◌*◌, ◌≤◌, length, take}
use Rattle.std.specs.Prelude.{sum_by}
use Rattle.netlist.specs.declared.limits.TheConstants.{MOST_LEVELS}
use Rattle.claim_check.specs.PrefixNodes.{IsTreeOf}
use Rattle.claim_check.proofs.prefix_tree.PrefixTree.add_paths.Given as goal

-- the paths before this one are in the tree, with few enough nodes
abbrev pub invariant-loop-path : goal.invariant-loop-path
invariant-loop-path l = record {
  tree : IsTreeOf (take l.path-index l.paths) l.prefixes.keys l.self;
  room : sum_by length l.self.rows ≤ l.path-index * (MOST_LEVELS + 1);
  few : length l.prefixes.keys ≤ sum_by length l.self.rows;
}
