use Rattle.std.proofs.Common.{◌≡◌, ◌+◌, ◌≤◌, ℕ, length, get_or, vec_capacity}
use Rattle.claim_check.specs.PrefixNodes.{ArePut, IsPrefixNode}
use Rattle.claim_check.proofs.prefix_tree.nodes_of.Given as goal

-- the prefixes up to this length have their nodes
abbrev pub invariant-loop-pin : goal.invariant-loop-pin
invariant-loop-pin l = record {
  so_many : length l.nodes.items ≡ l.pin-index + 1;
  last : get_or l.nodes.items l.pin-index 0 ≡ l.node;
  own : (steps : ℕ) → steps ≤ l.pin-index → IsPrefixNode l.prefixes.keys l.path steps (get_or l.nodes.items steps 0);
  put : ArePut l.fn.prefixes.keys l.prefixes.keys l.nodes.items;
  room : length l.path.steps + 1 ≤ vec_capacity l.nodes;
}
