use Rattle.std.proofs.Common.{◌-◌}
use Rattle.path_laws.specs.Graph.{node_count}
use Rattle.path_lister.proofs.lists.NodeLists.+grow.Given as goal

-- arcs lead to greater nodes
abbrev pub decreases-grow : goal.decreases-grow
decreases-grow l = node_count l.graph.now - l.node
