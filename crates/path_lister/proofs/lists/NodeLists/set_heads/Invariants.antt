use Rattle.std.proofs.Common.{ℕ, ◌+◌, ◌<◌}
use Rattle.path_laws.specs.Graph.{IsArcOf}
use Rattle.path_laws.specs.Lists.{IsReady}
use Rattle.path_laws.specs.Growth.{IsBegun}
use Rattle.path_lister.proofs.lists.NodeLists.set_heads.Given as goal

-- the arcs before this one are ready
abbrev pub invariant-loop-arc : goal.invariant-loop-arc
invariant-loop-arc l = record {
  begun : IsBegun l.graph l.self (l.node + 1);
  ready : (arc : ℕ) → IsArcOf l.graph l.node arc → arc < l.arc → IsReady l.graph l.self l.node arc;
}
