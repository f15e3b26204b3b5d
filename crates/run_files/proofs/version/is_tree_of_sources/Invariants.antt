use Rattle.std.proofs.Common.{◌≡◌, true, take}
use Rattle.std.specs.List.{list_all}
use Rattle.run_files.specs.ProofsVersions.{is_source_node}
use Rattle.run_files.proofs.version.is_tree_of_sources.Given as goal

-- all nodes so far are
abbrev pub invariant-loop-node : goal.invariant-loop-node
invariant-loop-node l = list_all (is_source_node l.sources) (take l.node-index l.nodes) ≡ true
