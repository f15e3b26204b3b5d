use Rattle.path_lister.proofs.Nodes.{HaveNodes}
use Rattle.path_lister.proofs.ranking.nodes_of.Given as goal

-- the lines before this one have their nodes
abbrev pub invariant-loop-place : goal.invariant-loop-place
invariant-loop-place l = HaveNodes l.net l.lines l.place l.nodes.items
