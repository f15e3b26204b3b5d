use Rattle.std.proofs.Common.{take}
use Rattle.path_lister.proofs.Stopping.{AreMarked}
use Rattle.path_lister.proofs.arcs.stops_of.Given as goal

-- the nodes of the lines before this one are marked
abbrev pub invariant-loop-line : goal.invariant-loop-line
invariant-loop-line l = AreMarked l.net l.nodes (take l.line-index l.line-items) l.stops.items
