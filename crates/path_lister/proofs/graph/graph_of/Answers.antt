-- The graph is built on all lines by level.
use Rattle.std.proofs.Common.{sym, subst}
use Rattle.path_lister.specs.Ranking.{IsRanking}
use Rattle.path_lister.proofs.graph.graph_of.Goals as goal

pub graph_on-requires-clause-lines : goal.graph_on-requires-clause-lines
graph_on-requires-clause-lines c =
    subst (IsRanking c.args.net.now) (sym c.as_slice.ensures.value) c.in_ok-lines.ensures.lines
