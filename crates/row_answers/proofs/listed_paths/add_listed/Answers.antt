-- The slice has the paths that were listed.
use Rattle.std.proofs.Common.{List, All, sym, subst}
use Rattle.pd_base.specs.Route.{Route}
use Rattle.netlist.specs.Paths.{IsPath}
use Rattle.row_answers.proofs.listed_paths.add_listed.Goals as goal

pub add_paths-requires-clause-paths : goal.add_paths-requires-clause-paths
add_paths-requires-clause-paths c =
    let Paths : List Route → Type 0 = λ routes. All (IsPath c.args.net.now) routes in
    subst Paths (sym c.as_slice.ensures.value) c.in_ok-paths.ensures
