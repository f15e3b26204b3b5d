-- What the tests of a run leave at 0 (this project's own).
use Rattle.std.specs.Prelude.{All}
use Rattle.pd_base.specs.Route.{Route}
use Rattle.netlist.specs.Circuit.{Circuit}
use Rattle.runs.specs.declared.run.Run.{Run}
use Rattle.trees.specs.ZeroOutside.{IsZeroOutside}
use Rattle.good_runs.specs.Faults.{IsNumber, routes_of}

-- Each test of the run leaves the sources outside the support of the listed path that it names at 0, as far as no link gives them their
-- bits.
abbrev pub LeavesZeroOutside : Circuit → Run → Type 0
LeavesZeroOutside c run =
    All (λ test. (path : Route) → IsNumber (routes_of run) test.path path → IsZeroOutside c run.rules path test.pair) run.tests
