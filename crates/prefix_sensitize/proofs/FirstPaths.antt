-- The first paths of a circuit can be searched: none stands among them twice, since each stands before the next.
use Rattle.std.proofs.Common.{◌≢◌, ℕ, zero, suc, ◌<◌, ◌≤◌, List, [], ◌∷◌, length, get_or, sym, subst, arith}
use Rattle.std.specs.List.{AllPairs}
use Rattle.pd_base.specs.declared.limits.TheConstants.{MOST_PATHS}
use Rattle.pd_base.specs.Route.{Route}
use Rattle.netlist.specs.Circuit.{Circuit}
use Rattle.netlist.specs.Lawful.{IsCircuit}
use Rattle.netlist.specs.Order.{AreFirst, IsBefore, IsRising}
use Rattle.netlist.specs.Waves.{Delays}
use Rattle.path_laws.proofs.StepCounts.{prefix_has_few_steps}
use Rattle.good_runs.proofs.FirstOnce.{few_first, rest_rising}
use Rattle.good_runs.proofs.PathsInOrder.{not_before_itself, stands_before}
use Rattle.prefix_sensitize.specs.Walks.{AreSearchablePaths}

module _ (delays : Delays) where
  -- the first of rising paths stands before each other one
  first_before : (first : Route) (paths : List Route) → IsRising delays (first ∷ paths) → (place : ℕ) (d : Route) → place < length paths
      → IsBefore delays first (get_or paths place d)
  first_before first [] rising place d within = absurd (omega arith)
  first_before first (second ∷ paths) rising zero d within = rising.0
  first_before first (second ∷ paths) rising (suc place) d within =
      stands_before delays first second (get_or paths place d) rising.0 (first_before second paths rising.1 place d (omega arith))

  -- so none of rising paths is there twice
  rising_once : (paths : List Route) → IsRising delays paths → AllPairs (λ p q. p ≢ q) paths
  rising_once [] rising i j d less within = absurd (omega arith)
  rising_once (first ∷ paths) rising i zero d less within = absurd (omega arith)
  rising_once (first ∷ paths) rising zero (suc j) d less within =
      λ same. not_before_itself delays first
      (subst (IsBefore delays first) (sym same) (first_before first paths rising j d (omega arith)))
  rising_once (first ∷ paths) rising (suc i) (suc j) d less within =
      rising_once paths (rest_rising delays first paths rising) i j d (omega arith) (omega arith)

-- the first paths of a circuit, of which few enough were asked for
pub first_are_searchable : (c : Circuit) (delays : Delays) (count : ℕ) (routes : List Route) → IsCircuit c
    → AreFirst c delays count routes → count ≤ MOST_PATHS → AreSearchablePaths c routes
first_are_searchable c delays count routes circuit first few = record {
  are_paths = first.are_paths;
  once = rising_once delays routes first.rising;
  few = omega (arith, few_first c delays count routes first.full, few);
  short = λ place d within. prefix_has_few_steps c circuit (get_or routes place d) (first.are_paths place d within).prefix;
}
