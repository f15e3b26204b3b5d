-- The bound on the budgets that can be spent on a path, by the rules and the number of sources in its support (this project's own).
use Rattle.std.specs.Prelude.{◌≢◌, ℕ, ◌-◌, ◌^◌, ◌<◌, ◌↔◌, List, length, AllPairs, Contains}
use Rattle.pd_base.specs.Route.{Route}
use Rattle.pd_base.specs.declared.rules.Rules.{Rules}
use Rattle.pd_base.specs.declared.rules.Rules.TheVariants.{One, Two, Linked}
use Rattle.netlist.specs.Circuit.{Circuit}
use Rattle.trees.specs.Spent.{IsInSupport}

-- these are exactly the sources in the support of the path, each once
pub record AreSupport (c : Circuit) (rules : Rules) (path : Route) (sources : List ℕ) : Type 0 where
  pub once : AllPairs (λ a b. a ≢ b) sources
  pub exactly : (source : ℕ) → Contains sources source ↔ IsInSupport c rules path source

-- how many states a source other than the path's own may start in: it is steady or not, and has a last value
abbrev pub states_of_source : Rules → ℕ
states_of_source One = 4
states_of_source Two = 2
states_of_source (Linked links) = 4

-- the budget is below the number of states of a source to the power of the number of sources in the support, the path's own not
-- counted
abbrev pub IsBelowBound : Circuit → Rules → Route → ℕ → Type 0
IsBelowBound c rules path budget =
    (sources : List ℕ) → AreSupport c rules path sources → budget < states_of_source rules ^ (length sources - 1)
