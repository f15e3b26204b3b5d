-- The prefixes of listed paths (this project's own).
use Rattle.std.specs.Prelude.{◌≡◌, ◌≢◌, ℕ, ◌+◌, ◌<◌, ◌≤◌, List, length, All, AllPairs, Contains}
use Rattle.pd_base.specs.Route.{Route}
use Rattle.netlist.specs.Paths.{IsPrefixOf, prefix_of}

-- the route has some step, and is a prefix of a listed path
pub record IsListedPrefix (routes : List Route) (prefix : Route) : Type 0 where
  pub some_step : 1 ≤ length prefix.steps
  pub listed : Route
  pub is_listed : Contains routes listed
  pub is_prefix : IsPrefixOf prefix listed

-- prefixes of listed paths, none twice
pub record AreListedPrefixes (routes prefixes : List Route) : Type 0 where
  pub each : All (IsListedPrefix routes) prefixes
  pub once : AllPairs (λ p q. p ≢ q) prefixes

-- the listed paths have so many prefixes of at least one step
pub record HasPrefixes (routes : List Route) (count : ℕ) : Type 0 where
  pub prefixes : List Route
  pub are_prefixes : AreListedPrefixes routes prefixes
  pub whole : (prefix : Route) → IsListedPrefix routes prefix → Contains prefixes prefix
  pub counts : count ≡ length prefixes

-- of the prefixes of a path, so many, the longest ones, are no prefixes of listed paths
pub record HasNewPrefixes (routes : List Route) (path : Route) (count : ℕ) : Type 0 where
  pub within : count ≤ length path.steps
  pub known : (steps : ℕ) → 1 ≤ steps → steps + count ≤ length path.steps → IsListedPrefix routes (prefix_of steps path)
  pub new : (steps : ℕ) → steps ≤ length path.steps → length path.steps < steps + count → ¬ IsListedPrefix routes (prefix_of steps path)
