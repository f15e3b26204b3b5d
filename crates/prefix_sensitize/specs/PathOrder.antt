-- An order of listed paths in which those that share a prefix stand side by side (this project's own).
use Rattle.std.specs.Prelude.{◌≡◌, ◌≢◌, ℕ, ◌<◌, ◌≤◌, List, [], length, map, take, slice_get, slice_index_or, Some, All, AllPairs, Contains}
use Rattle.std.specs.Borrow.{Bor}
use Rattle.pd_base.specs.declared.ids.LineId.{LineId}
use Rattle.pd_base.specs.declared.ids.PinRef.{PinRef}
use Rattle.pd_base.specs.Route.{Route}
use Rattle.netlist.specs.Paths.{IsPrefixOf, prefix_of}

-- the rows of listed paths in an order, and how many prefixes the paths have
pub record OrderedPaths : Type 0 where
  pub order : List ℕ
  pub prefixes : ℕ

-- the source and the steps of the path in a row of the list, with the row
pub record IsEntry (routes : List Route) (entry : LineId × Bor (List PinRef) × ℕ) : Type 0 where
  pub is_listed : slice_get routes entry.2 ≡ Some (record { source = entry.0; steps = entry.1.now })

-- the rows of entries
abbrev pub rows_in : List (LineId × Bor (List PinRef) × ℕ) → List ℕ
rows_in entries = map (λ entry. entry.2) entries

-- the paths in these rows of a list
abbrev pub routes_in : List Route → List ℕ → List Route
routes_in routes rows = map (λ row. slice_index_or routes row (record { source = record { 0 = 0 }; steps = [] })) rows

-- the path at this place of the order, and its row in the list
pub record StandsInOrder (routes : List Route) (order : List ℕ) (place row : ℕ) (route : Route) : Type 0 where
  pub is_placed : slice_get order place ≡ Some row
  pub is_listed : slice_get routes row ≡ Some route

-- Each row of the list has one place. Between two paths with a common prefix stand paths with this prefix alone, and no path stands
-- before one that is a prefix of it.
pub record IsOrder (routes : List Route) (order : List ℕ) : Type 0 where
  pub one_each : length order ≡ length routes
  pub inside : All (λ row. row < length routes) order
  pub once : AllPairs (λ a b. a ≢ b) order
  pub whole : (row : ℕ) → row < length routes → Contains order row
  pub together : (first middle last a b c : ℕ) (p q r prefix : Route)
      → StandsInOrder routes order first a p → StandsInOrder routes order middle b q → StandsInOrder routes order last c r
      → first ≤ middle → middle ≤ last → IsPrefixOf prefix p → IsPrefixOf prefix r → IsPrefixOf prefix q
  pub prefixes_first : (first last a b : ℕ) (p q : Route) → StandsInOrder routes order first a p → StandsInOrder routes order last b q
      → first < last → IsPrefixOf q p → p ≡ q

-- the most steps that two lists of pins share at their beginning
pub record ShareSteps (p q : List PinRef) (shared : ℕ) : Type 0 where
  pub in_first : shared ≤ length p
  pub in_second : shared ≤ length q
  pub same : take shared p ≡ take shared q
  pub most : (more : ℕ) → more ≤ length p → more ≤ length q → take more p ≡ take more q → more ≤ shared

-- So many steps from its source on a path shares with another one, and no more.
pub record SharePrefix (other path : Route) (shared : ℕ) : Type 0 where
  pub in_path : shared ≤ length path.steps
  pub shares : (steps : ℕ) → 1 ≤ steps → steps ≤ shared → IsPrefixOf (prefix_of steps path) other
  pub most : (steps : ℕ) → 1 ≤ steps → steps ≤ length path.steps → IsPrefixOf (prefix_of steps path) other → steps ≤ shared

-- The paths with this prefix that do not stand before a place: they stand from there up to another place; and the least of their rows.
pub record IsStretch (routes : List Route) (order : List ℕ) (prefix : Route) (place end least : ℕ) : Type 0 where
  pub some : place < end
  pub in_order : end ≤ length order
  pub inside : (at row : ℕ) (route : Route) → StandsInOrder routes order at row route → place ≤ at → at < end → IsPrefixOf prefix route
  pub behind : (at row : ℕ) (route : Route) → StandsInOrder routes order at row route → end ≤ at → ¬ IsPrefixOf prefix route
  pub at_least : ℕ
  pub least_behind : place ≤ at_least
  pub least_inside : at_least < end
  pub is_placed : slice_get order at_least ≡ Some least
  pub is_least : (at row : ℕ) → place ≤ at → at < end → slice_get order at ≡ Some row → least ≤ row

-- `first` is the first place whose path has this prefix: no path at an earlier one has it; and it is no later than `place`
pub record IsFirstPlace (routes : List Route) (order : List ℕ) (prefix : Route) (place first : ℕ) : Type 0 where
  pub no_later : first ≤ place
  pub has : (row : ℕ) (route : Route) → StandsInOrder routes order first row route → IsPrefixOf prefix route
  pub no_earlier : (at row : ℕ) (route : Route) → StandsInOrder routes order at row route → IsPrefixOf prefix route → first ≤ at
