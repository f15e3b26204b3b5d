-- How an engine has to be set for a search for a path, and how a scope stands at its start (this project's own).
use Rattle.std.specs.Prelude.{◌≡◌, ⊤, ℕ, ◌≤◌, Some, None}
use Rattle.pd_base.specs.Target.{Target}
use Rattle.pd_base.specs.declared.limits.TheConstants.{MOST_BUDGET}
use Rattle.netlist.specs.LinkedPairs.{FitRules}
use Rattle.netlist.specs.Paths.{IsPrefix, end_of}
use Rattle.state_sets.specs.StateAlgebra.{StateAlgebra}
use Rattle.trees.specs.Algebras.{algebra_of}
use Rattle.trees.specs.Spent.{IsInSupport}
use Rattle.implication.specs.Standing.{Standing, IsTold}
use Rattle.implication.specs.NodeScopes.{beginning_of}
use Rattle.justify.specs.UnderWay.{entered_steps}
use Rattle.justify.specs.declared.answer.Unfinished.{Unfinished}
use Rattle.justify.specs.declared.answer.Unfinished.TheVariants.{NoMemory, Undecided}

-- the path's pins are entered, nothing else is assumed, and no conflict stands
pub record IsStart (target : Target) (standing : Standing) : Type 0 where
  pub beginning : standing.beginning ≡ Some (beginning_of target)
  pub entered : standing.assumptions ≡ entered_steps target.path
  pub free : standing.conflict ≡ None

-- A search for a test for the target can begin on the scope: the path is one of the circuit, its pins and nothing else are entered, and the
-- budget has some splits, and no more than the program takes.
pub record CanBegin (target : Target) (budget : ℕ) (standing : Standing) : Type 0 where
  pub prefix : IsPrefix standing.net target.path
  pub start : IsStart target standing
  pub positive : 1 ≤ budget
  pub within : budget ≤ MOST_BUDGET

-- the rules fit the circuit, and this kind of states is theirs
pub record SuitsRules (a : StateAlgebra) (standing : Standing) : Type 0 where
  pub of_rules : a ≡ algebra_of standing.rules
  pub fit : FitRules standing.net standing.rules

-- The target's path is one of the circuit, and its end is told. The rules fit the circuit, and this kind of states is theirs.
pub record SuitsSearch (a : StateAlgebra) (target : Target) (standing : Standing) : Type 0 where
  pub of_rules : a ≡ algebra_of standing.rules
  pub fit : FitRules standing.net standing.rules
  pub prefix : IsPrefix standing.net target.path
  pub told : IsTold standing (end_of standing.net target.path)

-- a source of the path's support that the engine tells
pub record IsToldInSupport (target : Target) (standing : Standing) (source : ℕ) : Type 0 where
  pub in_support : IsInSupport standing.net standing.rules target.path source
  pub told : IsTold standing source

-- the engine tells all sources of the path's support
abbrev pub TellsSupport : Target → Standing → Type 0
TellsSupport target standing = (source : ℕ) → IsInSupport standing.net standing.rules target.path source → IsTold standing source

-- What a search may have ended by with nothing found: want of memory; or nothing is known, only where the engine doesn't tell all sources of
-- the support.
abbrev pub MayEndBy : Target → Standing → Unfinished → Type 0
MayEndBy target standing (NoMemory _) = ⊤
MayEndBy target standing Undecided = ¬ TellsSupport target standing
