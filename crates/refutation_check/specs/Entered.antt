-- How a scope stands that was begun for a target and has entered the pins of its path (this project's own).
use Rattle.std.specs.Prelude.{◌≡◌, map, Some}
use Rattle.pd_base.specs.Target.{Target}
use Rattle.state_sets.specs.StateAlgebra.{StateAlgebra}
use Rattle.trees.specs.Algebras.{algebra_of}
use Rattle.implication.specs.declared.assumption.Assumption.TheVariants.{Entered}
use Rattle.implication.specs.Standing.{Standing}
use Rattle.implication.specs.NodeScopes.{beginning_of}

-- The scope has begun for the target and has entered the pins of its path, one after another, and nothing else is assumed; the kind of
-- states is that of the rules.
pub record HasEnteredFor (a : StateAlgebra) (target : Target) (standing : Standing) : Type 0 where
  pub of_rules : a ≡ algebra_of standing.rules
  pub beginning : standing.beginning ≡ Some (beginning_of target)
  pub entered : standing.assumptions ≡ map Entered target.path.steps
