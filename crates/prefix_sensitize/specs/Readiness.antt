-- What stands between the searches for one aim and those for the next (this project's own).
use Rattle.std.specs.Prelude.{◌≡◌, ℕ, ◌+◌, ◌*◌, ◌≤◌, List, ◌++◌, length, Bool, Some, None, All}
use Rattle.state_sets.specs.StateAlgebra.{StateAlgebra}
use Rattle.pd_base.specs.declared.ids.LineId.{LineId}
use Rattle.pd_base.specs.declared.rules.Rules.{Rules}
use Rattle.netlist.specs.Circuit.{Circuit}
use Rattle.netlist.specs.LinkedPairs.{FitRules}
use Rattle.trees.specs.Algebras.{algebra_of}
use Rattle.netlist.specs.declared.limits.TheConstants.{MOST_LEVELS}
use Rattle.pd_base.specs.Route.{Route}
use Rattle.pd_base.specs.declared.fault.Direction.{Direction}
use Rattle.runs.specs.declared.run.Proof.{Proof}
use Rattle.implication.specs.Standing.{Standing, told_ends}
use Rattle.justify.specs.declared.desk.Desk.{Desk}
use Rattle.justify.specs.Desks.{IsDeskFor}
use Rattle.prefix_sensitize.specs.declared.course.PathsInOrder.{PathsInOrder}
use Rattle.prefix_sensitize.specs.Outcomes.{AreFoundProofs}
use Rattle.prefix_sensitize.specs.PathOrder.{IsOrder, OrderedPaths}
use Rattle.prefix_sensitize.specs.Prefixes.{HasPrefixes}
use Rattle.prefix_sensitize.specs.Walks.{AreSearchablePaths, AreToldPaths, IsBudget}

-- these are the order of the listed paths and the number of their prefixes
pub record IsTreeFor (routes : List Route) (tree : OrderedPaths) : Type 0 where
  pub order : IsOrder routes tree.order
  pub prefixes : HasPrefixes routes tree.prefixes
  pub few : tree.prefixes ≤ length routes * MOST_LEVELS

-- an engine with this kind of states, which is that of its rules; these fit the circuit, and no scope is open
pub record IsSet (a : StateAlgebra) (standing : Standing) : Type 0 where
  pub of_rules : a ≡ algebra_of standing.rules
  pub fit : FitRules standing.net standing.rules
  pub idle : standing.beginning ≡ None

-- no scope is open on the engine, which is made for this circuit and these rules, and tells these ends
pub record IsMadeFor (c : Circuit) (rules : Rules) (ends : List LineId) (standing : Standing) : Type 0 where
  pub net : standing.net ≡ c
  pub own : standing.rules ≡ rules
  pub near : Bool
  pub told : standing.ends ≡ Some (told_ends ends near)
  pub idle : standing.beginning ≡ None

-- the paths can be searched with this engine and this desk: no scope is open on it, and it tells the end of each path
pub record IsReadyFor (a : StateAlgebra) (in_order : PathsInOrder) (budget : ℕ) (standing : Standing) (on : Desk) : Type 0 where
  pub idle : standing.beginning ≡ None
  pub listed : AreSearchablePaths standing.net in_order.paths.now
  pub told : AreToldPaths standing in_order.paths.now
  pub desk : IsDeskFor a standing.net standing.rules on
  pub tree : IsTreeFor in_order.paths.now in_order.tree.now
  pub within : IsBudget budget

-- no proof is about this direction
abbrev pub NoneIsFor : Direction → List Proof → Type 0
NoneIsFor direction proofs = All (λ proof. ¬ (proof.dir ≡ direction)) proofs

-- proofs were found, and none of them is about this direction yet
pub record AreBeforeDirection (c : Circuit) (rules : Rules) (budget : ℕ) (routes : List Route) (direction : Direction) (proofs : List Proof)
    : Type 0 where
  pub found : AreFoundProofs c rules budget routes proofs
  pub fresh : NoneIsFor direction proofs

-- there may be more proofs, all about this direction
pub record AddsProofsFor (direction : Direction) (old new : List Proof) : Type 0 where
  pub more : List Proof
  pub adds : new ≡ old ++ more
  pub aimed : All (λ proof. proof.dir ≡ direction) more

-- the count rose by no more than so many times the number of the paths' prefixes
abbrev pub CountsAtMost : List Route → ℕ → ℕ → ℕ → Type 0
CountsAtMost routes times old new = (prefixes : ℕ) → HasPrefixes routes prefixes → new ≤ old + times * prefixes
