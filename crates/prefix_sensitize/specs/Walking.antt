-- What each stretch of a walk stands on, and what it leaves, in words that are spoken inside this crate alone (this project's own).
use Rattle.std.specs.Prelude.{◌≡◌, Bool, ℕ, ◌+◌, ◌*◌, ◌<◌, ◌≤◌, ◌^◌, List, Option, length}
use Rattle.pd_base.specs.Route.{Route}
use Rattle.pd_base.specs.declared.rules.Rules.{Rules}
use Rattle.netlist.specs.declared.limits.TheConstants.{MOST_LEVELS}
use Rattle.netlist.specs.Circuit.{Circuit}
use Rattle.state_sets.specs.StateAlgebra.{StateAlgebra}
use Rattle.runs.specs.declared.run.Proof.{Proof}
use Rattle.implication.specs.Standing.{ToldEnds, Standing}
use Rattle.justify.specs.declared.desk.Desk.{Desk}
use Rattle.justify.specs.Desks.{IsDeskFor}
use Rattle.prefix_sensitize.specs.declared.course.Course.{Course}
use Rattle.prefix_sensitize.specs.declared.outcome.Aim.{Aim}
use Rattle.prefix_sensitize.specs.declared.outcome.Findings.{Findings}
use Rattle.prefix_sensitize.specs.Courses.{IsCourse}
use Rattle.prefix_sensitize.specs.Entering.{IsSameBeginning}
use Rattle.prefix_sensitize.specs.Outcomes.{AddsProofs, AreFoundProofs, AreOutcomes, KeepsOthers, NoneIsAbout}
use Rattle.prefix_sensitize.specs.Walks.{AreExcused, CountsPrefixes}

-- A course, and a desk for it; and from where the count of steps stood when the walk began there is room to count all prefixes.
pub record CanWalk (a : StateAlgebra) (c : Circuit) (rules : Rules) (ends : Option ToldEnds) (course : Course) (begin : ℕ)
    (desk : Desk) : Type 0 where
  pub is_course : IsCourse c rules ends course
  pub is_desk : IsDeskFor a c rules desk
  pub room : begin + length course.paths.now * MOST_LEVELS < 2 ^ 64

-- However it ends, the desk serves as before, the scope has the same beginning, and no prefix was counted twice.
pub record HasWalked (a : StateAlgebra) (course : Course) (begin : ℕ) (old new : Standing) (desk : Desk) (steps : ℕ) : Type 0 where
  pub is_desk : IsDeskFor a old.net old.rules desk
  pub same : IsSameBeginning old new
  pub counted : CountsPrefixes course.paths.now begin steps

-- From one place it comes to a later one, not beyond the order, and the proofs about other aims stand as before.
pub record ComesOn (course : Course) (place end : ℕ) (before after : Findings) : Type 0 where
  pub on : place < end
  pub within : end ≤ length course.order.now
  pub others : KeepsOthers course.aim before.proofs.items after.proofs.items

-- Outcomes are asked for on some of these paths; and on each other one there is a test.
pub record AreAsked (c : Circuit) (rules : Rules) (aim : Aim) (routes : List Route) (needed : List Bool) : Type 0 where
  pub one_each : length needed ≡ length routes
  pub excused : AreExcused c rules aim routes needed

-- Proofs were found, and none of them is about the aim yet.
pub record AreBeforeAim (c : Circuit) (rules : Rules) (aim : Aim) (routes : List Route) (proofs : List Proof) : Type 0 where
  pub found : AreFoundProofs c rules aim.budget routes proofs
  pub fresh : NoneIsAbout aim proofs

-- There is an outcome for each path that needs one; and the proofs are those from before, and behind them some about the aim.
pub record AreFindings (c : Circuit) (rules : Rules) (aim : Aim) (routes : List Route) (needed : List Bool) (before : List Proof)
    (found : Findings) : Type 0 where
  pub outcomes : AreOutcomes c rules routes found.proofs.items needed aim found.outcomes.items
  pub proofs : AreFoundProofs c rules aim.budget routes found.proofs.items
  pub adds : AddsProofs aim before found.proofs.items
