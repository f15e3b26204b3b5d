-- What a walk stands on stands again after it, for the next one.
use Rattle.std.proofs.Common.{ℕ, All, Option, sym, subst, subst₂}
use Rattle.pd_base.specs.declared.rules.Rules.{Rules}
use Rattle.pd_base.specs.Links.{links_of}
use Rattle.state_sets.specs.StateAlgebra.{StateAlgebra}
use Rattle.pd_base.specs.Route.{Route}
use Rattle.netlist.specs.Circuit.{Circuit}
use Rattle.netlist.specs.Paths.{end_of}
use Rattle.implication.specs.Standing.{ToldEnds, IsToldBy, Standing}
use Rattle.justify.specs.declared.desk.Desk.{Desk}
use Rattle.justify.specs.Desks.{IsDeskFor}
use Rattle.prefix_sensitize.specs.Entering.{IsIdleAgain}
use Rattle.prefix_sensitize.specs.declared.course.PathsInOrder.{PathsInOrder}
use Rattle.prefix_sensitize.specs.Readiness.{IsReadyFor}
use Rattle.prefix_sensitize.specs.Walks.{AreSearchablePaths}

-- the paths can be searched again, once no scope is open any more
pub ready_again : (a : StateAlgebra) (in_order : PathsInOrder) (budget : ℕ) (old new : Standing) (before after : Desk)
    → IsReadyFor a in_order budget old before → IsIdleAgain old new → IsDeskFor a old.net old.rules after → IsReadyFor a in_order budget new after
ready_again a in_order budget old new before after ready rest desk =
    let routes = in_order.paths.now in
    let S : Circuit → Type 0 = λ c. AreSearchablePaths c routes in
    let T : Circuit → Rules → Type 0 = λ c r. All (λ (route : Route). IsToldBy c (links_of r) old.ends (end_of c route)) routes in
    let E : Option ToldEnds → Type 0 =
    λ ends. All (λ (route : Route). IsToldBy new.net (links_of new.rules) ends (end_of new.net route)) routes in
    let D : Circuit → Rules → Type 0 = λ c r. IsDeskFor a c r after in
    record {
      idle = rest.idle;
      listed = subst S (sym rest.net) ready.listed;
      told = subst E (sym rest.ends) (subst₂ T (sym rest.net) (sym rest.rules) ready.told);
      desk = subst₂ D (sym rest.net) (sym rest.rules) desk;
      tree = ready.tree;
      within = ready.within;
    }
