-- The scope goes back to the first pins of the path.
use Rattle.std.proofs.Common.{List, subst₂, arith}
use Rattle.std.proofs.lemmas.Grind.{common_steps}
use Rattle.pd_base.specs.declared.ids.PinRef.{PinRef}
use Rattle.implication.specs.Scopes.{standing}
use Rattle.implication.specs.Standing.{IsOpenIn}
use Rattle.prefix_sensitize.specs.PathOrder.{ShareSteps}
use Rattle.prefix_sensitize.proofs.AlongPaths.{at_shared}
use Rattle.prefix_sensitize.proofs.descent.Descent.go_back.Goals as goal

pub returns-clause-at : goal.returns-clause-at
returns-clause-at g c =
    let S : List PinRef → List PinRef → Type 0 = λ p q. ShareSteps p q c.shared_steps-shared.result in
    let left_open : IsOpenIn g.A.Algebra.algebra (standing c.back_to.new.scope) = grind (arith, common_steps) in
    at_shared g.A.Algebra.algebra (standing c.args.scope.now) (standing c.back_to.new.scope) c.args.self.now c.back_to.new.self c.args.path.now
    c.shared_steps-shared.result (subst₂ S c.pins.ensures c.steps.ensures c.shared_steps-shared.ensures) c.requires.entered
    c.requires.free c.back_to.ensures.pins c.back_to.ensures.back left_open
