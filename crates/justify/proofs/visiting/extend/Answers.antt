-- Where the budget is not spent, the split that was chosen is made.
use Rattle.std.proofs.Common.{Option, subst, arith}
use Rattle.std.specs.Prelude.{IfSome}
use Rattle.implication.specs.Scopes.{standing}
use Rattle.pair_judging.specs.Targets.{seen_target}
use Rattle.justify.specs.Choices.{IsUsefulSplit}
use Rattle.justify.specs.Growths.IsExtended.{splits}
use Rattle.justify.proofs.visiting.extend.Goals as goal

pub returns : goal.returns
returns g c =
    let P : Option _ → Type 0 = λ next. IfSome next (λ split. IsUsefulSplit g.A.Algebra.algebra (seen_target c.args.task.now.target)
    (standing c.args.scope.now) split.split) in
    splits c.in-Some.next.split c.mark.result c.args.closers.now c.mark.ensures (subst P c.in-Some.is c.requires.some) c.requires.closes
    (omega (arith, c.if-growth-task.false, c.requires.budget)) c.in_ok-split.ensures
