-- What is kept closes the trial here too.
use Rattle.std.proofs.Common.{List, Option, sym, subst}
use Rattle.implication.specs.Scopes.{standing}
use Rattle.justify.specs.declared.closers.Closers.{Closers}
use Rattle.justify.specs.declared.trial.Tried.{Tried}
use Rattle.justify.specs.Closers.{ClosesBy, ClosesByKept}
use Rattle.pair_judging.specs.Targets.{seen_target}
use Rattle.justify.proofs.visiting.fails_as_above.Goals as goal

pub closes_as_above-requires-clause-closes : goal.closes_as_above-requires-clause-closes
closes_as_above-requires-clause-closes g c =
    let now = standing c.args.scope.now in let target = seen_target c.args.target.now in
    let P : List Tried → Type 0 = λ tried. ClosesBy g.A.Algebra.algebra now.net now.rules target now.assumptions tried in
    let Q : Option Closers → Type 0 = λ closers. ClosesByKept g.A.Algebra.algebra now.net now.rules target now.assumptions closers in
    subst P (sym c.tried-tried.ensures) (subst Q c.in-Some.is c.requires.closes)
