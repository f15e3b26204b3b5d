-- A pair that is judged a test is one, and keeping it leaves the desk the path's; where it is none, not all sources are told.
use Rattle.std.proofs.Common.{Option, subst}
use Rattle.std.specs.Prelude.{IfSome}
use Rattle.pd_base.specs.Pair.{Vectors}
use Rattle.implication.specs.Scopes.{standing}
use Rattle.pair_judging.specs.Targets.{seen_target}
use Rattle.justify.specs.Tests.{IsFitTest}
use Rattle.justify.proofs.TriedSources.{kept_desk}
use Rattle.justify.proofs.trying.judge_untold.Goals as goal

pub returns-in-Some-clause-desk : goal.returns-in-Some-clause-desk
returns-in-Some-clause-desk g c =
    kept_desk g.A.Algebra.algebra (standing c.args.scope.now).net (standing c.args.scope.now).rules c.args.target.now.path.now _ c.keep.new.self
    c.keep.ensures c.judge_proposal.ensures.desk

pub returns-in-Some-clause-test : goal.returns-in-Some-clause-test
returns-in-Some-clause-test g c =
    let now = standing c.args.scope.now in
    let P : Option Vectors → Type 0 = λ found. IfSome found (IsFitTest now.net now.rules (seen_target c.args.target.now)) in
    subst P c.in-Some.is c.in_ok-pair.ensures.test
