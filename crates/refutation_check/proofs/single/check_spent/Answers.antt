-- What is told of the tree tells whether it spent the budget, bounds the budget, and shows which pairs fail.
use Rattle.std.proofs.Common.{IfOk, subst}
use Rattle.std.proofs.lemmas.Result.{IfOk-weaker}
use Rattle.pd_base.specs.Target.{target_of}
use Rattle.trees.proofs.Bound.{spent_below_bound}
use Rattle.trees.proofs.Tried.{spent_shows}
use Rattle.refutation_check.specs.Answers.{TellsOfSpent}
use Rattle.refutation_check.proofs.Checking.{spent_exactly}
use Rattle.refutation_check.proofs.single.check_spent.Goals as goal

pub returns-clause-exactly : goal.returns-clause-exactly
returns-clause-exactly c =
    let net = c.args.net.now in let rules = c.args.rules.now in
    let target = target_of c.args.path.now c.args.dir c.args.kind in let tree = c.args.tree.now in
    IfOk-weaker c.spends_by_rules.result (TellsOfSpent net rules target c.args.budget tree) _
    (λ check tells. spent_exactly net rules target c.args.budget tree check tells) c.spends_by_rules.ensures

pub returns-clause-bound : goal.returns-clause-bound
returns-clause-bound c = λ yes.
    let net = c.args.net.now in let rules = c.args.rules.now in
    let target = target_of c.args.path.now c.args.dir c.args.kind in let tree = c.args.tree.now in
    spent_below_bound net rules target c.args.budget tree c.requires.prefix
    (subst (λ result. IfOk result (TellsOfSpent net rules target c.args.budget tree)) yes c.spends_by_rules.ensures)

pub returns-clause-shows : goal.returns-clause-shows
returns-clause-shows c = λ yes.
    let net = c.args.net.now in let rules = c.args.rules.now in
    let target = target_of c.args.path.now c.args.dir c.args.kind in let tree = c.args.tree.now in
    spent_shows net c.lines.ensures.circuit rules c.requires.fit target c.requires.prefix c.args.budget tree
    (subst (λ result. IfOk result (TellsOfSpent net rules target c.args.budget tree)) yes c.spends_by_rules.ensures)
