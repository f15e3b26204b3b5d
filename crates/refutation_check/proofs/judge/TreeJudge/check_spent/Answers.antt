-- What is told of the nodes of a tree with so many splits and an open leaf tells whether it spent the budget, and shows which pairs fail.
use Rattle.std.proofs.Common.{List, IfOk, sym, ◌∙◌, subst}
use Rattle.std.specs.List.{Contains}
use Rattle.std.proofs.lemmas.Bool.{false≢true}
use Rattle.std.proofs.lemmas.Result.{IfOk-weaker}
use Rattle.pd_base.specs.Links.{links_of}
use Rattle.pd_base.specs.Target.{target_of}
use Rattle.netlist.specs.Circuit.{Circuit}
use Rattle.netlist.specs.Lawful.{IsCircuit}
use Rattle.netlist.specs.Paths.{IsPrefix, end_of}
use Rattle.implication.specs.Standing.{IsSupportTold, IsToldBy}
use Rattle.implication.proofs.Told.{told_support}
use Rattle.trees.specs.declared.tree.Node.{Node}
use Rattle.trees.specs.declared.tree.Node.TheVariants.{Waiting}
use Rattle.trees.specs.Faults.{IsRightInSpent}
use Rattle.trees.specs.Faults.IsFaultOfSpent.{other_splits, none_open}
use Rattle.trees.proofs.Bound.{spent_below_bound}
use Rattle.trees.proofs.Faults.{fault_spent_not}
use Rattle.trees.proofs.Tried.{spent_shows}
use Rattle.refutation_check.specs.declared.answer.TreeCheck.TheVariants.{Yes}
use Rattle.refutation_check.specs.Answers.{TellsIf, TellsOfSpent}
use Rattle.refutation_check.specs.Judges.{MadeFor}
use Rattle.refutation_check.proofs.Checking.{spent_of_nodes, spent_exactly, tells_of_told}
use Rattle.refutation_check.proofs.judge.TreeJudge.check_spent.Goals as goal
use Rattle.refutation_check.proofs.judge.TreeJudge.check_spent.Goals.{then-splits-budget-via-then-splits-budget, then-splits-budget-via-else-splits-budget+then-not-has_open}

pub returns-then-splits-budget-clause-tells : goal.returns-then-splits-budget-clause-tells
returns-then-splits-budget-clause-tells g c =
    elim c.then-splits-budget.branch [
      | then-splits-budget-via-then-splits-budget w ↦ other_splits (λ e. w.if-splits-budget.true (c.splits.ensures ∙ e))
      | then-splits-budget-via-else-splits-budget+then-not-has_open w ↦ none_open (λ has. false≢true (sym w.if-not-has_open.true
          ∙ w.has_open.ensures.1 (subst (λ (nodes : List Node). Contains nodes Waiting) (sym w.nodes.ensures.nodes) has)))
    ]

pub returns-then-splits-budget-clause-exactly : goal.returns-then-splits-budget-clause-exactly
returns-then-splits-budget-clause-exactly g c =
    let m = c.args.self.now in let target = target_of c.args.path.now c.args.dir c.args.kind in (
      λ e. cc,
      λ all. absurd (fault_spent_not m.net m.rules target c.args.budget c.args.tree.now 0 (returns-then-splits-budget-clause-tells g c) all),
    )

pub spends-requires-clause-idle : goal.spends-requires-clause-idle
spends-requires-clause-idle g c = c.self-2.invariant.idle

pub spends-requires-clause-prefix : goal.spends-requires-clause-prefix
spends-requires-clause-prefix g c =
    let P : MadeFor → Type 0 = λ m. IsPrefix m.net c.args.path.now in
    subst P (sym (c.self-2.view_is ∙ c.spends_near.ensures.same)) c.requires.prefix

pub spends-requires-clause-told : goal.spends-requires-clause-told
spends-requires-clause-told g c =
    let P : MadeFor → Type 0 = λ m. IsToldBy m.net (links_of m.rules) m.ends (end_of m.net c.args.path.now) in
    subst P (sym (c.self-2.view_is ∙ c.spends_near.ensures.same)) c.requires.told

pub spends-requires-clause-room : goal.spends-requires-clause-room
spends-requires-clause-room g c = c.self-2.invariant.room

pub returns-clause-tells : goal.returns-clause-tells
returns-clause-tells g c =
    let i = c.self-2.inside in let target = target_of c.args.path.now c.args.dir c.args.kind in let tree = c.args.tree.now in
    let Q : MadeFor → Type 0 = λ m. IsToldBy m.net (links_of m.rules) m.ends (end_of m.net c.args.path.now) in
    let end = end_of i.engine.net c.args.path.now in
    let told : IsSupportTold i.engine end =
    λ line supported. told_support i.engine.net (links_of i.engine.rules) i.engine.ends c.self-2.invariant.follows end line
    (subst Q (sym (c.self-2.view_is ∙ c.spends_near.ensures.same)) c.requires.told) supported in
    let P : MadeFor → Type 0 = λ m. IfOk c.spends.result (TellsOfSpent m.net m.rules target c.args.budget tree) in
    subst P (c.self-2.view_is ∙ c.spends_near.ensures.same)
    (IfOk-weaker c.spends.result (TellsIf (IsSupportTold i.engine end) (IsRightInSpent i.engine.net i.engine.rules target) tree)
    (TellsOfSpent i.engine.net i.engine.rules target c.args.budget tree)
    (λ check nodes. spent_of_nodes i.engine.net i.engine.rules target c.args.budget tree (sym c.splits.ensures ∙ c.if-splits-budget.false)
    (subst (λ (all : List Node). Contains all Waiting) c.nodes.ensures.nodes (c.has_open.ensures.0 c.if-not-has_open.false)) check
    (tells_of_told (IsRightInSpent i.engine.net i.engine.rules target) tree told check nodes))
    c.spends.ensures.tells)

pub returns-then-branch-clause-tells : goal.returns-then-branch-clause-tells
returns-then-branch-clause-tells g c =
    let m = c.args.self.now in let target = target_of c.args.path.now c.args.dir c.args.kind in let tree = c.args.tree.now in
    spent_of_nodes m.net m.rules target c.args.budget tree (sym c.splits.ensures ∙ c.if-splits-budget.false)
    (subst (λ (all : List Node). Contains all Waiting) c.nodes.ensures.nodes (c.has_open.ensures.0 c.if-not-has_open.false)) Yes
    (c.in_ok-spends_near.ensures.right c.if-branch.true)

pub returns-then-branch-clause-bound : goal.returns-then-branch-clause-bound
returns-then-branch-clause-bound g c = λ yes.
    let m = c.args.self.now in
    spent_below_bound m.net m.rules (target_of c.args.path.now c.args.dir c.args.kind) c.args.budget c.args.tree.now c.requires.prefix
    (returns-then-branch-clause-tells g c)

pub returns-clause-exactly : goal.returns-clause-exactly
returns-clause-exactly g c =
    let m = c.args.self.now in let target = target_of c.args.path.now c.args.dir c.args.kind in let tree = c.args.tree.now in
    IfOk-weaker c.spends.result (TellsOfSpent m.net m.rules target c.args.budget tree) _
    (λ check tells. spent_exactly m.net m.rules target c.args.budget tree check tells) (returns-clause-tells g c)

pub returns-clause-bound : goal.returns-clause-bound
returns-clause-bound g c = λ yes.
    let m = c.args.self.now in let target = target_of c.args.path.now c.args.dir c.args.kind in let tree = c.args.tree.now in
    spent_below_bound m.net m.rules target c.args.budget tree c.requires.prefix
    (subst (λ result. IfOk result (TellsOfSpent m.net m.rules target c.args.budget tree)) yes (returns-clause-tells g c))

pub returns-then-branch-clause-shows : goal.returns-then-branch-clause-shows
returns-then-branch-clause-shows g c = λ yes.
    let m = c.args.self.now in
    let P : Circuit → Type 0 = λ n. IsCircuit n in
    let Q : MadeFor → Type 0 = λ made. IsCircuit made.net in
    let circuit = subst Q c.self.view_is (subst P c.net.ensures c.sources.ensures.circuit) in
    spent_shows m.net circuit m.rules c.spends_near.ensures.fit (target_of c.args.path.now c.args.dir c.args.kind) c.requires.prefix
    c.args.budget c.args.tree.now (returns-then-branch-clause-tells g c)

pub returns-clause-shows : goal.returns-clause-shows
returns-clause-shows g c = λ yes.
    let m = c.args.self.now in let target = target_of c.args.path.now c.args.dir c.args.kind in let tree = c.args.tree.now in
    let P : Circuit → Type 0 = λ n. IsCircuit n in
    let Q : MadeFor → Type 0 = λ made. IsCircuit made.net in
    let circuit = subst Q c.self.view_is (subst P c.net.ensures c.sources.ensures.circuit) in
    spent_shows m.net circuit m.rules c.spends_near.ensures.fit target c.requires.prefix c.args.budget tree
    (subst (λ result. IfOk result (TellsOfSpent m.net m.rules target c.args.budget tree)) yes (returns-clause-tells g c))
