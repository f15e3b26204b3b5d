-- What is told of the nodes tells whether the tree refutes.
use Rattle.std.proofs.Common.{IfOk, subst}
use Rattle.std.proofs.lemmas.Result.{IfOk-weaker}
use Rattle.pd_base.specs.Target.{target_of}
use Rattle.state_laws.proofs.Steadied.{steadied_meets}
use Rattle.trees.specs.Faults.{IsRightInRefutation}
use Rattle.trees.proofs.Refuting.{refutation_excludes_path}
use Rattle.refutation_check.specs.Answers.{TellsOfNodes, TellsOfRefutation}
use Rattle.refutation_check.proofs.Checking.{refutation_of_nodes, refutation_exactly}
use Rattle.refutation_check.proofs.single.check_tree.Goals as goal

pub returns-clause-tells : goal.returns-clause-tells
returns-clause-tells c =
    let net = c.args.net.now in let rules = c.args.rules.now in
    let target = target_of c.args.prefix.now c.args.dir c.args.kind in let tree = c.args.tree.now in
    IfOk-weaker c.refutes_by_rules.result (TellsOfNodes (IsRightInRefutation net rules target) tree) (TellsOfRefutation net rules target tree)
    (λ check nodes. refutation_of_nodes net rules target tree check nodes) c.refutes_by_rules.ensures

pub returns-clause-exactly : goal.returns-clause-exactly
returns-clause-exactly c =
    let net = c.args.net.now in let rules = c.args.rules.now in
    let target = target_of c.args.prefix.now c.args.dir c.args.kind in let tree = c.args.tree.now in
    IfOk-weaker c.refutes_by_rules.result (TellsOfRefutation net rules target tree) _
    (λ check tells. refutation_exactly net rules target tree check tells) (returns-clause-tells c)

pub returns-clause-excludes : goal.returns-clause-excludes
returns-clause-excludes c = λ yes path is_prefix of pair of_rules.
    let net = c.args.net.now in let rules = c.args.rules.now in
    let target = target_of c.args.prefix.now c.args.dir c.args.kind in let tree = c.args.tree.now in
    refutation_excludes_path net c.lines.ensures.circuit rules c.requires.fit c.args.kind c.args.prefix.now path is_prefix of c.args.dir tree
    (subst (λ result. IfOk result (TellsOfRefutation net rules target tree)) yes (returns-clause-tells c)) pair of_rules

pub returns-clause-steadied : goal.returns-clause-steadied
returns-clause-steadied c = λ pair meets.
    steadied_meets c.args.net.now c.lines.ensures.circuit (target_of c.args.prefix.now c.args.dir c.args.kind) c.requires.prefix pair meets
