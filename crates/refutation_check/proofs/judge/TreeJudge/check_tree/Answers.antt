-- What is told of the nodes tells whether the tree refutes.
use Rattle.std.proofs.Common.{IfOk, subst}
use Rattle.std.proofs.lemmas.Result.{IfOk-weaker}
use Rattle.pd_base.specs.Target.{target_of}
use Rattle.netlist.specs.Circuit.{Circuit}
use Rattle.netlist.specs.Lawful.{IsCircuit}
use Rattle.state_laws.proofs.Steadied.{steadied_meets}
use Rattle.trees.specs.Faults.{IsRightInRefutation}
use Rattle.trees.proofs.Refuting.{refutation_excludes_path}
use Rattle.refutation_check.specs.Answers.{TellsOfNodes, TellsOfRefutation}
use Rattle.refutation_check.specs.Judges.{MadeFor}
use Rattle.refutation_check.proofs.Checking.{refutation_of_nodes, refutation_exactly}
use Rattle.refutation_check.proofs.judge.TreeJudge.check_tree.Goals as goal

pub returns-clause-tells : goal.returns-clause-tells
returns-clause-tells g c =
    let m = c.args.self.now in let target = target_of c.args.prefix.now c.args.dir c.args.kind in let tree = c.args.tree.now in
    IfOk-weaker c.refutes_on.result (TellsOfNodes (IsRightInRefutation m.net m.rules target) tree) (TellsOfRefutation m.net m.rules target tree)
    (λ check nodes. refutation_of_nodes m.net m.rules target tree check nodes) c.refutes_on.ensures.tells

pub returns-clause-exactly : goal.returns-clause-exactly
returns-clause-exactly g c =
    let m = c.args.self.now in let target = target_of c.args.prefix.now c.args.dir c.args.kind in let tree = c.args.tree.now in
    IfOk-weaker c.refutes_on.result (TellsOfRefutation m.net m.rules target tree) _
    (λ check tells. refutation_exactly m.net m.rules target tree check tells) (returns-clause-tells g c)

pub returns-clause-excludes : goal.returns-clause-excludes
returns-clause-excludes g c = λ yes path is_prefix of pair of_rules.
    let m = c.args.self.now in let target = target_of c.args.prefix.now c.args.dir c.args.kind in let tree = c.args.tree.now in
    let P : Circuit → Type 0 = λ n. IsCircuit n in
    let Q : MadeFor → Type 0 = λ made. IsCircuit made.net in
    let circuit = subst Q c.self.view_is (subst P c.net.ensures c.sources.ensures.circuit) in
    refutation_excludes_path m.net circuit m.rules c.refutes_on.ensures.fit c.args.kind c.args.prefix.now path is_prefix of c.args.dir tree
    (subst (λ result. IfOk result (TellsOfRefutation m.net m.rules target tree)) yes (returns-clause-tells g c)) pair of_rules

pub returns-clause-steadied : goal.returns-clause-steadied
returns-clause-steadied g c = λ pair meets.
    let m = c.args.self.now in let target = target_of c.args.prefix.now c.args.dir c.args.kind in
    let P : Circuit → Type 0 = λ n. IsCircuit n in
    let Q : MadeFor → Type 0 = λ made. IsCircuit made.net in
    let circuit = subst Q c.self.view_is (subst P c.net.ensures c.sources.ensures.circuit) in
    steadied_meets m.net circuit target c.requires.prefix pair meets
