-- One more is under the prefix, and in the end all are.
use Rattle.std.proofs.Common.{◌≤◌, List, length, subst, arith}
use Rattle.std.specs.Prelude.{All}
use Rattle.std.proofs.lemmas.List.{take_all}
use Rattle.std.proofs.lemmas.List.Elements.{All-more}
use Rattle.netlist.specs.Paths.{prefix_of}
use Rattle.runs.specs.declared.run.Proof.{Proof}
use Rattle.prefix_sensitize.specs.Lifting.{IsUnderPrefix}
use Rattle.prefix_sensitize.proofs.lifting.are_under_prefix.Goals as goal

pub loop-proof-preserved : goal.loop-proof-preserved
loop-proof-preserved c =
    let P : Proof → Type 0 = λ proof. IsUnderPrefix c.args.course.now (prefix_of c.args.steps c.args.path.now) proof in
    All-more P c.args.proofs.now c.loop-proof.proof-index c.proof-item.result c.loop-proof-test.true c.loop-proof.invariant
    (subst P c.proof-item.is (c.is_under_prefix.ensures.0 c.if-not-is_under_prefix.false))

pub returns-clause-all : goal.returns-clause-all
returns-clause-all c some =
    let P : List Proof → Type 0 = λ proofs. All (IsUnderPrefix c.args.course.now (prefix_of c.args.steps c.args.path.now)) proofs in
    let past = c.loop-proof-test.false in
    let whole : length c.args.proofs.now ≤ c.loop-proof.proof-index = omega (arith, past) in
    subst P (take_all c.loop-proof.proof-index c.args.proofs.now whole) c.loop-proof.invariant
