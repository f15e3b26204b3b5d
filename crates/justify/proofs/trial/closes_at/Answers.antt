-- A conflict shows that the node's trial closes; where none came, the labels that stand then give a test.
use Rattle.std.proofs.Common.{ap, sym, ◌∙◌, subst}
use Rattle.std.specs.Prelude.{is_some}
use Rattle.netlist.specs.Circuit.{Circuit}
use Rattle.netlist.specs.Lawful.{IsCircuit}
use Rattle.implication.specs.Scopes.{standing}
use Rattle.implication.specs.Standing.{Standing}
use Rattle.pair_judging.specs.Targets.{seen_target}
use Rattle.justify.proofs.Trials.{ends_failed, ends_open, ends_free}
use Rattle.justify.proofs.trial.closes_at.Goals as goal

pub returns-then-is_some-clause-ends : goal.returns-then-is_some-clause-ends
returns-then-is_some-clause-ends g c =
    let first = standing c.args.scope.now in let last = standing c.assume_all-place.new.scope in
    let here = c.label.ensures.told c.requires.node.free in
    ends_failed g.A.Algebra.algebra (seen_target c.args.target.now) first c.requires.suits.of_rules c.requires.node here.0 here.1
    c.args.tried.now c.requires.tried last (standing c.back_to.new.self) (ap (λ (s : Standing). s.closings) c.back_to.ensures.back)
    c.assume_all-place.result (sym c.is_some.ensures ∙ c.if-is_some.true) c.assume_all-place.ensures.trial c.assume_all-place.ensures.ends

pub returns-clause-ends : goal.returns-clause-ends
returns-clause-ends g c =
    let first = standing c.args.scope.now in let last = standing c.assume_all-place.new.scope in
    let free = sym c.is_some.ensures ∙ c.if-is_some.false in
    let P : Circuit → Type 0 = λ n. IsCircuit n in
    let held = c.assume_all-place.ensures.ends in
    let there = c.label-2.ensures.told (ends_free g.A.Algebra.algebra (seen_target c.args.target.now) first last c.args.tried.now (is_some c.assume_all-place.result) free held) in
    ends_open g.A.Algebra.algebra g.met.A.Algebra.laws (seen_target c.args.target.now) first c.requires.node
    (subst P c.net.ensures c.sources.ensures.circuit) c.requires.suits.fit c.requires.suits.prefix
    last c.assume_all-place.ensures.extends there.0 there.1 c.args.tried.now c.assume_all-place.result free c.assume_all-place.ensures.trial held
