-- The pair keeps the links and is judged on the fan-in of the path's end, and the desk is the path's with another judge.
use Rattle.std.proofs.Common.{List, sym, ap, ◌∙◌, subst, length}
use Rattle.netlist.specs.Circuit.{Circuit, line_count}
use Rattle.netlist.specs.Paths.{IsPrefix, end_of}
use Rattle.implication.specs.Scopes.{standing}
use Rattle.state_sets.specs.declared.state.State.{State}
use Rattle.pair_judging.specs.ConeStates.{AreSourceStates}
use Rattle.pair_judging.specs.Judges.{IsJudgeOf}
use Rattle.cones.specs.KeptCones.{IsConeAt, IsConeFor}
use Rattle.pair_judging.specs.Targets.{seen_target}
use Rattle.justify.proofs.TriedSources.{sources_within, desk_judged, kept_desk, linked_fits}
use Rattle.justify.proofs.judging.judge_pair.Goals as goal

pub read_linked-requires-clause-judge : goal.read_linked-requires-clause-judge
read_linked-requires-clause-judge g c =
    let P : Circuit → Type 0 = λ n. IsJudgeOf 4 n c.args.desk.now.judge in subst P (sym c.net-net.ensures) c.requires.desk.made.judge

pub read_linked-requires-clause-made : goal.read_linked-requires-clause-made
read_linked-requires-clause-made g c =
    let P : Circuit → Type 0 = λ n. IsConeFor n c.args.desk.now.cone in subst P (sym c.net-net.ensures) c.requires.desk.made.cone

pub read_linked-requires-clause-sources : goal.read_linked-requires-clause-sources
read_linked-requires-clause-sources g c =
    sources_within g.A.Algebra.algebra c.net-net.result.now (standing c.args.scope.now).net c.net-net.ensures
    (standing c.args.scope.now).rules c.args.target.now.path.now c.args.desk.now c.requires.desk

pub read_linked-requires-clause-places : goal.read_linked-requires-clause-places
read_linked-requires-clause-places g c =
    ap length c.as_slice.ensures.value ∙ c.requires.desk.made.states ∙ sym (ap line_count c.net-net.ensures)

pub read_linked-requires-clause-states : goal.read_linked-requires-clause-states
read_linked-requires-clause-states g c =
    let Q : List State → Type 0 = λ xs. AreSourceStates g.A.Algebra.algebra c.args.desk.now.cone.sources xs in
    subst Q (sym c.as_slice.ensures.value) c.requires.sources

pub meets-requires-clause-judge : goal.meets-requires-clause-judge
meets-requires-clause-judge g c = c.in_ok-pair.ensures.judge

pub meets-requires-clause-prefix : goal.meets-requires-clause-prefix
meets-requires-clause-prefix g c =
    let P : Circuit → Type 0 = λ n. IsPrefix n c.args.target.now.path.now in subst P (sym c.net-net.ensures) c.requires.prefix

pub meets-requires-clause-bits : goal.meets-requires-clause-bits
meets-requires-clause-bits g c =
    let P : Circuit → Type 0 = λ n. IsConeAt n (end_of n c.args.target.now.path.now) c.args.desk.now.cone in
    (c.in_ok-pair.ensures.linked (end_of c.net-net.result.now c.args.target.now.path.now) (subst P (sym c.net-net.ensures) c.requires.desk.cone)).first_fits

pub returns-then-not-meets-clause-desk : goal.returns-then-not-meets-clause-desk
returns-then-not-meets-clause-desk g c =
    desk_judged g.A.Algebra.algebra c.net-net.result.now (standing c.args.scope.now).net c.net-net.ensures (standing c.args.scope.now).rules
    c.args.target.now.path.now c.args.desk.now c.requires.desk c.meets.new.self c.meets.ensures.judge

pub returns-clause-desk : goal.returns-clause-desk
returns-clause-desk g c =
    kept_desk g.A.Algebra.algebra (standing c.args.scope.now).net (standing c.args.scope.now).rules c.args.target.now.path.now _ c.like.new.self c.like.ensures
    (desk_judged g.A.Algebra.algebra c.net-net.result.now (standing c.args.scope.now).net c.net-net.ensures (standing c.args.scope.now).rules
    c.args.target.now.path.now c.args.desk.now c.requires.desk c.meets.new.self c.meets.ensures.judge)

pub returns-clause-test : goal.returns-clause-test
returns-clause-test g c =
    linked_fits g.A.Algebra.algebra c.net-net.result.now (standing c.args.scope.now).net c.net-net.ensures (standing c.args.scope.now).rules
    (seen_target c.args.target.now) c.args.desk.now c.requires.desk c.in_ok-pair.pair c.in_ok-pair.ensures.linked
    (c.meets.ensures.meets.0 c.if-not-meets.false)
