-- The pass over the gates, then the links, and then the steps of the path.
use Rattle.std.proofs.Common.{◌<◌, List, length, sym, subst, subst₂, arith}
use Rattle.std.specs.Prelude.{All, Contains}
use Rattle.pd_base.specs.Links.{LinkList, IsLink}
use Rattle.pair_judging.specs.Targets.{seen_target}
use Rattle.pd_base.specs.declared.ids.LineId.{LineId}
use Rattle.pd_base.specs.declared.ids.GateId.{GateId}
use Rattle.netlist.specs.Circuit.{HasGates}
use Rattle.netlist.specs.Paths.{end_of}
use Rattle.pair_judging.specs.Judged.{AreComputed, RulesOut, LinksPass, IsFailingLink}
use Rattle.state_laws.proofs.Supports.{linked_supported}
use Rattle.pair_judging.proofs.ConeJudging.{gates_inside, sources_below}
use Rattle.pair_judging.proofs.Judged.{judged_at, ruled_out, link_fails}
use Rattle.pair_judging.proofs.judging.judge.Goals as goal

pub compute_states-requires-clause-gates : goal.compute_states-requires-clause-gates
compute_states-requires-clause-gates g c =
    subst (HasGates c.args.net.now) (sym c.gates.ensures)
    (gates_inside c.args.net.now c.args.cone.now.links (end_of c.args.net.now c.args.target.now.path.now) c.args.cone.now.gates c.requires.cone.gates)

pub returns-in-Some-clause-judged : goal.returns-in-Some-clause-judged
returns-in-Some-clause-judged g c =
    let target = seen_target c.args.target.now in
    let cone = c.args.cone.now in
    ruled_out g.A.Algebra.algebra c.args.net.now c.compute_states.ensures.circuit cone.links c.requires.made.fit target
    c.requires.prefix cone.gates c.requires.cone.gates c.args.states.now c.compute_states.new.states c.compute_states.ensures.kept.sources
    c.args.labels.now c.in-Some.line
    (subst (λ (gs : List GateId). RulesOut g.A.Algebra.algebra c.args.net.now gs c.args.labels.now c.args.states.now c.in-Some.line.0)
    c.gates.ensures c.in-Some.ensures.failed)

pub failing_link-requires-clause-sources : goal.failing_link-requires-clause-sources
failing_link-requires-clause-sources g c =
    let states = c.compute_states.new.states in
    subst (λ (ls : List LineId). All (λ (source : LineId). source.0 < length states) ls) (sym c.sources.ensures)
    (sources_below c.args.net.now c.args.cone.now.links (end_of c.args.net.now c.args.target.now.path.now) c.args.cone.now.sources c.requires.cone.sources
    (length states) (omega (arith, c.compute_states.ensures.kept.places, c.requires.states.places)))

pub failing_link-requires-clause-lines : goal.failing_link-requires-clause-lines
failing_link-requires-clause-lines g c =
    let states = c.compute_states.new.states in
    subst (λ (links : LinkList). All (λ (link : LineId × LineId). link.1.0 < length states) links) (sym c.links.ensures)
    (λ k d inside. omega (arith, c.requires.made.fit.lines k d inside, c.compute_states.ensures.kept.places, c.requires.states.places))

pub returns-in-Some-failing_link-clause-within : goal.returns-in-Some-failing_link-clause-within
returns-in-Some-failing_link-clause-within g c =
    let net = c.args.net.now in
    let end = end_of net c.args.target.now.path.now in
    let cone = c.args.cone.now in
    let source = c.in-Some-failing_link.source in
    let line = c.in-Some-failing_link.line in
    let fails = c.in-Some-failing_link.ensures in
    let supported = ((c.requires.cone.sources.exactly source.0).0
    (subst (λ (ls : List LineId). Contains ls source) c.sources.ensures fails.among)).1 in (
      supported,
      linked_supported net cone.links end source.0 line.0 supported
          (subst (λ (links : LinkList). IsLink links source.0 line.0) c.links.ensures fails.link),
    )

pub returns-in-Some-failing_link-clause-judged : goal.returns-in-Some-failing_link-clause-judged
returns-in-Some-failing_link-clause-judged g c = λ pair has.
    let target = seen_target c.args.target.now in
    let cone = c.args.cone.now in
    let states = c.compute_states.new.states in
    let source = c.in-Some-failing_link.source in
    let line = c.in-Some-failing_link.line in
    link_fails g.A.Algebra.algebra c.args.net.now c.compute_states.ensures.circuit cone.links c.requires.made.fit target
    c.requires.prefix cone.gates c.requires.cone.gates c.args.states.now states c.compute_states.ensures.kept.sources
    (subst (λ (gs : List GateId). AreComputed g.A.Algebra.algebra c.args.net.now gs c.args.states.now states) c.gates.ensures
    c.in_default.ensures.computed) pair has cone.sources c.requires.cone.sources c.args.labels.now source line
    (subst₂ (λ (links : LinkList) (ls : List LineId). IsFailingLink g.A.Algebra.algebra links ls states source line) c.links.ensures
    c.sources.ensures c.in-Some-failing_link.ensures)

pub returns-clause-within : goal.returns-clause-within
returns-clause-within g c = c.judge_steps.ensures.within c.args.cone.now.links

pub returns-clause-judged : goal.returns-clause-judged
returns-clause-judged g c =
    let target = seen_target c.args.target.now in
    let cone = c.args.cone.now in
    let states = c.compute_states.new.states in
    judged_at g.A.Algebra.algebra c.args.net.now c.compute_states.ensures.circuit cone.links c.requires.made.fit target
    c.requires.prefix cone.gates c.requires.cone.gates c.args.states.now states c.compute_states.ensures.kept.sources
    (subst (λ (gs : List GateId). AreComputed g.A.Algebra.algebra c.args.net.now gs c.args.states.now states) c.gates.ensures
    c.in_default.ensures.computed) cone.sources c.requires.cone.sources
    (subst₂ (λ (links : LinkList) (ls : List LineId). LinksPass g.A.Algebra.algebra links ls states) c.links.ensures c.sources.ensures
    c.in_default-failing_link.ensures) c.args.labels.now c.judge_steps.result c.judge_steps.ensures.judged
