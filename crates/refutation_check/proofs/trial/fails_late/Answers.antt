-- The states that are kept are those of the lines of the cone under each pair that has them at its sources.
use Rattle.std.proofs.Common.{length, List, refl, ap, subst, ◌∙◌}
use Rattle.pd_base.specs.Links.{LinkList}
use Rattle.pd_base.specs.declared.ids.LineId.{LineId}
use Rattle.netlist.specs.Circuit.{line_count}
use Rattle.netlist.specs.Paths.{end_of}
use Rattle.state_sets.specs.declared.state.State.{State}
use Rattle.pair_judging.specs.Judged.{IsJudgedBy, LinksPass, IsFailingLink}
use Rattle.pair_judging.specs.declared.judging.Judgement.TheVariants.{IsTest, FailsAt}
use Rattle.pair_judging.specs.Targets.{seen_target}
use Rattle.refutation_check.proofs.Judging.{told_of_same, each_is_test, each_fails, each_breaks_link, link_failure}
use Rattle.refutation_check.proofs.Tracing.{sources_blamed}
use Rattle.refutation_check.proofs.Trying.{sources_within}
use Rattle.refutation_check.proofs.trial.fails_late.Goals as goal

pub failing_link-requires-clause-sources : goal.failing_link-requires-clause-sources
failing_link-requires-clause-sources g c =
    sources_within c.args.net.now c.args.cone.now.links (end_of c.args.net.now c.args.target.now.path.now) c.args.cone.now.sources
    c.sources.result.now c.sources.ensures c.requires.cone.sources (length c.as_slice-states.result.now)
    (ap length c.as_slice-states.ensures.value ∙ c.requires.kept.room.states.places)

pub blame-requires-clause-failure : goal.blame-requires-clause-failure
blame-requires-clause-failure g c =
    let net = c.args.net.now in let cone = c.args.cone.now in let kept = c.args.kept.now in
    let P : LinkList → List LineId → List State → Type 0 =
    λ links sources states. IsFailingLink g.A.Algebra.algebra links sources states c.in-Some.source c.in-Some.line in
    link_failure g.A.Algebra.algebra net c.lines.ensures.circuit cone.links c.requires.made.fit (seen_target c.args.target.now) c.requires.prefix cone.sources
    c.requires.cone.sources kept.states.items c.in-Some.source c.in-Some.line
    (told_of_same P c.links.result.now cone.links c.sources.result.now cone.sources c.as_slice-states.result.now kept.states.items
    c.links.ensures c.sources.ensures c.as_slice-states.ensures.value c.in-Some.ensures)

pub blame-requires-clause-each : goal.blame-requires-clause-each
blame-requires-clause-each g c =
    let net = c.args.net.now in let cone = c.args.cone.now in let kept = c.args.kept.now in
    let P : LinkList → List LineId → List State → Type 0 =
    λ links sources states. IsFailingLink g.A.Algebra.algebra links sources states c.in-Some.source c.in-Some.line in
    each_breaks_link g.A.Algebra.algebra g.met.A.Algebra.laws net c.lines.ensures.circuit cone.links c.requires.made.fit
    (seen_target c.args.target.now) c.requires.prefix cone.gates c.requires.cone.gates cone.sources c.requires.cone.sources kept
    c.requires.kept c.requires.fresh c.in-Some.source c.in-Some.line
    (told_of_same P c.links.result.now cone.links c.sources.result.now cone.sources c.as_slice-states.result.now kept.states.items
    c.links.ensures c.sources.ensures c.as_slice-states.ensures.value c.in-Some.ensures)

pub blame_sources-requires-clause-sources : goal.blame_sources-requires-clause-sources
blame_sources-requires-clause-sources g c =
    let net = c.args.net.now in let cone = c.args.cone.now in
    sources_within net cone.links (end_of net c.args.target.now.path.now) cone.sources cone.sources refl c.requires.cone.sources (line_count net) refl

pub returns-in-IsTest-clause-tests : goal.returns-in-IsTest-clause-tests
returns-in-IsTest-clause-tests g c = λ told.
    let net = c.args.net.now in let cone = c.args.cone.now in let kept = c.args.kept.now in let target = seen_target c.args.target.now in
    each_is_test g.A.Algebra.algebra g.met.A.Algebra.laws net c.lines.ensures.circuit cone.links c.requires.made.fit target c.requires.prefix
    cone.gates c.requires.cone.gates cone.sources c.requires.cone.sources kept c.requires.kept c.requires.fresh
    (told_of_same (LinksPass g.A.Algebra.algebra) c.links.result.now cone.links c.sources.result.now cone.sources c.as_slice-states.result.now
    kept.states.items c.links.ensures c.sources.ensures c.as_slice-states.ensures.value c.in_default.ensures)
    (subst (λ (states : List State). IsJudgedBy g.A.Algebra.algebra net target states IsTest) c.as_slice-states.ensures.value
    c.in-IsTest.ensures.judged)

pub returns-in-FailsAt-clause-blamed : goal.returns-in-FailsAt-clause-blamed
returns-in-FailsAt-clause-blamed g c = λ told.
    let net = c.args.net.now in let cone = c.args.cone.now in let kept = c.args.kept.now in let target = seen_target c.args.target.now in
    sources_blamed g.A.Algebra.algebra net kept.states.items cone.links target cone.sources c.blame_sources.new.blamed.lines c.requires.cone.sources
    c.blame_sources.ensures.sources
    (each_fails g.A.Algebra.algebra g.met.A.Algebra.laws net c.lines.ensures.circuit cone.links c.requires.made.fit target c.requires.prefix
    cone.gates c.requires.cone.gates cone.sources c.requires.cone.sources kept c.requires.kept c.requires.fresh
    (told_of_same (LinksPass g.A.Algebra.algebra) c.links.result.now cone.links c.sources.result.now cone.sources c.as_slice-states.result.now
    kept.states.items c.links.ensures c.sources.ensures c.as_slice-states.ensures.value c.in_default.ensures)
    c.in-FailsAt.field-0 c.in-FailsAt.field-1
    (subst (λ (states : List State). IsJudgedBy g.A.Algebra.algebra net target states (FailsAt c.in-FailsAt.field-0 c.in-FailsAt.field-1))
    c.as_slice-states.ensures.value c.in-FailsAt.ensures.judged))
