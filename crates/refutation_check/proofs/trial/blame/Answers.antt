-- The sources of a cone are lines, and all of them are to blame where each pair fails.
use Rattle.std.proofs.Common.{refl}
use Rattle.netlist.specs.Circuit.{line_count}
use Rattle.netlist.specs.Paths.{end_of}
use Rattle.pair_judging.specs.Targets.{seen_target}
use Rattle.refutation_check.proofs.Tracing.{sources_blamed}
use Rattle.refutation_check.proofs.Trying.{sources_within}
use Rattle.refutation_check.proofs.trial.blame.Goals as goal

pub blame_sources-requires-clause-sources : goal.blame_sources-requires-clause-sources
blame_sources-requires-clause-sources g c =
    let net = c.args.net.now in let cone = c.args.cone.now in
    sources_within net cone.links (end_of net c.args.target.now.path.now) cone.sources cone.sources refl c.requires.cone.sources (line_count net) refl

pub returns-clause-blamed : goal.returns-clause-blamed
returns-clause-blamed g c =
    let net = c.args.net.now in let cone = c.args.cone.now in
    sources_blamed g.A.Algebra.algebra net c.args.kept.now.states.items cone.links
    (seen_target c.args.target.now) cone.sources c.blame_sources.new.blamed.lines c.requires.cone.sources c.blame_sources.ensures.sources c.requires.each
