-- The labels are narrowed as the sets are, and by such a narrowing no pair is lost: it meets the conditions of no steps.
use Rattle.std.proofs.Common.{[], arith}
use Rattle.std.proofs.lemmas.Grind.{common_steps}
use Rattle.pd_base.specs.Links.{links_of}
use Rattle.pd_base.specs.Route.{Route}
use Rattle.pd_base.specs.declared.fault.Kind.TheVariants.{Robust}
use Rattle.netlist.specs.Paths.{IsPrefix}
use Rattle.state_laws.proofs.Linked.{linked_source}
use Rattle.state_laws.proofs.Pairs.{link_narrowing_keeps_pairs}
use Rattle.hulls.proofs.link.narrow_link.Goals as goal

pub returns-clause-answer : goal.returns-clause-answer
returns-clause-answer g c = grind (arith, common_steps)

pub returns-clause-narrowed : goal.returns-clause-narrowed
returns-clause-narrowed g c = grind (arith, common_steps)

pub returns-clause-within : goal.returns-clause-within
returns-clause-within g c = grind (arith, common_steps)

pub returns-clause-pairs : goal.returns-clause-pairs
returns-clause-pairs g c = λ net rules circuit fit link pair of had.
    let source = c.args.source in let line = c.args.line.0 in
    let at_source : Route = record { source = source; steps = [] } in
    let is : IsPrefix net at_source = record { source = linked_source net (links_of rules) fit source.0 line link; connects = tt } in
    link_narrowing_keeps_pairs g.A.Algebra.algebra g.met.A.Algebra.laws net circuit rules fit Robust at_source is c.args.labels.now source.0 line
    link _ (returns-clause-narrowed g c) pair of tt had
