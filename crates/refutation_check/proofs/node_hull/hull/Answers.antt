-- What the answer tells of pairs follows from what it is.
use Rattle.pd_base.specs.Target.{target_of}
use Rattle.refutation_check.proofs.Telling.{answer_loses_no_pair, answer_decides_singletons}
use Rattle.refutation_check.proofs.node_hull.hull.Goals as goal

pub returns-clause-pairs : goal.returns-clause-pairs
returns-clause-pairs c =
    answer_loses_no_pair c.args.net.now c.sources.ensures.circuit c.args.rules.now c.requires.fit
    (target_of c.args.prefix.now c.args.dir c.args.kind) c.requires.prefix c.args.halves.now c.hull_by_rules.result c.hull_by_rules.ensures

pub returns-clause-singletons : goal.returns-clause-singletons
returns-clause-singletons c =
    answer_decides_singletons c.args.net.now c.sources.ensures.circuit c.args.rules.now c.requires.fit
    (target_of c.args.prefix.now c.args.dir c.args.kind) c.requires.prefix c.args.halves.now c.hull_by_rules.result c.hull_by_rules.ensures
