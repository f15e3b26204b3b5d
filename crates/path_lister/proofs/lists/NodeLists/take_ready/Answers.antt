-- With an entry the node takes it, and without one all of its walks are listed.
use Rattle.std.proofs.Common.{true, sym, subst}
use Rattle.path_laws.specs.Lists.{Lists}
use Rattle.path_laws.specs.Growth.{TakesNext}
use Rattle.path_laws.proofs.Stepping.{takes_none}
use Rattle.path_laws.proofs.Taken.{takes_next}
use Rattle.path_lister.proofs.lists.NodeLists.take_ready.Goals as goal

pub returns-in_default : goal.returns-in_default
returns-in_default c =
    takes_none c.args.graph.now c.args.self.now c.args.node c.requires.linked c.requires.firsts c.requires.started
    c.in_default.ensures

pub returns : goal.returns
returns c =
    subst (λ (new : Lists). TakesNext c.args.graph.now c.args.self.now new c.args.node true) (sym c.in_ok-push.ensures.new)
    (takes_next c.args.graph.now c.args.self.now c.args.node c.in-Some.entry c.requires.linked c.in_ok-push.ensures.few
    c.requires.node c.in-Some.ensures c.requires.firsts c.requires.started.free c.requires.ready)
