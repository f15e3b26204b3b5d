-- With the heads set, the node takes its first walk.
use Rattle.path_laws.proofs.FirstTurns.{begun_on, started_so}
use Rattle.path_lister.proofs.lists.NodeLists.begin.Goals as goal

pub take_ready-requires-clause-started : goal.take_ready-requires-clause-started
take_ready-requires-clause-started c =
    started_so c.args.graph.now c.set_heads.new.self c.args.node c.requires.node c.set_heads.ensures.begun
    c.set_heads.ensures.ready

pub returns : goal.returns
returns c =
    begun_on c.args.graph.now c.set_heads.new.self c.args.node c.requires.node c.set_heads.ensures.begun
    c.take_ready.new.self c.in_ok-take_ready.field-0 c.in_ok-take_ready.ensures
