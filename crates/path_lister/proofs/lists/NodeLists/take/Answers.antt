-- The heads first, then the walk.
use Rattle.std.proofs.Common.{Bool}
use Rattle.std.proofs.lemmas.Result.{IfOk-weaker}
use Rattle.path_laws.specs.Growth.{TakesNext}
use Rattle.path_laws.proofs.Stepping.{takes_after}
use Rattle.path_lister.proofs.lists.NodeLists.take.Goals as goal

pub returns : goal.returns
returns c =
    IfOk-weaker c.take_ready.result
    (λ (took : Bool). TakesNext c.args.graph.now c.move_head.new.self c.take_ready.new.self c.args.node took)
    (λ (took : Bool). TakesNext c.args.graph.now c.args.self.now c.take_ready.new.self c.args.node took)
    (λ took next. takes_after c.args.graph.now c.args.self.now c.move_head.new.self c.take_ready.new.self c.args.node took
    c.move_head.ensures next)
    c.take_ready.ensures
