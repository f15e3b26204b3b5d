-- Where no arc was taken nothing moves, else the head of that arc.
use Rattle.std.proofs.Common.{sym, subst, arith}
use Rattle.path_laws.specs.Lists.{Lists}
use Rattle.path_laws.specs.Growth.{HasHeads}
use Rattle.path_laws.proofs.Arcs.{arc_in_graph}
use Rattle.path_laws.proofs.LastEntry.{moved_here, next_fits, none_taken, none_without, taken_here}
use Rattle.path_laws.proofs.Stepping.{heads_kept}
use Rattle.path_lister.proofs.lists.NodeLists.move_head.Goals as goal

pub returns-then-last : goal.returns-then-last
returns-then-last c =
    heads_kept c.args.graph.now c.args.self.now c.args.node c.requires.going.linked
    (c.requires.going.started c.args.node (omega arith) c.requires.node)
    (none_without c.args.graph.now c.requires.graph c.args.self.now c.requires.going c.args.node c.requires.node
    c.last-last.result c.last-last.ensures c.if-last.true)

pub returns-then-entry : goal.returns-then-entry
returns-then-entry c =
    heads_kept c.args.graph.now c.args.self.now c.args.node c.requires.going.linked
    (c.requires.going.started c.args.node (omega arith) c.requires.node)
    (none_taken c.args.graph.now c.requires.graph c.args.self.now c.requires.going c.args.node c.requires.node
    c.last-last.result c.last-last.ensures c.entry-entry.result c.entry-entry.ensures c.if-entry.true)

pub set_head-requires-clause-arc : goal.set_head-requires-clause-arc
set_head-requires-clause-arc c =
    arc_in_graph c.args.graph.now c.requires.graph c.args.node c.entry-entry.result.arc
    (taken_here c.args.graph.now c.requires.graph c.args.self.now c.requires.going c.args.node c.requires.node
    c.last-last.result c.last-last.ensures c.entry-entry.result c.entry-entry.ensures c.if-last.false c.if-entry.false).own

pub set_head-requires-clause-fits : goal.set_head-requires-clause-fits
set_head-requires-clause-fits c =
    next_fits c.args.graph.now c.requires.graph c.args.self.now c.requires.going c.args.node c.requires.node
    c.last-last.result c.last-last.ensures c.entry-entry.result c.entry-entry.ensures c.if-last.false c.if-entry.false
    c.next-head.result c.next-head.ensures c.requires.short

pub returns : goal.returns
returns c =
    subst (λ (new : Lists). HasHeads c.args.graph.now c.args.self.now new c.args.node) (sym c.set_head.ensures)
    (moved_here c.args.graph.now c.requires.graph c.args.self.now c.requires.going c.args.node c.requires.node
    c.last-last.result c.last-last.ensures c.entry-entry.result c.entry-entry.ensures c.if-last.false c.if-entry.false
    c.next-head.result c.next-head.ensures c.requires.fed)
