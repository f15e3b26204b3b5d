-- The last entry's arc waits where the tail of that entry has no next one.
use Rattle.std.proofs.Common.{◌<◌, length, ap, ◌∙◌, arith}
use Rattle.path_laws.specs.declared.entry.WalkEntry.{WalkEntry}
use Rattle.path_laws.proofs.LastEntry.{last_own, none_without, waiting_here}
use Rattle.path_lister.proofs.lists.NodeLists.waiting_arc.Goals as goal

pub last-last-requires : goal.last-last-requires
last-last-requires c = omega (arith, c.requires.going.linked.last_each, c.requires.node)

pub returns-then-last : goal.returns-then-last
returns-then-last c =
    λ arc taken none.
    absurd (none_without c.args.graph.now c.requires.graph c.args.self.now c.requires.going c.args.node c.requires.node
    c.last-last.result c.last-last.ensures c.if-last.true arc taken)

pub entry-entry-requires : goal.entry-entry-requires
entry-entry-requires c =
    let own = last_own c.args.graph.now c.requires.graph c.args.self.now c.requires.going c.args.node c.requires.node
    c.last-last.result c.last-last.ensures c.if-last.false in
    omega (arith, c.last-last.ensures, own.within)

pub next-requires : goal.next-requires
next-requires c =
    let st = c.args.self.now in
    let last = c.last-last.result in
    let own = last_own c.args.graph.now c.requires.graph st c.requires.going c.args.node c.requires.node last c.last-last.ensures
    c.if-last.false in
    let within : last < length st.entries = omega (arith, c.last-last.ensures, own.within) in
    let earlier = c.requires.going.linked.tails last within
    (λ none. c.if-entry.false (ap (λ (e : WalkEntry). e.arc) c.entry-entry.ensures ∙ none)) in
    omega (arith, ap (λ (e : WalkEntry). e.tail) c.entry-entry.ensures, earlier, within, c.requires.going.linked.next_each)

pub returns : goal.returns
returns c =
    waiting_here c.args.graph.now c.requires.graph c.args.self.now c.requires.going c.args.node c.requires.node
    c.last-last.result c.last-last.ensures c.entry-entry.result c.entry-entry.ensures c.if-last.false c.if-entry.false
    c.next.result c.next.ensures c.if-next.false
