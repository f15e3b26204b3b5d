-- What the greatest key says: all is listed, the node stops, or it takes an arc.
use Rattle.std.proofs.Common.{◌≡◌, ◌+◌, IsTrue, sym, ap, ◌∙◌, arith}
use Rattle.std.proofs.lemmas.Bool.{false≢true}
use Rattle.path_laws.specs.Graph.{first_arc, node_count}
use Rattle.path_laws.specs.Lists.{is_free}
use Rattle.path_laws.proofs.Arcs.{arc_in_graph, rises_to}
use Rattle.path_laws.proofs.Choosing.{all_at_zero, between, chosen, entry_at_key, stop_at_one}
use Rattle.path_lister.proofs.lists.NodeLists.next_entry.Goals as goal
use Rattle.path_lister.proofs.lists.NodeLists.next_entry.Goals.{else-key-eq1-via-then-key-eq1+else-is_free, else-key-eq1-via-else-key-eq1}

pub best-key-requires-clause-end : goal.best-key-requires-clause-end
best-key-requires-clause-end c =
    let g = c.args.graph.now in
    let last = rises_to g c.requires.graph (c.args.node + 1) (node_count g) (omega (arith, c.requires.node)) (omega arith) in
    omega (arith, c.first.ensures, c.requires.graph.finishes, c.requires.linked.key_each, last)

pub returns-then-key-eq0 : goal.returns-then-key-eq0
returns-then-key-eq0 c =
    let g = c.args.graph.now in
    let greatest = between c.args.self.now.keys c.first-first.result c.first.result (first_arc g c.args.node)
    (first_arc g (c.args.node + 1)) _ _ _ c.first-first.ensures c.first.ensures c.best-key.ensures in
    all_at_zero g c.requires.graph c.args.self.now c.args.node c.requires.node c.requires.firsts c.requires.free
    c.requires.ready _ _ greatest c.if-key-eq0.true

pub returns-then-is_free : goal.returns-then-is_free
returns-then-is_free c =
    let g = c.args.graph.now in
    let greatest = between c.args.self.now.keys c.first-first.result c.first.result (first_arc g c.args.node)
    (first_arc g (c.args.node + 1)) _ _ _ c.first-first.ensures c.first.ensures c.best-key.ensures in
    stop_at_one g c.requires.graph c.args.self.now c.args.node c.requires.node c.requires.firsts c.requires.free
    c.requires.ready _ _ greatest c.if-key-eq1.true (sym c.is_free.ensures ∙ c.if-is_free.true)

pub head-requires : goal.head-requires
head-requires c =
    let g = c.args.graph.now in
    let greatest = between c.args.self.now.keys c.first-first.result c.first.result (first_arc g c.args.node)
    (first_arc g (c.args.node + 1)) _ _ _ c.first-first.ensures c.first.ensures c.best-key.ensures in
    let no_stop : c.best-key.result.0 ≡ 1 → IsTrue (is_free c.args.self.now c.args.node) → ⊥ =
    elim c.else-key-eq1.branch [
      | else-key-eq1-via-then-key-eq1+else-is_free w ↦ λ one is. false≢true (sym w.if-is_free.false ∙ w.is_free.ensures ∙ is)
      | else-key-eq1-via-else-key-eq1 w ↦ λ one is. w.if-key-eq1.false one
    ] in
    let own = (chosen g c.requires.graph c.args.self.now c.args.node c.requires.node c.requires.firsts c.requires.free
    c.requires.ready _ _ greatest c.if-key-eq0.false no_stop).own in
    omega (arith, arc_in_graph g c.requires.graph c.args.node _ own, c.requires.linked.head_each, c.first-first.ensures)

pub returns : goal.returns
returns c =
    let g = c.args.graph.now in
    let greatest = between c.args.self.now.keys c.first-first.result c.first.result (first_arc g c.args.node)
    (first_arc g (c.args.node + 1)) _ _ _ c.first-first.ensures c.first.ensures c.best-key.ensures in
    let no_stop : c.best-key.result.0 ≡ 1 → IsTrue (is_free c.args.self.now c.args.node) → ⊥ =
    elim c.else-key-eq1.branch [
      | else-key-eq1-via-then-key-eq1+else-is_free w ↦ λ one is. false≢true (sym w.if-is_free.false ∙ w.is_free.ensures ∙ is)
      | else-key-eq1-via-else-key-eq1 w ↦ λ one is. w.if-key-eq1.false one
    ] in
    entry_at_key g c.requires.graph c.args.self.now c.args.node c.requires.node c.requires.firsts c.requires.free
    c.requires.ready _ _ greatest c.if-key-eq0.false no_stop (c.first-first.result + c.best-key.result.1) c.head.result
    (ap (λ n. n + c.best-key.result.1) c.first-first.ensures) c.head.ensures
