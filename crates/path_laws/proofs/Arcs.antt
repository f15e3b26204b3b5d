-- Each arc is one of the graph's, and of one node only.
use Rattle.std.proofs.Common.{◌≡◌, ⊎_elim, ℕ, zero, suc, ◌+◌, ◌-◌, ◌<◌, ◌≤◌, ap, arith}
use Rattle.std.proofs.lemmas.Bool.{cases_order}
use Rattle.path_laws.specs.Graph.{Graph, IsArcOf, IsGraph, arc_count, first_arc, node_count}

module _ (g : Graph) (graph : IsGraph g) where
  -- the first arcs of later nodes are no less
  rises_by : (node more : ℕ) → node + more ≤ node_count g → first_arc g node ≤ first_arc g (node + more)
  rises_by node zero within = omega (arith, ap (first_arc g) (let e : node + 0 ≡ node = omega arith in e))
  rises_by node (suc more) within =
      let next : (node + more) + 1 ≡ node + suc more = omega arith in
      omega (arith, rises_by node more (omega arith), graph.rises (node + more) (omega arith), ap (first_arc g) next)

  pub rises_to : (node later : ℕ) → node ≤ later → later ≤ node_count g → first_arc g node ≤ first_arc g later
  rises_to node later before within =
      let at : node + (later - node) ≡ later = omega arith in
      omega (arith, rises_by node (later - node) (omega arith), ap (first_arc g) at)

  pub arc_in_graph : (node arc : ℕ) → IsArcOf g node arc → arc < arc_count g
  arc_in_graph node arc own =
      omega (arith, own.below, graph.finishes, rises_to (node + 1) (node_count g) (omega (arith, own.in_graph)) (omega arith))

  pub one_owner : (a b arc : ℕ) → IsArcOf g a arc → IsArcOf g b arc → a ≡ b
  one_owner a b arc first second =
      ⊎_elim (λ same. same)
      (λ apart. absurd (⊎_elim
      (λ less. let e : ⊥ = omega (
        arith,
        first.below,
        second.from,
        rises_to (a + 1) b (omega arith)
            (omega (arith, second.in_graph)),
      ) in e)
      (λ more. let e : ⊥ = omega (
        arith,
        second.below,
        first.from,
        rises_to (b + 1) a (omega arith)
            (omega (arith, first.in_graph)),
      ) in e)
      apart))
      (cases_order a b)
