-- Nodes of lines in the order of their levels: each line has its own, and a gate's line a greater one than the lines that it reads.
use Rattle.std.proofs.Common.{◌≡◌, ⊎_elim, ℕ, ◌+◌, ◌-◌, ◌<◌, ◌≤◌, List, length, set, get_or-set_same, get_or-set_other, sym, ap, subst, ◌∙◌, arith}
use Rattle.std.proofs.lemmas.Bool.{cases_lt}
use Rattle.std.proofs.lemmas.List.{length-set}
use Rattle.pd_base.specs.declared.ids.LineId.{LineId}
use Rattle.pd_base.specs.declared.ids.PinRef.{PinRef}
use Rattle.netlist.specs.Circuit.{Circuit, gate_line, line_count}
use Rattle.netlist.specs.Lawful.{IsCircuit}
use Rattle.netlist.specs.Pins.{IsPinOn}
use Rattle.path_laws.specs.CircuitGraph.{node_of}
use Rattle.path_lister.specs.Ranking.{AreNodes, AreNodesWithin, IsRanking, line_in}
use Rattle.path_lister.proofs.Ranked.{line_of, numbers_differ, place_of_line, ranking_length, stands_behind}

-- the lines before this place have their nodes
pub record HaveNodes (c : Circuit) (lines : List LineId) (place : ℕ) (nodes : List ℕ) : Type 0 where
  pub node_each : length nodes ≡ line_count c
  pub before : (k : ℕ) → k < place → node_of nodes (line_in lines k) ≡ k + 1

module _ (c : Circuit) (lines : List LineId) (ranking : IsRanking c lines) where
  -- a line's number is within those of the circuit
  pub line_within : (place : ℕ) → place < length lines → line_in lines place < line_count c
  line_within place within = ranking.in_circuit place (line_of 0) within

  -- where the lines before this place have their nodes, so have those before the next one when its node is written
  pub node_more : (place : ℕ) (nodes : List ℕ) → place < length lines → HaveNodes c lines place nodes
      → HaveNodes c lines (place + 1) (set nodes (line_in lines place) (place + 1))
  node_more place nodes within have = record {
    node_each = length-set nodes (line_in lines place) (place + 1) ∙ have.node_each;
    before = λ k below. ⊎_elim (earlier k) (λ up. here k (omega arith)) (cases_lt k place);
  }
    where
      new : List ℕ
      new = set nodes (line_in lines place) (place + 1)

      earlier : (k : ℕ) → k < place → node_of new (line_in lines k) ≡ k + 1
      earlier k below =
          get_or-set_other nodes (line_in lines place) (line_in lines k) (place + 1) 0
          (numbers_differ c lines ranking k place below within) ∙ have.before k below

      here : (k : ℕ) → k ≡ place → node_of new (line_in lines k) ≡ k + 1
      here k same =
          subst (λ at. node_of new (line_in lines at) ≡ at + 1) (sym same)
          (get_or-set_same nodes (line_in lines place) (place + 1) 0
          (omega (arith, have.node_each, line_within place within)))

  module _ (nodes : List ℕ) (are : AreNodes c lines nodes) where
    -- the node of a line tells its place
    pub node_by_place : (line : ℕ) → line < line_count c
        → (place : ℕ) × (place < length lines) × (line_in lines place ≡ line) × (node_of nodes line ≡ place + 1)
    node_by_place line within =
        let found = place_of_line c lines ranking line within in
        (found.0, found.1, found.2, ap (node_of nodes) (sym found.2) ∙ are.in_order found.0 found.1)

    -- each line has a node of its own
    pub nodes_within : AreNodesWithin c nodes
    nodes_within = record {
      node_each = are.node_each;
      behind_root = λ line within. let found = node_by_place line within in omega (arith, found.3);
      within = λ line within. let found = node_by_place line within in
          omega (arith, found.1, found.3, ranking_length c lines ranking);
      own = own;
    }
      where
        own : (a b : ℕ) → a < line_count c → b < line_count c → node_of nodes a ≡ node_of nodes b → a ≡ b
        own a b a_within b_within same =
            let place_a = node_by_place a a_within in
            let place_b = node_by_place b b_within in
            let one : place_a.0 ≡ place_b.0 = omega (arith, same, place_a.3, place_b.3) in
            sym place_a.2 ∙ ap (line_in lines) one ∙ place_b.2

    -- each node behind the root is that of a line
    pub line_of_node : (node : ℕ) → 0 < node → node ≤ line_count c
        → (line : ℕ) × (line < line_count c) × (node_of nodes line ≡ node)
    line_of_node node above up =
        let place = node - 1 in
        let within : place < length lines = omega (arith, ranking_length c lines ranking) in
        (line_in lines place, line_within place within, omega (arith, are.in_order place within))

    -- a gate's line has a greater node than each line that the gate reads
    pub nodes_rise : IsCircuit c → (pin : PinRef) (line : ℕ) → line < line_count c → IsPinOn c pin line
        → node_of nodes line < node_of nodes (gate_line c pin.gate.0)
    nodes_rise circuit pin line within on =
        let from = node_by_place line within in
        let to = node_by_place (gate_line c pin.gate.0) (omega (arith, on.in_circuit)) in
        let behind = stands_behind c lines ranking circuit pin from.0 to.0 from.1 to.1
        (subst (IsPinOn c pin) (sym from.2) on) to.2 in
        omega (arith, behind, from.3, to.3)
