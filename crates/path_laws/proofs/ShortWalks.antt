-- The walks of a circuit's graph are short: they have no more arcs than the circuit has levels, and one from the root.
use Rattle.std.proofs.Common.{◌≡◌, ⊎_elim, ℕ, ◌-◌, ◌*◌, ◌^◌, ◌<◌, ◌≤◌, List, [], ◌∷◌, length, sym, subst, arith}
use Rattle.std.proofs.Math.Nat.{mul-le-mul_right}
use Rattle.std.proofs.lemmas.Bool.{cases_lt}
use Rattle.std.proofs.lemmas.List.{length-map}
use Rattle.pd_base.specs.declared.ids.PinRef.{PinRef}
use Rattle.netlist.specs.declared.limits.TheConstants.{MOST_LEVELS}
use Rattle.netlist.specs.Circuit.{Circuit, gate_line, line_count}
use Rattle.netlist.specs.Lawful.{IsCircuit}
use Rattle.netlist.specs.Pins.{IsPinOn}
use Rattle.netlist.specs.Waves.{Delays}
use Rattle.path_laws.proofs.StepCounts.{steps_within_levels}
use Rattle.path_laws.specs.Graph.{Graph}
use Rattle.path_laws.specs.Walks.{HasShortWalks, Leads, walk_length}
use Rattle.path_laws.specs.CircuitGraph.{IsGraphOf, node_of, arc_pin}
use Rattle.path_laws.proofs.ArcPins.{goes_through, source_delay}
use Rattle.path_laws.proofs.WalkPaths.{steps_of, leads_on, next_within, walk_connects, first_is_source, leads_from_source}

-- no pin of the circuit has a greater delay than this
abbrev pub AreWithin : Circuit → Delays → ℕ → Type 0
AreWithin c delays most = (pin : PinRef) (line : ℕ) → IsPinOn c pin line → delays pin ≤ most

module _ (c : Circuit) (delays : Delays) (nodes : List ℕ) (pins : List PinRef) (g : Graph)
    (is : IsGraphOf c delays nodes pins g) (most : ℕ) (bounded : AreWithin c delays most) where
  -- a walk from a line's node is no longer than so many times the greatest delay as it has arcs
  length_by_arcs : (line : ℕ) (walk : List ℕ) → line < line_count c → Leads g (node_of nodes line) walk
      → walk_length g walk ≤ length walk * most
  length_by_arcs line [] within leads = omega arith
  length_by_arcs line (arc ∷ walk) within leads =
      let own = goes_through c delays nodes pins g is line arc within leads.0 in
      let rest = length_by_arcs (gate_line c (arc_pin c pins arc).gate.0) walk
      (next_within c delays nodes pins g is line arc within leads.0)
      (leads_on c delays nodes pins g is line arc walk within leads) in
      omega (arith, own.delay, bounded (arc_pin c pins arc) line own.on, rest)

  module _ (circuit : IsCircuit c) (short : MOST_LEVELS * most < 2 ^ 32 - 1) where
    -- so its length fits 32 bits
    short_from_line : (line : ℕ) (walk : List ℕ) → line < line_count c → Leads g (node_of nodes line) walk
        → walk_length g walk < 2 ^ 32 - 1
    short_from_line line walk within leads =
        let few : length walk ≤ MOST_LEVELS =
        omega (
          arith,
          length-map walk (arc_pin c pins),
          steps_within_levels c circuit line (steps_of c pins walk) within
              (walk_connects c delays nodes pins g is line walk within leads),
          circuit.few_levels,
        ) in
        omega (arith, length_by_arcs line walk within leads, mul-le-mul_right most few)

    -- that of a walk from the root too, whose first arc has no delay
    short_from_root : (walk : List ℕ) → Leads g 0 walk → walk_length g walk < 2 ^ 32 - 1
    short_from_root [] leads = omega arith
    short_from_root (source ∷ walk) leads =
        let first = first_is_source c delays nodes pins g is source walk leads in
        let within : source < line_count c = omega (arith, first) in
        omega (
          arith,
          source_delay c delays nodes pins g is source first,
          short_from_line source walk within (leads_from_source c delays nodes pins g is source walk leads),
        )

    -- and those of all walks
    pub has_short_walks : HasShortWalks g
    has_short_walks node [] leads = omega arith
    has_short_walks node (arc ∷ walk) leads = ⊎_elim at_line at_root (cases_lt 0 node)
      where
        at_line : 0 < node → walk_length g (arc ∷ walk) < 2 ^ 32 - 1
        at_line above =
            let found = is.all_nodes node above leads.0.in_graph in
            short_from_line found.0 (arc ∷ walk) found.1 (subst (λ n. Leads g n (arc ∷ walk)) (sym found.2) leads)

        at_root : node ≤ 0 → walk_length g (arc ∷ walk) < 2 ^ 32 - 1
        at_root none =
            let zero_node : node ≡ 0 = omega arith in
            short_from_root (arc ∷ walk) (subst (λ n. Leads g n (arc ∷ walk)) zero_node leads)
