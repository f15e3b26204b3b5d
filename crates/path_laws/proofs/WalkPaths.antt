-- Each walk from a line's node has steps that connect from the line to an observed one, and all such steps are those of a walk.
-- So each walk from the root has a path, and each path is that of a walk, of the same length.
use Rattle.std.proofs.Common.{◌≡◌, ℕ, ◌+◌, ◌<◌, List, [], ◌∷◌, sum_by, map, Contains, refl, sym, ap, ap₂, subst, ◌∙◌, arith}
use Rattle.std.specs.List.{All}
use Rattle.std.proofs.lemmas.Bool.{false≢true}
use Rattle.std.proofs.lemmas.List.Elements.{All-cons, All-nil}
use Rattle.std.proofs.lemmas.List.Sums.{sum_by-cons}
use Rattle.pd_base.specs.declared.ids.PinRef.{PinRef}
use Rattle.pd_base.specs.Route.{Route}
use Rattle.netlist.specs.Circuit.{Circuit, gate_line, line_count, observed_lines, source_count}
use Rattle.netlist.specs.Waves.{Delays}
use Rattle.netlist.specs.Paths.{Connects, line_after, IsPath, length_of}
use Rattle.path_laws.specs.Graph.{Graph, IsArcOf, arc_end}
use Rattle.path_laws.specs.Walks.{Leads, walk_length}
use Rattle.path_laws.specs.CircuitGraph.{GoesOnThroughPins, GoesThroughPin, IsGraphOf, node_of, arc_pin, route_of}
use Rattle.path_laws.proofs.ArcPins.{source_end, source_delay, through_pin, goes_through, goes_through_each}

-- the steps of a walk from a line's node
abbrev pub steps_of : Circuit → List PinRef → List ℕ → List PinRef
steps_of c pins walk = map (arc_pin c pins) walk

-- the line is observed
abbrev pub IsObserved : Circuit → ℕ → Type 0
IsObserved c line = Contains (observed_lines c) (record { 0 = line })

module _ (c : Circuit) (delays : Delays) (nodes : List ℕ) (pins : List PinRef) (g : Graph)
    (is : IsGraphOf c delays nodes pins g) where
  -- behind its first arc a walk from a line's node leads on from the line of that arc's gate
  pub leads_on : (line arc : ℕ) (walk : List ℕ) → line < line_count c → Leads g (node_of nodes line) (arc ∷ walk)
      → Leads g (node_of nodes (gate_line c (arc_pin c pins arc).gate.0)) walk
  leads_on line arc walk within leads =
      subst (λ node. Leads g node walk) (goes_through c delays nodes pins g is line arc within leads.0).leads leads.1

  -- that line is one of the circuit
  pub next_within : (line arc : ℕ) → line < line_count c → IsArcOf g (node_of nodes line) arc
      → gate_line c (arc_pin c pins arc).gate.0 < line_count c
  next_within line arc within of =
      omega (arith, (goes_through c delays nodes pins g is line arc within of).on.in_circuit)

  -- the steps of a walk from a line's node connect from the line
  pub walk_connects : (line : ℕ) (walk : List ℕ) → line < line_count c → Leads g (node_of nodes line) walk
      → Connects c line (steps_of c pins walk)
  walk_connects line [] within leads = tt
  walk_connects line (arc ∷ walk) within leads = (
    (goes_through c delays nodes pins g is line arc within leads.0).on,
    walk_connects (gate_line c (arc_pin c pins arc).gate.0) walk (next_within line arc within leads.0)
        (leads_on line arc walk within leads),
  )

  -- to an observed one
  pub walk_observed : (line : ℕ) (walk : List ℕ) → line < line_count c → Leads g (node_of nodes line) walk
      → IsObserved c (line_after c line (steps_of c pins walk))
  walk_observed line [] within leads = (is.lines line within).stops.0 leads
  walk_observed line (arc ∷ walk) within leads =
      walk_observed (gate_line c (arc_pin c pins arc).gate.0) walk (next_within line arc within leads.0)
      (leads_on line arc walk within leads)

  -- and their delays are those of the arcs
  pub walk_delays : (line : ℕ) (walk : List ℕ) → line < line_count c → Leads g (node_of nodes line) walk
      → walk_length g walk ≡ sum_by delays (steps_of c pins walk)
  walk_delays line [] within leads = refl
  walk_delays line (arc ∷ walk) within leads =
      ap₂ (λ m n. m + n) (goes_through c delays nodes pins g is line arc within leads.0).delay
      (walk_delays (gate_line c (arc_pin c pins arc).gate.0) walk (next_within line arc within leads.0)
      (leads_on line arc walk within leads))
      ∙ sym (sum_by-cons delays (arc_pin c pins arc) (steps_of c pins walk))

  -- each of its arcs goes through one of the pins
  pub walk_through_pins : (line : ℕ) (walk : List ℕ) → line < line_count c → Leads g (node_of nodes line) walk
      → All (GoesThroughPin c pins) walk
  walk_through_pins line [] within leads = All-nil (GoesThroughPin c pins)
  walk_through_pins line (arc ∷ walk) within leads =
      All-cons (GoesThroughPin c pins) arc walk (through_pin c delays nodes pins g is line arc within leads.0)
      (walk_through_pins (gate_line c (arc_pin c pins arc).gate.0) walk (next_within line arc within leads.0)
      (leads_on line arc walk within leads))

  -- steps that connect from a line to an observed one are those of a walk from the line's node
  pub walk_of_steps : (line : ℕ) (steps : List PinRef) → line < line_count c → Connects c line steps
      → IsObserved c (line_after c line steps)
      → (walk : List ℕ) × Leads g (node_of nodes line) walk × (steps_of c pins walk ≡ steps)
  walk_of_steps line [] within connects observed = ([], (is.lines line within).stops.1 observed, refl)
  walk_of_steps line (step ∷ steps) within connects observed =
      let through = goes_through_each c delays nodes pins g is line step within connects.0 in
      let own = goes_through c delays nodes pins g is line through.0 within through.1 in
      let next = walk_of_steps (gate_line c step.gate.0) steps (omega (arith, connects.0.in_circuit)) connects.1 observed in
      let there : node_of nodes (gate_line c step.gate.0) ≡ arc_end g through.0 =
      ap (λ (pin : PinRef). node_of nodes (gate_line c pin.gate.0)) (sym through.2) ∙ sym own.leads in (
        through.0 ∷ next.0,
        (through.1, subst (λ node. Leads g node next.0) there next.1),
        ap₂ (λ pin rest. pin ∷ rest) through.2 next.2,
      )

  -- no walk from the root stops at once
  pub root_goes_on : Leads g 0 [] → ⊥
  root_goes_on leads = false≢true (sym is.goes_on ∙ leads)

  -- the first arc of a walk from the root is that of a source
  pub first_is_source : (source : ℕ) (walk : List ℕ) → Leads g 0 (source ∷ walk) → source < source_count c
  first_is_source source walk leads = omega (arith, leads.0.below, is.sources)

  -- behind it the walk leads on from the source
  pub leads_from_source : (source : ℕ) (walk : List ℕ) → Leads g 0 (source ∷ walk) → Leads g (node_of nodes source) walk
  leads_from_source source walk leads =
      subst (λ node. Leads g node walk)
      (source_end c delays nodes pins g is source (first_is_source source walk leads)) leads.1

  -- through pins
  pub walk_goes_on : (walk : List ℕ) → Leads g 0 walk → GoesOnThroughPins c pins walk
  walk_goes_on [] leads = tt
  walk_goes_on (source ∷ walk) leads =
      walk_through_pins source walk (omega (arith, first_is_source source walk leads)) (leads_from_source source walk leads)

  -- each walk from the root has a path
  pub walk_is_path : (walk : List ℕ) → Leads g 0 walk → IsPath c (route_of c pins walk)
  walk_is_path [] leads = absurd (root_goes_on leads)
  walk_is_path (source ∷ walk) leads =
      let first = first_is_source source walk leads in
      let within : source < line_count c = omega (arith, first) in
      let onward = leads_from_source source walk leads in
      record {
        prefix = record { source = first; connects = walk_connects source walk within onward };
        observed = walk_observed source walk within onward;
      }

  -- of the same length
  pub walk_length_of : (walk : List ℕ) → Leads g 0 walk → walk_length g walk ≡ length_of delays (route_of c pins walk)
  walk_length_of [] leads = absurd (root_goes_on leads)
  walk_length_of (source ∷ walk) leads =
      let first = first_is_source source walk leads in
      let within : source < line_count c = omega (arith, first) in
      omega (
        arith,
        source_delay c delays nodes pins g is source first,
        walk_delays source walk within (leads_from_source source walk leads),
      )

  -- and each path is that of a walk
  pub walk_of_path : (path : Route) → IsPath c path → (walk : List ℕ) × Leads g 0 walk × (route_of c pins walk ≡ path)
  walk_of_path path of =
      let source = path.source.0 in
      let first = of.prefix.source in
      let within : source < line_count c = omega (arith, first) in
      let found = walk_of_steps source path.steps within of.prefix.connects of.observed in
      let at_root : IsArcOf g 0 source =
      record { in_graph = omega (arith, (is.lines source within).in_graph); from = omega (arith, is.begins); below = omega (arith, is.sources) } in
      let steps : steps_of c pins found.0 ≡ path.steps = found.2 in (
        source ∷ found.0,
        (at_root, subst (λ node. Leads g node found.0) (sym (source_end c delays nodes pins g is source first)) found.1),
        ap (λ (all : List PinRef). record { source = path.source; steps = all }) steps,
      )
