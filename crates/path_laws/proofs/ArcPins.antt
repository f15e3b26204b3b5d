-- The arcs of a line's node go through the pins that read the line, each through one, in the order of the pins.
use Rattle.std.proofs.Common.{◌≡◌, ℕ, ◌+◌, ◌-◌, ◌<◌, ◌≤◌, List, length, take, drop, get_or, map, replicate, sym, ap, subst, subst₂, ◌∙◌, arith, length-drop}
use Rattle.std.proofs.lemmas.List.{get_or-take, get_or-drop, get_or-map, get_or-append_right, get_or_append_left, get_or-replicate, get_or_default, length-replicate, length-take-le}
use Rattle.pd_base.specs.declared.ids.PinRef.{PinRef}
use Rattle.netlist.specs.Circuit.{Circuit, gate_line, line_count, source_count}
use Rattle.netlist.specs.Pins.{IsPinBefore, IsPinOn}
use Rattle.netlist.specs.Waves.{Delays}
use Rattle.path_laws.specs.Graph.{Graph, IsArcOf, delay_of, arc_end}
use Rattle.path_laws.specs.CircuitGraph.{AreArcsOf, GoesThroughPin, IsGraphOf, no_pin, node_of, arc_pin}

module _ (c : Circuit) (pins : List PinRef) (line from to : ℕ) (are : AreArcsOf c pins line from to) where
  -- the pins of these arcs
  abbrev row : List PinRef
  row = take (to - source_count c - (from - source_count c)) (drop (from - source_count c) pins)

  -- there are as many as arcs
  row_length : length row ≡ to - from
  row_length =
      let long = length-drop (from - source_count c) pins in
      length-take-le (to - source_count c - (from - source_count c)) (drop (from - source_count c) pins)
      (omega (arith, are.behind_sources, are.rises, are.within, long))
      ∙ omega (arith, are.behind_sources, are.rises)

  -- and each is the pin of its arc
  row_at : (arc : ℕ) (d : PinRef) → from ≤ arc → arc < to → get_or row (arc - from) d ≡ get_or pins (arc - source_count c) d
  row_at arc d above below =
      let same : from - source_count c + (arc - from) ≡ arc - source_count c = omega (arith, are.behind_sources) in
      get_or-take (to - source_count c - (from - source_count c)) (drop (from - source_count c) pins) (arc - from) d
      (omega (arith, are.behind_sources))
      ∙ get_or-drop (from - source_count c) pins (arc - from) d ∙ ap (λ k. get_or pins k d) same

  -- the pin of each of these arcs reads the line
  pub arc_on_line : (arc : ℕ) → from ≤ arc → arc < to → IsPinOn c (arc_pin c pins arc) line
  arc_on_line arc above below =
      subst (λ (pin : PinRef). IsPinOn c pin line) (row_at arc no_pin above below)
      (are.fanout.on_line (arc - from) no_pin (omega (arith, row_length)))

  -- each pin that reads the line is the pin of one of them
  pub arc_of_pin : (pin : PinRef) → IsPinOn c pin line
      → (arc : ℕ) × (from ≤ arc) × (arc < to) × (arc_pin c pins arc ≡ pin)
  arc_of_pin pin on =
      let found = are.fanout.whole pin on in
      let place = found.0 in
      let below : from + place < to = omega (arith, found.1, row_length) in
      let back : from + place - from ≡ place = omega arith in (
        from + place,
        omega arith,
        below,
        sym (row_at (from + place) no_pin (omega arith) below) ∙ ap (λ k. get_or row k no_pin) back
            ∙ get_or_default row place no_pin pin found.1 ∙ found.2,
      )

  -- and of two of them the lesser goes through the pin that stands before
  pub arcs_rise : (a b : ℕ) → from ≤ a → a < b → b < to → IsPinBefore (arc_pin c pins a) (arc_pin c pins b)
  arcs_rise a b above less below =
      subst₂ IsPinBefore (row_at a no_pin above (omega arith)) (row_at b no_pin (omega arith) below)
      (are.fanout.rising (a - from) (b - from) no_pin (omega arith) (omega (arith, row_length)))

module _ (c : Circuit) (delays : Delays) (nodes : List ℕ) (pins : List PinRef) (g : Graph)
    (is : IsGraphOf c delays nodes pins g) where
  -- the sources have the first nodes in the list of all
  first_nodes : length (take (source_count c) nodes) ≡ source_count c
  first_nodes = length-take-le (source_count c) nodes (omega (arith, is.node_each))

  -- the arc of a source leads to its node
  pub source_end : (source : ℕ) → source < source_count c → arc_end g source ≡ node_of nodes source
  source_end source within =
      ap (λ all. get_or all source 0) is.arc_ends
      ∙ get_or_append_left (take (source_count c) nodes) _ 0 source (omega (arith, first_nodes))
      ∙ get_or-take (source_count c) nodes source 0 within

  -- without delay
  pub source_delay : (source : ℕ) → source < source_count c → delay_of g source ≡ 0
  source_delay source within =
      let long = length-replicate {A = ℕ} (source_count c) 0 in
      ap (λ all. get_or all source 0) is.arc_delays
      ∙ get_or_append_left (replicate (source_count c) 0) _ 0 source (omega (arith, long))
      ∙ get_or-replicate (source_count c) source 0 0 within

  -- an arc of a line's node goes through one of the pins
  pub through_pin : (line arc : ℕ) → line < line_count c → IsArcOf g (node_of nodes line) arc → GoesThroughPin c pins arc
  through_pin line arc within of =
      let here = (is.lines line within).arcs in
      record {
        behind_sources = omega (arith, here.behind_sources, of.from);
        within = omega (arith, here.within, of.below);
      }

  -- an arc of a line's node goes through a pin on the line, with its delay, to the node of its gate's line
  pub record GoesThrough (line arc : ℕ) : Type 0 where
    pub on : IsPinOn c (arc_pin c pins arc) line
    pub leads : arc_end g arc ≡ node_of nodes (gate_line c (arc_pin c pins arc).gate.0)
    pub delay : delay_of g arc ≡ delays (arc_pin c pins arc)

  -- an arc behind those of the sources leads to the node of its gate's line
  arc_leads : (arc : ℕ) → source_count c ≤ arc → arc < source_count c + length pins
      → arc_end g arc ≡ node_of nodes (gate_line c (arc_pin c pins arc).gate.0)
  arc_leads arc above below =
      let gate_node = λ (pin : PinRef). node_of nodes (gate_line c pin.gate.0) in
      ap (λ all. get_or all arc 0) is.arc_ends
      ∙ get_or-append_right (take (source_count c) nodes) (map gate_node pins) (source_count c) arc 0 first_nodes above
      ∙ get_or-map gate_node pins (arc - source_count c) no_pin 0 (omega arith)

  -- with the delay of its pin
  arc_delay : (arc : ℕ) → source_count c ≤ arc → arc < source_count c + length pins
      → delay_of g arc ≡ delays (arc_pin c pins arc)
  arc_delay arc above below =
      ap (λ all. get_or all arc 0) is.arc_delays
      ∙ get_or-append_right (replicate (source_count c) 0) (map delays pins) (source_count c) arc 0
      (length-replicate {A = ℕ} (source_count c) 0) above
      ∙ get_or-map delays pins (arc - source_count c) no_pin 0 (omega arith)

  -- so does each arc of a line's node
  pub goes_through : (line arc : ℕ) → line < line_count c → IsArcOf g (node_of nodes line) arc → GoesThrough line arc
  goes_through line arc within of =
      let through = through_pin line arc within of in
      record {
        on = arc_on_line c pins line _ _ (is.lines line within).arcs arc of.from of.below;
        leads = arc_leads arc through.behind_sources through.within;
        delay = arc_delay arc through.behind_sources through.within;
      }

  -- and through each pin on the line goes one of them
  pub goes_through_each : (line : ℕ) (pin : PinRef) → line < line_count c → IsPinOn c pin line
      → (arc : ℕ) × IsArcOf g (node_of nodes line) arc × (arc_pin c pins arc ≡ pin)
  goes_through_each line pin within on =
      let here = is.lines line within in
      let found = arc_of_pin c pins line _ _ here.arcs pin on in
      (found.0, record { in_graph = here.in_graph; from = found.1; below = found.2 }, found.3)

  -- arcs of a node that rise go through pins that do
  pub pins_rise : (line a b : ℕ) → line < line_count c → IsArcOf g (node_of nodes line) a
      → IsArcOf g (node_of nodes line) b → a < b → IsPinBefore (arc_pin c pins a) (arc_pin c pins b)
  pins_rise line a b within of_a of_b less =
      arcs_rise c pins line _ _ (is.lines line within).arcs a b of_a.from less of_b.below
