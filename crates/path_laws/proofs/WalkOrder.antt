-- The order of walks is that of their paths: of two arcs of one node the lesser goes through the pin that stands before.
use Rattle.std.proofs.Common.{◌≡◌, ◌⊎◌, inl, inr, ⊎_elim, ℕ, ◌<◌, List, [], ◌∷◌, sym, ap, subst, subst₂, ◌∙◌, arith}
use Rattle.std.proofs.lemmas.Bool.{cases_order}
use Rattle.pd_base.specs.declared.ids.GateId.{GateId}
use Rattle.pd_base.specs.declared.ids.LineId.{LineId}
use Rattle.pd_base.specs.declared.ids.PinRef.{PinRef}
use Rattle.netlist.specs.Circuit.{Circuit, gate_line, line_count}
use Rattle.netlist.specs.Pins.{IsPinBefore}
use Rattle.netlist.specs.Pins.IsPinBefore.{lesser_gate, lesser_pin}
use Rattle.netlist.specs.Waves.{Delays}
use Rattle.netlist.specs.Paths.{length_of}
use Rattle.netlist.specs.Order.{AreStepsBefore, IsBefore}
use Rattle.netlist.specs.Order.AreStepsBefore.{shorter_list, lesser_step, same_step}
use Rattle.netlist.specs.Order.IsBefore.{longer, lesser_source, lesser_steps}
use Rattle.path_laws.specs.Graph.{Graph, IsArcOf}
use Rattle.path_laws.specs.Walks.{Leads, walk_length}
use Rattle.path_laws.specs.Order.{AreArcsBefore, IsWalkBefore}
use Rattle.path_laws.specs.Order.AreArcsBefore.{shorter_list as shorter_walk, lesser_arc, same_arc}
use Rattle.path_laws.specs.Order.IsWalkBefore.{longer as longer_walk, lesser_arcs}
use Rattle.path_laws.specs.CircuitGraph.{IsGraphOf, node_of, arc_pin, route_of}
use Rattle.path_laws.proofs.ArcPins.{pins_rise}
use Rattle.path_laws.proofs.WalkPaths.{steps_of, leads_on, next_within, root_goes_on, first_is_source, leads_from_source, walk_length_of}

-- of two pins only one stands before the other, and they differ
pub no_pin_behind : (a b : PinRef) → IsPinBefore a b → (a ≡ b) ⊎ IsPinBefore b a → ⊥
no_pin_behind a b before other = ⊎_elim (same a b before) (behind a b before) other
  where
    gate_of : (p q : PinRef) → p.gate ≡ q.gate → p.gate.0 ≡ q.gate.0
    gate_of p q one = ap (λ (gate : GateId). gate.0) one

    same : (p q : PinRef) → IsPinBefore p q → p ≡ q → ⊥
    same p q (lesser_gate less) one = omega (arith, ap (λ (pin : PinRef). pin.gate.0) one)
    same p q (lesser_pin gate less) one = omega (arith, ap (λ (pin : PinRef). pin.pin) one)

    behind : (p q : PinRef) → IsPinBefore p q → IsPinBefore q p → ⊥
    behind p q (lesser_gate less) (lesser_gate more) = omega arith
    behind p q (lesser_gate less) (lesser_pin gate more) = omega (arith, gate_of q p gate)
    behind p q (lesser_pin gate less) (lesser_gate more) = omega (arith, gate_of p q gate)
    behind p q (lesser_pin gate less) (lesser_pin tie more) = omega arith

module _ (c : Circuit) (delays : Delays) (nodes : List ℕ) (pins : List PinRef) (g : Graph)
    (is : IsGraphOf c delays nodes pins g) where
  module _ (line a b : ℕ) (within : line < line_count c) (of_a : IsArcOf g (node_of nodes line) a)
      (of_b : IsArcOf g (node_of nodes line) b) where
    -- so the arc whose pin stands before is the lesser one
    arc_before : IsPinBefore (arc_pin c pins a) (arc_pin c pins b) → a < b
    arc_before before = ⊎_elim same (⊎_elim (λ less. less) behind) (cases_order a b)
      where
        same : a ≡ b → a < b
        same one = absurd (no_pin_behind (arc_pin c pins a) (arc_pin c pins b) before (inl (ap (arc_pin c pins) one)))

        behind : b < a → a < b
        behind more =
            absurd (no_pin_behind (arc_pin c pins a) (arc_pin c pins b) before
            (inr (pins_rise c delays nodes pins g is line b a within of_b of_a more)))

    -- and arcs of one pin are one arc
    same_arcs : arc_pin c pins a ≡ arc_pin c pins b → a ≡ b
    same_arcs one = ⊎_elim (λ same. same) (⊎_elim less more) (cases_order a b)
      where
        less : a < b → a ≡ b
        less rises =
            absurd (no_pin_behind (arc_pin c pins a) (arc_pin c pins b)
            (pins_rise c delays nodes pins g is line a b within of_a of_b rises) (inl one))

        more : b < a → a ≡ b
        more rises =
            absurd (no_pin_behind (arc_pin c pins b) (arc_pin c pins a)
            (pins_rise c delays nodes pins g is line b a within of_b of_a rises) (inl (sym one)))

  -- two walks that lead from one line's node go on from one node behind one first arc
  next_leads : (line a b : ℕ) (q : List ℕ) → line < line_count c → Leads g (node_of nodes line) (b ∷ q) → a ≡ b
      → Leads g (node_of nodes (gate_line c (arc_pin c pins a).gate.0)) q
  next_leads line a b q within leads one =
      subst (λ arc. Leads g (node_of nodes (gate_line c (arc_pin c pins arc).gate.0)) q) (sym one)
      (leads_on c delays nodes pins g is line b q within leads)

  -- walks whose arcs stand before have steps that do
  pub steps_before : (line : ℕ) (p q : List ℕ) → line < line_count c → Leads g (node_of nodes line) p
      → Leads g (node_of nodes line) q → AreArcsBefore p q → AreStepsBefore (steps_of c pins p) (steps_of c pins q)
  steps_before line [] [] within leads_p leads_q before = elim before [ ]
  steps_before line (a ∷ p) [] within leads_p leads_q before = elim before [ ]
  steps_before line [] (b ∷ q) within leads_p leads_q shorter_walk = shorter_list
  steps_before line (a ∷ p) (b ∷ q) within leads_p leads_q (lesser_arc less) =
      lesser_step (pins_rise c delays nodes pins g is line a b within leads_p.0 leads_q.0 less)
  steps_before line (a ∷ p) (b ∷ q) within leads_p leads_q (same_arc one before) =
      same_step (ap (arc_pin c pins) one)
      (steps_before (gate_line c (arc_pin c pins a).gate.0) p q
      (next_within c delays nodes pins g is line a within leads_p.0)
      (leads_on c delays nodes pins g is line a p within leads_p) (next_leads line a b q within leads_q one) before)

  -- and the other way round
  pub arcs_before : (line : ℕ) (p q : List ℕ) → line < line_count c → Leads g (node_of nodes line) p
      → Leads g (node_of nodes line) q → AreStepsBefore (steps_of c pins p) (steps_of c pins q) → AreArcsBefore p q
  arcs_before line [] [] within leads_p leads_q before = elim before [ ]
  arcs_before line [] (b ∷ q) within leads_p leads_q before = shorter_walk
  arcs_before line (a ∷ p) [] within leads_p leads_q before = elim before [ ]
  arcs_before line (a ∷ p) (b ∷ q) within leads_p leads_q (lesser_step less) =
      lesser_arc (arc_before line a b within leads_p.0 leads_q.0 less)
  arcs_before line (a ∷ p) (b ∷ q) within leads_p leads_q (same_step one before) =
      let arc = same_arcs line a b within leads_p.0 leads_q.0 one in
      same_arc arc
      (arcs_before (gate_line c (arc_pin c pins a).gate.0) p q
      (next_within c delays nodes pins g is line a within leads_p.0)
      (leads_on c delays nodes pins g is line a p within leads_p) (next_leads line a b q within leads_q arc) before)

  -- two walks from the root with one first arc go on from one source
  from_one_source : (a b : ℕ) (q : List ℕ) → Leads g 0 (b ∷ q) → a ≡ b → Leads g (node_of nodes a) q
  from_one_source a b q leads one =
      subst (λ source. Leads g (node_of nodes source) q) (sym one) (leads_from_source c delays nodes pins g is b q leads)

  module _ (a b : ℕ) (p q : List ℕ) (leads_p : Leads g 0 (a ∷ p)) (leads_q : Leads g 0 (b ∷ q)) where
    within_a : a < line_count c
    within_a = omega (arith, first_is_source c delays nodes pins g is a p leads_p)

    long_p : walk_length g (a ∷ p) ≡ length_of delays (route_of c pins (a ∷ p))
    long_p = walk_length_of c delays nodes pins g is (a ∷ p) leads_p

    long_q : walk_length g (b ∷ q) ≡ length_of delays (route_of c pins (b ∷ q))
    long_q = walk_length_of c delays nodes pins g is (b ∷ q) leads_q

    -- of paths of one length the one of the lesser arcs stands before
    by_arcs : length_of delays (route_of c pins (a ∷ p)) ≡ length_of delays (route_of c pins (b ∷ q))
        → AreArcsBefore (a ∷ p) (b ∷ q) → IsBefore delays (route_of c pins (a ∷ p)) (route_of c pins (b ∷ q))
    by_arcs tie (lesser_arc less) = lesser_source tie less
    by_arcs tie (same_arc one before) =
        lesser_steps tie (ap (λ (line : ℕ). record { 0 = line }) one)
        (steps_before a p q within_a (leads_from_source c delays nodes pins g is a p leads_p)
        (from_one_source a b q leads_q one) before)

    -- a walk that stands before another has a path that does
    before_from_walks : IsWalkBefore g (a ∷ p) (b ∷ q) → IsBefore delays (route_of c pins (a ∷ p)) (route_of c pins (b ∷ q))
    before_from_walks (longer_walk less) = longer (subst₂ (λ m n. m < n) long_q long_p less)
    before_from_walks (lesser_arcs tie arcs) = by_arcs (sym long_p ∙ tie ∙ long_q) arcs

    -- and the other way round
    before_from_paths : IsBefore delays (route_of c pins (a ∷ p)) (route_of c pins (b ∷ q)) → IsWalkBefore g (a ∷ p) (b ∷ q)
    before_from_paths (longer less) = longer_walk (subst₂ (λ m n. m < n) (sym long_q) (sym long_p) less)
    before_from_paths (lesser_source tie less) = lesser_arcs (long_p ∙ tie ∙ sym long_q) (lesser_arc less)
    before_from_paths (lesser_steps tie source before) =
        let one = ap (λ (line : LineId). line.0) source in
        lesser_arcs (long_p ∙ tie ∙ sym long_q)
        (same_arc one (arcs_before a p q within_a (leads_from_source c delays nodes pins g is a p leads_p)
        (from_one_source a b q leads_q one) before))

  -- walks from the root that stand before have paths that do
  pub path_before : (p q : List ℕ) → Leads g 0 p → Leads g 0 q → IsWalkBefore g p q
      → IsBefore delays (route_of c pins p) (route_of c pins q)
  path_before [] q leads_p leads_q before = absurd (root_goes_on c delays nodes pins g is leads_p)
  path_before (a ∷ p) [] leads_p leads_q before = absurd (root_goes_on c delays nodes pins g is leads_q)
  path_before (a ∷ p) (b ∷ q) leads_p leads_q before = before_from_walks a b p q leads_p leads_q before

  -- and those of paths that stand before do
  pub walk_before : (p q : List ℕ) → Leads g 0 p → Leads g 0 q → IsBefore delays (route_of c pins p) (route_of c pins q)
      → IsWalkBefore g p q
  walk_before [] q leads_p leads_q before = absurd (root_goes_on c delays nodes pins g is leads_p)
  walk_before (a ∷ p) [] leads_p leads_q before = absurd (root_goes_on c delays nodes pins g is leads_q)
  walk_before (a ∷ p) (b ∷ q) leads_p leads_q before = before_from_paths a b p q leads_p leads_q before
