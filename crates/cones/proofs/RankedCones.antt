-- The gates of a cone in rank order: each stands behind those whose lines it reads.
use Rattle.std.proofs.Common.{◌≡◌, ◌≢◌, ⊎_elim, ℕ, ◌-◌, ◌<◌, ◌≤◌, ◌↔◌, List, length, take, get_or, sym, ap, subst, ◌∙◌, arith}
use Rattle.std.specs.List.{AllPairs, Contains}
use Rattle.std.proofs.lemmas.Bool.{cases_lt, cases_eq}
use Rattle.std.proofs.lemmas.List.{get_or-take, get_or_default, length-take-le}
use Rattle.std.proofs.lemmas.List.Elements.{Contains-get_or}
use Rattle.std.proofs.lemmas.Option.{slice_get-get_or, get_or_from_slice_get, slice_get_within}
use Rattle.pd_base.specs.Links.{LinkList}
use Rattle.pd_base.specs.declared.ids.LineId.{LineId}
use Rattle.pd_base.specs.declared.ids.GateId.{GateId}
use Rattle.netlist.specs.Circuit.{Circuit, source_count, gate_count, gate_line, line_count, pins_at}
use Rattle.netlist.specs.Lawful.{IsCircuit}
use Rattle.netlist.specs.Levels.{level, IsRankedBefore, IsDriven}
use Rattle.netlist.specs.Levels.IsRankedBefore.{lower_level, lesser_number}
use Rattle.netlist.specs.Levels.IsDriven.{by_source, by_gate}
use Rattle.netlist.specs.LinkedPairs.{IsSupported}
use Rattle.netlist.proofs.Evaluation.{gate_line_of}
use Rattle.path_laws.proofs.StepCounts.{step_raises}
use Rattle.state_laws.proofs.Supports.{pin_supported}
use Rattle.cones.specs.KeptCones.{AreConeGates}

-- a gate is not ranked before one on a lower level
pub never_after : (c : Circuit) (a b : GateId) → level c (gate_line c b.0) < level c (gate_line c a.0) → IsRankedBefore c a b → ⊥
never_after c a b higher (lower_level below) = omega arith
never_after c a b higher (lesser_number even less) = omega arith

module _ (c : Circuit) (links : LinkList) (end : ℕ) (gates : List GateId) (rising : AllPairs (IsRankedBefore c) gates)
    (exactly : (gate : ℕ) → Contains gates (record { 0 = gate }) ↔ ((gate < gate_count c) × IsSupported c links end (gate_line c gate)))
    (circuit : IsCircuit c) where
  module _ (place : ℕ) (gate : GateId) (inside : place < length gates) (is : get_or gates place gate ≡ gate)
      (pin : ℕ) (d : LineId) (within : pin < length (pins_at c gate.0)) where
    abbrev read : LineId
    read = get_or (pins_at c gate.0) pin d

    own : (gate.0 < gate_count c) × IsSupported c links end (gate_line c gate.0)
    own = (exactly gate.0).0 (subst (Contains gates) is (Contains-get_or gates place gate inside))

    further : IsSupported c links end read.0
    further = pin_supported c links end gate.0 own.0 own.1 pin d within

    raises : level c read.0 < level c (gate_line c gate.0)
    raises = step_raises c circuit read.0 (record { gate = gate; pin = pin })
        (record { in_circuit = own.0; reads = slice_get-get_or (pins_at c gate.0) pin d within })

    -- the gate of the line stands before
    stands_before : (other k : ℕ) → gate_line c other ≡ read.0 → k < length gates → get_or gates k (record { 0 = other }) ≡ record { 0 = other }
        → k < place
    stands_before other k line in_gates there = ⊎_elim (λ (before : k < place). before)
        (λ (from : place ≤ k).
        let level_is : level c (gate_line c other) ≡ level c read.0 = ap (level c) line in
        ⊎_elim
        (λ (here : k ≡ place).
        let same : gate ≡ record { 0 = other } =
        sym is ∙ ap (λ j. get_or gates j gate) (sym here) ∙ get_or_default gates k gate (record { 0 = other }) in_gates ∙ there in
        absurd (omega (arith, raises, level_is, ap (λ (g : GateId). level c (gate_line c g.0)) same)))
        (λ (away : k ≢ place).
        let less : place < k = omega arith in
        let before = rising place k gate less in_gates in
        let second : get_or gates k gate ≡ record { 0 = other } = get_or_default gates k gate (record { 0 = other }) in_gates ∙ there in
        absurd (never_after c gate (record { 0 = other }) (omega (arith, raises, level_is))
        (subst (IsRankedBefore c gate) second (subst (λ g. IsRankedBefore c g (get_or gates k gate)) is before))))
        (cases_eq k place))
        (cases_lt k place)

    pin_earlier : IsDriven c (take place gates) read.0
    pin_earlier = ⊎_elim (λ (source : read.0 < source_count c). by_source source)
        (λ (above : source_count c ≤ read.0).
        let other = read.0 - source_count c in
        let line : gate_line c other ≡ read.0 = gate_line_of c read.0 above in
        let reads : read.0 < line_count c = circuit.reads_lines gate.0 own.0 pin d within in
        let there : Contains gates (record { 0 = other }) =
        (exactly other).1 (omega arith, subst (IsSupported c links end) (sym line) further) in
        let before = stands_before other there.0 line there.1 there.2 in
        let long = length-take-le place gates (omega arith) in
        by_gate other (
          there.0,
          omega (arith, long, before),
          get_or-take place gates there.0 (record { 0 = other }) before ∙ there.2,
        ) (sym line))
        (cases_lt read.0 (source_count c))

  pub cone_gates : AreConeGates c links end gates
  cone_gates = record {
    rising = rising;
    exactly = exactly;
    earlier = λ place gate at pin d within.
        pin_earlier place gate (slice_get_within gates place gate at) (get_or_from_slice_get gates place gate gate at) pin d within;
  }
