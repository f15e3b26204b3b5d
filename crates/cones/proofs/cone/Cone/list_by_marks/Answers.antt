-- The sources and gates of the cone are those with marks.
use Rattle.std.proofs.Common.{ℕ, ◌+◌, ◌<◌, ◌↔◌, false, List, filter, get_or, length, sym, ap, ap₂, subst, ◌∙◌, arith}
use Rattle.std.specs.List.{Contains}
use Rattle.pd_base.specs.declared.ids.LineId.{LineId}
use Rattle.pd_base.specs.declared.ids.GateId.{GateId}
use Rattle.netlist.specs.LinkedPairs.{IsSupported}
use Rattle.cones.specs.FoundLines.{HasMark}
use Rattle.cones.specs.KeptCones.{KeptCone, IsConeFor, AreConeGates}
use Rattle.cones.proofs.ConeScans.{few_ranked, scanned_sources, scanned_gates}
use Rattle.cones.proofs.cone.Cone.list_by_marks.Goals as goal

pub scan_gates-requires-clause-room : goal.scan_gates-requires-clause-room
scan_gates-requires-clause-room c =
    let net = c.args.net.now in
    let made : IsConeFor net _ = subst (IsConeFor net) (sym c.self.view_is) c.requires.made in
    omega (
      arith,
      few_ranked net c.self.inside.order.items made.ordered,
      ap length c.as_slice.ensures.value,
      made.room,
      c.self.invariant.here.for_gates,
    )

pub returns-clause-cone : goal.returns-clause-cone
returns-clause-cone c =
    let net = c.args.net.now in
    let end = c.args.end.0 in
    let order = c.self.inside.order.items in
    let made : IsConeFor net _ = subst (IsConeFor net) (sym c.self.view_is) c.requires.made in
    let lines = c.self.inside.current.found.lines in
    let found = λ (ls : List LineId). (line : ℕ) → Contains ls (record { 0 = line }) ↔ IsSupported net c.self.inside.links end line in
    let held = subst (λ (cone : KeptCone). (line : ℕ) → Contains cone.found.lines (record { 0 = line }) ↔ IsSupported net cone.links end line)
    (sym c.self.view_is) c.requires.found in
    let sources = c.scan_sources.new.list.items in
    record {
      lines = held;
      sources = scanned_sources net c.self.inside.links end lines held c.marks.result.now c.marks.ensures.exactly sources c.scan_sources.ensures.rising
          (subst (λ (count : ℕ). (n : ℕ) → Contains sources (record { 0 = n }) ↔ ((n < count) × HasMark c.marks.result.now n))
          c.sources.ensures.count c.scan_sources.ensures.exactly);
      gates = subst (AreConeGates net c.self.inside.links end)
          (sym (c.scan_gates.ensures.gates
          ∙ ap₂ (λ (gates : List GateId) (first : ℕ). filter (λ (gate : GateId). get_or c.marks-2.result.now (first + gate.0) false) gates)
          c.as_slice.ensures.value c.sources-2.ensures.count))
          (scanned_gates net c.self.inside.links end lines held c.marks-2.result.now c.marks-2.ensures.exactly order made.ordered c.sources.ensures.circuit);
    }

pub returns-clause-made : goal.returns-clause-made
returns-clause-made c =
    let net = c.args.net.now in
    let made : IsConeFor net _ = subst (IsConeFor net) (sym c.self.view_is) c.requires.made in
    record {
      room = made.room;
      fit = made.fit;
      ordered = made.ordered;
      one_each = made.one_each;
      places = made.places;
      aside = made.aside;
      kept = returns-clause-cone c;
    }
