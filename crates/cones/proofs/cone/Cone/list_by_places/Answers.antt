-- The sources and gates of the cone are listed by their numbers and places.
use Rattle.std.proofs.Common.{ℕ, ◌<◌, ◌^◌, ◌↔◌, List, get_or, length, map, sym, ap, ap₂, subst, ◌∙◌, arith}
use Rattle.std.specs.List.{All, Contains}
use Rattle.std.proofs.lemmas.List.Elements.{Contains-get_or}
use Rattle.pd_base.specs.declared.ids.LineId.{LineId}
use Rattle.pd_base.specs.declared.ids.GateId.{GateId}
use Rattle.netlist.specs.Circuit.{line_count}
use Rattle.netlist.specs.LinkedPairs.{IsSupported}
use Rattle.state_laws.proofs.Supports.{supported_in_circuit}
use Rattle.cones.specs.KeptCones.{KeptCone, IsConeFor, AreConeSources, AreConeGates}
use Rattle.cones.specs.Ranks.{ranked_gate, AreRanks}
use Rattle.cones.proofs.ConeLists.{cone_sources, listed_gates, places_inside, source_of}
use Rattle.cones.proofs.cone.Cone.list_by_places.Goals as goal

pub list_sources-requires-clause-numbers : goal.list_sources-requires-clause-numbers
list_sources-requires-clause-numbers c =
    let numbers = c.number_sources.new.numbers.items in
    subst (All (λ (n : ℕ). n < 2 ^ 32)) (sym c.as_slice.ensures.value)
    (λ k d inside.
    let own = (c.number_sources.ensures.exactly (get_or numbers k d)).0 (Contains-get_or numbers k d inside) in
    omega (arith, own.0, c.sources.type_inv))

pub rank_gates-requires-clause-lines : goal.rank_gates-requires-clause-lines
rank_gates-requires-clause-lines c =
    let net = c.args.net.now in
    let lines = c.args.self.now.found.lines in
    subst (All (λ (line : LineId). line.0 < line_count net)) (sym (c.lines-2.ensures.lines ∙ ap (λ (cone : KeptCone). cone.found.lines) c.self.view_is))
    (λ k d inside. supported_in_circuit net c.args.self.now.links c.args.end.0 c.sources.ensures.circuit.reads_lines c.requires.made.fit c.requires.end (get_or lines k d).0
    ((c.requires.found (get_or lines k d).0).0 (Contains-get_or lines k d inside)))

pub list_gates-requires-clause-places : goal.list_gates-requires-clause-places
list_gates-requires-clause-places c =
    let net = c.args.net.now in
    let end = c.args.end.0 in
    let order = c.self.inside.order.items in
    let made : IsConeFor net _ = subst (IsConeFor net) (sym c.self.view_is) c.requires.made in
    let are = subst (λ (ls : List LineId). (line : ℕ) → Contains ls (record { 0 = line }) ↔ IsSupported net c.args.self.now.links end line)
    (sym (c.lines-2.ensures.lines ∙ ap (λ (cone : KeptCone). cone.found.lines) c.self.view_is)) c.requires.found in
    let places = subst (AreRanks order) (sym c.as_slice-2.ensures.value) made.places in
    subst (λ (gates : List GateId). All (λ (n : ℕ). n < length gates) c.as_slice-3.result.now) (sym c.as_slice-4.ensures.value)
    (subst (All (λ (n : ℕ). n < length order)) (sym c.as_slice-3.ensures.value)
    (places_inside net c.args.self.now.links end c.lines-2.result.now are c.rank_gates.new.numbers.items c.rank_gates.ensures.rising order made.ordered
    c.as_slice-2.result.now places c.rank_gates.ensures.exactly))

pub returns-clause-cone : goal.returns-clause-cone
returns-clause-cone c =
    let net = c.args.net.now in
    let end = c.args.end.0 in
    let order = c.self.inside.order.items in
    let numbers = c.number_sources.new.numbers.items in
    let made : IsConeFor net _ = subst (IsConeFor net) (sym c.self.view_is) c.requires.made in
    let found = λ (lines : List LineId). (line : ℕ) → Contains lines (record { 0 = line }) ↔ IsSupported net c.self.inside.links end line in
    let held = subst (λ (cone : KeptCone). (line : ℕ) → Contains cone.found.lines (record { 0 = line }) ↔ IsSupported net cone.links end line)
    (sym c.self.view_is) c.requires.found in
    let are = subst found (sym c.lines.ensures.lines) held in
    let are_again = subst found (sym c.lines-2.ensures.lines) held in
    let places = subst (AreRanks order) (sym c.as_slice-2.ensures.value) made.places in
    record {
      lines = held;
      sources = subst (AreConeSources net c.self.inside.links end) (sym (c.list_sources.ensures.sources ∙ ap (map source_of) c.as_slice.ensures.value))
          (cone_sources net c.self.inside.links end c.lines.result.now are numbers c.number_sources.ensures.rising
          (subst (λ (count : ℕ). (n : ℕ) → Contains numbers n ↔ ((n < count) × Contains c.lines.result.now (record { 0 = n })))
          c.sources.ensures.count c.number_sources.ensures.exactly));
      gates = subst (AreConeGates net c.self.inside.links end)
          (sym (c.list_gates.ensures.gates ∙ ap₂ (λ (o : List GateId) (ns : List ℕ). map (ranked_gate o) ns) c.as_slice-4.ensures.value c.as_slice-3.ensures.value))
          (listed_gates net c.self.inside.links end c.lines-2.result.now are_again c.rank_gates.new.numbers.items c.rank_gates.ensures.rising order made.ordered
          c.as_slice-2.result.now places c.rank_gates.ensures.exactly c.sources.ensures.circuit);
    }

pub returns-clause-made : goal.returns-clause-made
returns-clause-made c =
    let net = c.args.net.now in
    let made : IsConeFor net _ = subst (IsConeFor net) (sym c.self.view_is) c.requires.made in
    record {
      room = made.room;
      fit = made.fit;
      ordered = made.ordered;
      one_each = made.one_each;
      places = made.places;
      aside = made.aside;
      kept = returns-clause-cone c;
    }
