-- What is known of the delays and of the graph of a circuit under them, as the listing asks it.
use Rattle.std.proofs.Common.{ℕ, List, arith, lit<}
use Rattle.std.specs.List.{All}
use Rattle.std.proofs.lemmas.List.Elements.{All-weaker}
use Rattle.pd_base.specs.declared.ids.PinRef.{PinRef}
use Rattle.netlist.specs.Circuit.{Circuit}
use Rattle.netlist.specs.Lawful.{IsCircuit}
use Rattle.netlist.specs.Pins.{pin_place_in}
use Rattle.netlist.proofs.PinRow.{pin_on_line, place_within}
use Rattle.netlist.specs.Waves.{Delays}
use Rattle.delay_annotation.specs.declared.delays.TheConstants.{MOST_DELAY}
use Rattle.delay_annotation.specs.Annotation.{Fits, delays_of}
use Rattle.path_laws.specs.Graph.{Graph}
use Rattle.path_laws.specs.Walks.{HasShortWalks, Leads}
use Rattle.path_laws.specs.CircuitGraph.{GoesOnThroughPins}
use Rattle.path_laws.proofs.ShortWalks.{AreWithin, has_short_walks}
use Rattle.path_laws.proofs.WalkPaths.{walk_goes_on}
use Rattle.path_lister.specs.Graphs.{IsGraphUnder}

-- no pin of the circuit has a greater delay than the greatest
delays_within : (c : Circuit) (kept : List ℕ) → Fits c kept → AreWithin c (delays_of c kept) MOST_DELAY
delays_within c kept fits pin line on =
    let within = place_within c pin (pin_on_line c pin line on) in
    fits.bounded (pin_place_in c pin) 0 (omega (arith, within, fits.one_each))

-- so all walks of the graph are short
pub short_walks : (c : Circuit) → IsCircuit c → (kept : List ℕ) → Fits c kept → (pins : List PinRef) (g : Graph)
    → IsGraphUnder c (delays_of c kept) pins g → HasShortWalks g
short_walks c circuit kept fits pins g under =
    has_short_walks c (delays_of c kept) under.nodes pins g under.graph MOST_DELAY (delays_within c kept fits) circuit (lit< tt)

-- and behind its first arc each walk from the root goes through pins
pub walks_go_on : (c : Circuit) (delays : Delays) (pins : List PinRef) (g : Graph) → IsGraphUnder c delays pins g
    → (walks : List (List ℕ)) → All (Leads g 0) walks → All (GoesOnThroughPins c pins) walks
walks_go_on c delays pins g under walks lead =
    All-weaker (Leads g 0) (GoesOnThroughPins c pins) (walk_goes_on c delays under.nodes pins g under.graph) walks lead
