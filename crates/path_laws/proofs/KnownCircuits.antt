-- Small circuits whose answers were worked out by hand, as a guard of the definitions: ties, repeats, one line on two pins,
-- sides that look steady, and the kinds that are easily read otherwise.
use Rattle.std.proofs.Common.{◌≡◌, ℕ, zero, suc, ◌<◌, pos, negsuc, true, false, List, [], ◌∷◌, length, get_or, slice_get, Option, Some, None, Contains, true≢false, refl, sym, ap, subst, ◌∙◌, lit<, arith}
use Rattle.std.specs.List.{AllPairs}
use Rattle.std.proofs.lemmas.List.Elements.{All-cons, All-nil}
use Rattle.std.proofs.lemmas.List.Kept.{AllPairs-cons}
use Rattle.pd_base.specs.declared.ids.LineId.{LineId}
use Rattle.pd_base.specs.declared.ids.GateId.{GateId}
use Rattle.pd_base.specs.declared.ids.PinRef.{PinRef}
use Rattle.pd_base.specs.declared.fault.Kind.TheVariants.{Robust, Nonrobust}
use Rattle.pd_base.specs.Pair.{Vectors}
use Rattle.pd_base.specs.Route.{Route}
use Rattle.netlist.specs.declared.kind.GateKind.TheVariants.{And, Xor, Xnor, Not}
use Rattle.netlist.specs.Circuit.{Circuit, observed_lines, pins_at}
use Rattle.netlist.specs.Values.{gate_value, value}
use Rattle.netlist.specs.Steadiness.{is_steady}
use Rattle.netlist.specs.Waves.{Delays, wave_of}
use Rattle.netlist.specs.Pins.{IsFanout, IsInFanIn, IsPinBefore, IsPinOn}
use Rattle.netlist.specs.Pins.IsPinBefore.{lesser_gate, lesser_pin}
use Rattle.netlist.specs.Pins.IsInFanIn.{end_itself, read_by_pin}
use Rattle.netlist.specs.Levels.{IsRankedBefore}
use Rattle.netlist.specs.Levels.IsRankedBefore.{lower_level, lesser_number}
use Rattle.netlist.specs.Lawful.{IsCircuit}
use Rattle.netlist.specs.Paths.{IsSide}
use Rattle.netlist.specs.Order.{AreStepsBefore, IsBefore}
use Rattle.netlist.specs.Order.AreStepsBefore.{shorter_list, lesser_step, same_step}
use Rattle.netlist.specs.Order.IsBefore.{longer, lesser_source, lesser_steps}
use Rattle.netlist.specs.Conditions.{SidesAllowed}

-- a line, a gate and a pin by their numbers
abbrev line : ℕ → LineId
line number = record { 0 = number }

abbrev gate : ℕ → GateId
gate number = record { 0 = number }

abbrev pin : ℕ → ℕ → PinRef
pin of number = record { gate = gate of; pin = number }

-- XNOR is the complement of the parity of all its pins, and not of pairs of them
xnor_of_three : gate_value Xnor (true ∷ true ∷ true ∷ []) ≡ false
xnor_of_three = refl

xnor_of_two_ones : gate_value Xnor (true ∷ true ∷ false ∷ []) ≡ true
xnor_of_two_ones = refl

xnor_of_one_pin : gate_value Xnor (true ∷ []) ≡ false
xnor_of_one_pin = refl

-- Inputs a and b, and a flip-flop q of data line y. The gates are n = NOT(a), z = AND(a, n), y = XOR(b, z), w = AND(b, b).
-- The lines are 0 to 2 for a, b and q, and 3 to 6 for the gates. The outputs are y and w.
abbrev hazard : Circuit
hazard = record {
  sources = (97 ∷ []) ∷ (98 ∷ []) ∷ (113 ∷ []) ∷ [];
  gates = record { name = 110 ∷ []; kind = Not; pins = line 0 ∷ [] }
      ∷ record { name = 122 ∷ []; kind = And; pins = line 0 ∷ line 3 ∷ [] }
      ∷ record { name = 121 ∷ []; kind = Xor; pins = line 1 ∷ line 4 ∷ [] }
      ∷ record { name = 119 ∷ []; kind = And; pins = line 1 ∷ line 1 ∷ [] } ∷ [];
  outputs = line 5 ∷ line 6 ∷ [];
  flops = (line 2, line 5) ∷ [];
}

-- the data line of a flip-flop that is an output too is observed once, at the place of the output
data_line_is_output : observed_lines hazard ≡ line 5 ∷ line 6 ∷ []
data_line_is_output = refl

-- n and w stand on one level, so the lesser number decides their rank, and z stands behind w
rank_of_tie : IsRankedBefore hazard (gate 0) (gate 3)
rank_of_tie = lesser_number refl (lit< tt)

no_rank_of_tie : ¬ IsRankedBefore hazard (gate 3) (gate 0)
no_rank_of_tie (lower_level below) = absurd (omega arith)
no_rank_of_tie (lesser_number tie less) = absurd (omega arith)

rank_by_level : IsRankedBefore hazard (gate 3) (gate 1)
rank_by_level = lower_level (lit< tt)

-- both pins of w read b: each is a side of the other
side_on_same_line : IsSide hazard (pin 3 0) 1 (line 1)
side_on_same_line = record { other = omega arith; reads = refl }

-- a and b rise: z has 0 under both vectors, and is not steady
abbrev rising : Vectors
rising = record { first = false ∷ false ∷ false ∷ []; second = true ∷ true ∷ false ∷ [] }

z_was : value hazard rising.first 4 ≡ false
z_was = refl

z_is : value hazard rising.second 4 ≡ false
z_is = refl

z_is_not_steady : is_steady hazard rising 4 ≡ false
z_is_not_steady = refl

-- so no robust test goes through y beside z, and a nonrobust one does
no_robust_side : ¬ SidesAllowed hazard Robust rising 1 (pin 2 0)
no_robust_side allowed = true≢false (sym (allowed 1 (line 4) (record { other = omega arith; reads = refl })))

nonrobust_side : SidesAllowed hazard Nonrobust rising 1 (pin 2 0)
nonrobust_side pin side is = tt

-- a and b fall
abbrev falling : Vectors
falling = record { first = true ∷ true ∷ false ∷ []; second = false ∷ false ∷ false ∷ [] }

-- beside a side on the on-path line nothing falls robustly: that side is not steady
no_fall_on_two_pins : ¬ SidesAllowed hazard Robust falling 1 (pin 3 0)
no_fall_on_two_pins allowed = true≢false (sym (allowed 1 (line 1) side_on_same_line).0)

-- the number of a line that was found, and one of no line where none was
abbrev number_found : Option LineId → ℕ
number_found None = 7
number_found (Some found) = found.0

-- the pins on b, by gate and then by pin, w's pin 1 behind its pin 0
abbrev on_b : List PinRef
on_b = pin 2 0 ∷ pin 3 0 ∷ pin 3 1 ∷ []

-- no other pin reads b
only_on_b : (of number : ℕ) → of < 4 → slice_get (pins_at hazard of) number ≡ Some (line 1) → Contains on_b (pin of number)
only_on_b zero zero within at = absurd (omega (arith, ap number_found at))
only_on_b zero (suc number) within at = absurd (omega (arith, ap number_found at))
only_on_b (suc zero) zero within at = absurd (omega (arith, ap number_found at))
only_on_b (suc zero) (suc zero) within at = absurd (omega (arith, ap number_found at))
only_on_b (suc zero) (suc (suc number)) within at = absurd (omega (arith, ap number_found at))
only_on_b (suc (suc zero)) zero within at = (0, lit< tt, refl)
only_on_b (suc (suc zero)) (suc zero) within at = absurd (omega (arith, ap number_found at))
only_on_b (suc (suc zero)) (suc (suc number)) within at = absurd (omega (arith, ap number_found at))
only_on_b (suc (suc (suc zero))) zero within at = (1, lit< tt, refl)
only_on_b (suc (suc (suc zero))) (suc zero) within at = (2, lit< tt, refl)
only_on_b (suc (suc (suc zero))) (suc (suc number)) within at = absurd (omega (arith, ap number_found at))
only_on_b (suc (suc (suc (suc of)))) number within at = absurd (omega arith)

-- they stand in the order of pins
rising_on_b : AllPairs IsPinBefore on_b
rising_on_b =
    let behind_y = All-cons (IsPinBefore (pin 2 0)) (pin 3 0) (pin 3 1 ∷ []) (lesser_gate (lit< tt))
    (All-cons (IsPinBefore (pin 2 0)) (pin 3 1) [] (lesser_gate (lit< tt)) (All-nil (IsPinBefore (pin 2 0)))) in
    let behind_w = All-cons (IsPinBefore (pin 3 0)) (pin 3 1) [] (lesser_pin refl (lit< tt)) (All-nil (IsPinBefore (pin 3 0))) in
    AllPairs-cons IsPinBefore (pin 2 0) (pin 3 0 ∷ pin 3 1 ∷ []) behind_y
    (AllPairs-cons IsPinBefore (pin 3 0) (pin 3 1 ∷ []) behind_w (λ i j d before within. absurd (omega arith)))

fanout_of_b : IsFanout hazard 1 on_b
fanout_of_b = record {
  rising = rising_on_b;
  on_line = All-cons OnB (pin 2 0) (pin 3 0 ∷ pin 3 1 ∷ []) (record { in_circuit = lit< tt; reads = refl })
      (All-cons OnB (pin 3 0) (pin 3 1 ∷ []) (record { in_circuit = lit< tt; reads = refl })
      (All-cons OnB (pin 3 1) [] (record { in_circuit = lit< tt; reads = refl }) (All-nil OnB)));
  whole = λ reader on. only_on_b reader.gate.0 reader.pin on.in_circuit on.reads;
}
  where
    OnB : PinRef → Type 0
    OnB reader = IsPinOn hazard reader 1

-- an output that stands twice makes no circuit
no_repeated_output : (c : Circuit) → c.outputs ≡ line 0 ∷ line 0 ∷ [] → ¬ IsCircuit c
no_repeated_output c twice circuit =
    circuit.outputs_once 0 1 (line 0) (lit< tt) (subst (λ (outputs : List LineId). 1 < length outputs) (sym twice) (lit< tt))
    (ap (λ (outputs : List LineId). get_or outputs 0 (line 0)) twice
    ∙ sym (ap (λ (outputs : List LineId). get_or outputs 1 (line 0)) twice))

-- a is in the transitive fan-in of y, by way of n and z; w is not read there
a_feeds_y : IsInFanIn hazard 5 0
a_feeds_y =
    read_by_pin (pin 0 0) 0 (record { in_circuit = lit< tt; reads = refl })
    (read_by_pin (pin 1 1) 3 (record { in_circuit = lit< tt; reads = refl })
    (read_by_pin (pin 2 1) 4 (record { in_circuit = lit< tt; reads = refl }) end_itself))

-- of paths of one length and one source the proper prefix stands first
abbrev free_delays : Delays
free_delays pin = 0

abbrev short_path : Route
short_path = record { source = line 0; steps = pin 0 0 ∷ [] }

abbrev long_path : Route
long_path = record { source = line 0; steps = pin 0 0 ∷ pin 1 1 ∷ [] }

-- no steps stand before none
not_before_none : (steps : List PinRef) → ¬ AreStepsBefore steps []
not_before_none steps before = elim before [ ]

-- and a list that goes on does not stand before its own front
not_behind : (step : PinRef) (steps : List PinRef) → ¬ AreStepsBefore (step ∷ steps) (step ∷ [])
not_behind step steps (lesser_step (lesser_gate less)) = absurd (omega arith)
not_behind step steps (lesser_step (lesser_pin tie less)) = absurd (omega arith)
not_behind step steps (same_step tie later) = not_before_none steps later

prefix_first : IsBefore free_delays short_path long_path
prefix_first = lesser_steps refl refl (same_step refl shorter_list)

prefix_not_last : ¬ IsBefore free_delays long_path short_path
prefix_not_last (longer less) = absurd (omega arith)
prefix_not_last (lesser_source tie less) = absurd (omega arith)
prefix_not_last (lesser_steps tie source steps) = not_behind (pin 0 0) (pin 1 1 ∷ []) steps

-- the wave of a source changes at time 0, and that of n three delay units later under a delay of three
abbrev slow_delays : Delays
slow_delays pin = 3

a_before : wave_of hazard rising slow_delays 0 (negsuc 0) ≡ false
a_before = refl

a_from_0 : wave_of hazard rising slow_delays 0 (pos 0) ≡ true
a_from_0 = refl

n_at_2 : wave_of hazard rising slow_delays 3 (pos 2) ≡ true
n_at_2 = refl

n_at_3 : wave_of hazard rising slow_delays 3 (pos 3) ≡ false
n_at_3 = refl

-- so z shows its hazard for as long
z_at_3 : wave_of hazard rising slow_delays 4 (pos 3) ≡ true
z_at_3 = refl

z_at_6 : wave_of hazard rising slow_delays 4 (pos 6) ≡ false
z_at_6 = refl
