-- Values of a small circuit that were worked out by hand, as a guard of the definitions.
use Rattle.std.proofs.Common.{◌≡◌, [], ◌∷◌, refl}
use Rattle.netlist.specs.declared.kind.GateKind.TheVariants.{And, Xor, Xnor, Nand, Nor}
use Rattle.netlist.specs.Circuit.{Circuit}
use Rattle.five_valued.specs.declared.five.Five.TheVariants.{S0, S1, U0, U1, XX}
use Rattle.five_valued.specs.FiveValues.{gate_five, five_value}

-- Inputs a, b and c, and the gates x = XOR(a, b) and y = AND(x, c). The lines are 0 to 2 for the inputs, 3 for x and 4 for y.
abbrev xor_and : Circuit
xor_and = record {
  sources = (97 ∷ []) ∷ (98 ∷ []) ∷ (99 ∷ []) ∷ [];
  gates = record { name = 120 ∷ []; kind = Xor; pins = record { 0 = 0 } ∷ record { 0 = 1 } ∷ [] }
      ∷ record { name = 121 ∷ []; kind = And; pins = record { 0 = 3 } ∷ record { 0 = 2 } ∷ [] } ∷ [];
  outputs = record { 0 = 4 } ∷ [];
  flops = [];
}

x_ends_at_one : five_value xor_and (U1 ∷ S0 ∷ XX ∷ []) 3 ≡ U1
x_ends_at_one = refl

y_is_open : five_value xor_and (U1 ∷ S0 ∷ XX ∷ []) 4 ≡ XX
y_is_open = refl

y_is_held : five_value xor_and (U1 ∷ S0 ∷ S0 ∷ []) 4 ≡ S0
y_is_held = refl

x_is_steady : five_value xor_and (S1 ∷ S1 ∷ XX ∷ []) 3 ≡ S0
x_is_steady = refl

-- a pin that ends at 0 leaves an AND open to a pulse, and one that is steady at 0 does not
and_of_an_end : gate_five And (U0 ∷ XX ∷ []) ≡ U0
and_of_an_end = refl

and_of_a_steady_end : gate_five And (XX ∷ U0 ∷ S0 ∷ []) ≡ S0
and_of_a_steady_end = refl

nand_of_ends : gate_five Nand (S1 ∷ U1 ∷ []) ≡ U0
nand_of_ends = refl

nor_of_one_end : gate_five Nor (XX ∷ U1 ∷ S0 ∷ []) ≡ U0
nor_of_one_end = refl

xnor_of_three : gate_five Xnor (S1 ∷ U1 ∷ U1 ∷ []) ≡ U0
xnor_of_three = refl

xor_of_unknown_pins : gate_five Xor (XX ∷ XX ∷ []) ≡ XX
xor_of_unknown_pins = refl
