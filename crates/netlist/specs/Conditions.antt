-- When a pair of vectors is a test for a path. Robust conditions of AND, NAND, OR, NOR, NOT and BUFF: Lin and Reddy 1987;
-- those of XOR and XNOR are this project's own.
use Rattle.std.specs.Prelude.{◌≡◌, ⊤, ℕ, Bool, true, false, not, List, [], ◌∷◌, IsTrue}
use Rattle.pd_base.specs.declared.ids.LineId.{LineId}
use Rattle.pd_base.specs.declared.ids.PinRef.{PinRef}
use Rattle.pd_base.specs.declared.fault.Direction.{Direction}
use Rattle.pd_base.specs.declared.fault.Direction.TheVariants.{Rise, Fall}
use Rattle.pd_base.specs.declared.fault.Kind.{Kind}
use Rattle.pd_base.specs.declared.fault.Kind.TheVariants.{Robust, Nonrobust}
use Rattle.pd_base.specs.Pair.{Vectors}
use Rattle.pd_base.specs.Target.{Target}
use Rattle.netlist.specs.declared.kind.GateKind.{GateKind}
use Rattle.netlist.specs.declared.kind.GateKind.TheVariants.{And, Nand, Or, Nor, Xor, Xnor, Not, Buff}
use Rattle.netlist.specs.declared.side_conditions.SideCondition.{SideCondition}
use Rattle.netlist.specs.declared.side_conditions.SideCondition.TheVariants.{Free, EndsAt, SteadyAt, AnySteady}
use Rattle.netlist.specs.Circuit.{Circuit, kind_at, gate_line}
use Rattle.netlist.specs.Values.{value, bit_of}
use Rattle.netlist.specs.Steadiness.{is_steady}
use Rattle.netlist.specs.Paths.{IsSide}

-- The table of conditions: what a test of this kind asks of each side pin of a gate, where the on-path input has this value
-- under the second vector. The controlling value of AND and NAND is 0, that of OR and NOR is 1.
abbrev pub side_condition : Kind → GateKind → Bool → SideCondition
side_condition Robust And false = SteadyAt true
side_condition Robust And true = EndsAt true
side_condition Robust Nand false = SteadyAt true
side_condition Robust Nand true = EndsAt true
side_condition Robust Or true = SteadyAt false
side_condition Robust Or false = EndsAt false
side_condition Robust Nor true = SteadyAt false
side_condition Robust Nor false = EndsAt false
side_condition Robust Xor on_path = AnySteady
side_condition Robust Xnor on_path = AnySteady
side_condition Robust Not on_path = Free
side_condition Robust Buff on_path = Free
side_condition Nonrobust And on_path = EndsAt true
side_condition Nonrobust Nand on_path = EndsAt true
side_condition Nonrobust Or on_path = EndsAt false
side_condition Nonrobust Nor on_path = EndsAt false
side_condition Nonrobust Xor on_path = Free
side_condition Nonrobust Xnor on_path = Free
side_condition Nonrobust Not on_path = Free
side_condition Nonrobust Buff on_path = Free

-- the condition allows a side pin whose line has this value under the second vector, and is or is not steady
abbrev pub Allows : SideCondition → Bool → Bool → Type 0
Allows Free final steady = ⊤
Allows (EndsAt bit) final steady = final ≡ bit
Allows (SteadyAt bit) final steady = (final ≡ bit) × IsTrue steady
Allows AnySteady final steady = IsTrue steady

-- each side pin of the step is allowed by the table, where this line is the on-path input
abbrev pub SidesAllowed : Circuit → Kind → Vectors → ℕ → PinRef → Type 0
SidesAllowed c kind pair line step =
    (pin : ℕ) (side : LineId) → IsSide c step pin side
    → Allows (side_condition kind (kind_at c step.gate.0) (value c pair.second line))
    (value c pair.second side.0) (is_steady c pair side.0)

-- the side pins of all steps are, the first step's on-path input being this line
abbrev pub SidesMeet : Circuit → Kind → Vectors → ℕ → List PinRef → Type 0
SidesMeet c kind pair line [] = ⊤
SidesMeet c kind pair line (step ∷ steps) =
    SidesAllowed c kind pair line step × SidesMeet c kind pair (gate_line c step.gate.0) steps

-- the value that a source has after its transition
abbrev pub final_bit : Direction → Bool
final_bit Rise = true
final_bit Fall = false

-- the transition is launched at the source: its bits differ, and the second is that of the direction
pub record Launches (pair : Vectors) (direction : Direction) (source : ℕ) : Type 0 where
  pub first : bit_of pair.first source ≡ not (final_bit direction)
  pub second : bit_of pair.second source ≡ final_bit direction

-- the pair is a test for the target: of its kind, for its path or prefix, and its transition
pub record Meets (c : Circuit) (target : Target) (pair : Vectors) : Type 0 where
  pub launches : Launches pair target.direction target.path.source.0
  pub sides : SidesMeet c target.kind pair target.path.source.0 target.path.steps
