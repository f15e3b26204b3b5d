-- A gate changes with its on-path pin where its other pins are held as a test asks: lists of pin values that differ at that
-- one pin, and the gate's function of them. RobustPath.antt and NonrobustPath.antt take it along a path.
use Rattle.std.proofs.Common.{◌≡◌, ℕ, zero, suc, Bool, true, false, not, List, [], ◌∷◌, length, cond, refl, sym, ap, ap₂, ◌∙◌, arith}
use Rattle.std.specs.Bool.{⊤}
use Rattle.std.specs.List.{AllZip}
use Rattle.std.proofs.Math.Bool.{not-not}
use Rattle.std.proofs.lemmas.Bool.{and_left, and_right, and_from, or_left, or_right, or_from}
use Rattle.pd_base.specs.declared.fault.Kind.TheVariants.{Robust}
use Rattle.netlist.specs.declared.kind.GateKind.{GateKind}
use Rattle.netlist.specs.declared.kind.GateKind.TheVariants.{And, Nand, Or, Nor, Xor, Xnor, Not, Buff}
use Rattle.netlist.specs.Lawful.{IsFanIn}
use Rattle.netlist.specs.Values.{all_true, any_true, parity, only_value, gate_value}
use Rattle.netlist.specs.declared.side_conditions.SideCondition.{SideCondition}
use Rattle.netlist.specs.Conditions.{side_condition}
use Rattle.netlist.specs.declared.side_conditions.SideCondition.TheVariants.{Free, EndsAt, SteadyAt, AnySteady}

-- One of two values of a side pin, and its final value, are held where this is asked: a value that is asked for is the final
-- one, and a steady side has it as the other value too.
abbrev pub Held : SideCondition → Bool → Bool → Type 0
Held Free side last = ⊤
Held (EndsAt bit) side last = last ≡ bit
Held (SteadyAt bit) side last = (side ≡ bit) × (last ≡ bit)
Held AnySteady side last = side ≡ last

-- they are held at a gate of this kind as a robust test asks, where the on-path input has this final value
abbrev pub IsHeld : GateKind → Bool → Bool → Bool → Type 0
IsHeld kind final side last = Held (side_condition Robust kind final) side last

-- Two lists of a gate's pin values: at one pin the second has the final value and the first the other, and all other
-- pins are held.
abbrev pub DifferAt : (Bool → Bool → Type 0) → Bool → ℕ → List Bool → List Bool → Type 0
DifferAt Held final pin [] lasts = ⊥
DifferAt Held final pin (value ∷ values) [] = ⊥
DifferAt Held final zero (value ∷ values) (last ∷ lasts) = (value ≡ not final) × (last ≡ final) × AllZip Held values lasts
DifferAt Held final (suc pin) (value ∷ values) (last ∷ lasts) = Held value last × DifferAt Held final pin values lasts

-- where all final values are 1, so is their conjunction
lasts_true : (values lasts : List Bool) → AllZip (λ side last. last ≡ true) values lasts → all_true lasts ≡ true
lasts_true [] [] held = refl
lasts_true [] (last ∷ lasts) held = absurd held
lasts_true (value ∷ values) [] held = absurd held
lasts_true (value ∷ values) (last ∷ lasts) held = and_from last (all_true lasts) held.0 (lasts_true values lasts held.1)

-- where all values are 1, so is their conjunction
both_true : (values lasts : List Bool) → AllZip (λ side last. (side ≡ true) × (last ≡ true)) values lasts
    → all_true values ≡ true
both_true [] [] held = refl
both_true [] (last ∷ lasts) held = absurd held
both_true (value ∷ values) [] held = absurd held
both_true (value ∷ values) (last ∷ lasts) held = and_from value (all_true values) held.0.0 (both_true values lasts held.1)

-- where all final values are 0, so is their disjunction
lasts_false : (values lasts : List Bool) → AllZip (λ side last. last ≡ false) values lasts → any_true lasts ≡ false
lasts_false [] [] held = refl
lasts_false [] (last ∷ lasts) held = absurd held
lasts_false (value ∷ values) [] held = absurd held
lasts_false (value ∷ values) (last ∷ lasts) held = or_from last (any_true lasts) held.0 (lasts_false values lasts held.1)

-- where all values are 0, so is their disjunction
both_false : (values lasts : List Bool) → AllZip (λ side last. (side ≡ false) × (last ≡ false)) values lasts
    → any_true values ≡ false
both_false [] [] held = refl
both_false [] (last ∷ lasts) held = absurd held
both_false (value ∷ values) [] held = absurd held
both_false (value ∷ values) (last ∷ lasts) held = or_from value (any_true values) held.0.0 (both_false values lasts held.1)

-- values that are the final ones have the final parity
parity_same : (values lasts : List Bool) → AllZip (λ side last. side ≡ last) values lasts → parity values ≡ parity lasts
parity_same [] [] held = refl
parity_same [] (last ∷ lasts) held = absurd held
parity_same (value ∷ values) [] held = absurd held
parity_same (value ∷ values) (last ∷ lasts) held =
    ap₂ (λ bit rest. cond bit (not rest) rest) held.0 (parity_same values lasts held.1)

-- a conjunction rises with its on-path pin where the other pins end at 1
and_rises : (pin : ℕ) (values lasts : List Bool) → DifferAt (λ side last. last ≡ true) true pin values lasts
    → (all_true values ≡ false) × (all_true lasts ≡ true)
and_rises pin [] lasts differ = absurd differ
and_rises pin (value ∷ values) [] differ = absurd differ
and_rises zero (value ∷ values) (last ∷ lasts) differ =
    (and_left value (all_true values) differ.0, and_from last (all_true lasts) differ.1 (lasts_true values lasts differ.2))
and_rises (suc pin) (value ∷ values) (last ∷ lasts) differ =
    let later = and_rises pin values lasts differ.1 in
    (and_right value (all_true values) later.0, and_from last (all_true lasts) differ.0 later.1)

-- a conjunction falls with its on-path pin where the other pins are at 1
and_falls : (pin : ℕ) (values lasts : List Bool)
    → DifferAt (λ side last. (side ≡ true) × (last ≡ true)) false pin values lasts
    → (all_true values ≡ true) × (all_true lasts ≡ false)
and_falls pin [] lasts differ = absurd differ
and_falls pin (value ∷ values) [] differ = absurd differ
and_falls zero (value ∷ values) (last ∷ lasts) differ =
    (and_from value (all_true values) differ.0 (both_true values lasts differ.2), and_left last (all_true lasts) differ.1)
and_falls (suc pin) (value ∷ values) (last ∷ lasts) differ =
    let later = and_falls pin values lasts differ.1 in
    (and_from value (all_true values) differ.0.0 later.0, and_right last (all_true lasts) later.1)

-- a disjunction falls with its on-path pin where the other pins end at 0
or_falls : (pin : ℕ) (values lasts : List Bool) → DifferAt (λ side last. last ≡ false) false pin values lasts
    → (any_true values ≡ true) × (any_true lasts ≡ false)
or_falls pin [] lasts differ = absurd differ
or_falls pin (value ∷ values) [] differ = absurd differ
or_falls zero (value ∷ values) (last ∷ lasts) differ =
    (or_left value (any_true values) differ.0, or_from last (any_true lasts) differ.1 (lasts_false values lasts differ.2))
or_falls (suc pin) (value ∷ values) (last ∷ lasts) differ =
    let later = or_falls pin values lasts differ.1 in
    (or_right value (any_true values) later.0, or_from last (any_true lasts) differ.0 later.1)

-- a disjunction rises with its on-path pin where the other pins are at 0
or_rises : (pin : ℕ) (values lasts : List Bool)
    → DifferAt (λ side last. (side ≡ false) × (last ≡ false)) true pin values lasts
    → (any_true values ≡ false) × (any_true lasts ≡ true)
or_rises pin [] lasts differ = absurd differ
or_rises pin (value ∷ values) [] differ = absurd differ
or_rises zero (value ∷ values) (last ∷ lasts) differ =
    (or_from value (any_true values) differ.0 (both_false values lasts differ.2), or_left last (any_true lasts) differ.1)
or_rises (suc pin) (value ∷ values) (last ∷ lasts) differ =
    let later = or_rises pin values lasts differ.1 in
    (or_from value (any_true values) differ.0.0 later.0, or_right last (any_true lasts) later.1)

-- a parity changes with one value where the others keep theirs
differ_here : (value last rest lasts : Bool) → value ≡ not last → rest ≡ lasts
    → cond value (not rest) rest ≡ not (cond last (not lasts) lasts)
differ_here true true rest lasts differ same = absurd cc
differ_here true false rest lasts differ same = ap not same
differ_here false true rest lasts differ same = same ∙ sym (not-not lasts)
differ_here false false rest lasts differ same = absurd cc

-- a parity changes with that of the others where the one value stays
differ_later : (value last rest lasts : Bool) → value ≡ last → rest ≡ not lasts
    → cond value (not rest) rest ≡ not (cond last (not lasts) lasts)
differ_later true true rest lasts same differ = ap not differ
differ_later true false rest lasts same differ = absurd cc
differ_later false true rest lasts same differ = absurd cc
differ_later false false rest lasts same differ = differ

-- a parity changes with the on-path pin where the other pins keep their values
parity_differs : (final : Bool) (pin : ℕ) (values lasts : List Bool)
    → DifferAt (λ side last. side ≡ last) final pin values lasts → parity values ≡ not (parity lasts)
parity_differs final pin [] lasts differ = absurd differ
parity_differs final pin (value ∷ values) [] differ = absurd differ
parity_differs final zero (value ∷ values) (last ∷ lasts) differ =
    differ_here value last (parity values) (parity lasts) (differ.0 ∙ ap not (sym differ.1))
    (parity_same values lasts differ.2)
parity_differs final (suc pin) (value ∷ values) (last ∷ lasts) differ =
    differ_later value last (parity values) (parity lasts) differ.0 (parity_differs final pin values lasts differ.1)

-- a lone pin is the on-path pin, so its value changes
only_differs : (Held : Bool → Bool → Type 0) (final : Bool) (pin : ℕ) (values lasts : List Bool)
    → length lasts ≡ 1 → DifferAt Held final pin values lasts → only_value values ≡ not (only_value lasts)
only_differs Held final pin [] lasts one differ = absurd differ
only_differs Held final pin (value ∷ values) [] one differ = absurd differ
only_differs Held final zero (value ∷ values) (last ∷ lasts) one differ = differ.0 ∙ ap not (sym differ.1)
only_differs Held final (suc pin) (value ∷ []) (last ∷ lasts) one differ = absurd differ.1
only_differs Held final (suc pin) (value ∷ other ∷ values) (last ∷ []) one differ = absurd differ.1
only_differs Held final (suc pin) (value ∷ other ∷ values) (last ∷ another ∷ lasts) one differ = absurd (omega arith)

-- where one value is a bit and the other its complement, each is the other's complement
opposite : (bit x y : Bool) → x ≡ not bit → y ≡ bit → x ≡ not y
opposite bit x y other same = other ∙ ap not (sym same)

-- a conjunction changes with its on-path pin, which rises
and_up : (pin : ℕ) (values lasts : List Bool) → DifferAt (Held (EndsAt true)) true pin values lasts
    → all_true values ≡ not (all_true lasts)
and_up pin values lasts differ =
    let both = and_rises pin values lasts differ in
    opposite true (all_true values) (all_true lasts) both.0 both.1

-- or falls
and_down : (pin : ℕ) (values lasts : List Bool) → DifferAt (Held (SteadyAt true)) false pin values lasts
    → all_true values ≡ not (all_true lasts)
and_down pin values lasts differ =
    let both = and_falls pin values lasts differ in
    opposite false (all_true values) (all_true lasts) both.0 both.1

-- a disjunction changes with its on-path pin, which rises
or_up : (pin : ℕ) (values lasts : List Bool) → DifferAt (Held (SteadyAt false)) true pin values lasts
    → any_true values ≡ not (any_true lasts)
or_up pin values lasts differ =
    let both = or_rises pin values lasts differ in
    opposite true (any_true values) (any_true lasts) both.0 both.1

-- or falls
or_down : (pin : ℕ) (values lasts : List Bool) → DifferAt (Held (EndsAt false)) false pin values lasts
    → any_true values ≡ not (any_true lasts)
or_down pin values lasts differ =
    let both = or_falls pin values lasts differ in
    opposite false (any_true values) (any_true lasts) both.0 both.1

-- where two lists differ at the on-path pin and the other pins are held, the gate's values differ
pub gate_differs : (kind : GateKind) (final : Bool) (pin : ℕ) (values lasts : List Bool)
    → IsFanIn kind (length lasts) → DifferAt (IsHeld kind final) final pin values lasts
    → gate_value kind values ≡ not (gate_value kind lasts)
gate_differs And true pin values lasts fan_in differ = and_up pin values lasts differ
gate_differs And false pin values lasts fan_in differ = and_down pin values lasts differ
gate_differs Nand true pin values lasts fan_in differ = ap not (and_up pin values lasts differ)
gate_differs Nand false pin values lasts fan_in differ = ap not (and_down pin values lasts differ)
gate_differs Or true pin values lasts fan_in differ = or_up pin values lasts differ
gate_differs Or false pin values lasts fan_in differ = or_down pin values lasts differ
gate_differs Nor true pin values lasts fan_in differ = ap not (or_up pin values lasts differ)
gate_differs Nor false pin values lasts fan_in differ = ap not (or_down pin values lasts differ)
gate_differs Xor final pin values lasts fan_in differ = parity_differs final pin values lasts differ
gate_differs Xnor final pin values lasts fan_in differ = ap not (parity_differs final pin values lasts differ)
gate_differs Not final pin values lasts fan_in differ =
    ap not (only_differs (IsHeld Not final) final pin values lasts fan_in differ)
gate_differs Buff final pin values lasts fan_in differ =
    only_differs (IsHeld Buff final) final pin values lasts fan_in differ
