-- A gate's function of values that may be unknown agrees with its function of Booleans: where the first is known, the
-- second has that value, whatever the unknown inputs are. Steadiness.antt lifts it to circuits and waves.
use Rattle.std.proofs.Common.{◌≡◌, Bool, true, false, not, List, [], ◌∷◌, map, Option, Some, None, option_map, is_some, unwrap_or, if◌then◌else◌, refl, sym, ap, ap₂, ◌∙◌, subst, ⊎_elim}
use Rattle.std.specs.Bool.{⊤}
use Rattle.std.specs.List.{AllZip, list_all, list_any}
use Rattle.std.proofs.lemmas.Bool.{or_cases, and_parts, and_left, and_right, and_from, or_left, or_right, or_from, not-true}
use Rattle.netlist.specs.declared.kind.GateKind.{GateKind}
use Rattle.netlist.specs.declared.kind.GateKind.TheVariants.{And, Nand, Or, Nor, Xor, Xnor, Not, Buff}
use Rattle.netlist.specs.Values.{all_true, any_true, parity, only_value, gate_value}
use Rattle.netlist.specs.Steadiness.{is_known_as, known_all, known_any, known_parity, only_known, known_gate_value}

-- where a value is known, it is this one
abbrev pub Agrees : Option Bool → Bool → Type 0
Agrees None bit = ⊤
Agrees (Some known) bit = bit ≡ known

-- a value that agrees with a known one is it
pub agrees_at : (known : Option Bool) (bit value : Bool) → known ≡ Some bit → Agrees known value → value ≡ bit
agrees_at known bit value e agrees = subst (λ k. Agrees k value) e agrees

-- a value that is known as a bit is that bit
pub known_as : (bit : Bool) (known : Option Bool) (value : Bool) → is_known_as bit known ≡ true
    → Agrees known value → value ≡ bit
known_as bit None value is agrees = absurd cc
known_as true (Some known) value is agrees = agrees ∙ is
known_as false (Some known) value is agrees = agrees ∙ not-true known is

-- of two tests the first that passes decides the value, and what it decides agrees
agrees_if : (first second : Bool) (bit other value : Bool) → (first ≡ true → value ≡ bit)
    → (second ≡ true → value ≡ other)
    → Agrees (if first then Some bit else if second then Some other else None) value
agrees_if true second bit other value decides all = decides refl
agrees_if false true bit other value decides all = all refl
agrees_if false false bit other value decides all = tt

-- one value known to be 0 makes a conjunction 0
all_true-false : (knowns : List (Option Bool)) (values : List Bool)
    → list_any (is_known_as false) knowns ≡ true → AllZip Agrees knowns values → all_true values ≡ false
all_true-false [] values some agree = absurd cc
all_true-false (known ∷ knowns) [] some agree = absurd agree
all_true-false (known ∷ knowns) (value ∷ values) some agree =
    ⊎_elim (λ here. and_left value (all_true values) (known_as false known value here agree.0))
    (λ later. and_right value (all_true values) (all_true-false knowns values later agree.1))
    (or_cases (is_known_as false known) (list_any (is_known_as false) knowns) some)

-- values all known to be 1 make a conjunction 1
all_true-true : (knowns : List (Option Bool)) (values : List Bool) → list_all (is_known_as true) knowns ≡ true
    → AllZip Agrees knowns values → all_true values ≡ true
all_true-true [] [] all agree = refl
all_true-true [] (value ∷ values) all agree = absurd agree
all_true-true (known ∷ knowns) [] all agree = absurd agree
all_true-true (known ∷ knowns) (value ∷ values) all agree =
    let parts = and_parts (is_known_as true known) (list_all (is_known_as true) knowns) all in
    and_from value (all_true values) (known_as true known value parts.0 agree.0)
    (all_true-true knowns values parts.1 agree.1)

-- one value known to be 1 makes a disjunction 1
any_true-true : (knowns : List (Option Bool)) (values : List Bool) → list_any (is_known_as true) knowns ≡ true
    → AllZip Agrees knowns values → any_true values ≡ true
any_true-true [] values some agree = absurd cc
any_true-true (known ∷ knowns) [] some agree = absurd agree
any_true-true (known ∷ knowns) (value ∷ values) some agree =
    ⊎_elim (λ here. or_left value (any_true values) (known_as true known value here agree.0))
    (λ later. or_right value (any_true values) (any_true-true knowns values later agree.1))
    (or_cases (is_known_as true known) (list_any (is_known_as true) knowns) some)

-- values all known to be 0 make a disjunction 0
any_true-false : (knowns : List (Option Bool)) (values : List Bool)
    → list_all (is_known_as false) knowns ≡ true → AllZip Agrees knowns values → any_true values ≡ false
any_true-false [] [] all agree = refl
any_true-false [] (value ∷ values) all agree = absurd agree
any_true-false (known ∷ knowns) [] all agree = absurd agree
any_true-false (known ∷ knowns) (value ∷ values) all agree =
    let parts = and_parts (is_known_as false known) (list_all (is_known_as false) knowns) all in
    or_from value (any_true values) (known_as false known value parts.0 agree.0)
    (any_true-false knowns values parts.1 agree.1)

-- a conjunction has its value where it is known
agrees_all : (knowns : List (Option Bool)) (values : List Bool) → AllZip Agrees knowns values
    → Agrees (known_all knowns) (all_true values)
agrees_all knowns values agree =
    agrees_if (list_any (is_known_as false) knowns) (list_all (is_known_as true) knowns) false true (all_true values)
    (λ some. all_true-false knowns values some agree) (λ all. all_true-true knowns values all agree)

-- a disjunction has its value where it is known
agrees_any : (knowns : List (Option Bool)) (values : List Bool) → AllZip Agrees knowns values
    → Agrees (known_any knowns) (any_true values)
agrees_any knowns values agree =
    agrees_if (list_any (is_known_as true) knowns) (list_all (is_known_as false) knowns) true false (any_true values)
    (λ some. any_true-true knowns values some agree) (λ all. any_true-false knowns values all agree)

-- a value that is known is what is known
known_value : (known : Option Bool) (value : Bool) → is_some known ≡ true → Agrees known value
    → unwrap_or known false ≡ value
known_value None value is agrees = absurd cc
known_value (Some known) value is agrees = sym agrees

-- values that are all known are what is known
known_values : (knowns : List (Option Bool)) (values : List Bool) → list_all is_some knowns ≡ true
    → AllZip Agrees knowns values → map (λ known. unwrap_or known false) knowns ≡ values
known_values [] [] all agree = refl
known_values [] (value ∷ values) all agree = absurd agree
known_values (known ∷ knowns) [] all agree = absurd agree
known_values (known ∷ knowns) (value ∷ values) all agree =
    let parts = and_parts (is_some known) (list_all is_some knowns) all in
    ap₂ (λ x xs. x ∷ xs) (known_value known value parts.0 agree.0) (known_values knowns values parts.1 agree.1)

-- a parity has its value where it is known
agrees_parity : (knowns : List (Option Bool)) (values : List Bool) → AllZip Agrees knowns values
    → Agrees (known_parity knowns) (parity values)
agrees_parity knowns values agree =
    go (list_all is_some knowns) (map (λ known. unwrap_or known false) knowns)
    (λ all. known_values knowns values all agree)
  where
    go : (all : Bool) (bits : List Bool) → (all ≡ true → bits ≡ values)
        → Agrees (if all then Some (parity bits) else None) (parity values)
    go true bits same = ap parity (sym (same refl))
    go false bits same = tt

-- a lone pin has its value where it is known
agrees_only : (knowns : List (Option Bool)) (values : List Bool) → AllZip Agrees knowns values
    → Agrees (only_known knowns) (only_value values)
agrees_only [] values agree = tt
agrees_only (known ∷ knowns) [] agree = absurd agree
agrees_only (known ∷ knowns) (value ∷ values) agree = agree.0

-- a complement agrees where the value does
agrees_not : (known : Option Bool) (value : Bool) → Agrees known value → Agrees (option_map not known) (not value)
agrees_not None value agrees = tt
agrees_not (Some known) value agrees = ap not agrees

-- where a gate's value is known from what is known at its pins, it is that of the values there
pub agrees_gate : (kind : GateKind) (knowns : List (Option Bool)) (values : List Bool)
    → AllZip Agrees knowns values → Agrees (known_gate_value kind knowns) (gate_value kind values)
agrees_gate And knowns values agree = agrees_all knowns values agree
agrees_gate Nand knowns values agree = agrees_not (known_all knowns) (all_true values) (agrees_all knowns values agree)
agrees_gate Or knowns values agree = agrees_any knowns values agree
agrees_gate Nor knowns values agree = agrees_not (known_any knowns) (any_true values) (agrees_any knowns values agree)
agrees_gate Xor knowns values agree = agrees_parity knowns values agree
agrees_gate Xnor knowns values agree = agrees_not (known_parity knowns) (parity values) (agrees_parity knowns values agree)
agrees_gate Not knowns values agree = agrees_not (only_known knowns) (only_value values) (agrees_only knowns values agree)
agrees_gate Buff knowns values agree = agrees_only knowns values agree
