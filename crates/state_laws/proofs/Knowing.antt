-- Three-valued evaluation is monotone: where more is known of the sources, what was known of a line stays known, and as it was.
use Rattle.std.proofs.Common.{◌≡◌, ℕ, ◌<◌, Bool, true, false, not, List, [], ◌∷◌, map, Option, Some, None, option_map, is_some, unwrap_or, if◌then◌else◌, IsTrue, refl, sym, ap, ap₂, ◌∙◌, subst, ⊎_elim}
use Rattle.std.specs.Bool.{⊤}
use Rattle.std.specs.List.{AllZip, list_all, list_any}
use Rattle.std.proofs.lemmas.Bool.{or_cases, and_parts, and_from, or_left, or_right, or_from}
use Rattle.pd_base.specs.Pair.{Vectors}
use Rattle.pd_base.specs.declared.ids.LineId.{LineId}
use Rattle.netlist.specs.declared.kind.GateKind.{GateKind}
use Rattle.netlist.specs.declared.kind.GateKind.TheVariants.{And, Nand, Or, Nor, Xor, Xnor, Not, Buff}
use Rattle.netlist.specs.Circuit.{Circuit, source_count, line_count, kind_at, pins_at}
use Rattle.netlist.specs.Lawful.{IsCircuit}
use Rattle.netlist.specs.Values.{parity}
use Rattle.netlist.specs.Steadiness.{agreed_bit, is_known_as, is_steady, known_all, known_any, known_gate_value, known_parity, only_known, steady_value}
use Rattle.path_laws.proofs.RelatedValues.{all_zip-map, values_related}

-- a value that was known is known now, and the same
abbrev pub StaysKnown : Option Bool → Option Bool → Type 0
StaysKnown None now = ⊤
StaysKnown (Some bit) now = now ≡ Some bit

-- what was known as a bit still is
stays_as : (bit : Bool) (known now : Option Bool) → is_known_as bit known ≡ true → StaysKnown known now → is_known_as bit now ≡ true
stays_as bit None now is stays = absurd cc
stays_as bit (Some known) now is stays = ap (is_known_as bit) stays ∙ is

any_stays : (bit : Bool) (knowns nows : List (Option Bool)) → list_any (is_known_as bit) knowns ≡ true
    → AllZip StaysKnown knowns nows → list_any (is_known_as bit) nows ≡ true
any_stays bit [] nows some stays = absurd cc
any_stays bit (known ∷ knowns) [] some stays = absurd stays
any_stays bit (known ∷ knowns) (now ∷ nows) some stays =
    ⊎_elim (λ here. or_left (is_known_as bit now) (list_any (is_known_as bit) nows) (stays_as bit known now here stays.0))
    (λ later. or_right (is_known_as bit now) (list_any (is_known_as bit) nows) (any_stays bit knowns nows later stays.1))
    (or_cases (is_known_as bit known) (list_any (is_known_as bit) knowns) some)

all_stays : (bit : Bool) (knowns nows : List (Option Bool)) → list_all (is_known_as bit) knowns ≡ true
    → AllZip StaysKnown knowns nows → list_all (is_known_as bit) nows ≡ true
all_stays bit [] [] all stays = refl
all_stays bit [] (now ∷ nows) all stays = absurd stays
all_stays bit (known ∷ knowns) [] all stays = absurd stays
all_stays bit (known ∷ knowns) (now ∷ nows) all stays =
    let parts = and_parts (is_known_as bit known) (list_all (is_known_as bit) knowns) all in
    and_from (is_known_as bit now) (list_all (is_known_as bit) nows) (stays_as bit known now parts.0 stays.0)
    (all_stays bit knowns nows parts.1 stays.1)

-- what is known as a bit is not known as the other one
known_as_one : (bit : Bool) (known : Option Bool) → is_known_as bit known ≡ true → is_known_as (not bit) known ≡ false
known_as_one bit None is = refl
known_as_one true (Some true) is = refl
known_as_one true (Some false) is = absurd cc
known_as_one false (Some true) is = absurd cc
known_as_one false (Some false) is = refl

all_as_one : (bit : Bool) (knowns : List (Option Bool)) → list_all (is_known_as bit) knowns ≡ true
    → list_any (is_known_as (not bit)) knowns ≡ false
all_as_one bit [] all = refl
all_as_one bit (known ∷ knowns) all =
    let parts = and_parts (is_known_as bit known) (list_all (is_known_as bit) knowns) all in
    or_from (is_known_as (not bit) known) (list_any (is_known_as (not bit)) knowns) (known_as_one bit known parts.0)
    (all_as_one bit knowns parts.1)

-- of two tests the first that passes decides a value; where it passes still, and the second only where the first does not, the value
-- stays known
stays_if : (first second first_now second_now bit other : Bool) → (first ≡ true → first_now ≡ true)
    → (second ≡ true → first_now ≡ false) → (second ≡ true → second_now ≡ true)
    → StaysKnown (if first then Some bit else if second then Some other else None)
    (if first_now then Some bit else if second_now then Some other else None)
stays_if true second first_now second_now bit other decides apart all =
    ap (λ (b : Bool). if b then Some bit else if second_now then Some other else None) (decides refl)
stays_if false true first_now second_now bit other decides apart all =
    ap₂ (λ (a b : Bool). if a then Some bit else if b then Some other else None) (apart refl) (all refl)
stays_if false false first_now second_now bit other decides apart all = tt

stays_all : (knowns nows : List (Option Bool)) → AllZip StaysKnown knowns nows → StaysKnown (known_all knowns) (known_all nows)
stays_all knowns nows stays =
    stays_if (list_any (is_known_as false) knowns) (list_all (is_known_as true) knowns)
    (list_any (is_known_as false) nows) (list_all (is_known_as true) nows) false true
    (λ some. any_stays false knowns nows some stays)
    (λ all. all_as_one true nows (all_stays true knowns nows all stays))
    (λ all. all_stays true knowns nows all stays)

stays_any : (knowns nows : List (Option Bool)) → AllZip StaysKnown knowns nows → StaysKnown (known_any knowns) (known_any nows)
stays_any knowns nows stays =
    stays_if (list_any (is_known_as true) knowns) (list_all (is_known_as false) knowns)
    (list_any (is_known_as true) nows) (list_all (is_known_as false) nows) true false
    (λ some. any_stays true knowns nows some stays)
    (λ all. all_as_one false nows (all_stays false knowns nows all stays))
    (λ all. all_stays false knowns nows all stays)

-- values that were all known are the same now
all_the_same : (knowns nows : List (Option Bool)) → list_all is_some knowns ≡ true → AllZip StaysKnown knowns nows → nows ≡ knowns
all_the_same [] [] all stays = refl
all_the_same [] (now ∷ nows) all stays = absurd stays
all_the_same (known ∷ knowns) [] all stays = absurd stays
all_the_same (None ∷ knowns) (now ∷ nows) all stays = absurd cc
all_the_same (Some known ∷ knowns) (now ∷ nows) all stays =
    let parts = and_parts true (list_all is_some knowns) all in
    ap₂ (λ (x : Option Bool) (xs : List (Option Bool)). x ∷ xs) stays.0 (all_the_same knowns nows parts.1 stays.1)

stays_parity : (knowns nows : List (Option Bool)) → AllZip StaysKnown knowns nows
    → StaysKnown (known_parity knowns) (known_parity nows)
stays_parity knowns nows stays = by (list_all is_some knowns) (parity (map (λ value. unwrap_or value false) knowns)) refl refl
  where
    by : (all bits : Bool) → list_all is_some knowns ≡ all → parity (map (λ value. unwrap_or value false) knowns) ≡ bits
        → StaysKnown (if all then Some bits else None) (known_parity nows)
    by true bits all same =
        ap known_parity (all_the_same knowns nows all stays)
        ∙ ap₂ (λ (b p : Bool). if b then Some p else None) all same
    by false bits all same = tt

stays_only : (knowns nows : List (Option Bool)) → AllZip StaysKnown knowns nows → StaysKnown (only_known knowns) (only_known nows)
stays_only [] nows stays = tt
stays_only (known ∷ knowns) [] stays = absurd stays
stays_only (known ∷ knowns) (now ∷ nows) stays = stays.0

stays_not : (known now : Option Bool) → StaysKnown known now → StaysKnown (option_map not known) (option_map not now)
stays_not None now stays = tt
stays_not (Some known) now stays = ap (option_map not) stays

-- a gate's value stays known where what is known at its pins does
stays_gate : (kind : GateKind) (knowns nows : List (Option Bool)) → AllZip StaysKnown knowns nows
    → StaysKnown (known_gate_value kind knowns) (known_gate_value kind nows)
stays_gate And knowns nows stays = stays_all knowns nows stays
stays_gate Nand knowns nows stays = stays_not (known_all knowns) (known_all nows) (stays_all knowns nows stays)
stays_gate Or knowns nows stays = stays_any knowns nows stays
stays_gate Nor knowns nows stays = stays_not (known_any knowns) (known_any nows) (stays_any knowns nows stays)
stays_gate Xor knowns nows stays = stays_parity knowns nows stays
stays_gate Xnor knowns nows stays = stays_not (known_parity knowns) (known_parity nows) (stays_parity knowns nows stays)
stays_gate Not knowns nows stays = stays_not (only_known knowns) (only_known nows) (stays_only knowns nows stays)
stays_gate Buff knowns nows stays = stays_only knowns nows stays

known_stays_some : (known now : Option Bool) → StaysKnown known now → IsTrue (is_some known) → IsTrue (is_some now)
known_stays_some None now stays is = absurd cc
known_stays_some (Some known) now stays is = let P : Option Bool → Type 0 = λ o. IsTrue (is_some o) in subst P (sym stays) is

module _ (c : Circuit) (circuit : IsCircuit c) (pair now : Vectors)
    (sources : (source : ℕ) → source < source_count c → StaysKnown (agreed_bit pair source) (agreed_bit now source)) where
  -- where the bits on which the vectors agree stay, each line that is steady stays so at its value
  pub steady_value_stays : (line : ℕ) → line < line_count c → StaysKnown (steady_value c pair line) (steady_value c now line)
  steady_value_stays =
      let step = λ (gate : ℕ) (values : List (Option Bool)). known_gate_value (kind_at c gate) values in
      values_related c (agreed_bit pair) step (agreed_bit now) step circuit.reads_lines circuit.loop_free
      (λ line known later. StaysKnown known later) sources
      (λ gate value other within pins.
      stays_gate (kind_at c gate) _ _
      (all_zip-map StaysKnown (λ (pin : LineId). value pin.0) (λ (pin : LineId). other pin.0) (pins_at c gate) pins))

  pub steady_stays : (line : ℕ) → line < line_count c → IsTrue (is_steady c pair line) → IsTrue (is_steady c now line)
  steady_stays line within is =
      known_stays_some (steady_value c pair line) (steady_value c now line) (steady_value_stays line within) is
