-- What two words tell of a line in a lane: its final value, and whether it is steady.
use Rattle.std.proofs.Common.{◌≡◌, ℕ, Bool, true, false, List, [], ◌∷◌, map, Option, Some, None, option_map, is_some, unwrap_or, if◌then◌else◌, refl, ap, ap₂, ◌∙◌, ◌||◌, ◌&&◌}
use Rattle.std.specs.Bool.{beq}
use Rattle.std.specs.List.{list_all, list_any}
use Rattle.std.proofs.lemmas.List.Folds.{list_all-map}
use Rattle.pd_base.specs.Pair.{Vectors}
use Rattle.netlist.specs.Circuit.{Circuit}
use Rattle.netlist.specs.Steadiness.{is_known_as, is_steady, known_all, known_any, known_parity, only_known, steady_value}
use Rattle.netlist.specs.Values.{only_value, parity, value}
use Rattle.path_laws.proofs.Steadiness.{steady_second}
use Rattle.logic_values.proofs.PinTests.{list_any-map}
use Rattle.test_grade.specs.Lines.{known_in}

-- it is known exactly where it is steady
pub is_some-known_in : (final steady : Bool) → is_some (known_in final steady) ≡ steady
is_some-known_in final true = refl
is_some-known_in final false = refl

-- a test that two tests make by turns is passed where one of them is
pub is_some-either : {X : Type 0} (first second : Bool) (a b : X)
    → is_some (if first then Some a else if second then Some b else None) ≡ (first || second)
is_some-either true second a b = refl
is_some-either false true a b = refl
is_some-either false false a b = refl

-- one test
pub is_some-if : {X : Type 0} (test : Bool) (a : X) → is_some (if test then Some a else None) ≡ test
is_some-if true a = refl
is_some-if false a = refl

-- what inverts a value keeps whether it is known
pub is_some-map : {X Y : Type 0} (f : X → Y) (value : Option X) → is_some (option_map f value) ≡ is_some value
is_some-map f None = refl
is_some-map f (Some x) = refl

-- the only pin
pub is_some-only : {X : Type 0} (finals steadies : X → Bool) (pins : List X)
    → is_some (only_known (map (λ pin. known_in (finals pin) (steadies pin)) pins)) ≡ only_value (map steadies pins)
is_some-only finals steadies [] = refl
is_some-only finals steadies (pin ∷ pins) = is_some-known_in (finals pin) (steadies pin)

-- all pins
pub all_known : {X : Type 0} (finals steadies : X → Bool) (pins : List X)
    → list_all (λ pin. is_some (known_in (finals pin) (steadies pin))) pins ≡ list_all steadies pins
all_known finals steadies [] = refl
all_known finals steadies (pin ∷ pins) = ap₂ (λ one rest. one && rest) (is_some-known_in (finals pin) (steadies pin)) (all_known finals steadies pins)

-- a line that is steady is so at its final value
pub steady_known : (c : Circuit) (pair : Vectors) (line : ℕ)
    → known_in (value c pair.second line) (is_steady c pair line) ≡ steady_value c pair line
steady_known c pair line = at (steady_value c pair line) refl
  where
    at : (known : Option Bool) → steady_value c pair line ≡ known
        → known_in (value c pair.second line) (is_some known) ≡ known
    at None e = refl
    at (Some bit) e = ap Some (steady_second c pair line bit e)

-- a source is steady at its second bit where it is the first one too
pub agreed_known : (first second : Bool)
    → known_in second (beq first second) ≡ (if is_known_as first (Some second) then Some second else None)
agreed_known true true = refl
agreed_known true false = refl
agreed_known false true = refl
agreed_known false false = refl

-- in a gate with a controlling value, one pin that is steady there decides, and else all have to be steady at the other one
pub known_and : {X : Type 0} (told : X → Option Bool) (pins : List X)
    → is_some (known_all (map told pins))
    ≡ (list_any (λ pin. is_known_as false (told pin)) pins || list_all (λ pin. is_known_as true (told pin)) pins)
known_and told pins =
    is_some-either (list_any (is_known_as false) (map told pins)) (list_all (is_known_as true) (map told pins)) false true
    ∙ ap₂ (λ some all. some || all) (list_any-map (is_known_as false) told pins) (list_all-map (is_known_as true) told pins)

pub known_or : {X : Type 0} (told : X → Option Bool) (pins : List X)
    → is_some (known_any (map told pins))
    ≡ (list_any (λ pin. is_known_as true (told pin)) pins || list_all (λ pin. is_known_as false (told pin)) pins)
known_or told pins =
    is_some-either (list_any (is_known_as true) (map told pins)) (list_all (is_known_as false) (map told pins)) true false
    ∙ ap₂ (λ some all. some || all) (list_any-map (is_known_as true) told pins) (list_all-map (is_known_as false) told pins)

-- a parity is known where all pins are
pub known_xor : {X : Type 0} (finals steadies : X → Bool) (pins : List X)
    → is_some (known_parity (map (λ pin. known_in (finals pin) (steadies pin)) pins)) ≡ list_all steadies pins
known_xor {X} finals steadies pins =
    let told = λ (pin : X). known_in (finals pin) (steadies pin) in
    is_some-if (list_all is_some (map told pins)) (parity (map (λ value. unwrap_or value false) (map told pins)))
    ∙ list_all-map is_some told pins ∙ all_known finals steadies pins
