-- A tests file that was written by hand, as a guard of the definition of its text.
use Rattle.std.proofs.Common.{◌≡◌, true, false, [], ◌∷◌, codes, refl, lit<}
use Rattle.std.proofs.lemmas.Fmt.{decimal_digit}
use Rattle.pd_base.specs.declared.test.Test.{Test}
use Rattle.pd_base.specs.declared.fault.Direction.TheVariants.{Rise, Fall}
use Rattle.pd_base.specs.declared.fault.Kind.TheVariants.{Robust, Nonrobust}
use Rattle.netlist.specs.declared.kind.GateKind.TheVariants.{Not}
use Rattle.netlist.specs.Circuit.{Circuit}
use Rattle.run_files.specs.TestsText.{tests_text}

-- inputs a and b, and an inverter n of a; the outputs are n and b
abbrev circuit : Circuit
circuit = record {
  sources = codes "a" ∷ codes "b" ∷ [];
  gates = record { name = codes "n"; kind = Not; pins = (record { 0 = 0 }) ∷ [] } ∷ [];
  outputs = (record { 0 = 2 }) ∷ (record { 0 = 1 }) ∷ [];
  flops = [];
}

-- a robust test of path 1, and a nonrobust one of path 9
abbrev rising : Test
rising = record {
  path = 1;
  dir = Rise;
  kind = Robust;
  pair = record { first = false ∷ false ∷ []; second = true ∷ false ∷ [] };
  expected = false ∷ false ∷ [];
}

abbrev falling : Test
falling = record {
  path = 9;
  dir = Fall;
  kind = Nonrobust;
  pair = record { first = true ∷ true ∷ []; second = false ∷ true ∷ [] };
  expected = true ∷ true ∷ [];
}

two_tests : tests_text circuit (rising ∷ falling ∷ [])
    ≡ codes "pdfgen tests 1\nsources a b\nobserved n b\n1 1 rise robust 00 10 00\n2 9 fall nonrobust 11 01 11\n"
two_tests = rw (decimal_digit 1 (lit< tt), decimal_digit 2 (lit< tt), decimal_digit 9 (lit< tt)) refl
