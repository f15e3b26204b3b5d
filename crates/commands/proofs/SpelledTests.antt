-- What is read of a tests file is what it spells, or its first line is told that lacks its form.
use Rattle.std.proofs.Common.{◌≡◌, ℕ, List, None, Some, Result, Err, subst}
use Rattle.std.specs.Global.{Vec}
use Rattle.pd_base.specs.declared.test.Test.{Test}
use Rattle.netlist.specs.Circuit.{Circuit}
use Rattle.runs.specs.Lawful.{AreLawfulTests}
use Rattle.text_pieces.specs.Reads.{Reads}
use Rattle.run_files.specs.TestsReading.{TestsAnswer}
use Rattle.run_files.specs.TestsText.{tests_text}
use Rattle.run_files.specs.declared.fault.TextFault.{TextFault}
use Rattle.run_files.specs.declared.fault.TextFault.TheVariants.{Malformed}
use Rattle.commands.specs.SpelledTests.{IsMalformedTests, SpellsTests}

module _ (c : Circuit) (text : List ℕ) where
  pub spells_tests : (tests : List Test) → Reads (tests_text c) (AreLawfulTests c) text (Some tests) → SpellsTests c text tests
  spells_tests tests read = record { lawful = read.found.0; is_text = read.found.1 }

  pub malformed_tests : (result : Result (Vec Test) TextFault) (line : ℕ) → result ≡ Err (Malformed line) → TestsAnswer c text result
      → IsMalformedTests c text line
  malformed_tests result line is answer =
      let told = subst (TestsAnswer c text) is answer in
      record {
        none = λ tests spells. let never : None ≡ Some tests = told.0.only tests spells.lawful spells.is_text in absurd cc;
        first = told.1;
      }
