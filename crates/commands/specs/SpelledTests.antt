-- Which tests a text spells, or which line of it is malformed (this project's own).
use Rattle.std.specs.Prelude.{◌≡◌, ℕ, List}
use Rattle.pd_base.specs.declared.test.Test.{Test}
use Rattle.netlist.specs.Circuit.{Circuit}
use Rattle.bench_reader.specs.Circuits.{HasCircuit}
use Rattle.runs.specs.Lawful.{AreLawfulTests}
use Rattle.text_pieces.specs.LineFiles.{IsFirstBadLine}
use Rattle.run_files.specs.TestsText.{tests_form, tests_headings, tests_text}

-- the text is the tests file of these lawful tests of the circuit
pub record SpellsTests (c : Circuit) (text : List ℕ) (tests : List Test) : Type 0 where
  pub lawful : AreLawfulTests c tests
  pub is_text : text ≡ tests_text c tests

-- it is that of no lawful tests, and its line of this number is the first that lacks its form
pub record IsMalformedTests (c : Circuit) (text : List ℕ) (line : ℕ) : Type 0 where
  pub none : (tests : List Test) → ¬ SpellsTests c text tests
  pub first : IsFirstBadLine (tests_form c) 1 (tests_headings c) text line

-- NET has a circuit, of which this text spells no tests, and so its line of this number is told
pub record HasMalformedTests (net text : List ℕ) (line : ℕ) : Type 0 where
  pub circuit : Circuit
  pub has : HasCircuit net circuit
  pub malformed : IsMalformedTests circuit text line
