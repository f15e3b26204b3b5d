-- How much text a call may lead to: two products of the number of paths that it asks for and of what the circuit has, which
-- stand for the texts of the paths and of the tests before any path is known (this project's own).
use Rattle.std.specs.Prelude.{◌≡◌, ℕ, ◌+◌, ◌*◌, ◌<◌, ◌≤◌, length}
use Rattle.netlist.specs.Circuit.{Circuit, source_count, observed_lines}
use Rattle.netlist.specs.Levels.{greatest_level}
use Rattle.netlist.specs.Names.{longest_name}
use Rattle.calls.specs.declared.ending.Ending.{Ending}
use Rattle.calls.specs.declared.ending.Ending.TheVariants.{Refused}
use Rattle.commands.specs.InputRefusals.{long_path_text, long_test_text}
use Rattle.commands.specs.declared.inputs.sizes.TheConstants.{MOST_PATH_TEXT, MOST_TEST_TEXT, STEP_BYTES}

-- the texts of the paths: a path passes at most one gate of each level, and each is told by its name, its pin and two signs
abbrev pub path_text_product : ℕ → Circuit → ℕ
path_text_product paths c = paths * (greatest_level c + 1) * (longest_name c + STEP_BYTES)

-- the texts of the tests: a vector has a bit per source, and the expected bits are those of the observed lines
abbrev pub test_text_product : ℕ → Circuit → ℕ
test_text_product paths c = paths * (source_count c + length (observed_lines c))

-- both products are within their limits
pub record HasShortTexts (paths : ℕ) (c : Circuit) : Type 0 where
  pub path_text : path_text_product paths c ≤ MOST_PATH_TEXT
  pub test_text : test_text_product paths c ≤ MOST_TEST_TEXT

-- the first one that is over its limit is told
pub data HasLongTexts (paths : ℕ) (c : Circuit) (ending : Ending) : Type 0 where
  long_paths : MOST_PATH_TEXT < path_text_product paths c → ending ≡ Refused (long_path_text (path_text_product paths c))
      → HasLongTexts paths c ending
  long_tests : path_text_product paths c ≤ MOST_PATH_TEXT → MOST_TEST_TEXT < test_text_product paths c
      → ending ≡ Refused (long_test_text (test_text_product paths c)) → HasLongTexts paths c ending
