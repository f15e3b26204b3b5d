-- A tests file is read where its headings and then its lines are.
use Rattle.std.proofs.Common.{◌≡◌, ◌≢◌, ℕ, List, Option, Some, None, IfSome, Result, Ok, Err, subst, sym}
use Rattle.std.proofs.lemmas.List.Elements.{recursion_from_All, All-from_recursion}
use Rattle.pd_base.specs.declared.test.Test.{Test}
use Rattle.netlist.specs.Circuit.{Circuit}
use Rattle.runs.specs.Lawful.{AreLawfulTests, IsLawfulTest}
use Rattle.text_pieces.specs.LineFiles.{headed, lines_text, IsFirstBadLine, IsWhole}
use Rattle.text_pieces.specs.Reads.{Reads}
use Rattle.text_pieces.proofs.Headings.{bad_behind, headed_once, headed_reads, no_headed_reads}
use Rattle.run_files.specs.TestsText.{tests_form, tests_headings, tests_text}
use Rattle.run_files.specs.TestsReading.{HeadingsAnswer, TestLinesAnswer, TestsAnswer}
use Rattle.std.specs.Global.{Vec}
use Rattle.run_files.specs.declared.fault.TextFault.{TextFault}
use Rattle.run_files.specs.declared.fault.TextFault.TheVariants.{Malformed, NoMemory}
use Rattle.run_files.proofs.TestLines.{test_lines_once, tests_fit, tests_lawful}

module _ (c : Circuit) where
  -- tests that may stand one behind another are lawful ones
  tests_read : (text : List ℕ) (read : Option (List Test))
      → Reads (λ tests. headed (tests_headings c) (lines_text (tests_form c) 1 tests)) (IsWhole (tests_form c) 1) text read
      → Reads (tests_text c) (AreLawfulTests c) text read
  tests_read text read reads = record {
    found = found read reads.found;
    only = λ tests lawful is.
        reads.only tests (record { each = tests_fit c 1 tests (recursion_from_All (IsLawfulTest c) tests lawful); ends = tt }) is;
  }
    where
      found : (read : Option (List Test)) → IfSome read (λ tests. IsWhole (tests_form c) 1 tests × (text ≡ tests_text c tests))
          → IfSome read (λ tests. AreLawfulTests c tests × (text ≡ tests_text c tests))
      found None h = tt
      found (Some tests) h = (All-from_recursion (IsLawfulTest c) tests (tests_lawful c 1 tests h.0.each), h.1)

  -- where a heading is missing
  no_tests_read : (text : List ℕ) → ((rest : List ℕ) → text ≢ headed (tests_headings c) rest) → Reads (tests_text c) (AreLawfulTests c) text None
  no_tests_read text none = tests_read text None (no_headed_reads (tests_form c) 1 (tests_headings c) text none)

  -- what is answered of the lines behind the headings is answered of the file
  pub file_answer : (text rest : List ℕ) (answer : Result (Vec Test) TextFault) → text ≡ headed (tests_headings c) rest
      → TestLinesAnswer c rest answer → TestsAnswer c text answer
  file_answer text rest (Ok tests) is lines = tests_read text (Some tests.items) (headed_reads (tests_form c) 1 (tests_headings c) text rest (Some tests.items) is lines)
  file_answer text rest (Err (Malformed number)) is lines = (
    tests_read text None (headed_reads (tests_form c) 1 (tests_headings c) text rest None is lines.0),
    subst (λ (n : ℕ). IsFirstBadLine (tests_form c) 1 (tests_headings c) text n) (sym lines.1.1)
        (bad_behind (tests_form c) 1 (tests_headings c) text rest lines.1.0 is lines.1.2),
  )
  file_answer text rest (Err (NoMemory _)) is lines = tt

  -- so is what is answered where a heading is missing
  pub no_headings_answer : (text : List ℕ) (fault : TextFault) → HeadingsAnswer c text (Err fault) → TestsAnswer c text (Err fault)
  no_headings_answer text (Malformed number) headings = (no_tests_read text headings.0, headings.1)
  no_headings_answer text (NoMemory _) headings = tt

  -- two lists of lawful tests with one text are one
  pub tests_once : (tests others : List Test) → AreLawfulTests c tests → AreLawfulTests c others → tests_text c tests ≡ tests_text c others → tests ≡ others
  tests_once tests others lawful lawful' same =
      test_lines_once c tests others (recursion_from_All (IsLawfulTest c) tests lawful) (recursion_from_All (IsLawfulTest c) others lawful')
      (headed_once (tests_headings c) (lines_text (tests_form c) 1 tests) (lines_text (tests_form c) 1 others) same)
