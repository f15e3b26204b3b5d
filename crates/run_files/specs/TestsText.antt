-- The text of the tests file: the names of the sources and of the observed lines, then one line per test (this project's
-- own format). Whoever writes or reads it cites `tests_form`: which test may come next, and its line.
use Rattle.std.specs.Prelude.{⊤, ℕ, ◌+◌, List, [], ◌∷◌, ◌++◌, map, flat_map, codes, decimal}
use Rattle.std.specs.List.{join_with_byte}
use Rattle.pd_base.specs.declared.test.Test.{Test}
use Rattle.netlist.specs.Circuit.{Circuit, observed_lines}
use Rattle.netlist.specs.Names.{name_at}
use Rattle.runs.specs.Lawful.{IsLawfulTest}
use Rattle.text_pieces.specs.Tokens.{after_space, space, direction_word, kind_word, digits}
use Rattle.text_pieces.specs.LineFiles.{Form, headed, lines_text}

-- a word, then the names, each behind a space
abbrev pub names_text : List ℕ → List (List ℕ) → List ℕ
names_text word names = word ++ flat_map after_space names

-- the names of the observed lines, in order
abbrev pub observed_names : Circuit → List (List ℕ)
observed_names c = map (λ observed. name_at c observed.0) (observed_lines c)

-- a test: its number, path, transition, kind, first vector, second vector and the expected bits
abbrev pub test_words : ℕ → Test → List (List ℕ)
test_words number test =
    decimal number ∷ decimal test.path ∷ direction_word test.dir ∷ kind_word test.kind
    ∷ digits test.pair.first ∷ digits test.pair.second ∷ digits test.expected ∷ []

-- these words with single spaces between
abbrev pub test_text : ℕ → Test → List ℕ
test_text number test = join_with_byte space (test_words number test)

-- the tests of this circuit, numbered on from the number of the next; the text may end behind each
abbrev pub tests_form : Circuit → Form ℕ Test
tests_form c = record {
  text_of = test_text;
  Fits = λ number test. IsLawfulTest c test;
  next = λ number test. number + 1;
  Ends = λ number. ⊤;
}

-- the lines in front of the tests
abbrev pub tests_headings : Circuit → List (List ℕ)
tests_headings c =
    codes "pdfgen tests 1" ∷ names_text (codes "sources") c.sources ∷ names_text (codes "observed") (observed_names c) ∷ []

-- the whole file
abbrev pub tests_text : Circuit → List Test → List ℕ
tests_text c tests = headed (tests_headings c) (lines_text (tests_form c) 1 tests)
