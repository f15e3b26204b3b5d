-- What is read of a tests file (this project's own format).
use Rattle.std.specs.Prelude.{◌≡◌, ◌≢◌, ⊤, ℕ, ◌+◌, List, [], ◌∷◌, decimal, Option, Some, None, Result, Ok, Err}
use Rattle.std.specs.Borrow.{Bor}
use Rattle.std.specs.Global.{Vec}
use Rattle.pd_base.specs.declared.fault.Direction.{Direction}
use Rattle.pd_base.specs.declared.fault.Kind.{Kind}
use Rattle.pd_base.specs.declared.test.Test.{Test}
use Rattle.netlist.specs.Circuit.{Circuit}
use Rattle.runs.specs.Lawful.{AreLawfulTests, IsPathNumber}
use Rattle.text_pieces.specs.Tokens.{direction_word, kind_word}
use Rattle.text_pieces.specs.LineFiles.{headed, lines_text, IsFirstBadLine, IsWhole, LacksForm}
use Rattle.text_pieces.specs.Cuts.{words_left}
use Rattle.text_pieces.specs.Reads.{Reads}
use Rattle.run_files.specs.TestsText.{tests_form, tests_headings, tests_text}
use Rattle.run_files.specs.declared.test_line.TestHead.{TestHead}
use Rattle.run_files.specs.declared.fault.TextFault.{TextFault}
use Rattle.run_files.specs.declared.fault.TextFault.TheVariants.{Malformed, NoMemory}

-- What a reader of tests files answers of a text: the lawful tests whose file it is; or, where it is that of no lawful tests, the
-- first line that lacks its form; or that memory ran out.
abbrev pub TestsAnswer : Circuit → List ℕ → Result (Vec Test) TextFault → Type 0
TestsAnswer c text (Ok tests) = Reads (tests_text c) (AreLawfulTests c) text (Some tests.items)
TestsAnswer c text (Err (Malformed number)) =
    Reads (tests_text c) (AreLawfulTests c) text None × IsFirstBadLine (tests_form c) 1 (tests_headings c) text number
TestsAnswer c text (Err (NoMemory _)) = ⊤

-- what is answered of the headings: the text behind them, or the first that does not stand there
abbrev pub HeadingsAnswer : Circuit → List ℕ → Result (Bor (List ℕ)) TextFault → Type 0
HeadingsAnswer c text (Ok rest) = text ≡ headed (tests_headings c) rest.now
HeadingsAnswer c text (Err (Malformed number)) =
    ((rest : List ℕ) → text ≢ headed (tests_headings c) rest) × IsFirstBadLine (tests_form c) 1 (tests_headings c) text number
HeadingsAnswer c text (Err (NoMemory _)) = ⊤

-- what is answered of the lines behind the headings
abbrev pub TestLinesAnswer : Circuit → List ℕ → Result (Vec Test) TextFault → Type 0
TestLinesAnswer c text (Ok tests) = Reads (lines_text (tests_form c) 1) (IsWhole (tests_form c) 1) text (Some tests.items)
TestLinesAnswer c text (Err (Malformed number)) =
    Reads (lines_text (tests_form c) 1) (IsWhole (tests_form c) 1) text None
    × ((number' : ℕ) × (number ≡ number' + 3) × LacksForm (tests_form c) 1 text number')
TestLinesAnswer c text (Err (NoMemory _)) = ⊤

-- the words of a test's number and of its path's, where those behind them are these
abbrev pub numbered_path_words : ℕ → ℕ × List (List ℕ) → List (List ℕ)
numbered_path_words number read = decimal number ∷ decimal read.0 ∷ read.1

-- the path's number, with the words that are left
abbrev pub numbered_path_lent : ℕ × Option (Bor (List ℕ)) → ℕ × List (List ℕ)
numbered_path_lent read = (read.0, words_left read.1)

-- the words of a test's transition and of its kind, where those behind them are these
abbrev pub direction_and_kind_words : Direction × Kind × List (List ℕ) → List (List ℕ)
direction_and_kind_words read = direction_word read.0 ∷ kind_word read.1 ∷ read.2

-- the two, with the words that are left
abbrev pub direction_and_kind_lent : Direction × Kind × Option (Bor (List ℕ)) → Direction × Kind × List (List ℕ)
direction_and_kind_lent read = (read.0, read.1, words_left read.2)

-- the words of a test's line, where those of its bits are these
abbrev pub test_head_words : ℕ → TestHead × List (List ℕ) → List (List ℕ)
test_head_words number read =
    decimal number ∷ decimal read.0.path ∷ direction_word read.0.dir ∷ kind_word read.0.kind ∷ read.1

-- its path has a number that a listed path may have
abbrev pub IsTestHead : TestHead × List (List ℕ) → Type 0
IsTestHead read = IsPathNumber read.0.path

-- what was read before the bits, with the words that are left
abbrev pub test_head_lent : TestHead × Option (Bor (List ℕ)) → TestHead × List (List ℕ)
test_head_lent read = (read.0, words_left read.1)

-- the words of a test's bits: first vector, second vector, expected bits
abbrev pub three_words : List ℕ × List ℕ × List ℕ → List (List ℕ)
three_words words = words.0 ∷ words.1 ∷ words.2 ∷ []

-- three words that are lent
abbrev pub bit_words_lent : Bor (List ℕ) × Bor (List ℕ) × Bor (List ℕ) → List ℕ × List ℕ × List ℕ
bit_words_lent words = (words.0.now, words.1.now, words.2.now)
