-- The line of a test is made of its words, and its words of the line.
use Rattle.std.proofs.Common.{◌≡◌, ◌+◌, ℕ, List, [], ◌∷◌, ◌++◌, Option, length, refl, sym, ap, ◌∙◌, arith, rules, append_assoc, decimal}
use Rattle.std.specs.List.{AllByRecursion, join_with_byte}
use Rattle.pd_base.specs.declared.test.Test.{Test}
use Rattle.netlist.specs.Circuit.{Circuit}
use Rattle.runs.specs.Lawful.{IsLawfulTest}
use Rattle.text_pieces.specs.Tokens.{after_space, digits, direction_word, kind_word, space}
use Rattle.text_pieces.specs.LineFiles.{lines_text, state_after, AreLines}
use Rattle.text_pieces.specs.Cuts.{pieces, words_of, ArePieces}
use Rattle.text_pieces.specs.Reads.{Reads}
use Rattle.text_pieces.proofs.Decimals.{decimal_once}
use Rattle.text_pieces.proofs.PieceTexts.{are_pieces, decimal_is_piece, digits_are_piece, direction_is_piece, direction_once, joined_line, kind_is_piece, kind_once, IsPiece}
use Rattle.text_pieces.proofs.Cuts.{joined_reads, pieces_of_joined}
use Rattle.text_pieces.proofs.ReadLines.{lines_once, AreOneLine, AreToldApart, ReadsItem}
use Rattle.text_pieces.proofs.Vectors.{digits_once}
use Rattle.run_files.specs.TestsText.{test_words, tests_form}

words_are_pieces : (number : ℕ) (test : Test) → AllByRecursion (IsPiece space) (test_words number test)
words_are_pieces number test = (
  decimal_is_piece space (omega arith) number,
  (
    decimal_is_piece space (omega arith) test.path,
    (
      direction_is_piece space (omega arith) test.dir,
      (
        kind_is_piece space (omega arith) test.kind,
        (
          digits_are_piece space (omega arith) test.pair.first,
          (
            digits_are_piece space (omega arith) test.pair.second,
            (digits_are_piece space (omega arith) test.expected, tt),
          ),
        ),
      ),
    ),
  ),
)

words_parted : (number : ℕ) (test : Test) → ArePieces space (test_words number test)
words_parted number test = are_pieces space (test_words number test) (omega arith) (words_are_pieces number test)

pub one_line : (c : Circuit) (number : ℕ) → AreOneLine (tests_form c) number
one_line c number test lawful = joined_line space (test_words number test) refl (words_are_pieces number test)

-- what the words of a line are read as, the line is
pub reads_text : (c : Circuit) (number : ℕ) (text : List ℕ) (read : Option Test)
    → Reads (test_words number) (IsLawfulTest c) (words_of text) read → ReadsItem (tests_form c) number text read
reads_text c number text read reads = joined_reads space (test_words number) (IsLawfulTest c) (λ test lawful. words_parted number test) text read reads

-- the number of the next line
pub number_after : (c : Circuit) (number : ℕ) (tests : List Test) → state_after (tests_form c) number tests ≡ number + length tests
number_after c number [] = omega arith
number_after c number (test ∷ tests) = omega (arith, number_after c (number + 1) tests)

-- lawful tests may stand one behind another, and no others
pub tests_fit : (c : Circuit) (number : ℕ) (tests : List Test) → AllByRecursion (IsLawfulTest c) tests → AreLines (tests_form c) number tests
tests_fit c number [] each = tt
tests_fit c number (test ∷ tests) each = (each.0, tests_fit c (number + 1) tests each.1)

pub tests_lawful : (c : Circuit) (number : ℕ) (tests : List Test) → AreLines (tests_form c) number tests → AllByRecursion (IsLawfulTest c) tests
tests_lawful c number [] each = tt
tests_lawful c number (test ∷ tests) each = (each.0, tests_lawful c (number + 1) tests each.1)

-- a line tells one test
told_apart : (c : Circuit) (number : ℕ) → AreToldApart (tests_form c) number
told_apart c number a b lawful lawful' same =
    let words : test_words number a ≡ test_words number b =
    sym (pieces_of_joined space (test_words number a) (words_parted number a)) ∙ ap (pieces space) same
    ∙ pieces_of_joined space (test_words number b) (words_parted number b) in
    let path_text : decimal a.path ≡ decimal b.path = cc in
    let dir_text : direction_word a.dir ≡ direction_word b.dir = cc in
    let kind_text : kind_word a.kind ≡ kind_word b.kind = cc in
    let first_text : digits a.pair.first ≡ digits b.pair.first = cc in
    let second_text : digits a.pair.second ≡ digits b.pair.second = cc in
    let expected_text : digits a.expected ≡ digits b.expected = cc in
    let path = decimal_once a.path b.path (omega (arith, lawful.path.within)) (omega (arith, lawful'.path.within)) path_text in
    let dir = direction_once a.dir b.dir dir_text in
    let kind = kind_once a.kind b.kind kind_text in
    let first = digits_once a.pair.first b.pair.first first_text in
    let second = digits_once a.pair.second b.pair.second second_text in
    let expected = digits_once a.expected b.expected expected_text in
    (λ i. record { path = path i; dir = dir i; kind = kind i; pair = record { first = first i; second = second i }; expected = expected i })

-- and lines those of one list of lawful tests
pub test_lines_once : (c : Circuit) (tests others : List Test) → AllByRecursion (IsLawfulTest c) tests → AllByRecursion (IsLawfulTest c) others
    → lines_text (tests_form c) 1 tests ≡ lines_text (tests_form c) 1 others → tests ≡ others
test_lines_once c tests others each each' same =
    lines_once (tests_form c) (one_line c) (told_apart c) 1 tests others (tests_fit c 1 tests each) (tests_fit c 1 others each') same

-- texts behind one another with a space before each but the first, put together from the left, are joined
pub seven_joined : (a b c d e f g : List ℕ)
    → a ++ after_space b ++ after_space c ++ after_space d ++ after_space e ++ after_space f ++ after_space g
    ≡ join_with_byte space (a ∷ b ∷ c ∷ d ∷ e ∷ f ∷ g ∷ [])
seven_joined a b c d e f g = search (rules, append_assoc)
