-- A tests file has more bytes than tests, so their numbers are small.
use Rattle.std.proofs.Common.{ℕ, ◌<◌, ◌≤◌, ◌^◌, List, [], ◌∷◌, ◌++◌, length, ap, arith}
use Rattle.std.proofs.lemmas.List.{length-append}
use Rattle.pd_base.specs.declared.test.Test.{Test}
use Rattle.netlist.specs.Circuit.{Circuit}
use Rattle.pd_base.specs.declared.limits.TheConstants.{MOST_BYTES}
use Rattle.text_pieces.specs.LineFiles.{Form, headed, lines_text}
use Rattle.text_pieces.specs.Tokens.{line, line_feed}
use Rattle.run_files.specs.TestsText.{tests_form, tests_headings}
use Rattle.commands.specs.SpelledTests.{SpellsTests}

-- a line has a byte at least
pub line_long : (text rest : List ℕ) → length rest < length (line text ++ rest)
line_long text rest = omega (arith, length-append (line text) rest, length-append text (line_feed ∷ []))

-- so there are no more lines than bytes
lines_long : {S A : Type 0} (form : Form S A) (state : S) (items : List A) → length items ≤ length (lines_text form state items)
lines_long form state [] = omega arith
lines_long form state (item ∷ items) =
    let behind = lines_long form (form.next state item) items in
    let longer = line_long (form.text_of state item) (lines_text form (form.next state item) items) in
    omega arith

-- and headings only add some
headed_long : (headings : List (List ℕ)) (rest : List ℕ) → length rest ≤ length (headed headings rest)
headed_long [] rest = omega arith
headed_long (heading ∷ headings) rest =
    let behind = headed_long headings rest in
    let longer = line_long heading (headed headings rest) in
    omega arith

-- a tests file that is read has tests with numbers of 32 bits
pub few_tests : (c : Circuit) (text : List ℕ) (tests : List Test) → length text ≤ MOST_BYTES → SpellsTests c text tests
    → length tests < 2 ^ 32
few_tests c text tests within spells =
    let long = lines_long (tests_form c) 1 tests in
    let longer = headed_long (tests_headings c) (lines_text (tests_form c) 1 tests) in
    let same = ap length spells.is_text in
    omega arith
