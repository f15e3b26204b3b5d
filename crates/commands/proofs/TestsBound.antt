-- How long a tests file of a call is at most.
use Rattle.std.proofs.Common.{◌≡◌, ◌≤◌, ◌<◌, ◌+◌, ◌*◌, ℕ, List, [], ◌∷◌, length, codes, decimal, flat_map, length-append, refl, arith, ⊎_elim}
use Rattle.std.specs.List.{AllByRecursion}
use Rattle.std.proofs.lemmas.Bool.{cases_lt}
use Rattle.std.proofs.lemmas.Fmt.{length-decimal-le}
use Rattle.std.proofs.lemmas.List.{length-map}
use Rattle.std.proofs.lemmas.List.Elements.{recursion_from_All}
use Rattle.std.proofs.lemmas.Nat.{mul-le}
use Rattle.pd_base.specs.declared.ids.LineId.{LineId}
use Rattle.pd_base.specs.declared.limits.TheConstants.{MOST_BYTES, MOST_PATHS}
use Rattle.pd_base.specs.declared.test.Test.{Test}
use Rattle.netlist.specs.declared.limits.TheConstants.{MOST_LINES, MOST_NAME_BYTES}
use Rattle.netlist.specs.Circuit.{Circuit, source_count, observed_lines}
use Rattle.netlist.specs.Lawful.{IsCircuit}
use Rattle.netlist.specs.Names.{name_at}
use Rattle.netlist.proofs.CircuitLines.{observed_in_circuit, observed_once}
use Rattle.runs.specs.Lawful.{AreLawfulTests, IsLawfulTest}
use Rattle.text_pieces.specs.Tokens.{after_space, digit, digits, direction_word, kind_word, line, space}
use Rattle.text_pieces.specs.LineFiles.{lines_text}
use Rattle.run_files.specs.TestsText.{names_text, observed_names, test_text, tests_form, tests_headings, tests_text}
use Rattle.commands.specs.declared.inputs.sizes.TheConstants.{MOST_TEST_TEXT}
use Rattle.commands.specs.Sizes.{test_text_product}
use Rattle.commands.proofs.FewLines.{few_lines}
use Rattle.commands.proofs.TextBounds.{bytes_of, direction_length, headed_length, joined_length, kind_within, line_length, lines_within, spaced_within}
use Rattle.commands.proofs.NameBounds.{names_within, sources_within}

-- the bytes of tests of a circuit with so many sources and observed lines, for so many paths
abbrev tests_bytes : ℕ → ℕ → ℕ → ℕ
tests_bytes paths sources observed = 256 * (sources + observed) + 2 * paths * (30 + 2 * sources + observed) + 40

-- there are few lines
few_bits : (paths sources observed : ℕ) → paths ≤ MOST_PATHS → paths * (sources + observed) ≤ MOST_TEST_TEXT → sources + observed ≤ MOST_LINES
    → tests_bytes paths sources observed ≤ MOST_BYTES
few_bits paths sources observed few product lines = omega arith

-- there are more, and so fewer paths
some_bits : (paths sources observed : ℕ) → sources ≤ MOST_LINES → paths * (sources + observed) ≤ MOST_TEST_TEXT → MOST_LINES < sources + observed
    → sources + observed ≤ 393216 → tests_bytes paths sources observed ≤ MOST_BYTES
some_bits paths sources observed inputs product lines below =
    let least : paths * 262145 ≤ paths * (sources + observed) = mul-le paths 262145 paths (sources + observed) (omega arith) (omega arith) in
    let few : paths ≤ 152 = omega arith in
    let bits : paths * sources ≤ 152 * MOST_LINES = mul-le paths sources 152 MOST_LINES few inputs in
    omega arith

many_bits : (paths sources observed : ℕ) → sources ≤ MOST_LINES → observed ≤ MOST_LINES → paths * (sources + observed) ≤ MOST_TEST_TEXT
    → 393216 < sources + observed → tests_bytes paths sources observed ≤ MOST_BYTES
many_bits paths sources observed inputs outputs product lines =
    let least : paths * 393217 ≤ paths * (sources + observed) = mul-le paths 393217 paths (sources + observed) (omega arith) (omega arith) in
    let few : paths ≤ 101 = omega arith in
    let bits : paths * sources ≤ 101 * MOST_LINES = mul-le paths sources 101 MOST_LINES few inputs in
    omega arith

bits_fit : (paths sources observed : ℕ) → paths ≤ MOST_PATHS → sources ≤ MOST_LINES → observed ≤ MOST_LINES → paths * (sources + observed) ≤ MOST_TEST_TEXT
    → tests_bytes paths sources observed ≤ MOST_BYTES
bits_fit paths sources observed few inputs outputs product =
    ⊎_elim
    (λ (below : sources + observed < 262145). few_bits paths sources observed few product (omega arith))
    (λ above. ⊎_elim
    (λ (below : sources + observed < 393217). some_bits paths sources observed inputs product (omega arith) (omega arith))
    (λ far. many_bits paths sources observed inputs outputs product (omega arith))
    (cases_lt (sources + observed) 393217))
    (cases_lt (sources + observed) 262145)

module _ (c : Circuit) where
  -- a test's line, where its number has five digits at most
  test_line_within : (number : ℕ) (test : Test) → number < 100000 → IsLawfulTest c test
      → length (line (test_text number test)) ≤ 30 + 2 * source_count c + length (observed_lines c)
  test_line_within number test few lawful =
      let words = decimal test.path ∷ direction_word test.dir ∷ kind_word test.kind ∷ digits test.pair.first ∷ digits test.pair.second
      ∷ digits test.expected ∷ [] in
      let own = length-decimal-le 5 number (omega arith) (omega arith) (omega arith) in
      let path = length-decimal-le 5 test.path (omega arith) (omega (arith, lawful.path.within)) (omega (arith, lawful.path.within)) in
      omega (
        arith,
        line_length (test_text number test),
        joined_length space (decimal number) words,
        own,
        path,
        direction_length test.dir,
        kind_within test.kind,
        length-map test.pair.first digit,
        length-map test.pair.second digit,
        length-map test.expected digit,
        lawful.first,
        lawful.second,
        lawful.expected,
      )

  -- lawful tests that are numbered on from this number, up to no more than five digits
  record AreFewTests (number : ℕ) (tests : List Test) : Type 0 where
    few : number + length tests ≤ 20001
    lawful : AllByRecursion (IsLawfulTest c) tests

  next_test : (number : ℕ) (test : Test) (tests : List Test) → AreFewTests number (test ∷ tests)
      → (length (line (test_text number test)) ≤ 30 + 2 * source_count c + length (observed_lines c)) × AreFewTests (number + 1) tests
  next_test number test tests are =
      let few = are.few in (
        test_line_within number test (omega arith) are.lawful.0,
        record { few = omega arith; lawful = are.lawful.1 },
      )

  -- the lines of tests
  test_lines_within : (tests : List Test) → AreLawfulTests c tests → length tests ≤ 20000
      → length (lines_text (tests_form c) 1 tests) ≤ length tests * (30 + 2 * source_count c + length (observed_lines c))
  test_lines_within tests lawful few =
      lines_within (tests_form c) (30 + 2 * source_count c + length (observed_lines c)) AreFewTests next_test 1 tests
      (record { few = omega arith; lawful = recursion_from_All (IsLawfulTest c) tests lawful })

  module _ (circuit : IsCircuit c) where
    -- a heading of names
    heading_length : (word : List ℕ) (names : List (List ℕ)) → length (names_text word names) ≡ length word + length (flat_map after_space names)
    heading_length word names = length-append word (flat_map after_space names)

    -- the lines in front of the tests
    headings_within : bytes_of (tests_headings c) ≤ 256 * (source_count c + length (observed_lines c)) + 40
    headings_within =
        let version : length (codes "pdfgen tests 1") ≡ 14 = refl in
        let first : length (codes "sources") ≡ 7 = refl in
        let second : length (codes "observed") ≡ 8 = refl in
        omega (
          arith,
          version,
          first,
          second,
          heading_length (codes "sources") c.sources,
          heading_length (codes "observed") (observed_names c),
          spaced_within MOST_NAME_BYTES c.sources (sources_within c circuit),
          spaced_within MOST_NAME_BYTES (observed_names c) (names_within c circuit (observed_lines c)),
          length-map (observed_lines c) (λ (observed : LineId). name_at c observed.0),
        )

    few_observed : length (observed_lines c) ≤ MOST_LINES
    few_observed = omega (arith, few_lines (observed_lines c) c (observed_once c) (observed_in_circuit c circuit), circuit.few_lines)

    -- the tests of so many paths, two for each, where their product is within its limit
    pub tests_within : (paths : ℕ) (tests : List Test) → paths ≤ MOST_PATHS → test_text_product paths c ≤ MOST_TEST_TEXT
        → AreLawfulTests c tests → length tests ≤ 2 * paths → length (tests_text c tests) ≤ MOST_BYTES
    tests_within paths tests few product lawful two_each =
        let lines = test_lines_within tests lawful (omega arith) in
        let line_bytes = 30 + 2 * source_count c + length (observed_lines c) in
        let all : length tests * line_bytes ≤ 2 * paths * line_bytes = mul-le (length tests) line_bytes (2 * paths) line_bytes two_each (omega arith) in
        let inputs : source_count c ≤ MOST_LINES = omega (arith, circuit.few_lines) in
        omega (
          arith,
          headed_length (tests_headings c) (lines_text (tests_form c) 1 tests),
          headings_within,
          lines,
          all,
          bits_fit paths (source_count c) (length (observed_lines c)) few inputs few_observed product,
        )
