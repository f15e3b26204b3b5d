-- A test's line is its head, and the words of its bits.
use Rattle.std.proofs.Common.{◌≡◌, ◌<◌, ℕ, Bool, List, [], ◌∷◌, Option, Some, None, length, ap, ◌∙◌}
use Rattle.std.proofs.lemmas.Option.{none-some, same_Some}
use Rattle.pd_base.specs.declared.test.Test.{Test}
use Rattle.netlist.specs.Circuit.{Circuit, observed_lines, source_count}
use Rattle.runs.specs.Lawful.{IsLawfulTest}
use Rattle.text_pieces.specs.Tokens.{digits}
use Rattle.text_pieces.specs.Reads.{Reads}
use Rattle.run_files.specs.TestsText.{test_words}
use Rattle.run_files.specs.TestsReading.{test_head_words, three_words, IsTestHead}
use Rattle.run_files.specs.declared.test_line.TestHead.{TestHead}

abbrev pub ReadsHead : ℕ → List (List ℕ) → Option (TestHead × List (List ℕ)) → Type 0
ReadsHead number words read = Reads (test_head_words number) IsTestHead words read

abbrev pub ReadsThree : List (List ℕ) → Option (List ℕ × List ℕ × List ℕ) → Type 0
ReadsThree words read = Reads three_words (λ three. Unit {0}) words read

abbrev pub ReadsBits : ℕ → List ℕ → Option (List Bool) → Type 0
ReadsBits count word read = Reads digits (λ bits. length bits ≡ count) word read

-- the head of a test
abbrev pub head_of : Test → TestHead
head_of test = record { path = test.path; dir = test.dir; kind = test.kind }

-- the words of its bits
abbrev pub bits_text : Test → List (List ℕ)
bits_text test = digits test.pair.first ∷ digits test.pair.second ∷ digits test.expected ∷ []

-- the test of a head and of bits
abbrev pub test_of : TestHead → List Bool → List Bool → List Bool → Test
test_of head first second expected = record {
  path = head.path;
  dir = head.dir;
  kind = head.kind;
  pair = record { first = first; second = second };
  expected = expected;
}

module _ (c : Circuit) (number : ℕ) (words : List (List ℕ)) where
  -- the words of a test's line are read as its head, and those of its bits
  head_read : (read : Option (TestHead × List (List ℕ))) → ReadsHead number words read → (test : Test) → IsLawfulTest c test
      → words ≡ test_words number test → read ≡ Some (head_of test, bits_text test)
  head_read read reads test lawful is = reads.only (head_of test, bits_text test) lawful.path is

  pub no_head : ReadsHead number words None → Reads (test_words number) (IsLawfulTest c) words None
  no_head reads = record {
    found = tt;
    only = λ test lawful is. absurd (none-some _ (head_read None reads test lawful is));
  }

  module _ (head : TestHead) (left : List (List ℕ)) (heads : ReadsHead number words (Some (head, left))) where
    bits_left : (test : Test) → IsLawfulTest c test → words ≡ test_words number test → left ≡ bits_text test
    bits_left test lawful is =
        ap (λ (read : TestHead × List (List ℕ)). read.1) (same_Some _ _ (head_read (Some (head, left)) heads test lawful is))

    pub not_three : ReadsThree left None → Reads (test_words number) (IsLawfulTest c) words None
    not_three reads = record {
      found = tt;
      only = λ test lawful is.
          absurd (none-some _ (reads.only (digits test.pair.first, digits test.pair.second, digits test.expected) tt (bits_left test lawful is)));
    }

    module _ (first second expected : List ℕ) (three : ReadsThree left (Some (first, second, expected))) where
      -- the words of the bits, where the line is a test's
      pub record AreBitsOf (test : Test) : Type 0 where
        pub first_is : first ≡ digits test.pair.first
        pub second_is : second ≡ digits test.pair.second
        pub expected_is : expected ≡ digits test.expected

      bits_are : (test : Test) → IsLawfulTest c test → words ≡ test_words number test → AreBitsOf test
      bits_are test lawful is =
          let same = same_Some _ _
          (three.only (digits test.pair.first, digits test.pair.second, digits test.expected) tt (bits_left test lawful is)) in
          record {
            first_is = ap (λ (three : List ℕ × List ℕ × List ℕ). three.0) same;
            second_is = ap (λ (three : List ℕ × List ℕ × List ℕ). three.1) same;
            expected_is = ap (λ (three : List ℕ × List ℕ × List ℕ). three.2) same;
          }

      pub no_first : ReadsBits (source_count c) first None → Reads (test_words number) (IsLawfulTest c) words None
      no_first reads = record {
        found = tt;
        only = λ test lawful is. absurd (none-some _ (reads.only test.pair.first lawful.first (bits_are test lawful is).first_is));
      }

      pub no_second : ReadsBits (source_count c) second None → Reads (test_words number) (IsLawfulTest c) words None
      no_second reads = record {
        found = tt;
        only = λ test lawful is. absurd (none-some _ (reads.only test.pair.second lawful.second (bits_are test lawful is).second_is));
      }

      pub no_expected : ReadsBits (length (observed_lines c)) expected None → Reads (test_words number) (IsLawfulTest c) words None
      no_expected reads = record {
        found = tt;
        only = λ test lawful is. absurd (none-some _ (reads.only test.expected lawful.expected (bits_are test lawful is).expected_is));
      }

      pub one_test : (a b e : List Bool) → ReadsBits (source_count c) first (Some a) → ReadsBits (source_count c) second (Some b)
          → ReadsBits (length (observed_lines c)) expected (Some e) → 0 < source_count c → 0 < length (observed_lines c)
          → Reads (test_words number) (IsLawfulTest c) words (Some (test_of head a b e))
      one_test a b e firsts seconds expecteds some some' = record {
        found = (
          record {
            path = heads.found.0;
            first = firsts.found.0;
            second = seconds.found.0;
            expected = expecteds.found.0;
            some_source = some;
            some_observed = some';
          },
          heads.found.1 ∙ ap (λ rest. test_head_words number (head, rest))
              (three.found.1 ∙ (λ i. firsts.found.1 i ∷ seconds.found.1 i ∷ expecteds.found.1 i ∷ [])),
        );
        only = λ test lawful is.
            let head_is = ap (λ (read : TestHead × List (List ℕ)). read.0) (same_Some _ _ (head_read (Some (head, left)) heads test lawful is)) in
            let are = bits_are test lawful is in
            let a_is = same_Some _ _ (firsts.only test.pair.first lawful.first are.first_is) in
            let b_is = same_Some _ _ (seconds.only test.pair.second lawful.second are.second_is) in
            let e_is = same_Some _ _ (expecteds.only test.expected lawful.expected are.expected_is) in
            (λ i. Some (test_of (head_is i) (a_is i) (b_is i) (e_is i)));
      }
