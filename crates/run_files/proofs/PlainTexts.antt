-- Which texts call for no quotes: digits of numbers, and texts that csv's own test passes.
use Rattle.std.proofs.Common.{◌≡◌, ℕ, zero, suc, ◌<◌, ◌/◌, ◌%◌, true, false, List, [], ◌∷◌, decimal, refl, arith}
use Rattle.std.specs.Fmt.{digit_glyph, digits, digits_onto}
use Rattle.std.specs.List.{AllByRecursion, list_any}
use Rattle.std.specs.Prelude.{◌==◌, if◌then◌else◌}
use Rattle.std.proofs.lemmas.Bool.{lt-ltb, or_parts}
use Rattle.std.proofs.lemmas.Bool.Decides.{nat_tests}
use Rattle.std.proofs.lemmas.List.Elements.{All-cons}
use Rattle.csv.specs.Quoting.{needs_byte}
use Rattle.csv.specs.Writing.{default_writer, needs_quotes}
use Rattle.run_files.specs.PlainTexts.{IsPlain, IsPlainByte}
use Rattle.run_files.specs.ReportText.{header_fields}

-- a digit is none of the bytes that call for quotes
digit_plain : (digit : ℕ) → digit < 10 → IsPlainByte (digit_glyph false digit)
digit_plain digit small = rw (lt-ltb digit 10 small)
    (record { no_comma = omega arith; no_quote = omega arith; no_return = omega arith; no_feed = omega arith })

-- the last digits of a number, before a plain text, are plain
digits_plain : (count n : ℕ) (text : List ℕ) → IsPlain text → IsPlain (digits_onto count 10 false n text)
digits_plain zero n text plain = plain
digits_plain (suc count) n text plain =
    let last = digit_glyph false (n % 10) in
    let longer = All-cons IsPlainByte last text (digit_plain (n % 10) (omega arith)) plain in
    elim (n / 10 == 0) as (λ ends. IsPlain (if ends then last ∷ text else digits_onto count 10 false (n / 10) (last ∷ text))) [
      | true ↦ longer
      | false ↦ digits_plain count (n / 10) (last ∷ text) longer
    ]

-- the digits of a number are plain
pub decimal_plain : (n : ℕ) → IsPlain (decimal n)
unfolding digits
decimal_plain n = digits_plain 64 n [] (λ k d within. absurd (omega arith))

-- a byte that the test passes is plain
byte_plain_by_test : (byte : ℕ) → needs_byte default_writer byte ≡ false → IsPlainByte byte
byte_plain_by_test byte none = record {
  no_comma = λ e. grind (arith, nat_tests, none, e);
  no_quote = λ e. grind (arith, nat_tests, none, e);
  no_return = λ e. grind (arith, nat_tests, none, e);
  no_feed = λ e. grind (arith, nat_tests, none, e);
}

-- a text that the test passes is plain, as one known when the program is written
pub plain_by_test : (text : List ℕ) → needs_quotes default_writer text ≡ false → IsPlain text
plain_by_test [] passes = λ k d within. absurd (omega arith)
plain_by_test (byte ∷ text) passes =
    let parts = or_parts (needs_byte default_writer byte) (needs_quotes default_writer text) passes in
    All-cons IsPlainByte byte text (byte_plain_by_test byte parts.0) (plain_by_test text parts.1)

-- several texts that the test passes are plain, each
each_plain_by_test : (texts : List (List ℕ)) → list_any (needs_quotes default_writer) texts ≡ false → AllByRecursion IsPlain texts
each_plain_by_test [] passes = tt
each_plain_by_test (text ∷ texts) passes =
    let parts = or_parts (needs_quotes default_writer text) (list_any (needs_quotes default_writer) texts) passes in
    (plain_by_test text parts.0, each_plain_by_test texts parts.1)

-- the names of the columns are plain
pub header_plain : AllByRecursion IsPlain header_fields
header_plain = each_plain_by_test header_fields refl
