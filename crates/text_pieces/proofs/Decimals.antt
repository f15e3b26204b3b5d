-- The decimal text of a number: digits without a leading zero, and neither a space nor an LF.
use Rattle.std.proofs.Common.{◌≡◌, ◌==◌, ◌<◌, ◌≤◌, ◌+◌, ◌*◌, ◌/◌, ◌%◌, ◌^◌, ℕ, zero, suc, true, false, List, [], ◌∷◌, length, get_or, take, sym, ap, ◌∙◌, subst, arith, length-take}
use Rattle.std.specs.Prelude.{decimal, if◌then◌else◌}
use Rattle.std.specs.Fmt.{digit_glyph, digits, digits_onto}
use Rattle.std.specs.Char.{digit_value}
use Rattle.std.specs.Str.Parse.{AllDigits, digits_value}
use Rattle.std.proofs.lemmas.Bool.{lt-ltb}
use Rattle.std.proofs.lemmas.Bool.Decides.{nat_tests}
use Rattle.std.proofs.lemmas.Fmt.{decimal_digit, decimal_is_IsNumeral, decimal-digits_value, first_decimal, length-decimal-le}
use Rattle.std.proofs.lemmas.Int.Digits.{digits_more, digits_value_more}
use Rattle.std.proofs.lemmas.Str.Parse.{IsNumeralModel, digits_value_short, numerals_by_value, tells_digits}
use Rattle.text_pieces.specs.Digits.{AreDigits, AreDigitsOf}
use Rattle.text_pieces.specs.Cuts.{Lacks}

-- std's words for numerals, as a model of themselves
numerals : IsNumeralModel (AllDigits 10) (digits_value 10)
numerals = numerals_by_value (AllDigits 10) tells_digits

-- a digit is none of the bytes below the digit 0
glyph_lacks : (byte digit : ℕ) → byte < 48 → digit < 10 → (digit_glyph false digit == byte) ≡ false
glyph_lacks byte digit small ten = rw (lt-ltb digit 10 ten) (grind (arith, nat_tests))

-- so the last digits of a number, before a text without such a byte, have none
digits_lack : (byte : ℕ) → byte < 48 → (count n : ℕ) (text : List ℕ) → Lacks byte text → Lacks byte (digits_onto count 10 false n text)
digits_lack byte small zero n text lacks = lacks
digits_lack byte small (suc count) n text lacks =
    let last = digit_glyph false (n % 10) in
    let longer : Lacks byte (last ∷ text) = (glyph_lacks byte (n % 10) small (omega arith), lacks) in
    elim (n / 10 == 0) as (λ ends. Lacks byte (if ends then last ∷ text else digits_onto count 10 false (n / 10) (last ∷ text))) [
      | true ↦ longer
      | false ↦ digits_lack byte small count (n / 10) (last ∷ text) longer
    ]

-- neither a space nor an LF is in the decimal text of a number, nor another byte below the digit 0
pub decimal_lacks : (byte number : ℕ) → byte < 48 → Lacks byte (decimal number)
unfolding digits
decimal_lacks byte number small = digits_lack byte small 64 number [] tt

-- each byte of a numeral is a digit
digit_at : (text : List ℕ) (i : ℕ) → AllDigits 10 text → i < length text → digit_value (get_or text i 0) < 10
digit_at [] i digits within = absurd (omega arith)
digit_at (byte ∷ text) zero digits within = digits.0
digit_at (byte ∷ text) (suc i) digits within = digit_at text i digits.1 (omega arith)

-- so a text with another byte is none
pub no_digits : (text : List ℕ) (i : ℕ) → i < length text → ¬ (digit_value (get_or text i 0) < 10) → ¬ AreDigits text
no_digits text i within other digits = other (digit_at text i digits within)

-- nine digits spell less than 10 ^ 9
pub nine_digits : (text : List ℕ) (i : ℕ) → i ≤ 9 → AllDigits 10 (take i text) → digits_value 10 (take i text) < 1000000000
nine_digits text i few digits = digits_value_short numerals (take i text) 9 digits (omega (arith, length-take i text))

-- one digit more is read
pub next_digit : (text : List ℕ) (i number digit : ℕ) → i < length text → AllDigits 10 (take i text)
    → number ≡ digits_value 10 (take i text) → digit_value (get_or text i 0) < 10 → digit ≡ digit_value (get_or text i 0)
    → record { digits : AllDigits 10 (take (i + 1) text); value : number * 10 + digit ≡ digits_value 10 (take (i + 1) text) }
next_digit text i number digit within digits value is same = record {
  digits = digits_more 10 text i within digits is;
  value = omega (arith, digits_value_more 10 text i within);
}

-- the decimal text of a number of 32 bits is digits that spell it, at least one and at most ten
pub decimal_value : (text : List ℕ) (number : ℕ) → number < 2 ^ 32 → text ≡ decimal number → AreDigitsOf text number
decimal_value text number fits is =
    let numeral = decimal_is_IsNumeral number (omega arith) in
    record { digits = subst AreDigits (sym is) numeral.0.1; value = ap (digits_value 10) is ∙ numeral.1 }

pub decimal_length : (text : List ℕ) (number : ℕ) → number < 2 ^ 32 → text ≡ decimal number → (0 < length text) × (length text ≤ 10)
decimal_length text number fits is =
    let numeral = decimal_is_IsNumeral number (omega arith) in
    (omega (arith, numeral.0.0, ap length is), omega (arith, length-decimal-le 10 number (omega arith) (omega arith) (omega arith), ap length is))

-- it begins with 0 only where it is that
pub decimal_first : (text : List ℕ) (number : ℕ) → number < 2 ^ 32 → text ≡ decimal number → get_or text 0 0 ≡ 48 → length text ≡ 1
decimal_first text zero fits is first = ap length (is ∙ decimal_digit 0 (omega arith))
decimal_first text (suc n) fits is first =
    absurd (omega (arith, first_decimal (suc n) (omega arith) (omega arith), ap (λ t. get_or t 0 0) is))

-- and such digits are the decimal text of what they spell
pub is_decimal : (text : List ℕ) (number : ℕ) → AreDigitsOf text number → 0 < length text → (get_or text 0 0 ≡ 48 → length text ≡ 1)
    → number < 2 ^ 64 → text ≡ decimal number
is_decimal text number is some canonical fits =
    sym (decimal-digits_value numerals text is.digits some canonical (omega (arith, is.value))) ∙ ap decimal is.value

-- two numbers with one text are one
pub decimal_once : (a b : ℕ) → a < 2 ^ 64 → b < 2 ^ 64 → decimal a ≡ decimal b → a ≡ b
decimal_once a b small small' same =
    sym (decimal_is_IsNumeral a small).1 ∙ ap (digits_value 10) same ∙ (decimal_is_IsNumeral b small').1
