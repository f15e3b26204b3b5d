-- Texts that spell numbers, and those that do not; the texts that a word may have as its value.
use Rattle.std.proofs.Common.{◌≡◌, ◌≢◌, ◌==◌, ◌&&◌, ℕ, ◌<◌, ◌≤◌, ◌^◌, Bool, true, false, List, [], ◌∷◌, Option, Some, None, Result, Ok, Err, OkIff, length, get_or, refl, sym, ap, subst, inl, inr, arith}
use Rattle.std.specs.Prelude.{leb}
use Rattle.std.specs.Result.{result_ok}
use Rattle.std.specs.Str.{all_ascii_digits}
use Rattle.std.specs.Str.Parse.{digits_value, ParsesUnsigned}
use Rattle.std.proofs.lemmas.Bool.{and_from, and_parts, cases_Bool, eqb-false, eqb-true, leb-true, le-leb}
use Rattle.std.proofs.lemmas.Str.Parse.{IsNumeralModel, digits_value_short, numerals_by_value, parse_plain, tells_all_ascii_digits}
use Rattle.command_line.specs.Values.{Allowed, number, one_of, file_name, is_allowed, is_among, is_number, is_plain, is_within, number_spelled}

-- std's words for numerals, by their test
numerals : IsNumeralModel (λ text. all_ascii_digits text ≡ true) (digits_value 10)
numerals = numerals_by_value _ tells_all_ascii_digits

-- the parts of the test
pub record IsSpelled (most : ℕ) (text : List ℕ) : Type 0 where
  pub digits : all_ascii_digits text ≡ true
  pub some_digit : 1 ≤ length text
  pub few_digits : length text ≤ most

pub is_spelled : (most : ℕ) (text : List ℕ) → is_number most text ≡ true → IsSpelled most text
is_spelled most text is =
    let digits = and_parts (all_ascii_digits text) (leb 1 (length text) && leb (length text) most) is in
    let lengths = and_parts (leb 1 (length text)) (leb (length text) most) digits.1 in
    record {
      digits = digits.0;
      some_digit = leb-true 1 (length text) lengths.0;
      few_digits = leb-true (length text) most lengths.1;
    }

spelled_is : (most : ℕ) (text : List ℕ) → IsSpelled most text → is_number most text ≡ true
spelled_is most text is =
    and_from (all_ascii_digits text) (leb 1 (length text) && leb (length text) most) is.digits
    (and_from (leb 1 (length text)) (leb (length text) most) (le-leb 1 (length text) is.some_digit)
    (le-leb (length text) most is.few_digits))

-- digits whose greatest number fits in so many bits
small : (bits limit : ℕ) (text : List ℕ) → 10 ^ limit ≤ 2 ^ bits → IsSpelled limit text → digits_value 10 text < 2 ^ bits
small bits limit text fits is =
    let few = digits_value_short numerals text limit is.digits is.few_digits in
    omega (arith, few, fits)

-- a text that may spell a number of at most so many digits
abbrev pub MaySpell : ℕ → List ℕ → Type 0
MaySpell most text = (get_or text 0 0 ≢ 43) × (length text ≤ most)

-- what std reads of such a text
pub read : {E : Type 0} (bits limit most : ℕ) (text : List ℕ) (result : Result ℕ E) → 10 ^ limit ≤ 2 ^ bits → most ≤ limit
    → ParsesUnsigned bits 10 text result → MaySpell most text → result_ok result ≡ number_spelled most text
read {E} bits limit most text result fits short parses may = by_result result (parse_plain numerals bits text result parses may.0)
  where
    by_result : (answer : Result ℕ E)
        → OkIff answer ((all_ascii_digits text ≡ true) × (0 < length text) × (digits_value 10 text < 2 ^ bits)) (digits_value 10 text)
        → result_ok answer ≡ number_spelled most text
    by_result (Ok value) known =
        let some : 1 ≤ length text = let above = known.0.1 in omega arith in
        let is = spelled_is most text (record { digits = known.0.0; some_digit = some; few_digits = may.1 }) in
        rw is (ap Some known.1)
    by_result (Err error) known =
        elim (cases_Bool (is_number most text)) [
          | inl is ↦
              let spelled = is_spelled most text is in
              let some : 0 < length text = let above = spelled.some_digit in omega arith in
              let few : length text ≤ limit = let within = spelled.few_digits in omega arith in
              let wide : IsSpelled limit text = record { digits = spelled.digits; some_digit = spelled.some_digit; few_digits = few } in
              absurd (known (spelled.digits, some, small bits limit text fits wide))
          | inr other ↦ rw other refl
        ]

-- a text that begins with a plus sign spells no number
plus_first : (most : ℕ) (text : List ℕ) → get_or text 0 0 ≡ 43 → number_spelled most text ≡ None
plus_first most [] is = absurd (omega arith)
plus_first most (first ∷ later) is = rw is refl

-- nor does another that may spell none
pub spells_none : (most : ℕ) (text : List ℕ) → (MaySpell most text → ⊥) → number_spelled most text ≡ None
spells_none most text never =
    elim (cases_Bool (is_number most text)) [
      | inl is ↦
          let no_plus : get_or text 0 0 ≢ 43 = λ same. let none = plus_first most text same in let bad = rw is at none in absurd cc in
          absurd (never (no_plus, (is_spelled most text is).few_digits))
      | inr other ↦ rw other refl
    ]

-- a range of which std reads no number: the text spells none, or one that is greater than the bits hold
pub read_none : {E : Type 0} (bits least greatest most : ℕ) (text : List ℕ) (result : Result ℕ E) (error : E) → greatest < 2 ^ bits
    → result ≡ Err error → ParsesUnsigned bits 10 text result → MaySpell most text → is_within least greatest (number_spelled most text) ≡ false
read_none {E} bits least greatest most text result error fits is_error parses may =
    elim (cases_Bool (is_number most text)) [
      | inl is ↦
          elim (cases_Bool (leb (digits_value 10 text) greatest)) [
            | inl small ↦
                let spelled = is_spelled most text is in
                let some : 0 < length text = let above = spelled.some_digit in omega arith in
                let few : digits_value 10 text < 2 ^ bits = let within = leb-true (digits_value 10 text) greatest small in omega (arith, within, fits) in
                let known = subst (λ (answer : Result ℕ E). OkIff answer ((all_ascii_digits text ≡ true) × (0 < length text) × (digits_value 10 text < 2 ^ bits)) (digits_value 10 text)) is_error (parse_plain numerals bits text result parses may.0) in
                absurd (known (spelled.digits, some, few))
            | inr great ↦ rw is (rw great (no_second (leb least (digits_value 10 text))))
          ]
      | inr other ↦ rw other refl
    ]
  where
    no_second : (b : Bool) → (b && false) ≡ false
    no_second true = refl
    no_second false = refl

-- and a number that it reads is the one that the text spells
pub read_some : {E : Type 0} (bits most value : ℕ) (text : List ℕ) (result : Result ℕ E) → result ≡ Ok value
    → ParsesUnsigned bits 10 text result → MaySpell most text → number_spelled most text ≡ Some value
read_some {E} bits most value text result is_value parses may =
    let known = subst (λ (answer : Result ℕ E). OkIff answer ((all_ascii_digits text ≡ true) × (0 < length text) × (digits_value 10 text < 2 ^ bits)) (digits_value 10 text)) is_value (parse_plain numerals bits text result parses may.0) in
    let some : 1 ≤ length text = let above = known.0.1 in omega arith in
    let is = spelled_is most text (record { digits = known.0.0; some_digit = some; few_digits = may.1 }) in
    rw is (ap Some (sym known.1))

-- a plain text has a first byte, which is no hyphen
pub first_of_plain : (text : List ℕ) → is_plain text ≡ true → (first : ℕ) × (later : List ℕ) × (text ≡ first ∷ later) × (first ≢ 45)
first_of_plain [] plain = absurd cc
first_of_plain (first ∷ later) plain =
    elim (cases_Bool (first == 45)) [
      | inl same ↦ let bad = rw same at plain in absurd cc
      | inr differs ↦ (first, later, refl, eqb-false first 45 differs)
    ]

-- a text that spells a number is plain
number_is_plain : (most : ℕ) (text : List ℕ) (value : ℕ) → number_spelled most text ≡ Some value → is_plain text ≡ true
number_is_plain most [] value spelled = absurd cc
number_is_plain most (first ∷ later) value spelled =
    elim (cases_Bool (first == 45)) [
      | inl same ↦ let is : first ≡ 45 = eqb-true first 45 same in let none = rw is at spelled in absurd cc
      | inr differs ↦ rw differs refl
    ]

-- a text that a word may have as its value is plain, whatever its kind
pub allowed_is_plain : (allowed : Allowed) (text : List ℕ) → is_allowed allowed text ≡ true → is_plain text ≡ true
allowed_is_plain (number least greatest digits) text is = by_number (number_spelled digits text) refl is
  where
    by_number : (found : Option ℕ) → number_spelled digits text ≡ found → is_within least greatest found ≡ true → is_plain text ≡ true
    by_number None spelled within = absurd cc
    by_number (Some value) spelled within = number_is_plain digits text value spelled
allowed_is_plain (one_of words) text is = (and_parts (is_plain text) (is_among words text) is).0
allowed_is_plain file_name text is = is

-- a number that a text spells, and its range
pub record IsNumberWithin (least greatest : ℕ) (found : Option ℕ) : Type 0 where
  pub value : ℕ
  pub spelled : found ≡ Some value
  pub above : least ≤ value
  pub below : value ≤ greatest

pub number_within : (least greatest : ℕ) (found : Option ℕ) → is_within least greatest found ≡ true → IsNumberWithin least greatest found
number_within least greatest None within = absurd cc
number_within least greatest (Some value) within =
    let parts = and_parts (leb least value) (leb value greatest) within in
    record {
      value = value;
      spelled = refl;
      above = leb-true least value parts.0;
      below = leb-true value greatest parts.1;
    }
