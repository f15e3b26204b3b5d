-- The names of a ladder's lines: they are names, and lines of different letters or stages have different ones.
use Rattle.std.proofs.Common.{◌≡◌, ◌≢◌, ◌+◌, ◌%◌, ◌<◌, ◌^◌, ℕ, [], decimal, refl, arith}
use Rattle.std.specs.List.{All}
use Rattle.std.proofs.lemmas.Fmt.{decimal_by_steps, decimal_injective, length-decimal-le}
use Rattle.std.proofs.lemmas.List.Elements.{All-cons, All-nil, All-push}
use Rattle.netlist.specs.Names.{IsName, IsNameByte}
use Rattle.ladder.specs.declared.line.Letter.{Letter}
use Rattle.ladder.specs.declared.line.Letter.TheVariants.{X, P, Q, U, V}
use Rattle.ladder.specs.Ladder.{ladder_name, letter_byte}

-- a byte above the marks and below the last code is one of a name
plain_byte : (byte : ℕ) → 41 < byte → byte < 61 → byte ≢ 44 → IsNameByte byte
plain_byte byte above below no_comma = record {
  above_space = omega arith;
  below_delete = omega arith;
  no_quote = omega arith;
  no_hash = omega arith;
  no_open = omega arith;
  no_close = omega arith;
  no_comma = no_comma;
  no_equals = omega arith;
}

-- and so is each letter
letter_is : (letter : Letter) → IsNameByte (letter_byte letter)
letter_is letter = by_byte (letter_byte letter) (low letter) (high letter)
  where
    low : (letter : Letter) → 61 < letter_byte letter
    low X = omega arith
    low P = omega arith
    low Q = omega arith
    low U = omega arith
    low V = omega arith

    high : (letter : Letter) → letter_byte letter < 127
    high X = omega arith
    high P = omega arith
    high Q = omega arith
    high U = omega arith
    high V = omega arith

    by_byte : (byte : ℕ) → 61 < byte → byte < 127 → IsNameByte byte
    by_byte byte above below = record {
      above_space = omega arith;
      below_delete = below;
      no_quote = omega arith;
      no_hash = omega arith;
      no_open = omega arith;
      no_close = omega arith;
      no_comma = omega arith;
      no_equals = omega arith;
    }

-- each byte of a number's digits is one of a name
digits_are : (number : ℕ) → number < 2 ^ 64 → All IsNameByte (decimal number)
digits_are number fits =
    decimal_by_steps (λ n digits. All IsNameByte digits)
    (λ n small. All-cons IsNameByte (48 + n) [] (plain_byte (48 + n) (omega arith) (omega arith) (omega arith)) (All-nil IsNameByte))
    (λ n digits large rest. All-push IsNameByte digits (48 + n % 10) rest (plain_byte (48 + n % 10) (omega arith) (omega arith) (omega arith)))
    number fits

-- the name of a line is a name
pub ladder_name_is : (letter : Letter) (stage : ℕ) → stage < 2 ^ 32 → IsName (ladder_name letter stage)
ladder_name_is letter stage fits =
    let short = length-decimal-le 10 stage (omega arith) (omega arith) (omega arith) in
    record {
      some_byte = omega arith;
      few_bytes = omega (arith, short);
      bytes = All-cons IsNameByte (letter_byte letter) (decimal stage) (letter_is letter) (digits_are stage (omega arith));
    }

-- letters of one byte are one
letter_once : (a b : Letter) → letter_byte a ≡ letter_byte b → a ≡ b
letter_once X X same = refl
letter_once P P same = refl
letter_once Q Q same = refl
letter_once U U same = refl
letter_once V V same = refl
letter_once a b same = absurd (omega arith)

-- lines of one name have one letter and are at one stage
pub record AreSameLine (a : Letter) (stage : ℕ) (b : Letter) (other : ℕ) : Type 0 where
  pub letter : a ≡ b
  pub number : stage ≡ other

pub name_once : (a b : Letter) (stage other : ℕ) → stage < 2 ^ 32 → other < 2 ^ 32 → ladder_name a stage ≡ ladder_name b other
    → AreSameLine a stage b other
name_once a b stage other fits fits' same =
    let bytes : letter_byte a ≡ letter_byte b = cc in
    let digits : decimal stage ≡ decimal other = cc in
    record { letter = letter_once a b bytes; number = decimal_injective stage other (omega arith) (omega arith) digits }
