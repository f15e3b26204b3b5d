-- The bytes of a line that spells a statement: each may stand there, none begins a comment or ends a line.
use Rattle.std.proofs.Common.{◌≡◌, ◌≢◌, ℕ, suc, ◌+◌, ◌<◌, Bool, true, false, ◌||◌, ◌&&◌, not, cond, nat_le, ◌==◌, List, [], ◌∷◌, ◌++◌, take, refl, ap, ◌∙◌, arith}
use Rattle.std.proofs.lemmas.Bool.Decides.{nat_tests}
use Rattle.std.specs.List.{AllByRecursion, before_first, onto_first, position_or_len}
use Rattle.netlist.specs.Names.{IsNameByte}
use Rattle.bench_reader.specs.declared.byte.ByteClass.TheVariants.{Blank, Mark, NamePart, Bad}
use Rattle.bench_reader.specs.declared.byte.Mark.TheVariants.{Open, Close, Comma, Equals}
use Rattle.bench_reader.specs.Bytes.{begins_comment, class_of, code_of, has_bad_byte, is_allowed, is_bad, is_blank}
use Rattle.bench_reader.specs.Lines.{ends_line, lines_of}

-- the byte may stand in a line, begins no comment and ends no line
pub record IsCode (byte : ℕ) : Type 0 where
  pub good : is_bad (class_of byte) ≡ false
  pub no_comment : begins_comment byte ≡ false
  pub no_end : ends_line byte ≡ false

-- all bytes are such
abbrev pub AreCode : List ℕ → Type 0
AreCode bytes = AllByRecursion IsCode bytes

-- two texts of such bytes, one behind the other
pub code_append : (front rest : List ℕ) → AreCode front → AreCode rest → AreCode (front ++ rest)
code_append [] rest before behind = behind
code_append (byte ∷ front) rest before behind = (before.0, code_append front rest before.1 behind)

-- a line of such bytes has no comment
comment_place : (bytes : List ℕ) → AreCode bytes → before_first begins_comment bytes ≡ bytes
comment_place [] code = refl
comment_place (byte ∷ bytes) code =
    let one_more : 1 + position_or_len begins_comment bytes ≡ suc (position_or_len begins_comment bytes) = omega arith in
    ap (λ begins. take (cond (not begins) (1 + position_or_len begins_comment bytes) 0) (byte ∷ bytes)) code.0.no_comment
    ∙ ap (λ n. take n (byte ∷ bytes)) one_more
    ∙ ap (λ rest. byte ∷ rest) (comment_place bytes code.1)

pub code_of_code : (bytes : List ℕ) → AreCode bytes → code_of bytes ≡ bytes
code_of_code bytes code = comment_place bytes code

-- each of them may stand there
pub no_bad_byte : (bytes : List ℕ) → AreCode bytes → has_bad_byte bytes ≡ false
no_bad_byte [] code = refl
no_bad_byte (byte ∷ bytes) code =
    ap (λ bad. bad || has_bad_byte bytes) code.0.good ∙ no_bad_byte bytes code.1

-- they are the first line of a text in which LF follows them
pub line_of_code : (bytes rest : List ℕ) → AreCode bytes → lines_of (bytes ++ 10 ∷ rest) ≡ bytes ∷ lines_of rest
line_of_code [] rest code = refl
line_of_code (byte ∷ bytes) rest code =
    ap (λ ends. cond ends ([] ∷ lines_of (bytes ++ 10 ∷ rest)) (onto_first byte (lines_of (bytes ++ 10 ∷ rest)))) code.0.no_end
    ∙ ap (onto_first byte) (line_of_code bytes rest code.1)

-- a byte that a name may have is none of these
not_equal : (a b : ℕ) → a ≢ b → (a == b) ≡ false
not_equal a b differ = grind (arith, nat_tests)

-- it is printable, and so allowed
allowed : (byte : ℕ) → IsNameByte byte → is_allowed byte ≡ true
allowed byte is =
    let above : nat_le 33 byte ≡ true = let low = is.above_space in grind (arith, nat_tests) in
    let below : nat_le byte 126 ≡ true = let high = is.below_delete in grind (arith, nat_tests) in
    ap (λ test. test && (nat_le byte 126 && (not (byte == 34) && not (begins_comment byte)))) above
    ∙ ap (λ test. test && (not (byte == 34) && not (begins_comment byte))) below
    ∙ ap (λ test. not test && not (begins_comment byte)) (not_equal byte 34 is.no_quote)
    ∙ ap not (not_equal byte 35 is.no_hash)

-- it is no white space
not_blank : (byte : ℕ) → 32 < byte → is_blank byte ≡ false
not_blank byte above =
    let tab : (byte == 9) ≡ false = grind (arith, nat_tests) in
    let feed : (byte == 12) ≡ false = grind (arith, nat_tests) in
    let return : (byte == 13) ≡ false = grind (arith, nat_tests) in
    let space : (byte == 32) ≡ false = grind (arith, nat_tests) in
    ap (λ test. test || (byte == 12 || (byte == 13 || byte == 32))) tab
    ∙ ap (λ test. test || (byte == 13 || byte == 32)) feed
    ∙ ap (λ test. test || byte == 32) return
    ∙ space

-- so it is part of a name
pub class_of_name_byte : (byte : ℕ) → IsNameByte byte → class_of byte ≡ NamePart
class_of_name_byte byte is =
    let after_equals = λ (equals may : Bool). cond equals (Mark Equals) (cond may NamePart Bad) in
    let after_comma = λ (comma equals may : Bool). cond comma (Mark Comma) (after_equals equals may) in
    let after_close = λ (closes comma equals may : Bool). cond closes (Mark Close) (after_comma comma equals may) in
    let after_open = λ (opens closes comma equals may : Bool). cond opens (Mark Open) (after_close closes comma equals may) in
    let may = is_allowed byte in
    ap (λ test. cond test Blank (after_open (byte == 40) (byte == 41) (byte == 44) (byte == 61) may)) (not_blank byte is.above_space)
    ∙ ap (λ test. after_open test (byte == 41) (byte == 44) (byte == 61) may) (not_equal byte 40 is.no_open)
    ∙ ap (λ test. after_close test (byte == 44) (byte == 61) may) (not_equal byte 41 is.no_close)
    ∙ ap (λ test. after_comma test (byte == 61) may) (not_equal byte 44 is.no_comma)
    ∙ ap (λ test. after_equals test may) (not_equal byte 61 is.no_equals)
    ∙ ap (λ test. cond test NamePart Bad) (allowed byte is)

pub name_byte_is_code : (byte : ℕ) → IsNameByte byte → IsCode byte
name_byte_is_code byte is = record {
  good = ap is_bad (class_of_name_byte byte is);
  no_comment = not_equal byte 35 is.no_hash;
  no_end = let above = is.above_space in grind (arith, nat_tests);
}
