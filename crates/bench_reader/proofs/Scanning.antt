-- How the tokens of a text begin: with white space, which is none, with a mark, or with a whole name.
use Rattle.std.proofs.Common.{◌≡◌, ℕ, suc, ◌+◌, true, false, ◌||◌, cond, List, [], ◌∷◌, ◌++◌, take, drop, refl, ap, sym, ◌∙◌, subst, arith}
use Rattle.std.proofs.lemmas.Grind.{common_steps}
use Rattle.std.proofs.lemmas.List.{take-append-drop}
use Rattle.std.specs.List.{AllByRecursion, prefix_len}
use Rattle.bench_reader.specs.declared.byte.ByteClass.{ByteClass}
use Rattle.bench_reader.specs.declared.byte.ByteClass.TheVariants.{Blank, Mark, NamePart, Bad}
use Rattle.bench_reader.specs.Bytes.{class_of, has_bad_byte, is_bad, is_name_part, is_part}
use Rattle.bench_reader.specs.Seen.{BeginsWith}
use Rattle.bench_reader.specs.Tokens.{begins_name, name, tokens_of, with_byte, with_name_byte}

-- these bytes are parts of a name
abbrev pub AreParts : List ℕ → Type 0
AreParts bytes = AllByRecursion (λ byte. is_part byte ≡ true) bytes

-- what a part of a name is
class_of_part : (class : ByteClass) → is_name_part class ≡ true → class ≡ NamePart
class_of_part Blank is = cc
class_of_part (Mark which) is = cc
class_of_part NamePart is = refl
class_of_part Bad is = cc

-- a name before a text that does not go on with it is the first token
pub tokens_of_name : (byte : ℕ) (part rest : List ℕ) → AreParts (byte ∷ part) → begins_name rest ≡ false
    → tokens_of ((byte ∷ part) ++ rest) ≡ name (byte ∷ part) ∷ tokens_of rest
tokens_of_name byte [] rest parts ends =
    ap (λ class. with_byte class byte (begins_name rest) (tokens_of rest)) (class_of_part (class_of byte) parts.0)
    ∙ ap (λ goes_on. with_name_byte byte goes_on (tokens_of rest)) ends
tokens_of_name byte (next ∷ part) rest parts ends =
    let tail = next ∷ part ++ rest in
    ap (λ class. with_byte class byte (is_part next) (tokens_of tail)) (class_of_part (class_of byte) parts.0)
    ∙ ap (λ goes_on. with_name_byte byte goes_on (tokens_of tail)) parts.1.0
    ∙ ap (λ tokens. with_name_byte byte true tokens) (tokens_of_name next part rest parts.1 ends)

-- no byte of a name is one that may not stand there
pub has_bad_byte_name : (part rest : List ℕ) → AreParts part → has_bad_byte (part ++ rest) ≡ has_bad_byte rest
has_bad_byte_name [] rest parts = refl
has_bad_byte_name (byte ∷ part) rest parts =
    ap (λ class. is_bad class || has_bad_byte (part ++ rest)) (class_of_part (class_of byte) parts.0)
    ∙ has_bad_byte_name part rest parts.1

-- the longest front of parts of a name holds such parts
front_parts : (bytes : List ℕ) → AreParts (take (prefix_len is_part bytes) bytes)
front_parts [] = tt
front_parts (byte ∷ bytes) =
    let one_more : 1 + prefix_len is_part bytes ≡ suc (prefix_len is_part bytes) = omega arith in
    let P : ℕ → Type 0 = λ count. AreParts (take count (byte ∷ bytes)) in
    elim (is_part byte) as (λ part. is_part byte ≡ part → P (cond part (1 + prefix_len is_part bytes) 0)) [
      | true ↦ λ is. subst P (sym one_more) (is, front_parts bytes)
      | false ↦ λ is. tt
    ] refl

-- and no name goes on behind it
behind_front : (bytes : List ℕ) → begins_name (drop (prefix_len is_part bytes) bytes) ≡ false
behind_front [] = refl
behind_front (byte ∷ bytes) =
    let one_more : 1 + prefix_len is_part bytes ≡ suc (prefix_len is_part bytes) = omega arith in
    let P : ℕ → Type 0 = λ count. begins_name (drop count (byte ∷ bytes)) ≡ false in
    elim (is_part byte) as (λ part. is_part byte ≡ part → P (cond part (1 + prefix_len is_part bytes) 0)) [
      | true ↦ λ is. subst P (sym one_more) (behind_front bytes)
      | false ↦ λ is. is
    ] refl

-- a part of a name begins the longest name that stands there
name_in_front : (byte : ℕ) (bytes : List ℕ) → is_part byte ≡ true
    → let count = prefix_len is_part bytes in BeginsWith (byte ∷ bytes) (name (byte ∷ take count bytes)) (drop count bytes)
name_in_front byte bytes is =
    let count = prefix_len is_part bytes in
    let P : List ℕ → Type 0 = λ whole. BeginsWith (byte ∷ whole) (name (byte ∷ take count bytes)) (drop count bytes) in
    subst P (take-append-drop count bytes) (record {
      tokens = tokens_of_name byte (take count bytes) (drop count bytes) (is, front_parts bytes) (behind_front bytes);
      bad_bytes = has_bad_byte_name (byte ∷ take count bytes) (drop count bytes) (is, front_parts bytes);
      shorter = grind (arith, common_steps);
    })

-- a text that begins with a name begins with its longest front of parts of a name
pub begins_with_name : (code front rest : List ℕ) (count : ℕ) → begins_name code ≡ true → count ≡ prefix_len is_part code
    → front ≡ take count code → rest ≡ drop count code → BeginsWith code (name front) rest
begins_with_name [] front rest count begins is front_is rest_is = cc
begins_with_name (byte ∷ bytes) front rest count begins is front_is rest_is =
    let count_is : count ≡ suc (prefix_len is_part bytes) =
    is ∙ ap (λ part. cond part (1 + prefix_len is_part bytes) 0) begins ∙ omega arith in
    let front_now : front ≡ byte ∷ take (prefix_len is_part bytes) bytes =
    front_is ∙ ap (λ n. take n (byte ∷ bytes)) count_is in
    let rest_now : rest ≡ drop (prefix_len is_part bytes) bytes =
    rest_is ∙ ap (λ n. drop n (byte ∷ bytes)) count_is in
    rw (front_now, rest_now) (name_in_front byte bytes begins)
