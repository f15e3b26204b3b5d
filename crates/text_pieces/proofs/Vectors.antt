-- Bits by their digits, one for each.
use Rattle.std.proofs.Common.{◌≡◌, ◌<◌, ℕ, Bool, true, false, List, [], ◌∷◌, All, Option, Some, None, IfSome, length, map, ap, sym, refl, ◌∙◌, arith}
use Rattle.std.specs.List.{AllByRecursion}
use Rattle.std.proofs.lemmas.Bool.Decides.{nat_tests}
use Rattle.std.proofs.lemmas.List.{length-map}
use Rattle.text_pieces.specs.Tokens.{digit, digits}
use Rattle.text_pieces.proofs.Listing.{map_once}
use Rattle.text_pieces.specs.Cuts.{Lacks}
use Rattle.text_pieces.specs.Reads.{Reads}

-- so many as there are digits
pub bits_read : (count : ℕ) (word : List ℕ) (read : Option (List Bool)) → length word ≡ count
    → Reads (λ all. map digit all) (All (λ bit. Unit {0})) word read → Reads digits (λ bits. length bits ≡ count) word read
bits_read count word read long reads = record {
  found = found read reads.found;
  only = λ bits h is. reads.only bits (λ k d within. tt) is;
}
  where
    found : (read : Option (List Bool)) → IfSome read (λ bits. All (λ bit. Unit {0}) bits × (word ≡ map digit bits))
        → IfSome read (λ bits. (length bits ≡ count) × (word ≡ digits bits))
    found None h = tt
    found (Some bits) h = (sym (ap length h.1 ∙ length-map bits digit) ∙ long, h.1)

-- the digits are those of one vector
digit_once : (a b : Bool) → digit a ≡ digit b → a ≡ b
digit_once true true same = refl
digit_once true false same = absurd (omega (arith, same))
digit_once false true same = absurd (omega (arith, same))
digit_once false false same = refl

all_bits : (bits : List Bool) → AllByRecursion (λ bit. Unit {0}) bits
all_bits [] = tt
all_bits (bit ∷ bits) = (tt, all_bits bits)

pub digits_once : (bits others : List Bool) → digits bits ≡ digits others → bits ≡ others
digits_once bits others same = map_once digit (λ bit. Unit {0}) (λ a b h h'. digit_once a b) bits others (all_bits bits) (all_bits others) same

-- no byte but these two is in the digits
pub bit_digits_lack : (byte : ℕ) → byte < 48 → (bits : List Bool) → Lacks byte (digits bits)
bit_digits_lack byte small [] = tt
bit_digits_lack byte small (true ∷ bits) = (grind (arith, nat_tests), bit_digits_lack byte small bits)
bit_digits_lack byte small (false ∷ bits) = (grind (arith, nat_tests), bit_digits_lack byte small bits)
