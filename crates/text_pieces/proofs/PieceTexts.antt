-- Texts that may be pieces of a line: neither the byte between pieces is in them, nor LF.
use Rattle.std.proofs.Common.{◌≡◌, ◌==◌, ◌<◌, ◌≤◌, ℕ, Bool, false, List, [], ◌∷◌, codes, length, get_or, ltb, refl, ap, arith, decimal}
use Rattle.std.specs.List.{AllByRecursion, join_with_byte, list_any}
use Rattle.std.proofs.lemmas.Bool.{or_parts}
use Rattle.std.proofs.lemmas.Bool.Decides.{nat_tests}
use Rattle.pd_base.specs.declared.fault.Direction.{Direction}
use Rattle.pd_base.specs.declared.fault.Direction.TheVariants.{Rise, Fall}
use Rattle.pd_base.specs.declared.fault.Kind.{Kind}
use Rattle.pd_base.specs.declared.fault.Kind.TheVariants.{Robust, Nonrobust}
use Rattle.text_pieces.specs.Tokens.{digits, direction_word, kind_word, line_feed}
use Rattle.text_pieces.specs.Cuts.{ArePieces, Lacks}
use Rattle.text_pieces.proofs.Decimals.{decimal_lacks}
use Rattle.text_pieces.proofs.Cuts.{joined_lacks}
use Rattle.text_pieces.proofs.Vectors.{bit_digits_lack}

pub record IsPiece (byte : ℕ) (text : List ℕ) : Type 0 where
  pub no_parting : Lacks byte text
  pub no_line_feed : Lacks line_feed text

all_lack : (byte : ℕ) (texts : List (List ℕ)) → AllByRecursion (IsPiece byte) texts → AllByRecursion (Lacks byte) texts
all_lack byte [] each = tt
all_lack byte (text ∷ texts) each = (each.0.no_parting, all_lack byte texts each.1)

all_lack_line_feed : (byte : ℕ) (texts : List (List ℕ)) → AllByRecursion (IsPiece byte) texts → AllByRecursion (Lacks line_feed) texts
all_lack_line_feed byte [] each = tt
all_lack_line_feed byte (text ∷ texts) each = (each.0.no_line_feed, all_lack_line_feed byte texts each.1)

-- one or more of them are the pieces of what they are joined to
pub are_pieces : (byte : ℕ) (texts : List (List ℕ)) → 1 ≤ length texts → AllByRecursion (IsPiece byte) texts → ArePieces byte texts
are_pieces byte texts some each = record { some_text = some; lack = all_lack byte texts each }

-- which is one line
pub joined_line : (byte : ℕ) (texts : List (List ℕ)) → (byte == line_feed) ≡ false → AllByRecursion (IsPiece byte) texts
    → Lacks line_feed (join_with_byte byte texts)
joined_line byte texts other each = joined_lacks line_feed byte texts other (all_lack_line_feed byte texts each)

-- ---- texts without the bytes below the digit 0, in the order of ASCII

-- a text that a test finds to have no such byte, as one known when the program is written
literal_lacks : (byte : ℕ) → byte < 48 → (text : List ℕ) → list_any (λ other. ltb other 48) text ≡ false → Lacks byte text
literal_lacks byte small [] none = tt
literal_lacks byte small (other ∷ text) none =
    let parts = or_parts (ltb other 48) (list_any (λ other. ltb other 48) text) none in
    (grind (arith, nat_tests, parts.0), literal_lacks byte small text parts.1)

module _ (byte : ℕ) (small : byte < 48) where
  pub literal_is_piece : (text : List ℕ) → list_any (λ other. ltb other 48) text ≡ false → IsPiece byte text
  literal_is_piece text none = record {
    no_parting = literal_lacks byte small text none;
    no_line_feed = literal_lacks line_feed (omega arith) text none;
  }

  pub decimal_is_piece : (number : ℕ) → IsPiece byte (decimal number)
  decimal_is_piece number = record { no_parting = decimal_lacks byte number small; no_line_feed = decimal_lacks line_feed number (omega arith) }

  pub digits_are_piece : (bits : List Bool) → IsPiece byte (digits bits)
  digits_are_piece bits = record { no_parting = bit_digits_lack byte small bits; no_line_feed = bit_digits_lack line_feed (omega arith) bits }

  pub direction_is_piece : (direction : Direction) → IsPiece byte (direction_word direction)
  direction_is_piece Rise = literal_is_piece (codes "rise") refl
  direction_is_piece Fall = literal_is_piece (codes "fall") refl

  pub kind_is_piece : (kind : Kind) → IsPiece byte (kind_word kind)
  kind_is_piece Robust = literal_is_piece (codes "robust") refl
  kind_is_piece Nonrobust = literal_is_piece (codes "nonrobust") refl

-- ---- each word is that of one transition, or of one kind

pub direction_once : (a b : Direction) → direction_word a ≡ direction_word b → a ≡ b
direction_once Rise Rise same = refl
direction_once Rise Fall same = absurd (omega (arith, ap (λ text. get_or text 0 0) same))
direction_once Fall Rise same = absurd (omega (arith, ap (λ text. get_or text 0 0) same))
direction_once Fall Fall same = refl

pub kind_once : (a b : Kind) → kind_word a ≡ kind_word b → a ≡ b
kind_once Robust Robust same = refl
kind_once Robust Nonrobust same = absurd (omega (arith, ap (λ text. get_or text 0 0) same))
kind_once Nonrobust Robust same = absurd (omega (arith, ap (λ text. get_or text 0 0) same))
kind_once Nonrobust Nonrobust same = refl
