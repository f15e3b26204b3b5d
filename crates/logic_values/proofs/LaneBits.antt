-- One bit of a word as a truth value, through each operation on words.
use Rattle.std.proofs.Common.{◌≡◌, ⊎_elim, ℕ, ◌+◌, ◌-◌, ◌%◌, ◌^◌, ◌<◌, min, max, bit_and, bit_or, bit_xor, true, false, not, ◌&&◌, ◌||◌, ◌==◌, w64, refl, sym, ap, subst, ◌∙◌, arith}
use Rattle.std.specs.Bool.{beq}
use Rattle.std.specs.Int.{bit_at, bit_not}
use Rattle.std.proofs.lemmas.Bool.{cases_eq}
use Rattle.std.proofs.lemmas.Nat.Bits.{bit_at-lt, bit_at_and, bit_at_or, bit_at_xor, bit_at_not, bit_at_ones, bit_at-zero}
use Rattle.logic_values.specs.Lanes.{lane_of}

-- what holds at 0 and at 1 holds at each bit
at_bit : (P : ℕ → Type 0) → P 0 → P 1 → (x : ℕ) → x < 2 → P x
at_bit P clear set x within =
    ⊎_elim (λ e. subst P (sym e) clear) (λ differs. let e : x ≡ 1 = omega arith in subst P (sym e) set) (cases_eq x 0)

at_two_bits : (P : ℕ → ℕ → Type 0) → P 0 0 → P 0 1 → P 1 0 → P 1 1 → (a b lane : ℕ) → P (bit_at a lane) (bit_at b lane)
at_two_bits P p q r s a b lane =
    at_bit (λ x. P x (bit_at b lane))
    (at_bit (P 0) p q (bit_at b lane) (bit_at-lt b lane))
    (at_bit (P 1) r s (bit_at b lane) (bit_at-lt b lane))
    (bit_at a lane) (bit_at-lt a lane)

pub lane_of-and : (a b lane : ℕ) → lane_of (bit_and a b) lane ≡ (lane_of a lane && lane_of b lane)
lane_of-and a b lane =
    ap (λ bit. bit == 1) (bit_at_and a b lane)
    ∙ at_two_bits (λ x y. (min x y == 1) ≡ ((x == 1) && (y == 1))) refl refl refl refl a b lane

pub lane_of-or : (a b lane : ℕ) → lane_of (bit_or a b) lane ≡ (lane_of a lane || lane_of b lane)
lane_of-or a b lane =
    ap (λ bit. bit == 1) (bit_at_or a b lane)
    ∙ at_two_bits (λ x y. (max x y == 1) ≡ ((x == 1) || (y == 1))) refl refl refl refl a b lane

pub lane_of-xor : (a b lane : ℕ) → lane_of (bit_xor a b) lane ≡ not (beq (lane_of a lane) (lane_of b lane))
lane_of-xor a b lane =
    ap (λ bit. bit == 1) (bit_at_xor a b lane)
    ∙ at_two_bits (λ x y. ((x + y) % 2 == 1) ≡ not (beq (x == 1) (y == 1))) refl refl refl refl a b lane

pub lane_of-not : (word lane : ℕ) → word < 2 ^ 64 → lane < 64 → lane_of (bit_not w64 word) lane ≡ not (lane_of word lane)
lane_of-not word lane fits within =
    ap (λ bit. bit == 1) (bit_at_not w64 word lane fits within)
    ∙ at_bit (λ x. (1 - x == 1) ≡ not (x == 1)) refl refl (bit_at word lane) (bit_at-lt word lane)

-- each lane of the greatest word is 1
pub lane_of-ones : (lane : ℕ) → lane < 64 → lane_of (2 ^ 64 - 1) lane ≡ true
lane_of-ones lane within = ap (λ bit. bit == 1) (bit_at_ones 64 lane within)

-- no lane of the least word is 1
pub lane_of-none : (lane : ℕ) → lane_of 0 lane ≡ false
lane_of-none lane = ap (λ bit. bit == 1) (bit_at-zero lane)
