-- Tests at all bits and at all five values, for what is computed there.
use Rattle.std.proofs.Common.{◌≡◌, ℕ, ◌==◌, Bool, true, false, ◌&&◌, if◌then◌else◌, refl, sym, ap, ◌∙◌}
use Rattle.std.proofs.lemmas.Bool.{and_parts, eqb-true}
use Rattle.five_valued.specs.declared.five.Five.{Five}
use Rattle.five_valued.specs.declared.five.Five.TheVariants.{S0, S1, U0, U1, XX}

-- the test passes at both bits
abbrev pub all_bits : (Bool → Bool) → Bool
all_bits test = test false && test true

pub at_bit : (test : Bool → Bool) → all_bits test ≡ true → (bit : Bool) → test bit ≡ true
at_bit test all false = (and_parts (test false) (test true) all).0
at_bit test all true = (and_parts (test false) (test true) all).1

-- the same of two bits
abbrev pub all_pairs : (Bool → Bool → Bool) → Bool
all_pairs test = all_bits (λ a. all_bits (test a))

pub at_pair : (test : Bool → Bool → Bool) → all_pairs test ≡ true → (a b : Bool) → test a b ≡ true
at_pair test all a b = at_bit (test a) (at_bit (λ x. all_bits (test x)) all a) b

-- the test passes at all five values
abbrev pub all_fives : (Five → Bool) → Bool
all_fives test = test S0 && (test S1 && (test U0 && (test U1 && test XX)))

module _ (test : Five → Bool) (all : all_fives test ≡ true) where
  behind_s0 : (test S1 && (test U0 && (test U1 && test XX))) ≡ true
  behind_s0 = (and_parts (test S0) (test S1 && (test U0 && (test U1 && test XX))) all).1

  behind_s1 : (test U0 && (test U1 && test XX)) ≡ true
  behind_s1 = (and_parts (test S1) (test U0 && (test U1 && test XX)) behind_s0).1

  behind_u0 : (test U1 && test XX) ≡ true
  behind_u0 = (and_parts (test U0) (test U1 && test XX) behind_s1).1

  pub at_five : (value : Five) → test value ≡ true
  at_five S0 = (and_parts (test S0) (test S1 && (test U0 && (test U1 && test XX))) all).0
  at_five S1 = (and_parts (test S1) (test U0 && (test U1 && test XX)) behind_s0).0
  at_five U0 = (and_parts (test U0) (test U1 && test XX) behind_s1).0
  at_five U1 = (and_parts (test U1) (test XX) behind_u0).0
  at_five XX = (and_parts (test U1) (test XX) behind_u0).1

-- the same of two values
abbrev pub all_five_pairs : (Five → Five → Bool) → Bool
all_five_pairs test = all_fives (λ a. all_fives (test a))

pub at_five_pair : (test : Five → Five → Bool) → all_five_pairs test ≡ true → (a b : Five) → test a b ≡ true
at_five_pair test all a b = at_five (test a) (at_five (λ x. all_fives (test x)) all a) b

-- a number for each value, and back
abbrev number_of : Five → ℕ
number_of S0 = 0
number_of S1 = 1
number_of U0 = 2
number_of U1 = 3
number_of XX = 4

abbrev of_number : ℕ → Five
of_number n = if n == 0 then S0 else if n == 1 then S1 else if n == 2 then U0 else if n == 3 then U1 else XX

back : (value : Five) → of_number (number_of value) ≡ value
back S0 = refl
back S1 = refl
back U0 = refl
back U1 = refl
back XX = refl

-- whether two values are one
abbrev pub same_five : Five → Five → Bool
same_five a b = number_of a == number_of b

pub same_five_tells : (a b : Five) → same_five a b ≡ true → a ≡ b
same_five_tells a b same = sym (back a) ∙ ap of_number (eqb-true (number_of a) (number_of b) same) ∙ back b
