-- A gate's value is told by how many of its pins are 1.
use Rattle.std.proofs.Common.{◌≡◌, ℕ, suc, ◌≤◌, Bool, true, false, not, eqb, List, [], ◌∷◌, length, refl, ap, ap₂, sym, subst}
use Rattle.std.proofs.Common.{zero-add, one-add, ◌∙◌, arith}
use Rattle.std.proofs.lemmas.List.Sums.{sum_by-cons}
use Rattle.std.proofs.lemmas.Bool.Decides.{nat_tests}
use Rattle.netlist.specs.declared.kind.GateKind.{GateKind}
use Rattle.netlist.specs.declared.kind.GateKind.TheVariants.{And, Nand, Or, Nor, Xor, Xnor, Not, Buff}
use Rattle.netlist.specs.Lawful.{IsFanIn}
use Rattle.netlist.specs.Values.{all_true, any_true, parity, only_value, gate_value}
use Rattle.delay_replay.specs.PinChanges.{one, ones}
use Rattle.delay_replay.proofs.Turning.{is_odd, odd_suc}

-- a 0 does not count
ones_skip : (values : List Bool) → ones (false ∷ values) ≡ ones values
ones_skip values = sum_by-cons one false values ∙ zero-add (ones values)

-- a 1 counts once
ones_more : (values : List Bool) → ones (true ∷ values) ≡ suc (ones values)
ones_more values = sum_by-cons one true values ∙ one-add (ones values)

-- no more values are 1 than there are values
ones_most : (values : List Bool) → ones values ≤ length values
ones_most [] = omega arith
ones_most (true ∷ values) = omega (arith, ones_more values, ones_most values)
ones_most (false ∷ values) = omega (arith, ones_skip values, ones_most values)

-- all values are 1 where as many are as there are values
all_by_ones : (values : List Bool) → all_true values ≡ eqb (ones values) (length values)
all_by_ones [] = refl
all_by_ones (true ∷ values) = all_by_ones values ∙ shift (ones values) (ones (true ∷ values)) (length values) (ones_more values)
  where
    shift : (n m k : ℕ) → m ≡ suc n → eqb n k ≡ eqb m (suc k)
    shift n m k e = grind (arith, nat_tests)
all_by_ones (false ∷ values) = fewer (ones values) (ones (false ∷ values)) (length values) (ones_skip values) (ones_most values)
  where
    fewer : (n m k : ℕ) → m ≡ n → n ≤ k → false ≡ eqb m (suc k)
    fewer n m k e most = grind (arith, nat_tests)

-- some value is 1 where not none is
any_by_ones : (values : List Bool) → any_true values ≡ not (eqb (ones values) 0)
any_by_ones [] = refl
any_by_ones (true ∷ values) = more (ones values) (ones (true ∷ values)) (ones_more values)
  where
    more : (n m : ℕ) → m ≡ suc n → true ≡ not (eqb m 0)
    more n m e = grind (arith, nat_tests)
any_by_ones (false ∷ values) = any_by_ones values ∙ ap (λ n. not (eqb n 0)) (sym (ones_skip values))

-- the parity is that of how many values are 1
parity_by_ones : (values : List Bool) → parity values ≡ is_odd (ones values)
parity_by_ones [] = refl
parity_by_ones (true ∷ values) = ap not (parity_by_ones values) ∙ sym (odd_suc (ones values)) ∙ ap is_odd (sym (ones_more values))
parity_by_ones (false ∷ values) = parity_by_ones values ∙ ap is_odd (sym (ones_skip values))

-- the only value is 1 where not none is
only_by_ones : (values : List Bool) → length values ≡ 1 → only_value values ≡ not (eqb (ones values) 0)
only_by_ones [] single = absurd (omega arith)
only_by_ones (true ∷ []) single = refl
only_by_ones (false ∷ []) single = refl
only_by_ones (value ∷ other ∷ values) single = absurd (omega arith)

-- what is turned twice is as before
pub twice : (value : Bool) → not (not value) ≡ value
twice true = refl
twice false = refl

-- How many pins are 1 tells the value of a gate of each kind.
module _ (kind : GateKind) (pins count : ℕ) (values : List Bool) (many : length values ≡ pins) (counted : ones values ≡ count) where
  all_counted : eqb count pins ≡ all_true values
  all_counted = ap₂ eqb (sym counted) (sym many) ∙ sym (all_by_ones values)

  any_counted : not (eqb count 0) ≡ any_true values
  any_counted = ap (λ n. not (eqb n 0)) (sym counted) ∙ sym (any_by_ones values)

  only_counted : length values ≡ 1 → not (eqb count 0) ≡ only_value values
  only_counted single = ap (λ n. not (eqb n 0)) (sym counted) ∙ sym (only_by_ones values single)

  odd_counted : is_odd count ≡ parity values
  odd_counted = ap is_odd (sym counted) ∙ sym (parity_by_ones values)

  pub and_counted : kind ≡ And → eqb count pins ≡ gate_value kind values
  and_counted is = subst (λ k. eqb count pins ≡ gate_value k values) (sym is) all_counted

  pub nand_counted : kind ≡ Nand → not (eqb count pins) ≡ gate_value kind values
  nand_counted is = subst (λ k. not (eqb count pins) ≡ gate_value k values) (sym is) (ap not all_counted)

  pub or_counted : kind ≡ Or → not (eqb count 0) ≡ gate_value kind values
  or_counted is = subst (λ k. not (eqb count 0) ≡ gate_value k values) (sym is) any_counted

  pub nor_counted : kind ≡ Nor → eqb count 0 ≡ gate_value kind values
  nor_counted is = subst (λ k. eqb count 0 ≡ gate_value k values) (sym is) (sym (twice (eqb count 0)) ∙ ap not any_counted)

  pub xor_counted : kind ≡ Xor → is_odd count ≡ gate_value kind values
  xor_counted is = subst (λ k. is_odd count ≡ gate_value k values) (sym is) odd_counted

  pub xnor_counted : kind ≡ Xnor → not (is_odd count) ≡ gate_value kind values
  xnor_counted is = subst (λ k. not (is_odd count) ≡ gate_value k values) (sym is) (ap not odd_counted)

  pub buff_counted : IsFanIn kind (length values) → kind ≡ Buff → not (eqb count 0) ≡ gate_value kind values
  buff_counted fan_in is =
      subst (λ k. not (eqb count 0) ≡ gate_value k values) (sym is) (only_counted (subst (λ k. IsFanIn k (length values)) is fan_in))

  pub not_counted : IsFanIn kind (length values) → kind ≡ Not → eqb count 0 ≡ gate_value kind values
  not_counted fan_in is =
      subst (λ k. eqb count 0 ≡ gate_value k values) (sym is)
      (sym (twice (eqb count 0)) ∙ ap not (only_counted (subst (λ k. IsFanIn k (length values)) is fan_in)))
