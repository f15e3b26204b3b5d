-- Sets of states as numbers, united out of parts: what operations make of two sets, and which states support a target, as numbers
-- that are computed from those of single states. For every kind of states.
use Rattle.std.proofs.Common.{◌≡◌, ℕ, zero, suc, ◌<◌, ◌^◌, ◌==◌, ◌⊎◌, inl, inr, ⊎_elim, Bool, true, false, cond, max, bit_or, sym, ap, subst, ◌∙◌, arith}
use Rattle.std.specs.Int.{bit_at}
use Rattle.std.proofs.lemmas.Bool.{cases_eq, cond-true, cond-false, eq-eqb, ne_eqb}
use Rattle.std.proofs.lemmas.Nat.{or_lt, pow_pos, pow_below}
use Rattle.std.proofs.lemmas.Nat.Bits.{bit_at_or, bit_at-lt, bit_at-zero, bit_at-pow_same, bit_at-pow_other}
use Rattle.state_sets.specs.declared.state.State.{State}
use Rattle.state_sets.specs.declared.state.StateSet.{StateSet}
use Rattle.netlist.specs.declared.op.Op.{Op}
use Rattle.state_sets.specs.StateAlgebra.{StateAlgebra, HasLaws}
use Rattle.state_sets.specs.StateSets.{AreJoins, AreSupporting, AreInversions}
use Rattle.state_sets.specs.ComputedLaws.{state_of}

-- the first of these sets, united
abbrev pub united : ℕ → (ℕ → ℕ) → ℕ
united zero part = 0
united (suc n) part = bit_or (part n) (united n part)

-- a set where a bit is 1, and else none
abbrev pub part_if : ℕ → ℕ → ℕ
part_if bit set = cond (bit == 1) set 0

pow_positive : (width : ℕ) → 0 < 2 ^ width
pow_positive width = pow_pos width

part_below : (width set : ℕ) → set < 2 ^ width → (one : Bool) → cond one set 0 < 2 ^ width
part_below width set within true = within
part_below width set within false = pow_positive width

-- a bit of two sets united
pub either_bit : (a b k : ℕ) → bit_at (bit_or a b) k ≡ 1 → (bit_at a k ≡ 1) ⊎ (bit_at b k ≡ 1)
either_bit a b k is =
    ⊎_elim (λ (one : bit_at a k ≡ 1). inl one)
    (λ (other : bit_at a k ≡ 1 → ⊥). inr (
    let low = bit_at-lt a k in let lower = bit_at-lt b k in
    let zero_a : bit_at a k ≡ 0 = grind (arith, other, low) in
    let most : max (bit_at a k) (bit_at b k) ≡ 1 = sym (bit_at_or a b k) ∙ is in
    grind (arith, most, zero_a)))
    (cases_eq (bit_at a k) 1)

pub left_bit : (a b k : ℕ) → bit_at a k ≡ 1 → bit_at (bit_or a b) k ≡ 1
left_bit a b k is =
    let low = bit_at-lt b k in
    bit_at_or a b k ∙ omega (arith, is, low)

pub right_bit : (a b k : ℕ) → bit_at b k ≡ 1 → bit_at (bit_or a b) k ≡ 1
right_bit a b k is =
    let low = bit_at-lt a k in
    bit_at_or a b k ∙ omega (arith, is, low)

-- what stands in sets united stands in one of them
pub in_united : (n : ℕ) (part : ℕ → ℕ) (k : ℕ) → bit_at (united n part) k ≡ 1 → (i : ℕ) × (i < n) × (bit_at (part i) k ≡ 1)
in_united zero part k is = absurd (omega (arith, is, bit_at-zero k))
in_united (suc n) part k is =
    ⊎_elim (λ (here : bit_at (part n) k ≡ 1). (n, omega arith, here))
    (λ (rest : bit_at (united n part) k ≡ 1). let found = in_united n part k rest in (found.0, omega (arith, found.1), found.2))
    (either_bit (part n) (united n part) k is)

-- and what stands in one of them stands there
pub united_in : (n : ℕ) (part : ℕ → ℕ) (k i : ℕ) → i < n → bit_at (part i) k ≡ 1 → bit_at (united n part) k ≡ 1
united_in zero part k i within is = absurd (omega arith)
united_in (suc n) part k i within is =
    ⊎_elim (λ (same : i ≡ n). left_bit (part n) (united n part) k (subst (λ j. bit_at (part j) k ≡ 1) same is))
    (λ (other : i ≡ n → ⊥). right_bit (part n) (united n part) k (united_in n part k i (omega (arith, within, other)) is))
    (cases_eq i n)

pub united_lt : (n width : ℕ) (part : ℕ → ℕ) → ((i : ℕ) → i < n → part i < 2 ^ width) → united n part < 2 ^ width
united_lt zero width part each = pow_positive width
united_lt (suc n) width part each =
    or_lt width (part n) (united n part) (each n (omega arith)) (united_lt n width part (λ i within. each i (omega arith)))

pub part_lt : (width bit set : ℕ) → set < 2 ^ width → part_if bit set < 2 ^ width
part_lt width bit set within = part_below width set within (bit == 1)

-- what stands in such a part
pub in_part : (bit set k : ℕ) → bit_at (part_if bit set) k ≡ 1 → (bit ≡ 1) × (bit_at set k ≡ 1)
in_part bit set k is =
    ⊎_elim (λ (one : bit ≡ 1). (one, ap (λ s. bit_at s k) (sym (cond-true (bit == 1) set 0 (eq-eqb bit 1 one))) ∙ is))
    (λ (other : bit ≡ 1 → ⊥).
    absurd (omega (arith, bit_at-zero k, ap (λ s. bit_at s k) (sym (cond-false (bit == 1) set 0 (ne_eqb bit 1 other))) ∙ is)))
    (cases_eq bit 1)

pub part_in : (bit set k : ℕ) → bit ≡ 1 → bit_at set k ≡ 1 → bit_at (part_if bit set) k ≡ 1
part_in bit set k one is = ap (λ s. bit_at s k) (cond-true (bit == 1) set 0 (eq-eqb bit 1 one)) ∙ is

-- the bit of a single state
pub single_bit : (j k : ℕ) → bit_at (2 ^ j) k ≡ 1 → k ≡ j
single_bit j k is =
    ⊎_elim (λ (same : k ≡ j). same) (λ (other : k ≡ j → ⊥). absurd (omega (arith, bit_at-pow_other j k other, is))) (cases_eq k j)

module _ (a : StateAlgebra) (op : Op) where
  -- the join of two states by their numbers
  abbrev pub join_number : ℕ → ℕ → ℕ
  join_number x y = (a.join op (state_of x) (state_of y)).0

  -- what one state and a set join to
  abbrev pub row_joins : ℕ → ℕ → ℕ
  row_joins second x = united a.count (λ y. part_if (bit_at second y) (2 ^ join_number x y))

  -- what two sets join to
  abbrev pub set_joins : ℕ → ℕ → ℕ
  set_joins first second = united a.count (λ x. part_if (bit_at first x) (row_joins second x))

  -- the states that join with one state into a target
  abbrev pub row_supports : ℕ → ℕ → ℕ
  row_supports target y = united a.count (λ k. part_if (bit_at target (join_number k y)) (2 ^ k))

  -- those that join with some state of a rest into it
  abbrev pub set_supports : ℕ → ℕ → ℕ
  set_supports rest target = united a.count (λ y. part_if (bit_at rest y) (row_supports target y))

  module _ (laws : HasLaws a) where
    -- such a set has exactly the joins
    pub joins_are : (first second set : StateSet) → set.0 ≡ set_joins first.0 second.0 → AreJoins a op first second set
    joins_are first second set is state = (
      λ has.
          let found = in_united a.count (λ x. part_if (bit_at first.0 x) (row_joins second.0 x)) state.0
          (ap (λ s. bit_at s state.0) (sym is) ∙ has.bit) in
          let row = in_part (bit_at first.0 found.0) (row_joins second.0 found.0) state.0 found.2 in
          let other = in_united a.count (λ y. part_if (bit_at second.0 y) (2 ^ join_number found.0 y)) state.0 row.1 in
          let single = in_part (bit_at second.0 other.0) (2 ^ join_number found.0 other.0) state.0 other.2 in
          record {
            left = state_of found.0;
            right = state_of other.0;
            in_first = record { in_range = found.1; bit = row.0 };
            in_second = record { in_range = other.1; bit = single.0 };
            joins = ap state_of (sym (single_bit (join_number found.0 other.0) state.0 single.1));
          },
      λ join. record {
        in_range = subst (λ (s : State). s.0 < a.count) join.joins
            (laws.join_within op join.left join.right join.in_first.in_range join.in_second.in_range);
        bit = ap (λ s. bit_at s state.0) is
            ∙ united_in a.count (λ x. part_if (bit_at first.0 x) (row_joins second.0 x)) state.0 join.left.0 join.in_first.in_range
            (part_in (bit_at first.0 join.left.0) (row_joins second.0 join.left.0) state.0 join.in_first.bit
            (united_in a.count (λ y. part_if (bit_at second.0 y) (2 ^ join_number join.left.0 y)) state.0 join.right.0
            join.in_second.in_range
            (part_in (bit_at second.0 join.right.0) (2 ^ join_number join.left.0 join.right.0) state.0 join.in_second.bit
            (subst (λ (s : State). bit_at (2 ^ join_number join.left.0 join.right.0) s.0 ≡ 1) join.joins
            (bit_at-pow_same (join_number join.left.0 join.right.0))))));
      },
    )

    -- and such a one exactly the states that support the target
    pub supports_are : (rest target set : StateSet) → set.0 ≡ set_supports rest.0 target.0 → AreSupporting a op rest target set
    supports_are rest target set is state = (
      λ has.
          let found = in_united a.count (λ y. part_if (bit_at rest.0 y) (row_supports target.0 y)) state.0
          (ap (λ s. bit_at s state.0) (sym is) ∙ has.bit) in
          let row = in_part (bit_at rest.0 found.0) (row_supports target.0 found.0) state.0 found.2 in
          let own = in_united a.count (λ k. part_if (bit_at target.0 (join_number k found.0)) (2 ^ k)) state.0 row.1 in
          let single = in_part (bit_at target.0 (join_number own.0 found.0)) (2 ^ own.0) state.0 own.2 in
          let same : own.0 ≡ state.0 = sym (single_bit own.0 state.0 single.1) in (
            has.in_range,
            record {
              other = state_of found.0;
              in_rest = record { in_range = found.1; bit = row.0 };
              hits = record {
                in_range = laws.join_within op state (state_of found.0) has.in_range found.1;
                bit = subst (λ k. bit_at target.0 (join_number k found.0) ≡ 1) same single.0;
              };
            },
          ),
      λ both. record {
        in_range = both.0;
        bit = ap (λ s. bit_at s state.0) is
            ∙ united_in a.count (λ y. part_if (bit_at rest.0 y) (row_supports target.0 y)) state.0 both.1.other.0 both.1.in_rest.in_range
            (part_in (bit_at rest.0 both.1.other.0) (row_supports target.0 both.1.other.0) state.0 both.1.in_rest.bit
            (united_in a.count (λ k. part_if (bit_at target.0 (join_number k both.1.other.0)) (2 ^ k)) state.0 state.0 both.0
            (part_in (bit_at target.0 (join_number state.0 both.1.other.0)) (2 ^ state.0) state.0 both.1.hits.bit
            (bit_at-pow_same state.0))));
      },
    )

    pub joins_lt : (first second : ℕ) → set_joins first second < 2 ^ a.count
    joins_lt first second =
        united_lt a.count a.count (λ x. part_if (bit_at first x) (row_joins second x)) (λ x in_x.
        part_lt a.count (bit_at first x) (row_joins second x)
        (united_lt a.count a.count (λ y. part_if (bit_at second y) (2 ^ join_number x y)) (λ y in_y.
        part_lt a.count (bit_at second y) (2 ^ join_number x y)
        (pow_below (join_number x y) a.count (laws.join_within op (state_of x) (state_of y) in_x in_y)))))

    pub supports_lt : (rest target : ℕ) → set_supports rest target < 2 ^ a.count
    supports_lt rest target =
        united_lt a.count a.count (λ y. part_if (bit_at rest y) (row_supports target y)) (λ y in_y.
        part_lt a.count (bit_at rest y) (row_supports target y)
        (united_lt a.count a.count (λ k. part_if (bit_at target (join_number k y)) (2 ^ k)) (λ k in_k.
        part_lt a.count (bit_at target (join_number k y)) (2 ^ k) (pow_below k a.count in_k))))

module _ (a : StateAlgebra) where
  -- the states whose inversion is in a set
  abbrev pub set_inversion : ℕ → ℕ
  set_inversion set = united a.count (λ k. part_if (bit_at set (a.invert (state_of k)).0) (2 ^ k))

  module _ (laws : HasLaws a) where
    pub inversions_are : (set inverted : StateSet) → inverted.0 ≡ set_inversion set.0 → AreInversions a set inverted
    inversions_are set inverted is state = (
      λ has.
          let found = in_united a.count (λ k. part_if (bit_at set.0 (a.invert (state_of k)).0) (2 ^ k)) state.0
          (ap (λ s. bit_at s state.0) (sym is) ∙ has.bit) in
          let single = in_part (bit_at set.0 (a.invert (state_of found.0)).0) (2 ^ found.0) state.0 found.2 in (
            has.in_range,
            record {
              in_range = laws.invert_within state has.in_range;
              bit = subst (λ k. bit_at set.0 (a.invert (state_of k)).0 ≡ 1) (sym (single_bit found.0 state.0 single.1)) single.0;
            },
          ),
      λ both. record {
        in_range = both.0;
        bit = ap (λ s. bit_at s state.0) is
            ∙ united_in a.count (λ k. part_if (bit_at set.0 (a.invert (state_of k)).0) (2 ^ k)) state.0 state.0 both.0
            (part_in (bit_at set.0 (a.invert state).0) (2 ^ state.0) state.0 both.1.bit (bit_at-pow_same state.0));
      },
    )

    pub inversion_lt : (set : ℕ) → set_inversion set < 2 ^ a.count
    inversion_lt set =
        united_lt a.count a.count (λ k. part_if (bit_at set (a.invert (state_of k)).0) (2 ^ k)) (λ k in_k.
        part_lt a.count (bit_at set (a.invert (state_of k)).0) (2 ^ k) (pow_below k a.count in_k))
