-- What is read from tables that were computed at all places, for any kind of states: the joins of two states and of two sets, the states
-- that support a target, and the inversions into a set.
use Rattle.std.proofs.Common.{◌≡◌, ℕ, ◌+◌, ◌*◌, ◌<◌, ◌≤◌, ◌^◌, true, List, length, get_or, sym, ap, subst, ◌∙◌, arith}
use Rattle.std.proofs.Math.Nat.{mul-le-mul_right}
use Rattle.netlist.specs.declared.op.Op.{Op}
use Rattle.netlist.specs.declared.op.Op.TheVariants.{And, Or, Xor}
use Rattle.state_sets.specs.declared.state.State.{State}
use Rattle.state_sets.specs.declared.state.StateSet.{StateSet}
use Rattle.state_sets.specs.States.{IsWithin}
use Rattle.state_sets.specs.StateAlgebra.{StateAlgebra, HasLaws}
use Rattle.state_sets.specs.StateSets.{AreJoins, AreSupporting, AreInversions}
use Rattle.state_sets.specs.ComputedLaws.{state_of}
use Rattle.state_sets.proofs.UnitedSets.{join_number, set_joins, set_supports, joins_are, supports_are, joins_lt, supports_lt, set_inversion, inversions_are, inversion_lt}
use Rattle.state_sets.proofs.NumberTables.{all_are, is_at, by_rows, in_rows}

-- what is true of each of the three operations
pub of_each : (P : Op → Type 0) → P And → P Or → P Xor → (op : Op) → P op
of_each P and or xor And = and
of_each P and or xor Or = or
of_each P and or xor Xor = xor

-- the tables of a kind of states, and how many sets of states there are
pub record Tables : Type 0 where
  pub sets : ℕ
  pub states : Op → List ℕ
  pub joins : Op → List ℕ
  pub supports : Op → List ℕ
  pub inversions : List ℕ

-- they have at each place what the operations make of the two states or sets of its row and column
pub record AreTables (a : StateAlgebra) (tables : Tables) : Type 0 where
  pub all_sets : tables.sets ≡ 2 ^ a.count
  pub states_long : (op : Op) → length (tables.states op) ≡ a.count * a.count
  pub joins_long : (op : Op) → length (tables.joins op) ≡ tables.sets * tables.sets
  pub supports_long : (op : Op) → length (tables.supports op) ≡ tables.sets * tables.sets
  pub inversions_long : length tables.inversions ≡ tables.sets
  pub states : (op : Op) → all_are (by_rows a.count (join_number a op)) 0 (tables.states op) ≡ true
  pub joins : (op : Op) → all_are (by_rows tables.sets (set_joins a op)) 0 (tables.joins op) ≡ true
  pub supports : (op : Op) → all_are (by_rows tables.sets (set_supports a op)) 0 (tables.supports op) ≡ true
  pub inversions : all_are (set_inversion a) 0 tables.inversions ≡ true

-- a place of a square table
in_square : (places row column : ℕ) → row < places → column < places → row * places + column < places * places
in_square places row column in_row in_column =
    let above : (row + 1) * places ≤ places * places = mul-le-mul_right places (omega (arith, in_row)) in
    omega (arith, above, in_column)

place_of : (places row column : ℕ) → row < places → column < places → (long : ℕ) → long ≡ places * places → row * places + column < long
place_of places row column in_row in_column long is = omega (arith, is, in_square places row column in_row in_column)

module _ (a : StateAlgebra) (laws : HasLaws a) (tables : Tables) (are : AreTables a tables) where
  is_set : (set : ℕ) → set < 2 ^ a.count → set < tables.sets
  is_set set within = subst (λ n. set < n) (sym are.all_sets) within

  module _ (op : Op) (x y : State) (in_x : x.0 < a.count) (in_y : y.0 < a.count) (table : List ℕ) (is_table : table ≡ tables.states op) where
    pub states_place : x.0 * a.count + y.0 < length table
    states_place = place_of a.count x.0 y.0 in_x in_y (length table) (ap length is_table ∙ are.states_long op)

    -- a state that was read from the table is the join
    pub is_join : (found : ℕ) → found ≡ get_or table (x.0 * a.count + y.0) 0 → state_of found ≡ a.join op x y
    is_join found is =
        ap state_of
        (is
        ∙ in_rows a.count (join_number a op) table
        (subst (λ t. all_are (by_rows a.count (join_number a op)) 0 t ≡ true) (sym is_table) (are.states op)) x.0 y.0 states_place in_y)

  module _ (op : Op) (x y : StateSet) (in_x : IsWithin a.count x) (in_y : IsWithin a.count y) (table : List ℕ)
      (is_table : table ≡ tables.joins op) where
    pub joins_place : x.0 * tables.sets + y.0 < length table
    joins_place = place_of tables.sets x.0 y.0 (is_set x.0 in_x) (is_set y.0 in_y) (length table) (ap length is_table ∙ are.joins_long op)

    module _ (found : ℕ) (is : found ≡ get_or table (x.0 * tables.sets + y.0) 0) where
      joins_number : found ≡ set_joins a op x.0 y.0
      joins_number =
          is
          ∙ in_rows tables.sets (set_joins a op) table
          (subst (λ t. all_are (by_rows tables.sets (set_joins a op)) 0 t ≡ true) (sym is_table) (are.joins op)) x.0 y.0 joins_place (is_set y.0 in_y)

      -- a set that was read from the table of joins has exactly these
      pub joins_within : found < 2 ^ a.count
      joins_within = subst (λ s. s < 2 ^ a.count) (sym joins_number) (joins_lt a op laws x.0 y.0)

      pub are_joins : AreJoins a op x y (record { 0 = found })
      are_joins = joins_are a op laws x y (record { 0 = found }) joins_number

  module _ (op : Op) (rest target : StateSet) (in_rest : IsWithin a.count rest) (in_target : IsWithin a.count target) (table : List ℕ)
      (is_table : table ≡ tables.supports op) where
    pub supports_place : rest.0 * tables.sets + target.0 < length table
    supports_place =
        place_of tables.sets rest.0 target.0 (is_set rest.0 in_rest) (is_set target.0 in_target) (length table)
        (ap length is_table ∙ are.supports_long op)

    module _ (found : ℕ) (is : found ≡ get_or table (rest.0 * tables.sets + target.0) 0) where
      supports_number : found ≡ set_supports a op rest.0 target.0
      supports_number =
          is
          ∙ in_rows tables.sets (set_supports a op) table
          (subst (λ t. all_are (by_rows tables.sets (set_supports a op)) 0 t ≡ true) (sym is_table) (are.supports op)) rest.0 target.0
          supports_place (is_set target.0 in_target)

      -- and one from the table of supports exactly the states that join with some state of the rest into the target
      pub supports_within : found < 2 ^ a.count
      supports_within = subst (λ s. s < 2 ^ a.count) (sym supports_number) (supports_lt a op laws rest.0 target.0)

      pub are_supporting : AreSupporting a op rest target (record { 0 = found })
      are_supporting = supports_are a op laws rest target (record { 0 = found }) supports_number

  module _ (set : StateSet) (within : IsWithin a.count set) (found : StateSet) (is : found.0 ≡ get_or tables.inversions set.0 0) where
    inverted_number : found.0 ≡ set_inversion a set.0
    inverted_number =
        let here : 0 + set.0 ≡ set.0 = omega arith in
        let inside : set.0 < length tables.inversions = omega (arith, is_set set.0 within, are.inversions_long) in
        is ∙ is_at (set_inversion a) 0 tables.inversions are.inversions set.0 inside ∙ ap (set_inversion a) here

    -- and one from the table of inversions exactly the inversions
    pub inversions_within : found.0 < 2 ^ a.count
    inversions_within = subst (λ s. s < 2 ^ a.count) (sym inverted_number) (inversion_lt a laws set.0)

    pub are_inversions : AreInversions a set found
    are_inversions = inversions_are a laws set found inverted_number
