-- What a kind of states is, as all definitions see it, and the laws that it keeps (this project's own).
use Rattle.std.specs.Prelude.{◌≡◌, ℕ, ◌<◌, ◌≤◌, ◌^◌, Bool, true, false, not, cond, ◌&&◌, ◌||◌, List, [], ◌∷◌}
use Rattle.state_sets.specs.declared.state.State.{State}
use Rattle.state_sets.specs.declared.state.StateSet.{StateSet}
use Rattle.state_sets.specs.States.{Has}
use Rattle.netlist.specs.declared.op.Op.{Op}
use Rattle.netlist.specs.declared.op.Op.TheVariants.{And, Or, Xor}

-- The states are numbered from 0 to below a count. They are joined by the three operations, each with its unit, and inverted.
-- Each has a last value, and is steady or not. A source may have some of them. A source in one state may be linked to a line in
-- another one, or not. A line that is steady or not, and has these values under the two vectors, is in one of them.
pub record StateAlgebra : Type 0 where
  pub count : ℕ
  pub join : Op → State → State → State
  pub unit : Op → State
  pub invert : State → State
  pub last : State → Bool
  pub steady : State → Bool
  pub sources : StateSet
  pub link : State → State → Bool
  pub of : Bool → Bool → Bool → State

-- what an operation makes of two bits
abbrev pub joined_bit : Op → Bool → Bool → Bool
joined_bit And a b = a && b
joined_bit Or a b = a || b
joined_bit Xor a b = cond a (not b) b

-- the bit that an operation has for no bits at all
abbrev pub unit_bit : Op → Bool
unit_bit And = true
unit_bit Or = false
unit_bit Xor = false

-- Whether what an operation makes of two lines is steady, of which each is steady or not and has this last value: where both are, and
-- where one is steady at the value that decides an AND or an OR.
abbrev pub stays : Op → Bool → Bool → Bool → Bool → Bool
stays And steady bit other_steady other_bit = (steady && other_steady) || ((steady && not bit) || (other_steady && not other_bit))
stays Or steady bit other_steady other_bit = (steady && other_steady) || ((steady && bit) || (other_steady && other_bit))
stays Xor steady bit other_steady other_bit = steady && other_steady

-- whether two bits are one
abbrev pub same_bit : Bool → Bool → Bool
same_bit a b = cond a b (not b)

-- a steady line has one value under both vectors
abbrev pub MaySteady : Bool → Bool → Bool → Type 0
MaySteady steady first last = steady ≡ true → first ≡ last

-- The laws of a kind of states, for states below the count: what is made of them is below it too, and so is each state of a source;
-- the join is associative and
-- commutative, with its unit; inversion undoes itself; the last value of a join is the operation's bit of the last values, and
-- that of an inversion is the other bit. The state of a line has its last value and steadiness; the states of lines join to that of
-- what the operation makes of their values, and a source may be linked to a line whose first value is the last one of the source.
-- A source is steady where its two bits are one, and else changes. To a line in any state some source may be linked that is steady.
pub record HasLaws (a : StateAlgebra) : Type 0 where
  pub few : a.count ≤ 8
  pub join_within : (op : Op) (x y : State) → x.0 < a.count → y.0 < a.count → (a.join op x y).0 < a.count
  pub unit_within : (op : Op) → (a.unit op).0 < a.count
  pub invert_within : (x : State) → x.0 < a.count → (a.invert x).0 < a.count
  pub sources_within : a.sources.0 < 2 ^ a.count
  pub associative : (op : Op) (x y z : State) → x.0 < a.count → y.0 < a.count → z.0 < a.count
      → a.join op x (a.join op y z) ≡ a.join op (a.join op x y) z
  pub commutative : (op : Op) (x y : State) → x.0 < a.count → y.0 < a.count → a.join op x y ≡ a.join op y x
  pub unit_first : (op : Op) (x : State) → x.0 < a.count → a.join op (a.unit op) x ≡ x
  pub invert_twice : (x : State) → x.0 < a.count → a.invert (a.invert x) ≡ x
  pub last_joins : (op : Op) (x y : State) → x.0 < a.count → y.0 < a.count
      → a.last (a.join op x y) ≡ joined_bit op (a.last x) (a.last y)
  pub last_of_unit : (op : Op) → a.last (a.unit op) ≡ unit_bit op
  pub last_inverts : (x : State) → x.0 < a.count → a.last (a.invert x) ≡ not (a.last x)
  pub of_within : (steady first last : Bool) → (a.of steady first last).0 < a.count
  pub of_last : (steady first last : Bool) → a.last (a.of steady first last) ≡ last
  pub of_steady : (steady first last : Bool) → a.steady (a.of steady first last) ≡ steady
  pub of_unit : (op : Op) → a.unit op ≡ a.of true (unit_bit op) (unit_bit op)
  pub of_joins : (op : Op) (s f l t g m : Bool) → MaySteady s f l → MaySteady t g m
      → a.join op (a.of s f l) (a.of t g m) ≡ a.of (stays op s l t m) (joined_bit op f g) (joined_bit op l m)
  pub of_inverts : (steady first last : Bool) → a.invert (a.of steady first last) ≡ a.of steady (not first) (not last)
  pub of_links : (s f l t m : Bool) → MaySteady t l m → a.link (a.of s f l) (a.of t l m) ≡ true
  pub some_linked : (x : State) → x.0 < a.count → (bit : Bool) × (a.link (a.of true bit bit) x ≡ true)
  pub of_source : (first last : Bool) → Has a.count a.sources (a.of (same_bit first last) first last)
  pub source_of : (x : State) → Has a.count a.sources x
      → a.of (a.steady x) (cond (a.steady x) (a.last x) (not (a.last x))) (a.last x) ≡ x

-- a list of states joined by an operation
abbrev pub joined : StateAlgebra → Op → List State → State
joined a op [] = a.unit op
joined a op (state ∷ states) = a.join op state (joined a op states)
