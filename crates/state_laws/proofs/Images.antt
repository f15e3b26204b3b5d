-- The states that a gate has of the choices out of some sets, as a set: the image of the sets.
use Rattle.std.proofs.Common.{◌≡◌, ◌≢◌, ℕ, zero, suc, ◌<◌, ◌^◌, ◌==◌, ◌↔◌, ◌&&◌, ◌||◌, ⊎_elim, Bool, true, false, bit_or, List, [], ◌∷◌, refl, sym, ap, ◌∙◌, arith}
use Rattle.std.specs.Bool.{Decides}
use Rattle.std.specs.Int.{bit_at}
use Rattle.std.proofs.lemmas.Bool.{cases_Bool, cases_eq, false≢true}
use Rattle.std.proofs.lemmas.Bool.Decides.{Decides-below_or, Decides-and, Decides-like, Decides-eqb}
use Rattle.std.proofs.lemmas.Nat.{or_lt, pow_below}
use Rattle.std.proofs.lemmas.Nat.Bits.{bit_at-zero, bit_at-lt, bit_at_or, bit_at-pow_same, bit_at-pow_other}
use Rattle.netlist.specs.declared.kind.GateKind.{GateKind}
use Rattle.netlist.specs.declared.op.Op.{Op}
use Rattle.netlist.specs.Gates.{op_of, is_inverting}
use Rattle.state_sets.specs.declared.state.State.{State}
use Rattle.state_sets.specs.declared.state.StateSet.{StateSet}
use Rattle.state_sets.specs.States.{Has, no_states}
use Rattle.state_sets.specs.StateAlgebra.{StateAlgebra, HasLaws, joined}
use Rattle.state_sets.specs.Narrowing.{IsChoice, inverted_if, gate_state}
use Rattle.state_sets.specs.Narrowing.IsChoice.{none, one}
use Rattle.state_laws.proofs.Sets.{no_state_left}

-- the state of a number
abbrev pub state_of : ℕ → State
state_of n = record { 0 = n }

-- the test passes for some number below this one
abbrev pub any_below : ℕ → (ℕ → Bool) → Bool
any_below zero test = false
any_below (suc n) test = test n || any_below n test

pub any_decides : (P : ℕ → Type 0) (test : ℕ → Bool) → ((k : ℕ) → Decides (test k) (P k)) → (n : ℕ)
    → Decides (any_below n test) ((k : ℕ) × (k < n) × P k)
any_decides P test each = Decides-below_or test P (λ n. any_below n test) each refl (λ n. refl)

-- a set below the count that isn't the empty one has some state
pub has_some : (count : ℕ) (set : StateSet) → set.0 < 2 ^ count → set ≢ no_states → (state : State) × Has count set state
has_some count set within some =
    let found = any_decides (λ k. bit_at set.0 k ≡ 1) (λ k. bit_at set.0 k == 1) (λ k. Decides-eqb (bit_at set.0 k) 1) count in
    ⊎_elim
    (λ (yes : any_below count (λ k. bit_at set.0 k == 1) ≡ true).
    let at = found.0 yes in (state_of at.0, record { in_range = at.1; bit = at.2 }))
    (λ (no : any_below count (λ k. bit_at set.0 k == 1) ≡ false).
    absurd (some (no_state_left count set within
    (λ state has. false≢true (sym no ∙ found.1 (state.0, has.in_range, has.bit))))))
    (cases_Bool (any_below count (λ k. bit_at set.0 k == 1)))

-- a number with one bit more, or as it is
abbrev with_bit : Bool → ℕ → ℕ → ℕ
with_bit true set k = bit_or set (2 ^ k)
with_bit false set k = set

-- the number whose bits are those below a bound that pass a test
abbrev pub gathered : ℕ → (ℕ → Bool) → ℕ
gathered zero test = 0
gathered (suc k) test = with_bit (test k) (gathered k test) k

module _ (test : ℕ → Bool) where
  -- the bits of a number are those below the bound that pass
  abbrev pub Gathers : ℕ → ℕ → Type 0
  Gathers bound set = (j : ℕ) → (bit_at set j ≡ 1) ↔ ((j < bound) × (test j ≡ true))

  gathers_none : Gathers 0 0
  gathers_none j = ((λ is. absurd (omega (arith, is, bit_at-zero j))), λ both. absurd (omega (arith, both.0)))

  with_other : (k set j : ℕ) → j ≢ k → (passes : Bool) → bit_at (with_bit passes set k) j ≡ bit_at set j
  with_other k set j away true =
      let e = bit_at_or set (2 ^ k) j in let f = bit_at-pow_other k j away in omega arith
  with_other k set j away false = refl

  with_this : (k set : ℕ) → (bit_at set k ≡ 1 → ⊥) → (passes : Bool) → Decides passes (bit_at (with_bit passes set k) k ≡ 1)
  with_this k set not true =
      ((λ e. let e = bit_at_or set (2 ^ k) k in let f = bit_at-pow_same k in let g = bit_at-lt set k in omega arith), λ is. refl)
  with_this k set not false = ((λ e. absurd (false≢true e)), λ is. absurd (not is))

  gathers_more : (k set : ℕ) → Gathers k set → Gathers (suc k) (with_bit (test k) set k)
  gathers_more k set before j = ⊎_elim
      (λ (same : j ≡ k).
      let not : bit_at set k ≡ 1 → ⊥ = λ is. (let b = ((before k).0 is).0 in omega arith) in
      let this = with_this k set not (test k) in (
        (λ is. (omega arith, ap test same ∙ this.1 (ap (bit_at (with_bit (test k) set k)) (sym same) ∙ is))),
        λ both. ap (bit_at (with_bit (test k) set k)) same ∙ this.0 (ap test (sym same) ∙ both.1),
      ))
      (λ (away : j ≢ k).
      let e = with_other k set j away (test k) in (
        (λ is. let both = (before j).0 (sym e ∙ is) in (omega (arith, both.0), both.1)),
        λ both. e ∙ (before j).1 (omega (arith, both.0, away), both.1),
      ))
      (cases_eq j k)

  pub gathers : (k : ℕ) → Gathers k (gathered k test)
  gathers zero = gathers_none
  gathers (suc k) = gathers_more k (gathered k test) (gathers k)

  with_within : (k set : ℕ) → set < 2 ^ k → (passes : Bool) → with_bit passes set k < 2 ^ suc k
  with_within k set within true =
      or_lt (suc k) set (2 ^ k) (let f = pow_below k (suc k) (omega arith) in omega arith) (pow_below k (suc k) (omega arith))
  with_within k set within false = let f = pow_below k (suc k) (omega arith) in omega arith

  pub gathered_within : (k : ℕ) → gathered k test < 2 ^ k
  gathered_within zero = omega arith
  gathered_within (suc k) = with_within k (gathered k test) (gathered_within k) (test k)

module _ (a : StateAlgebra) (laws : HasLaws a) where
  -- what a choice out of sets joins to is below the count, and so is the state of a gate
  pub joined_below : (op : Op) {sets : List StateSet} {choice : List State} → IsChoice a.count sets choice → (joined a op choice).0 < a.count
  joined_below op none = laws.unit_within op
  joined_below op (one {state = state} {states = states} has rest) =
      laws.join_within op state (joined a op states) has.in_range (joined_below op rest)

  pub inverted_below : (inverts : Bool) (state : State) → state.0 < a.count → (inverted_if a inverts state).0 < a.count
  inverted_below true state below = laws.invert_within state below
  inverted_below false state below = below

  -- some choice out of the sets joins to the state of this number
  record Reaches (op : Op) (sets : List StateSet) (n : ℕ) : Type 0 where
    pub choice : List State
    pub each : IsChoice a.count sets choice
    pub joins : (joined a op choice).0 ≡ n

  -- a state of the first set, and what a choice out of the others joins to, join to it
  abbrev ReachesBy : Op → StateSet → List StateSet → ℕ → ℕ → ℕ → Type 0
  ReachesBy op set sets n x y = ((bit_at set.0 x ≡ 1) × Reaches op sets y) × ((a.join op (state_of x) (state_of y)).0 ≡ n)

  abbrev reaches : Op → List StateSet → ℕ → Bool
  reaches op [] n = (a.unit op).0 == n
  reaches op (set ∷ sets) n = any_below a.count (λ x. any_below a.count (λ y.
      ((bit_at set.0 x == 1) && reaches op sets y) && ((a.join op (state_of x) (state_of y)).0 == n)))

  only_unit : (op : Op) (n : ℕ) {choice : List State} → IsChoice a.count [] choice → (joined a op choice).0 ≡ n → (a.unit op).0 ≡ n
  only_unit op n none is = is

  by_first : (op : Op) (set : StateSet) (sets : List StateSet) (n : ℕ) {choice : List State} → IsChoice a.count (set ∷ sets) choice
      → (joined a op choice).0 ≡ n → (x : ℕ) × (x < a.count) × ((y : ℕ) × (y < a.count) × ReachesBy op set sets n x y)
  by_first op set sets n (one {state = state} {states = states} has rest) is = (
    state.0,
    has.in_range,
    (
      (joined a op states).0,
      joined_below op rest,
      ((has.bit, record { choice = states; each = rest; joins = refl }), is),
    ),
  )

  of_first : (op : Op) (set : StateSet) (sets : List StateSet) (n : ℕ)
      → ((x : ℕ) × (x < a.count) × ((y : ℕ) × (y < a.count) × ReachesBy op set sets n x y)) → Reaches op (set ∷ sets) n
  of_first op set sets n found =
      let rest = found.2.2.0.1 in record {
        choice = state_of found.0 ∷ rest.choice;
        each = one (record { in_range = found.1; bit = found.2.2.0.0 }) rest.each;
        joins = ap (λ (m : ℕ). (a.join op (state_of found.0) (state_of m)).0) rest.joins ∙ found.2.2.1;
      }

  reaches_is : (op : Op) (sets : List StateSet) (n : ℕ) → Decides (reaches op sets n) (Reaches op sets n)
  reaches_is op [] n =
      Decides-like ((a.unit op).0 == n) (λ is. record { choice = []; each = none; joins = is })
      (λ (r : Reaches op [] n). only_unit op n r.each r.joins) (Decides-eqb (a.unit op).0 n)
  reaches_is op (set ∷ sets) n =
      Decides-like (reaches op (set ∷ sets) n) (of_first op set sets n)
      (λ (r : Reaches op (set ∷ sets) n). by_first op set sets n r.each r.joins)
      (any_decides (λ x. (y : ℕ) × (y < a.count) × ReachesBy op set sets n x y) _
      (λ x. any_decides (ReachesBy op set sets n x) _
      (λ y. Decides-and ((bit_at set.0 x == 1) && reaches op sets y) ((a.join op (state_of x) (state_of y)).0 == n)
      (Decides-and (bit_at set.0 x == 1) (reaches op sets y) (Decides-eqb (bit_at set.0 x) 1) (reaches_is op sets y))
      (Decides-eqb (a.join op (state_of x) (state_of y)).0 n)) a.count) a.count)

  -- a gate of this kind makes the state of this number of some choice
  abbrev may_make : GateKind → List StateSet → ℕ → Bool
  may_make kind sets n = any_below a.count (λ m.
      reaches (op_of kind) sets m && ((inverted_if a (is_inverting kind) (state_of m)).0 == n))

  makes_is : (kind : GateKind) (sets : List StateSet) (n : ℕ) → Decides (may_make kind sets n)
      ((m : ℕ) × (m < a.count) × (Reaches (op_of kind) sets m × ((inverted_if a (is_inverting kind) (state_of m)).0 ≡ n)))
  makes_is kind sets n =
      any_decides (λ m. Reaches (op_of kind) sets m × ((inverted_if a (is_inverting kind) (state_of m)).0 ≡ n)) _
      (λ m. Decides-and (reaches (op_of kind) sets m) ((inverted_if a (is_inverting kind) (state_of m)).0 == n)
      (reaches_is (op_of kind) sets m) (Decides-eqb (inverted_if a (is_inverting kind) (state_of m)).0 n)) a.count

  -- the states that a gate of this kind has of choices out of the sets
  abbrev pub image : GateKind → List StateSet → StateSet
  image kind sets = record { 0 = gathered a.count (may_make kind sets) }

  -- it has such a choice for each of its states
  pub record Makes (kind : GateKind) (sets : List StateSet) (state : State) : Type 0 where
    pub choice : List State
    pub each : IsChoice a.count sets choice
    pub makes : gate_state a kind choice ≡ state

  pub image_has : (kind : GateKind) (sets : List StateSet) (state : State) → Has a.count (image kind sets) state → Makes kind sets state
  image_has kind sets state has =
      let found = (makes_is kind sets state.0).0 ((gathers (may_make kind sets) a.count state.0).0 has.bit).1 in
      let reached = found.2.0 in record {
        choice = reached.choice;
        each = reached.each;
        makes = ap (λ (m : ℕ). inverted_if a (is_inverting kind) (state_of m)) reached.joins ∙ ap state_of found.2.1;
      }

  pub has_image : (kind : GateKind) (sets : List StateSet) {choice : List State} → IsChoice a.count sets choice
      → Has a.count (image kind sets) (gate_state a kind choice)
  has_image kind sets {choice} each =
      let state = gate_state a kind choice in
      let joins = joined a (op_of kind) choice in
      let below : state.0 < a.count = inverted_below (is_inverting kind) joins (joined_below (op_of kind) each) in
      record {
        in_range = below;
        bit = (gathers (may_make kind sets) a.count state.0).1 (
          below,
          (makes_is kind sets state.0).1
              (joins.0, joined_below (op_of kind) each, (record { choice = choice; each = each; joins = refl }, refl)),
        );
      }

  pub image_within : (kind : GateKind) (sets : List StateSet) → (image kind sets).0 < 2 ^ a.count
  image_within kind sets = gathered_within (may_make kind sets) a.count
