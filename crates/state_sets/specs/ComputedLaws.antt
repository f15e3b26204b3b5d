-- Laws of a kind of states that are computed: each is tested at all states, or at all bits (this project's own).
use Rattle.std.proofs.Common.{◌≡◌, ℕ, zero, suc, ◌<◌, ◌≤◌, ◌==◌, ◌^◌, Bool, true, false, not, cond, ◌&&◌, ◌||◌, ⊎_elim, nat_lt, refl, sym, ap, subst}
use Rattle.std.specs.Int.{bit_at}
use Rattle.std.proofs.lemmas.Bool.{cases_Bool, ltb-true, lt-ltb, eqb-true, eq-eqb, not-true, and_parts, and_from}
use Rattle.std.proofs.lemmas.Bool.Decides.{Decides-below_and}
use Rattle.state_sets.specs.declared.state.State.{State}
use Rattle.netlist.specs.declared.op.Op.{Op}
use Rattle.netlist.specs.declared.op.Op.TheVariants.{And, Or, Xor}
use Rattle.state_sets.specs.States.{Has}
use Rattle.state_sets.specs.StateAlgebra.{StateAlgebra, HasLaws, MaySteady, joined_bit, unit_bit, same_bit, stays}

-- the test passes for all numbers below this one
abbrev pub all_below : ℕ → (ℕ → Bool) → Bool
all_below zero test = true
all_below (suc n) test = test n && all_below n test

-- for all operations
abbrev pub all_ops : (Op → Bool) → Bool
all_ops test = test And && (test Or && test Xor)

-- for both bits
abbrev pub both_bits : (Bool → Bool) → Bool
both_bits test = test true && test false

-- where the first bit is true, so is the second
abbrev pub implies : Bool → Bool → Bool
implies a b = cond a b true

-- the state of a number
abbrev pub state_of : ℕ → State
state_of n = record { 0 = n }

-- what is tested at all numbers below one holds at each
pub all_below_at : (n : ℕ) (test : ℕ → Bool) → all_below n test ≡ true → (k : ℕ) → k < n → test k ≡ true
all_below_at n test all k within =
    (Decides-below_and test (λ i. test i ≡ true) (λ m. all_below m test) (λ i. ((λ h. h), (λ h. h))) refl (λ _. refl) n).0
    all k within

pub all_ops_at : (test : Op → Bool) → all_ops test ≡ true → (op : Op) → test op ≡ true
all_ops_at test all And = (and_parts (test And) (test Or && test Xor) all).0
all_ops_at test all Or = (and_parts (test Or) (test Xor) (and_parts (test And) (test Or && test Xor) all).1).0
all_ops_at test all Xor = (and_parts (test Or) (test Xor) (and_parts (test And) (test Or && test Xor) all).1).1

pub both_bits_at : (test : Bool → Bool) → both_bits test ≡ true → (bit : Bool) → test bit ≡ true
both_bits_at test all true = (and_parts (test true) (test false) all).0
both_bits_at test all false = (and_parts (test true) (test false) all).1

pub implied : (a b : Bool) → implies a b ≡ true → a ≡ true → b ≡ true
implied true b tells is = tells
implied false b tells is = absurd cc

-- two bits that are tested to be one are
pub same_bit_tells : (a b : Bool) → same_bit a b ≡ true → a ≡ b
same_bit_tells true b same = sym same
same_bit_tells false b same = sym (not-true b same)

-- two states whose numbers are tested to be one are
pub same_state_tells : (x y : State) → (x.0 == y.0) ≡ true → x ≡ y
same_state_tells x y same = ap state_of (eqb-true x.0 y.0 same)

-- a test of one, two or three states passes at all states below a number
abbrev pub at_one : ℕ → (State → Bool) → Bool
at_one n test = all_below n (λ x. test (state_of x))

abbrev pub at_two : ℕ → (State → State → Bool) → Bool
at_two n test = all_below n (λ x. at_one n (test (state_of x)))

abbrev pub at_three : ℕ → (State → State → State → Bool) → Bool
at_three n test = all_below n (λ x. at_two n (test (state_of x)))

pub tells_one : (n : ℕ) (test : State → Bool) → at_one n test ≡ true → (x : State) → x.0 < n → test x ≡ true
tells_one n test all x within = all_below_at n (λ k. test (state_of k)) all x.0 within

pub tells_two : (n : ℕ) (test : State → State → Bool) → at_two n test ≡ true
    → (x y : State) → x.0 < n → y.0 < n → test x y ≡ true
tells_two n test all x y in_x in_y =
    tells_one n (test x) (all_below_at n (λ k. at_one n (test (state_of k))) all x.0 in_x) y in_y

pub tells_three : (n : ℕ) (test : State → State → State → Bool) → at_three n test ≡ true
    → (x y z : State) → x.0 < n → y.0 < n → z.0 < n → test x y z ≡ true
tells_three n test all x y z in_x in_y in_z =
    tells_two n (test x) (all_below_at n (λ k. at_two n (test (state_of k))) all x.0 in_x) y z in_y in_z

-- a test of three bits passes at all of them
abbrev pub at_bits : (Bool → Bool → Bool → Bool) → Bool
at_bits test = both_bits (λ a. both_bits (λ b. both_bits (test a b)))

pub tells_bits : (test : Bool → Bool → Bool → Bool) → at_bits test ≡ true → (a b c : Bool) → test a b c ≡ true
tells_bits test all a b c =
    both_bits_at (test a b) (both_bits_at (λ y. both_bits (test a y))
    (both_bits_at (λ x. both_bits (λ y. both_bits (test x y))) all a) b) c

-- whether a line may be steady or not with these values
abbrev pub may_steady : Bool → Bool → Bool → Bool
may_steady steady first last = implies steady (same_bit first last)

pub may_steady_from : (steady first last : Bool) → MaySteady steady first last → may_steady steady first last ≡ true
may_steady_from false first last may = refl
may_steady_from true true last may = sym (may refl)
may_steady_from true false true may = absurd (let none : false ≡ true = may refl in cc)
may_steady_from true false false may = refl

module _ (a : StateAlgebra) where
  -- the tests of the laws of a kind of states
  abbrev pub join_within_test : Op → State → State → Bool
  join_within_test op x y = nat_lt (a.join op x y).0 a.count

  abbrev pub associative_test : Op → State → State → State → Bool
  associative_test op x y z = (a.join op x (a.join op y z)).0 == (a.join op (a.join op x y) z).0

  abbrev pub commutative_test : Op → State → State → Bool
  commutative_test op x y = (a.join op x y).0 == (a.join op y x).0

  abbrev pub last_joins_test : Op → State → State → Bool
  last_joins_test op x y = same_bit (a.last (a.join op x y)) (joined_bit op (a.last x) (a.last y))

  abbrev pub of_joins_test : Op → Bool → Bool → Bool → Bool → Bool → Bool → Bool
  of_joins_test op s f l t g m =
      implies (may_steady s f l) (implies (may_steady t g m)
      ((a.join op (a.of s f l) (a.of t g m)).0 == (a.of (stays op s l t m) (joined_bit op f g) (joined_bit op l m)).0))

  abbrev pub of_links_test : Bool → Bool → Bool → Bool → Bool → Bool
  of_links_test s f l t m = implies (may_steady t l m) (a.link (a.of s f l) (a.of t l m))

  abbrev pub has_test : State → Bool
  has_test x = nat_lt x.0 a.count && (bit_at a.sources.0 x.0 == 1)

  abbrev pub source_of_test : State → Bool
  source_of_test x = implies (has_test x)
      ((a.of (a.steady x) (cond (a.steady x) (a.last x) (not (a.last x))) (a.last x)).0 == x.0)

  abbrev pub some_linked_test : State → Bool
  some_linked_test x = a.link (a.of true true true) x || a.link (a.of true false false) x

  -- all of them pass
  pub record PassesTests : Type 0 where
    pub few : a.count ≤ 8
    pub join_within : all_ops (λ op. at_two a.count (join_within_test op)) ≡ true
    pub unit_within : all_ops (λ op. nat_lt (a.unit op).0 a.count) ≡ true
    pub invert_within : at_one a.count (λ x. nat_lt (a.invert x).0 a.count) ≡ true
    pub sources_within : a.sources.0 < 2 ^ a.count
    pub associative : all_ops (λ op. at_three a.count (associative_test op)) ≡ true
    pub commutative : all_ops (λ op. at_two a.count (commutative_test op)) ≡ true
    pub unit_first : all_ops (λ op. at_one a.count (λ x. (a.join op (a.unit op) x).0 == x.0)) ≡ true
    pub invert_twice : at_one a.count (λ x. (a.invert (a.invert x)).0 == x.0) ≡ true
    pub last_joins : all_ops (λ op. at_two a.count (last_joins_test op)) ≡ true
    pub last_of_unit : all_ops (λ op. same_bit (a.last (a.unit op)) (unit_bit op)) ≡ true
    pub last_inverts : at_one a.count (λ x. same_bit (a.last (a.invert x)) (not (a.last x))) ≡ true
    pub of_within : at_bits (λ s f l. nat_lt (a.of s f l).0 a.count) ≡ true
    pub of_last : at_bits (λ s f l. same_bit (a.last (a.of s f l)) l) ≡ true
    pub of_steady : at_bits (λ s f l. same_bit (a.steady (a.of s f l)) s) ≡ true
    pub of_unit : all_ops (λ op. (a.unit op).0 == (a.of true (unit_bit op) (unit_bit op)).0) ≡ true
    pub of_joins : all_ops (λ op. at_bits (λ s f l. at_bits (of_joins_test op s f l))) ≡ true
    pub of_inverts : at_bits (λ s f l. (a.invert (a.of s f l)).0 == (a.of s (not f) (not l)).0) ≡ true
    pub of_links : at_bits (λ s f l. both_bits (λ t. both_bits (of_links_test s f l t))) ≡ true
    pub some_linked : at_one a.count some_linked_test ≡ true
    pub of_source : both_bits (λ f. both_bits (λ l. has_test (a.of (same_bit f l) f l))) ≡ true
    pub source_of : at_one a.count source_of_test ≡ true

  linked_by : (x : State) → some_linked_test x ≡ true → (bit : Bool) × (a.link (a.of true bit bit) x ≡ true)
  linked_by x is = ⊎_elim (λ (e : a.link (a.of true true true) x ≡ true). (true, e))
      (λ (e : a.link (a.of true true true) x ≡ false).
      (false, subst (λ (b : Bool). (b || a.link (a.of true false false) x) ≡ true) e is))
      (cases_Bool (a.link (a.of true true true) x))

  has_from : (x : State) → has_test x ≡ true → Has a.count a.sources x
  has_from x is =
      let parts = and_parts (nat_lt x.0 a.count) (bit_at a.sources.0 x.0 == 1) is in
      record { in_range = ltb-true x.0 a.count parts.0; bit = eqb-true (bit_at a.sources.0 x.0) 1 parts.1 }

  -- then the laws hold
  pub computed_laws : PassesTests → HasLaws a
  computed_laws tests = record {
    few = tests.few;
    join_within = λ op x y in_x in_y. ltb-true (a.join op x y).0 a.count
        (tells_two a.count (join_within_test op) (all_ops_at (λ o. at_two a.count (join_within_test o)) tests.join_within op) x y in_x in_y);
    unit_within = λ op. ltb-true (a.unit op).0 a.count (all_ops_at (λ o. nat_lt (a.unit o).0 a.count) tests.unit_within op);
    invert_within = λ x in_x. ltb-true (a.invert x).0 a.count
        (tells_one a.count (λ y. nat_lt (a.invert y).0 a.count) tests.invert_within x in_x);
    sources_within = tests.sources_within;
    associative = λ op x y z in_x in_y in_z. same_state_tells (a.join op x (a.join op y z)) (a.join op (a.join op x y) z)
        (tells_three a.count (associative_test op) (all_ops_at (λ o. at_three a.count (associative_test o)) tests.associative op)
        x y z in_x in_y in_z);
    commutative = λ op x y in_x in_y. same_state_tells (a.join op x y) (a.join op y x)
        (tells_two a.count (commutative_test op) (all_ops_at (λ o. at_two a.count (commutative_test o)) tests.commutative op) x y in_x in_y);
    unit_first = λ op x in_x. same_state_tells (a.join op (a.unit op) x) x
        (tells_one a.count (λ y. (a.join op (a.unit op) y).0 == y.0)
        (all_ops_at (λ o. at_one a.count (λ y. (a.join o (a.unit o) y).0 == y.0)) tests.unit_first op) x in_x);
    invert_twice = λ x in_x. same_state_tells (a.invert (a.invert x)) x
        (tells_one a.count (λ y. (a.invert (a.invert y)).0 == y.0) tests.invert_twice x in_x);
    last_joins = λ op x y in_x in_y. same_bit_tells (a.last (a.join op x y)) (joined_bit op (a.last x) (a.last y))
        (tells_two a.count (last_joins_test op) (all_ops_at (λ o. at_two a.count (last_joins_test o)) tests.last_joins op) x y in_x in_y);
    last_of_unit = λ op. same_bit_tells (a.last (a.unit op)) (unit_bit op)
        (all_ops_at (λ o. same_bit (a.last (a.unit o)) (unit_bit o)) tests.last_of_unit op);
    last_inverts = λ x in_x. same_bit_tells (a.last (a.invert x)) (not (a.last x))
        (tells_one a.count (λ y. same_bit (a.last (a.invert y)) (not (a.last y))) tests.last_inverts x in_x);
    of_within = λ s f l. ltb-true (a.of s f l).0 a.count (tells_bits (λ x y z. nat_lt (a.of x y z).0 a.count) tests.of_within s f l);
    of_last = λ s f l. same_bit_tells (a.last (a.of s f l)) l
        (tells_bits (λ x y z. same_bit (a.last (a.of x y z)) z) tests.of_last s f l);
    of_steady = λ s f l. same_bit_tells (a.steady (a.of s f l)) s
        (tells_bits (λ x y z. same_bit (a.steady (a.of x y z)) x) tests.of_steady s f l);
    of_unit = λ op. same_state_tells (a.unit op) (a.of true (unit_bit op) (unit_bit op))
        (all_ops_at (λ o. (a.unit o).0 == (a.of true (unit_bit o) (unit_bit o)).0) tests.of_unit op);
    of_joins = λ op s f l t g m may other. same_state_tells (a.join op (a.of s f l) (a.of t g m))
        (a.of (stays op s l t m) (joined_bit op f g) (joined_bit op l m))
        (implied (may_steady t g m) _ (implied (may_steady s f l) _
        (tells_bits (of_joins_test op s f l) (tells_bits (λ x y z. at_bits (of_joins_test op x y z))
        (all_ops_at (λ o. at_bits (λ x y z. at_bits (of_joins_test o x y z))) tests.of_joins op) s f l) t g m)
        (may_steady_from s f l may)) (may_steady_from t g m other));
    of_inverts = λ s f l. same_state_tells (a.invert (a.of s f l)) (a.of s (not f) (not l))
        (tells_bits (λ x y z. (a.invert (a.of x y z)).0 == (a.of x (not y) (not z)).0) tests.of_inverts s f l);
    of_links = λ s f l t m may. implied (may_steady t l m) (a.link (a.of s f l) (a.of t l m))
        (both_bits_at (of_links_test s f l t) (both_bits_at (λ x. both_bits (of_links_test s f l x))
        (tells_bits (λ x y z. both_bits (λ u. both_bits (of_links_test x y z u))) tests.of_links s f l) t) m)
        (may_steady_from t l m may);
    some_linked = λ x in_x. linked_by x (tells_one a.count some_linked_test tests.some_linked x in_x);
    of_source = λ f l. has_from (a.of (same_bit f l) f l)
        (both_bits_at (λ z. has_test (a.of (same_bit f z) f z))
        (both_bits_at (λ y. both_bits (λ z. has_test (a.of (same_bit y z) y z))) tests.of_source f) l);
    source_of = λ x has. same_state_tells (a.of (a.steady x) (cond (a.steady x) (a.last x) (not (a.last x))) (a.last x)) x
        (implied (has_test x) _ (tells_one a.count source_of_test tests.source_of x has.in_range)
        (has_tested x has));
  }
    where
      has_tested : (x : State) → Has a.count a.sources x → has_test x ≡ true
      has_tested x has = and_from (nat_lt x.0 a.count) (bit_at a.sources.0 x.0 == 1) (lt-ltb x.0 a.count has.in_range) (eq-eqb (bit_at a.sources.0 x.0) 1 has.bit)
