-- The values hold for every pair of vectors whose sources they hold for: what gates make of values has the states that gates
-- make of states.
use Rattle.std.proofs.Common.{◌≡◌, ℕ, ◌<◌, ◌==◌, Bool, true, false, cond, ◌&&◌, if◌then◌else◌, List, [], ◌∷◌, map, refl, sym, subst, subst₂, ◌∙◌}
use Rattle.std.specs.List.{All}
use Rattle.std.specs.Int.{bit_at}
use Rattle.std.proofs.lemmas.Bool.{eqb-true, eq-eqb, and_from, cond-true}
use Rattle.std.proofs.lemmas.List.Elements.{All-head, All-tail}
use Rattle.pd_base.specs.Pair.{Vectors}
use Rattle.pd_base.specs.declared.ids.LineId.{LineId}
use Rattle.netlist.specs.declared.kind.GateKind.{GateKind}
use Rattle.netlist.specs.Circuit.{Circuit, source_count, line_count, kind_at, pins_at}
use Rattle.netlist.specs.Lawful.{IsCircuit}
use Rattle.netlist.proofs.Evaluation.{line_induction, value_at_source, value_at_gate}
use Rattle.netlist.specs.declared.op.Op.{Op}
use Rattle.netlist.specs.declared.op.Op.TheVariants.{And, Or, Xor}
use Rattle.state_sets.specs.declared.state.State.{State}
use Rattle.state_sets.specs.States.{Has}
use Rattle.state_sets.specs.StateAlgebra.{joined}
use Rattle.state_sets.specs.FourStates.{four_states}
use Rattle.state_sets.specs.ComputedLaws.{all_below, all_below_at, state_of}
use Rattle.state_sets.specs.FourLaws.{four_laws}
use Rattle.state_sets.specs.LineStates.{state_under}
use Rattle.netlist.specs.Gates.{op_of, is_inverting}
use Rattle.state_sets.specs.Narrowing.{inverted_if, gate_state}
use Rattle.state_laws.proofs.PairStates.{gate_state_under}
use Rattle.five_valued.specs.declared.five.Five.{Five}
use Rattle.five_valued.specs.FiveValues.{joined_five, inverted, gate_five, five_at, five_value}
use Rattle.five_valued.specs.FiveSets.{states_of}
use Rattle.five_valued.proofs.FiveTests.{all_fives, at_five, all_five_pairs, at_five_pair}
use Rattle.five_valued.proofs.Joins.{joined-cons}

-- the state is one of the value's
abbrev Holds : Five → State → Type 0
Holds value state = Has 4 (states_of value) state

abbrev holds : Five → ℕ → Bool
holds value state = bit_at (states_of value).0 state == 1

-- whether the join of two values has the join of two states that they have
abbrev join_holds : Op → Five → Five → ℕ → ℕ → Bool
join_holds op a b x y =
    cond (holds a x && holds b y) (holds (joined_five op (a ∷ b ∷ [])) (four_states.join op (state_of x) (state_of y)).0) true

joins_test : (op : Op) → all_five_pairs (λ a b. all_below 4 (λ x. all_below 4 (join_holds op a b x))) ≡ true
joins_test And = refl
joins_test Or = refl
joins_test Xor = refl

pair_holds : (op : Op) (a b : Five) (x y : State) → Holds a x → Holds b y
    → Holds (joined_five op (a ∷ b ∷ [])) (four_states.join op x y)
pair_holds op a b x y in_a in_b =
    let test : join_holds op a b x.0 y.0 ≡ true = all_below_at 4 (join_holds op a b x.0)
    (all_below_at 4 (λ k. all_below 4 (join_holds op a b k))
    (at_five_pair (λ v w. all_below 4 (λ k. all_below 4 (join_holds op v w k))) (joins_test op) a b)
    x.0 in_a.in_range) y.0 in_b.in_range in
    let both : (holds a x.0 && holds b y.0) ≡ true = and_from (holds a x.0) (holds b y.0)
    (eq-eqb (bit_at (states_of a).0 x.0) 1 in_a.bit) (eq-eqb (bit_at (states_of b).0 y.0) 1 in_b.bit) in
    record {
      in_range = four_laws.join_within op x y in_a.in_range in_b.in_range;
      bit = eqb-true (bit_at (states_of (joined_five op (a ∷ b ∷ []))).0 (four_states.join op x y).0) 1
          (sym (cond-true (holds a x.0 && holds b y.0) _ true both) ∙ test);
    }

-- the same of no states, and of inversion
unit_holds : (op : Op) → Holds (joined_five op []) (four_states.unit op)
unit_holds And = record { in_range = four_laws.unit_within And; bit = refl }
unit_holds Or = record { in_range = four_laws.unit_within Or; bit = refl }
unit_holds Xor = record { in_range = four_laws.unit_within Xor; bit = refl }

abbrev inversion_holds : Five → ℕ → Bool
inversion_holds a x = cond (holds a x) (holds (inverted a) (four_states.invert (state_of x)).0) true

inversions_test : all_fives (λ a. all_below 4 (inversion_holds a)) ≡ true
inversions_test = refl

inverted_holds : (a : Five) (x : State) → Holds a x → Holds (inverted a) (four_states.invert x)
inverted_holds a x in_a =
    let test : inversion_holds a x.0 ≡ true = all_below_at 4 (inversion_holds a)
    (at_five (λ v. all_below 4 (inversion_holds v)) inversions_test a) x.0 in_a.in_range in
    record {
      in_range = four_laws.invert_within x in_a.in_range;
      bit = eqb-true (bit_at (states_of (inverted a)).0 (four_states.invert x).0) 1
          (sym (cond-true (holds a x.0) _ true (eq-eqb (bit_at (states_of a).0 x.0) 1 in_a.bit)) ∙ test);
    }

inverts_if : (inverts : Bool) (a : Five) (x : State) → Holds a x
    → Holds (if inverts then inverted a else a) (inverted_if four_states inverts x)
inverts_if false a x in_a = in_a
inverts_if true a x in_a = inverted_holds a x in_a

module _ (value : LineId → Five) (state : LineId → State) where
  -- what an operation makes of all pins
  list_holds : (op : Op) (lines : List LineId) → All (λ line. Holds (value line) (state line)) lines
      → Holds (joined_five op (map value lines)) (joined four_states op (map state lines))
  list_holds op [] all = unit_holds op
  list_holds op (line ∷ lines) all =
      let first = All-head (λ (l : LineId). Holds (value l) (state l)) line lines all in
      let others = list_holds op lines (All-tail (λ (l : LineId). Holds (value l) (state l)) line lines all) in
      subst (λ v. Holds v (joined four_states op (map state (line ∷ lines))))
      (sym (joined-cons op (value line) (map value lines)))
      (pair_holds op (value line) (joined_five op (map value lines)) (state line) (joined four_states op (map state lines))
      first others)

  -- and what a gate does
  gate_holds : (kind : GateKind) (lines : List LineId) → All (λ line. Holds (value line) (state line)) lines
      → Holds (gate_five kind (map value lines)) (gate_state four_states kind (map state lines))
  gate_holds kind lines all =
      inverts_if (is_inverting kind) (joined_five (op_of kind) (map value lines))
      (joined four_states (op_of kind) (map state lines)) (list_holds (op_of kind) lines all)

module _ (c : Circuit) (is : IsCircuit c) (pair : Vectors) (partial : List Five) where
  -- where each source is in a state of its value, each line is
  pub line_holds : ((source : ℕ) → source < source_count c → Holds (five_at partial source) (state_under four_states c pair source))
      → (line : ℕ) → line < line_count c → Holds (five_value c partial line) (state_under four_states c pair line)
  line_holds sources =
      let step = λ (gate : ℕ) (values : List Five). gate_five (kind_at c gate) values in
      line_induction c is.reads_lines (λ line. Holds (five_value c partial line) (state_under four_states c pair line))
      (λ line source. subst (λ v. Holds v (state_under four_states c pair line))
      (sym (value_at_source c (five_at partial) step line source)) (sources line source))
      (λ gate within pins. subst₂ Holds
      (sym (value_at_gate c (five_at partial) step is.reads_lines is.loop_free gate within))
      (sym (gate_state_under four_states four_laws c is pair gate within))
      (gate_holds (λ line. five_value c partial line.0) (λ line. state_under four_states c pair line.0)
      (kind_at c gate) (pins_at c gate) pins))
      is.loop_free
