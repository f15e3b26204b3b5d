-- The states of the lines under a pair of vectors agree at each gate, and meet there the condition that the pair meets. So
-- narrowing at one gate loses no pair.
use Rattle.std.proofs.Common.{◌≡◌, ℕ, ◌<◌, Bool, true, false, not, cond, ◌&&◌, ◌||◌, List, [], ◌∷◌, map, length, get_or, slice_get, Option, Some, None, option_map, is_some, if◌then◌else◌, unwrap_or, refl, sym, ap, ap₂, ◌∙◌, subst, arith}
use Rattle.std.specs.List.{list_all, list_any}
use Rattle.std.proofs.lemmas.Bool.{false≢true}
use Rattle.std.proofs.lemmas.List.{get_or-map, length-map}
use Rattle.std.proofs.lemmas.Option.{slice_get-get_or, get_or_from_slice_get, slice_get_within}
use Rattle.pd_base.specs.Pair.{Vectors}
use Rattle.pd_base.specs.declared.ids.LineId.{LineId}
use Rattle.pd_base.specs.declared.fault.Kind.{Kind}
use Rattle.netlist.specs.declared.kind.GateKind.{GateKind}
use Rattle.netlist.specs.declared.kind.GateKind.TheVariants.{And, Nand, Or, Nor, Xor, Xnor, Not, Buff}
use Rattle.netlist.specs.Circuit.{Circuit, gate_count, gate_line, kind_at, pins_at}
use Rattle.netlist.specs.Lawful.{IsCircuit, IsFanIn}
use Rattle.netlist.specs.Values.{value, bit_of, gate_value, all_true, any_true, parity}
use Rattle.netlist.specs.Steadiness.{is_steady, steady_value, agreed_bit, is_known_as, known_gate_value, known_all, known_any, known_parity}
use Rattle.netlist.specs.Conditions.{side_condition, Allows, SidesAllowed}
use Rattle.netlist.proofs.Evaluation.{value_at_gate}
use Rattle.path_laws.proofs.Steadiness.{steady_first, steady_second}
use Rattle.netlist.specs.declared.op.Op.TheVariants as ops
use Rattle.netlist.specs.declared.op.Op.{Op}
use Rattle.state_sets.specs.declared.state.State.{State}
use Rattle.state_sets.specs.StateAlgebra.{StateAlgebra, HasLaws, MaySteady, joined, joined_bit, stays}
use Rattle.state_sets.specs.LineStates.{state_under}
use Rattle.state_sets.specs.Narrowing.{gate_state, AgreesAt, SidesMeetAt, state_at}
use Rattle.state_laws.proofs.SourceStates.{last_under, steady_under}

-- where a value is known, both values are this one
pub data IsKnown : Option Bool → Bool → Bool → Type 0 where
  steady : (bit : Bool) → IsKnown (Some bit) bit bit
  moving : (first last : Bool) → IsKnown None first last

pub known_from : (known : Option Bool) (first last : Bool) → ((b : Bool) → known ≡ Some b → first ≡ b)
    → ((b : Bool) → known ≡ Some b → last ≡ b) → IsKnown known first last
known_from None first last before after = moving first last
known_from (Some b) first last before after =
    subst (λ f. IsKnown (Some b) f last) (sym (before b refl)) (subst (λ l. IsKnown (Some b) b l) (sym (after b refl)) (steady b))

-- such a line has one value under both vectors where it is steady
pub known_may : {known : Option Bool} {first last : Bool} → IsKnown known first last → MaySteady (is_some known) first last
known_may (steady bit) is = refl
known_may (moving first last) is = absurd (false≢true is)

-- one value more in a conjunction, a disjunction and a parity
abbrev both_known : Option Bool → Option Bool → Option Bool
both_known (Some false) rest = Some false
both_known (Some true) rest = rest
both_known None (Some false) = Some false
both_known None (Some true) = None
both_known None None = None

abbrev either_known : Option Bool → Option Bool → Option Bool
either_known (Some true) rest = Some true
either_known (Some false) rest = rest
either_known None (Some true) = Some true
either_known None (Some false) = None
either_known None None = None

abbrev odd_known : Option Bool → Option Bool → Option Bool
odd_known (Some bit) rest = option_map (λ b. cond bit (not b) b) rest
odd_known None rest = None

abbrev picked : Bool → Bool → Bool → Option Bool
picked bit first second = if first then Some bit else if second then Some (not bit) else None

all_more : (known : Option Bool) (first second : Bool)
    → picked false (is_known_as false known || first) (is_known_as true known && second) ≡ both_known known (picked false first second)
all_more (Some false) first second = refl
all_more (Some true) first second = refl
all_more None true second = refl
all_more None false true = refl
all_more None false false = refl

any_more : (known : Option Bool) (first second : Bool)
    → picked true (is_known_as true known || first) (is_known_as false known && second) ≡ either_known known (picked true first second)
any_more (Some true) first second = refl
any_more (Some false) first second = refl
any_more None true second = refl
any_more None false true = refl
any_more None false false = refl

odd_more : (known : Option Bool) (all bits : Bool)
    → (if is_some known && all then Some (cond (unwrap_or known false) (not bits) bits) else None)
    ≡ odd_known known (if all then Some bits else None)
odd_more None all bits = refl
odd_more (Some bit) true bits = refl
odd_more (Some bit) false bits = refl

both_known_is : {k rest : Option Bool} {f l g m : Bool} → IsKnown k f l → IsKnown rest g m
    → IsKnown (both_known k rest) (joined_bit ops.And f g) (joined_bit ops.And l m)
both_known_is (steady false) other = steady false
both_known_is (steady true) other = other
both_known_is (moving f l) (steady true) = moving (joined_bit ops.And f true) (joined_bit ops.And l true)
both_known_is (moving true true) (steady false) = steady false
both_known_is (moving true false) (steady false) = steady false
both_known_is (moving false true) (steady false) = steady false
both_known_is (moving false false) (steady false) = steady false
both_known_is (moving f l) (moving g m) = moving (joined_bit ops.And f g) (joined_bit ops.And l m)

both_stay : {k rest : Option Bool} {f l g m : Bool} → IsKnown k f l → IsKnown rest g m
    → stays ops.And (is_some k) l (is_some rest) m ≡ is_some (both_known k rest)
both_stay (steady false) (steady bit) = refl
both_stay (steady false) (moving g m) = refl
both_stay (steady true) (steady bit) = refl
both_stay (steady true) (moving g m) = refl
both_stay (moving f l) (steady true) = refl
both_stay (moving f l) (steady false) = refl
both_stay (moving f l) (moving g m) = refl

either_known_is : {k rest : Option Bool} {f l g m : Bool} → IsKnown k f l → IsKnown rest g m
    → IsKnown (either_known k rest) (joined_bit ops.Or f g) (joined_bit ops.Or l m)
either_known_is (steady true) other = steady true
either_known_is (steady false) other = other
either_known_is (moving f l) (steady false) = moving (joined_bit ops.Or f false) (joined_bit ops.Or l false)
either_known_is (moving true true) (steady true) = steady true
either_known_is (moving true false) (steady true) = steady true
either_known_is (moving false true) (steady true) = steady true
either_known_is (moving false false) (steady true) = steady true
either_known_is (moving f l) (moving g m) = moving (joined_bit ops.Or f g) (joined_bit ops.Or l m)

either_stay : {k rest : Option Bool} {f l g m : Bool} → IsKnown k f l → IsKnown rest g m
    → stays ops.Or (is_some k) l (is_some rest) m ≡ is_some (either_known k rest)
either_stay (steady true) (steady bit) = refl
either_stay (steady true) (moving g m) = refl
either_stay (steady false) (steady bit) = refl
either_stay (steady false) (moving g m) = refl
either_stay (moving f l) (steady true) = refl
either_stay (moving f l) (steady false) = refl
either_stay (moving f l) (moving g m) = refl

odd_known_is : {k rest : Option Bool} {f l g m : Bool} → IsKnown k f l → IsKnown rest g m
    → IsKnown (odd_known k rest) (joined_bit ops.Xor f g) (joined_bit ops.Xor l m)
odd_known_is (steady v) (steady bit) = steady (joined_bit ops.Xor v bit)
odd_known_is (steady v) (moving g m) = moving (joined_bit ops.Xor v g) (joined_bit ops.Xor v m)
odd_known_is {g = g} {m = m} (moving f l) other = moving (joined_bit ops.Xor f g) (joined_bit ops.Xor l m)

odd_stay : {k rest : Option Bool} {f l g m : Bool} → IsKnown k f l → IsKnown rest g m
    → stays ops.Xor (is_some k) l (is_some rest) m ≡ is_some (odd_known k rest)
odd_stay (steady v) (steady bit) = refl
odd_stay (steady v) (moving g m) = refl
odd_stay (moving f l) other = refl

not_known_is : {k : Option Bool} {f l : Bool} → IsKnown k f l → is_some k ≡ is_some (option_map not k)
not_known_is (steady bit) = refl
not_known_is (moving f l) = refl

module _ (a : StateAlgebra) (laws : HasLaws a) where
  -- the state of a line of which it is known whether it is steady
  abbrev state_of_known : Option Bool → Bool → Bool → State
  state_of_known known first last = a.of (is_some known) first last

  -- Of a list of lines: the values of what is made of them, where it is known, and the state as the join of their states.
  pub record Makes (op : Op) (known : Option Bool) (first last : Bool) (states : List State) : Type 0 where
    pub is_known : IsKnown known first last
    pub joins : joined a op states ≡ state_of_known known first last

  -- one line more
  makes_more : (op : Op) {k rest more : Option Bool} {f l g m : Bool} {states : List State} → IsKnown k f l → Makes op rest g m states
      → IsKnown more (joined_bit op f g) (joined_bit op l m) → stays op (is_some k) l (is_some rest) m ≡ is_some more
      → Makes op more (joined_bit op f g) (joined_bit op l m) (state_of_known k f l ∷ states)
  makes_more op {k = k} {rest = rest} {f = f} {l = l} {g = g} {m = m} is makes is_more stay = record {
    is_known = is_more;
    joins = ap (a.join op (state_of_known k f l)) makes.joins
        ∙ laws.of_joins op (is_some k) f l (is_some rest) g m (known_may is) (known_may makes.is_known)
        ∙ ap (λ s. a.of s (joined_bit op f g) (joined_bit op l m)) stay;
  }

  module _ (known : LineId → Option Bool) (first last : LineId → Bool)
      (is : (line : LineId) → IsKnown (known line) (first line) (last line)) where
    abbrev state : LineId → State
    state line = state_of_known (known line) (first line) (last line)

    conjunction : (lines : List LineId)
        → Makes ops.And (known_all (map known lines)) (all_true (map first lines)) (all_true (map last lines)) (map state lines)
    conjunction [] = record { is_known = steady true; joins = laws.of_unit ops.And }
    conjunction (line ∷ lines) =
        let rest = conjunction lines in
        let more = all_more (known line) (list_any (is_known_as false) (map known lines)) (list_all (is_known_as true) (map known lines)) in
        makes_more ops.And (is line) rest
        (subst (λ k. IsKnown k (all_true (map first (line ∷ lines))) (all_true (map last (line ∷ lines)))) (sym more)
        (both_known_is (is line) rest.is_known))
        (both_stay (is line) rest.is_known ∙ ap is_some (sym more))

    disjunction : (lines : List LineId)
        → Makes ops.Or (known_any (map known lines)) (any_true (map first lines)) (any_true (map last lines)) (map state lines)
    disjunction [] = record { is_known = steady false; joins = laws.of_unit ops.Or }
    disjunction (line ∷ lines) =
        let rest = disjunction lines in
        let more = any_more (known line) (list_any (is_known_as true) (map known lines)) (list_all (is_known_as false) (map known lines)) in
        makes_more ops.Or (is line) rest
        (subst (λ k. IsKnown k (any_true (map first (line ∷ lines))) (any_true (map last (line ∷ lines)))) (sym more)
        (either_known_is (is line) rest.is_known))
        (either_stay (is line) rest.is_known ∙ ap is_some (sym more))

    odd : (lines : List LineId)
        → Makes ops.Xor (known_parity (map known lines)) (parity (map first lines)) (parity (map last lines)) (map state lines)
    odd [] = record { is_known = steady false; joins = laws.of_unit ops.Xor }
    odd (line ∷ lines) =
        let rest = odd lines in
        let bits = parity (map (λ value. unwrap_or value false) (map known lines)) in
        let more = odd_more (known line) (list_all is_some (map known lines)) bits in
        makes_more ops.Xor (is line) rest
        (subst (λ k. IsKnown k (parity (map first (line ∷ lines))) (parity (map last (line ∷ lines)))) (sym more)
        (odd_known_is (is line) rest.is_known))
        (odd_stay (is line) rest.is_known ∙ ap is_some (sym more))

    inverts : {k : Option Bool} {f l : Bool} → IsKnown k f l → a.invert (state_of_known k f l) ≡ state_of_known (option_map not k) (not f) (not l)
    inverts {k = k} {f = f} {l = l} is_known =
        laws.of_inverts (is_some k) f l ∙ ap (λ s. a.of s (not f) (not l)) (not_known_is is_known)

    alone : (k : Option Bool) (f l : Bool) → a.join ops.And (state_of_known k f l) (a.unit ops.And) ≡ state_of_known k f l
    alone k f l =
        laws.commutative ops.And (state_of_known k f l) (a.unit ops.And) (laws.of_within (is_some k) f l) (laws.unit_within ops.And)
        ∙ laws.unit_first ops.And (state_of_known k f l) (laws.of_within (is_some k) f l)

    -- a gate's state of its pins' states is that of its values
    pub gate_state_of_known : (kind : GateKind) (lines : List LineId) → IsFanIn kind (length lines)
        → gate_state a kind (map state lines)
        ≡ state_of_known (known_gate_value kind (map known lines)) (gate_value kind (map first lines)) (gate_value kind (map last lines))
    gate_state_of_known And lines pins = (conjunction lines).joins
    gate_state_of_known Nand lines pins = ap a.invert (conjunction lines).joins ∙ inverts (conjunction lines).is_known
    gate_state_of_known Or lines pins = (disjunction lines).joins
    gate_state_of_known Nor lines pins = ap a.invert (disjunction lines).joins ∙ inverts (disjunction lines).is_known
    gate_state_of_known Xor lines pins = (odd lines).joins
    gate_state_of_known Xnor lines pins = ap a.invert (odd lines).joins ∙ inverts (odd lines).is_known
    gate_state_of_known Not [] pins = absurd (omega arith)
    gate_state_of_known Not (line ∷ []) pins = ap a.invert (alone (known line) (first line) (last line)) ∙ inverts (is line)
    gate_state_of_known Not (line ∷ next ∷ lines) pins = absurd (omega arith)
    gate_state_of_known Buff [] pins = absurd (omega arith)
    gate_state_of_known Buff (line ∷ []) pins = alone (known line) (first line) (last line)
    gate_state_of_known Buff (line ∷ next ∷ lines) pins = absurd (omega arith)

module _ (a : StateAlgebra) (laws : HasLaws a) (c : Circuit) (is : IsCircuit c) (pair : Vectors) where
  -- a line's values under both vectors are that at which it is steady, if it is
  line_known : (line : ℕ) → IsKnown (steady_value c pair line) (value c pair.first line) (value c pair.second line)
  line_known line = known_from (steady_value c pair line) (value c pair.first line) (value c pair.second line)
      (λ bit known. steady_first c pair line bit known) (λ bit known. steady_second c pair line bit known)

  -- a steady line has one value
  pub line_may : (line : ℕ) → MaySteady (is_steady c pair line) (value c pair.first line) (value c pair.second line)
  line_may line = known_may (line_known line)

  -- the state of a gate's line is the gate's of the states at its pins
  pub gate_state_under : (gate : ℕ) → gate < gate_count c → state_under a c pair (gate_line c gate)
      ≡ gate_state a (kind_at c gate) (map (λ line. state_under a c pair line.0) (pins_at c gate))
  gate_state_under gate within =
      let lines = pins_at c gate in
      let kind = kind_at c gate in
      let known = λ (line : LineId). steady_value c pair line.0 in
      let first = λ (line : LineId). value c pair.first line.0 in
      let last = λ (line : LineId). value c pair.second line.0 in
      ap (λ k. state_of_known a laws k (value c pair.first (gate_line c gate)) (value c pair.second (gate_line c gate)))
      (value_at_gate c (agreed_bit pair) (λ g values. known_gate_value (kind_at c g) values) is.reads_lines is.loop_free gate within)
      ∙ ap₂ (λ f l. state_of_known a laws (known_gate_value kind (map known lines)) f l)
      (value_at_gate c (bit_of pair.first) (λ g values. gate_value (kind_at c g) values) is.reads_lines is.loop_free gate within)
      (value_at_gate c (bit_of pair.second) (λ g values. gate_value (kind_at c g) values) is.reads_lines is.loop_free gate within)
      ∙ sym (gate_state_of_known a laws known first last (λ line. line_known line.0) kind lines (is.fan_in gate within))

  -- so the states of a pair agree at each gate without a condition
  pub pair_agrees : (gate : ℕ) → gate < gate_count c → AgreesAt a c gate None (state_under a c pair)
  pair_agrees gate within = record { at_gate = gate_state_under gate within; meets = tt }

  module _ (kind : Kind) (gate pin : ℕ) (line : LineId) (reads : slice_get (pins_at c gate) pin ≡ Some line) where
    abbrev states : List State
    states = map (λ l. state_under a c pair l.0) (pins_at c gate)

    state_is : (k : ℕ) (inside : k < length (pins_at c gate)) (d : LineId)
        → state_at a states k ≡ state_under a c pair (get_or (pins_at c gate) k d).0
    state_is k inside d = get_or-map (λ (l : LineId). state_under a c pair l.0) (pins_at c gate) k d (a.unit ops.And) inside

    -- and with the condition of a step whose side pins the pair meets
    pub pair_meets : SidesAllowed c kind pair line.0 (record { gate = record { 0 = gate }; pin = pin })
        → SidesMeetAt a (kind_at c gate) (record { pin = pin; kind = kind }) states
    pair_meets allowed side inside other =
        let in_pins : side < length (pins_at c gate) = subst (λ n. side < n) (length-map (pins_at c gate) (λ (l : LineId). state_under a c pair l.0)) inside in
        let side_line : LineId = get_or (pins_at c gate) side line in
        let at_side = state_is side in_pins line in
        let at_pin : state_at a states pin ≡ state_under a c pair line.0 =
        state_is pin (slice_get_within (pins_at c gate) pin line reads) line
        ∙ ap (λ (l : LineId). state_under a c pair l.0) (get_or_from_slice_get (pins_at c gate) pin line line reads) in
        let final = λ (l : ℕ). last_under a laws c pair l in
        let given = allowed side side_line (record { other = other; reads = slice_get-get_or (pins_at c gate) side line in_pins }) in
        let row : a.last (state_at a states pin) ≡ value c pair.second line.0 = ap a.last at_pin ∙ final line.0 in
        let last : a.last (state_at a states side) ≡ value c pair.second side_line.0 = ap a.last at_side ∙ final side_line.0 in
        let held : a.steady (state_at a states side) ≡ is_steady c pair side_line.0 =
        ap a.steady at_side ∙ steady_under a laws c pair side_line.0 in
        subst (λ b. Allows (side_condition kind (kind_at c gate) b) (a.last (state_at a states side)) (a.steady (state_at a states side)))
        (sym row)
        (subst (λ b. Allows (side_condition kind (kind_at c gate) (value c pair.second line.0)) b (a.steady (state_at a states side)))
        (sym last)
        (subst (λ b. Allows (side_condition kind (kind_at c gate) (value c pair.second line.0)) (value c pair.second side_line.0) b)
        (sym held) given))

    pub pair_agrees_at_step : gate < gate_count c → SidesAllowed c kind pair line.0 (record { gate = record { 0 = gate }; pin = pin })
        → AgreesAt a c gate (Some (record { pin = pin; kind = kind })) (state_under a c pair)
    pair_agrees_at_step within allowed = record { at_gate = gate_state_under gate within; meets = pair_meets allowed }
