-- Where sources may be in all states of a source, labels computed forward have each of these states at each line: so links rest there.
use Rattle.std.proofs.Common.{◌≡◌, ℕ, ◌<◌, ◌≤◌, Bool, true, false, not, cond, List, [], ◌∷◌, map, length, refl, sym, ap, ◌∙◌, subst, arith, ⊎_elim}
use Rattle.std.specs.List.{All}
use Rattle.std.proofs.lemmas.Bool.{cases_Bool}
use Rattle.std.proofs.lemmas.List.Elements.{All-head, All-tail}
use Rattle.pd_base.specs.declared.ids.LineId.{LineId}
use Rattle.netlist.specs.declared.kind.GateKind.{GateKind}
use Rattle.netlist.specs.declared.kind.GateKind.TheVariants as kinds
use Rattle.netlist.specs.declared.op.Op.{Op}
use Rattle.netlist.specs.Circuit.{Circuit, source_count, line_count, gate_line, kind_at, pins_at}
use Rattle.netlist.specs.Gates.{op_of, is_inverting}
use Rattle.netlist.specs.Lawful.{IsCircuit, IsFanIn}
use Rattle.netlist.proofs.Evaluation.{line_induction}
use Rattle.state_sets.specs.declared.state.State.{State}
use Rattle.state_sets.specs.declared.state.StateSet.{StateSet}
use Rattle.state_sets.specs.States.{Has}
use Rattle.state_sets.specs.StateAlgebra.{StateAlgebra, HasLaws, joined, same_bit, unit_bit}
use Rattle.state_sets.specs.Labellings.{label_at}
use Rattle.state_sets.specs.Narrowing.{IsChoice, IsLinkNarrowing, inverted_if, gate_state}
use Rattle.state_sets.specs.Narrowing.IsChoice.{none, one}
use Rattle.state_laws.specs.Forward.{IsForward}

-- a gate has pins
some_pins : (kind : GateKind) (count : ℕ) → IsFanIn kind count → 1 ≤ count
some_pins kinds.And count is = is.some
some_pins kinds.Nand count is = is.some
some_pins kinds.Or count is = is.some
some_pins kinds.Nor count is = is.some
some_pins kinds.Xor count is = is.some
some_pins kinds.Xnor count is = is.some
some_pins kinds.Not count is = omega (arith, is)
some_pins kinds.Buff count is = omega (arith, is)

-- a source of these bits, inverted, is steady as before
inverted_bits : (steady last : Bool) → same_bit (not (cond steady last (not last))) (not last) ≡ steady
inverted_bits true true = refl
inverted_bits true false = refl
inverted_bits false true = refl
inverted_bits false false = refl

module _ (a : StateAlgebra) (laws : HasLaws a) where
  pub steady_source : (bit : Bool) → Has a.count a.sources (a.of true bit bit)
  steady_source true = laws.of_source true true
  steady_source false = laws.of_source false false

  pub unit_source : (op : Op) → Has a.count a.sources (a.unit op)
  unit_source op = subst (Has a.count a.sources) (sym (laws.of_unit op)) (steady_source (unit_bit op))

  -- states of a source inverted are states of a source
  inverted_source : (inverts : Bool) (state : State) → Has a.count a.sources state → Has a.count a.sources (inverted_if a inverts state)
  inverted_source false state has = has
  inverted_source true state has =
      let steady = a.steady state in let last = a.last state in let first = cond steady last (not last) in
      let is : a.of (same_bit (not first) (not last)) (not first) (not last) ≡ a.invert state =
      ap (λ (s : Bool). a.of s (not first) (not last)) (inverted_bits steady last)
      ∙ sym (laws.of_inverts steady first last) ∙ ap a.invert (laws.source_of state has) in
      subst (Has a.count a.sources) is (laws.of_source (not first) (not last))

  inverted_twice : (inverts : Bool) (state : State) → state.0 < a.count → inverted_if a inverts (inverted_if a inverts state) ≡ state
  inverted_twice false state below = refl
  inverted_twice true state below = laws.invert_twice state below

  -- the unit at each of these lines
  abbrev units : Op → List LineId → List State
  units op lines = map (λ line. a.unit op) lines

  joined_units : (op : Op) (lines : List LineId) → joined a op (units op lines) ≡ a.unit op
  joined_units op [] = refl
  joined_units op (line ∷ lines) =
      ap (a.join op (a.unit op)) (joined_units op lines) ∙ laws.unit_first op (a.unit op) (laws.unit_within op)

  joined_one : (op : Op) (state : State) (lines : List LineId) → state.0 < a.count → joined a op (state ∷ units op lines) ≡ state
  joined_one op state lines below =
      ap (a.join op state) (joined_units op lines)
      ∙ laws.commutative op state (a.unit op) below (laws.unit_within op) ∙ laws.unit_first op state below

  module _ (sets : ℕ → StateSet) where
    abbrev HasSources : LineId → Type 0
    HasSources line = (state : State) → Has a.count a.sources state → Has a.count (sets line.0) state

    choice_of_units : (op : Op) (lines : List LineId) → All HasSources lines
        → IsChoice a.count (map (λ line. sets line.0) lines) (units op lines)
    choice_of_units op [] all = none
    choice_of_units op (line ∷ lines) all =
        one (All-head HasSources line lines all (a.unit op) (unit_source op))
        (choice_of_units op lines (All-tail HasSources line lines all))

    -- a gate has each state of a source if its pins have
    gate_makes : (kind : GateKind) (lines : List LineId) → 1 ≤ length lines → All HasSources lines → (state : State)
        → Has a.count a.sources state
        → (choice : List State) × IsChoice a.count (map (λ line. sets line.0) lines) choice × (gate_state a kind choice ≡ state)
    gate_makes kind [] some all state has = absurd (omega (arith, some))
    gate_makes kind (line ∷ lines) some all state has =
        let inverts = is_inverting kind in let op = op_of kind in
        let first = inverted_if a inverts state in
        let source = inverted_source inverts state has in (
          first ∷ units op lines,
          one (All-head HasSources line lines all first source) (choice_of_units op lines (All-tail HasSources line lines all)),
          ap (inverted_if a inverts) (joined_one op first lines source.in_range) ∙ inverted_twice inverts state has.in_range,
        )

  module _ (c : Circuit) (circuit : IsCircuit c) (inside : ℕ → Bool) (start : StateSet) (labels : List StateSet)
      (is : IsForward a c inside start labels) (wide : (state : State) → Has a.count a.sources state → Has a.count start state) where
    -- each line has each state of a source
    pub has_sources : (line : ℕ) → line < line_count c → (state : State) → Has a.count a.sources state
        → Has a.count (label_at labels line) state
    has_sources =
        line_induction c circuit.reads_lines (λ line. HasSources (label_at labels) (record { 0 = line }))
        (λ line source state has. subst (λ set. Has a.count set state) (sym (is.sources line source)) (wide state has))
        (λ gate within pins state has. ⊎_elim
        (λ (e : inside gate ≡ true).
        let makes = gate_makes (label_at labels) (kind_at c gate) (pins_at c gate)
        (some_pins (kind_at c gate) (length (pins_at c gate)) (circuit.fan_in gate within)) pins state has in
        subst (Has a.count (label_at labels (gate_line c gate))) makes.2 (is.images gate within e makes.0 makes.1))
        (λ (e : inside gate ≡ false). is.outside gate within e state has.in_range)
        (cases_Bool (inside gate)))
        circuit.loop_free

    -- so a link rests, if sources may be in these states alone
    pub link_rests_forward : ((state : State) → Has a.count start state → Has a.count a.sources state) → (source line : ℕ)
        → source < source_count c → line < line_count c → IsLinkNarrowing a source line labels labels
    link_rests_forward narrow source line is_source in_circuit = record {
      lines = refl;
      exactly = λ at state. (
        (λ has. record {
          had = has;
          at_source = λ here.
              let own = narrow state (subst (λ set. Has a.count set state) (is.sources source is_source)
              (subst (λ l. Has a.count (label_at labels l) state) here has)) in
              let steady = a.steady state in let last = a.last state in let first = cond steady last (not last) in (
                a.of true last last,
                has_sources line in_circuit (a.of true last last) (steady_source last),
                ap (λ (s : State). a.link s (a.of true last last)) (sym (laws.source_of state own))
                    ∙ laws.of_links steady first last true last (λ e. refl),
              );
          at_line = λ here.
              let bit = laws.some_linked state has.in_range in (
                a.of true bit.0 bit.0,
                subst (λ set. Has a.count set (a.of true bit.0 bit.0)) (sym (is.sources source is_source))
                    (wide (a.of true bit.0 bit.0) (steady_source bit.0)),
                bit.1,
              );
        }),
        λ kept. kept.had,
      );
    }
