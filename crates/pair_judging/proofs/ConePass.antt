-- One pass over the gates of a cone in rank order, each of which writes the state of its own line: under each pair that has the states
-- at the sources of the cone, the lines are in the states that stand there.
use Rattle.std.proofs.Common.{◌≡◌, ◌≢◌, ⊎_elim, ℕ, ◌+◌, ◌-◌, ◌<◌, ◌≤◌, List, [], ◌∷◌, ◌++◌, map, take, take_all, length, get_or, set, get_or-set_same, get_or-set_other, sym, ap, subst, ◌∙◌, arith}
use Rattle.std.specs.List.{Contains}
use Rattle.std.specs.Int.{bit_at}
use Rattle.std.proofs.lemmas.List.{take_more}
use Rattle.std.proofs.lemmas.List.Elements.{Contains-push_cases, Contains-get_or}
use Rattle.std.proofs.lemmas.Bool.{cases_lt, cases_eq}
use Rattle.std.proofs.lemmas.Option.{slice_get-get_or}
use Rattle.pd_base.specs.Pair.{Vectors}
use Rattle.pd_base.specs.Links.{LinkList}
use Rattle.pd_base.specs.declared.ids.LineId.{LineId}
use Rattle.pd_base.specs.declared.ids.GateId.{GateId}
use Rattle.netlist.specs.Circuit.{Circuit, source_count, gate_count, gate_line, kind_at, pins_at}
use Rattle.netlist.specs.Lawful.{IsCircuit}
use Rattle.netlist.specs.Levels.{IsDriven}
use Rattle.netlist.specs.Levels.IsDriven.{by_source, by_gate}
use Rattle.netlist.specs.LinkedPairs.{IsSupported}
use Rattle.netlist.proofs.Evaluation.{map_agree, gate_line_of}
use Rattle.state_sets.specs.declared.state.State.{State}
use Rattle.state_sets.specs.declared.state.StateSet.{StateSet}
use Rattle.state_sets.specs.States.{Has}
use Rattle.state_sets.specs.StateAlgebra.{StateAlgebra, HasLaws}
use Rattle.state_sets.specs.LineStates.{state_under}
use Rattle.state_sets.specs.Labellings.{label_at}
use Rattle.state_sets.specs.Narrowing.{gate_state}
use Rattle.state_laws.proofs.PairStates.{gate_state_under}
use Rattle.state_laws.proofs.Supports.{pin_supported}
use Rattle.cones.specs.KeptCones.{AreConeGates}
use Rattle.pair_judging.specs.ConeStates.{state_in, HasSourceStates}
use Rattle.pair_judging.specs.Judged.{AreComputed}

-- what is read where there is no gate
abbrev pub no_gate : GateId
no_gate = record { 0 = 0 }

module _ (a : StateAlgebra) (laws : HasLaws a) (c : Circuit) (gates : List GateId) (initial : List State) where
  -- Under each pair with the first states at the sources of a cone with these gates, its sources and the lines of the gates before
  -- this place are in the states that stand now.
  abbrev pub AreDone : ℕ → List State → Type 0
  AreDone place states =
      (links : LinkList) (end : ℕ) → AreConeGates c links end gates → (pair : Vectors) → HasSourceStates a c links end initial pair
      → (line : ℕ) → IsSupported c links end line → IsDriven c (take place gates) line → state_under a c pair line ≡ state_in states line

  -- so it is before the first gate
  pub done_none : AreDone 0 initial
  done_none links end are pair has line further (by_source source) = has line source further
  done_none links end are pair has line further (by_gate gate among own) = absurd (omega (arith, among.1))

  module _ (circuit : IsCircuit c) (place : ℕ) (inside : place < length gates) (states : List State) (done : AreDone place states) where
    -- the next gate, and its line
    abbrev gate : GateId
    gate = get_or gates place no_gate

    abbrev own_line : ℕ
    own_line = gate_line c gate.0

    module _ (state : State) (is : state ≡ gate_state a (kind_at c gate.0) (map (λ pin. state_in states pin.0) (pins_at c gate.0))) where
      module _ (links : LinkList) (end : ℕ) (are : AreConeGates c links end gates) where
        own : (gate.0 < gate_count c) × IsSupported c links end own_line
        own = (are.exactly gate.0).0 (Contains-get_or gates place no_gate inside)

        -- what the gate makes of the states at its pins is the state of its line
        pub found_state : (pair : Vectors) → HasSourceStates a c links end initial pair → state_under a c pair own_line ≡ state
        found_state pair has =
            gate_state_under a laws c circuit pair gate.0 own.0
            ∙ ap (gate_state a (kind_at c gate.0))
            (map_agree (λ (pin : LineId). state_under a c pair pin.0) (λ (pin : LineId). state_in states pin.0) (pins_at c gate.0)
            (λ pin d within. done links end are pair has (get_or (pins_at c gate.0) pin d).0
            (pin_supported c links end gate.0 own.0 own.1 pin d within)
            (are.earlier place gate (slice_get-get_or gates place no_gate inside) pin d within)))
            ∙ sym is

        -- so the line is ruled out by a label that has not this state
        pub rules_out : (labels : List StateSet) → ((bit_at (label_at labels own_line).0 state.0 ≡ 1) → ⊥) → IsSupported c links end own_line
            × ((pair : Vectors) → HasSourceStates a c links end initial pair → Has a.count (label_at labels own_line) (state_under a c pair own_line) → ⊥)
        rules_out labels without = (
          own.1,
          λ pair has in_label. without (subst (λ (s : State). bit_at (label_at labels own_line).0 s.0 ≡ 1) (found_state pair has) in_label.bit),
        )

      -- and the line is done too, once the state is written there
      module _ (long : own_line < length states) where
        pub done_more : AreDone (place + 1) (set states own_line state)
        done_more links end are pair has line further driven = at driven
          where
            nothing : State
            nothing = record { 0 = 0 }

            before : line ≢ own_line → IsDriven c (take place gates) line → state_under a c pair line ≡ state_in (set states own_line state) line
            before differs earlier =
                done links end are pair has line further earlier ∙ sym (get_or-set_other states own_line line state nothing differs)

            here : line ≡ own_line → state_under a c pair line ≡ state_in (set states own_line state) line
            here same =
                ap (state_under a c pair) same ∙ found_state links end are pair has ∙ sym (get_or-set_same states own_line state nothing long)
                ∙ ap (state_in (set states own_line state)) (sym same)

            at : IsDriven c (take (place + 1) gates) line → state_under a c pair line ≡ state_in (set states own_line state) line
            at (by_source source) = before (omega arith) (by_source source)
            at (by_gate other among its) = ⊎_elim here
                (λ (differs : line ≢ own_line).
                let split : Contains (take place gates ++ gate ∷ []) (record { 0 = other }) =
                subst (λ gs. Contains gs (record { 0 = other })) (take_more gates place no_gate inside) among in
                ⊎_elim
                (λ (earlier : Contains (take place gates) (record { 0 = other })). before differs (by_gate other earlier its))
                (λ (this : gate ≡ record { 0 = other }). absurd (differs (its ∙ ap (λ (g : GateId). gate_line c g.0) (sym this))))
                (Contains-push_cases (take place gates) gate (record { 0 = other }) split))
                (cases_eq line own_line)

  -- after the last gate all lines of the cone are done
  pub done_all : (place : ℕ) (states : List State) → length gates ≤ place → AreDone place states → AreComputed a c gates initial states
  done_all place states last done links end are pair has line within further = ⊎_elim
      (λ (source : line < source_count c). done links end are pair has line further (by_source source))
      (λ (above : source_count c ≤ line).
      let number = line - source_count c in
      let own : gate_line c number ≡ line = gate_line_of c line above in
      let among : Contains gates (record { 0 = number }) = (are.exactly number).1 (omega arith, subst (IsSupported c links end) (sym own) further) in
      done links end are pair has line further
      (by_gate number (subst (λ gs. Contains gs (record { 0 = number })) (sym (take_all place gates last)) among) (sym own)))
      (cases_lt line (source_count c))
