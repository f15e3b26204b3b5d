-- Laws of narrowing at one gate, for every kind of states.
use Rattle.std.proofs.Common.{ℕ, List, map, Some, Option, None, option_map, refl, sym, ap, subst, ◌∙◌}
use Rattle.std.proofs.lemmas.List.Elements.{All-pop}
use Rattle.std.proofs.lemmas.Option.{slice_get-map}
use Rattle.pd_base.specs.declared.ids.LineId.{LineId}
use Rattle.netlist.specs.Circuit.{Circuit, kind_at, pins_at, gate_line}
use Rattle.state_sets.specs.declared.state.State.{State}
use Rattle.state_sets.specs.declared.state.StateSet.{StateSet}
use Rattle.state_sets.specs.declared.condition.Condition.{Condition}
use Rattle.state_sets.specs.States.{Has}
use Rattle.state_sets.specs.StateAlgebra.{StateAlgebra}
use Rattle.state_sets.specs.Labellings.{label_at, LiesIn, HasStates}
use Rattle.state_sets.specs.Narrowing.{IsAllowed, IsKept, IsNarrowing, gate_sets, gate_lines, gate_state, AgreesAt, KeepsAgreeing}
use Rattle.state_laws.proofs.Choices.{choice_of_states, choice_larger}

module _ (a : StateAlgebra) (c : Circuit) (gate : ℕ) where
  module _ (condition : Option Condition) (old : List StateSet) where
    -- states that agree at a gate, each in its line's set, are an allowed choice
    pub agreeing_allowed : (states : ℕ → State) → AgreesAt a c gate condition states
        → HasStates a.count old states (gate_lines c gate)
        → IsAllowed a (gate_sets c gate old) condition (map (λ line. states line.0) (pins_at c gate))
    agreeing_allowed states agrees has =
        let parts = All-pop (λ (line : LineId). Has a.count (label_at old line.0) (states line.0)) (gate_lines c gate)
        (pins_at c gate) (Some (record { 0 = gate_line c gate })) refl has in
        record {
          at_pins = choice_of_states a.count (label_at old) states (pins_at c gate) parts.0;
          at_gate = subst (Has a.count (label_at old (gate_line c gate))) agrees.at_gate parts.1;
          meets = agrees.meets;
        }

    -- so a narrowing keeps them
    pub agreeing_kept : (states : ℕ → State) → AgreesAt a c gate condition states
        → HasStates a.count old states (gate_lines c gate)
        → (line : ℕ) → Has a.count (label_at old line) (states line) → IsKept a c gate condition old line (states line)
    agreeing_kept states agrees has line had = record {
      had = had;
      at_gate = λ own. record {
        choice = map (λ l. states l.0) (pins_at c gate);
        allowed = agreeing_allowed states agrees has;
        gives = sym agrees.at_gate ∙ ap states (sym own);
      };
      at_pins = λ pin reads. record {
        choice = map (λ l. states l.0) (pins_at c gate);
        allowed = agreeing_allowed states agrees has;
        gives = slice_get-map (λ (l : LineId). states l.0) (pins_at c gate) pin
            ∙ ap (option_map (λ (l : LineId). states l.0)) reads;
      };
    }

    pub keeps_agreeing : (new : List StateSet) → IsNarrowing a c gate condition old new
        → KeepsAgreeing a c gate condition old new
    keeps_agreeing new is states agrees has line had =
        (is.exactly line (states line)).1 (agreeing_kept states agrees has line had)

    -- narrowing only shrinks
    pub narrowing_shrinks : (new : List StateSet) → IsNarrowing a c gate condition old new → LiesIn a.count new old
    narrowing_shrinks new is line state has = ((is.exactly line state).0 has).had

    -- with a condition it keeps no more than without
    unconditioned : (state : List State) → IsAllowed a (gate_sets c gate old) condition state
        → IsAllowed a (gate_sets c gate old) None state
    unconditioned choice allowed = record { at_pins = allowed.at_pins; at_gate = allowed.at_gate; meets = tt }

    pub condition_keeps_less : (line : ℕ) (state : State) → IsKept a c gate condition old line state
        → IsKept a c gate None old line state
    condition_keeps_less line state kept = record {
      had = kept.had;
      at_gate = λ own. let gives = kept.at_gate own in
          record { choice = gives.choice; allowed = unconditioned gives.choice gives.allowed; gives = gives.gives };
      at_pins = λ pin reads. let gives = kept.at_pins pin reads in
          record { choice = gives.choice; allowed = unconditioned gives.choice gives.allowed; gives = gives.gives };
    }

    -- narrowing is monotone: what it keeps of labels it keeps of larger ones
    module _ (larger : List StateSet) (inside : LiesIn a.count old larger) where
      allowed_larger : (choice : List State) → IsAllowed a (gate_sets c gate old) condition choice
          → IsAllowed a (gate_sets c gate larger) condition choice
      allowed_larger choice allowed = record {
        at_pins = choice_larger a.count (label_at old) (label_at larger) (λ line state. inside line state)
            (pins_at c gate) allowed.at_pins;
        at_gate = inside (gate_line c gate) (gate_state a (kind_at c gate) choice) allowed.at_gate;
        meets = allowed.meets;
      }

      pub kept_of_larger : (line : ℕ) (state : State) → IsKept a c gate condition old line state
          → IsKept a c gate condition larger line state
      kept_of_larger line state kept = record {
        had = inside line state kept.had;
        at_gate = λ own. let gives = kept.at_gate own in
            record { choice = gives.choice; allowed = allowed_larger gives.choice gives.allowed; gives = gives.gives };
        at_pins = λ pin reads. let gives = kept.at_pins pin reads in
            record { choice = gives.choice; allowed = allowed_larger gives.choice gives.allowed; gives = gives.gives };
      }

      pub narrowing_monotone : (new larger_new : List StateSet) → IsNarrowing a c gate condition old new
          → IsNarrowing a c gate condition larger larger_new → LiesIn a.count new larger_new
      narrowing_monotone new larger_new is larger_is line state has =
          (larger_is.exactly line state).1 (kept_of_larger line state ((is.exactly line state).0 has))
