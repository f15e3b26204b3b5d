-- A gate whose lines are all different rests at what narrowing it leaves.
use Rattle.std.proofs.Common.{◌≡◌, ℕ, suc, List, [], ◌∷◌, map, slice_get, Option, Some, refl, sym, ap, ◌∙◌, subst}
use Rattle.std.specs.List.{Contains}
use Rattle.std.proofs.lemmas.List.Elements.{Contains-push, Contains-append_left}
use Rattle.std.proofs.lemmas.Option.{get_or_from_slice_get, slice_get_within}
use Rattle.pd_base.specs.declared.ids.LineId.{LineId}
use Rattle.netlist.specs.Circuit.{Circuit, kind_at, pins_at, gate_line}
use Rattle.state_sets.specs.declared.state.State.{State}
use Rattle.state_sets.specs.declared.state.StateSet.{StateSet}
use Rattle.state_sets.specs.declared.condition.Condition.{Condition}
use Rattle.state_sets.specs.States.{Has}
use Rattle.state_sets.specs.StateAlgebra.{StateAlgebra}
use Rattle.state_sets.specs.Labellings.{label_at, IsLabelling}
use Rattle.state_sets.specs.Narrowing.{IsChoice, IsAllowed, IsNarrowing, gate_sets, gate_lines, gate_state}
use Rattle.state_sets.specs.Narrowing.IsChoice.{none, one}
use Rattle.state_laws.proofs.Sets.{same_states, label_within}

-- no two pins read one line, and no pin reads the gate's own
pub record HasOwnLines (c : Circuit) (gate : ℕ) : Type 0 where
  pub pins_differ : (pin other : ℕ) (line : LineId) → slice_get (pins_at c gate) pin ≡ Some line
      → slice_get (pins_at c gate) other ≡ Some line → pin ≡ other
  pub not_own : (pin : ℕ) → ¬ (slice_get (pins_at c gate) pin ≡ Some (record { 0 = gate_line c gate }))

-- a choice out of the sets of lines is one out of other sets that have its states, pin by pin
choice_again : (count : ℕ) (old new : List StateSet) (lines : List LineId) {choice : List State}
    → IsChoice count (map (λ line. label_at old line.0) lines) choice
    → ((pin : ℕ) (line : LineId) (state : State) → slice_get lines pin ≡ Some line → slice_get choice pin ≡ Some state
    → Has count (label_at old line.0) state → Has count (label_at new line.0) state)
    → IsChoice count (map (λ line. label_at new line.0) lines) choice
choice_again count old new [] none same = none
choice_again count old new (line ∷ lines) (one {state = state} has rest) same =
    one (same 0 line state refl refl has)
    (choice_again count old new lines rest (λ pin l s reads is had. same (suc pin) l s reads is had))

module _ (a : StateAlgebra) (c : Circuit) (gate : ℕ) (own : HasOwnLines c gate) (condition : Option Condition) (old new : List StateSet)
    (is : IsNarrowing a c gate condition old new) where
  -- an allowed choice is allowed again
  allowed_again : (choice : List State) → IsAllowed a (gate_sets c gate old) condition choice → IsAllowed a (gate_sets c gate new) condition choice
  allowed_again choice allowed = record {
    at_pins = choice_again a.count old new (pins_at c gate) allowed.at_pins
        (λ pin line state reads at had. (is.exactly line.0 state).1 (record {
          had = had;
          at_gate = λ here. absurd (own.not_own pin (reads ∙ ap (λ (n : ℕ). let l : LineId = record { 0 = n } in Some l) here));
          at_pins = λ other reads_too. record {
            choice = choice;
            allowed = allowed;
            gives = ap (slice_get choice) (own.pins_differ other pin line reads_too reads) ∙ at;
          };
        }));
    at_gate = (is.exactly (gate_line c gate) (gate_state a (kind_at c gate) choice)).1 (record {
      had = allowed.at_gate;
      at_gate = λ here. record { choice = choice; allowed = allowed; gives = refl };
      at_pins = λ pin reads. absurd (own.not_own pin reads);
    });
    meets = allowed.meets;
  }

  pub narrowing_idempotent : IsNarrowing a c gate condition new new
  narrowing_idempotent = record {
    lines = refl;
    exactly = λ line state. (
      (λ has. let kept = (is.exactly line state).0 has in record {
        had = has;
        at_gate = λ here. let gives = kept.at_gate here in
            record { choice = gives.choice; allowed = allowed_again gives.choice gives.allowed; gives = gives.gives };
        at_pins = λ pin reads. let gives = kept.at_pins pin reads in
            record { choice = gives.choice; allowed = allowed_again gives.choice gives.allowed; gives = gives.gives };
      }),
      λ kept. kept.had,
    );
  }

-- a narrowing at a gate leaves the lines alone that are not among the gate's
pub others_same : (a : StateAlgebra) (c : Circuit) (gate : ℕ) (condition : Option Condition) (old new : List StateSet)
    → IsLabelling a.count c old → IsLabelling a.count c new → IsNarrowing a c gate condition old new
    → (line : ℕ) → ¬ Contains (gate_lines c gate) (record { 0 = line }) → label_at new line ≡ label_at old line
others_same a c gate condition old new of_old of_new is line away =
    same_states a.count (label_at new line) (label_at old line) (label_within a.count c new of_new line)
    (label_within a.count c old of_old line) (λ state has. ((is.exactly line state).0 has).had)
    (λ state has. (is.exactly line state).1 (record {
      had = has;
      at_gate = λ here. absurd (away (subst (Contains (gate_lines c gate)) (ap (λ (n : ℕ). let l : LineId = record { 0 = n } in l) (sym here))
          (Contains-push (pins_at c gate) (record { 0 = gate_line c gate }))));
      at_pins = λ pin reads. absurd (away (Contains-append_left (pins_at c gate) ((record { 0 = gate_line c gate }) ∷ []) (record { 0 = line }) (
        pin,
        slice_get_within (pins_at c gate) pin (record { 0 = line }) reads,
        get_or_from_slice_get (pins_at c gate) pin (record { 0 = line }) (record { 0 = line }) reads,
      )));
    }))
