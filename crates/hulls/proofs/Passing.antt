-- The choices that passes over the pins of a gate find are the allowed ones.
use Rattle.std.proofs.Common.{◌≡◌, ℕ, ◌<◌, ◌⊎◌, inl, inr, ⊎_elim, Bool, true, false, List, length, Option, Some, bit_or, refl, sym, ap, ◌∙◌, subst, arith}
use Rattle.netlist.specs.declared.kind.GateKind.{GateKind}
use Rattle.state_sets.specs.declared.state.State.{State}
use Rattle.state_sets.specs.declared.state.StateSet.{StateSet}
use Rattle.state_sets.specs.declared.condition.Condition.{Condition}
use Rattle.state_sets.specs.States.{Has, all_states}
use Rattle.state_sets.specs.StateAlgebra.{StateAlgebra, HasLaws, joined}
use Rattle.netlist.specs.Gates.{op_of, is_inverting}
use Rattle.state_sets.specs.Narrowing.{IsChoice, GateSets, GivesAtPin, GivesAtGate, MeetsAt, inverted_if, state_at}
use Rattle.hulls.specs.declared.limits.Limits.{Limits}
use Rattle.hulls.specs.Sets.{Means}
use Rattle.hulls.specs.Passes.{PassFolds, PassSupports, IsLimited, AreLimitsOf, AreSidesOf, all_limits}
use Rattle.hulls.proofs.Sets.{has_left, has_right, one_has}
use Rattle.hulls.proofs.Folds.{joined_within, length_of_choice}
use Rattle.hulls.proofs.Limited.{all_limited, limited_meets, meets_limited, aside_meets, meets_aside}

-- a bit is 0 or 1
pub either_bit : (bit : Bool) → (bit ≡ false) ⊎ (bit ≡ true)
either_bit false = inl refl
either_bit true = inr refl

module _ (a : StateAlgebra) (laws : HasLaws a) where
  -- an inversion or none, twice, is none
  pub inverted_twice : (inverting : Bool) (s : State) → s.0 < a.count → inverted_if a inverting (inverted_if a inverting s) ≡ s
  inverted_twice false s within = refl
  inverted_twice true s within = laws.invert_twice s within

  module _ (kind : GateKind) (sets : List StateSet) (own target : StateSet)
      (hits : Means a.count target (λ s. (s.0 < a.count) × Has a.count own (inverted_if a (is_inverting kind) s)))
      (condition : Option Condition) where
    abbrev at : GateSets
    at = record { kind = kind; pins = sets; own = own }

    module _ (limits : Limits) where
      -- a choice within limits that imply the condition is allowed
      module _ (implied : (choice : List State) → IsChoice a.count sets choice → IsLimited a limits choice → MeetsAt a kind condition choice) where
        pub pass_gives : (pin : ℕ) (state : State) → PassSupports a (op_of kind) limits sets target pin state
            → GivesAtPin a at condition pin state
        pass_gives pin state supports = record {
          choice = supports.choice;
          allowed = record {
            at_pins = supports.each;
            at_gate = ((hits (joined a (op_of kind) supports.choice)).0 supports.hits).1;
            meets = implied supports.choice supports.each supports.limited;
          };
          gives = supports.here;
        }

        pub pass_gives_gate : (state : State) → state.0 < a.count
            → PassFolds a (op_of kind) limits sets target (inverted_if a (is_inverting kind) state) → GivesAtGate a at condition state
        pass_gives_gate state within folds =
            let i = inverted_if a (is_inverting kind) in record {
              choice = folds.choice;
              allowed = record {
                at_pins = folds.each;
                at_gate = subst (λ s. Has a.count own (i s)) (sym folds.joins) ((hits (i state)).0 folds.hits).1;
                meets = implied folds.choice folds.each folds.limited;
              };
              gives = ap i folds.joins ∙ inverted_twice (is_inverting kind) state within;
            }

      -- an allowed choice within limits is found by their pass
      pub gives_pass : (pin : ℕ) (state : State) → (gives : GivesAtPin a at condition pin state) → IsLimited a limits gives.choice
          → PassSupports a (op_of kind) limits sets target pin state
      gives_pass pin state gives limited = record {
        choice = gives.choice;
        each = gives.allowed.at_pins;
        limited = limited;
        hits = (hits (joined a (op_of kind) gives.choice)).1
            (joined_within a laws (op_of kind) gives.allowed.at_pins, gives.allowed.at_gate);
        here = gives.gives;
      }

      pub gives_pass_gate : (state : State) → (gives : GivesAtGate a at condition state) → IsLimited a limits gives.choice
          → PassFolds a (op_of kind) limits sets target (inverted_if a (is_inverting kind) state)
      gives_pass_gate state gives limited =
          let i = inverted_if a (is_inverting kind) in
          let folded = joined a (op_of kind) gives.choice in
          let within = joined_within a laws (op_of kind) gives.allowed.at_pins in
          let same : folded ≡ i state = sym (inverted_twice (is_inverting kind) folded within) ∙ ap i gives.gives in
          record {
            choice = gives.choice;
            each = gives.allowed.at_pins;
            limited = limited;
            joins = same;
            hits = subst (Has a.count target) same ((hits folded).1 (within, gives.allowed.at_gate));
          }

    -- a state of the gate that an allowed choice gives is below the count
    pub given_within : (state : State) → GivesAtGate a at condition state → state.0 < a.count
    given_within state gives = subst (λ (s : State). s.0 < a.count) gives.gives gives.allowed.at_gate.in_range

  module _ (kind : GateKind) (sets : List StateSet) (own target : StateSet)
      (hits : Means a.count target (λ s. (s.0 < a.count) × Has a.count own (inverted_if a (is_inverting kind) s))) where
    -- where all choices meet the condition, as they do without one, one pass finds all allowed choices
    module _ (condition : Option Condition) (meets : (choice : List State) → IsChoice a.count sets choice → MeetsAt a kind condition choice) where
      pub free_pin : (kept : StateSet) (pin : ℕ)
          → Means a.count kept (PassSupports a (op_of kind) (all_limits a.count) sets target pin)
          → Means a.count kept (GivesAtPin a (record { kind = kind; pins = sets; own = own }) condition pin)
      free_pin kept pin means state = (
        (λ has. pass_gives kind sets own target hits condition (all_limits a.count) (λ choice each limited. meets choice each)
            pin state ((means state).0 has)),
        λ gives. (means state).1 (gives_pass kind sets own target hits condition (all_limits a.count) pin state gives
            (all_limited a sets gives.allowed.at_pins)),
      )

      pub free_gate : (given result : StateSet) → Means a.count given (PassFolds a (op_of kind) (all_limits a.count) sets target)
          → Means a.count result (λ s. (s.0 < a.count) × Has a.count given (inverted_if a (is_inverting kind) s))
          → Means a.count result (GivesAtGate a (record { kind = kind; pins = sets; own = own }) condition)
      free_gate given result folds means state = (
        (λ has. let both = (means state).0 has in
            pass_gives_gate kind sets own target hits condition (all_limits a.count) (λ choice each limited. meets choice each) state both.0
            ((folds (inverted_if a (is_inverting kind) state)).0 both.1)),
        λ gives. (means state).1 (
          given_within kind sets own target hits condition state gives,
          (folds (inverted_if a (is_inverting kind) state)).1
              (gives_pass_gate kind sets own target hits condition (all_limits a.count) state gives (all_limited a sets gives.allowed.at_pins)),
        ),
      )

    -- with the condition of a step two passes do, one for each last value at the on-path pin
    module _ (step : Condition) (pin_within : step.pin < length sets) (zero one : Limits)
        (are_zero : AreLimitsOf a kind step false zero) (are_one : AreLimitsOf a kind step true one) where
      in_choice : {choice : List State} → IsChoice a.count sets choice → step.pin < length choice
      in_choice each = let e = length_of_choice a.count each in omega arith

      zero_meets : (choice : List State) → IsChoice a.count sets choice → IsLimited a zero choice → MeetsAt a kind (Some step) choice
      zero_meets choice each limited = limited_meets a kind step sets each (in_choice each) false zero are_zero limited

      one_meets : (choice : List State) → IsChoice a.count sets choice → IsLimited a one choice → MeetsAt a kind (Some step) choice
      one_meets choice each limited = limited_meets a kind step sets each (in_choice each) true one are_one limited

      limited_by : {choice : List State} → IsChoice a.count sets choice → MeetsAt a kind (Some step) choice
          → IsLimited a zero choice ⊎ IsLimited a one choice
      limited_by {choice} each meets = ⊎_elim
          (λ at_zero. inl (meets_limited a kind step sets each (in_choice each) meets false at_zero zero are_zero))
          (λ at_one. inr (meets_limited a kind step sets each (in_choice each) meets true at_one one are_one))
          (either_bit (a.last (state_at a choice step.pin)))

      pub step_pin : (mid kept : StateSet) (pin : ℕ)
          → Means a.count mid (PassSupports a (op_of kind) zero sets target pin)
          → Means a.count kept (λ s. Has a.count mid s ⊎ PassSupports a (op_of kind) one sets target pin s)
          → Means a.count kept (GivesAtPin a (record { kind = kind; pins = sets; own = own }) (Some step) pin)
      step_pin mid kept pin first second state = (
        (λ has. ⊎_elim
            (λ before. pass_gives kind sets own target hits (Some step) zero zero_meets pin state ((first state).0 before))
            (λ supports. pass_gives kind sets own target hits (Some step) one one_meets pin state supports)
            ((second state).0 has)),
        λ gives. (second state).1 (⊎_elim
            (λ limited. inl ((first state).1 (gives_pass kind sets own target hits (Some step) zero pin state gives limited)))
            (λ limited. inr (gives_pass kind sets own target hits (Some step) one pin state gives limited))
            (limited_by gives.allowed.at_pins gives.allowed.meets)),
      )

      pub step_gate : (at_zero at_one given result : StateSet)
          → Means a.count at_zero (PassFolds a (op_of kind) zero sets target)
          → Means a.count at_one (PassFolds a (op_of kind) one sets target)
          → given.0 ≡ bit_or at_zero.0 at_one.0
          → Means a.count result (λ s. (s.0 < a.count) × Has a.count given (inverted_if a (is_inverting kind) s))
          → Means a.count result (GivesAtGate a (record { kind = kind; pins = sets; own = own }) (Some step))
      step_gate at_zero at_one given result first second union means state =
          let i = inverted_if a (is_inverting kind) in (
            (λ has. let both = (means state).0 has in ⊎_elim
                (λ here. pass_gives_gate kind sets own target hits (Some step) zero zero_meets state both.0 ((first (i state)).0 here))
                (λ here. pass_gives_gate kind sets own target hits (Some step) one one_meets state both.0 ((second (i state)).0 here))
                (one_has a.count at_zero at_one (i state) given union both.1)),
            λ gives. (means state).1 (
              given_within kind sets own target hits (Some step) state gives,
              ⊎_elim
                  (λ limited. has_left a.count at_zero at_one (i state) given union
                  ((first (i state)).1 (gives_pass_gate kind sets own target hits (Some step) zero state gives limited)))
                  (λ limited. has_right a.count at_zero at_one (i state) given union
                  ((second (i state)).1 (gives_pass_gate kind sets own target hits (Some step) one state gives limited)))
                  (limited_by gives.allowed.at_pins gives.allowed.meets),
            ),
          )

    -- where the condition asks the same of the sides for both last values, one pass does, with all states at the on-path pin
    module _ (step : Condition) (pin_within : step.pin < length sets) (sides : StateSet)
        (are_sides : (bit : Bool) → AreSidesOf a kind step bit sides)
        (limits : Limits) (on_path : limits.on_path ≡ step.pin) (free : limits.at_on_path ≡ all_states a.count)
        (at_sides : limits.at_sides ≡ sides) where
      on_choice : {choice : List State} → IsChoice a.count sets choice → step.pin < length choice
      on_choice each = let e = length_of_choice a.count each in omega arith

      meets_it : (choice : List State) → IsChoice a.count sets choice → IsLimited a limits choice → MeetsAt a kind (Some step) choice
      meets_it choice each limited =
          aside_meets a kind step sets each (on_choice each) sides are_sides limits on_path free at_sides limited

      is_limited : {choice : List State} → IsChoice a.count sets choice → MeetsAt a kind (Some step) choice → IsLimited a limits choice
      is_limited each meets =
          meets_aside a kind step sets each (on_choice each) sides are_sides limits on_path free at_sides meets

      pub aside_pin : (kept : StateSet) (pin : ℕ) → Means a.count kept (PassSupports a (op_of kind) limits sets target pin)
          → Means a.count kept (GivesAtPin a (record { kind = kind; pins = sets; own = own }) (Some step) pin)
      aside_pin kept pin means state = (
        (λ has. pass_gives kind sets own target hits (Some step) limits meets_it pin state ((means state).0 has)),
        λ gives. (means state).1 (gives_pass kind sets own target hits (Some step) limits pin state gives
            (is_limited gives.allowed.at_pins gives.allowed.meets)),
      )

      pub aside_gate : (given result : StateSet) → Means a.count given (PassFolds a (op_of kind) limits sets target)
          → Means a.count result (λ s. (s.0 < a.count) × Has a.count given (inverted_if a (is_inverting kind) s))
          → Means a.count result (GivesAtGate a (record { kind = kind; pins = sets; own = own }) (Some step))
      aside_gate given result folds means state = (
        (λ has. let both = (means state).0 has in
            pass_gives_gate kind sets own target hits (Some step) limits meets_it state both.0
            ((folds (inverted_if a (is_inverting kind) state)).0 both.1)),
        λ gives. (means state).1 (
          given_within kind sets own target hits (Some step) state gives,
          (folds (inverted_if a (is_inverting kind) state)).1
              (gives_pass_gate kind sets own target hits (Some step) limits state gives
              (is_limited gives.allowed.at_pins gives.allowed.meets)),
        ),
      )
