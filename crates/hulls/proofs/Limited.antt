-- Choices out of sets that are cut to limits, and what the limits of a condition say of them.
use Rattle.std.proofs.Common.{◌≡◌, ◌≢◌, ℕ, zero, suc, ◌<◌, ◌^◌, ◌==◌, ◌⊎◌, inl, ⊎_elim, Bool, List, [], ◌∷◌, length, sym, ap, ◌∙◌, subst, arith}
use Rattle.std.proofs.lemmas.Nat.{and_le_r}
use Rattle.std.proofs.lemmas.Bool.{cases_eq, eq-eqb, ne_eqb, cond-true, cond-false}
use Rattle.netlist.specs.declared.kind.GateKind.{GateKind}
use Rattle.netlist.specs.Conditions.{side_condition, Allows}
use Rattle.state_sets.specs.declared.state.State.{State}
use Rattle.state_sets.specs.declared.state.StateSet.{StateSet}
use Rattle.state_sets.specs.declared.condition.Condition.{Condition}
use Rattle.state_sets.specs.States.{Has, all_states, both_sets, no_states}
use Rattle.state_sets.specs.StateAlgebra.{StateAlgebra}
use Rattle.state_sets.specs.Narrowing.{IsChoice, SidesMeetAt, state_at}
use Rattle.state_sets.specs.Narrowing.IsChoice.{none, one}
use Rattle.hulls.specs.declared.limits.Limits.{Limits}
use Rattle.netlist.specs.declared.op.Op.{Op}
use Rattle.hulls.specs.Sets.{Means, set_at}
use Rattle.hulls.specs.Joins.{Supports, FoldsInto}
use Rattle.hulls.specs.Limits.{limit_at, AreCut}
use Rattle.hulls.specs.Passes.{IsLimited, PassSupports, PassFolds, AreLimitsOf, AreSidesOf, all_limits}
use Rattle.hulls.proofs.Sets.{has_both, both_have, has_none, all_have}
use Rattle.hulls.proofs.Folds.{length_of_choice}

-- the limit at the on-path pin, and at another one
pub limit_on : (limits : Limits) (pin : ℕ) → pin ≡ limits.on_path → limit_at limits pin ≡ limits.at_on_path
limit_on limits pin is = cond-true (pin == limits.on_path) limits.at_on_path limits.at_sides (eq-eqb pin limits.on_path is)

pub limit_aside : (limits : Limits) (pin : ℕ) → pin ≢ limits.on_path → limit_at limits pin ≡ limits.at_sides
limit_aside limits pin differs =
    cond-false (pin == limits.on_path) limits.at_on_path limits.at_sides (ne_eqb pin limits.on_path differs)

-- sets that are cut to limits within the states are within them
pub cut_sets_within : (count : ℕ) (limits : Limits) (sets cut : List StateSet) → AreCut limits sets cut
    → limits.at_on_path.0 < 2 ^ count → limits.at_sides.0 < 2 ^ count → (k : ℕ) → k < length sets → (set_at cut k).0 < 2 ^ count
cut_sets_within count limits sets cut are on_path sides k inside =
    let limit : (limit_at limits k).0 < 2 ^ count = ⊎_elim
    (λ (here : k ≡ limits.on_path). subst (λ (s : StateSet). s.0 < 2 ^ count) (sym (limit_on limits k here)) on_path)
    (λ (away : k ≢ limits.on_path). subst (λ (s : StateSet). s.0 < 2 ^ count) (sym (limit_aside limits k away)) sides)
    (cases_eq k limits.on_path) in
    let e = ap (λ (s : StateSet). s.0) (are.each k inside) in
    let f = and_le_r (set_at sets k).0 (limit_at limits k).0 in omega arith

module _ (a : StateAlgebra) where
  -- a choice has at each place a state of its set
  pub choice_at : (sets : List StateSet) {choice : List State} → IsChoice a.count sets choice → (k : ℕ) → k < length sets
      → Has a.count (set_at sets k) (state_at a choice k)
  choice_at [] none k inside = absurd (omega arith)
  choice_at (set ∷ sets) (one has each) zero inside = has
  choice_at (set ∷ sets) (one has each) (suc k) inside = choice_at sets each k (omega arith)

  -- and states that are so are a choice
  pub choice_from : (sets : List StateSet) (choice : List State) → length choice ≡ length sets
      → ((k : ℕ) → k < length sets → Has a.count (set_at sets k) (state_at a choice k)) → IsChoice a.count sets choice
  choice_from [] [] same each = none
  choice_from [] (state ∷ choice) same each = absurd (omega arith)
  choice_from (set ∷ sets) [] same each = absurd (omega arith)
  choice_from (set ∷ sets) (state ∷ choice) same each =
      one (each zero (omega arith)) (choice_from sets choice (omega arith) (λ k inside. each (suc k) (omega arith)))

  module _ (limits : Limits) (sets cut : List StateSet) (are : AreCut limits sets cut) where
    -- a choice out of the cut sets is one out of the sets within the limits
    pub cut_choice : {choice : List State} → IsChoice a.count cut choice
        → IsChoice a.count sets choice × IsLimited a limits choice
    cut_choice {choice} each =
        let same : length choice ≡ length sets = length_of_choice a.count each ∙ are.one_each in
        let at : (k : ℕ) → k < length sets → Has a.count (set_at sets k) (state_at a choice k) × Has a.count (limit_at limits k) (state_at a choice k) =
        λ k inside. both_have a.count (set_at sets k) (limit_at limits k) (state_at a choice k) (set_at cut k)
        (ap (λ (s : StateSet). s.0) (are.each k inside)) (choice_at cut each k (let e = are.one_each in omega arith)) in
        (choice_from sets choice same (λ k inside. (at k inside).0), λ k inside. (at k (omega arith)).1)

    -- and the other way
    pub choice_cut : {choice : List State} → IsChoice a.count sets choice → IsLimited a limits choice → IsChoice a.count cut choice
    choice_cut {choice} each limited =
        let same : length choice ≡ length sets = length_of_choice a.count each in
        choice_from cut choice (same ∙ sym are.one_each) (λ k inside. let in_sets : k < length sets = let e = are.one_each in omega arith in
        has_both a.count (set_at sets k) (limit_at limits k) (state_at a choice k) (set_at cut k)
        (ap (λ (s : StateSet). s.0) (are.each k in_sets)) (choice_at sets each k in_sets) (limited k (omega arith)))

    -- so what choices out of the cut sets have and join to, a pass within the limits finds
    module _ (op : Op) (target found : StateSet) where
      pub passed_supports : (pin : ℕ) → Means a.count found (Supports a op cut target pin)
          → Means a.count found (PassSupports a op limits sets target pin)
      passed_supports pin means state = (
        (λ has. let supports = (means state).0 has in let both = cut_choice supports.each in
            record { choice = supports.choice; each = both.0; limited = both.1; hits = supports.hits; here = supports.here }),
        λ pass. (means state).1 (record {
          choice = pass.choice;
          each = choice_cut pass.each pass.limited;
          hits = pass.hits;
          here = pass.here;
        }),
      )

      pub passed_folds : Means a.count found (FoldsInto a op cut target) → Means a.count found (PassFolds a op limits sets target)
      passed_folds means state = (
        (λ has. let into = (means state).0 has in let both = cut_choice into.folds.each in
            record { choice = into.folds.choice; each = both.0; limited = both.1; joins = into.folds.joins; hits = into.hits }),
        λ pass. (means state).1 (record {
          folds = record { choice = pass.choice; each = choice_cut pass.each pass.limited; joins = pass.joins };
          hits = pass.hits;
        }),
      )

  -- a choice is below the count at each place
  pub choice_in_range : (sets : List StateSet) {choice : List State} → IsChoice a.count sets choice → (k : ℕ) → k < length choice
      → (state_at a choice k).0 < a.count
  choice_in_range sets each k inside = (choice_at sets each k (let e = length_of_choice a.count each in omega arith)).in_range

  -- each choice is within limits that leave all states
  pub all_limited : (sets : List StateSet) {choice : List State} → IsChoice a.count sets choice → IsLimited a (all_limits a.count) choice
  all_limited sets {choice} each k inside =
      let all = all_have a.count (state_at a choice k) (choice_in_range sets each k inside) in ⊎_elim
      (λ (here : k ≡ 0). subst (λ s. Has a.count s (state_at a choice k)) (sym (limit_on (all_limits a.count) k here)) all)
      (λ (away : k ≢ 0). subst (λ s. Has a.count s (state_at a choice k)) (sym (limit_aside (all_limits a.count) k away)) all)
      (cases_eq k 0)

  -- where no state of the on-path pin's set is within its limit, no choice is within the limits, and a pass finds nothing
  module _ (limits : Limits) (sets : List StateSet) (on_path : limits.on_path < length sets) (cut : StateSet)
      (is : cut ≡ both_sets (set_at sets limits.on_path) (limit_at limits limits.on_path)) (empty : cut ≡ no_states) where
    none_limited : {choice : List State} → IsChoice a.count sets choice → IsLimited a limits choice → ⊥
    none_limited {choice} each limited =
        let state = state_at a choice limits.on_path in
        has_none a.count state (subst (λ s. Has a.count s state) empty
        (has_both a.count (set_at sets limits.on_path) (limit_at limits limits.on_path) state cut (ap (λ (s : StateSet). s.0) is)
        (choice_at sets each limits.on_path on_path) (limited limits.on_path (let e = length_of_choice a.count each in omega arith))))

    module _ (op : Op) (target : StateSet) where
      pub none_supports : (kept : StateSet) (pin : ℕ)
          → Means a.count kept (λ s. Has a.count kept s ⊎ PassSupports a op limits sets target pin s)
      none_supports kept pin state = (
        (λ has. inl has),
        λ either. ⊎_elim (λ has. has)
            (λ (supports : PassSupports a op limits sets target pin state). absurd (none_limited supports.each supports.limited)) either,
      )

      pub none_folds : Means a.count no_states (PassFolds a op limits sets target)
      none_folds state = (
        (λ has. absurd (has_none a.count state has)),
        λ folds. absurd (none_limited folds.each folds.limited),
      )

  module _ (kind : GateKind) (step : Condition) (sets : List StateSet) {choice : List State}
      (each : IsChoice a.count sets choice) (pin : step.pin < length choice) where
    -- a choice within the limits of a condition meets it
    pub limited_meets : (bit : Bool) (limits : Limits) → AreLimitsOf a kind step bit limits → IsLimited a limits choice
        → SidesMeetAt a kind step choice
    limited_meets bit limits are limited side inside other =
        let on : a.last (state_at a choice step.pin) ≡ bit =
        ((are.at_on_path (state_at a choice step.pin)).0
        (subst (λ s. Has a.count s (state_at a choice step.pin)) (limit_on limits step.pin (sym are.on_path)) (limited step.pin pin))).1 in
        let aside : side ≢ limits.on_path = λ same. other (same ∙ are.on_path) in
        subst (λ b. Allows (side_condition step.kind kind b) (a.last (state_at a choice side)) (a.steady (state_at a choice side)))
        (sym on)
        ((are.at_sides (state_at a choice side)).0
        (subst (λ s. Has a.count s (state_at a choice side)) (limit_aside limits side aside) (limited side inside))).1

    -- a choice that meets a condition is within its limits for the last value at the on-path pin
    pub meets_limited : SidesMeetAt a kind step choice → (bit : Bool) → a.last (state_at a choice step.pin) ≡ bit
        → (limits : Limits) → AreLimitsOf a kind step bit limits → IsLimited a limits choice
    meets_limited meets bit on limits are k inside = ⊎_elim
        (λ (here : k ≡ limits.on_path).
        let same : k ≡ step.pin = here ∙ are.on_path in
        subst (λ s. Has a.count s (state_at a choice k)) (sym (limit_on limits k here))
        ((are.at_on_path (state_at a choice k)).1 (
          choice_in_range sets each k inside,
          ap (λ p. a.last (state_at a choice p)) same ∙ on,
        )))
        (λ (away : k ≢ limits.on_path).
        subst (λ s. Has a.count s (state_at a choice k)) (sym (limit_aside limits k away))
        ((are.at_sides (state_at a choice k)).1 (
          choice_in_range sets each k inside,
          subst (λ b. Allows (side_condition step.kind kind b) (a.last (state_at a choice k)) (a.steady (state_at a choice k))) on
              (meets k inside (λ same. away (same ∙ sym are.on_path))),
        )))
        (cases_eq k limits.on_path)

    -- The same of limits that leave all states at the on-path pin, and at the sides those that the condition allows whatever the on-path
    -- pin ends at.
    module _ (sides : StateSet) (are_sides : (bit : Bool) → AreSidesOf a kind step bit sides)
        (limits : Limits) (on_path : limits.on_path ≡ step.pin) (free : limits.at_on_path ≡ all_states a.count)
        (at_sides : limits.at_sides ≡ sides) where
      pub aside_meets : IsLimited a limits choice → SidesMeetAt a kind step choice
      aside_meets limited side inside other =
          let aside : side ≢ limits.on_path = λ same. other (same ∙ on_path) in
          ((are_sides (a.last (state_at a choice step.pin)) (state_at a choice side)).0
          (subst (λ s. Has a.count s (state_at a choice side)) (limit_aside limits side aside ∙ at_sides) (limited side inside))).1

      pub meets_aside : SidesMeetAt a kind step choice → IsLimited a limits choice
      meets_aside meets k inside = ⊎_elim
          (λ (here : k ≡ limits.on_path). subst (λ s. Has a.count s (state_at a choice k)) (sym (limit_on limits k here ∙ free))
          (all_have a.count (state_at a choice k) (choice_in_range sets each k inside)))
          (λ (away : k ≢ limits.on_path). subst (λ s. Has a.count s (state_at a choice k)) (sym (limit_aside limits k away ∙ at_sides))
          ((are_sides (a.last (state_at a choice step.pin)) (state_at a choice k)).1
          (choice_in_range sets each k inside, meets k inside (λ same. away (same ∙ sym on_path)))))
          (cases_eq k limits.on_path)
