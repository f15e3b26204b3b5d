-- Passes over the sets of one pin, of two or of three.
use Rattle.std.proofs.Common.{◌≡◌, ℕ, zero, suc, ◌<◌, ◌^◌, List, [], ◌∷◌, length, Option, Some, None, bit_and, refl, sym, ap, ◌∙◌, subst, arith, lit<}
use Rattle.std.specs.Option.{IfSome}
use Rattle.std.proofs.Math.ListN.{set}
use Rattle.std.proofs.lemmas.List.{get_or-set_same, get_or-set_other, length-set}
use Rattle.netlist.specs.declared.op.Op.{Op}
use Rattle.netlist.specs.declared.kind.GateKind.{GateKind}
use Rattle.state_sets.specs.declared.state.State.{State}
use Rattle.state_sets.specs.declared.state.StateSet.{StateSet}
use Rattle.state_sets.specs.declared.condition.Condition.{Condition}
use Rattle.state_sets.specs.States.{Has, both_sets, no_states}
use Rattle.state_sets.specs.StateSets.{AreJoins, JoinsInto, AreSupporting}
use Rattle.state_sets.specs.StateAlgebra.{StateAlgebra, HasLaws}
use Rattle.state_sets.specs.Narrowing.{IsChoice, MeetsAt}
use Rattle.hulls.specs.declared.limits.Limits.{Limits}
use Rattle.hulls.specs.Sets.{Means, set_at}
use Rattle.hulls.specs.Limits.{limit_at, AreCut}
use Rattle.hulls.specs.Joins.{Folds, FoldsInto, Supports}
use Rattle.hulls.proofs.Sets.{only_has, only_this, has_both, both_have}
use Rattle.hulls.proofs.Folds.{length_of_choice, folds_cons, supports_at}
use Rattle.hulls.proofs.Suffixes.{unit_folds, supporting_cut}

-- a condition asks nothing of the choices at a gate with one pin
pub meets_at_one : (a : StateAlgebra) (kind : GateKind) (sets : List StateSet) (condition : Option Condition) → length sets ≡ 1
    → IfSome condition (λ c. c.pin < 1) → (choice : List State) → IsChoice a.count sets choice → MeetsAt a kind condition choice
meets_at_one a kind sets None one pin choice each = tt
meets_at_one a kind sets (Some step) one pin choice each =
    λ side inside other. absurd (let e = length_of_choice a.count each in omega arith)

-- the sets of one pin, of two or of three, cut to limits
pub cut_one : (limits : Limits) (sets : List StateSet) (first : StateSet) → length sets ≡ 1
    → first ≡ both_sets (set_at sets 0) (limit_at limits 0) → AreCut limits sets (first ∷ [])
cut_one limits sets first one is = record { one_each = sym one; each = λ pin inside. at pin (omega arith) }
  where
    at : (pin : ℕ) → pin < 1 → set_at (first ∷ []) pin ≡ both_sets (set_at sets pin) (limit_at limits pin)
    at zero inside = is
    at (suc pin) inside = absurd (omega arith)

pub cut_two : (limits : Limits) (sets : List StateSet) (first second : StateSet) → length sets ≡ 2
    → first ≡ both_sets (set_at sets 0) (limit_at limits 0) → second ≡ both_sets (set_at sets 1) (limit_at limits 1)
    → AreCut limits sets (first ∷ second ∷ [])
cut_two limits sets first second two is_first is_second =
    record { one_each = sym two; each = λ pin inside. at pin (omega arith) }
  where
    at : (pin : ℕ) → pin < 2 → set_at (first ∷ second ∷ []) pin ≡ both_sets (set_at sets pin) (limit_at limits pin)
    at zero inside = is_first
    at (suc zero) inside = is_second
    at (suc (suc pin)) inside = absurd (omega arith)

pub cut_three : (limits : Limits) (sets : List StateSet) (first second third : StateSet) → length sets ≡ 3
    → first ≡ both_sets (set_at sets 0) (limit_at limits 0) → second ≡ both_sets (set_at sets 1) (limit_at limits 1)
    → third ≡ both_sets (set_at sets 2) (limit_at limits 2) → AreCut limits sets (first ∷ second ∷ third ∷ [])
cut_three limits sets first second third three is_first is_second is_third =
    record { one_each = sym three; each = λ pin inside. at pin (omega arith) }
  where
    at : (pin : ℕ) → pin < 3 → set_at (first ∷ second ∷ third ∷ []) pin ≡ both_sets (set_at sets pin) (limit_at limits pin)
    at zero inside = is_first
    at (suc zero) inside = is_second
    at (suc (suc zero)) inside = is_third
    at (suc (suc (suc pin))) inside = absurd (omega arith)

-- what is kept at one pin, at two or at three stands at the first places
pub kept_one : (P : ℕ → StateSet → Type 0) (kept : List StateSet) (first : StateSet) (count : ℕ) → count ≡ 1 → 0 < length kept
    → P 0 first → (pin : ℕ) → pin < count → P pin (set_at (set kept 0 first) pin)
kept_one P kept first count one room at_first pin inside = at pin (omega arith)
  where
    at : (pin : ℕ) → pin < 1 → P pin (set_at (set kept 0 first) pin)
    at zero inside = subst (P 0) (sym (get_or-set_same kept 0 first no_states room)) at_first
    at (suc pin) inside = absurd (omega arith)

pub kept_two : (P : ℕ → StateSet → Type 0) (kept : List StateSet) (first second : StateSet) (count : ℕ) → count ≡ 2
    → 1 < length kept → P 0 first → P 1 second → (pin : ℕ) → pin < count → P pin (set_at (set (set kept 0 first) 1 second) pin)
kept_two P kept first second count two room at_first at_second pin inside = at pin (omega arith)
  where
    at : (pin : ℕ) → pin < 2 → P pin (set_at (set (set kept 0 first) 1 second) pin)
    at zero inside = subst (P 0)
        (sym (get_or-set_other (set kept 0 first) 1 0 second no_states (λ same. absurd (omega arith))
        ∙ get_or-set_same kept 0 first no_states (omega arith))) at_first
    at (suc zero) inside = subst (P 1)
        (sym (get_or-set_same (set kept 0 first) 1 second no_states (omega (arith, length-set kept 0 first)))) at_second
    at (suc (suc pin)) inside = absurd (omega arith)

pub kept_three : (P : ℕ → StateSet → Type 0) (kept : List StateSet) (first second third : StateSet) (count : ℕ) → count ≡ 3
    → 2 < length kept → P 0 first → P 1 second → P 2 third → (pin : ℕ) → pin < count
    → P pin (set_at (set (set (set kept 0 first) 1 second) 2 third) pin)
kept_three P kept first second third count three room at_first at_second at_third pin inside = at pin (omega arith)
  where
    two : List StateSet
    two = set (set kept 0 first) 1 second

    as_many : length two ≡ length kept
    as_many = length-set (set kept 0 first) 1 second ∙ length-set kept 0 first

    before : (k : ℕ) → k < 2 → P k (set_at two k)
    before k low = kept_two P kept first second 2 refl (omega arith) at_first at_second k low

    at : (pin : ℕ) → pin < 3 → P pin (set_at (set two 2 third) pin)
    at zero inside = subst (P 0) (sym (get_or-set_other two 2 0 third no_states (λ same. absurd (omega arith)))) (before 0 (omega arith))
    at (suc zero) inside = subst (P 1) (sym (get_or-set_other two 2 1 third no_states (λ same. absurd (omega arith)))) (before 1 (omega arith))
    at (suc (suc zero)) inside = subst (P 2) (sym (get_or-set_same two 2 third no_states (omega (arith, as_many)))) at_third
    at (suc (suc (suc pin))) inside = absurd (omega arith)

module _ (a : StateAlgebra) (laws : HasLaws a) (op : Op) where
  -- the unit alone, with which a set joins to itself
  abbrev unit_set : StateSet
  unit_set = record { 0 = 2 ^ (a.unit op).0 }

  unit_has : Has a.count unit_set (a.unit op)
  unit_has = only_has a.count unit_set (a.unit op) refl (laws.unit_within op)

  unit_second : (x : State) → x.0 < a.count → a.join op x (a.unit op) ≡ x
  unit_second x within = laws.commutative op x (a.unit op) within (laws.unit_within op) ∙ laws.unit_first op x within

  joins_unit_first : (set : StateSet) → AreJoins a op unit_set set set
  joins_unit_first set state = (
    (λ has. record { left = a.unit op; right = state; in_first = unit_has; in_second = has; joins = laws.unit_first op state has.in_range }),
    λ join. let is = only_this a.count unit_set (a.unit op) join.left refl join.in_first in
        subst (Has a.count set) (sym (laws.unit_first op join.right join.in_second.in_range)
        ∙ ap (λ x. a.join op x join.right) (sym is) ∙ join.joins) join.in_second,
  )

  joins_unit_second : (set : StateSet) → AreJoins a op set unit_set set
  joins_unit_second set state = (
    (λ has. record { left = state; right = a.unit op; in_first = has; in_second = unit_has; joins = unit_second state has.in_range }),
    λ join. let is = only_this a.count unit_set (a.unit op) join.right refl join.in_second in
        subst (Has a.count set) (sym (unit_second join.left join.in_first.in_range)
        ∙ ap (a.join op join.left) (sym is) ∙ join.joins) join.in_first,
  )

  none_folds : Means a.count unit_set (Folds a op [])
  none_folds = unit_folds a laws op [] unit_set refl

  one_folds : (set : StateSet) → Means a.count set (Folds a op (set ∷ []))
  one_folds set = folds_cons a laws op set [] unit_set set none_folds (joins_unit_second set)

  module _ (target : StateSet) where
    -- what is cut to the target
    folds_into : (sets : List StateSet) (joins found : StateSet) → Means a.count joins (Folds a op sets)
        → found.0 ≡ bit_and joins.0 target.0 → Means a.count found (FoldsInto a op sets target)
    folds_into sets joins found means is state = (
      (λ has. let both = both_have a.count joins target state found is has in
          record { folds = (means state).0 both.0; hits = both.1 }),
      λ into. has_both a.count joins target state found is ((means state).1 into.folds) into.hits,
    )

    -- a state joins with the unit into the target where it is in it
    into_with_unit : (state : State) → Has a.count target state → JoinsInto a op unit_set target state
    into_with_unit state has = record {
      other = a.unit op;
      in_rest = unit_has;
      hits = subst (Has a.count target) (sym (unit_second state has.in_range)) has;
    }

    hits_alone : (state : State) → state.0 < a.count → JoinsInto a op unit_set target state → Has a.count target state
    hits_alone state within into =
        let is = only_this a.count unit_set (a.unit op) into.other refl into.in_rest in
        subst (Has a.count target) (ap (a.join op state) is ∙ unit_second state within) into.hits

    -- the states of the only set that are in the target
    module _ (set found : StateSet) (is : found.0 ≡ bit_and set.0 target.0) where
      pub alone_supports : Means a.count found (Supports a op (set ∷ []) target 0)
      alone_supports =
          supports_at a laws op (set ∷ []) 0 (lit< tt) unit_set unit_set unit_set target none_folds none_folds
          (joins_unit_first unit_set) found
          (λ state. (
            (λ has. let both = both_have a.count set target state found is has in
                (has.in_range, (both.0, into_with_unit state both.1))),
            λ all. has_both a.count set target state found is all.1.0 (hits_alone state all.0 all.1.1),
          ))

      pub alone_folds : Means a.count found (FoldsInto a op (set ∷ []) target)
      alone_folds = folds_into (set ∷ []) set found (one_folds set) is

    -- the states of two sets that support the target, each with the other set as the rest
    module _ (first second support found : StateSet) where
      pub first_supports : AreSupporting a op second target support → found.0 ≡ bit_and first.0 support.0
          → Means a.count found (Supports a op (first ∷ second ∷ []) target 0)
      first_supports supports is =
          supports_at a laws op (first ∷ second ∷ []) 0 (lit< tt) unit_set second second target none_folds (one_folds second)
          (joins_unit_first second) found
          (supporting_cut a laws op (first ∷ second ∷ []) target [] first second support found supports is)

      pub second_supports : AreSupporting a op first target support → found.0 ≡ bit_and second.0 support.0
          → Means a.count found (Supports a op (first ∷ second ∷ []) target 1)
      second_supports supports is =
          supports_at a laws op (first ∷ second ∷ []) 1 (lit< tt) first unit_set first target (one_folds first) none_folds
          (joins_unit_second first) found
          (supporting_cut a laws op (first ∷ second ∷ []) target [] second first support found supports is)

    pub both_fold : (first second joins found : StateSet) → AreJoins a op first second joins → found.0 ≡ bit_and joins.0 target.0
        → Means a.count found (FoldsInto a op (first ∷ second ∷ []) target)
    both_fold first second joins found are is =
        folds_into (first ∷ second ∷ []) joins found
        (folds_cons a laws op first (second ∷ []) second joins (one_folds second) are) is

    two_folds : (first second joins : StateSet) → AreJoins a op first second joins → Means a.count joins (Folds a op (first ∷ second ∷ []))
    two_folds first second joins are = folds_cons a laws op first (second ∷ []) second joins (one_folds second) are

    -- the states of three sets that support the target, each with the join of the others as the rest
    module _ (first second third support found : StateSet) where
      pub first_of_three : (last_two : StateSet) → AreJoins a op second third last_two → AreSupporting a op last_two target support
          → found.0 ≡ bit_and first.0 support.0 → Means a.count found (Supports a op (first ∷ second ∷ third ∷ []) target 0)
      first_of_three last_two are supports is =
          supports_at a laws op (first ∷ second ∷ third ∷ []) 0 (lit< tt) unit_set last_two last_two target none_folds
          (two_folds second third last_two are) (joins_unit_first last_two) found
          (supporting_cut a laws op (first ∷ second ∷ third ∷ []) target [] first last_two support found supports is)

      pub second_of_three : (outer : StateSet) → AreJoins a op first third outer → AreSupporting a op outer target support
          → found.0 ≡ bit_and second.0 support.0 → Means a.count found (Supports a op (first ∷ second ∷ third ∷ []) target 1)
      second_of_three outer are supports is =
          supports_at a laws op (first ∷ second ∷ third ∷ []) 1 (lit< tt) first third outer target (one_folds first) (one_folds third)
          are found
          (supporting_cut a laws op (first ∷ second ∷ third ∷ []) target [] second outer support found supports is)

      pub third_of_three : (first_two : StateSet) → AreJoins a op first second first_two → AreSupporting a op first_two target support
          → found.0 ≡ bit_and third.0 support.0 → Means a.count found (Supports a op (first ∷ second ∷ third ∷ []) target 2)
      third_of_three first_two are supports is =
          supports_at a laws op (first ∷ second ∷ third ∷ []) 2 (lit< tt) first_two unit_set first_two target
          (two_folds first second first_two are) none_folds (joins_unit_second first_two) found
          (supporting_cut a laws op (first ∷ second ∷ third ∷ []) target [] third first_two support found supports is)

    pub three_fold : (first second third last_two joins found : StateSet) → AreJoins a op second third last_two
        → AreJoins a op first last_two joins → found.0 ≡ bit_and joins.0 target.0
        → Means a.count found (FoldsInto a op (first ∷ second ∷ third ∷ []) target)
    three_fold first second third last_two joins found are_last are is =
        folds_into (first ∷ second ∷ third ∷ []) joins found
        (folds_cons a laws op first (second ∷ third ∷ []) last_two joins (two_folds second third last_two are_last) are) is
