-- One proof more is found: what is known of a path to which it does not apply stays known.
use Rattle.std.proofs.Common.{◌≡◌, ⊎_elim, ℕ, ◌+◌, ◌≤◌, List, [], ◌∷◌, ◌++◌, length, sym, subst, ◌∙◌, arith}
use Rattle.std.specs.Prelude.{Contains}
use Rattle.std.proofs.lemmas.List.Elements.{All-push}
use Rattle.pd_base.specs.declared.rules.Rules.{Rules}
use Rattle.pd_base.specs.Route.{Route}
use Rattle.pd_base.specs.Target.{Target}
use Rattle.netlist.specs.Circuit.{Circuit}
use Rattle.runs.specs.declared.run.Proof.{Proof}
use Rattle.good_runs.specs.Faults.{Applies, IsNumber, NoneApplies}
use Rattle.good_runs.proofs.Growing.{none_applies_kept, proof_kept}
use Rattle.good_runs.proofs.Numbers.{number_kept, number_of_push, number_within}
use Rattle.prefix_sensitize.specs.declared.outcome.RowOutcome.{RowOutcome}
use Rattle.prefix_sensitize.specs.declared.outcome.RowOutcome.TheVariants.{Unsearched, Tested, Proved}
use Rattle.prefix_sensitize.specs.Outcomes.{AreApart, AreFoundProofs, IsFoundProof, IsOutcome}

module _ (routes : List Route) (old : List Proof) (added : Proof) where
  -- all proofs then
  abbrev all : List Proof
  all = old ++ added ∷ []

  -- of the one proof more none applies
  none_of_one : (target : Target) → ¬ Applies routes target added → NoneApplies routes (added ∷ []) target
  none_of_one target apart number proof is applies =
      ⊎_elim
      (λ (before : IsNumber [] number proof).
      let few : number ≤ 0 = number_within [] number proof before in
      let some = before.positive in
      absurd (omega (arith, few, some)))
      (λ (last : (number ≡ 0 + 1) × (added ≡ proof)).
      let P : Proof → Type 0 = λ p. Applies routes target p in
      apart (subst P (sym last.1) applies))
      (number_of_push [] added proof number is)

  pub none_still : (target : Target) → ¬ Applies routes target added → NoneApplies routes old target → NoneApplies routes all target
  none_still target apart none = none_applies_kept routes old (added ∷ []) target (none_of_one target apart) none

  -- where none of all applies, none of those before does
  pub none_before : (target : Target) → NoneApplies routes all target → NoneApplies routes old target
  none_before target none number proof is applies = none number proof (number_kept old (added ∷ []) number proof is) applies

  -- an outcome is still what is promised
  pub outcome_still : (c : Circuit) (rules : Rules) (row : ℕ) (target : Target) (outcome : RowOutcome) → ¬ Applies routes target added
      → IsOutcome c rules routes old row target outcome → IsOutcome c rules routes all row target outcome
  outcome_still c rules row target Unsearched apart is = is
  outcome_still c rules row target (Tested pair) apart is = is
  outcome_still c rules row target (Proved index) apart is =
      proof_kept routes old (added ∷ []) target (none_of_one target apart) (row + 1) (index + 1) is

  module _ (alone : (target : Target) → Contains routes target.path → Applies routes target added → NoneApplies routes old target) where
    -- still at most one proof refutes a target
    apart_still : AreApart routes old → AreApart routes all
    apart_still apart number other proof other_proof target is is_other listed applies other_applies =
        let P : Proof → Type 0 = λ p. Applies routes target p in
        ⊎_elim
        (λ (first : IsNumber old number proof).
        ⊎_elim
        (λ (second : IsNumber old other other_proof).
        apart number other proof other_proof target first second listed applies other_applies)
        (λ (last : (other ≡ length old + 1) × (added ≡ other_proof)).
        absurd (alone target listed (subst P (sym last.1) other_applies) number proof first applies))
        (number_of_push old added other_proof other is_other))
        (λ (last : (number ≡ length old + 1) × (added ≡ proof)).
        ⊎_elim
        (λ (second : IsNumber old other other_proof).
        absurd (alone target listed (subst P (sym last.1) applies) other other_proof second other_applies))
        (λ (also : (other ≡ length old + 1) × (added ≡ other_proof)). last.0 ∙ sym also.0)
        (number_of_push old added other_proof other is_other))
        (number_of_push old added proof number is)

    -- and all are found ones
    pub found_still : (c : Circuit) (rules : Rules) (budget : ℕ) → IsFoundProof c rules budget routes added
        → AreFoundProofs c rules budget routes old → AreFoundProofs c rules budget routes all
    found_still c rules budget is_found are = record {
      each = All-push (IsFoundProof c rules budget routes) old added are.each is_found;
      apart = apart_still are.apart;
    }
