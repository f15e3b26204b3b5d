-- The outcomes of a row are those of its faults, and those behind it stay when they are taken out.
use Rattle.std.proofs.Common.{◌≡◌, ◌≢◌, ℕ, ◌+◌, ◌-◌, ◌<◌, List, length, set, Some, sym, ap, subst, ◌∙◌, arith}
use Rattle.std.specs.Prelude.{slice_get}
use Rattle.std.proofs.lemmas.List.{length-set, get_or-set_other}
use Rattle.pd_base.specs.declared.rules.Rules.{Rules}
use Rattle.pd_base.specs.Route.{Route}
use Rattle.pd_base.specs.declared.fault.Direction.{Direction}
use Rattle.netlist.specs.Circuit.{Circuit}
use Rattle.runs.specs.declared.run.Proof.{Proof}
use Rattle.good_runs.specs.Faults.{IsNumber}
use Rattle.prefix_sensitize.specs.declared.outcome.RowOutcome.{RowOutcome}
use Rattle.prefix_sensitize.specs.declared.outcome.RowOutcome.TheVariants.{Unsearched}
use Rattle.prefix_sensitize.specs.declared.all_outcomes.BothOutcomes.{BothOutcomes}
use Rattle.prefix_sensitize.specs.declared.all_outcomes.FaultOutcomes.{FaultOutcomes}
use Rattle.prefix_sensitize.specs.Outcomes.{outcome_at}
use Rattle.prefix_sensitize.specs.Searches.{AreFaultOutcomes, AreBothOutcomesFrom, fault_outcomes}

module _ (c : Circuit) (rules : Rules) (routes : List Route) (proofs : List Proof) (direction : Direction) (row : ℕ) (old : BothOutcomes)
    (are : AreBothOutcomesFrom c rules routes proofs direction row old) where
  -- there are outcomes in the row of a listed path
  pub robust_within : row < length routes → row < length old.robust.items
  robust_within within = let same = are.robust in omega arith

  pub nonrobust_within : row < length routes → row < length old.nonrobust.items
  nonrobust_within within = let same = are.nonrobust in omega arith

  -- they are those of its faults
  pub taken_are : (number : ℕ) (path : Route) → IsNumber routes number path → number ≡ row + 1 → (taken : FaultOutcomes)
      → taken ≡ fault_outcomes old row → AreFaultOutcomes c rules routes proofs (number - 1) direction path taken
  taken_are number path is next taken same =
      let at : number - 1 ≡ row = omega arith in
      let P : ℕ → Type 0 = λ place. slice_get routes place ≡ Some path in
      let Q : ℕ → Type 0 = λ place. AreFaultOutcomes c rules routes proofs place direction path taken in
      subst Q (sym at)
      (subst (AreFaultOutcomes c rules routes proofs row direction path) (sym same) (are.each row path (omega arith) (subst P at is.found)))

  -- and the others are left
  module _ (new : BothOutcomes) (robust : new.robust.items ≡ set old.robust.items row Unsearched)
      (nonrobust : new.nonrobust.items ≡ set old.nonrobust.items row Unsearched) where
    other_outcome : (list : List RowOutcome) (other : ℕ) → other ≢ row → outcome_at (set list row Unsearched) other ≡ outcome_at list other
    other_outcome list other differs = get_or-set_other list row other Unsearched Unsearched differs

    same_outcomes : (other : ℕ) → other ≢ row → fault_outcomes old other ≡ fault_outcomes new other
    same_outcomes other differs = λ i. record {
      robust = sym (ap (λ (list : List RowOutcome). outcome_at list other) robust ∙ other_outcome old.robust.items other differs) i;
      nonrobust = sym (ap (λ (list : List RowOutcome). outcome_at list other) nonrobust ∙ other_outcome old.nonrobust.items other differs) i;
    }

    pub others_left : (next : ℕ) → next ≡ row + 1 → AreBothOutcomesFrom c rules routes proofs direction next new
    others_left next behind = record {
      robust = ap length robust ∙ length-set old.robust.items row Unsearched ∙ are.robust;
      nonrobust = ap length nonrobust ∙ length-set old.nonrobust.items row Unsearched ∙ are.nonrobust;
      each = λ other path from there.
          subst (AreFaultOutcomes c rules routes proofs other direction path)
          (same_outcomes other (λ same. let e : other ≡ row = same in omega arith))
          (are.each other path (omega arith) there);
    }
