-- What is told of a proof.
use Rattle.std.proofs.Common.{◌≡◌, ℕ, ◌+◌, ◌<◌, Bool, true, false, IsTrue, ◌↔◌, cond, List, refl, sym, ◌∙◌, arith}
use Rattle.std.specs.Prelude.{Option, slice_get, Some, None}
use Rattle.std.proofs.lemmas.Bool.{false≢true}
use Rattle.pd_base.specs.Route.{Route}
use Rattle.pd_base.specs.declared.rules.Rules.{Rules}
use Rattle.netlist.specs.Circuit.{Circuit}
use Rattle.runs.specs.declared.run.Proof.{Proof}
use Rattle.runs.specs.declared.run.Run.{Run}
use Rattle.good_runs.specs.Faults.{routes_of}
use Rattle.good_runs.specs.GoodRun.{IsGoodRefutation, IsGoodSpent}
use Rattle.good_runs.proofs.Numbers.{number_of_place}
use Rattle.claim_check.specs.declared.claim.Reason.{Reason}
use Rattle.claim_check.specs.declared.claim.Reason.TheVariants.{BadRefutation, BadSpent}
use Rattle.claim_check.specs.Flaws.{TellsOfItem, turn_of}
use Rattle.claim_check.specs.Right.{IsRightProof, IsRightProofAt}
use Rattle.claim_check.proofs.Telling.{IsRightUpTo, at_number, tells_same}

module _ (c : Circuit) (rules : Rules) (budget : ℕ) (routes : List Route) (proof : Proof) where
  abbrev Is : Reason → Type 0
  Is = IsRightProof c rules budget routes proof

  -- what is told of one that says it spent the budget
  pub judged_spent : proof.spent ≡ true → (good : Bool) → IsTrue good ↔ IsGoodSpent c rules budget routes proof
      → TellsOfItem Is (cond good None (Some BadSpent))
  judged_spent is true exact = right
    where
      right : (reason : Reason) → Is reason
      right BadRefutation = λ no. absurd (false≢true (sym no ∙ is))
      right BadSpent = λ _. exact.0 refl
      right reason = tt
  judged_spent is false exact = record { flawed = λ right. false≢true (exact.1 (right is)); before = before }
    where
      before : (other : Reason) → turn_of other < 5 → Is other
      before BadRefutation less = λ no. absurd (false≢true (sym no ∙ is))
      before BadSpent less = absurd (omega arith)
      before other less = tt

  -- and of one that says it refutes
  pub judged_refutation : proof.spent ≡ false → (good : Bool) → IsTrue good ↔ IsGoodRefutation c rules budget routes proof
      → TellsOfItem Is (cond good None (Some BadRefutation))
  judged_refutation is true exact = right
    where
      right : (reason : Reason) → Is reason
      right BadRefutation = λ _. exact.0 refl
      right BadSpent = λ no. absurd (false≢true (sym is ∙ no))
      right reason = tt
  judged_refutation is false exact = record { flawed = λ right. false≢true (exact.1 (right is)); before = before }
    where
      before : (other : Reason) → turn_of other < 4 → Is other
      before BadRefutation less = absurd (omega arith)
      before BadSpent less = absurd (omega arith)
      before other less = tt

module _ (c : Circuit) (budget : ℕ) (run : Run) where
  pub no_proofs_yet : IsRightUpTo (IsRightProofAt c budget run) 0
  no_proofs_yet item reason few proof is = let some = is.positive in absurd (omega arith)

  -- what is told of the proof at a place is told of its number
  pub proof_told : (place : ℕ) (proof : Proof) → slice_get run.proofs place ≡ Some proof → (found : Option Reason)
      → TellsOfItem (IsRightProof c run.rules budget (routes_of run) proof) found
      → TellsOfItem (IsRightProofAt c budget run (place + 1)) found
  proof_told place proof there found =
      tells_same (IsRightProof c run.rules budget (routes_of run) proof) (IsRightProofAt c budget run (place + 1))
      (λ reason.
      at_number run.proofs (place + 1) proof (number_of_place run.proofs place proof there)
      (λ p. IsRightProof c run.rules budget (routes_of run) p reason))
      found
