-- What searches promise of their outcomes and of the proofs that they found, in words that are spoken inside this crate
-- alone (this project's own).
use Rattle.std.specs.Prelude.{◌≡◌, ℕ, ◌+◌, true, false, Bool, List, ◌++◌, length, slice_get, slice_index_or, Some, All, Contains}
use Rattle.pd_base.specs.Route.{Route}
use Rattle.pd_base.specs.Target.{Target, target_of}
use Rattle.pd_base.specs.declared.rules.Rules.{Rules}
use Rattle.netlist.specs.Circuit.{Circuit}
use Rattle.runs.specs.declared.run.Proof.{Proof}
use Rattle.good_runs.specs.Faults.{Applies, HasProof, IsAbout, IsNumber}
use Rattle.good_runs.specs.GoodRun.{IsGoodRefutation, IsGoodSpent}
use Rattle.good_runs.specs.Shortest.{IsShortest}
use Rattle.justify.specs.Tests.{IsFitTest}
use Rattle.prefix_sensitize.specs.declared.outcome.Aim.{Aim}
use Rattle.prefix_sensitize.specs.declared.outcome.RowOutcome.{RowOutcome}
use Rattle.prefix_sensitize.specs.declared.outcome.RowOutcome.TheVariants.{Unsearched, Tested, Proved}

-- what is searched for on a path
abbrev pub target_for : Aim → Route → Target
target_for aim path = target_of path aim.direction aim.kind

-- a proof that was found: a refutation, at its shortest, or a tree that spent the budget
pub record IsFoundProof (c : Circuit) (rules : Rules) (budget : ℕ) (routes : List Route) (proof : Proof) : Type 0 where
  pub refutes : proof.spent ≡ false → IsGoodRefutation c rules budget routes proof × IsShortest c rules routes proof
  pub spent : proof.spent ≡ true → IsGoodSpent c rules budget routes proof

-- at most one of the proofs refutes a target on a listed path
abbrev pub AreApart : List Route → List Proof → Type 0
AreApart routes proofs = (number other : ℕ) (proof other_proof : Proof) (target : Target)
    → IsNumber proofs number proof → IsNumber proofs other other_proof → Contains routes target.path
    → Applies routes target proof → Applies routes target other_proof → number ≡ other

-- the proofs that searches for tests of these paths found
pub record AreFoundProofs (c : Circuit) (rules : Rules) (budget : ℕ) (routes : List Route) (proofs : List Proof) : Type 0 where
  pub each : All (IsFoundProof c rules budget routes) proofs
  pub apart : AreApart routes proofs

-- what the outcome of a search for a target tells, whose path stands in this row of the list
abbrev pub IsOutcome : Circuit → Rules → List Route → List Proof → ℕ → Target → RowOutcome → Type 0
IsOutcome c rules routes proofs row target Unsearched = ⊥
IsOutcome c rules routes proofs row target (Tested pair) = IsFitTest c rules target pair
IsOutcome c rules routes proofs row target (Proved index) = HasProof routes proofs (row + 1) target (index + 1)

-- the outcome of this row
abbrev pub outcome_at : List RowOutcome → ℕ → RowOutcome
outcome_at outcomes row = slice_index_or outcomes row Unsearched

-- an outcome is asked for in this row
abbrev pub IsNeeded : List Bool → ℕ → Type 0
IsNeeded needed row = slice_index_or needed row false ≡ true

-- for each path its outcome, as far as one is needed
pub record AreOutcomes (c : Circuit) (rules : Rules) (routes : List Route) (proofs : List Proof) (needed : List Bool) (aim : Aim) (outcomes : List RowOutcome) : Type 0 where
  pub one_each : length outcomes ≡ length routes
  pub each : (row : ℕ) (route : Route) → slice_get routes row ≡ Some route → IsNeeded needed row
      → IsOutcome c rules routes proofs row (target_for aim route) (outcome_at outcomes row)

-- no proof is about this aim
abbrev pub NoneIsAbout : Aim → List Proof → Type 0
NoneIsAbout aim proofs = All (λ proof. ¬ IsAbout aim.kind aim.direction proof) proofs

-- there may be more proofs, all about this aim
pub record AddsProofs (aim : Aim) (old new : List Proof) : Type 0 where
  pub more : List Proof
  pub adds : new ≡ old ++ more
  pub aimed : All (IsAbout aim.kind aim.direction) more

-- If the old proofs are some that are not about this aim, and behind them only ones about it, then so are the new ones, with the same
-- proofs in front: those about other aims stand as before.
abbrev pub KeepsOthers : Aim → List Proof → List Proof → Type 0
KeepsOthers aim old new = (others : List Proof) → NoneIsAbout aim others → AddsProofs aim others old → AddsProofs aim others new
