-- The faults of the listed path in a row, as they are judged, are those of the run.
use Rattle.std.proofs.Common.{◌≡◌, ℕ, ◌+◌, ◌*◌, ◌≤◌, ◌↔◌, refl, sym, subst, arith}
use Rattle.std.specs.Prelude.{Option}
use Rattle.pd_base.specs.Route.{Route}
use Rattle.pd_base.specs.declared.fault.Direction.{Direction}
use Rattle.netlist.specs.Circuit.{Circuit}
use Rattle.runs.specs.declared.run.ListedPath.{ListedPath}
use Rattle.runs.specs.declared.run.Run.{Run}
use Rattle.runs.specs.declared.run.Verdict.{Verdict}
use Rattle.good_runs.specs.Faults.{IsNumber, verdict_for}
use Rattle.good_runs.proofs.Numbers.{number_of_place, number_same}
use Rattle.claim_check.specs.declared.claim.Reason.{Reason}
use Rattle.claim_check.specs.declared.fault.Fault.{Fault}
use Rattle.claim_check.specs.FaultsInRows.{IsFaultInRow}
use Rattle.claim_check.specs.Flaws.{TellsOfItem}
use Rattle.claim_check.specs.Right.{IsFaultNumber, IsRightFaultAt, IsRightVerdict}
use Rattle.claim_check.specs.Right.IsFaultNumber.{rise, fall}
use Rattle.claim_check.proofs.Telling.{IsRightUpTo, tells_same}

-- a number is that of one fault
numbered_once : {number other item : ℕ} {direction other_direction : Direction} → IsFaultNumber number direction item
    → IsFaultNumber other other_direction item → (number ≡ other) × (direction ≡ other_direction)
numbered_once (rise item at) (rise its its_at) = (omega arith, refl)
numbered_once (rise item at) (fall its its_at) = absurd (omega arith)
numbered_once (fall item at) (rise its its_at) = absurd (omega arith)
numbered_once (fall item at) (fall its its_at) = (omega arith, refl)

-- the numbers of a path's faults
pub most_number : {number item : ℕ} {direction : Direction} → IsFaultNumber number direction item → item ≤ 2 * number
most_number (rise item at) = omega arith
most_number (fall item at) = omega arith

pub least_number : {number item : ℕ} {direction : Direction} → IsFaultNumber number direction item → 1 ≤ number → 1 ≤ item
least_number (rise item at) some = omega arith
least_number (fall item at) some = omega arith

module _ (c : Circuit) (run : Run) where
  pub no_faults_yet : IsRightUpTo (IsRightFaultAt c run) 0
  no_faults_yet item reason few number listed direction is at =
      let some = least_number at is.positive in absurd (omega arith)

  module _ (row : ℕ) (direction : Direction) (fault : Fault) (is : IsFaultInRow run row direction fault) where
    own : IsNumber run.paths (row + 1) is.listed
    own = number_of_place run.paths row is.listed is.is_listed

    -- what is said of the fault as it is judged, and what of that of the run, is the same
    of_run : (P : ℕ → Direction → Route → Verdict → Type 0)
        → P fault.number fault.direction fault.path.now fault.verdict ↔ P (row + 1) direction is.listed.path (verdict_for is.listed direction)
    of_run P =
        let Q : ℕ → Type 0 = λ number. P number fault.direction fault.path.now fault.verdict in
        let R : Direction → Type 0 = λ its. P (row + 1) its fault.path.now fault.verdict in
        let S : Route → Type 0 = λ path. P (row + 1) direction path fault.verdict in
        let T : Verdict → Type 0 = λ verdict. P (row + 1) direction is.listed.path verdict in (
          λ holds. subst T is.is_verdict (subst S is.is_path (subst R is.is_direction (subst Q is.is_number holds))),
          λ holds.
              subst Q (sym is.is_number)
              (subst R (sym is.is_direction) (subst S (sym is.is_path) (subst T (sym is.is_verdict) holds))),
        )

    -- and so of each fault of its number
    fault_same : (item : ℕ) → IsFaultNumber (row + 1) direction item → (reason : Reason)
        → IsRightVerdict c run fault.number fault.direction fault.path.now fault.verdict reason ↔ IsRightFaultAt c run item reason
    fault_same item at reason =
        let here = of_run (λ number its path verdict. IsRightVerdict c run number its path verdict reason) in (
          λ right number listed its_direction numbered its_at.
              let once = numbered_once at its_at in
              let P : ℕ → Type 0 = λ n. IsNumber run.paths n is.listed in
              let same = number_same run.paths number is.listed listed (subst P once.0 own) numbered in
              let Q : ℕ → Type 0 = λ n. IsRightVerdict c run n direction is.listed.path (verdict_for is.listed direction) reason in
              let R : Direction → Type 0 = λ d. IsRightVerdict c run number d is.listed.path (verdict_for is.listed d) reason in
              let S : ListedPath → Type 0 =
              λ l. IsRightVerdict c run number its_direction l.path (verdict_for l its_direction) reason in
              subst S same (subst R once.1 (subst Q once.0 (here.0 right))),
          λ right. here.1 (right (row + 1) is.listed direction own at),
        )

    -- what is told of it is told of its number
    pub fault_told : (item : ℕ) → IsFaultNumber (row + 1) direction item → (found : Option Reason)
        → TellsOfItem (IsRightVerdict c run fault.number fault.direction fault.path.now fault.verdict) found
        → TellsOfItem (IsRightFaultAt c run item) found
    fault_told item at found =
        tells_same (IsRightVerdict c run fault.number fault.direction fault.path.now fault.verdict) (IsRightFaultAt c run item) (fault_same item at)
        found
