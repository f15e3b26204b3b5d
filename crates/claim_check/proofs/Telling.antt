-- Which flaw is told: of one item, of the items of a part, and of all parts.
use Rattle.std.proofs.Common.{◌≡◌, ◌≢◌, ⊎_elim, ℕ, true, ◌+◌, ◌<◌, ◌≤◌, ◌↔◌, List, length, refl, sym, subst, arith}
use Rattle.std.specs.Prelude.{Option, Some, None, is_some}
use Rattle.std.proofs.lemmas.Bool.{cases_eq, cases_lt}
use Rattle.pd_base.specs.Route.{Route}
use Rattle.netlist.specs.Circuit.{Circuit}
use Rattle.netlist.specs.Waves.{Delays}
use Rattle.runs.specs.declared.run.ListedPath.{ListedPath}
use Rattle.runs.specs.declared.run.Run.{Run}
use Rattle.good_runs.specs.Faults.{IsNumber, routes_of, verdict_for}
use Rattle.good_runs.proofs.Numbers.{number_same}
use Rattle.claim_check.specs.declared.claim.Flaw.{Flaw}
use Rattle.claim_check.specs.declared.claim.Reason.{Reason}
use Rattle.claim_check.specs.declared.claim.Reason.TheVariants.{WrongCount, WrongPath, WrongLength, BadRefutation, BadSpent, NotShared, BadTest, WrongExpected}
use Rattle.claim_check.specs.Flaws.{IsFirstFlaw, IsFirstReason, IsToldBefore, TellsOfItem, TellsOfItems, part_of}
use Rattle.claim_check.specs.Flaws.IsToldBefore.{earlier_part, lesser_item, earlier_reason}
use Rattle.claim_check.specs.Right.{IsRightAt, IsRightCount, IsRightFaultAt, IsRightPath, IsRightPathAt, IsRightProof, IsRightProofAt, IsRightVerdict}

-- what is told of an item in these words is told of it in those that mean the same
pub tells_same : (IsRight Is : Reason → Type 0) → ((reason : Reason) → IsRight reason ↔ Is reason) → (found : Option Reason)
    → TellsOfItem IsRight found → TellsOfItem Is found
tells_same IsRight Is same None right = λ reason. (same reason).0 (right reason)
tells_same IsRight Is same (Some reason) first = record {
  flawed = λ is. first.flawed ((same reason).1 is);
  before = λ other less. (same other).0 (first.before other less);
}

-- what is so of the item of a number is so of each item of this number
pub at_number : {T : Type 0} (items : List T) (number : ℕ) (item : T) → IsNumber items number item → (P : T → Type 0)
    → P item ↔ ((other : T) → IsNumber items number other → P other)
at_number items number item is P = (
  λ holds other its. subst P (number_same items number item other is its) holds,
  λ each. each item is,
)

-- all is right of the items up to this number
abbrev pub IsRightUpTo : (ℕ → Reason → Type 0) → ℕ → Type 0
IsRightUpTo IsRight most = (item : ℕ) (reason : Reason) → item ≤ most → IsRight item reason

pub right_more : (IsRight : ℕ → Reason → Type 0) (item : ℕ) → IsRightUpTo IsRight item → ((reason : Reason) → IsRight (item + 1) reason)
    → IsRightUpTo IsRight (item + 1)
right_more IsRight item before here other reason few =
    ⊎_elim (λ (less : other < item + 1). before other reason (omega arith))
    (λ (most : item + 1 ≤ other).
    let at : item + 1 ≡ other = omega arith in subst (λ (n : ℕ). IsRight n reason) at (here reason))
    (cases_lt other (item + 1))

-- of the reasons of other parts all is right
abbrev pub IsOfPart : (ℕ → Reason → Type 0) → ℕ → Type 0
IsOfPart IsRight part = (item : ℕ) (reason : Reason) → part_of reason ≢ part → IsRight item reason

module _ (IsRight : ℕ → Reason → Type 0) (part : ℕ) (others : IsOfPart IsRight part) where
  -- so a flaw has a reason of the part
  pub flaw_part : (item : ℕ) (reason : Reason) → ¬ IsRight item reason → part_of reason ≡ part
  flaw_part item reason flawed =
      ⊎_elim (λ same. same) (λ differs. absurd (flawed (others item reason differs))) (cases_eq (part_of reason) part)

  -- the first reason of the next item is the first flaw
  pub first_at : (item : ℕ) (reason : Reason) → IsRightUpTo IsRight item → IsFirstReason (IsRight (item + 1)) reason
      → IsFirstFlaw IsRight (item + 1) reason
  first_at item reason before first = record { flawed = first.flawed; before = by }
    where
      by : (other : ℕ) (other_reason : Reason) → IsToldBefore other other_reason (item + 1) reason → IsRight other other_reason
      by other other_reason (earlier_part less) =
          let own = flaw_part (item + 1) reason first.flawed in
          others other other_reason (λ same. absurd (omega arith))
      by other other_reason (lesser_item same less) = before other other_reason (omega arith)
      by other other_reason (earlier_reason same at less) =
          subst (λ (n : ℕ). IsRight n other_reason) (sym at) (first.before other_reason less)

-- what is told before is of no later part
told_part : {item : ℕ} {reason : Reason} {other : ℕ} {other_reason : Reason} → IsToldBefore other other_reason item reason
    → part_of other_reason ≤ part_of reason
told_part (earlier_part less) = omega arith
told_part (lesser_item same less) = omega arith
told_part (earlier_reason same at less) = omega arith

-- what is right of each kind of item says nothing of other parts
pub counts_only : (first_count : ℕ) (run : Run) → IsOfPart (IsRightCount first_count run) 1
counts_only first_count run item WrongCount differs = absurd (differs refl)
counts_only first_count run item reason differs = tt

pub paths_only : (delays : Delays) (first : List Route) (paths : List ListedPath) → IsOfPart (IsRightPathAt delays first paths) 2
paths_only delays first paths item reason differs listed is = by reason differs
  where
    by : (other : Reason) → part_of other ≢ 2 → IsRightPath delays first item listed other
    by WrongPath differ = absurd (differ refl)
    by WrongLength differ = absurd (differ refl)
    by other differ = tt

pub proofs_only : (c : Circuit) (budget : ℕ) (run : Run) → IsOfPart (IsRightProofAt c budget run) 3
proofs_only c budget run item reason differs proof is = by reason differs
  where
    by : (other : Reason) → part_of other ≢ 3 → IsRightProof c run.rules budget (routes_of run) proof other
    by BadRefutation differ = absurd (differ refl)
    by BadSpent differ = absurd (differ refl)
    by other differ = tt

pub faults_only : (c : Circuit) (run : Run) → IsOfPart (IsRightFaultAt c run) 4
faults_only c run item reason differs number listed direction is at = by reason differs
  where
    by : (other : Reason) → part_of other ≢ 4
        → IsRightVerdict c run number direction listed.path (verdict_for listed direction) other
    by NotShared differ = absurd (differ refl)
    by BadTest differ = absurd (differ refl)
    by WrongExpected differ = absurd (differ refl)
    by other differ = tt

-- The first flaw of a part is the first of all where all is right in the parts before it.
module _ (c : Circuit) (delays : Delays) (budget : ℕ) (first : List Route) (run : Run) where
  abbrev pub IsRight : ℕ → Reason → Type 0
  IsRight = IsRightAt c delays budget first run

  -- what is so of all items
  abbrev AllRight : (ℕ → Reason → Type 0) → Type 0
  AllRight Is = (item : ℕ) (reason : Reason) → Is item reason

  pub tell_counts : (item : ℕ) (reason : Reason) → IsFirstFlaw (IsRightCount (length first) run) item reason → IsFirstFlaw IsRight item reason
  tell_counts item reason is = record {
    flawed = λ right. is.flawed right.count;
    before = λ other other_reason told.
        let own = flaw_part (IsRightCount (length first) run) 1 (counts_only (length first) run) item reason is.flawed in
        let few = told_part told in record {
          count = is.before other other_reason told;
          path = paths_only delays first run.paths other other_reason (λ same. absurd (omega arith));
          proof = proofs_only c budget run other other_reason (λ same. absurd (omega arith));
          fault = faults_only c run other other_reason (λ same. absurd (omega arith));
        };
  }

  module _ (counts : AllRight (IsRightCount (length first) run)) where
    pub tell_paths : (item : ℕ) (reason : Reason) → IsFirstFlaw (IsRightPathAt delays first run.paths) item reason
        → IsFirstFlaw IsRight item reason
    tell_paths item reason is = record {
      flawed = λ right. is.flawed right.path;
      before = λ other other_reason told.
          let own = flaw_part (IsRightPathAt delays first run.paths) 2 (paths_only delays first run.paths) item reason is.flawed in
          let few = told_part told in record {
            count = counts other other_reason;
            path = is.before other other_reason told;
            proof = proofs_only c budget run other other_reason (λ same. absurd (omega arith));
            fault = faults_only c run other other_reason (λ same. absurd (omega arith));
          };
    }

    module _ (paths : AllRight (IsRightPathAt delays first run.paths)) where
      pub tell_proofs : (found : Option Flaw) → TellsOfItems (IsRightProofAt c budget run) found → is_some found ≡ true
          → TellsOfItems IsRight found
      tell_proofs None right some = let impossible : ⊥ = cc in absurd impossible
      tell_proofs (Some flaw) is some = record {
        flawed = λ right. is.flawed right.proof;
        before = λ other other_reason told.
            let own = flaw_part (IsRightProofAt c budget run) 3 (proofs_only c budget run) flaw.item flaw.reason is.flawed in
            let few = told_part told in record {
              count = counts other other_reason;
              path = paths other other_reason;
              proof = is.before other other_reason told;
              fault = faults_only c run other other_reason (λ same. absurd (omega arith));
            };
      }

      pub tell_faults : AllRight (IsRightProofAt c budget run) → (found : Option Flaw) → TellsOfItems (IsRightFaultAt c run) found
          → TellsOfItems IsRight found
      tell_faults proofs None right = λ item reason. record {
        count = counts item reason;
        path = paths item reason;
        proof = proofs item reason;
        fault = right item reason;
      }
      tell_faults proofs (Some flaw) is = record {
        flawed = λ right. is.flawed right.fault;
        before = λ other other_reason told. record {
          count = counts other other_reason;
          path = paths other other_reason;
          proof = proofs other other_reason;
          fault = is.before other other_reason told;
        };
      }
