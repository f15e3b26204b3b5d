-- What is claimed of a run is so.
use Rattle.std.proofs.Common.{◌≡◌, ◌↔◌, ℕ, Bool, true, false, List, get_or, refl, ◌+◌, arith}
use Rattle.std.specs.List.{All}
use Rattle.std.specs.Prelude.{Option, Some, None, is_some}
use Rattle.std.proofs.lemmas.Option.{slice_get-get_or}
use Rattle.pd_base.specs.Route.{Route}
use Rattle.netlist.specs.Circuit.{Circuit}
use Rattle.netlist.specs.Lawful.{IsCircuit}
use Rattle.netlist.specs.LinkedPairs.{FitRules}
use Rattle.netlist.specs.Order.{AreFirst}
use Rattle.netlist.specs.Waves.{Delays}
use Rattle.runs.specs.declared.run.Proof.{Proof}
use Rattle.runs.specs.declared.run.Run.{Run}
use Rattle.runs.specs.Lawful.{IsLawfulRun}
use Rattle.good_runs.specs.Faults.{routes_of}
use Rattle.good_runs.specs.GoodRun.{IsGoodRun}
use Rattle.good_runs.specs.Promises.{AllKeepPromises}
use Rattle.good_runs.proofs.Numbers.{number_of_place}
use Rattle.good_runs.proofs.Promising.{good_run_keeps}
use Rattle.claim_check.specs.declared.claim.Claim.TheVariants.{Holds, Fails}
use Rattle.claim_check.specs.declared.claim.Flaw.{Flaw}
use Rattle.claim_check.specs.declared.claim.Reason.{Reason}
use Rattle.claim_check.specs.declared.claim.Reason.TheVariants.{BadRefutation, BadSpent}
use Rattle.claim_check.specs.Claims.{TellsOfRun, claim_of}
use Rattle.claim_check.specs.Flaws.{TellsOfItems}
use Rattle.claim_check.specs.Prefixes.{NamesPrefix}
use Rattle.claim_check.specs.Right.{IsRightAt, IsRightProof, IsRightProofAt}
use Rattle.claim_check.proofs.Rightness.{good_of_right, right_of_good}

-- a right proof names a prefix of a listed path
names_of_right : (c : Circuit) (budget : ℕ) (run : Run) (proof : Proof)
    → ((reason : Reason) → IsRightProof c run.rules budget (routes_of run) proof reason) → NamesPrefix (routes_of run) proof
names_of_right c budget run proof right = by proof.spent refl
  where
    by : (spent : Bool) → proof.spent ≡ spent → NamesPrefix (routes_of run) proof
    by false is =
        let good = right BadRefutation is in
        record { listed = good.listed; is_listed = good.is_listed; has_steps = good.has_steps }
    by true is =
        let good = right BadSpent is in
        record {
          listed = good.listed;
          is_listed = good.is_listed;
          has_steps = let same = good.whole in omega arith;
        }

pub all_name_prefixes : (c : Circuit) (budget : ℕ) (run : Run) → ((item : ℕ) (reason : Reason) → IsRightProofAt c budget run item reason)
    → All (NamesPrefix (routes_of run)) run.proofs
all_name_prefixes c budget run right place d within =
    names_of_right c budget run (get_or run.proofs place d)
    (λ reason.
    right (place + 1) reason (get_or run.proofs place d)
    (number_of_place run.proofs place (get_or run.proofs place d) (slice_get-get_or run.proofs place d within)))

-- nothing was found: all is right
pub right_if_none : (IsRight : ℕ → Reason → Type 0) (found : Option Flaw) → is_some found ≡ false → TellsOfItems IsRight found → (item : ℕ)
    (reason : Reason) → IsRight item reason
right_if_none IsRight None none right = right
right_if_none IsRight (Some flaw) none is = let impossible : ⊥ = cc in absurd impossible

module _ (c : Circuit) (delays : Delays) (count budget : ℕ) (run : Run) (first : List Route) (are_first : AreFirst c delays count first)
    (lawful : IsLawfulRun c run) where
  abbrev IsFound : Option Flaw → Type 0
  IsFound = TellsOfItems (IsRightAt c delays budget first run)

  pub claim_tells : (found : Option Flaw) → IsFound found → TellsOfRun c delays count budget run (claim_of found)
  claim_tells None right = good_of_right c delays count budget run first are_first lawful right
  claim_tells (Some flaw) is = (first, are_first, is)

  pub claim_exact : (found : Option Flaw) → IsFound found → (claim_of found ≡ Holds) ↔ IsGoodRun c delays count budget run
  claim_exact None right = (λ _. good_of_right c delays count budget run first are_first lawful right, λ _. refl)
  claim_exact (Some flaw) is = (
    λ (same : Fails flaw.item flaw.reason ≡ Holds). let impossible : ⊥ = cc in absurd impossible,
    λ good. absurd (is.flawed (right_of_good c delays count budget run first are_first good flaw.item flaw.reason)),
  )

  pub claim_promises : IsCircuit c → FitRules c run.rules → (found : Option Flaw) → IsFound found → claim_of found ≡ Holds
      → AllKeepPromises c budget run
  claim_promises circuit fit found is holds = good_run_keeps c circuit delays count budget run fit ((claim_exact found is).0 holds)
