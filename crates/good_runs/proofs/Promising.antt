-- The verdicts of a good run keep their promises, under the rules of the run.
use Rattle.std.proofs.Common.{◌≡◌, ℕ, [], length, inl, inr}
use Rattle.pd_base.specs.Links.{links_of}
use Rattle.pd_base.specs.Pair.{Vectors}
use Rattle.pd_base.specs.Target.{Target}
use Rattle.pd_base.specs.declared.fault.Direction.{Direction}
use Rattle.pd_base.specs.declared.fault.Kind.TheVariants as kinds
use Rattle.pd_base.specs.declared.rules.Rules.{Rules}
use Rattle.netlist.specs.Circuit.{Circuit, source_count}
use Rattle.netlist.specs.Conditions.{Meets}
use Rattle.netlist.specs.Lawful.{IsCircuit}
use Rattle.netlist.specs.LinkedPairs.{FitRules}
use Rattle.netlist.specs.Waves.{Delays}
use Rattle.runs.specs.declared.run.ListedPath.{ListedPath}
use Rattle.runs.specs.declared.run.Run.{Run}
use Rattle.runs.specs.declared.run.Verdict.{Verdict}
use Rattle.runs.specs.declared.run.Verdict.TheVariants.{Robust, Nonrobust, Untestable, Aborted}
use Rattle.good_runs.specs.Faults.{IsFault, IsNumber}
use Rattle.good_runs.specs.Faults.HasProof.{refuted, spent}
use Rattle.good_runs.specs.GoodRun.{HasRobustProof, IsGoodRun}
use Rattle.trees.proofs.Unlinked.{every_pair_is_of_rules}
use Rattle.good_runs.specs.Promises.{AllKeepPromises, ExcludesPairs, LacksRobustTest, VerdictTells}
use Rattle.good_runs.specs.Truth.{HasSomeTest}
use Rattle.good_runs.proofs.Completeness.{great_budget_decides, closed_start_is_untestable, passed_trial_is_robust}
use Rattle.good_runs.proofs.Verdicts.{cited_excludes, cited_refutes, cited_spent, nonrobust_test_shows, robust_test_shows, untestable_excludes_every_pair}

module _ (c : Circuit) (circuit : IsCircuit c) (delays : Delays) (count budget : ℕ) (run : Run)
    (fit : FitRules c run.rules) (good : IsGoodRun c delays count budget run) where
  module _ (number : ℕ) (listed : ListedPath) (is_listed : IsNumber run.paths number listed) (direction : Direction) where
    -- the robust proof of a fault tells why no robust test was found: its refutation excludes every pair of the rules, or it
    -- spent the budget
    robust_proof_says : (proof : ℕ) → HasRobustProof run number direction listed.path proof
        → LacksRobustTest c budget run listed.path direction proof
    robust_proof_says proof (refuted cites) = inl (
      cited_refutes c circuit delays count budget run fit good number listed is_listed direction kinds.Robust proof cites,
      cited_excludes c circuit delays count budget run fit good number listed is_listed direction kinds.Robust proof cites,
    )
    robust_proof_says proof (spent none cites) =
        inr (cited_spent c circuit delays count budget run fit good number listed is_listed direction kinds.Robust proof cites)

  verdict_tells : (number : ℕ) (listed : ListedPath) (direction : Direction) (verdict : Verdict)
      → IsFault run number listed direction verdict → VerdictTells c budget run number listed.path direction verdict
  verdict_tells number listed direction (Robust test) fault =
      robust_test_shows c circuit delays count budget run fit good number listed direction test fault
  verdict_tells number listed direction (Nonrobust test proof) fault =
      let has = good.verdicts number listed direction (Nonrobust test proof) fault in (
        nonrobust_test_shows c circuit delays count budget run fit good number listed direction test proof fault,
        robust_proof_says number listed fault.is_listed direction proof has.1,
      )
  verdict_tells number listed direction (Untestable proof) fault =
      let cites = good.verdicts number listed direction (Untestable proof) fault in (
        cited_refutes c circuit delays count budget run fit good number listed fault.is_listed direction kinds.Nonrobust proof cites,
        untestable_excludes_every_pair c circuit delays count budget run fit good number listed direction proof fault,
      )
  verdict_tells number listed direction (Aborted robust nonrobust) fault =
      let has = good.verdicts number listed direction (Aborted robust nonrobust) fault in (
        robust_proof_says number listed fault.is_listed direction robust has.0,
        cited_spent c circuit delays count budget run fit good number listed fault.is_listed direction kinds.Nonrobust nonrobust has.1.cites,
      )

  -- so all of them keep their promises
  pub good_run_keeps : AllKeepPromises c budget run
  good_run_keeps number listed direction verdict fault = record {
    tells = verdict_tells number listed direction verdict fault;
    great_budget = great_budget_decides c circuit delays count budget run fit good number listed direction verdict fault;
    closed_start = closed_start_is_untestable c circuit delays count budget run fit good number listed direction verdict fault;
    passed_trial = λ start.
        passed_trial_is_robust c circuit delays count budget run fit good number listed direction verdict fault start.hull start.is_hull
        start.none_empty start.passes_trial;
  }

-- Under rules without links every pair is one of the rules: where the pairs of the rules are excluded, every pair is.
pub excludes_every_pair : (c : Circuit) (run : Run) (target : Target) → links_of run.rules ≡ [] → ExcludesPairs c run target
    → (pair : Vectors) → ¬ Meets c target pair
excludes_every_pair c run target unlinked excludes pair = excludes pair (every_pair_is_of_rules c run.rules unlinked pair)

-- And any pair that meets the conditions is a test of the rules: so a great budget tells whether there is any at all.
pub any_pair_is_some_test : (c : Circuit) (rules : Rules) (target : Target) → links_of rules ≡ [] → (pair : Vectors)
    → length pair.first ≡ source_count c → length pair.second ≡ source_count c → Meets c target pair → HasSomeTest c rules target
any_pair_is_some_test c rules target unlinked pair first second meets = record {
  pair = pair;
  first_fits = first;
  second_fits = second;
  of_rules = every_pair_is_of_rules c rules unlinked pair;
  meets = meets;
}
