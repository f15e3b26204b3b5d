-- The rules of a launch: at most one of them has a version, and a good run under them keeps the mode.
use Rattle.std.proofs.Common.{◌≡◌, ◌≢◌, ℕ, Option, None, Some, true, refl, sym, subst, ◌∙◌}
use Rattle.pd_base.specs.Links.{LinkList}
use Rattle.pd_base.specs.Pair.{Vectors}
use Rattle.pd_base.specs.Route.{Route}
use Rattle.pd_base.specs.Target.{target_of}
use Rattle.pd_base.specs.declared.fault.Direction.{Direction}
use Rattle.pd_base.specs.declared.fault.Kind.{Kind}
use Rattle.pd_base.specs.declared.rules.Rules.{Rules}
use Rattle.pd_base.specs.declared.rules.Rules.TheVariants.{One, Two, Linked}
use Rattle.netlist.specs.Circuit.{Circuit}
use Rattle.netlist.specs.LinkedPairs.{IsOfRules}
use Rattle.netlist.specs.Waves.{Delays}
use Rattle.runs.specs.declared.run.Run.{Run}
use Rattle.runs.specs.declared.run.Verdict.{Verdict}
use Rattle.runs.specs.declared.run.Verdict.TheVariants.{Robust, Nonrobust, Untestable, Aborted}
use Rattle.runs.specs.Verdicts.{is_untestable}
use Rattle.trees.specs.Unlinked.{IsUnlinked}
use Rattle.trees.proofs.Unlinked.{every_pair_is_of_rules, no_links}
use Rattle.good_runs.specs.GoodRun.{IsGoodRun}
use Rattle.good_runs.specs.Promises.{AllKeepPromises, ExcludesPairs, VerdictTells}
use Rattle.run_files.specs.ProofsVersions.{rules_version, version_number, IsVersionOf}
use Rattle.run_files.specs.declared.version.ProofsVersion.{ProofsVersion}
use Rattle.run_files.specs.declared.version.ProofsVersion.TheVariants.{First, Second, Third, Fourth, Fifth}
use Rattle.commands.specs.ModeRules.{AreRulesOf, AreRulesWith, IsOfMode, KeepsAny, KeepsMode, launch_links, rules_with, searched_rules}
use Rattle.commands.specs.declared.launch.Launch.{Launch}

-- the rules of a search are those of a run
searched_with : (links : Option LinkList) (rules : Rules) → rules ≡ rules_with links → AreRulesWith links rules
searched_with None rules is = subst IsUnlinked (sym is) tt
searched_with (Some links) rules is = is

pub searched_are : (launch : Launch) (c : Circuit) (rules : Rules) → rules ≡ searched_rules launch c → AreRulesOf launch c rules
searched_are launch c rules is = searched_with (launch_links launch c) rules is

-- the numbers that are those of no rules
pub none_unlinked : (number : ℕ) → number ≢ 1 → number ≢ 2 → number ≢ 4 → (rules : Rules) → AreRulesWith None rules
    → (version : ProofsVersion) → version_number version ≡ number → ¬ IsVersionOf rules version
none_unlinked number no_first no_second no_fourth (Linked links) of version same = absurd of
none_unlinked number no_first no_second no_fourth One of First same = absurd (no_first (sym same))
none_unlinked number no_first no_second no_fourth One of Second same = λ is. cc
none_unlinked number no_first no_second no_fourth One of Third same = λ is. cc
none_unlinked number no_first no_second no_fourth One of Fourth same = λ is. cc
none_unlinked number no_first no_second no_fourth One of Fifth same = λ is. cc
none_unlinked number no_first no_second no_fourth Two of First same = λ is. cc
none_unlinked number no_first no_second no_fourth Two of Second same = absurd (no_second (sym same))
none_unlinked number no_first no_second no_fourth Two of Third same = λ is. cc
none_unlinked number no_first no_second no_fourth Two of Fourth same = absurd (no_fourth (sym same))
none_unlinked number no_first no_second no_fourth Two of Fifth same = λ is. cc

pub none_linked : (links : LinkList) (number : ℕ) → number ≢ 3 → number ≢ 5 → (rules : Rules) → AreRulesWith (Some links) rules
    → (version : ProofsVersion) → version_number version ≡ number → ¬ IsVersionOf rules version
none_linked links number no_third no_fifth rules of version same =
    subst (λ (r : Rules). ¬ IsVersionOf r version) (sym of) (by version same)
  where
    by : (version : ProofsVersion) → version_number version ≡ number → ¬ IsVersionOf (Linked (record { pairs = links })) version
    by First same = λ is. cc
    by Second same = λ is. cc
    by Third same = absurd (no_third (sym same))
    by Fourth same = λ is. cc
    by Fifth same = absurd (no_fifth (sym same))

-- rules without links that have one version are the same
unlinked_once : (rules other : Rules) → IsUnlinked rules → IsUnlinked other → rules_version rules ≡ rules_version other → rules ≡ other
unlinked_once One One is its same = refl
unlinked_once Two Two is its same = refl
unlinked_once One Two is its same = absurd cc
unlinked_once Two One is its same = absurd cc
unlinked_once (Linked links) other is its same = absurd is
unlinked_once One (Linked links) is its same = absurd its
unlinked_once Two (Linked links) is its same = absurd its

-- rules of a launch that have one version are the same
once_with : (links : Option LinkList) (rules other : Rules) → AreRulesWith links rules → AreRulesWith links other
    → rules_version rules ≡ rules_version other → rules ≡ other
once_with None rules other is its same = unlinked_once rules other is its same
once_with (Some links) rules other is its same = is ∙ sym its

pub rules_once : (launch : Launch) (c : Circuit) (rules other : Rules) → AreRulesOf launch c rules → AreRulesOf launch c other
    → rules_version rules ≡ rules_version other → rules ≡ other
rules_once launch c rules other is its same = once_with (launch_links launch c) rules other is its same

module _ (c : Circuit) (rules : Rules) where
  -- under the rules of a launch, pairs of the rules are those of the launch
  keeps_of_rules : (links : Option LinkList) → AreRulesWith links rules → (pair : Vectors) → KeepsAny c links pair → IsOfRules c rules pair
  keeps_of_rules None is pair keeps = every_pair_is_of_rules c rules (no_links rules is) pair
  keeps_of_rules (Some links) is pair keeps = subst (λ (r : Rules). IsOfRules c r pair) (sym is) keeps

  rules_keep : (links : Option LinkList) → AreRulesWith links rules → (pair : Vectors) → IsOfRules c rules pair → KeepsAny c links pair
  rules_keep None is pair keeps = tt
  rules_keep (Some links) is pair keeps = subst (λ (r : Rules). IsOfRules c r pair) is keeps

  pub of_rules : (launch : Launch) → AreRulesOf launch c rules → (pair : Vectors) → IsOfMode launch c pair → IsOfRules c rules pair
  of_rules launch is pair keeps = keeps_of_rules (launch_links launch c) is pair keeps

  pub of_mode : (launch : Launch) → AreRulesOf launch c rules → (pair : Vectors) → IsOfRules c rules pair → IsOfMode launch c pair
  of_mode launch is pair keeps = rules_keep (launch_links launch c) is pair keeps

-- an untestable verdict tells that pairs of the rules are excluded
excludes : (c : Circuit) (budget : ℕ) (run : Run) (number : ℕ) (path : Route) (direction : Direction) (verdict : Verdict)
    → VerdictTells c budget run number path direction verdict → is_untestable verdict ≡ true → (kind : Kind)
    → ExcludesPairs c run (target_of path direction kind)
excludes c budget run number path direction (Robust test) tells is kind = absurd cc
excludes c budget run number path direction (Nonrobust test proof) tells is kind = absurd cc
excludes c budget run number path direction (Untestable proof) tells is kind = tells.1 kind
excludes c budget run number path direction (Aborted robust nonrobust) tells is kind = absurd cc

-- a good run under the rules of a launch keeps the mode
module _ (launch : Launch) (c : Circuit) (delays : Delays) (paths budget : ℕ) (run : Run) (of : AreRulesOf launch c run.rules)
    (good : IsGoodRun c delays paths budget run) (promises : AllKeepPromises c budget run) where
  pub keeps_mode : KeepsMode launch c run
  keeps_mode = record {
    written = λ place d within. of_mode c run.rules launch of _ (good.of_rules place d within);
    excluded = λ number listed direction verdict fault untestable kind pair keeps.
        excludes c budget run number listed.path direction verdict (promises number listed direction verdict fault).tells untestable kind pair
        (of_rules c run.rules launch of pair keeps);
  }
