-- The pairs of vectors that a tester can launch, and the rules under which runs of them are made and judged (this project's own).
use Rattle.std.specs.Prelude.{◌≡◌, ⊤, ℕ, true, All, Option, None, Some}
use Rattle.pd_base.specs.Links.{LinkList}
use Rattle.pd_base.specs.Pair.{Vectors}
use Rattle.pd_base.specs.Target.{target_of}
use Rattle.pd_base.specs.declared.fault.Direction.{Direction}
use Rattle.pd_base.specs.declared.fault.Kind.{Kind}
use Rattle.pd_base.specs.declared.rules.Rules.{Rules}
use Rattle.pd_base.specs.declared.rules.Rules.TheVariants.{Two, Linked}
use Rattle.netlist.specs.Circuit.{Circuit}
use Rattle.netlist.specs.Conditions.{Meets}
use Rattle.netlist.specs.LinkedPairs.{KeepsLinks}
use Rattle.runs.specs.declared.run.ListedPath.{ListedPath}
use Rattle.runs.specs.declared.run.Run.{Run}
use Rattle.runs.specs.declared.run.Verdict.{Verdict}
use Rattle.runs.specs.Verdicts.{is_untestable}
use Rattle.trees.specs.Unlinked.{IsUnlinked}
use Rattle.good_runs.specs.Faults.{IsFault}
use Rattle.scan_order.specs.Chains.{AreChainsOf}
use Rattle.scan_order.specs.SkewedLinks.{links_of_chains}
use Rattle.commands.specs.declared.launch.Launch.{Launch}
use Rattle.commands.specs.declared.launch.Launch.TheVariants.{Enhanced, Broadside, Skewed}

-- it is a launch in this circuit: the chains by whose last shift pairs are launched are those of the circuit
abbrev pub FitsLaunch : Circuit → Launch → Type 0
FitsLaunch c Enhanced = ⊤
FitsLaunch c Broadside = ⊤
FitsLaunch c (Skewed chains) = AreChainsOf c chains

-- The links that the pairs of a launch keep, if they keep any: by launch on capture each flip-flop is linked to its data line; by a launch
-- by the last shift to the flip-flop before it in its chain, if there is one.
abbrev pub launch_links : Launch → Circuit → Option LinkList
launch_links Enhanced c = None
launch_links Broadside c = Some c.flops
launch_links (Skewed chains) c = Some (links_of_chains chains)

-- the pair keeps the links, if there are any
abbrev pub KeepsAny : Circuit → Option LinkList → Vectors → Type 0
KeepsAny c None pair = ⊤
KeepsAny c (Some links) pair = KeepsLinks c links pair

-- The pair can be launched so: any by enhanced scan; else one whose second bit at each linked flip-flop is the value of its line under the
-- first vector.
abbrev pub IsOfMode : Launch → Circuit → Vectors → Type 0
IsOfMode launch c pair = KeepsAny c (launch_links launch c) pair

-- the rules of a search for pairs that keep these links, if there are any
abbrev pub rules_with : Option LinkList → Rules
rules_with None = Two
rules_with (Some links) = Linked (record { pairs = links })

-- the rules under which `gen` searches
abbrev pub searched_rules : Launch → Circuit → Rules
searched_rules launch c = rules_with (launch_links launch c)

-- The rules are such as a run may have whose pairs keep these links, if there are any: those without links are both of enhanced scan, and
-- which of them a run has, the version of its proofs tells.
abbrev pub AreRulesWith : Option LinkList → Rules → Type 0
AreRulesWith None rules = IsUnlinked rules
AreRulesWith (Some links) rules = rules ≡ Linked (record { pairs = links })

-- the rules are such as a run of the launch may have
abbrev pub AreRulesOf : Launch → Circuit → Rules → Type 0
AreRulesOf launch c rules = AreRulesWith (launch_links launch c) rules

-- what a run keeps of its mode: each of its pairs can be launched so, and where a verdict says untestable, no pair that can be meets the
-- conditions of either kind
pub record KeepsMode (launch : Launch) (c : Circuit) (run : Run) : Type 0 where
  pub written : All (λ test. IsOfMode launch c test.pair) run.tests
  pub excluded : (number : ℕ) (listed : ListedPath) (direction : Direction) (verdict : Verdict)
      → IsFault run number listed direction verdict → is_untestable verdict ≡ true → (kind : Kind) (pair : Vectors)
      → IsOfMode launch c pair → ¬ Meets c (target_of listed.path direction kind) pair
