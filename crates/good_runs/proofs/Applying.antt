-- A refutation that applies to a target excludes every pair of its rules.
use Rattle.std.proofs.Common.{ℕ, List, subst}
use Rattle.pd_base.specs.Pair.{Vectors}
use Rattle.pd_base.specs.Route.{Route}
use Rattle.pd_base.specs.Target.{Target, target_of}
use Rattle.pd_base.specs.declared.fault.Direction.{Direction}
use Rattle.pd_base.specs.declared.fault.Kind.{Kind}
use Rattle.pd_base.specs.declared.rules.Rules.{Rules}
use Rattle.netlist.specs.Circuit.{Circuit}
use Rattle.netlist.specs.Conditions.{Meets}
use Rattle.netlist.specs.Lawful.{IsCircuit}
use Rattle.netlist.specs.LinkedPairs.{FitRules, IsOfRules}
use Rattle.netlist.specs.Paths.{IsPrefix, IsPrefixOf, prefix_of}
use Rattle.runs.specs.declared.run.Proof.{Proof}
use Rattle.trees.specs.Refutations.{IsRefutation}
use Rattle.trees.proofs.Refuting.{refutation_excludes_path}
use Rattle.good_runs.specs.Faults.{Applies}
use Rattle.good_runs.specs.GoodRun.{IsGoodRefutation}
use Rattle.good_runs.proofs.Numbers.{number_same}

-- the proof's tree refutes the target on a prefix of its path
pub record RefutesByTree (c : Circuit) (rules : Rules) (target : Target) (proof : Proof) : Type 0 where
  pub prefix : Route
  pub is_prefix : IsPrefixOf prefix target.path
  pub refutes : IsRefutation c rules (target_of prefix target.direction target.kind) proof.tree

module _ (c : Circuit) (rules : Rules) (budget : ℕ) (routes : List Route) (target : Target) (proof : Proof)
    (good : IsGoodRefutation c rules budget routes proof) (applies : Applies routes target proof) where
  -- a good refutation that applies refutes the target on its prefix
  pub refutes_on_prefix : RefutesByTree c rules target proof
  refutes_on_prefix =
      let same = number_same routes proof.path good.listed applies.listed good.is_listed applies.is_listed in
      let about = applies.is_about in
      let prefix = prefix_of proof.steps applies.listed in
      let OfPath : Route → Type 0 = λ route.
      IsRefutation c rules (target_of (prefix_of proof.steps route) proof.dir proof.kind) proof.tree in
      let OfKind : Kind → Type 0 = λ kind. IsRefutation c rules (target_of prefix proof.dir kind) proof.tree in
      let OfDirection : Direction → Type 0 = λ direction. IsRefutation c rules (target_of prefix direction target.kind) proof.tree in
      record {
        prefix = prefix;
        is_prefix = applies.has_prefix;
        refutes = subst OfDirection about.of_direction (subst OfKind about.of_kind (subst OfPath same good.refutation));
      }

  -- so no pair of the rules is a test of the target
  pub applying_excludes : IsCircuit c → FitRules c rules → IsPrefix c target.path → (pair : Vectors) → IsOfRules c rules pair
      → ¬ Meets c target pair
  applying_excludes circuit fit is_prefix =
      refutation_excludes_path c circuit rules fit target.kind refutes_on_prefix.prefix target.path is_prefix refutes_on_prefix.is_prefix
      target.direction proof.tree refutes_on_prefix.refutes
