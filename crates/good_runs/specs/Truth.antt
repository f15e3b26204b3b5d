-- What there is to find for a fault, whatever is found (this project's own).
use Rattle.std.specs.Prelude.{◌≡◌, ◌↔◌, true, false, length}
use Rattle.pd_base.specs.Pair.{Vectors}
use Rattle.pd_base.specs.Route.{Route}
use Rattle.pd_base.specs.Target.{Target, target_of}
use Rattle.pd_base.specs.declared.fault.Direction.{Direction}
use Rattle.pd_base.specs.declared.fault.Kind.TheVariants as kinds
use Rattle.pd_base.specs.declared.rules.Rules.{Rules}
use Rattle.netlist.specs.Circuit.{Circuit, source_count}
use Rattle.netlist.specs.Conditions.{Meets}
use Rattle.netlist.specs.LinkedPairs.{IsOfRules}
use Rattle.runs.specs.declared.run.Verdict.{Verdict}
use Rattle.runs.specs.Verdicts.{is_aborted, is_nonrobust, is_robust, is_untestable}

-- some pair of the rules is a test for the target
pub record HasSomeTest (c : Circuit) (rules : Rules) (target : Target) : Type 0 where
  pub pair : Vectors
  pub first_fits : length pair.first ≡ source_count c
  pub second_fits : length pair.second ≡ source_count c
  pub of_rules : IsOfRules c rules pair
  pub meets : Meets c target pair

-- The verdict tells what there is: robust exactly where some pair of the rules is a robust test; nonrobust exactly where none is, and some
-- pair of the rules is a nonrobust one; untestable exactly where none is that either.
pub record IsTruth (c : Circuit) (rules : Rules) (path : Route) (direction : Direction) (verdict : Verdict) : Type 0 where
  pub robust : (is_robust verdict ≡ true) ↔ HasSomeTest c rules (target_of path direction kinds.Robust)
  pub nonrobust : (is_nonrobust verdict ≡ true)
      ↔ ((¬ HasSomeTest c rules (target_of path direction kinds.Robust)) × HasSomeTest c rules (target_of path direction kinds.Nonrobust))
  pub untestable : (is_untestable verdict ≡ true) ↔ (¬ HasSomeTest c rules (target_of path direction kinds.Nonrobust))
  pub decided : is_aborted verdict ≡ false
