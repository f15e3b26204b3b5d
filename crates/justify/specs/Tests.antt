-- What a pair has to be that a search gives as a test (this project's own).
use Rattle.std.specs.Prelude.{◌≡◌, length}
use Rattle.pd_base.specs.Pair.{Vectors}
use Rattle.pd_base.specs.Target.{Target}
use Rattle.pd_base.specs.declared.rules.Rules.{Rules}
use Rattle.netlist.specs.Circuit.{Circuit, source_count}
use Rattle.netlist.specs.Conditions.{Meets}
use Rattle.netlist.specs.LinkedPairs.{IsOfRules}
use Rattle.trees.specs.ZeroOutside.{IsZeroOutside}

-- the pair has one bit per source in each vector, is one of the rules, meets the conditions, and leaves the sources outside the support at
-- 0 as far as no link gives them their bits
pub record IsFitTest (c : Circuit) (rules : Rules) (target : Target) (pair : Vectors) : Type 0 where
  pub first_fits : length pair.first ≡ source_count c
  pub second_fits : length pair.second ≡ source_count c
  pub of_rules : IsOfRules c rules pair
  pub meets : Meets c target pair
  pub zero_outside : IsZeroOutside c rules target.path pair
