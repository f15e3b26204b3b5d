-- A split of a spent tree is one at a source, and one that a refutation may have.
use Rattle.std.proofs.Common.{List, arith}
use Rattle.pd_base.specs.Target.{Target}
use Rattle.pd_base.specs.declared.rules.Rules.{Rules}
use Rattle.pd_base.specs.declared.rules.Rules.TheVariants.{One, Two, Linked}
use Rattle.netlist.specs.Circuit.{Circuit, source_count}
use Rattle.state_laws.specs.declared.split.Split.{Split}
use Rattle.state_laws.specs.declared.split.Half.{Half}
use Rattle.trees.specs.Trees.{IsSourceSplit}
use Rattle.trees.specs.Refutations.{IsSplitOf}
use Rattle.trees.specs.Spent.{IsDue}

-- a split at a source is one of a refutation under all rules
pub source_split : (c : Circuit) (rules : Rules) (split : Split) → IsSourceSplit (source_count c) split → IsSplitOf c rules split
source_split c One split is = is
source_split c Two split is = record { in_circuit = omega (arith, is.source); kind = is.kind }
source_split c (Linked links) split is = omega (arith, is.source)

module _ (c : Circuit) (rules : Rules) (target : Target) (halves : List Half) (split : Split) (due : IsDue c rules target halves split) where
  -- so is one that is due
  pub due_at_source : IsSourceSplit (source_count c) split
  due_at_source = record { source = due.in_support.is_source; kind = due.kind }

  pub due_split : IsSplitOf c rules split
  due_split = source_split c rules split due_at_source
