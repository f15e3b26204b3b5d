-- What the hull at a node, or a line that is emptied there, tells of pairs of vectors.
use Rattle.std.proofs.Common.{List, refl, sym, ◌∙◌, Result, Ok, Err, IfOk, arith}
use Rattle.pd_base.specs.Links.{links_of}
use Rattle.pd_base.specs.Target.{Target}
use Rattle.pd_base.specs.declared.ids.LineId.{LineId}
use Rattle.pd_base.specs.declared.memory.OutOfMemory.{OutOfMemory}
use Rattle.pd_base.specs.declared.rules.Rules.{Rules}
use Rattle.netlist.specs.Circuit.{Circuit}
use Rattle.netlist.specs.Lawful.{IsCircuit}
use Rattle.netlist.specs.LinkedPairs.{FitRules}
use Rattle.netlist.specs.Paths.{IsPrefix, end_of}
use Rattle.netlist.specs.Steadiness.{is_steady}
use Rattle.netlist.specs.Values.{value}
use Rattle.path_laws.proofs.GateValues.{value_of_source}
use Rattle.path_laws.proofs.StepCounts.{line_after_in_circuit}
use Rattle.state_sets.specs.declared.state.StateSet.{StateSet}
use Rattle.state_laws.specs.declared.split.Half.{Half}
use Rattle.state_laws.specs.Nodes.{MayBe}
use Rattle.state_laws.proofs.Pairs.{kept_at_node, node_never_closes}
use Rattle.state_laws.proofs.Deciding.{rest_decides}
use Rattle.state_laws.proofs.Linked.{linked_source}
use Rattle.state_laws.proofs.PairStates.{line_may}
use Rattle.trees.specs.Algebras.{algebra_of}
use Rattle.trees.proofs.LeastPairs.{tells_if_linked}
use Rattle.trees.proofs.Refuting.{laws_of}
use Rattle.refutation_check.specs.declared.answer.Hull.{Hull}
use Rattle.refutation_check.proofs.SupportDeciding.{linked_there}
use Rattle.refutation_check.specs.NodeHulls.{IsAtNode, IsFoundAt, LosesNone, LosesNoPair, SinglesDecide, DecidesSingletons, found_of}

module _ (c : Circuit) (circuit : IsCircuit c) (rules : Rules) (fit : FitRules c rules) (target : Target) (is : IsPrefix c target.path)
    (halves : List Half) where
  loses_none : (found : Result (List StateSet) LineId) → IsFoundAt (algebra_of rules) c rules target halves found
      → LosesNone c rules target halves found
  loses_none (Ok labels) at = λ pair below.
      kept_at_node (algebra_of rules) (laws_of rules) c circuit rules fit target is pair below.of_rules below.meets below.keeps halves below.lies
      labels at.0
  loses_none (Err line) at = λ pair below.
      node_never_closes (algebra_of rules) (laws_of rules) c circuit rules fit target is pair below.of_rules below.meets below.keeps halves
      below.lies (record { line = line.0; in_circuit = at.0; emptied = at.1 })

  singles_decide : (found : Result (List StateSet) LineId) → IsFoundAt (algebra_of rules) c rules target halves found
      → SinglesDecide c rules target found
  singles_decide (Ok labels) at = record {
    meets = λ pair given.
        rest_decides (algebra_of rules) (laws_of rules) c circuit (links_of rules) target.kind target.path is
        (MayBe (algebra_of rules) c rules target halves) labels at.0.rest at.1 pair given target.direction (λ state may. may.start.own refl);
    keeps = λ pair given source line supported link.
        sym (value_of_source c pair.second source (linked_source c (links_of rules) fit source line link))
        ∙ tells_if_linked rules source line link (is_steady c pair source) (value c pair.first source) (value c pair.second source)
        (is_steady c pair line) (value c pair.first line) (value c pair.second line)
        (line_may (algebra_of rules) (laws_of rules) c circuit pair line)
        (linked_there (algebra_of rules) (laws_of rules) c circuit (links_of rules) fit target.kind target.path.steps
        (MayBe (algebra_of rules) c rules target halves) labels at.0.rest at.1 (end_of c target.path)
        (line_after_in_circuit c circuit target.path.source.0 target.path.steps (omega (arith, is.source)) is.connects) pair given source line
        supported link);
  }
  singles_decide (Err line) at = tt

  -- the same of an answer
  pub answer_loses_no_pair : (answer : Result Hull OutOfMemory) → IfOk answer (IsAtNode c rules target halves)
      → IfOk answer (LosesNoPair c rules target halves)
  answer_loses_no_pair (Ok hull) at = loses_none (found_of hull) at.found
  answer_loses_no_pair (Err error) at = tt

  pub answer_decides_singletons : (answer : Result Hull OutOfMemory) → IfOk answer (IsAtNode c rules target halves)
      → IfOk answer (DecidesSingletons c rules target)
  answer_decides_singletons (Ok hull) at = singles_decide (found_of hull) at.found
  answer_decides_singletons (Err error) at = tt
