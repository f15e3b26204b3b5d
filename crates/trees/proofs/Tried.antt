-- A spent tree shows at each split and each open leaf that there are pairs to try, and that they fail: no set of the hull there is empty, and
-- all splits are on sources of the support.
use Rattle.std.proofs.Common.{ℕ, true, false, List, [], sym, subst, ◌∙◌}
use Rattle.std.specs.List.{All}
use Rattle.std.proofs.lemmas.List.Elements.{All-nil, All-push}
use Rattle.pd_base.specs.Target.{Target}
use Rattle.pd_base.specs.declared.rules.Rules.{Rules}
use Rattle.netlist.specs.Circuit.{Circuit}
use Rattle.netlist.specs.Lawful.{IsCircuit}
use Rattle.netlist.specs.LinkedPairs.{FitRules}
use Rattle.netlist.specs.Paths.{IsPrefix}
use Rattle.state_sets.specs.declared.state.StateSet.{StateSet}
use Rattle.state_laws.specs.declared.split.Half.{Half}
use Rattle.trees.specs.declared.tree.Node.{Node}
use Rattle.trees.specs.Trees.{Cases}
use Rattle.trees.specs.Trees.Cases.{closed, waiting, split_at}
use Rattle.trees.proofs.Preorders.{preorder_unique}
use Rattle.trees.specs.Refutations.{below}
use Rattle.trees.specs.Spent.{IsInSupport, IsOpen, IsSpentBelow, IsSpent}
use Rattle.trees.specs.Tried.{LeastPairsFailAt, LeastPairsFailBelow, ShowsFailures}
use Rattle.trees.proofs.LeastPairs.{pair_of_rules, takes_least_of_rules, unlinked_pair, unlinked_takes}
use Rattle.trees.proofs.Trials.{open_fails}

module _ (c : Circuit) (circuit : IsCircuit c) (rules : Rules) (fit : FitRules c rules) (target : Target) (is : IsPrefix c target.path) where
  abbrev OnSupport : Half → Type 0
  OnSupport half = IsInSupport c rules target.path half.split.line.0

  node_fails : (halves : List Half) → All OnSupport halves → (hull : List StateSet) → IsOpen c rules target halves hull
      → LeastPairsFailAt c rules target halves
  node_fails halves on hull open_here = record {
    hull = hull;
    is_hull = open_here.is_hull;
    some = (unlinked_pair c rules hull, unlinked_takes c rules target halves hull open_here.is_hull open_here.none_empty);
    some_of_rules = (
      pair_of_rules c rules hull,
      takes_least_of_rules c rules target halves hull open_here.is_hull open_here.none_empty circuit fit,
    );
    fails = open_fails c circuit rules fit target is halves hull open_here on;
  }

  spent_fails_below : (cases : Cases) (halves : List Half) → All OnSupport halves → IsSpentBelow c rules target halves cases
      → LeastPairsFailBelow c rules target halves cases
  spent_fails_below closed halves on spent = tt
  spent_fails_below waiting halves on spent = node_fails halves on spent.0 spent.1
  spent_fails_below (split_at split first second) halves on spent = (
    node_fails halves on spent.0.hull spent.0.is_open,
    spent_fails_below first (below halves split false) (All-push OnSupport halves _ on spent.0.in_support) spent.1,
    spent_fails_below second (below halves split true) (All-push OnSupport halves _ on spent.0.in_support) spent.2,
  )

  -- at each split and each open leaf of a spent tree every pair that has the least states of the hull at the sources of the support is no
  -- pair of the rules or fails the conditions
  pub spent_fails : (budget : ℕ) (nodes : List Node) (spent : IsSpent c rules target budget nodes) → LeastPairsFailBelow c rules target [] spent.cases
  spent_fails budget nodes spent = spent_fails_below spent.cases [] (All-nil OnSupport) spent.spent

  -- so the nodes of a spent tree show it
  pub spent_shows : (budget : ℕ) (nodes : List Node) → IsSpent c rules target budget nodes → ShowsFailures c rules target nodes
  spent_shows budget nodes spent cases tree =
      subst (LeastPairsFailBelow c rules target []) (preorder_unique spent.cases cases (sym spent.tree ∙ tree)) (spent_fails budget nodes spent)
