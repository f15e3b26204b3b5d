-- The splits of a tree such as a spent one is are all at sources, since each is due; so are those of a tree that has grown whole.
use Rattle.std.proofs.Common.{true, false, List, [], ◌∷◌, ◌++◌, sym, subst}
use Rattle.std.proofs.lemmas.List.Elements.{All-cons, All-nil, All-append}
use Rattle.pd_base.specs.Target.{Target}
use Rattle.pd_base.specs.declared.rules.Rules.{Rules}
use Rattle.netlist.specs.Circuit.{Circuit, source_count}
use Rattle.state_laws.specs.declared.split.Half.{Half}
use Rattle.trees.specs.declared.tree.Node.{Node}
use Rattle.trees.specs.declared.tree.Node.TheVariants.{Closed, Waiting, Split}
use Rattle.trees.specs.Trees.{Cases, preorder, IsSourceNode, IsTreeOfSources}
use Rattle.trees.specs.Trees.Cases.{closed, waiting, split_at}
use Rattle.trees.specs.Refutations.{below}
use Rattle.trees.specs.Spent.{IsSpentBelow}
use Rattle.trees.specs.Growing.{Grows}
use Rattle.trees.proofs.Ending.{whole, grown_tree}
use Rattle.trees.proofs.SourceSplits.{due_at_source}

module _ (c : Circuit) (rules : Rules) (target : Target) where
  abbrev IsOfSources : Node → Type 0
  IsOfSources = IsSourceNode (source_count c)

  spent_of_sources : (halves : List Half) (cases : Cases) → IsSpentBelow c rules target halves cases
      → IsTreeOfSources (source_count c) (preorder cases)
  spent_of_sources halves closed spent = All-cons IsOfSources Closed [] tt (All-nil IsOfSources)
  spent_of_sources halves waiting spent = All-cons IsOfSources Waiting [] tt (All-nil IsOfSources)
  spent_of_sources halves (split_at split first second) spent =
      All-cons IsOfSources (Split split) (preorder first ++ preorder second) (due_at_source c rules target halves split spent.0)
      (All-append IsOfSources (preorder first) (preorder second)
      (spent_of_sources (below halves split false) first spent.1) (spent_of_sources (below halves split true) second spent.2))

  pub grown_of_sources : (nodes : List Node) → Grows c rules target nodes [] → IsTreeOfSources (source_count c) nodes
  grown_of_sources nodes grows =
      subst (IsTreeOfSources (source_count c)) (sym (grown_tree c rules target nodes grows))
      (spent_of_sources [] (whole c rules target nodes grows).cases (whole c rules target nodes grows).spent)
