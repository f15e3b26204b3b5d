-- How a tree of cases grows: from one place, by a leaf or a split at the next place, until no place is left.
use Rattle.std.proofs.Common.{◌≡◌, true, false, List, [], ◌∷◌, ◌++◌, refl, sym, ap, ◌∙◌, append_assoc}
use Rattle.std.specs.List.{flat_map}
use Rattle.std.proofs.lemmas.List.{append-nil}
use Rattle.pd_base.specs.Target.{Target}
use Rattle.pd_base.specs.declared.rules.Rules.{Rules}
use Rattle.netlist.specs.Circuit.{Circuit}
use Rattle.state_sets.specs.declared.state.StateSet.{StateSet}
use Rattle.state_laws.specs.declared.split.Split.{Split as CaseSplit}
use Rattle.state_laws.specs.declared.split.Half.{Half}
use Rattle.state_laws.specs.Nodes.{ClosesAtNode}
use Rattle.trees.specs.declared.tree.Node.{Node}
use Rattle.trees.specs.declared.tree.Node.TheVariants.{Closed, Waiting, Split}
use Rattle.trees.specs.Trees.{Cases, preorder}
use Rattle.trees.specs.Trees.Cases.{closed, waiting, split_at}
use Rattle.trees.specs.Algebras.{algebra_of}
use Rattle.trees.specs.Refutations.{below}
use Rattle.trees.specs.Spent.{IsOpen, IsDue, IsSpentBelow}
use Rattle.trees.specs.Growing.{Grows}

module _ (c : Circuit) (rules : Rules) (target : Target) where
  -- at first the root is due
  pub grows_from_root : Grows c rules target [] ([] ∷ [])
  grows_from_root [] fill = absurd fill
  grows_from_root (cases ∷ []) fill = record { cases = cases; tree = sym (append-nil (preorder cases)); spent = fill.0 }
  grows_from_root (cases ∷ other ∷ trees) fill = absurd fill.1

  module _ (nodes : List Node) (halves : List Half) (places : List (List Half)) (grows : Grows c rules target nodes (halves ∷ places)) where
    -- a leaf at the next place
    by_leaf : (leaf : Cases) (node : Node) → preorder leaf ≡ node ∷ [] → IsSpentBelow c rules target halves leaf
        → Grows c rules target (nodes ++ node ∷ []) places
    by_leaf leaf node is spent trees fill =
        let one = grows (leaf ∷ trees) (spent, fill) in
        record {
          cases = one.cases;
          tree = one.tree ∙ ap (λ (ns : List Node). nodes ++ (ns ++ flat_map preorder trees)) is
              ∙ sym (append_assoc nodes (node ∷ []) (flat_map preorder trees));
          spent = one.spent;
        }

    pub grows_by_closed : ClosesAtNode (algebra_of rules) c rules target halves → Grows c rules target (nodes ++ Closed ∷ []) places
    grows_by_closed closes = by_leaf closed Closed refl closes

    pub grows_by_waiting : (hull : List StateSet) → IsOpen c rules target halves hull
        → Grows c rules target (nodes ++ Waiting ∷ []) places
    grows_by_waiting hull is_open = by_leaf waiting Waiting refl (hull, is_open)

    -- a split at the next place makes places of its two halves, the first half next
    pub grows_by_split : (split : CaseSplit) → IsDue c rules target halves split
        → Grows c rules target (nodes ++ Split split ∷ []) (below halves split false ∷ below halves split true ∷ places)
    grows_by_split split due [] fill = absurd fill
    grows_by_split split due (first ∷ []) fill = absurd fill.1
    grows_by_split split due (first ∷ second ∷ trees) fill =
        let one = grows (split_at split first second ∷ trees) ((due, fill.0, fill.1.0), fill.1.1) in
        record {
          cases = one.cases;
          tree = one.tree
              ∙ ap (λ (ns : List Node). nodes ++ Split split ∷ ns) (append_assoc (preorder first) (preorder second) (flat_map preorder trees))
              ∙ sym (append_assoc nodes (Split split ∷ []) (preorder first ++ (preorder second ++ flat_map preorder trees)));
          spent = one.spent;
        }
