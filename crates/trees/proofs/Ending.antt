-- A tree that has grown whole: it refutes where no leaf waits, and else it has spent its splits. And how many nodes it has.
use Rattle.std.proofs.Common.{◌≡◌, ℕ, ◌+◌, ◌*◌, Bool, true, false, List, [], ◌∷◌, ◌++◌, length, refl, sym, ap, ◌∙◌, subst, arith}
use Rattle.std.specs.List.{Contains}
use Rattle.std.proofs.lemmas.List.{append-nil, length-append}
use Rattle.std.proofs.lemmas.List.Elements.{Contains-append_left, Contains-append_right}
use Rattle.pd_base.specs.Target.{Target}
use Rattle.pd_base.specs.declared.rules.Rules.{Rules}
use Rattle.netlist.specs.Circuit.{Circuit}
use Rattle.state_laws.specs.declared.split.Split.{Split as CaseSplit}
use Rattle.state_laws.specs.declared.split.Half.{Half}
use Rattle.trees.specs.declared.tree.Node.{Node}
use Rattle.trees.specs.declared.tree.Node.TheVariants.{Closed, Waiting, Split}
use Rattle.trees.specs.Trees.{Cases, preorder, split_count}
use Rattle.trees.specs.Trees.Cases.{closed, waiting, split_at}
use Rattle.trees.specs.Refutations.{below, RefutesBelow, IsRefutation}
use Rattle.trees.specs.Spent.{IsSpentBelow, IsSpent}
use Rattle.trees.specs.Growing.{IsOneWith, Grows}
use Rattle.trees.proofs.Bound.{splits_append}
use Rattle.trees.proofs.SourceSplits.{due_split}

-- a tree has twice as many nodes as splits, and one
pub nodes_and_splits : (cases : Cases) → length (preorder cases) ≡ 2 * split_count (preorder cases) + 1
nodes_and_splits closed = refl
nodes_and_splits waiting = refl
nodes_and_splits (split_at split first second) =
    let one : split_count (preorder (split_at split first second)) ≡ 1 + split_count (preorder first ++ preorder second) =
    splits_append (Split split ∷ []) (preorder first ++ preorder second) in
    let two = splits_append (preorder first) (preorder second) in
    let long : length (preorder (split_at split first second)) ≡ 1 + length (preorder first ++ preorder second) = omega arith in
    omega (arith, one, two, long, length-append (preorder first) (preorder second), nodes_and_splits first, nodes_and_splits second)

-- a split more, and a leaf more
pub splits_with_split : (nodes : List Node) (split : CaseSplit) → split_count (nodes ++ Split split ∷ []) ≡ split_count nodes + 1
splits_with_split nodes split = splits_append nodes (Split split ∷ [])

pub splits_with_closed : (nodes : List Node) → split_count (nodes ++ Closed ∷ []) ≡ split_count nodes
splits_with_closed nodes = let e = splits_append nodes (Closed ∷ []) in omega (arith, e)

pub splits_with_waiting : (nodes : List Node) → split_count (nodes ++ Waiting ∷ []) ≡ split_count nodes
splits_with_waiting nodes = let e = splits_append nodes (Waiting ∷ []) in omega (arith, e)

module _ (c : Circuit) (rules : Rules) (target : Target) where
  module _ (node : Node) (first second : List Node) (none : Contains (node ∷ (first ++ second)) Waiting → ⊥) where
    none_first : Contains first Waiting → ⊥
    none_first has = none (Contains-append_right (node ∷ []) (first ++ second) Waiting (Contains-append_left first second Waiting has))

    none_second : Contains second Waiting → ⊥
    none_second has = none (Contains-append_right (node ∷ []) (first ++ second) Waiting (Contains-append_right first second Waiting has))

  -- cases such as a spent tree has refute where no leaf waits
  pub refutes_if_none_waits : (halves : List Half) (cases : Cases) → IsSpentBelow c rules target halves cases
      → (Contains (preorder cases) Waiting → ⊥) → RefutesBelow c rules target halves cases
  refutes_if_none_waits halves closed spent none = spent
  refutes_if_none_waits halves waiting spent none = none (0, omega arith, refl)
  refutes_if_none_waits halves (split_at split first second) spent none = (
    due_split c rules target halves split spent.0,
    refutes_if_none_waits (below halves split false) first spent.1 (none_first (Split split) (preorder first) (preorder second) none),
    refutes_if_none_waits (below halves split true) second spent.2 (none_second (Split split) (preorder first) (preorder second) none),
  )

  module _ (nodes : List Node) (grows : Grows c rules target nodes []) where
    -- that tree
    pub whole : IsOneWith c rules target nodes []
    whole = grows [] tt

    -- where no place is left, the nodes are those of one tree
    pub grown_tree : nodes ≡ preorder whole.cases
    grown_tree = sym (whole.tree ∙ append-nil nodes)

    pub grown_is_tree : (cases : Cases) × (nodes ≡ preorder cases)
    grown_is_tree = (whole.cases, grown_tree)

    -- with so many nodes
    pub grown_length : length nodes ≡ 2 * split_count nodes + 1
    grown_length = let e = ap length grown_tree in let f = ap split_count grown_tree in
        omega (arith, e, f, nodes_and_splits whole.cases)

    -- it refutes where none of them waits
    pub grown_refutes : (Contains nodes Waiting → ⊥) → IsRefutation c rules target nodes
    grown_refutes none = record {
      cases = whole.cases;
      tree = grown_tree;
      refutes = refutes_if_none_waits [] whole.cases whole.spent
          (subst (λ (ns : List Node). Contains ns Waiting → ⊥) grown_tree none);
    }

    -- and has spent its splits where one does
    pub grown_spent : (budget : ℕ) → split_count nodes ≡ budget → Contains nodes Waiting → IsSpent c rules target budget nodes
    grown_spent budget splits waits = record {
      cases = whole.cases;
      tree = grown_tree;
      splits = splits;
      waits = waits;
      spent = whole.spent;
    }
