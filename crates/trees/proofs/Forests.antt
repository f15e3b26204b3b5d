-- Trees one behind another, as a walk over their nodes counts them.
use Rattle.std.proofs.Common.{◌≡◌, ℕ, zero, suc, ◌+◌, ◌-◌, ◌<◌, ◌≤◌, Bool, true, false, cond, List, [], ◌∷◌, ◌++◌, length, drop, get_or, refl, sym, ap, ◌∙◌, append_assoc, arith}
use Rattle.std.specs.Prelude.{IsTrue, nat_eq}
use Rattle.std.proofs.Math.ListN.{drop_of_length-le}
use Rattle.std.proofs.lemmas.List.{append-nil, length-drop}
use Rattle.std.proofs.lemmas.Bool.{false≢true}
use Rattle.std.specs.List.{flat_map}
use Rattle.state_laws.specs.declared.split.Split.{Split as CaseSplit}
use Rattle.trees.specs.declared.tree.Node.{Node}
use Rattle.trees.specs.declared.tree.Node.TheVariants.{Closed, Waiting, Split}
use Rattle.trees.specs.Trees.{Cases, closed, waiting, split_at, preorder, IsTree, is_split}

-- the nodes fill so many open places, and leave none open
abbrev pub fills : ℕ → List Node → Bool
fills zero [] = true
fills zero (node ∷ nodes) = false
fills (suc places) [] = false
fills (suc places) (Closed ∷ nodes) = fills places nodes
fills (suc places) (Waiting ∷ nodes) = fills places nodes
fills (suc places) (Split split ∷ nodes) = fills (suc (suc places)) nodes

-- a tree fills one place
pub fills-preorder : (cases : Cases) (places : ℕ) (more : List Node)
    → fills (suc places) (preorder cases ++ more) ≡ fills places more
fills-preorder closed places more = refl
fills-preorder waiting places more = refl
fills-preorder (split_at split first second) places more =
    ap (fills (suc (suc places))) (append_assoc (preorder first) (preorder second) more)
    ∙ fills-preorder first (suc places) (preorder second ++ more) ∙ fills-preorder second places more

-- so many trees, one behind another
pub record Forest (count : ℕ) (nodes : List Node) : Type 0 where
  pub trees : List Cases
  pub counted : length trees ≡ count
  pub spelled : nodes ≡ flat_map preorder trees

-- a split in front of its two halves makes one tree of the first two
first_two : (split : CaseSplit) (count : ℕ) (nodes : List Node)
    → Forest (suc (suc count)) nodes → Forest (suc count) (Split split ∷ nodes)
first_two split count nodes f = by f.trees f.counted f.spelled
  where
    by : (trees : List Cases) → length trees ≡ suc (suc count) → nodes ≡ flat_map preorder trees
        → Forest (suc count) (Split split ∷ nodes)
    by [] e spelled = absurd (omega arith)
    by (a ∷ []) e spelled = absurd (omega arith)
    by (a ∷ b ∷ trees) e spelled = record {
      trees = split_at split a b ∷ trees;
      counted = omega arith;
      spelled = ap (λ (ns : List Node). Split split ∷ ns)
          (spelled ∙ sym (append_assoc (preorder a) (preorder b) (flat_map preorder trees)));
    }

-- a leaf in front is one tree more
leaf_first : (leaf : Cases) (node : Node) (count : ℕ) (nodes : List Node) → preorder leaf ≡ node ∷ []
    → Forest count nodes → Forest (suc count) (node ∷ nodes)
leaf_first leaf node count nodes shape f = record {
  trees = leaf ∷ f.trees;
  counted = omega (arith, f.counted);
  spelled = ap (λ (ns : List Node). node ∷ ns) f.spelled ∙ ap (λ (ns : List Node). ns ++ flat_map preorder f.trees) (sym shape);
}

-- what fills so many places is so many trees
pub forest_of_fills : (places : ℕ) (nodes : List Node) → fills places nodes ≡ true → Forest places nodes
forest_of_fills zero [] h = record { trees = []; counted = refl; spelled = refl }
forest_of_fills zero (node ∷ nodes) h = cc
forest_of_fills (suc places) [] h = cc
forest_of_fills (suc places) (Closed ∷ nodes) h = leaf_first closed Closed places nodes refl (forest_of_fills places nodes h)
forest_of_fills (suc places) (Waiting ∷ nodes) h = leaf_first waiting Waiting places nodes refl (forest_of_fills places nodes h)
forest_of_fills (suc places) (Split split ∷ nodes) h = first_two split places nodes (forest_of_fills (suc (suc places)) nodes h)

-- the nodes of one whole tree fill one place
pub fills_tree : (nodes : List Node) → IsTree nodes → fills 1 nodes ≡ true
fills_tree nodes tree =
    ap (fills 1) (tree.1 ∙ sym (append-nil (preorder tree.0))) ∙ fills-preorder tree.0 0 []

-- what fills one place is one whole tree
pub tree_of_fills : (nodes : List Node) → fills 1 nodes ≡ true → IsTree nodes
tree_of_fills nodes h = let f = forest_of_fills 1 nodes h in by f.trees f.counted f.spelled
  where
    by : (trees : List Cases) → length trees ≡ 1 → nodes ≡ flat_map preorder trees → IsTree nodes
    by [] e spelled = absurd (omega arith)
    by (t ∷ []) e spelled = (t, spelled ∙ append-nil (preorder t))
    by (t ∷ u ∷ trees) e spelled = absurd (omega arith)

-- one more node goes on to the places behind it
pub fills-more : (places : ℕ) (node : Node) (nodes : List Node)
    → fills (suc places) (node ∷ nodes) ≡ fills (cond (is_split node) (suc (suc places)) places) nodes
fills-more places Closed nodes = refl
fills-more places Waiting nodes = refl
fills-more places (Split split) nodes = refl

-- one step of the walk: what is left fills the next count of places just where it filled the one before
pub fills-step : (nodes : List Node) (i places next : ℕ) (d : Node) → i < length nodes → 0 < places
    → next ≡ cond (is_split (get_or nodes i d)) (places + 1) (places - 1)
    → fills next (drop (suc i) nodes) ≡ fills places (drop i nodes)
fills-step [] i places next d h some e = absurd (omega arith)
fills-step (node ∷ nodes) i zero next d h some e = absurd (omega arith)
fills-step (node ∷ nodes) zero (suc places) next d h some e =
    ap (λ (k : ℕ). fills k nodes) (e ∙ counted (is_split node)) ∙ sym (fills-more places node nodes)
  where
    counted : (b : Bool) → cond b (suc places + 1) (suc places - 1) ≡ cond b (suc (suc places)) places
    counted true = omega arith
    counted false = omega arith
fills-step (node ∷ nodes) (suc i) (suc places) next d h some e =
    fills-step nodes i (suc places) next d (omega arith) some e

-- with a place open no node may be missing, and with none open there may be no more
pub whole_at_end : (nodes : List Node) (i places : ℕ) → length nodes ≤ i → fills places (drop i nodes) ≡ fills 1 nodes
    → (IsTrue (nat_eq places 0) → IsTree nodes) × (IsTree nodes → IsTrue (nat_eq places 0))
whole_at_end nodes i places past e = by places (ap (fills places) (sym (drop_of_length-le nodes past)) ∙ e)
  where
    by : (places : ℕ) → fills places [] ≡ fills 1 nodes
        → (IsTrue (nat_eq places 0) → IsTree nodes) × (IsTree nodes → IsTrue (nat_eq places 0))
    by zero e = (λ _. tree_of_fills nodes (sym e), λ _. refl)
    by (suc places) e = (
      λ h. let none : suc places ≡ 0 = grind arith in absurd (omega arith),
      λ tree. absurd (false≢true (e ∙ fills_tree nodes tree)),
    )

-- a node where no place is open: the nodes are not one tree
pub no_place : (nodes : List Node) (i : ℕ) → i < length nodes → fills 0 (drop i nodes) ≡ fills 1 nodes → IsTree nodes → ⊥
no_place nodes i h e tree = by (drop i nodes) (omega (arith, length-drop i nodes)) (e ∙ fills_tree nodes tree)
  where
    by : (rest : List Node) → 0 < length rest → fills 0 rest ≡ true → ⊥
    by [] h e = omega arith
    by (node ∷ rest) h e = cc

-- there are at most as many open places as nodes so far and one
pub few_more : (b : Bool) (places next i : ℕ) → next ≡ cond b (places + 1) (places - 1) → places ≤ i + 1
    → next ≤ i + 1 + 1
few_more true places next i e h = omega arith
few_more false places next i e h = omega arith
