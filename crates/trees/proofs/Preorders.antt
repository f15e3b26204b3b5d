-- A list of nodes is the preorder of one tree at most.
use Rattle.std.proofs.Common.{◌≡◌, List, [], ◌++◌, refl, sym, ◌∙◌, append_assoc}
use Rattle.std.proofs.lemmas.List.{append-nil}
use Rattle.state_laws.specs.declared.split.Split.{Split as CaseSplit}
use Rattle.trees.specs.declared.tree.Node.{Node}
use Rattle.trees.specs.Trees.{Cases, closed, waiting, split_at, preorder}

-- the same tree, and the same nodes behind it
record SameSplit (a b : Cases) (xs ys : List Node) : Type 0 where
  tree : a ≡ b
  rest : xs ≡ ys

-- the nodes of two halves with more nodes behind them show both, where each half shows itself
same_halves : (r s : CaseSplit) (a b c d : Cases) (xs ys : List Node)
    → r ≡ s → (preorder a ++ preorder b) ++ xs ≡ (preorder c ++ preorder d) ++ ys
    → (preorder a ++ (preorder b ++ xs) ≡ preorder c ++ (preorder d ++ ys) → SameSplit a c (preorder b ++ xs) (preorder d ++ ys))
    → (preorder b ++ xs ≡ preorder d ++ ys → SameSplit b d xs ys)
    → SameSplit (split_at r a b) (split_at s c d) xs ys
same_halves r s a b c d xs ys splits nodes first second =
    let halves = first (sym (append_assoc (preorder a) (preorder b) xs) ∙ nodes ∙ append_assoc (preorder c) (preorder d) ys) in
    let last = second halves.rest in
    record { tree = cc (splits, halves.tree, last.tree); rest = last.rest }

-- a tree's nodes with more nodes behind them show where the tree ends, and which it is
preorder-split : (a b : Cases) (xs ys : List Node) → preorder a ++ xs ≡ preorder b ++ ys → SameSplit a b xs ys
preorder-split closed closed xs ys e = record { tree = refl; rest = cc }
preorder-split closed waiting xs ys e = cc
preorder-split closed (split_at s c d) xs ys e = cc
preorder-split waiting closed xs ys e = cc
preorder-split waiting waiting xs ys e = record { tree = refl; rest = cc }
preorder-split waiting (split_at s c d) xs ys e = cc
preorder-split (split_at r a b) closed xs ys e = cc
preorder-split (split_at r a b) waiting xs ys e = cc
preorder-split (split_at r a b) (split_at s c d) xs ys e =
    same_halves r s a b c d xs ys (cc) (cc)
    (preorder-split a c (preorder b ++ xs) (preorder d ++ ys)) (preorder-split b d xs ys)

-- two trees of the same nodes are one
pub preorder_unique : (a b : Cases) → preorder a ≡ preorder b → a ≡ b
preorder_unique a b e = (preorder-split a b [] [] (append-nil (preorder a) ∙ e ∙ sym (append-nil (preorder b)))).tree
