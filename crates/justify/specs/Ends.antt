-- What a search ends with, in words that are spoken inside this crate alone (this project's own).
use Rattle.std.specs.Prelude.{◌≡◌, ℕ, Bool, true, false, List, Option, Some, None, Result, Ok, Err}
use Rattle.std.specs.List.{Contains}
use Rattle.pd_base.specs.Pair.{Vectors}
use Rattle.trees.specs.declared.tree.Node.{Node}
use Rattle.trees.specs.declared.tree.Node.TheVariants.{Waiting}
use Rattle.trees.specs.Trees.{split_count}
use Rattle.justify.specs.declared.answer.Found.{Found}
use Rattle.justify.specs.declared.answer.Found.TheVariants.{Test, Refuted, Spent}

-- the tree of these nodes: spent if a leaf waits, else a refutation
abbrev pub IsEnd : List Node → Found → Type 0
IsEnd nodes (Test pair) = ⊥
IsEnd nodes (Refuted tree) = (tree ≡ nodes) × (Contains nodes Waiting → ⊥)
IsEnd nodes (Spent tree) = (tree ≡ nodes) × Contains nodes Waiting

-- whether it is a tree that spent its splits
abbrev pub is_spent : Found → Bool
is_spent (Test pair) = false
is_spent (Refuted tree) = false
is_spent (Spent tree) = true

-- how many splits it took to refute the conditions, or 0 where it does not refute them
abbrev pub refuting_splits : Found → ℕ
refuting_splits (Test pair) = 0
refuting_splits (Refuted tree) = split_count tree
refuting_splits (Spent tree) = 0

-- the test that a growth found, or the tree of these nodes where it found none
abbrev pub IsAnswerOf : {E : Type 0} → Result (Option Vectors) E → List Node → Found → Type 0
IsAnswerOf (Ok (Some pair)) nodes found = found ≡ Test pair
IsAnswerOf (Ok None) nodes found = IsEnd nodes found
IsAnswerOf (Err error) nodes found = ⊥

-- the test that was found later, or what was found before where there is none
abbrev pub IsReplacedBy : {E : Type 0} → Result (Option Vectors) E → Found → Found → Type 0
IsReplacedBy (Ok (Some pair)) before after = after ≡ Test pair
IsReplacedBy (Ok None) before after = after ≡ before
IsReplacedBy (Err error) before after = ⊥
