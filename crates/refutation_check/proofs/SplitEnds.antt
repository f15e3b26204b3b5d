-- The ends of the engine that judges a tree: as the lines that the tree splits come to them, those that are there stay, and all of them
-- are lines; and what an engine tells that has them.
use Rattle.std.proofs.Common.{◌≡◌, ℕ, ◌<◌, Bool, List, Option, Some, get_or, sym, subst, subst₂}
use Rattle.std.specs.List.{All, Contains}
use Rattle.pd_base.specs.Links.{links_of}
use Rattle.pd_base.specs.Route.{Route}
use Rattle.pd_base.specs.declared.ids.LineId.{LineId}
use Rattle.pd_base.specs.declared.rules.Rules.{Rules}
use Rattle.netlist.specs.Circuit.{Circuit, line_count}
use Rattle.netlist.specs.Paths.{end_of}
use Rattle.trees.specs.declared.tree.Node.{Node}
use Rattle.trees.specs.declared.tree.Node.TheVariants.{Closed, Waiting, Split}
use Rattle.implication.specs.Standing.{Standing, ToldEnds, told_ends, IsTold, IsToldBy}
use Rattle.implication.proofs.Told.{end_told}
use Rattle.refutation_check.specs.SplitEnds.{IsEndAt, AddsEnds}
use Rattle.refutation_check.specs.Walks.{IsToldAt}

pub adds_none : (count : ℕ) (ends : List LineId) → AddsEnds count ends ends
adds_none count ends = record { still = λ end among. among; below = λ bound few all. all }

pub adds_twice : (count : ℕ) (first middle last : List LineId) → AddsEnds count first middle → AddsEnds count middle last
    → AddsEnds count first last
adds_twice count first middle last one two = record {
  still = λ end among. two.still end (one.still end among);
  below = λ bound few all. two.below bound few (one.below bound few all);
}

-- an end of a node is one still
pub end_still : (count : ℕ) (old new : List LineId) → AddsEnds count old new → (node : Node) → IsEndAt count old node → IsEndAt count new node
end_still count old new adds Closed is = tt
end_still count old new adds Waiting is = tt
end_still count old new adds (Split split) is = λ within. adds.still split.line (is within)

module _ (standing : Standing) (c : Circuit) (rules : Rules) (ends : List LineId) (near : Bool) (net : standing.net ≡ c) (same_rules : standing.rules ≡ rules)
    (within : standing.ends ≡ Some (told_ends ends near)) where
  -- an end is told
  told_there : (line : LineId) → Contains ends line → IsTold standing line.0
  told_there line among =
      let P : Circuit → Type 0 = λ n. IsToldBy n (links_of standing.rules) standing.ends line.0 in
      let Q : Rules → Option ToldEnds → Type 0 = λ r all. IsToldBy c (links_of r) all line.0 in
      subst P (sym net) (subst₂ Q (sym same_rules) (sym within) (end_told c (links_of rules) (told_ends ends near) line among))

  pub own_end_told : (path : Route) → Contains ends (record { 0 = end_of c path }) → IsTold standing (end_of standing.net path)
  own_end_told path among =
      let P : Circuit → Type 0 = λ n. IsTold standing (end_of n path) in subst P (sym net) (told_there (record { 0 = end_of c path }) among)

  -- so is each line that a node splits
  split_told : (node : Node) → IsEndAt (line_count c) ends node → IsToldAt standing node
  split_told Closed is = tt
  split_told Waiting is = tt
  split_told (Split split) is = λ inside.
      let P : Circuit → Type 0 = λ n. split.line.0 < line_count n in told_there split.line (is (subst P net inside))

  pub splits_told : (nodes : List Node) → All (IsEndAt (line_count c) ends) nodes → All (IsToldAt standing) nodes
  splits_told nodes are place d inside = split_told (get_or nodes place d) (are place d inside)
