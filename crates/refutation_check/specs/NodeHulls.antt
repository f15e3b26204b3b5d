-- What a call for the hull at a node answers, under any rules, and what the answer tells of pairs of vectors (this project's own).
use Rattle.std.specs.Prelude.{◌≡◌, ⊤, ℕ, ◌<◌, List, All, Result, Ok, Err}
use Rattle.pd_base.specs.Links.{LinkList, links_of, IsLink}
use Rattle.pd_base.specs.Target.{Target}
use Rattle.pd_base.specs.Pair.{Vectors}
use Rattle.pd_base.specs.declared.ids.LineId.{LineId}
use Rattle.pd_base.specs.declared.rules.Rules.{Rules}
use Rattle.netlist.specs.Circuit.{Circuit, line_count, source_count}
use Rattle.netlist.specs.Conditions.{Meets}
use Rattle.netlist.specs.LinkedPairs.{IsOfRules, IsSupported}
use Rattle.netlist.specs.Paths.{end_of}
use Rattle.netlist.specs.Values.{bit_of, value}
use Rattle.state_sets.specs.declared.state.State.{State}
use Rattle.state_sets.specs.declared.state.StateSet.{StateSet}
use Rattle.state_sets.specs.States.{Has}
use Rattle.state_sets.specs.Labellings.{label_at}
use Rattle.state_sets.specs.StateAlgebra.{StateAlgebra}
use Rattle.state_sets.specs.Hulls.{HasNoEmptySet}
use Rattle.state_sets.specs.LineStates.{state_under}
use Rattle.state_laws.specs.declared.split.Half.{Half}
use Rattle.state_laws.specs.Halves.{LiesInHalf}
use Rattle.state_laws.specs.Nodes.{IsNodeHull, IsEmptiedAtNode}
use Rattle.state_laws.specs.Pairs.{HasPair, IsGiven}
use Rattle.state_laws.specs.Steadied.{KeepsRules}
use Rattle.trees.specs.Algebras.{algebra_of}
use Rattle.trees.specs.Unlinked.{IsUnlinked}
use Rattle.refutation_check.specs.declared.answer.Hull.{Hull}
use Rattle.refutation_check.specs.declared.answer.Hull.TheVariants.{Rest, RestLinked, Empty}

-- what is found at a node with one kind of states: the hull, in which each line has some state, or a line that is emptied there
abbrev pub IsFoundAt : StateAlgebra → Circuit → Rules → Target → List Half → Result (List StateSet) LineId → Type 0
IsFoundAt a c rules target halves (Ok labels) = IsNodeHull a c rules target halves labels × HasNoEmptySet c labels
IsFoundAt a c rules target halves (Err line) = (line.0 < line_count c) × IsEmptiedAtNode a c rules target halves line.0

-- the answer as it was found: labels, or a line
abbrev pub found_of : Hull → Result (List StateSet) LineId
found_of (Rest labels) = Ok labels
found_of (RestLinked labels) = Ok labels
found_of (Empty line) = Err line

-- labels are of six states exactly under linked rules
abbrev pub IsKindOf : Rules → Hull → Type 0
IsKindOf rules (Rest labels) = IsUnlinked rules
IsKindOf rules (RestLinked labels) = ¬ IsUnlinked rules
IsKindOf rules (Empty line) = ⊤

-- The answer is the hull at the node by the kind of states of the rules, in which each line has some state; or it is a line that is emptied
-- there. Under linked rules and no others the hull is one of six states.
pub record IsAtNode (c : Circuit) (rules : Rules) (target : Target) (halves : List Half) (hull : Hull) : Type 0 where
  pub kind : IsKindOf rules hull
  pub found : IsFoundAt (algebra_of rules) c rules target halves (found_of hull)

-- the pair is one of the rules and a test for the target, the other sources start under it as the rules leave them, and it lies in each half
pub record IsPairBelow (c : Circuit) (rules : Rules) (target : Target) (halves : List Half) (pair : Vectors) : Type 0 where
  pub of_rules : IsOfRules c rules pair
  pub meets : Meets c target pair
  pub keeps : KeepsRules (algebra_of rules) c rules target.path.source.0 pair
  pub lies : All (LiesInHalf (algebra_of rules) c pair) halves

-- no such pair is lost: the hull has the states of each; and where a line is emptied there is none
abbrev pub LosesNone : Circuit → Rules → Target → List Half → Result (List StateSet) LineId → Type 0
LosesNone c rules target halves (Ok labels) =
    (pair : Vectors) → IsPairBelow c rules target halves pair → HasPair (algebra_of rules) c labels pair
LosesNone c rules target halves (Err line) = (pair : Vectors) → ¬ IsPairBelow c rules target halves pair

abbrev pub LosesNoPair : Circuit → Rules → Target → List Half → Hull → Type 0
LosesNoPair c rules target halves hull = LosesNone c rules target halves (found_of hull)

-- labels leave to each source in the support of an end, closed over links, at most its state under the pair
abbrev pub IsGivenBehind : StateAlgebra → Circuit → LinkList → ℕ → List StateSet → Vectors → Type 0
IsGivenBehind a c links end labels pair =
    (source : ℕ) → source < source_count c → IsSupported c links end source
    → (state : State) → Has a.count (label_at labels source) state → state ≡ state_under a c pair source

-- the pair keeps the links of the sources in the support of an end: the second bit of each is the value of its line under the first vector
abbrev pub KeepsLinksBehind : Circuit → LinkList → ℕ → Vectors → Type 0
KeepsLinksBehind c links end pair =
    (source line : ℕ) → IsSupported c links end source → IsLink links source line → bit_of pair.second source ≡ value c pair.first line

-- Singletons decide. Where the hull leaves to each source in the fan-in of the path's end no state but the one under a pair, the pair meets
-- the conditions. Where it leaves no other one to each source in the support of the end, the pair keeps the links there, too: it is one of
-- the rules, but for the links of sources on which the end doesn't rest.
pub record DecideAt (c : Circuit) (rules : Rules) (target : Target) (labels : List StateSet) : Type 0 where
  pub meets : (pair : Vectors) → IsGiven (algebra_of rules) c pair target.path labels → Meets c target pair
  pub keeps : (pair : Vectors) → IsGivenBehind (algebra_of rules) c (links_of rules) (end_of c target.path) labels pair
      → KeepsLinksBehind c (links_of rules) (end_of c target.path) pair

abbrev pub SinglesDecide : Circuit → Rules → Target → Result (List StateSet) LineId → Type 0
SinglesDecide c rules target (Ok labels) = DecideAt c rules target labels
SinglesDecide c rules target (Err line) = ⊤

abbrev pub DecidesSingletons : Circuit → Rules → Target → Hull → Type 0
DecidesSingletons c rules target hull = SinglesDecide c rules target (found_of hull)
