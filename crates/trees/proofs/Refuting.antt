-- A refutation excludes every pair of vectors of its rules: at each split the states of a test lie in one of the halves, and a node whose
-- lines may be in them does not close. Under rules two the test is held steady at the other sources, and is one still.
use Rattle.std.proofs.Common.{⊎_elim, true, false, List, []}
use Rattle.std.specs.List.{All}
use Rattle.std.proofs.lemmas.List.Elements.{All-nil, All-push}
use Rattle.pd_base.specs.Pair.{Vectors}
use Rattle.pd_base.specs.Route.{Route}
use Rattle.pd_base.specs.declared.rules.Rules.{Rules}
use Rattle.pd_base.specs.declared.rules.Rules.TheVariants.{One, Two, Linked}
use Rattle.pd_base.specs.Target.{Target, target_of}
use Rattle.pd_base.specs.declared.fault.Direction.{Direction}
use Rattle.pd_base.specs.declared.fault.Kind.{Kind}
use Rattle.netlist.specs.Circuit.{Circuit}
use Rattle.netlist.specs.Lawful.{IsCircuit}
use Rattle.netlist.specs.Paths.{IsPrefix, IsPrefixOf}
use Rattle.netlist.specs.Conditions.{Meets}
use Rattle.netlist.specs.LinkedPairs.{FitRules, IsOfRules}
use Rattle.path_laws.proofs.Prefixes.{prefix_is_prefix, prefix_meets}
use Rattle.state_sets.specs.StateAlgebra.{StateAlgebra, HasLaws}
use Rattle.state_sets.specs.FourLaws.{four_laws}
use Rattle.state_sets.specs.SixLaws.{six_laws}
use Rattle.state_laws.specs.declared.split.Half.{Half}
use Rattle.state_laws.specs.Halves.{LiesInHalf}
use Rattle.state_laws.specs.Steadied.{KeepsRules, steadied}
use Rattle.state_laws.proofs.Halves.{lies_in_one}
use Rattle.state_laws.proofs.Pairs.{node_never_closes}
use Rattle.state_laws.proofs.Steadied.{steadied_keeps, steadied_meets}
use Rattle.trees.specs.declared.tree.Node.{Node}
use Rattle.trees.specs.Trees.{Cases}
use Rattle.trees.specs.Trees.Cases.{closed, waiting, split_at}
use Rattle.state_laws.proofs.Linked.{none_linked}
use Rattle.trees.specs.Algebras.{algebra_of}
use Rattle.trees.specs.Refutations.{below, RefutesBelow, IsRefutation}

-- the kind of states under any rules keeps the laws
pub laws_of : (rules : Rules) → HasLaws (algebra_of rules)
laws_of One = four_laws
laws_of Two = four_laws
laws_of (Linked links) = six_laws

module _ (c : Circuit) (circuit : IsCircuit c) (rules : Rules) (fit : FitRules c rules) (target : Target) (is : IsPrefix c target.path) where
  abbrev a : StateAlgebra
  a = algebra_of rules

  module _ (pair : Vectors) (of : IsOfRules c rules pair) (meets : Meets c target pair) (keeps : KeepsRules a c rules target.path.source.0 pair) where
    -- the pair lies in the half
    abbrev Lies : Half → Type 0
    Lies = LiesInHalf a c pair

    -- below halves in which it lies no cases refute
    never_refutes : (halves : List Half) → All Lies halves → (cases : Cases) → RefutesBelow c rules target halves cases → ⊥
    never_refutes halves lie closed refutes =
        node_never_closes a (laws_of rules) c circuit rules fit target is pair of meets keeps halves lie refutes
    never_refutes halves lie waiting refutes = refutes
    never_refutes halves lie (split_at split first second) refutes =
        ⊎_elim
        (λ in_first. never_refutes (below halves split false) (All-push Lies halves _ lie in_first) first refutes.1)
        (λ in_second. never_refutes (below halves split true) (All-push Lies halves _ lie in_second) second refutes.2)
        (lies_in_one a (laws_of rules) c circuit pair split)

    pub tree_never_refutes : (nodes : List Node) → IsRefutation c rules target nodes → ⊥
    tree_never_refutes nodes refutation = never_refutes [] (All-nil Lies) refutation.cases refutation.refutes

-- no pair of the rules meets the conditions that a tree refutes
pub refutation_excludes : (c : Circuit) → IsCircuit c → (rules : Rules) → FitRules c rules → (target : Target) → IsPrefix c target.path
    → (nodes : List Node) → IsRefutation c rules target nodes → (pair : Vectors) → IsOfRules c rules pair → ¬ Meets c target pair
refutation_excludes c circuit One fit target is nodes refutation pair of =
    λ meets. tree_never_refutes c circuit One fit target is pair of meets (λ other within apart. tt) nodes refutation
refutation_excludes c circuit (Linked links) fit target is nodes refutation pair of =
    λ meets. tree_never_refutes c circuit (Linked links) fit target is pair of meets (λ other within apart. tt) nodes refutation
refutation_excludes c circuit Two fit target is nodes refutation pair of =
    λ meets. tree_never_refutes c circuit Two fit target is (steadied c target.path.source.0 pair)
    (λ source line link. absurd (none_linked source line link)) (steadied_meets c circuit target is pair meets)
    (steadied_keeps c target.path.source.0 pair (algebra_of Two) four_laws Two) nodes refutation

-- so none meets them on a path with this prefix
pub refutation_excludes_path : (c : Circuit) → IsCircuit c → (rules : Rules) → FitRules c rules → (kind : Kind) (prefix path : Route)
    → IsPrefix c path → IsPrefixOf prefix path → (direction : Direction) (nodes : List Node)
    → IsRefutation c rules (target_of prefix direction kind) nodes → (pair : Vectors) → IsOfRules c rules pair
    → ¬ Meets c (target_of path direction kind) pair
refutation_excludes_path c circuit rules fit kind prefix path is of direction nodes refutation pair of_rules =
    λ meets. refutation_excludes c circuit rules fit (target_of prefix direction kind) (prefix_is_prefix c prefix path of is) nodes refutation
    pair of_rules (prefix_meets c prefix path of kind direction pair meets)
