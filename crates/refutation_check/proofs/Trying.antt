-- The trial of a node at which a scope stands without a conflict, below halves of sources of the support: a pair of vectors that has at
-- each source of the support the least state of the hull. Where it is one of the rules and meets the conditions, the trial does not close,
-- and where it fails, the trial closes.
use Rattle.std.proofs.Common.{◌≡◌, ℕ, ◌<◌, ◌↔◌, Bool, false, List, get_or, None, sym, subst, arith}
use Rattle.std.specs.List.{All, Contains}
use Rattle.std.specs.Prelude.{IsTrue}
use Rattle.std.proofs.lemmas.Bool.{false≢true}
use Rattle.std.proofs.lemmas.List.Elements.{All-contains, Contains-get_or}
use Rattle.pd_base.specs.Links.{LinkList, links_of}
use Rattle.pd_base.specs.Target.{Target}
use Rattle.pd_base.specs.Pair.{Vectors}
use Rattle.pd_base.specs.declared.ids.LineId.{LineId}
use Rattle.netlist.specs.Circuit.{Circuit, source_count, line_count}
use Rattle.netlist.specs.Lawful.{IsCircuit}
use Rattle.netlist.specs.LinkedPairs.{FitRules, IsSupported}
use Rattle.netlist.specs.Paths.{IsPrefix, end_of}
use Rattle.state_sets.specs.declared.state.State.{State}
use Rattle.state_sets.specs.declared.state.StateSet.{StateSet}
use Rattle.state_sets.specs.StateAlgebra.{StateAlgebra}
use Rattle.state_sets.specs.LineStates.{state_under}
use Rattle.state_sets.specs.Labellings.{label_at}
use Rattle.state_sets.specs.Hulls.{IsNarrowingOf, HasNoEmptySet}
use Rattle.state_laws.specs.declared.split.Half.{Half}
use Rattle.state_laws.specs.Nodes.{MayBe, IsNodeHull}
use Rattle.state_laws.proofs.Hulls.{hull_once}
use Rattle.trees.specs.Algebras.{algebra_of}
use Rattle.trees.specs.Spent.{IsOpen}
use Rattle.trees.specs.Tried.{TakesLeast}
use Rattle.trees.proofs.LeastPairs.{unlinked_pair, unlinked_takes, pair_of_rules, is_of_rules, of_rules_takes}
use Rattle.trees.proofs.Trials.{open_fails}
use Rattle.trees.proofs.Trying.{open_has_no_empty_set, open_if_fails}
use Rattle.implication.specs.Standing.{Standing, IsLabels, IsSupportTold, IsTold, TellsLabels}
use Rattle.pair_judging.specs.ConeStates.{state_in, HasSourceStates}
use Rattle.cones.specs.KeptCones.{AreConeSources}
use Rattle.pair_judging.specs.LeastStates.{IsTakenOf}
use Rattle.pair_judging.proofs.Taking.{least_is_taken}
use Rattle.refutation_check.specs.Blames.{IsAsIn, IsBlamed}
use Rattle.refutation_check.specs.Trials.{AreLeastOf, AreLeastAmong, EachIsTest, IsScopeInSupport, Shows}
use Rattle.refutation_check.specs.Walks.{IsOpenNode}
use Rattle.refutation_check.proofs.NodeLabels.{node_of, node_open, hull_of}

-- the sources of a cone are sources, and lines
pub are_sources : (c : Circuit) (links : LinkList) (end : ℕ) (sources seen : List LineId) → seen ≡ sources → AreConeSources c links end sources
    → All (λ source. source.0 < source_count c) seen
are_sources c links end sources seen same are k d inside =
    let P : List LineId → Type 0 = λ list. Contains list (get_or seen k d) in
    ((are.exactly (get_or seen k d).0).0 (subst P same (Contains-get_or seen k d inside))).0

pub sources_within : (c : Circuit) (links : LinkList) (end : ℕ) (sources seen : List LineId) → seen ≡ sources
    → AreConeSources c links end sources → (n : ℕ) → n ≡ line_count c → All (λ source. source.0 < n) seen
sources_within c links end sources seen same are n is k d inside =
    let within = are_sources c links end sources seen same are k d inside in omega (arith, within, is)

-- where each source of the support is in the least state of its label, those among these lines are, if the lines are in the support
pub least_among : (count : ℕ) (c : Circuit) (links : LinkList) (end : ℕ) (lines : List LineId) (labels : List StateSet) (states : List State)
    → AreLeastOf count c links end labels states → ((line : ℕ) → Contains lines (record { 0 = line }) → IsSupported c links end line)
    → AreLeastAmong count c lines labels states
least_among count c links end lines labels states least supported source within among = least source within (supported source among)

-- what is known of a trial with one kind of states: the scope, and its labels
pub record IsTrialAt (a : StateAlgebra) (target : Target) (halves : List Half) (standing : Standing) (labels answers : List StateSet) : Type 0 where
  pub scope : IsScopeInSupport a target halves standing
  pub labelled : IsLabels a standing labels
  pub tells : TellsLabels a.count standing labels answers

module _ (target : Target) (halves : List Half) (standing : Standing) (free : standing.conflict ≡ None) (circuit : IsCircuit standing.net)
    (fit : FitRules standing.net standing.rules) (is : IsPrefix standing.net target.path) (labels answers : List StateSet) (states : List State) where
  abbrev a : StateAlgebra
  a = algebra_of standing.rules

  abbrev links : LinkList
  links = links_of standing.rules

  abbrev end : ℕ
  end = end_of standing.net target.path

  module _ (trial : IsTrialAt a target halves standing labels answers) where
    node : IsOpenNode a target halves standing
    node = node_of a target halves standing trial.scope.at free

    is_hull : IsNodeHull a standing.net standing.rules target halves labels
    is_hull = hull_of a target halves standing trial.scope.at node labels trial.labelled

    none_empty : HasNoEmptySet standing.net labels
    none_empty =
        open_has_no_empty_set standing.net standing.rules target halves labels is_hull (node_open a target halves standing node)

    -- what takes the least states of the hull has that of the trial at a source of the support that is told
    has_state : (pair : Vectors) → TakesLeast standing.net standing.rules target.path labels pair → (source : ℕ) → source < source_count standing.net
        → IsSupported standing.net links end source → IsTold standing source → IsTakenOf a.count (label_at answers source) (state_in states source)
        → IsAsIn a standing.net states pair source
    has_state pair takes source within supported told least =
        let inside : source < line_count standing.net = omega (arith, within) in
        let same : label_at answers source ≡ label_at labels source = (trial.tells source inside).told told in
        least_is_taken a.count (label_at labels source) (state_under a standing.net pair source) (state_in states source)
        (takes source (record { is_source = within; supported = supported }))
        (subst (λ set. IsTakenOf a.count set (state_in states source)) same least)

    -- so does the pair that takes them at all sources
    free_takes : TakesLeast standing.net standing.rules target.path labels (unlinked_pair standing.net standing.rules labels)
    free_takes = unlinked_takes standing.net standing.rules target halves labels is_hull none_empty

    -- where such pairs are tests, the node is not open: the one that takes them as far as the rules allow has the same states in the support
    not_open : IsSupportTold standing end → AreLeastOf a.count standing.net links end answers states
        → EachIsTest a standing.net links target states → (other : List StateSet)
        → IsOpen standing.net standing.rules target halves other → ⊥
    not_open told least each other open_there =
        let has_states : (pair : Vectors) → TakesLeast standing.net standing.rules target.path labels pair
        → HasSourceStates a standing.net links end states pair =
        λ pair takes source within supported.
        has_state pair takes source within supported (told source supported) (least source within supported) in
        let same : labels ≡ other =
        hull_once a standing.net (IsNarrowingOf standing.net links target.kind target.path.steps)
        (MayBe a standing.net standing.rules target halves) labels is_hull other open_there.is_hull in
        let bound = pair_of_rules standing.net standing.rules labels in
        let linked = (each (unlinked_pair standing.net standing.rules labels) (has_states (unlinked_pair standing.net standing.rules labels) free_takes)).0 in
        let takes = of_rules_takes standing.net standing.rules target halves labels is_hull none_empty circuit linked in
        open_fails standing.net circuit standing.rules fit target is halves labels
        (subst (IsOpen standing.net standing.rules target halves) (sym same) open_there) trial.scope.in_support bound takes
        (is_of_rules standing.net standing.rules labels fit) (each bound (has_states bound takes)).1

    -- and where they fail by lines that are told, it is
    is_open : (lines : List LineId) → IsBlamed a standing.net links target states lines → AreLeastAmong a.count standing.net lines answers states
        → All (λ line. IsTold standing line.0) lines → IsOpen standing.net standing.rules target halves labels
    is_open lines blamed least told =
        let pair = unlinked_pair standing.net standing.rules labels in
        open_if_fails standing.net circuit standing.rules fit target is halves labels is_hull pair free_takes
        (blamed.fails labels pair (λ source within among.
        has_state pair free_takes source within (blamed.supported source among)
        (All-contains (λ (line : LineId). IsTold standing line.0) lines (record { 0 = source }) told among) (least source within among)))
        none_empty

  -- the same with the kind of states that the rules choose
  pub test_not_open : (b : StateAlgebra) → b ≡ a → IsTrialAt b target halves standing labels answers
      → AreLeastOf b.count standing.net links end answers states → EachIsTest b standing.net links target states
      → Shows (IsSupportTold standing end) false ((other : List StateSet) × IsOpen standing.net standing.rules target halves other)
  test_not_open b chosen trial least each =
      let P : StateAlgebra → Type 0 = λ k. IsTrialAt k target halves standing labels answers in
      let L : StateAlgebra → Type 0 = λ k. AreLeastOf k.count standing.net links end answers states in
      let Q : StateAlgebra → Type 0 = λ k. EachIsTest k standing.net links target states in (
        λ never. absurd (false≢true never),
        λ told open_there.
            absurd (not_open (subst P chosen trial) told (subst L chosen least) (subst Q chosen each) open_there.0 open_there.1),
      )

  pub failed_open : (b : StateAlgebra) → b ≡ a → IsTrialAt b target halves standing labels answers → (lines : List LineId)
      → IsBlamed b standing.net links target states lines → AreLeastAmong b.count standing.net lines answers states → (answer : Bool)
      → IsTrue answer ↔ All (λ line. IsTold standing line.0) lines
      → Shows (IsSupportTold standing end) answer ((other : List StateSet) × IsOpen standing.net standing.rules target halves other)
  failed_open b chosen trial lines blamed least answer tells =
      let P : StateAlgebra → Type 0 = λ k. IsTrialAt k target halves standing labels answers in
      let L : StateAlgebra → Type 0 = λ k. AreLeastAmong k.count standing.net lines answers states in
      let Q : StateAlgebra → Type 0 = λ k. IsBlamed k standing.net links target states lines in (
        λ all. (labels, is_open (subst P chosen trial) lines (subst Q chosen blamed) (subst L chosen least) (tells.0 all)),
        λ told open_there. tells.1 (λ k d inside.
            told (get_or lines k d).0 (blamed.supported (get_or lines k d).0 (Contains-get_or lines k d inside))),
      )
