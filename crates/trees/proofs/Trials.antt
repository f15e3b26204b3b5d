-- The trial of a node reads off a pair of vectors: it has at each source of the support the least state that the hull has there. The
-- trial closes where the pair fails, and doesn't where the pair is a test of the rules, as long as the splits above are on the support.
use Rattle.std.proofs.Common.{◌≡◌, ◌≢◌, ⊎_elim, ℕ, ◌<◌, Bool, true, false, List, get_or, refl, sym, ap, subst, ◌∙◌, arith}
use Rattle.std.specs.List.{All}
use Rattle.std.proofs.lemmas.Bool.{cases_eq}
use Rattle.pd_base.specs.Links.{links_of}
use Rattle.pd_base.specs.Pair.{Vectors}
use Rattle.pd_base.specs.declared.rules.Rules.{Rules}
use Rattle.pd_base.specs.declared.rules.Rules.TheVariants.{One, Two, Linked}
use Rattle.pd_base.specs.Target.{Target}
use Rattle.netlist.specs.Circuit.{Circuit, source_count}
use Rattle.netlist.specs.Lawful.{IsCircuit}
use Rattle.netlist.specs.LinkedPairs.{FitRules, IsOfRules}
use Rattle.netlist.specs.LinkedPairs.IsSupported.{in_fan_in}
use Rattle.netlist.specs.Pins.{IsInFanIn}
use Rattle.netlist.specs.Paths.{IsPrefix, end_of}
use Rattle.netlist.specs.Values.{bit_of}
use Rattle.netlist.specs.Conditions.{Meets, SidesMeet}
use Rattle.state_sets.specs.declared.state.State.{State}
use Rattle.state_sets.specs.declared.state.StateSet.{StateSet}
use Rattle.state_sets.specs.StateAlgebra.{StateAlgebra, same_bit}
use Rattle.state_sets.specs.FourLaws.{four_laws}
use Rattle.state_sets.specs.LineStates.{state_under}
use Rattle.state_sets.specs.Labellings.{label_at}
use Rattle.state_sets.specs.Starts.{IsLeast}
use Rattle.state_sets.specs.Hulls.{IsNarrowingOf, IsRestAmong, HasNoEmptySet, Closes}
use Rattle.state_laws.specs.declared.split.Half.{Half}
use Rattle.state_laws.specs.Halves.{LiesInHalf}
use Rattle.state_laws.specs.Nodes.{IsNodeHull}
use Rattle.state_laws.specs.Steadied.{KeepsRules, steadied}
use Rattle.state_laws.proofs.Linked.{none_linked}
use Rattle.state_laws.proofs.Pairs.{never_closes, pair_may_be}
use Rattle.state_laws.proofs.Deciding.{rest_decides}
use Rattle.state_laws.proofs.Failing.{closes_unless_met}
use Rattle.state_laws.proofs.SourceStates.{source_state, source_steady, steady_under}
use Rattle.state_laws.proofs.Steadied.{steadied_keeps, steadied_meets, first_of_own, first_of_other}
use Rattle.trees.specs.Algebras.{algebra_of}
use Rattle.trees.specs.Spent.{IsInSupport, MayTry, IsOpen}
use Rattle.trees.specs.Tried.{TakesLeast}
use Rattle.trees.proofs.Refuting.{laws_of}

-- a set has one least state
pub least_is_one : (count : ℕ) (set : StateSet) (x y : State) → IsLeast count set x → IsLeast count set y → x ≡ y
least_is_one count set x y first second =
    let same : x.0 ≡ y.0 = omega (arith, first.least y second.has, second.least x first.has) in
    ap (λ n. record { 0 = n }) same

module _ (c : Circuit) (circuit : IsCircuit c) (rules : Rules) (fit : FitRules c rules) (target : Target) (is : IsPrefix c target.path)
    (halves : List Half) (hull : List StateSet) (pair : Vectors) (takes : TakesLeast c rules target.path hull pair) where
  abbrev a : StateAlgebra
  a = algebra_of rules

  -- at the trial the sources of the support may only be in the states of the pair
  pub only_least : (source : ℕ) → IsInSupport c rules target.path source
      → (state : State) → MayTry c rules target halves hull source state → state ≡ state_under a c pair source
  only_least source support state may =
      least_is_one a.count (label_at hull source) state (state_under a c pair source) (may.least support) (takes source support)

  only_on_path : (source : ℕ) → source < source_count c → IsInFanIn c (end_of c target.path) source
      → (state : State) → MayTry c rules target halves hull source state → state ≡ state_under a c pair source
  only_on_path source within further =
      only_least source (record { is_source = within; supported = in_fan_in source further })

  -- the trial closes where the pair does not meet the conditions
  pub trial_closes : (SidesMeet c target.kind pair target.path.source.0 target.path.steps → ⊥)
      → Closes a c (IsNarrowingOf c (links_of rules) target.kind target.path.steps) (MayTry c rules target halves hull)
  trial_closes unmet =
      closes_unless_met a (laws_of rules) c circuit target.kind target.path is pair (links_of rules) (MayTry c rules target halves hull)
      only_on_path unmet

  -- where labels at rest at the trial leave no line empty, the pair is a test
  pub trial_gives_test : (labels : List StateSet)
      → IsRestAmong a c (IsNarrowingOf c (links_of rules) target.kind target.path.steps) (MayTry c rules target halves hull) labels
      → HasNoEmptySet c labels → Meets c target pair
  trial_gives_test labels among none_empty =
      rest_decides a (laws_of rules) c circuit (links_of rules) target.kind target.path is (MayTry c rules target halves hull) labels among
      none_empty pair
      (λ source within further state has. only_on_path source within further state (among.among source state has))
      target.direction (λ state may. may.at_node.start.own refl)

  -- the pair's states lie in the halves above the node, where these are of sources of the support
  pub least_in_halves : IsNodeHull a c rules target halves hull → All (λ half. IsInSupport c rules target.path half.split.line.0) halves
      → All (LiesInHalf a c pair) halves
  least_in_halves of on k d inside =
      let half = get_or halves k d in
      let source = half.split.line.0 in
      (of.rest.among source (state_under a c pair source) (takes source (on k d inside)).has).cut k d inside refl

  -- and the trial does not close where the pair is a test of the rules under which the other sources start as the rules leave them, and
  -- whose states lie in the halves above the node
  pub trial_stays_open : IsOfRules c rules pair → Meets c target pair → KeepsRules a c rules target.path.source.0 pair
      → All (LiesInHalf a c pair) halves
      → ¬ Closes a c (IsNarrowingOf c (links_of rules) target.kind target.path.steps) (MayTry c rules target halves hull)
  trial_stays_open of meets keeps lie =
      never_closes a (laws_of rules) c circuit pair target.kind target.path is (links_of rules) fit of meets.sides
      (MayTry c rules target halves hull)
      (λ line within. record {
        at_node = pair_may_be a (laws_of rules) c circuit rules fit target is pair of meets keeps halves lie line;
        least = takes line;
      })

  -- so at an open node such a pair is no pair of the rules or no test
  fails_if_keeps : KeepsRules a c rules target.path.source.0 pair → IsOpen c rules target halves hull
      → All (λ half. IsInSupport c rules target.path half.split.line.0) halves → IsOfRules c rules pair → ¬ Meets c target pair
  fails_if_keeps keeps open_here on of meets =
      trial_stays_open of meets keeps (least_in_halves open_here.is_hull on) open_here.trial

-- two bits that are one where a source is steady
bits_of_steady : (first second : Bool) → same_bit first second ≡ true → first ≡ second
bits_of_steady true true is = refl
bits_of_steady true false is = absurd cc
bits_of_steady false true is = absurd cc
bits_of_steady false false is = refl

module _ (c : Circuit) (target : Target) (is : IsPrefix c target.path) (halves : List Half) (hull : List StateSet) (pair : Vectors)
    (of : IsNodeHull (algebra_of Two) c Two target halves hull) (takes : TakesLeast c Two target.path hull pair) where
  abbrev own : ℕ
  own = target.path.source.0

  abbrev held : Vectors
  held = steadied c own pair

  -- under rules two the other sources of the support are steady under the pair, so that steadying it changes nothing there
  same_first : (source : ℕ) → IsInSupport c Two target.path source → bit_of held.first source ≡ bit_of pair.first source
  same_first source support = ⊎_elim
      (λ (here : source ≡ own).
      let P : ℕ → Type 0 = λ s. bit_of held.first s ≡ bit_of pair.first s in
      subst P (sym here) (first_of_own c own pair is.source))
      (λ (apart : source ≢ own).
      let may = of.rest.among source (state_under (algebra_of Two) c pair source) (takes source support).has in
      first_of_other c own pair source support.is_source apart
      ∙ sym (bits_of_steady (bit_of pair.first source) (bit_of pair.second source)
      (sym (source_steady (algebra_of Two) four_laws c pair source support.is_source)
      ∙ sym (steady_under (algebra_of Two) four_laws c pair source) ∙ may.start.other support.is_source apart)))
      (cases_eq source own)

  same_state : (source : ℕ) → IsInSupport c Two target.path source
      → state_under (algebra_of Two) c held source ≡ state_under (algebra_of Two) c pair source
  same_state source support =
      source_state (algebra_of Two) four_laws c held source support.is_source
      ∙ ap (λ (first : Bool). (algebra_of Two).of (same_bit first (bit_of pair.second source)) first (bit_of pair.second source))
      (same_first source support)
      ∙ sym (source_state (algebra_of Two) four_laws c pair source support.is_source)

  pub held_takes : TakesLeast c Two target.path hull held
  held_takes source support =
      subst (IsLeast (algebra_of Two).count (label_at hull source)) (sym (same_state source support)) (takes source support)

-- At an open node every pair that has the least states of the hull at the sources of the support, whatever it has at other sources, is no
-- pair of the rules or fails the conditions.
pub open_fails : (c : Circuit) → IsCircuit c → (rules : Rules) → FitRules c rules → (target : Target) → IsPrefix c target.path
    → (halves : List Half) (hull : List StateSet) → IsOpen c rules target halves hull
    → All (λ half. IsInSupport c rules target.path half.split.line.0) halves
    → (pair : Vectors) → TakesLeast c rules target.path hull pair → IsOfRules c rules pair → ¬ Meets c target pair
open_fails c circuit One fit target is halves hull open_here on pair takes of =
    fails_if_keeps c circuit One fit target is halves hull pair takes (λ other within apart. tt) open_here on of
open_fails c circuit (Linked links) fit target is halves hull open_here on pair takes of =
    fails_if_keeps c circuit (Linked links) fit target is halves hull pair takes (λ other within apart. tt) open_here on of
open_fails c circuit Two fit target is halves hull open_here on pair takes of = λ meets.
    let own = target.path.source.0 in
    fails_if_keeps c circuit Two fit target is halves hull (steadied c own pair)
    (held_takes c target is halves hull pair open_here.is_hull takes) (steadied_keeps c own pair (algebra_of Two) four_laws Two) open_here on
    (λ source line link. absurd (none_linked source line link)) (steadied_meets c circuit target is pair meets)
