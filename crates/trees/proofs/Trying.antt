-- What the pair that is tried at a node tells, where it has at each source of the support the least state of the hull: where it fails, the
-- node's trial closes, and so does every way to leave the sources the states of the pair alone; and some source of the support has two
-- states.
use Rattle.std.proofs.Common.{◌≡◌, ℕ, ◌<◌, List, refl, arith}
use Rattle.pd_base.specs.Links.{links_of}
use Rattle.pd_base.specs.Target.{Target}
use Rattle.pd_base.specs.declared.rules.Rules.{Rules}
use Rattle.pd_base.specs.Pair.{Vectors}
use Rattle.pd_base.specs.Route.{Route}
use Rattle.netlist.specs.Circuit.{Circuit, source_count, line_count}
use Rattle.netlist.specs.Lawful.{IsCircuit}
use Rattle.netlist.specs.LinkedPairs.{FitRules, IsSupported}
use Rattle.netlist.specs.LinkedPairs.IsSupported.{in_fan_in}
use Rattle.netlist.specs.Paths.{IsPrefix, end_of}
use Rattle.netlist.specs.Conditions.{Meets, SidesMeet}
use Rattle.path_laws.proofs.StepCounts.{line_after_in_circuit}
use Rattle.state_sets.specs.declared.state.State.{State}
use Rattle.state_sets.specs.declared.state.StateSet.{StateSet}
use Rattle.state_sets.specs.States.{Has}
use Rattle.state_sets.specs.StateAlgebra.{StateAlgebra}
use Rattle.state_sets.specs.LineStates.{state_under}
use Rattle.state_sets.specs.Labellings.{label_at, LiesIn}
use Rattle.state_sets.specs.Starts.{IsLaunching}
use Rattle.state_sets.specs.Hulls.{IsNarrowingOf, IsRestAmong, HasAt, HasNoEmptySet, Closes}
use Rattle.state_laws.specs.declared.split.Half.{Half}
use Rattle.state_laws.specs.FailedTrials.{FailsTrial}
use Rattle.state_laws.specs.FailedTrials.FailsTrial.{at_label, at_link, at_conditions}
use Rattle.state_laws.specs.Nodes.{MayBe, IsNodeHull, ClosesAtNode}
use Rattle.state_laws.proofs.Hulls.{emptied_if_empty}
use Rattle.state_laws.proofs.SourceStates.{launched}
use Rattle.state_laws.proofs.Failing.{closes_unless_met}
use Rattle.state_laws.proofs.LinkedTrials.{closes_unless_linked, closes_unless_allowed}
use Rattle.trees.specs.Algebras.{algebra_of}
use Rattle.trees.specs.Spent.{IsInSupport, MayTry, IsOpen}
use Rattle.trees.specs.Tried.{TakesLeast}
use Rattle.trees.proofs.Bound.{own_in_support}
use Rattle.trees.proofs.Refuting.{laws_of}
use Rattle.trees.proofs.Trials.{only_least}

-- the labels leave each source of the support at most one state
abbrev pub IsSingleOnSupport : Circuit → Rules → Route → List StateSet → Type 0
IsSingleOnSupport c rules path labels = (source : ℕ) → IsInSupport c rules path source → (x y : State)
    → Has (algebra_of rules).count (label_at labels source) x → Has (algebra_of rules).count (label_at labels source) y → x ≡ y

-- the labels leave each source of the support at most its state under the pair
abbrev pub IsOnlyPair : Circuit → Rules → Route → Vectors → List StateSet → Type 0
IsOnlyPair c rules path pair labels = (source : ℕ) → IsInSupport c rules path source → (state : State)
    → Has (algebra_of rules).count (label_at labels source) state → state ≡ state_under (algebra_of rules) c pair source

-- where a node does not close, its hull leaves each line some state
pub open_has_no_empty_set : (c : Circuit) (rules : Rules) (target : Target) (halves : List Half) (hull : List StateSet)
    → IsNodeHull (algebra_of rules) c rules target halves hull → (ClosesAtNode (algebra_of rules) c rules target halves → ⊥) → HasNoEmptySet c hull
open_has_no_empty_set c rules target halves hull is not_closing line within empty = not_closing (record {
  line = line;
  in_circuit = within;
  emptied = emptied_if_empty (algebra_of rules) c (IsNarrowingOf c (links_of rules) target.kind target.path.steps)
      (MayBe (algebra_of rules) c rules target halves) hull is line empty;
})

module _ (c : Circuit) (circuit : IsCircuit c) (rules : Rules) (fit : FitRules c rules) (target : Target) (is : IsPrefix c target.path)
    (halves : List Half) (hull : List StateSet) (is_hull : IsNodeHull (algebra_of rules) c rules target halves hull)
    (pair : Vectors) (takes : TakesLeast c rules target.path hull pair)
    (fails : FailsTrial (algebra_of rules) c (links_of rules) target hull pair) where
  abbrev a : StateAlgebra
  a = algebra_of rules

  abbrev AllClose : (ℕ → State → Type 0) → Type 0
  AllClose May = Closes a c (IsNarrowingOf c (links_of rules) target.kind target.path.steps) May

  abbrev RestsAmong : (ℕ → State → Type 0) → List StateSet → Type 0
  RestsAmong May labels = IsRestAmong a c (IsNarrowingOf c (links_of rules) target.kind target.path.steps) May labels

  -- the pair launches the transition
  launching : IsLaunching a target.direction (state_under a c pair target.path.source.0)
  launching =
      let own = takes target.path.source.0 (own_in_support c rules target.path is) in
      (is_hull.rest.among target.path.source.0 (state_under a c pair target.path.source.0) own.has).start.own refl

  -- so its sides do not meet the conditions, if it does not
  sides_unmet : ¬ Meets c target pair → SidesMeet c target.kind pair target.path.source.0 target.path.steps → ⊥
  sides_unmet unmet sides = unmet (record {
    launches = launched a (laws_of rules) c pair target.path.source.0 is.source target.direction launching;
    sides = sides;
  })

  end_within : end_of c target.path < line_count c
  end_within = line_after_in_circuit c circuit target.path.source.0 target.path.steps (let s = is.source in omega arith) is.connects

  -- what leaves the sources of the support the states of the pair alone, and no labels at rest beyond the hull, closes
  module _ (May : ℕ → State → Type 0)
      (only : (source : ℕ) → IsInSupport c rules target.path source → (state : State) → May source state → state ≡ state_under a c pair source)
      (lies : (labels : List StateSet) → RestsAmong May labels → LiesIn a.count labels hull) where
    only_here : (source : ℕ) → source < source_count c → IsSupported c (links_of rules) (end_of c target.path) source
        → (state : State) → May source state → state ≡ state_under a c pair source
    only_here source within supported = only source (record { is_source = within; supported = supported })

    pub closes_if_fails : AllClose May
    closes_if_fails = by fails
      where
        by : FailsTrial a c (links_of rules) target hull pair → AllClose May
        by (at_label line supported without) =
            closes_unless_allowed a (laws_of rules) c circuit (links_of rules) fit (end_of c target.path) target.kind target.path.steps pair May
            only_here circuit.reads_lines end_within hull lies line supported without
        by (at_link source line supported link breaks) =
            closes_unless_linked a (laws_of rules) c circuit (links_of rules) fit (end_of c target.path) target.kind target.path.steps pair May
            only_here source line supported link breaks
        by (at_conditions unmet) =
            closes_unless_met a (laws_of rules) c circuit target.kind target.path is pair (links_of rules) May
            (λ source within further. only_here source within (in_fan_in source further)) (sides_unmet unmet)

  -- so the node's trial does
  pub open_if_fails : HasNoEmptySet c hull → IsOpen c rules target halves hull
  open_if_fails none_empty = record {
    is_hull = is_hull;
    none_empty = none_empty;
    trial = closes_if_fails (MayTry c rules target halves hull)
        (only_least c circuit rules fit target is halves hull pair takes)
        (λ labels among. is_hull.greatest labels (record {
          labelling = among.labelling;
          rest = among.rest;
          among = λ line state has. (among.among line state has).at_node;
        }));
  }

  -- some source of the support has two states
  pub not_single : HasNoEmptySet c hull → IsSingleOnSupport c rules target.path hull → ⊥
  not_single none_empty single =
      let closes = closes_if_fails (HasAt a.count hull)
      (λ source support state has. single source support state (state_under a c pair source) has (takes source support).has)
      (λ labels among line state has. among.among line state has) in
      none_empty closes.line closes.in_circuit (closes.emptied hull (record {
        labelling = is_hull.rest.labelling;
        rest = is_hull.rest.rest;
        among = λ line state has. has;
      }))

  -- what lines may be in closes if all labels at rest leave the sources of the support the states of the pair alone, and lie in the hull
  module _ (May : ℕ → State → Type 0)
      (only : (labels : List StateSet) → RestsAmong May labels → IsOnlyPair c rules target.path pair labels)
      (lies : (labels : List StateSet) → RestsAmong May labels → LiesIn a.count labels hull) where
    -- some labels at rest have the state there
    abbrev MayRest : ℕ → State → Type 0
    MayRest line state = (labels : List StateSet) × RestsAmong May labels × HasAt a.count labels line state

    pub closes_if_only_pair : AllClose May
    closes_if_only_pair =
        let closes = closes_if_fails MayRest (λ source support state may. only may.0 may.1 source support state may.2)
        (λ labels among line state has. let may = among.among line state has in lies may.0 may.1 line state may.2) in
        record {
          line = closes.line;
          in_circuit = closes.in_circuit;
          emptied = λ labels among. closes.emptied labels (record {
            labelling = among.labelling;
            rest = among.rest;
            among = λ line state has. (labels, among, has);
          });
        }
