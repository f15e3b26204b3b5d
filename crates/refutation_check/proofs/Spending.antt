-- What a spent tree asks of a node, told by whether a conflict stands, by the labels and by the trial.
use Rattle.std.proofs.Common.{◌≡◌, ℕ, ◌<◌, ◌↔◌, Bool, true, false, List, Option, Some, None, sym, ap, ◌∙◌, subst}
use Rattle.std.specs.List.{Contains}
use Rattle.std.specs.Prelude.{IsTrue, IfNone, IfSome, is_some, slice_index_or}
use Rattle.std.proofs.lemmas.Bool.{false≢true}
use Rattle.pd_base.specs.Links.{LinkList, links_of}
use Rattle.pd_base.specs.Target.{Target}
use Rattle.pd_base.specs.declared.ids.LineId.{LineId}
use Rattle.pd_base.specs.declared.rules.Rules.{Rules}
use Rattle.pd_base.specs.Route.{Route}
use Rattle.netlist.specs.Circuit.{Circuit, source_count}
use Rattle.netlist.specs.Paths.{end_of}
use Rattle.netlist.specs.LinkedPairs.{IsSupported}
use Rattle.state_sets.specs.declared.state.StateSet.{StateSet}
use Rattle.state_sets.specs.StateAlgebra.{StateAlgebra}
use Rattle.state_sets.specs.Labellings.{label_at}
use Rattle.state_sets.specs.Hulls.{IsNarrowingOf}
use Rattle.state_laws.specs.declared.split.Split.{Split}
use Rattle.state_laws.specs.declared.split.Half.{Half}
use Rattle.state_laws.specs.Nodes.{MayBe, ClosesAtNode}
use Rattle.state_laws.proofs.Hulls.{hull_once, not_closing}
use Rattle.trees.specs.Algebras.{algebra_of}
use Rattle.trees.specs.Trees.{IsSourceKind}
use Rattle.trees.specs.Spent.{IsInSupport, IsOpen, IsDue, HasInHalf}
use Rattle.implication.specs.declared.assumption.Conflict.{Conflict}
use Rattle.implication.specs.Standing.{Standing, IsLabels, IsSupportTold, IsTold}
use Rattle.cones.specs.FoundLines.{HasMark}
use Rattle.cones.specs.KeptCones.{KeptCone, IsConeAt}
use Rattle.refutation_check.specs.Trials.{Shows}
use Rattle.refutation_check.specs.Walks.{IsScopeAt, IsNodeBy}
use Rattle.refutation_check.proofs.Closing.{closes_at_some}
use Rattle.refutation_check.proofs.NodeLabels.{node_of, hull_of}

-- the conflict that stands, or that none does, as the scope tells it
pub conflict_stands : (conflict : Option LineId) (answer : Option Conflict) → IfSome answer (λ found. conflict ≡ Some found.0) → (r : Bool)
    → r ≡ is_some answer → r ≡ true → (line : LineId) × (conflict ≡ Some line)
conflict_stands conflict (Some found) some r is is_true = (found.0, some)
conflict_stands conflict None some r is is_true = absurd (false≢true (sym is ∙ is_true))

pub none_stands : (conflict : Option LineId) (answer : Option Conflict) → IfNone answer (conflict ≡ None) → (r : Bool)
    → r ≡ is_some answer → r ≡ false → conflict ≡ None
none_stands conflict (Some found) none r is is_false = absurd (false≢true (sym is_false ∙ is))
none_stands conflict None none r is is_false = none

-- a source whose line has a mark is in the support
pub marked_in_support : (c : Circuit) (rules : Rules) (path : Route) (lines : List LineId) (marks : List Bool) (source : ℕ)
    → ((line : ℕ) → HasMark marks line ↔ Contains lines (record { 0 = line }))
    → ((line : ℕ) → Contains lines (record { 0 = line }) ↔ IsSupported c (links_of rules) (end_of c path) line)
    → source < source_count c → slice_index_or marks source false ≡ true → IsInSupport c rules path source
marked_in_support c rules path lines marks source marked cone within mark = record {
  is_source = within;
  supported = (cone source).0 ((marked source).0 mark);
}

pub unmarked_outside : (c : Circuit) (rules : Rules) (path : Route) (lines : List LineId) (marks : List Bool) (source : ℕ)
    → ((line : ℕ) → HasMark marks line ↔ Contains lines (record { 0 = line }))
    → ((line : ℕ) → Contains lines (record { 0 = line }) ↔ IsSupported c (links_of rules) (end_of c path) line)
    → slice_index_or marks source false ≡ false → IsInSupport c rules path source → ⊥
unmarked_outside c rules path lines marks source marked cone none support =
    false≢true (sym none ∙ (marked source).1 ((cone source).1 support.supported))

-- what a cone has is supported under the links of the rules
pub cone_under : (c : Circuit) (rules : Rules) (end : ℕ) (cone : KeptCone) → cone.links ≡ links_of rules → IsConeAt c end cone → (line : ℕ)
    → Contains cone.found.lines (record { 0 = line }) ↔ IsSupported c (links_of rules) end line
cone_under c rules end cone linked at line =
    let P : LinkList → Type 0 = λ ls. Contains cone.found.lines (record { 0 = line }) ↔ IsSupported c ls end line in
    subst P linked (at.lines line)

module _ (target : Target) (halves : List Half) (standing : Standing) (split : Split) where
  abbrev a : StateAlgebra
  a = algebra_of standing.rules

  abbrev Told : Type 0
  Told = IsSupportTold standing (end_of standing.net target.path)

  abbrev Due : Type 0
  Due = IsDue standing.net standing.rules target halves split

  abbrev OpenThere : Type 0
  OpenThere = (hull : List StateSet) × IsOpen standing.net standing.rules target halves hull

  -- a split is not due at a node that closes
  closing_not_open : (line : LineId) → standing.conflict ≡ Some line → IsScopeAt a target halves standing → (hull : List StateSet)
      → IsOpen standing.net standing.rules target halves hull → ⊥
  closing_not_open line stands at hull open_here =
      not_closing a standing.net (IsNarrowingOf standing.net (links_of standing.rules) target.kind target.path.steps)
      (MayBe a standing.net standing.rules target halves) hull open_here.is_hull open_here.none_empty
      (closes_at_some a standing.net standing.rules target halves line (subst (IsNodeBy a target halves standing) stands at.is_node))

  pub closing_not_due : (line : LineId) → standing.conflict ≡ Some line → (b : StateAlgebra) → b ≡ a → IsScopeAt b target halves standing
      → Shows Told false Due
  closing_not_due line stands b chosen at =
      let P : StateAlgebra → Type 0 = λ k. IsScopeAt k target halves standing in (
        λ never. absurd (false≢true never),
        λ told due. absurd (closing_not_open line stands (subst P chosen at) due.hull due.is_open),
      )

  -- nor is one that is not at a source of the support
  pub outside_not_due : (IsInSupport standing.net standing.rules target.path split.line.0 → ⊥) → Shows Told false Due
  outside_not_due outside = (λ never. absurd (false≢true never), λ told due. absurd (outside due.in_support))

  -- nor is one by first values
  pub other_kind_not_due : (IsSourceKind split.kind → ⊥) → Shows Told false Due
  other_kind_not_due other = (λ never. absurd (false≢true never), λ told due. absurd (other due.kind))

  -- nor is there one, where the whole support is told, at a source that is not
  pub untold_not_due : (IsTold standing split.line.0 → ⊥) → Shows Told false Due
  untold_not_due untold = (λ never. absurd (false≢true never), λ told due. absurd (untold (told split.line.0 due.in_support.supported)))

  -- what is known where the scope has labels: of the set of the source, whether it has a state of each half
  pub record IsSeenAt (b : StateAlgebra) (labels : List StateSet) (set : StateSet) (both : Bool) : Type 0 where
    pub at : IsScopeAt b target halves standing
    pub labelled : IsLabels b standing labels
    pub seen : set ≡ label_at labels split.line.0
    pub tells : IsTrue both ↔ (HasInHalf b set split.kind false × HasInHalf b set split.kind true)

  module _ (free : standing.conflict ≡ None) (labels : List StateSet) (set : StateSet) (both : Bool) where
    -- the set of the source in the hull of an open node
    same_set : IsSeenAt a labels set both → (hull : List StateSet) → IsOpen standing.net standing.rules target halves hull
        → label_at hull split.line.0 ≡ set
    same_set is hull open_here =
        let own = hull_of a target halves standing is.at (node_of a target halves standing is.at free) labels is.labelled in
        ap (λ (h : List StateSet). label_at h split.line.0)
        (hull_once a standing.net (IsNarrowingOf standing.net (links_of standing.rules) target.kind target.path.steps)
        (MayBe a standing.net standing.rules target halves) hull open_here.is_hull labels own)
        ∙ sym is.seen

    lacking : IsSeenAt a labels set both → both ≡ false → Shows Told false Due
    lacking is lacks = (
      λ never. absurd (false≢true never),
      λ told due.
          let same = same_set is due.hull due.is_open in
          let first = subst (λ (s : StateSet). HasInHalf a s split.kind false) same due.in_first in
          let second = subst (λ (s : StateSet). HasInHalf a s split.kind true) same due.in_second in
          absurd (false≢true (sym lacks ∙ is.tells.1 (first, second))),
    )

    having : IsSeenAt a labels set both → both ≡ true → IsInSupport standing.net standing.rules target.path split.line.0 → IsSourceKind split.kind
        → (tried : Bool) → Shows Told tried OpenThere → Shows Told tried Due
    having is has support kind tried open_tells = (
      λ yes.
          let parts = is.tells.0 has in
          let here = open_tells.0 yes in
          let same = same_set is here.0 here.1 in
          record {
            hull = here.0;
            is_open = here.1;
            in_support = support;
            kind = kind;
            in_first = subst (λ (s : StateSet). HasInHalf a s split.kind false) (sym same) parts.0;
            in_second = subst (λ (s : StateSet). HasInHalf a s split.kind true) (sym same) parts.1;
          },
      λ told due. open_tells.1 told (due.hull, due.is_open),
    )

    -- one whose source lacks a half in the hull is not due
    pub lacking_not_due : (b : StateAlgebra) → b ≡ a → IsSeenAt b labels set both → both ≡ false → Shows Told false Due
    lacking_not_due b chosen is = let P : StateAlgebra → Type 0 = λ k. IsSeenAt k labels set both in lacking (subst P chosen is)

    -- with both it is due, at a source of the support and not by first values, just where the node is open
    pub open_due : (b : StateAlgebra) → b ≡ a → IsSeenAt b labels set both → both ≡ true
        → IsInSupport standing.net standing.rules target.path split.line.0 → IsSourceKind split.kind → (tried : Bool)
        → Shows Told tried OpenThere → Shows Told tried Due
    open_due b chosen is = let P : StateAlgebra → Type 0 = λ k. IsSeenAt k labels set both in having (subst P chosen is)

-- whether the node closes, with the kind of states of the rules
pub closes_by_rules : (standing : Standing) (target : Target) (halves : List Half) (b : StateAlgebra) → b ≡ algebra_of standing.rules
    → (r : Bool) → IsTrue r ↔ ClosesAtNode b standing.net standing.rules target halves
    → IsTrue r ↔ ClosesAtNode (algebra_of standing.rules) standing.net standing.rules target halves
closes_by_rules standing target halves b chosen r tells =
    let P : StateAlgebra → Type 0 = λ k. IsTrue r ↔ ClosesAtNode k standing.net standing.rules target halves in subst P chosen tells
