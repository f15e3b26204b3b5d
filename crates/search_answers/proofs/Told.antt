-- What is told stays told while the circuit, the rules and the ends stay; an engine without ends tells all lines, and without links each
-- engine tells all sources.
use Rattle.std.proofs.Common.{◌≡◌, ◌<◌, inl, inr, ℕ, Bool, List, ◌∷◌, [], Option, None, Some, false, refl, sym, subst, subst₂, arith}
use Rattle.std.specs.Bool.{IsTrue}
use Rattle.pd_base.specs.Links.{IsLink, LinkList, links_of}
use Rattle.pd_base.specs.declared.ids.LineId.{LineId}
use Rattle.pd_base.specs.declared.rules.Rules.{Rules}
use Rattle.netlist.specs.Circuit.{Circuit, source_count}
use Rattle.netlist.specs.LinkedPairs.{FitRules}
use Rattle.netlist.specs.LinkedPairs.IsSupported.{in_fan_in}
use Rattle.netlist.specs.Pins.{IsInFanIn}
use Rattle.cones.specs.Marks.{is_marked}
use Rattle.state_laws.proofs.Linked.{none_linked}
use Rattle.trees.specs.Unlinked.{IsUnlinked}
use Rattle.trees.proofs.Unlinked.{no_links, unlinked_fit}
use Rattle.implication.specs.Standing.{Standing, ToldEnds, told_ends, IsTold, IsToldBy}
use Rattle.search_answers.specs.Told.{AreMarkedTold}

pub still_told : (old new : Standing) (marks : List Bool) → new.net ≡ old.net → new.rules ≡ old.rules → new.ends ≡ old.ends
    → AreMarkedTold old marks → AreMarkedTold new marks
still_told old new marks net rules ends told line marked =
    let P : Circuit → Option ToldEnds → Type 0 = λ c e. IsToldBy c (links_of new.rules) e line in
    let Q : Rules → Type 0 = λ r. IsToldBy old.net (links_of r) old.ends line in
    subst₂ P (sym net) (sym ends) (subst Q (sym rules) (told line marked))

pub told_by_all : (standing : Standing) (line : ℕ) → standing.ends ≡ None → IsTold standing line
told_by_all standing line all =
    let P : Option ToldEnds → Type 0 = λ e. IsToldBy standing.net (links_of standing.rules) e line in
    subst P (sym all) tt

pub all_told : (standing : Standing) (marks : List Bool) → standing.ends ≡ None → AreMarkedTold standing marks
all_told standing marks all line marked = told_by_all standing line all

-- a source without a link is told, whatever the ends
pub unlinked_told : (standing : Standing) (source : ℕ) → IsUnlinked standing.rules → source < source_count standing.net
    → IsTold standing source
unlinked_told standing source unlinked within = by standing.ends
  where
    by : (ends : Option ToldEnds) → IsToldBy standing.net (links_of standing.rules) ends source
    by None = tt
    by (Some ends) = inl (
      within,
      λ other link. none_linked source other
          (subst (λ (links : LinkList). IsLink links source other) (no_links standing.rules unlinked) link),
    )

-- rules without links fit every circuit
pub fits : (c : Circuit) (rules : Rules) → IsUnlinked rules → FitRules c rules
fits c rules unlinked = unlinked_fit c rules (no_links rules unlinked)

-- an engine with this one end tells the lines that are marked where exactly its fan-in is
pub cone_told : (standing : Standing) (end : LineId) (marks : List Bool) → standing.ends ≡ Some (told_ends (end ∷ []) false)
    → ((line : ℕ) → IsTrue (is_marked marks line) → IsInFanIn standing.net end.0 line) → AreMarkedTold standing marks
cone_told standing end marks ends inside line marked =
    let P : Option ToldEnds → Type 0 = λ e. IsToldBy standing.net (links_of standing.rules) e line in
    subst P (sym ends) (inr (end, (0, omega arith, refl), in_fan_in line (inside line marked)))
