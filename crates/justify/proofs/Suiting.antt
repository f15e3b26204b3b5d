-- An engine suits a search, and tells the same sources of the support, as long as its setting stays.
use Rattle.std.proofs.Common.{◌≡◌, ℕ, List, Option, Result, Ok, Err, sym, ap, ◌∙◌, subst}
use Rattle.std.specs.Prelude.{IfErr}
use Rattle.pd_base.specs.Links.{links_of, IsLink}
use Rattle.pd_base.specs.Target.{Target}
use Rattle.pd_base.specs.declared.rules.Rules.{Rules}
use Rattle.pd_base.specs.declared.rules.Rules.TheVariants.{One, Two, Linked}
use Rattle.netlist.specs.Circuit.{Circuit}
use Rattle.netlist.specs.LinkedPairs.{FitRules}
use Rattle.netlist.specs.Paths.{IsPrefix, end_of}
use Rattle.state_sets.specs.StateAlgebra.{StateAlgebra}
use Rattle.trees.specs.Algebras.{algebra_of}
use Rattle.trees.specs.Spent.{IsInSupport}
use Rattle.implication.specs.Clients.{IsRestored}
use Rattle.implication.specs.Settings.{IsSameSetting}
use Rattle.implication.specs.Standing.{Standing, ToldEnds, IsLabels, IsTold, IsToldBy, TellsLabel}
use Rattle.implication.proofs.ScopeLabels.{there_too}
use Rattle.implication.specs.NodeScopes.{beginning_of, StandsAtNode}
use Rattle.implication.proofs.ScopeLabels.{labels_under}
use Rattle.state_sets.specs.declared.state.State.{State}
use Rattle.state_sets.specs.declared.state.StateSet.{StateSet}
use Rattle.state_sets.specs.States.{Has}
use Rattle.implication.proofs.Told.{free_told}
use Rattle.state_laws.proofs.Linked.{none_linked}
use Rattle.trees.specs.Unlinked.{IsUnlinked}
use Rattle.justify.specs.Desks.{IsDeskFor}
use Rattle.justify.specs.declared.desk.Desk.{Desk}
use Rattle.justify.specs.Scoping.{SuitsSearch, IsToldInSupport, TellsSupport, MayEndBy}
use Rattle.justify.specs.declared.answer.Unfinished.{Unfinished}
use Rattle.justify.specs.declared.answer.Unfinished.TheVariants.{NoMemory, Undecided}

-- a desk that is made for a netlist and rules is made for what they are known to be
pub made_for : {a : StateAlgebra} {c seen : Circuit} {rules seen_rules : Rules} {desk : Desk} → c ≡ seen → rules ≡ seen_rules
    → IsDeskFor a c rules desk → IsDeskFor a seen seen_rules desk
made_for {a} {c} {seen} {rules} {seen_rules} {desk} = there_too (λ n r. IsDeskFor a n r desk) c seen rules seen_rules

-- a line that is told is told as long as the setting stays
pub told_after : (first last : Standing) → IsSameSetting first last → (line : ℕ) → IsTold first line → IsTold last line
told_after first last same line told =
    let P : Circuit → Rules → Type 0 = λ c rules. IsToldBy c (links_of rules) first.ends line in
    let Q : Option ToldEnds → Type 0 = λ ends. IsToldBy last.net (links_of last.rules) ends line in
    subst Q (sym same.ends) (there_too P first.net last.net first.rules last.rules (sym same.net) (sym same.rules) told)

-- so is what is in the support, and what is told of it
pub supported_after : (target : Target) (first last : Standing) → IsSameSetting first last → (source : ℕ)
    → IsInSupport first.net first.rules target.path source → IsInSupport last.net last.rules target.path source
supported_after target first last same source support =
    let P : Circuit → Rules → Type 0 = λ c rules. IsInSupport c rules target.path source in
    there_too P first.net last.net first.rules last.rules (sym same.net) (sym same.rules) support

pub told_in_support_after : (target : Target) (first last : Standing) → IsSameSetting first last → (source : ℕ)
    → IsToldInSupport target first source → IsToldInSupport target last source
told_in_support_after target first last same source is = record {
  in_support = supported_after target first last same source is.in_support;
  told = told_after first last same source is.told;
}

pub setting_back : (first last : Standing) → IsSameSetting first last → IsSameSetting last first
setting_back first last same = record { net = sym same.net; rules = sym same.rules; ends = sym same.ends }

pub setting_restored : (first last : Standing) → IsRestored first last → IsSameSetting first last
setting_restored first last restored = record { net = restored.net; rules = restored.rules; ends = restored.ends }

-- what a search may have ended by is so wherever the setting is the same
pub may_end_before : (target : Target) (first last : Standing) → IsSameSetting first last → (error : Unfinished)
    → MayEndBy target last error → MayEndBy target first error
may_end_before target first last same (NoMemory _) may = tt
may_end_before target first last same Undecided may = λ tells. may (λ source support.
    told_after first last same source (tells source (supported_after target last first (setting_back first last same) source support)))

pub ended_before : {T : Type 0} (target : Target) (first last : Standing) → IsSameSetting first last → (ended : Result T Unfinished)
    → IfErr ended (MayEndBy target last) → IfErr ended (MayEndBy target first)
ended_before target first last same (Ok found) may = tt
ended_before target first last same (Err error) may = may_end_before target first last same error may

-- an error that is another one's is by what that may be
pub same_error : {T U : Type 0} (P : Unfinished → Type 0) (first : Result T Unfinished) (later : Result U Unfinished)
    → IfErr first P → IfErr later (λ error. first ≡ Err error) → IfErr later P
same_error P first (Ok found) may is = tt
same_error {T} P first (Err error) may is = let Q : Result T Unfinished → Type 0 = λ r. IfErr r P in subst Q is may

-- without links all sources of the support are told
no_links : (rules : Rules) → IsUnlinked rules → (source line : ℕ) → ¬ IsLink (links_of rules) source line
no_links One unlinked source line link = none_linked source line link
no_links Two unlinked source line link = none_linked source line link
no_links (Linked links) unlinked source line link = unlinked

pub unlinked_tells : (target : Target) (standing : Standing) → IsUnlinked standing.rules → TellsSupport target standing
unlinked_tells target standing unlinked source support =
    free_told standing.net (links_of standing.rules) standing.ends source support.is_source (no_links standing.rules unlinked source)

module _ (a : StateAlgebra) (target : Target) where
  -- what a scope answers for a source that is told has states of a source alone
  pub label_of_sources : (standing : Standing) → StandsAtNode a target standing
      → (source : ℕ) → IsToldInSupport target standing source → (answer : StateSet)
      → (labels : List StateSet) × IsLabels a standing labels × TellsLabel a.count standing labels source answer
      → (state : State) → Has a.count answer state → Has a.count a.sources state
  label_of_sources standing node source is answer tells state has =
      let under = labels_under a standing (beginning_of target) tells.0 node.beginning tells.1 in
      let P : StateSet → Type 0 = λ set. Has a.count set state in
      (under.rest.among source state (subst P (tells.2.told is.told) has)).start.is_source is.in_support.is_source

  pub suits_after : (first last : Standing) → IsSameSetting first last → SuitsSearch a target first → SuitsSearch a target last
  suits_after first last same suits =
      let R : Circuit → Type 0 = λ c. IsPrefix c target.path in
      let Fit : Circuit → Rules → Type 0 = λ c rules. FitRules c rules in
      record {
        of_rules = suits.of_rules ∙ ap algebra_of (sym same.rules);
        fit = there_too Fit first.net last.net first.rules last.rules (sym same.net) (sym same.rules) suits.fit;
        prefix = subst R (sym same.net) suits.prefix;
        told =
            let T : Circuit → Type 0 = λ c. IsTold last (end_of c target.path) in
            subst T (sym same.net) (told_after first last same (end_of first.net target.path) suits.told);
      }

  pub suits_restored : (first last : Standing) → IsRestored first last → SuitsSearch a target first → SuitsSearch a target last
  suits_restored first last restored = suits_after first last (setting_restored first last restored)
