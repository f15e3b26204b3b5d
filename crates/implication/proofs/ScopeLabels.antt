-- The labels as a scope stands: there is one hull, and it closes where a conflict stands.
use Rattle.std.proofs.Common.{◌≡◌, ℕ, List, Option, Some, None, IsSome, subst}
use Rattle.std.proofs.lemmas.Bool.{false≢true}
use Rattle.pd_base.specs.declared.rules.Rules.{Rules}
use Rattle.netlist.specs.Circuit.{Circuit}
use Rattle.state_sets.specs.declared.state.StateSet.{StateSet}
use Rattle.state_sets.specs.StateAlgebra.{StateAlgebra}
use Rattle.pd_base.specs.Links.{links_of}
use Rattle.state_sets.specs.Hulls.{IsNarrowingOf}
use Rattle.state_laws.proofs.Hulls.{hull_once}
use Rattle.implication.specs.declared.assumption.Beginning.{Beginning}
use Rattle.implication.specs.declared.assumption.Assumption.{Assumption}
use Rattle.implication.specs.Assumptions.{entered_pins, MayUnder, IsHullUnder, ClosesUnder}
use Rattle.implication.specs.Standing.{Standing, IsHullFrom, IsLabels, IsEmptiedIn, IsEmptiedFrom, IsOpenIn, IsOpenFrom}

-- what holds of a circuit and rules holds of the same ones
pub there_too : (P : Circuit → Rules → Type 0) (c d : Circuit) (r s : Rules) → c ≡ d → r ≡ s → P c r → P d s
there_too P c d r s same_c same_r holds = let Q : Circuit → Type 0 = λ x. P x r in subst (P d) same_r (subst Q same_c holds)

-- there is one hull under assumptions
labels_once_from : (a : StateAlgebra) (c : Circuit) (rules : Rules) (beginning : Option Beginning) (list : List Assumption) (one other : List StateSet)
    → IsSome beginning → IsHullFrom a c rules beginning list one → IsHullFrom a c rules beginning list other → one ≡ other
labels_once_from a c rules None list one other begun first second = absurd (false≢true begun)
labels_once_from a c rules (Some begun) list one other is_begun first second =
    hull_once a c (IsNarrowingOf c (links_of rules) begun.kind (entered_pins list)) (MayUnder a c rules begun list) one first other second

pub labels_once : (a : StateAlgebra) (standing : Standing) (one other : List StateSet) → IsSome standing.beginning
    → IsLabels a standing one → IsLabels a standing other → one ≡ other
labels_once a standing one other begun = labels_once_from a standing.net standing.rules standing.beginning standing.assumptions one other begun

-- the hull under the assumptions of a scope that has begun so
pub labels_under : (a : StateAlgebra) (standing : Standing) (begun : Beginning) (labels : List StateSet) → standing.beginning ≡ Some begun
    → IsLabels a standing labels → IsHullUnder a standing.net standing.rules begun standing.assumptions labels
labels_under a standing begun labels is labelled =
    subst (λ o. IsHullFrom a standing.net standing.rules o standing.assumptions labels) is labelled

pub open_under : (a : StateAlgebra) (standing : Standing) (begun : Beginning) → standing.beginning ≡ Some begun → IsOpenIn a standing
    → ¬ ClosesUnder a standing.net standing.rules begun standing.assumptions
open_under a standing begun is left = subst (λ o. IsOpenFrom a standing.net standing.rules o standing.assumptions) is left

-- what is left of a conflict: the assumptions close
pub closes_there : (a : StateAlgebra) (first new : Standing) (begun : Beginning) → new.net ≡ first.net → new.rules ≡ first.rules → new.beginning ≡ Some begun
    → (line : ℕ) → IsEmptiedIn a new line → ClosesUnder a first.net first.rules begun new.assumptions
closes_there a first new begun same_net same_rules is line emptied =
    let P : Option Beginning → Type 0 = λ o. IsEmptiedFrom a new.net new.rules o new.assumptions line in
    let Q : Circuit → Rules → Type 0 = λ c rules. ClosesUnder a c rules begun new.assumptions in
    let under = subst P is emptied in
    there_too Q new.net first.net new.rules first.rules same_net same_rules (record { line = line; in_circuit = under.0; emptied = under.1 })
