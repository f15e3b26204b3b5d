-- A line that the assumptions of a scope empty is emptied at the scope's node, and at each node below it.
use Rattle.std.proofs.Common.{◌≡◌, List, [], ◌∷◌, ◌++◌, Option, Some, subst}
use Rattle.pd_base.specs.Target.{Target}
use Rattle.pd_base.specs.declared.ids.LineId.{LineId}
use Rattle.pd_base.specs.declared.ids.PinRef.{PinRef}
use Rattle.pd_base.specs.declared.rules.Rules.{Rules}
use Rattle.netlist.specs.Circuit.{Circuit}
use Rattle.state_sets.specs.StateAlgebra.{StateAlgebra}
use Rattle.pd_base.specs.Links.{links_of}
use Rattle.state_sets.specs.Hulls.{IsNarrowingOf, IsEmptied}
use Rattle.state_laws.specs.declared.split.Half.{Half}
use Rattle.state_laws.specs.Nodes.{MayBe, ClosesAtNode}
use Rattle.state_laws.proofs.Hulls.{emptied_if_wider, widens_by_states}
use Rattle.state_laws.proofs.Restart.{may_be_above}
use Rattle.implication.specs.declared.assumption.Beginning.{Beginning}
use Rattle.implication.specs.Assumptions.{entered_pins, MayUnder}
use Rattle.implication.specs.Standing.{Standing, IsEmptiedFrom, IsEmptiedIn}
use Rattle.implication.specs.NodeScopes.{beginning_of, AllowAsNode}
use Rattle.refutation_check.specs.Walks.{ClosesAtLine}

module _ (a : StateAlgebra) where
  -- a node that closes at a line closes
  pub closes_at_some : (c : Circuit) (rules : Rules) (target : Target) (halves : List Half) (line : LineId) → ClosesAtLine a c rules target halves line
      → ClosesAtNode a c rules target halves
  closes_at_some c rules target halves line closes = record { line = line.0; in_circuit = closes.0; emptied = closes.1 }

  -- where a node closes at a line, so does each below it
  pub closes_below : (c : Circuit) (rules : Rules) (target : Target) (halves : List Half) (half : Half) (line : LineId)
      → ClosesAtLine a c rules target halves line → ClosesAtLine a c rules target (halves ++ half ∷ []) line
  closes_below c rules target halves half line closes =
      let Narrowings = IsNarrowingOf c (links_of rules) target.kind target.path.steps in
      let Below = MayBe a c rules target (halves ++ half ∷ []) in
      let Above = MayBe a c rules target halves in (
        closes.0,
        emptied_if_wider a c Narrowings Narrowings Below Above
            (widens_by_states a c Narrowings Below Above
            (λ other state in_circuit in_range may.
            (may_be_above a c rules target halves half other state in_circuit in_range may).0))
            line.0 closes.1,
      )

  -- where assumptions leave lines what they may be in at a node, a line that they empty is one at which the node closes
  pub closes_at_line : (target : Target) (halves : List Half) (standing : Standing) → standing.beginning ≡ Some (beginning_of target)
      → entered_pins standing.assumptions ≡ target.path.steps
      → AllowAsNode a standing.net standing.rules target standing.assumptions halves → (line : LineId) → IsEmptiedIn a standing line.0
      → ClosesAtLine a standing.net standing.rules target halves line
  closes_at_line target halves standing began entered allows line emptied =
      let c = standing.net in let rules = standing.rules in
      let Narrowings = IsNarrowingOf c (links_of rules) target.kind target.path.steps in
      let May = MayUnder a c rules (beginning_of target) standing.assumptions in
      let Might = MayBe a c rules target halves in
      let P : Option Beginning → Type 0 = λ o. IsEmptiedFrom a c rules o standing.assumptions line.0 in
      let Q : List PinRef → Type 0 = λ steps. IsEmptied a c (IsNarrowingOf c (links_of rules) target.kind steps) May line.0 in
      let under = subst P began emptied in (
        under.0,
        emptied_if_wider a c Narrowings Narrowings Might May
            (widens_by_states a c Narrowings Might May
            (λ other state in_circuit in_range. (allows other state in_circuit in_range).1))
            line.0 (subst Q entered under.1),
      )
