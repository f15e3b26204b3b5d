-- The desk is one for the engine's circuit and rules.
use Rattle.std.proofs.Common.{sym, ap, subst₂, ◌∙◌}
use Rattle.pd_base.specs.declared.rules.Rules.{Rules}
use Rattle.netlist.specs.Circuit.{Circuit}
use Rattle.netlist.specs.LinkedPairs.{FitRules}
use Rattle.trees.specs.Algebras.{algebra_of}
use Rattle.justify.specs.Desks.{IsDeskFor}
use Rattle.prefix_sensitize.proofs.sensitizing.search_on.Goals as goal

pub new-requires-clause-states : goal.new-requires-clause-states
new-requires-clause-states g c = c.requires.set.of_rules ∙ ap algebra_of (sym c.rules.ensures)

pub new-requires-clause-fit : goal.new-requires-clause-fit
new-requires-clause-fit g c = subst₂ FitRules (sym c.net.ensures) (sym c.rules.ensures) c.requires.set.fit

pub search_in_order-outcomes-requires-clause-desk : goal.search_in_order-outcomes-requires-clause-desk
search_in_order-outcomes-requires-clause-desk g c =
    let P : Circuit → Rules → Type 0 = λ net r. IsDeskFor g.A.Algebra.algebra net r c.in_ok-desk.desk in
    subst₂ P c.net.ensures c.rules.ensures c.in_ok-desk.ensures
