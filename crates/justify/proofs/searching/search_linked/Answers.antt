-- The desk is made for the scope's netlist and rules, which are linked.
use Rattle.std.proofs.Common.{sym, ap, subst₂, ◌∙◌}
use Rattle.netlist.specs.LinkedPairs.{FitRules}
use Rattle.trees.specs.Algebras.{algebra_of}
use Rattle.justify.proofs.Suiting.{made_for}
use Rattle.justify.proofs.searching.search_linked.Goals as goal

pub new-requires-clause-states : goal.new-requires-clause-states
new-requires-clause-states g c = c.requires.rules.of_rules ∙ ap algebra_of (sym c.rules.ensures)

pub new-requires-clause-fit : goal.new-requires-clause-fit
new-requires-clause-fit g c = subst₂ FitRules (sym c.net.ensures) (sym c.rules.ensures) c.requires.rules.fit

pub search_at-requires-clause-desk : goal.search_at-requires-clause-desk
search_at-requires-clause-desk g c = made_for c.net.ensures c.rules.ensures c.in_ok-desk.ensures

pub search_at-requires-clause-can : goal.search_at-requires-clause-can
search_at-requires-clause-can g c = c.requires.can
