-- Under links the states are the six, which have first values.
use Rattle.std.proofs.Common.{◌∙◌, sym, ap, subst}
use Rattle.state_sets.specs.SixStates.{six_first}
use Rattle.state_laws.proofs.SixFirstLaws.{six_first_laws}
use Rattle.trees.specs.Algebras.{algebra_of}
use Rattle.implication.specs.FirstStates.{HasFirstValues}
use Rattle.implication.proofs.engine.Engine.near_if_few.Goals as goal

pub near-requires-clause-first : goal.near-requires-clause-first
near-requires-clause-first g c =
    subst HasFirstValues (sym (c.requires.states ∙ ap algebra_of (sym c.rules.ensures ∙ c.in-Linked.is)))
    (record { first = six_first; laws = six_first_laws })
