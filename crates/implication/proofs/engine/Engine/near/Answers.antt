-- The links inside are ones of the circuit, as what is near tells.
use Rattle.std.proofs.Common.{subst}
use Rattle.netlist.specs.Circuit.{Circuit}
use Rattle.netlist.specs.LinkedPairs.{AreLinksOf}
use Rattle.implication.proofs.engine.Engine.near.Goals as goal

pub with_cone-requires-clause-of : goal.with_cone-requires-clause-of
with_cone-requires-clause-of g c =
    subst (λ (net : Circuit). AreLinksOf net c.in_ok-cone.cone.links.items) c.netlist.ensures c.in_ok-cone.ensures.told.of
