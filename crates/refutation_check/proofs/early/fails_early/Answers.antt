-- A gate of the cone is one of the circuit.
use Rattle.std.proofs.Common.{sym, subst}
use Rattle.netlist.specs.Paths.{end_of}
use Rattle.cones.specs.KeptCones.{AreConeGates}
use Rattle.refutation_check.proofs.FailingSteps.{gate_within}
use Rattle.refutation_check.proofs.early.fails_early.Goals as goal

pub line_of-requires : goal.line_of-requires
line_of-requires g c =
    let net = c.args.net.now in let links = c.args.cone.now.links in let end = end_of net c.args.target.now.path.now in
    gate_within net links end c.gates-gates.result.now (subst (AreConeGates net links end) (sym c.gates-gates.ensures) c.requires.cone.gates) _
    c.if-count-gates.false
