-- What the kind, the pins and the line of the gate are in the code is what they are in the circuit.
use Rattle.std.proofs.Common.{◌+◌, ap}
use Rattle.hulls.proofs.Whole.{sees}
use Rattle.hulls.proofs.gate.view_of.Goals as goal

pub returns-clause-sets : goal.returns-clause-sets
returns-clause-sets c =
    sees c.args.net.now c.args.gate.0 c.args.labels.now c.kind.result c.pins.result.now (c.sources.result + c.args.gate.0)
    c.kind.ensures c.pins.ensures.pins (ap (λ n. n + c.args.gate.0) c.sources.ensures.count)
