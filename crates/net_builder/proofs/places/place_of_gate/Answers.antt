-- So many gates are defined before, so this is the one.
use Rattle.std.proofs.Common.{arith}
use Rattle.net_builder.proofs.GatePlaces.{gate_here}
use Rattle.net_builder.proofs.places.place_of_gate.Goals as goal

pub returns-then-left-eq0-clause-mention : goal.returns-then-left-eq0-clause-mention
returns-then-left-eq0-clause-mention c =
    gate_here c.args.raw.now c.loop-place.place (omega arith) c.args.gate (omega (arith, c.loop-place.invariant)) c.if-is_gate.ensures
