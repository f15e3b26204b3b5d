-- The path's steps are pins of the circuit.
use Rattle.std.proofs.Common.{◌<◌, length, sym, subst}
use Rattle.std.specs.Option.{IfSome}
use Rattle.netlist.specs.Circuit.{pins_at}
use Rattle.hulls.proofs.Marks.{condition_pin}
use Rattle.search_hints.proofs.region.condition_of.Goals as goal

pub returns : goal.returns
returns c =
    let net = c.args.region.now.net.now in let on = c.args.region.now.conditions.now in
    subst (λ o. IfSome o (λ condition. condition.pin < length (pins_at net c.args.gate.0))) (sym c.at.ensures)
    (condition_pin on.kind net on.steps c.args.region.now.entered.steps c.args.gate.0)
