-- The fan-out is whole, and the gate whose line this is waits too, or is passed by.
use Rattle.std.proofs.Common.{Bool, List, subst}
use Rattle.hulls.specs.declared.turn.Turn.{Turn}
use Rattle.hulls.specs.Awaiting.{IsWoken}
use Rattle.hulls.proofs.Readers.{WaitsIn, own_waits, source_waits, driver_waits}
use Rattle.hulls.proofs.waking.wake.Goals as goal

pub returns-in_default-clause-waits : goal.returns-in_default-clause-waits
returns-in_default-clause-waits c =
    source_waits c.args.net.now c.args.line.0 c.fanout-readers.result.now c.fanout-readers.ensures c.args.waiting.now.inside c.args.passed
    c.wake_others.new.waiting.waiting c.wake_others.ensures.waits c.in_default.ensures

pub returns-then-is_passed-clause-waits : goal.returns-then-is_passed-clause-waits
returns-then-is_passed-clause-waits c =
    own_waits c.args.net.now c.args.line.0 c.fanout-readers.result.now c.fanout-readers.ensures c.args.waiting.now.inside c.args.passed
    c.wake_all.new.waiting.waiting c.wake_all.ensures.waits c.in-Some.driver c.in-Some.ensures.1 (c.is_passed.ensures.0 c.if-is_passed.true)

pub returns-clause-waits : goal.returns-clause-waits
returns-clause-waits c =
    let woken = subst (λ (turn : Turn). IsWoken turn c.wake_others-2.new.waiting c.add.new.self) c.of_gate.ensures c.add.ensures in
    driver_waits c.args.net.now c.args.line.0 c.fanout-readers.result.now c.fanout-readers.ensures c.args.waiting.now.inside c.args.passed
    c.wake_others-2.new.waiting.waiting c.wake_others-2.ensures.waits c.add.new.self.waiting woken.more.stays
    c.in-Some.driver c.in-Some.ensures.1
    (subst (λ (flags : List Bool). WaitsIn flags c.args.passed c.add.new.self.waiting c.in-Some.driver)
    c.wake_others-2.ensures.more.inside (λ here away. woken.waits here))
