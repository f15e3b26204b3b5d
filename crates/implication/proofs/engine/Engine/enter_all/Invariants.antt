use Rattle.std.proofs.Common.{◌≡◌}
use Rattle.implication.specs.AlongPrefix.{HasEnteredTo}
use Rattle.implication.specs.Settings.{IsSameSetting}
use Rattle.implication.proofs.engine.Engine.enter_all.Given as goal

-- so many pins are entered, and no conflict came
abbrev pub invariant-loop-pin : goal.invariant-loop-pin
invariant-loop-pin g l = record {
  setting : IsSameSetting l.fn.self l.self;
  beginning : l.self.beginning ≡ l.fn.self.beginning;
  entered : HasEnteredTo g.A.Algebra.algebra l.prefix l.pin-index l.self;
  closings : l.self.closings ≡ l.fn.self.closings;
}
