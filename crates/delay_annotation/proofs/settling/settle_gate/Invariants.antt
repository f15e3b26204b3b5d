use Rattle.delay_annotation.specs.Annotation.{Fits}
use Rattle.delay_annotation.specs.Settling.{SettlesPins}
use Rattle.delay_annotation.proofs.settling.settle_gate.Given as goal

-- the pins before this one are settled
abbrev pub invariant-loop-pin : goal.invariant-loop-pin
invariant-loop-pin l = record {
  fits : Fits l.net l.delays;
  settles : SettlesPins l.net l.kept l.direction l.gate.0 l.pin l.fn.delays l.delays;
}
