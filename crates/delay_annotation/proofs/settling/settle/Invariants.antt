use Rattle.delay_annotation.specs.Annotation.{Fits}
use Rattle.delay_annotation.specs.Settling.{GatesHaveLastDelays}
use Rattle.delay_annotation.proofs.settling.settle.Given as goal

-- the pins of the gates before this one are settled
abbrev pub invariant-loop-gate : goal.invariant-loop-gate
invariant-loop-gate l = record {
  fits : Fits l.net l.delays;
  settled : GatesHaveLastDelays l.net l.kept l.direction l.gate l.delays;
}
