use Rattle.delay_annotation.specs.RiseFall.{rise_fall_of}
use Rattle.rise_fall.specs.Inside.GateCopies.{HaveOneDelay}
use Rattle.rise_fall.proofs.gate.have_one_delay.Given as goal

-- the pins before this one have one delay, where their lines change
abbrev pub invariant-loop-pin : goal.invariant-loop-pin
invariant-loop-pin l = record {
  have : HaveOneDelay (rise_fall_of l.net l.delays) l.net l.fn.gate.0 l.pin l.waves;
}
