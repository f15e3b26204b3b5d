-- Each turn settles one gate more.
use Rattle.std.proofs.Common.{subst, arith}
use Rattle.delay_annotation.specs.Settling.{GatesHaveLastDelays}
use Rattle.delay_annotation.proofs.Settled.{all_settled, gate_settled, no_gate_settled}
use Rattle.delay_annotation.proofs.settling.settle.Goals as goal

pub loop-gate-init : goal.loop-gate-init
loop-gate-init c = record {
  fits = c.in_ok-delays.ensures.fits;
  settled = no_gate_settled c.args.net.now c.args.kept.now c.args.direction c.in_ok-delays.delays;
}

pub settle_gate-requires-clause-fits : goal.settle_gate-requires-clause-fits
settle_gate-requires-clause-fits c = c.loop-gate.invariant.fits

pub loop-gate-preserved : goal.loop-gate-preserved
loop-gate-preserved c = record {
  fits = c.settle_gate.ensures.fits;
  settled = gate_settled c.args.net.now c.args.kept.now c.args.direction c.loop-gate.gate c.loop-gate.delays c.settle_gate.new.delays
      c.loop-gate.invariant.settled c.settle_gate.ensures.settles;
}

pub returns-clause-fits : goal.returns-clause-fits
returns-clause-fits c = c.loop-gate.invariant.fits

pub returns-clause-last : goal.returns-clause-last
returns-clause-last c =
    all_settled c.args.net.now c.args.kept.now c.args.direction c.loop-gate.delays c.lines.ensures.circuit
    (subst (λ gate. GatesHaveLastDelays c.args.net.now c.args.kept.now c.args.direction gate c.loop-gate.delays) (omega arith)
    c.loop-gate.invariant.settled)
