-- A word without a colon, or without a gate before it or a pin behind it, is no step; else it is one.
use Rattle.run_files.proofs.ReportSteps.{no_colon_there, no_gate_there, no_pin_there, one_step}
use Rattle.run_files.proofs.report_paths.read_step.Goals as goal

pub returns-in_err-name : goal.returns-in_err-name
returns-in_err-name c = rw c.from_residual.ensures (no_colon_there c.args.net.now c.args.word.now c.in_err-name.ensures)

pub returns-in_err-gate : goal.returns-in_err-gate
returns-in_err-gate c =
    rw c.from_residual-in_err-gate.ensures
    (no_gate_there c.args.net.now c.args.word.now c.in_ok-name.name.now c.in_ok-name.pin.now c.in_ok-name.ensures c.in_err-gate.ensures)

pub returns-in_err-pin : goal.returns-in_err-pin
returns-in_err-pin c =
    rw c.from_residual-in_err-pin.ensures
    (no_pin_there c.args.net.now c.args.word.now c.in_ok-name.name.now c.in_ok-name.pin.now c.in_ok-name.ensures c.in_ok-gate.gate
    c.in_ok-gate.ensures c.in_err-pin.ensures)

pub returns : goal.returns
returns c =
    one_step c.args.net.now c.args.word.now c.in_ok-name.name.now c.in_ok-name.pin.now c.in_ok-name.ensures c.in_ok-gate.gate
    c.in_ok-gate.ensures c.in_ok-pin.pin c.in_ok-pin.ensures
