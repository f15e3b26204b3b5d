-- The line of the step's gate bears the gate's name; the pieces, one behind another, are the step's text.
use Rattle.std.proofs.Common.{◌≡◌, rules, append_assoc, ap, ◌∙◌}
use Rattle.pd_base.specs.declared.ids.LineId.{LineId}
use Rattle.netlist.specs.Circuit.{gate_at}
use Rattle.netlist.specs.Names.{name_at}
use Rattle.netlist.proofs.CircuitLines.{name_of_gate}
use Rattle.run_files.proofs.steps.push_step.Goals as goal

pub returns : goal.returns
returns c =
    let net = c.args.net.now in
    let gate = c.args.step.gate.0 in
    let name : c.name.result.now ≡ (gate_at net gate).name =
    c.name.ensures ∙ ap (λ (line : LineId). name_at net line.0) c.line_of.ensures.line
    ∙ name_of_gate net gate c.requires.in_circuit in
    search (rules, append_assoc, name)
