-- A name is that of one line, and so of one gate at most.
use Rattle.std.proofs.Common.{◌≡◌, ◌<◌, Contains, sym, ap, subst, ◌∙◌, arith}
use Rattle.pd_base.specs.declared.ids.GateId.{GateId}
use Rattle.netlist.specs.Circuit.{gate_count, gate_line, line_names}
use Rattle.netlist.specs.Names.{name_at}
use Rattle.netlist.proofs.CircuitLines.{name_of_gate}
use Rattle.text_pieces.proofs.Spelled.{none_spelled, one_spelled}
use Rattle.run_files.specs.ReportReading.{gate_name}
use Rattle.run_files.proofs.ReportNames.{gates_apart, has_gate_name, lines_apart}
use Rattle.run_files.proofs.report_paths.read_gate.Goals as goal

pub returns-in-Some : goal.returns-in-Some
returns-in-Some c =
    let net = c.args.net.now in
    one_spelled (gate_name net) (λ (gate : GateId). gate.0 < gate_count net) c.args.name.now c.in-Some.gate c.in-Some.ensures.0 c.in-Some.ensures.1
    (λ other within same.
    gates_apart net c.sources-sources.ensures.circuit c.in-Some.gate other c.in-Some.ensures.0 within (sym c.in-Some.ensures.1 ∙ same))

pub returns-in_err-line : goal.returns-in_err-line
returns-in_err-line c =
    let net = c.args.net.now in
    rw c.from_residual.ensures
    (none_spelled (gate_name net) (λ (gate : GateId). gate.0 < gate_count net) c.args.name.now
    (λ gate within same.
    c.in_err-line.ensures
    (subst (Contains (line_names net)) (sym same) (has_gate_name net c.sources-sources.ensures.circuit gate within))))

pub returns-in_err-gate : goal.returns-in_err-gate
returns-in_err-gate c =
    let net = c.args.net.now in
    rw c.from_residual-in_err-gate.ensures
    (none_spelled (gate_name net) (λ (gate : GateId). gate.0 < gate_count net) c.args.name.now
    (λ gate within same.
    let line = lines_apart net c.sources-sources.ensures.circuit c.in_ok-line.line.0 (gate_line net gate.0) c.in_ok-line.ensures.0 (omega arith)
    (c.in_ok-line.ensures.1 ∙ same ∙ sym (name_of_gate net gate.0 within)) in
    omega (arith, line, c.in_err-gate.ensures, c.sources-sources.ensures.count)))

pub returns : goal.returns
returns c =
    let net = c.args.net.now in
    let gate : GateId = record { 0 = c.in_ok-gate.gate } in
    let line : c.in_ok-line.line.0 ≡ gate_line net gate.0 = omega (arith, c.in_ok-gate.ensures, c.sources-sources.ensures.count) in
    let within : gate.0 < gate_count net = omega (arith, line, c.in_ok-line.ensures.0) in
    let name : c.args.name.now ≡ gate_name net gate =
    sym c.in_ok-line.ensures.1 ∙ ap (name_at net) line ∙ name_of_gate net gate.0 within in
    one_spelled (gate_name net) (λ (gate : GateId). gate.0 < gate_count net) c.args.name.now gate within name
    (λ other inside same. gates_apart net c.sources-sources.ensures.circuit gate other within inside (sym name ∙ same))
