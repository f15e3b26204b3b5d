-- A pin that reads the line is one of a gate of the circuit, whose line has the gate's name.
use Rattle.std.proofs.Common.{◌≡◌, get_or, sym, ap, ◌∙◌}
use Rattle.std.specs.Cmp.Lexicographic.{bytes_decides}
use Rattle.pd_base.specs.declared.ids.LineId.{LineId}
use Rattle.pd_base.specs.declared.ids.PinRef.{PinRef}
use Rattle.netlist.specs.Names.{name_at}
use Rattle.netlist.proofs.CircuitLines.{name_of_gate}
use Rattle.run_files.proofs.report_paths.reader_of.Goals as goal

pub returns-then-eq : goal.returns-then-eq
returns-then-eq c =
    let net = c.args.net.now in
    let none : PinRef = record { gate = record { 0 = 0 }; pin = 0 } in
    let pin : PinRef = get_or c.fanout-pin-items.result.now c.loop-pin.pin-index none in
    let on = c.fanout-pin-items.ensures.on_line c.loop-pin.pin-index none c.loop-pin-test.true in
    let same : c.name.result.now ≡ c.args.name.now =
    (bytes_decides c.name.result.now c.args.name.now).0 (sym c.eq.ensures ∙ c.if-eq.true) in (
      on.in_circuit,
      sym same ∙ c.name.ensures ∙ ap (λ (line : LineId). name_at net line.0) c.line_of.ensures.line ∙ name_of_gate net pin.gate.0 on.in_circuit,
    )
