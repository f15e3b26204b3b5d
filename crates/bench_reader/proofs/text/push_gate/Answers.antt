-- The line of a gate is its head, its arguments and its end.
use Rattle.std.proofs.Common.{◌∙◌, ap}
use Rattle.netlist.specs.Names.{name_at}
use Rattle.bench_reader.proofs.Writing.{gate_written}
use Rattle.bench_reader.proofs.text.push_gate.Goals as goal

pub returns : goal.returns
returns c =
    let net = c.args.net.now in
    let gate = c.args.gate.0 in
    gate_written net gate c.args.text.now.items c.name.result.now c.push_gate_head.new.text.items
    c.extend_from_slice.new.self.items c.push_arguments.new.text.items c.kind.result c.requires
    (c.name.ensures ∙ ap (λ line. name_at net line.0) c.line_of.ensures.line) c.kind.ensures
    c.in_ok-push_gate_head.ensures (rw c.pins.ensures.pins at c.in_ok-push_arguments.ensures)
    c.in_ok-extend_from_slice.ensures.items
