-- The pins of one statement more, until all are listed.
use Rattle.std.proofs.Common.{◌++◌, List, length, map, take, sum_by, sym, ap, ◌∙◌, arith}
use Rattle.std.proofs.lemmas.List.{map-append, take_all}
use Rattle.std.proofs.lemmas.List.Sums.{sum_by_more_le}
use Rattle.pd_base.specs.declared.ids.LineId.{LineId}
use Rattle.netlist.specs.Description.{NamedGate, gate_in, gates, line_named, pins_in}
use Rattle.netlist.specs.Statements.{Numbered}
use Rattle.net_builder.specs.KnownNames.{known_names}
use Rattle.net_builder.specs.Reading.{no_statement, statement_at}
use Rattle.net_builder.proofs.Circuits.{argument_lines_counted}
use Rattle.net_builder.proofs.Pieces.{flat_more}
use Rattle.net_builder.proofs.parts.pins_of.Goals as goal

pub loop-place-init : goal.loop-place-init
loop-place-init c = c.in_ok-pins.ensures

pub push_pins-requires-clause-room : goal.push_pins-requires-clause-room
push_pins-requires-clause-room c =
    let raw = c.args.raw.now in
    let i = c.loop-place.place in
    omega (
      arith,
      ap (sum_by length) c.loop-place.invariant,
      argument_lines_counted (take i raw) (known_names c.args.names.now),
      sum_by_more_le (λ (s : Numbered). pins_in s.statement) raw i no_statement (omega arith),
      c.requires.limits.few_pins,
    )

pub loop-place-preserved : goal.loop-place-preserved
loop-place-preserved c =
    let raw = c.args.raw.now in
    let i = c.loop-place.place in
    let own : NamedGate → List LineId = λ gate. map (line_named (known_names c.args.names.now)) gate.arguments in
    let more = gate_in (statement_at raw i) in
    c.in_ok-push_pins.ensures
    ∙ ap (λ pins. pins ++ map own more) c.loop-place.invariant
    ∙ sym (map-append own (gates (take i raw)) more)
    ∙ ap (map own) (sym (flat_more (λ (s : Numbered). gate_in s.statement) raw i no_statement (omega arith)))

pub returns : goal.returns
returns c =
    let own : NamedGate → List LineId = λ gate. map (line_named (known_names c.args.names.now)) gate.arguments in
    c.loop-place.invariant ∙ ap (λ st. map own (gates st)) (take_all c.loop-place.place c.args.raw.now (omega arith))
