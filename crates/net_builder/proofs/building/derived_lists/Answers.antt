-- Outputs and data lines are lines of the circuit, and the levels are those of its lines.
use Rattle.std.proofs.Common.{◌≡◌, ◌<◌, ◌++◌, length, map, sym, ap, subst₂, ◌∙◌, arith}
use Rattle.std.specs.List.{All}
use Rattle.std.proofs.lemmas.Simd.{map-map}
use Rattle.pd_base.specs.declared.ids.LineId.{LineId}
use Rattle.netlist.specs.Circuit.{Gate, distinct_lines, line_count}
use Rattle.netlist.specs.Description.{described, gate_on, gates, line_named, names_by_line, outputs}
use Rattle.netlist.proofs.CircuitLines.{each_distinct, line_names-length}
use Rattle.net_builder.proofs.Circuits.{data_have_lines, outputs_have_lines}
use Rattle.net_builder.proofs.Deep.{few_lines, levels_counted}
use Rattle.net_builder.proofs.building.derived_lists.Goals as goal

pub overflow_cast-len : goal.overflow_cast-len
overflow_cast-len c =
    let st = c.args.raw.now in
    omega (
      arith,
      c.len.ensures,
      ap length c.requires.lines.names,
      line_names-length (described st),
      few_lines st c.requires.named.limits,
    )

pub observed_of-requires-clause-outputs : goal.observed_of-requires-clause-outputs
observed_of-requires-clause-outputs c =
    let st = c.args.raw.now in
    let lines : c.len.result ≡ line_count (described st) =
    c.len.ensures ∙ ap length c.requires.lines.names ∙ line_names-length (described st) in
    subst₂ (λ n some. All (λ (line : LineId). line.0 < n) some) (sym lines) (sym (c.as_slice.ensures.value ∙ c.requires.lines.outputs))
    (each_distinct (λ (line : LineId). line.0 < line_count (described st)) (map (line_named (names_by_line st)) (outputs st))
    (outputs_have_lines st c.requires.named))

pub observed_of-requires-clause-data_lines : goal.observed_of-requires-clause-data_lines
observed_of-requires-clause-data_lines c =
    let st = c.args.raw.now in
    let lines : c.len.result ≡ line_count (described st) =
    c.len.ensures ∙ ap length c.requires.lines.names ∙ line_names-length (described st) in
    subst₂ (λ n some. All (λ (line : LineId). line.0 < n) (map (λ (flop : LineId × LineId). flop.1) some)) (sym lines)
    (sym (c.as_slice-2.ensures.value ∙ c.requires.lines.flops)) (data_have_lines st c.requires.named)

pub order_of-requires : goal.order_of-requires
order_of-requires c =
    let st = c.args.raw.now in
    omega (arith, levels_counted st c.args.levels.now c.requires.levels, few_lines st c.requires.named.limits)

pub returns-clause-kinds : goal.returns-clause-kinds
returns-clause-kinds c =
    let st = c.args.raw.now in
    c.in_ok-kinds.ensures ∙ sym (map-map (λ (g : Gate). g.kind) (gate_on (names_by_line st)) (gates st))

pub returns-clause-observed : goal.returns-clause-observed
returns-clause-observed c =
    let listed = c.as_slice.ensures.value ∙ c.requires.lines.outputs in
    let found = c.as_slice-2.ensures.value ∙ c.requires.lines.flops in
    c.in_ok-observed.ensures ∙ (λ i. distinct_lines (listed i ++ map (λ (flop : LineId × LineId). flop.1) (found i)))

pub returns-clause-order : goal.returns-clause-order
returns-clause-order c = c.in_ok-order.ensures (described c.args.raw.now) (sym c.requires.sources) (sym c.requires.levels)
