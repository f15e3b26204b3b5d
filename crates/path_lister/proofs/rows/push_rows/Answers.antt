-- Each turn adds the row of one line more, and all pins of rows are different pins of the circuit, so that they stay few.
use Rattle.std.proofs.Common.{◌≡◌, ◌+◌, ℕ, [], ◌∷◌, ◌++◌, length, take, sym, ap, subst₂, ◌∙◌, arith}
use Rattle.netlist.specs.Circuit.{source_count}
use Rattle.path_lister.specs.Rows.{AreRows}
use Rattle.path_lister.proofs.RowsMore.{rows_begin, rows_few, rows_next}
use Rattle.std.proofs.lemmas.Grind.{common_steps}
use Rattle.path_lister.proofs.rows.push_rows.Goals as goal

pub loop-line-init : goal.loop-line-init
loop-line-init c = subst₂ (AreRows c.args.net.now []) (sym c.requires.firsts) (sym c.requires.pins) (rows_begin c.args.net.now)

pub overflow_cast-len : goal.overflow_cast-len
overflow_cast-len c =
    let net = c.args.net.now in
    let next = rows_next net c.args.lines.now c.requires.lines c.loop-line.line-index c.loop-line.firsts.items
    c.loop-line.pins.items c.fanout.result.now c.loop-line-test.true c.fanout.ensures c.loop-line.invariant in
    omega (
      arith,
      rows_few net _ _ _ next,
      ap length c.in_ok-extend_from_slice.ensures.items,
      c.len.ensures,
      c.sources-sources.ensures.circuit.few_pins,
    )

pub overflow_add-sources : goal.overflow_add-sources
overflow_add-sources c =
    let net = c.args.net.now in
    let next = rows_next net c.args.lines.now c.requires.lines c.loop-line.line-index c.loop-line.firsts.items
    c.loop-line.pins.items c.fanout.result.now c.loop-line-test.true c.fanout.ensures c.loop-line.invariant in
    omega (
      arith,
      rows_few net _ _ _ next,
      ap length c.in_ok-extend_from_slice.ensures.items,
      c.len.ensures,
      c.sources-sources.ensures.count,
      c.sources-sources.ensures.circuit.few_lines,
      c.sources-sources.ensures.circuit.few_pins,
    )

pub loop-line-preserved : goal.loop-line-preserved
loop-line-preserved c =
    let net = c.args.net.now in
    let firsts = c.loop-line.firsts.items in
    let pins = c.loop-line.pins.items in
    let fan = c.fanout.result.now in
    let next = rows_next net c.args.lines.now c.requires.lines c.loop-line.line-index firsts pins fan c.loop-line-test.true
    c.fanout.ensures c.loop-line.invariant in
    let behind : source_count net + length (pins ++ fan) ≡ c.sources-sources.result + c.len.result =
    omega (
      arith,
      ap length c.in_ok-extend_from_slice.ensures.items,
      c.len.ensures,
      c.sources-sources.ensures.count,
    ) in
    subst₂ (AreRows net (take (c.loop-line.line-index + 1) c.args.lines.now))
    (ap (λ (first : ℕ). firsts ++ first ∷ []) behind ∙ sym c.in_ok-push.ensures.items)
    (sym c.in_ok-extend_from_slice.ensures.items) next

pub returns : goal.returns
returns c = grind (arith, common_steps)
