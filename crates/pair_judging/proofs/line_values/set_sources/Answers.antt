-- One source more has its bit, whether that changes it or not.
use Rattle.std.proofs.Common.{◌≡◌, ◌<◌, ℕ, ◌+◌, Bool, List, false, set, get_or, get_or-set_same, get_or-set_other, below_more, sym, subst, subst₂, ◌∙◌, arith}
use Rattle.netlist.specs.Circuit.{source_count}
use Rattle.netlist.specs.Values.{bit_of}
use Rattle.logic_values.specs.Known.{bit_at}
use Rattle.pair_judging.specs.LineValues.{AreLineValues}
use Rattle.pair_judging.proofs.StaleGates.{equal_bits, source_changed}
use Rattle.pair_judging.proofs.line_values.set_sources.Goals.{then-values-at, else-values-at}
use Rattle.pair_judging.proofs.line_values.set_sources.Goals as goal

pub loop-source-preserved : goal.loop-source-preserved
loop-source-preserved c =
    let net = c.args.net.now in
    let vector = c.args.vector.now in
    let values = c.loop-source.values in
    let source = c.loop-source.source in
    let bit = get_or vector source false in
    let before = c.loop-source.invariant in
    let below : source < source_count net = omega (arith, c.loop-source-test.true, c.sources-source-end.ensures.count) in
    let Kept : List Bool → List Bool → Type 0 = λ vs flags. AreLineValues net (record { values = vs; gates = c.args.gates.now; stale = flags }) in
    let Has : List Bool → Type 0 = λ vs. (k : ℕ) → k < source + 1 → bit_at vs k ≡ bit_of vector k in
    elim c.if-values-at.branch [
      | then-values-at w ↦ record {
        kept = subst₂ Kept (sym w.values-is) (sym w.stale-is)
            (source_changed net c.args.gates.now values c.loop-source.stale before.kept source below bit w.make_readers_stale.new.stale w.make_readers_stale.ensures);
        bits = subst Has (sym w.values-is)
            (below_more (λ k. bit_at (set values source bit) k ≡ bit_of vector k) source
            (λ k earlier. get_or-set_other values source k bit false (omega (arith, earlier)) ∙ before.bits k earlier)
            (get_or-set_same values source bit false (omega (arith, before.kept.lines, below))));
      }
      | else-values-at w ↦ record {
        kept = subst₂ Kept (sym w.values-is) (sym w.stale-is) before.kept;
        bits = subst Has (sym w.values-is)
            (below_more (λ k. bit_at values k ≡ bit_of vector k) source before.bits (equal_bits (bit_at values source) bit w.if-values-at.false));
      }
    ]
