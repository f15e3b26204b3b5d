-- The gates that are passed over have their values, and a stale one gets it; after the last gate all lines have theirs.
use Rattle.std.proofs.Common.{ℕ, ◌+◌, ◌-◌, Bool, List, arith}
use Rattle.netlist.specs.Circuit.{kind_at}
use Rattle.netlist.specs.Values.{bit_of, gate_value}
use Rattle.logic_values.specs.Known.{bit_at}
use Rattle.logic_values.proofs.RankPass.{all_read, begun, one_more}
use Rattle.pair_judging.proofs.StaleGates.{fresh_have}
use Rattle.pair_judging.proofs.line_values.update.Goals as goal

pub loop-place-init : goal.loop-place-init
loop-place-init c =
    let net = c.args.net.now in
    let base = bit_of c.args.vector.now in
    let step = λ (gate : ℕ) (values : List Bool). gate_value (kind_at net gate) values in
    let gates = c.args.gates.now in
    let kept = c.set_sources.ensures.kept in
    let next = c.next_stale-place.ensures in
    record {
      kept = kept;
      within = next.within;
      has = fresh_have net c.lines.ensures.circuit base gates c.set_sources.new.values c.set_sources.new.stale kept 0 c.next_stale-place.result
          c.next_stale-place.result (omega arith) (omega (arith, next.within, kept.marks)) next.fresh
          (begun net base step (bit_at c.set_sources.new.values) c.set_sources.ensures.bits);
    }

pub loop-place-preserved : goal.loop-place-preserved
loop-place-preserved c =
    let net = c.args.net.now in
    let base = bit_of c.args.vector.now in
    let step = λ (gate : ℕ) (values : List Bool). gate_value (kind_at net gate) values in
    let gates = c.args.gates.now in
    let place = c.loop-place.place in
    let before = c.loop-place.invariant in
    let kept = c.evaluate_at.ensures.kept in
    let next = c.next_stale-place-in-loop-place.ensures in
    let to = c.next_stale-place-in-loop-place.result in
    let after = one_more net base step c.lines.ensures.circuit gates.order kept.ranked.ordered kept.ranked.earlier place
    (omega (arith, c.loop-place-test.true, before.kept.marks)) (bit_at c.loop-place.values) before.has (bit_at c.evaluate_at.new.values)
    c.evaluate_at.ensures.own c.evaluate_at.ensures.others in
    record {
      kept = kept;
      within = next.within;
      has = fresh_have net c.lines.ensures.circuit base gates c.evaluate_at.new.values c.evaluate_at.new.stale kept (place + 1) (to - (place + 1)) to
          (omega (arith, next.behind)) (omega (arith, next.within, kept.marks)) next.fresh after;
    }

pub returns-clause-values : goal.returns-clause-values
returns-clause-values c =
    let net = c.args.net.now in
    let gates = c.args.gates.now in
    let kept = c.loop-place.invariant.kept in
    all_read net (bit_of c.args.vector.now) (λ gate values. gate_value (kind_at net gate) values) gates.order kept.ranked.ordered
    c.loop-place.place (omega (arith, c.loop-place-test.false, kept.marks)) (bit_at c.loop-place.values) c.loop-place.invariant.has
