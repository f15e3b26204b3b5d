-- The rank of each gate is pushed, and after the sort each stands once.
use Rattle.std.proofs.Common.{◌≡◌, ◌<◌, get_or, refl, sym, ap, subst, ◌+◌, ◌∙◌, arith}
use Rattle.std.specs.List.{Contains}
use Rattle.std.proofs.lemmas.List.Filters.{dedup_is}
use Rattle.netlist.specs.Circuit.{gate_count, gate_line, source_count}
use Rattle.pd_base.specs.declared.ids.LineId.{LineId}
use Rattle.cones.proofs.Finding.{line_of}
use Rattle.cones.proofs.Spreading.{no_line}
use Rattle.cones.proofs.Numbers.{GateKey, AreCollected, sorted_once, collected_none, collected_more, collected_same, collected_all}
use Rattle.cones.proofs.cone_lists.rank_gates.Goals as goal
use Rattle.cones.proofs.cone_lists.rank_gates.Goals.{in-Some, in-None}

pub loop-line-init : goal.loop-line-init
loop-line-init c = record {
  capacity = refl;
  collected = subst (AreCollected (GateKey c.args.net.now c.args.ranks.now) c.args.lines.now 0) (sym c.clear.ensures.items)
      (collected_none (GateKey c.args.net.now c.args.ranks.now) c.args.lines.now);
}

pub push_reserved-requires : goal.push_reserved-requires
push_reserved-requires c =
    omega (arith, c.loop-line.numbers.ok.0, c.loop-line.invariant.collected.few, c.loop-line.invariant.capacity, c.clear.ensures.capacity, c.requires.room, c.loop-line-test.true)

pub loop-line-preserved : goal.loop-line-preserved
loop-line-preserved c =
    let net = c.args.net.now in
    let ranks = c.args.ranks.now in
    let lines = c.args.lines.now in
    let place = c.loop-line.line-index in
    let numbers = c.loop-line.numbers.items in
    let line : LineId = get_or lines place no_line in
    elim c.match-gate_of.branch [
      | in-Some w ↦
          let own : (w.in-Some.gate.0 < gate_count net) × (line.0 ≡ gate_line net w.in-Some.gate.0) = w.in-Some.ensures in
          rw w.numbers-is (record {
            capacity = w.push_reserved.ensures.capacity ∙ c.loop-line.invariant.capacity;
            collected = subst (AreCollected (GateKey net ranks) lines (place + 1)) (sym w.push_reserved.ensures.items)
                (collected_more (GateKey net ranks) lines place numbers (get_or ranks w.in-Some.gate.0 0) (w.in-Some.gate.0, own.0, own.1, refl)
                (λ other key.
                let here = own.1 in let there = key.2 in
                let same : w.in-Some.gate.0 ≡ key.0 = omega arith in
                ap (λ gate. get_or ranks gate 0) same ∙ key.3)
                c.loop-line.invariant.collected);
          })
      | in-None w ↦
          let source : line.0 < source_count net = w.in-None.ensures in
          rw w.numbers-is (record {
            capacity = c.loop-line.invariant.capacity;
            collected = collected_same (GateKey net ranks) lines place numbers
                (λ other key. let there = key.2 in omega arith)
                c.loop-line.invariant.collected;
          })
    ]

pub returns : goal.returns
returns c =
    let net = c.args.net.now in
    let ranks = c.args.ranks.now in
    let sorted = sorted_once c.loop-line.numbers.items c.sort_unstable.new.self.items c.dedup.new.self.items
    c.sort_unstable.ensures.permutation c.sort_unstable.ensures.sorted (dedup_is _ _ _ c.dedup.ensures.filtered) in
    let all = collected_all (GateKey net ranks) c.args.lines.now c.loop-line.line-index c.loop-line.numbers.items
    c.loop-line-test.false c.loop-line.auto.line-index-end c.loop-line.invariant.collected in
    record {
      capacity = c.dedup.ensures.capacity ∙ c.sort_unstable.ensures.capacity ∙ c.loop-line.invariant.capacity ∙ c.clear.ensures.capacity;
      few = omega (
        arith,
        c.dedup.ensures.bound,
        c.dedup.new.self.ok.0,
        c.sort_unstable.new.self.ok.0,
        c.sort_unstable.ensures.len,
        c.loop-line.numbers.ok.0,
        c.loop-line.invariant.collected.few,
        c.loop-line.auto.line-index-end,
      );
      rising = sorted.rising;
      exactly = λ rank. (
        λ has.
            let some = (all rank).0 ((sorted.same rank).0 has) in
            let key = some.2 in
            record {
              gate = key.0;
              in_circuit = key.1;
              among = subst (Contains c.args.lines.now) (line_of some.0 (gate_line net key.0) key.2) some.1;
              ranked = key.3;
            },
        λ among. (sorted.same rank).1
            ((all rank).1 (record { 0 = gate_line net among.gate }, among.among, (among.gate, among.in_circuit, refl, among.ranked))),
      );
    }
