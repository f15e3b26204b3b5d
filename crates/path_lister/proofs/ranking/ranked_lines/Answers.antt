-- Each turn of a loop lists one line more, and the sources and then the gates in rank order are all lines by level.
use Rattle.std.proofs.Common.{◌≡◌, List, ◌++◌, map, take_all, sym, ap, subst, ◌∙◌, arith}
use Rattle.std.specs.List.{range_with_len}
use Rattle.std.proofs.lemmas.Grind.{common_steps}
use Rattle.std.proofs.lemmas.List.{append-nil}
use Rattle.pd_base.specs.declared.ids.GateId.{GateId}
use Rattle.netlist.specs.Circuit.{source_count}
use Rattle.path_lister.specs.Ranking.{IsRanking}
use Rattle.path_lister.proofs.Ranked.{gates_listed, is_ranking, line_of, own_line, source_more}
use Rattle.path_lister.proofs.ranking.ranked_lines.Goals as goal

pub push_reserved-requires : goal.push_reserved-requires
push_reserved-requires c =
    omega (arith, c.loop-source.invariant.each, c.loop-source.invariant.room, c.sources-source-end.ensures.count)

pub loop-source-preserved : goal.loop-source-preserved
loop-source-preserved c = record {
  listed = source_more c.loop-source.source c.loop-source.lines.items c.push_reserved.new.self.items c.loop-source.invariant.listed
      c.push_reserved.ensures.items;
  each = omega (arith, c.push_reserved.ensures.len, c.loop-source.invariant.each);
  room = omega (arith, c.push_reserved.ensures.capacity, c.loop-source.invariant.room);
}

pub loop-gate-init : goal.loop-gate-init
loop-gate-init c =
    let all : c.loop-source.source ≡ source_count c.args.net.now =
    omega (arith, c.sources-source-end.ensures.count, c.loop-source-test.false) in record {
      listed = c.loop-source.invariant.listed ∙ ap (λ n. map line_of (range_with_len 0 n)) all
          ∙ sym (append-nil (map line_of (range_with_len 0 (source_count c.args.net.now))));
      each = omega (arith, c.loop-source.invariant.each, all);
      room = c.loop-source.invariant.room;
    }

pub push_reserved-requires-in-loop-gate : goal.push_reserved-requires-in-loop-gate
push_reserved-requires-in-loop-gate c =
    omega (
      arith,
      c.loop-gate.invariant.each,
      c.loop-gate.invariant.room,
      c.loop-gate-test.true,
      gates_listed c.args.net.now c.order-gate-items.result.now c.order-gate-items.ensures.rank,
    )

pub loop-gate-preserved : goal.loop-gate-preserved
loop-gate-preserved c = record {
  listed = grind (arith, common_steps);
  each = omega (arith, c.push_reserved-in-loop-gate.ensures.len, c.loop-gate.invariant.each);
  room = omega (arith, c.push_reserved-in-loop-gate.ensures.capacity, c.loop-gate.invariant.room);
}

pub returns-clause-lines : goal.returns-clause-lines
returns-clause-lines c =
    let net = c.args.net.now in
    let order = c.order-gate-items.result.now in
    let sources = map line_of (range_with_len 0 (source_count net)) in
    let all = take_all c.loop-gate.gate-index order c.loop-gate-test.false in
    subst (IsRanking net) (sym (c.loop-gate.invariant.listed ∙ ap (λ (gates : List GateId). sources ++ map (own_line net) gates) all))
    (is_ranking net order c.order-gate-items.ensures.rank)
