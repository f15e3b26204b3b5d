-- One more gate, until all are listed.
use Rattle.std.proofs.Common.{◌≡◌, ◌-◌, length, map, ap, ◌∙◌, arith}
use Rattle.std.specs.List.{range_with_len}
use Rattle.net_builder.proofs.Ranking.{listed_more, pair_of}
use Rattle.net_builder.proofs.order.with_levels.Goals as goal

pub loop-line-preserved : goal.loop-line-preserved
loop-line-preserved c = record {
  behind = omega arith;
  within = omega arith;
  listed =
      listed_more c.args.sources c.args.levels.now c.loop-line.line _ _ c.loop-line.invariant.behind
      c.loop-line.invariant.listed c.in_ok-push.ensures.items;
}

pub returns : goal.returns
returns c =
    let all : c.loop-line.line - c.args.sources ≡ length c.args.levels.now - c.args.sources =
    omega (arith, c.loop-line-test.false) in
    c.loop-line.invariant.listed ∙ ap (λ n. map (pair_of c.args.sources c.args.levels.now) (range_with_len 0 n)) all
