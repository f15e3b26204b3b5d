-- One line more is listed in each turn; sorted, they stand by level.
use Rattle.std.proofs.Common.{map, ap, ◌∙◌, take_all}
use Rattle.implication.proofs.ByLevel.{entry_of, ranked_by_level}
use Rattle.implication.proofs.ranking.rank.Goals as goal

pub returns-clause-ranked : goal.returns-clause-ranked
returns-clause-ranked c =
    let net = c.args.net.now in let lines = c.args.lines.now in
    ranked_by_level net lines c.loop-line.ranked.items c.sort_unstable.new.self.items
    (c.loop-line.invariant.listed ∙ ap (map (entry_of net)) (take_all c.loop-line.line-index lines c.loop-line-test.false))
    c.sort_unstable.ensures.permutation c.sort_unstable.ensures.sorted
