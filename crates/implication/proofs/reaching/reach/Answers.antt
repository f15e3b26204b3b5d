-- At first the source alone is reached, each turn sees one line more, and when all are seen, all that can be reached are.
use Rattle.std.proofs.Common.{ℕ, ◌<◌, ◌≤◌, List, length, get_or, ap, subst}
use Rattle.pd_base.specs.declared.ids.LineId.{LineId}
use Rattle.implication.specs.Reached.{AreReadersIn}
use Rattle.implication.proofs.Spreading.{spread_first, spread_more, spread_all, spread_inside}
use Rattle.implication.proofs.reaching.reach.Goals as goal

pub loop-seen-init : goal.loop-seen-init
loop-seen-init g c =
    spread_first c.args.net.now c.args.board.now.inside c.args.source c.args.reached.now c.add.new.self c.requires.none c.requires.room
    c.add.ensures

pub loop-seen-preserved : goal.loop-seen-preserved
loop-seen-preserved g c =
    let net = c.args.net.now in let inside = c.args.board.now.inside in let seen = c.loop-seen.seen in
    spread_more net inside c.args.source seen c.loop-seen.reached c.reach_readers.new.reached c.loop-seen.invariant
    (subst (λ (n : ℕ). seen < n) (ap (λ (ls : List LineId). length ls) c.lines.ensures.lines) c.loop-seen-test.true) c.reach_readers.ensures.more
    (subst (λ (lines : List LineId). AreReadersIn net inside (get_or lines seen (record { 0 = 0 })) c.reach_readers.new.reached.lines)
    c.lines-in-loop-seen.ensures.lines c.reach_readers.ensures.readers)

pub returns-clause-reached : goal.returns-clause-reached
returns-clause-reached g c =
    spread_all c.args.net.now c.args.board.now.inside c.args.source c.loop-seen.seen c.loop-seen.reached c.loop-seen.invariant
    (subst (λ (n : ℕ). n ≤ c.loop-seen.seen) (ap (λ (ls : List LineId). length ls) c.lines.ensures.lines) c.loop-seen-test.false)

pub returns-clause-inside : goal.returns-clause-inside
returns-clause-inside g c =
    spread_inside c.args.net.now c.args.board.now.inside c.args.source c.requires.source c.loop-seen.seen c.loop-seen.reached
    c.loop-seen.invariant
