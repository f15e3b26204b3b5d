-- All lines have their labels.
use Rattle.std.proofs.Common.{arith}
use Rattle.implication.proofs.Idling.{same_labels, board_with}
use Rattle.implication.proofs.idle.put_labels.Goals as goal

pub returns : goal.returns
returns g c =
    board_with c.args.board.now c.loop-line.board c.args.labels.now c.loop-line.invariant.board
    (same_labels c.loop-line.board.labels c.args.labels.now c.loop-line.invariant.one_each
    (λ line within. c.loop-line.invariant.done line
    (omega (arith, within, c.loop-line.invariant.one_each, c.requires.one_each, c.lines-line-end.ensures.count, c.loop-line-test.false))))
