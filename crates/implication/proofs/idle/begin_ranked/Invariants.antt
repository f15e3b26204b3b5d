-- The lines so far have begun.
use Rattle.std.proofs.Common.{take}
use Rattle.implication.specs.Begun.{AreBegun}
use Rattle.implication.specs.ByLevel.{lines_by_level}
use Rattle.implication.proofs.idle.begin_ranked.Given as goal

abbrev pub invariant-loop-line : goal.invariant-loop-line
invariant-loop-line g l =
    AreBegun g.A.Algebra.algebra l.net l.fn.launched (take l.line-index (lines_by_level l.ranked)) l.initial.board l.board
