use Rattle.hulls.specs.Settling.{HasCutsWithStates}
use Rattle.hulls.proofs.board.Board.cut_pins.Given as goal

abbrev pub invariant-loop-pin : goal.invariant-loop-pin
invariant-loop-pin g l = HasCutsWithStates g.A.Algebra.algebra.count l.net l.fn.passed l.fn.gate.0 l.kept l.pin l.initial.self l.self
