use Rattle.std.proofs.Common.{◌≡◌, true, take}
use Rattle.std.specs.List.{All, Contains}
use Rattle.hulls.specs.Awaiting.{is_inside, gate_turn}
use Rattle.hulls.proofs.board.Board.ask_gates.Given as goal

abbrev pub invariant-loop-gate : goal.invariant-loop-gate
invariant-loop-gate g l = record {
  same : l.self ≡ record l.initial.self { waiting = l.self.waiting };
  waits : All (λ gate. is_inside l.initial.self.inside gate.0 ≡ true → Contains l.self.waiting (gate_turn gate.0)) (take l.gate-index l.gate-items);
}
