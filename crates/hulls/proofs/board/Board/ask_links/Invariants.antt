use Rattle.std.proofs.Common.{◌≡◌, ℕ, ◌<◌, ◌+◌}
use Rattle.std.specs.List.{Contains}
use Rattle.hulls.specs.declared.turn.Turn.{Turn}
use Rattle.hulls.proofs.board.Board.ask_links.Given as goal

abbrev pub invariant-loop-link : goal.invariant-loop-link
invariant-loop-link g l = record {
  same : l.self ≡ record l.initial.self { waiting = l.self.waiting };
  stays : (turn : Turn) → Contains l.initial.self.waiting turn → Contains l.self.waiting turn;
  waits : (k : ℕ) → k < l.link → Contains l.self.waiting (record { 0 = l.fn.gates + k });
}
