use Rattle.std.proofs.Common.{◌≡◌, ◌<◌, ◌≤◌, drop, length, map}
use Rattle.state_sets.specs.StateAlgebra.{joined}
use Rattle.pair_judging.specs.ConeStates.{state_in}
use Rattle.pair_judging.proofs.gate_states.join_pins.Given as goal

-- the states of the pins from this one on are joined
abbrev pub invariant-loop-pin : goal.invariant-loop-pin
invariant-loop-pin g l = record {
  within : l.pin ≤ length l.pins;
  joins : l.joined ≡ joined g.A.Algebra.algebra l.op (map (λ pin. state_in l.states pin.0) (drop l.pin l.pins));
  in_range : l.joined.0 < g.A.Algebra.algebra.count;
}
