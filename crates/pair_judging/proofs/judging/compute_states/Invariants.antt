use Rattle.std.proofs.Common.{◌≡◌, ℕ, ◌<◌, length}
use Rattle.netlist.specs.Circuit.{source_count}
use Rattle.pair_judging.specs.ConeStates.{state_in, AreStates}
use Rattle.pair_judging.proofs.ConePass.{AreDone}
use Rattle.pair_judging.proofs.judging.compute_states.Given as goal

-- the lines of the gates before this one are in their states
abbrev pub invariant-loop-gate : goal.invariant-loop-gate
invariant-loop-gate g l = record {
  places : length l.states ≡ length l.initial.states;
  below : AreStates g.A.Algebra.algebra.count l.states;
  sources : (source : ℕ) → source < source_count l.net → state_in l.states source ≡ state_in l.initial.states source;
  done : AreDone g.A.Algebra.algebra g.met.A.Algebra.laws l.net l.gates l.initial.states l.gate-index l.states;
}
