use Rattle.std.proofs.Common.{◌≡◌, take, length}
use Rattle.netlist.specs.Values.{bit_of}
use Rattle.state_sets.specs.StateAlgebra.{same_bit}
use Rattle.pair_judging.specs.ConeStates.{AreStates}
use Rattle.pair_judging.proofs.Taking.{no_state, AreDue}
use Rattle.pair_judging.proofs.source_bits.take_pair.Given as goal

-- the sources before this one are in the states of their bits
abbrev pub invariant-loop-source : goal.invariant-loop-source
invariant-loop-source g l = record {
  places : length l.states ≡ length l.initial.states;
  below : AreStates g.A.Algebra.algebra.count l.states;
  due : AreDue no_state
      (λ source state. state ≡ g.A.Algebra.algebra.of (same_bit (bit_of l.pair.first source) (bit_of l.pair.second source)) (bit_of l.pair.first source) (bit_of l.pair.second source))
      (take l.source-index l.sources) l.states;
}
