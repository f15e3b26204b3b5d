use Rattle.std.proofs.Common.{take}
use Rattle.pair_judging.specs.ConeStates.{state_in}
use Rattle.pair_judging.specs.SourceBits.{first_bit, HasBitsAt}
use Rattle.pair_judging.proofs.source_bits.write_bits.Given as goal

-- the bits of the sources before this one are written
abbrev pub invariant-loop-source : goal.invariant-loop-source
invariant-loop-source g l = record {
  first : HasBitsAt (λ source. first_bit g.A.Algebra.algebra (state_in l.states source)) (take l.source-index l.sources) l.initial.first l.first;
  second : HasBitsAt (λ source. g.A.Algebra.algebra.last (state_in l.states source)) (take l.source-index l.sources) l.initial.second l.second;
}
