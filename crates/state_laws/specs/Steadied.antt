-- Pairs of vectors under the rules of a search, and the pair that is held steady at all sources but one (this project's own).
use Rattle.std.specs.Prelude.{◌≢◌, ℕ, ◌<◌, ◌==◌, Bool, List, map, if◌then◌else◌}
use Rattle.std.specs.List.{range_with_len}
use Rattle.pd_base.specs.Pair.{Vectors}
use Rattle.pd_base.specs.declared.rules.Rules.{Rules}
use Rattle.netlist.specs.Circuit.{Circuit, source_count}
use Rattle.netlist.specs.Values.{bit_of}
use Rattle.state_sets.specs.StateAlgebra.{StateAlgebra}
use Rattle.state_sets.specs.LineStates.{state_under}
use Rattle.state_sets.specs.Starts.{IsOtherStart}

-- each source but this one starts under the pair in a state that the rules leave it
abbrev pub KeepsRules : StateAlgebra → Circuit → Rules → ℕ → Vectors → Type 0
KeepsRules a c rules source pair =
    (other : ℕ) → other < source_count c → other ≢ source → IsOtherStart a rules (state_under a c pair other)

-- the bits of the sources where each but this one has before the transition the bit that it has after it
abbrev pub steadied_bits : Circuit → ℕ → Vectors → List Bool
steadied_bits c source pair =
    map (λ other. if other == source then bit_of pair.first other else bit_of pair.second other) (range_with_len 0 (source_count c))

-- the pair whose first vector is its second at every source but this one
abbrev pub steadied : Circuit → ℕ → Vectors → Vectors
steadied c source pair = record { first = steadied_bits c source pair; second = pair.second }
