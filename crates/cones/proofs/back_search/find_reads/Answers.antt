-- The lines that the pins of the gate read.
use Rattle.std.proofs.Common.{ℕ, ◌<◌, sym, subst}
use Rattle.std.specs.List.{All}
use Rattle.pd_base.specs.declared.ids.LineId.{LineId}
use Rattle.cones.proofs.back_search.find_reads.Goals as goal

pub add_all-requires : goal.add_all-requires
add_all-requires c =
    subst (λ (n : ℕ). All (λ (line : LineId). line.0 < n) c.pins.result.now) (sym c.requires.room) c.pins.ensures.in_circuit
