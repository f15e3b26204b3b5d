-- Which gate is named where a circuit has loops (this project's own).
use Rattle.std.specs.Prelude.{⊤, ℕ, ◌<◌}
use Rattle.netlist.specs.Circuit.{Circuit, gate_count}
use Rattle.netlist.specs.Lawful.{IsLooped}
use Rattle.net_builder.specs.declared.levels.LevelFault.{LevelFault}
use Rattle.net_builder.specs.declared.levels.LevelFault.TheVariants.{Loop, NoMemory}

-- a gate on a loop, or fed by one, before which no gate is
pub record IsFirstLooped (c : Circuit) (gate : ℕ) : Type 0 where
  pub in_circuit : gate < gate_count c
  pub looped : IsLooped c gate
  pub first : (earlier : ℕ) → earlier < gate → ¬ IsLooped c earlier

-- the circuit may be refused so: want of memory is always allowed
abbrev pub MayFault : Circuit → LevelFault → Type 0
MayFault c (Loop gate) = IsFirstLooped c gate.0
MayFault c (NoMemory _) = ⊤
