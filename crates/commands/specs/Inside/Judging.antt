-- What was found of the inputs of `gen` together (this project's own).
use Rattle.std.specs.Prelude.{◌≡◌, ℕ}
use Rattle.pd_base.specs.Memory.{out_of_memory}
use Rattle.netlist.specs.Circuit.{Circuit}
use Rattle.calls.specs.declared.ending.Ending.{Ending}
use Rattle.calls.specs.declared.ending.Ending.TheVariants.{NoMemory}
use Rattle.commands.specs.Sizes.{HasLongTexts, HasShortTexts}

-- no texts are made for so many paths of this circuit: they may be too long, or memory ran out
pub data FailsShort (paths : ℕ) (c : Circuit) (ending : Ending) : Type 0 where
  too_long : HasLongTexts paths c ending → FailsShort paths c ending
  no_memory : HasShortTexts paths c → ending ≡ NoMemory out_of_memory → FailsShort paths c ending
