-- What a repeated name tells (this project's own).
use Rattle.std.specs.Prelude.{⊤}
use Rattle.net_builder.specs.declared.name_set.NameFault.{NameFault}
use Rattle.net_builder.specs.declared.name_set.NameFault.TheVariants.{Repeated, NoMemory}

-- where a name is told to be repeated, this holds; want of memory tells nothing of the names
abbrev pub TellsRepeated : Type 0 → NameFault → Type 0
TellsRepeated P Repeated = P
TellsRepeated P (NoMemory _) = ⊤
