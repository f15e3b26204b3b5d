-- What a fault of names tells, where less is told of a repeated name.
use Rattle.net_builder.specs.declared.name_set.NameFault.{NameFault}
use Rattle.net_builder.specs.declared.name_set.NameFault.TheVariants.{Repeated, NoMemory}
use Rattle.net_builder.specs.NameFaults.{TellsRepeated}

-- what follows from what a repeated name tells is told by it, too
pub tells_less : {P Q : Type 0} → (P → Q) → (fault : NameFault) → TellsRepeated P fault → TellsRepeated Q fault
tells_less less Repeated told = less told
tells_less less (NoMemory _) told = tt
