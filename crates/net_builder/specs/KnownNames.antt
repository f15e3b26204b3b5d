-- The names in a set of names, however it finds them (this project's own).
use Rattle.std.specs.Prelude.{ℕ, List}
use Rattle.net_builder.specs.declared.name_set.NameSet.{NameSet}
use Rattle.net_builder.specs.declared.name_set.NameSet.TheVariants.{Hashed, Ordered}
use Rattle.net_builder.specs.KeyNames.{key_names}

-- the names, in the order in which they came
abbrev pub known_names : NameSet → List (List ℕ)
known_names (Hashed names) = key_names names.keys
known_names (Ordered names) = names
