-- Rules without linked sources (this project's own).
use Rattle.std.specs.Prelude.{⊤}
use Rattle.pd_base.specs.declared.rules.Rules.{Rules}
use Rattle.pd_base.specs.declared.rules.Rules.TheVariants.{One, Two, Linked}

-- the rules are not linked ones
abbrev pub IsUnlinked : Rules → Type 0
IsUnlinked One = ⊤
IsUnlinked Two = ⊤
IsUnlinked (Linked links) = ⊥
