-- Names that are found by their order (this project's own).
use Rattle.std.specs.Prelude.{◌≡◌, ℕ, List, position}
use Rattle.std.specs.BTreeMap.{get_by}
use Rattle.std.specs.Cmp.Lexicographic.{slice_cmp}
use Rattle.std.specs.Ordering.{nat_cmp}
use Rattle.std.specs.Str.{bytes_eq}
use Rattle.net_builder.specs.KeyNames.{key_names}
use Rattle.net_builder.specs.declared.ordered_names.OrderedNames.TheInside.{Inside}

-- each name is found at the place where it stands first, and none else is found
abbrev pub AreFound : Inside → Type 0
AreFound o = (name : List ℕ) → get_by (λ key. slice_cmp nat_cmp name key.items) o.places ≡ position (bytes_eq name) (key_names o.names.items)
