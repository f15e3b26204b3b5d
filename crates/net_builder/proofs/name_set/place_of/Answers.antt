-- The place of a key is that of its name.
use Rattle.std.proofs.Common.{◌∙◌, sym, position}
use Rattle.std.specs.Str.{bytes_eq}
use Rattle.net_builder.proofs.Looking.{position_in_names}
use Rattle.net_builder.proofs.name_set.place_of.Goals as goal
use Rattle.net_builder.specs.KnownNames.{known_names}

pub returns-in-Hashed : goal.returns-in-Hashed
returns-in-Hashed c =
    c.get_index_of.ensures.index ∙ sym (position_in_names (bytes_eq c.args.name.now) c.in-Hashed.hashed.keys)
    ∙ (λ i. position (bytes_eq c.args.name.now) (known_names (sym c.in-Hashed.is i)))
