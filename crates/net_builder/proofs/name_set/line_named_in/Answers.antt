-- The number of a name is where it stands first, and the number of names where it does not stand.
use Rattle.std.proofs.Common.{◌∙◌, sym, ap, ℕ}
use Rattle.std.specs.Str.{bytes_eq}
use Rattle.net_builder.proofs.Naming.{first_place, no_place}
use Rattle.net_builder.proofs.name_set.line_named_in.Goals as goal
use Rattle.net_builder.specs.KnownNames.{known_names}

pub returns-in-Some : goal.returns-in-Some
returns-in-Some c =
    ap (λ (n : ℕ). record { 0 = n }) (first_place (bytes_eq c.args.name.now) (known_names c.args.names.now) _ (sym c.in-Some.ensures))

pub returns-in-None : goal.returns-in-None
returns-in-None c =
    let none = no_place (bytes_eq c.args.name.now) (known_names c.args.names.now) (sym c.in-None.ensures) in
    ap (λ (n : ℕ). record { 0 = n }) (c.name_count.ensures ∙ sym none)
