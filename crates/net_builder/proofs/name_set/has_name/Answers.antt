-- A name is found where it stands among the names.
use Rattle.std.proofs.Common.{sym}
use Rattle.net_builder.proofs.Looking.{not_found}
use Rattle.net_builder.proofs.Naming.{found_in}
use Rattle.net_builder.proofs.name_set.has_name.Goals as goal
use Rattle.net_builder.specs.KnownNames.{known_names}

pub returns-in-Some : goal.returns-in-Some
returns-in-Some c =
    found_in c.args.name.now (known_names c.args.names.now) _ (sym c.in-Some.ensures)

pub returns-in-None : goal.returns-in-None
returns-in-None c =
    not_found c.args.name.now (known_names c.args.names.now) (sym c.in-None.ensures)
