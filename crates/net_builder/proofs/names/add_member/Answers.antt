-- A new name differs from those before it.
use Rattle.std.proofs.Common.{sym, subst}
use Rattle.net_builder.proofs.ByLine.{Differ}
use Rattle.net_builder.proofs.Defining.{fresh_last}
use Rattle.net_builder.proofs.names.add_member.Goals as goal
use Rattle.net_builder.specs.KnownNames.{known_names}

pub returns-clause-distinct : goal.returns-clause-distinct
returns-clause-distinct c =
    subst Differ (sym c.in_ok-add_name.ensures.names)
    (fresh_last (known_names c.args.names.now) c.in-Some.name.now c.requires.distinct c.in_ok-add_name.ensures.fresh)
