-- A name that is not found is none of the names, and one that is found is one of them.
use Rattle.std.proofs.Common.{sym}
use Rattle.net_builder.proofs.Looking.{not_found}
use Rattle.net_builder.proofs.Naming.{found_in}
use Rattle.net_builder.proofs.ordered_names.OrderedNames.add.Goals as goal

pub returns-in_ok-push-in-None-clause-fresh : goal.returns-in_ok-push-in-None-clause-fresh
returns-in_ok-push-in-None-clause-fresh c = not_found c.args.name.now c.args.self.now (sym c.in-None.ensures)

pub returns-in-Some-clause-repeated : goal.returns-in-Some-clause-repeated
returns-in-Some-clause-repeated c = found_in c.args.name.now c.args.self.now _ (sym c.in-Some.ensures)
