-- The first name of a statement stands among all names.
use Rattle.std.proofs.Common.{◌∙◌}
use Rattle.net_builder.proofs.ReadStatements.{first_within, reads_name}
use Rattle.net_builder.proofs.raw_net.RawNet.name.Goals as goal

pub get-requires : goal.get-requires
get-requires c =
    first_within c.self.inside c.self.invariant c.args.self.now c.self.view_is c.args.place c.requires _ c.index.ensures

pub returns : goal.returns
returns c =
    c.get.ensures
    ∙ reads_name c.self.inside c.self.invariant c.args.self.now c.self.view_is c.args.place c.requires _ c.index.ensures
