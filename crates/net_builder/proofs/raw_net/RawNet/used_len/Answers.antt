-- A statement has a name, and so many are used.
use Rattle.std.proofs.Common.{◌∙◌, arith}
use Rattle.net_builder.proofs.ReadStatements.{some_name, reads_few, reads_used_count}
use Rattle.net_builder.proofs.raw_net.RawNet.used_len.Goals as goal

pub used_count-requires : goal.used_count-requires
used_count-requires c =
    some_name c.self.inside c.self.invariant c.args.self.now c.self.view_is c.args.place c.requires _ c.index-placed.ensures

pub returns-clause-few : goal.returns-clause-few
returns-clause-few c =
    omega (
      arith,
      c.used_count.ensures,
      reads_few c.self.inside c.self.invariant c.args.self.now c.self.view_is c.args.place c.requires _ c.index-placed.ensures,
    )

pub returns-clause-count : goal.returns-clause-count
returns-clause-count c =
    c.used_count.ensures
    ∙ reads_used_count c.self.inside c.self.invariant c.args.self.now c.self.view_is c.args.place c.requires _ c.index-placed.ensures
