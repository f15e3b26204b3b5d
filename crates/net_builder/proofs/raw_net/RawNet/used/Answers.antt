-- A name that a statement uses stands among all names.
use Rattle.std.proofs.Common.{◌∙◌, ap, [], get_or, ◌+◌, arith}
use Rattle.net_builder.proofs.ReadStatements.{skipped_few, used_small, used_among, reads_used}
use Rattle.net_builder.proofs.raw_net.RawNet.used.Goals as goal

pub overflow_add-skipped : goal.overflow_add-skipped
overflow_add-skipped c =
    omega (arith, skipped_few c.index-placed.result.now.form, c.skipped.ensures, used_small c.self.inside c.self.invariant c.args.self.now c.self.view_is c.args.place c.requires.place _ c.index-placed.ensures c.args.argument c.requires.argument)

pub get_behind-requires : goal.get_behind-requires
get_behind-requires c =
    omega (arith, c.skipped.ensures, used_among c.self.inside c.self.invariant c.args.self.now c.self.view_is c.args.place c.requires.place _ c.index-placed.ensures c.args.argument c.requires.argument)

pub returns : goal.returns
returns c =
    c.get_behind.ensures
    ∙ ap (λ n. get_or c.self.inside.names (c.index-placed.result.now.first + (n + c.args.argument)) []) c.skipped.ensures
    ∙ reads_used c.self.inside c.self.invariant c.args.self.now c.self.view_is c.args.place c.requires.place _ c.index-placed.ensures c.args.argument c.requires.argument
