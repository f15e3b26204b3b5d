-- The names are few and lawful.
use Rattle.std.proofs.Common.{map, sym, ap, subst, ◌∙◌, arith}
use Rattle.std.specs.List.{All}
use Rattle.netlist.specs.Description.{flop_on, flops}
use Rattle.netlist.specs.Names.{IsName}
use Rattle.net_builder.proofs.Assembly.{names_counted}
use Rattle.net_builder.proofs.Circuits.{names_are}
use Rattle.net_builder.proofs.Deep.{few_lines}
use Rattle.net_builder.proofs.named_lines.unsorted_lines.Goals as goal
use Rattle.net_builder.specs.KnownNames.{known_names}

pub flops_of-requires : goal.flops_of-requires
flops_of-requires c =
    let st = c.args.raw.now in
    omega (arith, names_counted st (known_names c.args.names.now) c.requires.names, few_lines st c.requires.named.limits)

pub flat_names-requires-clause-few : goal.flat_names-requires-clause-few
flat_names-requires-clause-few c =
    let st = c.args.raw.now in
    omega (arith, names_counted st (known_names c.args.names.now) c.requires.names, few_lines st c.requires.named.limits)

pub flat_names-requires-clause-names : goal.flat_names-requires-clause-names
flat_names-requires-clause-names c =
    subst (All IsName) (sym c.requires.names) (names_are c.args.raw.now c.requires.named c.requires.lawful)

pub returns-clause-names : goal.returns-clause-names
returns-clause-names c = c.in_ok-names.ensures ∙ c.requires.names

pub returns-clause-flops : goal.returns-clause-flops
returns-clause-flops c =
    c.in_ok-flops.ensures ∙ ap (λ names. map (flop_on names) (flops c.args.raw.now)) c.requires.names
