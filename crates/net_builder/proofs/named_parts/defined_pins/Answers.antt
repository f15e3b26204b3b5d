-- There are as many names as lines, and all that are used are defined.
use Rattle.std.proofs.Common.{map, ap, ◌∙◌, arith}
use Rattle.netlist.specs.Description.{gates, line_named}
use Rattle.net_builder.proofs.Assembly.{names_counted}
use Rattle.net_builder.proofs.Deep.{few_lines}
use Rattle.net_builder.proofs.named_parts.defined_pins.Goals as goal
use Rattle.net_builder.specs.KnownNames.{known_names}

pub pins_of-requires-clause-few : goal.pins_of-requires-clause-few
pins_of-requires-clause-few c =
    let st = c.args.raw.now in
    omega (arith, names_counted st (known_names c.args.names.now) c.requires.names, few_lines st c.requires.limits)

pub returns-clause-named : goal.returns-clause-named
returns-clause-named c = record {
  limits = c.requires.limits;
  distinct = c.requires.distinct;
  defined = c.in_ok-check_uses.ensures.defined;
}

pub returns-clause-pins : goal.returns-clause-pins
returns-clause-pins c =
    c.in_ok-pins.ensures ∙ ap (λ names. map (λ gate. map (line_named names) gate.arguments) (gates c.args.raw.now)) c.requires.names
