use Rattle.std.proofs.Common.{◌≡◌, map, take}
use Rattle.netlist.specs.Description.{line_named}
use Rattle.netlist.specs.Statements.{used_by}
use Rattle.net_builder.specs.Reading.{statement_at}
use Rattle.net_builder.proofs.parts.lines_used.Given as goal
use Rattle.net_builder.specs.KnownNames.{known_names}

abbrev pub invariant-loop-argument : goal.invariant-loop-argument
invariant-loop-argument l =
    l.lines.items ≡ map (line_named (known_names l.names)) (take l.argument (used_by (statement_at l.raw l.place)))
