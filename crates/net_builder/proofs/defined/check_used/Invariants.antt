use Rattle.std.proofs.Common.{take}
use Rattle.std.specs.List.{All, Contains}
use Rattle.netlist.specs.Description.{defined_names}
use Rattle.netlist.specs.Statements.{used_by}
use Rattle.net_builder.specs.Reading.{statement_at}
use Rattle.net_builder.proofs.defined.check_used.Given as goal

abbrev pub invariant-loop-argument : goal.invariant-loop-argument
invariant-loop-argument l =
    All (Contains (defined_names l.raw)) (take l.argument (used_by (statement_at l.raw l.place)))
