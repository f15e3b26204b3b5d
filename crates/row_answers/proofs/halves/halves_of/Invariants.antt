use Rattle.std.proofs.Common.{◌<◌, All}
use Rattle.netlist.specs.Circuit.{line_count}
use Rattle.row_answers.proofs.halves.halves_of.Given as goal

-- the halves so far are halves of lines
abbrev pub invariant-loop-word : goal.invariant-loop-word
invariant-loop-word l = All (λ half. half.split.line.0 < line_count l.net) l.halves.items
