use Rattle.std.proofs.Common.{◌≡◌, take}
use Rattle.prefix_sensitize.specs.PathOrder.{rows_in}
use Rattle.prefix_sensitize.proofs.path_tree.rows_in.Given as goal

-- the rows before this one are listed
abbrev pub invariant-loop-row : goal.invariant-loop-row
invariant-loop-row l = l.rows.items ≡ rows_in (take l.row-index l.entries)
