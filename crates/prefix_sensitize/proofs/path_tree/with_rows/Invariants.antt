use Rattle.std.proofs.Common.{◌≡◌, All}
use Rattle.std.specs.List.{range_with_len}
use Rattle.prefix_sensitize.specs.PathOrder.{IsEntry, rows_in}
use Rattle.prefix_sensitize.proofs.path_tree.with_rows.Given as goal

-- the paths before this one are listed
abbrev pub invariant-loop-row : goal.invariant-loop-row
invariant-loop-row l = record {
  entries : All (IsEntry l.paths) l.entries.items;
  rows : rows_in l.entries.items ≡ range_with_len 0 l.row;
}
