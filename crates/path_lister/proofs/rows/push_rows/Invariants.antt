use Rattle.std.proofs.Common.{take}
use Rattle.path_lister.specs.Rows.{AreRows}
use Rattle.path_lister.proofs.rows.push_rows.Given as goal

-- the lines before this one have their rows
abbrev pub invariant-loop-line : goal.invariant-loop-line
invariant-loop-line l = AreRows l.net (take l.line-index l.lines) l.firsts.items l.pins.items
