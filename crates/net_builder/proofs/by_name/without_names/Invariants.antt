use Rattle.std.proofs.Common.{◌≡◌, take}
use Rattle.net_builder.specs.NameOrder.{lines_in}
use Rattle.net_builder.proofs.by_name.without_names.Given as goal

-- the lines before this one are listed
abbrev pub invariant-loop-line : goal.invariant-loop-line
invariant-loop-line l = l.lines.items ≡ lines_in (take l.line-index l.named)
