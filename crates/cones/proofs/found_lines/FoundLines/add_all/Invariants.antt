use Rattle.std.proofs.Common.{take}
use Rattle.cones.specs.FoundLines.{FindsMore}
use Rattle.cones.proofs.found_lines.FoundLines.add_all.Given as goal

-- the lines before this one were found
abbrev pub invariant-loop-line : goal.invariant-loop-line
invariant-loop-line l = FindsMore (take l.line-index l.lines) l.initial.self l.self
