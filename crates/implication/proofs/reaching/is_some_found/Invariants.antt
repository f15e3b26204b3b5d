use Rattle.std.proofs.Common.{take}
use Rattle.std.specs.List.{All}
use Rattle.cones.specs.FoundLines.{HasMark}
use Rattle.implication.proofs.reaching.is_some_found.Given as goal

-- the lines before this one have no marks
abbrev pub invariant-loop-line : goal.invariant-loop-line
invariant-loop-line l = All (λ line. ¬ HasMark l.marks line.0) (take l.line-index l.lines)
