use Rattle.std.proofs.Common.{take}
use Rattle.std.specs.List.{All}
use Rattle.implication.specs.Standing.{IsTold}
use Rattle.implication.proofs.engine.Engine.tells_all.Given as goal

-- the lines before this one are told
abbrev pub invariant-loop-line : goal.invariant-loop-line
invariant-loop-line g l = All (λ line. IsTold l.self line.0) (take l.line-index l.lines)
