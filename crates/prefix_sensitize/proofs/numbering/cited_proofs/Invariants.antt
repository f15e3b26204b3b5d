use Rattle.std.proofs.Common.{take}
use Rattle.prefix_sensitize.proofs.Citing.{AreTaken}
use Rattle.prefix_sensitize.proofs.numbering.cited_proofs.Given as goal

-- those with the numbers so far were taken out
abbrev pub invariant-loop-index : goal.invariant-loop-index
invariant-loop-index l = AreTaken (take l.index-index l.cited) l.fn.found.items l.written.items l.left.items
