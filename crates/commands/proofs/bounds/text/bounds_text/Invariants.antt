use Rattle.std.proofs.Common.{◌≡◌}
use Rattle.commands.specs.BoundsText.{lines_of_first}
use Rattle.commands.proofs.bounds.text.bounds_text.Given as goal

-- the lines of the paths so far stand
abbrev pub invariant-loop-place : goal.invariant-loop-place
invariant-loop-place l = l.text.items ≡ lines_of_first l.bounds l.place
